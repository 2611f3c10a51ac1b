use Rattle.std.proofs.Common.{◌≡◌, ◌+◌, ◌<◌, refl, subst, ◌∙◌, arith}
use Rattle.cmm_client.specs.Stops.{state_of}
use Rattle.cmm_run.proofs.Through.{has_run_through}
use Rattle.cmm_run.proofs.WholeRuns.{HasRun, has_begun, has_run_more, run_limited, run_over}
use Rattle.cmm_run.proofs.running.run.Goals as goal

pub loop-done-init : goal.loop-done-init
loop-done-init g c = record {
  map = c.requires.map;
  region = c.requires.region;
  within = omega arith;
  run = has_begun c.args.loaded.now _ c.args.machine.now c.requires;
}

pub returns-in-Some-clause-runs : goal.returns-in-Some-clause-runs
returns-in-Some-clause-runs g c =
    let ran = c.advance-ran in
    let count = c.loop-done.done + ran.result.done in
    let below : count < c.args.steps = omega (arith, ran.ensures.below c.in_default.not-Next) in
    run_over c.args.loaded.now _ _ _ ran.new.machine c.turn.new.machine count c.args.steps c.in-Some.outcome c.turn.result c.in-Some.is below
    (has_run_through c.args.loaded.now _ _ c.loop-done.machine ran.new.machine c.loop-done.done ran.result.done c.loop-done.invariant.run c.loop-done.invariant.map
    ran.ensures.done ran.ensures.waiting ran.ensures.input)
    c.turn.ensures.fails c.turn.ensures.turns

pub loop-done-preserved : goal.loop-done-preserved
loop-done-preserved g c =
    let ran = c.advance-ran in record {
      map = c.turn.ensures.map;
      region = c.turn.ensures.region;
      within = omega (arith, ran.ensures.below c.in_default.not-Next);
      run = has_run_more c.args.loaded.now _ _ _ ran.new.machine c.turn.new.machine (c.loop-done.done + ran.result.done) c.turn.result c.in_default-turn.is
          (has_run_through c.args.loaded.now _ _ c.loop-done.machine ran.new.machine c.loop-done.done ran.result.done c.loop-done.invariant.run
          c.loop-done.invariant.map ran.ensures.done ran.ensures.waiting ran.ensures.input)
          c.turn.ensures.fails c.turn.ensures.turns;
    }

pub loop-done-preserved-in-Next : goal.loop-done-preserved-in-Next
loop-done-preserved-in-Next g c =
    let ran = c.advance-ran in record {
      map = ran.ensures.map ∙ c.loop-done.invariant.map;
      region = ran.ensures.region ∙ c.loop-done.invariant.region;
      within = omega (arith, ran.ensures.limit c.in-Next.is);
      run = has_run_through c.args.loaded.now _ _ c.loop-done.machine ran.new.machine c.loop-done.done ran.result.done c.loop-done.invariant.run
          c.loop-done.invariant.map ran.ensures.done ran.ensures.waiting ran.ensures.input;
    }

pub returns-clause-runs : goal.returns-clause-runs
returns-clause-runs g c =
    let all : c.loop-done.done ≡ c.args.steps = omega (arith, c.loop-done.invariant.within, c.loop-done-test.false) in
    run_limited g.O.Sink.taken g.O.Sink.faults c.loop-done.out c.close.new.out c.args.loaded.now _ _ _ c.loop-done.machine c.args.steps
    (subst (HasRun c.args.loaded.now _ _ c.loop-done.machine) all c.loop-done.invariant.run) refl refl refl refl (state_of c.loop-done.machine.program) refl refl refl refl c.close.result
    c.close.ensures
