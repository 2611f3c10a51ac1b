use Rattle.std.proofs.Common.{◌≡◌, ℕ, Some, ap, refl, sym, ◌∙◌, subst, arith}
use Rattle.rv_memory.specs.Regions.{map_of}
use Rattle.rv_sim.specs.Standing.{IsTableOf}
use Rattle.rv_sim.specs.Stepping.{event_of, outcome_of, state_of}
use Rattle.rv_table.specs.Machine.{MemoryMap, steps}
use Rattle.rv_sim.proofs.Counting.{one_more}
use Rattle.rv_sim.proofs.running.run.Goals as goal

pub loop-done-init : goal.loop-done-init
loop-done-init c = record { runs = refl; map = refl; region = refl; zero = refl }

pub turn-requires : goal.turn-requires
turn-requires c = subst (λ (m : MemoryMap). IsTableOf m.code c.args.table.now) (sym c.loop-done.invariant.map) c.requires

pub returns-in_default : goal.returns-in_default
returns-in_default c =
    let r = sym (c.turn.ensures.registers_kept c.in_default.not-Next) in
    let m = sym (c.turn.ensures.memory_kept c.in_default.not-Next) in record {
      done = c.loop-done.invariant.runs ∙ (λ i. Some (state_of (r i) (m i)));
      event = λ _. c.turn.ensures.event ∙ (λ i. event_of (r i).pc (outcome_of (r i) (m i)));
      below = λ _. c.loop-done-test.true;
      limit = λ is. absurd (c.in_default.not-Next is);
      room = c.turn.ensures.room;
      map = c.turn.ensures.map ∙ c.loop-done.invariant.map;
      region = c.turn.ensures.region ∙ c.loop-done.invariant.region;
      zero = c.turn.ensures.zero ∙ c.loop-done.invariant.zero;
    }

pub loop-done-preserved : goal.loop-done-preserved
loop-done-preserved c = record {
  runs = one_more (map_of c.args.m.now) c.loop-done.done (state_of c.args.r.now c.args.m.now) c.loop-done.r c.turn.new.r c.loop-done.m c.turn.new.m c.turn.result
      c.loop-done.invariant.map c.loop-done.invariant.runs c.turn.ensures.event c.in-Next.is c.turn.ensures.state;
  map = c.turn.ensures.map ∙ c.loop-done.invariant.map;
  region = c.turn.ensures.region ∙ c.loop-done.invariant.region;
  zero = c.turn.ensures.zero ∙ c.loop-done.invariant.zero;
}

pub returns-clause-done : goal.returns-clause-done
returns-clause-done c =
    let all : c.loop-done.done ≡ c.args.steps = omega (arith, c.loop-done.auto.done-end, c.loop-done-test.false) in
    ap (λ (n : ℕ). steps (map_of c.args.m.now) n (state_of c.args.r.now c.args.m.now)) (sym all) ∙ c.loop-done.invariant.runs

pub returns-clause-map : goal.returns-clause-map
returns-clause-map c = c.loop-done.invariant.map

pub returns-clause-region : goal.returns-clause-region
returns-clause-region c = c.loop-done.invariant.region

pub returns-clause-zero : goal.returns-clause-zero
returns-clause-zero c = c.loop-done.invariant.zero
