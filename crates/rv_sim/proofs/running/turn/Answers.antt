use Rattle.std.proofs.Common.{◌≡◌, Err, ap, sym, ◌∙◌}
use Rattle.rv_memory.specs.Regions.{map_of}
use Rattle.rv_sim.specs.Standing.{found_at}
use Rattle.rv_sim.specs.Stepping.{state_of, event_of}
use Rattle.rv_sim.proofs.States.{step_missing}
use Rattle.rv_sim.proofs.running.turn.Goals as goal

pub returns-in-Err-clause-event : goal.returns-in-Err-clause-event
returns-in-Err-clause-event c =
    let code = (map_of c.args.m.now).code in
    let pc = c.args.r.now.pc in
    let found : found_at code pc ≡ Err c.in-Err.kind = sym (c.at.ensures.found code c.requires) ∙ c.in-Err.is in
    sym (ap (event_of pc) (step_missing (map_of c.args.m.now) (state_of c.args.r.now c.args.m.now) c.in-Err.kind found))
