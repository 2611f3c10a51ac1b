use Rattle.std.proofs.Common.{refl, sym, ◌∙◌}
use Rattle.cmm_client.specs.Stops.{state_of}
use Rattle.cmm_run.specs.declared.machine.Machine.{Machine}
use Rattle.cmm_run.proofs.Turning.{asks_of, asks_turn, at_outcome, outcome_in, trap_of, trap_turn, turns_without}
use Rattle.cmm_run.proofs.running.turn.Goals as goal

pub returns-in-Trap-clause-turns : goal.returns-in-Trap-clause-turns
returns-in-Trap-clause-turns g c =
    let l = c.args.loaded.now in
    let machine = c.args.machine.now in
    let next : Machine = record { program = machine.program; waiting = c.close.new.self; input_ended = machine.input_ended } in
    let trap = trap_of (state_of machine.program).pc c.in-Trap.trap (outcome_in machine.program) (sym c.requires.event ∙ c.in-Trap.is) in
    turns_without l _ _ _ next _ _ refl refl (λ start run left at _.
    trap_turn g.O.Sink.taken g.O.Sink.faults c.args.out.now c.close.new.out l start _ _ machine next left run at refl refl refl c.close.result
    c.in-Trap.trap (at_outcome l machine start _ left run c.requires.map at ∙ trap.0) trap.1 c.close.ensures)

pub returns-in-Asks-clause-turns : goal.returns-in-Asks-clause-turns
returns-in-Asks-clause-turns g c =
    let machine = c.args.machine.now in
    asks_turn c.args.loaded.now _ _ machine c.answer.new.machine c.answer.result c.in-Asks.request c.requires.map
    (asks_of (state_of machine.program).pc (outcome_in machine.program) c.in-Asks.request (sym c.requires.event ∙ c.in-Asks.is)) c.answer.ensures.turns
