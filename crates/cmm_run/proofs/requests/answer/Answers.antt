use Rattle.std.proofs.Common.{refl, ap, ◌∙◌, subst}
use Rattle.cmm_client.specs.Stops.{state_of}
use Rattle.rv_table.specs.Machine.{Asks}
use Rattle.cmm_run.specs.declared.machine.Machine.{Machine}
use Rattle.cmm_run.specs.Outside.{Outside, outside_of}
use Rattle.cmm_run.specs.inside.Turns.{IsAt}
use Rattle.cmm_abi.specs.Regions.{Region}
use Rattle.cmm_client.specs.Yields.{at_yield}
use Rattle.cmm_run.specs.inside.Yields.{AnswersWith}
use Rattle.cmm_run.proofs.AtYields.{yield_turn}
use Rattle.cmm_run.proofs.Turning.{end_turn, limit_turn, put_turn, take_turn, turns_without, write_fails, written_at}
use Rattle.cmm_run.proofs.requests.answer.Goals as goal

pub returns-in-Ok-clause-turns : goal.returns-in-Ok-clause-turns
returns-in-Ok-clause-turns g c =
    let machine = c.args.machine.now in
    let next : Machine = record { program = c.go_on.new.program; waiting = c.put.new.self; input_ended = machine.input_ended } in
    turns_without c.args.loaded.now _ _ _ next _ _ refl refl (λ start run left at asks.
    put_turn c.args.loaded.now start _ _ machine next left run c.in-PutByte.byte at (asks ∙ ap Asks c.in-PutByte.is) c.go_on.ensures.state c.in-Ok.ensures.ok refl)

pub returns-in-Err-clause-turns : goal.returns-in-Err-clause-turns
returns-in-Err-clause-turns g c =
    turns_without c.args.loaded.now _ _ _ _ _ _ refl refl (λ start run left at asks. write_fails c.args.loaded.now start _ _ c.args.machine.now left run at c.in-Err.ensures.err refl)

pub returns-in-Ok-flush-clause-turns : goal.returns-in-Ok-flush-clause-turns
returns-in-Ok-flush-clause-turns g c =
    let machine = c.args.machine.now in
    let flushed : Machine = record { program = machine.program; waiting = c.flush.new.self; input_ended = machine.input_ended } in
    let mid : Outside =
    outside_of g.I.Source.left g.I.Source.faults g.O.Sink.taken g.O.Sink.faults g.E.Sink.taken g.E.Sink.faults c.args.input.now c.flush.new.out c.args.log.now in
    let asked = c.get_byte.ensures.asked in record {
      bytes = asked.bytes;
      taken = asked.taken;
      turns = λ start run rest may at asks.
          let here : IsAt flushed start mid _ run = written_at start _ mid machine flushed _ run at refl c.flush.ensures.empty c.in-Ok-flush.ensures.writes.ok refl in
          take_turn c.args.loaded.now start mid _ flushed c.get_byte.new.machine asked.bytes rest run here c.flush.ensures.empty (asks ∙ ap Asks c.in-GetByte.is)
          c.get_byte.ensures.waiting refl refl c.get_byte.result (asked.takes rest may);
    }

pub returns-in-Err-flush-clause-turns : goal.returns-in-Err-flush-clause-turns
returns-in-Err-flush-clause-turns g c =
    turns_without c.args.loaded.now _ _ _ _ _ _ refl refl (λ start run left at asks.
    write_fails c.args.loaded.now start _ _ c.args.machine.now left run at c.in-Err-flush.ensures.writes.err refl)

pub returns-in-Ok-flush-2-clause-turns : goal.returns-in-Ok-flush-2-clause-turns
returns-in-Ok-flush-2-clause-turns g c =
    let l = c.args.loaded.now in
    let machine = c.args.machine.now in
    let flushed : Machine = record { program = machine.program; waiting = c.flush-in-Yield.new.self; input_ended = machine.input_ended } in
    let s = state_of c.go_on-in-Ok-flush-2.new.program in
    let mid : Outside =
    outside_of g.I.Source.left g.I.Source.faults g.O.Sink.taken g.O.Sink.faults g.E.Sink.taken g.E.Sink.faults c.args.input.now c.flush-in-Yield.new.out c.args.log.now in
    turns_without l _ _ _ c.yields.new.machine _ _ refl c.yields.ensures.input (λ start run left at asks.
    let here : IsAt flushed start mid left run = written_at start _ mid machine flushed left run at refl c.flush-in-Yield.ensures.empty c.in-Ok-flush-2.ensures.writes.ok refl in
    yield_turn g.E.Sink.taken g.E.Sink.faults c.args.log.now c.yields.new.log l start mid _ flushed c.yields.new.machine left run here c.flush-in-Yield.ensures.empty
    (c.yields.ensures.waiting ∙ c.flush-in-Yield.ensures.empty) refl refl refl s c.yields.result (asks ∙ ap Asks c.in-Yield.is)
    c.go_on-in-Ok-flush-2.ensures.state
    (subst (λ (q : Region). AnswersWith (at_yield l.image q l.script s) (state_of c.yields.new.machine.program) g.E.Sink.taken g.E.Sink.faults c.args.log.now c.yields.new.log c.yields.result)
    (c.go_on-in-Ok-flush-2.ensures.region ∙ c.requires.region) c.yields.ensures.answers))

pub returns-in-Err-flush-2-clause-turns : goal.returns-in-Err-flush-2-clause-turns
returns-in-Err-flush-2-clause-turns g c =
    turns_without c.args.loaded.now _ _ _ _ _ _ refl refl (λ start run left at asks.
    write_fails c.args.loaded.now start _ _ c.args.machine.now left run at c.in-Err-flush-2.ensures.writes.err refl)

pub returns-in-StackLimit-clause-turns : goal.returns-in-StackLimit-clause-turns
returns-in-StackLimit-clause-turns g c =
    let machine = c.args.machine.now in
    let next : Machine = record { program = machine.program; waiting = c.close.new.self; input_ended = machine.input_ended } in
    turns_without c.args.loaded.now _ _ _ next _ _ refl refl (λ start run left at asks.
    limit_turn g.O.Sink.taken g.O.Sink.faults c.args.out.now c.close.new.out c.args.loaded.now start _ _ machine next left run at refl refl refl c.close.result
    (asks ∙ ap Asks c.in-StackLimit.is) c.close.ensures)

pub returns-in-End-clause-turns : goal.returns-in-End-clause-turns
returns-in-End-clause-turns g c =
    let machine = c.args.machine.now in
    let next : Machine = record { program = machine.program; waiting = c.close-in-End.new.self; input_ended = machine.input_ended } in
    turns_without c.args.loaded.now _ _ _ next _ _ refl refl (λ start run left at asks.
    end_turn g.O.Sink.taken g.O.Sink.faults c.args.out.now c.close-in-End.new.out c.args.loaded.now start _ _ machine next left run at refl refl refl
    c.close-in-End.result c.in-End.value (asks ∙ ap Asks c.in-End.is) c.close-in-End.ensures)
