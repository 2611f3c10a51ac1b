use Rattle.std.proofs.Common.{sym, ap, ◌∙◌}
use Rattle.cmm_program.specs.Commands.{number_given, poking}
use Rattle.cmm_program.specs.Errors.{and_then}
use Rattle.cmm_image_machine.specs.Machine.{askable}
use Rattle.rv_memory.specs.States as states
use Rattle.cmm_client.specs.Stops.{region_of, state_of}
use Rattle.cmm_client.specs.inside.Replies.{meant}
use Rattle.cmm_client.proofs.Forms.{poked_from}
use Rattle.cmm_client.proofs.Numbers.{given_ok}
use Rattle.cmm_client.proofs.changing.poke_label.Goals as goal

pub returns-clause-asked : goal.returns-clause-asked
returns-clause-asked c cursor =
    let i = c.args.i.now in
    let stopped = c.args.stopped.now in
    let r = region_of stopped in
    let s = state_of stopped in
    let thread = c.at_cursor_mut-thread.result.now in
    let after = states.state_of thread.regs c.poke.new.m in
    let value = given_ok (number_given c.args.yielded.now c.args.value) c.in_ok-value.value (sym c.number_given.ensures ∙ c.in_ok-value.was) in
    (λ j. and_then (value j) (λ v. poking (askable i r) cursor s c.args.label.now c.args.offset v))
    ∙ poked_from i cursor stopped thread c.at_cursor_mut-thread.ensures.value after c.poke.result c.args.label.now c.args.offset c.in_ok-value.value c.requires (c.poke.ensures.pokes thread.regs cursor)
    ∙ ap (meant i r cursor after) (sym c.and.ensures)
