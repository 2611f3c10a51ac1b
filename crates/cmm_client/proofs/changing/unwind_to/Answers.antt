use Rattle.std.proofs.Common.{length, take, sym, ap, ◌∙◌}
use Rattle.std.specs.Option.{option_map}
use Rattle.rv_memory.specs.States as states
use Rattle.cmm_client.specs.Stops.{cursor_of, region_of, state_of}
use Rattle.cmm_program.specs.Errors.{and_then}
use Rattle.cmm_image_machine.specs.Machine.{askable}
use Rattle.cmm_client.specs.inside.Replies.{meant}
use Rattle.cmm_program.specs.Commands.{at_cursor, numbers_given, unwinding}
use Rattle.cmm_walk.specs.Activations.{element_of}
use Rattle.cmm_client.proofs.Forms.{left_from, unwinds}
use Rattle.cmm_client.proofs.Numbers.{cursor_is, numbers_were}
use Rattle.cmm_client.proofs.changing.unwind_to.Goals as goal

pub returns-clause-asked : goal.returns-clause-asked
returns-clause-asked c =
    let i = c.args.i.now in
    let stopped = c.args.stopped.now in
    let r = region_of stopped in
    let s = state_of stopped in
    let cursor = cursor_of i c.args.cursor in
    let e = element_of i c.in_ok-a.a in
    let after = states.state_of c.resume_unwind-resumed.new.r c.resume_unwind-resumed.new.m in
    let count = length c.args.values.now in
    let vs = take count c.in_ok-numbers.numbers in
    let values = numbers_were (numbers_given c.args.yielded.now c.args.values.now) count c.numbers_given.result c.in_ok-numbers.numbers c.numbers_given.ensures c.in_ok-numbers.was in
    let here = cursor_is c.args.cursor c.in_ok-a.a c.activation_at.result c.activation_at.ensures c.in_ok-a.was in
    (λ j. and_then (values j) (λ vs. at_cursor (record { activation = option_map (element_of i) (here j) }) (λ a. unwinding (askable i r) s a c.args.exit vs)))
    ∙ left_from i cursor stopped c.running_mut-thread.result.now c.running_mut-thread.ensures.value after c.resume_unwind-resumed.result (λ r s. unwinding (askable i r) s e c.args.exit vs)
    (unwinds (askable i r) s e c.args.exit vs) c.resume_unwind-resumed.ensures.unwinds
    ∙ ap (meant i r cursor after) (sym c.and.ensures)
