use Rattle.std.proofs.Common.{length, take, sym, ap, ◌∙◌}
use Rattle.rv_memory.specs.States as states
use Rattle.cmm_client.specs.Stops.{region_of, state_of}
use Rattle.cmm_program.specs.Errors.{and_then}
use Rattle.cmm_image_machine.specs.Machine.{askable}
use Rattle.cmm_client.specs.inside.Replies.{meant}
use Rattle.cmm_program.specs.Commands.{numbers_given, returning}
use Rattle.cmm_client.proofs.Forms.{left_from, returns}
use Rattle.cmm_client.proofs.Numbers.{numbers_were}
use Rattle.cmm_client.proofs.changing.return_to.Goals as goal

pub returns-clause-asked : goal.returns-clause-asked
returns-clause-asked c cursor =
    let i = c.args.i.now in
    let stopped = c.args.stopped.now in
    let r = region_of stopped in
    let s = state_of stopped in
    let after = states.state_of c.resume_return.new.r c.resume_return.new.m in
    let count = length c.args.values.now in
    let vs = take count c.in_ok-numbers.numbers in
    let values = numbers_were (numbers_given c.args.yielded.now c.args.values.now) count c.numbers_given.result c.in_ok-numbers.numbers c.numbers_given.ensures c.in_ok-numbers.was in
    (λ j. and_then (values j) (λ vs. returning (askable i r) s c.args.exit vs))
    ∙ left_from i cursor stopped c.running_mut-thread.result.now c.running_mut-thread.ensures.value after c.resume_return.result (λ r s. returning (askable i r) s c.args.exit vs)
    (returns (askable i r) s c.args.exit vs) c.resume_return.ensures.returns
    ∙ ap (meant i r cursor after) (sym c.and.ensures)
