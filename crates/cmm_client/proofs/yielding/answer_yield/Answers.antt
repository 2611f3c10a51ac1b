use Rattle.std.proofs.Common.{◌≡◌, Ok, IfOk, take, ap, sym, subst, ◌∙◌}
use Rattle.rv_table.specs.Machine.{State}
use Rattle.cmm_abi.specs.Regions.{values_in}
use Rattle.cmm_outside.specs.Output.{WritesAll}
use Rattle.cmm_program.specs.Commands.{Answer}
use Rattle.rv_memory.specs.Regions as regions
use Rattle.rv_memory.specs.States as states
use Rattle.cmm_image_machine.specs.Frames.{first_point, found_at}
use Rattle.cmm_walk.specs.Walking.{found_by}
use Rattle.cmm_client.specs.declared.stopped.Thread.{Thread}
use Rattle.cmm_client.specs.Stops.{region_of, state_of}
use Rattle.cmm_client.specs.Yields.{IsLeft}
use Rattle.cmm_client.proofs.YieldLaws.{yield_is}
use Rattle.cmm_client.proofs.YieldValues.{values_are}
use Rattle.cmm_client.proofs.yielding.answer_yield.Goals as goal

pub returns-clause-writes : goal.returns-clause-writes
returns-clause-writes g c =
    let i = c.args.i.now in
    let r = region_of c.args.stopped.now in
    let s = state_of c.args.stopped.now in
    let count = c.yield_count-count.result in
    let values = take count c.values_of-values.result in
    let are = values_are r s c.values_of-values.result count c.values_of-values.ensures.count c.yield_count-count.ensures.few c.values_of-values.ensures.each ∙ ap (values_in r s) c.yield_count-count.ensures.count in
    let found = subst (λ (t : Thread). found_by i (Ok c.in-Ok.first) ≡ found_at i (regions.region_of t.memory) (first_point (states.state_of t.regs t.memory))) c.running-thread.ensures c.in-Ok.ensures.found in
    subst (λ (a : Answer State State). WritesAll g.E.Sink.taken g.E.Sink.faults c.args.log.now c.answer_values.new.log a.text c.answer_values.result)
    (sym (yield_is i c.youngest.ensures.kept r c.args.script.now s c.in-Ok.first values found are)) c.answer_values.ensures.writes

pub returns-clause-left : goal.returns-clause-left
returns-clause-left g c =
    let i = c.args.i.now in
    let r = region_of c.args.stopped.now in
    let s = state_of c.args.stopped.now in
    let count = c.yield_count-count.result in
    let values = take count c.values_of-values.result in
    let are = values_are r s c.values_of-values.result count c.values_of-values.ensures.count c.yield_count-count.ensures.few c.values_of-values.ensures.each ∙ ap (values_in r s) c.yield_count-count.ensures.count in
    let found = subst (λ (t : Thread). found_by i (Ok c.in-Ok.first) ≡ found_at i (regions.region_of t.memory) (first_point (states.state_of t.regs t.memory))) c.running-thread.ensures c.in-Ok.ensures.found in
    subst (λ (a : Answer State State). IfOk c.answer_values.result (λ left. IsLeft a.left left (state_of c.answer_values.new.stopped)))
    (sym (yield_is i c.youngest.ensures.kept r c.args.script.now s c.in-Ok.first values found are)) c.answer_values.ensures.left
