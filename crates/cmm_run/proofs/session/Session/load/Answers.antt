use Rattle.std.proofs.Common.{◌≡◌, Option, None, false, ap, refl, sym, ◌∙◌, subst}
use Rattle.rv_memory.specs.Regions.{region_of}
use Rattle.rv_table.specs.Machine.{start}
use Rattle.cmm_image.specs.declared.parts.ImageParts.{ImageParts}
use Rattle.cmm_image_machine.specs.Changes.{at_pc}
use Rattle.cmm_image_machine.specs.Machine.{Launch}
use Rattle.cmm_run.specs.declared.machine.Machine.{Machine}
use Rattle.cmm_run.specs.declared.outcome.Outcome.{Outcome}
use Rattle.cmm_run.specs.inside.Loading.{IsOfRun, IsReady}
use Rattle.cmm_run.proofs.FirstMemory.{is_ready}
use Rattle.cmm_image.proofs.Shared.{rows_are_bounded}
use Rattle.cmm_run.proofs.session.Session.load.Goals as goal

pub invariant_of-result : goal.invariant_of-result
invariant_of-result c =
    let l : Launch = record { image = c.args.image; script = c.args.script; stack_size = c.args.limits.stack } in
    let regs = c.first_registers-regs.result in
    let memory = c.in_ok-memory.memory in
    let machine : Machine = record { program = c.new-4.result; waiting = c.in_ok-waiting.waiting; input_ended = false } in
    subst (λ (launch : Launch). IsOfRun launch machine.program × (◌≡◌ {A = Option Outcome} None None → IsReady launch machine)) (sym c.new-3.ensures)
    (let ready = is_ready l machine regs memory c.new-4.ensures (rows_are_bounded l.image c.parts.ensures.kept).initial
    (λ bytes. c.first_registers-regs.ensures bytes ∙ ap (λ (i : ImageParts). at_pc i.start (start (region_of memory) bytes)) c.parts.ensures.same)
    c.in_ok-memory.ensures c.in_ok-waiting.ensures refl in
    (record { map = ready.map; region = ready.region; aligned = c.requires.aligned }, λ _. ready))
