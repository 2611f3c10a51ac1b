use Rattle.std.proofs.Common.{◌∙◌, refl, arith}
use Rattle.cmm_effects.proofs.Shared.{adds_none, adds_then, adds_weaker}
use Rattle.cmm_select.proofs.Ranging.{next_span, no_spans}
use Rattle.cmm_select.proofs.searching.branch_in_spans.Goals as goal

pub loop-span-init : goal.loop-span-init
loop-span-init c = (adds_weaker (adds_none c.args.asm.now.parts) (omega arith) (λ x from on is. no_spans x from on is), refl)

pub loop-span-preserved : goal.loop-span-preserved
loop-span-preserved c =
    let i = c.loop-span.span-index in (
      adds_weaker (adds_then c.loop-span.invariant.0 c.in_ok-branch_in_span.ensures.goes) (omega arith)
          (λ x from on does. next_span x from on i c.args.spans.now (record { from = 0; to = 0; label = record { number = 0 } }) c.loop-span-test.true does),
      c.in_ok-branch_in_span.ensures.labels ∙ c.loop-span.invariant.1,
    )
