use Rattle.std.proofs.Common.{arith}
use Rattle.cmm_effects.proofs.Shared.{adds_then, adds_weaker, by_last}
use Rattle.cmm_emit.proofs.Calls.{yield_codes}
use Rattle.cmm_emit.proofs.NodeLabels.{ready_kept}
use Rattle.rv_asm.proofs.Shared.{kept_placed}
use Rattle.cmm_emit.specs.Naming.{site_label}
use Rattle.rv_asm.proofs.Shared.{behind_words}
use Rattle.cmm_emit.proofs.yielding.yield_body.Goals as goal

pub lead_back-requires-clause-ready : goal.lead_back-requires-clause-ready
lead_back-requires-clause-ready c =
    let p = c.args.context.now in
    let labels = c.args.asm.now.labels in
    rw c.in_ok-yield_values.ensures.labels (ready_kept (kept_placed labels (site_label p c.args.site).number c.requires.waits) p c.args.targets.now c.requires.ready)

pub returns-clause-code : goal.returns-clause-code
returns-clause-code c =
    by_last c.lead_back.result c.lead_back.ensures.leads
    (λ h.
    adds_weaker (adds_then c.in_ok-yield_values.ensures.code h) (omega arith)
    (λ x from to does. yield_codes c.args.context.now c.args.targets.now x from does.0 to c.args.site c.args.values.now c.args.exits.now c.requires.yields does.1 does.2))

pub returns-clause-behind : goal.returns-clause-behind
returns-clause-behind c =
    by_last c.lead_back.result c.lead_back.ensures.words
    (λ h.
    behind_words c.in_ok-yield_values.ensures.behind h)
