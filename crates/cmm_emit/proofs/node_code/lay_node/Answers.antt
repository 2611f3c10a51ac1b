use Rattle.std.proofs.Common.{sym, refl, arith, false}
use Rattle.std.proofs.lemmas.Bool.Decides.{nat_tests}
use Rattle.cmm_effects.proofs.Shared.{adds_then, adds_weaker}
use Rattle.cmm_emit.proofs.NodeLabels.{laid_made, laid_with, ready_made, ready_with}
use Rattle.cmm_emit.proofs.Leading.{falls_within, jump_fits, leads_nowhere, leads_on}
use Rattle.cmm_emit.proofs.NodeSites.{site_stays}
use Rattle.cmm_emit.proofs.node_code.lay_node.Goals as goal

pub lead_on-requires-clause-ready : goal.lead_on-requires-clause-ready
lead_on-requires-clause-ready c =
    ready_made c.args.context.now _ _ c.body.new.asm.labels c.in_ok-body.ensures.labels c.args.targets.now
    (ready_with c.args.asm.now.labels c.args.context.now c.args.targets.now c.args.kind.now c.requires.waits c.requires.ready)

pub lead_on-requires-clause-laid : goal.lead_on-requires-clause-laid
lead_on-requires-clause-laid c =
    laid_made c.args.context.now _ _ c.body.new.asm.labels c.in_ok-body.ensures.labels c.args.placed.now
    (laid_with c.args.asm.now.labels c.args.context.now c.args.targets.now c.args.kind.now c.requires.waits c.args.placed.now c.requires.kind c.requires.sites c.requires.laid)

pub lead_on-requires-clause-node : goal.lead_on-requires-clause-node
lead_on-requires-clause-node c =
    grind (arith, nat_tests, falls_within c.args.context.now c.args.targets.now c.args.kind.now c.in-Some.next c.requires.kind (sym c.in-Some.ensures))

pub returns-in_ok-there-in-Some-clause-code : goal.returns-in_ok-there-in-Some-clause-code
returns-in_ok-there-in-Some-clause-code c =
    let p = c.args.context.now in
    let kind = c.args.kind.now in
    let next = c.in-Some.next in
    adds_weaker (adds_then c.in_ok-body.ensures.code c.in_ok-there-in-Some.ensures.goes) (jump_fits p c.args.targets.now kind next c.requires.kind (sym c.in-Some.ensures))
    (λ x from to does. leads_on p c.args.targets.now kind x from does.0 to next (sym c.in-Some.ensures) (falls_within p c.args.targets.now kind next c.requires.kind (sym c.in-Some.ensures)) does.1 does.2)

pub returns-in_ok-there-in-Some-clause-labels : goal.returns-in_ok-there-in-Some-clause-labels
returns-in_ok-there-in-Some-clause-labels c = (c.body.new.asm.labels, c.in_ok-body.ensures.labels, c.in_ok-there-in-Some.ensures.labels)

pub returns-in-None-clause-ready : goal.returns-in-None-clause-ready
returns-in-None-clause-ready c =
    ready_made c.args.context.now _ _ c.body.new.asm.labels c.in_ok-body.ensures.labels c.args.targets.now (ready_with c.args.asm.now.labels c.args.context.now c.args.targets.now c.args.kind.now c.requires.waits c.requires.ready)

pub returns-in-None-clause-laid : goal.returns-in-None-clause-laid
returns-in-None-clause-laid c =
    laid_made c.args.context.now _ _ c.body.new.asm.labels c.in_ok-body.ensures.labels c.args.placed.now
    (laid_with c.args.asm.now.labels c.args.context.now c.args.targets.now c.args.kind.now c.requires.waits c.args.placed.now c.requires.kind c.requires.sites c.requires.laid)

pub returns-in-None-clause-code : goal.returns-in-None-clause-code
returns-in-None-clause-code c =
    adds_weaker c.in_ok-body.ensures.code (omega arith)
    (λ x from to does. leads_nowhere c.args.context.now c.args.targets.now c.args.kind.now x from from to (sym c.in-None.ensures) does)

pub returns-in-None-clause-labels : goal.returns-in-None-clause-labels
returns-in-None-clause-labels c = (c.body.new.asm.labels, c.in_ok-body.ensures.labels, refl)

pub returns-in_ok-there-in-Some-clause-stands : goal.returns-in_ok-there-in-Some-clause-stands
returns-in_ok-there-in-Some-clause-stands c =
    site_stays false c.args.context.now c.args.kind.now c.in_ok-body.ensures.stands c.in_ok-there-in-Some.ensures.goes.appends
