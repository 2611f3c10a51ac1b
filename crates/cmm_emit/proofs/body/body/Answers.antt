use Rattle.std.proofs.Common.{arith, refl, Result, Ok, Err}
use Rattle.std.specs.Result.{OnOk}
use Rattle.cmm_effects.proofs.Shared.{adds_none, adds_weaker, by_last}
use Rattle.cmm_emit.proofs.NodeLabels.{makes_same}
use Rattle.cmm_emit.proofs.body.body.Goals as goal

-- what holds anyway holds where there is a value
always : {A E : Type 0} (r : Result A E) {P : Type 0} → P → OnOk r P
always (Ok x) p = p
always (Err e) p = tt

pub returns-in-Assign-clause-code : goal.returns-in-Assign-clause-code
returns-in-Assign-clause-code c =
    by_last c.assign_body.result (c.assign_body.ensures.code c.in-Assign.next)
    (λ h.
    rw c.in-Assign.is (adds_weaker h (omega arith) (λ x from to does. (does, λ s c l f q is-x of on. tt))))

pub returns-in-Store-clause-code : goal.returns-in-Store-clause-code
returns-in-Store-clause-code c =
    by_last c.store_body.result (c.store_body.ensures.code c.in-Store.next)
    (λ h.
    rw c.in-Store.is (adds_weaker h (omega arith) (λ x from to does. (does, λ s c l f q is-x of on. tt))))

pub returns-in-Branch-clause-code : goal.returns-in-Branch-clause-code
returns-in-Branch-clause-code c =
    by_last c.branch_body.result (c.branch_body.ensures.code c.in-Branch.otherwise)
    (λ h.
    rw c.in-Branch.is (adds_weaker h (omega arith) (λ x from to does. (does, λ s c l f q is-x of on. tt))))

pub returns-in-Host-clause-code : goal.returns-in-Host-clause-code
returns-in-Host-clause-code c =
    by_last c.host_body.result (c.host_body.ensures.code c.in-Host.next)
    (λ h.
    rw c.in-Host.is (adds_weaker h (omega arith) (λ x from to does. (does, λ s c l f q is-x of on. tt))))

pub returns-in-Goto-clause-code : goal.returns-in-Goto-clause-code
returns-in-Goto-clause-code c = rw c.in-Goto.is (adds_weaker (adds_none c.args.asm.now.parts) (omega arith) (λ x from to is. is))

pub returns-in-Entry-clause-code : goal.returns-in-Entry-clause-code
returns-in-Entry-clause-code c =
    by_last c.entry_body.result (c.entry_body.ensures.code c.in-Entry.next)
    (λ h.
    let code = rw c.as_slice.ensures at h in
    rw c.in-Entry.is (adds_weaker code (omega arith) (λ x from to does. (does, λ s c l f q is-x of on. tt))))

pub returns-in-Switch-clause-code : goal.returns-in-Switch-clause-code
returns-in-Switch-clause-code c =
    by_last c.switch_body.result (c.switch_body.ensures.code c.in-Switch.otherwise)
    (λ h.
    let code = rw c.as_slice-in-Switch.ensures at h in
    rw c.in-Switch.is (adds_weaker code (omega arith) (λ x from to does. (does, λ s c l f q is-x of on. tt))))

pub returns-in-Return-clause-code : goal.returns-in-Return-clause-code
returns-in-Return-clause-code c =
    by_last c.return_body.result (c.return_body.ensures.code c.in-Return.alternates)
    (λ h.
    let code = rw c.as_slice-in-Return.ensures at h in
    rw c.in-Return.is (adds_weaker code (omega arith) (λ x from to does. (does, λ s c l f q is-x of on. tt))))

pub returns-in-CopyIn-clause-code : goal.returns-in-CopyIn-clause-code
returns-in-CopyIn-clause-code c =
    by_last c.copy_in_body.result (c.copy_in_body.ensures.code c.in-CopyIn.next)
    (λ h.
    let code = rw c.as_slice-in-CopyIn.ensures at h in
    rw c.in-CopyIn.is (adds_weaker code (omega arith) (λ x from to does. does)))

pub returns-in-Jump-clause-code : goal.returns-in-Jump-clause-code
returns-in-Jump-clause-code c =
    by_last c.jump_body.result c.jump_body.ensures.code
    (λ h.
    let code = rw c.as_slice-in-Jump.ensures at h in
    rw c.in-Jump.is (adds_weaker code (omega arith) (λ x from to does. (does, λ s c l f q is-x of on. tt))))

pub returns-in-Cut-clause-code : goal.returns-in-Cut-clause-code
returns-in-Cut-clause-code c =
    by_last c.cut_body.result (c.cut_body.ensures.code c.in-Cut.own)
    (λ h.
    let code = rw c.as_slice-in-Cut.ensures at h in
    rw c.in-Cut.is (adds_weaker code (omega arith) (λ x from to does. (does, λ s c l f q is-x of on. tt))))

pub returns-in-Stop-clause-code : goal.returns-in-Stop-clause-code
returns-in-Stop-clause-code c =
    by_last c.stop_body.result c.stop_body.ensures.code
    (λ h.
    rw c.in-Stop.is (adds_weaker h (omega arith) (λ x from to does. (does, λ s c l f q is-x of on. tt))))

pub call_body-requires-clause-calls : goal.call_body-requires-clause-calls
call_body-requires-clause-calls c = rw (c.as_slice-in-Call.ensures, c.get.ensures) (rw c.in-Call.is at c.requires.kind)

pub call_body-requires-clause-waits : goal.call_body-requires-clause-waits
call_body-requires-clause-waits c = rw c.in-Call.is at c.requires.waits

pub returns-in-Call-clause-code : goal.returns-in-Call-clause-code
returns-in-Call-clause-code c =
    by_last c.call_body.result c.call_body.ensures.code
    (λ h.
    let code = rw (c.as_slice-in-Call.ensures, c.get.ensures) at h in
    rw c.in-Call.is (adds_weaker code (omega arith) (λ x from to does. does)))

pub returns-in-Call-clause-labels : goal.returns-in-Call-clause-labels
returns-in-Call-clause-labels c =
    by_last c.call_body.result c.call_body.ensures.labels
    (λ h.
    rw c.in-Call.is (makes_same h))

pub returns-in-Entry-clause-labels : goal.returns-in-Entry-clause-labels
returns-in-Entry-clause-labels c =
    always c.entry_body.result (rw c.in-Entry.is (makes_same c.entry_body.ensures.labels))

pub returns-in-CopyIn-clause-labels : goal.returns-in-CopyIn-clause-labels
returns-in-CopyIn-clause-labels c =
    always c.copy_in_body.result (rw c.in-CopyIn.is (makes_same c.copy_in_body.ensures.labels))

pub returns-in-Assign-clause-labels : goal.returns-in-Assign-clause-labels
returns-in-Assign-clause-labels c =
    always c.assign_body.result (rw c.in-Assign.is (makes_same c.assign_body.ensures.labels))

pub returns-in-Store-clause-labels : goal.returns-in-Store-clause-labels
returns-in-Store-clause-labels c =
    always c.store_body.result (rw c.in-Store.is (makes_same c.store_body.ensures.labels))

pub returns-in-Branch-clause-labels : goal.returns-in-Branch-clause-labels
returns-in-Branch-clause-labels c =
    always c.branch_body.result (rw c.in-Branch.is (makes_same c.branch_body.ensures.labels))

pub returns-in-Switch-clause-labels : goal.returns-in-Switch-clause-labels
returns-in-Switch-clause-labels c =
    by_last c.switch_body.result c.switch_body.ensures.labels
    (λ h.
    rw c.in-Switch.is (rw c.as_slice-in-Switch.ensures at h))

pub returns-in-Jump-clause-labels : goal.returns-in-Jump-clause-labels
returns-in-Jump-clause-labels c =
    always c.jump_body.result (rw c.in-Jump.is (makes_same c.jump_body.ensures.labels))

pub returns-in-Cut-clause-labels : goal.returns-in-Cut-clause-labels
returns-in-Cut-clause-labels c =
    always c.cut_body.result (rw c.in-Cut.is (makes_same c.cut_body.ensures.labels))

pub returns-in-Return-clause-labels : goal.returns-in-Return-clause-labels
returns-in-Return-clause-labels c =
    always c.return_body.result (rw c.in-Return.is (makes_same c.return_body.ensures.labels))

pub returns-in-Host-clause-labels : goal.returns-in-Host-clause-labels
returns-in-Host-clause-labels c =
    always c.host_body.result (rw c.in-Host.is (makes_same c.host_body.ensures.labels))

pub returns-in-Goto-clause-labels : goal.returns-in-Goto-clause-labels
returns-in-Goto-clause-labels c = rw c.in-Goto.is (makes_same refl)

pub returns-in-Stop-clause-labels : goal.returns-in-Stop-clause-labels
returns-in-Stop-clause-labels c =
    always c.stop_body.result (rw c.in-Stop.is (makes_same c.stop_body.ensures.labels))

pub yield_body-requires-clause-yields : goal.yield_body-requires-clause-yields
yield_body-requires-clause-yields c = rw (c.as_slice-in-Yield.ensures, c.get-in-Yield.ensures) (rw c.in-Yield.is at c.requires.kind)

pub yield_body-requires-clause-waits : goal.yield_body-requires-clause-waits
yield_body-requires-clause-waits c = rw c.in-Yield.is at c.requires.waits

pub returns-in-Yield-clause-code : goal.returns-in-Yield-clause-code
returns-in-Yield-clause-code c =
    by_last c.yield_body.result c.yield_body.ensures.code
    (λ h.
    let code = rw (c.as_slice-in-Yield.ensures, c.get-in-Yield.ensures) at h in
    rw c.in-Yield.is (adds_weaker code (omega arith) (λ x from to does. does)))

pub returns-in-Yield-clause-labels : goal.returns-in-Yield-clause-labels
returns-in-Yield-clause-labels c =
    by_last c.yield_body.result c.yield_body.ensures.labels
    (λ h.
    rw c.in-Yield.is (makes_same h))
