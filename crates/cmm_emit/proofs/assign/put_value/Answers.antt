use Rattle.cmm_effects.proofs.Shared.{adds_weaker, by_last}
use Rattle.std.proofs.Common.{arith}
use Rattle.cmm_emit.proofs.Assigning.{binary_puts, copy_puts, extended_puts, load_puts, low_puts, register_puts, unary_puts}
use Rattle.cmm_emit.proofs.assign.put_value.Goals as goal

pub returns-in-Copy-clause-puts : goal.returns-in-Copy-clause-puts
returns-in-Copy-clause-puts c =
    by_last c.assign_copy.result c.assign_copy.ensures.copies
    (λ h.
    let does = rw c.code_operand-from.ensures at h in
    let has = rw c.in-Copy.is at c.requires.value in
    rw c.in-Copy.is (adds_weaker does (omega arith) (λ x from to does. copy_puts c.args.asm.now.labels c.args.context.now c.args.targets.now c.requires.ready x from to c.args.into.now c.in-Copy.operand has does)))

pub returns-in-Load-clause-puts : goal.returns-in-Load-clause-puts
returns-in-Load-clause-puts c =
    by_last c.assign_loaded.result c.assign_loaded.ensures.assigns
    (λ h.
    let does = rw c.code_operand-from-in-Load.ensures at h in
    let has = rw c.in-Load.is at c.requires.value in
    rw c.in-Load.is (adds_weaker does (omega arith) (λ x from to does. load_puts c.args.asm.now.labels c.args.context.now c.args.targets.now c.requires.ready x from to c.args.into.now c.in-Load.width c.in-Load.aligned c.in-Load.address has does)))

pub returns-in-Unary-clause-puts : goal.returns-in-Unary-clause-puts
returns-in-Unary-clause-puts c =
    by_last c.assign_unary.result c.assign_unary.ensures.assigns
    (λ h.
    let does = rw c.code_operand-from-in-Unary.ensures at h in
    let has = rw c.in-Unary.is at c.requires.value in
    rw c.in-Unary.is (adds_weaker does (omega arith) (λ x from to does. unary_puts c.args.asm.now.labels c.args.context.now c.args.targets.now c.requires.ready x from to c.args.into.now c.in-Unary.operator c.in-Unary.width c.in-Unary.operand has does)))

pub returns-in-SignExtend-clause-puts : goal.returns-in-SignExtend-clause-puts
returns-in-SignExtend-clause-puts c =
    by_last c.assign_extended.result c.assign_extended.ensures.assigns
    (λ h.
    let does = rw c.code_operand-value.ensures at h in
    let has = rw c.in-SignExtend.is at c.requires.value in
    rw c.in-SignExtend.is (adds_weaker does (omega arith) (λ x from to does. extended_puts c.args.asm.now.labels c.args.context.now c.args.targets.now c.requires.ready x from to c.args.into.now c.in-SignExtend.from c.in-SignExtend.to c.in-SignExtend.operand has does)))

pub returns-in-LowBits-clause-puts : goal.returns-in-LowBits-clause-puts
returns-in-LowBits-clause-puts c =
    by_last c.assign_low.result c.assign_low.ensures.assigns
    (λ h.
    let does = rw c.code_operand-value-in-LowBits.ensures at h in
    let has = rw c.in-LowBits.is at c.requires.value in
    rw c.in-LowBits.is (adds_weaker does (omega arith) (λ x from to does. low_puts c.args.asm.now.labels c.args.context.now c.args.targets.now c.requires.ready x from to c.args.into.now c.in-LowBits.from c.in-LowBits.to c.in-LowBits.operand has does)))

pub returns-in-Register-clause-puts : goal.returns-in-Register-clause-puts
returns-in-Register-clause-puts c =
    by_last c.assign_global.result c.assign_global.ensures.copies
    (λ h.
    let does = rw (c.named_at-from.ensures, c.as_slice.ensures) at h in
    let has = rw c.in-Register.is at c.requires.value in
    rw c.in-Register.is (adds_weaker does (omega arith) (λ x from to does. register_puts c.args.asm.now.labels c.args.context.now c.args.targets.now c.requires.ready x from to c.args.into.now c.in-Register.register has does)))

pub returns-in-Binary-clause-puts : goal.returns-in-Binary-clause-puts
returns-in-Binary-clause-puts c =
    by_last c.assign_binary.result c.assign_binary.ensures.assigns
    (λ h.
    let does = rw (c.code_operand-left.ensures, c.code_operand-right.ensures) at h in
    let has = rw c.in-Binary.is at c.requires.value in
    rw c.in-Binary.is (adds_weaker does (omega arith) (λ x from to does. binary_puts c.args.asm.now.labels c.args.context.now c.args.targets.now c.requires.ready x from to c.args.into.now c.in-Binary.operator c.in-Binary.width c.in-Binary.left c.in-Binary.right has does)))
