use Rattle.std.proofs.Common.{arith, inl, refl}
use Rattle.cmm_effects.proofs.Shared.{adds_none, adds_weaker, runs_none}
use Rattle.cmm_calls.proofs.Moved.{by_of}
use Rattle.cmm_calls.proofs.copying.copy_if.Goals as goal

pub returns-else-now-clause-copies : goal.returns-else-now-clause-copies
returns-else-now-clause-copies c =
    rw c.if-now.false
    (adds_weaker (adds_none c.args.asm.now.parts) (omega arith)
    (λ x from to is. λ region. record { begins = inl (is, refl); runs = runs_none is (λ s sound can. refl) }))

pub returns-in_ok-copy_value-clause-copies : goal.returns-in_ok-copy_value-clause-copies
returns-in_ok-copy_value-clause-copies c =
    rw c.if-now.true
    (adds_weaker c.in_ok-copy_value.ensures.copies (omega arith) (λ x from to does. λ region. by_of (does region)))
