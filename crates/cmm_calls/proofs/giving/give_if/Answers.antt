use Rattle.std.proofs.Common.{arith, inl, refl}
use Rattle.cmm_effects.proofs.Shared.{adds_none, adds_weaker, runs_none}
use Rattle.cmm_calls.proofs.Taken.{passes_of}
use Rattle.cmm_calls.proofs.giving.give_if.Goals as goal

pub returns-else-now-clause-gives : goal.returns-else-now-clause-gives
returns-else-now-clause-gives c =
    rw c.if-now.false
    (adds_weaker (adds_none c.args.asm.now.parts) (omega arith)
    (λ x from to is. λ region. record { begins = inl is; runs = runs_none is (λ s sound can. refl) }))

pub returns-in_ok-give_value-clause-gives : goal.returns-in_ok-give_value-clause-gives
returns-in_ok-give_value-clause-gives c =
    rw c.if-now.true
    (adds_weaker c.in_ok-give_value.ensures.gives (omega arith) (λ x from to does. λ region. passes_of (does region)))
