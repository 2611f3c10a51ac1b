use Rattle.std.proofs.Common.{◌∙◌, sym, arith}
use Rattle.cmm_effects.proofs.Shared.{adds_weaker, by_last, runs_of, runs_weaker}
use Rattle.cmm_select.proofs.Methods.{by_copies, by_left, by_plain, by_quotient, by_remainder, by_right, by_shift, by_signed}
use Rattle.cmm_select.proofs.Wide.{makes_operates}
use Rattle.cmm_select.proofs.operator.operate.Goals as goal

pub plain-requires-clause-plain : goal.plain-requires-clause-plain
plain-requires-clause-plain c = by_plain c.args.operator (sym c.method_for.ensures ∙ c.in-Plain.is)

pub returns-in-Plain-clause-operates : goal.returns-in-Plain-clause-operates
returns-in-Plain-clause-operates c =
    by_last c.plain.result c.plain.ensures.operates
    (λ h.
    let o = c.args.operator in
    let w = c.args.width in
    adds_weaker h (omega arith)
    (λ x from to leads. runs_weaker (runs_of leads) (omega arith) (omega arith) (λ s sound words. words) (λ s t sound words makes. makes_operates o w s t makes)))

pub shift-requires : goal.shift-requires
shift-requires c = by_shift c.args.operator (sym c.method_for.ensures ∙ c.in-Shift.is)

pub returns-in-Shift-clause-operates : goal.returns-in-Shift-clause-operates
returns-in-Shift-clause-operates c =
    by_last c.shift.result c.shift.ensures.operates
    (λ h.
    adds_weaker h (omega arith)
    (λ x from to runs. runs_weaker runs (omega arith) (omega arith) (λ s sound words. words) (λ s t sound words operates. operates)))

pub signed-requires : goal.signed-requires
signed-requires c = by_signed c.args.operator (sym c.method_for.ensures ∙ c.in-Signed.is)

pub returns-in-Signed-clause-operates : goal.returns-in-Signed-clause-operates
returns-in-Signed-clause-operates c =
    by_last c.signed.result c.signed.ensures.operates
    (λ h.
    adds_weaker h (omega arith)
    (λ x from to runs. runs_weaker runs (omega arith) (omega arith) (λ s sound words. words) (λ s t sound words operates. operates)))

pub returns-in-Copies-clause-operates : goal.returns-in-Copies-clause-operates
returns-in-Copies-clause-operates c =
    by_last c.shift_signed.result c.shift_signed.ensures.operates
    (λ h.
    rw (by_copies c.args.operator (sym c.method_for.ensures ∙ c.in-Copies.is))
    (adds_weaker h (omega arith)
    (λ x from to runs. runs_weaker runs (omega arith) (omega arith) (λ s sound words. words) (λ s t sound words operates. operates))))

pub returns-in-Left-clause-operates : goal.returns-in-Left-clause-operates
returns-in-Left-clause-operates c =
    by_last c.rotate_left.result c.rotate_left.ensures.operates
    (λ h.
    rw (by_left c.args.operator (sym c.method_for.ensures ∙ c.in-Left.is))
    (adds_weaker h (omega arith)
    (λ x from to runs. runs_weaker runs (omega arith) (omega arith) (λ s sound words. words) (λ s t sound words operates. operates))))

pub returns-in-Right-clause-operates : goal.returns-in-Right-clause-operates
returns-in-Right-clause-operates c =
    by_last c.rotate_right.result c.rotate_right.ensures.operates
    (λ h.
    rw (by_right c.args.operator (sym c.method_for.ensures ∙ c.in-Right.is))
    (adds_weaker h (omega arith)
    (λ x from to runs. runs_weaker runs (omega arith) (omega arith) (λ s sound words. words) (λ s t sound words operates. operates))))

pub returns-in-Quotient-clause-operates : goal.returns-in-Quotient-clause-operates
returns-in-Quotient-clause-operates c =
    by_last c.divide_down.result c.divide_down.ensures.operates
    (λ h.
    rw (by_quotient c.args.operator (sym c.method_for.ensures ∙ c.in-Quotient.is))
    (adds_weaker h (omega arith)
    (λ x from to runs. runs_weaker runs (omega arith) (omega arith) (λ s sound words. words) (λ s t sound words operates. operates))))

pub returns-in-Remainder-clause-operates : goal.returns-in-Remainder-clause-operates
returns-in-Remainder-clause-operates c =
    by_last c.modulo_down.result c.modulo_down.ensures.operates
    (λ h.
    rw (by_remainder c.args.operator (sym c.method_for.ensures ∙ c.in-Remainder.is))
    (adds_weaker h (omega arith)
    (λ x from to runs. runs_weaker runs (omega arith) (omega arith) (λ s sound words. words) (λ s t sound words operates. operates))))
