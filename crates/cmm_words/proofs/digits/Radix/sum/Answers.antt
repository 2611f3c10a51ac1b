use Rattle.std.proofs.Common.{◌∙◌, sym, arith, drop, get_or, ◌*◌, ◌+◌}
use Rattle.std.specs.Char.{digit_value}
use Rattle.cmm_words.specs.Digits.{base}
use Rattle.cmm_words.proofs.Carried.{base-positive, carried-drop, carried-≥, digit-at}
use Rattle.cmm_words.proofs.digits.Radix.sum.Goals as goal

-- the digits so far count 2 ^ 64 or more, and further ones count no less
pub returns-in_err-sum : goal.returns-in_err-sum
returns-in_err-sum c = rw c.from_residual.ensures (λ small. c.in_err-sum.ensures (
  digit-at (base c.args.self) c.loop-digit.digit-index c.args.digits.now c.loop-digit-test.true c.requires,
  omega (
    arith,
    c.loop-digit.invariant.0,
    carried-drop (base c.args.self) c.loop-digit.sum c.loop-digit.digit-index c.args.digits.now c.loop-digit-test.true,
    carried-≥ (base c.args.self) (c.loop-digit.sum * base c.args.self + digit_value (get_or c.args.digits.now c.loop-digit.digit-index 0)) (drop (c.loop-digit.digit-index + 1) c.args.digits.now) (base-positive c.args.self),
  ),
))

pub loop-digit-preserved : goal.loop-digit-preserved
loop-digit-preserved c = (
  rw c.in_ok-sum.ensures.1 (sym (carried-drop (base c.args.self) c.loop-digit.sum c.loop-digit.digit-index c.args.digits.now c.loop-digit-test.true) ∙ c.loop-digit.invariant.0),
  rw c.in_ok-sum.ensures.1 c.in_ok-sum.ensures.0.1,
)
