-- Worked rows: what expressions and conditions give.
use Rattle.std.proofs.Common.{◌≡◌, ℕ, Bool, true, false, refl, Ok, Err}
use Rattle.std.specs.Prelude.{◌-◌, ◌^◌}
use Rattle.cmm_words.specs.declared.width.Width.TheVariants.{W8, W16, W64}
use Rattle.cmm_words.specs.declared.operators.Op2.TheVariants.{Divu}
use Rattle.cmm_words.specs.declared.operators.Cmp.TheVariants.{Eq, Lt, Ltu}
use Rattle.cmm_words.specs.declared.constant.Constant.{Constant}
use Rattle.cmm_words.specs.declared.constant.Constant.TheVariants.{Number, Code, Address}
use Rattle.cmm_program.specs.declared.expression.Expression.{Expression}
use Rattle.cmm_program.specs.declared.expression.Expression.TheVariants as e
use Rattle.cmm_program.specs.declared.expression.Condition.{Condition}
use Rattle.cmm_program.specs.declared.expression.Condition.TheVariants as c
use Rattle.cmm_program.specs.Errors.{Tried, ZeroDivisor}
use Rattle.cmm_program.specs.Memory.{Outside}
use Rattle.cmm_program.specs.Values.{Reads, value_of, test_of}
use Rattle.cmm_program.proofs.Samples.{opened}

-- numbers, and no memory
abbrev number_known : Constant → ℕ
number_known (Number n width) = n
number_known (Code proc plus) = 0
number_known (Address label plus) = 0

abbrev numbers : Reads
numbers = record {
  constant = number_known;
  variable = λ n. 0;
  register = λ n. 0;
  stackdata = λ n. 0;
  continuation = λ n. 0;
  byte = λ address. Outside;
}

abbrev byte : ℕ → Expression
byte n = e.Known (Number n W8)

-- ---- widths

--     %sx64(200::bits8), which is -56
sign_extended : value_of (e.SignExtend W8 W64 (byte 200)) numbers ≡ Ok (2 ^ 64 - 56)
unfolding opened
sign_extended = refl

--     %sx16(100::bits8)
sign_kept : value_of (e.SignExtend W8 W16 (byte 100)) numbers ≡ Ok 100
unfolding opened
sign_kept = refl

--     %zx64(200::bits8)
zero_extended : value_of (e.ZeroExtend W8 W64 (byte 200)) numbers ≡ Ok 200
unfolding opened
zero_extended = refl

--     %lobits8(0x1234)
low_bits : value_of (e.LowBits W64 W8 (e.Known (Number 0x1234 W64))) numbers ≡ Ok 0x34
unfolding opened
low_bits = refl

-- ---- conditions

abbrev holds : Condition → Tried Bool
holds condition = test_of condition numbers

--     %lt(200::bits8, 1::bits8), which compares -56 with 1, and 200::bits8 < 1::bits8
signed : holds (c.Compare Lt W8 (byte 200) (byte 1)) ≡ Ok true
unfolding opened
signed = refl

unsigned : holds (c.Compare Ltu W8 (byte 200) (byte 1)) ≡ Ok false
unfolding opened
unsigned = refl

abbrev one_is_one : Condition
one_is_one = c.Compare Eq W8 (byte 1) (byte 1)

abbrev one_is_two : Condition
one_is_two = c.Compare Eq W8 (byte 1) (byte 2)

--     %not(%not(1 == 1))
twice_not : holds (c.Not (c.Not one_is_one)) ≡ Ok true
unfolding opened
twice_not = refl

--     %conjoin(1 == 1, %not(1 == 2))     %conjoin(1 == 1, 1 == 2)
conjoined : holds (c.Both one_is_one (c.Not one_is_two)) ≡ Ok true
unfolding opened
conjoined = refl

not_conjoined : holds (c.Both one_is_one one_is_two) ≡ Ok false
unfolding opened
not_conjoined = refl

--     %disjoin(1 == 2, %conjoin(1 == 1, 1 == 1))     %disjoin(1 == 2, 1 == 2)
disjoined : holds (c.Either one_is_two (c.Both one_is_one one_is_one)) ≡ Ok true
unfolding opened
disjoined = refl

not_disjoined : holds (c.Either one_is_two one_is_two) ≡ Ok false
unfolding opened
not_disjoined = refl

--     %disjoin(1 == 1, 1 / 0 == 1): both operands are evaluated
both_evaluated : holds (c.Either one_is_one (c.Compare Eq W8 (e.Binary Divu W8 (byte 1) (byte 0)) (byte 1))) ≡ Err ZeroDivisor
unfolding opened
both_evaluated = refl
