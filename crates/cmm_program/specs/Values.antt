-- What expressions and conditions give (C-- Language Specification 2.0, expressions).
use Rattle.std.specs.List.{list_all, range_with_len}
use Rattle.std.specs.Prelude.{ℕ, ◌%◌, ◌==◌, ◌&&◌, ◌||◌, not, Bool, true, false, map, Ok, Err}
use Rattle.cmm_words.specs.declared.width.Width.{Width}
use Rattle.cmm_words.specs.declared.width.Width.TheVariants.{W64}
use Rattle.cmm_words.specs.declared.constant.Constant.{Constant}
use Rattle.cmm_words.specs.declared.constant.Constant.TheVariants as constant
use Rattle.cmm_words.specs.Widths.{bytes}
use Rattle.cmm_words.specs.Words.{value1, value2, holds, sign_extended, low_bits}
use Rattle.cmm_program.specs.declared.expression.Expression.{Expression, Expression-F}
use Rattle.cmm_program.specs.declared.expression.Expression.TheOpen.{Known, Variable, Register, Stackdata, Continuation, Load, Unary, Binary, SignExtend, ZeroExtend, LowBits}
use Rattle.cmm_program.specs.declared.expression.Condition.{Condition, Condition-F}
use Rattle.cmm_program.specs.declared.expression.Condition.TheOpen.{Compare, Not, Both, Either}
use Rattle.cmm_program.specs.Errors.{Tried, ZeroDivisor, BadAccess, UnwrittenRead, and_then, provided, given, all_of}
use Rattle.cmm_program.specs.Folds.{fold_expression, fold_condition}
use Rattle.cmm_program.specs.Memory.{Cell, Outside, Unwritten, Byte, number_of}

-- what an expression may look at
pub record Reads : Type 0 where
  pub constant : Constant → ℕ
  pub variable : ℕ → ℕ
  pub register : ℕ → ℕ
  pub stackdata : ℕ → ℕ
  pub continuation : ℕ → ℕ
  pub byte : ℕ → Cell

-- a value, and a test, once it is known what can be read
abbrev pub Value : Type 0
Value = Reads → Tried ℕ

abbrev pub Test : Type 0
Test = Reads → Tried Bool

abbrev pub is_there : Cell → Bool
is_there Outside = false
is_there Unwritten = true
is_there (Byte byte) = true

-- an address may be accessed where it is aligned and each byte is data or stackdata
abbrev pub may_access : (ℕ → Cell) → ℕ → ℕ → ℕ → Bool
may_access cell size aligned address = (address % aligned == 0) && list_all is_there (map cell (range_with_len address size))

abbrev pub byte_of : Cell → Tried ℕ
byte_of Outside = Err BadAccess
byte_of Unwritten = Err UnwrittenRead
byte_of (Byte byte) = Ok byte

-- the word at an address
abbrev pub loaded : Reads → Width → ℕ → ℕ → Tried ℕ
loaded r width aligned address =
    provided (may_access r.byte (bytes width) aligned address) BadAccess
    (and_then (all_of (map (λ a. byte_of (r.byte a)) (range_with_len address (bytes width)))) (λ found. Ok (number_of found)))

abbrev pub with_operand : Value → (ℕ → ℕ) → Value
with_operand a f r = and_then (a r) (λ x. Ok (f x))

abbrev pub value_step : Expression-F Value → Value
value_step (Known known) r = Ok (r.constant known)
value_step (Variable number width) r = Ok (r.variable number)
value_step (Register number width) r = Ok (r.register number)
value_step (Stackdata number) r = Ok (r.stackdata number)
value_step (Continuation number) r = Ok (r.continuation number)
value_step (Load width aligned address) r = and_then (address r) (loaded r width aligned)
value_step (Unary op width a) r = with_operand a (value1 op width) r
value_step (Binary op width a b) r = and_then (a r) (λ x. and_then (b r) (λ y. given (value2 op width x y) ZeroDivisor Ok))
value_step (SignExtend from to a) r = with_operand a (sign_extended from to) r
value_step (ZeroExtend from to a) r = a r
value_step (LowBits from to a) r = with_operand a (low_bits to) r

-- what an expression gives
abbrev pub value_of : Expression → Value
value_of e = fold_expression value_step e

-- both operands of a condition are evaluated
abbrev pub both : {A : Type 0} → (Reads → Tried A) → (Reads → Tried A) → (A → A → Bool) → Test
both a b f r = and_then (a r) (λ x. and_then (b r) (λ y. Ok (f x y)))

abbrev pub test_step : Condition-F Test → Test
test_step (Compare cmp width a b) = both (value_of a) (value_of b) (holds cmp width)
test_step (Not a) = λ r. and_then (a r) (λ x. Ok (not x))
test_step (Both a b) = both a b (λ x y. x && y)
test_step (Either a b) = both a b (λ x y. x || y)

-- what a condition gives
abbrev pub test_of : Condition → Test
test_of c = fold_condition test_step c

abbrev pub known_width : Constant → Width
known_width (constant.Number n width) = width
known_width (constant.Code proc plus) = W64
known_width (constant.Address label plus) = W64

abbrev pub width_step : Expression-F Width → Width
width_step (Known known) = known_width known
width_step (Variable number width) = width
width_step (Register number width) = width
width_step (Stackdata number) = W64
width_step (Continuation number) = W64
width_step (Load width aligned address) = width
width_step (Unary op width a) = width
width_step (Binary op width a b) = width
width_step (SignExtend from to a) = to
width_step (ZeroExtend from to a) = to
width_step (LowBits from to a) = to

-- the width of an expression's value
abbrev pub width_of : Expression → Width
width_of e = fold_expression width_step e
