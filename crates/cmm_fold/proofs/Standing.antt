-- What stands for a right side gives what it gives.
use Rattle.std.proofs.Common.{◌≡◌, ℕ, ◌-◌, ◌*◌, ◌/◌, ◌%◌, ◌^◌, ◌<◌, ◌≤◌, ◌⊎◌, inl, inr, min, refl, sym, ◌∙◌, ap, arith, []}
use Rattle.std.specs.Prelude.{Bool, true, false, IsTrue, Some, None, Ok, Err, nat_lt, ◌==◌, ◌&&◌, ◌||◌, if◌then◌else◌, flat_map}
use Rattle.std.proofs.lemmas.Bool.Decides.{nat_tests}
use Rattle.std.proofs.lemmas.Nat.{and_mask, pow_below, pow_pos}
use Rattle.cmm_words.specs.declared.constant.Constant.TheVariants.{Number, Code, Address}
use Rattle.cmm_words.specs.declared.operators.Op1.{Op1}
use Rattle.cmm_words.specs.declared.operators.Op2.{Op2}
use Rattle.cmm_words.specs.declared.operators.Op2.TheVariants.{Mul, Divu, Modu, Shl, Shrl, And}
use Rattle.cmm_words.specs.declared.width.Width.{Width}
use Rattle.cmm_words.specs.declared.width.Width.TheVariants.{W8, W16, W32, W64}
use Rattle.cmm_words.specs.Widths.{bits}
use Rattle.cmm_words.specs.Words.{divided, value1, value2, low_bits, sign_extended}
use Rattle.cmm_program.specs.Errors.{Tried, UncheckedError, WrongValues, ZeroDivisor, and_then, given, provided}
use Rattle.cmm_program.specs.Values.{Reads, Value}
use Rattle.cmm_graph.specs.declared.operand.Local.{Local}
use Rattle.cmm_graph.specs.declared.operand.Operand.{Operand}
use Rattle.cmm_graph.specs.declared.operand.Operand.TheVariants as operand
use Rattle.cmm_graph.specs.declared.operand.Rvalue.{Rvalue}
use Rattle.cmm_graph.specs.declared.operand.Rvalue.TheVariants.{Copy, Unary, Binary, SignExtend, LowBits}
use Rattle.cmm_graph.specs.Counterpart.{names_rvalue}
use Rattle.cmm_graph.specs.Covering.{is_constant_operand, is_label_operand, least_for, operator_tokens}
use Rattle.cmm_graph.specs.Paths.{operands_of_rvalue, read_by}
use Rattle.cmm_graph.specs.Values.{found_value, operand_word, rvalue_value}
use Rattle.cmm_fold.specs.Folding.{NumbersAreKnown, StandsFor, number_in}

-- ---- words
power_positive : (k : ℕ) → 0 < 2 ^ k
power_positive k = pow_pos k

pub pow_le : (b k : ℕ) → b ≤ k → 2 ^ b ≤ 2 ^ k
pow_le b k le = elim (either b k) [ inl h ↦ let f = pow_below b k h in omega (arith, f) | inr h ↦ let e : b ≡ k = omega arith in rw e (omega arith) ]
  where
    either : (a c : ℕ) → (a < c) ⊎ (c ≤ a)
    either a c = grind arith

pub power_within : (b k : ℕ) → 2 ^ k < 2 ^ b → k < b
power_within b k less = elim (either k b) [ inl h ↦ h | inr h ↦ absurd (omega (arith, less, pow_le b k h)) ]
  where
    either : (a c : ℕ) → (a < c) ⊎ (c ≤ a)
    either a c = grind arith

shift_stops : (w : Width) (k : ℕ) → 2 ^ k < 2 ^ bits w → min k (bits w) ≡ k
shift_stops w k less = let h = power_within (bits w) k less in grind (arith, nat_tests, h)

no_zero : (b v : ℕ) → 0 < b → divided b v ≡ Some v
no_zero b v above = let e : (b == 0) ≡ false = grind (arith, nat_tests, above) in rw e refl

product_right : (w : Width) (x k : ℕ) → 2 ^ k < 2 ^ bits w → value2 Shl w x k ≡ value2 Mul w x (2 ^ k)
product_right w x k less = rw (shift_stops w k less) refl

product_left : (w : Width) (x k : ℕ) → 2 ^ k < 2 ^ bits w → value2 Shl w x k ≡ value2 Mul w (2 ^ k) x
product_left w x k less = rw (shift_stops w k less) (let e : x * 2 ^ k ≡ 2 ^ k * x = omega arith in ap (λ n. Some (n % 2 ^ bits w)) e)

quotient_right : (w : Width) (x k : ℕ) → 2 ^ k < 2 ^ bits w → value2 Shrl w x k ≡ value2 Divu w x (2 ^ k)
quotient_right w x k less = rw (shift_stops w k less) (sym (no_zero (2 ^ k) (x / 2 ^ k) (power_positive k)))

remainder_right : (w : Width) (x k : ℕ) → value2 And w x (2 ^ k - 1) ≡ value2 Modu w x (2 ^ k)
remainder_right w x k = ap Some (and_mask x k) ∙ sym (no_zero (2 ^ k) (x % 2 ^ k) (power_positive k))

lt_of : (a b : ℕ) → nat_lt a b ≡ true → a < b
lt_of a b h = grind (arith, nat_tests, h)

-- ---- operands
-- which operand is a number
pub record IsNumber (width : Width) (o : Operand) (n : ℕ) : Type 0 where
  pub of : Width
  pub is : o ≡ operand.Constant (Number n of)
  pub less : n < 2 ^ bits width

pub number_is : (width : Width) (o : Operand) (n : ℕ) → number_in width o ≡ Some n → IsNumber width o n
number_is width (operand.Constant (Number m w)) n is = by (nat_lt m (2 ^ bits width)) refl is
  where
    by : (b : Bool) → nat_lt m (2 ^ bits width) ≡ b → (if b then Some m else None) ≡ Some n → IsNumber width (operand.Constant (Number m w)) n
    by true e f = let same : m ≡ n = cc in record { of = w; is = ap (λ k. operand.Constant (Number k w)) same; less = let h : m < 2 ^ bits width = lt_of m (2 ^ bits width) e in rw same at h }
    by false e f = absurd (cc)
number_is width (operand.Constant (Code proc plus)) n is = absurd (cc)
number_is width (operand.Constant (Address label plus)) n is = absurd (cc)
number_is width (operand.Local l) n is = absurd (cc)
number_is width (operand.Stackdata l) n is = absurd (cc)
number_is width (operand.Continuation k) n is = absurd (cc)

fits : (width : Width) (n : ℕ) → n < 2 ^ bits width → provided {A = ℕ} {E = UncheckedError} (nat_lt n (2 ^ bits width)) WrongValues (Ok n) ≡ Ok n
fits width n less = let e : nat_lt n (2 ^ bits width) ≡ true = grind (arith, nat_tests, less) in rw e refl

-- a number gives itself
number_word : (held : Local → Value) (reads : Reads) → NumbersAreKnown reads → (width : Width) (o : Operand) (n : ℕ) → IsNumber width o n → operand_word held width o reads ≡ Ok n
number_word held reads known width o n is =
    rw is.is (ap (λ v. provided {A = ℕ} {E = UncheckedError} (nat_lt v (2 ^ bits width)) WrongValues (Ok v)) (known n is.of) ∙ fits width n is.less)

-- what is found decides what is given
found_decides : (held : Local → Value) (old new : Rvalue) (reads : Reads) → found_value held new reads ≡ found_value held old reads →
    rvalue_value held new reads ≡ rvalue_value held old reads
found_decides held old new reads same = ap (λ found. and_then found (λ v. provided {A = ℕ} {E = UncheckedError} (nat_lt v (2 ^ bits W64)) WrongValues (Ok v))) same

abbrev number_operand : ℕ → Width → Operand
number_operand n w = operand.Constant (Number n w)

-- ---- tests
and_true : (b c : Bool) → IsTrue b → IsTrue c → IsTrue (b && c)
and_true true c h g = g
and_true false c h g = absurd (cc)

left_true : (b c : Bool) → IsTrue (b && c) → IsTrue b
left_true true c h = refl
left_true false c h = absurd (cc)

right_true : (b c : Bool) → IsTrue (b && c) → IsTrue c
right_true true c h = h
right_true false c h = absurd (cc)

-- ---- a number stands for what gives it
pub copy_stands : (old : Rvalue) (v : ℕ) (w : Width) → v < 2 ^ bits w →
    ((held : Local → Value) (reads : Reads) → NumbersAreKnown reads → found_value held old reads ≡ Ok v) → flat_map read_by (operands_of_rvalue old) ≡ [] →
    1 ≤ least_for old → ((p : _) → names_rvalue p old ≡ true) → StandsFor old (Copy (number_operand v w))
copy_stands old v w less gives none least names = record {
  value = λ held reads known. found_decides held old (Copy (number_operand v w)) reads (ap Ok (known v w) ∙ sym (gives held reads known));
  reads = sym none;
  least = least;
  range = λ g valid. lt;
  names = λ p q there. let e : nat_lt v (2 ^ bits w) ≡ true = lt in rw e refl;
  registers = λ p. sym (names p);
}
  where
    lt : IsTrue (nat_lt v (2 ^ bits w))
    lt = grind (arith, nat_tests, less)

-- ---- one operator stands for another, where the first operand is any
tokens_least : (width : Width) (a b : Operand) → 1 ≤ operator_tokens width a b
tokens_least width a b = by ((is_constant_operand a && is_constant_operand b) || (nat_lt (bits width) 64 && (is_label_operand a || is_label_operand b)))
  where
    by : (c : Bool) → 1 ≤ elim c [ true ↦ 2 | false ↦ 1 ]
    by true = omega arith
    by false = omega arith

module _ (held : Local → Value) (reads : Reads) (known : NumbersAreKnown reads) (width : Width) where
  -- the second operand is a number
  right_found : (op other : Op2) (a b : Operand) (m n : ℕ) → IsNumber width b m → (w : Width) → n < 2 ^ bits width → ((x : ℕ) → value2 other width x n ≡ value2 op width x m) →
      found_value held (Binary other width a (number_operand n w)) reads ≡ found_value held (Binary op width a b) reads
  right_found op other a b m n is w less same = by (operand_word held width a reads)
    where
      first : operand_word held width b reads ≡ Ok m
      first = number_word held reads known width b m is

      second : operand_word held width (number_operand n w) reads ≡ Ok n
      second = number_word held reads known width (number_operand n w) n (record { of = w; is = refl; less = less })

      by : (r : Tried ℕ) →
          and_then r (λ x. and_then (operand_word held width (number_operand n w) reads) (λ y. given (value2 other width x y) ZeroDivisor Ok))
          ≡ and_then r (λ x. and_then (operand_word held width b reads) (λ y. given (value2 op width x y) ZeroDivisor Ok))
      by (Ok x) = rw (first, second, same x) refl
      by (Err e) = refl

  -- the first one is, and the other comes first in what stands for it
  left_found : (op other : Op2) (a b : Operand) (m n : ℕ) → IsNumber width a m → (w : Width) → n < 2 ^ bits width → ((x : ℕ) → value2 other width x n ≡ value2 op width m x) →
      found_value held (Binary other width b (number_operand n w)) reads ≡ found_value held (Binary op width a b) reads
  left_found op other a b m n is w less same = rw first (by (operand_word held width b reads))
    where
      first : operand_word held width a reads ≡ Ok m
      first = number_word held reads known width a m is

      second : operand_word held width (number_operand n w) reads ≡ Ok n
      second = number_word held reads known width (number_operand n w) n (record { of = w; is = refl; less = less })

      by : (r : Tried ℕ) →
          and_then r (λ x. and_then (operand_word held width (number_operand n w) reads) (λ y. given (value2 other width x y) ZeroDivisor Ok))
          ≡ and_then {A = ℕ} (Ok m) (λ x. and_then r (λ y. given (value2 op width x y) ZeroDivisor Ok))
      by (Ok x) = rw (second, same x) refl
      by (Err e) = refl

-- what stands for an operator whose second operand is a number
pub right_stands : (op other : Op2) (width : Width) (a b : Operand) (m n : ℕ) → IsNumber width b m → n < 2 ^ bits width → ((x : ℕ) → value2 other width x n ≡ value2 op width x m) →
    StandsFor (Binary op width a b) (Binary other width a (number_operand n width))
right_stands op other width a b m n is less same = record {
  value = λ held reads known. found_decides held (Binary op width a b) (Binary other width a (number_operand n width)) reads (right_found held reads known width op other a b m n is width less same);
  reads = rw is.is refl;
  least = rw is.is (omega arith);
  range = λ g valid. and_true _ _ (left_true _ _ valid) lt;
  names = λ p q there. let e : nat_lt n (2 ^ bits width) ≡ true = lt in rw e (and_true _ _ (left_true _ _ there) refl);
  registers = λ p. refl;
}
  where
    lt : IsTrue (nat_lt n (2 ^ bits width))
    lt = grind (arith, nat_tests, less)

-- an operator whose first operand is a number, by one that has it second
tokens_turned : (width : Width) (b : Operand) (m n : ℕ) (of : Width) → operator_tokens width b (number_operand n width) ≡ operator_tokens width (number_operand m of) b
tokens_turned width b m n of = by (is_constant_operand b) (is_label_operand b) (nat_lt (bits width) 64)
  where
    by : (c l w : Bool) → ◌≡◌ {A = ℕ} (elim ((c && true) || (w && (l || false))) [ true ↦ 2 | false ↦ 1 ]) (elim ((true && c) || (w && (false || l))) [ true ↦ 2 | false ↦ 1 ])
    by true l w = refl
    by false true true = refl
    by false true false = refl
    by false false true = refl
    by false false false = refl

pub left_stands : (op other : Op2) (width : Width) (a b : Operand) (m n : ℕ) → IsNumber width a m → n < 2 ^ bits width → ((x : ℕ) → value2 other width x n ≡ value2 op width m x) →
    StandsFor (Binary op width a b) (Binary other width b (number_operand n width))
left_stands op other width a b m n is less same = record {
  value = λ held reads known. found_decides held (Binary op width a b) (Binary other width b (number_operand n width)) reads (left_found held reads known width op other a b m n is width less same);
  reads = rw is.is refl;
  least = rw is.is (let e = tokens_turned width b m n is.of in omega (arith, e));
  range = λ g valid. and_true _ _ (right_true _ _ valid) lt;
  names = λ p q there. let e : nat_lt n (2 ^ bits width) ≡ true = lt in rw e (and_true _ _ (left_true _ _ (right_true _ _ there)) refl);
  registers = λ p. refl;
}
  where
    lt : IsTrue (nat_lt n (2 ^ bits width))
    lt = grind (arith, nat_tests, less)

-- a right side stands for itself
pub itself : (r : Rvalue) → StandsFor r r
itself r = record {
  value = λ held reads known. refl;
  reads = refl;
  least = omega arith;
  range = λ g valid. valid;
  names = λ p q there. there;
  registers = λ p. refl;
}

-- ---- the right sides that become numbers
pub unary_stands : (op : Op1) (width : Width) (a : Operand) (n : ℕ) → IsNumber width a n → value1 op width n < 2 ^ bits width →
    StandsFor (Unary op width a) (Copy (number_operand (value1 op width n) width))
unary_stands op width a n is less =
    copy_stands (Unary op width a) (value1 op width n) width less
    (λ held reads known. ap (λ r. and_then r (λ x. Ok (value1 op width x))) (number_word held reads known width a n is)) (rw is.is refl) (omega arith) (λ p. refl)

pub binary_stands : (op : Op2) (width : Width) (a b : Operand) (m n v : ℕ) → IsNumber width a m → IsNumber width b n → value2 op width m n ≡ Some v → v < 2 ^ bits width →
    StandsFor (Binary op width a b) (Copy (number_operand v width))
binary_stands op width a b m n v is also gives less =
    copy_stands (Binary op width a b) v width less
    (λ held reads known. rw (number_word held reads known width a m is, number_word held reads known width b n also, gives) refl)
    (rw (is.is, also.is) refl) (tokens_least width a b) (λ p. refl)

pub extended_stands : (from to : Width) (a : Operand) (n : ℕ) → IsNumber from a n → sign_extended from to n < 2 ^ bits to →
    StandsFor (SignExtend from to a) (Copy (number_operand (sign_extended from to n) to))
extended_stands from to a n is less =
    copy_stands (SignExtend from to a) (sign_extended from to n) to less
    (λ held reads known. ap (λ r. and_then r (λ x. Ok (sign_extended from to x))) (number_word held reads known from a n is)) (rw is.is refl) (omega arith) (λ p. refl)

pub low_stands : (from to : Width) (a : Operand) (n : ℕ) → IsNumber from a n → low_bits to n < 2 ^ bits to →
    StandsFor (LowBits from to a) (Copy (number_operand (low_bits to n) to))
low_stands from to a n is less =
    copy_stands (LowBits from to a) (low_bits to n) to less
    (λ held reads known. ap (λ r. and_then r (λ x. Ok (low_bits to x))) (number_word held reads known from a n is)) (rw is.is refl) (omega arith) (λ p. refl)

-- ---- by a power of two
count_within : (w : Width) (k : ℕ) → k < bits w → k < 2 ^ bits w
count_within W8 k less = omega arith
count_within W16 k less = omega arith
count_within W32 k less = omega arith
count_within W64 k less = omega arith

module _ (width : Width) (a b : Operand) (m k : ℕ) (is : IsNumber width b m) (power : m ≡ 2 ^ k) where
  below : 2 ^ k < 2 ^ bits width
  below = rw power at is.less

  pub mul_right : StandsFor (Binary Mul width a b) (Binary Shl width a (number_operand k width))
  mul_right = right_stands Mul Shl width a b m k is (count_within width k (power_within (bits width) k below)) (λ x. rw power (product_right width x k below))

  pub divu_right : StandsFor (Binary Divu width a b) (Binary Shrl width a (number_operand k width))
  divu_right = right_stands Divu Shrl width a b m k is (count_within width k (power_within (bits width) k below)) (λ x. rw power (quotient_right width x k below))

  pub modu_right : StandsFor (Binary Modu width a b) (Binary And width a (number_operand (m - 1) width))
  modu_right = right_stands Modu And width a b m (m - 1) is (omega (arith, is.less)) (λ x. rw power (remainder_right width x k))

pub mul_left : (width : Width) (a b : Operand) (m k : ℕ) → IsNumber width a m → m ≡ 2 ^ k → StandsFor (Binary Mul width a b) (Binary Shl width b (number_operand k width))
mul_left width a b m k is power =
    let below : 2 ^ k < 2 ^ bits width = rw power at is.less in
    left_stands Mul Shl width a b m k is (count_within width k (power_within (bits width) k below)) (λ x. rw power (product_left width x k below))

pub below_or_not : (a c : ℕ) → (a < c) ⊎ (c ≤ a)
below_or_not a c = grind arith
