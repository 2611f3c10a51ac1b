-- Operators of 64 bits, each in its row of the instruction table.
use Rattle.std.proofs.Common.{◌≡◌, ◌≢◌, ℕ, ◌+◌, ◌-◌, ◌/◌, ◌%◌, ◌<◌, ◌^◌, refl, sym, ◌∙◌, ap, arith, ℤ, pos, negsuc, ◌-ℤ◌, int_div, int_rem, Some, None, Option}
use Rattle.std.specs.Prelude.{Bool, true, false, ◌==◌, IsTrue, if◌then◌else◌, bit_and, bit_or, bit_xor}
use Rattle.std.proofs.lemmas.Bool.Decides.{nat_tests}
use Rattle.std.proofs.lemmas.Int.{ints, quot-rem}
use Rattle.std.proofs.Math.Nat.{div-le_self}
use lib.IntN.{*ℤ_comm}
use Rattle.cmm_words.proofs.Shared.{wrapped-below}
use Rattle.cmm_words.specs.Integers.{signed as word_signed, wrapped, quotient_toward_zero, remainder as rest_of}
use Rattle.cmm_words.specs.Words.{divided, value2}
use Rattle.cmm_words.specs.declared.operators.Op2.{Op2}
use Rattle.cmm_words.specs.declared.operators.Op2.TheVariants as op
use Rattle.cmm_words.specs.declared.width.Width.{Width}
use Rattle.cmm_words.specs.declared.width.Width.TheVariants.{W64}
use Rattle.rv_asm.specs.Parts.{Code}
use Rattle.rv_table.specs.Row.{row}
use Rattle.rv_table.specs.Words.{difference, modulo, product, quotient, quotient_unsigned, remainder, remainder_unsigned, sign_extended, signed, sum}
use Rattle.rv_table.specs.declared.effects.Effect.TheVariants.{Set}
use Rattle.rv_table.specs.declared.instruction.Instr.{Instr}
use Rattle.cmm_effects.proofs.Shared.{leads_set, leads_weaker}
use Rattle.cmm_effects.specs.Pieces.{Always, Leads}
use Rattle.rv_table.specs.Machine.{State}
use Rattle.cmm_select.proofs.InPlace.{beside_scratch, set_beside}
use Rattle.cmm_select.proofs.Places.{One}
use Rattle.cmm_select.proofs.Sums.{sign_extended_64}
use Rattle.cmm_select.specs.Operators.{Operates}
use Rattle.cmm_select.specs.inside.InPlace.{IsValue, Makes}
use Rattle.cmm_select.specs.inside.Wide.{direct, is_plain, is_signed}

-- f gives an operator's value on words of 64 bits, where there is one
abbrev pub Gives : Op2 → (ℕ → ℕ → ℕ) → Type 0
Gives o f = (a b v : ℕ) → a < 2 ^ 64 → b < 2 ^ 64 → value2 o W64 a b ≡ Some v → f a b ≡ v

pub some_same : (u v : ℕ) → ◌≡◌ {A = Option ℕ} (Some u) (Some v) → u ≡ v
some_same u v e = cc

-- ---- the two readings of signed words are one

pub signed_same : (a : ℕ) → a < 2 ^ 64 → signed 64 a ≡ word_signed 64 a
signed_same a h = grind (arith, ints, nat_tests)

pub modulo_same : (k : ℕ) (z : ℤ) → modulo k z ≡ wrapped k z
modulo_same k (pos n) = refl
modulo_same k (negsuc n) = refl

-- ---- sums and products

pub wrapped_difference : (a b : ℕ) (z : ℤ) → pos a -ℤ pos b ≡ z → b < 2 ^ 64 → wrapped 64 z ≡ (a + (2 ^ 64 - b)) % 2 ^ 64
wrapped_difference a b (pos n) h small = let e : a ≡ b + n = omega (arith, ints, h) in omega arith
wrapped_difference a b (negsuc n) h small = let e : b ≡ a + (n + 1) = omega (arith, ints, h) in omega arith

pub add_row : Gives op.Add sum
add_row a b v first second is = some_same (sum a b) v is

pub sub_row : Gives op.Sub difference
sub_row a b v first second is = sym (wrapped_difference a b (pos a -ℤ pos b) refl second) ∙ some_same (wrapped 64 (pos a -ℤ pos b)) v is

mul_row : Gives op.Mul product
mul_row a b v first second is = some_same (product a b) v is

pub and_row : Gives op.And bit_and
and_row a b v first second is = some_same (bit_and a b) v is

pub or_row : Gives op.Or bit_or
or_row a b v first second is = some_same (bit_or a b) v is

pub xor_row : Gives op.Xor bit_xor
xor_row a b v first second is = some_same (bit_xor a b) v is

-- ---- divisions

cut_same : (b : ℕ) → b < 2 ^ 64 → b % 2 ^ 64 ≡ b
cut_same b h = omega arith

-- a divisor that isn't 0 has the quotient
pub divided_some : (b u v : ℕ) → divided b u ≡ Some v → ((b == 0) ≡ false) × (u ≡ v)
divided_some b u v is = by (b == 0) refl is
  where
    by : (test : Bool) → (b == 0) ≡ test → (if test then None else Some u) ≡ Some v → (test ≡ false) × (u ≡ v)
    by true e given = absurd (cc)
    by false e given = (refl, some_same u v given)

divu_row : Gives op.Divu (quotient_unsigned 64)
divu_row a b v first second is =
    let both = divided_some b (a / b) v is in
    let m = cut_same b second in
    let n = cut_same a first in
    let test = both.0 in
    rw (quotient_unsigned, m, n, test) (sign_extended_64 (a / b) (omega (arith, div-le_self a b)) ∙ both.1)

rest_small : (a b : ℕ) → a < 2 ^ 64 → a % b < 2 ^ 64
rest_small a b h = grind arith

modu_row : Gives op.Modu (remainder_unsigned 64)
modu_row a b v first second is =
    let both = divided_some b (a % b) v is in
    let m = cut_same b second in
    let n = cut_same a first in
    let test = both.0 in
    rw (remainder_unsigned, m, n, test) (sign_extended_64 (a % b) (rest_small a b first) ∙ both.1)

pub quot_row : Gives op.Quot (quotient 64)
quot_row a b v first second is =
    let x = word_signed 64 a in
    let y = word_signed 64 b in
    let both = divided_some b (wrapped 64 (int_div x y)) v is in
    let test : (b % 2 ^ 64 == 0) ≡ false = ap (λ (n : ℕ). n == 0) (cut_same b second) ∙ both.0 in
    let word : modulo 64 (int_div (signed 64 a) (signed 64 b)) ≡ wrapped 64 (int_div x y) =
    modulo_same 64 (int_div (signed 64 a) (signed 64 b)) ∙ ap (λ (z : ℤ). wrapped 64 (int_div z (signed 64 b))) (signed_same a first)
    ∙ ap (λ (z : ℤ). wrapped 64 (int_div x z)) (signed_same b second)
    in
    rw (quotient, test) (ap (sign_extended 64) word ∙ sign_extended_64 (wrapped 64 (int_div x y)) (wrapped-below 64 (int_div x y)) ∙ both.1)

rest_is : (x y : ℤ) → rest_of x y (quotient_toward_zero x y) ≡ int_rem x y
rest_is x y = omega (arith, ints, quot-rem x y, *ℤ_comm y (int_div x y))

pub rem_row : Gives op.Rem (remainder 64)
rem_row a b v first second is =
    let x = word_signed 64 a in
    let y = word_signed 64 b in
    let both = divided_some b (wrapped 64 (rest_of x y (quotient_toward_zero x y))) v is in
    let test : (b % 2 ^ 64 == 0) ≡ false = ap (λ (n : ℕ). n == 0) (cut_same b second) ∙ both.0 in
    let word : modulo 64 (int_rem (signed 64 a) (signed 64 b)) ≡ wrapped 64 (int_rem x y) =
    modulo_same 64 (int_rem (signed 64 a) (signed 64 b)) ∙ ap (λ (z : ℤ). wrapped 64 (int_rem z (signed 64 b))) (signed_same a first)
    ∙ ap (λ (z : ℤ). wrapped 64 (int_rem x z)) (signed_same b second)
    in
    rw (remainder, test)
    (ap (sign_extended 64) word ∙ sign_extended_64 (wrapped 64 (int_rem x y)) (wrapped-below 64 (int_rem x y)) ∙ ap (wrapped 64) (sym (rest_is x y)) ∙ both.1)

-- ---- one instruction on two registers

-- the result in register 5 of the words in registers 5 and 7
pub makes_operates : (o : Op2) (w : Width) (s t : State) → Makes 5 (IsValue o w (s.registers 5) (s.registers 7)) s t → Operates o w s t
makes_operates o w s t makes = record { given = makes.given; keeps = beside_scratch 5 s t refl makes.keeps }

module _ (x : Code) (from to rd a b : ℕ) (written : rd ≢ 0) where
  does_row : (o : Op2) (i : Instr) (f : ℕ → ℕ → ℕ) → Gives o f → ((r : ℕ → ℕ) (pc : ℕ) → row r pc i ≡ Set rd (f (r a) (r b))) →
      One i x from to → Leads 1 Always (λ s t. Makes rd (IsValue o W64 (s.registers a) (s.registers b)) s t) x from to
  does_row o i f gives is does =
      leads_weaker (leads_set x i from to rd (λ r. f (r a) (r b)) written is does) (omega arith) (λ s sound p. tt)
      (λ s t sound p sets. record {
        given = λ v has. sets.given ∙ gives (s.registers a) (s.registers b) v (sound.registers a) (sound.registers b) has;
        keeps = set_beside rd (f (s.registers a) (s.registers b)) s t sets;
      })

  pub does_plain : (o : Op2) → IsTrue (is_plain o) → One (direct o rd a b) x from to →
      Leads 1 Always (λ s t. Makes rd (IsValue o W64 (s.registers a) (s.registers b)) s t) x from to
  does_plain op.Add is does = does_row op.Add (direct op.Add rd a b) sum add_row (λ r pc. refl) does
  does_plain op.Sub is does = does_row op.Sub (direct op.Sub rd a b) difference sub_row (λ r pc. refl) does
  does_plain op.Mul is does = does_row op.Mul (direct op.Mul rd a b) product mul_row (λ r pc. refl) does
  does_plain op.And is does = does_row op.And (direct op.And rd a b) bit_and and_row (λ r pc. refl) does
  does_plain op.Or is does = does_row op.Or (direct op.Or rd a b) bit_or or_row (λ r pc. refl) does
  does_plain op.Xor is does = does_row op.Xor (direct op.Xor rd a b) bit_xor xor_row (λ r pc. refl) does
  does_plain op.Divu is does = does_row op.Divu (direct op.Divu rd a b) (quotient_unsigned 64) divu_row (λ r pc. refl) does
  does_plain op.Modu is does = does_row op.Modu (direct op.Modu rd a b) (remainder_unsigned 64) modu_row (λ r pc. refl) does
  does_plain _ is does = absurd (cc)

  pub does_signed : (o : Op2) → IsTrue (is_signed o) → One (direct o rd a b) x from to →
      Leads 1 Always (λ s t. Makes rd (IsValue o W64 (s.registers a) (s.registers b)) s t) x from to
  does_signed op.Quot is does = does_row op.Quot (direct op.Quot rd a b) (quotient 64) quot_row (λ r pc. refl) does
  does_signed op.Rem is does = does_row op.Rem (direct op.Rem rd a b) (remainder 64) rem_row (λ r pc. refl) does
  does_signed _ is does = absurd (cc)

-- in register 5, of the words in registers 5 and 7
pub operates_leads : (x : Code) (from to n : ℕ) (o : Op2) → Leads n Always (λ s t. Makes 5 (IsValue o W64 (s.registers 5) (s.registers 7)) s t) x from to →
    Leads n Always (Operates o W64) x from to
operates_leads x from to n o leads = leads_weaker leads (omega arith) (λ s sound p. tt) (λ s t sound p makes. makes_operates o W64 s t makes)
