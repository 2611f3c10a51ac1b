-- Operators on a word and a small number.
use Rattle.std.proofs.Common.{◌≡◌, ◌≢◌, ℕ, ◌+◌, ◌-◌, ◌*◌, ◌/◌, ◌%◌, ◌<◌, ◌^◌, refl, sym, ◌∙◌, ap, subst, arith, pos, ◌-ℤ◌, min, Option, Some, None}
use Rattle.std.specs.Prelude.{Bool, true, false, nat_lt, bit_and, bit_or, bit_xor, option_map}
use Rattle.std.proofs.lemmas.Bool.Decides.{nat_tests}
use Rattle.std.proofs.lemmas.Option.{same_Some}
use Rattle.cmm_words.specs.Laws.{IsCut2, IsCutOfExtendedFirst}
use Rattle.cmm_words.specs.Words.{low_bits, value2}
use Rattle.cmm_words.specs.declared.operators.Op2.{Op2}
use Rattle.cmm_words.specs.declared.operators.Op2.TheVariants as op
use Rattle.cmm_words.specs.declared.width.Width.{Width}
use Rattle.cmm_words.specs.declared.width.Width.TheVariants.{W8, W16, W32, W64}
use Rattle.rv_asm.specs.Parts.{Code}
use Rattle.rv_table.specs.Row.{row}
use Rattle.rv_table.specs.Words.{difference, modulo, shifted_left, shifted_right, shifted_right_signed, sum}
use Rattle.rv_table.specs.declared.effects.Effect.TheVariants.{Set}
use Rattle.rv_table.specs.declared.instruction.Instr.{Instr}
use Rattle.cmm_effects.proofs.Shared.{leads_set, leads_weaker}
use Rattle.cmm_effects.specs.Pieces.{Always, Leads}
use Rattle.cmm_select.proofs.Converting.{sign_cut, whole_cut}
use Rattle.cmm_select.proofs.InPlace.{set_beside}
use Rattle.cmm_select.proofs.Operating.{IsCutAt}
use Rattle.cmm_select.proofs.Signs.{shra_below}
use Rattle.cmm_select.proofs.Places.{One}
use Rattle.cmm_select.proofs.Wide.{add_row, and_row, modulo_same, or_row, some_same, sub_row, wrapped_difference, xor_row}
use Rattle.cmm_select.specs.declared.operand.Operand.{Operand}
use Rattle.cmm_select.specs.declared.operand.Operand.TheVariants.{Held, Symbol}
use Rattle.cmm_select.specs.declared.source.Source.TheVariants.{Place, Number, Address}
use Rattle.cmm_select.specs.inside.Immediates.{heeds_sign, immediate, limit_of, small_of}
use Rattle.cmm_select.specs.inside.InPlace.{IsValue, Makes}

-- ---- which numbers are small

pub limit_small : (o : Op2) (n : ℕ) → n < limit_of o → n < 2048
limit_small op.Add n h = h
limit_small op.Sub n h = h
limit_small op.And n h = h
limit_small op.Or n h = h
limit_small op.Xor n h = h
limit_small op.Shl n h = omega (arith, h)
limit_small op.Shrl n h = omega (arith, h)
limit_small op.Shra n h = omega (arith, h)
limit_small _ n h = absurd (omega (arith, h))

-- such an operand is that number
pub small_is : (o : Op2) (right : Operand) (n : ℕ) → small_of o right ≡ Some n → (right ≡ Held (Number n)) × (n < limit_of o)
small_is o (Held (Place p)) n is = absurd (cc (is))
small_is o (Held (Address k)) n is = absurd (cc (is))
small_is o (Symbol l plus) n is = absurd (cc (is))
small_is o (Held (Number k)) n is = by (nat_lt k (limit_of o)) refl is
  where
    below : (a b : ℕ) → nat_lt a b ≡ true → a < b
    below a b h = grind (arith, nat_tests, h)

    by : (b : Bool) → nat_lt k (limit_of o) ≡ b → elim b as (λ _. Option ℕ) [ true ↦ Some k | false ↦ None ] ≡ Some n → (Held (Number k) ≡ Held (Number n)) × (n < limit_of o)
    by true test e =
        let same : k ≡ n = same_Some k n e in
        (ap (λ (m : ℕ). Held (Number m)) same, subst (λ (m : ℕ). m < limit_of o) same (below k (limit_of o) test))
    by false test e = absurd (cc (e))

-- ---- what the instructions give

pub plain_small : (n : ℕ) → n < 2048 → modulo 64 (pos n) ≡ n
plain_small n h = omega arith

pub negative_small : (a n : ℕ) → a < 2 ^ 64 → n < 2048 → sum a (modulo 64 (pos 0 -ℤ pos n)) ≡ difference a n
negative_small a n h g =
    let negative : modulo 64 (pos 0 -ℤ pos n) ≡ (0 + (2 ^ 64 - n)) % 2 ^ 64 =
    modulo_same 64 (pos 0 -ℤ pos n) ∙ wrapped_difference 0 n (pos 0 -ℤ pos n) refl (omega (arith, g))
    in
    omega (arith, negative, g)

pub six_bits : (n : ℕ) → n < 64 → modulo 6 (pos n) ≡ n
six_bits n h = omega arith

least : (n : ℕ) → n < 64 → n ≡ min n 64
least n h = grind arith

module _ (x : Code) (from to rd a n : ℕ) (written : rd ≢ 0) where
  does_one : (o : Op2) (i : Instr) (f : ℕ → ℕ) → ((m v : ℕ) → m < 2 ^ 64 → value2 o W64 m n ≡ Some v → f m ≡ v) → ((r : ℕ → ℕ) (pc : ℕ) → row r pc i ≡ Set rd (f (r a))) →
      One i x from to → Leads 1 Always (λ s t. Makes rd (IsValue o W64 (s.registers a) n) s t) x from to
  does_one o i f gives is does =
      leads_weaker (leads_set x i from to rd (λ r. f (r a)) written is does) (omega arith) (λ s sound p. tt)
      (λ s t sound p sets. record {
        given = λ v has. sets.given ∙ gives (s.registers a) v (sound.registers a) has;
        keeps = set_beside rd (f (s.registers a)) s t sets;
      })

  pub does_small : (o : Op2) → n < limit_of o → One (immediate o rd a n) x from to → Leads 1 Always (λ s t. Makes rd (IsValue o W64 (s.registers a) n) s t) x from to
  does_small op.Add h does =
      does_one op.Add (immediate op.Add rd a n) (λ m. sum m (modulo 64 (pos n)))
      (λ m v g has. ap (sum m) (plain_small n h) ∙ add_row m n v g (omega (arith, h)) has) (λ r pc. refl) does
  does_small op.Sub h does =
      does_one op.Sub (immediate op.Sub rd a n) (λ m. sum m (modulo 64 (pos 0 -ℤ pos n)))
      (λ m v g has. negative_small m n g h ∙ sub_row m n v g (omega (arith, h)) has) (λ r pc. refl) does
  does_small op.And h does =
      does_one op.And (immediate op.And rd a n) (λ m. bit_and m (modulo 64 (pos n)))
      (λ m v g has. ap (bit_and m) (plain_small n h) ∙ and_row m n v g (omega (arith, h)) has) (λ r pc. refl) does
  does_small op.Or h does =
      does_one op.Or (immediate op.Or rd a n) (λ m. bit_or m (modulo 64 (pos n)))
      (λ m v g has. ap (bit_or m) (plain_small n h) ∙ or_row m n v g (omega (arith, h)) has) (λ r pc. refl) does
  does_small op.Xor h does =
      does_one op.Xor (immediate op.Xor rd a n) (λ m. bit_xor m (modulo 64 (pos n)))
      (λ m v g has. ap (bit_xor m) (plain_small n h) ∙ xor_row m n v g (omega (arith, h)) has) (λ r pc. refl) does
  does_small op.Shl h does =
      does_one op.Shl (immediate op.Shl rd a n) (λ m. shifted_left m n)
      (λ m v g has. ap (λ (k : ℕ). m * 2 ^ k % 2 ^ 64) (least n h) ∙ some_same (m * 2 ^ min n 64 % 2 ^ 64) v has) (λ r pc. rw (six_bits n h) refl) does
  does_small op.Shrl h does =
      does_one op.Shrl (immediate op.Shrl rd a n) (λ m. shifted_right m n)
      (λ m v g has. ap (λ (k : ℕ). m / 2 ^ k) (least n h) ∙ some_same (m / 2 ^ min n 64) v has) (λ r pc. rw (six_bits n h) refl) does
  does_small op.Shra h does =
      does_one op.Shra (immediate op.Shra rd a n) (λ m. shifted_right_signed 64 m n) (λ m v g has. shra_below m n v g h has) (λ r pc. rw (six_bits n h) refl) does
  does_small _ h does = absurd (omega (arith, h))

-- at 64 bits a word with its sign is the word
unsigned_first : IsCutOfExtendedFirst op.Shra → IsCutAt op.Shra W64
unsigned_first shra a b h g = shra W64 a b h g ∙ ap (λ (k : ℕ). option_map (low_bits W64) (value2 op.Shra W64 k b)) (sym (sign_cut W64 a h) ∙ sym (whole_cut a h))

-- which law an operator has
pub small_cut : (o : Op2) (w : Width) (n : ℕ) → n < limit_of o → heeds_sign o w ≡ false → IsCut2 op.Add → IsCut2 op.Sub → IsCut2 op.And → IsCut2 op.Or → IsCut2 op.Xor → IsCut2 op.Shl →
    IsCut2 op.Shrl → IsCutOfExtendedFirst op.Shra → IsCutAt o w
small_cut op.Add w n h none add sub and or xor shl shrl shra = add w
small_cut op.Sub w n h none add sub and or xor shl shrl shra = sub w
small_cut op.And w n h none add sub and or xor shl shrl shra = and w
small_cut op.Or w n h none add sub and or xor shl shrl shra = or w
small_cut op.Xor w n h none add sub and or xor shl shrl shra = xor w
small_cut op.Shl w n h none add sub and or xor shl shrl shra = shl w
small_cut op.Shrl w n h none add sub and or xor shl shrl shra = shrl w
small_cut op.Shra W64 n h none add sub and or xor shl shrl shra = unsigned_first shra
small_cut op.Shra _ n h none add sub and or xor shl shrl shra = absurd (cc (none))
small_cut _ w n h none add sub and or xor shl shrl shra = absurd (omega (arith, h))

pub signed_small_cut : (o : Op2) (w : Width) → heeds_sign o w ≡ true → IsCutOfExtendedFirst op.Shra → IsCutOfExtendedFirst o
signed_small_cut op.Shra w is shra = shra
signed_small_cut _ W64 is shra = absurd (cc (is))
signed_small_cut _ W8 is shra = absurd (cc (is))
signed_small_cut _ W16 is shra = absurd (cc (is))
signed_small_cut _ W32 is shra = absurd (cc (is))
