-- The laws of the operators with two operands.
use Rattle.std.proofs.Common.{◌≡◌, ℕ, ◌+◌, ◌-◌, ◌*◌, ◌/◌, ◌%◌, ◌^◌, ◌<◌, ◌≤◌, min, arith, ℤ, ap, sym, ◌∙◌, lt_of_le_of_lt, mod-eq_of_lt, Some, None, option_map, IfSome, true, false, cond, ◌==◌, refl, Bool, div-le_self, ⊎_elim, mul-one, div-one, add-zero, zero-add}
use Rattle.std.proofs.lemmas.Nat.{mod_below, pow_pos, and_le_l, or_lt, xor_lt, shr_le, or_mod, shl-shr}
use Rattle.std.proofs.Math.Nat.{mod-le}
use Rattle.std.proofs.lemmas.Bool.{cases_lt}
use lib.Signed.{mag}
use Rattle.cmm_words.specs.declared.width.Width.{Width}
use Rattle.cmm_words.specs.declared.operators.Op2.TheVariants.{Add, Sub, Mul, And, Or, Xor, Shl, Shrl, Shra, Rotl, Rotr, Divu, Modu, Div, Mod, Quot, Rem}
use Rattle.cmm_words.specs.Widths.{bits}
use Rattle.cmm_words.specs.Integers.{signed, wrapped, rounded_down}
use Rattle.cmm_words.specs.Words.{divided, folded, low_bits}
use Rattle.cmm_words.specs.Laws.{IsCut2, IsCutOfExtended, IsCutOfExtendedFirst, RotlIsTwoShifts, RotrIsTwoShifts, GivesWord2, ShlByAnyCount, ShrlByAnyCount, ShraByAnyCount, ShlPastWidth, ShrlPastWidth, ShraPastWidth, two_shifts, extended}
use Rattle.cmm_words.proofs.Wrapping.{wrapped-below}
use Rattle.cmm_words.proofs.Rotations.{or_shifts, folded-below}
use Rattle.cmm_words.proofs.Shifts.{shl-min, shr-min, shl-mod_past, shr_past, rounded_down-min, mul-mod, rounded_down_past}
use lib.Bits.{or_self}
use Rattle.cmm_words.proofs.SignedReadings.{signed_fits}
use Rattle.cmm_words.proofs.WidthLemmas.{cut_64, cut_wrapped_64, signed-extended, extended-zero, count_within, word_64, signed_fits_width, bits_within, positive_bits}

-- ---- every value is a word

divided-below : (b v m : ℕ) → v < m → IfSome (divided b v) (λ n. n < m)
divided-below b v m h =
    let P : Bool → Type 0 = λ zero. IfSome {T = ℕ} (cond zero None (Some v)) (λ n. n < m) in
    elim (b == 0) as P [ true ↦ tt | false ↦ h ]

pub value2-word : GivesWord2
value2-word Add w a b ha hb = mod_below (a + b) (2 ^ bits w) (pow_pos (bits w))
value2-word Sub w a b ha hb = wrapped-below (bits w) _
value2-word Mul w a b ha hb = mod_below (a * b) (2 ^ bits w) (pow_pos (bits w))
value2-word And w a b ha hb = lt_of_le_of_lt (and_le_l a b) ha
value2-word Or w a b ha hb = or_lt (bits w) a b ha hb
value2-word Xor w a b ha hb = xor_lt (bits w) a b ha hb
value2-word Shl w a b ha hb = mod_below _ (2 ^ bits w) (pow_pos (bits w))
value2-word Shrl w a b ha hb = lt_of_le_of_lt (shr_le a (min b (bits w))) ha
value2-word Shra w a b ha hb = wrapped-below (bits w) _
value2-word Rotl w a b ha hb = folded-below (bits w) (b % bits w) a (count_within w b) ha
value2-word Rotr w a b ha hb = folded-below (bits w) (bits w - b % bits w) a (omega arith) ha
value2-word Divu w a b ha hb = divided-below b (a / b) (2 ^ bits w) (lt_of_le_of_lt (div-le_self a b) ha)
value2-word Modu w a b ha hb = divided-below b (a % b) (2 ^ bits w) (lt_of_le_of_lt (mod-le a b) ha)
value2-word Div w a b ha hb = divided-below b _ (2 ^ bits w) (wrapped-below (bits w) _)
value2-word Mod w a b ha hb = divided-below b _ (2 ^ bits w) (wrapped-below (bits w) _)
value2-word Quot w a b ha hb = divided-below b _ (2 ^ bits w) (wrapped-below (bits w) _)
value2-word Rem w a b ha hb = divided-below b _ (2 ^ bits w) (wrapped-below (bits w) _)

-- ---- shifts by any count

pub shl_by_any : ShlByAnyCount
shl_by_any w a b = ap Some (shl-min (bits w) a b)

pub shrl_by_any : ShrlByAnyCount
shrl_by_any w a b h = ap Some (shr-min (bits w) a b h)

pub shra_by_any : ShraByAnyCount
shra_by_any w a b h =
    ap (λ z. Some (wrapped (bits w) z)) (rounded_down-min (bits w) (signed (bits w) a) b (signed_fits_width w a h))

pub shl_past : ShlPastWidth
shl_past w a b past = ap Some (shl-min (bits w) a b ∙ shl-mod_past (bits w) a b past)

pub shrl_past : ShrlPastWidth
shrl_past w a b h past = ap Some (shr-min (bits w) a b h ∙ shr_past (bits w) a b h past)

pub shra_past : ShraPastWidth
shra_past w a b h past =
    let k : ℕ = bits w in
    let x : ℤ = signed k a in
    let fits : mag x < 2 ^ k = signed_fits_width w a h in
    let half : mag x < 2 ^ (k - 1) = signed_fits k a (positive_bits w) h in
    let fewer : k - 1 ≤ b = omega arith in
    let last : rounded_down x (2 ^ b) ≡ rounded_down x (2 ^ (k - 1)) = rounded_down_past (k - 1) x b half fewer in
    ap (λ z. Some (wrapped k z)) (rounded_down-min k x b fits ∙ last ∙ sym (rounded_down-min k x (k - 1) fits))

-- ---- an operator by the same at 64 bits

pub or_cut : IsCut2 Or
or_cut w a b ha hb = ap Some (sym (mod-eq_of_lt (or_lt (bits w) a b ha hb)))

pub xor_cut : IsCut2 Xor
xor_cut w a b ha hb = ap Some (sym (mod-eq_of_lt (xor_lt (bits w) a b ha hb)))

pub shl_cut : IsCut2 Shl
shl_cut w a b ha hb = ap Some (shl-min (bits w) a b ∙ sym (cut_64 w (a * 2 ^ b)) ∙ ap (low_bits w) (sym (shl-min 64 a b)))

pub shrl_cut : IsCut2 Shrl
shrl_cut w a b ha hb =
    let kept : a / 2 ^ min b 64 % 2 ^ bits w ≡ a / 2 ^ min b 64 = mod-eq_of_lt (lt_of_le_of_lt (shr_le a (min b 64)) ha) in
    ap Some (shr-min (bits w) a b ha ∙ sym (shr-min 64 a b (word_64 w a ha)) ∙ sym kept)

pub shra_cut : IsCutOfExtendedFirst Shra
shra_cut w a b ha hb =
    let x : ℤ = signed (bits w) a in
    let fits : mag x < 2 ^ bits w = signed_fits_width w a ha in
    let count : rounded_down x (2 ^ min b (bits w)) ≡ rounded_down x (2 ^ min b 64) = rounded_down-min (bits w) x b fits ∙ sym (rounded_down-min 64 x b (word_64 w (mag x) fits)) in
    rw (signed-extended w a ha, cut_wrapped_64 w (rounded_down x (2 ^ min b 64)), count) refl

-- a shift to the left by the first count, and to the right by the other
rotation : (w : Width) (a n m : ℕ) → a < 2 ^ bits w → n + m ≡ bits w → folded (bits w) (a * 2 ^ n) ≡ two_shifts w a n m
rotation w a n m ha whole =
    let within : n ≤ bits w = omega arith in
    let rest : bits w - n ≡ m = omega arith in
    let kept : a / 2 ^ m % 2 ^ bits w ≡ a / 2 ^ m = mod-eq_of_lt (lt_of_le_of_lt (shr_le a m) ha) in
    sym (or_shifts (bits w) n a within ha)
    ∙ rw (rest, or_mod (a * 2 ^ n % 2 ^ 64) (a / 2 ^ m) (bits w), cut_64 w (a * 2 ^ n), kept) refl

-- a rotation of a whole register by nothing
no_shifts : (w : Width) (a : ℕ) → a < 2 ^ bits w → two_shifts w a 0 0 ≡ a
no_shifts w a h = rw (mul-one a, div-one a, mod-eq_of_lt (word_64 w a h), or_self a) (mod-eq_of_lt h)

-- the formula of a rotation by nothing, and by the whole width
folded-none : (k a : ℕ) → a < 2 ^ k → folded k (a * 2 ^ 0) ≡ a
folded-none k a h =
    let here : k ≤ k = omega arith in
    rw (mul-one a, mod-eq_of_lt h, shr_past k a k h here) (add-zero a)

folded-whole : (k a : ℕ) → folded k (a * 2 ^ k) ≡ a
folded-whole k a = rw (mul-mod a k, shl-shr a k) (zero-add a)

pub rotl_shifts : RotlIsTwoShifts
rotl_shifts w a b h = ap Some (⊎_elim below whole (cases_lt (bits w - n) 64)) where
  n : ℕ
  n = b % bits w

  below : bits w - n < 64 → folded (bits w) (a * 2 ^ n) ≡ two_shifts w a n ((bits w - n) % 64)
  below lt = let within : n ≤ bits w = count_within w b in rw (mod-eq_of_lt lt) (rotation w a n (bits w - n) h (omega arith))

  whole : 64 ≤ bits w - n → folded (bits w) (a * 2 ^ n) ≡ two_shifts w a n ((bits w - n) % 64)
  whole le =
      let none : n ≡ 0 = omega (arith, bits_within w) in
      let left : (bits w - n) % 64 ≡ 0 = let all : bits w - n ≡ 64 = omega (arith, bits_within w) in ap (λ m. m % 64) all in
      rw (left, none) (folded-none (bits w) a h ∙ sym (no_shifts w a h))

pub rotr_shifts : RotrIsTwoShifts
rotr_shifts w a b h = ap Some (⊎_elim below whole (cases_lt (bits w - n) 64)) where
  n : ℕ
  n = b % bits w

  below : bits w - n < 64 → folded (bits w) (a * 2 ^ (bits w - n)) ≡ two_shifts w a ((bits w - n) % 64) n
  below lt = let within : n ≤ bits w = count_within w b in rw (mod-eq_of_lt lt) (rotation w a (bits w - n) n h (omega arith))

  whole : 64 ≤ bits w - n → folded (bits w) (a * 2 ^ (bits w - n)) ≡ two_shifts w a ((bits w - n) % 64) n
  whole le =
      let none : n ≡ 0 = omega (arith, bits_within w) in
      let left : (bits w - n) % 64 ≡ 0 = let all : bits w - n ≡ 64 = omega (arith, bits_within w) in ap (λ m. m % 64) all in
      let whole_width : bits w - n ≡ bits w = omega arith in
      ap (λ m. folded (bits w) (a * 2 ^ m)) whole_width ∙ folded-whole (bits w) a
      ∙ sym (rw (left, none) (no_shifts w a h))

-- a division's value at 64 bits, cut
cut-divided : (w : Width) (b : ℕ) (z : ℤ) → b < 2 ^ bits w → divided b (wrapped (bits w) z) ≡ option_map (low_bits w) (divided (extended w b) (wrapped 64 z))
cut-divided w b z h =
    let P : Bool → Type 0 = λ zero. cond zero None (Some (wrapped (bits w) z)) ≡ option_map (low_bits w) (cond zero None (Some (wrapped 64 z))) in
    rw (extended-zero w b h) (elim (b == 0) as P [ true ↦ refl | false ↦ ap Some (sym (cut_wrapped_64 w z)) ])

pub div_cut : IsCutOfExtended Div
div_cut w a b ha hb = rw (signed-extended w a ha, signed-extended w b hb) (cut-divided w b _ hb)

pub mod_cut : IsCutOfExtended Mod
mod_cut w a b ha hb = rw (signed-extended w a ha, signed-extended w b hb) (cut-divided w b _ hb)

pub rem_cut : IsCutOfExtended Rem
rem_cut w a b ha hb = rw (signed-extended w a ha, signed-extended w b hb) (cut-divided w b _ hb)
