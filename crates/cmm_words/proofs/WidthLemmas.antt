-- What holds at each width.
use Rattle.std.proofs.Common.{lit≤, arith, pow_mono, mod-eq_of_lt, ◌≤◌, ◌-◌, ◌==◌, lt_of_lt_of_le, le_of_lt, ℤ, ap, sym, ◌∙◌, ◌≡◌, ℕ, ◌%◌, ◌^◌, ◌<◌, lit<}
use Rattle.std.proofs.lemmas.Nat.{mod_below, pow_pos}
use Rattle.std.proofs.lemmas.Bool.Decides.{nat_tests}
use lib.Signed.{mag}
use Rattle.std.proofs.Math.Pow.{mod-mod-pow}
use Rattle.cmm_words.specs.declared.width.Width.{Width}
use Rattle.cmm_words.specs.declared.width.Width.TheVariants.{W8, W16, W32, W64}
use Rattle.cmm_words.specs.Widths.{bits}
use Rattle.cmm_words.specs.Integers.{signed, wrapped}
use Rattle.cmm_words.proofs.Wrapping.{cut-wrapped}
use Rattle.cmm_words.proofs.SignedReadings.{signed-wrapped, signed_fits, signed_low, wrapped-signed}

pub positive_bits : (w : Width) → 0 < bits w
positive_bits W8 = lit< tt
positive_bits W16 = lit< tt
positive_bits W32 = lit< tt
positive_bits W64 = lit< tt

-- 64 bits, cut to a width
pub cut_64 : (w : Width) (n : ℕ) → n % 2 ^ 64 % 2 ^ bits w ≡ n % 2 ^ bits w
cut_64 W8 n = mod-mod-pow n 56 8
cut_64 W16 n = mod-mod-pow n 48 16
cut_64 W32 n = mod-mod-pow n 32 32
cut_64 W64 n = mod-mod-pow n 0 64

-- an integer's word of 64 bits, cut to a width
pub cut_wrapped_64 : (w : Width) (z : ℤ) → wrapped 64 z % 2 ^ bits w ≡ wrapped (bits w) z
cut_wrapped_64 W8 z = cut-wrapped 56 8 z
cut_wrapped_64 W16 z = cut-wrapped 48 16 z
cut_wrapped_64 W32 z = cut-wrapped 32 32 z
cut_wrapped_64 W64 z = cut-wrapped 0 64 z

pub bits_within : (w : Width) → bits w ≤ 64
bits_within W8 = lit≤ tt
bits_within W16 = lit≤ tt
bits_within W32 = lit≤ tt
bits_within W64 = lit≤ tt

-- a word is a word of 64 bits
pub word_64 : (w : Width) (a : ℕ) → a < 2 ^ bits w → a < 2 ^ 64
word_64 W8 a h = lt_of_lt_of_le h (lit≤ tt)
word_64 W16 a h = lt_of_lt_of_le h (lit≤ tt)
word_64 W32 a h = lt_of_lt_of_le h (lit≤ tt)
word_64 W64 a h = h

-- half of a power at a width is at most half of that at 64 bits
pub half_64 : (w : Width) → 2 ^ (bits w - 1) ≤ 2 ^ 63
half_64 W8 = lit≤ tt
half_64 W16 = lit≤ tt
half_64 W32 = lit≤ tt
half_64 W64 = lit≤ tt

-- a word extended to 64 bits has the same signed reading
pub signed-extended : (w : Width) (a : ℕ) → a < 2 ^ bits w → signed 64 (wrapped 64 (signed (bits w) a)) ≡ signed (bits w) a
signed-extended w a h =
    signed-wrapped 64 (signed (bits w) a) (lit< tt) (lt_of_lt_of_le (signed_fits (bits w) a (positive_bits w) h) (half_64 w))

-- numbers that are 0 together pass one test
same_test : (x y : ℕ) → (x ≡ 0 → y ≡ 0) → (y ≡ 0 → x ≡ 0) → (x == 0) ≡ (y == 0)
same_test x y f g = grind (arith, nat_tests)

-- and of n bits
pub signed_fits_width : (w : Width) (a : ℕ) → a < 2 ^ bits w → mag (signed (bits w) a) < 2 ^ bits w
signed_fits_width w a h =
    let fewer : bits w - 1 ≤ bits w = omega arith in
    lt_of_lt_of_le (signed_fits (bits w) a (positive_bits w) h) (pow_mono fewer)

-- it is 0 just where the word is
pub extended-zero : (w : Width) (a : ℕ) → a < 2 ^ bits w → (wrapped 64 (signed (bits w) a) == 0) ≡ (a == 0)
extended-zero w a h = same_test (wrapped 64 (signed (bits w) a)) a from to where
  k : ℕ
  k = bits w

  from : wrapped 64 (signed k a) ≡ 0 → a ≡ 0
  from e = sym (wrapped-signed k a h) ∙ sym (cut_wrapped_64 w (signed k a)) ∙ ap (λ n. n % 2 ^ k) e ∙ mod-eq_of_lt (pow_pos k)

  to : a ≡ 0 → wrapped 64 (signed k a) ≡ 0
  to e = ap (λ n. wrapped 64 (signed k n)) e ∙ ap (wrapped 64) (signed_low k 0 (pow_pos (k - 1)))

-- the remainder by a width is within it
pub count_within : (w : Width) (b : ℕ) → b % bits w ≤ bits w
count_within w b = le_of_lt (mod_below b (bits w) (positive_bits w))
