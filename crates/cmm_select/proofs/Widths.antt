-- Words are cut to a width, and extended from it, by two shifts.
use Rattle.std.proofs.Common.{◌≡◌, ◌≢◌, ℕ, ◌<◌, ◌^◌, refl, ap, arith, pos}
use Rattle.std.proofs.lemmas.Bool.Decides.{nat_tests}
use Rattle.std.proofs.lemmas.Int.{ints}
use Rattle.std.proofs.lemmas.Nat.{and_mask}
use Rattle.std.specs.Int.Bits.{bit_and}
use Rattle.cmm_words.specs.Widths.{IsWord}
use Rattle.cmm_words.specs.Words.{low_bits, sign_extended}
use Rattle.cmm_words.specs.declared.width.Width.{Width}
use Rattle.cmm_words.specs.declared.width.Width.TheVariants.{W8, W16, W32, W64}
use Rattle.rv_asm.specs.Appending.{Then}
use Rattle.rv_asm.specs.Parts.{Code}
use Rattle.rv_table.specs.Words.{modulo, shifted_left, shifted_right, shifted_right_signed, sum, word}
use Rattle.rv_table.specs.declared.instruction.Instr.TheVariants.{Addi, Addiw, Andi, Slli, Srai, Srli}
use Rattle.cmm_effects.proofs.Shared.{leads_set, leads_then, leads_weaker, runs_none, runs_of}
use Rattle.cmm_effects.specs.Changes.{Sets}
use Rattle.cmm_effects.specs.Pieces.{Always, Leads, Runs}
use Rattle.cmm_select.proofs.Places.{One, copies, same_set, set_as}
use Rattle.cmm_select.specs.Operators.{Extends, HasWord, Narrows, shifts_of}

-- the amount of a shift fits six bits
amount_is : (k : ℕ) → k < 64 → modulo 6 (pos k) ≡ k
amount_is k h = omega arith

module _ (x : Code) (from to rd r k : ℕ) (written : rd ≢ 0) (small : k < 64) where
  -- to the left, and back
  pub shifts_out : Then (One (Slli rd r (pos k))) (One (Srli rd rd (pos k))) x from to →
      Leads 2 Always (λ s t. Sets rd (shifted_right (shifted_left (s.registers r) k) k) s t) x from to
  shifts_out does =
      leads_weaker
      (leads_then
      (leads_set x (Slli rd r (pos k)) from does.0 rd (λ g. shifted_left (g r) k) written (λ g pc. rw (amount_is k small) refl) does.1)
      (runs_of (leads_set x (Srli rd rd (pos k)) does.0 to rd (λ g. shifted_right (g rd) k) written (λ g pc. rw (amount_is k small) refl) does.2))
      (λ s t sound also p q. tt))
      (omega arith) (λ s sound p. tt)
      (λ s u sound p both. same_set rd (shifted_left (s.registers r) k) (shifted_right (shifted_left (s.registers r) k) k) s both.0 u both.1
      (set_as rd (shifted_right (both.0.registers rd) k) (shifted_right (shifted_left (s.registers r) k) k) both.0 u (ap (λ (n : ℕ). shifted_right n k) both.1.given) both.2))

  -- and back with copies of the top bit
  pub shifts_back : Then (One (Slli rd r (pos k))) (One (Srai rd rd (pos k))) x from to →
      Leads 2 Always (λ s t. Sets rd (shifted_right_signed 64 (shifted_left (s.registers r) k) k) s t) x from to
  shifts_back does =
      leads_weaker
      (leads_then
      (leads_set x (Slli rd r (pos k)) from does.0 rd (λ g. shifted_left (g r) k) written (λ g pc. rw (amount_is k small) refl) does.1)
      (runs_of (leads_set x (Srai rd rd (pos k)) does.0 to rd (λ g. shifted_right_signed 64 (g rd) k) written (λ g pc. rw (amount_is k small) refl) does.2))
      (λ s t sound also p q. tt))
      (omega arith) (λ s sound p. tt)
      (λ s u sound p both. same_set rd (shifted_left (s.registers r) k) (shifted_right_signed 64 (shifted_left (s.registers r) k) k) s both.0 u both.1
      (set_as rd (shifted_right_signed 64 (both.0.registers rd) k) (shifted_right_signed 64 (shifted_left (s.registers r) k) k) both.0 u (ap (λ (n : ℕ). shifted_right_signed 64 n k) both.1.given) both.2))

-- two shifts do both, at less than 64 bits
pub two_shifts : (w : Width) → w ≢ W64 → shifts_of w ≡ 2
two_shifts W8 other = refl
two_shifts W16 other = refl
two_shifts W32 other = refl
two_shifts W64 other = absurd (other refl)

-- ---- cuts

cut_8 : (a : ℕ) → shifted_right (shifted_left a 56) 56 ≡ low_bits W8 a
cut_8 a = omega arith

cut_16 : (a : ℕ) → shifted_right (shifted_left a 48) 48 ≡ low_bits W16 a
cut_16 a = omega arith

cut_32 : (a : ℕ) → shifted_right (shifted_left a 32) 32 ≡ low_bits W32 a
cut_32 a = omega arith

cut_64 : (a : ℕ) → a < 2 ^ 64 → a ≡ low_bits W64 a
cut_64 a h = omega arith

-- a register gets the low bits of another
abbrev pub Cuts : Width → ℕ → ℕ → Code → ℕ → ℕ → Type 0
Cuts w rd r x = Leads 2 Always (λ s t. Sets rd (low_bits w (s.registers r)) s t) x

-- by a shift out and back, or by a copy
cuts_by : (x : Code) (from to rd r : ℕ) (w : Width) (k : ℕ) → ((a : ℕ) → shifted_right (shifted_left a k) k ≡ low_bits w a) →
    Leads 2 Always (λ s t. Sets rd (shifted_right (shifted_left (s.registers r) k) k) s t) x from to → Cuts w rd r x from to
cuts_by x from to rd r w k is leads =
    leads_weaker leads (omega arith) (λ s sound p. tt)
    (λ s t sound p sets. set_as rd (shifted_right (shifted_left (s.registers r) k) k) (low_bits w (s.registers r)) s t (is (s.registers r)) sets)

module _ (x : Code) (from to rd r : ℕ) where
  pub cuts_8 : Leads 2 Always (λ s t. Sets rd (shifted_right (shifted_left (s.registers r) 56) 56) s t) x from to → Cuts W8 rd r x from to
  cuts_8 leads = cuts_by x from to rd r W8 56 cut_8 leads

  pub cuts_16 : Leads 2 Always (λ s t. Sets rd (shifted_right (shifted_left (s.registers r) 48) 48) s t) x from to → Cuts W16 rd r x from to
  cuts_16 leads = cuts_by x from to rd r W16 48 cut_16 leads

  pub cuts_32 : Leads 2 Always (λ s t. Sets rd (shifted_right (shifted_left (s.registers r) 32) 32) s t) x from to → Cuts W32 rd r x from to
  cuts_32 leads = cuts_by x from to rd r W32 32 cut_32 leads

  pub cuts_64 : rd ≢ 0 → One (Addi rd r (pos 0)) x from to → Cuts W64 rd r x from to
  cuts_64 written does =
      leads_weaker (copies x rd r from to written does) (omega arith) (λ s sound p. tt)
      (λ s t sound p sets. set_as rd (s.registers r) (low_bits W64 (s.registers r)) s t (cut_64 (s.registers r) (sound.registers r)) sets)

-- a byte by its mask
pub cuts_byte : (x : Code) (from to rd r : ℕ) → rd ≢ 0 → One (Andi rd r (pos 255)) x from to → Cuts W8 rd r x from to
cuts_byte x from to rd r written does =
    leads_weaker (leads_set x (Andi rd r (pos 255)) from to rd (λ g. bit_and (g r) (modulo 64 (pos 255))) written (λ g pc. refl) does) (omega arith)
    (λ s sound p. tt)
    (λ s t sound p sets. set_as rd (bit_and (s.registers r) (modulo 64 (pos 255))) (low_bits W8 (s.registers r)) s t (and_mask (s.registers r) 8) sets)

pub cuts_none : (x : Code) (rd from to : ℕ) → from ≡ to → Runs 0 0 Always (Narrows W64 rd) x from to
cuts_none x rd from to is = runs_none is (λ s sound p. record { given = cut_64 (s.registers rd) (sound.registers rd); others = λ r h. refl; memory = refl })

-- ---- words with their sign

extended_8 : (a : ℕ) → IsWord W8 a → shifted_right_signed 64 (shifted_left a 56) 56 ≡ sign_extended W8 W64 a
extended_8 a h = grind (arith, ints, nat_tests)

extended_16 : (a : ℕ) → IsWord W16 a → shifted_right_signed 64 (shifted_left a 48) 48 ≡ sign_extended W16 W64 a
extended_16 a h = grind (arith, ints, nat_tests)

extended_32 : (a : ℕ) → IsWord W32 a → shifted_right_signed 64 (shifted_left a 32) 32 ≡ sign_extended W32 W64 a
extended_32 a h = grind (arith, ints, nat_tests)

pub extended_64 : (a : ℕ) → IsWord W64 a → a ≡ sign_extended W64 W64 a
extended_64 a h = grind (arith, ints, nat_tests)

-- a register gets a word of another with its sign
abbrev pub SignsFrom : Width → ℕ → ℕ → Code → ℕ → ℕ → Type 0
SignsFrom w rd r x = Leads 2 (HasWord w r) (λ s t. Sets rd (sign_extended w W64 (s.registers r)) s t) x

extends_by : (x : Code) (from to rd r : ℕ) (w : Width) (k : ℕ) → ((a : ℕ) → IsWord w a → shifted_right_signed 64 (shifted_left a k) k ≡ sign_extended w W64 a) →
    Leads 2 Always (λ s t. Sets rd (shifted_right_signed 64 (shifted_left (s.registers r) k) k) s t) x from to → SignsFrom w rd r x from to
extends_by x from to rd r w k is leads =
    leads_weaker leads (omega arith) (λ s sound word. tt)
    (λ s t sound word sets. set_as rd (shifted_right_signed 64 (shifted_left (s.registers r) k) k) (sign_extended w W64 (s.registers r)) s t (is (s.registers r) word) sets)

module _ (x : Code) (from to rd r : ℕ) where
  pub extends_8 : Leads 2 Always (λ s t. Sets rd (shifted_right_signed 64 (shifted_left (s.registers r) 56) 56) s t) x from to → SignsFrom W8 rd r x from to
  extends_8 leads = extends_by x from to rd r W8 56 extended_8 leads

  pub extends_16 : Leads 2 Always (λ s t. Sets rd (shifted_right_signed 64 (shifted_left (s.registers r) 48) 48) s t) x from to → SignsFrom W16 rd r x from to
  extends_16 leads = extends_by x from to rd r W16 48 extended_16 leads

  pub extends_32 : Leads 2 Always (λ s t. Sets rd (shifted_right_signed 64 (shifted_left (s.registers r) 32) 32) s t) x from to → SignsFrom W32 rd r x from to
  extends_32 leads = extends_by x from to rd r W32 32 extended_32 leads

  pub extends_64 : rd ≢ 0 → One (Addi rd r (pos 0)) x from to → SignsFrom W64 rd r x from to
  extends_64 written does =
      leads_weaker (copies x rd r from to written does) (omega arith) (λ s sound word. tt)
      (λ s t sound word sets. set_as rd (s.registers r) (sign_extended W64 W64 (s.registers r)) s t (extended_64 (s.registers r) word) sets)

-- a word of 32 bits by the instruction that adds at 32 bits
extended_word : (a : ℕ) → IsWord W32 a → word (sum a (modulo 64 (pos 0))) ≡ sign_extended W32 W64 a
extended_word a h = grind (arith, ints, nat_tests)

pub signs_word : (x : Code) (from to rd r : ℕ) → rd ≢ 0 → One (Addiw rd r (pos 0)) x from to → SignsFrom W32 rd r x from to
signs_word x from to rd r written does =
    leads_weaker (leads_set x (Addiw rd r (pos 0)) from to rd (λ g. word (sum (g r) (modulo 64 (pos 0)))) written (λ g pc. refl) does) (omega arith)
    (λ s sound word_there. tt)
    (λ s t sound word_there sets. set_as rd (word (sum (s.registers r) (modulo 64 (pos 0)))) (sign_extended W32 W64 (s.registers r)) s t
    (extended_word (s.registers r) word_there) sets)

pub extends_none : (x : Code) (rd from to : ℕ) → from ≡ to → Runs 0 0 (HasWord W64 rd) (Extends W64 rd) x from to
extends_none x rd from to is = runs_none is (λ s sound word. record { given = extended_64 (s.registers rd) word; others = λ r h. refl; memory = refl })
