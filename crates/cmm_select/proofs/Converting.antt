-- Operators with one operand, and words with their sign at another width.
use Rattle.std.proofs.Common.{◌≡◌, ◌≢◌, ℕ, zero, suc, ◌+◌, ◌-◌, ◌*◌, ◌/◌, ◌%◌, ◌<◌, ◌^◌, refl, sym, ◌∙◌, ap, arith, ℤ, pos, negsuc, bit_xor}
use Rattle.std.proofs.lemmas.Bool.Decides.{nat_tests}
use Rattle.std.proofs.lemmas.Int.{ints}
use Rattle.std.proofs.lemmas.Nat.{xor_block, pow_pos}
use Rattle.cmm_words.specs.Integers.{signed as word_signed, wrapped}
use Rattle.cmm_words.specs.Laws.{IsCut1}
use Rattle.cmm_words.specs.Widths.{IsWord, bits}
use Rattle.cmm_words.specs.Words.{low_bits, sign_extended, value1}
use Rattle.cmm_words.specs.declared.operators.Op1.{Op1}
use Rattle.cmm_words.specs.declared.operators.Op1.TheVariants.{Com, Neg}
use Rattle.cmm_words.specs.declared.width.Width.{Width}
use Rattle.cmm_words.specs.declared.width.Width.TheVariants.{W8, W16, W32, W64}
use Rattle.rv_asm.specs.Parts.{Code}
use Rattle.rv_table.specs.Row.{row}
use Rattle.rv_table.specs.Words.{difference, modulo}
use Rattle.rv_table.specs.declared.effects.Effect.TheVariants.{Set}
use Rattle.rv_table.specs.declared.instruction.Instr.{Instr}
use Rattle.cmm_effects.proofs.Shared.{leads_set, leads_then, leads_weaker}
use Rattle.cmm_effects.specs.Changes.{Sets}
use Rattle.cmm_effects.specs.Pieces.{Always, Leads, Runs}
use Rattle.cmm_select.proofs.InPlace.{beside_then, set_beside}
use Rattle.cmm_select.proofs.Places.{One}
use Rattle.cmm_select.proofs.Widths.{extended_64}
use Rattle.cmm_select.specs.Operators.{HasWord, Narrows}
use Rattle.cmm_select.specs.Unary.{IsValueOfOne}
use Rattle.cmm_select.specs.inside.Complements.{direct_of_one}
use Rattle.cmm_select.specs.inside.InPlace.{Makes}

-- ---- operators with one operand at 64 bits

-- a bit and 1
turned_bit : (r : ℕ) → r < 2 → bit_xor r 1 ≡ 1 - r
turned_bit zero h = refl
turned_bit (suc zero) h = refl
turned_bit (suc (suc k)) h = absurd (omega arith)

-- with ones, each bit is turned
with_ones : (k a : ℕ) → a < 2 ^ k → bit_xor a (2 ^ k - 1) ≡ 2 ^ k - 1 - a
with_ones zero a h = let e : a ≡ 0 = omega arith in rw e refl
with_ones (suc k) a h =
    let p : 2 ^ suc k - 1 ≡ (2 ^ k - 1) * 2 ^ 1 + 1 = omega (arith, pow_pos k) in
    let q : a ≡ a / 2 * 2 ^ 1 + a % 2 = omega arith in
    let small : a / 2 < 2 ^ k = omega arith in
    let split : bit_xor a (2 ^ suc k - 1) ≡ bit_xor (a / 2) (2 ^ k - 1) * 2 ^ 1 + bit_xor (a % 2) 1 =
    ap (λ (n : ℕ). bit_xor a n) p ∙ ap (λ (n : ℕ). bit_xor n ((2 ^ k - 1) * 2 ^ 1 + 1)) q
    ∙ xor_block 1 (a / 2) (2 ^ k - 1) (a % 2) 1 (omega arith) (omega arith)
    in
    omega (arith, split, with_ones k (a / 2) small, turned_bit (a % 2) (omega arith), pow_pos k)

com_row : (z a : ℕ) → z ≡ 0 → a < 2 ^ 64 → bit_xor a (modulo 64 (negsuc 0)) ≡ value1 Com W64 a
com_row z a none h = with_ones 64 a h

neg_row : (z a : ℕ) → z ≡ 0 → a < 2 ^ 64 → difference z a ≡ value1 Neg W64 a
neg_row z a none h = grind (arith, ints, nat_tests)

low_of_wrapped : (w : Width) (z : ℤ) → low_bits w (wrapped 64 z) ≡ wrapped (bits w) z
low_of_wrapped W8 (pos k) = omega arith
low_of_wrapped W8 (negsuc k) = omega arith
low_of_wrapped W16 (pos k) = omega arith
low_of_wrapped W16 (negsuc k) = omega arith
low_of_wrapped W32 (pos k) = omega arith
low_of_wrapped W32 (negsuc k) = omega arith
low_of_wrapped W64 (pos k) = omega arith
low_of_wrapped W64 (negsuc k) = omega arith

does_one : (x : Code) (from to rd a : ℕ) (o : Op1) (i : Instr) (f : ℕ → ℕ → ℕ) → rd ≢ 0 → ((z n : ℕ) → z ≡ 0 → n < 2 ^ 64 → f z n ≡ value1 o W64 n) →
    ((r : ℕ → ℕ) (pc : ℕ) → row r pc i ≡ Set rd (f (r 0) (r a))) → One i x from to → Leads 1 Always (λ s t. Makes rd (IsValueOfOne o W64 (s.registers a)) s t) x from to
does_one x from to rd a o i f written gives is does =
    leads_weaker (leads_set x i from to rd (λ r. f (r 0) (r a)) written is does) (omega arith) (λ s sound p. tt)
    (λ s t sound p sets. record {
      given = sets.given ∙ gives (s.registers 0) (s.registers a) sound.zero (sound.registers a);
      keeps = set_beside rd (f (s.registers 0) (s.registers a)) s t sets;
    })

pub does_direct : (x : Code) (from to rd a : ℕ) → rd ≢ 0 → (o : Op1) → One (direct_of_one o rd a) x from to →
    Leads 1 Always (λ s t. Makes rd (IsValueOfOne o W64 (s.registers a)) s t) x from to
does_direct x from to rd a written Com does = does_one x from to rd a Com (direct_of_one Com rd a) (λ z n. bit_xor n (modulo 64 (negsuc 0))) written com_row (λ r pc. refl) does
does_direct x from to rd a written Neg does = does_one x from to rd a Neg (direct_of_one Neg rd a) difference written neg_row (λ r pc. refl) does

pub cut_of_one : (o : Op1) → IsCut1 Com → IsCut1 Neg → IsCut1 o
cut_of_one Com complement negative = complement
cut_of_one Neg complement negative = negative

module _ (x : Code) (from mid to rd a m n : ℕ) where
  -- an operator of 64 bits, and a cut
  pub cut_makes_one : (o : Op1) (w : Width) → IsCut1 o → Leads m Always (λ s t. Makes rd (IsValueOfOne o W64 (s.registers a)) s t) x from mid →
      Runs 0 n Always (Narrows w rd) x mid to → Leads (m + n) (HasWord w a) (λ s t. Makes rd (IsValueOfOne o w (s.registers a)) s t) x from to
  cut_makes_one o w cut first second =
      leads_weaker (leads_then first second (λ s t sound also p q. tt)) (omega arith) (λ s sound word. tt)
      (λ s u sound word both. record {
        given = both.2.given ∙ ap (low_bits w) both.1.given ∙ sym (cut w (s.registers a) word);
        keeps = beside_then rd s both.0 u both.1.keeps (set_beside rd (low_bits w (both.0.registers rd)) both.0 u both.2);
      })

  -- ---- a word with its sign at another width: with its sign at 64 bits, and a cut
  pub extended_cut : (v w : Width) → Leads m (HasWord v a) (λ s t. Sets rd (sign_extended v W64 (s.registers a)) s t) x from mid → Runs 0 n Always (Narrows w rd) x mid to →
      Leads (m + n) (HasWord v a) (λ s t. Makes rd (λ k. k ≡ sign_extended v w (s.registers a)) s t) x from to
  extended_cut v w first second =
      leads_weaker (leads_then first second (λ s t sound also p q. tt)) (omega arith) (λ s sound word. word)
      (λ s u sound word both. record {
        given = both.2.given ∙ ap (low_bits w) both.1.given ∙ low_of_wrapped w (word_signed (bits v) (s.registers a));
        keeps = beside_then rd s both.0 u (set_beside rd (sign_extended v W64 (s.registers a)) s both.0 both.1) (set_beside rd (low_bits w (both.0.registers rd)) both.0 u both.2);
      })

-- at 64 bits a word has its sign
pub sign_cut : (w : Width) (a : ℕ) → IsWord W64 a → low_bits w a ≡ sign_extended W64 w a
sign_cut w a word = ap (low_bits w) (extended_64 a word) ∙ low_of_wrapped w (word_signed (bits W64) a)

-- and all its bits are low ones
pub whole_cut : (a : ℕ) → IsWord W64 a → a ≡ low_bits W64 a
whole_cut a word = omega arith
