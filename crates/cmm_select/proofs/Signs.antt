-- The shift to the right of 64 bits that copies the top bit, by any count.
use Rattle.std.proofs.Common.{◌≡◌, ℕ, ◌-◌, ◌%◌, ◌<◌, ◌≤◌, ◌^◌, ◌⊎◌, inl, inr, refl, sym, ◌∙◌, ap, arith, ℤ, pos, negsuc, min, Some}
use Rattle.std.specs.Prelude.{Bool, true, false, nat_lt}
use Rattle.std.proofs.Math.Nat.{div-one}
use Rattle.std.proofs.lemmas.Bool.{cases_lt}
use Rattle.std.proofs.lemmas.Bool.Decides.{nat_tests}
use Rattle.std.proofs.lemmas.Int.{ints}
use Rattle.cmm_words.specs.Integers.{rounded_down, signed as word_signed, wrapped}
use Rattle.cmm_words.specs.Words.{value2}
use Rattle.cmm_words.specs.declared.operators.Op2.TheVariants as op
use Rattle.rv_asm.specs.Appending.{Then}
use Rattle.rv_asm.specs.Parts.{Code}
use Rattle.rv_table.specs.Machine.{State}
use Rattle.rv_table.specs.Words.{flag, floor_divided, modulo, shifted_right_signed, signed, sum}
use Rattle.rv_table.specs.declared.instruction.Instr.TheVariants.{Addi, Sltiu, Sra}
use Rattle.cmm_words.specs.declared.width.Width.TheVariants.{W64}
use Rattle.cmm_effects.proofs.Shared.{keeps_then, leads_set, leads_then, leads_weaker, runs_of, set_keeps}
use Rattle.cmm_effects.specs.Changes.{Sets}
use Rattle.cmm_effects.specs.Pieces.{Always, Leads}
use Rattle.cmm_select.proofs.Places.{One}
use Rattle.cmm_select.proofs.Wide.{Gives, modulo_same, signed_same, some_same}
use Rattle.cmm_select.specs.Operators.{Operates}

divided_same : (z : ℤ) (n : ℕ) → floor_divided z n ≡ rounded_down z n
divided_same (pos k) n = refl
divided_same (negsuc k) n = refl

-- all ones where a count is below 64 is not, and else none
abbrev past_64 : ℕ → ℕ
past_64 b = sum (flag (nat_lt b (modulo 64 (pos 64)))) (modulo 64 (negsuc 0))

none_past : (b : ℕ) → b < 64 → past_64 b ≡ 0
none_past b h = let e : nat_lt b (modulo 64 (pos 64)) ≡ true = grind (arith, nat_tests) in ap (λ (t : Bool). sum (flag t) (modulo 64 (negsuc 0))) e

all_past : (b : ℕ) → 64 ≤ b → past_64 b ≡ 2 ^ 64 - 1
all_past b h = let e : nat_lt b (modulo 64 (pos 64)) ≡ false = grind (arith, nat_tests) in ap (λ (t : Bool). sum (flag t) (modulo 64 (negsuc 0))) e

-- a shift by no bits
unshifted : (a : ℕ) → a < 2 ^ 64 → shifted_right_signed 64 a 0 ≡ a
unshifted a h = by (cases_lt a (2 ^ 63))
  where
    by : (a < 2 ^ 63) ⊎ (2 ^ 63 ≤ a) → shifted_right_signed 64 a 0 ≡ a
    by (inl low) =
        let e : signed 64 a ≡ pos a = grind (arith, ints, nat_tests) in
        ap (λ (z : ℤ). modulo 64 (floor_divided z 1)) e ∙ omega (arith, div-one a)
    by (inr high) =
        let e : signed 64 a ≡ negsuc (2 ^ 64 - 1 - a) = grind (arith, ints, nat_tests) in
        ap (λ (z : ℤ). modulo 64 (floor_divided z 1)) e ∙ omega (arith, div-one (2 ^ 64 - 1 - a))

-- a shift by fewer bits than 64
pub shra_below : (a b v : ℕ) → a < 2 ^ 64 → b < 64 → value2 op.Shra W64 a b ≡ Some v → shifted_right_signed 64 a b ≡ v
shra_below a b v first h is =
    let e : min b 64 ≡ b = grind arith in
    ap (shifted_right_signed 64 a) (sym e) ∙ modulo_same 64 (floor_divided (signed 64 a) (2 ^ min b 64)) ∙ ap (wrapped 64) (divided_same (signed 64 a) (2 ^ min b 64))
    ∙ ap (λ (z : ℤ). wrapped 64 (rounded_down z (2 ^ min b 64))) (signed_same a first) ∙ some_same (wrapped 64 (rounded_down (word_signed 64 a) (2 ^ min b 64))) v is

-- no word and all ones stay what they are
none_stays : (k : ℕ) → shifted_right_signed 64 0 k ≡ 0
none_stays k = grind (arith, nat_tests)

ones_stay : (k : ℕ) → shifted_right_signed 64 (2 ^ 64 - 1) k ≡ 2 ^ 64 - 1
ones_stay k = grind (arith, nat_tests)

abbrev pub shra_value : ℕ → ℕ → ℕ
shra_value a b = shifted_right_signed 64 (shifted_right_signed 64 a (past_64 b % 64)) (b % 64)

pub shra_row : Gives op.Shra shra_value
shra_row a b v first second is = by (cases_lt b 64)
  where
    below : b < 64 → shra_value a b ≡ v
    below h =
        let m : b % 64 ≡ b = omega arith in
        ap (λ (n : ℕ). shifted_right_signed 64 (shifted_right_signed 64 a (n % 64)) (b % 64)) (none_past b h)
        ∙ ap (λ (n : ℕ). shifted_right_signed 64 n (b % 64)) (unshifted a first)
        ∙ ap (shifted_right_signed 64 a) m
        ∙ shra_below a b v first h is

    past_low : 64 ≤ b → a < 2 ^ 63 → shra_value a b ≡ v
    past_low h low =
        let e : min b 64 ≡ 64 = grind arith in
        let z : signed 64 a ≡ pos a = grind (arith, ints, nat_tests) in
        let y : word_signed 64 a ≡ pos a = grind (arith, ints, nat_tests) in
        let none : shifted_right_signed 64 a 63 ≡ 0 = ap (λ (i : ℤ). modulo 64 (floor_divided i (2 ^ 63))) z ∙ omega arith in
        let value : wrapped 64 (rounded_down (word_signed 64 a) (2 ^ min b 64)) ≡ 0 =
        ap (λ (n : ℕ). wrapped 64 (rounded_down (word_signed 64 a) (2 ^ n))) e ∙ ap (λ (i : ℤ). wrapped 64 (rounded_down i (2 ^ 64))) y ∙ omega arith
        in
        ap (λ (n : ℕ). shifted_right_signed 64 (shifted_right_signed 64 a (n % 64)) (b % 64)) (all_past b h)
        ∙ ap (λ (n : ℕ). shifted_right_signed 64 n (b % 64)) none ∙ none_stays (b % 64) ∙ sym value
        ∙ some_same (wrapped 64 (rounded_down (word_signed 64 a) (2 ^ min b 64))) v is

    past_high : 64 ≤ b → 2 ^ 63 ≤ a → shra_value a b ≡ v
    past_high h high =
        let e : min b 64 ≡ 64 = grind arith in
        let z : signed 64 a ≡ negsuc (2 ^ 64 - 1 - a) = grind (arith, ints, nat_tests) in
        let y : word_signed 64 a ≡ negsuc (2 ^ 64 - 1 - a) = sym (signed_same a first) ∙ z in
        let ones : shifted_right_signed 64 a 63 ≡ 2 ^ 64 - 1 = ap (λ (i : ℤ). modulo 64 (floor_divided i (2 ^ 63))) z ∙ omega arith in
        let value : wrapped 64 (rounded_down (word_signed 64 a) (2 ^ min b 64)) ≡ 2 ^ 64 - 1 =
        ap (λ (n : ℕ). wrapped 64 (rounded_down (word_signed 64 a) (2 ^ n))) e ∙ ap (λ (i : ℤ). wrapped 64 (rounded_down i (2 ^ 64))) y ∙ omega arith
        in
        ap (λ (n : ℕ). shifted_right_signed 64 (shifted_right_signed 64 a (n % 64)) (b % 64)) (all_past b h)
        ∙ ap (λ (n : ℕ). shifted_right_signed 64 n (b % 64)) ones ∙ ones_stay (b % 64) ∙ sym value
        ∙ some_same (wrapped 64 (rounded_down (word_signed 64 a) (2 ^ min b 64))) v is

    by : (b < 64) ⊎ (64 ≤ b) → shra_value a b ≡ v
    by (inl h) = below h
    by (inr h) = elim (cases_lt a (2 ^ 63)) [ inl low ↦ past_low h low | inr high ↦ past_high h high ]

module _ (x : Code) (from to : ℕ) where
  pub does_shra : Then (One (Sltiu 6 7 (pos 64))) (Then (One (Addi 6 6 (negsuc 0))) (Then (One (Sra 5 5 6)) (One (Sra 5 5 7)))) x from to →
      Leads 4 Always (Operates op.Shra W64) x from to
  does_shra d =
      leads_weaker
      (leads_then (leads_set x (Sltiu 6 7 (pos 64)) from d.0 6 (λ g. flag (nat_lt (g 7) (modulo 64 (pos 64)))) (omega arith) (λ g pc. refl) d.1)
      (runs_of (leads_then (leads_set x (Addi 6 6 (negsuc 0)) d.0 d.2.0 6 (λ g. sum (g 6) (modulo 64 (negsuc 0))) (omega arith) (λ g pc. refl) d.2.1)
      (runs_of (leads_then (leads_set x (Sra 5 5 6) d.2.0 d.2.2.0 5 (λ g. shifted_right_signed 64 (g 5) (g 6 % 64)) (omega arith) (λ g pc. refl) d.2.2.1)
      (runs_of (leads_set x (Sra 5 5 7) d.2.2.0 to 5 (λ g. shifted_right_signed 64 (g 5) (g 7 % 64)) (omega arith) (λ g pc. refl) d.2.2.2))
      (λ s t sound also p q. tt))) (λ s t sound also p q. tt))) (λ s t sound also p q. tt))
      (omega arith) (λ s sound p. tt)
      (λ s z sound p k. all s k.0 k.2.0 k.2.2.0 z (sound.registers 5) (sound.registers 7) k.1 k.2.1 k.2.2.1 k.2.2.2)
    where
      all : (s a b c z : State) → s.registers 5 < 2 ^ 64 → s.registers 7 < 2 ^ 64 → Sets 6 (flag (nat_lt (s.registers 7) (modulo 64 (pos 64)))) s a →
          Sets 6 (sum (a.registers 6) (modulo 64 (negsuc 0))) a b → Sets 5 (shifted_right_signed 64 (b.registers 5) (b.registers 6 % 64)) b c →
          Sets 5 (shifted_right_signed 64 (c.registers 5) (c.registers 7 % 64)) c z → Operates op.Shra W64 s z
      all s a b c z small also first second third fourth =
          let past : b.registers 6 ≡ past_64 (s.registers 7) = second.given ∙ ap (λ (n : ℕ). sum n (modulo 64 (negsuc 0))) first.given in
          let word : b.registers 5 ≡ s.registers 5 = second.others 5 refl ∙ first.others 5 refl in
          let count : c.registers 7 ≡ s.registers 7 = third.others 7 refl ∙ second.others 7 refl ∙ first.others 7 refl in
          let middle : c.registers 5 ≡ shifted_right_signed 64 (s.registers 5) (past_64 (s.registers 7) % 64) =
          third.given ∙ ap (λ (n : ℕ). shifted_right_signed 64 n (b.registers 6 % 64)) word ∙ ap (λ (n : ℕ). shifted_right_signed 64 (s.registers 5) (n % 64)) past
          in
          let value : z.registers 5 ≡ shra_value (s.registers 5) (s.registers 7) =
          fourth.given ∙ ap (λ (n : ℕ). shifted_right_signed 64 n (c.registers 7 % 64)) middle
          ∙ ap (λ (n : ℕ). shifted_right_signed 64 (shifted_right_signed 64 (s.registers 5) (past_64 (s.registers 7) % 64)) (n % 64)) count
          in
          record {
            given = λ v has. value ∙ shra_row (s.registers 5) (s.registers 7) v small also has;
            keeps = keeps_then s a z (set_keeps 6 (flag (nat_lt (s.registers 7) (modulo 64 (pos 64)))) s a refl first)
                (keeps_then a b z (set_keeps 6 (sum (a.registers 6) (modulo 64 (negsuc 0))) a b refl second)
                (keeps_then b c z (set_keeps 5 (shifted_right_signed 64 (b.registers 5) (b.registers 6 % 64)) b c refl third)
                (set_keeps 5 (shifted_right_signed 64 (c.registers 5) (c.registers 7 % 64)) c z refl fourth)));
          }
