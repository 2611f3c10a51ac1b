-- A number comes into its register in pieces of 12 bits with a sign, the highest first.
use Rattle.std.proofs.Common.{◌≡◌, ◌≢◌, ℕ, zero, suc, ◌+◌, ◌-◌, ◌*◌, ◌/◌, ◌%◌, ◌<◌, ◌≤◌, ◌^◌, refl, sym, ◌∙◌, ap, subst, arith, pos, List, true, false}
use Rattle.std.specs.Prelude.{Bool, nat_le}
use Rattle.std.proofs.lemmas.Bool.Decides.{nat_tests}
use Rattle.std.proofs.lemmas.Int.{ints}
use Rattle.std.proofs.lemmas.Nat.{pow-add}
use Rattle.rv_asm.specs.Appending.{Then}
use Rattle.rv_asm.specs.Parts.{Code}
use Rattle.rv_asm.specs.declared.part.Part.{Part}
use Rattle.rv_table.specs.Machine.{State}
use Rattle.rv_table.specs.Words.{modulo, shifted_left, signed, sum, upper, word}
use Rattle.rv_table.specs.declared.instruction.Instr.TheVariants.{Addi, Lui, Slli}
use Rattle.cmm_effects.proofs.Shared.{leads_set, leads_then, leads_weaker, runs_of}
use Rattle.cmm_effects.specs.Changes.{Sets}
use Rattle.cmm_effects.specs.Pieces.{Adds, Always, Leads}
use Rattle.cmm_select.proofs.Places.{One, same_set, set_as}
use Rattle.cmm_select.specs.Operands.{most_for_number}

-- ---- a number is what it is rounded to, and the rest

pub rest : (n : ℕ) → n < 2 ^ 64 → ((n + 2048) / 4096 * 4096 + modulo 64 (signed 12 n)) % 2 ^ 64 ≡ n
rest n h = grind (arith, ints, nat_tests)

word_low : (n : ℕ) → n < 2 ^ 31 → word n ≡ n
word_low n h = grind (arith, ints, nat_tests)

pub upper_low : (n : ℕ) → n + 2048 < 2 ^ 31 → upper (pos ((n + 2048) / 4096)) ≡ (n + 2048) / 4096 * 4096
upper_low n h =
    let a : (n + 2048) / 4096 % 2 ^ 20 * 4096 ≡ (n + 2048) / 4096 * 4096 = omega arith in
    rw a (word_low ((n + 2048) / 4096 * 4096) (omega arith))

low_sum : (u n : ℕ) → n + 2048 < 2 ^ 31 → u ≡ upper (pos ((n + 2048) / 4096)) → sum u (modulo 64 (signed 12 n)) ≡ n
low_sum u n h is =
    let e : u ≡ (n + 2048) / 4096 * 4096 = is ∙ upper_low n h in
    ap (λ (k : ℕ). sum k (modulo 64 (signed 12 n))) e ∙ rest n (omega arith)

join : (a b c n : ℕ) → a % 2 ^ 64 ≡ c % 2 ^ 64 → (c + b) % 2 ^ 64 ≡ n → (a + b) % 2 ^ 64 ≡ n
join a b c n e f = omega arith

moved : (u v n : ℕ) → u ≡ (n + 2048) / 4096 → v ≡ shifted_left u 12 → v % 2 ^ 64 ≡ (n + 2048) / 4096 * 4096 % 2 ^ 64
moved u v n e f = omega arith

more_sum : (u v n : ℕ) → n < 2 ^ 64 → u ≡ (n + 2048) / 4096 → v ≡ shifted_left u 12 → sum v (modulo 64 (signed 12 n)) ≡ n
more_sum u v n h e f = join v (modulo 64 (signed 12 n)) ((n + 2048) / 4096 * 4096) n (moved u v n e f) (rest n h)

-- ---- a number that an immediate has

small_sum : (z n : ℕ) → z ≡ 0 → n < 2048 → sum z (modulo 64 (pos n)) ≡ n
small_sum z n none small = omega arith

pub sets_small : (x : Code) (rd n from to : ℕ) → rd ≢ 0 → n < 2048 → One (Addi rd 0 (pos n)) x from to → Leads 2 Always (λ s t. Sets rd n s t) x from to
sets_small x rd n from to written small does =
    leads_weaker (leads_set x (Addi rd 0 (pos n)) from to rd (λ g. sum (g 0) (modulo 64 (pos n))) written (λ g pc. refl) does) (omega arith)
    (λ s sound p. tt) (λ s t sound p sets. set_as rd (sum (s.registers 0) (modulo 64 (pos n))) n s t (small_sum (s.registers 0) n sound.zero small) sets)

-- ---- instructions

module _ (x : Code) (rd n from to : ℕ) (written : rd ≢ 0) where
  pub sets_low : n + 2048 < 2 ^ 31 → Then (One (Lui rd (pos ((n + 2048) / 4096)))) (One (Addi rd rd (signed 12 n))) x from to →
      Leads 2 Always (λ s t. Sets rd n s t) x from to
  sets_low near does =
      leads_weaker
      (leads_then
      (leads_set x (Lui rd (pos ((n + 2048) / 4096))) from does.0 rd (λ g. upper (pos ((n + 2048) / 4096))) written (λ g pc. refl) does.1)
      (runs_of (leads_set x (Addi rd rd (signed 12 n)) does.0 to rd (λ g. sum (g rd) (modulo 64 (signed 12 n))) written (λ g pc. refl) does.2))
      (λ s t sound also p q. tt))
      (omega arith) (λ s sound p. tt)
      (λ s w sound p both. joined s both.0 w both.1 both.2)
    where
      joined : (s t w : State) → Sets rd (upper (pos ((n + 2048) / 4096))) s t → Sets rd (sum (t.registers rd) (modulo 64 (signed 12 n))) t w → Sets rd n s w
      joined s t w first second =
          same_set rd (upper (pos ((n + 2048) / 4096))) n s t w first
          (set_as rd (sum (t.registers rd) (modulo 64 (signed 12 n))) n t w (low_sum (t.registers rd) n near first.given) second)

  pub sets_rounded : (most : ℕ) → n < 2 ^ 64 → 0 < most →
      Then (Leads (2 + 2 * (most - 1)) Always (λ s t. Sets rd ((n + 2048) / 4096) s t)) (Then (One (Slli rd rd (pos 12))) (One (Addi rd rd (signed 12 n)))) x from to →
      Leads (2 + 2 * most) Always (λ s t. Sets rd n s t) x from to
  sets_rounded most fits some does =
      leads_weaker
      (leads_then does.1
      (runs_of (leads_then
      (leads_set x (Slli rd rd (pos 12)) does.0 does.2.0 rd (λ g. shifted_left (g rd) 12) written (λ g pc. refl) does.2.1)
      (runs_of (leads_set x (Addi rd rd (signed 12 n)) does.2.0 to rd (λ g. sum (g rd) (modulo 64 (signed 12 n))) written (λ g pc. refl) does.2.2))
      (λ s t sound also p q. tt)))
      (λ s t sound also p q. tt))
      (omega arith) (λ s sound p. tt)
      (λ s w sound p three. all s three.0 three.2.0 w three.1 three.2.1 three.2.2)
    where
      all : (s t u w : State) → Sets rd ((n + 2048) / 4096) s t → Sets rd (shifted_left (t.registers rd) 12) t u →
          Sets rd (sum (u.registers rd) (modulo 64 (signed 12 n))) u w → Sets rd n s w
      all s t u w first second third =
          same_set rd (shifted_left (t.registers rd) 12) n s u w
          (same_set rd ((n + 2048) / 4096) (shifted_left (t.registers rd) 12) s t u first second)
          (set_as rd (sum (u.registers rd) (modulo 64 (signed 12 n))) n u w (more_sum (t.registers rd) (u.registers rd) n fits first.given second.given) third)

-- a number that has more than one piece
pub has_more : (n more : ℕ) → 2 ^ 31 - 2048 ≤ n → n ≤ 2 ^ (28 + 12 * more) → 0 < more
has_more n zero large h = absurd (omega arith)
has_more n (suc k) large h = omega arith

-- what it is rounded to has one piece less
pub one_less : (n more : ℕ) → 0 < more → n ≤ 2 ^ (28 + 12 * more) → (n + 2048) / 4096 ≤ 2 ^ (28 + 12 * (more - 1))
one_less n zero some h = absurd (omega arith)
one_less n (suc k) some h =
    let e : 28 + 12 * suc k ≡ 28 + 12 * k + 12 = omega arith in
    let g : suc k - 1 ≡ k = omega arith in
    let p : 2 ^ (28 + 12 * suc k) ≡ 2 ^ (28 + 12 * k) * 2 ^ 12 = ap (λ (i : ℕ). 2 ^ i) e ∙ pow-add 2 (28 + 12 * k) 12 in
    rw g (omega (arith, p))

-- ---- how many instructions a number takes

pub four_for : (n : ℕ) → n ≤ 2 ^ 40 → 4 ≡ most_for_number n
four_for n h =
    let e : nat_le n (2 ^ 40) ≡ true = grind (arith, nat_tests) in
    ap (λ (b : Bool). elim b as (λ _. ℕ) [ true ↦ 4 | false ↦ 8 ]) (sym e)

pub eight_for : (n : ℕ) → 2 ^ 40 < n → 8 ≡ most_for_number n
eight_for n h =
    let e : nat_le n (2 ^ 40) ≡ false = grind (arith, nat_tests) in
    ap (λ (b : Bool). elim b as (λ _. ℕ) [ true ↦ 4 | false ↦ 8 ]) (sym e)

pub counted : (old new : List Part) (n k rd : ℕ) → k ≡ most_for_number n → Adds k old new (Leads k Always (λ s t. Sets rd n s t)) →
    Adds (most_for_number n) old new (Leads (most_for_number n) Always (λ s t. Sets rd n s t))
counted old new n k rd is adds = subst (λ (m : ℕ). Adds m old new (Leads m Always (λ s t. Sets rd n s t))) is adds

pub eight_at_most : (n : ℕ) → most_for_number n ≤ 8
eight_at_most n = by (nat_le n (2 ^ 40))
  where
    by : (b : Bool) → elim b as (λ _. ℕ) [ true ↦ 4 | false ↦ 8 ] ≤ 8
    by true = omega arith
    by false = omega arith
