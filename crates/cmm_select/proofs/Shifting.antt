-- Shifts of 64 bits by any count: the result is cleared where the count is past the bits.
use Rattle.std.proofs.Common.{◌≡◌, ℕ, ◌*◌, ◌/◌, ◌%◌, ◌<◌, ◌≤◌, ◌^◌, ◌⊎◌, inl, inr, refl, sym, ◌∙◌, ap, arith, pos, min}
use Rattle.std.specs.Prelude.{Bool, true, false, nat_lt, IsTrue}
use Rattle.std.proofs.Math.Nat.{div-le_self}
use Rattle.std.proofs.lemmas.Bool.{cases_lt}
use Rattle.std.proofs.lemmas.Bool.Decides.{nat_tests}
use Rattle.cmm_words.specs.declared.operators.Op2.{Op2}
use Rattle.cmm_words.specs.declared.operators.Op2.TheVariants as op
use Rattle.cmm_words.specs.declared.width.Width.TheVariants.{W64}
use Rattle.rv_asm.specs.Appending.{Then}
use Rattle.rv_asm.specs.Parts.{Code}
use Rattle.rv_table.specs.Machine.{State}
use Rattle.rv_table.specs.Row.{row}
use Rattle.rv_table.specs.Words.{flag, modulo, product, shifted_left, shifted_right}
use Rattle.rv_table.specs.declared.effects.Effect.TheVariants.{Set}
use Rattle.rv_table.specs.declared.instruction.Instr.{Instr}
use Rattle.rv_table.specs.declared.instruction.Instr.TheVariants.{Mul, Sltiu}
use Rattle.cmm_effects.proofs.Shared.{keeps_then, leads_set, leads_then, leads_weaker, runs_of, set_keeps}
use Rattle.cmm_effects.specs.Changes.{Sets}
use Rattle.cmm_effects.specs.Pieces.{Always, Leads}
use Rattle.cmm_select.proofs.Places.{One}
use Rattle.cmm_select.proofs.Wide.{Gives, some_same}
use Rattle.cmm_select.specs.Operators.{Operates}
use Rattle.cmm_select.specs.inside.Wide.{direct, is_shift}

-- a number where the count is below 64, and else 0
abbrev below_64 : (ℕ → ℕ → ℕ) → ℕ → ℕ → ℕ
below_64 f a b = product (f a b) (flag (nat_lt b (modulo 64 (pos 64))))

by_one : (x : ℕ) → product (x % 2 ^ 64) 1 ≡ x % 2 ^ 64
by_one x = omega arith

by_none : (x : ℕ) → product x 0 ≡ 0
by_none x = omega arith

is_below : (b : ℕ) → b < 64 → nat_lt b (modulo 64 (pos 64)) ≡ true
is_below b h = grind (arith, nat_tests)

is_past : (b : ℕ) → 64 ≤ b → nat_lt b (modulo 64 (pos 64)) ≡ false
is_past b h = grind (arith, nat_tests)

least : (b : ℕ) → b < 64 → min b 64 ≡ b
least b h = grind arith

most : (b : ℕ) → 64 ≤ b → min b 64 ≡ 64
most b h = grind arith

kept_count : (b : ℕ) → b < 64 → b % 64 ≡ b
kept_count b h = omega arith

shl_row : Gives op.Shl (below_64 (λ a b. shifted_left a (b % 64)))
shl_row a b v first second is = by (cases_lt b 64)
  where
    by : (b < 64) ⊎ (64 ≤ b) → below_64 (λ a b. shifted_left a (b % 64)) a b ≡ v
    by (inl h) =
        ap (λ (t : Bool). product (shifted_left a (b % 64)) (flag t)) (is_below b h)
        ∙ by_one (a * 2 ^ (b % 64))
        ∙ ap (λ (n : ℕ). a * 2 ^ n % 2 ^ 64) (kept_count b h ∙ sym (least b h))
        ∙ some_same (a * 2 ^ min b 64 % 2 ^ 64) v is
    by (inr h) =
        let whole : a * 2 ^ 64 % 2 ^ 64 ≡ v = sym (ap (λ (n : ℕ). a * 2 ^ n % 2 ^ 64) (most b h)) ∙ some_same (a * 2 ^ min b 64 % 2 ^ 64) v is in
        ap (λ (t : Bool). product (shifted_left a (b % 64)) (flag t)) (is_past b h) ∙ by_none (shifted_left a (b % 64)) ∙ omega arith

quotient_below : (a n : ℕ) → a < 2 ^ 64 → a / n < 2 ^ 64
quotient_below a n h = omega (arith, div-le_self a n)

shrl_row : Gives op.Shrl (below_64 (λ a b. shifted_right a (b % 64)))
shrl_row a b v first second is = by (cases_lt b 64)
  where
    one : (x : ℕ) → x < 2 ^ 64 → product x 1 ≡ x
    one x h = omega arith

    by : (b < 64) ⊎ (64 ≤ b) → below_64 (λ a b. shifted_right a (b % 64)) a b ≡ v
    by (inl h) =
        ap (λ (t : Bool). product (shifted_right a (b % 64)) (flag t)) (is_below b h)
        ∙ one (a / 2 ^ (b % 64)) (quotient_below a (2 ^ (b % 64)) first)
        ∙ ap (λ (n : ℕ). a / 2 ^ n) (kept_count b h ∙ sym (least b h))
        ∙ some_same (a / 2 ^ min b 64) v is
    by (inr h) =
        let whole : a / 2 ^ 64 ≡ v = sym (ap (λ (n : ℕ). a / 2 ^ n) (most b h)) ∙ some_same (a / 2 ^ min b 64) v is in
        ap (λ (t : Bool). product (shifted_right a (b % 64)) (flag t)) (is_past b h) ∙ by_none (shifted_right a (b % 64)) ∙ omega arith

module _ (x : Code) (from to : ℕ) where
  shifts : (o : Op2) (i : Instr) (f : ℕ → ℕ → ℕ) → Gives o (below_64 f) → ((r : ℕ → ℕ) (pc : ℕ) → row r pc i ≡ Set 5 (f (r 5) (r 7))) →
      Then (One (Sltiu 6 7 (pos 64))) (Then (One i) (One (Mul 5 5 6))) x from to → Leads 3 Always (Operates o W64) x from to
  shifts o i f gives is does =
      leads_weaker
      (leads_then
      (leads_set x (Sltiu 6 7 (pos 64)) from does.0 6 (λ g. flag (nat_lt (g 7) (modulo 64 (pos 64)))) (omega arith) (λ g pc. refl) does.1)
      (runs_of (leads_then
      (leads_set x i does.0 does.2.0 5 (λ g. f (g 5) (g 7)) (omega arith) is does.2.1)
      (runs_of (leads_set x (Mul 5 5 6) does.2.0 to 5 (λ g. product (g 5) (g 6)) (omega arith) (λ g pc. refl) does.2.2))
      (λ s t sound also p q. tt)))
      (λ s t sound also p q. tt))
      (omega arith) (λ s sound p. tt)
      (λ s w sound p three. all s three.0 three.2.0 w (sound.registers 5) (sound.registers 7) three.1 three.2.1 three.2.2)
    where
      all : (s t u w : State) → s.registers 5 < 2 ^ 64 → s.registers 7 < 2 ^ 64 → Sets 6 (flag (nat_lt (s.registers 7) (modulo 64 (pos 64)))) s t →
          Sets 5 (f (t.registers 5) (t.registers 7)) t u → Sets 5 (product (u.registers 5) (u.registers 6)) u w → Operates o W64 s w
      all s t u w small also first second third =
          let operands : f (t.registers 5) (t.registers 7) ≡ f (s.registers 5) (s.registers 7) =
          ap (λ (a : ℕ). f a (t.registers 7)) (first.others 5 refl) ∙ ap (f (s.registers 5)) (first.others 7 refl)
          in
          let test : u.registers 6 ≡ flag (nat_lt (s.registers 7) (modulo 64 (pos 64))) = second.others 6 refl ∙ first.given in
          let value : w.registers 5 ≡ below_64 f (s.registers 5) (s.registers 7) =
          third.given ∙ ap (λ (a : ℕ). product a (u.registers 6)) (second.given ∙ operands) ∙ ap (product (f (s.registers 5) (s.registers 7))) test
          in
          record {
            given = λ v has. value ∙ gives (s.registers 5) (s.registers 7) v small also has;
            keeps = keeps_then s t w (set_keeps 6 (flag (nat_lt (s.registers 7) (modulo 64 (pos 64)))) s t refl first)
                (keeps_then t u w (set_keeps 5 (f (t.registers 5) (t.registers 7)) t u refl second) (set_keeps 5 (product (u.registers 5) (u.registers 6)) u w refl third));
          }

  pub does_shift : (o : Op2) → IsTrue (is_shift o) → Then (One (Sltiu 6 7 (pos 64))) (Then (One (direct o 5 5 7)) (One (Mul 5 5 6))) x from to →
      Leads 3 Always (Operates o W64) x from to
  does_shift op.Shl is does = shifts op.Shl (direct op.Shl 5 5 7) (λ a b. shifted_left a (b % 64)) shl_row (λ r pc. refl) does
  does_shift op.Shrl is does = shifts op.Shrl (direct op.Shrl 5 5 7) (λ a b. shifted_right a (b % 64)) shrl_row (λ r pc. refl) does
  does_shift _ is does = absurd (cc)
