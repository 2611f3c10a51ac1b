-- Divisions of signed words that round down, by those that round toward zero: whether a quotient was rounded up is told by the sign of
-- the remainder times the divisor, the top bit of the upper half of their product.
use Rattle.std.proofs.Common.{◌≡◌, ℕ, zero, suc, ◌-◌, ◌*◌, ◌<◌, ◌≤◌, ◌^◌, ◌⊎◌, inl, inr, refl, sym, ◌∙◌, ap, arith, ℤ, pos, negsuc, neg_ℤ, ◌*ℤ◌, int_lt, not, ◌&&◌, mul-le-mul, mul-pos, zero-mul, zero-lt-suc, Some, None}
use Rattle.std.specs.Prelude.{Bool, true, false, ◌==◌, if◌then◌else◌}
use Rattle.std.specs.Bool.{beq}
use Rattle.std.proofs.lemmas.Bool.{cases_lt}
use Rattle.std.proofs.lemmas.Bool.Decides.{nat_tests}
use Rattle.std.proofs.lemmas.Int.{ints}
use Rattle.cmm_words.proofs.Shared.{wrapped-below}
use Rattle.cmm_words.specs.Integers.{quotient_toward_zero, quotient_down, remainder as rest_of, signed as word_signed, wrapped}
use Rattle.cmm_words.specs.Laws.{DivFromQuot, ModFromRem, is_rounded_up}
use Rattle.cmm_words.specs.Words.{holds, value2}
use Rattle.cmm_words.specs.declared.operators.Cmp.TheVariants.{Lt}
use Rattle.cmm_words.specs.declared.operators.Op2.TheVariants as op
use Rattle.cmm_words.specs.declared.width.Width.TheVariants.{W64}
use Rattle.rv_asm.specs.Appending.{Then}
use Rattle.rv_asm.specs.Parts.{Code}
use Rattle.rv_table.specs.Machine.{State}
use Rattle.rv_table.specs.Words.{difference, flag, product, quotient, remainder, shifted_right, signed, sum, upper_half}
use Rattle.rv_table.specs.declared.instruction.Instr.TheVariants.{Add, Div, Mul, Mulh, Rem, Srli, Sub}
use Rattle.cmm_effects.proofs.Shared.{keeps_then, leads_set, leads_then, leads_weaker, runs_of, set_keeps}
use Rattle.cmm_effects.specs.Changes.{Sets}
use Rattle.cmm_effects.specs.Pieces.{Always, Leads}
use Rattle.cmm_select.proofs.Places.{One}
use Rattle.cmm_select.proofs.Wide.{Gives, add_row, divided_some, quot_row, rem_row, some_same, sub_row}
use Rattle.cmm_select.specs.Operators.{Operates}

-- the top bit of the upper half
abbrev pub top : ℤ → ℕ
top z = shifted_right (upper_half z) 63

top_positive : (n : ℕ) → n < 2 ^ 127 → top (pos n) ≡ 0
top_positive n h = omega arith

top_negative : (n : ℕ) → n < 2 ^ 127 → top (negsuc n) ≡ 1
top_negative n h = omega arith

small_product : (a b : ℕ) → a ≤ 2 ^ 63 → b ≤ 2 ^ 63 → a * b < 2 ^ 127
small_product a b h g = let p : a * b ≤ 2 ^ 63 * 2 ^ 63 = mul-le-mul h g in omega arith

-- the negative of a product of two numbers that aren't 0
negative_product : (a b : ℕ) → suc a ≤ 2 ^ 63 → suc b ≤ 2 ^ 63 → top (neg_ℤ (pos (suc a * suc b))) ≡ 1
negative_product a b h g = by (suc a * suc b) refl (small_product (suc a) (suc b) h g)
  where
    positive : suc a * suc b ≡ 0 → ⊥
    positive e = let h : 0 < suc a * suc b = mul-pos (zero-lt-suc a) (zero-lt-suc b) in absurd (omega arith)

    by : (n : ℕ) → suc a * suc b ≡ n → n < 2 ^ 127 → top (neg_ℤ (pos n)) ≡ 1
    by zero e small = absurd (positive e)
    by (suc n) e small = top_negative n (omega arith)

read_low : (a : ℕ) → a < 2 ^ 63 → signed 64 a ≡ pos a
read_low a h = grind (arith, ints, nat_tests)

read_high : (a : ℕ) → 2 ^ 63 ≤ a → a < 2 ^ 64 → signed 64 a ≡ negsuc (2 ^ 64 - 1 - a)
read_high a h g = grind (arith, ints, nat_tests)

lt_low : (a : ℕ) → a < 2 ^ 63 → holds Lt W64 a 0 ≡ false
lt_low a h = let e : word_signed 64 a ≡ pos a = grind (arith, ints, nat_tests) in ap (λ (z : ℤ). int_lt z (pos 0)) e ∙ grind (arith, nat_tests)

lt_high : (a : ℕ) → 2 ^ 63 ≤ a → a < 2 ^ 64 → holds Lt W64 a 0 ≡ true
lt_high a h g = let e : word_signed 64 a ≡ negsuc (2 ^ 64 - 1 - a) = grind (arith, ints, nat_tests) in ap (λ (z : ℤ). int_lt z (pos 0)) e ∙ grind (arith, nat_tests)

-- a remainder, a divisor that isn't 0, and the sign of their product
rounds : (r b : ℕ) → r < 2 ^ 64 → b < 2 ^ 64 → (b == 0) ≡ false → top (signed 64 r *ℤ signed 64 b) ≡ flag (is_rounded_up W64 b r)
rounds r b first second some = by (cases_lt r (2 ^ 63)) (cases_lt b (2 ^ 63))
  where
    both : (x y : ℤ) → signed 64 r ≡ x → signed 64 b ≡ y → top (signed 64 r *ℤ signed 64 b) ≡ top (x *ℤ y)
    both x y e g = ap (λ (z : ℤ). top (z *ℤ signed 64 b)) e ∙ ap (λ (z : ℤ). top (x *ℤ z)) g

    tests : (p q : Bool) → holds Lt W64 r 0 ≡ p → holds Lt W64 b 0 ≡ q → (not (r == 0) && not (beq p q)) ≡ is_rounded_up W64 b r
    tests p q e g = ap (λ (t : Bool). not (r == 0) && not (beq t q)) (sym e) ∙ ap (λ (t : Bool). not (r == 0) && not (beq (holds Lt W64 r 0) t)) (sym g)

    and_false : (p : Bool) → (p && false) ≡ false
    and_false true = refl
    and_false false = refl

    no_flag : (p : Bool) → flag (p && false) ≡ 0
    no_flag p = ap flag (and_false p)

    low_high : (k : ℕ) → k < 2 ^ 63 → r < 2 ^ 63 → top (pos r *ℤ negsuc k) ≡ flag (not (r == 0) && true)
    low_high k h low = on r low
      where
        on : (n : ℕ) → n < 2 ^ 63 → top (pos n *ℤ negsuc k) ≡ flag (not (n == 0) && true)
        on zero g = ap (λ (m : ℕ). top (neg_ℤ (pos m))) (zero-mul (suc k))
        on (suc n) g =
            let e : (suc n == 0) ≡ false = grind (arith, nat_tests) in
            negative_product n k (omega arith) (omega arith) ∙ ap (λ (t : Bool). flag (not t && true)) (sym e)

    high_low : (k : ℕ) → k < 2 ^ 63 → b < 2 ^ 63 → top (negsuc k *ℤ pos b) ≡ 1
    high_low k h low = on b low some
      where
        on : (n : ℕ) → n < 2 ^ 63 → (n == 0) ≡ false → top (negsuc k *ℤ pos n) ≡ 1
        on zero g never = absurd (cc)
        on (suc n) g never = negative_product k n (omega arith) (omega arith)

    by : (r < 2 ^ 63) ⊎ (2 ^ 63 ≤ r) → (b < 2 ^ 63) ⊎ (2 ^ 63 ≤ b) → top (signed 64 r *ℤ signed 64 b) ≡ flag (is_rounded_up W64 b r)
    by (inl h) (inl g) =
        both (pos r) (pos b) (read_low r h) (read_low b g) ∙ top_positive (r * b) (small_product r b (omega arith) (omega arith))
        ∙ sym (no_flag (not (r == 0))) ∙ ap flag (tests false false (lt_low r h) (lt_low b g))
    by (inl h) (inr g) =
        both (pos r) (negsuc (2 ^ 64 - 1 - b)) (read_low r h) (read_high b g second) ∙ low_high (2 ^ 64 - 1 - b) (omega arith) h
        ∙ ap flag (tests false true (lt_low r h) (lt_high b g second))
    by (inr h) (inl g) =
        let e : (r == 0) ≡ false = grind (arith, nat_tests) in
        both (negsuc (2 ^ 64 - 1 - r)) (pos b) (read_high r h first) (read_low b g) ∙ high_low (2 ^ 64 - 1 - r) (omega arith) g
        ∙ ap (λ (t : Bool). flag (not t && true)) (sym e) ∙ ap flag (tests true false (lt_high r h first) (lt_low b g))
    by (inr h) (inr g) =
        both (negsuc (2 ^ 64 - 1 - r)) (negsuc (2 ^ 64 - 1 - b)) (read_high r h first) (read_high b g second)
        ∙ top_positive (suc (2 ^ 64 - 1 - r) * suc (2 ^ 64 - 1 - b)) (small_product (suc (2 ^ 64 - 1 - r)) (suc (2 ^ 64 - 1 - b)) (omega arith) (omega arith))
        ∙ sym (no_flag (not (r == 0))) ∙ ap flag (tests true true (lt_high r h first) (lt_high b g second))

-- where a division has a value, those that round toward zero have theirs
some_quotient : (a b : ℕ) → a < 2 ^ 64 → b < 2 ^ 64 → (b == 0) ≡ false → value2 op.Quot W64 a b ≡ Some (quotient 64 a b)
some_quotient a b first second some =
    let u = wrapped 64 (quotient_toward_zero (word_signed 64 a) (word_signed 64 b)) in
    let has : value2 op.Quot W64 a b ≡ Some u = ap (λ (t : Bool). if t then None else Some u) some in
    has ∙ ap Some (sym (quot_row a b u first second has))

some_remainder : (a b : ℕ) → a < 2 ^ 64 → b < 2 ^ 64 → (b == 0) ≡ false → value2 op.Rem W64 a b ≡ Some (remainder 64 a b)
some_remainder a b first second some =
    let u = wrapped 64 (rest_of (word_signed 64 a) (word_signed 64 b) (quotient_toward_zero (word_signed 64 a) (word_signed 64 b))) in
    let has : value2 op.Rem W64 a b ≡ Some u = ap (λ (t : Bool). if t then None else Some u) some in
    has ∙ ap Some (sym (rem_row a b u first second has))

abbrev pub div_value : ℕ → ℕ → ℕ
div_value a b = difference (quotient 64 a b) (top (signed 64 (remainder 64 a b) *ℤ signed 64 b))

abbrev pub mod_value : ℕ → ℕ → ℕ
mod_value a b = sum (remainder 64 a b) (product (top (signed 64 (remainder 64 a b) *ℤ signed 64 b)) b)

word_of : (u n : ℕ) → u ≡ n → n < 2 ^ 64 → u < 2 ^ 64
word_of u n e h = omega arith

quotient_fits : (a b : ℕ) → a < 2 ^ 64 → b < 2 ^ 64 → (b == 0) ≡ false → quotient 64 a b < 2 ^ 64
quotient_fits a b first second some =
    let z = quotient_toward_zero (word_signed 64 a) (word_signed 64 b) in
    let has : value2 op.Quot W64 a b ≡ Some (wrapped 64 z) = ap (λ (t : Bool). if t then None else Some (wrapped 64 z)) some in
    word_of (quotient 64 a b) (wrapped 64 z) (quot_row a b (wrapped 64 z) first second has) (wrapped-below 64 z)

remainder_fits : (a b : ℕ) → a < 2 ^ 64 → b < 2 ^ 64 → (b == 0) ≡ false → remainder 64 a b < 2 ^ 64
remainder_fits a b first second some =
    let z = rest_of (word_signed 64 a) (word_signed 64 b) (quotient_toward_zero (word_signed 64 a) (word_signed 64 b)) in
    let has : value2 op.Rem W64 a b ≡ Some (wrapped 64 z) = ap (λ (t : Bool). if t then None else Some (wrapped 64 z)) some in
    word_of (remainder 64 a b) (wrapped 64 z) (rem_row a b (wrapped 64 z) first second has) (wrapped-below 64 z)

pub div_row : DivFromQuot → Gives op.Div div_value
div_row law a b v first second is =
    let x = word_signed 64 a in
    let y = word_signed 64 b in
    let some = (divided_some b (wrapped 64 (quotient_down x y)) v is).0 in
    let q = quotient 64 a b in
    let r = remainder 64 a b in
    let q_fits : q < 2 ^ 64 = quotient_fits a b first second some in
    let known : (if is_rounded_up W64 b r then value2 op.Sub W64 q 1 else Some q) ≡ Some v =
    sym (law W64 a b q r first second (some_quotient a b first second some) (some_remainder a b first second some)) ∙ is
    in
    ap (difference q) (rounds r b (remainder_fits a b first second some) second some) ∙ by q q_fits (is_rounded_up W64 b r) known
  where
    by : (q : ℕ) → q < 2 ^ 64 → (t : Bool) → (if t then value2 op.Sub W64 q 1 else Some q) ≡ Some v → difference q (flag t) ≡ v
    by q fits true known = sub_row q 1 v fits (omega arith) known
    by q fits false known = let e : q ≡ v = some_same q v known in omega arith

pub mod_row : ModFromRem → Gives op.Mod mod_value
mod_row law a b v first second is =
    let x = word_signed 64 a in
    let y = word_signed 64 b in
    let some = (divided_some b (wrapped 64 (rest_of x y (quotient_down x y))) v is).0 in
    let r = remainder 64 a b in
    let r_fits : r < 2 ^ 64 = remainder_fits a b first second some in
    let known : (if is_rounded_up W64 b r then value2 op.Add W64 r b else Some r) ≡ Some v =
    sym (law W64 a b r first second (some_remainder a b first second some)) ∙ is
    in
    ap (λ (n : ℕ). sum r (product n b)) (rounds r b r_fits second some) ∙ by r r_fits (is_rounded_up W64 b r) known
  where
    by : (r : ℕ) → r < 2 ^ 64 → (t : Bool) → (if t then value2 op.Add W64 r b else Some r) ≡ Some v → sum r (product (flag t) b) ≡ v
    by r fits true known =
        let e : product 1 b ≡ b = omega arith in
        ap (sum r) e ∙ add_row r b v fits second known
    by r fits false known =
        let e : r ≡ v = some_same r v known in
        let n : product 0 b ≡ 0 = omega arith in
        ap (sum r) n ∙ omega arith

-- ---- as code

module _ (x : Code) (from to : ℕ) where
  pub does_div : DivFromQuot → Then (One (Rem 6 5 7)) (Then (One (Div 5 5 7)) (Then (One (Mulh 6 6 7)) (Then (One (Srli 6 6 (pos 63))) (One (Sub 5 5 6))))) x from to →
      Leads 5 Always (Operates op.Div W64) x from to
  does_div law d =
      leads_weaker
      (leads_then (leads_set x (Rem 6 5 7) from d.0 6 (λ g. remainder 64 (g 5) (g 7)) (omega arith) (λ g pc. refl) d.1)
      (runs_of (leads_then (leads_set x (Div 5 5 7) d.0 d.2.0 5 (λ g. quotient 64 (g 5) (g 7)) (omega arith) (λ g pc. refl) d.2.1)
      (runs_of (leads_then (leads_set x (Mulh 6 6 7) d.2.0 d.2.2.0 6 (λ g. upper_half (signed 64 (g 6) *ℤ signed 64 (g 7))) (omega arith) (λ g pc. refl) d.2.2.1)
      (runs_of (leads_then (leads_set x (Srli 6 6 (pos 63)) d.2.2.0 d.2.2.2.0 6 (λ g. shifted_right (g 6) 63) (omega arith) (λ g pc. refl) d.2.2.2.1)
      (runs_of (leads_set x (Sub 5 5 6) d.2.2.2.0 to 5 (λ g. difference (g 5) (g 6)) (omega arith) (λ g pc. refl) d.2.2.2.2))
      (λ s t sound also p q. tt))) (λ s t sound also p q. tt))) (λ s t sound also p q. tt))) (λ s t sound also p q. tt))
      (omega arith) (λ s sound p. tt)
      (λ s z sound p k. all s k.0 k.2.0 k.2.2.0 k.2.2.2.0 z (sound.registers 5) (sound.registers 7) k.1 k.2.1 k.2.2.1 k.2.2.2.1 k.2.2.2.2)
    where
      all : (s a b c e z : State) → s.registers 5 < 2 ^ 64 → s.registers 7 < 2 ^ 64 → Sets 6 (remainder 64 (s.registers 5) (s.registers 7)) s a →
          Sets 5 (quotient 64 (a.registers 5) (a.registers 7)) a b → Sets 6 (upper_half (signed 64 (b.registers 6) *ℤ signed 64 (b.registers 7))) b c →
          Sets 6 (shifted_right (c.registers 6) 63) c e → Sets 5 (difference (e.registers 5) (e.registers 6)) e z → Operates op.Div W64 s z
      all s a b c e z small also first second third fourth fifth =
          let divisor : b.registers 7 ≡ s.registers 7 = second.others 7 refl ∙ first.others 7 refl in
          let rest : b.registers 6 ≡ remainder 64 (s.registers 5) (s.registers 7) = second.others 6 refl ∙ first.given in
          let sign : e.registers 6 ≡ top (signed 64 (remainder 64 (s.registers 5) (s.registers 7)) *ℤ signed 64 (s.registers 7)) =
          fourth.given ∙ ap (λ (n : ℕ). shifted_right n 63) third.given ∙ ap (λ (n : ℕ). top (signed 64 n *ℤ signed 64 (b.registers 7))) rest
          ∙ ap (λ (n : ℕ). top (signed 64 (remainder 64 (s.registers 5) (s.registers 7)) *ℤ signed 64 n)) divisor
          in
          let toward : e.registers 5 ≡ quotient 64 (s.registers 5) (s.registers 7) =
          fourth.others 5 refl ∙ third.others 5 refl ∙ second.given ∙ ap (λ (n : ℕ). quotient 64 n (a.registers 7)) (first.others 5 refl)
          ∙ ap (quotient 64 (s.registers 5)) (first.others 7 refl)
          in
          let value : z.registers 5 ≡ div_value (s.registers 5) (s.registers 7) =
          fifth.given ∙ ap (λ (n : ℕ). difference n (e.registers 6)) toward ∙ ap (difference (quotient 64 (s.registers 5) (s.registers 7))) sign
          in
          record {
            given = λ v has. value ∙ div_row law (s.registers 5) (s.registers 7) v small also has;
            keeps = keeps_then s a z (set_keeps 6 (remainder 64 (s.registers 5) (s.registers 7)) s a refl first)
                (keeps_then a b z (set_keeps 5 (quotient 64 (a.registers 5) (a.registers 7)) a b refl second)
                (keeps_then b c z (set_keeps 6 (upper_half (signed 64 (b.registers 6) *ℤ signed 64 (b.registers 7))) b c refl third)
                (keeps_then c e z (set_keeps 6 (shifted_right (c.registers 6) 63) c e refl fourth) (set_keeps 5 (difference (e.registers 5) (e.registers 6)) e z refl fifth))));
          }

  pub does_mod : ModFromRem → Then (One (Rem 5 5 7)) (Then (One (Mulh 6 5 7)) (Then (One (Srli 6 6 (pos 63))) (Then (One (Mul 6 6 7)) (One (Add 5 5 6))))) x from to →
      Leads 5 Always (Operates op.Mod W64) x from to
  does_mod law d =
      leads_weaker
      (leads_then (leads_set x (Rem 5 5 7) from d.0 5 (λ g. remainder 64 (g 5) (g 7)) (omega arith) (λ g pc. refl) d.1)
      (runs_of (leads_then (leads_set x (Mulh 6 5 7) d.0 d.2.0 6 (λ g. upper_half (signed 64 (g 5) *ℤ signed 64 (g 7))) (omega arith) (λ g pc. refl) d.2.1)
      (runs_of (leads_then (leads_set x (Srli 6 6 (pos 63)) d.2.0 d.2.2.0 6 (λ g. shifted_right (g 6) 63) (omega arith) (λ g pc. refl) d.2.2.1)
      (runs_of (leads_then (leads_set x (Mul 6 6 7) d.2.2.0 d.2.2.2.0 6 (λ g. product (g 6) (g 7)) (omega arith) (λ g pc. refl) d.2.2.2.1)
      (runs_of (leads_set x (Add 5 5 6) d.2.2.2.0 to 5 (λ g. sum (g 5) (g 6)) (omega arith) (λ g pc. refl) d.2.2.2.2))
      (λ s t sound also p q. tt))) (λ s t sound also p q. tt))) (λ s t sound also p q. tt))) (λ s t sound also p q. tt))
      (omega arith) (λ s sound p. tt)
      (λ s z sound p k. all s k.0 k.2.0 k.2.2.0 k.2.2.2.0 z (sound.registers 5) (sound.registers 7) k.1 k.2.1 k.2.2.1 k.2.2.2.1 k.2.2.2.2)
    where
      all : (s a b c e z : State) → s.registers 5 < 2 ^ 64 → s.registers 7 < 2 ^ 64 → Sets 5 (remainder 64 (s.registers 5) (s.registers 7)) s a →
          Sets 6 (upper_half (signed 64 (a.registers 5) *ℤ signed 64 (a.registers 7))) a b → Sets 6 (shifted_right (b.registers 6) 63) b c →
          Sets 6 (product (c.registers 6) (c.registers 7)) c e → Sets 5 (sum (e.registers 5) (e.registers 6)) e z → Operates op.Mod W64 s z
      all s a b c e z small also first second third fourth fifth =
          let divisor : c.registers 7 ≡ s.registers 7 = third.others 7 refl ∙ second.others 7 refl ∙ first.others 7 refl in
          let sign : c.registers 6 ≡ top (signed 64 (remainder 64 (s.registers 5) (s.registers 7)) *ℤ signed 64 (s.registers 7)) =
          third.given ∙ ap (λ (n : ℕ). shifted_right n 63) second.given ∙ ap (λ (n : ℕ). top (signed 64 n *ℤ signed 64 (a.registers 7))) first.given
          ∙ ap (λ (n : ℕ). top (signed 64 (remainder 64 (s.registers 5) (s.registers 7)) *ℤ signed 64 n)) (first.others 7 refl)
          in
          let more : e.registers 6 ≡ product (top (signed 64 (remainder 64 (s.registers 5) (s.registers 7)) *ℤ signed 64 (s.registers 7))) (s.registers 7) =
          fourth.given ∙ ap (λ (n : ℕ). product n (c.registers 7)) sign
          ∙ ap (product (top (signed 64 (remainder 64 (s.registers 5) (s.registers 7)) *ℤ signed 64 (s.registers 7)))) divisor
          in
          let rest : e.registers 5 ≡ remainder 64 (s.registers 5) (s.registers 7) = fourth.others 5 refl ∙ third.others 5 refl ∙ second.others 5 refl ∙ first.given in
          let value : z.registers 5 ≡ mod_value (s.registers 5) (s.registers 7) =
          fifth.given ∙ ap (λ (n : ℕ). sum n (e.registers 6)) rest ∙ ap (sum (remainder 64 (s.registers 5) (s.registers 7))) more
          in
          record {
            given = λ v has. value ∙ mod_row law (s.registers 5) (s.registers 7) v small also has;
            keeps = keeps_then s a z (set_keeps 5 (remainder 64 (s.registers 5) (s.registers 7)) s a refl first)
                (keeps_then a b z (set_keeps 6 (upper_half (signed 64 (a.registers 5) *ℤ signed 64 (a.registers 7))) a b refl second)
                (keeps_then b c z (set_keeps 6 (shifted_right (b.registers 6) 63) b c refl third)
                (keeps_then c e z (set_keeps 6 (product (c.registers 6) (c.registers 7)) c e refl fourth) (set_keeps 5 (sum (e.registers 5) (e.registers 6)) e z refl fifth))));
          }
