-- Callee-saves registers that get their values one after the other.
use Rattle.std.proofs.Common.{◌≡◌, ◌≢◌, ℕ, zero, suc, ◌+◌, ◌<◌, ◌==◌, ◌&&◌, nat_lt, Bool, true, false, List, slice_index, refl, sym, ap, ◌∙◌, arith}
use Rattle.std.proofs.lemmas.Bool.Decides.{nat_tests}
use Rattle.rv_table.specs.Machine.{State}
use Rattle.rv_table.specs.Registers.{with_register}
use Rattle.cmm_abi.specs.Regions.{Place, word_at}
use Rattle.cmm_resume.specs.inside.Restoring.{had_registers}
use Rattle.rv_table.proofs.Shared.{with_register-other, with_register-same}
use Rattle.cmm_abi.specs.Registers.{is_callee_saves}
use Rattle.cmm_walk.specs.Activations.{order_of, register_in}
use Rattle.cmm_walk.proofs.Shared.{order_small, register_again, register_saved}

-- the registers once the first ones, so many, have these values
abbrev pub so_far : (ℕ → ℕ) → List ℕ → ℕ → ℕ → ℕ
so_far x had k n = elim (is_callee_saves n && nat_lt (order_of n) k) [ true ↦ slice_index had (order_of n) | false ↦ x n ]

order_again : (k : ℕ) → order_of (register_in k) ≡ k
order_again zero = refl
order_again (suc k) = omega arith

not_zero : (k : ℕ) → register_in k ≢ 0
not_zero zero is = absurd (omega arith)
not_zero (suc k) is = absurd (omega arith)

so_true : (x : ℕ → ℕ) (had : List ℕ) (k n : ℕ) → (is_callee_saves n && nat_lt (order_of n) k) ≡ true → so_far x had k n ≡ slice_index had (order_of n)
so_true x had k n is = rw (so_far, is) refl

so_same : (x : ℕ → ℕ) (had : List ℕ) (j k n : ℕ) → (is_callee_saves n && nat_lt (order_of n) j) ≡ (is_callee_saves n && nat_lt (order_of n) k) →
    so_far x had j n ≡ so_far x had k n
so_same x had j k n is = ap (λ (b : Bool). elim b [ true ↦ slice_index had (order_of n) | false ↦ x n ]) is

apart : (o k : ℕ) → o ≢ k → nat_lt o k ≡ nat_lt o (k + 1)
apart o k other = by (nat_lt o k) refl
  where
    by : (b : Bool) → nat_lt o k ≡ b → nat_lt o k ≡ nat_lt o (k + 1)
    by true is = let more : nat_lt o (k + 1) ≡ true = grind (arith, nat_tests) in rw (is, more) refl
    by false is = let more : nat_lt o (k + 1) ≡ false = grind (arith, nat_tests) in rw (is, more) refl

tests_same : (saved : Bool) (o k : ℕ) → (saved ≡ true → o ≢ k) → (saved && nat_lt o k) ≡ (saved && nat_lt o (k + 1))
tests_same false o k other = refl
tests_same true o k other = apart o k (other refl)

module _ (x y : ℕ → ℕ) (had : List ℕ) (k w : ℕ) (short : k < 11) (is : w ≡ slice_index had k) (each : (n : ℕ) → y n ≡ so_far x had k n) where
  here : with_register y (register_in k) w (register_in k) ≡ so_far x had (k + 1) (register_in k)
  here =
      let saved = register_saved k short in
      let more : nat_lt (order_of (register_in k)) (k + 1) ≡ true = rw (order_again k) (grind (arith, nat_tests)) in
      let both : (is_callee_saves (register_in k) && nat_lt (order_of (register_in k)) (k + 1)) ≡ true = rw (saved, more) refl in
      with_register-same y (register_in k) w (not_zero k) ∙ is ∙ ap (slice_index had) (sym (order_again k)) ∙ sym (so_true x had (k + 1) (register_in k) both)

  there : (n : ℕ) → n ≢ register_in k → with_register y (register_in k) w n ≡ so_far x had (k + 1) n
  there n other =
      with_register-other y (register_in k) w n other ∙ each n
      ∙ so_same x had k (k + 1) n (tests_same (is_callee_saves n) (order_of n) k (λ saved same. other (sym (register_again n saved) ∙ ap register_in same)))

  pub one_more : (n : ℕ) → with_register y (register_in k) w n ≡ so_far x had (k + 1) n
  one_more n = by (n == register_in k) refl
    where
      by : (b : Bool) → (n == register_in k) ≡ b → with_register y (register_in k) w n ≡ so_far x had (k + 1) n
      by true e = let same : n ≡ register_in k = grind (arith, nat_tests) in rw same here
      by false e = there n (λ same. absurd (grind (arith, nat_tests)))

-- once all have theirs
pub all_done : (x : ℕ → ℕ) (had : List ℕ) (n : ℕ) → so_far x had 11 n ≡ elim (is_callee_saves n) [ true ↦ slice_index had (order_of n) | false ↦ x n ]
all_done x had n = by (is_callee_saves n) refl
  where
    by : (b : Bool) → is_callee_saves n ≡ b → so_far x had 11 n ≡ elim (is_callee_saves n) [ true ↦ slice_index had (order_of n) | false ↦ x n ]
    by true is = let small = order_small n is in
        let below : nat_lt (order_of n) 11 ≡ true = grind (arith, nat_tests) in
        rw (so_far, is, below) refl
    by false is = rw (so_far, is) refl

-- what was read of the places of an activation
pub had_is : (places : ℕ → Place) (s : State) (had : List ℕ) → ((k : ℕ) → k < 11 → slice_index had k ≡ word_at s (places (register_in k))) → (n : ℕ) →
    elim (is_callee_saves n) [ true ↦ slice_index had (order_of n) | false ↦ s.registers n ] ≡ had_registers places s n
had_is places s had each n = by (is_callee_saves n) refl
  where
    by : (b : Bool) → is_callee_saves n ≡ b →
        elim (is_callee_saves n) [ true ↦ slice_index had (order_of n) | false ↦ s.registers n ] ≡ had_registers places s n
    by true is =
        let one : slice_index had (order_of n) ≡ word_at s (places n) = each (order_of n) (order_small n is) ∙ ap (λ (k : ℕ). word_at s (places k)) (register_again n is) in
        rw (had_registers, is, one) refl
    by false is = rw (had_registers, is) refl
