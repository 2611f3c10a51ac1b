-- Runs of one machine: how steps and costs add up, and what lasts.
use Rattle.std.proofs.Common.{◌≡◌, ℕ, zero, suc, ◌+◌, ◌*◌, ◌≤◌, refl, ap, arith, add-zero, add-suc}
use Rattle.std.proofs.Common.{inl, inr, subst, sym}
use Rattle.std.proofs.Math.Nat.{le-suc_iff}
use Rattle.std.specs.Prelude.{true, false, Some}
use Rattle.cmm_simulation.proofs.Prefixes.{within_refl, within_trans}
use Rattle.cmm_simulation.specs.Machine.{Machine, IsRightUntil, Lasts, Stands, after, spent}
use Rattle.cmm_simulation.specs.Seen.{Seen, IsWithin, End}

module _ {S L C E : Type 0} (M : Machine S L C E) where
  -- n steps and then m more
  pub after-add : (i j : ℕ) (s : S) → after M (i + j) s ≡ after M j (after M i s)
  after-add i zero s = rw (add-zero i) refl
  after-add i (suc j) s = rw (add-suc i j) (ap (M.step) (after-add i j s))

  -- costs add up as steps do
  pub spent-add : (cost : S → ℕ) (i j : ℕ) (s : S) → spent M cost (i + j) s ≡ spent M cost i s + spent M cost j (after M i s)
  spent-add cost i zero s = rw (add-zero i) (omega arith)
  spent-add cost i (suc j) s = rw (add-suc i j, after-add i j s) (omega (arith, spent-add cost i j s))

  -- steps of the same cost k cost k times their number
  pub spent-constant : (k n : ℕ) (s : S) → spent M (λ _. k) n s ≡ k * n
  spent-constant k zero s = omega arith
  spent-constant k (suc n) s = omega (arith, spent-constant k n s)

  -- costs of which j times one are at most k times another add up to no more
  pub spent_scaled : (j k : ℕ) (c d : S → ℕ) → ((s : S) → j * c s ≤ k * d s) → (n : ℕ) (s : S) → j * spent M c n s ≤ k * spent M d n s
  spent_scaled j k c d scaled zero s = omega arith
  spent_scaled j k c d scaled (suc n) s = omega (arith, spent_scaled j k c d scaled n s, scaled (after M n s))

  -- what holds after some steps, and every step keeps, holds after more
  kept_until : (P : S → Type 0) → ((u : S) → P u → P (M.step u)) → (m n : ℕ) (s : S) → m ≤ n → P (after M m s) → P (after M n s)
  kept_until P keeps m zero s le holds = grind arith
  kept_until P keeps m (suc n) s le holds =
      elim (le-suc_iff.0 le) [ inl le ↦ keeps _ (kept_until P keeps m n s le holds) | inr e ↦ subst (λ k. P (after M k s)) e holds ]

module _ {S L C E : Type 0} (M : Machine S L C E) where
  -- a run that is right by some steps and after one more is right by then
  pub right_further : (m : ℕ) (s : S) → IsRightUntil M m s → M.wrong (after M (suc m) s) ≡ false → IsRightUntil M (suc m) s
  right_further m s right more i le =
      elim (le-suc_iff.0 le) [ inl le ↦ right i le | inr e ↦ subst (λ k. M.wrong (after M k s) ≡ false) (sym e) more ]

  pub right_at_start : (s : S) → M.wrong s ≡ false → IsRightUntil M 0 s
  right_at_start s right i le = let e : i ≡ 0 = omega arith in subst (λ k. M.wrong (after M k s) ≡ false) (sym e) right

module _ {S L C E : Type 0} (M : Machine S L C E) (lasts : Lasts M) where
  -- what is seen after some steps is within what is seen after more
  pub grows_until : (m n : ℕ) (s : S) → m ≤ n → IsWithin (M.seen (after M m s)) (M.seen (after M n s))
  grows_until m n s le =
      kept_until M (λ u. IsWithin (M.seen (after M m s)) (M.seen u)) (λ u p. within_trans p (lasts.grows u)) m n s le (within_refl _)

  -- a run that is right after some steps was right before
  pub right_until : (m n : ℕ) (s : S) → m ≤ n → M.wrong (after M n s) ≡ false → M.wrong (after M m s) ≡ false
  right_until m n s le right = grind (arith, kept_until M (λ u. M.wrong u ≡ true) lasts.wrong m n s le)

  pub all_right : (n : ℕ) (s : S) → M.wrong (after M n s) ≡ false → IsRightUntil M n s
  all_right n s right i le = right_until i n s le right

  -- a run that is over stays over, and shows nothing more
  pub over_until : (ending : E) (seen : Seen L) (m n : ℕ) (s : S) → m ≤ n → Stands M (End ending) seen (after M m s) →
      Stands M (End ending) seen (after M n s)
  over_until ending seen = kept_until M (Stands M (End ending) seen) (λ u p. grind (arith, lasts.over u ending p.0))

  -- two ends of a run are the same
  pub one_end : (e f : E) (m n : ℕ) (s : S) → M.asks (after M m s) ≡ Some (End e) → M.asks (after M n s) ≡ Some (End f) → e ≡ f
  one_end e f m n s p q = grind (arith, over_until e (M.seen (after M m s)) m n s, over_until f (M.seen (after M n s)) n m s)
