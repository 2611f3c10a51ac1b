-- Simulations: machines in lock-step, simulations that pass nothing over, and what a simulation gives along a run.
use Rattle.std.proofs.Common.{◌≡◌, ◌⊎◌, ℕ, zero, suc, ◌+◌, ◌<◌, ◌≤◌, inl, inr, arith}
use Rattle.std.specs.Prelude.{false}
use Rattle.cmm_simulation.proofs.Paths.{one_step, joined, nowhere, weaker}
use Rattle.cmm_simulation.proofs.Prefixes.{prefix_refl}
use Rattle.cmm_simulation.specs.Machine.{Machine, after, spent}
use Rattle.cmm_simulation.specs.Observing.{Level, Passes}
use Rattle.cmm_simulation.specs.Simulation.{Below, Leads, Simulates, SimulatesLazily}

module _ {S T L C E : Type 0} {A : Machine S L C E} {a : S → ℕ} {B : Machine T L C E} {b : T → ℕ} {R : S → T → Type 0} where
  -- related states are level, and each step that does not go wrong leads to related ones
  pub stepwise : ((s : S) (t : T) → R s t → Level A B s t) →
      ((s : S) (t : T) → R s t → A.wrong (A.step s) ≡ false → Leads B b (Passes A B s) (R (A.step s)) 1 (a s) t) → Simulates A a B b R
  stepwise level leads = record {
    level = λ rank s t related. level s t related;
    leads = λ rank s t related right. inl (weaker (leads s t related right) (λ u p. p) (λ u later. (0, omega arith, later)) (omega arith) (λ n le. le));
  }

  -- and such a simulation gives this of each step
  pub each_leads : Simulates A a B b R → (s : S) (t : T) → R s t → A.wrong (A.step s) ≡ false → Leads B b (Passes A B s) (R (A.step s)) 1 (a s) t
  each_leads simulates s t related right = by (simulates.leads 0 s t related right)
    where
      by : Leads B b (Passes A B s) (Below 1 (λ rank. R) (A.step s)) 1 (a s) t ⊎ Below 0 (λ rank. R) (A.step s) t →
          Leads B b (Passes A B s) (R (A.step s)) 1 (a s) t
      by (inl path) = weaker path (λ u p. p) (λ u below. below.2) (omega arith) (λ n le. le)
      by (inr none) = absurd (omega (arith, none.1))

  -- machines in lock-step: related states show the same and stand at the same event, and steps that do not go wrong keep them so
  pub in_lock_step :
      ((s : S) (t : T) → R s t → (A.seen s ≡ B.seen t) × (A.asks s ≡ B.asks t) × (A.wrong s ≡ B.wrong t) × (b t ≤ a s)) →
      ((s : S) (t : T) → R s t → A.wrong (A.step s) ≡ false → R (A.step s) (B.step t)) → Simulates A a B b R
  in_lock_step same next =
      stepwise (λ s t related. grind (arith, same s t related))
      (λ s t related right. let later = next s t related right in
      one_step (grind (arith, same s t related, same _ _ later, prefix_refl)) later (same s t related).3)

module _ {S T L C E : Type 0} (A : Machine S L C E) (a : S → ℕ) (B : Machine T L C E) (b : T → ℕ) (slack : ℕ) (R : ℕ → S → T → Type 0) where
  -- a step that is done, or passed over from a rank that is low enough, leads on or nowhere
  on_or_nowhere : {P Q : T → Type 0} {most : ℕ} {t : T} (rank : ℕ) (s : S) → rank ≤ slack → ((u : T) → Q u → P u) → a s ≤ most →
      Leads B b Q (Below slack R (A.step s)) 1 (a s) t ⊎ Below rank R (A.step s) t → Leads B b P (Below slack R (A.step s)) 0 most t
  on_or_nowhere rank s few passes dear (inl path) = weaker path passes (λ u below. below) (omega arith) (λ n le. omega (arith, le))
  on_or_nowhere rank s few passes dear (inr over) = nowhere (over.0, omega (arith, over.1), over.2)

module _ {S T L C E : Type 0} {A : Machine S L C E} {a : S → ℕ} {B : Machine T L C E} {b : T → ℕ} {slack : ℕ} {R : ℕ → S → T → Type 0} where
  -- m steps of A, none of which goes wrong, lead B on, by a step at least, through states that it passes while A makes one of them; or B passes all of them over, and the rank has fallen by as many
  pub run_leads : {P : T → Type 0} {s : S} {t : T} → SimulatesLazily A a B b slack R → (rank : ℕ) → R rank s t → (m : ℕ) →
      ((i : ℕ) → i < m → (A.wrong (after A (suc i) s) ≡ false) × ((u : T) → Passes A B (after A i s) u → P u)) →
      Leads B b P (Below slack R (after A m s)) 1 (spent A a m s) t ⊎ ((left : ℕ) × (left + m ≤ rank) × R left (after A m s) t)
  run_leads simulates rank start zero each = inr (rank, omega arith, start)
  run_leads {P = P} {s = s} {t = t} simulates rank start (suc m) each = by (run_leads {P = P} simulates rank start m (λ i less. each i (omega arith)))
    where
      last : (A.wrong (after A (suc m) s) ≡ false) × ((u : T) → Passes A B (after A m s) u → P u)
      last = each m (omega arith)

      over : (left : ℕ) → left + m ≤ rank → Leads B b (Passes A B (after A m s)) (Below slack R (after A (suc m) s)) 1 (a (after A m s)) t ⊎ Below left R (after A (suc m) s) t →
          Leads B b P (Below slack R (after A (suc m) s)) 1 (spent A a (suc m) s) t ⊎ ((left : ℕ) × (left + suc m ≤ rank) × R left (after A (suc m) s) t)
      over left le (inl path) = inl (weaker path last.1 (λ u below. below) (omega arith) (λ n within. omega (arith, within)))
      over left le (inr fallen) = inr (fallen.0, omega (arith, le, fallen.1), fallen.2)

      by : Leads B b P (Below slack R (after A m s)) 1 (spent A a m s) t ⊎ ((left : ℕ) × (left + m ≤ rank) × R left (after A m s) t) →
          Leads B b P (Below slack R (after A (suc m) s)) 1 (spent A a (suc m) s) t ⊎ ((left : ℕ) × (left + suc m ≤ rank) × R left (after A (suc m) s) t)
      by (inl path) =
          inl
          (joined {n = 0} {o = a (after A m s)} path
          (λ u below. on_or_nowhere A a B b slack R below.0 (after A m s) (omega (arith, below.1)) last.1 (omega arith) (simulates.leads below.0 (after A m s) u below.2 last.0))
          (omega arith) (omega arith))
      by (inr passed) = over passed.0 passed.1 (simulates.leads passed.0 (after A m s) t passed.2 last.0)
