-- Paths: how they begin and are joined, and what else they are paths of.
use Rattle.std.proofs.Common.{ℕ, ◌+◌, ◌-◌, ◌*◌, ◌≤◌, arith, mul-le-mul_left}
use Rattle.cmm_simulation.proofs.Runs.{after-add, spent-add, spent_scaled}
use Rattle.cmm_simulation.specs.Machine.{Machine, after, spent}
use Rattle.cmm_simulation.specs.Simulation.{Leads}

module _ {S L C E : Type 0} {M : Machine S L C E} {cost : S → ℕ} {P Q : S → Type 0} {t : S} where
  -- a path of no step
  pub nowhere : {most : ℕ} → Q t → Leads M cost P Q 0 most t
  nowhere here = record { steps = 0; through = λ i less. absurd (omega arith); arrives = here; enough = omega arith; within = omega arith }

  -- a path of one step
  pub one_step : {most : ℕ} → P t → Q (M.step t) → cost t ≤ most → Leads M cost P Q 1 most t
  one_step here there within =
      record { steps = 1; through = λ i less. grind arith; arrives = there; enough = omega arith; within = omega arith }

  -- a path and then, from wherever it arrives, another
  pub joined : {R : S → Type 0} {l m n o least most : ℕ} → Leads M cost P Q l m t → ((u : S) → Q u → Leads M cost P R n o u) →
      least ≤ l + n → m + o ≤ most → Leads M cost P R least most t
  joined first go least most =
      let second = go (after M first.steps t) first.arrives in
      record {
        steps = first.steps + second.steps;
        through = λ i less. grind (arith, first.through i, second.through (i - first.steps), after-add M first.steps (i - first.steps) t);
        arrives = rw (after-add M first.steps second.steps t) second.arrives;
        enough = omega arith;
        within = omega (arith, spent-add M cost first.steps second.steps t);
      }

  -- a path is one through and to states of which less is required, of fewer steps, and at other costs, where these come to no more
  pub weaker : {P' Q' : S → Type 0} {cost' : S → ℕ} {l l' m m' : ℕ} → Leads M cost P Q l m t → ((u : S) → P u → P' u) →
      ((u : S) → Q u → Q' u) → l' ≤ l → ((n : ℕ) → spent M cost n t ≤ m → spent M cost' n t ≤ m') → Leads M cost' P' Q' l' m' t
  weaker path passes arrives least within =
      record { steps = path.steps; through = search path.through; arrives = search; enough = omega arith; within = search }

  -- a path at costs that are at most k times as high
  pub scaled : {l m m' : ℕ} {cost' : S → ℕ} (k : ℕ) → ((u : S) → cost' u ≤ k * cost u) → k * m ≤ m' → Leads M cost P Q l m t →
      Leads M cost' P Q l m' t
  scaled {cost' = cost'} k cheaper le path =
      weaker path (λ u p. p) (λ u q. q) (omega arith)
      (λ n within. omega (arith, mul-le-mul_left k within, spent_scaled M 1 k cost' cost (λ u. omega arith) n t))
