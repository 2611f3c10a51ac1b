-- Both costs may be multiplied by the same number, the first be counted dearer and the second cheaper.
use Rattle.std.proofs.Common.{ℕ, ◌*◌, ◌≤◌, inl, inr, arith, mul-le-mul_left}
use Rattle.cmm_simulation.proofs.Paths.{scaled}
use Rattle.cmm_simulation.proofs.Runs.{spent_scaled}
use Rattle.cmm_simulation.specs.Following.{FollowsLazily}
use Rattle.cmm_simulation.specs.Machine.{Machine}
use Rattle.cmm_simulation.specs.Simulation.{SimulatesLazily}

module _ {S T L C E : Type 0} {A : Machine S L C E} {a a' : S → ℕ} {B : Machine T L C E} {b b' : T → ℕ} {slack : ℕ}
    (k : ℕ) (dearer : (s : S) → k * a s ≤ a' s) (cheaper : (t : T) → b' t ≤ k * b t) where
  -- in a simulation
  pub simulates_scaled : {R : ℕ → S → T → Type 0} → SimulatesLazily A a B b slack R → SimulatesLazily A a' B b' slack R
  simulates_scaled simulates = record {
    level = simulates.level;
    leads = λ rank s t related right. elim (simulates.leads rank s t related right) [ inl path ↦ inl (scaled k cheaper (dearer s) path) | inr over ↦ inr over ];
  }

  -- and in following
  pub follows_scaled : {s : S} {t : T} → FollowsLazily A a B b slack s t → FollowsLazily A a' B b' slack s t
  follows_scaled {s = s} {t = t} follows = record {
    done = follows.done;
    begins = follows.begins;
    ascends = follows.ascends;
    level = follows.level;
    passes = follows.passes;
    within = λ m right.
        omega (
          arith,
          mul-le-mul_left k (follows.within m right),
          spent_scaled A k 1 a a' (λ u. omega (arith, dearer u)) m s,
          spent_scaled B 1 k b' b (λ u. omega (arith, cheaper u)) (follows.done m) t,
        );
    enough = follows.enough;
  }
