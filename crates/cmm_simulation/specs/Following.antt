-- Following: what a simulation says of whole runs, in both directions and with its costs.
use Rattle.std.specs.Prelude.{◌≡◌, ℕ, suc, ◌*◌, ◌<◌, ◌≤◌}
use Rattle.cmm_simulation.specs.Machine.{Machine, IsRightUntil, after, spent}
use Rattle.cmm_simulation.specs.Observing.{Level, Passes}

module _ {S T Line Call Ending : Type 0} (A : Machine S Line Call Ending) (a : S → ℕ) (B : Machine T Line Call Ending) (b : T → ℕ) where
  -- B, run from t, follows A, run from s, as long as A does not go wrong; a and b give what their steps cost. After `done m` steps B has done m steps of A: it is level
  -- with A there, and has spent at most what those of A cost. From there to where it has done the next step, B passes each state while A makes that one. B makes a step
  -- for so many of A, the slack, at least.
  pub record FollowsLazily (slack : ℕ) (s : S) (t : T) : Type 0 where
    pub done : ℕ → ℕ
    pub begins : done 0 ≡ 0
    pub ascends : (m : ℕ) → done m ≤ done (suc m)
    pub level : (m : ℕ) → IsRightUntil A m s → Level A B (after A m s) (after B (done m) t)
    pub passes : (m n : ℕ) → IsRightUntil A (suc m) s → done m ≤ n → n < done (suc m) → Passes A B (after A m s) (after B n t)
    pub within : (m : ℕ) → IsRightUntil A m s → spent B b (done m) t ≤ spent A a m s
    pub enough : (m : ℕ) → IsRightUntil A m s → m < slack * suc (done m)

  -- and passes no step of A over
  abbrev pub Follows : S → T → Type 0
  Follows s t = FollowsLazily 1 s t
