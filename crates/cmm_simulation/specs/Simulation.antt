-- Simulations: each step of a first machine is done by a path of a second one that costs no more, or the second passes it over.
use Rattle.std.specs.Prelude.{◌≡◌, ◌⊎◌, ℕ, ◌+◌, ◌<◌, ◌≤◌, false}
use Rattle.cmm_simulation.specs.Machine.{Machine, after, spent}
use Rattle.cmm_simulation.specs.Observing.{Level, Passes}

module _ {S Line Call Ending : Type 0} (M : Machine S Line Call Ending) (cost : S → ℕ) where
  -- a path from t through states that are P to one that is Q, of at least n steps, which cost at most that much
  pub record Leads (P Q : S → Type 0) (least most : ℕ) (t : S) : Type 0 where
    pub steps : ℕ
    pub through : (i : ℕ) → i < steps → P (after M i t)
    pub arrives : Q (after M steps t)
    pub enough : least ≤ steps
    pub within : spent M cost steps t ≤ most

-- two states are related at a rank below a number; the rank says how many steps of the first machine may be passed over from there
abbrev pub Below : {S T : Type 0} → ℕ → (ℕ → S → T → Type 0) → S → T → Type 0
Below most R s t = (rank : ℕ) × (rank < most) × R rank s t

module _ {S T Line Call Ending : Type 0} (A : Machine S Line Call Ending) (a : S → ℕ) (B : Machine T Line Call Ending) (b : T → ℕ) where
  -- R is a simulation of A, whose steps cost a, by B, whose steps cost b, which may be lazy: related states are level, and a step of A that does not go wrong leads B,
  -- by at least one step and for at most what that step costs, through states that it passes to one that is related again, at a rank below the slack; or B stays where
  -- it is, and is related again at a lower rank. A step that goes wrong obliges B to nothing.
  pub record SimulatesLazily (slack : ℕ) (R : ℕ → S → T → Type 0) : Type 0 where
    pub level : (rank : ℕ) (s : S) (t : T) → R rank s t → Level A B s t
    pub leads : (rank : ℕ) (s : S) (t : T) → R rank s t → A.wrong (A.step s) ≡ false →
        Leads B b (Passes A B s) (Below slack R (A.step s)) 1 (a s) t ⊎ Below rank R (A.step s) t

  -- one that passes nothing over: each step is done by a step at least
  abbrev pub Simulates : (S → T → Type 0) → Type 0
  Simulates R = SimulatesLazily 1 (λ rank. R)

-- two relations one after the other, whose ranks add up
pub record Through {S T U : Type 0} (R : ℕ → S → T → Type 0) (Q : ℕ → T → U → Type 0) (rank : ℕ) (s : S) (u : U) : Type 0 where
  pub between : T
  pub first : ℕ
  pub second : ℕ
  pub before : R first s between
  pub behind : Q second between u
  pub added : first + second ≡ rank
