-- Agreement with a factor: what follows for the two runs in plain counts of steps, up to the very step in which the first machine goes wrong.
use Rattle.std.specs.Prelude.{◌≡◌, ◌⊎◌, ℕ, suc, ◌+◌, ◌*◌, ◌<◌, ◌≤◌, true, false, Some}
use Rattle.cmm_simulation.specs.Machine.{Machine, Stands, after}
use Rattle.cmm_simulation.specs.Observing.{Level}
use Rattle.cmm_simulation.specs.Seen.{IsWithin, Event, End, but_input}

module _ {S T Line Call Ending : Type 0} (A : Machine S Line Call Ending) (B : Machine T Line Call Ending) where
  -- what B does, run from t, of what A has done in the state s
  pub record Does (soon late : ℕ) (s : S) (t : T) : Type 0 where
    -- all that A has shown, B has shown after the late count of steps
    pub seen : IsWithin (A.seen s) (B.seen (after B late t))
    -- if A is over, B is over by then, with the same ending, and the same is seen
    pub ends : (ending : Ending) → A.asks s ≡ Some (End ending) → Stands B (End ending) (A.seen s) (after B late t)
    -- if A stands at an event, B stood at it after no more than the soon count of steps, and the same was seen; at an input it need not have come yet
    pub stands : (event : Event Call Ending) → but_input (A.asks s) ≡ Some event → (n : ℕ) × (n ≤ soon) × Stands B event (A.seen s) (after B n t)

  -- B stands at t as A does at s, or is on its way to where A is after its next step: it shows what A shows there at least, and no more than A shows then; it stands at an
  -- event only where A stands at it, with the same seen; and it has not gone wrong
  pub record StandsAs (s : S) (t : T) : Type 0 where
    pub least : IsWithin (A.seen s) (B.seen t)
    pub most : IsWithin (B.seen t) (A.seen (A.step s))
    pub asks : (event : Event Call Ending) → B.asks t ≡ Some event → Stands A event (B.seen t) s
    pub right : B.wrong t ≡ false

  -- after some steps from s, fewer than so many, A has not gone wrong, and B stands at t as A does
  pub record IsMatched (most : ℕ) (s : S) (t : T) : Type 0 where
    pub steps : ℕ
    pub soon : steps < most
    pub right : A.wrong (after A steps s) ≡ false
    pub stands : StandsAs (after A steps s) t

  -- A goes wrong with its next step, where B has come by n steps to be level with it
  pub record GoesWrong (slack n : ℕ) (s : S) (t : T) : Type 0 where
    pub steps : ℕ
    pub taken : ℕ
    pub early : taken ≤ n
    pub soon : steps < slack * (taken + 1)
    pub right : A.wrong (after A steps s) ≡ false
    pub level : Level A B (after A steps s) (after B taken t)
    pub error : A.wrong (after A (suc steps) s) ≡ true

  -- B, which may make so many steps first, does in factor * (m + 1) steps all that A does in m, unless A has gone wrong by then, but for the inputs at which it still
  -- waits. And after each n steps B stands as A does after fewer than slack * (n + 1), or it has passed the place from which A goes wrong. The slack is 1 where each step of A
  -- takes a step of B at least: then A stands so after n steps or fewer.
  pub record Agrees (first factor slack : ℕ) (s : S) (t : T) : Type 0 where
    pub down : (m : ℕ) → A.wrong (after A m s) ≡ false → Does (first + factor * m) (factor * (m + 1)) (after A m s) t
    pub up : (n : ℕ) → IsMatched (slack * (n + 1)) s (after B n t) ⊎ GoesWrong slack n s t
