-- Two machines side by side: states that are level, states that the second passes during one step of the first, and those that come before its run.
use Rattle.std.specs.Prelude.{◌≡◌, false, Some, None}
use Rattle.cmm_simulation.specs.Machine.{Machine, Stands}
use Rattle.cmm_simulation.specs.Seen.{IsWithin, Event, but_input}

module _ {S T Line Call Ending : Type 0} (A : Machine S Line Call Ending) (B : Machine T Line Call Ending) where
  -- the two states show the same, stand at the same event unless it is an input, and are wrong together
  pub record Level (s : S) (t : T) : Type 0 where
    pub seen : A.seen s ≡ B.seen t
    pub asks : but_input (A.asks s) ≡ but_input (B.asks t)
    pub wrong : A.wrong s ≡ B.wrong t

  -- while the first machine makes its step from s, the second makes one from t: it shows nothing that the first does not show after
  -- its step, stands at an event only where the first stands at it and the same is seen, and stays right where the first does
  pub record Passes (s : S) (t : T) : Type 0 where
    pub seen : IsWithin (B.seen (B.step t)) (A.seen (A.step s))
    pub asks : (event : Event Call Ending) → B.asks t ≡ Some event → Stands A event (B.seen t) s
    pub right : A.wrong (A.step s) ≡ false → B.wrong (B.step t) ≡ false

  -- the second machine makes a step before the run of the first begins: it has shown what the first shows where it begins, shows nothing more with that step, and stands
  -- at no event
  pub record Precedes (s : S) (t : T) : Type 0 where
    pub shown : IsWithin (A.seen s) (B.seen t)
    pub seen : IsWithin (B.seen (B.step t)) (A.seen s)
    pub asks : B.asks t ≡ None
    pub right : B.wrong (B.step t) ≡ false
