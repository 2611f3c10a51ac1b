-- Machines whose every step takes two ticks, one to fetch it and one to do it, or three, with one between them to decode it.
use Rattle.std.specs.Prelude.{ℕ, Bool, true, false}
use Rattle.cmm_simulation.specs.Machine.{Machine}

module _ {State Line Call Ending : Type 0} (M : Machine State Line Call Ending) where
  -- a state comes with whether its step has been fetched; a tick fetches the step, or does it
  abbrev pub tick : State × Bool → State × Bool
  tick (s, false) = (s, true)
  tick (s, true) = (M.step s, false)

  -- the machine that does M in ticks, and shows what M does
  abbrev pub ticking : Machine (State × Bool) Line Call Ending
  ticking = record { step = tick; seen = λ u. M.seen u.0; asks = λ u. M.asks u.0; wrong = λ u. M.wrong u.0 }

-- what a step of three ticks has before it
pub data Phase : Type 0 where
  Fetch : Phase
  Decode : Phase
  Execute : Phase

module _ {State Line Call Ending : Type 0} (M : Machine State Line Call Ending) where
  abbrev pub phase : State × Phase → State × Phase
  phase (s, Fetch) = (s, Decode)
  phase (s, Decode) = (s, Execute)
  phase (s, Execute) = (M.step s, Fetch)

  -- the machine that does M in these phases
  abbrev pub phased : Machine (State × Phase) Line Call Ending
  phased = record { step = phase; seen = λ u. M.seen u.0; asks = λ u. M.asks u.0; wrong = λ u. M.wrong u.0 }

-- two ticks do a step of three where decoding fetches
abbrev pub fetched_by : Phase → Bool
fetched_by Fetch = false
fetched_by Decode = false
fetched_by Execute = true

-- how many ticks are passed over from here: by a machine of two where there are three, and by one that does a step at once where there are two
abbrev pub phases_left : Phase → ℕ
phases_left Fetch = 1
phases_left Decode = 0
phases_left Execute = 0

abbrev pub ticks_left : Bool → ℕ
ticks_left false = 1
ticks_left true = 0
