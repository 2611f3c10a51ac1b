-- A small machine to follow: it reads numbers from the input, and puts each less one.
use Rattle.std.specs.Prelude.{ℕ, zero, ◌-◌, List, [], ◌∷◌, ◌++◌, length, Bool, true, false, Option, Some}
use Rattle.cmm_simulation.specs.Machine.{Machine}
use Rattle.cmm_simulation.specs.Seen.{Seen, Event, Input, End}

-- the input that is left, what has been seen, and whether the machine has failed
pub record Reader : Type 0 where
  pub left : List ℕ
  pub seen : Seen ℕ
  pub failed : Bool

-- a number is taken and the one before it is put; there is none before 0: a machine that checks fails there, and others put 0
abbrev pub read_number : Bool → List ℕ → Reader → Reader
read_number checks [] s = s
read_number true (zero ∷ left) s = record s { failed = true }
read_number checks (number ∷ left) s =
    record s { left = left; seen = record s.seen { output = s.seen.output ++ (number - 1) ∷ []; taken = s.seen.taken ++ number ∷ [] } }

-- where no number is left, the run is over, with the count of those put
abbrev pub event_at : List ℕ → Reader → Option (Event ℕ ℕ)
event_at [] s = Some (End (length s.seen.output))
event_at (number ∷ left) s = Some Input

-- the machine, which checks for 0 or not
abbrev pub reader : Bool → Machine Reader ℕ ℕ ℕ
reader checks =
    record { step = λ s. read_number checks s.left s; seen = λ s. s.seen; asks = λ s. event_at s.left s; wrong = λ s. s.failed }

-- where a run begins: with this input, and nothing seen
abbrev pub start : List ℕ → Reader
start input = record { left = input; seen = record { output = []; log = []; taken = [] }; failed = false }
