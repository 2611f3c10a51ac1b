-- What is seen of a run, and the events at which it waits or is over.
use Rattle.std.specs.Prelude.{◌≡◌, ℕ, List, ◌++◌, Option, Some, None}

-- what a run has shown so far: the bytes put, the lines of its log and the bytes taken from the input; a log leaves out the line of
-- a yield while the client is waited for, so that it changes only once the client has answered
pub record Seen (Line : Type 0) : Type 0 where
  pub output : List ℕ
  pub log : List Line
  pub taken : List ℕ

-- the first list begins the second
pub record IsPrefix {A : Type 0} (xs ys : List A) : Type 0 where
  pub rest : List A
  pub whole : ys ≡ xs ++ rest

-- what is seen earlier is the beginning of what is seen later
pub record IsWithin {Line : Type 0} (earlier later : Seen Line) : Type 0 where
  pub output : IsPrefix earlier.output later.output
  pub log : IsPrefix earlier.log later.log
  pub taken : IsPrefix earlier.taken later.taken

-- what a state stands at: its next step takes from the input; or it waits for the client, which sees this call (the values of a
-- yield and the walk of the stack); or its run is over, with this ending
pub data Event (Call Ending : Type 0) : Type 0 where
  Input : Event Call Ending
  Client : Call → Event Call Ending
  End : Ending → Event Call Ending

-- an event that is no input: a second machine gets there as soon as the first does, while it still prepares to take an input
abbrev pub but_input : {Call Ending : Type 0} → Option (Event Call Ending) → Option (Event Call Ending)
but_input (Some Input) = None
but_input asks = asks
