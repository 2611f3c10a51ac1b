-- Moves that are still to be done: those that wait, and a path of moves, each of which reads what the one before it is to write. So each
-- can be done once the one after it is.
use Rattle.std.specs.Prelude.{◌≡◌, ◌≢◌, ℕ, ◌+◌, ◌*◌, ◌≤◌, ◌==◌, not, Bool, true, false, List, [], ◌∷◌, ◌++◌, length, slice_index_or}
use Rattle.cmm_moves.specs.declared.sequencing.Move.{Move}
use Rattle.cmm_moves.specs.Moves.{in_order, at_once, is_outside, is_target, is_source, are_apart}

-- each move reads what the one before it writes, the first of them a place
abbrev pub IsChain : ℕ → List Move → Type 0
IsChain place [] = Unit {0}
IsChain place (m ∷ ms) = (m.from ≡ place) × IsChain m.to ms

-- the oldest move of a path reads any place
abbrev pub IsPath : List Move → Type 0
IsPath [] = Unit {0}
IsPath (m ∷ ms) = IsChain m.to ms

-- the scratch place is read by no move, but perhaps by the oldest of a path
abbrev pub is_spare : ℕ → List Move → Bool
is_spare scratch [] = false
is_spare scratch (m ∷ ms) = is_source scratch ms

-- what is to be done can be done
pub record CanBeDone (scratch : ℕ) (path waiting : List Move) : Type 0 where
  pub apart : are_apart (path ++ waiting) ≡ true
  pub untouched : is_target scratch (path ++ waiting) ≡ false
  pub unread : is_source scratch waiting ≡ false
  pub spare : is_spare scratch path ≡ false
  pub chained : IsPath path

-- what is done, and then at once what is to be done, come to the same as before, but for the scratch place
abbrev pub GoesOn : ℕ → List Move → List Move → List Move → List Move → Type 0
GoesOn scratch done pending more left =
    (has : ℕ → ℕ) (x : ℕ) → x ≢ scratch → at_once left (in_order more has) x ≡ at_once pending (in_order done has) x

-- where no move that is to be done, and none that is done, mentions a place outside a test that the scratch place passes, none does after
abbrev pub StaysInside : ℕ → List Move → List Move → List Move → List Move → Type 0
StaysInside scratch done pending more left =
    (test : ℕ → Bool) → test scratch ≡ true → is_outside test pending ≡ false → is_outside test done ≡ false → (is_outside test more ≡ false) × (is_outside test left ≡ false)

-- what the move at an index reads
abbrev pub reads_at : List Move → ℕ → ℕ
reads_at ms index = (slice_index_or ms index record { to = 0; from = 0 }).from

-- a move that reads a place is taken out of those that wait, if there is one
pub record IsTaken (place : ℕ) (old : List Move) (taken : Move) (new : List Move) : Type 0 where
  pub before : List Move
  pub after : List Move
  pub old_is : old ≡ before ++ taken ∷ after
  pub new_is : new ≡ before ++ after
  pub reads : taken.from ≡ place

abbrev pub one_if : Bool → ℕ
one_if test = elim test [ true ↦ 1 | false ↦ 0 ]

-- how many moves a path can add: each of its own, and one that saves a place while its oldest move reads another than the scratch place
abbrev pub most_of : ℕ → List Move → ℕ
most_of scratch [] = 0
most_of scratch (m ∷ ms) = length (m ∷ ms) + one_if (not (m.from == scratch))

-- ---- where a path comes back to its oldest move, what that reads is saved, and it reads the scratch place instead

abbrev pub saved : ℕ → ℕ → List Move → List Move
saved place scratch [] = []
saved place scratch (m ∷ ms) = elim (m.from == place) [ true ↦ record { to = scratch; from = m.from } ∷ [] | false ↦ [] ]

abbrev pub redirected : ℕ → ℕ → List Move → List Move
redirected place scratch [] = []
redirected place scratch (m ∷ ms) = elim (m.from == place) [ true ↦ record { to = m.to; from = scratch } ∷ ms | false ↦ m ∷ ms ]

-- ---- what a chain keeps, from what waited and was done when its first move was taken

pub record IsFollowed (scratch : ℕ) (first : Move) (waited : List Move) (begun : List Move) (path waiting done : List Move) : Type 0 where
  pub can : CanBeDone scratch path waiting
  pub values : GoesOn scratch begun (first ∷ waited) done (path ++ waiting)
  pub fewer : length waiting ≤ length waited
  pub few : length done + most_of scratch path + 2 * length waiting ≤ length begun + 2 * (length waited + 1)
  pub inside : StaysInside scratch begun (first ∷ waited) done (path ++ waiting)
