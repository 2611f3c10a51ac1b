-- What is so of every assembly, and of the places of its labels.
use Rattle.std.specs.Prelude.{◌≡◌, ◌≢◌, ℕ, ◌+◌, ◌<◌, ◌≤◌, ◌^◌, ◌%◌, true, false, List, length, take, slice_get, slice_index, slice_set, Some}
use Rattle.std.specs.List.{All, sum_by}
use Rattle.rv_asm.specs.Assembly.{Fits}
use Rattle.rv_asm.specs.Reach.{begins_at}
use Rattle.rv_asm.specs.declared.part.Label.{Label}
use Rattle.rv_asm.specs.declared.part.Meaning.{Meaning}
use Rattle.rv_asm.specs.declared.part.Meaning.TheVariants.{Inner, Outer}
use Rattle.rv_asm.specs.declared.part.Part.{Part}
use Rattle.rv_asm.specs.declared.part.Part.TheVariants.{Place}

-- the parts that a label may still need: the one that is its place, if it has none yet
abbrev pub room_for : Meaning → ℕ
room_for (Inner true) = 0
room_for (Inner false) = 1
room_for (Outer symbol target) = 0

-- each part fits, and no label is placed twice
pub record IsSound (parts : List Part) (labels : List Meaning) : Type 0 where
  pub fit : All (Fits labels) parts
  pub once : (j k : ℕ) (a b : Label) → slice_get parts j ≡ Some (Place a) → slice_get parts k ≡ Some (Place b) →
      a.number ≡ b.number → j ≡ k
  pub placed : (k : ℕ) (l : Label) → slice_get parts k ≡ Some (Place l) → slice_get labels l.number ≡ Some (Inner true)

-- the first parts of a list that has room behind them
pub record IsBuilt (room : List Part) (used : ℕ) (labels : List Meaning) : Type 0 where
  pub enough : used + sum_by room_for labels ≤ length room
  pub sound : IsSound (take used room) labels

-- the addresses of labels, once a part at an address is noted
abbrev pub noted : List ℕ → Part → ℕ → List ℕ
noted places (Place l) address = slice_set places l.number address
noted places _ address = places

-- an address in code, at which an instruction may begin
abbrev pub IsCodeAddress : ℕ → Type 0
IsCodeAddress a = (a ≤ 2 ^ 30) × (a % 4 ≡ 0)

-- What the code goes by: each label that is placed has the address of its place, by the forms that parts have with just these addresses, and
-- every address is one in code. Labels without a place have 0.
pub record ArePlaces (base : ℕ) (parts : List Part) (labels : List Meaning) (places : List ℕ) : Type 0 where
  pub addresses : All IsCodeAddress places
  pub count : length places ≡ length labels
  pub at : (k : ℕ) (l : Label) → slice_get parts k ≡ Some (Place l) → slice_index places l.number ≡ begins_at labels places base parts k
  pub others : (n : ℕ) → ((k : ℕ) (l : Label) → slice_get parts k ≡ Some (Place l) → l.number ≢ n) → slice_index places n ≡ 0

-- a part that is a place has its label among n
abbrev pub PlaceFits : ℕ → Part → Type 0
PlaceFits count (Place l) = l.number < count
PlaceFits count _ = Unit {0}
