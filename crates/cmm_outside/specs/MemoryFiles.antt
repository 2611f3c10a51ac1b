-- Files in memory.
use Rattle.std.specs.Prelude.{◌≡◌, ◌≢◌, ℕ, ◌-◌, List, length, Bool, true, false, nat_lt, Option, Some, None, is_some, find, option_and_then}
use Rattle.std.specs.Option.{option_map, option_map_or}
use Rattle.std.specs.Str.{bytes_eq}
use Rattle.cmm_outside.specs.declared.storage.CallKind.{CallKind}
use Rattle.cmm_outside.specs.declared.storage.CallKind.TheVariants.{Read, Create, Append}
use Rattle.cmm_outside.specs.FailingCalls.{Calls}
use Rattle.cmm_outside.specs.Storage.{FailedCall, bytes_of}

-- what there is of one name: room for n bytes, and the file's bytes, where there is a file
pub record Place : Type 0 where
  pub name : List ℕ
  pub room : ℕ
  pub file : Option (List ℕ)

-- a file of these bytes, and just their room
abbrev pub holding : List ℕ → List ℕ → Place
holding name bytes = record { name = name; room = length bytes; file = Some bytes }

-- the places, of which the first of a name counts, the calls that were made, and the last that failed
pub record FilesState : Type 0 where
  pub places : List Place
  pub calls : Calls
  pub last_failed : Option FailedCall

-- the place of a name
abbrev pub place_of : List Place → List ℕ → Option Place
place_of places name = find (λ place. bytes_eq place.name name) places

-- the bytes of the file of a name
abbrev pub file_of : FilesState → List ℕ → Option (List ℕ)
file_of files name = option_and_then (λ place. place.file) (place_of files.places name)

-- how many bytes a name has room for
abbrev pub room_of : FilesState → List ℕ → Option ℕ
room_of files name = option_map (λ place. place.room) (place_of files.places name)

-- for how many more bytes a place has room
abbrev pub room_left : Place → ℕ
room_left place = place.room - length (bytes_of place.file)

-- for how many more bytes a name has room
abbrev pub room_left_of : FilesState → List ℕ → ℕ
room_left_of files name = option_map_or room_left (place_of files.places name) 0

-- whether a call can be done where this is the place of its name: a read needs the file, `append` room that is left
abbrev pub serves : CallKind → Option Place → Bool
serves kind None = false
serves Read (Some place) = is_some place.file
serves Create (Some place) = true
serves Append (Some place) = nat_lt 0 (room_left place)

-- a call of this kind cannot be done on this name
abbrev pub IsRefused : FilesState → CallKind → List ℕ → Type 0
IsRefused files kind name = serves kind (place_of files.places name) ≡ false

-- the places after differ in one name, whose place is now this one
pub record Puts (before after : List Place) (name : List ℕ) (place : Place) : Type 0 where
  pub named : place_of after name ≡ Some place
  pub others : (other : List ℕ) → other ≢ name → place_of after other ≡ place_of before other
