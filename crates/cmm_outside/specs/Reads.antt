-- The reads of files as they are asked for: a file is read from its first byte on, each read where the one before it ended.
use Rattle.std.specs.Prelude.{◌≡◌, ◌⊎◌, ℕ, ◌+◌, ◌≤◌, ◌==◌, ◌&&◌, ◌||◌, nat_lt, Bool, true, false, List, [], ◌∷◌, ◌++◌, Option, Some, None, IfSome, is_some, unwrap_or, Result, Ok, Err}
use Rattle.cmm_outside.specs.declared.storage.FileError.{FileError}
use Rattle.cmm_outside.specs.declared.storage.FileError.TheVariants.{Failed, TooLong, Memory}

-- a read: of which file, from which byte on, how many bytes it asks for, and how many come; None where it fails
pub record ReadCall : Type 0 where
  pub name : List ℕ
  pub from : ℕ
  pub room : ℕ
  pub came : Option ℕ

-- where the reads are told, these were made between two states of the files, and of them P holds
abbrev pub Made : Option (List ReadCall) → Option (List ReadCall) → (List ReadCall → Type 0) → Type 0
Made before after P = IfSome before (λ earlier. (calls : List ReadCall) × (after ≡ Some (earlier ++ calls)) × P calls)

-- where the reads are told, just this one was made
abbrev pub MadeOne : Option (List ReadCall) → Option (List ReadCall) → ReadCall → Type 0
MadeOne before after call = Made before after (λ calls. calls ≡ call ∷ [])

-- and where it need not be told, this one or none
abbrev pub MadeOrNot : Option (List ReadCall) → Option (List ReadCall) → ReadCall → Type 0
MadeOrNot before after call = Made before after (λ calls. (calls ≡ []) ⊎ (calls ≡ call ∷ []))

-- ---- one file

-- where a read has ended
abbrev pub end_of : ReadCall → ℕ
end_of call = call.from + unwrap_or call.came 0

-- whether a read has met the end of its file, from which none comes, or the byte behind a limit
abbrev pub meets_end : ℕ → ReadCall → Bool
meets_end limit call = elim call.came as (λ _. Bool) [ Some n ↦ (n == 0) || nat_lt limit (call.from + n) | None ↦ false ]

-- a read is the last of its file there, or where it fails
abbrev pub is_last : ℕ → ReadCall → Bool
is_last limit call = elim call.came as (λ _. Bool) [ Some n ↦ (n == 0) || nat_lt limit (call.from + n) | None ↦ true ]

-- the reads of one file from a byte on: each goes on where the one before it has ended, asks for no more than the byte behind the limit, and behind the last there is none
abbrev pub GoOn : List ℕ → ℕ → ℕ → List ReadCall → Type 0
GoOn name limit at [] = Unit {0}
GoOn name limit at (call ∷ calls) =
    (call.name ≡ name) × (call.from ≡ at) × (call.from + call.room ≤ limit + 1) × (is_last limit call ≡ true → calls ≡ []) × GoOn name limit (end_of call) calls

-- whether the file was read to its end, or to the byte behind the limit
abbrev pub is_whole : ℕ → List ReadCall → Bool
is_whole limit [] = false
is_whole limit (call ∷ calls) = meets_end limit call || is_whole limit calls

-- what was read of a file for an answer: all of it, unless a call failed or there was no memory for the bytes
abbrev pub IsReadFor : {T : Type 0} → List ℕ → ℕ → Result T FileError → List ReadCall → Type 0
IsReadFor name limit (Ok _) calls = GoOn name limit 0 calls × (is_whole limit calls ≡ true)
IsReadFor name limit (Err TooLong) calls = GoOn name limit 0 calls × (is_whole limit calls ≡ true)
IsReadFor name limit (Err Failed) calls = GoOn name limit 0 calls
IsReadFor name limit (Err Memory) calls = GoOn name limit 0 calls

-- ---- files in their order

-- a file that is to be read, of so many bytes at most
pub record WantedFile : Type 0 where
  pub name : List ℕ
  pub limit : ℕ

-- files are read one after another, each once and whole
abbrev pub AreReadWhole : List WantedFile → List ReadCall → Type 0
AreReadWhole [] calls = calls ≡ []
AreReadWhole (file ∷ files) calls =
    (own later : List ReadCall) × (calls ≡ own ++ later) × GoOn file.name file.limit 0 own × (is_whole file.limit own ≡ true) × AreReadWhole files later

-- the same as far as it goes: none is read before the one before it is read whole
abbrev pub AreReadInOrder : List WantedFile → List ReadCall → Type 0
AreReadInOrder [] calls = calls ≡ []
AreReadInOrder (file ∷ files) calls =
    (own later : List ReadCall) × (calls ≡ own ++ later) × GoOn file.name file.limit 0 own × (is_whole file.limit own ≡ false → later ≡ []) × AreReadInOrder files later
