-- What files hold, and what calls do to that.
use Rattle.std.specs.Prelude.{◌≡◌, ◌≢◌, ◌⊎◌, ℕ, ◌<◌, ◌≤◌, List, [], length, take, drop, Option, Some, IfSome, unwrap_or, Result, Ok, Err}
use Rattle.cmm_outside.specs.declared.storage.CallKind.{CallKind}
use Rattle.cmm_outside.specs.declared.storage.CallKind.TheVariants.{Create, Append}
use Rattle.cmm_outside.specs.declared.storage.FileError.{FileError}
use Rattle.cmm_outside.specs.declared.storage.FileError.TheVariants.{Failed, TooLong, Memory}

-- the bytes of each file, by the bytes of its name; None where there is no such file
abbrev pub Contents : Type 0
Contents = List ℕ → Option (List ℕ)

-- a call that failed: its kind, and the name that it was given
pub record FailedCall : Type 0 where
  pub kind : CallKind
  pub name : List ℕ

-- n bytes of the file from the offset on are in the buffer's front; none only where the file has no byte from there on
pub record TakesFrom (file : List ℕ) (from room : ℕ) (buffer : List ℕ) (n : ℕ) : Type 0 where
  pub within : n ≤ length (drop from file)
  pub bytes : take n buffer ≡ take n (drop from file)
  pub progress : 0 < room → n ≡ 0 → drop from file ≡ []

-- a read that answers n has read a file that is there, unless it was asked for nothing
abbrev pub ReadsAt : Option Contents → List ℕ → ℕ → ℕ → List ℕ → ℕ → Type 0
ReadsAt contents name from room buffer n = IfSome contents (λ files. 0 < room →
    (file : List ℕ) × (files name ≡ Some file) × TakesFrom file from room buffer n)

-- what the files hold differs in one name, where it is now these bytes
pub record Sets (before : Contents) (after : Option Contents) (name bytes : List ℕ) : Type 0 where
  pub now : Contents
  pub told : after ≡ Some now
  pub named : now name ≡ Some bytes
  pub others : (other : List ℕ) → other ≢ name → now other ≡ before other

-- where the files tell what they hold, one of them holds these bytes now, and the others what they held
abbrev pub Writes : Option Contents → Option Contents → List ℕ → (Option (List ℕ) → List ℕ) → Type 0
Writes before after name bytes = IfSome before (λ files. Sets files after name (bytes (files name)))

-- the same with a front of these bytes that is not all of them
abbrev pub WritesFront : Option Contents → Option Contents → List ℕ → List ℕ → Type 0
WritesFront before after name bytes = (n : ℕ) × (n < length bytes) × Writes before after name (λ _. take n bytes)

-- Writing a file of these bytes has stopped at a call that failed: at `create`, where nothing has changed, or at `append`,
-- where the file holds a front of the bytes.
abbrev pub StopsWriting : Option Contents → Option Contents → Option FailedCall → List ℕ → List ℕ → Type 0
StopsWriting before after failed name bytes =
    ((failed ≡ Some (record { kind = Create; name = name })) × (after ≡ before))
    ⊎ ((failed ≡ Some (record { kind = Append; name = name })) × WritesFront before after name bytes)

-- the bytes of a file that may not be there
abbrev pub bytes_of : Option (List ℕ) → List ℕ
bytes_of file = unwrap_or file []

-- where the files tell what they hold, there is a file of this name, and of its bytes P holds
abbrev pub HasFile : Option Contents → List ℕ → (List ℕ → Type 0) → Type 0
HasFile contents name P = IfSome contents (λ files. (file : List ℕ) × (files name ≡ Some file) × P file)

-- what holds where a file was not read because a call failed, and what on every other answer
abbrev pub MatchFailed : {T : Type 0} → Result T FileError → Type 0 → Type 0 → Type 0
MatchFailed (Ok _) P Q = Q
MatchFailed (Err Failed) P Q = P
MatchFailed (Err TooLong) P Q = Q
MatchFailed (Err Memory) P Q = Q
