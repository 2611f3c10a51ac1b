-- Which bytes spell a snapshot of a run of an image, and which field is named of bytes that spell none.
use Rattle.std.specs.Prelude.{◌≡◌, ℕ, ◌≤◌, List, length, Result, Ok, Err}
use Rattle.cmm_rules.specs.declared.rule.Rule.{Rule}
use Rattle.cmm_rules.specs.declared.rule.Rule.TheVariants.{BytesAfterSnapshot, SnapshotTooLong}
use Rattle.cmm_format.specs.declared.fault.Broken.{Broken}
use Rattle.cmm_format.specs.Wholes.{Ends, whole_in, IsFirstBroken}
use Rattle.cmm_image.specs.declared.parts.ImageParts.{ImageParts}
use Rattle.cmm_snapshot.specs.declared.reading.TheConstants.{SNAPSHOT_LIMIT}
use Rattle.cmm_snapshot.specs.declared.fault.SnapshotFault.{SnapshotFault}
use Rattle.cmm_snapshot.specs.declared.fault.SnapshotFault.TheVariants.{At, Memory}
use Rattle.cmm_snapshot.specs.Stops.{Stopped}
use Rattle.cmm_snapshot.specs.SnapshotFormat.{Snapshot, snapshot, taken_of}

-- these bytes are this snapshot of a run of this image
pub record SpellsSnapshot (i : ImageParts) (bytes : List ℕ) (s : Snapshot) : Type 0 where
  pub fields : (snapshot i).Holds s
  pub spelled : bytes ≡ (snapshot i).spelled s
  pub short : length bytes ≤ SNAPSHOT_LIMIT

-- what is asked of all the bytes
abbrev pub snapshot_ends : Ends
snapshot_ends = record { limit = SNAPSHOT_LIMIT; too_long = SnapshotTooLong; followed = BytesAfterSnapshot }

-- the snapshot that all of the bytes are, or the first field that breaks a rule
abbrev pub snapshot_in : ImageParts → List ℕ → Result Snapshot Broken
snapshot_in i = whole_in (snapshot i) snapshot_ends

-- the first field that breaks a rule begins at this offset
abbrev pub IsFirstFault : ImageParts → List ℕ → Rule → ℕ → Type 0
IsFirstFault i = IsFirstBroken (snapshot i) snapshot_ends

-- what is said to be wrong is the first fault
abbrev pub SnapshotFaultAt : ImageParts → List ℕ → SnapshotFault → Type 0
SnapshotFaultAt i bytes (At rule offset) = IsFirstFault i bytes rule offset
SnapshotFaultAt i bytes Memory = Unit {0}

-- the answer is the stopped program of this snapshot, unless memory ran out
abbrev pub IsSnapshotRead : Snapshot → Result Stopped SnapshotFault → Type 0
IsSnapshotRead s (Ok h) = taken_of h.regs h.memory ≡ s
IsSnapshotRead s (Err (At rule offset)) = ⊥
IsSnapshotRead s (Err Memory) = Unit {0}

-- the answer is that this rule is broken there, unless memory ran out
abbrev pub IsRefusal : Rule → ℕ → Result Stopped SnapshotFault → Type 0
IsRefusal rule offset (Ok read) = ⊥
IsRefusal rule offset (Err (At r o)) = (r ≡ rule) × (o ≡ offset)
IsRefusal rule offset (Err Memory) = Unit {0}
