-- What holds of all bytes, and of all snapshots.
use Rattle.std.specs.Prelude.{◌≡◌, ℕ, ◌⊎◌, List}
use Rattle.cmm_rules.specs.declared.rule.Rule.{Rule}
use Rattle.rv_table.specs.declared.registers.Regs.{Regs}
use Rattle.rv_memory.specs.Regions.{Regions, region_of}
use Rattle.rv_memory.specs.States.{state_of}
use Rattle.cmm_format.specs.Formats.{AreBytes}
use Rattle.cmm_image.specs.declared.parts.ImageParts.{ImageParts}
use Rattle.cmm_snapshot.specs.SnapshotFormat.{Snapshot, taken_of}
use Rattle.cmm_snapshot.specs.Snapshots.{SpellsSnapshot, IsFirstFault}

-- bytes are a snapshot of a run of the image, or they have a first fault
abbrev pub EachMeansOneThing : Type 0
EachMeansOneThing = (i : ImageParts) (bytes : List ℕ) → AreBytes bytes → ((s : Snapshot) × SpellsSnapshot i bytes s) ⊎ ((rule : Rule) × (offset : ℕ) × IsFirstFault i bytes rule offset)

-- bytes are at most one snapshot
abbrev pub SnapshotsAreOne : Type 0
SnapshotsAreOne = (i : ImageParts) (bytes : List ℕ) (s t : Snapshot) → SpellsSnapshot i bytes s → SpellsSnapshot i bytes t → s ≡ t

-- the bytes of a snapshot have no fault
abbrev pub NoSnapshotHasAFault : Type 0
NoSnapshotHasAFault = (i : ImageParts) (bytes : List ℕ) (s : Snapshot) (rule : Rule) (offset : ℕ) → SpellsSnapshot i bytes s → IsFirstFault i bytes rule offset → ⊥

-- registers and memories of one snapshot are one state of the machine, with one region
abbrev pub SnapshotsKeepStates : Type 0
SnapshotsKeepStates = (r q : Regs) (m n : Regions) → taken_of r m ≡ taken_of q n → (state_of r m ≡ state_of q n) × (region_of m ≡ region_of n)
