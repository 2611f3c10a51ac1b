-- What a reading of a snapshot says of its bytes.
use Rattle.std.proofs.Common.{◌≡◌, ℕ, List, length, Ok, Err, refl, inl, inr}
use Rattle.std.specs.Prelude.{◌⊎◌, ◌-◌, Result}
use Rattle.cmm_rules.specs.declared.rule.Rule.{Rule}
use Rattle.cmm_format.specs.declared.fault.Broken.{Broken}
use Rattle.cmm_format.specs.declared.fault.Unread.{Unread}
use Rattle.cmm_format.specs.declared.fault.Unread.TheVariants.{Breaks, Memory}
use Rattle.cmm_format.specs.Formats.{AreBytes}
use Rattle.cmm_format.specs.Reading.{GivesSeen}
use Rattle.cmm_format.proofs.Shared.{whole-taken, whole-again, unbroken, first-is}
use Rattle.cmm_image.specs.declared.parts.ImageParts.{ImageParts}
use Rattle.cmm_snapshot.specs.Stops.{Stopped}
use Rattle.cmm_snapshot.specs.SnapshotFormat.{Snapshot, taken_of}
use Rattle.cmm_snapshot.specs.Snapshots.{SpellsSnapshot, snapshot_ends, snapshot_in, IsFirstFault, SnapshotFaultAt, IsSnapshotRead, IsRefusal}
use Rattle.cmm_snapshot.specs.Laws.{EachMeansOneThing, SnapshotsAreOne, NoSnapshotHasAFault}
use Rattle.cmm_snapshot.specs.inside.Takings.{fault_of}
use Rattle.cmm_snapshot.proofs.SnapshotLaws.{snapshot-exact}

-- what is read is spelled so
pub spelled-so : (i : ImageParts) (bytes : List ℕ) (s : Snapshot) → AreBytes bytes → snapshot_in i bytes ≡ Ok s → SpellsSnapshot i bytes s
spelled-so i bytes s fits e =
    let t = whole-taken snapshot_ends bytes s (snapshot-exact i) fits e in
    record { fields = t.1; spelled = t.0; short = t.2 }

-- what is spelled so is read
pub read-so : (i : ImageParts) (bytes : List ℕ) (s : Snapshot) → SpellsSnapshot i bytes s → snapshot_in i bytes ≡ Ok s
read-so i bytes s p = whole-again snapshot_ends bytes s (snapshot-exact i) p.fields p.spelled p.short

-- the snapshot that is read is the one that is spelled
pub snapshot-is : (i : ImageParts) (bytes : List ℕ) (s t : Snapshot) → snapshot_in i bytes ≡ Ok s → SpellsSnapshot i bytes t → s ≡ t
snapshot-is i bytes s t e p = let r = read-so i bytes t p in cc

-- the first fault is what a reading answers
pub fault-first : (i : ImageParts) (bytes : List ℕ) (why : Unread) → GivesSeen {A = Stopped} (λ h. taken_of h.regs h.memory) (Err why) (snapshot_in i bytes) → SnapshotFaultAt i bytes (fault_of (length bytes) why)
fault-first i bytes (Breaks b) e = record { broken = b; first = e; rule_is = refl; offset_is = refl }
fault-first i bytes Memory e = tt

pub no_snapshot : (i : ImageParts) (bytes : List ℕ) (s : Snapshot) (why : Unread) → GivesSeen {A = Stopped} (λ h. taken_of h.regs h.memory) (Err why) (snapshot_in i bytes) → SpellsSnapshot i bytes s → IsSnapshotRead s (Err (fault_of (length bytes) why))
no_snapshot i bytes s (Breaks b) e p = let r = read-so i bytes s p in absurd cc
no_snapshot i bytes s Memory e p = tt

pub no_fault : (i : ImageParts) (bytes : List ℕ) (s : Snapshot) (rule : Rule) (offset : ℕ) → snapshot_in i bytes ≡ Ok s → IsFirstFault i bytes rule offset → ⊥
no_fault i bytes s rule offset e f = unbroken snapshot_ends bytes s rule offset e f

pub fault-is : (i : ImageParts) (bytes : List ℕ) (rule : Rule) (offset : ℕ) (why : Unread) → GivesSeen {A = Stopped} (λ h. taken_of h.regs h.memory) (Err why) (snapshot_in i bytes) → IsFirstFault i bytes rule offset → IsRefusal rule offset (Err (fault_of (length bytes) why))
fault-is i bytes rule offset (Breaks b) e f = first-is snapshot_ends bytes rule offset b e f
fault-is i bytes rule offset Memory e f = tt

-- ---- the laws

meaning : (i : ImageParts) (bytes : List ℕ) (r : Result Snapshot Broken) → AreBytes bytes → snapshot_in i bytes ≡ r → ((s : Snapshot) × SpellsSnapshot i bytes s) ⊎ ((rule : Rule) × (offset : ℕ) × IsFirstFault i bytes rule offset)
meaning i bytes (Ok s) fits e = inl (s, spelled-so i bytes s fits e)
meaning i bytes (Err b) fits e = inr (b.rule, (length bytes - b.left), record { broken = b; first = e; rule_is = refl; offset_is = refl })

pub each_means_one_thing : EachMeansOneThing
each_means_one_thing i bytes fits = meaning i bytes (snapshot_in i bytes) fits refl

pub snapshots_are_one : SnapshotsAreOne
snapshots_are_one i bytes s t p q = snapshot-is i bytes s t (read-so i bytes s p) q

pub no_snapshot_has_a_fault : NoSnapshotHasAFault
no_snapshot_has_a_fault i bytes s rule offset p f = no_fault i bytes s rule offset (read-so i bytes s p) f
