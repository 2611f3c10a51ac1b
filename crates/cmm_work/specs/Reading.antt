-- Files that were read.
use Rattle.std.specs.Prelude.{◌≡◌, ◌<◌, ℕ, List, Contains, length, Option, Some, None, Result, Ok, Err}
use Rattle.cmm_outside.specs.declared.storage.CallKind.TheVariants.{Read}
use Rattle.cmm_outside.specs.Faults.{Rose}
use Rattle.cmm_outside.specs.Reads.{AreReadInOrder, AreReadWhole, Made, ReadCall, WantedFile}
use Rattle.cmm_outside.specs.Storage.{Contents, FailedCall}
use Rattle.cmm_script.specs.declared.reader.TheConstants.{SCRIPT_LIMIT}
use Rattle.cmm_script.specs.declared.script.Script.{Script}
use Rattle.cmm_script.specs.Spelling.{SpellsScript}
use Rattle.cmm_work.specs.declared.reading.FileBytes.{FileBytes}
use Rattle.cmm_work.specs.declared.reading.FileBytes.TheVariants.{Whole, TooLong}
use Rattle.cmm_work.specs.declared.reading.ReadFault.{ReadFault}
use Rattle.cmm_work.specs.declared.reading.ReadFault.TheVariants.{Failed, Memory}
use Rattle.cmm_work.specs.Files.{HasBytes}
use Rattle.cmm_work.specs.Work.{no_script}

-- a file of these bytes is read so, where it may have so many
abbrev pub IsFileOf : ℕ → List ℕ → FileBytes → Type 0
IsFileOf limit bytes (Whole read) = read.items ≡ bytes
IsFileOf limit bytes TooLong = limit < length bytes

-- a read fails where a call on the files does, for a file of one of these names; and else none failed
abbrev pub ReadsOrFails : {T : Type 0} → List (List ℕ) → ℕ → ℕ → Option FailedCall → Option FailedCall → Result T ReadFault → Type 0
ReadsOrFails names before after last_before last_after (Ok _) = (after ≡ before) × (last_after ≡ last_before)
ReadsOrFails names before after last_before last_after (Err Memory) = (after ≡ before) × (last_after ≡ last_before)
ReadsOrFails names before after last_before last_after (Err (Failed name)) =
    Contains names name.now × Rose before after × (last_after ≡ Some record { kind = Read; name = name.now })

-- files were read for an answer: each of them whole, or for an error as far as that
abbrev pub ReadsEach : {T E : Type 0} → List WantedFile → Option (List ReadCall) → Option (List ReadCall) → Result T E → Type 0
ReadsEach files before after (Ok _) = Made before after (AreReadWhole files)
ReadsEach files before after (Err _) = Made before after (AreReadInOrder files)

-- ---- a client's script

-- the file of the client was read, if there is one
abbrev pub IsClientRead : Option Contents → Option (List ℕ) → Option FileBytes → Type 0
IsClientRead contents None None = Unit {0}
IsClientRead contents (Some name) (Some read) = HasBytes contents name (λ bytes. IsFileOf SCRIPT_LIMIT bytes read)
IsClientRead contents _ _ = ⊥

-- the script in what was read
abbrev pub IsScriptRead : Option FileBytes → Script → Type 0
IsScriptRead None script = script ≡ no_script
IsScriptRead (Some (Whole read)) script = SpellsScript read.items script
IsScriptRead (Some TooLong) script = ⊥
