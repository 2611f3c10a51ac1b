-- What holds of all bytes.
use Rattle.std.specs.Prelude.{◌≡◌, ℕ, ◌⊎◌, List}
use Rattle.cmm_rules.specs.declared.rule.Rule.{Rule}
use Rattle.cmm_format.specs.Formats.{AreBytes}
use Rattle.cmm_elf.specs.declared.segments.Segments.{Segments}
use Rattle.cmm_elf.specs.ElfFiles.{SpellsElf, IsFirstFault}

-- bytes are the file of segments, or they have a first fault
abbrev pub EachMeansOneThing : Type 0
EachMeansOneThing = (bytes : List ℕ) → AreBytes bytes → ((s : Segments) × SpellsElf bytes s) ⊎ ((rule : Rule) × (offset : ℕ) × IsFirstFault bytes rule offset)

-- bytes are the file of one code, data and entry at most
abbrev pub FilesAreOne : Type 0
FilesAreOne = (bytes : List ℕ) (s t : Segments) → SpellsElf bytes s → SpellsElf bytes t → s ≡ t

-- the bytes of a file have no fault
abbrev pub NoFileHasAFault : Type 0
NoFileHasAFault = (bytes : List ℕ) (s : Segments) (rule : Rule) (offset : ℕ) → SpellsElf bytes s → IsFirstFault bytes rule offset → ⊥
