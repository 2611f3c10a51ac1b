-- Files that are read, each with the most bytes that it may have.
use Rattle.std.specs.Prelude.{ℕ, List, [], ◌∷◌, Option, Some, None}
use Rattle.cmm_elf.specs.declared.reading.TheConstants.{ELF_LIMIT}
use Rattle.cmm_image.specs.declared.reading.TheConstants.{IMAGE_LIMIT}
use Rattle.cmm_outside.specs.Reads.{WantedFile}
use Rattle.cmm_script.specs.declared.reader.TheConstants.{SCRIPT_LIMIT}
use Rattle.cmm_snapshot.specs.declared.reading.TheConstants.{SNAPSHOT_LIMIT}

abbrev pub image_in : List ℕ → WantedFile
image_in name = record { name = name; limit = IMAGE_LIMIT }

abbrev pub snapshot_in : List ℕ → WantedFile
snapshot_in name = record { name = name; limit = SNAPSHOT_LIMIT }

abbrev pub elf_file_in : List ℕ → WantedFile
elf_file_in name = record { name = name; limit = ELF_LIMIT }

-- the script of a client, if words name one
abbrev pub script_in : Option (List ℕ) → List WantedFile
script_in None = []
script_in (Some name) = record { name = name; limit = SCRIPT_LIMIT } ∷ []
