-- Which files words have read, in the order in which they are read: units or an image first, behind them a script or a snapshot; or an ELF file.
use Rattle.std.specs.Prelude.{ℕ, List, [], ◌∷◌, ◌++◌, map, Some, None}
use Rattle.cmm_lexer.specs.declared.tokens.TheConstants.{UNIT_LIMIT}
use Rattle.cmm_outside.specs.Reads.{WantedFile}
use Rattle.cmm_top.specs.Words.{Task, execute, run, build, walk, generate, convert, migrate, inspect, task_of}
use Rattle.cmm_work.specs.Reads.{elf_file_in, image_in, script_in, snapshot_in}

abbrev pub units_in : List (List ℕ) → List WantedFile
units_in names = map (λ name. record { name = name; limit = UNIT_LIMIT }) names

abbrev pub read_for : Task → List WantedFile
read_for (execute names client limits) = units_in names ++ script_in client
read_for (run name client limits save) = image_in name ∷ script_in client
read_for (walk name snapshot) = image_in name ∷ snapshot_in snapshot ∷ []
read_for (build names name) = units_in names
read_for (generate number) = []
read_for (convert name file) = image_in name ∷ []
read_for (migrate name file) = image_in name ∷ []
read_for (inspect name) = elf_file_in name ∷ []

-- words that ask for no task have none read
abbrev pub read_by : List (List ℕ) → List WantedFile
read_by words = elim (task_of words) [ Some task ↦ read_for task | None ↦ [] ]
