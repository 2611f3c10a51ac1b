-- What the words of the command line ask for.
use Rattle.std.specs.Prelude.{ℕ, List, [], ◌∷◌, map, Option, Some, None, String, string_bytes}
use Rattle.std.specs.Global.{Global}
use Rattle.cmm_command.specs.Meaning.{Meaning, meaning_of}
use Rattle.cmm_command.specs.Meaning as meaning
use Rattle.cmm_command.specs.declared.command.RunLimits.{RunLimits}

-- the words' bytes
abbrev pub texts : List (String Global) → List (List ℕ)
texts words = map string_bytes words

-- Units are in files of these names, one at least, an image is in the file of one, and the script of a client, if there is one, in the file of one. A snapshot is
-- saved to the file of one, if words say so, or is in it. An ELF file is the file of one, or is written to it, and so is an image in version 2.
pub data Task : Type 0 where
  execute : List (List ℕ) → Option (List ℕ) → RunLimits → Task
  run : List ℕ → Option (List ℕ) → RunLimits → Option (List ℕ) → Task
  build : List (List ℕ) → List ℕ → Task
  walk : List ℕ → List ℕ → Task
  generate : ℕ → Task
  convert : List ℕ → List ℕ → Task
  migrate : List ℕ → List ℕ → Task
  inspect : List ℕ → Task

abbrev pub task_in : Meaning → Option Task
task_in (meaning.exec [] client limits) = None
task_in (meaning.exec (name ∷ names) client limits) = Some (execute (name ∷ names) client limits)
task_in (meaning.run image client limits save) = Some (run image client limits save)
task_in (meaning.build [] image) = None
task_in (meaning.build (name ∷ names) image) = Some (build (name ∷ names) image)
task_in (meaning.walk image snapshot) = Some (walk image snapshot)
task_in (meaning.generate number) = Some (generate number)
task_in (meaning.elf image file) = Some (convert image file)
task_in (meaning.migrate image file) = Some (migrate image file)
task_in (meaning.segments file) = Some (inspect file)

abbrev pub task_of : List (List ℕ) → Option Task
task_of words = elim (meaning_of words) [ Some meant ↦ task_in meant | None ↦ None ]
