-- What holds of the commands that words mean.
use Rattle.std.specs.Prelude.{◌≡◌, ◌%◌, ◌≤◌, List, length, Some, IfSome}
use Rattle.std.specs.List.{All}
use Rattle.clap.specs.Words.{Text}
use Rattle.cmm_command.specs.declared.command.RunLimits.{RunLimits}
use Rattle.cmm_command.specs.Meaning.{Meaning, build, elf, exec, generate, meaning_of, migrate, run, segments, walk}
use Rattle.cmm_outside.specs.declared.storage.TheConstants.{NAME_LIMIT}

-- a name that a file may have
abbrev pub IsName : Text → Type 0
IsName name = length name ≤ NAME_LIMIT

-- a stack that a run may have
pub record IsLimited (limits : RunLimits) : Type 0 where
  pub whole : limits.stack % 16 ≡ 0
  pub stack : limits.stack ≤ 268435456

-- names are short, stacks are multiples of 16 and not too large, and a program has a number of at most nine digits
abbrev pub IsInRange : Meaning → Type 0
IsInRange (build units image) = All IsName units × IsName image
IsInRange (run image client limits save) = IsName image × IfSome client IsName × IsLimited limits × IfSome save IsName
IsInRange (exec units client limits) = All IsName units × IfSome client IsName × IsLimited limits
IsInRange (walk image snapshot) = IsName image × IsName snapshot
IsInRange (generate number) = number ≤ 999999999
IsInRange (elf image file) = IsName image × IsName file
IsInRange (migrate image file) = IsName image × IsName file
IsInRange (segments file) = IsName file

abbrev pub CommandsAreInRange : Type 0
CommandsAreInRange = (words : List Text) (meant : Meaning) → meaning_of words ≡ Some meant → IsInRange meant
