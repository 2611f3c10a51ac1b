-- What is read of the words that clap has sorted.
use Rattle.std.specs.Prelude.{◌≡◌, ℕ, nat_le, if◌then◌else◌, List, [], ◌∷◌, length, codes, Option, Some, None, Result, Ok, Err}
use Rattle.std.specs.List.{list_all}
use Rattle.std.specs.Option.{option_and_then}
use Rattle.clap.specs.Words.{App, Kinds, Row, Text, all_of, fault_of, first_of, matches_of}
use Rattle.cmm_command.specs.declared.command.RunLimits.{RunLimits}
use Rattle.cmm_command.specs.declared.fault.CommandFault.{CommandFault}
use Rattle.cmm_command.specs.declared.fault.CommandFault.TheVariants as fault
use Rattle.cmm_command.specs.Numbers.{number_of, stack_of, steps_of}

infixl 10 ◌>>=◌
abbrev pub ◌>>=◌ : {A B : Type 0} → Option A → (A → Option B) → Option B
o >>= f = option_and_then f o

-- what a function returned is what was meant, seen by `view`, unless memory ran out
abbrev pub Gives : {A B : Type 0} → (A → B) → Option B → Result A CommandFault → Type 0
Gives view meant (Ok x) = meant ≡ Some (view x)
Gives view meant (Err fault.Usage) = meant ≡ None
Gives view meant (Err fault.Memory) = Unit {0}

abbrev pub unless_faulty : {A : Type 0} → Kinds → A → Option A
unless_faulty [] a = Some a
unless_faulty (kind ∷ kinds) a = None

-- the rows into which clap sorts words, where the command takes them. It passes over the first, which is its name.
unfoldable pub sorted : App → List Text → Option (List Row)
sorted app words = unless_faulty (fault_of app words) (matches_of app words)

-- ---- files

-- a file's name has at most 4,095 bytes
abbrev pub file_name : Text → Option Text
file_name text = if nat_le (length text) 4095 then Some text else None

abbrev pub file_names : List Text → Option (List Text)
file_names texts = if list_all (λ text. nat_le (length text) 4095) texts then Some texts else None

abbrev pub file_of : Text → List Row → Option Text
file_of id rows = first_of id rows >>= file_name

abbrev pub files_of : Text → List Row → Option (List Text)
files_of id rows = all_of id rows >>= file_names

-- ---- what may be left out

-- `usual`, where the option is not given
abbrev pub read_or : {A : Type 0} → A → (Text → Option A) → Option Text → Option A
read_or usual read None = Some usual
read_or usual read (Some text) = read text

abbrev pub file_as_given : Text → Option (Option Text)
file_as_given text = file_name text >>= λ name. Some (Some name)

abbrev pub file_if_given : Text → List Row → Option (Option Text)
file_if_given id rows = read_or None file_as_given (first_of id rows)

abbrev pub limits_of : List Row → Option RunLimits
limits_of rows = read_or 1000000000 steps_of (first_of (codes "steps") rows) >>= λ steps.
    read_or 1048576 stack_of (first_of (codes "stack") rows) >>= λ stack.
    Some (record { steps = steps; stack = stack })

-- ---- the number of a program

abbrev pub number_in : List Row → Option ℕ
number_in rows = first_of (codes "number") rows >>= number_of
