-- How many values commands have.
use Rattle.std.specs.Prelude.{◌≤◌, List, [], length}
use Rattle.std.specs.List.{All}
use Rattle.cmm_script.specs.declared.line.TheConstants.{VALUES_LIMIT}
use Rattle.cmm_script.specs.declared.script.Script.{Script}
use Rattle.cmm_script.specs.declared.script.Command.{Command}
use Rattle.cmm_script.specs.declared.script.Command.TheVariants.{Return, Unwind, Cut}
use Rattle.cmm_script.specs.declared.script.Value.{Value}

-- the values that a command gives what it resumes
abbrev pub values_given : Command → List Value
values_given (Return exit values) = values
values_given (Unwind exit values) = values
values_given (Cut continuation values) = values
values_given _ = []

-- a command gives no more than a line may have
abbrev pub GivesFew : Command → Type 0
GivesFew c = length (values_given c) ≤ VALUES_LIMIT

-- and so does each command of a script
abbrev pub HasFewValues : Script → Type 0
HasFewValues s = All (λ b. All GivesFew b.commands) s.blocks
