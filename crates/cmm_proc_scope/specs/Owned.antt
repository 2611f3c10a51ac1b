-- What the names of a procedure are declared as, as the rules see it.
use Rattle.cmm_static_semantics.specs.Declarations.{Declared, Local as ProcLocal, Variable, Room, Label, Continuation}
use Rattle.cmm_symbols.specs.Shown.{named, with_what}
use Rattle.cmm_symbols.specs.declared.table.Named.{Named}
use Rattle.cmm_proc_scope.specs.declared.own.Local.{Local}
use Rattle.cmm_proc_scope.specs.declared.own.Local.TheVariants as locals
use Rattle.cmm_proc_scope.specs.declared.own.Numbered.{Numbered}

abbrev pub local_shown : Local → ProcLocal
local_shown (locals.Variable t) = Variable t.now
local_shown locals.Room = Room
local_shown locals.Label = Label
local_shown locals.Continuation = Continuation

abbrev pub local_declared : Named Local → Declared ProcLocal
local_declared n = with_what local_shown (named n)

-- the same, its number left out
abbrev pub own_declared : Named Numbered → Declared ProcLocal
own_declared n = with_what (λ own. local_shown own.local) (named n)
