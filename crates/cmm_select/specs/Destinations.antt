-- Where numbers are put: places of the activation, and global registers, in code whose labels stand for these numbers.
use Rattle.std.specs.Prelude.{ℕ, List}
use Rattle.rv_asm.specs.Assembly.{IsLabel}
use Rattle.rv_asm.specs.Parts.{Code}
use Rattle.rv_asm.specs.declared.part.Meaning.{Meaning}
use Rattle.rv_table.specs.Machine.{MemoryMap, State}
use Rattle.cmm_effects.specs.Accesses.{CanReachGlobal, PutsGlobal}
use Rattle.cmm_effects.specs.Changes.{CanReach, IsPlace, Puts}
use Rattle.cmm_effects.specs.Pieces.{Leads}
use Rattle.cmm_select.specs.declared.destination.Destination.{Destination}
use Rattle.cmm_select.specs.declared.destination.Destination.TheVariants.{Place, Register}

-- a label that is named is one that was made
abbrev pub IsDestination : List Meaning → Destination → Type 0
IsDestination labels (Place p) = IsPlace p
IsDestination labels (Register l) = IsLabel labels l

-- instructions reach it: a label stands for the offset of a global register
abbrev pub CanPut : (ℕ → ℕ) → Destination → MemoryMap → State → Type 0
CanPut at (Place p) m s = CanReach p m s
CanPut at (Register l) m s = CanReachGlobal (at l.number) m s

-- a number is put there, and nothing else is changed but scratch registers
abbrev pub PutsTo : (ℕ → ℕ) → Destination → ℕ → State → State → Type 0
PutsTo at (Place p) n s t = Puts p n s t
PutsTo at (Register l) n s t = PutsGlobal (at l.number) n s t

-- the number in a register is put there
abbrev pub PutsFrom : ℕ → Destination → Code → ℕ → ℕ → Type 0
PutsFrom r to x = Leads 4 (CanPut x.at to) (λ s t. PutsTo x.at to (s.registers r) s t) x
