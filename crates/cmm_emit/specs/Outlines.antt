-- The labels of a unit.
use Rattle.std.specs.Prelude.{◌≡◌, ℕ, ◌+◌, ◌≤◌, List, ◌++◌, length, map, take, drop, Option, Some}
use Rattle.rv_asm.specs.declared.part.Label.{Label}
use Rattle.cmm_program.specs.declared.procedure.Proc.{Proc}
use Rattle.cmm_program.specs.declared.program.Program.{Program}
use Rattle.cmm_graph.specs.declared.graph.Graph.{Graph}
use Rattle.cmm_allocate.specs.declared.procedure.ProcedurePlaces.{ProcedurePlaces}
use Rattle.cmm_emit.specs.Contexts.{AreMade, entry_labels}
use Rattle.cmm_emit.specs.Symbols.{AreSymbols}
use Rattle.cmm_emit.specs.declared.outline.Outline.{Outline}
use Rattle.cmm_emit.specs.declared.symbols.Symbols.{Symbols}

-- what code of a program can name by symbols: global registers, data labels and procedures
abbrev pub symbol_count : Program → ℕ
symbol_count p = length p.globals + length p.labels + length p.procs

-- The labels of a unit are those of what it names that is not in its code, then that of the stack's limit and that of the call of the client, and from here on those
-- of its procedures.
abbrev pub first_own : Outline → ℕ
first_own o = length o.references + 2

-- n of a list, from one on
abbrev pub share : {A : Type 0} → ℕ → ℕ → List A → List A
share first count xs = take count (drop first xs)

-- what a list has for the procedures of a unit
abbrev pub own : {A : Type 0} → Outline → List A → List A
own o xs = share o.first (length o.contexts) xs

-- the labels of procedures, where a unit has those of its own, from one on, in its code
abbrev pub with_own : ℕ → List Label → List (Option Label) → List (Option Label)
with_own first entries others = take first others ++ (map Some entries ++ drop (first + length entries) others)

-- The outline of a unit that has these procedures of a program, from one on, with their graphs and their places.
pub record IsOutline (p : Program) (procs : List Proc) (graphs : List Graph) (found : List ProcedurePlaces) (o : Outline) : Type 0 where
  pub within : o.first + length procs ≤ length p.procs
  pub symbols : Symbols
  pub are_symbols : AreSymbols p graphs o.first (length procs) symbols
  pub references : o.references ≡ symbols.references
  pub registers : o.targets.registers ≡ symbols.registers
  pub data_labels : o.targets.data_labels ≡ symbols.data_labels
  pub procedures : o.targets.procedures ≡ with_own o.first o.entries symbols.procedures
  pub limit : o.targets.limit ≡ record { number = length o.references }
  pub client : o.targets.client ≡ record { number = length o.references + 1 }
  pub contexts : AreMade (first_own o) procs graphs found o.contexts
  pub entries : o.entries ≡ entry_labels o.contexts graphs

-- those that are its own of a whole program
abbrev pub IsOutlineIn : Program → List Graph → List ProcedurePlaces → Outline → Type 0
IsOutlineIn p graphs found o = IsOutline p (own o p.procs) (own o graphs) (own o found) o
