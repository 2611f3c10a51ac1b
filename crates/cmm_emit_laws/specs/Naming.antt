-- The graphs of a program's procedures are in range, and name global registers that are there.
use Rattle.std.specs.Prelude.{◌≡◌, true}
use Rattle.std.specs.List.{list_all}
use Rattle.cmm_program.specs.declared.procedure.Proc.{Proc}
use Rattle.cmm_program.specs.declared.program.Program.{Program}
use Rattle.cmm_graph.specs.declared.graph.Graph.{Graph}
use Rattle.cmm_graph.specs.Counterpart.{IsGraphOf}
use Rattle.cmm_graph.specs.Ranges.{IsValid}
use Rattle.cmm_emit_laws.specs.ProgramCode.{names_registers}

pub record IsNamed (p : Program) (g : Graph) : Type 0 where
  pub valid : IsValid g
  pub named : list_all (λ node. names_registers p node.kind) g.nodes ≡ true

-- what a graph of a procedure names is there, and so are global registers
abbrev pub GraphsAreNamed : Type 0
GraphsAreNamed = (p : Program) (q : Proc) (g : Graph) → IsGraphOf p q g → IsNamed p g
