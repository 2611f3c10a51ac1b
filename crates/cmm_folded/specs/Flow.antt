-- When a graph is the flow of a procedure with its constants folded.
use Rattle.cmm_program.specs.declared.procedure.Proc.{Proc}
use Rattle.cmm_graph.specs.declared.graph.Graph.{Graph}
use Rattle.cmm_fold.specs.Graphs.{GraphStandsFor}
use Rattle.cmm_flow.specs.Flow.{IsFlow}

-- It stands for what `flow` answers for the procedure.
pub record IsFoldedFlow (q : Proc) (g : Graph) : Type 0 where
  pub flow : Graph
  pub is_flow : IsFlow q flow
  pub stands : GraphStandsFor flow g
