-- When a graph is the folded flow of a procedure with its constants hoisted, and when the graphs of a program are.
use Rattle.std.specs.Prelude.{ℕ, ◌+◌, ◌*◌, ◌≤◌, List, length, Some, None}
use Rattle.std.specs.List.{AllZip}
use Rattle.cmm_program.specs.declared.procedure.Proc.{Proc}
use Rattle.cmm_program.specs.declared.program.Program.{Program}
use Rattle.cmm_program.specs.Bounds.{longest}
use Rattle.cmm_graph.specs.declared.graph.Graph.{Graph}
use Rattle.cmm_graph.specs.Paths.{node_of}
use Rattle.cmm_hoist.specs.Graphs.{HasTokensWithin, IsHoistedFrom}
use Rattle.cmm_folded.specs.Flow.{IsFoldedFlow}

-- It is hoisted from the folded flow of the procedure.
pub record IsHoistedFlow (q : Proc) (g : Graph) : Type 0 where
  pub folded : Graph
  pub is_folded : IsFoldedFlow q folded
  pub hoisted : IsHoistedFrom folded g

-- And no node has more than so many tokens: two for each constant that is kept fewer than the longest procedure.
pub record IsFlowWithin (most greatest : ℕ) (q : Proc) (g : Graph) : Type 0 where
  pub flow : IsHoistedFlow q g
  pub tokens : HasTokensWithin most g
  pub spared : most + 2 * length flow.hoisted.kept ≤ greatest

pub record AreFlowsWithin (p : Program) (graphs : List Graph) : Type 0 where
  pub most : ℕ
  pub all : AllZip (IsFlowWithin most (longest p.procs)) p.procs graphs

-- the tokens of a graph's Entry: those of its procedure, less one for each constant that is kept
abbrev pub entry_tokens : Graph → ℕ
entry_tokens g = elim (node_of g g.first) [ Some node ↦ node.tokens | None ↦ 0 ]
