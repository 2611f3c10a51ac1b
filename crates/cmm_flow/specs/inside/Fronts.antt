-- The nodes in front of a graph, to which labels and continuations lead, and the whole of it.
use Rattle.std.specs.Prelude.{◌≡◌, ℕ, suc, ◌+◌, List, [], ◌∷◌, ◌++◌, map, length, replicate}
use Rattle.std.specs.List.{range_with_len, zip}
use Rattle.cmm_program.specs.declared.procedure.Cont.{Cont}
use Rattle.cmm_program.specs.declared.procedure.Proc.{Proc}
use Rattle.cmm_graph.specs.declared.graph.Graph.{Graph}
use Rattle.cmm_graph.specs.declared.node.Node.{Node}
use Rattle.cmm_graph.specs.declared.node.NodeKind.TheVariants.{CopyIn, Goto, Stop}
use Rattle.cmm_graph.specs.declared.number.NodeId.{NodeId}
use Rattle.cmm_graph.specs.Counterpart.{parameter_targets}
use Rattle.cmm_flow.specs.declared.builder.Builder.{Builder}
use Rattle.cmm_flow.specs.inside.Temporaries.{IsLeast, names_below}

-- a Goto to each of some nodes
abbrev pub goto_nodes : List NodeId → List Node
goto_nodes to = map (λ n. record { tokens = 1; kind = Goto n }) to

-- the CopyIn of a continuation
abbrev pub copy_in : Proc → Cont → NodeId → Node
copy_in q c next = record { tokens = suc (length c.params); kind = CopyIn (parameter_targets q c) next }

abbrev pub copy_ins : Proc → List NodeId → List Node
copy_ins q to = map (λ c. copy_in q c.0 c.1) (zip q.conts to)

-- a builder in which all labels and continuations lead to the end
pub record IsNew (labels continuations : ℕ) (b : Builder) : Type 0 where
  pub labels_lead : b.labels ≡ replicate labels b.stop
  pub continuations_lead : b.continuations ≡ replicate continuations b.stop
  pub stop : b.stop.number ≡ labels + 1 + continuations
  pub nodes : b.nodes ≡ record { tokens = 1; kind = Stop } ∷ []

-- a graph with the nodes of a builder, and those in front of them
pub record IsFinished (b : Builder) (q : Proc) (begin : NodeId) (g : Graph) : Type 0 where
  pub nodes : g.nodes ≡ ((goto_nodes b.labels ++ goto_nodes (b.stop ∷ [])) ++ copy_ins q b.continuations) ++ b.nodes
  pub first : g.first ≡ begin
  pub variables : g.variables ≡ length q.vars
  pub temporaries : IsLeast names_below g.nodes g.temporaries
  pub continuations : map (λ n. n.number) g.continuations ≡ range_with_len (length b.labels + 1) (length b.continuations)
