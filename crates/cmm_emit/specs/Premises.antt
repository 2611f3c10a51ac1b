-- Of which located programs the code is laid.
use Rattle.std.specs.Prelude.{◌≡◌, ℕ, ◌+◌, ◌*◌, ◌≤◌, List, map, slice_get, Some}
use Rattle.cmm_program.specs.declared.procedure.Proc.{Proc}
use Rattle.cmm_graph.specs.declared.graph.Graph.{Graph}
use Rattle.cmm_graph.specs.declared.node.Node.{Node}
use Rattle.cmm_emit.specs.Costs.{cost_of, total_cost}
use Rattle.cmm_emit.specs.declared.context.Context.{Context}
use Rattle.cmm_emit.specs.declared.context.Targets.{Targets}
use Rattle.cmm_allocate.specs.declared.procedure.ProcedurePlaces.{ProcedurePlaces}
use Rattle.cmm_emit.specs.Contexts.{place_in}

-- the code of a node has at most 32 instructions for each of its tokens, whatever numbers its labels have
abbrev pub IsCovered : ProcedurePlaces → Node → Type 0
IsCovered k node = (c : Context) (y : Targets) → c.frame ≡ k.frame → c.places ≡ k.locals → c.zeroed ≡ map (place_in k) k.zeroed →
    cost_of c y node.kind ≤ 32 * node.tokens

-- so it is of each node of each procedure
abbrev pub AreCovered : List Graph → List ProcedurePlaces → Type 0
AreCovered graphs found =
    (q : ℕ) (g : Graph) (k : ProcedurePlaces) (n : ℕ) (node : Node) → slice_get graphs q ≡ Some g → slice_get found q ≡ Some k →
    slice_get g.nodes n ≡ Some node → IsCovered k node

-- the code of a procedure's nodes, with one instruction behind it, is at most 64 instructions for each token of the procedure, whatever numbers its labels have
abbrev pub IsShort : Proc → Graph → ProcedurePlaces → Type 0
IsShort q g k = (c : Context) (y : Targets) → c.frame ≡ k.frame → c.places ≡ k.locals → c.zeroed ≡ map (place_in k) k.zeroed →
    total_cost c y g.nodes + 1 ≤ 64 * q.tokens

-- so it is of each procedure
abbrev pub AreShort : List Proc → List Graph → List ProcedurePlaces → Type 0
AreShort procs graphs found =
    (n : ℕ) (q : Proc) (g : Graph) (k : ProcedurePlaces) → slice_get procs n ≡ Some q → slice_get graphs n ≡ Some g → slice_get found n ≡ Some k → IsShort q g k
