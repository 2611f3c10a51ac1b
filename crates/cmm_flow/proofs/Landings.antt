-- What `flow` answers begins at an Entry and lands in CopyIns.
use Rattle.std.proofs.Common.{◌≡◌, ℕ, Bool, true, false, IsTrue, Option, Some, None, List, [], ◌∷◌, map, refl}
use Rattle.std.specs.List.{list_all}
use Rattle.cmm_program.specs.declared.procedure.Cont.{Cont}
use Rattle.cmm_program.specs.declared.procedure.Target.{Target}
use Rattle.cmm_program.specs.Errors.{with_some}
use Rattle.cmm_graph.specs.declared.graph.Graph.{Graph}
use Rattle.cmm_graph.specs.declared.node.Node.{Node}
use Rattle.cmm_graph.specs.declared.node.NodeKind.{NodeKind}
use Rattle.cmm_graph.specs.declared.node.NodeKind.TheVariants.{CopyIn, Entry}
use Rattle.cmm_graph.specs.declared.number.NodeId.{NodeId}
use Rattle.cmm_graph.specs.Counterpart.{formals_of, parameter_targets, taken_at, taken_by}
use Rattle.cmm_graph.specs.Paths.{node_of}
use Rattle.cmm_graph.specs.Ranges.{is_copy_in, is_entry, leads_to}
use Rattle.cmm_flow.specs.Laws.{AnswersLand}
use Rattle.cmm_flow.proofs.Laying.{and_both}

-- what has formals is an Entry, and what takes values a CopyIn
entry_of : (kind : NodeKind) (formals : List ℕ) → formals_of kind ≡ Some formals → is_entry kind ≡ true
entry_of (Entry formals next) numbers is = refl
entry_of kind numbers is = absurd (cc)

copy_in_of : (kind : NodeKind) (to : List Target) → taken_by kind ≡ Some to → is_copy_in kind ≡ true
copy_in_of (CopyIn to next) targets is = refl
copy_in_of kind targets is = absurd (cc)

begins : (o : Option Node) (formals : List ℕ) → with_some o (λ node. formals_of node.kind) ≡ Some formals →
    elim o as (λ _. Bool) [ Some node ↦ is_entry node.kind | None ↦ false ] ≡ true
begins (Some node) formals is = entry_of node.kind formals is
begins None formals is = absurd (cc)

lands : (o : Option Node) (to : List Target) → with_some o (λ node. taken_by node.kind) ≡ Some to →
    elim o as (λ _. Bool) [ Some node ↦ is_copy_in node.kind | None ↦ false ] ≡ true
lands (Some node) to is = copy_in_of node.kind to is
lands None to is = absurd (cc)

all_land : (g : Graph) (takes : Cont → List Target) (ns : List NodeId) (conts : List Cont) → map (taken_at g) ns ≡ map (λ c. Some (takes c)) conts →
    IsTrue (list_all (leads_to g is_copy_in) ns)
all_land g takes [] conts are = refl
all_land g takes (n ∷ ns) [] are = absurd (cc)
all_land g takes (n ∷ ns) (c ∷ conts) are =
    let first : taken_at g n ≡ Some (takes c) = cc in
    let later : map (taken_at g) ns ≡ map (λ c. Some (takes c)) conts = cc in
    and_both (leads_to g is_copy_in n) (list_all (leads_to g is_copy_in) ns) (lands (node_of g n) (takes c) first) (all_land g takes ns conts later)

pub answers_land : AnswersLand
answers_land q g is nodes = record {
  first = begins (node_of g g.first) _ is.formals;
  nodes = nodes;
  continuations = all_land g (parameter_targets q) g.continuations q.conts is.continuations;
}
