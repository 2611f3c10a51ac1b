-- What stands for what stands for a right side stands for it, and so do nodes and graphs; what the two walks of `fold` keep.
use Rattle.std.proofs.Common.{◌≡◌, ℕ, ◌+◌, ◌≤◌, inl, inr, refl, sym, ◌∙◌, arith, List, [], ◌∷◌, length, length-set, set, Some}
use Rattle.std.specs.Prelude.{slice_get}
use Rattle.std.specs.List.{All, AllZip}
use Rattle.cmm_graph.specs.declared.graph.Graph.{Graph}
use Rattle.cmm_graph.specs.declared.node.Node.{Node}
use Rattle.cmm_graph.specs.declared.node.NodeKind.{NodeKind}
use Rattle.cmm_graph.specs.declared.node.NodeKind.TheVariants.{Assign}
use Rattle.cmm_graph.specs.declared.operand.Rvalue.{Rvalue}
use Rattle.cmm_fold.specs.Folding.{StandsFor}
use Rattle.cmm_fold.specs.Graphs.{GraphStandsFor, IsFolded, KindIsIrreducible, KindStandsFor, NodeStandsFor}
use Rattle.cmm_fold.proofs.Walks.{IsWalked, walk_begins, walk_ends, walk_passes, walk_steps}

stands_then : (a b c : Rvalue) → StandsFor a b → StandsFor b c → StandsFor a c
stands_then a b c first second = record {
  value = λ held reads known. second.value held reads known ∙ first.value held reads known;
  reads = second.reads ∙ first.reads;
  least = omega (arith, first.least, second.least);
  range = λ g valid. second.range g (first.range g valid);
  names = λ p q there. second.names p q (first.names p q there);
  registers = λ p. second.registers p ∙ first.registers p;
}

kind_then : (a b c : NodeKind) → KindStandsFor a b → KindStandsFor b c → KindStandsFor a c
kind_then a b c (inl e) (inl f) = inl (f ∙ e)
kind_then a b c (inl e) (inr s) = inr (record { to = s.to; value = s.value; folded = s.folded; next = s.next; was = sym e ∙ s.was; is = s.is; stands = s.stands })
kind_then a b c (inr s) (inl f) = inr (record { to = s.to; value = s.value; folded = s.folded; next = s.next; was = s.was; is = f ∙ s.is; stands = s.stands })
kind_then a b c (inr s) (inr t) =
    let same : Assign s.to s.folded s.next ≡ Assign t.to t.value t.next = sym s.is ∙ t.was in
    let to : s.to ≡ t.to = cc in
    let value : s.folded ≡ t.value = cc in
    let next : s.next ≡ t.next = cc in
    inr (record {
      to = s.to;
      value = s.value;
      folded = t.folded;
      next = s.next;
      was = s.was;
      is = rw (to, next) t.is;
      stands = stands_then s.value s.folded t.folded s.stands (rw value t.stands);
    })

node_itself : (a : Node) → NodeStandsFor a a
node_itself a = record { tokens = refl; kind = inl refl }

node_then : (a b c : Node) → NodeStandsFor a b → NodeStandsFor b c → NodeStandsFor a c
node_then a b c first second = record { tokens = second.tokens ∙ first.tokens; kind = kind_then a.kind b.kind c.kind first.kind second.kind }

pub graph_itself : (g : Graph) → GraphStandsFor g g
graph_itself g = record { variables = refl; temporaries = refl; first = refl; continuations = refl; nodes = all g.nodes }
  where
    all : (nodes : List Node) → AllZip NodeStandsFor nodes nodes
    all [] = tt
    all (a ∷ nodes) = (node_itself a, all nodes)

pub graph_then : (a b c : Graph) → GraphStandsFor a b → GraphStandsFor b c → GraphStandsFor a c
graph_then a b c first second = record {
  variables = second.variables ∙ first.variables;
  temporaries = second.temporaries ∙ first.temporaries;
  first = second.first ∙ first.first;
  continuations = second.continuations ∙ first.continuations;
  nodes = all a.nodes b.nodes c.nodes first.nodes second.nodes;
}
  where
    all : (xs ys zs : List Node) → AllZip NodeStandsFor xs ys → AllZip NodeStandsFor ys zs → AllZip NodeStandsFor xs zs
    all [] [] [] one two = tt
    all [] [] (z ∷ zs) one two = absurd two
    all [] (y ∷ ys) zs one two = absurd one
    all (x ∷ xs) [] zs one two = absurd one
    all (x ∷ xs) (y ∷ ys) [] one two = absurd two
    all (x ∷ xs) (y ∷ ys) (z ∷ zs) one two = (node_then x y z one.0 two.0, all xs ys zs one.1 two.1)

-- ---- the walk over the nodes of a graph

abbrev NodeIsIrreducible : Node → Type 0
NodeIsIrreducible node = KindIsIrreducible node.kind

-- the graph has the nodes of the first one, those before an index folded, and all else of it
pub record FoldState (first : Graph) (count i : ℕ) (g : Graph) : Type 0 where
  pub same : length g.nodes ≡ count
  pub variables : g.variables ≡ first.variables
  pub temporaries : g.temporaries ≡ first.temporaries
  pub entry : g.first ≡ first.first
  pub continuations : g.continuations ≡ first.continuations
  pub nodes : IsWalked NodeStandsFor NodeIsIrreducible first.nodes i g.nodes

pub fold_begins : (g : Graph) → FoldState g (length g.nodes) 0 g
fold_begins g = record {
  same = refl;
  variables = refl;
  temporaries = refl;
  entry = refl;
  continuations = refl;
  nodes = walk_begins NodeStandsFor NodeIsIrreducible node_itself node_then g.nodes;
}

pub fold_passes : (first g : Graph) (count i : ℕ) (a : Node) → slice_get g.nodes i ≡ Some a → KindIsIrreducible a.kind → FoldState first count i g → FoldState first count (i + 1) g
fold_passes first g count i a is irreducible state = record {
  same = state.same;
  variables = state.variables;
  temporaries = state.temporaries;
  entry = state.entry;
  continuations = state.continuations;
  nodes = walk_passes NodeStandsFor NodeIsIrreducible first.nodes g.nodes i a is irreducible state.nodes;
}

pub fold_steps : (first g : Graph) (count i : ℕ) (a b : Node) → slice_get g.nodes i ≡ Some a → NodeStandsFor a b → KindIsIrreducible b.kind → FoldState first count i g →
    FoldState first count (i + 1) (record g { nodes = set g.nodes i b })
fold_steps first g count i a b is stands irreducible state = record {
  same = length-set g.nodes i b ∙ state.same;
  variables = state.variables;
  temporaries = state.temporaries;
  entry = state.entry;
  continuations = state.continuations;
  nodes = walk_steps NodeStandsFor NodeIsIrreducible node_itself node_then first.nodes g.nodes i a b is stands irreducible state.nodes;
}

pub fold_stands : (first g : Graph) (count i : ℕ) → FoldState first count i g → GraphStandsFor first g
fold_stands first g count i state = record {
  variables = state.variables;
  temporaries = state.temporaries;
  first = state.entry;
  continuations = state.continuations;
  nodes = state.nodes.stand;
}

pub fold_ends : (first g : Graph) (count i : ℕ) → count ≤ i → FoldState first count i g → IsFolded g
fold_ends first g count i enough state =
    let all : length g.nodes ≤ i = omega (arith, enough, state.same) in walk_ends NodeStandsFor NodeIsIrreducible first.nodes g.nodes i all state.nodes

-- ---- the walk over graphs

abbrev pub AreFoldedBelow : List Graph → ℕ → List Graph → Type 0
AreFoldedBelow = IsWalked GraphStandsFor IsFolded

pub all_begin : (graphs : List Graph) → AreFoldedBelow graphs 0 graphs
all_begin graphs = walk_begins GraphStandsFor IsFolded graph_itself graph_then graphs

pub all_step : (first graphs : List Graph) (i : ℕ) (a b : Graph) → slice_get graphs i ≡ Some a → GraphStandsFor a b → IsFolded b → AreFoldedBelow first i graphs →
    AreFoldedBelow first (i + 1) (set graphs i b)
all_step first graphs i a b is stands folded state = walk_steps GraphStandsFor IsFolded graph_itself graph_then first graphs i a b is stands folded state

pub all_end : (first graphs : List Graph) (i : ℕ) → length graphs ≤ i → AreFoldedBelow first i graphs → All IsFolded graphs
all_end first graphs i enough state = walk_ends GraphStandsFor IsFolded first graphs i enough state
