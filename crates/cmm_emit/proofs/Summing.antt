-- How long the code of all nodes gets, while one after another is laid; and how many instructions that are for the tokens of a procedure.
use Rattle.std.proofs.Common.{◌≡◌, ◌≢◌, ◌⊎◌, inl, inr, ℕ, zero, suc, ◌+◌, ◌*◌, ◌≤◌, ◌==◌, ◌||◌, not, sym, ◌∙◌, ap, subst, refl, eq-eqb, List, [], ◌∷◌, set, slice_get, Option, Some, None, true, false, Bool, arith}
use Rattle.std.proofs.lemmas.Bool.{or_cases}
use Rattle.std.proofs.lemmas.Bool.Decides.{eqb_tells}
use Rattle.std.proofs.lemmas.List.Sums.{sum_by-cons}
use Rattle.std.specs.Prelude.{sum_by}
use Rattle.cmm_bitset.proofs.Shared.{has-set_other}
use Rattle.cmm_bitset.specs.Sets.{has}
use Rattle.cmm_graph.specs.declared.graph.Graph.{Graph}
use Rattle.cmm_graph.specs.declared.node.Node.{Node}
use Rattle.cmm_graph.specs.declared.number.NodeId.{NodeId}
use Rattle.cmm_emit.specs.declared.context.Context.{Context}
use Rattle.cmm_emit.specs.declared.context.Targets.{Targets}
use Rattle.cmm_emit.specs.Costs.{cost_of, total_cost}
use Rattle.cmm_emit.specs.LaidNodes.{cost_to_come, cost_where, is_to_come}

-- ---- which nodes are still to come

-- one that is, once another has its place, had none before
still : (placed : List Bool) (n : NodeId) (k : ℕ) → has placed n.number ≡ false → is_to_come (set placed n.number true) (Some n) k ≡ true → has placed k ≡ false
still placed n k fresh comes = by (eqb_tells k n.number)
  where
    out : (b : Bool) → not b ≡ true → b ≡ false
    out true e = absurd (cc)
    out false e = refl

    by : (((k == n.number) ≡ true) × (k ≡ n.number)) ⊎ (((k == n.number) ≡ false) × (k ≢ n.number)) → has placed k ≡ false
    by (inl same) = ap (has placed) same.1 ∙ fresh
    by (inr other) = elim (or_cases (not (has (set placed n.number true) k)) (k == n.number) comes) [
      | inl e ↦ sym (has-set_other placed n.number k true other.1) ∙ out (has (set placed n.number true) k) e
      | inr e ↦ absurd (let differs = other.0 in cc)
    ]

comes_if_out : (placed : List Bool) (n : NodeId) (k : ℕ) → has placed k ≡ false → is_to_come placed (Some n) k ≡ true
comes_if_out placed n k out = ap (λ b. not b || (k == n.number)) out

comes_itself : (placed : List Bool) (n : NodeId) → is_to_come placed (Some n) n.number ≡ true
comes_itself placed n = ap (λ b. not (has placed n.number) || b) (eq-eqb n.number n.number refl) ∙ or_true (not (has placed n.number))
  where
    or_true : (b : Bool) → (b || true) ≡ true
    or_true true = refl
    or_true false = refl

-- a node that has its place has its code once another is next
comes_no_more : (placed : List Bool) (n next : NodeId) → has placed n.number ≡ true → has placed next.number ≡ false →
    is_to_come (set placed next.number true) (Some next) n.number ≡ false
comes_no_more placed n next member fresh = by (eqb_tells n.number next.number)
  where
    by : (((n.number == next.number) ≡ true) × (n.number ≡ next.number)) ⊎ (((n.number == next.number) ≡ false) × (n.number ≢ next.number)) →
        is_to_come (set placed next.number true) (Some next) n.number ≡ false
    by (inl same) = let here : has placed n.number ≡ has placed next.number = ap (has placed) same.1 in absurd (cc)
    by (inr other) =
        ap (λ b. not b || (n.number == next.number)) (has-set_other placed next.number n.number true other.1 ∙ member) ∙ other.0

module _ (p : Context) (y : Targets) where
  -- ---- sums over those that are

  some_where : (a b : Bool) (cost : ℕ) → (a ≡ true → b ≡ true) → elim a as (λ _. ℕ) [ true ↦ cost | false ↦ 0 ] ≤ elim b as (λ _. ℕ) [ true ↦ cost | false ↦ 0 ]
  some_where true true cost more = omega arith
  some_where true false cost more = absurd (let e : false ≡ true = more refl in cc)
  some_where false b cost more = omega arith

  module _ (new old : ℕ → Bool) (more : (k : ℕ) → new k ≡ true → old k ≡ true) where
    where_less : (i : ℕ) (nodes : List Node) → cost_where p y new i nodes ≤ cost_where p y old i nodes
    where_less i [] = omega arith
    where_less i (node ∷ nodes) = omega (arith, some_where (new i) (old i) (cost_of p y node.kind) (more i), where_less (suc i) nodes)

    one_less : (i j k : ℕ) (nodes : List Node) (node : Node) → slice_get nodes j ≡ Some node → k ≡ i + j → new k ≡ false → old k ≡ true →
        cost_where p y new i nodes + cost_of p y node.kind ≤ cost_where p y old i nodes
    one_less i j k [] node is at out here = absurd (cc)
    one_less i zero k (x ∷ nodes) node is at out here =
        let same : x ≡ node = cc in
        let first : k ≡ i = omega (arith, at) in
        omega (
          arith,
          ap (λ b. elim b as (λ _. ℕ) [ true ↦ cost_of p y x.kind | false ↦ 0 ]) (sym (ap new first) ∙ out),
          ap (λ b. elim b as (λ _. ℕ) [ true ↦ cost_of p y x.kind | false ↦ 0 ]) (sym (ap old first) ∙ here),
          ap (λ (z : Node). cost_of p y z.kind) same,
          where_less (suc i) nodes,
        )
    one_less i (suc j) k (x ∷ nodes) node is at out here =
        omega (arith, some_where (new i) (old i) (cost_of p y x.kind) (more i), one_less (suc i) j k nodes node is (omega (arith, at)) out here)

  -- no more than all
  pub come_few : (placed : List Bool) (next : Option NodeId) (nodes : List Node) → cost_to_come p y placed next nodes ≤ total_cost p y nodes
  come_few placed next nodes = by 0 nodes
    where
      less : (b : Bool) (cost : ℕ) → elim b as (λ _. ℕ) [ true ↦ cost | false ↦ 0 ] ≤ cost
      less true cost = omega arith
      less false cost = omega arith

      by : (i : ℕ) (nodes : List Node) → cost_where p y (is_to_come placed next) i nodes ≤ total_cost p y nodes
      by i [] = omega arith
      by i (node ∷ nodes) =
          omega (arith, less (is_to_come placed next i) (cost_of p y node.kind), by (suc i) nodes, sum_by-cons (λ (node : Node). cost_of p y node.kind) node nodes)

  module _ (g : Graph) where
    -- a node has its place, and is next
    pub place_costs : (placed : List Bool) (n : NodeId) → has placed n.number ≡ false →
        cost_to_come p y (set placed n.number true) (Some n) g.nodes ≤ cost_to_come p y placed None g.nodes
    place_costs placed n fresh =
        where_less (is_to_come (set placed n.number true) (Some n)) (is_to_come placed None) (λ k comes. ap not (still placed n k fresh comes)) 0 g.nodes

    -- a node has its code, and another is next
    pub next_costs : (placed : List Bool) (n next : NodeId) (node : Node) → slice_get g.nodes n.number ≡ Some node → has placed n.number ≡ true →
        has placed next.number ≡ false →
        cost_to_come p y (set placed next.number true) (Some next) g.nodes + cost_of p y node.kind ≤ cost_to_come p y placed (Some n) g.nodes
    next_costs placed n next node is member fresh =
        one_less (is_to_come (set placed next.number true) (Some next)) (is_to_come placed (Some n))
        (λ k comes. comes_if_out placed n k (still placed next k fresh comes)) 0 n.number n.number g.nodes node is (omega arith)
        (comes_no_more placed n next member fresh) (comes_itself placed n)

    -- or none is
    pub last_costs : (placed : List Bool) (n : NodeId) (node : Node) → slice_get g.nodes n.number ≡ Some node → has placed n.number ≡ true →
        cost_to_come p y placed None g.nodes + cost_of p y node.kind ≤ cost_to_come p y placed (Some n) g.nodes
    last_costs placed n node is member =
        one_less (is_to_come placed None) (is_to_come placed (Some n)) (λ k comes. ap (λ b. b || (k == n.number)) comes) 0 n.number n.number g.nodes node is
        (omega arith) (ap not member) (comes_itself placed n)

    -- where one is next more is to come than where none is
    pub rest_costs : (placed : List Bool) (n : NodeId) → cost_to_come p y placed None g.nodes ≤ cost_to_come p y placed (Some n) g.nodes
    rest_costs placed n = where_less (is_to_come placed None) (is_to_come placed (Some n)) (λ k comes. ap (λ b. b || (k == n.number)) comes) 0 g.nodes

-- ---- sums against tokens

module _ (cost tokens : Node → ℕ) where
  all_fit : (nodes : List Node) → ((k : ℕ) (node : Node) → slice_get nodes k ≡ Some node → cost node ≤ 32 * tokens node) → sum_by cost nodes ≤ 32 * sum_by tokens nodes
  all_fit [] each = omega arith
  all_fit (node ∷ nodes) each =
      omega (arith, each 0 node refl, all_fit nodes (λ k other is. each (suc k) other is), sum_by-cons cost node nodes, sum_by-cons tokens node nodes)

  -- where one of them has so much less, all have together
  pub one_spares : (spare : ℕ) (nodes : List Node) (n : ℕ) (node : Node) → slice_get nodes n ≡ Some node → cost node + spare ≤ 32 * tokens node →
      ((k : ℕ) (other : Node) → slice_get nodes k ≡ Some other → cost other ≤ 32 * tokens other) → sum_by cost nodes + spare ≤ 32 * sum_by tokens nodes
  one_spares spare [] n node is less each = absurd (cc)
  one_spares spare (x ∷ nodes) zero node is less each =
      let same : x ≡ node = cc in
      let here : cost x + spare ≤ 32 * tokens x = subst (λ (z : Node). cost z + spare ≤ 32 * tokens z) (sym same) less in
      omega (arith, here, all_fit nodes (λ k other at. each (suc k) other at), sum_by-cons cost x nodes, sum_by-cons tokens x nodes)
  one_spares spare (x ∷ nodes) (suc n) node is less each =
      omega (
        arith,
        each 0 x refl,
        one_spares spare nodes n node is less (λ k other at. each (suc k) other at),
        sum_by-cons cost x nodes,
        sum_by-cons tokens x nodes,
      )
