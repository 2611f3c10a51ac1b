-- The steps of the loops that list the predecessors of nodes.
use Rattle.std.proofs.Common.{◌≡◌, ℕ, ◌+◌, ◌<◌, ◌≤◌, inl, inr, List, [], ◌∷◌, ◌++◌, length, get_or, set, take, replicate, sym, ◌∙◌, ap, subst, arith, Some}
use Rattle.std.specs.Prelude.{All, Contains}
use Rattle.std.proofs.lemmas.Bool.{cases_eq, cases_lt}
use Rattle.std.proofs.lemmas.List.{length-set, take_more, get_or-set_same, get_or-set_other, get_or-replicate, get_or_past, length-replicate}
use Rattle.std.proofs.lemmas.List.Elements.{All-push, All-nil, Contains-append_left, Contains-push, Contains-push_cases}
use Rattle.std.proofs.lemmas.Option.{same_Some, slice_get-get_or, slice_get_within}
use Rattle.cmm_graph.specs.declared.number.NodeId.{NodeId}
use Rattle.cmm_graph.specs.declared.node.Node.{Node}
use Rattle.cmm_graph.specs.declared.graph.Graph.{Graph}
use Rattle.cmm_graph.specs.Paths.{node_of, successors}
use Rattle.cmm_live.specs.inside.Edges.{list_at, AreNodeLists, ArePredecessors, AddsTo}

-- empty lists
pub list_at-empty : (count n : ℕ) → list_at (replicate count []) n ≡ []
list_at-empty count n = elim (cases_lt n count) [
  | inl low ↦ get_or-replicate count n [] [] low
  | inr past ↦ get_or_past (replicate count []) n [] (omega (arith, length-replicate {A = List ℕ} count []))
]

pub empty_lists : (count : ℕ) → AreNodeLists count (replicate count [])
empty_lists count = record {
  size = length-replicate count [];
  within = λ n. let P : List ℕ → Type 0 = λ ps. All (λ p. p < count) ps in subst P (sym (list_at-empty count n)) (All-nil (λ p. p < count));
}

module _ (old : List (List ℕ)) (from : ℕ) where
  pub adds_none : AreNodeLists (length old) old → AddsTo old old [] from
  adds_none lists = record { lists = lists; kept = λ n p was. was; added = λ n found. absurd (omega (arith, found.1)) }

  adds_push : (lists : List (List ℕ)) (nodes : List NodeId) (n : NodeId) → AddsTo old lists nodes from → from < length old → n.number < length lists →
      AddsTo old (set lists n.number (list_at lists n.number ++ from ∷ [])) (nodes ++ n ∷ []) from
  adds_push lists nodes n so_far low within = record {
    lists = record {
      size = length-set lists n.number pushed ∙ so_far.lists.size;
      within = λ m. let P : List ℕ → Type 0 = λ ps. All (λ p. p < length old) ps in elim (cases_eq m n.number) [
        | inl here ↦ subst P (sym (ap (list_at (set lists n.number pushed)) here ∙ there))
            (All-push (λ p. p < length old) (list_at lists n.number) from (so_far.lists.within n.number) low)
        | inr other ↦ subst P (sym (get_or-set_other lists n.number m pushed [] other)) (so_far.lists.within m)
      ];
    };
    kept = λ m p was. still m p (so_far.kept m p was);
    added = λ m found in_m. elim (Contains-push_cases nodes n m found) [
      | inl before ↦ still m.number from (so_far.added m before in_m)
      | inr last ↦ let P : List ℕ → Type 0 = λ ps. Contains ps from in
          subst P (sym (ap (λ (k : NodeId). list_at (set lists n.number pushed) k.number) (sym last) ∙ there)) (Contains-push (list_at lists n.number) from)
    ];
  }
    where
      pushed : List ℕ
      pushed = list_at lists n.number ++ from ∷ []

      there : list_at (set lists n.number pushed) n.number ≡ pushed
      there = get_or-set_same lists n.number pushed [] within

      still : (m p : ℕ) → Contains (list_at lists m) p → Contains (list_at (set lists n.number pushed) m) p
      still m p was = let P : List ℕ → Type 0 = λ ps. Contains ps p in elim (cases_eq m n.number) [
        | inl here ↦ subst P (sym (ap (list_at (set lists n.number pushed)) here ∙ there))
            (Contains-append_left (list_at lists n.number) (from ∷ []) p (subst P (ap (list_at lists) here) was))
        | inr other ↦ subst P (sym (get_or-set_other lists n.number m pushed [] other)) was
      ]

  adds_lack : (lists : List (List ℕ)) (nodes : List NodeId) (n : NodeId) → AddsTo old lists nodes from → length lists ≤ n.number →
      AddsTo old lists (nodes ++ n ∷ []) from
  adds_lack lists nodes n so_far past = record {
    lists = so_far.lists;
    kept = so_far.kept;
    added = λ m found in_m. elim (Contains-push_cases nodes n m found) [
      | inl before ↦ so_far.added m before in_m
      | inr last ↦ absurd (omega (arith, so_far.lists.size, ap (λ (k : NodeId). k.number) last))
    ];
  }

  pub adds_more : (lists : List (List ℕ)) (nodes : List NodeId) (i : ℕ) (n : NodeId) → i < length nodes → n ≡ get_or nodes i n →
      AddsTo old lists (take i nodes) from → from < length old → n.number < length lists →
      AddsTo old (set lists n.number (list_at lists n.number ++ from ∷ [])) (take (i + 1) nodes) from
  adds_more lists nodes i n low is so_far in_from within =
      let next : take (i + 1) nodes ≡ take i nodes ++ n ∷ [] = take_more nodes i n low ∙ ap (λ y. take i nodes ++ y ∷ []) (sym is) in
      rw next (adds_push lists (take i nodes) n so_far in_from within)

  pub adds_skip : (lists : List (List ℕ)) (nodes : List NodeId) (i : ℕ) (n : NodeId) → i < length nodes → n ≡ get_or nodes i n →
      AddsTo old lists (take i nodes) from → length lists ≤ n.number → AddsTo old lists (take (i + 1) nodes) from
  adds_skip lists nodes i n low is so_far past =
      let next : take (i + 1) nodes ≡ take i nodes ++ n ∷ [] = take_more nodes i n low ∙ ap (λ y. take i nodes ++ y ∷ []) (sym is) in
      rw next (adds_lack lists (take i nodes) n so_far past)

-- the nodes before a place are in the lists of those to which they lead
pub record AreFirstEdges (g : Graph) (i : ℕ) (lists : List (List ℕ)) : Type 0 where
  pub nodes : AreNodeLists (length g.nodes) lists
  pub complete : (p n : NodeId) (node : Node) → p.number < i → node_of g p ≡ Some node → Contains (successors g node.kind) n →
      n.number < length g.nodes → Contains (list_at lists n.number) p.number

module _ (g : Graph) where
  pub edges_none : (lists : List (List ℕ)) → lists ≡ replicate (length g.nodes) [] → AreFirstEdges g 0 lists
  edges_none lists is = record {
    nodes = subst (AreNodeLists (length g.nodes)) (sym is) (empty_lists (length g.nodes));
    complete = λ p n node low. absurd (omega arith);
  }

  pub edges_more : (lists next : List (List ℕ)) (i : ℕ) (node : Node) → i < length g.nodes → node ≡ get_or g.nodes i node →
      AreFirstEdges g i lists → AddsTo lists next (successors g node.kind) i → AreFirstEdges g (i + 1) next
  edges_more lists next i node low is so_far adds = record {
    nodes = let P : ℕ → Type 0 = λ n. AreNodeLists n next in subst P so_far.nodes.size adds.lists;
    complete = λ p n other within there leads in_n. elim (cases_eq p.number i) [
      | inl here ↦
          let same : other ≡ node = same_Some other node (sym there ∙ ap (λ k. node_of g (record { number = k })) here
          ∙ slice_get-get_or g.nodes i node low ∙ ap Some (sym is)) in
          let P : ℕ → Type 0 = λ k. Contains (list_at next n.number) k in
          subst P (sym here) (adds.added n (subst (λ (m : Node). Contains (successors g m.kind) n) same leads) (omega (arith, so_far.nodes.size)))
      | inr other_place ↦ adds.kept n.number p.number (so_far.complete p n other (omega arith) there leads in_n)
    ];
  }

  pub edges_all : (lists : List (List ℕ)) (i : ℕ) → length g.nodes ≤ i → AreFirstEdges g i lists → ArePredecessors g lists
  edges_all lists i past so_far = record {
    nodes = so_far.nodes;
    complete = λ p n node there leads in_n.
        so_far.complete p n node (omega (arith, slice_get_within g.nodes p.number node there)) there leads in_n;
  }
