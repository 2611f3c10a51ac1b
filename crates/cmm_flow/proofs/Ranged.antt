-- What holds of a graph whose nodes belong to a procedure in range.
use Rattle.std.proofs.Common.{◌≡◌, ℕ, zero, suc, ◌+◌, ◌<◌, ◌≤◌, nat_lt, IsTrue, Bool, false, Some, None, List, [], ◌∷◌, length, map, slice_get, refl, subst, arith}
use Rattle.std.proofs.lemmas.Bool.{and_parts}
use Rattle.std.proofs.lemmas.Option.{get_or_from_slice_get, slice_get_within}
use Rattle.std.specs.List.{All, list_all, range_with_len}
use Rattle.std.specs.Prelude.{slice_index_or}
use Rattle.cmm_words.specs.declared.width.Width.{Width}
use Rattle.cmm_words.specs.declared.width.Width.TheVariants.{W8, W16, W32, W64}
use Rattle.cmm_program.proofs.Shared.{list_all_get}
use Rattle.cmm_program.specs.declared.procedure.Cont.{Cont}
use Rattle.cmm_program.specs.declared.procedure.Proc.{Proc}
use Rattle.cmm_program.specs.declared.procedure.Target.TheVariants as target
use Rattle.cmm_program.specs.declared.procedure.VarInfo.{VarInfo}
use Rattle.cmm_program.specs.declared.program.Program.{Program}
use Rattle.cmm_program.specs.Exits.{variable_width}
use Rattle.cmm_program.specs.InRange.{IsProcInRange, at_most_64, below, is_continuation}
use Rattle.cmm_program.specs.Typing.{has_variable, is_target, same_width}
use Rattle.cmm_graph.specs.declared.graph.Graph.{Graph}
use Rattle.cmm_graph.specs.declared.node.Node.{Node}
use Rattle.cmm_graph.specs.declared.node.NodeKind.TheVariants.{Entry}
use Rattle.cmm_graph.specs.declared.number.Variable.{Variable}
use Rattle.cmm_graph.specs.Counterpart.{HasSite, names_there}
use Rattle.cmm_graph.specs.Ranges.{is_node}
use Rattle.cmm_flow.specs.Flow.{IsBounded}
use Rattle.cmm_flow.specs.inside.Fronts.{copy_in}
use Rattle.cmm_flow.specs.inside.Laying.{AreAsked, Asked, leads_on, passes}
use Rattle.cmm_flow.specs.inside.Nodes.{nowhere, unled}
use Rattle.cmm_flow.specs.inside.Temporaries.{IsLeast, names_below}
use Rattle.cmm_flow.proofs.Belongs.{belongs, node_belongs}
use Rattle.cmm_flow.proofs.Bounded.{fits, room_of}
use Rattle.cmm_flow.proofs.Covering.{at_most, each_passes, less_of, list_all_more, test_less}
use Rattle.cmm_flow.proofs.Laying.{and_both}
use Rattle.cmm_flow.proofs.Valid.{node_below, node_named, node_ranged}

-- ---- the nodes in front

same_itself : (w : Width) → IsTrue (same_width w w)
same_itself W8 = refl
same_itself W16 = refl
same_itself W32 = refl
same_itself W64 = refl

variable_in : (vs : List VarInfo) (n : ℕ) → n < length vs →
    IsTrue (elim (slice_get vs n) as (λ _. Bool) [ Some v ↦ same_width v.width (slice_index_or (map (λ v. v.width) vs) n W64) | None ↦ false ])
variable_in [] n less = absurd (omega (arith, less))
variable_in (v ∷ vs) zero less = same_itself v.width
variable_in (v ∷ vs) (suc n) less = variable_in vs n (omega (arith, less))

formals_below : (formals : List Variable) (first count limit : ℕ) → map (λ v. v.number) formals ≡ range_with_len first count → first + count ≤ limit →
    IsTrue (list_all (λ v. nat_lt v.number limit) formals)
formals_below [] first count limit are room = refl
formals_below (v ∷ vs) first zero limit are room = absurd (cc)
formals_below (v ∷ vs) first (suc count) limit are room =
    let here : v.number ≡ first = cc in
    let later : map (λ (v : Variable). v.number) vs ≡ range_with_len (first + 1) count = cc in
    and_both (nat_lt v.number limit) (list_all (λ (v : Variable). nat_lt v.number limit) vs) (test_less v.number limit (omega (arith, here, room)))
    (formals_below vs (first + 1) count limit later (omega (arith, room)))

module _ (p : Program) (q : Proc) (limit : ℕ) where
  parameters_there : (ns : List ℕ) → IsTrue (list_all (below (length q.vars)) ns) → IsTrue (list_all (is_target p q) (map (λ n. target.Variable n (variable_width q n)) ns))
  parameters_there [] are = refl
  parameters_there (n ∷ ns) are =
      let both = and_parts (below (length q.vars) n) (list_all (below (length q.vars)) ns) are in
      let less : n < length q.vars = less_of n (length q.vars) both.0 in
      and_both (has_variable q n (variable_width q n)) (list_all (is_target p q) (map (λ (n : ℕ). target.Variable n (variable_width q n)) ns)) (variable_in q.vars n less)
      (parameters_there ns both.1)

  module _ (range : IsProcInRange p q) where
    pub entry_belongs : (formals : List Variable) → map (λ v. v.number) formals ≡ range_with_len 0 q.formals →
        IsTrue (belongs p q limit record { tokens = q.tokens; kind = Entry formals nowhere })
    entry_belongs formals are =
        let shortest = range.shortest in
        let few = at_most q.formals (length q.vars) (and_parts _ _ range.formals).0 in
        node_belongs p q limit record { tokens = q.tokens; kind = Entry formals nowhere } (omega (arith, shortest)) refl
        (formals_below formals 0 q.formals (length q.vars) are (omega (arith, few)))

    pub copies_belong : IsTrue (list_all (λ k. belongs p q limit (unled (copy_in q k nowhere))) q.conts)
    copies_belong = list_all_more (is_continuation p q) (λ (k : Cont). belongs p q limit (unled (copy_in q k nowhere))) (λ k is.
        let params = (and_parts (at_most_64 k.params) (list_all (below (length q.vars)) k.params) is).1 in
        node_belongs p q limit (unled (copy_in q k nowhere)) (omega arith) refl (parameters_there k.params params)) q.conts range.continuations

-- ---- the whole graph

module _ (p : Program) (q : Proc) (g : Graph) (range : IsProcInRange p q)
    (asked : AreAsked record { test = belongs p q (room_of p q); graph = g } g.nodes) (counted : IsLeast names_below g.nodes g.temporaries)
    (variables : g.variables ≡ length q.vars) (continuations : length g.continuations ≡ length q.conts) where
  abbrev here : Asked
  here = record { test = belongs p q (room_of p q); graph = g }

  belonging : (node : Node) → IsTrue (passes here node) → IsTrue (belongs p q (room_of p q) (unled node))
  belonging node is = (and_parts (belongs p q (room_of p q) (unled node)) (leads_on g node.kind) is).0

  pub names : IsTrue (list_all (λ node. names_there p q node.kind) g.nodes)
  names = list_all_more (passes here) (λ (node : Node). names_there p q node.kind) (λ node is. node_named p q (room_of p q) node (belonging node is)) g.nodes asked

  few : g.temporaries ≤ room_of p q
  few =
      (counted (room_of p q)).1
      (list_all_more (passes here) (names_below (room_of p q)) (λ node is. node_below p q (room_of p q) node (belonging node is)) g.nodes asked)

  pub bounded : IsBounded q g
  bounded = let fit = fits p q range in omega (arith, fit, few, variables, continuations)

  below_all : IsTrue (list_all (names_below g.temporaries) g.nodes)
  below_all = (counted g.temporaries).0 (omega arith)

  pub nodes_ranged : All (λ node. HasSite q g node.kind) g.nodes → IsTrue (list_all (is_node g) g.nodes)
  nodes_ranged sites = each_passes (is_node g) g.nodes (λ n node at.
      let less = slice_get_within g.nodes n node at in
      let site = subst (λ (node : Node). HasSite q g node.kind) (get_or_from_slice_get g.nodes n node node at) (sites n node less) in
      node_ranged p q (room_of p q) g variables continuations range.sites node (list_all_get (passes here) g.nodes n node asked at)
      (list_all_get (names_below g.temporaries) g.nodes n node below_all at) site)
