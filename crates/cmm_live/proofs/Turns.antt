-- One turn of the loop that looks at the nodes of the list.
use Rattle.std.proofs.Common.{◌≡◌, ℕ, ◌+◌, ◌*◌, ◌<◌, ◌≤◌, Bool, true, false, List, [], ◌∷◌, ◌++◌, length, get_or, set, refl, sym, ◌∙◌, ap, subst, inl, inr, arith, Some}
use Rattle.std.specs.Prelude.{All}
use Rattle.std.proofs.lemmas.Bool.{cases_Bool}
use Rattle.std.proofs.lemmas.List.{get_or_read, length-set, length_push}
use Rattle.std.proofs.lemmas.List.Sums.{get_or-le-sum_by}
use Rattle.std.proofs.lemmas.Option.{slice_get_read}
use Rattle.cmm_bitset.specs.Sets.{has}
use Rattle.cmm_graph.specs.declared.node.Node.{Node}
use Rattle.cmm_graph.specs.declared.graph.Graph.{Graph}
use Rattle.cmm_graph.specs.Paths.{node_of}
use Rattle.cmm_live.specs.Exact.{AreBefore}
use Rattle.cmm_live.specs.inside.Closing.{AreGrowing, Visited, missing, edge_count}
use Rattle.cmm_live.specs.inside.Edges.{list_at, ArePredecessors}
use Rattle.cmm_live.specs.inside.Worklists.{IsList, Woken}
use Rattle.cmm_live.proofs.Growing.{grew_on, stayed_on, fewer_missing, measure_grew, before_all}

-- a node was taken off the list and looked at
pub record Turn (g : Graph) (nodes rest : List ℕ) (waits fewer : List Bool) (sets new : List (List Bool)) (n : ℕ) (node : Node) (grew : Bool) : Type 0 where
  pub growing : AreGrowing g sets waits
  pub count : length waits ≡ length g.nodes
  pub low : n < length waits
  pub taken : nodes ≡ rest ++ n ∷ []
  pub flag : fewer ≡ set waits n false
  pub node_is : node ≡ get_or g.nodes n node
  pub visit : Visited g sets new n node grew

module _ {g : Graph} {nodes rest : List ℕ} {waits fewer : List Bool} {sets new : List (List Bool)} {n : ℕ} {node : Node} {grew : Bool}
    (t : Turn g nodes rest waits fewer sets new n node grew) where
  pub turn_count : length fewer ≡ length g.nodes
  turn_count = ap length t.flag ∙ length-set waits n false ∙ t.count

  below : n < length g.nodes
  below = omega (arith, t.low, t.count)

  there : node_of g (record { number = n }) ≡ Some node
  there = slice_get_read g.nodes (length g.nodes) n node refl below t.node_is

  -- the set is as it was
  pub turn_stayed : grew ≡ false → AreGrowing g new fewer
  turn_stayed still = subst (AreGrowing g new) (sym t.flag) (stayed_on g sets new waits n node grew t.growing below there t.visit still)

  -- the set grew
  module _ (lists : List (List ℕ)) (edges : ArePredecessors g lists) (read : List ℕ) (is : read ≡ get_or lists n read) where
    in_lists : n < length lists
    in_lists = omega (arith, below, edges.nodes.size)

    list_is : read ≡ list_at lists n
    list_is = get_or_read lists n read in_lists is []

    pub turn_within : All (λ p. p < length fewer) read
    turn_within = λ k d in_k.
        let all : All (λ p. p < length g.nodes) read = subst (λ ps. All (λ p. p < length g.nodes) ps) (sym list_is) (edges.nodes.within n) in
        omega (arith, all k d in_k, turn_count)

    pub turn_grew : (next : List Bool) → Woken fewer next read → AreGrowing g new next
    turn_grew next woken = grew_on g sets new waits n node grew t.growing below there t.visit lists next edges
        (subst (λ ws. Woken ws next (list_at lists n)) t.flag (subst (Woken fewer next) list_is woken))

    pub turn_measure : (longer : List ℕ) → grew ≡ true → length longer ≤ length rest + length read →
        missing new * (edge_count lists + 1) + length longer < missing sets * (edge_count lists + 1) + length nodes
    turn_measure longer more bound =
        let some : length (list_at lists n) ≤ edge_count lists = get_or-le-sum_by length lists n [] in_lists in
        let step = measure_grew (missing sets) (missing new) (edge_count lists) (length rest) (length longer)
        (fewer_missing g sets new waits n node grew t.growing below there t.visit more)
        (omega (arith, bound, some, ap length list_is)) in
        omega (arith, step, ap length t.taken, length_push rest n)

-- no node waits
pub settled : (g : Graph) (nodes : List ℕ) (waits : List Bool) (sets : List (List Bool)) → AreGrowing g sets waits → IsList nodes waits → nodes ≡ [] →
    AreBefore g sets
settled g nodes waits sets growing list none = before_all g sets waits growing (λ n. elim (cases_Bool (has waits n)) [
  | inl still ↦ absurd (omega (arith, (list.listed n still).1, ap length none))
  | inr calm ↦ calm
])
