-- The sets before nodes, from empty ones to the least that solve the equations of all nodes.
use Rattle.std.proofs.Common.{◌≡◌, ◌≢◌, ◌⊎◌, ℕ, suc, ◌+◌, ◌*◌, ◌-◌, ◌<◌, ◌≤◌, inl, inr, Bool, true, false, ◌||◌, List, [], length, set, replicate, sym, ◌∙◌, ap, subst, arith, Some}
use Rattle.std.specs.Prelude.{Contains, IsTrue}
use Rattle.std.proofs.lemmas.Bool.{cases_eq, cases_lt, cases_Bool, or_cases, or_left, or_right, false≢true, OnTrue_at, OnFalse_at}
use Rattle.std.proofs.lemmas.List.{length-set, length-replicate, get_or-set_same, get_or-set_other, get_or-replicate, set-get_or}
use Rattle.std.proofs.lemmas.List.Sums.{sum_by-set}
use Rattle.std.proofs.lemmas.Option.{same_Some, slice_get_within}
use Rattle.std.proofs.Math.Nat.{mul-le-mul_right, suc-mul}
use Rattle.cmm_bitset.specs.Sets.{has, union, member_count}
use Rattle.cmm_bitset.proofs.Shared.{has-replicate, has-set_other, has-union, length-union, member_count-le}
use Rattle.cmm_graph.specs.declared.number.NodeId.{NodeId}
use Rattle.cmm_graph.specs.declared.operand.Local.{Local}
use Rattle.cmm_graph.specs.declared.node.Node.{Node}
use Rattle.cmm_graph.specs.declared.graph.Graph.{Graph}
use Rattle.cmm_graph.specs.Paths.{node_of, successors, reads, writes}
use Rattle.cmm_graph.specs.Ranges.{is_local}
use Rattle.cmm_graph.specs.Liveness.{IsLiveBefore, Here, Onward}
use Rattle.cmm_live.specs.Locals.{local_number, local_count}
use Rattle.cmm_live.specs.Exact.{set_at, has_local, AreBefore}
use Rattle.cmm_live.specs.inside.Closing.{IsClosedAt, AreGrowing, Visited, missing}
use Rattle.cmm_live.specs.inside.Edges.{list_at, ArePredecessors}
use Rattle.cmm_live.specs.inside.Unions.{AreSized}
use Rattle.cmm_live.specs.inside.Worklists.{Woken}
use Rattle.cmm_live.proofs.Unions.{none_past}

-- ---- the start

set_at-empty : (count size k : ℕ) → k < count → set_at (replicate count (replicate size false)) k ≡ replicate size false
set_at-empty count size k low = get_or-replicate count k (replicate size false) [] low

-- empty sets have nothing
pub none_in_empty : (count size k number : ℕ) → has (set_at (replicate count (replicate size false)) k) number ≡ true → ⊥
none_in_empty count size k number member = elim (cases_lt k count) [
  | inl low ↦ false≢true (sym (has-replicate size number) ∙ ap (λ s. has s number) (sym (set_at-empty count size k low)) ∙ member)
  | inr past ↦ none_past (replicate count (replicate size false)) k number (omega (arith, length-replicate count (replicate size false))) member
]

pub sized_empty : (g : Graph) (count : ℕ) → AreSized g (replicate count (replicate (local_count g) false))
sized_empty g count = λ k low.
    ap length (set_at-empty count (local_count g) k (omega (arith, length-replicate count (replicate (local_count g) false)))) ∙ length-replicate (local_count g) false

pub growing_start : (g : Graph) (sets : List (List Bool)) (waits : List Bool) →
    sets ≡ replicate (length g.nodes) (replicate (local_count g) false) → waits ≡ replicate (length g.nodes) true → AreGrowing g sets waits
growing_start g sets waits sets_are waits_are = let P : List (List Bool) → Type 0 = λ s. AreGrowing g s waits in subst P (sym sets_are) (record {
  count = length-replicate (length g.nodes) (replicate (local_count g) false);
  sized = sized_empty g (length g.nodes);
  sound = λ n l in_l member. absurd (none_in_empty (length g.nodes) (local_count g) n.number (local_number g l) member);
  closed = λ n low calm. absurd (false≢true (sym calm ∙ ap (λ w. has w n.number) waits_are ∙ get_or-replicate (length g.nodes) n.number true false low));
})

-- ---- one visit

module _ (g : Graph) (sets new : List (List Bool)) (waits : List Bool) (n : ℕ) (node : Node) (grew : Bool)
    (so_far : AreGrowing g sets waits) (low : n < length g.nodes) (there : node_of g (record { number = n }) ≡ Some node)
    (visit : Visited g sets new n node grew) where
  at_same : set_at new n ≡ union (set_at sets n) visit.set
  at_same = ap (λ s. set_at s n) visit.becomes ∙ get_or-set_same sets n (union (set_at sets n) visit.set) [] (omega (arith, so_far.count))

  at_other : (k : ℕ) → k ≢ n → set_at new k ≡ set_at sets k
  at_other k other = ap (λ s. set_at s k) visit.becomes ∙ get_or-set_other sets n k (union (set_at sets n) visit.set) [] other

  sizes : length (set_at sets n) ≡ length visit.set
  sizes = so_far.sized n (omega (arith, so_far.count)) ∙ sym visit.is_right_side.size

  has_either : (number : ℕ) → has (set_at new n) number ≡ (has (set_at sets n) number || has visit.set number)
  has_either number = ap (λ s. has s number) at_same ∙ has-union (set_at sets n) visit.set number sizes

  stays_member : (k number : ℕ) → has (set_at sets k) number ≡ true → has (set_at new k) number ≡ true
  stays_member k number member = elim (cases_eq k n) [
    | inl here ↦ ap (λ j. has (set_at new j) number) here ∙ has_either number
        ∙ or_left (has (set_at sets n) number) (has visit.set number) (ap (λ j. has (set_at sets j) number) (sym here) ∙ member)
    | inr other ↦ ap (λ s. has s number) (at_other k other) ∙ member
  ]

  sound_here : (l : Local) → IsTrue (is_local g l) → has_local g (set_at new n) l ≡ true → IsLiveBefore g l (record { number = n })
  sound_here l in_l member = elim (or_cases (has_local g (set_at sets n) l) (has_local g visit.set l) (sym (has_either (local_number g l)) ∙ member)) [
    | inl before ↦ so_far.sound (record { number = n }) l in_l before
    | inr now ↦ elim ((visit.is_right_side.exact l in_l).0 now) [
      | inl read ↦ Here (record { number = n }) node there read
      | inr onward ↦ Onward (record { number = n }) onward.1.node node there onward.0 onward.1.listed
          (so_far.sound onward.1.node l in_l onward.1.member)
    ]
  ]

  sound_after : (m : NodeId) (l : Local) → IsTrue (is_local g l) → has_local g (set_at new m.number) l ≡ true → IsLiveBefore g l m
  sound_after m l in_l member = elim (cases_eq m.number n) [
    | inl here ↦ let P : ℕ → Type 0 = λ k. IsLiveBefore g l (record { number = k }) in
        subst P (sym here) (sound_here l in_l (ap (λ k. has_local g (set_at new k) l) (sym here) ∙ member))
    | inr other ↦ so_far.sound m l in_l (ap (λ s. has_local g s l) (sym (at_other m.number other)) ∙ member)
  ]

  same_node : (other : Node) → node_of g (record { number = n }) ≡ Some other → other ≡ node
  same_node other is = same_Some other node (sym is ∙ there)

  in_new : (l : Local) → has_local g visit.set l ≡ true → has_local g (set_at new n) l ≡ true
  in_new l now = has_either (local_number g l) ∙ or_right (has_local g (set_at sets n) l) (has_local g visit.set l) now

  closed_here : IsClosedAt g new (record { number = n })
  closed_here = record {
    read = λ other l is in_l read.
        in_new l ((visit.is_right_side.exact l in_l).1 (inl (subst (λ (k : Node). Contains (reads k.kind) l) (same_node other is) read)));
    unwritten = λ other l m is in_l unwritten leads member. elim (cases_eq m.number n) [
      | inl here ↦ ap (λ k. has_local g (set_at new k) l) (sym here) ∙ member
      | inr elsewhere ↦ in_new l ((visit.is_right_side.exact l in_l).1 (inr (
        subst (λ (k : Node). ¬ Contains (writes k.kind) l) (same_node other is) unwritten,
        record {
          node = m;
          listed = subst (λ (k : Node). Contains (successors g k.kind) m) (same_node other is) leads;
          member = ap (λ s. has_local g s l) (sym (at_other m.number elsewhere)) ∙ member;
        },
      )))
    ];
  }

  -- where a node is left to wait no longer, its equation does not see the new set, or the set is as it was
  module _ (next : List Bool) (calm : (p : ℕ) → p ≢ n → has next p ≡ false → has waits p ≡ false)
      (seen : (set_at new n ≡ set_at sets n) ⊎ ((p m : NodeId) (other : Node) → node_of g p ≡ Some other → Contains (successors g other.kind) m → m.number ≡ n → has next p.number ≡ true)) where
    closed_elsewhere : (p : NodeId) → p.number < length g.nodes → p.number ≢ n → has next p.number ≡ false → IsClosedAt g new p
    closed_elsewhere p in_p elsewhere quiet = record {
      read = λ other l is in_l read. stays_member p.number (local_number g l) (was.read other l is in_l read);
      unwritten = λ other l m is in_l unwritten leads member. stays_member p.number (local_number g l)
          (was.unwritten other l m is in_l unwritten leads (elim (cases_eq m.number n) [
            | inl here ↦ elim seen [
              | inl same ↦ ap (λ k. has_local g (set_at sets k) l) here ∙ ap (λ s. has_local g s l) (sym same) ∙ ap (λ k. has_local g (set_at new k) l) (sym here) ∙ member
              | inr woken ↦ absurd (false≢true (sym quiet ∙ woken p m other is leads here))
            ]
            | inr away ↦ ap (λ s. has_local g s l) (sym (at_other m.number away)) ∙ member
          ]));
    }
      where
        was : IsClosedAt g sets p
        was = so_far.closed p in_p (calm p.number elsewhere quiet)

    grows_on : AreGrowing g new next
    grows_on = record {
      count = ap length visit.becomes ∙ length-set sets n (union (set_at sets n) visit.set) ∙ so_far.count;
      sized = λ k in_k. elim (cases_eq k n) [
        | inl here ↦ ap (λ j. length (set_at new j)) here ∙ ap length at_same ∙ length-union (set_at sets n) visit.set sizes
            ∙ so_far.sized n (omega (arith, so_far.count))
        | inr other ↦ ap length (at_other k other)
            ∙ so_far.sized k (omega (arith, ap length visit.becomes, length-set sets n (union (set_at sets n) visit.set)))
      ];
      sound = sound_after;
      closed = λ p in_p quiet. elim (cases_eq p.number n) [
        | inl here ↦ let P : ℕ → Type 0 = λ k. IsClosedAt g new (record { number = k }) in subst P (sym here) closed_here
        | inr other ↦ closed_elsewhere p in_p other quiet
      ];
    }

  -- the set grew, and the nodes that lead to it wait
  pub grew_on : (lists : List (List ℕ)) (next : List Bool) → ArePredecessors g lists → Woken (set waits n false) next (list_at lists n) → AreGrowing g new next
  grew_on lists next edges woken = grows_on next
      (λ p other quiet. elim (cases_Bool (has waits p)) [
        | inl was ↦ absurd (false≢true (sym quiet ∙ woken.kept p (has-set_other waits n p false other ∙ was)))
        | inr was ↦ was
      ])
      (inr (λ p m other is leads here. woken.woken p.number
      (let P : ℕ → Type 0 = λ k. Contains (list_at lists k) p.number in
      subst P here (edges.complete p m other is leads (omega arith)))))

  -- the set is as it was
  pub stayed_on : grew ≡ false → AreGrowing g new (set waits n false)
  stayed_on still = grows_on (set waits n false)
      (λ p other quiet. sym (has-set_other waits n p false other) ∙ quiet)
      (inl (at_same ∙ OnFalse_at still visit.stays))

  -- ---- the measure

  lacks : List Bool → ℕ
  lacks s = length s - member_count s

  missing_is : missing new + lacks (set_at sets n) ≡ missing sets + lacks (union (set_at sets n) visit.set)
  unfolding lacks
  missing_is = ap (λ s. missing s + (length (set_at sets n) - member_count (set_at sets n))) visit.becomes
      ∙ sum_by-set (λ s. length s - member_count s) sets n (union (set_at sets n) visit.set) [] (omega (arith, so_far.count))

  pub fewer_missing : grew ≡ true → missing new < missing sets
  unfolding lacks
  fewer_missing more =
      let grown : member_count (set_at sets n) < member_count (union (set_at sets n) visit.set) = OnTrue_at more visit.grows in
      omega (arith, missing_is, member_count-le (union (set_at sets n) visit.set), length-union (set_at sets n) visit.set sizes)

  pub same_missing : grew ≡ false → missing new ≡ missing sets
  same_missing still = ap missing (visit.becomes ∙ ap (set sets n) (OnFalse_at still visit.stays) ∙ set-get_or sets n [])

-- where a set grew, the list may be longer by as many nodes as there are edges
pub measure_grew : (m m' e a a' : ℕ) → m' < m → a' ≤ a + e → m' * (e + 1) + a' < m * (e + 1) + (a + 1)
measure_grew m m' e a a' fewer longer =
    let h : suc m' * (e + 1) ≤ m * (e + 1) = mul-le-mul_right (e + 1) fewer in
    omega (arith, h, suc-mul m' (e + 1))

-- ---- the end

module _ (g : Graph) (sets : List (List Bool)) (waits : List Bool) (so_far : AreGrowing g sets waits) (none : (n : ℕ) → has waits n ≡ false) where
  all_in : (l : Local) → IsTrue (is_local g l) → (n : NodeId) → IsLiveBefore g l n → has_local g (set_at sets n.number) l ≡ true
  all_in l in_l _ (Here n node there read) =
      (so_far.closed n (slice_get_within g.nodes n.number node there) (none n.number)).read node l there in_l read
  all_in l in_l _ (Onward n m node there unwritten leads live) =
      (so_far.closed n (slice_get_within g.nodes n.number node there) (none n.number)).unwritten node l m there in_l unwritten leads (all_in l in_l m live)

  pub before_all : AreBefore g sets
  before_all = record {
    count = so_far.count;
    each = λ n low. record {
      size = so_far.sized n.number (omega (arith, so_far.count));
      exact = λ l in_l. (so_far.sound n l in_l, all_in l in_l n);
    };
  }
