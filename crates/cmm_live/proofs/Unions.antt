-- The steps of a union of the sets of some nodes, and the right side of a node's equation.
use Rattle.std.proofs.Common.{◌≡◌, ℕ, ◌+◌, ◌<◌, ◌≤◌, inl, inr, Bool, true, false, List, [], ◌∷◌, ◌++◌, length, get_or, replicate, take, sym, ◌∙◌, ap, arith}
use Rattle.std.proofs.lemmas.Bool.{or_cases, or_left, or_right, false≢true}
use Rattle.std.proofs.lemmas.List.{take_more, get_or_past, length-replicate}
use Rattle.std.proofs.lemmas.List.Elements.{Contains-append_left, Contains-push, Contains-push_cases}
use Rattle.cmm_bitset.specs.Sets.{has, union}
use Rattle.cmm_bitset.proofs.Shared.{has-replicate, has-union, length-union}
use Rattle.cmm_graph.specs.declared.number.NodeId.{NodeId}
use Rattle.cmm_graph.specs.declared.node.NodeKind.{NodeKind}
use Rattle.cmm_graph.specs.declared.graph.Graph.{Graph}
use Rattle.cmm_graph.specs.Paths.{successors, reads, writes}
use Rattle.cmm_live.specs.Locals.{local_number, local_count}
use Rattle.cmm_live.specs.Exact.{set_at}
use Rattle.cmm_live.specs.inside.Marking.{Marked}
use Rattle.cmm_live.specs.inside.Unions.{IsUnionOf, IsSetBefore}

-- a set that is not there has nothing
pub none_past : (sets : List (List Bool)) (k number : ℕ) → length sets ≤ k → has (set_at sets k) number ≡ true → ⊥
none_past sets k number past member = let nothing : set_at sets k ≡ [] = get_or_past sets k [] past in
    false≢true (ap (λ s. has s number) (sym nothing) ∙ member)

module _ (g : Graph) (sets : List (List Bool)) where
  pub union_none : (set : List Bool) → set ≡ replicate (local_count g) false → IsUnionOf g sets [] set
  union_none set is = record {
    size = ap length is ∙ length-replicate (local_count g) false;
    exact = λ number. (
      (λ member. absurd (false≢true (sym (has-replicate (local_count g) number) ∙ ap (λ s. has s number) (sym is) ∙ member))),
      (λ one. absurd (omega (arith, one.listed.1))),
    );
  }

  union_push : (nodes : List NodeId) (n : NodeId) (set other : List Bool) → IsUnionOf g sets nodes set → other ≡ set_at sets n.number →
      length other ≡ local_count g → IsUnionOf g sets (nodes ++ n ∷ []) (union set other)
  union_push nodes n set other so_far is sized = record {
    size = length-union set other (so_far.size ∙ sym sized) ∙ so_far.size;
    exact = λ number. let either = has-union set other number (so_far.size ∙ sym sized) in (
      (λ member. elim (or_cases (has set number) (has other number) (sym either ∙ member)) [
        | inl before ↦ let one = (so_far.exact number).0 before in
            record { node = one.node; listed = Contains-append_left nodes (n ∷ []) one.node one.listed; member = one.member }
        | inr last ↦ record { node = n; listed = Contains-push nodes n; member = ap (λ s. has s number) (sym is) ∙ last }
      ]),
      (λ one. elim (Contains-push_cases nodes n one.node one.listed) [
        | inl before ↦ either ∙ or_left (has set number) (has other number)
            ((so_far.exact number).1 (record { node = one.node; listed = before; member = one.member }))
        | inr last ↦ either ∙ or_right (has set number) (has other number)
            (ap (λ s. has s number) is ∙ ap (λ (m : NodeId). has (set_at sets m.number) number) last ∙ one.member)
      ]),
    );
  }

  union_lack : (nodes : List NodeId) (n : NodeId) (set : List Bool) → IsUnionOf g sets nodes set → length sets ≤ n.number →
      IsUnionOf g sets (nodes ++ n ∷ []) set
  union_lack nodes n set so_far past = record {
    size = so_far.size;
    exact = λ number. (
      (λ member. let one = (so_far.exact number).0 member in
          record { node = one.node; listed = Contains-append_left nodes (n ∷ []) one.node one.listed; member = one.member }),
      (λ one. elim (Contains-push_cases nodes n one.node one.listed) [
        | inl before ↦ (so_far.exact number).1 (record { node = one.node; listed = before; member = one.member })
        | inr last ↦ absurd (none_past sets n.number number past (ap (λ (m : NodeId). has (set_at sets m.number) number) last ∙ one.member))
      ]),
    );
  }

  pub union_more : (nodes : List NodeId) (i : ℕ) (n : NodeId) (set other : List Bool) → i < length nodes → n ≡ get_or nodes i n →
      IsUnionOf g sets (take i nodes) set → other ≡ set_at sets n.number → length other ≡ local_count g →
      IsUnionOf g sets (take (i + 1) nodes) (union set other)
  union_more nodes i n set other low is so_far there sized =
      let next : take (i + 1) nodes ≡ take i nodes ++ n ∷ [] = take_more nodes i n low ∙ ap (λ y. take i nodes ++ y ∷ []) (sym is) in
      rw next (union_push (take i nodes) n set other so_far there sized)

  pub union_skip : (nodes : List NodeId) (i : ℕ) (n : NodeId) (set : List Bool) → i < length nodes → n ≡ get_or nodes i n →
      IsUnionOf g sets (take i nodes) set → length sets ≤ n.number → IsUnionOf g sets (take (i + 1) nodes) set
  union_skip nodes i n set low is so_far past =
      let next : take (i + 1) nodes ≡ take i nodes ++ n ∷ [] = take_more nodes i n low ∙ ap (λ y. take i nodes ++ y ∷ []) (sym is) in
      rw next (union_lack (take i nodes) n set so_far past)

  -- a union from which the written locals were taken away, and to which the read ones were added
  pub right_side : (kind : NodeKind) (joined unwritten whole : List Bool) → IsUnionOf g sets (successors g kind) joined →
      Marked g joined unwritten (writes kind) false → Marked g unwritten whole (reads kind) true → IsSetBefore g sets kind whole
  right_side kind joined unwritten whole after taken added = record {
    size = added.size ∙ taken.size ∙ after.size;
    exact = λ l in_l. (
      (λ member. elim (added.each l in_l) [
        | inl read ↦ inl read.0
        | inr unread ↦ elim (taken.each l in_l) [
          | inl gone ↦ absurd (false≢true (sym gone.1 ∙ sym unread.1 ∙ member))
          | inr kept ↦ inr (kept.0, (after.exact (local_number g l)).0 (sym kept.1 ∙ sym unread.1 ∙ member))
        ]
      ]),
      (λ cause. elim (added.each l in_l) [
        | inl read ↦ read.1
        | inr unread ↦ elim cause [
          | inl read ↦ absurd (unread.0 read)
          | inr onward ↦ elim (taken.each l in_l) [
            | inl gone ↦ absurd (onward.0 gone.0)
            | inr kept ↦ unread.1 ∙ kept.1 ∙ (after.exact (local_number g l)).1 onward.1
          ]
        ]
      ]),
    );
  }
