-- The sets decide which locals conflict.
use Rattle.std.proofs.Common.{◌≡◌, ◌⊎◌, ◌↔◌, inl, inr, Bool, true, ◌&&◌, ◌||◌, not, List, [], length, refl, sym, ◌∙◌, ap, subst, Some}
use Rattle.std.specs.Prelude.{Contains, IsTrue}
use Rattle.std.specs.List.{list_any}
use Rattle.std.proofs.lemmas.Bool.{and_parts, and_from, or_cases, or_left, or_right, not-true, not_from_false, false_from_ne_true, eqb-true, eq-eqb, false≢true}
use Rattle.std.proofs.lemmas.List.{get_or_default}
use Rattle.std.proofs.lemmas.List.Folds.{Any-from_list_any, list_any_at}
use Rattle.std.proofs.lemmas.Option.{slice_get_read, slice_get_within, get_or_from_slice_get}
use Rattle.cmm_graph.specs.declared.number.NodeId.{NodeId}
use Rattle.cmm_graph.specs.declared.number.SiteId.{SiteId}
use Rattle.cmm_graph.specs.declared.operand.Local.{Local}
use Rattle.cmm_graph.specs.declared.operand.Local.TheVariants as local
use Rattle.cmm_graph.specs.declared.node.Node.{Node}
use Rattle.cmm_graph.specs.declared.graph.Graph.{Graph}
use Rattle.cmm_graph.specs.Paths.{node_of, successors, writes}
use Rattle.cmm_graph.specs.Ranges.{is_local}
use Rattle.cmm_graph.specs.Liveness.{IsLiveAfter}
use Rattle.cmm_live.specs.declared.live_sets.LiveSets.{LiveSets}
use Rattle.cmm_live.specs.Exact.{has_local, is_before, set_at, AreLiveSets}
use Rattle.cmm_live.specs.Conflicts.{Conflicts, AreLiveAtSite, AreLiveAfterWrite, IsLiveAfterWrite, is_same, is_written, is_after, are_at_site, are_after_write, is_after_write, conflicts}
use Rattle.cmm_live.specs.Laws.{SetsDecideConflicts}
use Rattle.cmm_live.proofs.Gathering.{live_of, member_of}

pub same_from : (a b : Local) → is_same a b ≡ true → a ≡ b
same_from (local.Variable v) (local.Variable w) e = ap (λ n. local.Variable (record { number = n })) (eqb-true v.number w.number e)
same_from (local.Variable v) (local.Temporary t) e = absurd (false≢true e)
same_from (local.Temporary t) (local.Variable v) e = absurd (false≢true e)
same_from (local.Temporary t) (local.Temporary u) e = ap (λ n. local.Temporary (record { number = n })) (eqb-true t.number u.number e)

pub same_itself : (a : Local) → is_same a a ≡ true
same_itself (local.Variable v) = eq-eqb v.number v.number refl
same_itself (local.Temporary t) = eq-eqb t.number t.number refl

-- what a test holds of some element of
module _ {A : Type 0} (p : A → Bool) (xs : List A) where
  some_has : (x : A) → Contains xs x → p x ≡ true → list_any p xs ≡ true
  some_has x found passes = list_any_at p xs found.0 x found.1 (ap p found.2 ∙ passes)

-- one of four
one_of : (w x y z : Bool) {P Q R S : Type 0} → (w ≡ true → P) → (x ≡ true → Q) → (y ≡ true → R) → (z ≡ true → S) →
    (w || (x || (y || z))) ≡ true → P ⊎ (Q ⊎ (R ⊎ S))
one_of w x y z p q r s some = elim (or_cases w (x || (y || z)) some) [
  | inl first ↦ inl (p first)
  | inr more ↦ elim (or_cases x (y || z) more) [
    | inl second ↦ inr (inl (q second))
    | inr more ↦ elim (or_cases y z more) [ inl third ↦ inr (inr (inl (r third))) | inr fourth ↦ inr (inr (inr (s fourth))) ]
  ]
]

by_one_of : (w x y z : Bool) {P Q R S : Type 0} → (P → w ≡ true) → (Q → x ≡ true) → (R → y ≡ true) → (S → z ≡ true) →
    P ⊎ (Q ⊎ (R ⊎ S)) → (w || (x || (y || z))) ≡ true
by_one_of w x y z p q r s some = elim some [
  | inl first ↦ or_left w (x || (y || z)) (p first)
  | inr more ↦ or_right w (x || (y || z)) (elim more [
    | inl second ↦ or_left x (y || z) (q second)
    | inr more ↦ or_right x (y || z) (elim more [ inl third ↦ or_left y z (r third) | inr fourth ↦ or_right y z (s fourth) ])
  ])
]

written_from : (node : Node) (l : Local) → is_written node l ≡ true → Contains (writes node.kind) l
written_from node l some =
    let one = Any-from_list_any (λ w. is_same w l) (writes node.kind) some in
    subst (λ (w : Local). Contains (writes node.kind) w) (same_from one.1 l one.4) (one.0, one.2, one.3)

written_to : (node : Node) (l : Local) → Contains (writes node.kind) l → is_written node l ≡ true
written_to node l found = some_has (λ w. is_same w l) (writes node.kind) l found (same_itself l)

module _ (g : Graph) (found : LiveSets) (are : AreLiveSets g found) where
  after_from : (node : Node) (l : Local) → IsTrue (is_local g l) → is_after g found node l ≡ true → IsLiveAfter g l node
  after_from node l in_l some =
      let one = Any-from_list_any (λ m. is_before g found m l) (successors g node.kind) some in
      record { next = one.1; leads = (one.0, one.2, one.3); live = live_of g found.before one.1 l are.before in_l one.4 }

  after_to : (node : Node) (l : Local) → IsTrue (is_local g l) → IsLiveAfter g l node → is_after g found node l ≡ true
  after_to node l in_l after = some_has (λ m. is_before g found m l) (successors g node.kind) after.next after.leads
      (member_of g found.before after.next l are.before in_l after.live)

  any_node : (p : Node → Bool) (at : NodeId) (node : Node) → node_of g at ≡ Some node → p node ≡ true → list_any p g.nodes ≡ true
  any_node p at node there passes =
      list_any_at p g.nodes at.number node (slice_get_within g.nodes at.number node there) (ap p (get_or_from_slice_get g.nodes at.number node node there) ∙ passes)

  -- ---- each cause

  module _ (a b : Local) (in_a : IsTrue (is_local g a)) (in_b : IsTrue (is_local g b)) where
    site_from : are_at_site g found a b ≡ true → AreLiveAtSite g a b
    site_from some =
        let one = Any-from_list_any (λ set. has_local g set a && has_local g set b) found.sites some in
        let both = and_parts (has_local g one.1 a) (has_local g one.1 b) one.4 in
        let s : SiteId = record { number = one.0 } in
        let is : set_at found.sites one.0 ≡ one.1 = get_or_default found.sites one.0 [] one.1 one.2 ∙ one.3 in
        record {
          site = s;
          first = ((are.sites.each s one.2).exact a in_a).0 (ap (λ t. has_local g t a) is ∙ both.0);
          second = ((are.sites.each s one.2).exact b in_b).0 (ap (λ t. has_local g t b) is ∙ both.1);
        }

    site_to : AreLiveAtSite g a b → are_at_site g found a b ≡ true
    site_to live =
        let low = are.sites.listed live.first.at live.first.node live.site live.first.is_there live.first.waits in
        list_any_at (λ set. has_local g set a && has_local g set b) found.sites live.site.number [] low
        (and_from (has_local g (set_at found.sites live.site.number) a) (has_local g (set_at found.sites live.site.number) b)
        (((are.sites.each live.site low).exact a in_a).1 live.first) (((are.sites.each live.site low).exact b in_b).1 live.second))

    both_from : are_after_write g found a b ≡ true → AreLiveAfterWrite g a b
    both_from some =
        let one = Any-from_list_any (λ node. (is_written node a || is_written node b) && (is_after g found node a && is_after g found node b)) g.nodes some in
        let parts = and_parts (is_written one.1 a || is_written one.1 b) (is_after g found one.1 a && is_after g found one.1 b) one.4 in
        let live = and_parts (is_after g found one.1 a) (is_after g found one.1 b) parts.1 in
        record {
          at = record { number = one.0 };
          node = one.1;
          is_there = slice_get_read g.nodes (length g.nodes) one.0 one.1 refl one.2 (sym one.3);
          written = elim (or_cases (is_written one.1 a) (is_written one.1 b) parts.0) [
            | inl first ↦ inl (written_from one.1 a first)
            | inr second ↦ inr (written_from one.1 b second)
          ];
          first = after_from one.1 a in_a live.0;
          second = after_from one.1 b in_b live.1;
        }

    both_to : AreLiveAfterWrite g a b → are_after_write g found a b ≡ true
    both_to live = any_node (λ node. (is_written node a || is_written node b) && (is_after g found node a && is_after g found node b)) live.at live.node live.is_there
        (and_from (is_written live.node a || is_written live.node b) (is_after g found live.node a && is_after g found live.node b)
        (elim live.written [
          | inl first ↦ or_left (is_written live.node a) (is_written live.node b) (written_to live.node a first)
          | inr second ↦ or_right (is_written live.node a) (is_written live.node b) (written_to live.node b second)
        ])
        (and_from (is_after g found live.node a) (is_after g found live.node b) (after_to live.node a in_a live.first) (after_to live.node b in_b live.second)))

    one_from : is_after_write g found a b ≡ true → IsLiveAfterWrite g a b
    one_from some =
        let one = Any-from_list_any (λ node. is_written node b && is_after g found node a) g.nodes some in
        let parts = and_parts (is_written one.1 b) (is_after g found one.1 a) one.4 in
        record {
          at = record { number = one.0 };
          node = one.1;
          is_there = slice_get_read g.nodes (length g.nodes) one.0 one.1 refl one.2 (sym one.3);
          written = written_from one.1 b parts.0;
          live = after_from one.1 a in_a parts.1;
        }

    one_to : IsLiveAfterWrite g a b → is_after_write g found a b ≡ true
    one_to live = any_node (λ node. is_written node b && is_after g found node a) live.at live.node live.is_there
        (and_from (is_written live.node b) (is_after g found live.node a) (written_to live.node b live.written) (after_to live.node a in_a live.live))

  decided : (a b : Local) → IsTrue (is_local g a) → IsTrue (is_local g b) → (conflicts g found a b ≡ true) ↔ Conflicts g a b
  decided a b in_a in_b =
      let cause = are_at_site g found a b || (are_after_write g found a b || (is_after_write g found a b || is_after_write g found b a)) in (
        (λ yes_.
            let parts = and_parts (not (is_same a b)) cause yes_ in
            record {
              different = λ same. false≢true (sym (not-true (is_same a b) parts.0) ∙ ap (is_same a) (sym same) ∙ same_itself a);
              cause = one_of (are_at_site g found a b) (are_after_write g found a b) (is_after_write g found a b) (is_after_write g found b a)
                  (site_from a b in_a in_b) (both_from a b in_a in_b) (one_from a b in_a in_b) (one_from b a in_b in_a) parts.1;
            }),
        (λ conflict. and_from (not (is_same a b)) cause
            (not_from_false (is_same a b) (false_from_ne_true (is_same a b) (λ e. conflict.different (same_from a b e))))
            (by_one_of (are_at_site g found a b) (are_after_write g found a b) (is_after_write g found a b) (is_after_write g found b a)
            (site_to a b in_a in_b) (both_to a b in_a in_b) (one_to a b in_a in_b) (one_to b a in_b in_a) conflict.cause)),
      )

pub sets_decide_conflicts : SetsDecideConflicts
sets_decide_conflicts g found a b are in_a in_b = decided g found are a b in_a in_b
