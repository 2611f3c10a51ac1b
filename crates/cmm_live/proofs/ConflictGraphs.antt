-- The pairs that were joined are those that conflict.
use Rattle.std.proofs.Math.Bool.{and_comm}
use Rattle.std.proofs.Common.{◌≡◌, ◌⊎◌, inl, inr, ℕ, ◌<◌, ◌==◌, ◌&&◌, ◌||◌, not, Bool, true, List, [], ◌∷◌, length, get_or, sym, ◌∙◌, ap, subst}
use Rattle.std.specs.Prelude.{IsTrue}
use Rattle.std.specs.List.{list_any}
use Rattle.std.proofs.lemmas.Bool.{and_from, and_parts, eq-eqb, eqb-true, or_cases, or_left, or_right}
use Rattle.std.proofs.lemmas.List.{get_or_default}
use Rattle.cmm_bitset.specs.Sets.{has}
use Rattle.cmm_colour.specs.Graphs.{adjacent}
use Rattle.cmm_colour.proofs.Shared.{same_test}
use Rattle.cmm_graph.specs.declared.operand.Local.{Local}
use Rattle.cmm_graph.specs.declared.node.Node.{Node}
use Rattle.cmm_graph.specs.declared.graph.Graph.{Graph}
use Rattle.cmm_graph.specs.Paths.{writes}
use Rattle.cmm_graph.specs.Ranges.{is_local}
use Rattle.cmm_live.specs.declared.live_sets.LiveSets.{LiveSets}
use Rattle.cmm_live.specs.Conflicts.{Conflicts, are_after_write, are_at_site, conflicts, is_after, is_after_write, is_same, is_written}
use Rattle.cmm_live.specs.Exact.{AreLiveSets, has_local}
use Rattle.cmm_live.specs.Interference.{AreConflicts, AreConflictsWithin}
use Rattle.cmm_live.specs.Locals.{local_count, local_number}
use Rattle.cmm_live.specs.inside.Interfering.{AreConflictSets, AreRows, HavePairs, HaveSites, HaveWrites, is_behind, is_number_of, is_pair, row_has}
use Rattle.cmm_live.proofs.Conflicting.{same_from, same_itself, sets_decide_conflicts}
use Rattle.cmm_live.proofs.Interfering.{any_same}
use Rattle.cmm_live.proofs.Marking.{number_below, same_local}

-- one of two tests with two others, by the tests of each
any_either : {A : Type 0} (p q r s : A → Bool) (xs : List A) → list_any (λ x. (p x || q x) && (r x && s x)) xs ≡ true →
    (list_any (λ x. p x && s x) xs ≡ true) ⊎ (list_any (λ x. q x && r x) xs ≡ true)
any_either p q r s [] is = absurd (cc (is))
any_either p q r s (x ∷ xs) is = elim (or_cases ((p x || q x) && (r x && s x)) _ is) [
  | inl here ↦
      let parts = and_parts (p x || q x) (r x && s x) here in
      let both = and_parts (r x) (s x) parts.1 in elim (or_cases (p x) (q x) parts.0) [
        | inl first ↦ inl (or_left (p x && s x) _ (and_from (p x) (s x) first both.1))
        | inr second ↦ inr (or_left (q x && r x) _ (and_from (q x) (r x) second both.0))
      ]
  | inr later ↦ elim (any_either p q r s xs later) [ inl first ↦ inl (or_right (p x && s x) _ first) | inr second ↦ inr (or_right (q x && r x) _ second) ]
]

-- a local is written where its number is one of those that are written
number_written : (g : Graph) (l : Local) → IsTrue (is_local g l) → (node : Node) → is_number_of g (writes node.kind) (local_number g l) ≡ is_written node l
number_written g l in_l node = any_same (λ w. is_local g w && (local_number g w == local_number g l)) (λ w. is_same w l) each (writes node.kind)
  where
    each : (w : Local) → (is_local g w && (local_number g w == local_number g l)) ≡ is_same w l
    each w = same_test (is_local g w && (local_number g w == local_number g l)) (is_same w l)
        (λ is. (let parts = and_parts (is_local g w) (local_number g w == local_number g l) is in
        let same : w ≡ l = same_local g w l parts.0 in_l (eqb-true (local_number g w) (local_number g l) parts.1) in
        ap (λ u. is_same u l) same ∙ same_itself l))
        (λ is. (let same : w ≡ l = same_from w l is in
        and_from (is_local g w) (local_number g w == local_number g l) (ap (is_local g) same ∙ in_l) (eq-eqb (local_number g w) (local_number g l) (ap (local_number g) same))))

module _ (g : Graph) (found : LiveSets) (are : AreLiveSets g found) (written rows : List (List Bool)) (writes_in : HaveWrites g (local_count g) found.before g.nodes written)
    (sites_in : HaveSites (local_count g) found.sites written rows) where
  -- the set of a local has another one that is live after a node that writes it, or at one site with it
  row_is : (a b : Local) → IsTrue (is_local g a) → row_has rows (local_number g a) (local_number g b) ≡ (is_after_write g found b a || are_at_site g found a b)
  row_is a b in_a =
      sites_in.each (local_number g a) (local_number g b) (number_below g a in_a)
      ∙ ap (λ t. t || are_at_site g found a b) (writes_in.each (local_number g a) (local_number g b) (number_below g a in_a)
      ∙ any_same (λ node. is_number_of g (writes node.kind) (local_number g a) && is_behind g found.before node (local_number g b)) (λ node. is_written node a && is_after g found node b)
      (λ node. ap (λ t. t && is_after g found node b) (number_written g a in_a node)) g.nodes)

  module _ (class : List Bool) (graph : List (List ℕ)) (pairs : HavePairs class rows graph) (size : length class ≡ local_count g) where
    module _ (a b : Local) (in_a : IsTrue (is_local g a)) (in_b : IsTrue (is_local g b)) where
      apart : not (local_number g b == local_number g a) ≡ not (is_same a b)
      apart = ap not (same_test (local_number g b == local_number g a) (is_same a b)
          (λ is. (let same : b ≡ a = same_local g b a in_b in_a (eqb-true (local_number g b) (local_number g a) is) in ap (is_same a) same ∙ same_itself a))
          (λ is. (eq-eqb (local_number g b) (local_number g a) (ap (local_number g) (sym (same_from a b is))))))

      -- a pair, by what its row has
      pair_from : is_pair class rows (local_number g a) (local_number g b) ≡ true →
          (has_local g class a ≡ true) × (has_local g class b ≡ true) × ((not (is_same a b) ≡ true) × ((is_after_write g found b a || are_at_site g found a b) ≡ true))
      pair_from is =
          let first = and_parts (has_local g class a) _ is in
          let second = and_parts (not (local_number g b == local_number g a)) _ first.1 in
          let third = and_parts (has_local g class b) (row_has rows (local_number g a) (local_number g b)) second.1 in
          (first.0, third.0, (sym apart ∙ second.0, sym (row_is a b in_a) ∙ third.1))

      pair_to : has_local g class a ≡ true → has_local g class b ≡ true → not (is_same a b) ≡ true → (is_after_write g found b a || are_at_site g found a b) ≡ true →
          is_pair class rows (local_number g a) (local_number g b) ≡ true
      pair_to class_a class_b different cause =
          and_from (has_local g class a) _ class_a (and_from (not (local_number g b == local_number g a)) _ (apart ∙ different)
          (and_from (has_local g class b) (row_has rows (local_number g a) (local_number g b)) class_b (row_is a b in_a ∙ cause)))

    site_swap : (a b : Local) → are_at_site g found a b ≡ are_at_site g found b a
    site_swap a b = any_same (λ set. has_local g set a && has_local g set b) (λ set. has_local g set b && has_local g set a)
        (λ set. and_comm (has_local g set a) (has_local g set b)) found.sites

    same_swap : (a b : Local) → is_same b a ≡ is_same a b
    same_swap a b = same_test (is_same b a) (is_same a b) (λ is. ap (is_same a) (same_from b a is) ∙ same_itself a) (λ is. ap (is_same b) (same_from a b is) ∙ same_itself b)

    pub exactly : AreConflictsWithin g class graph
    exactly = record { size = pairs.size ∙ size; exact = λ a b in_a in_b. (to a b in_a in_b, from a b in_a in_b) }
      where
        -- what joins them is a cause
        cause : (a b : Local) → not (is_same a b) ≡ true → (are_at_site g found a b ≡ true) ⊎ ((is_after_write g found a b || is_after_write g found b a) ≡ true) → conflicts g found a b ≡ true
        cause a b different some = and_from (not (is_same a b)) _ different (elim some [
          | inl site ↦ or_left (are_at_site g found a b) _ site
          | inr write ↦ or_right (are_at_site g found a b) _ (or_right (are_after_write g found a b) _ write)
        ])

        to : (a b : Local) → IsTrue (is_local g a) → IsTrue (is_local g b) → adjacent graph (local_number g a) (local_number g b) ≡ true →
            (has_local g class a ≡ true) × (has_local g class b ≡ true) × Conflicts g a b
        to a b in_a in_b is = elim (or_cases (is_pair class rows (local_number g a) (local_number g b)) _ (sym (pairs.each (local_number g a) (local_number g b)) ∙ is)) [
          | inl first ↦
              let p = pair_from a b in_a in_b first in (
                p.0,
                p.1,
                (sets_decide_conflicts g found a b are in_a in_b).0 (cause a b p.2.0 (elim (or_cases (is_after_write g found b a) (are_at_site g found a b) p.2.1) [
                  | inl write ↦ inr (or_right (is_after_write g found a b) _ write)
                  | inr site ↦ inl site
                ])),
              )
          | inr second ↦
              let p = pair_from b a in_b in_a second in (
                p.1,
                p.0,
                (sets_decide_conflicts g found a b are in_a in_b).0 (cause a b (ap not (sym (same_swap a b)) ∙ p.2.0)
                    (elim (or_cases (is_after_write g found a b) (are_at_site g found b a) p.2.1) [
                      | inl write ↦ inr (or_left (is_after_write g found a b) _ write)
                      | inr site ↦ inl (site_swap a b ∙ site)
                    ])),
              )
        ]

        from : (a b : Local) → IsTrue (is_local g a) → IsTrue (is_local g b) → (has_local g class a ≡ true) × (has_local g class b ≡ true) × Conflicts g a b →
            adjacent graph (local_number g a) (local_number g b) ≡ true
        from a b in_a in_b given =
            let is = (sets_decide_conflicts g found a b are in_a in_b).1 given.2 in
            let parts = and_parts (not (is_same a b)) _ is in
            let first : (is_after_write g found b a || are_at_site g found a b) ≡ true → adjacent graph (local_number g a) (local_number g b) ≡ true =
            λ why. pairs.each (local_number g a) (local_number g b) ∙ or_left (is_pair class rows (local_number g a) (local_number g b)) _ (pair_to a b in_a in_b given.0 given.1 parts.0 why) in
            let second : (is_after_write g found a b || are_at_site g found b a) ≡ true → adjacent graph (local_number g a) (local_number g b) ≡ true =
            λ why. pairs.each (local_number g a) (local_number g b) ∙ or_right (is_pair class rows (local_number g a) (local_number g b)) _
            (pair_to b a in_b in_a given.1 given.0 (ap not (same_swap a b) ∙ parts.0) why) in
            elim (or_cases (are_at_site g found a b) _ parts.1) [
              | inl site ↦ first (or_right (is_after_write g found b a) _ site)
              | inr more ↦ elim (or_cases (are_after_write g found a b) _ more) [
                | inl both ↦ elim (any_either (λ node. is_written node a) (λ node. is_written node b) (λ node. is_after g found node a) (λ node. is_after g found node b) g.nodes both) [
                  | inl writes_a ↦ first (or_left (is_after_write g found b a) _ writes_a)
                  | inr writes_b ↦ second (or_left (is_after_write g found a b) _ writes_b)
                ]
                | inr one ↦ elim (or_cases (is_after_write g found a b) _ one) [
                  | inl write ↦ second (or_left (is_after_write g found a b) _ write)
                  | inr write ↦ first (or_left (is_after_write g found b a) _ write)
                ]
              ]
            ]

-- the sets that were made, by how they are read
pub sets_made : (g : Graph) (found : LiveSets) (before sites written rows : List (List Bool)) → before ≡ found.before → sites ≡ found.sites →
    HaveWrites g (local_count g) before g.nodes written → HaveSites (length written) sites written rows → AreConflictSets g found rows
sets_made g found before sites written rows is_before is_sites writes_in sites_in = record {
  written = written;
  writes_in = subst (λ (s : List (List Bool)). HaveWrites g (local_count g) s g.nodes written) is_before writes_in;
  sites_in = subst (λ (s : List (List Bool)). HaveSites (local_count g) s written rows) is_sites (subst (λ n. HaveSites n sites written rows) writes_in.are_rows.size sites_in);
}

-- the sets have so many rows
pub sets_sized : (g : Graph) (found : LiveSets) (rows : List (List Bool)) → AreConflictSets g found rows → AreRows (local_count g) rows
sets_sized g found rows sets = sets.sites_in.are_rows

-- the pairs of a class, by the sets as they are read
pub found_exactly : (g : Graph) (found : LiveSets) → AreLiveSets g found → (rows read : List (List Bool)) → AreConflictSets g found rows → read ≡ rows → (class : List Bool) →
    length class ≡ local_count g → (graph : List (List ℕ)) → HavePairs class read graph → AreConflictsWithin g class graph
found_exactly g found are rows read sets reads class size graph pairs =
    exactly g found are sets.written rows sets.writes_in sets.sites_in class graph (subst (λ (s : List (List Bool)). HavePairs class s graph) reads pairs) size

-- the sets of sites have a size
pub sized_sites : (g : Graph) (found : LiveSets) → AreLiveSets g found → (sets : List (List Bool)) → sets ≡ found.sites → (k : ℕ) (d : List Bool) → k < length sets →
    length (get_or sets k d) ≡ local_count g
sized_sites g found are sets is k d low =
    let within : k < length found.sites = subst (λ (l : List (List Bool)). k < length l) is low in
    ap (λ (s : List Bool). length s) (get_or_default sets k d [] low ∙ ap (λ (l : List (List Bool)). get_or l k []) is) ∙ (are.sites.each (record { number = k }) within).size

-- in a class that has all locals
pub of_all : (g : Graph) (class : List Bool) (graph : List (List ℕ)) → ((n : ℕ) → n < local_count g → has class n ≡ true) → AreConflictsWithin g class graph → AreConflicts g graph
of_all g class graph all within = record {
  size = within.size;
  exact = λ a b in_a in_b. (
    (λ is. ((within.exact a b in_a in_b).0 is).2),
    (λ is. (within.exact a b in_a in_b).1 (all (local_number g a) (number_below g a in_a), all (local_number g b) (number_below g b in_b), is)),
  );
}
