-- No node of a hoisted graph has more tokens than its Entry and the other nodes of the graph before.
use Rattle.std.proofs.Common.{◌≡◌, ℕ, zero, suc, ◌≤◌, refl, sym, subst, arith, List, [], ◌∷◌, length, Some}
use Rattle.std.specs.Prelude.{◌≢◌, IsTrue, nat_le, slice_get, slice_set}
use Rattle.std.specs.List.{AllZip, list_all}
use Rattle.std.proofs.lemmas.Bool.{and_from}
use Rattle.std.proofs.lemmas.Bool.Decides.{nat_tests}
use Rattle.std.proofs.lemmas.List.Folds.{list_all-append}
use Rattle.cmm_words.specs.declared.constant.Constant.{Constant}
use Rattle.cmm_graph.specs.declared.graph.Graph.{Graph}
use Rattle.cmm_graph.specs.declared.node.Node.{Node}
use Rattle.cmm_graph.specs.declared.node.NodeKind.TheVariants.{Entry}
use Rattle.cmm_hoist.specs.Graphs.{HasTokensWithin, IsHoistedFrom, chain, chain_start}
use Rattle.cmm_hoist.specs.Keeping.{NodeStandsFor}
use Rattle.cmm_hoist.specs.inside.Room.{OthersHaveWithin}
use Rattle.cmm_hoist.proofs.Chain.{chain_within}

within_test : (tokens most : ℕ) → tokens ≤ most → IsTrue (nat_le tokens most)
within_test tokens most less = grind (arith, nat_tests)

module _ (most first : ℕ) (kept : List Constant) where
  abbrev AreWithin : List Node → Type 0
  AreWithin nodes = IsTrue (list_all (λ node. nat_le node.tokens most) nodes)

  within_cons : (node : Node) (nodes : List Node) → node.tokens ≤ most → AreWithin nodes → AreWithin (node ∷ nodes)
  within_cons node nodes less rest =
      and_from (nat_le node.tokens most) (list_all (λ node. nat_le node.tokens most) nodes) (within_test node.tokens most less) rest

  stands_within : (old new : Node) → NodeStandsFor first kept old new → old.tokens ≤ most → new.tokens ≤ most
  stands_within old new stands less = omega (arith, stands.tokens)

  all_within : (old new : List Node) → AllZip (NodeStandsFor first kept) old new →
      ((n : ℕ) (node : Node) → slice_get old n ≡ Some node → node.tokens ≤ most) → AreWithin new
  all_within [] [] all each = refl
  all_within [] (y ∷ new) all each = absurd all
  all_within (x ∷ old) [] all each = absurd all
  all_within (x ∷ old) (y ∷ new) all each =
      within_cons y new (stands_within x y all.0 (each 0 x refl)) (all_within old new all.1 (λ n. each (suc n)))

  others_within : (old new : List Node) (at : ℕ) (entry : Node) → AllZip (NodeStandsFor first kept) old new →
      ((n : ℕ) (node : Node) → slice_get old n ≡ Some node → n ≢ at → node.tokens ≤ most) → entry.tokens ≤ most → AreWithin (slice_set new at entry)
  others_within [] [] at entry all each less = refl
  others_within [] (y ∷ new) at entry all each less = absurd all
  others_within (x ∷ old) [] at entry all each less = absurd all
  others_within (x ∷ old) (y ∷ new) zero entry all each less =
      within_cons entry new less (all_within old new all.1 (λ n node is. each (suc n) node is (λ same. omega (arith, same))))
  others_within (x ∷ old) (y ∷ new) (suc at) entry all each less =
      within_cons y (slice_set new at entry) (stands_within x y all.0 (each 0 x refl (λ same. omega (arith, same))))
      (others_within old new at entry all.1 (λ n node is other. each (suc n) node is (λ same. other (omega (arith, same)))) less)

pub tokens_within : (most : ℕ) (old new : Graph) (is : IsHoistedFrom old new) → OthersHaveWithin most old → 1 ≤ most → is.tokens ≤ most →
    HasTokensWithin most new
tokens_within most old new is others some less =
    let here = slice_set is.others old.first.number record { tokens = is.tokens; kind = Entry is.formals (chain_start (length old.nodes) is.next is.kept) } in
    let added = chain old.temporaries (length old.nodes) is.next is.kept in
    let test = λ (node : Node). nat_le node.tokens most in
    subst (λ (nodes : List Node). IsTrue (list_all test nodes)) (sym is.nodes)
    (subst IsTrue (sym (list_all-append test here added))
    (and_from (list_all test here) (list_all test added) (others_within most old.temporaries is.kept old.nodes is.others old.first.number _ is.stand others less)
    (chain_within most old.temporaries (length old.nodes) is.next is.kept some)))
