-- Sites at which nodes wait, and values that they pass, in a graph whose constants are hoisted.
use Rattle.std.proofs.Common.{◌≡◌, ℕ, suc, refl, ◌∙◌, ap, List, [], ◌∷◌, ◌++◌, length}
use Rattle.std.proofs.lemmas.Grind.{flat_map-append}
use Rattle.std.specs.List.{AllZip}
use Rattle.cmm_words.specs.declared.constant.Constant.{Constant}
use Rattle.cmm_program.specs.declared.procedure.Proc.{Proc}
use Rattle.cmm_graph.specs.declared.graph.Graph.{Graph}
use Rattle.cmm_graph.specs.declared.node.Node.{Node}
use Rattle.cmm_graph.specs.declared.number.NodeId.{NodeId}
use Rattle.cmm_hoist.specs.Graphs.{IsHoistedFrom, chain}
use Rattle.cmm_hoist.specs.Keeping.{NodeStandsFor}
use Rattle.cmm_live.specs.Sites.{site_of}
use Rattle.cmm_flow.specs.Few.{PassFew, YieldThere, passes_few, yields_there}
use Rattle.cmm_flow.specs.Waiting.{IsWaitedAt, WaitOnce, all_different, waiting_at, waiting_sites}
use Rattle.cmm_hoisted.proofs.Lists.{zip_set}
use Rattle.cmm_hoisted.proofs.Nodes.{IsBlind, behind, keepers, kind_same, may_same, new_entry, new_node, old_entry, tests_through}

-- ---- nodes that wait

site_blind : IsBlind site_of
site_blind = record { assigns = λ to v w next. refl; stores = λ width aligned a b c d next. refl; branches = λ t u then_ otherwise. refl }

waits_blind : IsBlind waiting_at
waits_blind = record { assigns = λ to v w next. refl; stores = λ width aligned a b c d next. refl; branches = λ t u then_ otherwise. refl }

abbrev WaitAlike : Node → Node → Type 0
WaitAlike a b = waiting_at b.kind ≡ waiting_at a.kind

sites_same : (xs ys : List Node) → AllZip WaitAlike xs ys → waiting_sites ys ≡ waiting_sites xs
sites_same [] [] all = refl
sites_same [] (b ∷ ys) all = absurd all
sites_same (a ∷ xs) [] all = absurd all
sites_same (a ∷ xs) (b ∷ ys) all = ap (λ ns. ns ++ waiting_sites ys) all.0 ∙ ap (λ ns. waiting_at a.kind ++ ns) (sites_same xs ys all.1)

-- no node of a chain waits
chain_waits : (ns : List ℕ) (first at : ℕ) (next : NodeId) (kept : List Constant) → ns ++ waiting_sites (chain first at next kept) ≡ ns
chain_waits [] first at next [] = refl
chain_waits [] first at next (constant ∷ kept) = chain_waits [] (suc first) (suc at) (record { number = at }) kept
chain_waits (n ∷ ns) first at next kept = ap (λ rest. n ∷ rest) (chain_waits ns first at next kept)

module _ (old new : Graph) (is : IsHoistedFrom old new) where
  wait_alike : AllZip WaitAlike old.nodes (behind old new is)
  wait_alike =
      zip_set (NodeStandsFor old.temporaries is.kept) WaitAlike
      (λ a b stands. kind_same waiting_at waits_blind old.temporaries is.kept a.kind b.kind stands.kind)
      old.nodes is.others is.stand old.first.number (old_entry old new is) (new_entry old new is) is.was refl

  waits_same : waiting_sites new.nodes ≡ waiting_sites old.nodes
  waits_same =
      ap waiting_sites is.nodes ∙ (flat_map-append (λ (node : Node). waiting_at node.kind) (behind old new is) (keepers old new is)
      ∙ (chain_waits (waiting_sites (behind old new is)) old.temporaries (length old.nodes) is.next is.kept
      ∙ sites_same old.nodes (behind old new is) wait_alike))

  pub once_after : WaitOnce old → WaitOnce new
  once_after once = ap all_different waits_same ∙ once

  pub waited_after : (site : ℕ) → IsWaitedAt old site → IsWaitedAt new site
  waited_after site waited =
      let b = new_node old new is waited.at waited.node waited.is_there in
      record {
        at = waited.at;
        node = b.other;
        is_there = b.is_there;
        waits = may_same old new is site_of site_blind refl waited.at waited.node b.other b.stands ∙ waited.waits;
      }

  -- ---- values that are passed

  few_blind : IsBlind passes_few
  few_blind = record { assigns = λ to v w next. refl; stores = λ width aligned a b c d next. refl; branches = λ t u then_ otherwise. refl }

  pub few_after : PassFew old → PassFew new
  few_after =
      tests_through old new is (λ node. passes_few node.kind) (λ node. passes_few node.kind)
      (λ a b stands few. kind_same passes_few few_blind old.temporaries is.kept a.kind b.kind stands.kind ∙ few) (λ few. few) (λ k constant kept. refl)

  yields_blind : (q : Proc) → IsBlind (yields_there q)
  yields_blind q = record { assigns = λ to v w next. refl; stores = λ width aligned a b c d next. refl; branches = λ t u then_ otherwise. refl }

  pub yields_after : (q : Proc) → YieldThere q old → YieldThere q new
  yields_after q =
      tests_through old new is (λ node. yields_there q node.kind) (λ node. yields_there q node.kind)
      (λ a b stands there. kind_same (yields_there q) (yields_blind q) old.temporaries is.kept a.kind b.kind stands.kind ∙ there) (λ there. there)
      (λ k constant kept. refl)
