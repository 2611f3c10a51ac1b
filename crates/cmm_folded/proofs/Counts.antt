-- Tokens, values that are passed, and sites at which nodes wait, in a graph that stands for another.
use Rattle.std.proofs.Common.{◌≡◌, ℕ, ◌≤◌, inl, inr, refl, sym, ◌∙◌, ap, subst, arith, List, [], ◌∷◌, ◌++◌, length}
use Rattle.std.proofs.lemmas.Bool.Decides.{nat_tests}
use Rattle.std.proofs.lemmas.List.Sums.{sum_by-cons}
use Rattle.std.specs.Prelude.{nat_le, IsTrue, Some}
use Rattle.std.specs.List.{AllZip}
use Rattle.cmm_program.specs.declared.procedure.Proc.{Proc}
use Rattle.cmm_graph.specs.declared.graph.Graph.{Graph}
use Rattle.cmm_graph.specs.declared.node.Node.{Node}
use Rattle.cmm_graph.specs.declared.node.NodeKind.{NodeKind}
use Rattle.cmm_graph.specs.declared.node.NodeKind.TheVariants.{Assign, Entry}
use Rattle.cmm_graph.specs.Paths.{node_of}
use Rattle.cmm_graph.specs.Covering.{covers, least_for, least_tokens}
use Rattle.cmm_fold.specs.Graphs.{GraphStandsFor, KindStandsFor, NodeStandsFor}
use Rattle.cmm_live.specs.Sites.{site_of}
use Rattle.cmm_flow.specs.Few.{PassFew, YieldThere, passes_few, yields_there}
use Rattle.cmm_flow.specs.Flow.{AreCovered, HasTokens, IsBounded, IsShort, all_tokens}
use Rattle.cmm_flow.specs.Waiting.{IsWaitedAt, WaitOnce, all_different, waiting_at, waiting_sites}
use Rattle.cmm_folded.specs.Laws.{HasEntry}
use Rattle.cmm_folded.proofs.Nodes.{kind_same, new_node, tests_same, tests_through}

-- ---- tokens

tokens_same : (old new : List Node) → AllZip NodeStandsFor old new → all_tokens new ≡ all_tokens old
tokens_same [] [] all = refl
tokens_same [] (b ∷ new) all = absurd all
tokens_same (a ∷ old) [] all = absurd all
tokens_same (a ∷ old) (b ∷ new) all =
    let first = sum_by-cons (λ (node : Node). node.tokens) a old in
    let other = sum_by-cons (λ (node : Node). node.tokens) b new in
    let rest = tokens_same old new all.1 in
    let here = all.0.tokens in
    omega (arith, first, other, rest, here)

least_falls : (whole : ℕ) (a b : NodeKind) → KindStandsFor a b → least_tokens whole b ≤ least_tokens whole a
least_falls whole a b (inl e) = let same = ap (least_tokens whole) e in omega (arith, same)
least_falls whole a b (inr s) =
    let is : least_tokens whole b ≡ least_for s.folded = ap (least_tokens whole) s.is in
    let was : least_tokens whole a ≡ least_for s.value = ap (least_tokens whole) s.was in
    omega (arith, is, was, s.stands.least)

covered_still : (whole : ℕ) (a b : Node) → NodeStandsFor a b → IsTrue (covers whole a) → IsTrue (covers whole b)
covered_still whole a b node is =
    let enough : least_tokens whole a.kind ≤ a.tokens = grind (arith, nat_tests, is) in
    let least = least_falls whole a.kind b.kind node.kind in
    let tokens = node.tokens in
    let holds : least_tokens whole b.kind ≤ b.tokens = omega (arith, enough, least, tokens) in
    grind (arith, nat_tests, holds)

module _ (q : Proc) (old new : Graph) (stands : GraphStandsFor old new) where
  pub bounded_after : IsBounded q old → IsBounded q new
  bounded_after is = let continuations = ap (λ ns. length ns) stands.continuations in omega (arith, is, stands.variables, stands.temporaries, continuations)

  pub short_after : IsShort q old → IsShort q new
  short_after is = omega (arith, is, tokens_same old.nodes new.nodes stands.nodes)

  pub covered_after : AreCovered q old → AreCovered q new
  covered_after is = tests_through (covers q.tokens) (covers q.tokens) (covered_still q.tokens) old.nodes new.nodes stands.nodes is

  pub tokens_after : HasTokens q old → HasTokens q new
  tokens_after is =
      tests_through (λ node. nat_le node.tokens q.tokens) (λ node. nat_le node.tokens q.tokens) (λ a b node fits. ap (λ k. nat_le k q.tokens) node.tokens ∙ fits)
      old.nodes new.nodes stands.nodes is

  -- ---- values that are passed

  pub few_after : PassFew old → PassFew new
  few_after is = tests_same passes_few (λ to value folded next. refl) old.nodes new.nodes stands.nodes is

  pub yields_after : YieldThere q old → YieldThere q new
  yields_after is = tests_same (yields_there q) (λ to value folded next. refl) old.nodes new.nodes stands.nodes is

  -- ---- nodes that wait

  sites_same : (xs ys : List Node) → AllZip NodeStandsFor xs ys → waiting_sites ys ≡ waiting_sites xs
  sites_same [] [] all = refl
  sites_same [] (b ∷ ys) all = absurd all
  sites_same (a ∷ xs) [] all = absurd all
  sites_same (a ∷ xs) (b ∷ ys) all =
      let here : waiting_at b.kind ≡ waiting_at a.kind = kind_same waiting_at (λ to value folded next. refl) a.kind b.kind all.0.kind in
      let rest = sites_same xs ys all.1 in
      ap (λ ns. ns ++ waiting_sites ys) here ∙ ap (λ ns. waiting_at a.kind ++ ns) rest

  pub once_after : WaitOnce old → WaitOnce new
  once_after is = ap all_different (sites_same old.nodes new.nodes stands.nodes) ∙ is

  pub waited_after : (site : ℕ) → IsWaitedAt old site → IsWaitedAt new site
  waited_after site is =
      let b = new_node old new stands is.at is.node is.is_there in
      record {
        at = is.at;
        node = b.other;
        is_there = b.is_there;
        waits = kind_same site_of (λ to value folded next. refl) is.node.kind b.other.kind b.stands.kind ∙ is.waits;
      }

  -- ---- where it begins

  module _ (is : HasEntry q old) where
    abbrev entry : Node
    entry = record { tokens = q.tokens; kind = Entry is.formals is.next }

    same_entry : (b : Node) → NodeStandsFor entry b → b ≡ entry
    same_entry b node = by node.kind
      where
        by : KindStandsFor entry.kind b.kind → b ≡ entry
        by (inl e) = ap (λ k. record { tokens = b.tokens; kind = k }) e ∙ ap (λ t. record { tokens = t; kind = entry.kind }) node.tokens
        by (inr s) = let no : Entry is.formals is.next ≡ Assign s.to s.value s.next = s.was in absurd (cc)

    there : node_of new old.first ≡ Some entry
    there = let b = new_node old new stands old.first entry is.node in b.is_there ∙ ap Some (same_entry b.other b.stands)

    pub entry_after : HasEntry q new
    entry_after = record { formals = is.formals; next = is.next; node = subst (λ n. node_of new n ≡ Some entry) (sym stands.first) there }
