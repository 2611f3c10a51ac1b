-- Where no two nodes wait at one site, what is live at the site by the graph's paths, and what the sets of the graph have, is what is live
-- there by those of the procedure.
use Rattle.std.proofs.Common.{◌≡◌, ◌↔◌, ℕ, zero, suc, ◌==◌, not, Bool, true, false, Contains, Option, Some, None, List, [], ◌∷◌, ◌++◌, slice_get, refl, ap, sym, ◌∙◌, subst, arith, true≢false}
use Rattle.std.proofs.lemmas.Bool.{and_parts, eq-eqb, lt-ltb, not-true, or_left, or_right}
use Rattle.cmm_program.specs.Laws.{LivenessIsByPaths}
use Rattle.cmm_program.specs.Liveness.{is_among, is_live_at}
use Rattle.cmm_program.specs.LivePaths
use Rattle.cmm_graph.specs.declared.graph.Graph.{Graph}
use Rattle.cmm_graph.specs.declared.node.Node.{Node}
use Rattle.cmm_graph.specs.declared.node.NodeKind.{NodeKind}
use Rattle.cmm_graph.specs.declared.number.NodeId.{NodeId}
use Rattle.cmm_graph.specs.declared.number.SiteId.{SiteId}
use Rattle.cmm_graph.specs.Liveness.{IsLiveAfter}
use Rattle.cmm_graph.specs.Paths.{successors}
use Rattle.cmm_graph.specs.Ranges.{is_local}
use Rattle.cmm_live.specs.Exact.{is_at}
use Rattle.cmm_live.specs.Sites as GraphSites
use Rattle.cmm_live.specs.Sites.{IsLiveOn, cut_nodes, site_of}
use Rattle.cmm_flow.specs.Liveness.{HasNode, IsLiveOnCut, SetsAreOfProcedure, SitesKeepLiveness, site_id, variable}
use Rattle.cmm_flow.specs.Waiting.{all_different, waiting_sites}
use Rattle.cmm_flow.proofs.LivenessAtSites.{sites_have_nodes}
use Rattle.cmm_flow.proofs.LivenessMembers.{is_among-append}

-- ---- one node a site

abbrev at_site : Option SiteId → List ℕ
at_site o = elim o [ Some site ↦ site.number ∷ [] | None ↦ [] ]

different_later : (o : Option SiteId) (ns : List ℕ) → all_different (at_site o ++ ns) ≡ true → all_different ns ≡ true
different_later (Some site) ns all = (and_parts (not (is_among site.number ns)) (all_different ns) all).1
different_later None ns all = all

different_first : (o : Option SiteId) (site : SiteId) (ns : List ℕ) → o ≡ Some site → all_different (at_site o ++ ns) ≡ true → is_among site.number ns ≡ false
different_first o site ns is all =
    let both : all_different (site.number ∷ ns) ≡ true = subst (λ o. all_different (at_site o ++ ns) ≡ true) is all in
    not-true (is_among site.number ns) (and_parts (not (is_among site.number ns)) (all_different ns) both).0

its_own : (o : Option SiteId) (site : SiteId) → o ≡ Some site → is_among site.number (at_site o) ≡ true
its_own o site is = subst (λ o. is_among site.number (at_site o) ≡ true) (sym is) (or_left (site.number == site.number) false (eq-eqb site.number site.number refl))

pub listed : (site : SiteId) (nodes : List Node) (n : ℕ) (node : Node) → slice_get nodes n ≡ Some node → site_of node.kind ≡ Some site →
    is_among site.number (waiting_sites nodes) ≡ true
listed site [] n node is waits = absurd (cc)
listed site (x ∷ nodes) zero node is waits =
    let same : x ≡ node = cc in
    is_among-append site.number (at_site (site_of x.kind)) (waiting_sites nodes)
    ∙ or_left (is_among site.number (at_site (site_of x.kind))) (is_among site.number (waiting_sites nodes))
    (its_own (site_of x.kind) site (ap (λ (node : Node). site_of node.kind) same ∙ waits))
listed site (x ∷ nodes) (suc n) node is waits =
    is_among-append site.number (at_site (site_of x.kind)) (waiting_sites nodes)
    ∙ or_right (is_among site.number (at_site (site_of x.kind))) (is_among site.number (waiting_sites nodes)) (listed site nodes n node is waits)

pub same_node : (site : SiteId) (nodes : List Node) → all_different (waiting_sites nodes) ≡ true → (n m : ℕ) (a b : Node) → slice_get nodes n ≡ Some a →
    slice_get nodes m ≡ Some b → site_of a.kind ≡ Some site → site_of b.kind ≡ Some site → a ≡ b
same_node site [] all n m a b is_a is_b waits_a waits_b = absurd (cc)
same_node site (x ∷ nodes) all zero zero a b is_a is_b waits_a waits_b = cc
same_node site (x ∷ nodes) all zero (suc m) a b is_a is_b waits_a waits_b =
    let same : x ≡ a = cc in
    absurd (true≢false (sym (listed site nodes m b is_b waits_b)
    ∙ different_first (site_of x.kind) site (waiting_sites nodes) (ap (λ (node : Node). site_of node.kind) same ∙ waits_a) all))
same_node site (x ∷ nodes) all (suc n) zero a b is_a is_b waits_a waits_b =
    let same : x ≡ b = cc in
    absurd (true≢false (sym (listed site nodes n a is_a waits_a)
    ∙ different_first (site_of x.kind) site (waiting_sites nodes) (ap (λ (node : Node). site_of node.kind) same ∙ waits_b) all))
same_node site (x ∷ nodes) all (suc n) (suc m) a b is_a is_b waits_a waits_b =
    same_node site nodes (different_later (site_of x.kind) (waiting_sites nodes) all) n m a b is_a is_b waits_a waits_b

-- ---- at a site

pub sites_keep_liveness : SitesKeepLiveness
sites_keep_liveness p q g flows once site v less =
    let has = sites_have_nodes p q g flows site less in
    record { live = (there has, here has); live_on_cut = (cut_there has, cut_here has) }
  where
    its : (has : HasNode q g site) (exits : Graph → NodeKind → List NodeId) (on : IsLiveOn g exits (variable v) (site_id site)) → on.node ≡ has.node
    its has exits on = same_node (site_id site) g.nodes once on.at.number has.at.number on.node has.node on.is_there has.is_there on.waits has.is_its.waits

    there : HasNode q g site → LivePaths.IsLiveAt q site v → GraphSites.IsLiveAt g (variable v) (site_id site)
    there has live =
        let after = (has.is_its.live v).0 live in
        record { at = has.at; node = has.node; is_there = has.is_there; waits = has.is_its.waits; next = after.next; leads = after.leads; live = after.live }

    here : HasNode q g site → GraphSites.IsLiveAt g (variable v) (site_id site) → LivePaths.IsLiveAt q site v
    here has on =
        let after : IsLiveAfter g (variable v) on.node = record { next = on.next; leads = on.leads; live = on.live } in
        (has.is_its.live v).1 (subst (IsLiveAfter g (variable v)) (its has successors on) after)

    cut_there : HasNode q g site → IsLiveOnCut q site v → GraphSites.IsLiveOnCut g (variable v) (site_id site)
    cut_there has live =
        let after = (has.is_its.live_on_cut v).0 live in
        record { at = has.at; node = has.node; is_there = has.is_there; waits = has.is_its.waits; next = after.0; leads = after.1; live = after.2 }

    cut_here : HasNode q g site → GraphSites.IsLiveOnCut g (variable v) (site_id site) → IsLiveOnCut q site v
    cut_here has on =
        (has.is_its.live_on_cut v).1 (on.next, subst (λ (node : Node). Contains (cut_nodes g node.kind) on.next) (its has cut_nodes on) on.leads, on.live)

-- ---- the sets

-- two tests of the same are one
same_test : {P : Type 0} (a b : Bool) → (a ≡ true) ↔ P → (b ≡ true) ↔ P → a ≡ b
same_test true b first second = sym (second.1 (first.0 refl))
same_test false true first second = first.1 (second.0 refl)
same_test false false first second = refl

pub sets_are_of_procedure : LivenessIsByPaths → SetsAreOfProcedure
sets_are_of_procedure by_paths p q g found flows once sets site v less within =
    let kept = sites_keep_liveness p q g flows once site v less in
    let has = sites_have_nodes p q g flows site less in
    let there : is_local g (variable v) ≡ true = lt-ltb v g.variables (omega (arith, flows.graph.variables, within)) in
    let at = (sets.sites.each (site_id site) (sets.sites.listed has.at has.node (site_id site) has.is_there has.is_its.waits)).exact (variable v) there in
    let cut = (sets.cuts.each (site_id site) (sets.cuts.listed has.at has.node (site_id site) has.is_there has.is_its.waits)).exact (variable v) there in
    let live : (is_at g found (site_id site) (variable v) ≡ true) ↔ LivePaths.IsLiveAt q site v = (λ is. kept.live.1 (at.0 is), λ live. at.1 (kept.live.0 live)) in
    record {
      live = live;
      live_on_cut = (λ is. kept.live_on_cut.1 (cut.0 is), λ live. cut.1 (kept.live_on_cut.0 live));
      tested = same_test (is_at g found (site_id site) (variable v)) (is_live_at q site v) live (by_paths p q site v flows.range);
    }
