-- What is live at a call site is live behind the site's node, and so for its cut exits and for the sets that are computed.
use Rattle.std.proofs.Common.{◌≡◌, ℕ, ◌<◌, IsFalse, Contains, Option, Some, None, List, [], length, ap, sym, subst, arith}
use Rattle.cmm_program.specs.declared.procedure.Proc.{Proc}
use Rattle.cmm_program.specs.declared.procedure.Site.{Site}
use Rattle.cmm_program.specs.declared.program.Program.{Program}
use Rattle.cmm_program.specs.Bodies.{AtContinuation, AtSite, follow}
use Rattle.cmm_program.specs.InRange.{is_statement}
use Rattle.cmm_program.specs.Liveness.{Way, exits, exits_at, is_among, to_continuation}
use Rattle.cmm_program.specs.LivePaths
use Rattle.cmm_graph.specs.declared.graph.Graph.{Graph}
use Rattle.cmm_graph.specs.declared.node.Node.{Node}
use Rattle.cmm_graph.specs.declared.number.NodeId.{NodeId}
use Rattle.cmm_graph.specs.Counterpart.{AreExitsOf}
use Rattle.cmm_graph.specs.Liveness.{IsLiveAfter, IsLiveBefore}
use Rattle.cmm_graph.specs.Paths.{exit_nodes, landings}
use Rattle.cmm_live.specs.Sites.{cut_nodes}
use Rattle.cmm_flow.specs.Liveness.{IsFlowInRange, IsLiveOnCut, SitesHaveNodes, site_id, variable}
use Rattle.cmm_flow.proofs.LivenessExits.{AreExits, by_landing, cuts_there, exits_by, exits_to, to_landing}
use Rattle.cmm_flow.proofs.LivenessMembers.{Among, among_map, among_of, among_unmap, contains_of}
use Rattle.cmm_flow.proofs.LivenessPieces.{all_of, path_length}
use Rattle.cmm_flow.proofs.LivenessPositions.{live_is_read, read_is_live}
use Rattle.cmm_flow.proofs.LivenessRanges.{AllPass, exits_at_lead, follow_pass}
use Rattle.cmm_flow.proofs.LivenessTransfers.{are_exits, has_site}
use Rattle.cmm_flow.proofs.LivenessStatements.{Arrives}
use Rattle.cmm_flow.proofs.LivenessWaiting.{Waits, site_waits, waiting_cuts, waiting_has, waiting_leads, waiting_site}

module _ (p : Program) (q : Proc) (g : Graph) (flows : IsFlowInRange p q g) (site v : ℕ) (w : Waits p q g flows.flow.label_node site (follow q (AtSite site))) where
  abbrev node : Node
  node = record { tokens = w.tokens; kind = w.kind }

  of : AreExitsOf q g (site_id site) w.ends
  of = waiting_has q g w.kind (site_id site) w.ends w.waits (has_site p q g flows.range flows.graph flows.flow v w.at w.tokens w.kind w.node)

  are : AreExits p q g flows.graph flows.flow v w.ends of.site (follow q (AtSite site))
  are = are_exits p q g flows.range flows.graph flows.flow v site w.ends w.behind (follow q (AtSite site)) of w.normal w.code

  abbrev Exits : List Way
  Exits = exits_at q site (follow q (AtSite site))

  exits_are : Exits ≡ exits q of.site (follow q (AtSite site))
  exits_are = ap (λ (o : Option Site). elim o as (λ _. List Way) [ Some s ↦ exits q s (follow q (AtSite site)) | None ↦ [] ]) of.is_site

  good : (way : Way) → Among Exits way → AllPass (is_statement p q) way.to
  good way among = exits_at_lead (is_statement p q) q flows.range.body (follow q (AtSite site)) (follow_pass (is_statement p q) q flows.range.body (AtSite site)) site way among

  abbrev Comes : NodeId → Way → Type 0
  Comes = Arrives q g flows.flow.label_node v

  -- a path from an exit is one from the node to which the exit leads
  comes_live : (at : NodeId) (way : Way) → Comes at way → AllPass (is_statement p q) way.to → IsFalse (is_among v way.written) →
      LivePaths.IsReadFrom q v way.to → IsLiveBefore g (variable v) at
  comes_live at way comes pass unwritten read =
      comes.on unwritten (read_is_live p q g flows.range flows.graph flows.flow v way.to read comes.to pass comes.code)

  comes_read : (at : NodeId) (way : Way) → Comes at way → AllPass (is_statement p q) way.to → IsLiveBefore g (variable v) at →
      IsFalse (is_among v way.written) × LivePaths.IsReadFrom q v way.to
  comes_read at way comes pass live =
      let d = path_length g v at live in
      let found = comes.back d (all_of g v at live) in
      (found.0, live_is_read p q g flows.range flows.graph flows.flow v d d (omega arith) way.to comes.to pass comes.code found.1)

  pub live_there : LivePaths.IsLiveAt q site v → IsLiveAfter g (variable v) node
  live_there live =
      let among = among_of Exits live.exit live.is_exit in
      let found = exits_to p q g flows.graph flows.flow v w.ends of.site (follow q (AtSite site)) are live.exit (subst (λ ws. Among ws live.exit) exits_are among) in
      record {
        next = found.at;
        leads = subst (λ ms. Contains ms found.at) (sym (waiting_leads g w.kind (site_id site) w.ends w.waits)) (contains_of (exit_nodes g w.ends) found.at found.is_one);
        live = comes_live found.at live.exit found.arrives (good live.exit among) live.unwritten live.is_read;
      }

  pub live_here : IsLiveAfter g (variable v) node → LivePaths.IsLiveAt q site v
  live_here live =
      let leads = among_of (exit_nodes g w.ends) live.next (subst (λ ms. Contains ms live.next) (waiting_leads g w.kind (site_id site) w.ends w.waits) live.leads) in
      let found = exits_by p q g flows.graph flows.flow v w.ends of.site (follow q (AtSite site)) are live.next leads in
      let among = subst (λ ws. Among ws found.way) (sym exits_are) found.is_one in
      let read = comes_read live.next found.way found.arrives (good found.way among) live.live in
      record { exit = found.way; is_exit = contains_of Exits found.way among; unwritten = read.0; is_read = read.1 }

  -- ---- on cut exits

  abbrev LiveOnCut : Type 0
  LiveOnCut = (next : NodeId) × Contains (cut_nodes g w.kind) next × IsLiveBefore g (variable v) next

  pub cut_there : IsLiveOnCut q site v → LiveOnCut
  cut_there live =
      let same : live.exits ≡ of.site = grind (arith, live.is_site, of.is_site) in
      let cut = subst (λ (s : Site). Among s.cuts live.continuation) same (among_of live.exits.cuts live.continuation live.is_cut) in
      let way = to_continuation q live.continuation in
      let found = to_landing p q g flows.graph flows.flow v w.ends.cuts of.site.cuts of.cuts
      (cuts_there p q g flows.graph flows.flow v w.ends of.site (follow q (AtSite site)) are) way (among_map (to_continuation q) of.site.cuts live.continuation cut) in (
        found.at,
        subst (λ ms. Contains ms found.at) (sym (waiting_cuts g w.kind (site_id site) w.ends w.waits)) (contains_of (landings g w.ends.cuts) found.at found.is_one),
        comes_live found.at way found.arrives (follow_pass (is_statement p q) q flows.range.body (AtContinuation live.continuation)) live.unwritten live.is_read,
      )

  pub cut_here : LiveOnCut → IsLiveOnCut q site v
  cut_here live =
      let leads = among_of (landings g w.ends.cuts) live.0 (subst (λ ms. Contains ms live.0) (waiting_cuts g w.kind (site_id site) w.ends w.waits) live.1) in
      let found = by_landing p q g flows.graph flows.flow v w.ends.cuts of.site.cuts of.cuts
      (cuts_there p q g flows.graph flows.flow v w.ends of.site (follow q (AtSite site)) are) live.0 leads in
      by found.way (among_unmap (to_continuation q) of.site.cuts found.way found.is_one) found.arrives
    where
      by : (way : Way) → (k : ℕ) × Among of.site.cuts k × (to_continuation q k ≡ way) → Comes live.0 way → IsLiveOnCut q site v
      by way (k, cut, same) arrives =
          let comes : Comes live.0 (to_continuation q k) = subst (Comes live.0) (sym same) arrives in
          let read = comes_read live.0 (to_continuation q k) comes (follow_pass (is_statement p q) q flows.range.body (AtContinuation k)) live.2 in
          record {
            exits = of.site;
            is_site = of.is_site;
            continuation = k;
            is_cut = contains_of of.site.cuts k cut;
            unwritten = read.0;
            is_read = read.1;
          }

-- ---- each site has its node

waits_at : (p : Program) (q : Proc) (g : Graph) (flows : IsFlowInRange p q g) (site : ℕ) → site < length q.sites →
    Waits p q g flows.flow.label_node site (follow q (AtSite site))
waits_at p q g flows site less = site_waits p q g flows.flow.label_node site flows.range flows.flow.begun.next flows.flow.begun.code less

pub sites_have_nodes : SitesHaveNodes
sites_have_nodes p q g flows site less =
    let w = waits_at p q g flows site less in
    record {
      at = w.at;
      node = record { tokens = w.tokens; kind = w.kind };
      is_there = w.node;
      is_its = record {
        waits = waiting_site w.kind (site_id site) w.ends w.waits;
        live = λ v. (live_there p q g flows site v w, live_here p q g flows site v w);
        live_on_cut = λ v. (cut_there p q g flows site v w, cut_here p q g flows site v w);
      };
    }
