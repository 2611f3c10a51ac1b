-- A program with its graphs and places is compiled, and can be shown to the client.
use Rattle.std.proofs.Common.{◌≡◌, ℕ, zero, suc, ◌<◌, ◌≤◌, ◌==◌, nat_le, nat_lt, true, Option, Some, None, List, [], ◌∷◌, get_or, length, slice_get, refl, ap, sym, ◌∙◌, subst, arith}
use Rattle.std.proofs.lemmas.Bool.{and_parts, eqb-true}
use Rattle.std.proofs.lemmas.Bool.Decides.{nat_tests}
use Rattle.std.proofs.lemmas.Option.{same_Some, slice_get_within}
use Rattle.std.specs.List.{All, AllZip, list_all}
use Rattle.rv_table.specs.Memory.{code_base}
use Rattle.cmm_program.proofs.Shared.{all_get, list_all_get}
use Rattle.cmm_program.specs.declared.procedure.Proc.{Proc}
use Rattle.cmm_program.specs.declared.procedure.Site.{Site}
use Rattle.cmm_program.specs.Bodies.{AtSite, follow}
use Rattle.cmm_program.specs.Errors.{with_some}
use Rattle.cmm_program.specs.Liveness.{Way, along, exits, is_live_at, is_read_from}
use Rattle.cmm_program.specs.Placed.{are_pairs, is_row_placed}
use Rattle.cmm_program.specs.State.{Setting}
use Rattle.cmm_graph.specs.declared.graph.Graph.{Graph}
use Rattle.cmm_graph.specs.declared.node.Node.{Node}
use Rattle.cmm_graph.specs.declared.node.NodeKind.{NodeKind}
use Rattle.cmm_graph.specs.declared.node.NodeKind.TheVariants.{Return, Stop}
use Rattle.cmm_graph.specs.declared.number.SiteId.{SiteId}
use Rattle.cmm_graph.specs.Counterpart.{HasSite, parameter_targets}
use Rattle.cmm_graph.specs.GraphControl.{kind_at}
use Rattle.cmm_graph.specs.Paths.{node_of}
use Rattle.cmm_graph.specs.Ranges.{is_argument, is_kind}
use Rattle.cmm_live.specs.Laws.{SetsAreClosed}
use Rattle.cmm_live.specs.Sites.{site_of}
use Rattle.cmm_chain.specs.declared.frame.Frame.{Frame}
use Rattle.cmm_chain.specs.declared.frame.Location.{Location}
use Rattle.cmm_chain.specs.Plans.{IsPlanned, is_laid, is_place}
use Rattle.cmm_chain.specs.Running.{lasts}
use Rattle.cmm_located.specs.Clients.{AreApart}
use Rattle.cmm_located.specs.Compiled.{Compiled}
use Rattle.cmm_located.specs.Cutting.{HaveCuts, HaveOwnCuts, HavePairs, LandInside, LandsByCut}
use Rattle.cmm_located.specs.Entering.{AreReady, HasEntry, HaveEntries, IsWithinMost}
use Rattle.cmm_located.specs.Laws.{HasVariables}
use Rattle.cmm_located.specs.Layouts.{row_with}
use Rattle.cmm_located.specs.Relation.{Liveness}
use Rattle.cmm_located.specs.Returning.{HasExits, HaveExits, IsInRange, ReturnsAreInRange}
use Rattle.cmm_located.specs.RunningSteps.{IsCompiled}
use Rattle.cmm_located.specs.ShownWalks.{KnowsLive}
use Rattle.cmm_located.specs.Walkable.{HaveSites}
use Rattle.cmm_graph.specs.declared.node.NodeKind.TheVariants as kind
use Rattle.cmm_graph.specs.declared.node.NodeKind.TheVariants.{Stop}
use Rattle.cmm_graph.specs.declared.number.SiteId.{SiteId}
use Rattle.cmm_graph.specs.GraphControl.{kind_at}
use Rattle.cmm_live.specs.Sites.{site_of}
use Rattle.cmm_located.specs.Steps.{IsClosed}
use Rattle.cmm_program.specs.Bounds as bounds
use Rattle.cmm_hoist.specs.Graphs.{HasTokensWithin}
use Rattle.cmm_hoisted.specs.Flow.{IsFlowWithin}
use Rattle.cmm_hoisted.specs.Laws.{HoistedFlowsAreGraphs, HoistedFlowsHaveSites, HoistedFlowsWaitAtEach, HoistedFlowsWaitOnce, HoistedSetsAreOfProcedure}
use Rattle.cmm_flow.specs.Waiting.{WaitOnce}
use Rattle.cmm_allocate.specs.declared.procedure.ProcedurePlaces.{ProcedurePlaces}
use Rattle.cmm_allocate.specs.Compiling.{compiled, live_before, no_place}
use Rattle.cmm_allocate.specs.Laws.{PlacesAreCompiled, PlacesAreShowable, RunsOverPlaces}
use Rattle.cmm_allocate.proofs.Beginning.{has_entry, variables_are}
use Rattle.cmm_allocate.proofs.Cutting.{cuts_land, frame_is, own_cuts_land}
use Rattle.cmm_allocate.proofs.Exits.{SiteNode, site_has_exits, site_id, waits_with}
use Rattle.cmm_allocate.proofs.Living.{lives_before_site}
use Rattle.cmm_allocate.proofs.Placing.{Beside, apart_in, exists, kind_in_range, kind_is, live_is, node_keeps, node_reads, place_is, planned_at, procedure_beside, range_at, site_is}

-- ---- places and tokens

place_in : (f : Frame) (locals : List Location) (v : ℕ) → list_all (is_place f) locals ≡ true → is_place f (get_or locals v no_place) ≡ true
place_in f [] v all = refl
place_in f (l ∷ locals) zero all = (and_parts (is_place f l) (list_all (is_place f) locals) all).0
place_in f (l ∷ locals) (suc v) all = place_in f locals v (and_parts (is_place f l) (list_all (is_place f) locals) all).1

-- a frame that is laid for a procedure has a pair for each continuation
pub pairs_counted : (p : Proc) (f : Frame) → is_row_placed p (row_with code_base f) ≡ true → length f.pairs ≡ length p.conts
pairs_counted p f placed =
    let pairs : are_pairs p (row_with code_base f) ≡ true = grind (arith, placed) in
    let count : (length f.pairs == length p.conts) ≡ true = grind (arith, pairs) in
    eqb-true (length f.pairs) (length p.conts) count

-- no node has more tokens than is said of the graphs
tokens_bounded : (most greatest : ℕ) (procs : List Proc) (graphs : List Graph) (q n : ℕ) (g : Graph) (node : Node) → AllZip (IsFlowWithin most greatest) procs graphs →
    slice_get graphs q ≡ Some g → slice_get g.nodes n ≡ Some node → node.tokens ≤ most
tokens_bounded most greatest procs [] q n g node have is there = absurd (cc (is))
tokens_bounded most greatest [] (x ∷ graphs) q n g node have is there = elim have [ ]
tokens_bounded most greatest (p ∷ procs) (x ∷ graphs) zero n g node have is there =
    let same : x ≡ g = cc (is) in
    let all : HasTokensWithin most g = subst (HasTokensWithin most) same have.0.tokens in
    let passes = list_all_get (λ (node : Node). nat_le node.tokens most) g.nodes n node all there in
    grind (arith, nat_tests, passes)
tokens_bounded most greatest (p ∷ procs) (x ∷ graphs) (suc q) n g node have is there = tokens_bounded most greatest procs graphs q n g node have.1 is there

-- a return in range is by an exit that it may have
return_in_range : (g : Graph) (kind : NodeKind) → is_kind g kind ≡ true → IsInRange kind
return_in_range g (Return exit alternates results) is =
    let both = and_parts (nat_le exit alternates) (list_all (is_argument g) results) is in grind (arith, nat_tests, both.0)
return_in_range g kind is = tt

module _ (are_graphs : HoistedFlowsAreGraphs) (closed : SetsAreClosed) (once : HoistedFlowsWaitOnce) (have_sites : HoistedFlowsHaveSites) (wait_at_each : HoistedFlowsWaitAtEach) (s : Setting) (graphs : List Graph)
    (found : List ProcedurePlaces) (runs : RunsOverPlaces s graphs found) where
  abbrev c : Compiled
  c = compiled graphs found

  abbrev live : Liveness
  live = live_before found

  abbrev At : ℕ → Type 0
  At q = Beside s.program.procs graphs found q

  waits_once : (q : ℕ) (at : At q) → WaitOnce at.graph
  waits_once q at = once s.program at.procedure at.graph (range_at are_graphs s graphs found runs q at) at.flow.flow

  -- the node of a site of a procedure
  site_node : (q : ℕ) (at : At q) (number : ℕ) → number < length at.procedure.sites → SiteNode at.procedure at.graph number
  site_node q at number less =
      let range = range_at are_graphs s graphs found runs q at in
      let w = wait_at_each s.program at.procedure at.graph number range at.flow.flow less in
      let has = all_get (λ (node : Node). HasSite at.procedure at.graph node.kind) at.graph.nodes w.at.number w.node
      (have_sites s.program at.procedure at.graph range at.flow.flow) w.is_there in
      record { at = w.at; node = w.node; is_there = w.is_there; waits = w.waits; with' = waits_with at.procedure at.graph (site_id number) w.node.kind w.waits has }

  -- ---- frames and nodes

  planned : IsPlanned c.plan
  planned = record {
    laid = λ q is. (let at = planned_at are_graphs s graphs found runs q is in
        ap (λ (f : Frame). is_laid f) (frame_is s.program.procs graphs found q at closed) ∙ at.has.frame.laid);
    places = λ q v is. (let at = planned_at are_graphs s graphs found runs q is in
        ap (λ (f : Frame). is_place f (c.plan.place q v)) (frame_is s.program.procs graphs found q at closed)
        ∙ (ap (λ l. is_place at.places.frame l) (place_is s.program.procs graphs found q at v)
        ∙ place_in at.places.frame at.places.locals v at.has.frame.locals));
  }

  are_closed : IsClosed c live
  are_closed = record {
    reads = λ q n is. node_reads s.program.procs graphs found q (planned_at are_graphs s graphs found runs q is) closed n;
    keeps = λ q n is. node_keeps s.program.procs graphs found q (planned_at are_graphs s graphs found runs q is) closed n;
  }

  are_ready : AreReady c live
  are_ready q n is = record { ready = λ site v waits is_live. (lasting site.number v is_live, living site v waits is_live) }
    where
      at : At q
      at = planned_at are_graphs s graphs found runs q is

      lasting : (site v : ℕ) → c.plan.live q site v ≡ true → lasts (c.plan.place q v) ≡ true
      lasting site v is_live =
          ap lasts (place_is s.program.procs graphs found q at v) ∙ at.has.locals.lasting site v (sym (site_is s.program.procs graphs found q at site v) ∙ is_live)

      living : (site : SiteId) (v : ℕ) → site_of (kind_at graphs q n) ≡ Some site → c.plan.live q site.number v ≡ true → live q n v ≡ true
      living site v waits is_live = by (node_of at.graph n) refl (sym (ap site_of (kind_is s.program.procs graphs found q at n)) ∙ waits)
        where
          by : (o : Option Node) → node_of at.graph n ≡ o → site_of (elim o as (λ _. NodeKind) [ Some node ↦ node.kind | None ↦ Stop ]) ≡ Some site → live q n v ≡ true
          by (Some node) there waits =
              live_is s.program.procs graphs found q at n v
              ∙ lives_before_site at.graph at.places.live at.has.live closed n node there (waits_once q at) site v waits
              (sym (site_is s.program.procs graphs found q at site.number v) ∙ is_live)
          by None there waits = absurd (cc (waits))

  entries : HaveEntries s c live
  entries q p is =
      let at = procedure_beside are_graphs s graphs found runs q p is in
      let same : at.procedure ≡ p = same_Some at.procedure p (sym at.is_procedure ∙ is) in
      subst (HasEntry c live q) same (has_entry s.program s.program.procs graphs found q at closed (range_at are_graphs s graphs found runs q at))

  exits_are : HaveExits s c live
  exits_are q p number site is is_site =
      let at = procedure_beside are_graphs s graphs found runs q p is in
      let same : at.procedure ≡ p = same_Some at.procedure p (sym at.is_procedure ∙ is) in
      let is_its : slice_get at.procedure.sites number ≡ Some site = subst (λ (p : Proc). slice_get p.sites number ≡ Some site) (sym same) is_site in
      let node = site_node q at number (slice_get_within at.procedure.sites number site is_its) in
      subst (λ p. HasExits c live q p number site) same
      (site_has_exits s.program.procs graphs found q at closed number node (waits_once q at) site is_its)

  returns : ReturnsAreInRange c
  returns q n is = subst IsInRange (sym (kind_is s.program.procs graphs found q at n)) (by (node_of at.graph n) refl)
    where
      at : At q
      at = planned_at are_graphs s graphs found runs q is

      by : (o : Option Node) → node_of at.graph n ≡ o → IsInRange (elim o as (λ _. NodeKind) [ Some node ↦ node.kind | None ↦ Stop ])
      by (Some node) there = return_in_range at.graph node.kind (kind_in_range s.program.procs graphs found q at n node there)
      by None there = tt

  cuts : HaveCuts s c live
  cuts q p number site k cont is is_site has is_cont =
      let at = procedure_beside are_graphs s graphs found runs q p is in
      let same : at.procedure ≡ p = same_Some at.procedure p (sym at.is_procedure ∙ is) in
      let is_its : slice_get at.procedure.sites number ≡ Some site = subst (λ (p : Proc). slice_get p.sites number ≡ Some site) (sym same) is_site in
      let cont_is : slice_get at.procedure.conts k ≡ Some cont = subst (λ (p : Proc). slice_get p.conts k ≡ Some cont) (sym same) is_cont in
      let node = site_node q at number (slice_get_within at.procedure.sites number site is_its) in
      subst (λ p. LandsByCut c live q number k (parameter_targets p cont)) same
      (cuts_land s.program.procs graphs found q at closed number node site k cont is_its has cont_is)

  own_cuts : HaveOwnCuts s c live
  own_cuts q p n is =
      let at = procedure_beside are_graphs s graphs found runs q p is in
      let same : at.procedure ≡ p = same_Some at.procedure p (sym at.is_procedure ∙ is) in
      subst (λ p. LandInside c live q p n (kind_at graphs q n)) same (own_cuts_land s.program.procs graphs found q at closed n)

  pairs : HavePairs s
  pairs q p is =
      let at = procedure_beside are_graphs s graphs found runs q p is in
      let same : at.procedure ≡ p = same_Some at.procedure p (sym at.is_procedure ∙ is) in
      let rows = runs.frames.pairs q (exists s.program.procs graphs found q at) in
      ap (λ (l : List ℕ). length l) (sym rows)
      ∙ (ap (λ (f : Frame). length f.pairs) (frame_is s.program.procs graphs found q at closed)
      ∙ (pairs_counted at.procedure at.places.frame (at.has.frame.placed code_base refl)
      ∙ ap (λ (p : Proc). length p.conts) same))

  within : IsWithinMost c runs.within.most
  within position = by (slice_get graphs position.procedure) refl
    where
      tokens_of : Option Node → ℕ
      tokens_of o = elim o as (λ _. ℕ) [ Some node ↦ node.tokens | None ↦ 0 ]

      in_it : (g : Graph) → slice_get graphs position.procedure ≡ Some g → (o : Option Node) → node_of g position.node ≡ o →
          elim o as (λ _. ℕ) [ Some node ↦ node.tokens | None ↦ 0 ] ≤ runs.within.most
      in_it g is (Some node) there = tokens_bounded runs.within.most (bounds.longest s.program.procs) s.program.procs graphs position.procedure position.node.number g node runs.within.all is there
      in_it g is None there = omega arith

      by : (o : Option Graph) → slice_get graphs position.procedure ≡ o →
          elim (with_some o (λ g. node_of g position.node)) as (λ _. ℕ) [ Some node ↦ node.tokens | None ↦ 0 ] ≤ runs.within.most
      by (Some g) is = in_it g is (node_of g position.node) refl
      by None is = omega arith

  are_compiled : IsCompiled s c live runs.within.most
  are_compiled = record {
    planned = planned;
    frames = runs.frames;
    closed = are_closed;
    ready = are_ready;
    entries = entries;
    exits = exits_are;
    returns = returns;
    cuts = cuts;
    own_cuts = own_cuts;
    pairs = pairs;
    within = within;
  }

  -- ---- the client

  variables : HasVariables s c
  variables q p is =
      let at = procedure_beside are_graphs s graphs found runs q p is in
      let same : at.procedure ≡ p = same_Some at.procedure p (sym at.is_procedure ∙ is) in
      variables_are s.program s.program.procs graphs found q at closed (range_at are_graphs s graphs found runs q at) ∙ ap (λ (p : Proc). length p.vars) same

  apart : AreApart c
  apart q site v u is live_v live_u other =
      let at = planned_at are_graphs s graphs found runs q is in
      apart_in s.program.procs graphs found q at v u (at.has.locals.at_site site v u (sym (site_is s.program.procs graphs found q at site v) ∙ live_v)
      (sym (site_is s.program.procs graphs found q at site u) ∙ live_u) other)

  -- nothing is live at a site that is not there
  site_exists : (p : Proc) (site v : ℕ) → is_live_at p site v ≡ true → site < length p.sites
  site_exists p site v is = by (slice_get p.sites site) refl is
    where
      by : (o : Option Site) → slice_get p.sites site ≡ o →
          along (is_read_from p v) v (elim o as (λ _. List Way) [ Some x ↦ exits p x (follow p (AtSite site)) | None ↦ [] ]) ≡ true → site < length p.sites
      by (Some x) there is = slice_get_within p.sites site x there
      by None there is = absurd (cc (is))

  knows_live : HoistedSetsAreOfProcedure → KnowsLive s c
  knows_live of_procedure q site v p is less is_live =
      let at = procedure_beside are_graphs s graphs found runs q p is in
      let same : at.procedure ≡ p = same_Some at.procedure p (sym at.is_procedure ∙ is) in
      let its : is_live_at at.procedure site v ≡ true = subst (λ p. is_live_at p site v ≡ true) (sym same) is_live in
      let below : v < length at.procedure.vars = subst (λ (p : Proc). v < length p.vars) (sym same) less in
      let sets = of_procedure s.program at.procedure at.graph at.places.live (range_at are_graphs s graphs found runs q at) at.flow.flow at.has.live site v (site_exists at.procedure site v its) below in
      site_is s.program.procs graphs found q at site v ∙ (sets.tested ∙ its)

  -- nodes wait at sites of their procedures
  sites_are : HaveSites s c
  sites_are q n site is waits =
      let at = planned_at are_graphs s graphs found runs q is in
      let range = range_at are_graphs s graphs found runs q at in
      let kind : kind_at graphs q n ≡ elim (node_of at.graph n) as (λ _. NodeKind) [ Some node ↦ node.kind | None ↦ Stop ] =
      ap (λ (o : Option Graph). elim (with_some o (λ g. node_of g n)) as (λ _. NodeKind) [ Some node ↦ node.kind | None ↦ Stop ]) at.is_graph in
      (at.procedure, at.is_procedure, by at (have_sites s.program at.procedure at.graph range at.flow.flow) (node_of at.graph n) refl (ap site_of (sym kind) ∙ waits))
    where
      within_sites : (p : Proc) (k : ℕ) (x : Site) → slice_get p.sites k ≡ Some x → nat_lt k (length p.sites) ≡ true
      within_sites p k x there = let less = slice_get_within p.sites k x there in grind (arith, nat_tests, less)

      of_kind : (p : Proc) (g : Graph) (kind : NodeKind) → HasSite p g kind → site_of kind ≡ Some site → nat_lt site.number (length p.sites) ≡ true
      of_kind p g (kind.Call k callee arguments exits) has e = let same : k ≡ site = same_Some k site e in
          ap (λ (z : SiteId). nat_lt z.number (length p.sites)) (sym same) ∙ within_sites p k.number has.site has.is_site
      of_kind p g (kind.Yield k values exits) has e = let same : k ≡ site = same_Some k site e in
          ap (λ (z : SiteId). nat_lt z.number (length p.sites)) (sym same) ∙ within_sites p k.number has.site has.is_site
      of_kind p g _ has e = absurd (cc)

      by : (at : At q) → All (λ node. HasSite at.procedure at.graph node.kind) at.graph.nodes → (o : Option Node) → node_of at.graph n ≡ o →
          site_of (elim o as (λ _. NodeKind) [ Some node ↦ node.kind | None ↦ Stop ]) ≡ Some site → nat_lt site.number (length at.procedure.sites) ≡ true
      by at have (Some node) there e = of_kind at.procedure at.graph node.kind
          (all_get (λ (node : Node). HasSite at.procedure at.graph node.kind) at.graph.nodes n.number node have there) e
      by at have None there e = absurd (cc)

pub places_are_compiled : HoistedFlowsAreGraphs → SetsAreClosed → HoistedFlowsWaitOnce → HoistedFlowsHaveSites → HoistedFlowsWaitAtEach → PlacesAreCompiled
places_are_compiled are_graphs closed once have_sites wait_at_each s graphs found runs = are_compiled are_graphs closed once have_sites wait_at_each s graphs found runs

pub places_are_showable : HoistedFlowsAreGraphs → SetsAreClosed → HoistedFlowsWaitOnce → HoistedFlowsHaveSites → HoistedFlowsWaitAtEach → HoistedSetsAreOfProcedure → PlacesAreShowable
places_are_showable are_graphs closed once have_sites wait_at_each of_procedure s graphs found runs = record {
  variables = variables are_graphs closed once have_sites wait_at_each s graphs found runs;
  live = knows_live are_graphs closed once have_sites wait_at_each s graphs found runs of_procedure;
  apart = apart are_graphs closed once have_sites wait_at_each s graphs found runs;
  sites = sites_are are_graphs closed once have_sites wait_at_each s graphs found runs;
}
