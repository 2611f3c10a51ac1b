-- The exits of a procedure's sites: where each leads, and what is live there.
use Rattle.std.proofs.Common.{◌≡◌, ℕ, zero, suc, ◌==◌, Bool, true, false, Contains, Option, Some, None, List, [], ◌∷◌, ◌++◌, find, map, slice_get, refl, ap, sym, ◌∙◌, subst, arith}
use Rattle.std.proofs.lemmas.Bool.{eq-eqb, eqb-true}
use Rattle.std.proofs.lemmas.List.Elements.{Contains-append_left, Contains-append_right}
use Rattle.std.proofs.lemmas.Option.{same_Some}
use Rattle.cmm_program.specs.declared.procedure.Cont.{Cont}
use Rattle.cmm_program.specs.declared.procedure.Proc.{Proc}
use Rattle.cmm_program.specs.declared.procedure.Site.{Site}
use Rattle.cmm_program.specs.declared.procedure.Target.{Target}
use Rattle.cmm_program.specs.Errors.{with_some}
use Rattle.cmm_graph.specs.declared.graph.Graph.{Graph}
use Rattle.cmm_graph.specs.declared.node.Exits.{Exits}
use Rattle.cmm_graph.specs.declared.node.Node.{Node}
use Rattle.cmm_graph.specs.declared.node.NodeKind.{NodeKind}
use Rattle.cmm_graph.specs.declared.node.NodeKind.TheVariants.{Call, Yield, CopyIn, Stop}
use Rattle.cmm_graph.specs.declared.number.NodeId.{NodeId}
use Rattle.cmm_graph.specs.declared.number.SiteId.{SiteId}
use Rattle.cmm_graph.specs.Counterpart.{AreExitsOf, HasSite, numbers_of, parameter_targets, taken_at, taken_by}
use Rattle.cmm_graph.specs.GraphControl.{kind_at}
use Rattle.cmm_graph.specs.Paths.{exit_nodes, if_there, landing_of, landings, node_of, successors}
use Rattle.cmm_live.specs.Laws.{SetsAreClosed}
use Rattle.cmm_live.specs.Sites.{site_of}
use Rattle.cmm_located.specs.Compiled.{exits_of, landing_in, site_exits, waits_at}
use Rattle.cmm_located.specs.Returning.{HasExits, LandsAt}
use Rattle.cmm_flow.specs.Waiting.{WaitOnce}
use Rattle.cmm_flow.proofs.Shared.{same_node}
use Rattle.cmm_allocate.specs.declared.procedure.ProcedurePlaces.{ProcedurePlaces}
use Rattle.cmm_allocate.specs.Compiling.{compiled, live_before}
use Rattle.cmm_allocate.proofs.Living.{lives_at_site}
use Rattle.cmm_allocate.proofs.Members.{contains_landing, first_found}
use Rattle.cmm_allocate.proofs.Placing.{Beside, kind_is, live_is, site_is}

-- ---- the node of a site

abbrev pub site_id : ℕ → SiteId
site_id number = record { number = number }

waits_there : (number : ℕ) (kind : NodeKind) → site_of kind ≡ Some (site_id number) → waits_at number kind ≡ true
waits_there number kind is = ap (λ (o : Option SiteId). elim o as (λ _. Bool) [ Some s ↦ s.number == number | None ↦ false ]) is ∙ eq-eqb number number refl

is_its_site : (number : ℕ) (kind : NodeKind) → waits_at number kind ≡ true → site_of kind ≡ Some (site_id number)
is_its_site number kind waits = by (site_of kind) refl waits
  where
    by : (o : Option SiteId) → site_of kind ≡ o → elim o as (λ _. Bool) [ Some s ↦ s.number == number | None ↦ false ] ≡ true → site_of kind ≡ Some (site_id number)
    by (Some s) is same = is ∙ ap (λ n. Some (site_id n)) (eqb-true s.number number same)
    by None is same = absurd (cc (same))

-- what a node that waits at a site has
pub record WaitsWith (p : Proc) (g : Graph) (site : SiteId) (kind : NodeKind) : Type 0 where
  pub exits : Exits
  pub is_exits : exits_of kind ≡ Some exits
  pub are : AreExitsOf p g site exits
  pub leads : successors g kind ≡ exit_nodes g exits

pub waits_with : (p : Proc) (g : Graph) (site : SiteId) (kind : NodeKind) → site_of kind ≡ Some site → HasSite p g kind → WaitsWith p g site kind
waits_with p g site (Call at callee arguments exits) is has =
    let same : at ≡ site = same_Some at site is in record { exits = exits; is_exits = refl; are = subst (λ s. AreExitsOf p g s exits) same has; leads = refl }
waits_with p g site (Yield at values exits) is has =
    let same : at ≡ site = same_Some at site is in record { exits = exits; is_exits = refl; are = subst (λ s. AreExitsOf p g s exits) same has; leads = refl }
waits_with p g site kind is has = absurd (cc (is))

pub record SiteNode (p : Proc) (g : Graph) (number : ℕ) : Type 0 where
  pub at : NodeId
  pub node : Node
  pub is_there : node_of g at ≡ Some node
  pub waits : site_of node.kind ≡ Some (site_id number)
  pub with' : WaitsWith p g (site_id number) node.kind

-- ---- CopyIns

pub copy_of : (o : Option Node) (to : List Target) → with_some o (λ node. taken_by node.kind) ≡ Some to →
    (next : NodeId) × (elim o as (λ _. NodeKind) [ Some node ↦ node.kind | None ↦ Stop ] ≡ CopyIn to next)
copy_of (Some node) to is = by node.kind is
  where
    by : (kind : NodeKind) → taken_by kind ≡ Some to → (next : NodeId) × (kind ≡ CopyIn to next)
    by (CopyIn others next) is = (next, ap (λ to. CopyIn to next) (same_Some others to is))
    by kind is = absurd (cc (is))
copy_of None to is = absurd (cc (is))

-- the CopyIn of a continuation takes its parameters
landing_takes : (g : Graph) (takes : Cont → List Target) (ns : List NodeId) (conts : List Cont) (k : ℕ) (cont : Cont) →
    map (taken_at g) ns ≡ map (λ c. Some (takes c)) conts → slice_get conts k ≡ Some cont → (n : NodeId) × (slice_get ns k ≡ Some n) × (taken_at g n ≡ Some (takes cont))
landing_takes g takes ns [] k cont are is = absurd (cc (is))
landing_takes g takes [] (c ∷ conts) k cont are is = absurd (cc (are))
landing_takes g takes (n ∷ ns) (c ∷ conts) zero cont are is =
    let first : taken_at g n ≡ Some (takes c) = cc (are) in
    let same : c ≡ cont = same_Some c cont is in
    (n, refl, first ∙ ap (λ c. Some (takes c)) same)
landing_takes g takes (n ∷ ns) (c ∷ conts) (suc k) cont are is =
    let rest : map (taken_at g) ns ≡ map (λ c. Some (takes c)) conts = cc (are) in landing_takes g takes ns conts k cont rest is

-- ---- of a procedure of the program

module _ (procs : List Proc) (graphs : List Graph) (found : List ProcedurePlaces) (q : ℕ) (at : Beside procs graphs found q) (closed : SetsAreClosed) where
  abbrev g : Graph
  g = at.graph

  abbrev p : Proc
  p = at.procedure

  -- a node at a site is the site's
  module _ (once : WaitOnce at.graph) (number : ℕ) (site : SiteNode at.procedure at.graph number) where
    abbrev exits : Exits
    exits = site.with'.exits

    pub exits_found : site_exits graphs q number ≡ Some exits
    exits_found =
        let first = first_found (λ (node : Node). waits_at number node.kind) g.nodes site.at.number site.node site.is_there (waits_there number site.node.kind site.waits) in
        let same : first.element ≡ site.node =
        same_node (site_id number) g.nodes once first.place site.at.number first.element site.node first.is_at site.is_there
        (is_its_site number first.element.kind first.passes) site.waits in
        let finds : find (λ (node : Node). waits_at number node.kind) g.nodes ≡ Some site.node = first.is_found ∙ ap Some same in
        ap (λ o. with_some o (λ (g : Graph). with_some (find (λ (node : Node). waits_at number node.kind) g.nodes) (λ node. exits_of node.kind))) at.is_graph
        ∙ (ap (λ o. with_some o (λ (node : Node). exits_of node.kind)) finds ∙ site.with'.is_exits)

    pub exits_of_node : (n : NodeId) → site_of (kind_at graphs q n) ≡ Some (site_id number) → exits_of (kind_at graphs q n) ≡ Some exits
    exits_of_node n waits =
        ap exits_of (kind_is procs graphs found q at n) ∙ by (node_of g n) refl (sym (ap site_of (kind_is procs graphs found q at n)) ∙ waits)
      where
        by : (o : Option Node) → node_of g n ≡ o → site_of (elim o as (λ _. NodeKind) [ Some node ↦ node.kind | None ↦ Stop ]) ≡ Some (site_id number) →
            exits_of (elim o as (λ _. NodeKind) [ Some node ↦ node.kind | None ↦ Stop ]) ≡ Some exits
        by (Some node) there waits =
            let same : node ≡ site.node =
            same_node (site_id number) g.nodes once n.number site.at.number node site.node there site.is_there waits site.waits in
            ap (λ (node : Node). exits_of node.kind) same ∙ site.with'.is_exits
        by None there waits = absurd (cc (waits))

  -- a CopyIn to which an exit leads
  pub lands_at : (number : ℕ) (site : SiteNode at.procedure at.graph number) (to : List Target) (n : NodeId) → taken_at at.graph n ≡ Some to →
      Contains (exit_nodes at.graph site.with'.exits) n → LandsAt (compiled graphs found) (live_before found) q number to n
  lands_at number site to n takes leads =
      let copy = copy_of (node_of g n) to takes in
      record {
        next = copy.0;
        is_copy = kind_is procs graphs found q at n ∙ copy.1;
        at_site = λ u is.
            site_is procs graphs found q at number u
            ∙ lives_at_site g at.places.live at.has.live closed site.at site.node site.is_there (site_id number) n u site.waits
            (subst (λ ns. Contains ns n) (sym site.with'.leads) leads) (sym (live_is procs graphs found q at n u) ∙ is);
      }

  -- a continuation that a site lists
  pub record LandsIn (k : ℕ) (cont : Cont) : Type 0 where
    pub node : NodeId
    pub is_landing : landing_of at.graph record { number = k } ≡ Some node
    pub is_node : landing_in graphs q k ≡ Some node
    pub takes : taken_at at.graph node ≡ Some (parameter_targets at.procedure cont)

  pub lands_in : (k : ℕ) (cont : Cont) → slice_get at.procedure.conts k ≡ Some cont → LandsIn k cont
  lands_in k cont is =
      let lands = landing_takes g (parameter_targets p) g.continuations p.conts k cont at.flow.continuations is in
      record {
        node = lands.0;
        is_landing = lands.1;
        is_node = ap (λ o. with_some o (λ (g : Graph). landing_of g record { number = k })) at.is_graph ∙ lands.1;
        takes = lands.2;
      }

  -- ---- the exits of a site

  module _ (number : ℕ) (site : SiteNode at.procedure at.graph number) where
    abbrev ends : Exits
    ends = site.with'.exits

    -- the CopyIns of its ways, up to those of each kind
    abbrev to_returns : List NodeId
    to_returns = if_there ends.normal ++ landings g ends.returns

    abbrev to_unwinds : List NodeId
    to_unwinds = to_returns ++ landings g ends.unwinds

    by_normal : (n : NodeId) → ends.normal ≡ Some n → Contains (exit_nodes g ends) n
    by_normal n is =
        let one : Contains (if_there ends.normal) n = subst (λ o. Contains (if_there o) n) (sym is) (0, omega arith, refl) in
        Contains-append_left to_unwinds (landings g ends.cuts) n
        (Contains-append_left to_returns (landings g ends.unwinds) n (Contains-append_left (if_there ends.normal) (landings g ends.returns) n one))

    by_return : (k : ℕ) (n : NodeId) → Contains (numbers_of ends.returns) k → landing_of g record { number = k } ≡ Some n → Contains (exit_nodes g ends) n
    by_return k n has lands =
        Contains-append_left to_unwinds (landings g ends.cuts) n (Contains-append_left to_returns (landings g ends.unwinds) n
        (Contains-append_right (if_there ends.normal) (landings g ends.returns) n (contains_landing g ends.returns k n has lands)))

    by_unwind : (k : ℕ) (n : NodeId) → Contains (numbers_of ends.unwinds) k → landing_of g record { number = k } ≡ Some n → Contains (exit_nodes g ends) n
    by_unwind k n has lands =
        Contains-append_left to_unwinds (landings g ends.cuts) n
        (Contains-append_right to_returns (landings g ends.unwinds) n (contains_landing g ends.unwinds k n has lands))

    pub by_cut : (k : ℕ) (n : NodeId) → Contains (numbers_of ends.cuts) k → landing_of g record { number = k } ≡ Some n → Contains (exit_nodes g ends) n
    by_cut k n has lands = Contains-append_right to_unwinds (landings g ends.cuts) n (contains_landing g ends.cuts k n has lands)

    -- the continuation of an exit
    by_exit : (k : ℕ) (cont : Cont) → slice_get p.conts k ≡ Some cont →
        ((n : NodeId) → landing_of g record { number = k } ≡ Some n → Contains (exit_nodes g ends) n) →
        (n : NodeId) × (landing_in graphs q k ≡ Some n) × LandsAt (compiled graphs found) (live_before found) q number (parameter_targets p cont) n
    by_exit k cont is leads =
        let lands = lands_in k cont is in
        (lands.node, lands.is_node, lands_at number site (parameter_targets p cont) lands.node lands.takes (leads lands.node lands.is_landing))

    normal_exit : (s : Site) → slice_get p.sites number ≡ Some s → s.never ≡ false →
        (n : NodeId) × (ends.normal ≡ Some n) × LandsAt (compiled graphs found) (live_before found) q number s.results n
    normal_exit s is returns = by ends.normal refl
      where
        same : site.with'.are.site ≡ s
        same = same_Some site.with'.are.site s (sym site.with'.are.is_site ∙ is)

        takes : with_some ends.normal (taken_at g) ≡ Some s.results
        takes = site.with'.are.normal
            ∙ (ap (λ (s : Site). elim s.never as (λ _. Option (List Target)) [ true ↦ None | false ↦ Some s.results ]) same
            ∙ ap (λ b. elim b as (λ _. Option (List Target)) [ true ↦ None | false ↦ Some s.results ]) returns)

        by : (o : Option NodeId) → ends.normal ≡ o →
            (n : NodeId) × (ends.normal ≡ Some n) × LandsAt (compiled graphs found) (live_before found) q number s.results n
        by (Some n) is_normal =
            let taken : taken_at g n ≡ Some s.results = sym (ap (λ o. with_some o (taken_at g)) is_normal) ∙ takes in
            (n, is_normal, lands_at number site s.results n taken (by_normal n is_normal))
        by None is_normal = let none : None ≡ Some s.results = sym (ap (λ o. with_some o (taken_at g)) is_normal) ∙ takes in absurd (cc (none))

    pub site_has_exits : WaitOnce at.graph → (s : Site) → slice_get at.procedure.sites number ≡ Some s →
        HasExits (compiled graphs found) (live_before found) q at.procedure number s
    site_has_exits once s is =
        let same : site.with'.are.site ≡ s = same_Some site.with'.are.site s (sym site.with'.are.is_site ∙ is) in
        let returns : numbers_of ends.returns ≡ s.returns = site.with'.are.returns ∙ ap (λ (s : Site). s.returns) same in
        let unwinds : numbers_of ends.unwinds ≡ s.unwinds = site.with'.are.unwinds ∙ ap (λ (s : Site). s.unwinds) same in
        record {
          exits = ends;
          is_exits = exits_found once number site;
          of_node = exits_of_node once number site;
          returns = returns;
          normal = normal_exit s is;
          alternate = λ k cont listed is_cont. by_exit k cont is_cont (λ n lands. by_return k n (subst (λ ks. Contains ks k) (sym returns) listed) lands);
          unwinds = λ k cont listed is_cont. by_exit k cont is_cont (λ n lands. by_unwind k n (subst (λ ks. Contains ks k) (sym unwinds) listed) lands);
        }
