-- The sets of live locals by the numbers of locals: members are locals of the graph, and the sets are closed along its paths.
use Rattle.std.proofs.Common.{◌≡◌, ℕ, zero, suc, ◌-◌, ◌<◌, ◌≤◌, nat_lt, Bool, true, false, Contains, Some, List, [], ◌∷◌, length, map, refl, ap, sym, ◌∙◌, subst, arith}
use Rattle.std.proofs.lemmas.Bool.Decides.{nat_tests}
use Rattle.std.proofs.lemmas.List.{get_or_past}
use Rattle.std.proofs.lemmas.Option.{slice_get_within}
use Rattle.cmm_bitset.specs.Sets.{has}
use Rattle.cmm_graph.specs.declared.graph.Graph.{Graph}
use Rattle.cmm_graph.specs.declared.node.Node.{Node}
use Rattle.cmm_graph.specs.declared.node.NodeKind.{NodeKind}
use Rattle.cmm_graph.specs.declared.node.NodeKind.TheVariants.{Call, Yield}
use Rattle.cmm_graph.specs.declared.number.NodeId.{NodeId}
use Rattle.cmm_graph.specs.declared.number.SiteId.{SiteId}
use Rattle.cmm_graph.specs.declared.operand.Local.{Local}
use Rattle.cmm_graph.specs.declared.operand.Local.TheVariants as local
use Rattle.cmm_graph.specs.Liveness.{IsLiveBefore, Onward}
use Rattle.cmm_graph.specs.Paths.{node_of, reads, successors, writes}
use Rattle.cmm_graph.specs.Ranges.{is_local}
use Rattle.cmm_live.specs.declared.live_sets.LiveSets.{LiveSets}
use Rattle.cmm_live.specs.Exact.{AreLiveSets, is_before, set_at}
use Rattle.cmm_live.specs.Laws.{IsKeptAt, SetsAreClosed}
use Rattle.cmm_live.specs.Locals.{local_count, local_number}
use Rattle.cmm_live.specs.Sites.{IsLiveAt, site_of}
use Rattle.cmm_flow.specs.Waiting.{WaitOnce}
use Rattle.cmm_flow.proofs.Shared.{same_node}
use Rattle.cmm_allocate.proofs.Members.{contains_mapped, none_contained}

-- a member of a set is below its size
pub has_within : (set : List Bool) (u : ℕ) → has set u ≡ true → u < length set
has_within [] u is = absurd (cc)
has_within (b ∷ set) zero is = omega arith
has_within (b ∷ set) (suc u) is = omega (arith, has_within set u is)

-- a node that waits writes nothing
waits_silently : (kind : NodeKind) (site : SiteId) (l : Local) → site_of kind ≡ Some site → ¬ Contains (writes kind) l
waits_silently (Call site callee arguments exits) s l is written = none_contained l written
waits_silently (Yield site values exits) s l is written = none_contained l written
waits_silently kind s l is written = absurd (cc)

-- ---- the local of a number

module _ (g : Graph) where
  abbrev local_by : ℕ → Bool → Local
  local_by u below = elim below [ true ↦ local.Variable record { number = u } | false ↦ local.Temporary record { number = u - g.variables } ]

  abbrev pub local_at : ℕ → Local
  local_at u = local_by u (nat_lt u g.variables)

  pub numbered : (u : ℕ) → u < local_count g → (local_number g (local_at u) ≡ u) × (is_local g (local_at u) ≡ true)
  numbered u less = by (nat_lt u g.variables) refl
    where
      by : (b : Bool) → nat_lt u g.variables ≡ b → (local_number g (local_by u b) ≡ u) × (is_local g (local_by u b) ≡ true)
      by true below = (refl, below)
      by false below =
          let past : g.variables ≤ u = grind (arith, nat_tests, below) in
          let within : u - g.variables < g.temporaries = omega arith in
          (omega arith, grind (arith, nat_tests, within))

  pub number_within : (l : Local) → is_local g l ≡ true → local_number g l < local_count g
  number_within (local.Variable v) is = let below : v.number < g.variables = grind (arith, nat_tests, is) in omega arith
  number_within (local.Temporary t) is = let below : t.number < g.temporaries = grind (arith, nat_tests, is) in omega arith

-- ---- the sets

abbrev pub before : LiveSets → NodeId → ℕ → Bool
before found n u = has (set_at found.before n.number) u

abbrev pub at_site : LiveSets → ℕ → ℕ → Bool
at_site found site u = has (set_at found.sites site) u

module _ (g : Graph) (found : LiveSets) (sets : AreLiveSets g found) where
  -- members are locals
  pub before_within : (n : NodeId) (u : ℕ) → before found n u ≡ true → u < local_count g
  before_within n u is = by (nat_lt n.number (length g.nodes)) refl
    where
      by : (b : Bool) → nat_lt n.number (length g.nodes) ≡ b → u < local_count g
      by true below =
          let less : n.number < length g.nodes = grind (arith, nat_tests, below) in
          omega (arith, has_within (set_at found.before n.number) u is, (sets.before.each n less).size)
      by false below =
          let past : length found.before ≤ n.number = (let out : length g.nodes ≤ n.number = grind (arith, nat_tests, below) in omega (arith, sets.before.count)) in
          let none : set_at found.before n.number ≡ [] = get_or_past found.before n.number [] past in
          let is_none : has [] u ≡ true = ap (λ set. has set u) (sym none) ∙ is in
          absurd (cc (is_none))

  pub at_site_within : (site u : ℕ) → at_site found site u ≡ true → u < local_count g
  at_site_within site u is = by (nat_lt site (length found.sites)) refl
    where
      by : (b : Bool) → nat_lt site (length found.sites) ≡ b → u < local_count g
      by true below =
          let less : site < length found.sites = grind (arith, nat_tests, below) in
          omega (arith, has_within (set_at found.sites site) u is, (sets.sites.each record { number = site } less).size)
      by false below =
          let past : length found.sites ≤ site = grind (arith, nat_tests, below) in
          let none : set_at found.sites site ≡ [] = get_or_past found.sites site [] past in
          let is_none : has [] u ≡ true = ap (λ set. has set u) (sym none) ∙ is in
          absurd (cc (is_none))

  -- ---- along the paths

  module _ (closed : SetsAreClosed) (n : NodeId) (node : Node) (is_there : node_of g n ≡ Some node) where
    kept : (l : Local) → is_local g l ≡ true → IsKeptAt g found n node l
    kept l is = closed g found n node l sets is_there is

    pub read_lives : (l : Local) → is_local g l ≡ true → Contains (reads node.kind) l → before found n (local_number g l) ≡ true
    read_lives l is has = (kept l is).read has

    pub stays : (m : NodeId) (u : ℕ) → Contains (successors g node.kind) m → before found m u ≡ true → ¬ Contains (map (local_number g) (writes node.kind)) u →
        before found n u ≡ true
    stays m u leads is fresh =
        let at = numbered g u (before_within m u is) in
        let live : is_before g found m (local_at g u) ≡ true = ap (has (set_at found.before m.number)) at.0 ∙ is in
        let unwritten : ¬ Contains (writes node.kind) (local_at g u) = (λ written. fresh (subst (Contains (map (local_number g) (writes node.kind))) at.0
        (contains_mapped (local_number g) (writes node.kind) (local_at g u) written))) in
        sym (ap (has (set_at found.before n.number)) at.0) ∙ (kept (local_at g u) at.1).unwritten m leads live unwritten

    -- what is live behind a node that waits is live at its site
    pub lives_at_site : (site : SiteId) (m : NodeId) (u : ℕ) → site_of node.kind ≡ Some site → Contains (successors g node.kind) m → before found m u ≡ true →
        at_site found site.number u ≡ true
    lives_at_site site m u waits leads is =
        let at = numbered g u (before_within m u is) in
        let live : is_before g found m (local_at g u) ≡ true = ap (has (set_at found.before m.number)) at.0 ∙ is in
        sym (ap (has (set_at found.sites site.number)) at.0) ∙ (kept (local_at g u) at.1).site site m waits leads live

    -- and what is live at the site is live before the node, if no other one waits there
    pub lives_before_site : WaitOnce g → (site : SiteId) (u : ℕ) → site_of node.kind ≡ Some site → at_site found site.number u ≡ true → before found n u ≡ true
    lives_before_site once site u waits is =
        let at = numbered g u (at_site_within site.number u is) in
        let listed = sets.sites.listed n node site is_there waits in
        let on : IsLiveAt g (local_at g u) site = ((sets.sites.each site listed).exact (local_at g u) at.1).0 (ap (has (set_at found.sites site.number)) at.0 ∙ is) in
        let same : on.node ≡ node = same_node site g.nodes once on.at.number n.number on.node node on.is_there is_there on.waits waits in
        let leads : Contains (successors g node.kind) on.next = subst (λ (x : Node). Contains (successors g x.kind) on.next) same on.leads in
        let live : IsLiveBefore g (local_at g u) n = Onward n on.next node is_there (waits_silently node.kind site (local_at g u) waits) leads on.live in
        let less = slice_get_within g.nodes n.number node is_there in
        sym (ap (has (set_at found.before n.number)) at.0) ∙ ((sets.before.each n less).exact (local_at g u) at.1).1 live
