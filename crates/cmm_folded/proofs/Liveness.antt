-- The same locals are live in a graph and in one that stands for it.
use Rattle.std.proofs.Common.{◌≡◌, ◌↔◌, ◌+◌, ℕ, refl, sym, ◌∙◌, ap, subst, arith, Bool, true, List, length}
use Rattle.std.proofs.lemmas.Slice.Zip.{AllZip-long}
use Rattle.std.specs.Prelude.{nat_lt, Contains, IsTrue, Some}
use Rattle.cmm_bitset.specs.Sets.{has}
use Rattle.cmm_program.specs.declared.procedure.Proc.{Proc}
use Rattle.cmm_graph.specs.declared.graph.Graph.{Graph}
use Rattle.cmm_graph.specs.declared.node.Node.{Node}
use Rattle.cmm_graph.specs.declared.node.NodeKind.{NodeKind}
use Rattle.cmm_graph.specs.declared.node.NodeKind.TheVariants.{Entry, CopyIn, Assign, Store, Branch, Switch, Call, Yield, Jump, Cut, Return, Host, Goto, Stop}
use Rattle.cmm_graph.specs.declared.number.ContinuationId.{ContinuationId}
use Rattle.cmm_graph.specs.declared.number.NodeId.{NodeId}
use Rattle.cmm_graph.specs.declared.number.SiteId.{SiteId}
use Rattle.cmm_graph.specs.declared.operand.Local.{Local}
use Rattle.cmm_graph.specs.declared.operand.Local.TheVariants as local
use Rattle.cmm_graph.specs.Liveness.{IsLiveBefore, Here, Onward}
use Rattle.cmm_graph.specs.Paths.{landings, node_of, reads, successors, writes}
use Rattle.cmm_graph.specs.Ranges.{is_local}
use Rattle.cmm_fold.specs.Graphs.{GraphStandsFor, NodeStandsFor}
use Rattle.cmm_live.specs.declared.live_sets.LiveSets.{LiveSets}
use Rattle.cmm_live.specs.Exact.{AreBefore, AreLiveSets, AreOfSites, IsSetOf, has_local, set_at}
use Rattle.cmm_live.specs.Locals.{local_count, local_number}
use Rattle.cmm_live.specs.Sites.{IsLiveAt, IsLiveOnCut, cut_nodes, site_of}
use Rattle.cmm_flow.specs.Liveness.{IsKeptAtSite, site_id, variable}
use Rattle.cmm_folded.specs.Laws.{FoldedGraphsKeepLiveness}
use Rattle.cmm_folded.proofs.Nodes.{kind_same, new_node, old_node, reads_same}

-- ---- paths of two graphs

-- a node of one graph has one of the other in its place, with the same reads, writes and ways on
record IsSameAt (g h : Graph) (n : NodeId) (node : Node) : Type 0 where
  other : Node
  is_there : node_of h n ≡ Some other
  read : reads other.kind ≡ reads node.kind
  written : writes other.kind ≡ writes node.kind
  leads : successors h other.kind ≡ successors g node.kind
  cuts : cut_nodes h other.kind ≡ cut_nodes g node.kind
  site : site_of other.kind ≡ site_of node.kind

-- graphs with the same locals and the same paths
record HaveSamePaths (g h : Graph) : Type 0 where
  variables : h.variables ≡ g.variables
  temporaries : h.temporaries ≡ g.temporaries
  count : length h.nodes ≡ length g.nodes
  same : (n : NodeId) (node : Node) → node_of g n ≡ Some node → IsSameAt g h n node

-- where a node leads is by the landings of the graph's continuations alone
landings_same : (g h : Graph) → h.continuations ≡ g.continuations → (ks : List ContinuationId) → landings h ks ≡ landings g ks
landings_same g h same ks = ap (λ ns. landings record g { continuations = ns } ks) same

pub successors_same : (g h : Graph) → h.continuations ≡ g.continuations → (kind : NodeKind) → successors h kind ≡ successors g kind
successors_same g h same kind = by kind
  where
    with_continuations : (kind : NodeKind) (k : Graph) → successors k kind ≡ successors record g { continuations = k.continuations } kind
    with_continuations (Entry formals next) k = refl
    with_continuations (CopyIn to next) k = refl
    with_continuations (Assign to value next) k = refl
    with_continuations (Store width aligned address value next) k = refl
    with_continuations (Branch test then_ otherwise) k = refl
    with_continuations (Switch value arms otherwise) k = refl
    with_continuations (Call site callee arguments exits) k = refl
    with_continuations (Yield site values exits) k = refl
    with_continuations (Jump callee arguments) k = refl
    with_continuations (Cut to arguments own) k = refl
    with_continuations (Return exit alternates results) k = refl
    with_continuations (Host call next) k = refl
    with_continuations (Goto next) k = refl
    with_continuations Stop k = refl

    by : (kind : NodeKind) → successors h kind ≡ successors g kind
    by kind = with_continuations kind h ∙ (ap (λ ns. successors record g { continuations = ns } kind) same ∙ sym (with_continuations kind g))

pub cut_nodes_same : (g h : Graph) → h.continuations ≡ g.continuations → (kind : NodeKind) → cut_nodes h kind ≡ cut_nodes g kind
cut_nodes_same g h same (Call site callee arguments exits) = landings_same g h same exits.cuts
cut_nodes_same g h same (Yield site values exits) = landings_same g h same exits.cuts
cut_nodes_same g h same kind = refl

module _ (old new : Graph) (stands : GraphStandsFor old new) where
  same_node : (n : NodeId) (a b : Node) → NodeStandsFor a b → node_of old n ≡ Some a → node_of new n ≡ Some b → IsSameAt old new n a × IsSameAt new old n b
  same_node n a b node is_old is_new =
      let read = reads_same a.kind b.kind node.kind in
      let written = kind_same writes (λ to value folded next. refl) a.kind b.kind node.kind in
      let leads = successors_same old new stands.continuations b.kind ∙ kind_same (successors old) (λ to value folded next. refl) a.kind b.kind node.kind in
      let cuts = cut_nodes_same old new stands.continuations b.kind ∙ kind_same (cut_nodes old) (λ to value folded next. refl) a.kind b.kind node.kind in
      let site = kind_same site_of (λ to value folded next. refl) a.kind b.kind node.kind in (
        record { other = b; is_there = is_new; read = read; written = written; leads = leads; cuts = cuts; site = site },
        record { other = a; is_there = is_old; read = sym read; written = sym written; leads = sym leads; cuts = sym cuts; site = sym site },
      )

  count_same : length new.nodes ≡ length old.nodes
  count_same = AllZip-long NodeStandsFor old.nodes new.nodes stands.nodes

  paths_after : HaveSamePaths old new
  paths_after = record {
    variables = stands.variables;
    temporaries = stands.temporaries;
    count = count_same;
    same = λ n node is. (let b = new_node old new stands n node is in (same_node n node b.other b.stands is b.is_there).0);
  }

  paths_before : HaveSamePaths new old
  paths_before = record {
    variables = sym stands.variables;
    temporaries = sym stands.temporaries;
    count = sym count_same;
    same = λ n node is. (let a = old_node old new stands n node is in (same_node n a.other node a.stands a.is_there is).1);
  }

-- ---- what is live

still_live : (g h : Graph) → HaveSamePaths g h → (l : Local) (n : NodeId) → IsLiveBefore g l n → IsLiveBefore h l n
still_live g h paths l _ (Here n node is read) = let o = paths.same n node is in Here n o.other o.is_there (subst (λ ls. Contains ls l) (sym o.read) read)
still_live g h paths l _ (Onward n m node is fresh leads live) =
    let o = paths.same n node is in
    Onward n m o.other o.is_there (λ w. fresh (subst (λ ls. Contains ls l) o.written w)) (subst (λ ns. Contains ns m) (sym o.leads) leads) (still_live g h paths l m live)

still_at : (g h : Graph) → HaveSamePaths g h → (l : Local) (s : SiteId) → IsLiveAt g l s → IsLiveAt h l s
still_at g h paths l s live =
    let o = paths.same live.at live.node live.is_there in
    record {
      at = live.at;
      node = o.other;
      is_there = o.is_there;
      waits = o.site ∙ live.waits;
      next = live.next;
      leads = subst (λ ns. Contains ns live.next) (sym o.leads) live.leads;
      live = still_live g h paths l live.next live.live;
    }

still_on_cut : (g h : Graph) → HaveSamePaths g h → (l : Local) (s : SiteId) → IsLiveOnCut g l s → IsLiveOnCut h l s
still_on_cut g h paths l s live =
    let o = paths.same live.at live.node live.is_there in
    record {
      at = live.at;
      node = o.other;
      is_there = o.is_there;
      waits = o.site ∙ live.waits;
      next = live.next;
      leads = subst (λ ns. Contains ns live.next) (sym o.cuts) live.leads;
      live = still_live g h paths l live.next live.live;
    }

-- what is live at a site of a procedure by the paths of a graph is so by those of one that stands for it
pub kept_after : (old new : Graph) → GraphStandsFor old new → (q : Proc) (site v : ℕ) → IsKeptAtSite q old site v → IsKeptAtSite q new site v
kept_after old new stands q site v kept =
    let after = paths_after old new stands in
    let before = paths_before old new stands in
    record {
      live = (
        λ live. still_at old new after (variable v) (site_id site) (kept.live.0 live),
        λ live. kept.live.1 (still_at new old before (variable v) (site_id site) live),
      );
      live_on_cut = (
        λ live. still_on_cut old new after (variable v) (site_id site) (kept.live_on_cut.0 live),
        λ live. kept.live_on_cut.1 (still_on_cut new old before (variable v) (site_id site) live),
      );
    }

-- ---- the sets

number_same : (g h : Graph) → h.variables ≡ g.variables → (l : Local) → local_number h l ≡ local_number g l
number_same g h same (local.Variable v) = refl
number_same g h same (local.Temporary t) = ap (λ k. k + t.number) same

is_local_same : (g h : Graph) → HaveSamePaths g h → (l : Local) → is_local h l ≡ is_local g l
is_local_same g h paths (local.Variable v) = ap (λ k. nat_lt v.number k) paths.variables
is_local_same g h paths (local.Temporary t) = ap (λ k. nat_lt t.number k) paths.temporaries

module _ (g h : Graph) (there : HaveSamePaths g h) (back : HaveSamePaths h g) where
  set_same : (P Q : Local → Type 0) (set : List Bool) → ((l : Local) → P l → Q l) → ((l : Local) → Q l → P l) → IsSetOf g P set → IsSetOf h Q set
  set_same P Q set to from is = record { size = size; exact = exact }
    where
      size : length set ≡ local_count h
      size = omega (arith, is.size, there.variables, there.temporaries)

      exact : (l : Local) → IsTrue (is_local h l) → (has_local h set l ≡ true) ↔ Q l
      exact l local =
          let of = is.exact l (sym (is_local_same g h there l) ∙ local) in
          let number = ap (λ u. has set u) (number_same g h there.variables l) in
          (λ member. to l (of.0 (sym number ∙ member)), λ q. number ∙ of.1 (from l q))

  sets_before : (sets : List (List Bool)) → AreBefore g sets → AreBefore h sets
  sets_before sets are = record {
    count = are.count ∙ sym there.count;
    each = λ n less. set_same (λ l. IsLiveBefore g l n) (λ l. IsLiveBefore h l n) (set_at sets n.number) (λ l live. still_live g h there l n live)
        (λ l live. still_live h g back l n live) (are.each n (omega (arith, there.count, less)));
  }

  sets_of_sites : (P Q : Local → SiteId → Type 0) → ((l : Local) (s : SiteId) → P l s → Q l s) → ((l : Local) (s : SiteId) → Q l s → P l s) → (sets : List (List Bool)) →
      AreOfSites g P sets → AreOfSites h Q sets
  sets_of_sites P Q to from sets are = record {
    listed = λ n node s is waits. (let o = back.same n node is in are.listed n o.other s o.is_there (o.site ∙ waits));
    each = λ s less. set_same (λ l. P l s) (λ l. Q l s) (set_at sets s.number) (λ l holds. to l s holds) (λ l holds. from l s holds) (are.each s less);
  }

  sets_same : (found : LiveSets) → AreLiveSets g found → AreLiveSets h found
  sets_same found are = record {
    before = sets_before found.before are.before;
    sites = sets_of_sites (IsLiveAt g) (IsLiveAt h) (still_at g h there) (still_at h g back) found.sites are.sites;
    cuts = sets_of_sites (IsLiveOnCut g) (IsLiveOnCut h) (still_on_cut g h there) (still_on_cut h g back) found.cuts are.cuts;
  }

pub folded_graphs_keep_liveness : FoldedGraphsKeepLiveness
folded_graphs_keep_liveness old new found stands = record {
  before = sets_same new old (paths_before old new stands) (paths_after old new stands) found;
  after = sets_same old new (paths_after old new stands) (paths_before old new stands) found;
}
