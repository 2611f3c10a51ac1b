-- The steps of the loop over the nodes that wait at sites, what its sets are in the end, and that the sets are closed.
use Rattle.std.proofs.Common.{◌≡◌, ◌⊎◌, ◌↔◌, ℕ, ◌+◌, ◌<◌, ◌≤◌, inl, inr, Bool, true, false, ◌||◌, List, [], ◌++◌, length, get_or, set, take, replicate, sym, ◌∙◌, ap, subst, arith, Some, None}
use Rattle.std.specs.Prelude.{All, Contains, IsTrue}
use Rattle.std.specs.Option.{ForSome}
use Rattle.std.specs.Ordering.{ord_max, nat_cmp}
use Rattle.std.proofs.lemmas.Bool.{cases_eq, cases_lt, or_cases, or_left, or_right}
use Rattle.std.proofs.lemmas.Bool.Decides.{nat_tests}
use Rattle.std.proofs.lemmas.List.{length-set, get_or-set_same, get_or-set_other}
use Rattle.std.proofs.lemmas.List.Elements.{All-more, All-weaker, Contains-append_right}
use Rattle.std.proofs.lemmas.Option.{same_Some, slice_get-get_or, slice_get_within, get_or_from_slice_get}
use Rattle.cmm_bitset.specs.Sets.{has, union}
use Rattle.cmm_bitset.proofs.Shared.{has-union, length-union}
use Rattle.cmm_graph.specs.declared.number.NodeId.{NodeId}
use Rattle.cmm_graph.specs.declared.number.SiteId.{SiteId}
use Rattle.cmm_graph.specs.declared.operand.Local.{Local}
use Rattle.cmm_graph.specs.declared.node.Node.{Node}
use Rattle.cmm_graph.specs.declared.node.NodeKind.{NodeKind}
use Rattle.cmm_graph.specs.declared.node.NodeKind.TheVariants.{Call, Yield}
use Rattle.cmm_graph.specs.declared.graph.Graph.{Graph}
use Rattle.cmm_graph.specs.Paths.{node_of, successors, if_there, landings}
use Rattle.cmm_graph.specs.Ranges.{is_local}
use Rattle.cmm_graph.specs.Liveness.{IsLiveBefore, Here, Onward}
use Rattle.cmm_live.specs.declared.sites.Ways.{Ways}
use Rattle.cmm_live.specs.Locals.{local_number, local_count}
use Rattle.cmm_live.specs.Sites.{site_of, cut_nodes, IsLiveOn}
use Rattle.cmm_live.specs.Exact.{set_at, has_local, AreBefore, AreOfSites}
use Rattle.cmm_live.specs.Laws.{SetsAreClosed}
use Rattle.cmm_live.specs.inside.Unions.{IsInOne, IsUnionOf, AreSized}
use Rattle.cmm_live.specs.inside.Gathering.{nodes_by, IsOfOne, AreGathered}
use Rattle.cmm_live.proofs.Unions.{none_past}
use Rattle.cmm_live.proofs.Growing.{none_in_empty, sized_empty}

-- a local is live only before nodes that are there
pub live_within : (g : Graph) (l : Local) (n : NodeId) → IsLiveBefore g l n → n.number < length g.nodes
live_within g l _ (Here n node there read) = slice_get_within g.nodes n.number node there
live_within g l _ (Onward n m node there unwritten leads live) = slice_get_within g.nodes n.number node there

-- what is in a set before a node is live there
pub live_of : (g : Graph) (sets : List (List Bool)) (n : NodeId) (l : Local) → AreBefore g sets → IsTrue (is_local g l) →
    has_local g (set_at sets n.number) l ≡ true → IsLiveBefore g l n
live_of g sets n l are in_l member = elim (cases_lt n.number (length g.nodes)) [
  | inl low ↦ ((are.each n low).exact l in_l).0 member
  | inr past ↦ absurd (none_past sets n.number (local_number g l) (omega (arith, are.count)) member)
]

-- and what is live there is in the set
pub member_of : (g : Graph) (sets : List (List Bool)) (n : NodeId) (l : Local) → AreBefore g sets → IsTrue (is_local g l) →
    IsLiveBefore g l n → has_local g (set_at sets n.number) l ≡ true
member_of g sets n l are in_l live = ((are.each n (live_within g l n live)).exact l in_l).1 live

pub sized_of : (g : Graph) (sets : List (List Bool)) → AreBefore g sets → AreSized g sets
sized_of g sets are k low = (are.each (record { number = k }) (omega (arith, are.count))).size

-- ---- how many sites there are

-- the site of a node, where it has one, has a number below a count
abbrev pub IsCounted : ℕ → Node → Type 0
IsCounted count node = ForSome (site_of node.kind) (λ s. s.number < count)

max_bounds : (a b : ℕ) → (a ≤ ord_max nat_cmp a b) × (b ≤ ord_max nat_cmp a b)
max_bounds a b = (grind (arith, nat_tests), grind (arith, nat_tests))

counted_more : (nodes : List Node) (i count next : ℕ) (node : Node) → i < length nodes → node ≡ get_or nodes i node → count ≤ next →
    IsCounted next node → All (IsCounted count) (take i nodes) → All (IsCounted next) (take (i + 1) nodes)
counted_more nodes i count next node low is bound here so_far =
    All-more (IsCounted next) nodes i node low
    (All-weaker (IsCounted count) (IsCounted next) (λ n h s e. omega (arith, h s e, bound)) (take i nodes) so_far)
    (subst (IsCounted next) is here)

pub counted_site : (nodes : List Node) (i count next : ℕ) (node : Node) (site : SiteId) → i < length nodes → node ≡ get_or nodes i node →
    site_of node.kind ≡ Some site → next ≡ ord_max nat_cmp count (site.number + 1) → All (IsCounted count) (take i nodes) →
    All (IsCounted next) (take (i + 1) nodes)
counted_site nodes i count next node site low is waits becomes so_far =
    let bounds = max_bounds count (site.number + 1) in
    counted_more nodes i count next node low is (omega (arith, bounds.0, becomes))
    (λ s e. omega (arith, bounds.1, becomes, ap (λ (t : SiteId). t.number) (same_Some s site (sym e ∙ waits)))) so_far

pub counted_none : (nodes : List Node) (i count : ℕ) (node : Node) → i < length nodes → node ≡ get_or nodes i node → site_of node.kind ≡ None →
    All (IsCounted count) (take i nodes) → All (IsCounted count) (take (i + 1) nodes)
counted_none nodes i count node low is waits so_far =
    counted_more nodes i count count node low is (omega arith) (λ s e. let clash = sym waits ∙ e in cc) so_far

module _ (g : Graph) (before : List (List Bool)) (by : Ways) where
  pub gathered_none : (count : ℕ) (sets : List (List Bool)) → sets ≡ replicate count (replicate (local_count g) false) → AreGathered g before by 0 sets
  gathered_none count sets are = let P : List (List Bool) → Type 0 = λ s. AreGathered g before by 0 s in subst P (sym are) (record {
    sized = sized_empty g count;
    exact = λ s number low. (
      (λ member. absurd (none_in_empty count (local_count g) s number member)),
      (λ one. absurd (omega (arith, one.within))),
    );
  })

  -- the nodes before a place are among those before the next
  later : (i s number : ℕ) → IsOfOne g before by i s number → IsOfOne g before by (i + 1) s number
  later i s number one = record {
    at = one.at;
    within = omega (arith, one.within);
    node = one.node;
    is_there = one.is_there;
    waits = one.waits;
    member = one.member;
  }

  -- a node of the first ones is among those before it, or is the last
  last_or_before : (i s number : ℕ) (node : Node) → i < length g.nodes → node ≡ get_or g.nodes i node → IsOfOne g before by (i + 1) s number →
      IsOfOne g before by i s number ⊎ (site_of node.kind ≡ Some (record { number = s })) × IsInOne before (nodes_by by g node.kind) number
  last_or_before i s number node low is one = elim (cases_eq one.at i) [
    | inl here ↦
        let same : one.node ≡ node = same_Some one.node node (sym one.is_there ∙ ap (λ k. node_of g (record { number = k })) here
        ∙ slice_get-get_or g.nodes i node low ∙ ap Some (sym is)) in
        inr (
          ap (λ (k : Node). site_of k.kind) (sym same) ∙ one.waits,
          subst (λ (k : Node). IsInOne before (nodes_by by g k.kind) number) same one.member,
        )
    | inr other ↦ inl (record {
      at = one.at;
      within = omega (arith, one.within, other);
      node = one.node;
      is_there = one.is_there;
      waits = one.waits;
      member = one.member;
    })
  ]

  this_one : (i s number : ℕ) (node : Node) → i < length g.nodes → node ≡ get_or g.nodes i node → site_of node.kind ≡ Some (record { number = s }) →
      IsInOne before (nodes_by by g node.kind) number → IsOfOne g before by (i + 1) s number
  this_one i s number node low is waits member = record {
    at = i;
    within = omega arith;
    node = node;
    is_there = slice_get-get_or g.nodes i node low ∙ ap Some (sym is);
    waits = waits;
    member = member;
  }

  pub gathered_skip : (sets : List (List Bool)) (i : ℕ) (node : Node) → i < length g.nodes → node ≡ get_or g.nodes i node → site_of node.kind ≡ None →
      AreGathered g before by i sets → AreGathered g before by (i + 1) sets
  gathered_skip sets i node low is no_site so_far = record {
    sized = so_far.sized;
    exact = λ s number in_s. (
      (λ member. later i s number ((so_far.exact s number in_s).0 member)),
      (λ one. elim (last_or_before i s number node low is one) [
        | inl earlier ↦ (so_far.exact s number in_s).1 earlier
        | inr here ↦ let clash = sym no_site ∙ here.0 in cc
      ]),
    );
  }

  pub gathered_more : (sets : List (List Bool)) (i : ℕ) (node : Node) (site : SiteId) (live : List Bool) → i < length g.nodes →
      node ≡ get_or g.nodes i node → site_of node.kind ≡ Some site → site.number < length sets → IsUnionOf g before (nodes_by by g node.kind) live →
      AreGathered g before by i sets → AreGathered g before by (i + 1) (set sets site.number (union (set_at sets site.number) live))
  gathered_more sets i node site live low is waits in_site union_is so_far = record {
    sized = λ k in_k. elim (cases_eq k site.number) [
      | inl here ↦ ap (λ j. length (set_at new j)) here ∙ ap length there ∙ length-union (set_at sets site.number) live sizes
          ∙ so_far.sized site.number in_site
      | inr other ↦ ap length (get_or-set_other sets site.number k joined [] other)
          ∙ so_far.sized k (omega (arith, length-set sets site.number joined))
    ];
    exact = λ s number in_s. elim (cases_eq s site.number) [
      | inl here ↦ subst (λ k. (has (set_at new k) number ≡ true) ↔ IsOfOne g before by (i + 1) k number) (sym here) (at_site number)
      | inr other ↦ (
        (λ member. later i s number ((so_far.exact s number (omega (arith, length-set sets site.number joined))).0
            (ap (λ t. has t number) (sym (get_or-set_other sets site.number s joined [] other)) ∙ member))),
        (λ one. elim (last_or_before i s number node low is one) [
          | inl earlier ↦ ap (λ t. has t number) (get_or-set_other sets site.number s joined [] other)
              ∙ (so_far.exact s number (omega (arith, length-set sets site.number joined))).1 earlier
          | inr here ↦ absurd (other (ap (λ (t : SiteId). t.number) (same_Some (record { number = s }) site (sym here.0 ∙ waits))))
        ]),
      )
    ];
  }
    where
      joined : List Bool
      joined = union (set_at sets site.number) live

      new : List (List Bool)
      new = set sets site.number joined

      sizes : length (set_at sets site.number) ≡ length live
      sizes = so_far.sized site.number in_site ∙ sym union_is.size

      there : set_at new site.number ≡ joined
      there = get_or-set_same sets site.number joined [] in_site

      either : (number : ℕ) → has (set_at new site.number) number ≡ (has (set_at sets site.number) number || has live number)
      either number = ap (λ t. has t number) there ∙ has-union (set_at sets site.number) live number sizes

      at_site : (number : ℕ) → (has (set_at new site.number) number ≡ true) ↔ IsOfOne g before by (i + 1) site.number number
      at_site number = (
        (λ member. elim (or_cases (has (set_at sets site.number) number) (has live number) (sym (either number) ∙ member)) [
          | inl earlier ↦ later i site.number number ((so_far.exact site.number number in_site).0 earlier)
          | inr now ↦ this_one i site.number number node low is waits ((union_is.exact number).0 now)
        ]),
        (λ one. elim (last_or_before i site.number number node low is one) [
          | inl earlier ↦ either number ∙ or_left (has (set_at sets site.number) number) (has live number) ((so_far.exact site.number number in_site).1 earlier)
          | inr now ↦ either number ∙ or_right (has (set_at sets site.number) number) (has live number) ((union_is.exact number).1 now.1)
        ]),
      )

  -- the sets of all sites, where those before nodes are exact
  pub of_sites : (sets : List (List Bool)) → AreBefore g before → All (λ (node : Node). ForSome (site_of node.kind) (λ s. s.number < length sets)) g.nodes →
      AreGathered g before by (length g.nodes) sets → AreOfSites g (λ l s. IsLiveOn g (nodes_by by) l s) sets
  of_sites sets are within gathered = record {
    listed = λ n node s there waits.
        let found : get_or g.nodes n.number node ≡ node = get_or_from_slice_get g.nodes n.number node node there in
        let bound : ForSome (site_of node.kind) (λ s. s.number < length sets) =
        subst (λ (k : Node). ForSome (site_of k.kind) (λ s. s.number < length sets)) found
        (within n.number node (slice_get_within g.nodes n.number node there)) in
        bound s waits;
    each = λ s low. record {
      size = gathered.sized s.number low;
      exact = λ l in_l. (
        (λ member. let one = (gathered.exact s.number (local_number g l) low).0 member in record {
          at = record { number = one.at };
          node = one.node;
          is_there = one.is_there;
          waits = one.waits;
          next = one.member.node;
          leads = one.member.listed;
          live = live_of g before one.member.node l are in_l one.member.member;
        }),
        (λ on. (gathered.exact s.number (local_number g l) low).1 (record {
          at = on.at.number;
          within = slice_get_within g.nodes on.at.number on.node on.is_there;
          node = on.node;
          is_there = on.is_there;
          waits = on.waits;
          member = record { node = on.next; listed = on.leads; member = member_of g before on.next l are in_l on.live };
        })),
      );
    };
  }

-- ---- the sets are closed

-- cut exits are exits
cuts_lead : (g : Graph) (kind : NodeKind) (m : NodeId) → Contains (cut_nodes g kind) m → Contains (successors g kind) m
cuts_lead g (Call site callee arguments exits) m found =
    Contains-append_right (if_there exits.normal ++ landings g exits.returns ++ landings g exits.unwinds) (landings g exits.cuts) m found
cuts_lead g (Yield site values exits) m found =
    Contains-append_right (if_there exits.normal ++ landings g exits.returns ++ landings g exits.unwinds) (landings g exits.cuts) m found
cuts_lead g _ m found = absurd (omega (arith, found.1))

pub sets_are_closed : SetsAreClosed
sets_are_closed g found n node l are there in_l = record {
  read = λ read. member_of g found.before n l are.before in_l (Here n node there read);
  unwritten = λ m leads member unwritten. member_of g found.before n l are.before in_l
      (Onward n m node there unwritten leads (live_of g found.before m l are.before in_l member));
  site = λ s m waits leads member. ((are.sites.each s (are.sites.listed n node s there waits)).exact l in_l).1 (record {
    at = n;
    node = node;
    is_there = there;
    waits = waits;
    next = m;
    leads = leads;
    live = live_of g found.before m l are.before in_l member;
  });
  cut = λ s m waits leads member. ((are.cuts.each s (are.cuts.listed n node s there waits)).exact l in_l).1 (record {
    at = n;
    node = node;
    is_there = there;
    waits = waits;
    next = m;
    leads = leads;
    live = live_of g found.before m l are.before in_l member;
  });
  cut_is_site = λ s waits member.
      let on = ((are.cuts.each s (are.cuts.listed n node s there waits)).exact l in_l).0 member in
      ((are.sites.each s (are.sites.listed n node s there waits)).exact l in_l).1 (record {
        at = on.at;
        node = on.node;
        is_there = on.is_there;
        waits = on.waits;
        next = on.next;
        leads = cuts_lead g on.node.kind on.next on.leads;
        live = on.live;
      });
}
