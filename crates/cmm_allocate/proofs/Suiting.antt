-- Places that a colouring gives suit what is live where.
use Rattle.std.proofs.Common.{◌≡◌, ◌≢◌, inl, inr, ℕ, zero, suc, ◌+◌, ◌-◌, ◌%◌, ◌<◌, nat_lt, Bool, true, false, ◌&&◌, ◌||◌, not, Contains, List, [], ◌∷◌, get_or, length, slice_get, Some, refl, ap, sym, ◌∙◌, subst, arith}
use Rattle.std.proofs.lemmas.Bool.{and_from, eq-eqb, or_left, or_right}
use Rattle.std.proofs.lemmas.Bool.Decides.{nat_tests}
use Rattle.std.specs.List.{list_all, list_any}
use Rattle.cmm_abi.specs.Registers.{callee_saves, is_callee_saves, is_temporary}
use Rattle.cmm_bitset.specs.Sets.{has}
use Rattle.cmm_program.proofs.Shared.{list_all_get}
use Rattle.cmm_graph.specs.declared.graph.Graph.{Graph}
use Rattle.cmm_graph.specs.declared.node.Node.{Node}
use Rattle.cmm_graph.specs.declared.node.NodeKind.{NodeKind}
use Rattle.cmm_graph.specs.declared.node.NodeKind.TheVariants as kind
use Rattle.cmm_graph.specs.declared.number.NodeId.{NodeId}
use Rattle.cmm_graph.specs.declared.number.SiteId.{SiteId}
use Rattle.cmm_graph.specs.declared.operand.Local.{Local}
use Rattle.cmm_graph.specs.declared.operand.Local.TheVariants as local
use Rattle.cmm_graph.specs.Paths.{node_of, successors, writes}
use Rattle.cmm_graph.specs.Ranges.{is_local}
use Rattle.cmm_live.proofs.Shared.{live_of}
use Rattle.cmm_live.specs.declared.live_sets.LiveSets.{LiveSets}
use Rattle.cmm_live.specs.Conflicts.{Conflicts}
use Rattle.cmm_live.specs.Exact.{AreLiveSets, has_local, set_at}
use Rattle.cmm_live.specs.Laws.{IsKeptAt, SetsAreClosed, SetsDecideConflicts}
use Rattle.cmm_live.specs.Locals.{local_count, local_number}
use Rattle.cmm_live.specs.Sites.{cut_nodes, site_of}
use Rattle.cmm_chain.specs.declared.frame.Location.{Location}
use Rattle.cmm_chain.specs.declared.frame.Location.TheVariants.{Slot, Saved, Temp}
use Rattle.cmm_chain.specs.Running.{lasts}
use Rattle.cmm_located.specs.Layouts.{is_location}
use Rattle.cmm_allocate.specs.Allocated.{AreAllocated, temporaries}
use Rattle.cmm_allocate.specs.Classes.{is_in_some, is_live_past_cut, local_at, local_by, suits_callee_saves, suits_temporary}
use Rattle.cmm_allocate.specs.Compiling.{no_place}
use Rattle.cmm_allocate.specs.Placed.{ArePlaces, cuts_inside, place_at}
use Rattle.cmm_allocate.proofs.Living.{at_site_within, before_within, number_within, numbered}
use Rattle.cmm_allocate.proofs.Members.{contained_at, none_contained}
use Rattle.cmm_allocate.proofs.SlotOrder.{slot_even}

-- ---- tests of lists

pub any_at : {A : Type 0} (test : A → Bool) (xs : List A) (i : ℕ) (x : A) → slice_get xs i ≡ Some x → test x ≡ true → list_any test xs ≡ true
any_at test [] i x is passes = absurd (cc)
any_at test (y ∷ ys) zero x is passes = let same : y ≡ x = cc in or_left (test y) (list_any test ys) (ap test same ∙ passes)
any_at test (y ∷ ys) (suc i) x is passes = or_right (test y) (list_any test ys) (any_at test ys i x is passes)

any_of : {A : Type 0} (test : A → Bool) (xs : List A) (x : A) → Contains xs x → test x ≡ true → list_any test xs ≡ true
any_of test xs x has passes = let at = contained_at xs x has in any_at test xs at.0 x at.1 passes

all_of : {A : Type 0} (test : A → Bool) (xs : List A) (x : A) → list_all test xs ≡ true → Contains xs x → test x ≡ true
all_of test xs x all has = let at = contained_at xs x has in list_all_get test xs at.0 x all at.1

all_from : {A : Type 0} (test : A → Bool) (xs : List A) (d : A) → ((i : ℕ) → i < length xs → test (get_or xs i d) ≡ true) → list_all test xs ≡ true
all_from test [] d each = refl
all_from test (x ∷ xs) d each = and_from (test x) (list_all test xs) (each 0 (omega arith)) (all_from test xs d (λ i less. each (suc i) (omega (arith, less))))

-- a member is in a set that is there
pub set_there : (sets : List (List Bool)) (k v : ℕ) → has (set_at sets k) v ≡ true → k < length sets
set_there [] k v is = absurd (cc)
set_there (set ∷ sets) zero v is = omega arith
set_there (set ∷ sets) (suc k) v is = let rest = set_there sets k v is in omega (arith, rest)

in_some : (sets : List (List Bool)) (k v : ℕ) → has (set_at sets k) v ≡ true → is_in_some sets v ≡ true
in_some [] k v is = absurd (cc)
in_some (set ∷ sets) zero v is = or_left (has set v) (is_in_some sets v) is
in_some (set ∷ sets) (suc k) v is = or_right (has set v) (is_in_some sets v) (in_some sets k v is)

-- ---- locals by their numbers

pub at_number : (g : Graph) (l : Local) → is_local g l ≡ true → local_at g (local_number g l) ≡ l
at_number g (local.Variable v) is = ap (local_by g v.number) is
at_number g (local.Temporary t) is =
    let past : nat_lt (g.variables + t.number) g.variables ≡ false = grind (arith, nat_tests) in
    let same : g.variables + t.number - g.variables ≡ t.number = omega arith in
    ap (local_by g (g.variables + t.number)) past ∙ ap (λ (n : ℕ). local.Temporary record { number = n }) same

-- ---- the site of a node with cut exits

waits_at : (g : Graph) (k : NodeKind) (m : NodeId) → Contains (cut_nodes g k) m → (s : SiteId) × (site_of k ≡ Some s)
waits_at g (kind.Call site callee arguments exits) m has = (site, refl)
waits_at g (kind.Yield site values exits) m has = (site, refl)
waits_at g other m has = absurd (none_contained m has)

-- places that are given are places that a frame takes
pub allocated_are_locations : (g : Graph) (live : LiveSets) (locals : List Location) → AreAllocated g live locals → list_all is_location locals ≡ true
allocated_are_locations g live locals are = all_from is_location locals no_place (λ v less. at v less (place_at locals v) refl)
  where
    at : (v : ℕ) → v < length locals → (l : Location) → place_at locals v ≡ l → is_location l ≡ true
    at v less (Slot offset) is = eq-eqb (offset % 8) 0 (slot_even locals 0 v offset no_place are.slots less is)
    at v less (Saved r) is = all_of is_callee_saves callee_saves r refl (are.saved v r (subst (λ n. v < n) are.count less) is).0
    at v less (Temp r) is = all_of is_temporary temporaries r refl (are.temporary v r (subst (λ n. v < n) are.count less) is).0

module _ (closed : SetsAreClosed) (decide : SetsDecideConflicts) (g : Graph) (live : LiveSets) (locals : List Location) (sets : AreLiveSets g live)
    (are : AreAllocated g live locals) where
  -- ---- registers

  -- no temporary register is lost
  not_temporary : (v : ℕ) → v < local_count g → suits_temporary g live v ≡ false → (l : Location) → place_at locals v ≡ l → lasts l ≡ true
  not_temporary v low none (Slot offset) is = refl
  not_temporary v low none (Saved r) is = all_of is_callee_saves callee_saves r refl (are.saved v r low is).0
  not_temporary v low none (Temp r) is = let suits : suits_temporary g live v ≡ true = (are.temporary v r low is).1 in absurd (cc (none, suits))

  at_some_site : (v : ℕ) → is_in_some live.sites v ≡ true → suits_temporary g live v ≡ false
  at_some_site v is = ap not (or_right (is_live_past_cut g live v) (is_in_some live.sites v) is)

  past_some_cut : (v : ℕ) → is_live_past_cut g live v ≡ true → suits_temporary g live v ≡ false
  past_some_cut v is = ap not (or_left (is_live_past_cut g live v) (is_in_some live.sites v) is)

  on_some_cut : (v : ℕ) → is_in_some live.cuts v ≡ true → suits_callee_saves live v ≡ false
  on_some_cut v is = refused (is_in_some live.sites v) (is_in_some live.cuts v) is
    where
      refused : (a b : Bool) → b ≡ true → (a && not b) ≡ false
      refused a false is = absurd (cc)
      refused true true is = refl
      refused false true is = refl

  -- who suits registers of neither kind has none
  refused : (a b : Bool) → a ≡ false → b ≡ false → (a || b) ≡ true → ⊥
  refused true b is other either = cc (is)
  refused false true is other either = cc (other)
  refused false false is other either = cc (either)

  in_slot : (v : ℕ) → v < local_count g → suits_temporary g live v ≡ false → suits_callee_saves live v ≡ false → (l : Location) → place_at locals v ≡ l →
      (offset : ℕ) × (place_at locals v ≡ Slot offset)
  in_slot v low none other (Slot offset) is = (offset, is)
  in_slot v low none other (Saved r) is = absurd (refused (suits_callee_saves live v) (suits_temporary g live v) other none (are.saved v r low is).1)
  in_slot v low none other (Temp r) is = let suits : suits_temporary g live v ≡ true = (are.temporary v r low is).1 in absurd (cc (none, suits))

  -- ---- conflicts

  conflicting : (v w : ℕ) (v_low : v < local_count g) (w_low : w < local_count g) → Conflicts g (local_at g v) (local_at g w) → place_at locals v ≢ place_at locals w
  conflicting v w v_low w_low is =
      are.apart v w v_low w_low ((decide g live (local_at g v) (local_at g w) sets (numbered g v v_low).1 (numbered g w w_low).1).1 is)

  written : (n : NodeId) (node : Node) (m : NodeId) (l : Local) (u : ℕ) → node_of g n ≡ Some node → Contains (successors g node.kind) m → Contains (writes node.kind) l →
      is_local g l ≡ true → has (set_at live.before m.number) u ≡ true → u ≢ local_number g l → place_at locals (local_number g l) ≢ place_at locals u
  written n node m l u there leads wrote is_there is other =
      let low : u < local_count g = before_within g live sets m u is in
      let of_u = numbered g u low in
      let same : l ≡ local_at g (local_number g l) = sym (at_number g l is_there) in
      conflicting (local_number g l) u (number_within g l is_there) low (subst (λ (x : Local). Conflicts g x (local_at g u)) same (record {
        different = λ e. other (sym (ap (local_number g) e ∙ of_u.0));
        cause = inr (inr (inr (record {
          at = n;
          node = node;
          is_there = there;
          written = wrote;
          live = record { next = m; leads = leads; live = live_of g live.before m (local_at g u) sets.before of_u.1 (ap (has (set_at live.before m.number)) of_u.0 ∙ is) };
        })));
      }))

  at_one_site : (site v u : ℕ) → has (set_at live.sites site) v ≡ true → has (set_at live.sites site) u ≡ true → u ≢ v → place_at locals v ≢ place_at locals u
  at_one_site site v u is_v is_u other =
      let v_low : v < local_count g = at_site_within g live sets site v is_v in
      let u_low : u < local_count g = at_site_within g live sets site u is_u in
      let of_v = numbered g v v_low in
      let of_u = numbered g u u_low in
      let each = sets.sites.each record { number = site } (set_there live.sites site v is_v) in
      conflicting v u v_low u_low (record {
        different = λ e. other (sym of_u.0 ∙ (sym (ap (local_number g) e) ∙ of_v.0));
        cause = inl (record {
          site = record { number = site };
          first = (each.exact (local_at g v) of_v.1).0 (ap (has (set_at live.sites site)) of_v.0 ∙ is_v);
          second = (each.exact (local_at g u) of_u.1).0 (ap (has (set_at live.sites site)) of_u.0 ∙ is_u);
        });
      })

  -- ---- cuts

  on_cut : (n : NodeId) (node : Node) (m : NodeId) (u : ℕ) → node_of g n ≡ Some node → Contains (cut_nodes g node.kind) m → has (set_at live.before m.number) u ≡ true →
      (offset : ℕ) × (place_at locals u ≡ Slot offset)
  on_cut n node m u there leads is =
      let low : u < local_count g = before_within g live sets m u is in
      let of_u = numbered g u low in
      let waits = waits_at g node.kind m leads in
      let kept : IsKeptAt g live n node (local_at g u) = closed g live n node (local_at g u) sets there of_u.1 in
      let cut : has_local g (set_at live.cuts (waits.0).number) (local_at g u) ≡ true =
      kept.cut waits.0 m waits.1 leads (ap (has (set_at live.before m.number)) of_u.0 ∙ is) in
      let site : has_local g (set_at live.sites (waits.0).number) (local_at g u) ≡ true = kept.cut_is_site waits.0 waits.1 cut in
      in_slot u low (at_some_site u (in_some live.sites (waits.0).number u (sym (ap (has (set_at live.sites (waits.0).number)) of_u.0) ∙ site)))
      (on_some_cut u (in_some live.cuts (waits.0).number u (sym (ap (has (set_at live.cuts (waits.0).number)) of_u.0) ∙ cut))) (place_at locals u) refl

  past_cut : (n : NodeId) (node : Node) (m : NodeId) (u : ℕ) → node_of g n ≡ Some node → cuts_inside node.kind ≡ true → Contains (successors g node.kind) m →
      has (set_at live.before m.number) u ≡ true → is_live_past_cut g live u ≡ true
  past_cut n node m u there cuts leads is =
      any_at (λ (x : Node). cuts_inside x.kind && list_any (λ (k : NodeId). has (set_at live.before k.number) u) (successors g x.kind)) g.nodes n.number node there
      (and_from (cuts_inside node.kind) (list_any (λ (k : NodeId). has (set_at live.before k.number) u) (successors g node.kind)) cuts
      (any_of (λ (k : NodeId). has (set_at live.before k.number) u) (successors g node.kind) m leads is))

  pub allocated_suit : ArePlaces g live locals
  allocated_suit = record {
    count = are.count;
    written = written;
    at_site = at_one_site;
    lasting = λ site v is. not_temporary v (at_site_within g live sets site v is) (at_some_site v (in_some live.sites site v is)) (place_at locals v) refl;
    cut = on_cut;
    inside = λ n node m u there cuts leads is.
        not_temporary u (before_within g live sets m u is) (past_some_cut u (past_cut n node m u there cuts leads is)) (place_at locals u) refl;
  }
