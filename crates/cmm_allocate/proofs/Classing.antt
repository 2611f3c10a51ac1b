-- Unions and complements of sets, step by step, and the classes that they give.
use Rattle.std.proofs.Math.Bool.{or_assoc}
use Rattle.std.proofs.Common.{◌≡◌, ◌≢◌, ℕ, ◌+◌, ◌<◌, ◌≤◌, nat_lt, Bool, true, false, ◌&&◌, ◌||◌, not, List, [], get_or, length, set, take, refl, ap, sym, ◌∙◌, subst, arith}
use Rattle.std.proofs.lemmas.Bool.Decides.{nat_tests}
use Rattle.std.proofs.lemmas.List.{get_or_default, get_or_past, length-set}
use Rattle.std.proofs.lemmas.List.Folds.{list_any_more}
use Rattle.cmm_bitset.proofs.Shared.{has-set_other, has-set_same, has-union, length-union}
use Rattle.cmm_bitset.specs.Sets.{has, union}
use Rattle.cmm_graph.specs.declared.graph.Graph.{Graph}
use Rattle.cmm_graph.specs.declared.node.Node.{Node}
use Rattle.cmm_graph.specs.declared.number.NodeId.{NodeId}
use Rattle.cmm_live.specs.declared.live_sets.LiveSets.{LiveSets}
use Rattle.cmm_live.specs.Exact.{AreLiveSets, set_at}
use Rattle.cmm_live.specs.Locals.{local_count}
use Rattle.cmm_allocate.specs.Classes.{is_in_some, is_live_past_cut, leads_past_cut}
use Rattle.cmm_allocate.specs.inside.Classing.{AreClasses, HasTaken, IsClass, IsComplementTo, IsUnionOf, is_before_some, is_past_some}

-- ---- unions

pub union_more : (sets : List (List Bool)) (i size : ℕ) (one all : List Bool) → i < length sets → one ≡ get_or sets i one → length one ≡ size →
    IsUnionOf (take i sets) size all → IsUnionOf (take (i + 1) sets) size (union all one)
union_more sets i size one all low is sized so_far = record {
  size_is = length-union all one (so_far.size_is ∙ sym sized) ∙ so_far.size_is;
  members = λ v. has-union all one v (so_far.size_is ∙ sym sized) ∙ (ap (λ b. b || has one v) (so_far.members v)
      ∙ (ap (λ (s : List Bool). is_in_some (take i sets) v || has s v) is ∙ sym (list_any_more (λ s. has s v) sets i one low)));
}

-- ---- complements

pub complement_in : (count : ℕ) (set others : List Bool) → count < length set → has set count ≡ true → IsComplementTo count set others → IsComplementTo (count + 1) set others
complement_in count s others low member so_far = record {
  size_is = so_far.size_is;
  below = λ v less. at v less (nat_lt v count) refl;
  past = λ v high. so_far.past v (omega (arith, high));
}
  where
    at : (v : ℕ) → v < count + 1 → (b : Bool) → nat_lt v count ≡ b → has others v ≡ not (has s v)
    at v less true before = so_far.below v (grind (arith, nat_tests, before))
    at v less false before =
        (let high : count ≤ v = grind (arith, nat_tests, before) in
        let same : v ≡ count = omega (arith, high, less) in
        so_far.past v high ∙ ap not (sym (ap (has s) same ∙ member)))

pub complement_out : (count : ℕ) (set others : List Bool) → count < length set → has set count ≡ false → IsComplementTo count set others →
    IsComplementTo (count + 1) set (Rattle.std.proofs.Common.set others count true)
complement_out count s others low member so_far = record {
  size_is = length-set others count true ∙ so_far.size_is;
  below = λ v less. at v less (nat_lt v count) refl;
  past = λ v high. (let other : v ≢ count = omega (arith, high) in has-set_other others count v true other ∙ so_far.past v (omega (arith, high)));
}
  where
    at : (v : ℕ) → v < count + 1 → (b : Bool) → nat_lt v count ≡ b → has (Rattle.std.proofs.Common.set others count true) v ≡ not (has s v)
    at v less true before =
        (let low_v : v < count = grind (arith, nat_tests, before) in let other : v ≢ count = omega (arith, low_v) in
        has-set_other others count v true other ∙ so_far.below v low_v)
    at v less false before =
        (let high : count ≤ v = grind (arith, nat_tests, before) in
        let same : v ≡ count = omega (arith, high, less) in
        ap (has (Rattle.std.proofs.Common.set others count true)) same ∙ (has-set_same others count true (omega (arith, low, so_far.size_is)) ∙ ap not (sym (ap (has s) same ∙ member))))

-- ---- what is live before some nodes

pub none_taken : (test : ℕ → Bool) (all : List Bool) → ((v : ℕ) → test v ≡ false) → HasTaken test all all
none_taken test all none = record { size_is = refl; members = λ v. sym (ap (λ b. has all v || b) (none v) ∙ or_false (has all v)) }
  where
    or_false : (b : Bool) → (b || false) ≡ b
    or_false true = refl
    or_false false = refl

pub taken_more : (first second : ℕ → Bool) (old all next : List Bool) → HasTaken first old all → HasTaken second all next → HasTaken (λ v. first v || second v) old next
taken_more first second old all next one two = record {
  size_is = two.size_is ∙ one.size_is;
  members = λ v. two.members v ∙ (ap (λ b. b || second v) (one.members v) ∙ or_assoc (has old v) (first v) (second v));
}

pub taken_as : (first second : ℕ → Bool) (old all : List Bool) → ((v : ℕ) → first v ≡ second v) → HasTaken first old all → HasTaken second old all
taken_as first second old all same taken = record { size_is = taken.size_is; members = λ v. taken.members v ∙ ap (λ b. has old v || b) (same v) }

-- one node more, with a set or without
pub before_more : (before : List (List Bool)) (nodes : List NodeId) (i : ℕ) (n : NodeId) (old all other : List Bool) → i < length nodes → n ≡ get_or nodes i n →
    other ≡ set_at before n.number → length other ≡ length old → HasTaken (is_before_some before (take i nodes)) old all →
    HasTaken (is_before_some before (take (i + 1) nodes)) old (union all other)
before_more before nodes i n old all other low is there sized so_far =
    taken_as (λ v. is_before_some before (take i nodes) v || has other v) (is_before_some before (take (i + 1) nodes)) old (union all other)
    (λ v. ap (λ (s : List Bool). is_before_some before (take i nodes) v || has s v) there
    ∙ (ap (λ (m : NodeId). is_before_some before (take i nodes) v || has (set_at before m.number) v) is ∙ sym (list_any_more (λ m. has (set_at before m.number) v) nodes i n low)))
    (taken_more (is_before_some before (take i nodes)) (has other) old all (union all other) so_far (record {
      size_is = length-union all other (so_far.size_is ∙ sym sized);
      members = λ v. has-union all other v (so_far.size_is ∙ sym sized);
    }))

pub before_skip : (before : List (List Bool)) (nodes : List NodeId) (i : ℕ) (n : NodeId) (old all : List Bool) → i < length nodes → n ≡ get_or nodes i n →
    length before ≤ n.number → HasTaken (is_before_some before (take i nodes)) old all → HasTaken (is_before_some before (take (i + 1) nodes)) old all
before_skip before nodes i n old all low is past so_far =
    taken_as (λ v. is_before_some before (take i nodes) v || false) (is_before_some before (take (i + 1) nodes)) old all
    (λ v. ap (λ b. is_before_some before (take i nodes) v || b) (sym (ap (λ (s : List Bool). has s v) (get_or_past before n.number [] past)))
    ∙ (ap (λ (m : NodeId). is_before_some before (take i nodes) v || has (set_at before m.number) v) is ∙ sym (list_any_more (λ m. has (set_at before m.number) v) nodes i n low)))
    (taken_more (is_before_some before (take i nodes)) (λ v. false) old all all so_far (none_taken (λ v. false) all (λ v. refl)))

pub past_more : (g : Graph) (before : List (List Bool)) (nodes : List Node) (i : ℕ) (node : Node) (old all next : List Bool) → i < length nodes → node ≡ get_or nodes i node →
    HasTaken (leads_past_cut g before node) all next → HasTaken (is_past_some g before (take i nodes)) old all →
    HasTaken (is_past_some g before (take (i + 1) nodes)) old next
past_more g before nodes i node old all next low is one so_far =
    taken_as (λ v. is_past_some g before (take i nodes) v || leads_past_cut g before node v) (is_past_some g before (take (i + 1) nodes)) old next
    (λ v. ap (λ (x : Node). is_past_some g before (take i nodes) v || leads_past_cut g before x v) is
    ∙ sym (list_any_more (λ x. leads_past_cut g before x v) nodes i node low))
    (taken_more (is_past_some g before (take i nodes)) (leads_past_cut g before node) old all next so_far one)

-- ---- the classes

unfit_is : (a b : Bool) → not (b || not a) ≡ (a && not b)
unfit_is true true = refl
unfit_is true false = refl
unfit_is false true = refl
unfit_is false false = refl

-- temporaries are what is in neither set, and callee-saves what is in the one and not in the other
pub classes_are : (g : Graph) (live : LiveSets) (past sites cuts outside temporary kept : List Bool) → IsClass g (is_live_past_cut g live) past →
    IsUnionOf live.sites (local_count g) sites → IsUnionOf live.cuts (local_count g) cuts → IsComplementTo (length sites) sites outside →
    IsComplementTo (length (union past sites)) (union past sites) temporary → IsComplementTo (length (union cuts outside)) (union cuts outside) kept →
    AreClasses g live temporary kept
classes_are g live past sites cuts outside temporary kept is_past are_sites are_cuts is_outside is_temporary is_kept =
    let lost : length (union past sites) ≡ local_count g = length-union past sites (is_past.size ∙ sym are_sites.size_is) ∙ is_past.size in
    let apart : length cuts ≡ length outside = are_cuts.size_is ∙ (sym are_sites.size_is ∙ sym is_outside.size_is) in
    let unfit : length (union cuts outside) ≡ local_count g = length-union cuts outside apart ∙ are_cuts.size_is in
    record {
      temporary = record {
        size = is_temporary.size_is ∙ lost;
        exact = λ v low. is_temporary.below v (subst (λ n. v < n) (sym lost) low)
            ∙ ap not (has-union past sites v (is_past.size ∙ sym are_sites.size_is) ∙ (ap (λ b. b || has sites v) (is_past.exact v low)
            ∙ ap (λ b. is_live_past_cut g live v || b) (are_sites.members v)));
      };
      callee_saves = record {
        size = is_kept.size_is ∙ unfit;
        exact = λ v low. is_kept.below v (subst (λ n. v < n) (sym unfit) low)
            ∙ (ap not (has-union cuts outside v apart ∙ (ap (λ b. b || has outside v) (are_cuts.members v)
            ∙ ap (λ b. is_in_some live.cuts v || b) (is_outside.below v (subst (λ n. v < n) (sym are_sites.size_is) low) ∙ ap not (are_sites.members v))))
            ∙ unfit_is (is_in_some live.sites v) (is_in_some live.cuts v));
      };
    }

-- ---- the sets of a graph are of the size of its locals

pub sized_before : (g : Graph) (live : LiveSets) → AreLiveSets g live → (k : ℕ) (d : List Bool) → k < length live.before → length (get_or live.before k d) ≡ local_count g
sized_before g live sets k d low =
    ap (λ (s : List Bool). length s) (get_or_default live.before k d [] low) ∙ (sets.before.each record { number = k } (subst (λ n. k < n) sets.before.count low)).size

pub sized_sites : (g : Graph) (live : LiveSets) → AreLiveSets g live → (k : ℕ) (d : List Bool) → k < length live.sites → length (get_or live.sites k d) ≡ local_count g
sized_sites g live sets k d low = ap (λ (s : List Bool). length s) (get_or_default live.sites k d [] low) ∙ (sets.sites.each record { number = k } low).size

pub sized_cuts : (g : Graph) (live : LiveSets) → AreLiveSets g live → (k : ℕ) (d : List Bool) → k < length live.cuts → length (get_or live.cuts k d) ≡ local_count g
sized_cuts g live sets k d low = ap (λ (s : List Bool). length s) (get_or_default live.cuts k d [] low) ∙ (sets.cuts.each record { number = k } low).size
