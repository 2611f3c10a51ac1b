-- The premises on the nodes of the program with exits of each kind, by tests that compute.
use Rattle.std.proofs.Common.{◌≡◌, ◌≢◌, ◌⊎◌, inl, inr, ℕ, zero, suc, ◌==◌, ◌&&◌, ◌||◌, not, nat_lt, Bool, true, false, Contains, List, [], ◌∷◌, map, slice_get, slice_index_or, length, ◌<◌, Option, Some, None, arith, refl, sym, subst, ⊎_elim}
use Rattle.std.proofs.lemmas.Bool.{and_parts, or_cases}
use Rattle.std.proofs.lemmas.Bool.Decides.{nat_tests}
use Rattle.cmm_program.specs.Liveness.{is_among}
use Rattle.cmm_graph.specs.declared.number.NodeId.{NodeId}
use Rattle.cmm_graph.specs.declared.number.SiteId.{SiteId}
use Rattle.cmm_graph.specs.declared.operand.Local.{Local}
use Rattle.cmm_graph.specs.declared.node.NodeKind.{NodeKind}
use Rattle.cmm_graph.specs.declared.node.NodeKind.TheVariants.{Stop}
use Rattle.cmm_graph.specs.declared.graph.Graph.{Graph}
use Rattle.cmm_graph.specs.GraphControl.{kind_at}
use Rattle.cmm_graph.specs.Paths.{reads, successors, writes}
use Rattle.cmm_graph.specs.Ranges.{is_local}
use Rattle.cmm_graph.proofs.Shared.{n}
use Rattle.cmm_live.specs.Locals.{local_number}
use Rattle.cmm_live.specs.Sites.{site_of}
use Rattle.cmm_chain.specs.declared.frame.Location.{Location}
use Rattle.cmm_chain.specs.declared.frame.Location.TheVariants.{Slot, Saved, Temp}
use Rattle.cmm_chain.specs.Running.{lasts}
use Rattle.cmm_located.specs.Entering.{IsReady}
use Rattle.cmm_located.specs.SameOrders.{ReadsAreLive}
use Rattle.cmm_located.specs.Steps.{KeepsLive}
use Rattle.cmm_located.proofs.ExitSample.{main-graph, c-graph, d-graph, before, at_site, exit-live, exiting}

-- ---- tests of lists

abbrev pub every : {A : Type 0} → (A → Bool) → List A → Bool
every test [] = true
every test (x ∷ xs) = test x && every test xs

pub every_at : {A : Type 0} (test : A → Bool) (xs : List A) (x : A) → every test xs ≡ true → Contains xs x → test x ≡ true
every_at test xs x all found = at xs found.0 all found.1 found.2
  where
    at : (ys : List _) (k : ℕ) → every test ys ≡ true → k < length ys → slice_index_or ys k x ≡ x → test x ≡ true
    at [] k all_ less is = absurd (omega arith)
    at (y ∷ ys) zero all_ less is = subst (λ z. test z ≡ true) is (and_parts (test y) (every test ys) all_).0
    at (y ∷ ys) (suc k) all_ less is = at ys k (and_parts (test y) (every test ys) all_).1 (omega arith) is

pub same_number : (u m : ℕ) → (u == m) ≡ true → u ≡ m
same_number u m is = grind (arith, nat_tests, is)

pub among : (test : ℕ → Bool) (us : List ℕ) (u : ℕ) → every test us ≡ true → is_among u us ≡ true → test u ≡ true
among test [] u all is = absurd (cc (is))
among test (m ∷ ms) u all is =
    let parts = and_parts (test m) (every test ms) all in
    ⊎_elim (λ same. subst (λ x. test x ≡ true) (sym (same_number u m same)) parts.0) (λ later. among test ms u parts.1 later) (or_cases (u == m) (is_among u ms) is)

contained : (u : ℕ) (us : List ℕ) → is_among u us ≡ true → Contains us u
contained u [] is = absurd (cc (is))
contained u (m ∷ ms) is =
    ⊎_elim (λ same. (zero, omega arith, sym (same_number u m same))) (λ later. (let found = contained u ms later in (suc found.0, omega (arith, found.1), found.2)))
    (or_cases (u == m) (is_among u ms) is)

pub one_of : {A : Type 0} (x l : A) → Contains (x ∷ []) l → x ≡ l
one_of x l found = by found.0 found.1 found.2
  where
    by : (k : ℕ) → k < 1 → slice_index_or (x ∷ []) k l ≡ l → x ≡ l
    by zero less is = is
    by (suc k) less is = absurd (omega arith)

pub none_of : {A : Type 0} (l : A) → ¬ Contains [] l
none_of l found = omega (arith, found.1)

-- ---- places

abbrev pub differ : Location → Location → Bool
differ (Slot a) (Slot b) = not (a == b)
differ (Saved a) (Saved b) = not (a == b)
differ (Temp a) (Temp b) = not (a == b)
differ _ _ = true

differ_not : (a : Location) → differ a a ≡ true → ⊥
differ_not (Slot a) is = grind (arith, nat_tests, is)
differ_not (Saved a) is = grind (arith, nat_tests, is)
differ_not (Temp a) is = grind (arith, nat_tests, is)

pub are_apart : (a b : Location) → differ a b ≡ true → a ≢ b
are_apart a b is same = differ_not b (subst (λ x. differ x b ≡ true) same is)

-- two locals are one, or their places differ
abbrev pub is_apart : ℕ → ℕ → ℕ → Bool
is_apart q u v = (u == v) || differ (exiting.plan.place q v) (exiting.plan.place q u)

pub places_apart : (q u v : ℕ) → is_apart q u v ≡ true → u ≢ v → exiting.plan.place q v ≢ exiting.plan.place q u
places_apart q u v is other = ⊎_elim (λ same. absurd (other (same_number u v same)))
    (λ apart. are_apart (exiting.plan.place q v) (exiting.plan.place q u) apart) (or_cases (u == v) (differ (exiting.plan.place q v) (exiting.plan.place q u)) is)

-- ---- the tests of a node

abbrev numbers : Graph → NodeKind → List ℕ
numbers g kind = map (local_number g) (writes kind)

abbrev reads_one : ℕ → Graph → NodeId → Local → Bool
reads_one q g m l = is_local g l && exit-live q m (local_number g l)

abbrev keeps_one : ℕ → Graph → NodeId → NodeKind → ℕ → Bool
keeps_one q g m kind u = (is_among u (numbers g kind) || exit-live q m u) && every (λ l. is_apart q u (local_number g l)) (writes kind)

abbrev keeps_all : ℕ → Graph → NodeId → NodeKind → NodeId → Bool
keeps_all q g m kind next = every (keeps_one q g m kind) (before q next.number)

abbrev lasts_one : ℕ → NodeId → ℕ → Bool
lasts_one q m u = lasts (exiting.plan.place q u) && exit-live q m u

abbrev is_ready : ℕ → NodeId → Option SiteId → Bool
is_ready q m (Some site) = every (lasts_one q m) (at_site q site.number)
is_ready q m None = true

abbrev is_right : ℕ → Graph → NodeId → NodeKind → Bool
is_right q g m kind =
    every (reads_one q g m) (reads kind) && (every (is_local g) (writes kind) && (every (keeps_all q g m kind) (successors g kind) && is_ready q m (site_of kind)))

pub record NodeIsRight (q : ℕ) (m : NodeId) (kind : NodeKind) : Type 0 where
  pub reads_live : ReadsAreLive exiting exit-live q m kind
  pub keeps_live : KeepsLive exiting exit-live q m kind
  pub ready : IsReady exiting exit-live q m kind

keeps_by : (q : ℕ) (g : Graph) (m : NodeId) (kind : NodeKind) → slice_get exiting.graphs q ≡ Some g → every (is_local g) (writes kind) ≡ true →
    every (keeps_all q g m kind) (successors g kind) ≡ true → KeepsLive exiting exit-live q m kind
keeps_by q g m kind is locals keeps = record {
  written = λ of l is_of found. (let same : g ≡ of = cc (is, is_of) in subst (λ x. is_local x l ≡ true) same (every_at (is_local g) (writes kind) l locals found));
  unwritten = λ of next u is_of leads is_live fresh.
      let same : g ≡ of = cc (is, is_of) in
      let here = one next u (subst (λ x. Contains (successors x kind) next) (sym same) leads) is_live in
      ⊎_elim (λ written. absurd (fresh (subst (λ x. Contains (map (local_number x) (writes kind)) u) same (contained u (numbers g kind) written)))) (λ lives. lives)
      (or_cases (is_among u (numbers g kind)) (exit-live q m u) here.0);
  apart = λ of next u l is_of leads is_live found other.
      let same : g ≡ of = cc (is, is_of) in
      let here = one next u (subst (λ x. Contains (successors x kind) next) (sym same) leads) is_live in
      let test = every_at (λ (x : Local). is_apart q u (local_number g x)) (writes kind) l here.1 found in
      subst (λ (x : Graph). u ≢ local_number x l → exiting.plan.place q (local_number x l) ≢ exiting.plan.place q u) same
      (λ other_. places_apart q u (local_number g l) test other_) other;
}
  where
    one : (next : NodeId) (u : ℕ) → Contains (successors g kind) next → exit-live q next u ≡ true →
        ((is_among u (numbers g kind) || exit-live q m u) ≡ true) × (every (λ (l : Local). is_apart q u (local_number g l)) (writes kind) ≡ true)
    one next u leads is_live = and_parts (is_among u (numbers g kind) || exit-live q m u) (every (λ (l : Local). is_apart q u (local_number g l)) (writes kind))
        (among (keeps_one q g m kind) (before q next.number) u (every_at (keeps_all q g m kind) (successors g kind) next keeps leads) is_live)

right : (q : ℕ) (g : Graph) (m : NodeId) (kind : NodeKind) → slice_get exiting.graphs q ≡ Some g → is_right q g m kind ≡ true → NodeIsRight q m kind
right q g m kind is all =
    let locals = every (is_local g) (writes kind) in
    let keeps = every (keeps_all q g m kind) (successors g kind) in
    let first = and_parts (every (reads_one q g m) (reads kind)) (locals && (keeps && is_ready q m (site_of kind))) all in
    let second = and_parts locals (keeps && is_ready q m (site_of kind)) first.1 in
    let third = and_parts keeps (is_ready q m (site_of kind)) second.1 in
    record {
      reads_live = record {
        of = g;
        is_graph = is;
        reads_live = λ l found. and_parts (is_local g l) (exit-live q m (local_number g l)) (every_at (reads_one q g m) (reads kind) l first.0 found);
      };
      keeps_live = keeps_by q g m kind is second.0 third.0;
      ready = record {
        ready = λ site u waits is_live.
            let test : every (lasts_one q m) (at_site q site.number) ≡ true = subst (λ x. is_ready q m x ≡ true) waits third.1 in
            and_parts (lasts (exiting.plan.place q u)) (exit-live q m u) (among (lasts_one q m) (at_site q site.number) u test is_live);
      };
    }

-- ---- each node

main_right : (m : ℕ) → NodeIsRight 0 (n m) (kind_at exiting.graphs 0 (n m))
main_right zero = right 0 main-graph (n 0) _ refl refl
main_right (suc zero) = right 0 main-graph (n 1) _ refl refl
main_right (suc (suc zero)) = right 0 main-graph (n 2) _ refl refl
main_right (suc (suc (suc zero))) = right 0 main-graph (n 3) _ refl refl
main_right (suc (suc (suc (suc zero)))) = right 0 main-graph (n 4) _ refl refl
main_right (suc (suc (suc (suc (suc zero))))) = right 0 main-graph (n 5) _ refl refl
main_right (suc (suc (suc (suc (suc (suc m)))))) = right 0 main-graph (n (suc (suc (suc (suc (suc (suc m))))))) Stop refl refl

c_right : (m : ℕ) → NodeIsRight 1 (n m) (kind_at exiting.graphs 1 (n m))
c_right zero = right 1 c-graph (n 0) _ refl refl
c_right (suc zero) = right 1 c-graph (n 1) _ refl refl
c_right (suc (suc zero)) = right 1 c-graph (n 2) _ refl refl
c_right (suc (suc (suc zero))) = right 1 c-graph (n 3) _ refl refl
c_right (suc (suc (suc (suc zero)))) = right 1 c-graph (n 4) _ refl refl
c_right (suc (suc (suc (suc (suc zero))))) = right 1 c-graph (n 5) _ refl refl
c_right (suc (suc (suc (suc (suc (suc zero)))))) = right 1 c-graph (n 6) _ refl refl
c_right (suc (suc (suc (suc (suc (suc (suc zero))))))) = right 1 c-graph (n 7) _ refl refl
c_right (suc (suc (suc (suc (suc (suc (suc (suc m)))))))) = right 1 c-graph (n (suc (suc (suc (suc (suc (suc (suc (suc m))))))))) Stop refl refl

d_right : (m : ℕ) → NodeIsRight 2 (n m) (kind_at exiting.graphs 2 (n m))
d_right zero = right 2 d-graph (n 0) _ refl refl
d_right (suc zero) = right 2 d-graph (n 1) _ refl refl
d_right (suc (suc zero)) = right 2 d-graph (n 2) _ refl refl
d_right (suc (suc (suc zero))) = right 2 d-graph (n 3) _ refl refl
d_right (suc (suc (suc (suc zero)))) = right 2 d-graph (n 4) _ refl refl
d_right (suc (suc (suc (suc (suc zero))))) = right 2 d-graph (n 5) _ refl refl
d_right (suc (suc (suc (suc (suc (suc zero)))))) = right 2 d-graph (n 6) _ refl refl
d_right (suc (suc (suc (suc (suc (suc (suc m))))))) = right 2 d-graph (n (suc (suc (suc (suc (suc (suc (suc m)))))))) Stop refl refl

-- where the program has no procedure
pub past : (q : ℕ) → nat_lt (suc (suc (suc q))) 3 ≡ true → ⊥
past q is = let less : suc (suc (suc q)) < 3 = grind (arith, nat_tests, is) in omega arith

pub nodes_right : (q m : ℕ) → exiting.plan.is_procedure q ≡ true → NodeIsRight q (n m) (kind_at exiting.graphs q (n m))
nodes_right zero m is = main_right m
nodes_right (suc zero) m is = c_right m
nodes_right (suc (suc zero)) m is = d_right m
nodes_right (suc (suc (suc q))) m is = absurd (past q is)
