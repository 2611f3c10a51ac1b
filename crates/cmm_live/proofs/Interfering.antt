-- The sets of locals grow: by what is live after nodes that write, and by sites.
use Rattle.std.proofs.Common.{◌≡◌, ◌⊎◌, inl, inr, ℕ, zero, suc, ◌+◌, ◌<◌, ◌==◌, ◌&&◌, ◌||◌, Bool, true, false, List, [], ◌∷◌, ◌++◌, length, get_or, set, take, replicate, refl, sym, ◌∙◌, ap, subst}
use Rattle.std.proofs.Math.Bool.{or-false}
use Rattle.std.specs.Prelude.{Contains}
use Rattle.std.specs.List.{list_any}
use Rattle.std.proofs.lemmas.Bool.{cases_eq, eq-eqb, eqb-true, ne_eqb}
use Rattle.std.proofs.lemmas.List.{get_or-replicate, get_or-set_other, get_or-set_same, length-replicate, length-set, take_more}
use Rattle.std.proofs.lemmas.List.Folds.{Any-from_list_any, list_any-append, list_any_at}
use Rattle.cmm_bitset.specs.Sets.{has, members, union}
use Rattle.cmm_bitset.proofs.Shared.{has-replicate, has-union, length-union, members_had}
use Rattle.cmm_colour.proofs.Shared.{same_test}
use Rattle.cmm_graph.specs.declared.node.Node.{Node}
use Rattle.cmm_graph.specs.declared.graph.Graph.{Graph}
use Rattle.cmm_graph.specs.Paths.{successors, writes}
use Rattle.cmm_live.specs.Exact.{set_at}
use Rattle.cmm_live.specs.Locals.{local_count}
use Rattle.cmm_live.specs.inside.Interfering.{AreRows, HaveSites, HaveWrites, TakeIn, is_behind, is_number_of, is_one_of, row_has}
use Rattle.cmm_live.specs.inside.Unions.{IsUnionOf}

-- ---- tests of lists

-- a test of a list with one element more
pub any_more : {A : Type 0} (p : A → Bool) (xs : List A) (x : A) → list_any p (xs ++ x ∷ []) ≡ (list_any p xs || p x)
any_more p xs x = list_any-append p xs (x ∷ []) ∙ ap (λ b. list_any p xs || b) (or-false (p x))

-- tests that are the same of each element
pub any_same : {A : Type 0} (p q : A → Bool) → ((x : A) → p x ≡ q x) → (xs : List A) → list_any p xs ≡ list_any q xs
any_same p q same [] = refl
any_same p q same (x ∷ xs) = ap (λ b. b || list_any p xs) (same x) ∙ ap (λ b. q x || b) (any_same p q same xs)

pub contains_one : (numbers : List ℕ) (n : ℕ) → is_one_of numbers n ≡ true → Contains numbers n
contains_one numbers n is =
    let one = Any-from_list_any (λ m. m == n) numbers is in
    subst (λ m. Contains numbers m) (eqb-true one.1 n one.4) (one.0, one.2, one.3)

pub one_contained : (numbers : List ℕ) (n : ℕ) → Contains numbers n → is_one_of numbers n ≡ true
one_contained numbers n found = list_any_at (λ m. m == n) numbers found.0 n found.1 (eq-eqb _ n found.2)

-- the members of a set are what it has
pub one_of_members : (s : List Bool) (n : ℕ) → is_one_of (members s) n ≡ has s n
one_of_members s n = same_test (is_one_of (members s) n) (has s n) (λ is. (members_had s n).0 (contains_one (members s) n is))
    (λ is. one_contained (members s) n ((members_had s n).1 is))

-- ---- sets take in a set

pub took_none : (count : ℕ) (other : List Bool) (rows : List (List Bool)) → AreRows count rows → TakeIn count (λ a. false) other rows rows
took_none count other rows are = record { are_rows = are; each = λ a b low. sym (or-false (row_has rows a b)) }

-- what is the same test takes in the same
pub took_same : (count : ℕ) (p q : ℕ → Bool) (other : List Bool) (old new : List (List Bool)) → ((a : ℕ) → p a ≡ q a) → TakeIn count p other old new → TakeIn count q other old new
took_same count p q other old new same took =
    record { are_rows = took.are_rows; each = λ a b low. took.each a b low ∙ ap (λ t. row_has old a b || (t && has other b)) (same a) }

pub took_more : (count : ℕ) (p : ℕ → Bool) (other : List Bool) (old new : List (List Bool)) (n : ℕ) → n < count → length other ≡ count → TakeIn count p other old new →
    TakeIn count (λ a. p a || (n == a)) other old (set new n (union (set_at new n) other))
took_more count p other old new n low size took = record {
  are_rows = record { size = length-set new n grown ∙ took.are_rows.size; sized = λ a below. sized a below (cases_eq a n) };
  each = λ a b below. each a b below (cases_eq a n);
}
  where
    grown : List Bool
    grown = union (set_at new n) other

    alike : length (set_at new n) ≡ length other
    alike = took.are_rows.sized n low ∙ sym size

    here : set_at (set new n grown) n ≡ grown
    here = get_or-set_same new n grown [] (subst (λ m. n < m) (sym took.are_rows.size) low)

    away : (a : ℕ) → (a ≡ n → ⊥) → set_at (set new n grown) a ≡ set_at new a
    away a other_ = get_or-set_other new n a grown [] other_

    sized : (a : ℕ) → a < count → ((a ≡ n) ⊎ (a ≡ n → ⊥)) → length (set_at (set new n grown) a) ≡ count
    sized a below (inl same) = ap (λ m. length (set_at (set new n grown) m)) same ∙ (ap (λ (s : List Bool). length s) here ∙ (length-union (set_at new n) other alike ∙ took.are_rows.sized n low))
    sized a below (inr other_) = ap (λ (s : List Bool). length s) (away a other_) ∙ took.are_rows.sized a below

    table : (o t s : Bool) → ((o || (t && s)) || s) ≡ (o || ((t || true) && s))
    table true t s = refl
    table false true true = refl
    table false true false = refl
    table false false s = refl

    each : (a b : ℕ) → a < count → ((a ≡ n) ⊎ (a ≡ n → ⊥)) → row_has (set new n grown) a b ≡ (row_has old a b || ((p a || (n == a)) && has other b))
    each a b below (inl same) =
        ap (λ m. row_has (set new n grown) m b) same ∙ (ap (λ s. has s b) here ∙ (has-union (set_at new n) other b alike
        ∙ (ap (λ t. t || has other b) (took.each n b low) ∙ (table (row_has old n b) (p n) (has other b)
        ∙ (ap (λ t. row_has old n b || ((p n || t) && has other b)) (sym (eq-eqb n n refl)) ∙ ap (λ m. row_has old m b || ((p m || (n == m)) && has other b)) (sym same))))))
    each a b below (inr other_) =
        ap (λ s. has s b) (away a other_) ∙ (took.each a b below
        ∙ ap (λ t. row_has old a b || (t && has other b)) (sym (ap (λ t. p a || t) (ne_eqb n a (λ e. other_ (sym e))) ∙ or-false (p a))))

-- one number more of a list
pub took_next : (count : ℕ) (numbers : List ℕ) (i n : ℕ) (other : List Bool) (old new : List (List Bool)) → i < length numbers → n ≡ get_or numbers i n → n < count → length other ≡ count →
    TakeIn count (is_one_of (take i numbers)) other old new → TakeIn count (is_one_of (take (i + 1) numbers)) other old (set new n (union (set_at new n) other))
took_next count numbers i n other old new low is below size took =
    took_same count (λ a. is_one_of (take i numbers) a || (n == a)) (is_one_of (take (i + 1) numbers)) other old (set new n (union (set_at new n) other))
    (λ a. sym (ap (λ ns. is_one_of ns a) (take_more numbers i n low ∙ ap (λ m. take i numbers ++ m ∷ []) (sym is)) ∙ any_more (λ m. m == a) (take i numbers) n))
    (took_more count (is_one_of (take i numbers)) other old new n below size took)

-- ---- by the nodes that write

no_rows_have : (count a b : ℕ) → row_has (replicate count (replicate count false)) a b ≡ false
no_rows_have count a b = by count a
  where
    by : (n a : ℕ) → has (set_at (replicate n (replicate count false)) a) b ≡ false
    by zero a = refl
    by (suc n) zero = has-replicate count b
    by (suc n) (suc a) = by n a

pub empty_rows : (g : Graph) (count : ℕ) (before : List (List Bool)) → HaveWrites g count before [] (replicate count (replicate count false))
empty_rows g count before = record {
  are_rows = record {
    size = length-replicate count (replicate count false);
    sized = λ a low. ap (λ (s : List Bool). length s) (get_or-replicate count a (replicate count false) [] low) ∙ length-replicate count false;
  };
  each = λ a b low. no_rows_have count a b;
}

pub writes_more : (g : Graph) (count : ℕ) (before : List (List Bool)) (nodes : List Node) (node : Node) (after : List Bool) (rows new : List (List Bool)) → HaveWrites g count before nodes rows →
    TakeIn count (is_number_of g (writes node.kind)) after rows new → ((b : ℕ) → has after b ≡ is_behind g before node b) → HaveWrites g count before (nodes ++ node ∷ []) new
writes_more g count before nodes node after rows new have took behind = record {
  are_rows = took.are_rows;
  each = λ a b low. took.each a b low ∙ (ap (λ t. t || (is_number_of g (writes node.kind) a && has after b)) (have.each a b low)
      ∙ (ap (λ t. list_any (passes a b) nodes || (is_number_of g (writes node.kind) a && t)) (behind b) ∙ sym (any_more (passes a b) nodes node)));
}
  where
    passes : ℕ → ℕ → Node → Bool
    passes a b n = is_number_of g (writes n.kind) a && is_behind g before n b

-- a union is what is behind a node
pub union_is_behind : (g : Graph) (before : List (List Bool)) (node : Node) (after : List Bool) → IsUnionOf g before (successors g node.kind) after → (b : ℕ) →
    has after b ≡ is_behind g before node b
union_is_behind g before node after union b = same_test (has after b) (is_behind g before node b)
    (λ is. (let one = (union.exact b).0 is in list_any_at (λ m. has (set_at before m.number) b) (successors g node.kind) one.listed.0 one.node one.listed.1
    (ap (λ m. has (set_at before m.number) b) one.listed.2 ∙ one.member)))
    (λ is. (let one = Any-from_list_any (λ m. has (set_at before m.number) b) (successors g node.kind) is in
    (union.exact b).1 (record { node = one.1; listed = (one.0, one.2, one.3); member = one.4 })))

-- a node's writes were taken in
pub writes_taken : (g : Graph) (before : List (List Bool)) (node : Node) (numbers : List ℕ) (after : List Bool) (rows new : List (List Bool)) → AreRows (local_count g) rows →
    ((a : ℕ) → is_one_of numbers a ≡ is_number_of g (writes node.kind) a) → IsUnionOf g before (successors g node.kind) after → TakeIn (length rows) (is_one_of numbers) after rows new →
    (after : List Bool) × (TakeIn (local_count g) (is_number_of g (writes node.kind)) after rows new × ((b : ℕ) → has after b ≡ is_behind g before node b))
writes_taken g before node numbers after rows new are same union took = (
  after,
  (
    subst (λ n. TakeIn n (is_number_of g (writes node.kind)) after rows new) are.size
        (took_same (length rows) (is_one_of numbers) (is_number_of g (writes node.kind)) after rows new same took),
    union_is_behind g before node after union,
  ),
)

-- ---- by sites

pub sites_none : (count : ℕ) (rows : List (List Bool)) → AreRows count rows → HaveSites count [] rows rows
sites_none count rows are = record { are_rows = are; each = λ a b low. sym (or-false (row_has rows a b)) }

pub sites_more : (count : ℕ) (sites : List (List Bool)) (site : List Bool) (old rows new : List (List Bool)) → HaveSites count sites old rows →
    TakeIn count (is_one_of (members site)) site rows new → HaveSites count (sites ++ site ∷ []) old new
sites_more count sites site old rows new have took = record {
  are_rows = took.are_rows;
  each = λ a b low. took.each a b low ∙ (ap (λ t. t || (is_one_of (members site) a && has site b)) (have.each a b low)
      ∙ (ap (λ t. (row_has old a b || list_any (both a b) sites) || (t && has site b)) (one_of_members site a)
      ∙ (or_assoc (row_has old a b) (list_any (both a b) sites) (both a b site) ∙ ap (λ t. row_has old a b || t) (sym (any_more (both a b) sites site)))));
}
  where
    both : ℕ → ℕ → List Bool → Bool
    both a b s = has s a && has s b

    or_assoc : (x y z : Bool) → ((x || y) || z) ≡ (x || (y || z))
    or_assoc true y z = refl
    or_assoc false y z = refl
