-- Pairs of numbers are joined.
use Rattle.std.proofs.Common.{◌≡◌, ◌≢◌, ◌⊎◌, inl, inr, ℕ, zero, suc, ◌+◌, ◌<◌, ◌≤◌, ◌==◌, ◌&&◌, ◌||◌, not, Bool, true, false, List, [], ◌∷◌, ◌++◌, length, get_or, take, replicate, refl, sym, ◌∙◌, ap, subst, arith}
use Rattle.std.proofs.Math.Bool.{or-false, or-true}
use Rattle.std.proofs.lemmas.Bool.{cases_eq, eq-eqb, ne_eqb}
use Rattle.std.proofs.lemmas.List.{get_or_default, length-replicate, length-take-le, take_all, take_more}
use Rattle.std.proofs.lemmas.List.Elements.{All-nil, All-push}
use Rattle.std.specs.Prelude.{All, Contains}
use Rattle.cmm_bitset.specs.Sets.{has, members}
use Rattle.cmm_bitset.proofs.Shared.{members_had}
use Rattle.cmm_colour.specs.Graphs.{adjacent, joined}
use Rattle.cmm_colour.proofs.Shared.{joins_are_adjacent, size_joined}
use Rattle.cmm_live.specs.Exact.{set_at}
use Rattle.cmm_live.specs.inside.Interfering.{HavePairs, JoinedTo, is_one_of, is_other, is_pair, row_has}
use Rattle.cmm_live.proofs.Interfering.{any_more, one_of_members}

-- ---- one number to others

pub joined_none : (a : ℕ) (graph : List (List ℕ)) → JoinedTo a [] graph graph
joined_none a graph = record { size = refl; each = λ v w. none (adjacent graph v w) (v == a) (w == a) }
  where
    none : (x y z : Bool) → x ≡ (x || ((y && false) || (z && false)))
    none true y z = refl
    none false true true = refl
    none false true false = refl
    none false false true = refl
    none false false false = refl

pub joined_more : (a b : ℕ) (others : List ℕ) (old new : List (List ℕ)) → a < length old → b < length old → b ≢ a → JoinedTo a others old new → JoinedTo a (others ++ b ∷ []) old (joined a b new)
joined_more a b others old new low_a low_b different to = record {
  size = size_joined a b new in_a in_b (λ e. different (sym e)) ∙ to.size;
  each = λ v w. joins_are_adjacent new a b v w in_a in_b (λ e. different (sym e)) ∙ (ap (λ t. t || (((v == a) && (w == b)) || ((v == b) && (w == a)))) (to.each v w)
      ∙ (table (adjacent old v w) (v == a) (w == a) (is_one_of others v) (is_one_of others w) (v == b) (w == b)
      ∙ (ap (λ t. adjacent old v w || (((v == a) && (is_one_of others w || t)) || ((w == a) && (is_one_of others v || (v == b))))) (swap w b)
      ∙ (ap (λ t. adjacent old v w || (((v == a) && (is_one_of others w || (b == w))) || ((w == a) && (is_one_of others v || t)))) (swap v b)
      ∙ (ap (λ t. adjacent old v w || (((v == a) && t) || ((w == a) && (is_one_of others v || (b == v))))) (sym (any_more (λ n. n == w) others b))
      ∙ ap (λ t. adjacent old v w || (((v == a) && is_one_of (others ++ b ∷ []) w) || ((w == a) && t))) (sym (any_more (λ n. n == v) others b)))))));
}
  where
    in_a : a < length new
    in_a = omega (arith, low_a, to.size)

    in_b : b < length new
    in_b = omega (arith, low_b, to.size)

    swap : (x y : ℕ) → (x == y) ≡ (y == x)
    swap x y = elim (cases_eq x y) [
      | inl same ↦ eq-eqb x y same ∙ sym (eq-eqb y x (sym same))
      | inr other ↦ ne_eqb x y other ∙ sym (ne_eqb y x (λ e. other (sym e)))
    ]

    table : (o va wa ov ow vb wb : Bool) → ((o || ((va && ow) || (wa && ov))) || ((va && wb) || (vb && wa))) ≡ (o || ((va && (ow || wb)) || (wa && (ov || vb))))
    table true va wa ov ow vb wb = refl
    table false true true true true vb wb = refl
    table false true true true false vb true = refl
    table false true true true false vb false = refl
    table false true true false true vb wb = refl
    table false true true false false true true = refl
    table false true true false false true false = refl
    table false true true false false false true = refl
    table false true true false false false false = refl
    table false true false ov true vb wb = refl
    table false true false ov false true true = refl
    table false true false ov false true false = refl
    table false true false ov false false true = refl
    table false true false ov false false false = refl
    table false false true true ow vb wb = refl
    table false false true false ow true wb = refl
    table false false true false ow false wb = refl
    table false false false ov ow true wb = refl
    table false false false ov ow false wb = refl

pub joined_next : (a i b : ℕ) (others : List ℕ) (old new : List (List ℕ)) → i < length others → b ≡ get_or others i b → a < length old → b < length old → b ≢ a →
    JoinedTo a (take i others) old new → JoinedTo a (take (i + 1) others) old (joined a b new)
joined_next a i b others old new low is low_a low_b different to =
    subst (λ l. JoinedTo a l old (joined a b new)) (sym (take_more others i b low ∙ ap (λ m. take i others ++ m ∷ []) (sym is)))
    (joined_more a b (take i others) old new low_a low_b different to)

-- ---- all pairs

row_at_end : (xs : List (List Bool)) (r : List Bool) (w : ℕ) → row_has (xs ++ r ∷ []) (length xs) w ≡ has r w
row_at_end [] r w = refl
row_at_end (x ∷ xs) r w = row_at_end xs r w

row_other : (xs : List (List Bool)) (r : List Bool) (v w : ℕ) → v ≢ length xs → row_has (xs ++ r ∷ []) v w ≡ row_has xs v w
row_other [] r zero w other = absurd (other refl)
row_other [] r (suc v) w other = refl
row_other (x ∷ xs) r zero w other = refl
row_other (x ∷ xs) r (suc v) w other = row_other xs r v w (λ e. other (ap suc e))

row_past : (xs : List (List Bool)) (w : ℕ) → row_has xs (length xs) w ≡ false
row_past [] w = refl
row_past (x ∷ xs) w = row_past xs w

module _ (class : List Bool) (xs : List (List Bool)) (r : List Bool) where
  pair_away : (v w : ℕ) → v ≢ length xs → is_pair class (xs ++ r ∷ []) v w ≡ is_pair class xs v w
  pair_away v w other = ap (λ t. has class v && (not (w == v) && (has class w && t))) (row_other xs r v w other)

  -- a number of the class comes with its set
  pair_next : has class (length xs) ≡ true → (v w : ℕ) → is_pair class (xs ++ r ∷ []) v w ≡ (is_pair class xs v w || ((v == length xs) && is_other class r (length xs) w))
  pair_next in_class v w = by (cases_eq v (length xs))
    where
      table : (n c h : Bool) → (n && (c && h)) ≡ ((n && (c && false)) || (n && (c && h)))
      table true true h = refl
      table true false h = refl
      table false c h = refl

      at : is_pair class (xs ++ r ∷ []) (length xs) w ≡ (is_pair class xs (length xs) w || ((length xs == length xs) && is_other class r (length xs) w))
      at = rw (row_at_end xs r w, row_past xs w, eq-eqb (length xs) (length xs) refl, in_class) (table (not (w == length xs)) (has class w) (has r w))

      by : ((v ≡ length xs) ⊎ (v ≡ length xs → ⊥)) → is_pair class (xs ++ r ∷ []) v w ≡ (is_pair class xs v w || ((v == length xs) && is_other class r (length xs) w))
      by (inl same) = subst (λ u. is_pair class (xs ++ r ∷ []) u w ≡ (is_pair class xs u w || ((u == length xs) && is_other class r (length xs) w))) (sym same) at
      by (inr other) = pair_away v w other ∙ sym (ap (λ t. is_pair class xs v w || (t && is_other class r (length xs) w)) (ne_eqb v (length xs) other) ∙ or-false (is_pair class xs v w))

  -- one that is not in the class comes for nothing
  pair_skip : has class (length xs) ≡ false → (v w : ℕ) → is_pair class (xs ++ r ∷ []) v w ≡ is_pair class xs v w
  pair_skip out v w = elim (cases_eq v (length xs)) [
    | inl same ↦
        let none : has class v ≡ false = ap (has class) same ∙ out in
        ap (λ t. t && is_other class (set_at (xs ++ r ∷ []) v) v w) none ∙ sym (ap (λ t. t && is_other class (set_at xs v) v w) none)
    | inr other ↦ pair_away v w other
  ]

pub no_pairs : (class : List Bool) (n : ℕ) → n ≡ length class → HavePairs class [] (replicate n [])
no_pairs class n is = record {
  size = length-replicate n [] ∙ is;
  each = λ v w. none n v w ∙ sym (table (has class v) (not (w == v)) (has class w) (not (v == w)));
}
  where
    none : (n v w : ℕ) → adjacent (replicate n []) v w ≡ false
    none zero v w = refl
    none (suc n) zero w = refl
    none (suc n) (suc v) w = none n v w

    table : (a b c d : Bool) → ((a && (b && (c && false))) || (c && (d && (a && false)))) ≡ false
    table true true true true = refl
    table true true true false = refl
    table true true false d = refl
    table true false true true = refl
    table true false true false = refl
    table true false false d = refl
    table false b true true = refl
    table false b true false = refl
    table false b false d = refl

module _ (class : List Bool) (xs : List (List Bool)) (r : List Bool) (n : ℕ) (is_n : n ≡ length xs) (old : List (List ℕ)) (have : HavePairs class xs old) where
  pub pairs_skip : has class n ≡ false → HavePairs class (xs ++ r ∷ []) old
  pairs_skip out =
      let out_ : has class (length xs) ≡ false = ap (has class) (sym is_n) ∙ out in
      record {
        size = have.size;
        each = λ v w. have.each v w ∙ sym (ap (λ t. t || is_pair class (xs ++ r ∷ []) w v) (pair_skip class xs r out_ v w)
            ∙ ap (λ t. is_pair class xs v w || t) (pair_skip class xs r out_ w v));
      }

  pub pairs_more : (others : List ℕ) (new : List (List ℕ)) → has class n ≡ true → ((b : ℕ) → is_one_of others b ≡ is_other class r n b) → JoinedTo n others old new →
      HavePairs class (xs ++ r ∷ []) new
  pairs_more others new in_class are to = record {
    size = to.size ∙ have.size;
    each = λ v w. to.each v w ∙ (ap (λ t. t || (((v == n) && is_one_of others w) || ((w == n) && is_one_of others v))) (have.each v w)
        ∙ (ap (λ t. (is_pair class xs v w || is_pair class xs w v) || (((v == n) && t) || ((w == n) && is_one_of others v))) (are w)
        ∙ (ap (λ t. (is_pair class xs v w || is_pair class xs w v) || (((v == n) && is_other class r n w) || ((w == n) && t))) (are v)
        ∙ (table (is_pair class xs v w) (is_pair class xs w v) ((v == n) && is_other class r n w) ((w == n) && is_other class r n v)
        ∙ (ap (λ t. t || (is_pair class xs w v || ((w == n) && is_other class r n v))) (sym (next v w))
        ∙ ap (λ t. is_pair class (xs ++ r ∷ []) v w || t) (sym (next w v)))))));
  }
    where
      table : (a b c d : Bool) → ((a || b) || (c || d)) ≡ ((a || c) || (b || d))
      table true b c d = refl
      table false true true d = refl
      table false true false d = refl
      table false false c d = refl

      next : (v w : ℕ) → is_pair class (xs ++ r ∷ []) v w ≡ (is_pair class xs v w || ((v == n) && is_other class r n w))
      next v w = subst (λ m. is_pair class (xs ++ r ∷ []) v w ≡ (is_pair class xs v w || ((v == m) && is_other class r m w))) (sym is_n)
          (pair_next class xs r (ap (has class) (sym is_n) ∙ in_class) v w)

-- ---- the others of a set

pub has_within : (s : List Bool) (n : ℕ) → has s n ≡ true → n < length s
has_within [] n is = absurd (cc (is))
has_within (x ∷ s) zero is = omega arith
has_within (x ∷ s) (suc n) is = omega (arith, has_within s n is)

-- the members that were looked at
abbrev pub AreOthers : List Bool → ℕ → List ℕ → List ℕ → Type 0
AreOthers class n looked others = (b : ℕ) → is_one_of others b ≡ (not (b == n) && (has class b && is_one_of looked b))

pub others_none : (class : List Bool) (n : ℕ) → AreOthers class n [] []
others_none class n b = table (not (b == n)) (has class b)
  where
    table : (x y : Bool) → false ≡ (x && (y && false))
    table true true = refl
    table true false = refl
    table false y = refl

others_away : (class : List Bool) (n m : ℕ) (looked : List ℕ) (b : ℕ) → m ≢ b →
    (not (b == n) && (has class b && is_one_of (looked ++ m ∷ []) b)) ≡ (not (b == n) && (has class b && is_one_of looked b))
others_away class n m looked b other = ap (λ t. not (b == n) && (has class b && t))
    (any_more (λ k. k == b) looked m ∙ (ap (λ t. is_one_of looked b || t) (ne_eqb m b other) ∙ or-false (is_one_of looked b)))

pub others_more : (class : List Bool) (n m : ℕ) (looked others : List ℕ) → m ≢ n → has class m ≡ true → AreOthers class n looked others → AreOthers class n (looked ++ m ∷ []) (others ++ m ∷ [])
others_more class n m looked others different in_class are b = by (cases_eq m b)
  where
    last : (xs : List ℕ) → is_one_of (xs ++ m ∷ []) m ≡ true
    last xs = any_more (λ k. k == m) xs m ∙ (ap (λ t. is_one_of xs m || t) (eq-eqb m m refl) ∙ or-true (is_one_of xs m))

    by : ((m ≡ b) ⊎ (m ≡ b → ⊥)) → is_one_of (others ++ m ∷ []) b ≡ (not (b == n) && (has class b && is_one_of (looked ++ m ∷ []) b))
    by (inl same) = subst (λ k. is_one_of (others ++ m ∷ []) k ≡ (not (k == n) && (has class k && is_one_of (looked ++ m ∷ []) k))) same
        (rw (last others, last looked, in_class, ne_eqb m n different) refl)
    by (inr other) = any_more (λ k. k == b) others m ∙ (ap (λ t. is_one_of others b || t) (ne_eqb m b other) ∙ (or-false (is_one_of others b) ∙ (are b ∙ sym (others_away class n m looked b other))))

pub others_skip : (class : List Bool) (n m : ℕ) (looked others : List ℕ) → (m ≡ n) ⊎ (has class m ≡ false) → AreOthers class n looked others → AreOthers class n (looked ++ m ∷ []) others
others_skip class n m looked others out are b = are b ∙ sym (elim (cases_eq m b) [
  | inl same ↦ subst (λ k. (not (k == n) && (has class k && is_one_of (looked ++ m ∷ []) k)) ≡ (not (k == n) && (has class k && is_one_of looked k))) same (here out)
  | inr other ↦ others_away class n m looked b other
])
  where
    none : (x y : Bool) → (x && (false && y)) ≡ false
    none true y = refl
    none false y = refl

    here : (m ≡ n) ⊎ (has class m ≡ false) → (not (m == n) && (has class m && is_one_of (looked ++ m ∷ []) m)) ≡ (not (m == n) && (has class m && is_one_of looked m))
    here (inl same) = rw (eq-eqb m n same) refl
    here (inr lacks) = rw lacks (none (not (m == n)) (is_one_of (looked ++ m ∷ []) m) ∙ sym (none (not (m == n)) (is_one_of looked m)))

pub record AreFound (class : List Bool) (n : ℕ) (looked others : List ℕ) : Type 0 where
  pub within : All (λ other. other < length class) others
  pub different : All (λ other. other ≢ n) others
  pub exact : AreOthers class n looked others

module _ (class : List Bool) (n i m : ℕ) (numbers others : List ℕ) (low : i < length numbers) (is : m ≡ get_or numbers i m) (found : AreFound class n (take i numbers) others) where
  next : take (i + 1) numbers ≡ take i numbers ++ m ∷ []
  next = take_more numbers i m low ∙ ap (λ k. take i numbers ++ k ∷ []) (sym is)

  pub found_more : m < length class → m ≢ n → has class m ≡ true → AreFound class n (take (i + 1) numbers) (others ++ m ∷ [])
  found_more below different in_class = record {
    within = All-push (λ other. other < length class) others m found.within below;
    different = All-push (λ other. other ≢ n) others m found.different different;
    exact = subst (λ l. AreOthers class n l (others ++ m ∷ [])) (sym next) (others_more class n m (take i numbers) others different in_class found.exact);
  }

  pub found_skip : (m ≡ n) ⊎ (has class m ≡ false) → AreFound class n (take (i + 1) numbers) others
  found_skip out = record {
    within = found.within;
    different = found.different;
    exact = subst (λ l. AreOthers class n l others) (sym next) (others_skip class n m (take i numbers) others out found.exact);
  }

pub none_found : (class : List Bool) (n : ℕ) → AreFound class n [] []
none_found class n = record { within = All-nil (λ other. other < length class); different = All-nil (λ other. other ≢ n); exact = others_none class n }

-- a number of the list of members is below the size
pub member_below : (s : List Bool) (numbers : List ℕ) (i d : ℕ) → numbers ≡ members s → i < length numbers → get_or numbers i d < length s
member_below s numbers i d is low = has_within s (get_or numbers i d) ((members_had s (get_or numbers i d)).0
    (subst (λ (l : List ℕ). Contains l (get_or numbers i d)) is (i, low, get_or_default numbers i (get_or numbers i d) d low)))

pub found_all : (class s : List Bool) (n i : ℕ) (numbers others : List ℕ) → numbers ≡ members s → length numbers ≤ i → AreFound class n (take i numbers) others → (b : ℕ) →
    is_one_of others b ≡ is_other class s n b
found_all class s n i numbers others is past found b =
    found.exact b ∙ ap (λ t. not (b == n) && (has class b && t)) (ap (λ l. is_one_of l b) (take_all i numbers past ∙ is) ∙ one_of_members s b)

-- ---- the next set

module _ (class : List Bool) (rows : List (List Bool)) (n : ℕ) (r : List Bool) (low : n < length rows) (is : r ≡ get_or rows n r) (old : List (List ℕ)) (have : HavePairs class (take n rows) old) where
  next_row : take (n + 1) rows ≡ take n rows ++ r ∷ []
  next_row = take_more rows n r low ∙ ap (λ y. take n rows ++ y ∷ []) (sym is)

  counted : n ≡ length (take n rows)
  counted = sym (length-take-le n rows (omega (arith, low)))

  pub next_skip : has class n ≡ false → HavePairs class (take (n + 1) rows) old
  next_skip out = subst (λ l. HavePairs class l old) (sym next_row) (pairs_skip class (take n rows) r n counted old have out)

  pub next_more : (others : List ℕ) (new : List (List ℕ)) → has class n ≡ true → ((b : ℕ) → is_one_of others b ≡ is_other class r n b) → JoinedTo n others old new →
      HavePairs class (take (n + 1) rows) new
  next_more others new in_class are to = subst (λ l. HavePairs class l new) (sym next_row) (pairs_more class (take n rows) r n counted old have others new in_class are to)
