-- How often nodes stand in lists, and how many pass a test.
use Rattle.std.proofs.Math.Bool.{and_assoc}
use Rattle.std.proofs.Common.{◌≡◌, ℕ, suc, zero, ◌+◌, ◌<◌, ◌≤◌, ◌==◌, inl, inr, Bool, true, false, ◌||◌, ◌&&◌, not, List, [], ◌∷◌, ◌++◌, length, set, get_or, refl, sym, ◌∙◌, ap, subst, append_assoc, append-nil, arith}
use Rattle.std.specs.Prelude.{nat_lt}
use Rattle.std.specs.List.{list_all, list_any}
use Rattle.std.proofs.lemmas.Bool.{and_parts, or_cases, eqb-true, eq-eqb, ltb-true, lt-ltb, or_right, and_from}
use Rattle.std.proofs.lemmas.Bool.Decides.{nat_tests}
use Rattle.std.proofs.lemmas.List.Folds.{list_all-append}
use Rattle.cmm_digraph.specs.Graphs.{one_if, occurrences, is_among, are_among, are_below, mentions}
use Rattle.cmm_digraph.specs.Peeled.{is_ordered}
use Rattle.cmm_digraph.specs.inside.Waiting.{is_wanted, wanted, missing}

-- ---- lists of which all pass a test

pub all_at : (p : ℕ → Bool) (xs : List ℕ) (u : ℕ) → list_all p xs ≡ true → is_among u xs ≡ true → p u ≡ true
all_at p [] u all among = cc
all_at p (x ∷ xs) u all among = elim (or_cases (x == u) (is_among u xs) among) [
  | inl same ↦ subst (λ n. p n ≡ true) (eqb-true x u same) (and_parts (p x) (list_all p xs) all).0
  | inr later ↦ all_at p xs u (and_parts (p x) (list_all p xs) all).1 later
]

pub among_first : (x : ℕ) (xs : List ℕ) → is_among x (x ∷ xs) ≡ true
among_first x xs = rw (eq-eqb x x refl) refl

pub among_later : (u x : ℕ) (xs : List ℕ) → is_among u xs ≡ true → is_among u (x ∷ xs) ≡ true
among_later u x xs h = or_right (x == u) (is_among u xs) h

pub all_from : (p : ℕ → Bool) (xs : List ℕ) → ((u : ℕ) → is_among u xs ≡ true → p u ≡ true) → list_all p xs ≡ true
all_from p [] each = refl
all_from p (x ∷ xs) each = and_from (p x) (list_all p xs) (each x (among_first x xs)) (all_from p xs (λ u h. each u (among_later u x xs h)))

pub all_both : (p : ℕ → Bool) (xs ys : List ℕ) → list_all p xs ≡ true → list_all p ys ≡ true → list_all p (xs ++ ys) ≡ true
all_both p xs ys h i = list_all-append p xs ys ∙ and_from (list_all p xs) (list_all p ys) h i

pub any_from : (p : ℕ → Bool) (xs : List ℕ) (u : ℕ) → is_among u xs ≡ true → p u ≡ true → list_any p xs ≡ true
any_from p [] u among h = cc
any_from p (x ∷ xs) u among h = elim (or_cases (x == u) (is_among u xs) among) [
  | inl same ↦ first (p x) (list_any p xs) (subst (λ n. p n ≡ true) (sym (eqb-true x u same)) h)
  | inr later ↦ or_right (p x) (list_any p xs) (any_from p xs u later h)
]
  where
    first : (b c : Bool) → b ≡ true → (b || c) ≡ true
    first true c e = refl
    first false c e = cc

-- ---- occurrences

pub occurrences-append : (u : ℕ) (xs ys : List ℕ) → occurrences u (xs ++ ys) ≡ occurrences u xs + occurrences u ys
occurrences-append u [] ys = omega arith
occurrences-append u (x ∷ xs) ys = let h : occurrences u (xs ++ ys) ≡ occurrences u xs + occurrences u ys = occurrences-append u xs ys in omega arith

pub occurrences-last : (u : ℕ) (xs : List ℕ) (y : ℕ) → occurrences u (xs ++ y ∷ []) ≡ occurrences u xs + one_if (y == u)
occurrences-last u xs y = let h : occurrences u (xs ++ y ∷ []) ≡ occurrences u xs + occurrences u (y ∷ []) = occurrences-append u xs (y ∷ []) in omega arith

pub one_if-true : (b : Bool) → b ≡ true → one_if b ≡ 1
one_if-true b h = rw h refl

pub one_if-false : (b : Bool) → b ≡ false → one_if b ≡ 0
one_if-false b h = rw h refl

pub one_if-le : (b : Bool) → one_if b ≤ 1
one_if-le true = omega arith
one_if-le false = omega arith

pub among_is : (u : ℕ) (xs : List ℕ) → is_among u xs ≡ true → 1 ≤ occurrences u xs
among_is u [] h = cc
among_is u (x ∷ xs) h = elim (or_cases (x == u) (is_among u xs) h) [
  | inl same ↦ let e : one_if (x == u) ≡ 1 = one_if-true (x == u) same in omega arith
  | inr later ↦ let e : 1 ≤ occurrences u xs = among_is u xs later in omega arith
]

one_of : (b c : Bool) (n : ℕ) → 1 ≤ one_if b + n → (1 ≤ n → c ≡ true) → (b || c) ≡ true
one_of true c n h later = refl
one_of false c n h later = later (omega arith)

pub among_of : (u : ℕ) (xs : List ℕ) → 1 ≤ occurrences u xs → is_among u xs ≡ true
among_of u [] h = absurd (omega arith)
among_of u (x ∷ xs) h = one_of (x == u) (is_among u xs) (occurrences u xs) h (among_of u xs)

neither : (b c : Bool) (n : ℕ) → one_if b + n ≡ 0 → (n ≡ 0 → c ≡ false) → (b || c) ≡ false
neither true c n h later = absurd (omega arith)
neither false c n h later = later (omega arith)

pub none_of : (u : ℕ) (xs : List ℕ) → occurrences u xs ≡ 0 → is_among u xs ≡ false
none_of u [] h = refl
none_of u (x ∷ xs) h = neither (x == u) (is_among u xs) (occurrences u xs) h (none_of u xs)

-- ---- nodes below a size

pub below_at : (size : ℕ) (xs : List ℕ) (u : ℕ) → are_below size xs ≡ true → is_among u xs ≡ true → u < size
below_at size xs u all among = ltb-true u size (all_at (λ n. nat_lt n size) xs u all among)

pub below_wider : (a b : ℕ) (xs : List ℕ) → a ≤ b → are_below a xs ≡ true → are_below b xs ≡ true
below_wider a b xs le h = all_from (λ n. nat_lt n b) xs (λ u among. let lt : u < a = below_at a xs u h among in lt-ltb u b (omega arith))

pub below_none : (size : ℕ) (xs : List ℕ) (u : ℕ) → are_below size xs ≡ true → size ≤ u → occurrences u xs ≡ 0
below_none size xs u all le = by (occurrences u xs) refl
  where
    by : (n : ℕ) → occurrences u xs ≡ n → n ≡ 0
    by zero e = refl
    by (suc n) e = let lt : u < size = below_at size xs u all (among_of u xs (omega arith)) in absurd (omega arith)

pub below_last : (size : ℕ) (xs : List ℕ) (y : ℕ) → are_below size xs ≡ true → y < size → are_below size (xs ++ y ∷ []) ≡ true
below_last size xs y h lt = all_both (λ n. nat_lt n size) xs (y ∷ []) h (and_from (nat_lt y size) true (lt-ltb y size lt) refl)

-- ---- how many wait

pub wanted-last : (wait : Bool) (cs : List ℕ) (c : ℕ) → wanted wait (cs ++ c ∷ []) ≡ wanted wait cs + one_if (is_wanted wait c)
wanted-last wait [] c = omega arith
wanted-last wait (d ∷ cs) c = let h : wanted wait (cs ++ c ∷ []) ≡ wanted wait cs + one_if (is_wanted wait c) = wanted-last wait cs c in omega arith

pub wanted-set : (wait : Bool) (cs : List ℕ) (i c : ℕ) → i < length cs →
    wanted wait (set cs i c) + one_if (is_wanted wait (get_or cs i 0)) ≡ wanted wait cs + one_if (is_wanted wait c)
wanted-set wait [] i c within = absurd (omega arith)
wanted-set wait (d ∷ cs) zero c within = omega arith
wanted-set wait (d ∷ cs) (suc i) c within =
    let h : wanted wait (set cs i c) + one_if (is_wanted wait (get_or cs i 0)) ≡ wanted wait cs + one_if (is_wanted wait c) = wanted-set wait cs i c (omega arith) in omega arith

one_or : (b : Bool) → one_if (not b) + one_if b ≡ 1
one_or true = refl
one_or false = refl

pub wanted_either : (cs : List ℕ) → wanted true cs + wanted false cs ≡ length cs
wanted_either [] = refl
wanted_either (c ∷ cs) = let h : wanted true cs + wanted false cs ≡ length cs = wanted_either cs in let e : one_if (not (c == 0)) + one_if (c == 0) ≡ 1 = one_or (c == 0) in omega arith

-- ---- what is missing

pub missing-none : (ms : List ℕ) → missing [] ms ≡ length ms
missing-none [] = refl
missing-none (m ∷ ms) = let h : missing [] ms ≡ length ms = missing-none ms in omega arith

pub among-last : (m : ℕ) (done : List ℕ) (v : ℕ) → is_among m (done ++ v ∷ []) ≡ (is_among m done || (v == m))
among-last m [] v = or_false (v == m)
  where
    or_false : (b : Bool) → (b || false) ≡ b
    or_false true = refl
    or_false false = refl
among-last m (d ∷ done) v = ap (λ b. (d == m) || b) (among-last m done v) ∙ assoc (d == m) (is_among m done) (v == m)
  where
    assoc : (a b c : Bool) → (a || (b || c)) ≡ ((a || b) || c)
    assoc true b c = refl
    assoc false b c = refl

pub among_start : (m : ℕ) (done more : List ℕ) → is_among m done ≡ true → is_among m (done ++ more) ≡ true
among_start m [] more h = cc
among_start m (d ∷ done) more h = elim (or_cases (d == m) (is_among m done) h) [
  | inl same ↦ rw same refl
  | inr later ↦ or_right (d == m) (is_among m (done ++ more)) (among_start m done more later)
]

-- one node more that is done
pub missing-last : (done : List ℕ) (v : ℕ) (ms : List ℕ) → is_among v done ≡ false → missing (done ++ v ∷ []) ms + occurrences v ms ≡ missing done ms
missing-last done v [] new = refl
missing-last done v (m ∷ ms) new =
    let h : missing (done ++ v ∷ []) ms + occurrences v ms ≡ missing done ms = missing-last done v ms new in
    let e : one_if (not (is_among m (done ++ v ∷ []))) + one_if (m == v) ≡ one_if (not (is_among m done)) = by (m == v) refl in omega arith
  where
    flip : (a b : ℕ) → (a == b) ≡ false → (b == a) ≡ false
    flip a b e = grind (arith, nat_tests)

    by : (b : Bool) → (m == v) ≡ b → one_if (not (is_among m (done ++ v ∷ []))) + one_if (m == v) ≡ one_if (not (is_among m done))
    by true e = let s : m ≡ v = eqb-true m v e in
        rw (among-last m done v, e, s, eq-eqb v v refl, new) refl
    by false e = rw (among-last m done v, e, flip m v e) (plus (is_among m done))
      where
        plus : (b : Bool) → one_if (not (b || false)) + 0 ≡ one_if (not b)
        plus true = refl
        plus false = refl

pub missing_zero : (done ms : List ℕ) → missing done ms ≡ 0 → are_among ms done ≡ true
missing_zero done [] h = refl
missing_zero done (m ∷ ms) h = and_from (is_among m done) (are_among ms done) (by (is_among m done) refl) (missing_zero done ms (omega arith))
  where
    by : (b : Bool) → is_among m done ≡ b → b ≡ true
    by true e = refl
    by false e = let z : one_if (not (is_among m done)) ≡ 1 = rw e refl in absurd (omega arith)

some_missing : (done : List ℕ) (m : ℕ) (ms : List ℕ) (b : Bool) → is_among m done ≡ b → 1 ≤ one_if (not b) + missing done ms →
    (1 ≤ missing done ms → (n : ℕ) × (is_among n ms ≡ true) × (is_among n done ≡ false)) → (n : ℕ) × (is_among n (m ∷ ms) ≡ true) × (is_among n done ≡ false)
some_missing done m ms false e h later = (m, among_first m ms, e)
some_missing done m ms true e h later = let r : (n : ℕ) × (is_among n ms ≡ true) × (is_among n done ≡ false) = later (omega arith) in (r.0, among_later r.0 m ms r.1, r.2)

-- where something is missing, this is it
pub missing_some : (done ms : List ℕ) → 1 ≤ missing done ms → (m : ℕ) × (is_among m ms ≡ true) × (is_among m done ≡ false)
missing_some done [] h = absurd (omega arith)
missing_some done (m ∷ ms) h = some_missing done m ms (is_among m done) refl h (missing_some done ms)

-- ---- orders

pub ordered-append : (graph : List (List ℕ)) (before xs ys : List ℕ) → is_ordered graph before (xs ++ ys) ≡ (is_ordered graph before xs && is_ordered graph (before ++ xs) ys)
ordered-append graph before [] ys = ap (λ q. is_ordered graph q ys) (sym (append-nil before))
ordered-append graph before (x ∷ xs) ys =
    ap (λ b. are_among (mentions graph x) before && b) (ordered-append graph (before ++ x ∷ []) xs ys ∙ ap (λ q. is_ordered graph (before ++ x ∷ []) xs && is_ordered graph q ys) (append_assoc before (x ∷ []) xs))
    ∙ (sym (and_assoc (are_among (mentions graph x) before) (is_ordered graph (before ++ x ∷ []) xs) (is_ordered graph (before ++ x ∷ xs) ys)))

-- nodes that mention only what stands before all of them
pub ordered_from : (graph : List (List ℕ)) (before xs : List ℕ) → list_all (λ u. are_among (mentions graph u) before) xs ≡ true → is_ordered graph before xs ≡ true
ordered_from graph before [] h = refl
ordered_from graph before (x ∷ xs) h =
    let parts : (are_among (mentions graph x) before ≡ true) × (list_all (λ u. are_among (mentions graph u) before) xs ≡ true)
    = and_parts (are_among (mentions graph x) before) (list_all (λ u. are_among (mentions graph u) before) xs) h in
    and_from (are_among (mentions graph x) before) (is_ordered graph (before ++ x ∷ []) xs) parts.0
    (ordered_from graph (before ++ x ∷ []) xs (all_from (λ u. are_among (mentions graph u) (before ++ x ∷ [])) xs
    (λ u among. let all : are_among (mentions graph u) before ≡ true = all_at (λ w. are_among (mentions graph w) before) xs u parts.1 among in
    all_from (λ n. is_among n (before ++ x ∷ [])) (mentions graph u) (λ n in_it. among_start n before (x ∷ []) (all_at (λ w. is_among w before) (mentions graph u) n all in_it)))))

pub ordered_both : (graph : List (List ℕ)) (xs ys : List ℕ) → is_ordered graph [] xs ≡ true → is_ordered graph xs ys ≡ true → is_ordered graph [] (xs ++ ys) ≡ true
ordered_both graph xs ys h i = ordered-append graph [] xs ys ∙ and_from (is_ordered graph [] xs) (is_ordered graph xs ys) h i

pub below_index : (size : ℕ) (xs : List ℕ) (k : ℕ) → are_below size xs ≡ true → k < length xs → get_or xs k 0 < size
below_index size [] k h lt = absurd (omega arith)
below_index size (x ∷ xs) zero h lt = ltb-true x size (and_parts (nat_lt x size) (are_below size xs) h).0
below_index size (x ∷ xs) (suc k) h lt = below_index size xs k (and_parts (nat_lt x size) (are_below size xs) h).1 (omega arith)
