-- Nodes wait for one mention less, one after the other.
use Rattle.std.proofs.Common.{◌≡◌, ◌≢◌, ℕ, suc, ◌+◌, ◌-◌, ◌<◌, ◌≤◌, ◌==◌, Bool, true, false, not, List, [], ◌∷◌, ◌++◌, length, take, drop, set, get_or, refl, sym, ◌∙◌, ap, subst, append_assoc, append-nil, arith}
use Rattle.std.proofs.lemmas.Bool.{eqb-true, eq-eqb}
use Rattle.std.proofs.lemmas.Bool.Decides.{nat_tests}
use Rattle.std.proofs.Math.Bool.{beq}
use Rattle.std.proofs.lemmas.List.{get_or-set_same, get_or-set_other, length-set, take-append-drop, length-append, length-take-le, get_or-take, get_or_default}
use Rattle.std.proofs.Math.Seq.{take-suc, drop-cons}
use Rattle.cmm_digraph.specs.Graphs.{one_if, occurrences, are_below}
use Rattle.cmm_digraph.specs.inside.Waiting.{wanted, zeros, CanRelease, IsReleased, AreNumbered, is_wanted}
use Rattle.cmm_digraph.proofs.Counting.{one_if-true, one_if-false, occurrences-append, occurrences-last, below_last, below_none, below_wider, wanted-set, wanted-last}

-- a node that may yet be released waits for something
pub waits : (us : List ℕ) (i : ℕ) (before order now order' : List ℕ) → i < length us → get_or us i 0 < length before → CanRelease before us → IsReleased before order (take i us) now order' →
    1 ≤ get_or now (get_or us i 0) 0
waits us i before order now order' within node can released =
    let u = get_or us i 0 in
    let often : occurrences u us ≤ get_or before u 0 = can.often u node in
    let counts : get_or now u 0 + occurrences u (take i us) ≡ get_or before u 0 = released.counts u node in
    let parts : occurrences u us ≡ occurrences u (take i us) + occurrences u (drop i us)
    = ap (occurrences u) (sym (take-append-drop i us)) ∙ occurrences-append u (take i us) (drop i us) in
    let rest : occurrences u (drop i us) ≡ one_if (u == u) + occurrences u (drop (suc i) us) = ap (occurrences u) (drop-cons us i 0 within) in
    let one : one_if (u == u) ≡ 1 = one_if-true (u == u) (eq-eqb u u refl) in
    omega arith

abbrev pub also : Bool → List ℕ → ℕ → List ℕ
also test order u = elim test [ true ↦ order ++ u ∷ [] | false ↦ order ]

also_length : (b : Bool) (order : List ℕ) (u : ℕ) → length (also b order u) ≡ length order + one_if b
also_length true order u = length-append order (u ∷ [])
also_length false order u = omega arith

also_grown : (b : Bool) (order start more : List ℕ) (u : ℕ) → order ≡ start ++ more → also b order u ≡ start ++ also b more u
also_grown true order start more u is = ap (λ q. q ++ u ∷ []) is ∙ append_assoc start more (u ∷ [])
also_grown false order start more u is = is

also_below : (b : Bool) (size : ℕ) (more : List ℕ) (u : ℕ) → are_below size more ≡ true → u < size → are_below size (also b more u) ≡ true
also_below true size more u h lt = below_last size more u h lt
also_below false size more u h lt = h

also_other : (b : Bool) (order : List ℕ) (u v : ℕ) → (u == v) ≡ false → occurrences v (also b order u) ≡ occurrences v order
also_other true order u v other =
    let h : occurrences v (order ++ u ∷ []) ≡ occurrences v order + one_if (u == v) = occurrences-last v order u in
    let z : one_if (u == v) ≡ 0 = one_if-false (u == v) other in omega arith
also_other false order u v other = refl

also_same : (b : Bool) (order : List ℕ) (u v : ℕ) → (u == v) ≡ true → occurrences v (also b order u) ≡ occurrences v order + one_if b
also_same true order u v same =
    let h : occurrences v (order ++ u ∷ []) ≡ occurrences v order + one_if (u == v) = occurrences-last v order u in
    let z : one_if (u == v) ≡ 1 = one_if-true (u == v) same in omega arith
also_same false order u v same = omega arith

pub none_released : (waiting order : List ℕ) → IsReleased waiting order [] waiting order
none_released waiting order = record {
  size = refl;
  counts = λ u lt. omega arith;
  freed = λ u lt. refl;
  total = refl;
  more = [];
  grown = sym (append-nil order);
  nodes = refl;
}

-- one node more: it is added to the order if it waits for nothing any more
pub released_next : (us : List ℕ) (i : ℕ) (before order now order' : List ℕ) (c : ℕ) → i < length us → get_or us i 0 < length before → IsReleased before order (take i us) now order' →
    suc c ≡ get_or now (get_or us i 0) 0 → (b : Bool) → (c == 0) ≡ b → IsReleased before order (take (i + 1) us) (set now (get_or us i 0) c) (also b order' (get_or us i 0))
released_next us i before order now order' c within node released is b zero_is = let u = get_or us i 0 in let e : i + 1 ≡ suc i = omega arith in record {
  size = length-set now u c ∙ released.size;
  counts = λ v lt.
      let counts : get_or now v 0 + occurrences v (take i us) ≡ get_or before v 0 = released.counts v lt in
      let more : occurrences v (take (i + 1) us) ≡ occurrences v (take i us) + one_if (u == v)
      = ap (λ k. occurrences v (take k us)) e ∙ ap (occurrences v) (take-suc us i 0 within) ∙ occurrences-last v (take i us) u in
      let here : get_or (set now u c) v 0 + one_if (u == v) ≡ get_or now v 0 = set_at v (u == v) refl in
      omega arith;
  freed = λ v lt. freed_at v lt (u == v) refl;
  total =
      let total : length order' + zeros before ≡ length order + zeros now = released.total in
      let one : length (also b order' u) ≡ length order' + one_if b = also_length b order' u in
      let two : wanted false (set now u c) + one_if (get_or now u 0 == 0) ≡ wanted false now + one_if (c == 0) = wanted-set false now u c in_now in
      let three : one_if (get_or now u 0 == 0) ≡ 0 = one_if-false (get_or now u 0 == 0) not_zero in
      let four : one_if (c == 0) ≡ one_if b = ap one_if zero_is in
      omega arith;
  more = also b released.more u;
  grown = also_grown b order' order released.more u released.grown;
  nodes = also_below b (length before) released.more u released.nodes node;
}
  where
    in_now : get_or us i 0 < length now
    in_now = let s : length now ≡ length before = released.size in omega arith

    not_zero : (get_or now (get_or us i 0) 0 == 0) ≡ false
    not_zero = grind (arith, nat_tests)

    set_at : (v : ℕ) (t : Bool) → (get_or us i 0 == v) ≡ t → get_or (set now (get_or us i 0) c) v 0 + one_if t ≡ get_or now v 0
    set_at v true same =
        let w : get_or us i 0 ≡ v = eqb-true (get_or us i 0) v same in
        let a : get_or (set now (get_or us i 0) c) v 0 ≡ c = ap (λ n. get_or (set now (get_or us i 0) c) n 0) (sym w) ∙ get_or-set_same now (get_or us i 0) c 0 in_now in
        let d : get_or now (get_or us i 0) 0 ≡ get_or now v 0 = ap (λ n. get_or now n 0) w in
        omega arith
    set_at v false other =
        let ne : v ≢ get_or us i 0 = grind (arith, nat_tests) in
        let a : get_or (set now (get_or us i 0) c) v 0 ≡ get_or now v 0 = get_or-set_other now (get_or us i 0) v c 0 ne in omega arith

    freed_at : (v : ℕ) → v < length before → (t : Bool) → (get_or us i 0 == v) ≡ t →
        occurrences v (also b order' (get_or us i 0)) + one_if (get_or before v 0 == 0) ≡ occurrences v order + one_if (get_or (set now (get_or us i 0) c) v 0 == 0)
    freed_at v lt true same =
        let w : get_or us i 0 ≡ v = eqb-true (get_or us i 0) v same in
        let a : get_or (set now (get_or us i 0) c) v 0 ≡ c = ap (λ n. get_or (set now (get_or us i 0) c) n 0) (sym w) ∙ get_or-set_same now (get_or us i 0) c 0 in_now in
        let h : occurrences v order' + one_if (get_or before v 0 == 0) ≡ occurrences v order + one_if (get_or now v 0 == 0) = released.freed v lt in
        let z : one_if (get_or now v 0 == 0) ≡ 0 = ap (λ n. one_if (get_or now n 0 == 0)) (sym w) ∙ one_if-false (get_or now (get_or us i 0) 0 == 0) not_zero in
        let f : occurrences v (also b order' (get_or us i 0)) ≡ occurrences v order' + one_if b = also_same b order' (get_or us i 0) v same in
        let g : one_if (get_or (set now (get_or us i 0) c) v 0 == 0) ≡ one_if b = ap (λ n. one_if (n == 0)) a ∙ ap one_if zero_is in
        omega arith
    freed_at v lt false other =
        let ne : v ≢ get_or us i 0 = grind (arith, nat_tests) in
        let a : get_or (set now (get_or us i 0) c) v 0 ≡ get_or now v 0 = get_or-set_other now (get_or us i 0) v c 0 ne in
        let h : occurrences v order' + one_if (get_or before v 0 == 0) ≡ occurrences v order + one_if (get_or now v 0 == 0) = released.freed v lt in
        let f : occurrences v (also b order' (get_or us i 0)) ≡ occurrences v order' = also_other b order' (get_or us i 0) v other in
        let g : one_if (get_or (set now (get_or us i 0) c) v 0 == 0) ≡ one_if (get_or now v 0 == 0) = ap (λ n. one_if (n == 0)) a in
        omega arith

-- ---- the nodes that wait, or do not

pub none_numbered : (wait : Bool) → AreNumbered wait [] []
none_numbered wait = record { once = λ u lt. absurd (omega arith); total = refl; below = refl }

pub numbered_next : (wait : Bool) (waiting : List ℕ) (i : ℕ) (nodes : List ℕ) → i < length waiting → AreNumbered wait (take i waiting) nodes →
    AreNumbered wait (take (i + 1) waiting) (also (is_wanted wait (get_or waiting i 0)) nodes i)
numbered_next wait waiting i nodes within numbered = let c = get_or waiting i 0 in let b = is_wanted wait c in let e : i + 1 ≡ suc i = omega arith in
    let short : length (take i waiting) ≡ i = length-take-le i waiting (omega arith) in
    let long : length (take (i + 1) waiting) ≡ i + 1 = length-take-le (i + 1) waiting (omega arith) in record {
      once = λ u lt. once_at u (omega arith) (i == u) refl;
      total =
          let total : length nodes ≡ wanted wait (take i waiting) = numbered.total in
          let one : length (also b nodes i) ≡ length nodes + one_if b = also_length b nodes i in
          let two : wanted wait (take (i + 1) waiting) ≡ wanted wait (take i waiting) + one_if b
          = ap (λ k. wanted wait (take k waiting)) e ∙ ap (wanted wait) (take-suc waiting i 0 within) ∙ wanted-last wait (take i waiting) c in
          omega arith;
      below = also_below b (length (take (i + 1) waiting)) nodes i (below_wider (length (take i waiting)) (length (take (i + 1) waiting)) nodes (omega arith) numbered.below) (omega arith);
    }
  where
    once_at : (u : ℕ) → u < i + 1 → (t : Bool) → (i == u) ≡ t →
        occurrences u (also (is_wanted wait (get_or waiting i 0)) nodes i) ≡ one_if (is_wanted wait (get_or (take (i + 1) waiting) u 0))
    once_at u lt true same =
        let w : i ≡ u = eqb-true i u same in
        let short : length (take i waiting) ≡ i = length-take-le i waiting (omega arith) in
        let none : occurrences u nodes ≡ 0 = below_none (length (take i waiting)) nodes u numbered.below (omega arith) in
        let f : occurrences u (also (is_wanted wait (get_or waiting i 0)) nodes i) ≡ occurrences u nodes + one_if (is_wanted wait (get_or waiting i 0))
        = also_same (is_wanted wait (get_or waiting i 0)) nodes i u same in
        let g : one_if (is_wanted wait (get_or (take (i + 1) waiting) u 0)) ≡ one_if (is_wanted wait (get_or waiting i 0))
        = ap (λ n. one_if (is_wanted wait n)) (get_or-take (i + 1) waiting u 0 lt ∙ ap (λ n. get_or waiting n 0) (sym w)) in
        omega arith
    once_at u lt false other =
        let ne : i ≢ u = grind (arith, nat_tests) in
        let less : u < i = omega arith in
        let short : length (take i waiting) ≡ i = length-take-le i waiting (omega arith) in
        also_other (is_wanted wait (get_or waiting i 0)) nodes i u other
        ∙ numbered.once u (omega arith)
        ∙ ap (λ n. one_if (is_wanted wait n)) (get_or-take i waiting u 0 less ∙ sym (get_or-take (i + 1) waiting u 0 lt))

-- the test of a wanted node
pub test_is : (wait : Bool) (c : ℕ) → beq (not (c == 0)) wait ≡ is_wanted wait c
test_is true c = by (c == 0)
  where
    by : (b : Bool) → beq (not b) true ≡ not b
    by true = refl
    by false = refl
test_is false c = by (c == 0)
  where
    by : (b : Bool) → beq (not b) false ≡ b
    by true = refl
    by false = refl

pub numbered_by : (wait : Bool) (waiting : List ℕ) (i : ℕ) (nodes nodes' : List ℕ) (b : Bool) → i < length waiting → AreNumbered wait (take i waiting) nodes →
    is_wanted wait (get_or waiting i 0) ≡ b → nodes' ≡ also b nodes i → AreNumbered wait (take (i + 1) waiting) nodes'
numbered_by wait waiting i nodes nodes' b within numbered is made =
    subst (λ (q : List ℕ). AreNumbered wait (take (i + 1) waiting) q) (sym (made ∙ ap (λ t. also t nodes i) (sym is))) (numbered_next wait waiting i nodes within numbered)

-- a count less one
pub released_by : (us : List ℕ) (i : ℕ) (before order now order' order'' : List ℕ) (count read : ℕ) → i < length us → get_or us i 0 < length before → CanRelease before us →
    IsReleased before order (take i us) now order' → count ≡ get_or now (get_or us i 0) count → read ≡ get_or (set now (get_or us i 0) (count - 1)) (get_or us i 0) read →
    (b : Bool) → (read == 0) ≡ b → order'' ≡ also b order' (get_or us i 0) → IsReleased before order (take (i + 1) us) (set now (get_or us i 0) (count - 1)) order''
released_by us i before order now order' order'' count read within node can released is reads b zero_is made =
    subst (λ (q : List ℕ). IsReleased before order (take (i + 1) us) (set now (get_or us i 0) (count - 1)) q) (sym made)
    (released_next us i before order now order' (count - 1) within node released suc_is b (ap (λ n. n == 0) (sym read_is) ∙ zero_is))
  where
    in_now : get_or us i 0 < length now
    in_now = let s : length now ≡ length before = released.size in omega arith

    count_is : count ≡ get_or now (get_or us i 0) 0
    count_is = is ∙ get_or_default now (get_or us i 0) count 0 in_now

    suc_is : suc (count - 1) ≡ get_or now (get_or us i 0) 0
    suc_is = let w : 1 ≤ get_or now (get_or us i 0) 0 = waits us i before order now order' within node can released in let e : count ≡ get_or now (get_or us i 0) 0 = count_is in omega arith

    read_is : read ≡ count - 1
    read_is = reads ∙ get_or-set_same now (get_or us i 0) (count - 1) read in_now
