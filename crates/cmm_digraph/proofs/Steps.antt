-- A graph that is peeled, one node after the other.
use Rattle.std.proofs.Common.{◌≡◌, ℕ, suc, zero, ◌+◌, ◌<◌, ◌≤◌, ◌==◌, Bool, true, false, not, List, [], ◌∷◌, ◌++◌, length, map, take, drop, get_or, refl, sym, ◌∙◌, ap, arith}
use Rattle.std.specs.Prelude.{nat_lt}
use Rattle.std.specs.List.{list_all, list_any}
use Rattle.std.proofs.lemmas.Bool.{and_parts, eq-eqb, lt-ltb, ltb-true}
use Rattle.std.proofs.lemmas.Bool.Decides.{nat_tests}
use Rattle.std.proofs.lemmas.List.{take-append-drop, take-append-le, take_all, length-append, length-map, get_or-map, get_or_past, get_or_default}
use Rattle.std.proofs.Math.Seq.{take-suc, drop-cons}
use Rattle.cmm_digraph.specs.Graphs.{one_if, occurrences, is_among, are_among, are_below, mentions, is_graph}
use Rattle.cmm_digraph.specs.Peeled.{IsPeeled, is_ordered}
use Rattle.cmm_digraph.specs.inside.Waiting.{wanted, zeros, missing, AreUsers, CanRelease, IsReleased, AreNumbered, IsWaiting}
use Rattle.cmm_digraph.proofs.Counting.{all_at, all_from, all_both, any_from, one_if-true, one_if-false, one_if-le, among_is, among_of, none_of, occurrences-append, below_at, wanted_either, missing-none, missing-last, missing_zero, missing_some, among_start, ordered_from, ordered_both}

-- a node that waits for nothing
zero_of : (c : ℕ) → 1 ≤ one_if (c == 0) → c ≡ 0
zero_of zero h = refl
zero_of (suc c) h = let z : one_if (suc c == 0) ≡ 0 = one_if-false (suc c == 0) (grind (arith, nat_tests)) in absurd (omega arith)

-- what has an entry is a node
node_if : (graph : List (List ℕ)) (u v : ℕ) → 1 ≤ occurrences v (mentions graph u) → u < length graph
node_if graph u v h = by (nat_lt u (length graph)) refl
  where
    by : (b : Bool) → nat_lt u (length graph) ≡ b → u < length graph
    by true e = ltb-true u (length graph) e
    by false e =
        let past : length graph ≤ u = grind (arith, nat_tests) in
        let none : occurrences v (mentions graph u) ≡ 0 = ap (occurrences v) (get_or_past graph u [] past) in absurd (omega arith)

no_mentions : (ms done : List ℕ) → length ms ≡ 0 → are_among ms done ≡ true
no_mentions [] done h = refl
no_mentions (m ∷ ms) done h = absurd (omega arith)

pub waiting_at_start : (graph : List (List ℕ)) (waiting order : List ℕ) → waiting ≡ map length graph → AreNumbered false waiting order → IsWaiting graph waiting order 0
waiting_at_start graph waiting order is numbered = record {
  size = size;
  within = omega arith;
  counts = λ u lt. counts u lt ∙ sym (missing-none (mentions graph u));
  once = λ u lt. numbered.once u (let s : length waiting ≡ length graph = size in omega arith);
  total = numbered.total;
  nodes = ap (λ n. are_below n order) (sym size) ∙ numbered.below;
  ordered = ordered_from graph [] order (all_from (λ u. are_among (mentions graph u) []) order (λ u among.
      let s : length waiting ≡ length graph = size in
      let lt : u < length waiting = below_at (length waiting) order u numbered.below among in
      let once : occurrences u order ≡ one_if (get_or waiting u 0 == 0) = numbered.once u lt in
      let some : 1 ≤ occurrences u order = among_is u order among in
      no_mentions (mentions graph u) [] (sym (counts u (omega arith)) ∙ zero_of (get_or waiting u 0) (omega arith))));
}
  where
    size : length waiting ≡ length graph
    size = ap length is ∙ length-map graph length

    counts : (u : ℕ) → u < length graph → get_or waiting u 0 ≡ length (mentions graph u)
    counts u lt = ap (λ w. get_or w u 0) is ∙ get_or-map length graph u [] 0 lt

-- there are no more nodes to do than there are nodes
pub order_within : (graph : List (List ℕ)) (waiting order : List ℕ) (head : ℕ) → IsWaiting graph waiting order head → length order ≤ length graph
order_within graph waiting order head is =
    let a : length order ≡ zeros waiting = is.total in
    let b : wanted true waiting + wanted false waiting ≡ length waiting = wanted_either waiting in
    let c : length waiting ≡ length graph = is.size in omega arith

pub head_node : (graph : List (List ℕ)) (waiting order : List ℕ) (head : ℕ) → IsWaiting graph waiting order head → head < length order → get_or order head 0 < length graph
head_node graph waiting order head is lt = below_at (length graph) order (get_or order head 0) is.nodes (among_of (get_or order head 0) order (
    let v = get_or order head 0 in
    let parts : occurrences v order ≡ occurrences v (take head order) + occurrences v (drop head order)
    = ap (occurrences v) (sym (take-append-drop head order)) ∙ occurrences-append v (take head order) (drop head order) in
    let rest : occurrences v (drop head order) ≡ one_if (v == v) + occurrences v (drop (suc head) order) = ap (occurrences v) (drop-cons order head 0 lt) in
    let one : one_if (v == v) ≡ 1 = one_if-true (v == v) (eq-eqb v v refl) in omega arith))

-- a node that is to be done is not done
not_done : (graph : List (List ℕ)) (waiting order : List ℕ) (head : ℕ) → IsWaiting graph waiting order head → head < length order → is_among (get_or order head 0) (take head order) ≡ false
not_done graph waiting order head is lt = none_of (get_or order head 0) (take head order) (
    let v = get_or order head 0 in
    let parts : occurrences v order ≡ occurrences v (take head order) + occurrences v (drop head order)
    = ap (occurrences v) (sym (take-append-drop head order)) ∙ occurrences-append v (take head order) (drop head order) in
    let rest : occurrences v (drop head order) ≡ one_if (v == v) + occurrences v (drop (suc head) order) = ap (occurrences v) (drop-cons order head 0 lt) in
    let one : one_if (v == v) ≡ 1 = one_if-true (v == v) (eq-eqb v v refl) in
    let once : occurrences v order ≡ one_if (get_or waiting v 0 == 0) = is.once v (head_node graph waiting order head is lt) in
    let most : one_if (get_or waiting v 0 == 0) ≤ 1 = one_if-le (get_or waiting v 0 == 0) in omega arith)

pub can_release : (graph users : List (List ℕ)) (waiting order : List ℕ) (head : ℕ) → IsWaiting graph waiting order head → AreUsers graph users → head < length order →
    CanRelease waiting (mentions users (get_or order head 0))
can_release graph users waiting order head is are lt = let v = get_or order head 0 in let node = head_node graph waiting order head is lt in record {
  nodes = all_from (λ n. nat_lt n (length waiting)) (mentions users v) (λ u among.
      let some : 1 ≤ occurrences u (mentions users v) = among_is u (mentions users v) among in
      let same : occurrences u (mentions users v) ≡ occurrences v (mentions graph u) = are v u node in
      let within : u < length graph = node_if graph u v (omega arith) in
      let size : length waiting ≡ length graph = is.size in lt-ltb u (length waiting) (omega arith));
  often = λ u within.
      let size : length waiting ≡ length graph = is.size in
      let same : occurrences u (mentions users v) ≡ occurrences v (mentions graph u) = are v u node in
      let counts : get_or waiting u 0 ≡ missing (take head order) (mentions graph u) = is.counts u (omega arith) in
      let last : missing (take head order ++ v ∷ []) (mentions graph u) + occurrences v (mentions graph u) ≡ missing (take head order) (mentions graph u)
      = missing-last (take head order) v (mentions graph u) (not_done graph waiting order head is lt) in omega arith;
}

-- the head is done
pub waiting_next : (graph users : List (List ℕ)) (waiting order waiting' order' : List ℕ) (head : ℕ) → IsWaiting graph waiting order head → AreUsers graph users → head < length order →
    IsReleased waiting order (mentions users (get_or order head 0)) waiting' order' → IsWaiting graph waiting' order' (head + 1)
waiting_next graph users waiting order waiting' order' head is are lt released = record {
  size = released.size ∙ is.size;
  within = let long : length order' ≡ length order + length released.more = ap length released.grown ∙ length-append order released.more in omega arith;
  counts = counts;
  once = once;
  total =
      let a : length order' + zeros waiting ≡ length order + zeros waiting' = released.total in
      let b : length order ≡ zeros waiting = is.total in omega arith;
  nodes = ap (are_below (length graph)) released.grown ∙ all_both (λ n. nat_lt n (length graph)) order released.more is.nodes (ap (λ n. are_below n released.more) (sym is.size) ∙ released.nodes);
  ordered = ap (is_ordered graph []) released.grown ∙ ordered_both graph order released.more is.ordered (ordered_from graph order released.more
      (all_from (λ u. are_among (mentions graph u) order) released.more freed));
}
  where
    done' : take (head + 1) order' ≡ take head order ++ get_or order head 0 ∷ []
    done' = let e : head + 1 ≡ suc head = omega arith in
        ap (take (head + 1)) released.grown ∙ take-append-le (head + 1) order released.more (omega arith) ∙ ap (λ k. take k order) e ∙ take-suc order head 0 lt

    counts : (u : ℕ) → u < length graph → get_or waiting' u 0 ≡ missing (take (head + 1) order') (mentions graph u)
    counts u within =
        let size : length waiting ≡ length graph = is.size in
        let old : get_or waiting u 0 ≡ missing (take head order) (mentions graph u) = is.counts u within in
        let new : get_or waiting' u 0 + occurrences u (mentions users (get_or order head 0)) ≡ get_or waiting u 0 = released.counts u (omega arith) in
        let same : occurrences u (mentions users (get_or order head 0)) ≡ occurrences (get_or order head 0) (mentions graph u)
        = are (get_or order head 0) u (head_node graph waiting order head is lt) in
        let last : missing (take head order ++ get_or order head 0 ∷ []) (mentions graph u) + occurrences (get_or order head 0) (mentions graph u) ≡ missing (take head order) (mentions graph u)
        = missing-last (take head order) (get_or order head 0) (mentions graph u) (not_done graph waiting order head is lt) in
        let all : missing (take (head + 1) order') (mentions graph u) ≡ missing (take head order ++ get_or order head 0 ∷ []) (mentions graph u) = ap (λ q. missing q (mentions graph u)) done' in
        omega arith

    once : (u : ℕ) → u < length graph → occurrences u order' ≡ one_if (get_or waiting' u 0 == 0)
    once u within =
        let size : length waiting ≡ length graph = is.size in
        let old : occurrences u order ≡ one_if (get_or waiting u 0 == 0) = is.once u within in
        let new : occurrences u order' + one_if (get_or waiting u 0 == 0) ≡ occurrences u order + one_if (get_or waiting' u 0 == 0) = released.freed u (omega arith) in
        omega arith

    freed : (u : ℕ) → is_among u released.more ≡ true → are_among (mentions graph u) order ≡ true
    freed u among =
        let size : length waiting ≡ length graph = is.size in
        let within : u < length waiting = below_at (length waiting) released.more u released.nodes among in
        let some : 1 ≤ occurrences u released.more = among_is u released.more among in
        let parts : occurrences u order' ≡ occurrences u order + occurrences u released.more = ap (occurrences u) released.grown ∙ occurrences-append u order released.more in
        let one : occurrences u order' ≡ one_if (get_or waiting' u 0 == 0) = once u (omega arith) in
        let none : get_or waiting' u 0 ≡ 0 = zero_of (get_or waiting' u 0) (omega arith) in
        let e : head + 1 ≡ suc head = omega arith in
        let done : take (head + 1) order' ≡ take (head + 1) order = ap (take (head + 1)) released.grown ∙ take-append-le (head + 1) order released.more (omega arith) in
        let all : are_among (mentions graph u) (take (head + 1) order) ≡ true =
        missing_zero (take (head + 1) order) (mentions graph u) (ap (λ q. missing q (mentions graph u)) (sym done) ∙ sym (counts u (omega arith)) ∙ none) in
        all_from (λ n. is_among n order) (mentions graph u) (λ n in_it.
        ap (is_among n) (sym (take-append-drop (head + 1) order)) ∙ among_start n (take (head + 1) order) (drop (head + 1) order) (all_at (λ w. is_among w (take (head + 1) order)) (mentions graph u) n all in_it))

rows : (size : ℕ) (rest : List (List ℕ)) (k : ℕ) → list_all (are_below size) rest ≡ true → k < length rest → are_below size (mentions rest k) ≡ true
rows size [] k h lt = absurd (omega arith)
rows size (ms ∷ rest) zero h lt = (and_parts (are_below size ms) (list_all (are_below size) rest) h).0
rows size (ms ∷ rest) (suc k) h lt = rows size rest k (and_parts (are_below size ms) (list_all (are_below size) rest) h).1 (omega arith)

no_occurrences : (m : ℕ) (xs : List ℕ) → is_among m xs ≡ false → occurrences m xs ≡ 0
no_occurrences m xs h = by (occurrences m xs) refl
  where
    by : (n : ℕ) → occurrences m xs ≡ n → n ≡ 0
    by zero e = refl
    by (suc n) e = let t : is_among m xs ≡ true = among_of m xs (omega arith) in let no : false ≡ true = sym h ∙ t in cc

-- nothing is left to do
pub peeled_at_end : (graph : List (List ℕ)) (waiting order left : List ℕ) (head : ℕ) → is_graph graph ≡ true → IsWaiting graph waiting order head → length order ≤ head →
    AreNumbered true waiting left → IsPeeled graph order left
peeled_at_end graph waiting order left head nodes is ended numbered = record {
  once = once;
  nodes = all_both (λ n. nat_lt n (length graph)) order left is.nodes (ap (λ n. are_below n left) (sym is.size) ∙ numbered.below);
  all =
      let a : length order ≡ zeros waiting = is.total in
      let b : length left ≡ wanted true waiting = numbered.total in
      let c : wanted true waiting + wanted false waiting ≡ length waiting = wanted_either waiting in
      let d : length waiting ≡ length graph = is.size in omega arith;
  ordered = is.ordered;
  stuck = all_from (λ v. list_any (λ m. is_among m left) (mentions graph v)) left (λ v among.
      let size : length waiting ≡ length graph = is.size in
      let within : v < length waiting = below_at (length waiting) left v numbered.below among in
      let some : 1 ≤ occurrences v left = among_is v left among in
      let wait : occurrences v left ≡ one_if (not (get_or waiting v 0 == 0)) = numbered.once v within in
      let counts : get_or waiting v 0 ≡ missing (take head order) (mentions graph v) = is.counts v (omega arith) in
      let all : missing (take head order) (mentions graph v) ≡ missing order (mentions graph v) = ap (λ q. missing q (mentions graph v)) (take_all head order ended) in
      let found : (m : ℕ) × (is_among m (mentions graph v) ≡ true) × (is_among m order ≡ false)
      = missing_some order (mentions graph v) (let a : 1 ≤ get_or waiting v 0 = waits (get_or waiting v 0) (omega arith) in omega arith) in
      any_from (λ m. is_among m left) (mentions graph v) found.0 found.1 (among_of found.0 left (
      let node : found.0 < length graph = mentioned v (omega arith) found.0 found.1 in
      let e : occurrences found.0 order + occurrences found.0 left ≡ 1 = once found.0 node in
      let none : occurrences found.0 order ≡ 0 = no_occurrences found.0 order found.2 in omega arith)));
}
  where
    one_or : (b : Bool) → one_if b + one_if (not b) ≡ 1
    one_or true = refl
    one_or false = refl

    once : (v : ℕ) → v < length graph → occurrences v order + occurrences v left ≡ 1
    once v within =
        let size : length waiting ≡ length graph = is.size in
        let a : occurrences v order ≡ one_if (get_or waiting v 0 == 0) = is.once v within in
        let b : occurrences v left ≡ one_if (not (get_or waiting v 0 == 0)) = numbered.once v (omega arith) in
        let c : one_if (get_or waiting v 0 == 0) + one_if (not (get_or waiting v 0 == 0)) ≡ 1 = one_or (get_or waiting v 0 == 0) in omega arith

    waits : (c : ℕ) → 1 ≤ one_if (not (c == 0)) → 1 ≤ c
    waits zero h = absurd (omega arith)
    waits (suc c) h = omega arith

    mentioned : (v : ℕ) → v < length graph → (m : ℕ) → is_among m (mentions graph v) ≡ true → m < length graph
    mentioned v within m among = below_at (length graph) (mentions graph v) m (rows (length graph) graph v nodes within) among

-- the users of the head, as they are read
pub head_users : (users : List (List ℕ)) (read order : List ℕ) (head : ℕ) (row us : List ℕ) → read ≡ order → row ≡ get_or users (get_or read head 0) row → us ≡ row →
    get_or order head 0 < length users → us ≡ mentions users (get_or order head 0)
head_users users read order head row us same is taken within =
    taken ∙ is ∙ ap (λ q. get_or users (get_or q head 0) row) same ∙ get_or_default users (get_or order head 0) row [] within
