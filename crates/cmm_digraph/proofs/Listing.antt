-- Who mentions a node, as the lists of users grow.
use Rattle.std.proofs.Common.{◌≡◌, ◌≢◌, ℕ, suc, zero, ◌+◌, ◌<◌, ◌==◌, Bool, true, false, List, [], ◌∷◌, ◌++◌, length, take, set, get_or, refl, sym, ◌∙◌, ap, arith}
use Rattle.std.proofs.lemmas.Bool.{eqb-true, eq-eqb}
use Rattle.std.proofs.lemmas.Bool.Decides.{nat_tests}
use Rattle.std.proofs.lemmas.List.{get_or-set_same, get_or-set_other, get_or-replicate, length-set}
use Rattle.std.proofs.Math.Seq.{take-suc}
use Rattle.cmm_digraph.specs.Graphs.{one_if, occurrences, mentions}
use Rattle.cmm_digraph.specs.inside.Listed.{given, AreAdded, nobody}
use Rattle.cmm_digraph.proofs.Counting.{occurrences-last}

given-plus : (b : Bool) (x y : ℕ) → given b (x + y) ≡ given b x + given b y
given-plus true x y = refl
given-plus false x y = refl

given-one : (b c : Bool) → given b (one_if c) ≡ given c (one_if b)
given-one true true = refl
given-one true false = refl
given-one false true = refl
given-one false false = refl

given-zero : (b : Bool) → given b 0 ≡ 0
given-zero true = refl
given-zero false = refl

pub none_added : (user : ℕ) (users : List (List ℕ)) → AreAdded user [] users users
none_added user users = record {
  size = refl;
  counts = λ v u within. let z : given (user == u) 0 ≡ 0 = given-zero (user == u) in omega arith;
}

-- the users of a node after one more was added to those of a node
pushed : (user m v u : ℕ) (users : List (List ℕ)) → m < length users →
    occurrences u (mentions (set users m (get_or users m [] ++ user ∷ [])) v) ≡ occurrences u (mentions users v) + given (m == v) (one_if (user == u))
pushed user m v u users within = by (m == v) refl
  where
    by : (b : Bool) → (m == v) ≡ b → occurrences u (mentions (set users m (get_or users m [] ++ user ∷ [])) v) ≡ occurrences u (mentions users v) + given b (one_if (user == u))
    by true e = let same : m ≡ v = eqb-true m v e in
        ap (λ n. occurrences u (mentions (set users m (get_or users m [] ++ user ∷ [])) n)) (sym same)
        ∙ ap (occurrences u) (get_or-set_same users m (get_or users m [] ++ user ∷ []) [] within)
        ∙ occurrences-last u (get_or users m []) user
        ∙ ap (λ n. occurrences u (mentions users n) + one_if (user == u)) same
    by false e = let other : v ≢ m = grind (arith, nat_tests) in
        let same : occurrences u (mentions (set users m (get_or users m [] ++ user ∷ [])) v) ≡ occurrences u (mentions users v)
        = ap (occurrences u) (get_or-set_other users m v (get_or users m [] ++ user ∷ []) [] other) in omega arith

pub added_next : (user : ℕ) (ms : List ℕ) (i : ℕ) (before users users' : List (List ℕ)) → i < length ms → get_or ms i 0 < length before → AreAdded user (take i ms) before users →
    users' ≡ set users (get_or ms i 0) (get_or users (get_or ms i 0) [] ++ user ∷ []) → AreAdded user (take (i + 1) ms) before users'
added_next user ms i before users users' within node added is = let m = get_or ms i 0 in let e : i + 1 ≡ suc i = omega arith in record {
  size = ap length is ∙ length-set users m (get_or users m [] ++ user ∷ []) ∙ added.size;
  counts = λ v u lt.
      let one : occurrences u (mentions (set users m (get_or users m [] ++ user ∷ [])) v) ≡ occurrences u (mentions users v) + given (m == v) (one_if (user == u))
      = pushed user m v u users (let s : length users ≡ length before = added.size in omega arith) in
      let old : occurrences u (mentions users v) ≡ occurrences u (mentions before v) + given (user == u) (occurrences v (take i ms)) = added.counts v u lt in
      let swap : given (m == v) (one_if (user == u)) ≡ given (user == u) (one_if (m == v)) = given-one (m == v) (user == u) in
      let plus : given (user == u) (occurrences v (take i ms) + one_if (m == v)) ≡ given (user == u) (occurrences v (take i ms)) + given (user == u) (one_if (m == v))
      = given-plus (user == u) (occurrences v (take i ms)) (one_if (m == v)) in
      let more : occurrences v (take (i + 1) ms) ≡ occurrences v (take i ms) + one_if (m == v)
      = ap (λ k. occurrences v (take k ms)) e ∙ ap (occurrences v) (take-suc ms i 0 within) ∙ occurrences-last v (take i ms) m in
      let all : given (user == u) (occurrences v (take (i + 1) ms)) ≡ given (user == u) (occurrences v (take i ms) + one_if (m == v)) = ap (given (user == u)) more in
      ap (λ q. occurrences u (mentions q v)) is ∙ omega arith;
}

-- ---- all nodes

zero_suc : (u : ℕ) → (0 == suc u) ≡ false
zero_suc u = grind (arith, nat_tests)

suc_zero : (u : ℕ) → (suc u == 0) ≡ false
suc_zero u = grind (arith, nat_tests)

both_suc : (k u : ℕ) → (suc k == suc u) ≡ (k == u)
both_suc k u = by (k == u) refl
  where
    by : (b : Bool) → (k == u) ≡ b → (suc k == suc u) ≡ b
    by true e = eq-eqb (suc k) (suc u) (ap suc (eqb-true k u e))
    by false e = grind (arith, nat_tests)

taken : (graph : List (List ℕ)) (k u v : ℕ) → k < length graph →
    occurrences v (mentions (take (suc k) graph) u) ≡ occurrences v (mentions (take k graph) u) + given (k == u) (occurrences v (mentions graph k))
taken [] k u v within = absurd (omega arith)
taken (ms ∷ graph) zero zero v within = omega arith
taken (ms ∷ graph) zero (suc u) v within = let z : given (0 == suc u) (occurrences v ms) ≡ 0 = ap (λ b. given b (occurrences v ms)) (zero_suc u) in omega arith
taken (ms ∷ graph) (suc k) zero v within = let z : given (suc k == 0) (occurrences v (mentions graph k)) ≡ 0 = ap (λ b. given b (occurrences v (mentions graph k))) (suc_zero k) in omega arith
taken (ms ∷ graph) (suc k) (suc u) v within =
    taken graph k u v (omega arith) ∙ ap (λ b. occurrences v (mentions (take k graph) u) + given b (occurrences v (mentions graph k))) (sym (both_suc k u))

pub users_next : (graph users users' : List (List ℕ)) (k : ℕ) → k < length graph → length users ≡ length graph →
    ((v u : ℕ) → v < length graph → occurrences u (mentions users v) ≡ occurrences v (mentions (take k graph) u)) → AreAdded k (get_or graph k []) users users' →
    (v u : ℕ) → v < length graph → occurrences u (mentions users' v) ≡ occurrences v (mentions (take (k + 1) graph) u)
users_next graph users users' k within size old added v u lt =
    let e : k + 1 ≡ suc k = omega arith in
    let before : occurrences u (mentions users v) ≡ occurrences v (mentions (take k graph) u) = old v u lt in
    let new : occurrences u (mentions users' v) ≡ occurrences u (mentions users v) + given (k == u) (occurrences v (mentions graph k)) = added.counts v u (omega arith) in
    let all : occurrences v (mentions (take (k + 1) graph) u) ≡ occurrences v (mentions (take k graph) u) + given (k == u) (occurrences v (mentions graph k))
    = ap (λ n. occurrences v (mentions (take n graph) u)) e ∙ taken graph k u v within in
    omega arith

pub no_users : (graph : List (List ℕ)) (v u : ℕ) → v < length graph → occurrences u (mentions (nobody (length graph)) v) ≡ occurrences v (mentions (take 0 graph) u)
no_users graph v u lt = ap (occurrences u) (get_or-replicate (length graph) v [] [] lt)
