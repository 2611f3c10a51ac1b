-- Ways of more steps than there are nodes can be made shorter.
use Rattle.std.proofs.Common.{◌≡◌, ℕ, suc, zero, ◌+◌, ◌<◌, ◌≤◌, ◌==◌, Bool, true, false, ◌||◌, inl, inr, ◌⊎◌, List, [], ◌∷◌, length, refl, sym, ◌∙◌, ap, arith}
use Rattle.std.specs.Prelude.{nat_lt}
use Rattle.std.specs.List.{list_all}
use Rattle.std.proofs.lemmas.Bool.{and_parts, or_cases, ltb-true, eqb-true, eq-eqb, or_right, or_left}
use Rattle.std.proofs.lemmas.Bool.Decides.{nat_tests}
use Rattle.cmm_digraph.specs.Graphs.{one_if, is_among, is_graph, are_below, mentions}
use Rattle.cmm_digraph.proofs.Counting.{all_at, any_from}
use Rattle.cmm_digraph.proofs.Evaluating.{any_at}
use Rattle.cmm_digraph.specs.Reaching.{reaches}
use Rattle.cmm_digraph.proofs.Leading.{leads_more}

-- ---- how many numbers below one pass a test

passing : (ℕ → Bool) → ℕ → ℕ
passing p zero = 0
passing p (suc n) = one_if (p n) + passing p n

one_most : (b : Bool) → one_if b ≤ 1
one_most true = omega arith
one_most false = omega arith

passing_most : (p : ℕ → Bool) (n : ℕ) → passing p n ≤ n
unfolding passing
passing_most p zero = omega arith
passing_most p (suc n) = let a : passing p n ≤ n = passing_most p n in let b : one_if (p n) ≤ 1 = one_most (p n) in omega arith

passing_all : (p : ℕ → Bool) (n : ℕ) → n ≤ passing p n → (x : ℕ) → x < n → p x ≡ true
unfolding passing
passing_all p zero most x lt = absurd (omega arith)
passing_all p (suc n) most x lt = by (λ le below. passing_all p n le x below) (p n) refl (x == n) refl
  where
    by : (n ≤ passing p n → x < n → p x ≡ true) → (b : Bool) → p n ≡ b → (c : Bool) → (x == n) ≡ c → p x ≡ true
    by before true e true same = let s : x ≡ n = eqb-true x n same in ap p s ∙ e
    by before true e false other = let a : one_if (p n) ≡ 1 = ap one_if e in before (omega arith) (grind (arith, nat_tests))
    by before false e c same = let a : one_if (p n) ≡ 0 = ap one_if e in let b : passing p n ≤ n = passing_most p n in absurd (omega arith)

module _ (p q : ℕ → Bool) (wider : (x : ℕ) → p x ≡ true → q x ≡ true) where
  one_wider : (n : ℕ) → one_if (p n) ≤ one_if (q n)
  one_wider n = by (p n) refl
    where
      by : (b : Bool) → p n ≡ b → one_if b ≤ one_if (q n)
      by true e = let a : one_if (q n) ≡ 1 = ap one_if (wider n e) in omega arith
      by false e = omega arith

  passing_wider : (n : ℕ) → passing p n ≤ passing q n
  unfolding passing
  passing_wider zero = omega arith
  passing_wider (suc n) = let a : passing p n ≤ passing q n = passing_wider n in let b : one_if (p n) ≤ one_if (q n) = one_wider n in omega arith

  -- there are more that pass a wider test, or the same ones do
  more_or_same : (n : ℕ) → (passing p n < passing q n) ⊎ ((x : ℕ) → x < n → q x ≡ true → p x ≡ true)
  unfolding passing
  more_or_same zero = inr (λ x lt h. absurd (omega arith))
  more_or_same (suc n) = by (more_or_same n) (p n) (q n) refl refl
    where
      at_last : (b : Bool) → p n ≡ b → q n ≡ b → ((x : ℕ) → x < n → q x ≡ true → p x ≡ true) → (x : ℕ) → x < suc n → q x ≡ true → p x ≡ true
      at_last b e f before x lt h = last (x == n) refl
        where
          last : (c : Bool) → (x == n) ≡ c → p x ≡ true
          last true same = let s : x ≡ n = eqb-true x n same in ap p s ∙ e ∙ sym f ∙ ap q (sym s) ∙ h
          last false other = before x (grind (arith, nat_tests)) h

      by : (passing p n < passing q n) ⊎ ((x : ℕ) → x < n → q x ≡ true → p x ≡ true) → (b c : Bool) → p n ≡ b → q n ≡ c →
          (one_if (p n) + passing p n < one_if (q n) + passing q n) ⊎ ((x : ℕ) → x < suc n → q x ≡ true → p x ≡ true)
      by (inl more) b c e f = let a : one_if (p n) ≤ one_if (q n) = one_wider n in inl (omega arith)
      by (inr same) true true e f = inr (at_last true e f same)
      by (inr same) false false e f = inr (at_last false e f same)
      by (inr same) true false e f = let g : false ≡ true = sym f ∙ wider n e in cc
      by (inr same) false true e f =
          let a : one_if (p n) ≡ 0 = ap one_if e in let b : one_if (q n) ≡ 1 = ap one_if f in let c : passing p n ≤ passing q n = passing_wider n in inl (omega arith)

-- ---- in n steps a node is led to, or in no number of them

row_at : (size : ℕ) (rows : List (List ℕ)) (v : ℕ) → list_all (are_below size) rows ≡ true → are_below size (mentions rows v) ≡ true
row_at size [] v all = refl
row_at size (row ∷ rows) zero all = (and_parts (are_below size row) (list_all (are_below size) rows) all).0
row_at size (row ∷ rows) (suc v) all = row_at size rows v (and_parts (are_below size row) (list_all (are_below size) rows) all).1

-- what nodes mention are nodes
pub mentions_below : (graph : List (List ℕ)) → is_graph graph ≡ true → (v : ℕ) → are_below (length graph) (mentions graph v) ≡ true
mentions_below graph is v = row_at (length graph) graph v is

pub mention_below : (graph : List (List ℕ)) → is_graph graph ≡ true → (v m : ℕ) → is_among m (mentions graph v) ≡ true → m < length graph
mention_below graph is v m among = ltb-true m (length graph) (all_at (λ n. nat_lt n (length graph)) (mentions graph v) m (mentions_below graph is v) among)

module _ (graph : List (List ℕ)) (is : is_graph graph ≡ true) (node : ℕ) where
  abbrev leads : ℕ → ℕ → Bool
  leads count n = (n == node) || reaches graph count node (mentions graph n)

  leads_wider : (count n : ℕ) → leads count n ≡ true → leads (suc count) n ≡ true
  leads_wider count n h = elim (or_cases (n == node) (reaches graph count node (mentions graph n)) h) [
    | inl same ↦ or_left (n == node) (reaches graph (suc count) node (mentions graph n)) same
    | inr later ↦ or_right (n == node) (reaches graph (suc count) node (mentions graph n)) (leads_more graph count node (mentions graph n) later)
  ]

  abbrev AreAll : ℕ → Type 0
  AreAll count = (more n : ℕ) → n < length graph → leads more n ≡ true → leads count n ≡ true

  -- where a step more leads from no other node, no more of them do
  stays : (count : ℕ) → ((n : ℕ) → n < length graph → leads (suc count) n ≡ true → leads count n ≡ true) → AreAll count
  stays count same zero n within h = elim (or_cases (n == node) false h) [
    | inl here ↦ or_left (n == node) (reaches graph count node (mentions graph n)) here
    | inr none ↦ cc
  ]
  stays count same (suc more) n within h = elim (or_cases (n == node) (reaches graph (suc more) node (mentions graph n)) h) [
    | inl here ↦ or_left (n == node) (reaches graph count node (mentions graph n)) here
    | inr later ↦
        let at : (m : ℕ) × (is_among m (mentions graph n) ≡ true) × (leads more m ≡ true) = any_at (leads more) (mentions graph n) later in
        same n within (or_right (n == node) (reaches graph (suc count) node (mentions graph n))
        (any_from (leads count) (mentions graph n) at.0 at.1 (stays count same more at.0 (mention_below graph is n at.0 at.1) at.2)))
  ]

  all_later : (count : ℕ) → AreAll count → AreAll (suc count)
  all_later count all more n within h = leads_wider count n (all more n within h)

  module _ (within : node < length graph) where
    counted : (count : ℕ) → (suc count ≤ passing (leads count) (length graph)) ⊎ AreAll count
    counted zero = elim (more_or_same (λ _. false) (leads 0) (λ x h. cc) (length graph)) [
      | inl more ↦ inl (omega arith)
      | inr none ↦ let f : false ≡ true = none node within (or_left (node == node) false (eq-eqb node node refl)) in cc
    ]
    counted (suc count) = elim (counted count) [
      | inl many ↦
          elim (more_or_same (leads count) (leads (suc count)) (leads_wider count) (length graph)) [
            | inl more ↦ inl (omega arith)
            | inr same ↦ inr (all_later count (stays count same))
          ]
      | inr all ↦ inr (all_later count all)
    ]

    all_at_size : (size : ℕ) → length graph ≡ suc size → AreAll size
    all_at_size size is_size = elim (counted size) [
      | inl many ↦ λ more n lt h. passing_all (leads size) (length graph) (omega arith) n lt
      | inr all ↦ all
    ]

    -- as many steps as there are nodes are enough
    pub shorter : (count : ℕ) (from : List ℕ) → ((n : ℕ) → is_among n from ≡ true → n < length graph) → reaches graph count node from ≡ true → reaches graph (length graph) node from ≡ true
    shorter zero from below h = cc
    shorter (suc count) from below h =
        let at : (n : ℕ) × (is_among n from ≡ true) × (leads count n ≡ true) = any_at (leads count) from h in by at (length graph) refl
      where
        by : (n : ℕ) × (is_among n from ≡ true) × (leads count n ≡ true) → (size : ℕ) → length graph ≡ size → reaches graph size node from ≡ true
        by at zero none = absurd (omega arith)
        by at (suc size) some = any_from (leads size) from at.0 at.1 (all_at_size size some count at.0 (below at.0 at.1) at.2)
