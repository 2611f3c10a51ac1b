-- What is computed of nodes from what is computed of those that they mention: along the order each value is final, and what is left stays as it begins.
use Rattle.std.proofs.Common.{◌≡◌, ◌≢◌, ℕ, suc, zero, ◌+◌, ◌-◌, ◌<◌, ◌≤◌, ◌==◌, Bool, true, false, ◌||◌, ◌&&◌, ◌⊎◌, inl, inr, List, [], ◌∷◌, ◌++◌, length, take, set, get_or, refl, sym, ◌∙◌, ap, subst, append_assoc, append-nil, arith}
use Rattle.std.specs.List.{list_all, list_any}
use Rattle.std.proofs.lemmas.Bool.{and_parts, or_cases, eqb-true, eq-eqb, or_right, or_parts}
use Rattle.std.proofs.lemmas.Bool.Decides.{nat_tests}
use Rattle.std.proofs.lemmas.List.{length-append, get_or-set_same, get_or-set_other, get_or_past, length-set}
use Rattle.std.proofs.Math.Seq.{take-suc}
use Rattle.cmm_digraph.specs.Graphs.{occurrences, is_among, are_among, mentions}
use Rattle.cmm_digraph.specs.Peeled.{IsPeeled, is_ordered, is_stuck}
use Rattle.cmm_digraph.proofs.Counting.{all_at, among_of, among_first, none_of, among-last, among_start}

-- what passes a test, where something does
pub any_at : (p : ℕ → Bool) (xs : List ℕ) → list_any p xs ≡ true → (m : ℕ) × (is_among m xs ≡ true) × (p m ≡ true)
any_at p [] h = cc
any_at p (x ∷ xs) h = elim (or_cases (p x) (list_any p xs) h) [
  | inl here ↦ (x, among_first x xs, here)
  | inr there ↦ later (any_at p xs there)
]
  where
    later : ((m : ℕ) × (is_among m xs ≡ true) × (p m ≡ true)) → (m : ℕ) × (is_among m (x ∷ xs) ≡ true) × (p m ≡ true)
    later r = (r.0, or_later (x == r.0) (is_among r.0 xs) r.1, r.2)
      where
        or_later : (b c : Bool) → c ≡ true → (b || c) ≡ true
        or_later true c e = refl
        or_later false c e = e

-- a value depends on those of what its node mentions alone
abbrev pub IsLocal : {X : Type 0} → List (List ℕ) → ((ℕ → X) → ℕ → X) → Type 0
IsLocal {X} graph next = (w w' : ℕ → X) (v : ℕ) → ((m : ℕ) → is_among m (mentions graph v) ≡ true → w m ≡ w' m) → next w v ≡ next w' v

-- values after n steps
abbrev pub AreSteps : {X : Type 0} → ((ℕ → X) → ℕ → X) → (ℕ → ℕ → X) → Type 0
AreSteps next value = (c v : ℕ) → value (suc c) v ≡ next (value c) v

module _ {X : Type 0} (graph : List (List ℕ)) (next : (ℕ → X) → ℕ → X) (value : ℕ → ℕ → X) where
  abbrev AreFinal : List ℕ → Type 0
  AreFinal vs = (v : ℕ) → is_among v vs ≡ true → (c : ℕ) → length vs ≤ c → value (suc c) v ≡ value c v

  final_next : IsLocal graph next → AreSteps next value → (before : List ℕ) (v : ℕ) → are_among (mentions graph v) before ≡ true → AreFinal before → AreFinal (before ++ v ∷ [])
  final_next local steps before v among final u in_it c le =
      let long : length (before ++ v ∷ []) ≡ length before + 1 = length-append before (v ∷ []) in
      elim (or_cases (is_among u before) (v == u) (sym (among-last u before v) ∙ in_it)) [
        | inl old ↦ final u old c (omega arith)
        | inr new ↦ subst (λ (n : ℕ). value (suc c) n ≡ value c n) (eqb-true v u new) (own c (omega arith))
      ]
    where
      own : (c : ℕ) → length before + 1 ≤ c → value (suc c) v ≡ value c v
      own zero le = absurd (omega arith)
      own (suc c) le = steps (suc c) v ∙ local (value (suc c)) (value c) v (λ m in_m. final m (all_at (λ n. is_among n before) (mentions graph v) m among in_m) c (omega arith)) ∙ sym (steps c v)

  final_from : IsLocal graph next → AreSteps next value → (before vs : List ℕ) → AreFinal before → is_ordered graph before vs ≡ true → AreFinal (before ++ vs)
  final_from local steps before [] final h = subst (λ (q : List ℕ). AreFinal q) (sym (append-nil before)) final
  final_from local steps before (v ∷ vs) final h =
      let parts : (are_among (mentions graph v) before ≡ true) × (is_ordered graph (before ++ v ∷ []) vs ≡ true)
      = and_parts (are_among (mentions graph v) before) (is_ordered graph (before ++ v ∷ []) vs) h in
      subst (λ (q : List ℕ). AreFinal q) (append_assoc before (v ∷ []) vs)
      (final_from local steps (before ++ v ∷ []) vs (final_next local steps before v parts.0 final) parts.1)

  -- along an order values are final after as many steps as there are nodes
  pub final_in_order : IsLocal graph next → AreSteps next value → (order : List ℕ) → is_ordered graph [] order ≡ true → (v : ℕ) → is_among v order ≡ true → (c : ℕ) → length order ≤ c →
      value (suc c) v ≡ value c v
  final_in_order local steps order h = final_from local steps [] order (λ v none. cc) h

  -- what is left stays as it begins, where a node keeps that from what it mentions
  pub left_as_begun : AreSteps next value → (start : X) → ((v : ℕ) → value 0 v ≡ start) → ((w : ℕ → X) (v m : ℕ) → is_among m (mentions graph v) ≡ true → w m ≡ start → next w v ≡ start) →
      (left : List ℕ) → is_stuck graph left ≡ true → (c v : ℕ) → is_among v left ≡ true → value c v ≡ start
  left_as_begun steps start begun strict left stuck zero v among = begun v
  left_as_begun steps start begun strict left stuck (suc c) v among =
      let found : (m : ℕ) × (is_among m (mentions graph v) ≡ true) × (is_among m left ≡ true)
      = any_at (λ m. is_among m left) (mentions graph v) (all_at (λ u. list_any (λ m. is_among m left) (mentions graph u)) left v stuck among) in
      steps c v ∙ strict (value c) v found.0 found.1 (left_as_begun steps start begun strict left stuck c found.0 found.2)

-- ---- values in a list, set node by node along the order

ordered_at : (graph : List (List ℕ)) (before order : List ℕ) (k : ℕ) → is_ordered graph before order ≡ true → k < length order →
    are_among (mentions graph (get_or order k 0)) (before ++ take k order) ≡ true
ordered_at graph before [] k h lt = absurd (omega arith)
ordered_at graph before (v ∷ vs) zero h lt =
    ap (are_among (mentions graph v)) (append-nil before) ∙ (and_parts (are_among (mentions graph v) before) (is_ordered graph (before ++ v ∷ []) vs) h).0
ordered_at graph before (v ∷ vs) (suc k) h lt =
    ap (are_among (mentions graph (get_or vs k 0))) (sym (append_assoc before (v ∷ []) (take k vs)))
    ∙ ordered_at graph (before ++ v ∷ []) vs k (and_parts (are_among (mentions graph v) before) (is_ordered graph (before ++ v ∷ []) vs) h).1 (omega arith)

-- nodes that are done have their values, the others what they began with
pub record AreSet {X : Type 0} (final : ℕ → X) (start : X) (nodes : List ℕ) (values : List X) : Type 0 where
  pub done : (v : ℕ) → is_among v nodes ≡ true → get_or values v start ≡ final v
  pub others : (v : ℕ) → is_among v nodes ≡ false → get_or values v start ≡ start

node_among : (xs : List ℕ) (i : ℕ) → i < length xs → is_among (get_or xs i 0) xs ≡ true
node_among [] i h = absurd (omega arith)
node_among (x ∷ xs) zero h = among_first x xs
node_among (x ∷ xs) (suc i) h = or_right (x == get_or xs i 0) (is_among (get_or xs i 0) xs) (node_among xs i (omega arith))

pub set_next : {X : Type 0} (graph : List (List ℕ)) (next : (ℕ → X) → ℕ → X) (final : ℕ → X) (start : X) → IsLocal graph next → (order : List ℕ) → is_ordered graph [] order ≡ true →
    ((v : ℕ) → is_among v order ≡ true → final v ≡ next final v) → (k : ℕ) → k < length order → (values : List X) → get_or order k 0 < length values →
    AreSet final start (take k order) values → AreSet final start (take (k + 1) order) (set values (get_or order k 0) (next (λ m. get_or values m start) (get_or order k 0)))
set_next {X} graph next final start local order ordered fixed k lt values within are = record {
  done = λ v among. done_at v (or_cases (is_among v (take k order)) (get_or order k 0 == v) (sym (last v) ∙ among));
  others = λ v no.
      let none : (is_among v (take k order) ≡ false) × ((get_or order k 0 == v) ≡ false) = or_parts (is_among v (take k order)) (get_or order k 0 == v) (sym (last v) ∙ no) in
      let off : (get_or order k 0 == v) ≡ false = none.1 in
      let ne : v ≢ get_or order k 0 = grind (arith, nat_tests) in
      get_or-set_other values (get_or order k 0) v new start ne ∙ are.others v none.0;
}
  where
    new : X
    new = next (λ m. get_or values m start) (get_or order k 0)

    last : (v : ℕ) → is_among v (take (k + 1) order) ≡ (is_among v (take k order) || (get_or order k 0 == v))
    last v = let e : k + 1 ≡ suc k = omega arith in
        ap (λ n. is_among v (take n order)) e ∙ ap (is_among v) (take-suc order k 0 lt) ∙ among-last v (take k order) (get_or order k 0)

    new_is : new ≡ final (get_or order k 0)
    new_is =
        local (λ m. get_or values m start) final (get_or order k 0)
        (λ m in_it. are.done m (all_at (λ n. is_among n (take k order)) (mentions graph (get_or order k 0)) m (ordered_at graph [] order k ordered lt) in_it))
        ∙ sym (fixed (get_or order k 0) (node_among order k lt))

    same_at : (v : ℕ) → (get_or order k 0 == v) ≡ true → get_or (set values (get_or order k 0) new) v start ≡ final v
    same_at v same = let e : get_or order k 0 ≡ v = eqb-true (get_or order k 0) v same in
        ap (λ n. get_or (set values (get_or order k 0) new) n start) (sym e) ∙ get_or-set_same values (get_or order k 0) new start within ∙ new_is ∙ ap final e

    by : (v : ℕ) → is_among v (take k order) ≡ true → (b : Bool) → (get_or order k 0 == v) ≡ b → get_or (set values (get_or order k 0) new) v start ≡ final v
    by v old true same = same_at v same
    by v old false other = let ne : v ≢ get_or order k 0 = grind (arith, nat_tests) in get_or-set_other values (get_or order k 0) v new start ne ∙ are.done v old

    done_at : (v : ℕ) → (is_among v (take k order) ≡ true) ⊎ ((get_or order k 0 == v) ≡ true) → get_or (set values (get_or order k 0) new) v start ≡ final v
    done_at v (inl old) = by v old (get_or order k 0 == v) refl
    done_at v (inr same) = same_at v same

-- all nodes have their values in the end
pub set_all : {X : Type 0} (graph : List (List ℕ)) (final : ℕ → X) (start : X) (order left : List ℕ) → IsPeeled graph order left → ((v : ℕ) → is_among v left ≡ true → final v ≡ start) →
    (values : List X) → AreSet final start order values → (v : ℕ) → v < length graph → get_or values v start ≡ final v
set_all graph final start order left peeled begun values are v within = by (is_among v order) refl
  where
    by : (b : Bool) → is_among v order ≡ b → get_or values v start ≡ final v
    by true among = are.done v among
    by false absent = are.others v absent ∙ sym (begun v (among_of v left (
        let once : occurrences v order + occurrences v left ≡ 1 = peeled.once v within in
        let none : occurrences v order ≡ 0 = zero_of (occurrences v order) refl in omega arith)))
      where
        zero_of : (n : ℕ) → occurrences v order ≡ n → n ≡ 0
        zero_of zero e = refl
        zero_of (suc n) e = let t : is_among v order ≡ true = among_of v order (omega arith) in let f : false ≡ true = sym absent ∙ t in cc
