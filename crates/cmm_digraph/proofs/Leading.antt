-- Which nodes lead to which, step by step.
use Rattle.std.proofs.Common.{◌≡◌, ℕ, suc, zero, ◌+◌, ◌-◌, ◌≤◌, ◌==◌, Bool, true, false, ◌||◌, inl, inr, List, [], ◌∷◌, refl, sym, ◌∙◌, ap, subst, arith}
use Rattle.std.specs.List.{list_any}
use Rattle.std.proofs.lemmas.Bool.{eqb-true, eq-eqb, or_cases, or_right, or_left}
use Rattle.cmm_digraph.specs.Graphs.{is_among, mentions}
use Rattle.cmm_digraph.proofs.Evaluating.{any_at}
use Rattle.cmm_digraph.proofs.Counting.{any_from, among_first, among_later}
use Rattle.cmm_digraph.specs.Reaching.{reaches}
use Rattle.cmm_digraph.specs.inside.Searched.{Leads}

module _ (graph : List (List ℕ)) where
  abbrev step : ℕ → ℕ → ℕ → Bool
  step count node n = (n == node) || reaches graph count node (mentions graph n)

  -- what is mentioned is led to
  pub leads_first : (count : ℕ) (m : ℕ) (from : List ℕ) → is_among m from ≡ true → reaches graph (suc count) m from ≡ true
  leads_first count m from among = any_from (step count m) from m among (or_left (m == m) (reaches graph count m (mentions graph m)) (eq-eqb m m refl))

  -- a step more
  pub leads_more : (count v : ℕ) (from : List ℕ) → reaches graph count v from ≡ true → reaches graph (suc count) v from ≡ true
  leads_more zero v from h = cc
  leads_more (suc count) v from h =
      let at : (n : ℕ) × (is_among n from ≡ true) × (step count v n ≡ true) = any_at (step count v) from h in
      any_from (step (suc count) v) from at.0 at.1 (elim (or_cases (at.0 == v) (reaches graph count v (mentions graph at.0)) at.2) [
        | inl same ↦ or_left (at.0 == v) (reaches graph (suc count) v (mentions graph at.0)) same
        | inr later ↦ or_right (at.0 == v) (reaches graph (suc count) v (mentions graph at.0)) (leads_more count v (mentions graph at.0) later)
      ])

  more_by : (d count v : ℕ) (from : List ℕ) → reaches graph count v from ≡ true → reaches graph (d + count) v from ≡ true
  more_by zero count v from h = let e : 0 + count ≡ count = omega arith in ap (λ n. reaches graph n v from) e ∙ h
  more_by (suc d) count v from h = let e : suc d + count ≡ suc (d + count) = omega arith in ap (λ n. reaches graph n v from) e ∙ leads_more (d + count) v from (more_by d count v from h)

  pub leads_within : (count most v : ℕ) (from : List ℕ) → count ≤ most → reaches graph count v from ≡ true → reaches graph most v from ≡ true
  leads_within count most v from le h = let e : most ≡ (most - count) + count = omega arith in ap (λ n. reaches graph n v from) e ∙ more_by (most - count) count v from h

  -- what is mentioned by what is led to
  pub leads_next : (count u m : ℕ) (from : List ℕ) → reaches graph count u from ≡ true → is_among m (mentions graph u) ≡ true → reaches graph (suc count) m from ≡ true
  leads_next zero u m from h among = cc
  leads_next (suc count) u m from h among =
      let at : (n : ℕ) × (is_among n from ≡ true) × (step count u n ≡ true) = any_at (step count u) from h in
      any_from (step (suc count) m) from at.0 at.1 (or_right (at.0 == m) (reaches graph (suc count) m (mentions graph at.0)) (elim (or_cases (at.0 == u) (reaches graph count u (mentions graph at.0)) at.2) [
        | inl same ↦ leads_first count m (mentions graph at.0) (subst (λ (n : ℕ). is_among m (mentions graph n) ≡ true) (sym (eqb-true at.0 u same)) among)
        | inr later ↦ leads_next count u m (mentions graph at.0) later among
      ]))

  any_none : (p : ℕ → Bool) (xs : List ℕ) → ((u : ℕ) → is_among u xs ≡ true → p u ≡ false) → list_any p xs ≡ false
  any_none p [] none = refl
  any_none p (x ∷ xs) none = rw (none x (among_first x xs), any_none p xs (λ u h. none u (among_later u x xs h))) refl

  other : (n node : ℕ) (inside : ℕ → Bool) → inside n ≡ true → inside node ≡ false → (n == node) ≡ false
  other n node inside is out = by (n == node) refl
    where
      by : (b : Bool) → (n == node) ≡ b → b ≡ false
      by true e = let s : inside node ≡ true = subst (λ (q : ℕ). inside q ≡ true) (eqb-true n node e) is in let f : true ≡ false = sym s ∙ out in cc
      by false e = refl

  -- nodes that mention only one another lead to no other
  pub never : (inside : ℕ → Bool) → ((v m : ℕ) → inside v ≡ true → is_among m (mentions graph v) ≡ true → inside m ≡ true) → (node : ℕ) → inside node ≡ false →
      (count : ℕ) (from : List ℕ) → ((v : ℕ) → is_among v from ≡ true → inside v ≡ true) → reaches graph count node from ≡ false
  never inside closed node out zero from all = refl
  never inside closed node out (suc count) from all = any_none (step count node) from (λ n among.
      rw (other n node inside (all n among) out, never inside closed node out count (mentions graph n) (λ m h. closed n m (all n among) h)) refl)

  -- ---- a node leads to itself, and on through what it leads to

  pub leads_self : (a : ℕ) → Leads graph a a
  leads_self a = (1, leads_first 0 a (a ∷ []) (among_first a []))

  pub leads_on : (a b m : ℕ) → Leads graph a b → is_among m (mentions graph b) ≡ true → Leads graph a m
  leads_on a b m leads among = (suc leads.0, leads_next leads.0 b m (a ∷ []) leads.1 among)

  follow : (a count c : ℕ) (from : List ℕ) → reaches graph count c from ≡ true → ((n : ℕ) → is_among n from ≡ true → Leads graph a n) → Leads graph a c
  follow a zero c from h all = cc
  follow a (suc count) c from h all =
      let at : (n : ℕ) × (is_among n from ≡ true) × (step count c n ≡ true) = any_at (step count c) from h in
      elim (or_cases (at.0 == c) (reaches graph count c (mentions graph at.0)) at.2) [
        | inl same ↦ subst (λ (n : ℕ). Leads graph a n) (eqb-true at.0 c same) (all at.0 at.1)
        | inr later ↦ follow a count c (mentions graph at.0) later (λ n among. leads_on a at.0 n (all at.0 at.1) among)
      ]

  pub leads_through : (a b c : ℕ) → Leads graph a b → Leads graph b c → Leads graph a c
  leads_through a b c first second = follow a second.0 c (b ∷ []) second.1 (λ n among. subst (λ (m : ℕ). Leads graph a m) (one n among) first)
    where
      one : (n : ℕ) → is_among n (b ∷ []) ≡ true → b ≡ n
      one n among = elim (or_cases (b == n) false among) [
        | inl same ↦ eqb-true b n same
        | inr none ↦ cc
      ]

  -- a node that mentions one that leads to it
  pub leads_round : (v m : ℕ) → is_among m (mentions graph v) ≡ true → Leads graph m v → (count : ℕ) × (reaches graph count v (mentions graph v) ≡ true)
  leads_round v m among leads = (leads.0, by leads.0 leads.1)
    where
      by : (count : ℕ) → reaches graph count v (m ∷ []) ≡ true → reaches graph count v (mentions graph v) ≡ true
      by zero h = cc
      by (suc count) h = any_from (step count v) (mentions graph v) m among (elim (or_cases (step count v m) false h) [
        | inl here ↦ here
        | inr none ↦ cc
      ])
