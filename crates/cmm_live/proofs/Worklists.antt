-- The steps of a worklist.
use Rattle.std.proofs.Common.{◌≡◌, ℕ, ◌+◌, ◌-◌, ◌<◌, ◌≤◌, inl, inr, Bool, true, false, cond, List, [], ◌∷◌, ◌++◌, length, get_or, set, take, replicate, refl, sym, ◌∙◌, ap, subst, arith}
use Rattle.std.specs.Prelude.{All, Contains}
use Rattle.std.proofs.lemmas.Bool.{cases_eq, cases_lt, false≢true}
use Rattle.std.proofs.lemmas.List.{length-set, take_more, length-replicate, length_push, get_or_append_left, get_or_past}
use Rattle.std.proofs.lemmas.List.Elements.{All-push, All-weaker, Contains-append_left, Contains-push, Contains-push_cases}
use Rattle.cmm_bitset.specs.Sets.{has}
use Rattle.cmm_bitset.proofs.Shared.{has-set_same, has-set_other}
use Rattle.cmm_live.specs.inside.Worklists.{IsList, Woken}

-- a node that is taken off no longer waits
pub list_pops : (nodes : List ℕ) (n : ℕ) (waits : List Bool) → IsList (nodes ++ n ∷ []) waits → n < length waits →
    IsList nodes (set waits n false)
list_pops nodes n waits is low = record {
  within = λ k d in_k.
      let longer : k < length (nodes ++ n ∷ []) = omega (arith, length_push nodes n) in
      omega (arith, length-set waits n false, is.within k d longer, get_or_append_left nodes (n ∷ []) d k in_k);
  listed = λ m waits_still. elim (cases_eq m n) [
    | inl here ↦ absurd (false≢true (sym (has-set_same waits n false low) ∙ ap (has (set waits n false)) (sym here) ∙ waits_still))
    | inr other ↦ elim (Contains-push_cases nodes n m (is.listed m (sym (has-set_other waits n m false other) ∙ waits_still))) [
      | inl before ↦ before
      | inr last ↦ absurd (other (sym last))
    ]
  ];
}

-- a node that is added waits
pub list_adds : (nodes : List ℕ) (n : ℕ) (waits : List Bool) → IsList nodes waits → n < length waits →
    IsList (nodes ++ n ∷ []) (set waits n true)
list_adds nodes n waits is low = record {
  within = All-push (λ m. m < length (set waits n true)) nodes n
      (All-weaker (λ m. m < length waits) (λ m. m < length (set waits n true)) (λ m h. omega (arith, length-set waits n true)) nodes is.within)
      (omega (arith, length-set waits n true));
  listed = λ m waits_now. elim (cases_eq m n) [
    | inl here ↦ let P : ℕ → Type 0 = λ y. Contains (nodes ++ n ∷ []) y in subst P (sym here) (Contains-push nodes n)
    | inr other ↦ Contains-append_left nodes (n ∷ []) m (is.listed m (sym (has-set_other waits n m true other) ∙ waits_now))
  ];
}

-- a list of all nodes
pub list_of_all : (count : ℕ) (nodes : List ℕ) → All (λ n. n < count) nodes → ((n : ℕ) → n < count → Contains nodes n) →
    IsList nodes (replicate count true)
list_of_all count nodes within all = record {
  within = All-weaker (λ n. n < count) (λ n. n < length (replicate count true)) (λ n h. omega (arith, length-replicate count true)) nodes within;
  listed = λ n waits_. elim (cases_lt n count) [
    | inl low ↦ all n low
    | inr past ↦ absurd (false≢true (sym (get_or_past (replicate count true) n false (omega (arith, length-replicate count true))) ∙ waits_))
  ];
}

module _ (old : List Bool) where
  pub woken_none : Woken old old []
  woken_none = record { size = refl; kept = λ n was. was; woken = λ n found. absurd (omega (arith, found.1)) }

  woken_push : (waits : List Bool) (nodes : List ℕ) (n : ℕ) → Woken old waits nodes → n < length waits → Woken old (set waits n true) (nodes ++ n ∷ [])
  woken_push waits nodes n so_far low = record {
    size = length-set waits n true ∙ so_far.size;
    kept = λ m was. still m (so_far.kept m was);
    woken = λ m found. elim (Contains-push_cases nodes n m found) [
      | inl before ↦ still m (so_far.woken m before)
      | inr last ↦ ap (has (set waits n true)) (sym last) ∙ has-set_same waits n true low
    ];
  }
    where
      still : (m : ℕ) → has waits m ≡ true → has (set waits n true) m ≡ true
      still m was = elim (cases_eq m n) [
        | inl here ↦ ap (has (set waits n true)) here ∙ has-set_same waits n true low
        | inr other ↦ has-set_other waits n m true other ∙ was
      ]

  woken_same : (waits : List Bool) (nodes : List ℕ) (n : ℕ) → Woken old waits nodes → has waits n ≡ true → Woken old waits (nodes ++ n ∷ [])
  woken_same waits nodes n so_far waits_ = record {
    size = so_far.size;
    kept = so_far.kept;
    woken = λ m found. elim (Contains-push_cases nodes n m found) [
      | inl before ↦ so_far.woken m before
      | inr last ↦ ap (has waits) (sym last) ∙ waits_
    ];
  }

  pub woken_more : (waits : List Bool) (nodes : List ℕ) (i n : ℕ) → i < length nodes → n ≡ get_or nodes i n → n < length waits →
      Woken old waits (take i nodes) → Woken old (set waits n true) (take (i + 1) nodes)
  woken_more waits nodes i n low is within so_far =
      let next : take (i + 1) nodes ≡ take i nodes ++ n ∷ [] = take_more nodes i n low ∙ ap (λ y. take i nodes ++ y ∷ []) (sym is) in
      rw next (woken_push waits (take i nodes) n so_far within)

  pub woken_skip : (waits : List Bool) (nodes : List ℕ) (i n : ℕ) → i < length nodes → n ≡ get_or nodes i n → has waits n ≡ true →
      Woken old waits (take i nodes) → Woken old waits (take (i + 1) nodes)
  woken_skip waits nodes i n low is waits_ so_far =
      let next : take (i + 1) nodes ≡ take i nodes ++ n ∷ [] = take_more nodes i n low ∙ ap (λ y. take i nodes ++ y ∷ []) (sym is) in
      rw next (woken_same waits (take i nodes) n so_far waits_)

-- ---- a list of all nodes, each in its order or from the last on

abbrev pub place : Bool → ℕ → ℕ → ℕ
place ascending count i = cond ascending i (count - 1 - i)

place_below : (ascending : Bool) (count i : ℕ) → i < count → place ascending count i < count
place_below true count i low = low
place_below false count i low = omega arith

pub placed_more : (ascending : Bool) (count i x : ℕ) (nodes next : List ℕ) → i < count → x ≡ place ascending count i → next ≡ nodes ++ x ∷ [] →
    All (λ n. n < count) nodes → ((n : ℕ) → n < i → Contains nodes (place ascending count n)) →
    All (λ n. n < count) next × ((n : ℕ) → n < i + 1 → Contains next (place ascending count n))
placed_more ascending count i x nodes next low is becomes within placed = (
  subst (λ xs. All (λ n. n < count) xs) (sym becomes)
      (All-push (λ n. n < count) nodes x within (subst (λ k. k < count) (sym is) (place_below ascending count i low))),
  λ n in_n. subst (λ xs. Contains xs (place ascending count n)) (sym becomes) (elim (cases_eq n i) [
    | inl here ↦ subst (λ k. Contains (nodes ++ x ∷ []) k) (is ∙ ap (place ascending count) (sym here)) (Contains-push nodes x)
    | inr other ↦ Contains-append_left nodes (x ∷ []) (place ascending count n) (placed n (omega arith))
  ]),
)

pub placed_all : (ascending : Bool) (count i : ℕ) (nodes : List ℕ) → count ≤ i → ((n : ℕ) → n < i → Contains nodes (place ascending count n)) →
    (n : ℕ) → n < count → Contains nodes n
placed_all true count i nodes past placed n low = placed n (omega arith)
placed_all false count i nodes past placed n low =
    let back : count - 1 - (count - 1 - n) ≡ n = omega arith in
    subst (λ k. Contains nodes k) back (placed (count - 1 - n) (omega arith))
