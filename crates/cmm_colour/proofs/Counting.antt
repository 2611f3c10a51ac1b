-- How many nodes of a list are left.
use Rattle.std.proofs.Common.{◌≡◌, ◌≢◌, ◌⊎◌, inl, inr, ℕ, suc, ◌+◌, ◌≤◌, ◌==◌, ◌||◌, not, Bool, true, false, List, [], ◌∷◌, ◌++◌, length, refl, sym, ◌∙◌, ap, arith}
use Rattle.std.proofs.lemmas.Bool.{cases_Bool, cases_eq, ne_eqb}
use Rattle.cmm_ilist.specs.NodeLists.{has, is_distinct}
use Rattle.cmm_ilist.proofs.Shared.{distinct_first, distinct_rest, has_here, has_skip, filter_drops, filter_keeps, has_end}
use Rattle.cmm_colour.specs.inside.Removing.{left_of, one_if}
use Rattle.std.proofs.Math.Bool.{or-false}
use Rattle.std.proofs.lemmas.List.Folds.{list_any-append}

-- ---- the last of a list

pub has_last : (x z : ℕ) (xs : List ℕ) → has z (xs ++ x ∷ []) ≡ (has z xs || (x == z))
has_last x z xs = list_any-append (λ y. y == z) xs (x ∷ []) ∙ ap (λ b. has z xs || b) (or-false (x == z))

pub has_last_other : (x z : ℕ) (xs : List ℕ) → x ≢ z → has z (xs ++ x ∷ []) ≡ has z xs
has_last_other x z xs other = has_last x z xs ∙ (ap (λ b. has z xs || b) (ne_eqb x z other) ∙ or-false (has z xs))

-- ---- what is left

-- one node more is gone
pub left_more : (gone : List ℕ) (v : ℕ) (ns : List ℕ) → has v gone ≡ false → is_distinct ns ≡ true →
    left_of (gone ++ v ∷ []) ns + one_if (has v ns) ≡ left_of gone ns
left_more gone v [] new distinct = refl
left_more gone v (w ∷ ws) new distinct = elim (cases_eq w v) [
  | inl same ↦
      let now_gone : not (has w (gone ++ v ∷ [])) ≡ false = ap not (ap (λ n. has n (gone ++ v ∷ [])) same ∙ has_end v gone) in
      let was_left : not (has w gone) ≡ true = ap not (ap (λ n. has n gone) same ∙ new) in
      let drops : left_of (gone ++ v ∷ []) (w ∷ ws) ≡ left_of (gone ++ v ∷ []) ws = ap length (filter_drops (λ u. not (has u (gone ++ v ∷ []))) w ws now_gone) in
      let keeps : left_of gone (w ∷ ws) ≡ suc (left_of gone ws) = ap length (filter_keeps (λ u. not (has u gone)) w ws was_left) in
      let one : one_if (has v (w ∷ ws)) ≡ 1 = ap one_if (ap (λ (n : ℕ). has v (n ∷ ws)) same ∙ has_here v ws) in
      let none : one_if (has v ws) ≡ 0 = ap one_if (ap (λ n. has n ws) (sym same) ∙ distinct_first w ws distinct) in
      let rest : left_of (gone ++ v ∷ []) ws + one_if (has v ws) ≡ left_of gone ws = left_more gone v ws new (distinct_rest w ws distinct) in
      omega (arith, drops, keeps, one, none, rest)
  | inr other ↦
      let same_ : has w (gone ++ v ∷ []) ≡ has w gone = has_last_other v w gone (λ e. other (sym e)) in
      let skip : one_if (has v (w ∷ ws)) ≡ one_if (has v ws) = ap one_if (has_skip v w ws other) in
      let rest : left_of (gone ++ v ∷ []) ws + one_if (has v ws) ≡ left_of gone ws = left_more gone v ws new (distinct_rest w ws distinct) in
      by (has w gone) refl same_ skip rest
]
  where
    by : (b : Bool) → has w gone ≡ b → has w (gone ++ v ∷ []) ≡ has w gone → one_if (has v (w ∷ ws)) ≡ one_if (has v ws) →
        left_of (gone ++ v ∷ []) ws + one_if (has v ws) ≡ left_of gone ws → left_of (gone ++ v ∷ []) (w ∷ ws) + one_if (has v (w ∷ ws)) ≡ left_of gone (w ∷ ws)
    by true is same_ skip rest =
        let drops : left_of (gone ++ v ∷ []) (w ∷ ws) ≡ left_of (gone ++ v ∷ []) ws = ap length (filter_drops (λ u. not (has u (gone ++ v ∷ []))) w ws (ap not (same_ ∙ is))) in
        let also : left_of gone (w ∷ ws) ≡ left_of gone ws = ap length (filter_drops (λ u. not (has u gone)) w ws (ap not is)) in
        omega (arith, drops, also, skip, rest)
    by false is same_ skip rest =
        let keeps : left_of (gone ++ v ∷ []) (w ∷ ws) ≡ suc (left_of (gone ++ v ∷ []) ws) = ap length (filter_keeps (λ u. not (has u (gone ++ v ∷ []))) w ws (ap not (same_ ∙ is))) in
        let also : left_of gone (w ∷ ws) ≡ suc (left_of gone ws) = ap length (filter_keeps (λ u. not (has u gone)) w ws (ap not is)) in
        omega (arith, keeps, also, skip, rest)

-- nothing is gone at first
pub left_all : (ns : List ℕ) → left_of [] ns ≡ length ns
left_all [] = refl
left_all (n ∷ ns) = ap suc (left_all ns)

-- fewer are left where more are gone
pub left_fewer : (gone more : List ℕ) (ns : List ℕ) → ((z : ℕ) → has z gone ≡ true → has z more ≡ true) → left_of more ns ≤ left_of gone ns
left_fewer gone more [] all = omega arith
left_fewer gone more (w ∷ ws) all = by (cases_Bool (has w gone)) (cases_Bool (has w more)) (left_fewer gone more ws all)
  where
    by : ((has w gone ≡ true) ⊎ (has w gone ≡ false)) → ((has w more ≡ true) ⊎ (has w more ≡ false)) → left_of more ws ≤ left_of gone ws → left_of more (w ∷ ws) ≤ left_of gone (w ∷ ws)
    by (inl is) other rest =
        let also : has w more ≡ true = all w is in
        let a : left_of more (w ∷ ws) ≡ left_of more ws = ap length (filter_drops (λ u. not (has u more)) w ws (ap not also)) in
        let b : left_of gone (w ∷ ws) ≡ left_of gone ws = ap length (filter_drops (λ u. not (has u gone)) w ws (ap not is)) in
        omega (arith, a, b, rest)
    by (inr lacks) (inl is) rest =
        let a : left_of more (w ∷ ws) ≡ left_of more ws = ap length (filter_drops (λ u. not (has u more)) w ws (ap not is)) in
        let b : left_of gone (w ∷ ws) ≡ suc (left_of gone ws) = ap length (filter_keeps (λ u. not (has u gone)) w ws (ap not lacks)) in
        omega (arith, a, b, rest)
    by (inr lacks) (inr also) rest =
        let a : left_of more (w ∷ ws) ≡ suc (left_of more ws) = ap length (filter_keeps (λ u. not (has u more)) w ws (ap not also)) in
        let b : left_of gone (w ∷ ws) ≡ suc (left_of gone ws) = ap length (filter_keeps (λ u. not (has u gone)) w ws (ap not lacks)) in
        omega (arith, a, b, rest)
