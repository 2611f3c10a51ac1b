-- Each of some nodes once, by marks.
use Rattle.std.proofs.Common.{◌≡◌, ◌≢◌, ◌⊎◌, inl, inr, ℕ, zero, suc, ◌+◌, ◌<◌, ◌==◌, ◌||◌, true, List, [], ◌∷◌, ◌++◌, length, get_or, set, take, replicate, Option, Some, None, refl, sym, ◌∙◌, ap, subst, arith}
use Rattle.std.proofs.lemmas.Bool.{cases_eq, cases_lt}
use Rattle.std.proofs.lemmas.List.{get_or-set_other, get_or-set_same, get_or_past, length-set, length-replicate, take_more}
use Rattle.std.proofs.lemmas.Option.{same_Some}
use Rattle.cmm_ilist.specs.NodeLists.{has}
use Rattle.cmm_ilist.proofs.Shared.{has_here, has_later, pushed_distinct, has_end, lacks_of, replicate_at}
use Rattle.cmm_colour.specs.Graphs.{row}
use Rattle.cmm_colour.specs.inside.Simple.{AreBelow, AreOnce, IsMarked, IsOnce, mark_of}
use Rattle.cmm_colour.proofs.Counting.{has_last, has_last_other}

-- some nodes were looked at
pub record IsNoted (mark : ℕ) (old new : List (Option ℕ)) (looked kept : List ℕ) : Type 0 where
  pub once : IsOnce looked kept
  pub marked : IsMarked mark old new
  pub has_mark : (w : ℕ) → has w kept ≡ true → mark_of new w ≡ Some mark
  pub is_mark : (w : ℕ) → mark_of new w ≡ Some mark → has w kept ≡ true

pub nothing_noted : (mark : ℕ) (old : List (Option ℕ)) → ((w : ℕ) → mark_of old w ≢ Some mark) → IsNoted mark old old [] []
nothing_noted mark old fresh = record {
  once = record { distinct = refl; same = λ w. refl };
  marked = record { size = refl; marks = λ w m is. inr is };
  has_mark = λ w is. absurd (cc (is));
  is_mark = λ w is. absurd (fresh w is);
}

pub noted_again : (mark : ℕ) (old new : List (Option ℕ)) (looked once : List ℕ) (n : ℕ) → IsNoted mark old new looked once → mark_of new n ≡ Some mark →
    IsNoted mark old new (looked ++ n ∷ []) once
noted_again mark old new looked once n is marked = record {
  once = record { distinct = is.once.distinct; same = λ w. same w (cases_eq n w) };
  marked = is.marked;
  has_mark = is.has_mark;
  is_mark = is.is_mark;
}
  where
    same : (w : ℕ) → ((n ≡ w) ⊎ (n ≡ w → ⊥)) → has w once ≡ has w (looked ++ n ∷ [])
    same w (inl here) = (ap (λ m. has m once) (sym here) ∙ is.is_mark n marked) ∙ sym (ap (λ m. has m (looked ++ n ∷ [])) (sym here) ∙ has_end n looked)
    same w (inr other) = is.once.same w ∙ sym (has_last_other n w looked other)

pub noted_first : (mark : ℕ) (old new : List (Option ℕ)) (looked once : List ℕ) (n : ℕ) → IsNoted mark old new looked once → mark_of new n ≢ Some mark → n < length new →
    IsNoted mark old (set new n (Some mark)) (looked ++ n ∷ []) (once ++ n ∷ [])
noted_first mark old new looked once n is unmarked within = record {
  once = record {
    distinct = pushed_distinct n once (lacks_of (has n once) (λ there. unmarked (is.has_mark n there))) is.once.distinct;
    same = λ w. has_last n w once ∙ (ap (λ b. b || (n == w)) (is.once.same w) ∙ sym (has_last n w looked));
  };
  marked = record { size = length-set new n (Some mark) ∙ is.marked.size; marks = λ w m now. marks w m now (cases_eq w n) };
  has_mark = λ w there. marked_now w there (cases_eq w n);
  is_mark = λ w now. there_now w now (cases_eq w n);
}
  where
    here : mark_of (set new n (Some mark)) n ≡ Some mark
    here = get_or-set_same new n (Some mark) None within

    away : (w : ℕ) → (w ≡ n → ⊥) → mark_of (set new n (Some mark)) w ≡ mark_of new w
    away w other = get_or-set_other new n w (Some mark) None other

    marks : (w m : ℕ) → mark_of (set new n (Some mark)) w ≡ Some m → ((w ≡ n) ⊎ (w ≡ n → ⊥)) → (m ≡ mark) ⊎ (mark_of old w ≡ Some m)
    marks w m now (inl same) = inl (same_Some m mark (sym now ∙ (ap (mark_of (set new n (Some mark))) same ∙ here)))
    marks w m now (inr other) = is.marked.marks w m (sym (away w other) ∙ now)

    marked_now : (w : ℕ) → has w (once ++ n ∷ []) ≡ true → ((w ≡ n) ⊎ (w ≡ n → ⊥)) → mark_of (set new n (Some mark)) w ≡ Some mark
    marked_now w there (inl same) = ap (mark_of (set new n (Some mark))) same ∙ here
    marked_now w there (inr other) = away w other ∙ is.has_mark w (sym (has_last_other n w once (λ e. other (sym e))) ∙ there)

    there_now : (w : ℕ) → mark_of (set new n (Some mark)) w ≡ Some mark → ((w ≡ n) ⊎ (w ≡ n → ⊥)) → has w (once ++ n ∷ []) ≡ true
    there_now w now (inl same) = ap (λ m. has m (once ++ n ∷ [])) same ∙ has_end n once
    there_now w now (inr other) = has_last_other n w once (λ e. other (sym e)) ∙ is.is_mark w (sym (away w other) ∙ now)

-- the next of a list
pub next_of : (nodes : List ℕ) (i n : ℕ) → i < length nodes → n ≡ get_or nodes i n → take (i + 1) nodes ≡ take i nodes ++ n ∷ []
next_of nodes i n low is = take_more nodes i n low ∙ ap (λ y. take i nodes ++ y ∷ []) (sym is)

-- what stands in a list is in it
pub has_at : (xs : List ℕ) (i d : ℕ) → i < length xs → has (get_or xs i d) xs ≡ true
has_at [] i d low = absurd (omega arith)
has_at (x ∷ xs) zero d low = has_here x xs
has_at (x ∷ xs) (suc i) d low = has_later (get_or xs i d) x xs (has_at xs i d (omega arith))

-- ---- all rows

-- marks are those of rows before one
pub AreOf : ℕ → List (Option ℕ) → Type 0
AreOf i seen = (w m : ℕ) → mark_of seen w ≡ Some m → m < i

pub record AreNoted (graph : List (List ℕ)) (i : ℕ) (simple : List (List ℕ)) (seen : List (Option ℕ)) : Type 0 where
  pub size : length simple ≡ i
  pub marks : length seen ≡ length graph
  pub before : (w m : ℕ) → mark_of seen w ≡ Some m → m < i
  pub rows : (v : ℕ) → v < i → IsOnce (row graph v) (row simple v)

pub noted_at_start : (graph : List (List ℕ)) (n : ℕ) → n ≡ length graph → AreNoted graph 0 [] (replicate n None)
noted_at_start graph n is = record {
  size = refl;
  marks = length-replicate n None ∙ is;
  before = λ w m marked. absurd (cc (replicate_at {A = Option ℕ} None n w, marked));
  rows = λ v low. absurd (omega (arith, low));
}

pub row_fresh : (graph : List (List ℕ)) (i : ℕ) (simple : List (List ℕ)) (seen : List (Option ℕ)) → AreNoted graph i simple seen → (w : ℕ) → mark_of seen w ≢ Some i
row_fresh graph i simple seen noted w is = let low : i < i = noted.before w i is in omega (arith, low)

pub row_noted : (graph : List (List ℕ)) (i : ℕ) (simple : List (List ℕ)) (seen after : List (Option ℕ)) (once : List ℕ) → AreNoted graph i simple seen →
    IsOnce (row graph i) once → IsMarked i seen after → AreNoted graph (i + 1) (simple ++ once ∷ []) after
row_noted graph i simple seen after once noted is marked = record {
  size = ends simple noted.size;
  marks = marked.size ∙ noted.marks;
  before = λ w m now. elim (marked.marks w m now) [
    | inl same ↦ omega (arith, same)
    | inr old ↦ let low : m < i = noted.before w m old in omega (arith, low)
  ];
  rows = λ v low. elim (cases_eq v i) [
    | inl last ↦ subst (λ u. IsOnce (row graph u) (row (simple ++ once ∷ []) u)) (sym last)
        (subst (λ l. IsOnce (row graph i) l) (sym (at_end simple i noted.size)) is)
    | inr other ↦
        let before : v < i = omega (arith, low, other) in
        subst (λ l. IsOnce (row graph v) l) (sym (in_front simple v (subst (λ n. v < n) (sym noted.size) before))) (noted.rows v before)
  ];
}
  where
    ends : {n : ℕ} (xs : List (List ℕ)) → length xs ≡ n → length (xs ++ once ∷ []) ≡ n + 1
    ends {n} xs e = long xs ∙ ap (λ k. k + 1) e
      where
        long : (xs : List (List ℕ)) → length (xs ++ once ∷ []) ≡ length xs + 1
        long [] = refl
        long (x ∷ xs) = omega (arith, long xs)

    at_end : (xs : List (List ℕ)) (n : ℕ) → length xs ≡ n → get_or (xs ++ once ∷ []) n [] ≡ once
    at_end [] zero e = refl
    at_end [] (suc n) e = absurd (omega (arith, e))
    at_end (x ∷ xs) zero e = absurd (omega (arith, e))
    at_end (x ∷ xs) (suc n) e = at_end xs n (omega (arith, e))

    in_front : (xs : List (List ℕ)) (n : ℕ) → n < length xs → get_or (xs ++ once ∷ []) n [] ≡ get_or xs n []
    in_front [] n low = absurd (omega (arith, low))
    in_front (x ∷ xs) zero low = refl
    in_front (x ∷ xs) (suc n) low = in_front xs n (omega (arith, low))

pub all_noted : (graph : List (List ℕ)) (i : ℕ) (simple : List (List ℕ)) (seen : List (Option ℕ)) → i ≡ length graph → AreNoted graph i simple seen → AreOnce graph simple
all_noted graph i simple seen is noted = record {
  size = noted.size ∙ is;
  rows = λ v. elim (cases_lt v i) [
    | inl low ↦ noted.rows v low
    | inr past ↦ subst (λ l. IsOnce l (row simple v)) (sym (get_or_past graph v [] (omega (arith, is, past))))
        (subst (λ l. IsOnce [] l) (sym (get_or_past simple v [] (omega (arith, noted.size, past)))) (record { distinct = refl; same = λ w. refl }))
  ];
}

-- what stands in a list is below a count, if all of it is
pub below_at : (count : ℕ) (nodes : List ℕ) (i : ℕ) → AreBelow count nodes → i < length nodes → get_or nodes i 0 < count
below_at count nodes i below low = below (get_or nodes i 0) (has_at nodes i 0 low)
