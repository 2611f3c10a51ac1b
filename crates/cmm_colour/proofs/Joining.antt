-- Nodes are joined.
use Rattle.std.proofs.Common.{◌≡◌, ◌≢◌, ◌⊎◌, inl, inr, ℕ, ◌<◌, ◌^◌, ◌==◌, ◌&&◌, ◌||◌, Bool, true, false, List, [], ◌∷◌, ◌++◌, length, get_or, set, take, replicate, Option, Some, None, refl, sym, ◌∙◌, ap, subst, arith}
use Rattle.std.specs.Prelude.{MatchOption, OnErr, OnOk, Result, Ok, Err, is_err}
use Rattle.std.proofs.lemmas.Bool.{and_from, and_parts, cases_eq, eq-eqb, eqb-true, or_cases, or_left, or_right}
use Rattle.std.proofs.lemmas.List.{get_or_default, get_or-set_other, get_or-set_same, length-set, length-replicate, length_push, set-get_or, set-set, take-append-le, take_all}
use Rattle.cmm_ilist.specs.NodeLists.{has}
use Rattle.cmm_colour.specs.Graphs.{IsUndirected, adjacent, joined, row}
use Rattle.cmm_colour.specs.Laws.{JoinsAreAdjacent}
use Rattle.cmm_colour.proofs.Counting.{has_last_other}
use Rattle.cmm_ilist.proofs.Shared.{has_end, replicate_at}

pub undirected_none : (n : ℕ) → n < 2 ^ 32 → IsUndirected (replicate n [])
undirected_none n few = record {
  few = subst (λ m. m < 2 ^ 32) (sym (length-replicate n [])) few;
  within = λ v w is. absurd (none v w is);
  different = λ v w is. absurd (none v w is);
  both = λ v w is. absurd (none v w is);
}
  where
    none : (v w : ℕ) → has w (row (replicate n []) v) ≡ true → ⊥
    none v w is = let lacks : has w (row (replicate n []) v) ≡ false = ap (has w) (replicate_at [] n v) in cc (lacks, is)

module _ (a b : ℕ) (g : List (List ℕ)) (low_a : a < length g) (low_b : b < length g) (different : a ≢ b) where
  row_b : row (joined a b g) b ≡ row g b ++ a ∷ []
  row_b = get_or-set_same (set g a (row g a ++ b ∷ [])) b (row g b ++ a ∷ []) [] (subst (λ n. b < n) (sym (length-set g a (row g a ++ b ∷ []))) low_b)

  row_a : row (joined a b g) a ≡ row g a ++ b ∷ []
  row_a = get_or-set_other (set g a (row g a ++ b ∷ [])) b a (row g b ++ a ∷ []) [] different ∙ get_or-set_same g a (row g a ++ b ∷ []) [] low_a

  row_away : (v : ℕ) → (v ≡ a → ⊥) → (v ≡ b → ⊥) → row (joined a b g) v ≡ row g v
  row_away v not_a not_b = get_or-set_other (set g a (row g a ++ b ∷ [])) b v (row g b ++ a ∷ []) [] not_b ∙ get_or-set_other g a v (row g a ++ b ∷ []) [] not_a

  pub size_joined : length (joined a b g) ≡ length g
  size_joined = length-set (set g a (row g a ++ b ∷ [])) b (row g b ++ a ∷ []) ∙ length-set g a (row g a ++ b ∷ [])

  -- which are joined now
  abbrev Joins : ℕ → ℕ → Type 0
  Joins v w = (adjacent g v w ≡ true) ⊎ (((v ≡ a) × (w ≡ b)) ⊎ ((v ≡ b) × (w ≡ a)))

  joins : (v w : ℕ) → adjacent (joined a b g) v w ≡ true → Joins v w
  joins v w is = by (cases_eq v a) (cases_eq v b)
    where
      by : ((v ≡ a) ⊎ (v ≡ a → ⊥)) → ((v ≡ b) ⊎ (v ≡ b → ⊥)) → Joins v w
      by (inl same) other = elim (cases_eq b w) [
        | inl last ↦ inr (inl (same, sym last))
        | inr front ↦ inl (ap (λ n. adjacent g n w) same ∙ (sym (has_last_other b w (row g a) front) ∙ (sym (ap (has w) row_a) ∙ (ap (λ n. adjacent (joined a b g) n w) (sym same) ∙ is))))
      ]
      by (inr not_a) (inl same) = elim (cases_eq a w) [
        | inl last ↦ inr (inr (same, sym last))
        | inr front ↦ inl (ap (λ n. adjacent g n w) same ∙ (sym (has_last_other a w (row g b) front) ∙ (sym (ap (has w) row_b) ∙ (ap (λ n. adjacent (joined a b g) n w) (sym same) ∙ is))))
      ]
      by (inr not_a) (inr not_b) = inl (sym (ap (has w) (row_away v not_a not_b)) ∙ is)

  first : adjacent (joined a b g) a b ≡ true
  first = ap (has b) row_a ∙ has_end b (row g a)

  second : adjacent (joined a b g) b a ≡ true
  second = ap (has a) row_b ∙ has_end a (row g b)

  still : (v w : ℕ) → adjacent g v w ≡ true → adjacent (joined a b g) v w ≡ true
  still v w is = by (cases_eq v a) (cases_eq v b)
    where
      by : ((v ≡ a) ⊎ (v ≡ a → ⊥)) → ((v ≡ b) ⊎ (v ≡ b → ⊥)) → adjacent (joined a b g) v w ≡ true
      by (inl same) other = ap (λ n. adjacent (joined a b g) n w) same ∙ elim (cases_eq b w) [
        | inl last ↦ subst (λ n. adjacent (joined a b g) a n ≡ true) last first
        | inr front ↦ ap (has w) row_a ∙ (has_last_other b w (row g a) front ∙ (ap (λ n. adjacent g n w) (sym same) ∙ is))
      ]
      by (inr not_a) (inl same) = ap (λ n. adjacent (joined a b g) n w) same ∙ elim (cases_eq a w) [
        | inl last ↦ subst (λ n. adjacent (joined a b g) b n ≡ true) last second
        | inr front ↦ ap (has w) row_b ∙ (has_last_other a w (row g b) front ∙ (ap (λ n. adjacent g n w) (sym same) ∙ is))
      ]
      by (inr not_a) (inr not_b) = ap (has w) (row_away v not_a not_b) ∙ is

  pub undirected_joined : IsUndirected g → IsUndirected (joined a b g)
  undirected_joined was = record {
    few = subst (λ n. n < 2 ^ 32) (sym size_joined) was.few;
    within = λ v w is. subst (λ n. w < n) (sym size_joined) (elim (joins v w is) [
      | inl old ↦ was.within v w old
      | inr new ↦ elim new [ inl p ↦ subst (λ n. n < length g) (sym p.1) low_b | inr p ↦ subst (λ n. n < length g) (sym p.1) low_a ]
    ]);
    different = λ v w is. elim (joins v w is) [
      | inl old ↦ was.different v w old
      | inr new ↦ elim new [ inl p ↦ (λ e. different (sym p.0 ∙ (e ∙ p.1))) | inr p ↦ (λ e. different (sym p.1 ∙ (sym e ∙ p.0))) ]
    ];
    both = λ v w is. elim (joins v w is) [
      | inl old ↦ still w v (was.both v w old)
      | inr new ↦ elim new [
        | inl p ↦ ap (λ n. adjacent (joined a b g) n v) p.1 ∙ (ap (λ n. adjacent (joined a b g) b n) p.0 ∙ second)
        | inr p ↦ ap (λ n. adjacent (joined a b g) n v) p.1 ∙ (ap (λ n. adjacent (joined a b g) a n) p.0 ∙ first)
      ]
    ];
  }

  -- what is written, by what was read
  module _ (ra pa rb pb : List ℕ) (read_a : ra ≡ get_or g a ra) (new_a : pa ≡ ra ++ b ∷ []) (read_b : rb ≡ get_or (set g a pa) b rb) where
    a_is : pa ≡ row g a ++ b ∷ []
    a_is = new_a ∙ ap (λ (l : List ℕ). l ++ b ∷ []) (read_a ∙ get_or_default g a ra [] low_a)

    b_is : rb ≡ row g b
    b_is = read_b ∙ (get_or-set_other g a b pa rb (λ e. different (sym e)) ∙ get_or_default g b rb [] low_b)

    pub rows_joined : pb ≡ rb ++ a ∷ [] → set (set g a pa) b pb ≡ joined a b g
    rows_joined new_b = ap (λ (l : List ℕ). set (set g a l) b pb) a_is ∙ ap (λ (l : List ℕ). set (set g a (row g a ++ b ∷ [])) b l) (new_b ∙ ap (λ (l : List ℕ). l ++ a ∷ []) b_is)

    pub rows_back : (rc pc : List ℕ) (o : Option ℕ) → pb ≡ rb → rc ≡ get_or (set (set g a pa) b pb) a rc → MatchOption o ((rc ≡ []) × (pc ≡ [])) (λ last. rc ≡ pc ++ last ∷ []) →
        set (set (set g a pa) b pb) a pc ≡ g
    rows_back rc pc o same read popped =
        ap (λ (l : List (List ℕ)). set l a pc) back ∙ (set-set g a pa pc ∙ (ap (λ (l : List ℕ). set g a l) front ∙ set-get_or g a []))
      where
        back : set (set g a pa) b pb ≡ set g a pa
        back = ap (λ (l : List ℕ). set (set g a pa) b l) (same ∙ read_b) ∙ set-get_or (set g a pa) b rb

        c_is : rc ≡ row g a ++ b ∷ []
        c_is = read ∙ (ap (λ (l : List (List ℕ)). get_or l a rc) back ∙ (get_or-set_same g a pa rc low_a ∙ a_is))

        fronts : (xs ys : List ℕ) (x y : ℕ) → xs ++ x ∷ [] ≡ ys ++ y ∷ [] → xs ≡ ys
        fronts xs ys x y e =
            let long : length xs ≡ length ys = (let l : length (xs ++ x ∷ []) ≡ length (ys ++ y ∷ []) = ap (λ (l : List ℕ). length l) e in omega (arith, l, length_push xs x, length_push ys y)) in
            sym (take-append-le (length xs) xs (x ∷ []) (omega arith) ∙ take_all (length xs) xs (omega arith))
            ∙ (ap (λ (l : List ℕ). take (length xs) l) e ∙ (take-append-le (length xs) ys (y ∷ []) (omega (arith, long)) ∙ take_all (length xs) ys (omega (arith, long))))

        by : (q : Option ℕ) → MatchOption q ((rc ≡ []) × (pc ≡ [])) (λ last. rc ≡ pc ++ last ∷ []) → pc ≡ row g a
        by None none =
            let long : length rc ≡ length (row g a ++ b ∷ []) = ap (λ (l : List ℕ). length l) c_is in
            let zero_ : length rc ≡ 0 = ap (λ (l : List ℕ). length l) none.0 in absurd (omega (arith, long, zero_, length_push (row g a) b))
        by (Some last) is = fronts pc (row g a) last b (sym is ∙ c_is)

        front : pc ≡ row g a
        front = by o popped

-- two tests are the same where either passes if the other does
pub same_test : (x y : Bool) → (x ≡ true → y ≡ true) → (y ≡ true → x ≡ true) → x ≡ y
same_test true y to from = sym (to refl)
same_test false true to from = from refl
same_test false false to from = refl

-- who is joined now, as a test
pub joins_are_adjacent : JoinsAreAdjacent
joins_are_adjacent g a b v w low_a low_b different = same_test (adjacent (joined a b g) v w) _ to from
  where
    pair : (x y z u : ℕ) → (x ≡ y) × (z ≡ u) → ((x == y) && (z == u)) ≡ true
    pair x y z u p = and_from (x == y) (z == u) (eq-eqb x y p.0) (eq-eqb z u p.1)

    to : adjacent (joined a b g) v w ≡ true → (adjacent g v w || (((v == a) && (w == b)) || ((v == b) && (w == a)))) ≡ true
    to is = elim (joins a b g low_a low_b different v w is) [
      | inl old ↦ or_left (adjacent g v w) _ old
      | inr new ↦ or_right (adjacent g v w) _ (elim new [
        | inl p ↦ or_left ((v == a) && (w == b)) _ (pair v a w b p)
        | inr p ↦ or_right ((v == a) && (w == b)) _ (pair v b w a p)
      ])
    ]

    here : (x y : ℕ) → adjacent (joined a b g) x y ≡ true → (v ≡ x) × (w ≡ y) → adjacent (joined a b g) v w ≡ true
    here x y is p = ap (λ n. adjacent (joined a b g) n w) p.0 ∙ (ap (adjacent (joined a b g) x) p.1 ∙ is)

    both : (x y z u : ℕ) → ((x == y) && (z == u)) ≡ true → (x ≡ y) × (z ≡ u)
    both x y z u is = let p = and_parts (x == y) (z == u) is in (eqb-true x y p.0, eqb-true z u p.1)

    from : (adjacent g v w || (((v == a) && (w == b)) || ((v == b) && (w == a)))) ≡ true → adjacent (joined a b g) v w ≡ true
    from is = elim (or_cases (adjacent g v w) _ is) [
      | inl old ↦ still a b g low_a low_b different v w old
      | inr new ↦ elim (or_cases ((v == a) && (w == b)) _ new) [
        | inl p ↦ here a b (first a b g low_a low_b different) (both v a w b p)
        | inr p ↦ here b a (second a b g low_a low_b different) (both v b w a p)
      ]
    ]

pub on_err : {T E P : Type 0} (r : Result T E) → is_err r ≡ true → OnErr r P → P
on_err (Ok t) is p = absurd (cc (is))
on_err (Err e) is p = p

pub on_ok : {T E P : Type 0} (r : Result T E) → is_err r ≡ false → OnOk r P → P
on_ok (Ok t) is p = p
on_ok (Err e) is p = absurd (cc (is))
