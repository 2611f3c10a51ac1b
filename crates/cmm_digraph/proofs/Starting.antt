-- Where the components of open nodes begin.
use Rattle.std.proofs.Common.{◌≡◌, ℕ, ◌<◌, ◌≤◌, ◌==◌, Bool, true, false, inl, inr, ◌⊎◌, List, [], ◌∷◌, refl, arith}
use Rattle.std.specs.Prelude.{nat_lt}
use Rattle.std.proofs.lemmas.Bool.{or_cases, eqb-true, ltb-true}
use Rattle.std.proofs.lemmas.Bool.Decides.{nat_tests}
use Rattle.cmm_digraph.specs.Graphs.{is_among}
use Rattle.cmm_digraph.proofs.Counting.{among_first, among_later}
use Rattle.cmm_digraph.specs.inside.Searched.{IsStart}

-- ---- the last start that is not after a place

abbrev NoneBefore : List ℕ → ℕ → Type 0
NoneBefore starts place = (start : ℕ) → is_among start starts ≡ true → start ≤ place → ⊥

last_before : (starts : List ℕ) (place : ℕ) → ((start : ℕ) × IsStart starts start place) ⊎ NoneBefore starts place
last_before [] place = inr (λ start there le. cc)
last_before (x ∷ starts) place = by (last_before starts place) (nat_lt place x) refl
  where
    -- the first is after the place
    skip : place < x → ((start : ℕ) × IsStart starts start place) ⊎ NoneBefore starts place → ((start : ℕ) × IsStart (x ∷ starts) start place) ⊎ NoneBefore (x ∷ starts) place
    skip past (inl is) = inl (
      is.0,
      record {
        among = among_later is.0 x starts is.1.among;
        before = is.1.before;
        last = λ other there le. elim (or_cases (x == other) (is_among other starts) there) [
          | inl same ↦ let s : x ≡ other = eqb-true x other same in absurd (omega arith)
          | inr later ↦ is.1.last other later le
        ];
      },
    )
    skip past (inr none) = inr (λ other there le. elim (or_cases (x == other) (is_among other starts) there) [
      | inl same ↦ let s : x ≡ other = eqb-true x other same in absurd (omega arith)
      | inr later ↦ none other later le
    ])

    -- it is not, and either it or the last of the others is the last
    take_ : x ≤ place → ((start : ℕ) × IsStart starts start place) ⊎ NoneBefore starts place → ((start : ℕ) × IsStart (x ∷ starts) start place) ⊎ NoneBefore (x ∷ starts) place
    take_ le (inr none) = inl (
      x,
      record {
        among = among_first x starts;
        before = le;
        last = λ other there at. elim (or_cases (x == other) (is_among other starts) there) [
          | inl same ↦ let s : x ≡ other = eqb-true x other same in omega arith
          | inr later ↦ absurd (none other later at)
        ];
      },
    )
    take_ le (inl is) = later (nat_lt is.0 x) refl
      where
        later : (b : Bool) → nat_lt is.0 x ≡ b → ((start : ℕ) × IsStart (x ∷ starts) start place) ⊎ NoneBefore (x ∷ starts) place
        later true e = let lt : is.0 < x = ltb-true is.0 x e in inl (
          x,
          record {
            among = among_first x starts;
            before = le;
            last = λ other there at. elim (or_cases (x == other) (is_among other starts) there) [
              | inl same ↦ let s : x ≡ other = eqb-true x other same in omega arith
              | inr more ↦ let a : other ≤ is.0 = is.1.last other more at in omega arith
            ];
          },
        )
        later false e = let most : x ≤ is.0 = grind (arith, nat_tests) in inl (
          is.0,
          record {
            among = among_later is.0 x starts is.1.among;
            before = is.1.before;
            last = λ other there at. elim (or_cases (x == other) (is_among other starts) there) [
              | inl same ↦ let s : x ≡ other = eqb-true x other same in omega arith
              | inr more ↦ is.1.last other more at
            ];
          },
        )

    by : ((start : ℕ) × IsStart starts start place) ⊎ NoneBefore starts place → (b : Bool) → nat_lt place x ≡ b → ((start : ℕ) × IsStart (x ∷ starts) start place) ⊎ NoneBefore (x ∷ starts) place
    by rest true e = skip (ltb-true place x e) rest
    by rest false e = take_ (grind (arith, nat_tests)) rest

-- where 0 is a start, each place has one
pub start_of : (starts : List ℕ) (place : ℕ) → is_among 0 starts ≡ true → (start : ℕ) × IsStart starts start place
start_of starts place first = elim (last_before starts place) [
  | inl is ↦ is
  | inr none ↦ absurd (none 0 first (omega arith))
]
