-- A test in rounds: what passes in one round passes in the next. On a list where a round that adds nothing is followed by
-- none that does, nothing is added after as many rounds as the list has elements.
use Rattle.std.proofs.Common.{◌≡◌, ℕ, zero, suc, ◌+◌, ◌<◌, ◌≤◌, ◌⊎◌, inl, inr, Bool, true, false, List, [], ◌∷◌, length, refl, arith}
use Rattle.std.proofs.lemmas.Bool.{cases_lt}
use Rattle.std.specs.List.{AllByRecursion}

abbrev one : Bool → ℕ
one true = 1
one false = 0

one_grows : (b c : Bool) → (b ≡ true → c ≡ true) → one b ≤ one c
one_grows true c h = let e = h refl in rw e (omega arith)
one_grows false c h = omega arith

-- what counts no more than before was there before
one_stays : (b c : Bool) → one c ≤ one b → c ≡ true → b ≡ true
one_stays true c h e = refl
one_stays false true h e = absurd (omega arith)
one_stays false false h e = e

-- the round after n adds nothing here
abbrev pub IsStill : {A : Type 0} → (ℕ → A → Bool) → ℕ → A → Type 0
IsStill test n a = test (suc n) a ≡ true → test n a ≡ true

module _ {A : Type 0} (test : ℕ → A → Bool) (grows : (n : ℕ) (a : A) → test n a ≡ true → test (suc n) a ≡ true) where
  -- how many of some elements pass
  abbrev passing : ℕ → List A → ℕ
  passing n [] = 0
  passing n (a ∷ others) = one (test n a) + passing n others

  passing-bound : (n : ℕ) (list : List A) → passing n list ≤ length list
  passing-bound n [] = omega arith
  passing-bound n (a ∷ others) = omega (arith, passing-bound n others, one_grows (test n a) true (λ _. refl))

  passing_grows : (n : ℕ) (list : List A) → passing n list ≤ passing (suc n) list
  passing_grows n [] = omega arith
  passing_grows n (a ∷ others) = omega (arith, passing_grows n others, one_grows (test n a) (test (suc n) a) (grows n a))

  -- where a round adds to no count it adds nothing
  still : (n : ℕ) (list : List A) → passing (suc n) list ≤ passing n list → AllByRecursion (IsStill test n) list
  still n [] few = tt
  still n (a ∷ others) few =
      let here = one_grows (test n a) (test (suc n) a) (grows n a) in
      let there = passing_grows n others in
      (one_stays (test n a) (test (suc n) a) (omega arith), still n others (omega arith))

  -- what passes in a round passes in a later one
  later : (m n : ℕ) (a : A) → m ≤ n → test m a ≡ true → test n a ≡ true
  later m zero a le h = let e : m ≡ zero = omega arith in rw (← e) h
  later m (suc n) a le h = by (λ more. later m n a more h) (cases_lt n m)
    where
      by : (m ≤ n → test n a ≡ true) → (n < m) ⊎ (m ≤ n) → test (suc n) a ≡ true
      by before (inl less) = let e : m ≡ suc n = omega arith in rw (← e) h
      by before (inr more) = grows n a (before more)

  module _
      (list : List A)
      (lasts : (n : ℕ) → AllByRecursion (IsStill test n) list → AllByRecursion (IsStill test (suc n)) list)
    where
      -- a round adds nothing, or more elements pass after it than there were rounds before
      abbrev AddsOrStill : ℕ → Type 0
      AddsOrStill n = AllByRecursion (IsStill test n) list ⊎ (n < passing (suc n) list)

      adds : (n : ℕ) → AddsOrStill n
      adds zero = elim (cases_lt (passing zero list) (passing 1 list)) [
        | inl more ↦ inr (omega arith)
        | inr same ↦ inl (still zero list same)
      ]
      adds (suc n) = by (adds n) (cases_lt (passing (suc n) list) (passing (suc (suc n)) list))
        where
          by : AddsOrStill n → (passing (suc n) list < passing (suc (suc n)) list) ⊎ (passing (suc (suc n)) list ≤ passing (suc n) list) → AddsOrStill (suc n)
          by before (inr same) = inl (still (suc n) list same)
          by (inl is) (inl more) = inl (lasts n is)
          by (inr many) (inl more) = inr (omega arith)

      is_still : (n : ℕ) → length list ≤ n → AllByRecursion (IsStill test n) list
      is_still n enough = elim (adds n) [ inl is ↦ is | inr many ↦ absurd (omega (arith, passing-bound (suc n) list)) ]

      -- what ever passes passes after as many rounds as there are elements
      pub settles : (n : ℕ) → length list ≤ n → AllByRecursion (λ a. (m : ℕ) → test m a ≡ true → test n a ≡ true) list
      settles n enough = each list (λ m past. is_still m (omega arith))
        where
          at : (a : A) → ((m : ℕ) → n ≤ m → IsStill test m a) → (m : ℕ) → test m a ≡ true → test n a ≡ true
          at a stays zero h = later zero n a (omega arith) h
          at a stays (suc m) h = elim (cases_lt m n) [
            | inl early ↦ later (suc m) n a (omega arith) h
            | inr past ↦ at a stays m (stays m past h)
          ]

          each : (as_ : List A) → ((m : ℕ) → n ≤ m → AllByRecursion (IsStill test m) as_) →
              AllByRecursion (λ a. (m : ℕ) → test m a ≡ true → test n a ≡ true) as_
          each [] stays = tt
          each (a ∷ others) stays = (at a (λ m past. (stays m past).0), each others (λ m past. (stays m past).1))
