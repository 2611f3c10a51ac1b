-- The spellings of a table by their first byte: each stands within the bounds of that byte, and so no spelling stands outside of its own.
use Rattle.std.proofs.Common.{◌≡◌, ◌⊎◌, inl, inr, ℕ, zero, suc, ◌+◌, ◌-◌, ◌<◌, ◌≤◌, ◌&&◌, Bool, true, false, List, [], ◌∷◌, length, get_or, Some, None, refl, sym, ap, subst, arith, nat_eq, nat_lt}
use Rattle.std.proofs.lemmas.Bool.{and_parts, eqb-true}
use Rattle.std.proofs.lemmas.Bool.Decides.{nat_tests}
use Rattle.std.specs.Cmp.Lexicographic.{pointwise}
use Rattle.std.specs.List.{slice_get}
use Rattle.cmm_lexer.specs.declared.keyword.TheConstants.{BEGINNINGS}
use Rattle.cmm_lexer.specs.Spellings.{number_of, reserved, symbols}
use Rattle.cmm_lexer.proofs.Numbering.{spelled-none}

-- each spelling from this number on stands within the bounds of its first byte
abbrev are_bounded : (ℕ → ℕ × ℕ) → ℕ → List (List ℕ) → Bool
are_bounded bounds n [] = true
are_bounded bounds n ([] ∷ ws) = false
are_bounded bounds n ((b ∷ bs) ∷ ws) = (nat_lt n (bounds b).1 && nat_lt (bounds b).0 (suc n)) && are_bounded bounds (suc n) ws

-- a spelling that stands there stands within its bounds
bounded : (bounds : ℕ → ℕ × ℕ) (n : ℕ) (table : List (List ℕ)) → are_bounded bounds n table ≡ true → (b : ℕ) (bs : List ℕ) (k : ℕ) →
    pointwise nat_eq (b ∷ bs) (get_or table k []) ≡ true → ((bounds b).0 ≤ n + k) × (n + k < (bounds b).1)
bounded bounds n [] are b bs k here = absurd (cc (here))
bounded bounds n ([] ∷ ws) are b bs k here = absurd (cc (are))
bounded bounds n ((c ∷ cs) ∷ ws) are b bs zero here =
    let same : b ≡ c = eqb-true b c (and_parts (nat_eq b c) (pointwise nat_eq bs cs) here).0 in
    let tests = and_parts (nat_lt n (bounds c).1) (nat_lt (bounds c).0 (suc n)) (and_parts (nat_lt n (bounds c).1 && nat_lt (bounds c).0 (suc n)) (are_bounded bounds (suc n) ws) are).0 in
    let above : n < (bounds c).1 = (let test = tests.0 in grind (arith, nat_tests)) in
    let below : (bounds c).0 < suc n = (let test = tests.1 in grind (arith, nat_tests)) in
    subst (λ x. ((bounds x).0 ≤ n + zero) × (n + zero < (bounds x).1)) (sym same) (omega (arith, below), omega (arith, above))
bounded bounds n ((c ∷ cs) ∷ ws) are b bs (suc k) here =
    let found = bounded bounds (suc n) ws (and_parts (nat_lt n (bounds c).1 && nat_lt (bounds c).0 (suc n)) (are_bounded bounds (suc n) ws) are).1 b bs k here in
    (omega (arith, found.0), omega (arith, found.1))

-- a spelling does not stand outside of its bounds
outside : (bounds : ℕ → ℕ × ℕ) (table : List (List ℕ)) → are_bounded bounds 0 table ≡ true → (b : ℕ) (bs : List ℕ) (k : ℕ) →
    (k < (bounds b).0) ⊎ ((bounds b).1 ≤ k) → pointwise nat_eq (b ∷ bs) (get_or table k []) ≡ false
outside bounds table are b bs k out = by (pointwise nat_eq (b ∷ bs) (get_or table k [])) refl where
  by : (t : Bool) → pointwise nat_eq (b ∷ bs) (get_or table k []) ≡ t → pointwise nat_eq (b ∷ bs) (get_or table k []) ≡ false
  by false is = is
  by true is =
      let found = bounded bounds 0 table are b bs k is in
      elim out [ inl below ↦ absurd (omega (arith, below, found.0)) | inr above ↦ absurd (omega (arith, above, found.1)) ]

-- ---- reserved words

-- none that begins with a byte stands outside of its bounds
pub no_word : (bounds : ℕ × ℕ) (b : ℕ) → bounds ≡ get_or BEGINNINGS (b - 97) (0, 0) → (spelling : List ℕ) → Some b ≡ slice_get spelling 0 → (k : ℕ) →
    (k < bounds.0) ⊎ (bounds.1 ≤ k) → pointwise nat_eq spelling (get_or reserved k []) ≡ false
unfolding reserved
no_word bounds b is [] some k out = absurd (cc (some))
no_word bounds b is (c ∷ cs) some k out =
    let same : b ≡ c = cc (some) in
    outside (λ byte. get_or BEGINNINGS (byte - 97) (0, 0)) reserved refl c cs k
    (subst (λ x. (k < (get_or BEGINNINGS (x - 97) (0, 0)).0) ⊎ ((get_or BEGINNINGS (x - 97) (0, 0)).1 ≤ k)) same (subst (λ (x : ℕ × ℕ). (k < x.0) ⊎ (x.1 ≤ k)) is out))

-- none is one, if none stands before a place behind the bounds
pub no_word_left : (bounds : ℕ × ℕ) (b : ℕ) → bounds ≡ get_or BEGINNINGS (b - 97) (0, 0) → (spelling : List ℕ) → Some b ≡ slice_get spelling 0 → (place : ℕ) → bounds.1 ≤ place →
    ((k : ℕ) → k < place → pointwise nat_eq spelling (get_or reserved k []) ≡ false) → (k : ℕ) → pointwise nat_eq spelling (get_or reserved k []) ≡ false
no_word_left bounds b is spelling some place behind before k = by (nat_lt k place) refl where
  by : (t : Bool) → nat_lt k place ≡ t → pointwise nat_eq spelling (get_or reserved k []) ≡ false
  by true e = before k (grind (arith, nat_tests))
  by false e = no_word bounds b is spelling some k (inr (let above : place ≤ k = grind (arith, nat_tests) in omega (arith, above, behind)))

-- no bytes are none
pub no_bytes : (spelling : List ℕ) → None ≡ slice_get spelling 0 → None ≡ number_of reserved spelling
unfolding number_of reserved
no_bytes [] none = refl
no_bytes (c ∷ cs) none = absurd (cc (none))

-- the bounds are numbers of words
abbrev end_within : List (ℕ × ℕ) → Bool
end_within [] = true
end_within (bounds ∷ more) = nat_lt bounds.1 50 && end_within more

all_within : (table : List (ℕ × ℕ)) → end_within table ≡ true → (k : ℕ) → (get_or table k (0, 0)).1 ≤ 49
all_within [] are k = omega arith
all_within (bounds ∷ more) are zero = (let test = (and_parts (nat_lt bounds.1 50) (end_within more) are).0 in grind (arith, nat_tests))
all_within (bounds ∷ more) are (suc k) = all_within more (and_parts (nat_lt bounds.1 50) (end_within more) are).1 k

pub words_within : (bounds : ℕ × ℕ) (b : ℕ) → bounds ≡ get_or BEGINNINGS (b - 97) (0, 0) → bounds.1 ≤ 49
words_within bounds b is = subst (λ (x : ℕ × ℕ). x.1 ≤ 49) (sym is) (all_within BEGINNINGS refl (b - 97))

-- ---- symbols

same_length : (xs ys : List ℕ) → pointwise nat_eq xs ys ≡ true → length xs ≡ length ys
same_length [] [] same = refl
same_length [] (y ∷ ys) same = absurd (cc (same))
same_length (x ∷ xs) [] same = absurd (cc (same))
same_length (x ∷ xs) (y ∷ ys) same = ap suc (same_length xs ys (and_parts (nat_eq x y) (pointwise nat_eq xs ys) same).1)

-- these have at most two bytes
abbrev are_short : List (List ℕ) → Bool
are_short [] = true
are_short (w ∷ ws) = nat_lt (length w) 3 && are_short ws

all_short : (table : List (List ℕ)) → are_short table ≡ true → (k : ℕ) → length (get_or table k []) < 3
all_short [] are k = omega arith
all_short (w ∷ ws) are zero = (let test = (and_parts (nat_lt (length w) 3) (are_short ws) are).0 in grind (arith, nat_tests))
all_short (w ∷ ws) are (suc k) = all_short ws (and_parts (nat_lt (length w) 3) (are_short ws) are).1 k

-- more bytes are none
pub no_long_symbol : (spelling : List ℕ) → 3 ≤ length spelling → None ≡ number_of symbols spelling
unfolding symbols
no_long_symbol spelling long = spelled-none symbols spelling (λ k low. by k (pointwise nat_eq spelling (get_or symbols k [])) refl)
  where
    by : (k : ℕ) (t : Bool) → pointwise nat_eq spelling (get_or symbols k []) ≡ t → pointwise nat_eq spelling (get_or symbols k []) ≡ false
    by k false is = is
    by k true is = absurd (omega (arith, long, same_length spelling (get_or symbols k []) is, all_short symbols refl k))

-- nor are no bytes
pub no_empty_symbol : (spelling : List ℕ) → length spelling < 1 → None ≡ number_of symbols spelling
unfolding number_of symbols
no_empty_symbol [] short = refl
no_empty_symbol (c ∷ cs) short = absurd (omega (arith, short))
