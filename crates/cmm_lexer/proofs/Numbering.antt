-- Words and symbols in the order of their numbers: each stands at its number, and one is found by its spelling where the spelling stands.
use Rattle.std.proofs.Common.{◌≡◌, ℕ, zero, suc, ◌+◌, ◌<◌, ◌==◌, Bool, true, false, ◌&&◌, List, [], ◌∷◌, length, get_or, Some, None, refl, ap, sym, ◌∙◌, arith, nat_eq, nat_lt}
use Rattle.std.proofs.lemmas.Bool.{and_parts, eqb-true}
use Rattle.std.proofs.lemmas.Bool.Decides.{nat_tests}
use Rattle.std.specs.Cmp.Lexicographic.{pointwise}
use Rattle.cmm_lexer.specs.declared.keyword.Keyword.{Keyword}
use Rattle.cmm_lexer.specs.declared.keyword.Keyword.TheVariants as word
use Rattle.cmm_lexer.specs.declared.keyword.TheConstants.{KEYWORDS}
use Rattle.cmm_lexer.specs.declared.symbol.Symbol.{Symbol}
use Rattle.cmm_lexer.specs.declared.symbol.Symbol.TheVariants as sign
use Rattle.cmm_lexer.specs.declared.symbol.TheConstants.{SYMBOLS}
use Rattle.cmm_lexer.specs.Spellings.{keyword_number, symbol_number, number_of}
use Rattle.cmm_lexer.proofs.Positions.{position-found, position-none}

-- ---- lists in the order of numbers

-- these have the numbers from this one on
abbrev are_numbered : {W : Type 0} → (W → ℕ) → ℕ → List W → Bool
are_numbered number n [] = true
are_numbered number n (w ∷ ws) = number w == n && are_numbered number (n + 1) ws

-- what stands at a place has the number of the place
number-at : {W : Type 0} (number : W → ℕ) (n : ℕ) (ws : List W) (d : W) → are_numbered number n ws ≡ true → (i : ℕ) → i < length ws → number (get_or ws i d) ≡ n + i
number-at number n [] d h i l = absurd (omega (arith, l))
number-at number n (w ∷ ws) d h zero l = omega (arith, eqb-true (number w) n (and_parts (number w == n) (are_numbered number (n + 1) ws) h).0)
number-at number n (w ∷ ws) d h (suc i) l =
    omega (arith, number-at number (n + 1) ws d (and_parts (number w == n) (are_numbered number (n + 1) ws) h).1 i (omega (arith, l)))

-- ---- words and symbols

pub keyword-at : (i : ℕ) → i < 49 → keyword_number (get_or KEYWORDS i word.Aborts) ≡ i
keyword-at i l = omega (arith, number-at keyword_number 0 KEYWORDS word.Aborts refl i l)

pub symbol-at : (i : ℕ) → i < 29 → symbol_number (get_or SYMBOLS i sign.OpenBrace) ≡ i
symbol-at i l = omega (arith, number-at symbol_number 0 SYMBOLS sign.OpenBrace refl i l)

keyword-there : (k : Keyword) → get_or KEYWORDS (keyword_number k) word.Aborts ≡ k
keyword-there word.Aborts = refl
keyword-there _ = refl

symbol-there : (s : Symbol) → get_or SYMBOLS (symbol_number s) sign.OpenBrace ≡ s
symbol-there sign.OpenBrace = refl
symbol-there _ = refl

-- numbers tell words apart, and symbols
pub keyword_number-injective : (a b : Keyword) → keyword_number a ≡ keyword_number b → a ≡ b
keyword_number-injective a b e = sym (keyword-there a) ∙ ap (λ n. get_or KEYWORDS n word.Aborts) e ∙ keyword-there b

pub symbol_number-injective : (a b : Symbol) → symbol_number a ≡ symbol_number b → a ≡ b
symbol_number-injective a b e = sym (symbol-there a) ∙ ap (λ n. get_or SYMBOLS n sign.OpenBrace) e ∙ symbol-there b

-- ---- by their spellings

-- none before a place, and not there: none up to it
pub none-further : (test : ℕ → Bool) (i : ℕ) → ((k : ℕ) → k < i → test k ≡ false) → test i ≡ false → (k : ℕ) → k < i + 1 → test k ≡ false
none-further test i before here k l = by (nat_lt k i) refl where
  by : (t : Bool) → nat_lt k i ≡ t → test k ≡ false
  by true e = before k (grind (arith, nat_tests))
  by false e = let last : k ≡ i = grind (arith, nat_tests) in rw last here

pub spelled-found : (table : List (List ℕ)) (spelling : List ℕ) (i n : ℕ) → n ≡ i → i < length table → ((k : ℕ) → k < i → pointwise nat_eq spelling (get_or table k []) ≡ false) →
    pointwise nat_eq spelling (get_or table i []) ≡ true → Some n ≡ number_of table spelling
unfolding number_of
spelled-found table spelling i n e l before here = rw e (position-found (pointwise nat_eq spelling) table i [] l before here)

pub spelled-none : (table : List (List ℕ)) (spelling : List ℕ) → ((k : ℕ) → k < length table → pointwise nat_eq spelling (get_or table k []) ≡ false) → None ≡ number_of table spelling
unfolding number_of
spelled-none table spelling before = position-none (pointwise nat_eq spelling) table [] before
