-- What trees take, one part after the other.
use Rattle.std.proofs.Common.{◌≡◌, ℕ, suc, ◌==◌, nat_lt, Bool, true, false, List, [], ◌∷◌, ◌++◌, Option, Some, None, refl, sym, ap, ◌∙◌, arith}
use Rattle.std.proofs.Math.Path.{fun_ext}
use Rattle.std.proofs.lemmas.Bool.Decides.{nat_tests}
use Rattle.cmm_lexer.specs.declared.piece.Lexeme.{Lexeme}
use Rattle.cmm_lexer.specs.declared.symbol.Symbol.{Symbol}
use Rattle.cmm_lexer.specs.declared.symbol.Symbol.TheVariants.{Comma}
use Rattle.cmm_grammar.specs.Taking.{Reading, Takes, ◌⨾◌, nothing, token, taken_if, symbol as symbol_is, here as here_is, outermost as outermost_is, opening as opening_is, enclosed as enclosed_is, many as many_is, commas as commas_is, may_comma, first_over, is_sign, in_brackets as in_brackets_is}
use Rattle.cmm_grammar.specs.Reading.{next, past, passes, is_comma}

-- ---- one after the other

pub taken_then : (first k : Takes) (r after : Reading) → first r ≡ Some after → (first ⨾ k) r ≡ k after
taken_then first k r after e = rw (◌⨾◌, e) refl

pub same_number : (n : ℕ) → (n == n) ≡ true
same_number n = grind (arith, nat_tests)

after_assoc : (o : Option Reading) (q s : Takes) →
    elim (elim o as (λ _. Option Reading) [ Some x ↦ q x | None ↦ None ]) as (λ _. Option Reading) [ Some x ↦ s x | None ↦ None ]
    ≡ elim o as (λ _. Option Reading) [ Some x ↦ (q ⨾ s) x | None ↦ None ]
after_assoc (Some x) q s = refl
after_assoc None q s = refl

pub takes_assoc : (p q s : Takes) → ((p ⨾ q) ⨾ s) ≡ (p ⨾ q ⨾ s)
takes_assoc p q s = fun_ext (λ r. after_assoc (p r) q s)

after_nothing : (o : Option Reading) → elim o as (λ _. Option Reading) [ Some x ↦ Some x | None ↦ None ] ≡ o
after_nothing (Some x) = refl
after_nothing None = refl

pub takes_nothing : (p : Takes) → (p ⨾ nothing) ≡ p
takes_nothing p = fun_ext (λ r. after_nothing (p r))

pub takes_assoc3 : (p q s k : Takes) → ((p ⨾ q ⨾ s) ⨾ k) ≡ (p ⨾ q ⨾ s ⨾ k)
takes_assoc3 p q s k = takes_assoc p (q ⨾ s) k ∙ ap (λ t. p ⨾ t) (takes_assoc q s k)

-- ---- one token

taken_one : (test : Lexeme → Bool) (x : Lexeme) (left : List Lexeme) (taken opens operators : ℕ) (over : Option ℕ) → next left ≡ Some x →
    test x ≡ true →
    token test (record { left = left; taken = taken; open_brackets = opens; operators = operators; over = over })
    ≡ Some record { left = past left; taken = suc taken; open_brackets = opens; operators = operators; over = over }
taken_one test x [] taken opens operators over is passes = absurd cc
taken_one test x (y ∷ ys) taken opens operators over is passes =
    let same : y ≡ x = cc in
    let passed : test y ≡ true = rw same passes in
    rw (passed) refl

-- the token is taken
pub one_taken : (test : Lexeme → Bool) (x : Lexeme) (r : Reading) → next r.left ≡ Some x → test x ≡ true →
    token test r ≡ Some record r { left = past r.left; taken = suc r.taken }
one_taken test x r is passes = taken_one test x r.left r.taken r.open_brackets r.operators r.over is passes

-- ---- a token that is counted

-- the same with these tokens left
abbrev pub put : List Lexeme → Reading → Reading
put left r = record r { left = left }

-- a token over a limit stays the first
pub first_stays : (o : Option ℕ) (test : Bool) (at token : ℕ) → o ≡ Some token → first_over o test at ≡ Some token
first_stays (Some n) test at token e = e
first_stays None test at token e = absurd cc

abbrev pub after_operator : Reading → Reading
after_operator q = record q {
  taken = suc q.taken;
  operators = suc q.operators;
  over = first_over q.over (nat_lt 500 (suc q.operators)) q.taken;
}

abbrev pub after_opening : Reading → Reading
after_opening q = record q {
  taken = suc q.taken;
  open_brackets = suc q.open_brackets;
  over = first_over q.over (nat_lt 200 (suc q.open_brackets)) q.taken;
}

-- ---- lists

-- each after a comma, and then what goes on
abbrev pub rest_to : {A : Type 0} → (A → Takes) → List A → Takes → Takes
rest_to p [] k = k
rest_to p (a ∷ as_) k = symbol_is Comma ⨾ p a ⨾ rest_to p as_ k

pub rest_to-append : {A : Type 0} (p : A → Takes) (as_ : List A) (b : A) (k : Takes) →
    rest_to p (as_ ++ (b ∷ [])) k ≡ rest_to p as_ (symbol_is Comma ⨾ p b ⨾ k)
rest_to-append p [] b k = refl
rest_to-append p (a ∷ as_) b k = ap (λ t. symbol_is Comma ⨾ p a ⨾ t) (rest_to-append p as_ b k)

pub commas_to : {A : Type 0} (p : A → Takes) (a : A) (as_ : List A) (k : Takes) → (commas_is p (a ∷ as_) ⨾ k) ≡ (p a ⨾ rest_to p as_ k)
commas_to p a [] k = refl
commas_to p a (b ∷ rest) k =
    takes_assoc (p a) (symbol_is Comma ⨾ commas_is p (b ∷ rest)) k
    ∙ ap (λ t. p a ⨾ t) (takes_assoc (symbol_is Comma) (commas_is p (b ∷ rest)) k)
    ∙ ap (λ t. p a ⨾ symbol_is Comma ⨾ t) (commas_to p b rest k)

no_comma : (left : List Lexeme) (taken opens operators : ℕ) (over : Option ℕ) → passes is_comma (next left) ≡ false →
    may_comma (record { left = left; taken = taken; open_brackets = opens; operators = operators; over = over })
    ≡ Some record { left = left; taken = taken; open_brackets = opens; operators = operators; over = over }
no_comma [] taken opens operators over e = refl
no_comma (x ∷ xs) taken opens operators over e = rw (may_comma, e) refl

pub may_comma_not : (r : Reading) → passes is_comma (next r.left) ≡ false → may_comma r ≡ Some r
may_comma_not r e = no_comma r.left r.taken r.open_brackets r.operators r.over e

pub may_comma_taken : (x : Lexeme) (r : Reading) → next r.left ≡ Some x → is_comma x ≡ true →
    may_comma r ≡ Some record r { left = past r.left; taken = suc r.taken }
may_comma_taken x r is passed = rw (may_comma, one_taken is_comma x r is passed) refl

-- ---- rows

-- each of a row, and then what goes on
abbrev pub many_to : {A : Type 0} → (A → Takes) → List A → Takes → Takes
many_to p [] k = k
many_to p (a ∷ as_) k = p a ⨾ many_to p as_ k

pub many_to-append : {A : Type 0} (p : A → Takes) (as_ : List A) (b : A) (k : Takes) → many_to p (as_ ++ (b ∷ [])) k ≡ many_to p as_ (p b ⨾ k)
many_to-append p [] b k = refl
many_to-append p (a ∷ as_) b k = ap (λ t. p a ⨾ t) (many_to-append p as_ b k)

pub many_to-nothing : {A : Type 0} (p : A → Takes) (as_ : List A) → many_is p as_ ≡ many_to p as_ nothing
many_to-nothing p [] = refl
many_to-nothing p (a ∷ as_) = ap (λ t. p a ⨾ t) (many_to-nothing p as_)

-- ---- where operators are counted anew

-- takes tokens of which none is an operator
pub record Apart (p : Takes) : Type 0 where
  pub apart : (k : Takes) → outermost_is (p ⨾ k) ≡ (p ⨾ outermost_is k)

tested_apart : (test : Bool) (xs : List Lexeme) (k : Takes) (r : Reading) →
    (taken_if test xs ⨾ k) (record r { operators = 0 }) ≡ (taken_if test xs ⨾ outermost_is k) r
tested_apart true xs k r = refl
tested_apart false xs k r = refl

token_apart_at : (test : Lexeme → Bool) (left : List Lexeme) (taken opens operators : ℕ) (over : Option ℕ) (k : Takes) →
    outermost_is (token test ⨾ k) (record { left = left; taken = taken; open_brackets = opens; operators = operators; over = over })
    ≡ (token test ⨾ outermost_is k) (record { left = left; taken = taken; open_brackets = opens; operators = operators; over = over })
token_apart_at test [] taken opens operators over k = refl
token_apart_at test (x ∷ xs) taken opens operators over k =
    tested_apart (test x) xs k (record { left = x ∷ xs; taken = taken; open_brackets = opens; operators = operators; over = over })

pub token_apart : (test : Lexeme → Bool) → Apart (token test)
token_apart test = record { apart = λ k. fun_ext (λ r. token_apart_at test r.left r.taken r.open_brackets r.operators r.over k) }

here_apart_at : (test : Bool) (k : Takes) (r : Reading) →
    elim (elim test as (λ _. Option Reading) [ true ↦ Some record r { operators = 0 } | false ↦ None ]) as (λ _. Option Reading) [ Some x ↦ k x | None ↦ None ]
    ≡ elim (elim test as (λ _. Option Reading) [ true ↦ Some r | false ↦ None ]) as (λ _. Option Reading) [ Some x ↦ outermost_is k x | None ↦ None ]
here_apart_at true k r = refl
here_apart_at false k r = refl

pub here_apart : (n : ℕ) → Apart (here_is n)
here_apart n = record { apart = λ k. fun_ext (λ r. here_apart_at (n == r.taken) k r) }

pub both_apart : {p q : Takes} → Apart p → Apart q → Apart (p ⨾ q)
both_apart {p} {q} one two = record {
  apart = λ k. ap (λ t. outermost_is t) (takes_assoc p q k) ∙ one.apart (q ⨾ k) ∙ ap (λ t. p ⨾ t) (two.apart k) ∙ sym (takes_assoc p q (outermost_is k));
}

after_apart : (o o' : Option Reading) (f : Reading → Reading) → ((x : Reading) → f (record x { operators = 0 }) ≡ record (f x) { operators = 0 }) →
    o' ≡ elim o as (λ _. Option Reading) [ Some x ↦ Some record x { operators = 0 } | None ↦ None ] → (k : Takes) →
    elim (elim o' as (λ _. Option Reading) [ Some x ↦ Some (f x) | None ↦ None ]) as (λ _. Option Reading) [ Some x ↦ k x | None ↦ None ]
    ≡ elim (elim o as (λ _. Option Reading) [ Some x ↦ Some (f x) | None ↦ None ]) as (λ _. Option Reading) [ Some x ↦ outermost_is k x | None ↦ None ]
after_apart (Some x) o' f same e k = rw e (ap k (same x))
after_apart None o' f same e k = rw e refl

counted : ℕ → Reading → Reading
counted taken after = record after { open_brackets = suc after.open_brackets; over = first_over after.over (nat_lt 200 (suc after.open_brackets)) taken }

pub opened_apart : (test : Lexeme → Bool) → Apart (opening_is (token test))
unfolding counted
opened_apart test = record {
  apart = λ k. fun_ext (λ r. after_apart (token test r) (token test (record r { operators = 0 })) (counted r.taken) (λ x. refl)
      (ap (λ t. t (record r { operators = 0 })) (sym (takes_nothing (token test))) ∙ ap (λ t. t r) ((token_apart test).apart nothing)) k);
}

pub outermost_brackets : (left : Symbol) (p : Takes) (right : Symbol) →
    outermost_is (in_brackets_is left p right) ≡ in_brackets_is left (outermost_is p) right
outermost_brackets left p right = ap enclosed_is ((opened_apart (is_sign left)).apart (p ⨾ symbol_is right))
