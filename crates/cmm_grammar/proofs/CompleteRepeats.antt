-- Parts that may be missing, rows, and words that say what follows: each that what follows does not go on is read.
use Rattle.std.proofs.Common.{◌≡◌, ℕ, zero, suc, ◌≤◌, ◌⊎◌, inl, inr, Bool, true, false, List, [], ◌∷◌, ◌++◌, Option, Some, None, sym, arith, append_assoc, append-nil, le_refl, ◌==◌, refl}
use Rattle.std.proofs.lemmas.Bool.{eqb-true}
use Rattle.cmm_lexer.specs.declared.piece.Lexeme.{Lexeme}
use Rattle.cmm_lexer.specs.declared.piece.Lexeme.TheVariants as l
use Rattle.cmm_lexer.specs.declared.keyword.Keyword.{Keyword}
use Rattle.cmm_lexer.specs.declared.symbol.Symbol.{Symbol}
use Rattle.cmm_lexer.specs.Spellings.{keyword_number, symbol_number}
use Rattle.cmm_grammar.specs.Taking.{Reading, Takes, ◌⨾◌, nothing, here as here_is, is_word, is_sign, keyword as keyword_is, symbol as symbol_is, many as many_is, optional as optional_is}
use Rattle.cmm_grammar.specs.Reading.{Reads, ◌>>=◌, give, passes, if_next, here, skip, keyword, optional, many, is_comma}
use Rattle.cmm_grammar.specs.inside.Duties.{Moves, Complete}
use Rattle.cmm_grammar.specs.DeclarationReading.{if_word, if_symbol}
use Rattle.cmm_grammar.proofs.Takings.{same_number, takes_assoc, takes_nothing}
use Rattle.cmm_grammar.proofs.Completes.{Next, Anything, Strict, both, follow_complete, less_complete, fewer_complete, after_complete, give_complete, last_complete, holds_complete, fails_complete, skip_complete, here_complete, token_strict, never_complete, then_complete, by_taken, same_complete}
use Rattle.cmm_grammar.proofs.Tokens.{only_keyword, only_symbol, keyword_complete}
use Rattle.cmm_grammar.proofs.Lists.{After, Parts, Each, zero_complete, by_turns}

-- the next token passes a test, or does not
abbrev pub Passes : (Lexeme → Bool) → Option Lexeme → Type 0
Passes test x = passes test x ≡ true

abbrev pub Not : (Lexeme → Bool) → Option Lexeme → Type 0
Not test x = passes test x ≡ false

-- neither a word nor a symbol that fails a test is among the tokens that pass it
other_number : (test : Lexeme → Bool) (make : ℕ → Lexeme) (k n : ℕ) → test (make k) ≡ false → test (make n) ≡ true → (k == n) ≡ false
other_number test make k n none e = by (k == n) refl where
  by : (o : Bool) → (k == n) ≡ o → o ≡ false
  by true is = absurd (let same : k ≡ n = eqb-true k n is in let f : test (make k) ≡ true = rw same e in cc)
  by false is = refl

pub other_word : (test : Lexeme → Bool) (word : Keyword) → test (l.Word (keyword_number word)) ≡ false → (x : Option Lexeme) → Passes test x →
    Not (is_word word) x
other_word test word none (Some (l.Word n)) e = other_number test l.Word (keyword_number word) n none e
other_word test word none (Some _) e = refl
other_word test word none None e = refl

pub other_symbol : (test : Lexeme → Bool) (sign : Symbol) → test (l.Symbol (symbol_number sign)) ≡ false → (x : Option Lexeme) → Passes test x →
    Not (is_sign sign) x
other_symbol test sign none (Some (l.Symbol n)) e = other_number test l.Symbol (symbol_number sign) n none e
other_symbol test sign none (Some _) e = refl
other_symbol test sign none None e = refl

-- neither of two tokens passes a test
pub either_not : {a b : Lexeme} (test : Lexeme → Bool) → test a ≡ false → test b ≡ false → (x : Option Lexeme) → Next a x ⊎ Next b x → Not test x
either_not test e f x (inl is) = rw is e
either_not test e f x (inr is) = rw is f

-- ---- one after the other

-- after which nothing more is read
pub end_complete : {A B : Type 0} {fuel : ℕ} {p : Takes} {a : A} {b : B} {reads : Reads A} {first middle follow : Option Lexeme → Type 0}
    (rest : A → Reads B) → Complete fuel p a reads first middle →
    ((x : Option Lexeme) → follow x → middle x) → Complete fuel nothing b (rest a) follow follow → Complete fuel p b (reads >>= rest) first follow
end_complete {fuel = fuel} {p = p} {b = b} {reads = reads} {first = first} {follow = follow} rest one goes two =
    same_complete (sym (takes_nothing p)) (then_complete rest one goes two)

-- before which nothing was taken
pub start_complete : {A B : Type 0} {fuel : ℕ} {q : Takes} {a : A} {b : B} {reads : Reads A} {first middle begins follow : Option Lexeme → Type 0}
    (rest : A → Reads B) → Complete fuel nothing a reads first middle →
    ((x : Option Lexeme) → begins x → middle x) → Complete fuel q b (rest a) begins follow → Complete fuel q b (reads >>= rest) first follow
start_complete rest one goes two = then_complete rest one goes two

-- in other brackets
pub flat_complete : {A : Type 0} {fuel : ℕ} (p q s : Takes) {a : A} {reads : Reads A} {first follow : Option Lexeme → Type 0} →
    Complete fuel ((p ⨾ q) ⨾ s) a reads first follow → Complete fuel (p ⨾ q ⨾ s) a reads first follow
flat_complete {fuel = fuel} p q s {a = a} {reads = reads} {first = first} {follow = follow} one =
    same_complete (sym (takes_assoc p q s)) one

-- ---- words and symbols that say what follows

pub if_word_complete : {A : Type 0} {fuel : ℕ} {q : Takes} {a : A} {holds fails : Reads A} {begins follow : Option Lexeme → Type 0} (word : Keyword) →
    Complete fuel q a holds begins follow →
    Complete fuel (keyword_is word ⨾ q) a (if_word word holds fails) (Next (l.Word (keyword_number word))) follow
if_word_complete {fails = fails} word rest =
    holds_complete {fails = fails} (is_word word) (λ x e. rw e (same_number (keyword_number word)))
    (after_complete (skip_complete (is_word word) (only_keyword word)) (λ x f. tt) (λ _. rest))

-- the word is all
pub only_word_complete : {A : Type 0} {fuel : ℕ} {a : A} {fails : Reads A} (word : Keyword) →
    Complete fuel (keyword_is word) a (if_word word (give a) fails) (Next (l.Word (keyword_number word))) Anything
only_word_complete {a = a} {fails = fails} word =
    holds_complete {fails = fails} (is_word word) (λ x e. rw e (same_number (keyword_number word)))
    (last_complete (λ _. a) (skip_complete (is_word word) (only_keyword word)))

pub only_symbol_complete : {A : Type 0} {fuel : ℕ} {a : A} {fails : Reads A} (sign : Symbol) →
    Complete fuel (symbol_is sign) a (if_symbol sign (give a) fails) (Next (l.Symbol (symbol_number sign))) Anything
only_symbol_complete {a = a} {fails = fails} sign =
    holds_complete {fails = fails} (is_sign sign) (λ x e. rw e (same_number (symbol_number sign)))
    (last_complete (λ _. a) (skip_complete (is_sign sign) (only_symbol sign)))

-- ---- parts that may be missing

pub some_complete : {A : Type 0} {fuel : ℕ} {p : Takes} {a : A} {reads : Reads A} {first follow : Option Lexeme → Type 0} (begins : Lexeme → Bool) →
    ((x : Option Lexeme) → first x → Passes begins x) → Complete fuel p a reads first follow →
    Complete fuel p (Some a) (optional begins reads) first follow
some_complete begins starts one = holds_complete {fails = give None} begins starts (last_complete (λ a. Some a) one)

pub none_complete : {A : Type 0} {fuel : ℕ} {holds : Reads (Option A)} {follow : Option Lexeme → Type 0} (begins : Lexeme → Bool) →
    ((x : Option Lexeme) → follow x → Not begins x) → Complete fuel nothing None (if_next begins holds (give None)) follow follow
none_complete begins ends = fails_complete begins ends (give_complete None)

pub optional_complete : {A : Type 0} {fuel : ℕ} {reads : Reads A} {p : A → Takes} {first follow : Option Lexeme → Type 0} (begins : Lexeme → Bool) →
    ((x : Option Lexeme) → first x → Passes begins x) → ((x : Option Lexeme) → follow x → Not begins x) →
    ((a : A) → Complete fuel (p a) a reads first follow) → (o : Option A) →
    Complete fuel (optional_is p o) o (optional begins reads) (λ x. first x ⊎ follow x) follow
optional_complete begins starts ends item (Some a) =
    follow_complete (λ x f. inl f) (λ x f. f) (some_complete begins starts (item a))
optional_complete begins starts ends item None =
    follow_complete (λ x f. inr f) (λ x f. f) (none_complete begins ends)

pub parts_before : {follow_one : Option Lexeme → Type 0} (begins : Lexeme → Bool) (end : Symbol) →
    begins (l.Symbol (symbol_number end)) ≡ false → is_comma (l.Symbol (symbol_number end)) ≡ false →
    ((x : Option Lexeme) → After (Next (l.Symbol (symbol_number end))) x → follow_one x) →
    Parts begins (Passes begins) follow_one (Next (l.Symbol (symbol_number end)))
parts_before begins end not_begun not_comma goes_on = record {
  starts = λ x f. f;
  ends = λ x e. rw e not_begun;
  no_comma = λ x e. rw e not_comma;
  goes_on = goes_on;
}

-- ---- what takes a token or more

pub record Spends {A : Type 0} (fuel : ℕ) (takes : Takes) (tree : A) (reads : Reads A) (first follow : Option Lexeme → Type 0) : Type 0 where
  pub complete : Complete fuel takes tree reads first follow
  pub strict : Strict takes

-- by its first part, or its second
pub strict_then : {p q : Takes} → Strict p → ((r after : Reading) → q r ≡ Some after → Moves r after) → Strict (p ⨾ q)
strict_then {p = p} {q = q} strict moves = record {
  strict = λ r after e.
      let s = both p q r after e in
      let less = strict.strict r s.between s.first in
      let m = (moves s.between after s.second).shrinks in
      omega arith;
}

pub strict_second : {p q : Takes} → ((r after : Reading) → p r ≡ Some after → Moves r after) → Strict q → Strict (p ⨾ q)
strict_second {p = p} {q = q} moves strict = record {
  strict = λ r after e.
      let s = both p q r after e in
      let m = (moves r s.between s.first).shrinks in
      let less = strict.strict s.between after s.second in
      omega arith;
}

pub here_strict : {q : Takes} (n : ℕ) → Strict q → Strict (here_is n ⨾ q)
here_strict n strict = strict_second (here_complete {fuel = 0} {follow = Anything} n).moves strict

pub if_word_spends : {A : Type 0} {fuel : ℕ} {q : Takes} {a : A} {holds fails : Reads A} {begins follow : Option Lexeme → Type 0} (word : Keyword) →
    Complete fuel q a holds begins follow →
    Spends fuel (keyword_is word ⨾ q) a (if_word word holds fails) (Next (l.Word (keyword_number word))) follow
if_word_spends word rest = record { complete = if_word_complete word rest; strict = strict_then (token_strict (only_keyword word)) rest.moves }

-- a word that must be next
pub keyword_spends : {A : Type 0} {fuel : ℕ} {q : Takes} {a : A} {rest : Reads A} {begins follow : Option Lexeme → Type 0} (word : Keyword) →
    Complete fuel q a rest begins follow → Spends fuel (keyword_is word ⨾ q) a (keyword word >>= λ _. rest) (Next (l.Word (keyword_number word))) follow
keyword_spends word rest = record {
  complete = after_complete (keyword_complete word) (λ x f. tt) (λ _. rest);
  strict = strict_then (token_strict (only_keyword word)) rest.moves;
}

pub follow_spends : {A : Type 0} {fuel : ℕ} {p : Takes} {a : A} {reads : Reads A} {first first' follow follow' : Option Lexeme → Type 0} →
    ((x : Option Lexeme) → first x → first' x) → ((x : Option Lexeme) → follow' x → follow x) → Spends fuel p a reads first follow →
    Spends fuel p a reads first' follow'
follow_spends begins ends one = record { complete = follow_complete begins ends one.complete; strict = one.strict }

-- by a test of the next token
pub not_next_spends : {A : Type 0} {fuel : ℕ} {p : Takes} {a : A} {holds fails : Reads A} {first follow : Option Lexeme → Type 0} (test : Lexeme → Bool) →
    ((x : Option Lexeme) → first x → Not test x) → Spends fuel p a fails first follow → Spends fuel p a (if_next test holds fails) first follow
not_next_spends test failing one = record { complete = fails_complete test failing one.complete; strict = one.strict }

pub if_next_spends : {A : Type 0} {fuel : ℕ} {p : Takes} {a : A} {holds fails : Reads A} {first follow : Option Lexeme → Type 0} (test : Lexeme → Bool) →
    ((x : Option Lexeme) → first x → Passes test x) → Spends fuel p a holds first follow → Spends fuel p a (if_next test holds fails) first follow
if_next_spends test passing one = record { complete = holds_complete test passing one.complete; strict = one.strict }

pub last_spends : {A B : Type 0} {fuel : ℕ} {p : Takes} {a : A} {reads : Reads A} {first follow : Option Lexeme → Type 0} (make : A → B) →
    Spends fuel p a reads first follow → Spends fuel p (make a) (reads >>= λ a. give (make a)) first follow
last_spends make one = record { complete = last_complete make one.complete; strict = one.strict }

pub taken_spends : {A E : Type 0} {fuel : ℕ} {p : Takes} {a : A} {reads : Reads A} {first follow : Option Lexeme → Type 0} (q : E → Takes) →
    ((r after : Reading) → p r ≡ Some after → (known : E) × (q known r ≡ Some after)) → ((known : E) → Spends fuel (q known) a reads first follow) →
    Spends fuel p a reads first follow
taken_spends q by one = record {
  complete = by_taken q by (λ known. (one known).complete);
  strict = record { strict = λ r after e. let o = by r after e in (one o.0).strict.strict r after o.1 };
}

pub same_spends : {A : Type 0} {fuel : ℕ} {p q : Takes} {a : A} {reads : Reads A} {first follow : Option Lexeme → Type 0} → p ≡ q →
    Spends fuel q a reads first follow → Spends fuel p a reads first follow
same_spends same one = rw same one

pub never_spends : {A : Type 0} {fuel : ℕ} {p : Takes} {a : A} {reads : Reads A} {first follow : Option Lexeme → Type 0} →
    ((r after : Reading) → p r ≡ Some after → ⊥) → Spends fuel p a reads first follow
never_spends never = record { complete = never_complete never; strict = record { strict = λ r after e. absurd (never r after e) } }

-- a word that is next, and then the rest, before which there are fewer tokens
pub word_fewer : {A : Type 0} {fuel : ℕ} {q : Takes} {a : A} {rest : Reads A} {begins follow : Option Lexeme → Type 0} (word : Keyword) →
    Complete fuel q a rest begins follow → Spends (suc fuel) (keyword_is word ⨾ q) a (skip >>= λ _. rest) (Next (l.Word (keyword_number word))) follow
word_fewer {a = a} word rest = record {
  complete = fewer_complete {b = λ _. a} (token_strict (only_keyword word)) (skip_complete (is_word word) (only_keyword word)) (λ x f. tt) (λ _. rest);
  strict = strict_then (token_strict (only_keyword word)) rest.moves;
}

pub word_spends : {A : Type 0} {fuel : ℕ} {q : Takes} {a : A} {rest : Reads A} {begins follow : Option Lexeme → Type 0} (word : Keyword) →
    Complete fuel q a rest begins follow → Spends fuel (keyword_is word ⨾ q) a (skip >>= λ _. rest) (Next (l.Word (keyword_number word))) follow
word_spends word rest = let it = word_fewer word rest in record { complete = less_complete (omega arith) it.complete; strict = it.strict }

-- after the number of its first token
pub here_spends : {A B : Type 0} {fuel : ℕ} {q : Takes} {a : A} {reads : Reads A} {first follow : Option Lexeme → Type 0} (make : ℕ → A → B) (n : ℕ) →
    Spends fuel q a reads first follow → Spends fuel (here_is n ⨾ q) (make n a) (here >>= λ token. reads >>= λ a. give (make token a)) first follow
here_spends make n one = record {
  complete = after_complete (here_complete n) (λ x f. f) (λ token. last_complete (make token) one.complete);
  strict = here_strict n one.strict;
}

-- ---- rows

pub record Rows (begins : Lexeme → Bool) (first follow_one follow : Option Lexeme → Type 0) : Type 0 where
  pub starts : (x : Option Lexeme) → first x → Passes begins x
  pub ends : (x : Option Lexeme) → follow x → Not begins x
  pub goes_on : (x : Option Lexeme) → first x ⊎ follow x → follow_one x

row_end : {A : Type 0} {fuel : ℕ} (reads : Reads A) {begins : Lexeme → Bool} {first follow_one follow : Option Lexeme → Type 0} →
    Rows begins first follow_one follow → (turns : ℕ) (so_far : List A) →
    Complete fuel nothing so_far (many (suc turns) begins reads so_far) (λ x. first x ⊎ follow x) follow
row_end reads {begins} rows turns so_far =
    follow_complete (λ x f. inr f) (λ x f. f)
    (fails_complete {holds = reads >>= λ a. many turns begins reads (so_far ++ (a ∷ []))} begins rows.ends (give_complete so_far))

module _ {A : Type 0} (reads : Reads A) (p : A → Takes) {begins : Lexeme → Bool} {first follow_one follow : Option Lexeme → Type 0}
    (rows : Rows begins first follow_one follow) {fuel : ℕ} where
  many_from : (as_ so_far : List A) (turns : ℕ) → turns ≤ fuel → Each (λ a. Spends fuel (p a) a reads first follow_one) as_ →
      Complete turns (many_is p as_) (so_far ++ as_) (many turns begins reads so_far) (λ x. first x ⊎ follow x) follow
  many_from [] so_far turns le items =
      rw (append-nil so_far) (by_turns (λ n. many n begins reads so_far) (λ n le. row_end reads rows n so_far) turns le)
  many_from (a ∷ as_) so_far zero le items =
      rw (sym (append_assoc so_far (a ∷ []) as_))
      (follow_complete (λ x f. inl f) (λ x f. f)
      (zero_complete
      (then_complete (λ b. many zero begins reads (so_far ++ (b ∷ []))) (less_complete le items.0.complete) rows.goes_on
      (many_from as_ (so_far ++ (a ∷ [])) zero le items.1))))
  many_from (a ∷ as_) so_far (suc turns) le items =
      let less : turns ≤ fuel = omega arith in
      follow_complete (λ x f. inl f) (λ x f. f)
      (holds_complete {fails = give so_far} begins rows.starts
      (fewer_complete {b = λ b. so_far ++ (b ∷ as_)} items.0.strict (less_complete le items.0.complete) rows.goes_on
      (λ b. rw (sym (append_assoc so_far (b ∷ []) as_)) (many_from as_ (so_far ++ (b ∷ [])) turns less items.1))))

  pub many_complete : (as_ : List A) → Each (λ a. Spends fuel (p a) a reads first follow_one) as_ →
      Complete fuel (many_is p as_) as_ (many fuel begins reads []) (λ x. first x ⊎ follow x) follow
  many_complete as_ items = many_from as_ [] fuel (le_refl fuel) items
