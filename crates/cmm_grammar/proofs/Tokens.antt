-- Single tokens: what each has taken, and how it is read.
use Rattle.std.proofs.Common.{◌≡◌, ℕ, Bool, true, List, Option, Some, refl, sym, ap, bytes_eq}
use Rattle.std.proofs.lemmas.Bool.{eqb-true}
use Rattle.std.proofs.lemmas.Slice.Eq.{bytes_eq-Decides}
use Rattle.cmm_lexer.specs.declared.piece.Lexeme.{Lexeme}
use Rattle.cmm_lexer.specs.declared.piece.Lexeme.TheVariants as l
use Rattle.cmm_ast.specs.declared.token.Ident.{Ident}
use Rattle.cmm_ast.specs.declared.token.Text.{Text}
use Rattle.cmm_ast.specs.declared.token.Int.{Int}
use Rattle.cmm_lexer.specs.declared.keyword.Keyword.{Keyword}
use Rattle.cmm_lexer.specs.declared.symbol.Symbol.{Symbol}
use Rattle.cmm_lexer.specs.Spellings.{keyword_number, symbol_number}
use Rattle.cmm_grammar.specs.Taking.{token, is_word, is_sign, is_name, is_text, is_operator, is_checked, is_int, is_char, keyword as keyword_is, symbol as symbol_is}
use Rattle.cmm_grammar.specs.ExpressionGrammar.{ident as ident_is, text as text_is, int as int_is}
use Rattle.cmm_grammar.specs.Reading.{expect, keyword, symbol, picked, held, pick, name_in, text_in, int_in, checked_in, name, ident, text, int}
use Rattle.cmm_grammar.specs.inside.Duties.{Complete}
use Rattle.cmm_grammar.proofs.Takings.{same_number}
use Rattle.cmm_grammar.proofs.Completes.{Next, Anything, Only, after_complete, last_complete, at_complete, holds_complete, skip_complete, here_complete}

-- ---- tests that one token alone passes

pub only_symbol : (s : Symbol) → Only (is_sign s) (l.Symbol (symbol_number s))
only_symbol s (l.Symbol n) e = ap (λ k. l.Symbol k) (sym (eqb-true (symbol_number s) n e))
only_symbol s _ e = absurd cc

pub only_keyword : (k : Keyword) → Only (is_word k) (l.Word (keyword_number k))
only_keyword k (l.Word n) e = ap (λ k. l.Word k) (sym (eqb-true (keyword_number k) n e))
only_keyword k _ e = absurd cc

pub only_int : (n : ℕ) → Only (is_int n) (l.Int n)
only_int n (l.Int m) e = ap (λ k. l.Int k) (sym (eqb-true n m e))
only_int n _ e = absurd cc

pub only_char : (n : ℕ) → Only (is_char n) (l.Char n)
only_char n (l.Char m) e = ap (λ k. l.Char k) (sym (eqb-true n m e))
only_char n _ e = absurd cc

bytes_same : (a b : List ℕ) → bytes_eq a b ≡ true → b ≡ a
bytes_same a b e = sym ((bytes_eq-Decides a b).0 e)

pub same_bytes : (a : List ℕ) → bytes_eq a a ≡ true
same_bytes a = (bytes_eq-Decides a a).1 refl

pub only_name : (n : List ℕ) → Only (is_name n) (l.Name n)
only_name n (l.Name m) e = ap (λ k. l.Name k) (bytes_same n m e)
only_name n _ e = absurd cc

pub only_text : (n : List ℕ) → Only (is_text n) (l.Text n)
only_text n (l.Text m) e = ap (λ k. l.Text k) (bytes_same n m e)
only_text n _ e = absurd cc

pub only_operator : (n : List ℕ) → Only (is_operator n) (l.Op n)
only_operator n (l.Op m) e = ap (λ k. l.Op k) (bytes_same n m e)
only_operator n _ e = absurd cc

pub only_checked : (n : List ℕ) → Only (is_checked n) (l.Checked n)
only_checked n (l.Checked m) e = ap (λ k. l.Checked k) (bytes_same n m e)
only_checked n _ e = absurd cc

-- ---- a token that is expected

pub expect_complete : {fuel : ℕ} (test : Lexeme → Bool) (x : Lexeme) → Only test x → test x ≡ true →
    Complete fuel (token test) tt (expect test) (Next x) Anything
expect_complete test x only passed = holds_complete test (λ y e. rw e passed) (skip_complete test only)

pub symbol_complete : {fuel : ℕ} (s : Symbol) → Complete fuel (symbol_is s) tt (symbol s) (Next (l.Symbol (symbol_number s))) Anything
symbol_complete s = expect_complete _ _ (only_symbol s) (same_number (symbol_number s))

pub keyword_complete : {fuel : ℕ} (k : Keyword) → Complete fuel (keyword_is k) tt (keyword k) (Next (l.Word (keyword_number k))) Anything
keyword_complete k = expect_complete _ _ (only_keyword k) (same_number (keyword_number k))

-- ---- what a token holds

pub pick_complete : {A : Type 0} {fuel : ℕ} (content : Lexeme → Option A) (test : Lexeme → Bool) (x : Lexeme) (a : A) → Only test x →
    content x ≡ Some a → Complete fuel (token test) a (pick content) (Next x) Anything
pick_complete content test x a only e =
    at_complete (λ x. picked (held content x)) x (rw e (last_complete (λ _. a) (skip_complete test only)))

pub some_is : {A : Type 0} {a b : A} → Some a ≡ Some b → b ≡ a
some_is e = cc

pub name_in_is : (x : Lexeme) (bytes : List ℕ) → name_in x ≡ Some bytes → is_name bytes x ≡ true
name_in_is (l.Name b) bytes e = rw (some_is e) (same_bytes b)
name_in_is _ bytes e = absurd cc

pub text_in_is : (x : Lexeme) (bytes : List ℕ) → text_in x ≡ Some bytes → is_text bytes x ≡ true
text_in_is (l.Text b) bytes e = rw (some_is e) (same_bytes b)
text_in_is _ bytes e = absurd cc

pub int_in_is : (x : Lexeme) (value : ℕ) → int_in x ≡ Some value → is_int value x ≡ true
int_in_is (l.Int b) value e = rw (some_is e) (same_number b)
int_in_is _ value e = absurd cc

pub checked_in_is : (x : Lexeme) (bytes : List ℕ) → checked_in x ≡ Some bytes → is_checked bytes x ≡ true
checked_in_is (l.Checked b) bytes e = rw (some_is e) (same_bytes b)
checked_in_is _ bytes e = absurd cc

pub name_complete : {fuel : ℕ} (bytes : List ℕ) → Complete fuel (token (is_name bytes)) bytes name (Next (l.Name bytes)) Anything
name_complete bytes = pick_complete name_in (is_name bytes) (l.Name bytes) bytes (only_name bytes) refl

pub ident_complete : {fuel : ℕ} (i : Ident) → Complete fuel (ident_is i) i ident (Next (l.Name i.name)) Anything
ident_complete i = after_complete (here_complete i.token) (λ x f. f) (λ token. last_complete _ (name_complete i.name))

pub text_complete : {fuel : ℕ} (t : Text) → Complete fuel (text_is t) t text (Next (l.Text t.bytes)) Anything
text_complete t =
    after_complete (here_complete t.token) (λ x f. f) (λ token. last_complete _ (pick_complete text_in (is_text t.bytes) (l.Text t.bytes) t.bytes (only_text t.bytes) refl))

pub int_complete : {fuel : ℕ} (i : Int) → Complete fuel (int_is i) i int (Next (l.Int i.value)) Anything
int_complete i =
    after_complete (here_complete i.token) (λ x f. f) (λ token. last_complete _ (pick_complete int_in (is_int i.value) (l.Int i.value) i.value (only_int i.value) refl))
