-- The word or the symbol that is next, and what it stands for.
use Rattle.std.proofs.Common.{◌≡◌, ◌≢◌, sym, ap, refl, ℕ, Bool, true, false, Option, Some, None}
use Rattle.std.proofs.lemmas.Bool.{eq-eqb, ne_eqb}
use Rattle.cmm_lexer.specs.declared.keyword.Keyword.{Keyword}
use Rattle.cmm_lexer.specs.declared.keyword.Keyword.TheVariants as word
use Rattle.cmm_lexer.specs.declared.symbol.Symbol.{Symbol}
use Rattle.cmm_lexer.specs.declared.symbol.Symbol.TheVariants as sign
use Rattle.cmm_lexer.specs.declared.piece.Lexeme.{Lexeme}
use Rattle.cmm_lexer.specs.declared.piece.Lexeme.TheVariants as l
use Rattle.cmm_lexer.specs.Spellings.{keyword_number, symbol_number}
use Rattle.cmm_lexer.proofs.Shared.{keyword_number-injective, symbol_number-injective}
use Rattle.cmm_ast.specs.declared.expression.ExprForm.{ExprForm}
use Rattle.cmm_grammar.specs.Taking.{is_word, is_sign}
use Rattle.cmm_grammar.specs.ExpressionReading.{infix_next}
use Rattle.cmm_parser.specs.inside.Parsing.{NoWord, NoSymbol, width_next, prefix_next}

-- ---- what no word and no symbol stands for

pub no_width : (x : Option Lexeme) → NoWord x → width_next x ≡ None
no_width (Some (l.Word n)) none = rw (none word.Bits8, none word.Bits16, none word.Bits32, none word.Bits64) refl
no_width _ none = refl

pub no_prefix : (x : Option Lexeme) → NoSymbol x → prefix_next x ≡ None
no_prefix (Some (l.Symbol n)) none = rw (none sign.Minus, none sign.Tilde) refl
no_prefix _ none = refl

pub no_infix : (level : ℕ) (left : ExprForm) (x : Option Lexeme) → NoSymbol x → infix_next level left x ≡ None
no_infix level left (Some (l.Symbol n)) none =
    rw (
      none sign.Equal,
      none sign.NotEqual,
      none sign.Less,
      none sign.LessEqual,
      none sign.Greater,
      none sign.GreaterEqual,
      none sign.Bar,
      none sign.Caret,
      none sign.Ampersand,
      none sign.ShiftLeft,
      none sign.ShiftRight,
      none sign.Plus,
      none sign.Minus,
      none sign.Star,
      none sign.Slash,
      none sign.Percent,
    ) refl
no_infix level left _ none = refl

-- ---- a word or a symbol that is next is this one

pub word_same : (found word : Keyword) (t : Bool) → (t ≡ true → found ≡ word) → (t ≡ false → found ≢ word) → is_word word (l.Word (keyword_number found)) ≡ t
word_same found word true same differs = let e : found ≡ word = same refl in eq-eqb (keyword_number word) (keyword_number found) (ap keyword_number (sym e))
word_same found word false same differs =
    ne_eqb (keyword_number word) (keyword_number found) (λ e. differs refl (sym (keyword_number-injective word found e)))

pub symbol_same : (found symbol : Symbol) (t : Bool) → (t ≡ true → found ≡ symbol) → (t ≡ false → found ≢ symbol) → is_sign symbol (l.Symbol (symbol_number found)) ≡ t
symbol_same found symbol true same differs = let e : found ≡ symbol = same refl in eq-eqb (symbol_number symbol) (symbol_number found) (ap symbol_number (sym e))
symbol_same found symbol false same differs =
    ne_eqb (symbol_number symbol) (symbol_number found) (λ e. differs refl (sym (symbol_number-injective symbol found e)))
