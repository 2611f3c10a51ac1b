-- How a tree spells its tokens: it takes them from the front of those that are left, one alternative of the grammar
-- after the other. Beside them it counts the brackets that are open and the operators of an outermost expression.
use Rattle.std.specs.Prelude.{ℕ, suc, ◌==◌, nat_lt, Bool, true, false, List, [], ◌∷◌, bytes_eq, Option, Some, None}
use Rattle.cmm_lexer.specs.declared.piece.Lexeme.{Lexeme}
use Rattle.cmm_lexer.specs.declared.piece.Lexeme.TheVariants.{Name, Int, Char, Text, Op, Checked, Word, Symbol as Sign}
use Rattle.cmm_lexer.specs.declared.keyword.Keyword.{Keyword}
use Rattle.cmm_lexer.specs.declared.symbol.Symbol.{Symbol}
use Rattle.cmm_lexer.specs.declared.symbol.Symbol.TheVariants.{Open, Close, OpenBrace, CloseBrace, OpenSquare, CloseSquare, Comma}
use Rattle.cmm_lexer.specs.Spellings.{keyword_number, symbol_number}

-- where a spelling stands
pub record Reading : Type 0 where
  -- the tokens that are not yet taken, and how many were
  pub left : List Lexeme
  pub taken : ℕ
  -- the brackets that are open, and the operators so far of the outermost expression
  pub open_brackets : ℕ
  pub operators : ℕ
  -- the number of the first token that passes a limit on these
  pub over : Option ℕ

-- what is left after a spelling; none where the tokens are not its own
abbrev pub Takes : Type 0
Takes = Reading → Option Reading

-- one after the other
infixr 20 ◌⨾◌
abbrev pub ◌⨾◌ : Takes → Takes → Takes
(first ⨾ next) r = elim (first r) [ Some after ↦ next after | None ↦ None ]

-- ---- one token

abbrev pub taken_if : Bool → List Lexeme → Takes
taken_if test left r = elim test [ true ↦ Some record r { left = left; taken = suc r.taken } | false ↦ None ]

abbrev pub token : (Lexeme → Bool) → Takes
token test r = elim r.left [ [] ↦ None | x ∷ xs ↦ taken_if (test x) xs r ]

abbrev pub is_word : Keyword → Lexeme → Bool
is_word k (Word n) = keyword_number k == n
is_word k _ = false

abbrev pub is_sign : Symbol → Lexeme → Bool
is_sign s (Sign n) = symbol_number s == n
is_sign s _ = false

abbrev pub is_name : List ℕ → Lexeme → Bool
is_name bytes (Name spelled) = bytes_eq bytes spelled
is_name bytes _ = false

abbrev pub is_text : List ℕ → Lexeme → Bool
is_text bytes (Text spelled) = bytes_eq bytes spelled
is_text bytes _ = false

abbrev pub is_operator : List ℕ → Lexeme → Bool
is_operator bytes (Op spelled) = bytes_eq bytes spelled
is_operator bytes _ = false

abbrev pub is_checked : List ℕ → Lexeme → Bool
is_checked bytes (Checked spelled) = bytes_eq bytes spelled
is_checked bytes _ = false

abbrev pub is_int : ℕ → Lexeme → Bool
is_int value (Int m) = value == m
is_int value _ = false

abbrev pub is_char : ℕ → Lexeme → Bool
is_char byte (Char b) = byte == b
is_char byte _ = false

abbrev pub keyword : Keyword → Takes
keyword k = token (is_word k)

abbrev pub symbol : Symbol → Takes
symbol s = token (is_sign s)

-- takes nothing; the next token has this number
abbrev pub here : ℕ → Takes
here n r = elim (n == r.taken) [ true ↦ Some r | false ↦ None ]

abbrev pub nothing : Takes
nothing r = Some r

-- ---- limits: 200 open brackets, of all three sorts and the `if` after an `else`, and 500 operators of an outermost
-- expression

abbrev pub first_over : Option ℕ → Bool → ℕ → Option ℕ
first_over (Some n) test token = Some n
first_over None test token = elim test [ true ↦ Some token | false ↦ None ]

-- the token opens a bracket
abbrev pub opening : Takes → Takes
opening p r = elim (p r) [
  | Some after ↦ Some record after {
    open_brackets = suc after.open_brackets;
    over = first_over after.over (nat_lt 200 (suc after.open_brackets)) r.taken;
  }
  | None ↦ None
]

-- back to as many open brackets as at first
abbrev pub enclosed : Takes → Takes
enclosed p r = elim (p r) [ Some after ↦ Some record after { open_brackets = r.open_brackets } | None ↦ None ]

-- the token is an operator
abbrev pub operator : Takes → Takes
operator p r = elim (p r) [
  | Some after ↦ Some record after {
    operators = suc after.operators;
    over = first_over after.over (nat_lt 500 (suc after.operators)) r.taken;
  }
  | None ↦ None
]

-- an outermost expression, whose operators are counted from 0
abbrev pub outermost : Takes → Takes
outermost p r = p record r { operators = 0 }

abbrev pub in_brackets : Symbol → Takes → Symbol → Takes
in_brackets opens p closes = enclosed (opening (symbol opens) ⨾ p ⨾ symbol closes)

abbrev pub round : Takes → Takes
round p = in_brackets Open p Close

abbrev pub square : Takes → Takes
square p = in_brackets OpenSquare p CloseSquare

abbrev pub braces : Takes → Takes
braces p = in_brackets OpenBrace p CloseBrace

-- ---- lists

abbrev pub optional : {A : Type 0} → (A → Takes) → Option A → Takes
optional p None = nothing
optional p (Some a) = p a

abbrev pub many : {A : Type 0} → (A → Takes) → List A → Takes
many p [] = nothing
many p (a ∷ as_) = p a ⨾ many p as_

-- one or more, with a comma between two
abbrev pub commas : {A : Type 0} → (A → Takes) → List A → Takes
commas p [] r = None
commas p (a ∷ []) r = p a r
commas p (a ∷ b ∷ rest) r = (p a ⨾ symbol Comma ⨾ commas p (b ∷ rest)) r

-- a comma may stand here
abbrev pub may_comma : Takes
may_comma r = elim (symbol Comma r) [ Some after ↦ Some after | None ↦ Some r ]

-- a list that a closing bracket or `;` ends may have one more comma before it
abbrev pub listed : {A : Type 0} → (A → Takes) → List A → Takes
listed p as_ = commas p as_ ⨾ may_comma

-- such a list, or nothing
abbrev pub may_list : {A : Type 0} → (A → Takes) → List A → Takes
may_list p [] = nothing
may_list p (a ∷ as_) = listed p (a ∷ as_)
