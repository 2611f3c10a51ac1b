-- How a parser reads: from the point where it stands to an answer, with one token in hand. Readers are put together as the
-- grammar is: one after the other, by the next token, in brackets.
use Rattle.std.specs.Prelude.{ℕ, zero, suc, nat_lt, Bool, true, false, ◌&&◌, List, [], ◌∷◌, ◌++◌, Option, Some, None}
use Rattle.cmm_lexer.specs.declared.piece.Lexeme.{Lexeme}
use Rattle.cmm_lexer.specs.declared.piece.Lexeme.TheVariants.{Name, Int as Number, Text as Quoted, Checked}
use Rattle.cmm_ast.specs.declared.token.Ident.{Ident}
use Rattle.cmm_ast.specs.declared.token.Text.{Text}
use Rattle.cmm_ast.specs.declared.token.Int.{Int}
use Rattle.cmm_lexer.specs.declared.keyword.Keyword.{Keyword}
use Rattle.cmm_lexer.specs.declared.symbol.Symbol.{Symbol}
use Rattle.cmm_lexer.specs.declared.symbol.Symbol.TheVariants.{Open, Close, OpenBrace, CloseBrace, OpenSquare, CloseSquare, Comma}
use Rattle.cmm_grammar.specs.Taking.{is_word, is_sign}

-- where a parser stands
pub record Point : Type 0 where
  -- the tokens that are not yet read, and how many were
  pub left : List Lexeme
  pub taken : ℕ
  -- the brackets that are open, and the operators so far of the outermost expression
  pub open_brackets : ℕ
  pub operators : ℕ

-- why a token is refused: nothing goes on with it, or it passes a limit
pub data Fault : Type 0 where
  Unexpected : Fault
  TooDeep : Fault

pub data Answer (A : Type 0) : Type 0 where
  Read : A → Point → Answer A
  -- at the token of this number
  Stopped : Fault → ℕ → Answer A

-- a reader; the limits are kept where the first argument is true, else left aside
abbrev pub Reads : Type 0 → Type 0
Reads A = Bool → Point → Answer A

abbrev pub and_then : {A B : Type 0} → Answer A → (A → Point → Answer B) → Answer B
and_then (Read a p) rest = rest a p
and_then (Stopped fault token) rest = Stopped fault token

infixl 20 ◌>>=◌
abbrev pub ◌>>=◌ : {A B : Type 0} → Reads A → (A → Reads B) → Reads B
(first >>= rest) limited p = and_then (first limited p) (λ a after. rest a limited after)

infixl 20 ◌>>◌
abbrev pub ◌>>◌ : {A B : Type 0} → Reads A → Reads B → Reads B
(first >> rest) limited p = and_then (first limited p) (λ _ after. rest limited after)

abbrev pub give : {A : Type 0} → A → Reads A
give a limited p = Read a p

-- the next token is none that goes on
abbrev pub stop : {A : Type 0} → Reads A
stop limited p = Stopped Unexpected p.taken

-- ---- one token

abbrev pub next : List Lexeme → Option Lexeme
next [] = None
next (x ∷ xs) = Some x

abbrev pub past : List Lexeme → List Lexeme
past [] = []
past (x ∷ xs) = xs

-- goes by the next token, which it leaves
abbrev pub look : {A : Type 0} → (Option Lexeme → Reads A) → Reads A
look by limited p = by (next p.left) limited p

abbrev pub passes : (Lexeme → Bool) → Option Lexeme → Bool
passes test (Some x) = test x
passes test None = false

abbrev pub choice : {A : Type 0} → Bool → Reads A → Reads A → Reads A
choice test holds fails limited p = elim test [ true ↦ holds limited p | false ↦ fails limited p ]

abbrev pub if_next : {A : Type 0} → (Lexeme → Bool) → Reads A → Reads A → Reads A
if_next test holds fails = look (λ x. choice (passes test x) holds fails)

-- the number of the next token
abbrev pub here : Reads ℕ
here limited p = Read p.taken p

abbrev pub skip : Reads (Unit {0})
skip limited p = Read tt record p { left = past p.left; taken = suc p.taken }

abbrev pub expect : (Lexeme → Bool) → Reads (Unit {0})
expect test = if_next test skip stop

abbrev pub keyword : Keyword → Reads (Unit {0})
keyword k = expect (is_word k)

abbrev pub symbol : Symbol → Reads (Unit {0})
symbol s = expect (is_sign s)

-- what the next token holds
abbrev pub picked : {A : Type 0} → Option A → Reads A
picked (Some a) = skip >> give a
picked None = stop

abbrev pub held : {A : Type 0} → (Lexeme → Option A) → Option Lexeme → Option A
held content (Some x) = content x
held content None = None

abbrev pub pick : {A : Type 0} → (Lexeme → Option A) → Reads A
pick content = look (λ x. picked (held content x))

abbrev pub name_in : Lexeme → Option (List ℕ)
name_in (Name bytes) = Some bytes
name_in _ = None

abbrev pub text_in : Lexeme → Option (List ℕ)
text_in (Quoted bytes) = Some bytes
text_in _ = None

abbrev pub int_in : Lexeme → Option ℕ
int_in (Number value) = Some value
int_in _ = None

abbrev pub checked_in : Lexeme → Option (List ℕ)
checked_in (Checked bytes) = Some bytes
checked_in _ = None

abbrev pub name : Reads (List ℕ)
name = pick name_in

abbrev pub ident : Reads Ident
ident = here >>= λ token. name >>= λ bytes. give record { name = bytes; token = token }

abbrev pub text : Reads Text
text = here >>= λ token. pick text_in >>= λ bytes. give record { bytes = bytes; token = token }

abbrev pub int : Reads Int
int = here >>= λ token. pick int_in >>= λ value. give record { value = value; token = token }

-- ---- limits

-- takes the next token as an opening bracket
abbrev pub skip_opening : Reads (Unit {0})
skip_opening limited p = elim (limited && nat_lt 200 (suc p.open_brackets)) [
  | true ↦ Stopped TooDeep p.taken
  | false ↦ Read tt record p { left = past p.left; taken = suc p.taken; open_brackets = suc p.open_brackets }
]

-- takes the next token as an operator
abbrev pub skip_operator : Reads (Unit {0})
skip_operator limited p = elim (limited && nat_lt 500 (suc p.operators)) [
  | true ↦ Stopped TooDeep p.taken
  | false ↦ Read tt record p { left = past p.left; taken = suc p.taken; operators = suc p.operators }
]

-- back to as many open brackets as at first
abbrev pub enclosed : {A : Type 0} → Reads A → Reads A
enclosed reads limited p = and_then (reads limited p) (λ a after. Read a record after { open_brackets = p.open_brackets })

abbrev pub outermost : {A : Type 0} → Reads A → Reads A
outermost reads limited p = reads limited record p { operators = 0 }

abbrev pub in_brackets : {A : Type 0} → Symbol → Reads A → Symbol → Reads A
in_brackets opens reads closes =
    enclosed (if_next (is_sign opens) skip_opening stop >>= λ _. reads >>= λ a. symbol closes >>= λ _. give a)

abbrev pub round : {A : Type 0} → Reads A → Reads A
round reads = in_brackets Open reads Close

abbrev pub square : {A : Type 0} → Reads A → Reads A
square reads = in_brackets OpenSquare reads CloseSquare

abbrev pub braces : {A : Type 0} → Reads A → Reads A
braces reads = in_brackets OpenBrace reads CloseBrace

-- ---- lists, of which each turn takes a token or more: a count above the tokens that are left is enough turns

abbrev pub is_comma : Lexeme → Bool
is_comma = is_sign Comma

abbrev pub optional : {A : Type 0} → (Lexeme → Bool) → Reads A → Reads (Option A)
optional begins reads = if_next begins (reads >>= λ a. give (Some a)) (give None)

-- as long as the next token begins one
abbrev pub many : {A : Type 0} → ℕ → (Lexeme → Bool) → Reads A → List A → Reads (List A)
many zero begins reads so_far = stop
many (suc turns) begins reads so_far = if_next begins (reads >>= λ a. many turns begins reads (so_far ++ (a ∷ []))) (give so_far)

-- with a comma between two
abbrev pub more_commas : {A : Type 0} → ℕ → Reads A → List A → Reads (List A)
more_commas zero reads so_far = stop
more_commas (suc turns) reads so_far =
    if_next is_comma (skip >>= λ _. reads >>= λ a. more_commas turns reads (so_far ++ (a ∷ []))) (give so_far)

abbrev pub commas : {A : Type 0} → ℕ → Reads A → Reads (List A)
commas turns reads = reads >>= λ a. more_commas turns reads (a ∷ [])

-- with a comma between two, and perhaps one after the last
abbrev pub more_listed : {A : Type 0} → ℕ → (Lexeme → Bool) → Reads A → List A → Reads (List A)
more_listed zero begins reads so_far = stop
more_listed (suc turns) begins reads so_far =
    if_next is_comma
    (skip >>= λ _. if_next begins (reads >>= λ a. more_listed turns begins reads (so_far ++ (a ∷ []))) (give so_far))
    (give so_far)

abbrev pub listed : {A : Type 0} → ℕ → (Lexeme → Bool) → Reads A → Reads (List A)
listed turns begins reads = reads >>= λ a. more_listed turns begins reads (a ∷ [])

-- such a list, or nothing
abbrev pub may_list : {A : Type 0} → ℕ → (Lexeme → Bool) → Reads A → Reads (List A)
may_list turns begins reads = if_next begins (listed turns begins reads) (give [])
