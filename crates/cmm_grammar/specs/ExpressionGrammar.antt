-- The grammar of types and expressions (C-- Language Specification 2.0, syntax): a line for each alternative.
use mathlib.Core.Former.{one_more}
use Rattle.std.specs.Prelude.{ℕ, ◌+◌, nat_le, max, true, false, Some, None}
use Rattle.cmm_words.specs.declared.width.Width.{Width}
use Rattle.cmm_words.specs.declared.width.Width.TheVariants.{W8, W16, W32, W64}
use Rattle.cmm_ast.specs.declared.token.Ident.{Ident}
use Rattle.cmm_ast.specs.declared.token.Text.{Text}
use Rattle.cmm_ast.specs.declared.token.Int.{Int}
use Rattle.cmm_lexer.specs.declared.keyword.Keyword.{Keyword}
use Rattle.cmm_lexer.specs.declared.keyword.Keyword.TheVariants.{Align, Aligned, Bits8, Bits16, Bits32, Bits64}
use Rattle.cmm_lexer.specs.declared.symbol.Symbol.{Symbol}
use Rattle.cmm_lexer.specs.declared.symbol.Symbol.TheVariants as sign
use Rattle.cmm_ast.specs.declared.expression.TypeName.{TypeName}
use Rattle.cmm_ast.specs.declared.expression.TypeForm.{TypeForm}
use Rattle.cmm_ast.specs.declared.expression.TypeForm.TheVariants.{Bits, Named as OfName}
use Rattle.cmm_ast.specs.declared.expression.Number.{Number}
use Rattle.cmm_ast.specs.declared.expression.Number.TheVariants as number
use Rattle.cmm_ast.specs.declared.expression.Infix.{Infix}
use Rattle.cmm_ast.specs.declared.expression.Infix.TheVariants.{Eq, Ne, Lt, Le, Gt, Ge, Or, Xor, And, Shl, Shr, Add, Sub, Mul, Div, Mod}
use Rattle.cmm_ast.specs.declared.expression.Prefix.{Prefix}
use Rattle.cmm_ast.specs.declared.expression.Prefix.TheVariants.{Negate, Complement}
use Rattle.cmm_ast.specs.declared.expression.Expr.{Expr}
use Rattle.cmm_ast.specs.declared.expression.ExprForm.{ExprForm, Row_of-Expr, end_of-Expr, more_of-Expr}
use Rattle.cmm_ast.specs.declared.expression.ExprForm.TheVariants.{Infix', Prefix', Prim, Memory as InMemory, Named'}
use Rattle.cmm_ast.specs.declared.expression.Primary.{Primary}
use Rattle.cmm_ast.specs.declared.expression.PrimForm.{PrimForm}
use Rattle.cmm_ast.specs.declared.expression.PrimForm.TheVariants.{Literal, Name as NameOf, Bracketed'}
use Rattle.cmm_ast.specs.declared.expression.Memory.{Memory, Memory'}
use Rattle.cmm_grammar.specs.Taking.{Takes, ◌⨾◌, token, is_name, is_text, is_operator, is_int, is_char, keyword, symbol, here, nothing, operator, outermost, round, square, optional, may_comma}

-- ---- words and symbols

abbrev pub width_word : Width → Keyword
width_word W8 = Bits8
width_word W16 = Bits16
width_word W32 = Bits32
width_word W64 = Bits64

abbrev pub infix_symbol : Infix → Symbol
infix_symbol Eq = sign.Equal
infix_symbol Ne = sign.NotEqual
infix_symbol Lt = sign.Less
infix_symbol Le = sign.LessEqual
infix_symbol Gt = sign.Greater
infix_symbol Ge = sign.GreaterEqual
infix_symbol Or = sign.Bar
infix_symbol Xor = sign.Caret
infix_symbol And = sign.Ampersand
infix_symbol Shl = sign.ShiftLeft
infix_symbol Shr = sign.ShiftRight
infix_symbol Add = sign.Plus
infix_symbol Sub = sign.Minus
infix_symbol Mul = sign.Star
infix_symbol Div = sign.Slash
infix_symbol Mod = sign.Percent

abbrev pub prefix_symbol : Prefix → Symbol
prefix_symbol Negate = sign.Minus
prefix_symbol Complement = sign.Tilde

-- ---- how tightly operators bind: a comparison least, a unary operator most. Infix operators group to the left, and
-- comparisons do not group.

abbrev pub infix_level : Infix → ℕ
infix_level Or = 1
infix_level Xor = 2
infix_level And = 3
infix_level Shl = 4
infix_level Shr = 4
infix_level Add = 5
infix_level Sub = 5
infix_level Mul = 6
infix_level Div = 6
infix_level Mod = 6
infix_level _ = 0

abbrev pub unary_level : ℕ
unary_level = 7

abbrev pub left_level : Infix → ℕ
left_level operator = max 1 (infix_level operator)

abbrev pub right_level : Infix → ℕ
right_level operator = 1 + infix_level operator

-- ---- names, texts and numbers

abbrev pub ident : Ident → Takes
ident i = here i.token ⨾ token (is_name i.name)

abbrev pub text : Text → Takes
text t = here t.token ⨾ token (is_text t.bytes)

abbrev pub int : Int → Takes
int i = here i.token ⨾ token (is_int i.value)

-- ---- types

abbrev pub type_form : TypeForm → Takes
type_form (Bits width) = keyword (width_word width)
type_form (OfName name) = token (is_name name)

abbrev pub type_name : TypeName → Takes
type_name t = here t.token ⨾ type_form t.form

-- ---- expressions

abbrev pub number_of : Number → Takes
number_of (number.Int value) = token (is_int value)
number_of (number.Char byte) = token (is_char byte)

abbrev pub aligned_by : Int → Takes
aligned_by i r = elim (keyword Aligned r) [ Some after ↦ int i after | None ↦ (keyword Align ⨾ int i) r ]

abbrev pub level_of : ExprForm → ℕ
level_of (Infix' _ left operator_ _ right) = infix_level operator_
level_of _ = unary_level

-- the form binds at least as tightly as this level
abbrev pub binds : ℕ → ExprForm → Takes
binds level form r = elim (nat_le level (level_of form)) [ true ↦ Some r | false ↦ None ]

abbrev mutual
  pub expr_form : ExprForm → Takes
  expr_form (Infix' _ left op _ right) = operand (left_level op) left ⨾ operator (symbol (infix_symbol op)) ⨾ operand (right_level op) right
  expr_form (Prefix' op _ inner) = operator (symbol (prefix_symbol op)) ⨾ operand unary_level inner
  expr_form (Prim prim) = prim_form prim
  expr_form (InMemory m) = memory m
  expr_form (Named' name _ operands) = operator (token (is_operator name)) ⨾ round (operand_list operands ⨾ may_comma)

  -- an expression behind a box, which binds at least as tightly as this level
  pub operand : {n : _} → ℕ → Row_of-Expr (one_more n) → Takes
  operand level (more_of-Expr first form rest) = binds level form ⨾ here first ⨾ expr_form form

  -- one or more, with a comma between two
  pub operand_list : {n : _} → Row_of-Expr n → Takes
  operand_list end_of-Expr = λ r. None
  operand_list (more_of-Expr first form rest) = here first ⨾ expr_form form ⨾ more_operands rest

  pub more_operands : {n : _} → Row_of-Expr n → Takes
  more_operands end_of-Expr = nothing
  more_operands (more_of-Expr first form rest) = symbol sign.Comma ⨾ here first ⨾ expr_form form ⨾ more_operands rest

  pub prim_form : PrimForm → Takes
  prim_form (Literal value width) = number_of value ⨾ optional (λ t. symbol sign.Colons ⨾ type_name t) width
  prim_form (NameOf name) = token (is_name name)
  prim_form (Bracketed' _ inner) = round (operand 0 inner)

  pub memory : Memory → Takes
  memory (Memory' width _ address aligned) = type_name width ⨾ square (operand 0 address ⨾ optional aligned_by aligned)

abbrev pub expr : Expr → Takes
expr e = here e.token ⨾ expr_form e.form

abbrev pub prim : Primary → Takes
prim p = here p.token ⨾ prim_form p.form

-- an expression that stands in no other
abbrev pub whole : Expr → Takes
whole e = outermost (expr e)

abbrev pub whole_prim : Primary → Takes
whole_prim p = outermost (prim p)

abbrev pub whole_memory : Memory → Takes
whole_memory m = outermost (memory m)
