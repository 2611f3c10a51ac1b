-- How types and expressions are read. An operand is read with the operators that bind at least as tightly as a level; what
-- stands to the right of an operator binds more tightly than it.
use Rattle.std.specs.Prelude.{ℕ, zero, suc, nat_le, Bool, true, false, ◌&&◌, ◌||◌, List, [], ◌∷◌, Option, Some, None, is_some, find}
use Rattle.cmm_words.specs.declared.width.Width.{Width}
use Rattle.cmm_words.specs.declared.width.Width.TheVariants.{W8, W16, W32, W64}
use Rattle.cmm_lexer.specs.declared.piece.Lexeme.{Lexeme}
use Rattle.cmm_lexer.specs.declared.piece.Lexeme.TheVariants as l
use Rattle.cmm_ast.specs.declared.token.Ident.{Ident}
use Rattle.cmm_ast.specs.declared.token.Int.{Int}
use Rattle.cmm_lexer.specs.declared.keyword.Keyword.TheVariants.{Align, Aligned}
use Rattle.cmm_lexer.specs.declared.symbol.Symbol.TheVariants.{Open, OpenSquare, Colons}
use Rattle.cmm_ast.specs.declared.expression.TypeName.{TypeName}
use Rattle.cmm_ast.specs.declared.expression.TypeForm.{TypeForm}
use Rattle.cmm_ast.specs.declared.expression.TypeForm.TheVariants.{Bits, Named as OfName}
use Rattle.cmm_ast.specs.declared.expression.Number.{Number}
use Rattle.cmm_ast.specs.declared.expression.Number.TheVariants as number
use Rattle.cmm_ast.specs.declared.expression.Infix.{Infix as InfixOperator}
use Rattle.cmm_ast.specs.declared.expression.Infix.TheVariants.{Eq, Ne, Lt, Le, Gt, Ge, Or, Xor, And, Shl, Shr, Add, Sub, Mul, Div, Mod}
use Rattle.cmm_ast.specs.declared.expression.Prefix.{Prefix as PrefixOperator}
use Rattle.cmm_ast.specs.declared.expression.Prefix.TheVariants.{Negate, Complement}
use Rattle.cmm_ast.specs.declared.expression.Expr.{Expr}
use Rattle.cmm_ast.specs.declared.expression.ExprForm.{ExprForm}
use Rattle.cmm_ast.specs.declared.expression.ExprForm.TheVariants.{Infix, Prefix, Prim, Memory as InMemory, Named}
use Rattle.cmm_ast.specs.declared.expression.Primary.{Primary}
use Rattle.cmm_ast.specs.declared.expression.PrimForm.{PrimForm}
use Rattle.cmm_ast.specs.declared.expression.PrimForm.TheVariants.{Literal, Name as NameOf, Bracketed}
use Rattle.cmm_ast.specs.declared.expression.Memory.{Memory, roll-Memory}
use Rattle.cmm_grammar.specs.Taking.{is_word, is_sign}
use Rattle.cmm_grammar.specs.ExpressionGrammar.{width_word, infix_symbol, prefix_symbol, infix_level, left_level, right_level, unary_level, level_of}
use Rattle.cmm_grammar.specs.Reading.{Reads, ◌>>=◌, ◌>>◌, give, stop, look, if_next, here, skip, skip_operator, pick, ident, int, round, square, outermost, listed}

-- ---- which words and symbols are widths and operators

abbrev pub width_in : ℕ → Option Width
width_in n = find (λ width. is_word (width_word width) (l.Word n)) (W8 ∷ W16 ∷ W32 ∷ W64 ∷ [])

abbrev pub prefix_in : ℕ → Option PrefixOperator
prefix_in n = find (λ op. is_sign (prefix_symbol op) (l.Symbol n)) (Negate ∷ Complement ∷ [])

abbrev pub infix_in : ℕ → Option InfixOperator
infix_in n =
    find (λ op. is_sign (infix_symbol op) (l.Symbol n))
    (Eq ∷ Ne ∷ Lt ∷ Le ∷ Gt ∷ Ge ∷ Or ∷ Xor ∷ And ∷ Shl ∷ Shr ∷ Add ∷ Sub ∷ Mul ∷ Div ∷ Mod ∷ [])

-- ---- types

abbrev pub sized : Option Width → Reads TypeForm
sized (Some width) = skip >> give (Bits width)
sized None = stop

abbrev pub type_by : Option Lexeme → Reads TypeForm
type_by (Some (l.Word n)) = sized (width_in n)
type_by (Some (l.Name bytes)) = skip >> give (OfName bytes)
type_by _ = stop

abbrev pub type_name : Reads TypeName
type_name = here >>= λ token. look type_by >>= λ form. give record { token = token; form = form }

abbrev pub named_type : Ident → TypeName
named_type name = record { token = name.token; form = OfName name.name }

-- ---- primary expressions and words in memory, by how an expression in them is read at a level

abbrev pub number_in : Lexeme → Option Number
number_in (l.Int value) = Some (number.Int value)
number_in (l.Char byte) = Some (number.Char byte)
number_in _ = None

abbrev pub typed : Reads (Option TypeName)
typed = if_next (is_sign Colons) (skip >>= λ _. type_name >>= λ width. give (Some width)) (give None)

abbrev pub literal : Reads PrimForm
literal = pick number_in >>= λ value. typed >>= λ width. give (Literal value width)

abbrev pub bracketed : (ℕ → Reads Expr) → Reads PrimForm
bracketed inner = round (inner 0) >>= λ e. give (Bracketed e)

abbrev pub aligned : Reads (Option Int)
aligned =
    if_next (is_word Aligned) (skip >>= λ _. int >>= λ bytes. give (Some bytes))
    (if_next (is_word Align) (skip >>= λ _. int >>= λ bytes. give (Some bytes)) (give None))

-- an address, and what it is said to be a multiple of
abbrev pub located : (ℕ → Reads Expr) → Reads (Expr × Option Int)
located inner = inner 0 >>= λ address. aligned >>= λ bytes. give (address, bytes)

abbrev pub memory : (ℕ → Reads Expr) → TypeName → Reads Memory
memory inner width = square (located inner) >>= λ place. give (roll-Memory (record { width = width; address = place.0; aligned = place.1 }))

-- ---- expressions

abbrev pub begins_expression : Lexeme → Bool
begins_expression (l.Name bytes) = true
begins_expression (l.Int value) = true
begins_expression (l.Char byte) = true
begins_expression (l.Op bytes) = true
begins_expression (l.Word n) = is_some (width_in n)
begins_expression (l.Symbol n) = is_sign Open (l.Symbol n) || is_some (prefix_in n)
begins_expression _ = false

abbrev pub name_or_memory : (ℕ → Reads Expr) → Reads ExprForm
name_or_memory inner =
    ident >>= λ name.
    if_next (is_sign OpenSquare) (memory inner (named_type name) >>= λ m. give (InMemory m))
    (give (Prim (NameOf name.name)))

abbrev pub prefixed : (ℕ → Reads Expr) → Option PrefixOperator → Reads ExprForm
prefixed inner (Some op) = skip_operator >>= λ _. inner unary_level >>= λ e. give (Prefix op e)
prefixed inner None = bracketed inner >>= λ p. give (Prim p)

-- the name of the operator that is next
abbrev pub operator_by : Option Lexeme → Reads (List ℕ)
operator_by (Some (l.Op bytes)) = skip_operator >> give bytes
operator_by _ = stop

abbrev pub operator_name : Reads (List ℕ)
operator_name = look operator_by

abbrev pub named : ℕ → (ℕ → Reads Expr) → Reads ExprForm
named turns inner = operator_name >>= λ name. round (listed turns begins_expression (inner 0)) >>= λ operands. give (Named name operands)

abbrev pub unary_by : ℕ → (ℕ → Reads Expr) → Option Lexeme → Reads ExprForm
unary_by turns inner (Some (l.Name bytes)) = name_or_memory inner
unary_by turns inner (Some (l.Op bytes)) = skip_operator >>= λ _. round (listed turns begins_expression (inner 0)) >>= λ operands. give (Named bytes operands)
unary_by turns inner (Some (l.Symbol n)) = prefixed inner (prefix_in n)
unary_by turns inner (Some (l.Word n)) = type_name >>= λ width. memory inner width >>= λ m. give (InMemory m)
unary_by turns inner _ = literal >>= λ p. give (Prim p)

-- an operator of at least this level, for which the left operand binds tightly enough
abbrev pub tight : ℕ → ExprForm → Option InfixOperator → Option InfixOperator
tight level left (Some op) = elim (nat_le level (infix_level op) && nat_le (left_level op) (level_of left)) [ true ↦ Some op | false ↦ None ]
tight level left None = None

abbrev pub infix_next : ℕ → ExprForm → Option Lexeme → Option InfixOperator
infix_next level left (Some (l.Symbol n)) = tight level left (infix_in n)
infix_next level left _ = None

abbrev pub joined : Expr → InfixOperator → Expr → Expr
joined left op right = record { token = left.token; form = Infix left op right }

abbrev pub climb : ℕ → (ℕ → Reads Expr) → ℕ → Expr → Reads Expr
climb zero inner level left = stop
climb (suc turns) inner level left =
    look (λ x. elim (infix_next level left.form x) [
      | Some op ↦ skip_operator >>= λ _. inner (right_level op) >>= λ right. climb turns inner level (joined left op right)
      | None ↦ give left
    ])

-- the operand of that level; a count above the tokens that are left is enough
abbrev pub operand : ℕ → ℕ → Reads Expr
operand zero level = stop
operand (suc fuel) level =
    here >>= λ token. look (unary_by fuel (operand fuel)) >>= λ form. climb (suc fuel) (operand fuel) level (record { token = token; form = form })

abbrev pub expr : ℕ → Reads Expr
expr fuel = operand fuel 0

-- an expression that stands in no other
abbrev pub whole : ℕ → Reads Expr
whole fuel = outermost (expr fuel)

abbrev pub prim_by : (ℕ → Reads Expr) → Option Lexeme → Reads PrimForm
prim_by inner (Some (l.Name bytes)) = skip >> give (NameOf bytes)
prim_by inner (Some (l.Symbol n)) = bracketed inner
prim_by inner _ = literal

abbrev pub prim : ℕ → Reads Primary
prim fuel = here >>= λ token. look (prim_by (operand fuel)) >>= λ form. give record { token = token; form = form }

abbrev pub whole_prim : ℕ → Reads Primary
whole_prim fuel = outermost (prim fuel)

-- the word in memory of this type, whose address stands in no other expression
abbrev pub whole_memory : ℕ → TypeName → Reads Memory
whole_memory fuel width = outermost (memory (operand fuel) width)
