-- How the parts of statements are read: what is passed, called and assigned to, annotations and exits.
use Rattle.std.specs.Prelude.{ℕ, Bool, true, false, ◌||◌, List, [], Option, Some, None, is_some}
use Rattle.cmm_lexer.specs.declared.piece.Lexeme.{Lexeme}
use Rattle.cmm_lexer.specs.declared.piece.Lexeme.TheVariants as l
use Rattle.cmm_ast.specs.declared.token.Ident.{Ident}
use Rattle.cmm_lexer.specs.declared.keyword.Keyword.TheVariants.{Aborts, Also, Cuts, Never, Returns, To, Unwinds}
use Rattle.cmm_lexer.specs.declared.symbol.Symbol.TheVariants.{Open, OpenSquare, Comma, Less, Greater, Slash}
use Rattle.cmm_lexer.specs.declared.symbol.Symbol.TheVariants as sign
use Rattle.cmm_ast.specs.declared.expression.Expr.{Expr}
use Rattle.cmm_ast.specs.declared.statement.Actual.{Actual}
use Rattle.cmm_ast.specs.declared.statement.Callee.{Callee}
use Rattle.cmm_ast.specs.declared.statement.CalleeForm.{CalleeForm}
use Rattle.cmm_ast.specs.declared.statement.CalleeForm.TheVariants as callees
use Rattle.cmm_ast.specs.declared.statement.Exit.{Exit}
use Rattle.cmm_ast.specs.declared.statement.Flow.{Flow}
use Rattle.cmm_ast.specs.declared.statement.FlowForm.{FlowForm}
use Rattle.cmm_ast.specs.declared.statement.FlowForm.TheVariants as flows
use Rattle.cmm_ast.specs.declared.statement.Kinded.{Kinded}
use Rattle.cmm_ast.specs.declared.statement.Lvalue.{Lvalue}
use Rattle.cmm_ast.specs.declared.statement.Lvalue.TheVariants as lvalues
use Rattle.cmm_ast.specs.declared.statement.Range.{Range}
use Rattle.cmm_grammar.specs.Taking.{is_word, is_sign}
use Rattle.cmm_grammar.specs.Reading.{Reads, ◌>>=◌, give, if_next, here, skip, keyword, symbol, ident, text, round, outermost, optional, many, listed, may_list, is_comma}
use Rattle.cmm_grammar.specs.ExpressionReading.{width_in, type_name, named_type, begins_expression, whole, whole_prim, whole_memory}

abbrev pub is_any_text : Lexeme → Bool
is_any_text (l.Text bytes) = true
is_any_text _ = false

abbrev pub is_any_name : Lexeme → Bool
is_any_name (l.Name bytes) = true
is_any_name _ = false

-- ---- what is passed, and results and parameters

abbrev pub begins_kinded : Lexeme → Bool
begins_kinded x = is_any_text x || is_any_name x

abbrev pub kinded : Reads Kinded
kinded = optional is_any_text text >>= λ kind. ident >>= λ name. give record { kind = kind; name = name }

abbrev pub begins_actual : Lexeme → Bool
begins_actual x = is_any_text x || begins_expression x

abbrev pub actual : ℕ → Reads Actual
actual fuel = optional is_any_text text >>= λ kind. whole fuel >>= λ value. give record { kind = kind; value = value }

-- operators are counted anew from here on: a callee may have been read as an expression
abbrev pub arguments : ℕ → Reads (List Actual)
arguments fuel = outermost (round (may_list fuel begins_actual (actual fuel)))

-- ---- what is assigned to and called

abbrev pub is_width : Lexeme → Bool
is_width (l.Word n) = is_some (width_in n)
is_width _ = false

-- what a name begins: a word in memory, or that name alone
abbrev pub lvalue_from : ℕ → Ident → Reads Lvalue
lvalue_from fuel name =
    if_next (is_sign OpenSquare) (whole_memory fuel (named_type name) >>= λ m. give (lvalues.Memory m))
    (give (lvalues.Name name))

-- a name, or a word in memory
abbrev pub lvalue : ℕ → Reads Lvalue
lvalue fuel =
    if_next is_width (type_name >>= λ width. whole_memory fuel width >>= λ m. give (lvalues.Memory m))
    (ident >>= λ name. lvalue_from fuel name)

abbrev pub called : Lvalue → CalleeForm
called (lvalues.Name name) = callees.Name name
called (lvalues.Memory m) = callees.Memory m

-- what is called: an expression in round brackets, a name or a word in memory
abbrev pub callee_form : ℕ → Reads CalleeForm
callee_form fuel =
    if_next (is_sign Open) (round (whole fuel) >>= λ e. give (callees.Bracketed e)) (lvalue fuel >>= λ v. give (called v))

abbrev pub callee : ℕ → Reads Callee
callee fuel = here >>= λ token. callee_form fuel >>= λ form. give record { token = token; form = form }

-- ---- annotations

abbrev pub begins_flow : Lexeme → Bool
begins_flow x = is_word Also x || is_word Never x

-- the comma that may stand here
abbrev pub may_comma : Reads (Unit {0})
may_comma = if_next is_comma skip (give tt)

-- the continuations of an annotation, and the comma that may follow them
abbrev pub names_to : ℕ → (List Ident → FlowForm) → Reads FlowForm
names_to fuel make = keyword To >>= λ _. listed fuel is_any_name ident >>= λ names. give (make names)

-- what follows an `also`
abbrev pub also : ℕ → Reads FlowForm
also fuel =
    if_next (is_word Aborts) (skip >>= λ _. may_comma >>= λ _. give flows.Aborts)
    (if_next (is_word Cuts) (skip >>= λ _. names_to fuel flows.CutsTo)
    (if_next (is_word Unwinds) (skip >>= λ _. names_to fuel flows.UnwindsTo)
    (keyword Returns >>= λ _. names_to fuel flows.ReturnsTo)))

abbrev pub flow_form : ℕ → Reads FlowForm
flow_form fuel =
    if_next (is_word Never) (skip >>= λ _. keyword Returns >>= λ _. may_comma >>= λ _. give flows.NeverReturns)
    (keyword Also >>= λ _. also fuel)

abbrev pub flow : ℕ → Reads Flow
flow fuel = here >>= λ token. flow_form fuel >>= λ form. give record { token = token; form = form }

abbrev pub annotations : ℕ → Reads (List Flow)
annotations fuel = many fuel begins_flow (flow fuel) []

-- ---- exits and ranges

abbrev pub exit : ℕ → Reads Exit
exit fuel =
    here >>= λ token.
    symbol Less >>= λ _.
    whole_prim fuel >>= λ index.
    symbol Slash >>= λ _.
    whole_prim fuel >>= λ count. symbol Greater >>= λ _. give record { token = token; index = index; count = count }

-- the end of a range after its symbol
abbrev pub range_end : ℕ → Reads (Option Expr)
range_end fuel = if_next (is_sign sign.Range) (skip >>= λ _. whole fuel >>= λ e. give (Some e)) (give None)

abbrev pub range : ℕ → Reads Range
range fuel = whole fuel >>= λ from. range_end fuel >>= λ to. give record { from = from; to = to }
