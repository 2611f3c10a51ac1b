-- How statements, declarations in bodies and blocks are read: told apart by their first tokens, with one token in hand.
pub use Rattle.cmm_grammar.specs.declared.told_apart.PartForm.{PartForm}
pub use Rattle.cmm_grammar.specs.declared.told_apart.PartForm.TheVariants.{OfLocal, OfStmt}
use Rattle.std.specs.Prelude.{ℕ, zero, suc, Bool, true, false, [], ◌∷◌, Option, Some, None}
use Rattle.cmm_lexer.specs.declared.piece.Lexeme.{Lexeme}
use Rattle.cmm_lexer.specs.declared.piece.Lexeme.TheVariants as l
use Rattle.cmm_ast.specs.declared.token.Ident.{Ident}
use Rattle.cmm_ast.specs.declared.token.Text.{Text}
use Rattle.cmm_lexer.specs.declared.keyword.Keyword.TheVariants.{Continuation, Cut, Default, Else, Foreign, Goto, If, Invariant, Jump, Return, Span, Stackdata, Switch, To}
use Rattle.cmm_lexer.specs.declared.keyword.Keyword.TheVariants as word
use Rattle.cmm_lexer.specs.declared.symbol.Symbol.TheVariants.{Open, OpenBrace, CloseBrace, OpenSquare, Colon, Less, Greater, Semicolon, Slash}
use Rattle.cmm_lexer.specs.declared.symbol.Symbol.TheVariants as sign
use Rattle.cmm_ast.specs.declared.expression.Memory.{Memory, Memory'}
use Rattle.cmm_ast.specs.declared.expression.TypeName.{TypeName}
use Rattle.cmm_ast.specs.declared.procedure.LocalForm.{LocalForm}
use Rattle.cmm_ast.specs.declared.procedure.Modifiers.TheVariants as before
use Rattle.cmm_ast.specs.declared.statement.Arm.{Arm}
use Rattle.cmm_ast.specs.declared.statement.Block.{Block}
use Rattle.cmm_ast.specs.declared.statement.CalleeForm.TheVariants as callees
use Rattle.cmm_ast.specs.declared.statement.Case.{Case}
use Rattle.cmm_ast.specs.declared.statement.Case.TheVariants as cases
use Rattle.cmm_ast.specs.declared.statement.Lvalue.TheVariants as lvalues
use Rattle.cmm_ast.specs.declared.statement.Otherwise.{Otherwise}
use Rattle.cmm_ast.specs.declared.statement.Otherwise.TheVariants as otherwises
use Rattle.cmm_ast.specs.declared.statement.Part.{Part}
use Rattle.cmm_ast.specs.declared.statement.Part.TheVariants as parts
use Rattle.cmm_ast.specs.declared.statement.Span.{Span as SwitchSpan}
use Rattle.cmm_ast.specs.declared.statement.Stmt.{Stmt}
use Rattle.cmm_ast.specs.declared.statement.StmtForm.{StmtForm}
use Rattle.cmm_ast.specs.declared.statement.StmtForm.TheVariants as stmts
use Rattle.cmm_grammar.specs.Taking.{is_word, is_sign}
use Rattle.cmm_grammar.specs.Reading.{Reads, ◌>>=◌, give, stop, look, if_next, here, skip, skip_opening, keyword, symbol, ident, text, round, square, braces, enclosed, optional, many, commas, may_list}
use Rattle.cmm_grammar.specs.ExpressionReading.{type_name, named_type, whole, whole_prim, whole_memory}
use Rattle.cmm_grammar.specs.PartReading.{is_any_name, is_width, begins_kinded, kinded, arguments, callee, annotations, exit, range}
use Rattle.cmm_grammar.specs.CallReading.{call, call_after}
use Rattle.cmm_grammar.specs.ProcedureReading.{modifiers_of, variables, stackdata}
use Rattle.cmm_grammar.specs.TargetReading.{Names, Lvalues, Results, assignment}

-- ---- parts of statements

abbrev pub case : ℕ → Reads Case
case fuel =
    if_next (is_word Default) (skip >>= λ _. symbol Colon >>= λ _. give cases.Default)
    (keyword word.Case >>= λ _. commas fuel (range fuel) >>= λ ranges. symbol Colon >>= λ _. give (cases.Ranges ranges))

abbrev pub span_ends : ℕ → Reads SwitchSpan
span_ends fuel = whole fuel >>= λ from. symbol sign.Range >>= λ _. whole fuel >>= λ to. give record { from = from; to = to }

abbrev pub switch_span : ℕ → Reads SwitchSpan
switch_span fuel = square (span_ends fuel)

-- ---- statements that begin with a reserved word, after it

abbrev pub jump : ℕ → Reads StmtForm
jump fuel = callee fuel >>= λ what. arguments fuel >>= λ actuals. symbol Semicolon >>= λ _. give (stmts.Jump what actuals)

abbrev pub return_form : ℕ → Reads StmtForm
return_form fuel =
    optional (is_sign Less) (exit fuel) >>= λ by. optional (is_sign Open) (arguments fuel) >>= λ values.
    symbol Semicolon >>= λ _. give (stmts.Return by values)

abbrev pub goto : Reads StmtForm
goto = ident >>= λ name. symbol Semicolon >>= λ _. give (stmts.Goto name)

abbrev pub cut : ℕ → Reads StmtForm
cut fuel =
    keyword To >>= λ _. callee fuel >>= λ what. arguments fuel >>= λ actuals. annotations fuel >>= λ fs. symbol Semicolon >>= λ _.
    give (stmts.Cut what actuals fs)

abbrev pub continuation : ℕ → Reads StmtForm
continuation fuel =
    ident >>= λ name. round (may_list fuel begins_kinded kinded) >>= λ parameters. symbol Colon >>= λ _. give (stmts.Continuation name parameters)

abbrev pub word_stmt : ℕ → Reads StmtForm
word_stmt fuel =
    if_next (is_word Return) (skip >>= λ _. return_form fuel)
    (if_next (is_word Goto) (skip >>= λ _. goto)
    (if_next (is_word Jump) (skip >>= λ _. jump fuel)
    (if_next (is_word Cut) (skip >>= λ _. cut fuel)
    (if_next (is_word word.Continuation) (skip >>= λ _. continuation fuel)
    (if_next (is_word Foreign) (call_after fuel []) stop)))))

abbrev pub symbol_stmt : ℕ → Reads StmtForm
symbol_stmt fuel = if_next (is_sign Open) (call_after fuel []) (symbol Semicolon >>= λ _. give stmts.Empty)

-- ---- statements that begin with a name or a word in memory, after it

abbrev pub memory_token : Memory → ℕ
memory_token (Memory' width _ address aligned) = width.token

abbrev pub memory_stmt : ℕ → Memory → Reads StmtForm
memory_stmt fuel m =
    if_next (is_sign Open) (call fuel [] None (record { token = memory_token m; form = callees.Memory m }))
    (assignment fuel (Lvalues (lvalues.Memory m ∷ [])))

abbrev pub name_stmt : ℕ → Ident → Reads StmtForm
name_stmt fuel name =
    if_next (is_sign Colon) (skip >>= λ _. give (stmts.Label name))
    (if_next (is_sign OpenSquare) (whole_memory fuel (named_type name) >>= λ m. memory_stmt fuel m)
    (if_next (is_sign Open) (call fuel [] None (record { token = name.token; form = callees.Name name }))
    (assignment fuel (Names (name ∷ [])))))

-- ---- parts that hold no block

abbrev pub of_stmt : Reads StmtForm → Reads PartForm
of_stmt reads = reads >>= λ form. give (OfStmt form)

abbrev pub of_local : Reads LocalForm → Reads PartForm
of_local reads = reads >>= λ form. give (OfLocal form)

-- where another name follows the first, that one is the type of variables
abbrev pub name_part : ℕ → Reads PartForm
name_part fuel =
    ident >>= λ name. if_next is_any_name (of_local (variables fuel before.Nothing (named_type name))) (of_stmt (name_stmt fuel name))

-- what follows a kind and a name, which is the type of variables or a result
abbrev pub kinded_part : ℕ → Text → Ident → Reads PartForm
kinded_part fuel kind name =
    if_next is_any_name (of_local (variables fuel (before.Kind kind) (named_type name)))
    (of_stmt (assignment fuel (Results (record { kind = Some kind; name = name } ∷ []))))

-- what follows a kind that no `invariant` follows
abbrev pub kind_part : ℕ → Text → Reads PartForm
kind_part fuel kind =
    if_next is_width (type_name >>= λ width. of_local (variables fuel (before.Kind kind) width))
    (ident >>= λ name. kinded_part fuel kind name)

-- a text is the kind of variables or of a result
abbrev pub text_part : ℕ → Reads PartForm
text_part fuel =
    text >>= λ kind.
    if_next (is_word Invariant)
    (skip >>= λ _. type_name >>= λ width. of_local (variables fuel (before.KindInvariant kind) width)) (kind_part fuel kind)

-- what follows a type that is a word: a word in memory or variables
abbrev pub width_part : ℕ → TypeName → Reads PartForm
width_part fuel width =
    if_next (is_sign OpenSquare) (of_stmt (whole_memory fuel width >>= λ m. memory_stmt fuel m))
    (of_local (variables fuel before.Nothing width))

-- a part that begins with a reserved word that is no type
abbrev pub other_part : ℕ → Reads PartForm
other_part fuel =
    if_next (is_word Invariant)
    (modifiers_of >>= λ modifiers. type_name >>= λ width. of_local (variables fuel modifiers width))
    (if_next (is_word Stackdata) (skip >>= λ _. of_local (stackdata fuel)) (of_stmt (word_stmt fuel)))

-- a part that begins with a reserved word
abbrev pub word_part : ℕ → Reads PartForm
word_part fuel = if_next is_width (type_name >>= λ width. width_part fuel width) (other_part fuel)

abbrev pub flat_by : ℕ → Option Lexeme → Reads PartForm
flat_by fuel (Some (l.Name bytes)) = name_part fuel
flat_by fuel (Some (l.Text bytes)) = text_part fuel
flat_by fuel (Some (l.Word n)) = word_part fuel
flat_by fuel _ = of_stmt (symbol_stmt fuel)

abbrev pub flat_part : ℕ → Reads PartForm
flat_part fuel = look (flat_by fuel)

-- ---- statements that hold blocks, after their first word, by how blocks are read

abbrev pub if_form : ℕ → Reads Block → Reads Otherwise → Reads StmtForm
if_form fuel blocks others = whole fuel >>= λ condition. blocks >>= λ body. others >>= λ otherwise. give (stmts.If condition body otherwise)

-- an `if` after `else` counts as an open bracket until its chain ends
abbrev pub chained : Reads StmtForm → Reads Stmt
chained form =
    enclosed
    (here >>= λ token. if_next (is_word If) skip_opening stop >>= λ _. form >>= λ form. here >>= λ past.
    give record { token = token; past = past; form = form })

-- each turn takes a token or more
abbrev pub otherwise : ℕ → ℕ → Reads Block → Reads Otherwise
otherwise zero fuel blocks = stop
otherwise (suc turns) fuel blocks =
    if_next (is_word Else)
    (skip >>= λ _.
    if_next (is_sign OpenBrace) (blocks >>= λ body. give (otherwises.Else body))
    (chained (if_form fuel blocks (otherwise turns fuel blocks)) >>= λ s. give (otherwises.ElseIf s)))
    (give otherwises.Nothing)

-- not the brace that ends a row
abbrev pub is_within : Lexeme → Bool
is_within x = elim (is_sign CloseBrace x) [ true ↦ false | false ↦ true ]

abbrev pub arm : ℕ → Reads Block → Reads Arm
arm fuel blocks = here >>= λ token. case fuel >>= λ what. blocks >>= λ body. give record { token = token; case = what; body = body }

abbrev pub switch_form : ℕ → Reads Block → Reads StmtForm
switch_form fuel blocks =
    optional (is_sign OpenSquare) (switch_span fuel) >>= λ over. whole fuel >>= λ value.
    braces (many fuel is_within (arm fuel blocks) []) >>= λ arms. give (stmts.Switch over value arms)

abbrev pub span_form : ℕ → Reads Block → Reads StmtForm
span_form fuel blocks = whole_prim fuel >>= λ key. whole fuel >>= λ value. blocks >>= λ body. give (stmts.Span key value body)

-- ---- parts and blocks

abbrev pub part_of : ℕ → ℕ → PartForm → Part
part_of token past (OfLocal form) = parts.Local record { token = token; past = past; form = form }
part_of token past (OfStmt form) = parts.Stmt record { token = token; past = past; form = form }

abbrev pub part_form : ℕ → Reads Block → Reads PartForm
part_form fuel blocks =
    if_next (is_word If) (skip >>= λ _. of_stmt (if_form fuel blocks (otherwise fuel fuel blocks)))
    (if_next (is_word Switch) (skip >>= λ _. of_stmt (switch_form fuel blocks))
    (if_next (is_word Span) (skip >>= λ _. of_stmt (span_form fuel blocks)) (flat_part fuel)))

abbrev pub part : ℕ → Reads Block → Reads Part
part fuel blocks = here >>= λ token. part_form fuel blocks >>= λ form. here >>= λ past. give (part_of token past form)

abbrev pub block : ℕ → Reads Block
block zero = stop
block (suc fuel) = braces (many (suc fuel) is_within (part (suc fuel) (block fuel)) []) >>= λ parts. give record { parts = parts }
