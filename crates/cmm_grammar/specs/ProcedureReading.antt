-- How procedures are read, over how a block is, and what procedures declare.
use Rattle.std.specs.Prelude.{ℕ, Bool, true, false, ◌||◌, [], Option, Some, None, is_some}
use Rattle.cmm_lexer.specs.declared.piece.Lexeme.{Lexeme}
use Rattle.cmm_lexer.specs.declared.piece.Lexeme.TheVariants as l
use Rattle.cmm_ast.specs.declared.token.Ident.{Ident}
use Rattle.cmm_ast.specs.declared.token.Text.{Text}
use Rattle.cmm_lexer.specs.declared.keyword.Keyword.TheVariants.{Align, Invariant}
use Rattle.cmm_lexer.specs.declared.symbol.Symbol.TheVariants.{Colon, CloseBrace, OpenSquare, Semicolon}
use Rattle.cmm_ast.specs.declared.expression.Expr.{Expr}
use Rattle.cmm_ast.specs.declared.expression.TypeName.{TypeName}
use Rattle.cmm_ast.specs.declared.procedure.Proc.{Proc}
use Rattle.cmm_ast.specs.declared.procedure.Formal.{Formal}
use Rattle.cmm_ast.specs.declared.procedure.Modifiers.{Modifiers}
use Rattle.cmm_ast.specs.declared.procedure.Modifiers.TheVariants as modifiers
use Rattle.cmm_ast.specs.declared.procedure.LocalForm.{LocalForm}
use Rattle.cmm_ast.specs.declared.procedure.LocalForm.TheVariants as locals
use Rattle.cmm_ast.specs.declared.procedure.Room.{Room}
use Rattle.cmm_ast.specs.declared.procedure.RoomForm.{RoomForm}
use Rattle.cmm_ast.specs.declared.procedure.RoomForm.TheVariants as rooms
use Rattle.cmm_ast.specs.declared.statement.Block.{Block}
use Rattle.cmm_grammar.specs.Taking.{is_word, is_sign}
use Rattle.cmm_grammar.specs.Reading.{Reads, ◌>>=◌, give, if_next, here, keyword, symbol, ident, int, optional, many, may_list, round, square, braces}
use Rattle.cmm_grammar.specs.ExpressionReading.{width_in, type_name, named_type, whole}
use Rattle.cmm_grammar.specs.DeclarationReading.{is_other, if_word, if_symbol, optional_text, bits, names}

-- ---- what stands before the type of a variable

abbrev pub invariant_by : ℕ → Option Text → Modifiers
invariant_by first (Some kind) = modifiers.InvariantKind first kind
invariant_by first None = modifiers.Invariant first

-- the word `invariant` first, and perhaps a kind
abbrev pub invariant_first : Reads Modifiers
invariant_first = here >>= λ first. keyword Invariant >>= λ _. optional_text >>= λ kind. give (invariant_by first kind)

abbrev pub kind_by : Option Text → Reads Modifiers
kind_by (Some kind) = if_word Invariant (give (modifiers.KindInvariant kind)) (give (modifiers.Kind kind))
kind_by None = give modifiers.Nothing

abbrev pub modifiers_of : Reads Modifiers
modifiers_of = if_next (is_word Invariant) invariant_first (optional_text >>= kind_by)

-- ---- formals

abbrev pub begins_formal : Lexeme → Bool
begins_formal (l.Name bytes) = true
begins_formal (l.Text bytes) = true
begins_formal (l.Word n) = is_word Invariant (l.Word n) || is_some (width_in n)
begins_formal _ = false

abbrev pub formal : Reads Formal
formal = modifiers_of >>= λ before. type_name >>= λ width. ident >>= λ name. give record { modifiers = before; width = width; name = name }

-- ---- variables and stackdata

-- variables after their type
abbrev pub variables : ℕ → Modifiers → TypeName → Reads LocalForm
variables turns before width = names turns >>= λ named. symbol Semicolon >>= λ _. give (locals.Variables before width named)

abbrev pub room_count : ℕ → Reads (Option Expr)
room_count fuel = optional (is_sign OpenSquare) (square (whole fuel))

abbrev pub sized_room : ℕ → TypeName → Reads RoomForm
sized_room fuel width = room_count fuel >>= λ count. symbol Semicolon >>= λ _. give (rooms.Data width count)

abbrev pub room_by : ℕ → Option TypeName → Reads RoomForm
room_by fuel (Some width) = sized_room fuel width
room_by fuel None = ident >>= λ name. if_symbol Colon (give (rooms.Label name)) (sized_room fuel (named_type name))

abbrev pub room_form : ℕ → Reads RoomForm
room_form fuel =
    if_word Align (int >>= λ bytes. symbol Semicolon >>= λ _. give (rooms.Align bytes)) (bits >>= λ width. room_by fuel width)

abbrev pub room : ℕ → Reads Room
room fuel = here >>= λ token. room_form fuel >>= λ form. give record { token = token; form = form }

-- what follows a `stackdata`
abbrev pub stackdata : ℕ → Reads LocalForm
stackdata fuel = braces (many fuel (is_other CloseBrace) (room fuel) []) >>= λ found. give (locals.Stackdata found)

-- ---- procedures

-- a procedure after its name
abbrev pub procedure : ℕ → Reads Block → Ident → Reads Proc
procedure fuel block name =
    round (may_list fuel begins_formal formal) >>= λ formals.
    block >>= λ body. here >>= λ past. give record { name = name; formals = formals; body = body; past = past }

abbrev pub proc : ℕ → Reads Block → Reads Proc
proc fuel block = ident >>= λ name. procedure fuel block name
