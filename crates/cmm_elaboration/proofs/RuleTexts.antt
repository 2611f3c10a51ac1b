-- Units as text, for worked rows.
use Rattle.std.proofs.Common.{true, ℕ, ◌++◌, List, [], ◌∷◌, Some}
use Rattle.std.specs.Prelude.{map, length, Option}
use denote.Hole.Carrier as Carrier
use Rattle.cmm_lexer.specs.declared.piece.Lexeme.{Lexeme}
use Rattle.cmm_lexer.specs.Places.{line_at, column_at}
use Rattle.cmm_lexer.specs.Spellings.{number_of, reserved, symbols}
use Rattle.cmm_lexer.specs.Pieces.{comment_piece, name_piece, number_piece, character_piece, text_piece, symbol_piece, percent_piece, piece_at, pieces_from}
use Rattle.cmm_lexer.specs.Lexing.{tokens_of}
use Rattle.cmm_ast.specs.declared.expression.ExprForm.TheBlock as ExprForms
use Rattle.cmm_ast.specs.declared.expression.Memory as Memories
use Rattle.cmm_ast.specs.declared.statement.Otherwise.TheBlock as Otherwises
use Rattle.cmm_ast.specs.declared.unit.Place.{Place}
use Rattle.cmm_ast.specs.declared.unit.TopLevel.{TopLevel}
use Rattle.cmm_ast.specs.declared.unit.Unit.{Unit as UnitTree}
use Rattle.cmm_grammar.specs.Derivation.{at_start}
use Rattle.cmm_grammar.specs.Reading.{Answer, Read, Stopped}
use Rattle.cmm_grammar.specs.ReadingLaws.{point}
use Rattle.cmm_grammar.specs.StatementReading.{block}
use Rattle.cmm_grammar.specs.UnitReading.{parts}
use Rattle.cmm_program.specs.declared.expression.Expression.TheBlock as Expressions
use Rattle.cmm_program.specs.declared.expression.Condition.TheBlock as Conditions
use Rattle.cmm_rules.specs.declared.rule.Rule.{Rule}
use Rattle.cmm_static_semantics.specs.declared.fault.Fault.{Fault}

-- what a row unfolds beside definitions that always unfold
unfoldable pub opened : Unit {0}
unfolding ExprForms.hidden-the_row-Expr-0 ExprForms.hidden-the_row-Expr-1 Otherwises.hidden-the_row-Part-0 Otherwises.hidden-the_row-Arm-2 Memories.roll-Memory Expressions.hidden-the_row-Expression-0 Conditions.hidden-the_row-Condition-0 Carrier.hidden Carrier.roll number_of reserved symbols comment_piece name_piece number_piece character_piece text_piece symbol_piece percent_piece piece_at pieces_from
opened = tt

abbrev tokens : List ℕ → List Lexeme
tokens text = map (λ t. t.lexeme) (tokens_of text)

abbrev read : Answer (List TopLevel) → List TopLevel
read (Read ps p) = ps
read (Stopped f n) = []

-- where each token stands, and the end of the text
abbrev places_of : List ℕ → List Place
places_of text =
    map (λ t. record { line = t.line; column = t.column }) (tokens_of text)
    ++ record { line = line_at text (length text); column = column_at text (length text) } ∷ []

abbrev pub unit_of : List ℕ → UnitTree
unit_of text = record { parts = read (parts 200 block true (point (at_start (tokens text)))); places = places_of text }

abbrev pub broken : Rule → ℕ → ℕ → ℕ → Option Fault
broken rule unit line column = Some record { rule = rule; unit = unit; line = line; column = column }
