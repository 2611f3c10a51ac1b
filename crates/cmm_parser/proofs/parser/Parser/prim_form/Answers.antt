use Rattle.std.proofs.Common.{ℕ, Option, Some, refl}
use Rattle.cmm_lexer.specs.declared.piece.Lexeme.{Lexeme}
use Rattle.cmm_ast.specs.declared.expression.PrimForm.{PrimForm}
use Rattle.cmm_grammar.specs.Reading.{Reads}
use Rattle.cmm_grammar.specs.ExpressionReading as readers
use Rattle.cmm_parser.proofs.Steps.{looks, found, with_more, same_readers}
use Rattle.cmm_parser.proofs.ExpressionSteps.{literal_only}
use Rattle.cmm_parser.specs.Faults.{lexeme_in}
use Rattle.cmm_parser.proofs.parser.Parser.prim_form.Goals as goal

abbrev first : ℕ → Option Lexeme → Reads PrimForm
first fuel = readers.prim_by (readers.operand fuel)

pub returns-in-Symbol : goal.returns-in-Symbol
returns-in-Symbol c =
    looks first (found _ c.next.ensures c.in-Some.is c.in-Symbol.is) (with_more (λ fuel. readers.bracketed (readers.operand fuel)) c.bracketed.ensures)

pub returns-in_default-kind : goal.returns-in_default-kind
returns-in_default-kind c =
    looks first (found _ c.next.ensures c.in-Some.is refl)
    (same_readers (λ fuel. first fuel (Some (lexeme_in c.args.self.now.tokens.now c.in-Some.kind))) (λ fuel. readers.literal)
    (λ fuel. literal_only c.args.self.now.tokens.now c.in-Some.kind (readers.operand fuel) c.in_default-kind.not-Name c.in_default-kind.not-Symbol) c.literal.ensures)
