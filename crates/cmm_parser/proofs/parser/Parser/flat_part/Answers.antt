use Rattle.std.proofs.Common.{refl, Some}
use Rattle.cmm_grammar.specs.StatementReading.{of_stmt}
use Rattle.cmm_parser.proofs.Steps.{looks, found, same_readers}
use Rattle.cmm_grammar.specs.StatementReading.{flat_by, symbol_stmt}
use Rattle.cmm_parser.proofs.CallSteps.{by_symbol}
use Rattle.cmm_parser.specs.Faults.{lexeme_in}
use Rattle.cmm_parser.proofs.parser.Parser.flat_part.Goals as goal

pub returns-in-Name : goal.returns-in-Name
returns-in-Name c = looks flat_by (found _ c.next.ensures c.in-Some.is c.in-Name.is) c.name_part.ensures

pub returns-in-Text : goal.returns-in-Text
returns-in-Text c = looks flat_by (found _ c.next.ensures c.in-Some.is c.in-Text.is) c.text_part.ensures

pub returns-in-Word : goal.returns-in-Word
returns-in-Word c = looks flat_by (found _ c.next.ensures c.in-Some.is c.in-Word.is) c.word_part.ensures

pub returns-in_default-kind : goal.returns-in_default-kind
returns-in_default-kind c =
    looks flat_by (found _ c.next.ensures c.in-Some.is refl)
    (same_readers (λ fuel. flat_by fuel (Some (lexeme_in c.args.self.now.tokens.now c.in-Some.kind))) (λ fuel. of_stmt (symbol_stmt fuel))
    (λ fuel. by_symbol c.args.self.now.tokens.now c.in-Some.kind fuel c.in_default-kind.not-Name c.in_default-kind.not-Text c.in_default-kind.not-Word) c.symbol_part-in_default-kind.ensures)
