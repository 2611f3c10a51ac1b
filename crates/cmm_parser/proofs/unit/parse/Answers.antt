use Rattle.cmm_parser.specs.Faults.{lexemes_of}
use Rattle.cmm_parser.proofs.Parsed.{fault_handed, fault_is, unit_is}
use Rattle.cmm_parser.proofs.unit.parse.Goals as goal

pub returns-in_err-parts-clause-err : goal.returns-in_err-parts-clause-err
returns-in_err-parts-clause-err c =
    fault_handed (lexemes_of c.args.tokens.now) c.in_err-parts.field-0.0 c.from_residual.result c.from_residual.ensures.1
    (fault_is (lexemes_of c.args.tokens.now) _ _ c.in_err-parts.field-0.0 c.new-parser.ensures c.in_err-parts.ensures)

pub returns-clause-ok : goal.returns-clause-ok
returns-clause-ok c =
    unit_is (lexemes_of c.args.tokens.now) (record { parts = c.in_ok-parts.parts; places = c.in_ok-places.places }) _ _ c.new-parser.ensures c.in_ok-parts.ensures
