use Rattle.cmm_grammar.specs.UnitReading.{values_of}
use Rattle.cmm_parser.proofs.Steps.{leaves}
use Rattle.cmm_parser.proofs.DeclarationSteps.{reads_same}
use Rattle.cmm_parser.proofs.parser.Parser.named_datum.Goals as goal

pub returns-else-accept : goal.returns-else-accept
returns-else-accept c =
    leaves (c.accept.ensures.kept c.if-accept.false) (reads_same (λ width fuel. values_of fuel width) c.named_type.ensures c.values_of.ensures)
