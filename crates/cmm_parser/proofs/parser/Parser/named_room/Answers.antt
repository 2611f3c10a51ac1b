use Rattle.cmm_grammar.specs.ProcedureReading.{sized_room}
use Rattle.cmm_parser.proofs.Steps.{steps, leaves}
use Rattle.cmm_parser.proofs.DeclarationSteps.{reads_same}
use Rattle.cmm_parser.proofs.parser.Parser.named_room.Goals as goal

pub returns-else-accept : goal.returns-else-accept
returns-else-accept c =
    steps _ c.in_ok-name.ensures
    (leaves (c.accept.ensures.kept c.if-accept.false) (reads_same (λ width fuel. sized_room fuel width) c.named_type.ensures c.sized_room.ensures))
