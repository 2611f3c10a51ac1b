use Rattle.cmm_parser.proofs.Steps.{steps, leaves}
use Rattle.cmm_parser.proofs.DeclarationSteps.{bits_next, no_bits}
use Rattle.cmm_parser.proofs.parser.Parser.room_form.Goals as goal

pub returns-in-Some : goal.returns-in-Some
returns-in-Some c =
    leaves (c.accept_word.ensures.kept c.if-accept_word.false) (steps _ (bits_next c.in-Some.ensures) c.sized_room.ensures)

pub returns-in-None : goal.returns-in-None
returns-in-None c =
    leaves (c.accept_word.ensures.kept c.if-accept_word.false) (steps _ (no_bits c.in-None.ensures) c.named_room.ensures)
