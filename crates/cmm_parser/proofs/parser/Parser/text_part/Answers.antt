use Rattle.cmm_parser.proofs.Steps.{handed, steps, stops, takes, leaves}
use Rattle.cmm_parser.proofs.parser.Parser.text_part.Goals as goal

pub returns-in_err-kind : goal.returns-in_err-kind
returns-in_err-kind c = stops _ c.in_err-kind.ensures (handed c.from_residual.ensures.1)

pub returns-in_err-width : goal.returns-in_err-width
returns-in_err-width c = steps _ c.in_ok-kind.ensures (takes (c.accept_word.ensures.taken c.if-accept_word.true) (stops _ c.in_err-width.ensures (handed c.from_residual-in_err-width.ensures.1)))

pub returns-in_ok-width : goal.returns-in_ok-width
returns-in_ok-width c = steps _ c.in_ok-kind.ensures (takes (c.accept_word.ensures.taken c.if-accept_word.true) (steps _ c.in_ok-width.ensures (c.variables_part.ensures)))

pub returns-else-accept_word : goal.returns-else-accept_word
returns-else-accept_word c = steps _ c.in_ok-kind.ensures (leaves (c.accept_word.ensures.kept c.if-accept_word.false) (c.kind_part.ensures))
