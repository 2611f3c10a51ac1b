use Rattle.cmm_parser.proofs.Steps.{handed, loosely, stops, takes}
use Rattle.cmm_parser.proofs.parser.Parser.range_end.Goals as goal

pub returns-in_err-whole : goal.returns-in_err-whole
returns-in_err-whole c =
    loosely (takes (c.accept.ensures.taken c.if-accept.true) (stops _ c.in_err-whole.ensures (handed c.from_residual.ensures.1)))
