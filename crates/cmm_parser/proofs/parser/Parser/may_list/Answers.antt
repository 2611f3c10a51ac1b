use Rattle.std.proofs.Common.{◌∙◌}
use Rattle.cmm_parser.proofs.Steps.{loosely, holds}
use Rattle.cmm_parser.proofs.parser.Parser.may_list.Goals as goal

pub returns-then-is_next : goal.returns-then-is_next
returns-then-is_next g c =
    loosely (holds (c.is_next.ensures ∙ c.if-is_next.true) c.listed.ensures)
