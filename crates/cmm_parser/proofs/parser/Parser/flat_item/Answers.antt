use Rattle.std.proofs.Common.{◌∙◌}
use Rattle.cmm_parser.proofs.Steps.{steps, holds, fails}
use Rattle.cmm_parser.proofs.DeclarationSteps.{may_bits}
use Rattle.cmm_parser.proofs.parser.Parser.flat_item.Goals as goal

pub returns-then-is_name : goal.returns-then-is_name
returns-then-is_name c = holds (c.is_name.ensures ∙ c.if-is_name.true) (steps _ c.in_ok-name.ensures c.named_item.ensures)

pub returns : goal.returns
returns c =
    fails (c.is_name.ensures ∙ c.if-is_name.false)
    (fails (c.is_word.ensures ∙ c.if-is_word.false) (steps _ (may_bits _ c.bits-width.ensures) c.item_by.ensures))
