use Rattle.std.proofs.Common.{◌∙◌}
use Rattle.cmm_parser.proofs.Steps.{loosely, steps, fails}
use Rattle.cmm_parser.proofs.parser.Parser.modifiers_of.Goals as goal

pub returns : goal.returns
returns c =
    loosely (fails (c.is_word.ensures ∙ c.if-is_word.false) (steps _ c.in_ok-kind.ensures c.kind_by.ensures))
