use Rattle.std.proofs.Common.{◌∙◌}
use Rattle.cmm_parser.proofs.Steps.{handed}
use Rattle.cmm_parser.proofs.Loops.{many_turn, many_ends, many_breaks}
use Rattle.cmm_parser.proofs.parser.Parser.many.Goals as goal

pub returns-in_err-parse : goal.returns-in_err-parse
returns-in_err-parse g c =
    many_breaks c.loop-items.invariant (c.is_next.ensures ∙ c.loop-items-test.true) c.in_err-parse.ensures (handed c.from_residual.ensures.1)

pub loop-items-preserved : goal.loop-items-preserved
loop-items-preserved g c =
    many_turn c.loop-items.invariant (c.is_next.ensures ∙ c.loop-items-test.true) c.in_ok-parse.ensures c.in_ok-push.ensures.ok

pub returns : goal.returns
returns g c = many_ends c.loop-items.invariant (c.is_next.ensures ∙ c.loop-items-test.false)
