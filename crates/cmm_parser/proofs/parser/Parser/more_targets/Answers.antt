use Rattle.cmm_parser.proofs.Steps.{handed}
use Rattle.cmm_parser.proofs.TargetSteps.{target_turn, target_ends, target_breaks}
use Rattle.cmm_parser.proofs.parser.Parser.more_targets.Goals as goal

pub returns-in_err-targets : goal.returns-in_err-targets
returns-in_err-targets c = target_breaks c.loop-self.invariant (c.accept.ensures.taken c.loop-self-test.true) c.in_err-targets.ensures (handed c.from_residual.ensures.1)

pub loop-self-preserved : goal.loop-self-preserved
loop-self-preserved c = target_turn c.loop-self.invariant (c.accept.ensures.taken c.loop-self-test.true) c.in_ok-targets.ensures

pub returns : goal.returns
returns c = target_ends c.loop-self.invariant (c.accept.ensures.kept c.loop-self-test.false)
