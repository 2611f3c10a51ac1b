use Rattle.std.proofs.Common.{◌∙◌}
use Rattle.cmm_parser.proofs.Steps.{handed}
use Rattle.cmm_parser.proofs.Loops.{listed_turn, listed_ends, listed_ends_at, listed_breaks}
use Rattle.cmm_parser.proofs.parser.Parser.listed_from.Goals.{then-loop-self-test+else-is_next, else-loop-self-test}
use Rattle.cmm_parser.proofs.parser.Parser.listed_from.Goals as goal

pub returns-in_err-parse : goal.returns-in_err-parse
returns-in_err-parse g c =
    listed_breaks c.loop-self.invariant (c.accept.ensures.taken c.loop-self-test.true) (c.is_next.ensures ∙ c.if-is_next.true) c.in_err-parse.ensures (handed c.from_residual-in_err-parse.ensures.1)

pub loop-self-preserved : goal.loop-self-preserved
loop-self-preserved g c =
    listed_turn c.loop-self.invariant (c.accept.ensures.taken c.loop-self-test.true) (c.is_next.ensures ∙ c.if-is_next.true) c.in_ok-parse.ensures c.in_ok-push-2.ensures.ok

pub returns : goal.returns
returns g c = elim c.loop-self-test.branch [
  | then-loop-self-test+else-is_next w ↦ listed_ends_at c.loop-self.invariant (c.accept.ensures.taken w.loop-self-test.true) (w.is_next.ensures ∙ w.if-is_next.false)
  | else-loop-self-test w ↦ listed_ends c.loop-self.invariant (c.accept.ensures.kept w.loop-self-test.false)
]
