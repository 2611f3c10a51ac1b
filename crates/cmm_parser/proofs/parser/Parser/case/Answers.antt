use Rattle.cmm_parser.proofs.Steps.{handed, steps, stops, gives, takes, leaves}
use Rattle.cmm_parser.proofs.parser.Parser.case.Goals as goal

pub returns-in_err-expect : goal.returns-in_err-expect
returns-in_err-expect c = takes (c.accept_word.ensures.taken c.if-accept_word.true) (stops _ c.in_err-expect.ensures (handed c.from_residual.ensures.1))

pub returns-in_ok-expect : goal.returns-in_ok-expect
returns-in_ok-expect c = takes (c.accept_word.ensures.taken c.if-accept_word.true) (steps _ c.in_ok-expect.ensures gives)

pub returns-in_err-ranges : goal.returns-in_err-ranges
returns-in_err-ranges c = leaves (c.accept_word.ensures.kept c.if-accept_word.false) (steps _ c.in_ok-expect_word.ensures (stops _ c.in_err-ranges.ensures (handed c.from_residual-in_err-ranges.ensures.1)))

pub returns-in_err-expect-2 : goal.returns-in_err-expect-2
returns-in_err-expect-2 c = leaves (c.accept_word.ensures.kept c.if-accept_word.false) (steps _ c.in_ok-expect_word.ensures (steps _ c.in_ok-ranges.ensures (stops _ c.in_err-expect-2.ensures (handed c.from_residual-in_err-expect-2.ensures.1))))

pub returns-in_ok-expect-2 : goal.returns-in_ok-expect-2
returns-in_ok-expect-2 c = leaves (c.accept_word.ensures.kept c.if-accept_word.false) (steps _ c.in_ok-expect_word.ensures (steps _ c.in_ok-ranges.ensures (steps _ c.in_ok-expect-2.ensures gives)))
