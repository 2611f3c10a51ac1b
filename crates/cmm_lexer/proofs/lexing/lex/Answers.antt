use Rattle.std.proofs.Common.{refl}
use Rattle.cmm_lexer.proofs.Finishing.{first_fault-long, finished}
use Rattle.cmm_lexer.proofs.lexing.lex.Goals as goal

pub returns-then-unit-gt-UNIT_LIMIT-clause-err : goal.returns-then-unit-gt-UNIT_LIMIT-clause-err
returns-then-unit-gt-UNIT_LIMIT-clause-err c =
    rw (c.fault.ensures, c.new-tokens.ensures.place.0, c.new-tokens.ensures.place.1) (0, first_fault-long c.args.unit.now c.if-unit-gt-UNIT_LIMIT.true, refl, refl)

pub returns-clause-ok : goal.returns-clause-ok
returns-clause-ok c = finished c.args.unit.now c.loop-place.place c.loop-place.tokens c.loop-place.invariant c.loop-place-test.false c.if-unit-gt-UNIT_LIMIT.false
