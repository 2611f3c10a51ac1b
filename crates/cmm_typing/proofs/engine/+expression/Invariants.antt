use Rattle.std.proofs.Common.{◌≡◌, drop}
use Rattle.std.specs.Prelude.{IfOk, Ok}
use Rattle.cmm_static_semantics.specs.declared.judged.Operands.TheVariants as operands
use Rattle.cmm_typing.specs.inside.Operands.{OperandsFit, list_operands}
use Rattle.cmm_typing.proofs.engine.+expression.Given as goal

-- the operands that are left, after those so far, say what all say
abbrev pub invariant-judge_operands-loop-e : goal.invariant-judge_operands-loop-e
invariant-judge_operands-loop-e g l =
    (list_operands g.V.Values.algebra (g.N.Names.senses l.names) l.given (drop l.e-index l.operands)
    ≡ list_operands g.V.Values.algebra (g.N.Names.senses l.names) (Ok operands.Zero) l.operands)
    × IfOk l.given (OperandsFit g.V.Values.fits)
