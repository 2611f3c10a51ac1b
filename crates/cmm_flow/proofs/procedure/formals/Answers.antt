use Rattle.std.proofs.Common.{arith}
use Rattle.cmm_flow.proofs.Numbering.{counted_more}
use Rattle.cmm_flow.proofs.procedure.formals.Goals as goal

pub loop-number-preserved : goal.loop-number-preserved
loop-number-preserved c =
    counted_more (λ v. v.number) c.loop-number.formals c.push.new.self record { number = c.loop-number.number } 0 c.loop-number.number c.loop-number.invariant
    c.in_ok-push.ensures.ok (omega arith)
