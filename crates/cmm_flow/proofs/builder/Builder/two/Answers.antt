use Rattle.std.proofs.Common.{refl}
use Rattle.cmm_flow.proofs.Begins.{on_step, operand_begins, the_step}
use Rattle.cmm_flow.proofs.Laying.{lays_after}
use Rattle.cmm_flow.proofs.ExpressionsStay.{operand_stays}
use Rattle.cmm_flow.proofs.builder.Builder.two.Goals as goal

pub returns : goal.returns
returns c =
    let right = c.args.right.now in let behind = c.in_ok-behind.behind in
    lays_after _ _ _ _ _ _ _ _ c.operand-2.result c.in_ok-behind.ensures (λ nodes more. operand_stays nodes more right 1 behind c.args.next) c.operand-2.ensures refl
    (λ g is steps normal. on_step g behind (operand_begins g right 1 behind c.args.next is (the_step g c.args.next steps)))
    (λ n nodes second first. (behind, first, second))
