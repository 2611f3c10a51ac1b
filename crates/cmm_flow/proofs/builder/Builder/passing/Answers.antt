use Rattle.std.proofs.Common.{refl}
use Rattle.cmm_flow.proofs.Begins.{on_step, operands_begin, the_step}
use Rattle.cmm_flow.proofs.Laying.{lays_after}
use Rattle.cmm_flow.proofs.ExpressionsStay.{operands_stay}
use Rattle.cmm_flow.proofs.builder.Builder.passing.Goals as goal

pub returns : goal.returns
returns c =
    let actuals = c.args.actuals.now in let behind = c.in_ok-behind.behind in
    lays_after _ _ _ _ _ _ _ _ c.operand.result c.in_ok-behind.ensures (λ nodes more. operands_stay nodes more actuals 1 behind c.args.next) c.operand.ensures refl
    (λ g is steps normal. on_step g behind (operands_begin g actuals 1 behind c.args.next is (the_step g c.args.next steps)))
    (λ n nodes second first. (behind, first, second))
