use Rattle.std.proofs.Common.{◌≡◌, length, arith}
use Rattle.std.proofs.lemmas.Bool.Decides.{nat_tests}
use Rattle.cmm_flow.proofs.Laying.{lays_as}
use Rattle.cmm_flow.proofs.Assignments.{several_at}
use Rattle.cmm_flow.proofs.NodeLists.{several_at_once}
use Rattle.cmm_flow.proofs.builder.Builder.assign.Goals as goal
use Rattle.cmm_flow.proofs.builder.Builder.assign.Goals.{else-is_empty-via-then-is_empty+else-is_empty-2, else-is_empty-via-else-is_empty}

pub returns-else-is_empty : goal.returns-else-is_empty
returns-else-is_empty c =
    let apart : length c.in-Some-split_first.others.now ≡ 0 → length c.in-Some.more.now ≡ 0 → ⊥ = elim c.else-is_empty.branch [
      | else-is_empty-via-then-is_empty+else-is_empty-2 w ↦ λ a b. grind (arith, nat_tests, c.is_empty.ensures, w.is_empty-then-is_empty.ensures, w.if-is_empty, w.if-is_empty-2, a, b)
      | else-is_empty-via-else-is_empty w ↦ λ a b. grind (arith, nat_tests, c.is_empty.ensures, w.if-is_empty, a, b)
    ] in
    lays_as _ _ _ _ _ _ _ _ _ c.assign_several-else-is_empty.result c.assign_several-else-is_empty.ensures
    (several_at_once c.args.to.now c.in-Some-split_first.others.now c.in-Some-split_first.place.now c.args.values.now c.in-Some.more.now c.in-Some.value.now
    c.in-Some-split_first.ensures.cases.0 c.in-Some.ensures.cases.0 apart)
    (λ n nodes is.
    several_at nodes c.args.to.now c.in-Some-split_first.others.now c.in-Some-split_first.place.now c.args.values.now c.in-Some.more.now c.in-Some.value.now
    n c.args.next c.in-Some-split_first.ensures.cases.0 c.in-Some.ensures.cases.0 apart is)
