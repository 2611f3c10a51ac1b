use Rattle.std.proofs.Common.{inl, refl}
use Rattle.cmm_hoist.specs.Keeping.{Computes, Copies, Loads, SameRvalue, Tests}
use Rattle.cmm_hoist.proofs.keeping.rvalue_for.Goals as goal

pub returns-in-Copy : goal.returns-in-Copy
returns-in-Copy c = rw c.in-Copy.is (Copies c.in-Copy.operand c.operand_for.result c.operand_for.ensures.stands)

pub returns-in-Load : goal.returns-in-Load
returns-in-Load c =
    let load = c.in-Load in let place = c.operand_for-in-Load in rw load.is (Loads load.width load.aligned load.address place.result place.ensures.stands)

pub returns-then-is_by_number : goal.returns-then-is_by_number
returns-then-is_by_number c =
    let value = c.in-Binary in
    let left = c.operand_for-in-Binary in
    rw value.is (Computes value.operator value.width value.left value.right left.result value.right left.ensures.stands (inl refl))

pub returns-else-is_by_number : goal.returns-else-is_by_number
returns-else-is_by_number c =
    let value = c.in-Binary in
    let left = c.operand_for-in-Binary in
    let right = c.operand_for-else-is_by_number in
    rw value.is (Computes value.operator value.width value.left value.right left.result right.result left.ensures.stands right.ensures.stands)

pub returns-in-Compare : goal.returns-in-Compare
returns-in-Compare c = rw c.in-Compare.is (Tests c.in-Compare.test c.test_for.result c.test_for.ensures)

pub returns-in_default : goal.returns-in_default
returns-in_default c = SameRvalue c.args.value
