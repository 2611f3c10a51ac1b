use Rattle.cmm_hoist.specs.Keeping.{Compares}
use Rattle.cmm_hoist.proofs.keeping.test_for.Goals as goal

pub returns : goal.returns
returns c = Compares c.args.test c.operand_for.result c.operand_for-2.result c.operand_for.ensures.stands c.operand_for-2.ensures.stands
