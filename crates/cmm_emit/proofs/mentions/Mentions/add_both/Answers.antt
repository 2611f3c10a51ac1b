use Rattle.cmm_emit.specs.Mentions.{operand_names}
use Rattle.cmm_emit.proofs.Mentioned.{adds_both}
use Rattle.cmm_emit.proofs.mentions.Mentions.add_both.Goals as goal

pub returns : goal.returns
returns c =
    adds_both (λ r. operand_names r c.args.first) (λ r. operand_names r c.args.second) c.args.self.now c.add_operand.new.self c.add_operand-2.new.self c.add_operand.ensures c.add_operand-2.ensures
