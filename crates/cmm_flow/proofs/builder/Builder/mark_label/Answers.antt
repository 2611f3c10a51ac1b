use Rattle.std.proofs.Common.{arith, refl}
use Rattle.cmm_flow.proofs.Marking.{label_left, label_set}
use Rattle.cmm_flow.proofs.builder.Builder.mark_label.Goals as goal

pub returns-then-label-len : goal.returns-then-label-len
returns-then-label-len c = record { marks = label_set c.args.self.now c.set.new.self c.args.label c.args.to (omega arith) c.set.ensures; nodes = refl }

pub returns-else-label-len : goal.returns-else-label-len
returns-else-label-len c = record { marks = label_left c.args.self.now c.args.label c.args.to (omega arith); nodes = refl }
