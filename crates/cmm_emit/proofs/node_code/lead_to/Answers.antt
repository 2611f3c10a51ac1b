use Rattle.std.proofs.Common.{arith}
use Rattle.rv_asm.specs.declared.part.Part.TheVariants.{Place}
use Rattle.cmm_effects.proofs.Shared.{adds_part, adds_weaker}
use Rattle.cmm_emit.proofs.Leading.{goes_here}
use Rattle.cmm_emit.specs.Naming.{label_at}
use Rattle.cmm_emit.proofs.node_code.lead_to.Goals as goal

pub returns-clause-goes : goal.returns-clause-goes
returns-clause-goes c =
    let l = label_at c.args.context.now.nodes c.args.node.number in
    rw c.arrive.ensures.parts (adds_weaker (adds_part c.args.asm.now.parts (Place l) 2 (omega arith)) (omega arith) (λ x from to does. goes_here x from to l does))
