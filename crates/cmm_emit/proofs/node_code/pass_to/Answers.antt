use Rattle.std.proofs.Common.{arith}
use Rattle.rv_asm.specs.declared.part.Part.TheVariants.{Place}
use Rattle.cmm_effects.proofs.Shared.{adds_part, adds_then, adds_weaker}
use Rattle.cmm_emit.proofs.Leading.{turns_here}
use Rattle.cmm_emit.specs.Naming.{label_at}
use Rattle.cmm_emit.proofs.node_code.pass_to.Goals as goal

pub returns-clause-turns : goal.returns-clause-turns
returns-clause-turns c =
    let l = label_at c.args.context.now.nodes c.args.node.number in
    rw c.arrive.ensures.parts
    (adds_weaker (adds_then c.in_ok-go_on.ensures.keeps (adds_part c.go_on.new.asm.parts (Place l) 0 (omega arith))) (omega arith) (λ x from to does. turns_here x from does.0 to l does.1 does.2))

pub returns-then-has-clause-turns : goal.returns-then-has-clause-turns
returns-then-has-clause-turns c = rw c.as_slice.ensures at c.in_ok-go_to.ensures.turns
