use Rattle.std.proofs.Common.{take}
use Rattle.cmm_static_semantics.specs.Items.{part_within}
use Rattle.cmm_elaboration.specs.Bodies.{part_of}
use Rattle.cmm_proc_scope.specs.Bodies.{scope_of_body}
use Rattle.cmm_lower.specs.inside.Making.{AreMade, arm_inside, arm_of}
use Rattle.cmm_lower.proofs.bodies.+bodies.Given as goal

abbrev pub invariant-statements_of-loop-part : goal.invariant-statements_of-loop-part
invariant-statements_of-loop-part g l = let s = scope_of_body g.N.Names.senses l.names in
    AreMade s l.spans l.initial.sites l.sites part_within (part_of s) l.parts (take l.part-index l.parts) l.made

abbrev pub invariant-arms_of-loop-arm : goal.invariant-arms_of-loop-arm
invariant-arms_of-loop-arm g l = let s = scope_of_body g.N.Names.senses l.names in
    AreMade s l.spans l.initial.sites l.sites arm_inside (arm_of s l.width) l.arms (take l.arm-index l.arms) l.made
