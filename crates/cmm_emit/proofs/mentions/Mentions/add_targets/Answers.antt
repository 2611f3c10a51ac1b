use Rattle.std.proofs.Common.{◌≤◌, arith, length}
use Rattle.cmm_program.specs.declared.procedure.Target.{Target}
use Rattle.cmm_unit_code.specs.declared.unit_code.Reference.{Reference}
use Rattle.cmm_emit.specs.Mentions.{target_names}
use Rattle.cmm_emit.proofs.Mentioned.{adds_all, adds_more, adds_none}
use Rattle.cmm_emit.proofs.mentions.Mentions.add_targets.Goals as goal

pub loop-target-init : goal.loop-target-init
loop-target-init c = adds_none c.args.self.now

pub loop-target-preserved : goal.loop-target-preserved
loop-target-preserved c =
    adds_more (λ (x : Target) (r : Reference). target_names r x) c.args.targets.now c.loop-target.target-index _ c.args.self.now c.loop-target.self c.add_target.new.self c.loop-target-test.true
    c.loop-target.invariant c.add_target.ensures

pub returns : goal.returns
returns c =
    let done : length c.args.targets.now ≤ c.loop-target.target-index = omega (arith, c.loop-target-test.false) in
    adds_all (λ (x : Target) (r : Reference). target_names r x) c.args.targets.now c.loop-target.target-index c.args.self.now c.loop-target.self done c.loop-target.invariant
