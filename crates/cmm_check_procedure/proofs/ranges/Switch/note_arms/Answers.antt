use Rattle.std.proofs.Common.{◌+◌, ap, sym, ◌∙◌, subst, take, map, false}
use Rattle.std.specs.Prelude.{option_map}
use Rattle.cmm_static_semantics.proofs.Shared.{mapped_next}
use Rattle.cmm_static_semantics.specs.Spots.{first_of}
use Rattle.cmm_static_semantics.specs.Switches.{arms_spots}
use Rattle.cmm_check_procedure.specs.Extents.{shown}
use Rattle.cmm_check_procedure.specs.Heads.{arm_head}
use Rattle.cmm_check_procedure.specs.inside.Arms.{before, arm_spots, is_defaulted, with_arm, with_arms}
use Rattle.cmm_check_procedure.specs.inside.Earlier.{AreEarlier}
use Rattle.cmm_check_procedure.proofs.Switched.{arms_walk}
use Rattle.cmm_check_procedure.proofs.Walks.{walked, moved_on}
use Rattle.cmm_check_procedure.proofs.ranges.Switch.note_arms.Goals as goal

pub loop-arm-preserved : goal.loop-arm-preserved
loop-arm-preserved g c earlier told =
    let names = g.N.Names.senses c.args.self.now.names.now in let width = c.args.self.now.width in
    let all = option_map shown c.args.self.now.whole in
    let i = c.loop-arm.arm-index in let xs = c.args.arms.now in let x = c.arm-item.result in
    let p = c.loop-arm.invariant earlier told in
    let grown = mapped_next arm_head xs i x c.loop-arm-test.true c.arm-item.is in
    let state = with_arms names width (before earlier false) (map arm_head (take i xs)) in
    let moved = moved_on (arm_spots names width all) (with_arm names width) (λ b as_. arms_spots names width all b.extents b.defaulted as_) (with_arms names width)
    (arms_walk names width all) (before earlier false) (map arm_head (take i xs)) (map arm_head (take (i + 1) xs)) (arm_head x) grown in (
      walked (arm_spots names width all) (with_arm names width) (λ b as_. arms_spots names width all b.extents b.defaulted as_) (with_arms names width)
          (arms_walk names width all) (before earlier false) (map arm_head (take i xs)) (map arm_head (take (i + 1) xs)) (arm_head x)
          c.args.best.now c.loop-arm.best c.note_arm.new.best grown p.0
          (c.in_ok-defaulted.ensures.spots state.extents p.1
          ∙ ap (λ d. first_of c.loop-arm.best (arm_spots names width all (before state.extents d) (arm_head x))) p.2),
      subst (λ b. AreEarlier c.note_arm.new.seen b.extents) (sym moved) (c.in_ok-defaulted.ensures.seen state.extents p.1),
      c.in_ok-defaulted.ensures.defaulted ∙ ap (λ d. is_defaulted d x.case) p.2 ∙ sym (ap (λ b. b.defaulted) moved),
    )
