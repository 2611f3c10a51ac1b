use Rattle.std.proofs.Common.{◌≡◌, ℕ, ◌≤◌, None, take}
use Rattle.cmm_program.specs.Bodies.{AtLabel}
use Rattle.cmm_flow.specs.Relation.{AreAll}
use Rattle.cmm_flow.specs.inside.LayingBlocks.{AreAllArms, has_labels_below}
use Rattle.cmm_flow.specs.inside.Marks.{after_arms, after_list}
use Rattle.cmm_flow.proofs.labels.+labels.Given as goal

abbrev pub invariant-labels_in-loop-statement : goal.invariant-labels_in-loop-statement
invariant-labels_in-loop-statement l =
    ((k : ℕ) → l.count ≤ k → after_list (AtLabel k) (take l.statement-index l.statements) ≡ None)
    × ((limit : ℕ) → AreAll (has_labels_below limit) l.statements → l.count ≤ limit)

abbrev pub invariant-labels_in_arms-loop-arm : goal.invariant-labels_in_arms-loop-arm
invariant-labels_in_arms-loop-arm l =
    ((k : ℕ) → l.count ≤ k → after_arms (AtLabel k) (take l.arm-index l.arms) ≡ None)
    × ((limit : ℕ) → AreAllArms (has_labels_below limit) l.arms → l.count ≤ limit)
