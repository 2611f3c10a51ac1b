-- Each call takes a token first, or is of a function of a lower rank.
use Rattle.std.proofs.Common.{◌+◌, ◌*◌, ◌<◌, [], ℕ, length, false}
use Rattle.cmm_grammar.specs.Reading.{many}
use Rattle.cmm_grammar.specs.StatementReading as readers
use Rattle.cmm_parser.specs.inside.Parsing.{point_of}
use Rattle.cmm_parser.proofs.Loops.{Reaches}
use Rattle.cmm_parser.proofs.parser.Parser.+statement.Given as goal

abbrev pub decreases-arm : goal.decreases-arm
decreases-arm l = 4 * length (point_of l.self.now).left

abbrev pub decreases-arms : goal.decreases-arms
decreases-arms l = 4 * length (point_of l.self.now).left + 1

abbrev pub decreases-block : goal.decreases-block
decreases-block l = 4 * length (point_of l.self.now).left

abbrev pub decreases-body : goal.decreases-body
decreases-body l = 4 * length (point_of l.self.now).left + 3

abbrev pub decreases-braced_arms : goal.decreases-braced_arms
decreases-braced_arms l = 4 * length (point_of l.self.now).left

abbrev pub decreases-chained : goal.decreases-chained
decreases-chained l = 4 * length (point_of l.self.now).left

abbrev pub decreases-if_form : goal.decreases-if_form
decreases-if_form l = 4 * length (point_of l.self.now).left

abbrev pub decreases-otherwise : goal.decreases-otherwise
decreases-otherwise l = 4 * length (point_of l.self.now).left

abbrev pub decreases-part : goal.decreases-part
decreases-part l = 4 * length (point_of l.self.now).left + 2

abbrev pub decreases-part_form : goal.decreases-part_form
decreases-part_form l = 4 * length (point_of l.self.now).left + 1

abbrev pub decreases-span_form : goal.decreases-span_form
decreases-span_form l = 4 * length (point_of l.self.now).left

abbrev pub decreases-switch_form : goal.decreases-switch_form
decreases-switch_form l = 4 * length (point_of l.self.now).left

abbrev pub invariant-body-loop-parts : goal.invariant-body-loop-parts
invariant-body-loop-parts l =
    (depth : ℕ) → length (point_of l.fn.self).left < depth →
    Reaches false (λ fuel. many fuel readers.is_within (readers.part fuel (readers.block depth)) []) (point_of l.fn.self)
    (λ fuel turns. many turns readers.is_within (readers.part fuel (readers.block depth)) l.parts) (point_of l.self)

abbrev pub decreases-body-loop-parts : goal.decreases-body-loop-parts
decreases-body-loop-parts l = length (point_of l.self).left

abbrev pub invariant-arms-loop-arms : goal.invariant-arms-loop-arms
invariant-arms-loop-arms l =
    (depth : ℕ) → length (point_of l.fn.self).left < depth →
    Reaches false (λ fuel. many fuel readers.is_within (readers.arm fuel (readers.block depth)) []) (point_of l.fn.self)
    (λ fuel turns. many turns readers.is_within (readers.arm fuel (readers.block depth)) l.arms) (point_of l.self)

abbrev pub decreases-arms-loop-arms : goal.decreases-arms-loop-arms
decreases-arms-loop-arms l = length (point_of l.self).left
