-- Each call takes a token first, or is of a function of a lower rank.
use Rattle.std.proofs.Common.{◌+◌, ◌*◌, length, true}
use Rattle.cmm_grammar.specs.Reading.{listed, more_listed}
use Rattle.cmm_grammar.specs.ExpressionReading as readers
use Rattle.cmm_parser.specs.inside.Parsing.{point_of}
use Rattle.cmm_parser.proofs.Loops.{Reaches}
use Rattle.cmm_parser.proofs.ExpressionSteps.{climbing}
use Rattle.cmm_parser.proofs.parser.Parser.+expression.Given as goal

abbrev pub decreases-bracketed : goal.decreases-bracketed
decreases-bracketed l = 4 * length (point_of l.self.now).left

abbrev pub decreases-memory : goal.decreases-memory
decreases-memory l = 4 * length (point_of l.self.now).left

abbrev pub decreases-name_or_memory : goal.decreases-name_or_memory
decreases-name_or_memory l = 4 * length (point_of l.self.now).left

abbrev pub decreases-named : goal.decreases-named
decreases-named l = 4 * length (point_of l.self.now).left

abbrev pub decreases-operand : goal.decreases-operand
decreases-operand l = 4 * length (point_of l.self.now).left + 2

abbrev pub decreases-operands : goal.decreases-operands
decreases-operands l = 4 * length (point_of l.self.now).left + 3

abbrev pub decreases-prefix : goal.decreases-prefix
decreases-prefix l = 4 * length (point_of l.self.now).left

abbrev pub decreases-unary : goal.decreases-unary
decreases-unary l = 4 * length (point_of l.self.now).left + 1

abbrev pub invariant-operand-loop-operator : goal.invariant-operand-loop-operator
invariant-operand-loop-operator l =
    Reaches true (λ fuel. readers.operand fuel l.fn.level) (point_of l.fn.self) (climbing l.fn.level l.left) (point_of l.self)

abbrev pub decreases-operand-loop-operator : goal.decreases-operand-loop-operator
decreases-operand-loop-operator l = length (point_of l.self).left

abbrev pub invariant-operands-loop-self : goal.invariant-operands-loop-self
invariant-operands-loop-self l =
    Reaches true (λ fuel. listed fuel readers.begins_expression (readers.operand fuel 0)) (point_of l.fn.self)
    (λ fuel turns. more_listed turns readers.begins_expression (readers.operand fuel 0) l.operands) (point_of l.self)

abbrev pub decreases-operands-loop-self : goal.decreases-operands-loop-self
decreases-operands-loop-self l = length (point_of l.self).left
