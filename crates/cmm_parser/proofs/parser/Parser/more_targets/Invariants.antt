use Rattle.std.proofs.Common.{length, false}
use Rattle.cmm_grammar.specs.TargetReading as readers
use Rattle.cmm_parser.specs.inside.Parsing.{point_of}
use Rattle.cmm_parser.proofs.Loops.{Reaches}
use Rattle.cmm_parser.proofs.parser.Parser.more_targets.Given as goal

abbrev pub invariant-loop-self : goal.invariant-loop-self
invariant-loop-self l =
    Reaches false (λ fuel. readers.more_targets fuel fuel l.fn.first) (point_of l.fn.self) (λ fuel turns. readers.more_targets turns fuel l.targets) (point_of l.self)

abbrev pub decreases-loop-self : goal.decreases-loop-self
decreases-loop-self l = length (point_of l.self).left
