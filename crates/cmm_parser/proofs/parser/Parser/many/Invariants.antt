use Rattle.std.proofs.Common.{[], length, false}
use Rattle.cmm_grammar.specs.Reading as readers
use Rattle.cmm_parser.specs.inside.Parsing.{point_of}
use Rattle.cmm_parser.proofs.Loops.{Reaches}
use Rattle.cmm_parser.proofs.parser.Parser.many.Given as goal

abbrev pub invariant-loop-items : goal.invariant-loop-items
invariant-loop-items g l =
    Reaches false (λ fuel. readers.many fuel g.T.Listed.begins (g.T.Listed.reads fuel) []) (point_of l.fn.self)
    (λ fuel turns. readers.many turns g.T.Listed.begins (g.T.Listed.reads fuel) l.items) (point_of l.self)

abbrev pub decreases-loop-items : goal.decreases-loop-items
decreases-loop-items g l = length (point_of l.self).left
