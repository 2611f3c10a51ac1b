use Rattle.std.proofs.Common.{length, ◌∷◌, [], false}
use Rattle.cmm_grammar.specs.Reading as readers
use Rattle.cmm_parser.specs.inside.Parsing.{point_of}
use Rattle.cmm_parser.proofs.Loops.{Reaches}
use Rattle.cmm_parser.proofs.parser.Parser.listed_from.Given as goal

abbrev pub invariant-loop-self : goal.invariant-loop-self
invariant-loop-self g l =
    Reaches false (λ fuel. readers.more_listed fuel g.T.Listed.begins (g.T.Listed.reads fuel) (l.fn.first ∷ [])) (point_of l.fn.self)
    (λ fuel turns. readers.more_listed turns g.T.Listed.begins (g.T.Listed.reads fuel) l.items) (point_of l.self)

abbrev pub decreases-loop-self : goal.decreases-loop-self
decreases-loop-self g l = length (point_of l.self).left
