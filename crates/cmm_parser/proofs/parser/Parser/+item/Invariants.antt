-- Each call takes a token first, or is of a function of a lower rank.
use Rattle.std.proofs.Common.{◌+◌, ◌*◌, [], length, false}
use Rattle.cmm_lexer.specs.declared.symbol.Symbol.TheVariants.{CloseBrace}
use Rattle.cmm_grammar.specs.Reading.{many}
use Rattle.cmm_grammar.specs.StatementReading.{block}
use Rattle.cmm_grammar.specs.DeclarationReading.{is_other}
use Rattle.cmm_grammar.specs.UnitReading.{item}
use Rattle.cmm_parser.specs.inside.Parsing.{point_of}
use Rattle.cmm_parser.proofs.Loops.{Reaches}
use Rattle.cmm_parser.proofs.parser.Parser.+item.Given as goal

abbrev pub decreases-span : goal.decreases-span
decreases-span l = 3 * length (point_of l.self.now).left

abbrev pub decreases-in_braces : goal.decreases-in_braces
decreases-in_braces l = 3 * length (point_of l.self.now).left

abbrev pub decreases-item : goal.decreases-item
decreases-item l = 3 * length (point_of l.self.now).left + 1

abbrev pub decreases-items : goal.decreases-items
decreases-items l = 3 * length (point_of l.self.now).left + 2

abbrev pub invariant-items-loop-items : goal.invariant-items-loop-items
invariant-items-loop-items l =
    Reaches false (λ fuel. many fuel (is_other CloseBrace) (item fuel block) []) (point_of l.fn.self)
    (λ fuel turns. many turns (is_other CloseBrace) (item fuel block) l.items) (point_of l.self)

abbrev pub decreases-items-loop-items : goal.decreases-items-loop-items
decreases-items-loop-items l = length (point_of l.self).left
