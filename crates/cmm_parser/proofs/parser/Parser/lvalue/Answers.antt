use Rattle.std.proofs.Common.{rules}
use Rattle.cmm_grammar.specs.PartReading.{is_width}
use Rattle.cmm_parser.specs.inside.Parsing.{point_of, Stays}
use Rattle.cmm_parser.proofs.Steps.{steps, stops, gives, leaves}
use Rattle.cmm_parser.proofs.CallSteps.{takes_bits}
use Rattle.cmm_parser.proofs.parser.Parser.lvalue.Goals as goal

pub returns-in_err-whole_memory-in-Some : goal.returns-in_err-whole_memory-in-Some
returns-in_err-whole_memory-in-Some c = takes_bits c.in-Some.ensures (stops _ c.in_err-whole_memory-in-Some.ensures (search rules))

pub returns-in_ok-whole_memory-in-Some : goal.returns-in_ok-whole_memory-in-Some
returns-in_ok-whole_memory-in-Some c = takes_bits c.in-Some.ensures (steps _ c.in_ok-whole_memory-in-Some.ensures gives)

pub returns-in_ok-name-in-None : goal.returns-in_ok-name-in-None
returns-in_ok-name-in-None c = let stays : Stays is_width (point_of c.args.self.now) (point_of c.bits.new.self) = search rules in leaves stays (steps _ c.in_ok-name-in-None.ensures c.lvalue_from.ensures)
