use Rattle.std.proofs.Common.{rules}
use Rattle.cmm_grammar.specs.PartReading.{is_width}
use Rattle.cmm_parser.specs.inside.Parsing.{point_of, Stays}
use Rattle.cmm_parser.proofs.Steps.{handed, steps, stops, leaves}
use Rattle.cmm_parser.proofs.CallSteps.{takes_bits}
use Rattle.cmm_parser.proofs.parser.Parser.kind_part.Goals as goal

pub returns-in-Some : goal.returns-in-Some
returns-in-Some c = takes_bits c.in-Some.ensures c.variables_part.ensures

pub returns-in_err-name-in-None : goal.returns-in_err-name-in-None
returns-in_err-name-in-None c = let stays : Stays is_width (point_of c.args.self.now) (point_of c.bits.new.self) = search rules in leaves stays (stops _ c.in_err-name-in-None.ensures (handed c.from_residual.ensures.1))

pub returns-in_ok-name-in-None : goal.returns-in_ok-name-in-None
returns-in_ok-name-in-None c = let stays : Stays is_width (point_of c.args.self.now) (point_of c.bits.new.self) = search rules in leaves stays (steps _ c.in_ok-name-in-None.ensures (c.kinded_part.ensures))
