use Rattle.std.proofs.Common.{rules}
use Rattle.cmm_grammar.specs.PartReading.{is_width}
use Rattle.cmm_parser.specs.inside.Parsing.{point_of, Stays}
use Rattle.cmm_parser.proofs.Steps.{leaves}
use Rattle.cmm_parser.proofs.CallSteps.{takes_bits}
use Rattle.cmm_parser.proofs.parser.Parser.word_part.Goals as goal

pub returns-in-Some : goal.returns-in-Some
returns-in-Some c = takes_bits c.in-Some.ensures c.width_part.ensures

pub returns-in-None : goal.returns-in-None
returns-in-None c = let stays : Stays is_width (point_of c.args.self.now) (point_of c.bits.new.self) = search rules in leaves stays c.other_part.ensures
