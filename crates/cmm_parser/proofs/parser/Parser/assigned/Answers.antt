use Rattle.std.proofs.Common.{sym}
use Rattle.cmm_grammar.specs.TargetReading.{assigned}
use Rattle.cmm_parser.proofs.Steps.{same_reader}
use Rattle.cmm_parser.proofs.parser.Parser.assigned.Goals as goal

pub returns-in-Names : goal.returns-in-Names
returns-in-Names c = same_reader (λ targets fuel. assigned fuel targets) (sym c.in-Names.is) (c.after_names.ensures)

pub returns-in-Lvalues : goal.returns-in-Lvalues
returns-in-Lvalues c = same_reader (λ targets fuel. assigned fuel targets) (sym c.in-Lvalues.is) (c.assign.ensures)

pub returns-in-Results : goal.returns-in-Results
returns-in-Results c = same_reader (λ targets fuel. assigned fuel targets) (sym c.in-Results.is) (c.call_after.ensures)
