use Rattle.std.proofs.Common.{Some, None, ap, codes}
use Rattle.std.specs.Option.{option_and_then}
use Rattle.clap.specs.Words.{first_of, found_of, rows_of}
use Rattle.cmm_command.specs.Numbers.{number_of}
use Rattle.cmm_command.proofs.Giving.{goes, number, text}
use Rattle.cmm_command.proofs.Sorting.{first-is}
use Rattle.cmm_command.proofs.sorted.program_number.Goals as goal

pub returns-in-Some : goal.returns-in-Some
returns-in-Some c =
    let found = found_of c.args.matches.now in
    goes text number (first_of (codes "number") (rows_of found)) number_of c.in-Some.text c.program_number_as.result
    (first-is found (codes "number") (Some c.in-Some.text.now) c.in-Some.ensures) c.program_number_as.ensures

pub returns-in-None : goal.returns-in-None
returns-in-None c = ap (option_and_then number_of) (first-is (found_of c.args.matches.now) (codes "number") None c.in-None.ensures)
