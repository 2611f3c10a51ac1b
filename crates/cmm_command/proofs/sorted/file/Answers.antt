use Rattle.std.proofs.Common.{Some, None, ap}
use Rattle.std.specs.Option.{option_and_then}
use Rattle.clap.specs.Words.{first_of, found_of, rows_of}
use Rattle.cmm_command.specs.Reading.{file_name}
use Rattle.cmm_command.proofs.Giving.{goes, text}
use Rattle.cmm_command.proofs.Sorting.{first-is}
use Rattle.cmm_command.proofs.sorted.file.Goals as goal

pub returns-in-Some : goal.returns-in-Some
returns-in-Some c =
    let found = found_of c.args.matches.now in
    goes text text (first_of c.args.id.now (rows_of found)) file_name c.in-Some.name c.file_name.result
    (first-is found c.args.id.now (Some c.in-Some.name.now) c.in-Some.ensures) c.file_name.ensures

pub returns-in-None : goal.returns-in-None
returns-in-None c = ap (option_and_then file_name) (first-is (found_of c.args.matches.now) c.args.id.now None c.in-None.ensures)
