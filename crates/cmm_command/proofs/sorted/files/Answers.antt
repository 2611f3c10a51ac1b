use Rattle.std.proofs.Common.{List, ℕ, Some, None, ap}
use Rattle.std.specs.Borrow.{Bor}
use Rattle.std.specs.Option.{option_and_then}
use Rattle.clap.specs.Words.{all_of, found_of, rows_of}
use Rattle.cmm_command.specs.Reading.{file_names}
use Rattle.cmm_command.proofs.Giving.{goes, texts}
use Rattle.cmm_command.proofs.Sorting.{all-are}
use Rattle.cmm_command.proofs.sorted.files.Goals as goal

abbrev behind : Bor (List (Bor (List ℕ))) → List (List ℕ)
behind names = texts names.now

pub returns-in-Some : goal.returns-in-Some
returns-in-Some c =
    let found = found_of c.args.matches.now in
    goes behind texts (all_of c.args.id.now (rows_of found)) file_names c.in-Some.names c.file_names.result
    (all-are found c.args.id.now (Some (behind c.in-Some.names)) c.in-Some.ensures) c.file_names.ensures

pub returns-in-None : goal.returns-in-None
returns-in-None c = ap (option_and_then file_names) (all-are (found_of c.args.matches.now) c.args.id.now None c.in-None.ensures)
