use Rattle.std.proofs.Common.{ℕ, List, Option, Some, None, Ok, refl}
use Rattle.clap.specs.Words.{first_of, found_of, rows_of}
use Rattle.cmm_command.specs.Reading.{file_as_given, file_name}
use Rattle.cmm_command.proofs.Giving.{goes, reads_along, stops, text, text_if_given}
use Rattle.cmm_command.proofs.Sorting.{first-is}
use Rattle.cmm_command.proofs.sorted.file_if_given.Goals as goal

abbrev given : List ℕ → Option (Option (List ℕ))
given name = Some (Some name)

pub returns-in_err-name-in-Some : goal.returns-in_err-name-in-Some
returns-in_err-name-in-Some c =
    let found = found_of c.args.matches.now in
    let name = c.in-Some.name.now in
    reads_along text_if_given None file_as_given (first_of c.args.id.now (rows_of found)) (Some name) c.from_residual.result
    (first-is found c.args.id.now (Some name) c.in-Some.ensures)
    (stops text text_if_given (file_name name) given c.in_err-name-in-Some.field-0.0 c.from_residual.result c.in_err-name-in-Some.ensures c.from_residual.ensures.1)

pub returns-in_ok-name-in-Some : goal.returns-in_ok-name-in-Some
returns-in_ok-name-in-Some c =
    let found = found_of c.args.matches.now in
    let name = c.in-Some.name.now in
    reads_along text_if_given None file_as_given (first_of c.args.id.now (rows_of found)) (Some name) (Ok (Some c.in_ok-name-in-Some.name))
    (first-is found c.args.id.now (Some name) c.in-Some.ensures)
    (goes text text_if_given (file_name name) given c.in_ok-name-in-Some.name (Ok (Some c.in_ok-name-in-Some.name)) c.in_ok-name-in-Some.ensures refl)

pub returns-in-None : goal.returns-in-None
returns-in-None c =
    let found = found_of c.args.matches.now in
    reads_along text_if_given None file_as_given (first_of c.args.id.now (rows_of found)) None (Ok None)
    (first-is found c.args.id.now None c.in-None.ensures) refl
