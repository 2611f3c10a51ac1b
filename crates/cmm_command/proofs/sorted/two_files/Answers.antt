use Rattle.std.proofs.Common.{Some, List, ℕ, map, string_bytes, codes}
use Rattle.std.specs.Borrow.{Bor}
use Rattle.clap.specs.Words.{Row, app_of, found_of, rows_of}
use Rattle.clap.specs.declared.parser.matches.ArgMatches.{ArgMatches}
use Rattle.cmm_command.specs.Reading.{◌>>=◌, file_of, sorted}
use Rattle.cmm_command.proofs.Giving.{goes}
use Rattle.cmm_command.proofs.sorted.two_files.Goals as goal

pub returns : goal.returns
returns c =
    goes (λ (m : ArgMatches). rows_of (found_of m)) (λ (files : Bor (List ℕ) × Bor (List ℕ)). (files.0.now, files.1.now)) (sorted (app_of c.args.command) (map string_bytes c.args.words.now))
    (λ (rows : List Row). file_of (codes "image") rows >>= λ image. file_of c.args.other.now rows >>= λ file. Some (image, file)) c.in_ok-matches.matches c.image_and.result c.in_ok-matches.ensures c.image_and.ensures
