use Rattle.std.proofs.Common.{subst, map, string_bytes}
use Rattle.clap.specs.Words.{App, found_of, rows_of}
use Rattle.clap.specs.declared.parser.matches.ArgMatches.{ArgMatches}
use Rattle.cmm_command.specs.Meaning.{run_of, meaning_by, plain}
use Rattle.cmm_command.specs.Reading.{◌>>=◌, Gives, sorted}
use Rattle.cmm_command.proofs.Giving.{goes}
use Rattle.cmm_command.proofs.Simple.{run_simple}
use Rattle.cmm_command.proofs.words.run.Goals as goal

pub sorted-requires : goal.sorted-requires
sorted-requires c = run_simple _ c.in_ok-run.ensures

pub returns : goal.returns
unfolding meaning_by
returns c =
    let words = map string_bytes c.args.words.now in
    subst (λ (app : App). Gives plain (sorted app words >>= run_of) c.run_in.result) c.in_ok-run.ensures
    (goes (λ (m : ArgMatches). rows_of (found_of m)) plain (sorted _ words) run_of c.in_ok-matches.matches c.run_in.result c.in_ok-matches.ensures c.run_in.ensures)
