use Rattle.std.proofs.Common.{subst, map, string_bytes}
use Rattle.clap.specs.Words.{App, found_of, rows_of}
use Rattle.clap.specs.declared.parser.matches.ArgMatches.{ArgMatches}
use Rattle.cmm_command.specs.Meaning.{exec_of, meaning_by, plain}
use Rattle.cmm_command.specs.Reading.{◌>>=◌, Gives, sorted}
use Rattle.cmm_command.proofs.Giving.{goes}
use Rattle.cmm_command.proofs.Simple.{exec_simple}
use Rattle.cmm_command.proofs.words.exec.Goals as goal

pub sorted-requires : goal.sorted-requires
sorted-requires c = exec_simple _ c.in_ok-exec.ensures

pub returns : goal.returns
unfolding meaning_by
returns c =
    let words = map string_bytes c.args.words.now in
    subst (λ (app : App). Gives plain (sorted app words >>= exec_of) c.exec_in.result) c.in_ok-exec.ensures
    (goes (λ (m : ArgMatches). rows_of (found_of m)) plain (sorted _ words) exec_of c.in_ok-matches.matches c.exec_in.result c.in_ok-matches.ensures c.exec_in.ensures)
