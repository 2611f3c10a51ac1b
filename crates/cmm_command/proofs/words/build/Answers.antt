use Rattle.std.proofs.Common.{subst, map, string_bytes}
use Rattle.clap.specs.Words.{App, found_of, rows_of}
use Rattle.clap.specs.declared.parser.matches.ArgMatches.{ArgMatches}
use Rattle.cmm_command.specs.Meaning.{build_of, meaning_by, plain}
use Rattle.cmm_command.specs.Reading.{◌>>=◌, Gives, sorted}
use Rattle.cmm_command.proofs.Giving.{goes}
use Rattle.cmm_command.proofs.Simple.{build_simple}
use Rattle.cmm_command.proofs.words.build.Goals as goal

pub sorted-requires : goal.sorted-requires
sorted-requires c = build_simple _ c.in_ok-build.ensures

pub returns : goal.returns
unfolding meaning_by
returns c =
    let words = map string_bytes c.args.words.now in
    subst (λ (app : App). Gives plain (sorted app words >>= build_of) c.build_in.result) c.in_ok-build.ensures
    (goes (λ (m : ArgMatches). rows_of (found_of m)) plain (sorted _ words) build_of c.in_ok-matches.matches c.build_in.result c.in_ok-matches.ensures c.build_in.ensures)
