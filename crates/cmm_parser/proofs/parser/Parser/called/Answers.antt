use Rattle.std.proofs.Common.{sym, None}
use Rattle.cmm_grammar.specs.CallReading.{call}
use Rattle.cmm_grammar.specs.TargetReading.{called}
use Rattle.cmm_parser.proofs.Steps.{same_reader}
use Rattle.cmm_parser.proofs.parser.Parser.called.Goals as goal

pub returns-in_ok-results-in-Some : goal.returns-in_ok-results-in-Some
returns-in_ok-results-in-Some c =
    same_reader (λ form fuel. called fuel c.args.names c.args.token form) (sym c.in-Some.is)
    (same_reader (λ results fuel. call fuel results None (record { token = c.args.token; form = c.in-Some.form })) c.in_ok-results-in-Some.ensures c.call.ensures)
