use Rattle.std.proofs.Common.{◌≡◌, ◌∙◌, rules}
use Rattle.cmm_grammar.specs.CallReading.{call_after}
use Rattle.cmm_grammar.specs.TargetReading.{results_of}
use Rattle.cmm_parser.proofs.Steps.{holds, same_reader}
use Rattle.cmm_parser.proofs.parser.Parser.after_names.Goals as goal

pub returns-in_ok-results : goal.returns-in_ok-results
returns-in_ok-results c = let same : c.in_ok-results.results ≡ results_of c.args.names = search rules in holds (c.is_word.ensures ∙ c.if-is_word.true) (same_reader (λ results fuel. call_after fuel results) same c.call_after.ensures)
