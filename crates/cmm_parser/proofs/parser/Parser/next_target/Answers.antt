use Rattle.std.proofs.Common.{rules, sym, ap}
use Rattle.cmm_grammar.specs.TargetReading.{next_target}
use Rattle.cmm_parser.proofs.Steps.{steps, stops, gives_same, same_reader}
use Rattle.cmm_grammar.specs.declared.told_apart.Targets.TheVariants.{Lvalues, Results}
use Rattle.cmm_parser.proofs.parser.Parser.next_target.Goals as goal

pub returns-in_err-lvalue-in-Lvalues : goal.returns-in_err-lvalue-in-Lvalues
returns-in_err-lvalue-in-Lvalues c = same_reader (λ targets fuel. next_target fuel targets) (sym c.in-Lvalues.is) (stops _ c.in_err-lvalue-in-Lvalues.ensures (search rules))

pub returns-in-Names : goal.returns-in-Names
returns-in-Names c = same_reader (λ targets fuel. next_target fuel targets) (sym c.in-Names.is) (c.target_after_names.ensures)

pub returns-in_ok-push-in-Lvalues : goal.returns-in_ok-push-in-Lvalues
returns-in_ok-push-in-Lvalues c = same_reader (λ targets fuel. next_target fuel targets) (sym c.in-Lvalues.is) (steps _ c.in_ok-lvalue-in-Lvalues.ensures (gives_same (ap (λ to. Lvalues to) c.in_ok-push-in-Lvalues.ensures.ok)))

pub returns-in_ok-push-in-Results : goal.returns-in_ok-push-in-Results
returns-in_ok-push-in-Results c = same_reader (λ targets fuel. next_target fuel targets) (sym c.in-Results.is) (steps _ c.in_ok-kinded-in-Results.ensures (gives_same (ap (λ results. Results results) c.in_ok-push-in-Results.ensures.ok)))
