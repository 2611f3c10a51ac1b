use Rattle.std.proofs.Common.{◌≡◌, ◌∙◌, rules, [], ◌∷◌, None}
use Rattle.cmm_grammar.specs.CallReading.{call}
use Rattle.cmm_grammar.specs.TargetReading.{assignment}
use Rattle.cmm_parser.proofs.Steps.{holds, fails, same_reader}
use Rattle.cmm_ast.specs.declared.statement.CalleeForm.TheVariants as callees
use Rattle.cmm_ast.specs.declared.statement.Lvalue.TheVariants as lvalues
use Rattle.cmm_grammar.specs.declared.told_apart.Targets.TheVariants.{Lvalues}
use Rattle.cmm_parser.proofs.parser.Parser.memory_stmt.Goals as goal

pub returns-then-is_symbol : goal.returns-then-is_symbol
returns-then-is_symbol c = holds (c.is_symbol.ensures ∙ c.if-is_symbol.true) (same_reader (λ token fuel. call fuel [] None (record { token = token; form = callees.Memory c.args.memory })) c.memory_token-token.ensures (same_reader (λ results fuel. call fuel results None (record { token = c.memory_token-token.result; form = callees.Memory c.args.memory })) c.new.ensures c.call.ensures))

pub returns-in_ok-first : goal.returns-in_ok-first
returns-in_ok-first c = let same : c.in_ok-first.first ≡ Lvalues (lvalues.Memory c.args.memory ∷ []) = search rules in fails (c.is_symbol.ensures ∙ c.if-is_symbol.false) (same_reader (λ first fuel. assignment fuel first) same c.assignment.ensures)
