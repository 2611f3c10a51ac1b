use Rattle.std.proofs.Common.{◌≡◌, ◌∙◌, rules, [], ◌∷◌, None}
use Rattle.cmm_grammar.specs.Reading.{◌>>=◌}
use Rattle.cmm_grammar.specs.ExpressionReading.{whole_memory}
use Rattle.cmm_grammar.specs.CallReading.{call}
use Rattle.cmm_grammar.specs.TargetReading.{assignment}
use Rattle.cmm_grammar.specs.StatementReading.{memory_stmt}
use Rattle.cmm_parser.proofs.Steps.{holds, fails, leaves, same_reader}
use Rattle.cmm_ast.specs.declared.statement.CalleeForm.TheVariants as callees
use Rattle.cmm_grammar.specs.declared.told_apart.Targets.TheVariants.{Names}
use Rattle.cmm_parser.proofs.parser.Parser.name_stmt.Goals as goal

pub returns-then-is_symbol : goal.returns-then-is_symbol
returns-then-is_symbol c = leaves (c.accept.ensures.kept c.if-accept.false) (holds (c.is_symbol.ensures ∙ c.if-is_symbol.true) (same_reader (λ width fuel. whole_memory fuel width >>= λ m. memory_stmt fuel m) c.named_type.ensures c.memory_first.ensures))

pub returns-then-is_symbol-2 : goal.returns-then-is_symbol-2
returns-then-is_symbol-2 c = leaves (c.accept.ensures.kept c.if-accept.false) (fails (c.is_symbol.ensures ∙ c.if-is_symbol.false) (holds (c.is_symbol-else-is_symbol.ensures ∙ c.if-is_symbol-2.true) (same_reader (λ results fuel. call fuel results None (record { token = c.args.name.token; form = callees.Name c.args.name })) c.new.ensures c.call.ensures)))

pub returns-in_ok-first : goal.returns-in_ok-first
returns-in_ok-first c = let same : c.in_ok-first.first ≡ Names (c.args.name ∷ []) = search rules in leaves (c.accept.ensures.kept c.if-accept.false) (fails (c.is_symbol.ensures ∙ c.if-is_symbol.false) (fails (c.is_symbol-else-is_symbol.ensures ∙ c.if-is_symbol-2.false) (same_reader (λ first fuel. assignment fuel first) same c.assignment.ensures)))
