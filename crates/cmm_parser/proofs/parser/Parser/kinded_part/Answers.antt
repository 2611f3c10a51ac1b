use Rattle.std.proofs.Common.{◌≡◌, ◌∙◌, rules, [], ◌∷◌, Some}
use Rattle.cmm_grammar.specs.TargetReading.{assignment}
use Rattle.cmm_grammar.specs.ProcedureReading.{variables}
use Rattle.cmm_grammar.specs.StatementReading.{of_local}
use Rattle.cmm_parser.proofs.Steps.{handed, steps, stops, gives, holds, fails, same_reader}
use Rattle.cmm_ast.specs.declared.procedure.Modifiers.TheVariants as before
use Rattle.cmm_grammar.specs.declared.told_apart.Targets.TheVariants.{Results}
use Rattle.cmm_parser.proofs.parser.Parser.kinded_part.Goals as goal

pub returns-then-is_name : goal.returns-then-is_name
returns-then-is_name c = holds (c.is_name.ensures ∙ c.if-is_name.true) (same_reader (λ width fuel. of_local (variables fuel (before.Kind c.args.kind) width)) c.named_type.ensures c.variables_part.ensures)

pub returns-in_err-form : goal.returns-in_err-form
returns-in_err-form c = let same : c.in_ok-first.first ≡ Results (record { kind = Some c.args.kind; name = c.args.name } ∷ []) = search rules in fails (c.is_name.ensures ∙ c.if-is_name.false) (stops _ (same_reader (λ first fuel. assignment fuel first) same c.in_err-form.ensures) (handed c.from_residual-in_err-form.ensures.1))

pub returns-in_ok-form : goal.returns-in_ok-form
returns-in_ok-form c = let same : c.in_ok-first.first ≡ Results (record { kind = Some c.args.kind; name = c.args.name } ∷ []) = search rules in fails (c.is_name.ensures ∙ c.if-is_name.false) (steps _ (same_reader (λ first fuel. assignment fuel first) same c.in_ok-form.ensures) gives)
