use Rattle.std.proofs.Common.{◌∙◌}
use Rattle.cmm_grammar.specs.ProcedureReading.{variables}
use Rattle.cmm_grammar.specs.StatementReading.{of_local}
use Rattle.cmm_parser.proofs.Steps.{handed, steps, stops, gives, holds, fails, same_reader}
use Rattle.cmm_ast.specs.declared.procedure.Modifiers.TheVariants as before
use Rattle.cmm_parser.proofs.parser.Parser.name_part.Goals as goal

pub returns-in_err-name : goal.returns-in_err-name
returns-in_err-name c = stops _ c.in_err-name.ensures (handed c.from_residual.ensures.1)

pub returns-then-is_name : goal.returns-then-is_name
returns-then-is_name c = steps _ c.in_ok-name.ensures (holds (c.is_name.ensures ∙ c.if-is_name.true) (same_reader (λ width fuel. of_local (variables fuel before.Nothing width)) c.named_type.ensures c.variables_part.ensures))

pub returns-in_err-form : goal.returns-in_err-form
returns-in_err-form c = steps _ c.in_ok-name.ensures (fails (c.is_name.ensures ∙ c.if-is_name.false) (stops _ c.in_err-form.ensures (handed c.from_residual-in_err-form.ensures.1)))

pub returns-in_ok-form : goal.returns-in_ok-form
returns-in_ok-form c = steps _ c.in_ok-name.ensures (fails (c.is_name.ensures ∙ c.if-is_name.false) (steps _ c.in_ok-form.ensures (gives)))
