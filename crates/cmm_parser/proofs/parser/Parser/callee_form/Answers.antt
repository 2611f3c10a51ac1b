use Rattle.std.proofs.Common.{◌∙◌, rules}
use Rattle.cmm_parser.proofs.Steps.{handed, steps, stops, gives, gives_same, holds, fails}
use Rattle.cmm_parser.proofs.parser.Parser.callee_form.Goals as goal

pub returns-in_err-inner : goal.returns-in_err-inner
returns-in_err-inner c = holds (c.is_symbol.ensures ∙ c.if-is_symbol.true) (stops _ c.in_err-inner.ensures (handed c.from_residual.ensures.1))

pub returns-in_ok-inner : goal.returns-in_ok-inner
returns-in_ok-inner c = holds (c.is_symbol.ensures ∙ c.if-is_symbol.true) (steps _ c.in_ok-inner.ensures gives)

pub returns-in_err-lvalue : goal.returns-in_err-lvalue
returns-in_err-lvalue c = fails (c.is_symbol.ensures ∙ c.if-is_symbol.false) (stops _ c.in_err-lvalue.ensures (handed c.from_residual-in_err-lvalue.ensures.1))

pub returns-in_ok-lvalue : goal.returns-in_ok-lvalue
returns-in_ok-lvalue c = fails (c.is_symbol.ensures ∙ c.if-is_symbol.false) (steps _ c.in_ok-lvalue.ensures (gives_same (search rules)))
