use Rattle.std.proofs.Common.{◌≡◌, take}
use Rattle.std.specs.Prelude.{flat_map}
use Rattle.cmm_static_semantics.specs.LongNames.{of_expr}
use Rattle.cmm_symbols.specs.Noted.{long_of}
use Rattle.cmm_symbols.proofs.long_expression.+expression.Given as goal

abbrev pub invariant-note_operands-loop-operand : goal.invariant-note_operands-loop-operand
invariant-note_operands-loop-operand l = l.best ≡ long_of l.fn.best (flat_map of_expr (take l.operand-index l.operands))
