use Rattle.std.proofs.Common.{◌≡◌, ◌++◌, map, take}
use Rattle.std.specs.Prelude.{flat_map}
use Rattle.cmm_static_semantics.specs.Mentions.{values_alone, expr_names}
use Rattle.cmm_symbols.specs.Numbering.{numbering}
use Rattle.cmm_symbols.specs.Shown.{shown}
use Rattle.cmm_unit_scope.specs.inside.Numbered.{numbers_in}
use Rattle.cmm_unit_scope.proofs.mentioned.+expression.Given as goal

abbrev pub invariant-add_operands-loop-operand : goal.invariant-add_operands-loop-operand
invariant-add_operands-loop-operand l = l.to ≡ l.fn.to ++ numbers_in (numbering (map shown l.table.declared)) (flat_map (expr_names values_alone) (take l.operand-index l.operands))
