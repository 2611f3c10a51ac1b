use Rattle.std.proofs.Common.{◌++◌, List, Option, map, take}
use Rattle.cmm_words.specs.declared.width.Width.{Width}
use Rattle.cmm_static_semantics.specs.Declarations.{Declared}
use Rattle.cmm_static_semantics.specs.Judging.{if_ok}
use Rattle.cmm_static_semantics.specs.Typing.{type_width}
use Rattle.cmm_check_units.specs.inside.Flat.{widths_by}
use Rattle.cmm_check_units.specs.inside.Linked.{AreFound}
use Rattle.cmm_linkage.specs.Registers.{register_shown}
use Rattle.cmm_unit_scope.specs.Types.{senses_of}
use Rattle.cmm_check_units.proofs.registers.add_registers.Given as goal

abbrev pub invariant-loop-register : goal.invariant-loop-register
invariant-loop-register l = (before : List (Declared (Option Width))) → AreFound l.fn.earlier before →
    AreFound l.earlier (before ++ widths_by (λ t. if_ok (type_width (senses_of l.types) t)) (map register_shown (take l.register-index l.registers)))
