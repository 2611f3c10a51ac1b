use Rattle.std.proofs.Common.{◌≡◌, take}
use Rattle.std.specs.Prelude.{flat_map}
use Rattle.cmm_static_semantics.specs.Expressions.{host_spots}
use Rattle.cmm_static_semantics.specs.Mentions.{expr_names, values_alone}
use Rattle.cmm_typing.specs.inside.Noted.{noted_in}
use Rattle.cmm_typing.proofs.expected.hosts.+expression.Given as goal

abbrev pub invariant-note_operands-loop-operand : goal.invariant-note_operands-loop-operand
invariant-note_operands-loop-operand g l =
    l.best ≡ noted_in (host_spots (g.N.Names.senses l.names)) l.fn.best (flat_map (expr_names values_alone) (take l.operand-index l.operands))
