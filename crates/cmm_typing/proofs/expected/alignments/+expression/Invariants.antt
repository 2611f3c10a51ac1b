use Rattle.std.proofs.Common.{◌≡◌, take}
use Rattle.std.specs.Prelude.{flat_map}
use Rattle.cmm_static_semantics.specs.Expressions.{alignment_spots}
use Rattle.cmm_static_semantics.specs.Mentions.{form_alignments}
use Rattle.cmm_typing.specs.inside.Noted.{noted_in}
use Rattle.cmm_typing.proofs.expected.alignments.+expression.Given as goal

abbrev pub invariant-note_operands-loop-operand : goal.invariant-note_operands-loop-operand
invariant-note_operands-loop-operand l =
    l.best ≡ noted_in alignment_spots l.fn.best (flat_map (λ e. form_alignments e.form) (take l.operand-index l.operands))
