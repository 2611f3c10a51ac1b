-- What holds of the code of nodes.
use Rattle.std.specs.Prelude.{◌≡◌, ℕ, ◌+◌, ◌*◌, ◌≤◌, List, slice_get, Some, None}
use Rattle.cmm_graph.specs.Acting.{arm_way}
use Rattle.cmm_graph.specs.declared.node.Arm.{Arm}
use Rattle.cmm_words.specs.Widths.{IsWord}
use Rattle.cmm_words.specs.declared.width.Width.{Width}
use Rattle.cmm_words.specs.declared.width.Width.TheVariants.{W64}
use Rattle.rv_asm.specs.declared.part.Label.{Label}
use Rattle.cmm_select.specs.Operands.{most_for}
use Rattle.cmm_select.specs.Operators.{shifts_of}
use Rattle.cmm_select.specs.Switches.{arm_address, label_of}
use Rattle.cmm_select.specs.declared.operand.Operand.{Operand}
use Rattle.cmm_select.specs.declared.operand.Operand.TheVariants.{Held, Symbol}
use Rattle.cmm_select.specs.declared.source.Source.TheVariants.{Place, Number, Address}

-- an operand may be one of a width: a number is a word of it, and what names a label has 64 bits
abbrev pub MayBe : Width → Operand → Type 0
MayBe w (Held (Place p)) = Unit {0}
MayBe w (Held (Number n)) = IsWord w n
MayBe w (Held (Address o)) = Unit {0}
MayBe w (Symbol l plus) = w ≡ W64

-- An operand is brought by eleven instructions at most. Two operands of a width are brought, any operator is done on them, and the result is
-- put anywhere, by 32 at most.
pub record CodeIsShort : Type 0 where
  pub operand : (a : Operand) → most_for a ≤ 11
  pub binary : (w : Width) (left right : Operand) → MayBe w left → MayBe w right → most_for left + most_for right + 3 * shifts_of w + 10 ≤ 32

-- a switch goes to the label of the node to which it leads by the way of the value
abbrev pub SwitchesLead : Type 0
SwitchesLead =
    (at : ℕ → ℕ) (labels : List Label) (arms : List Arm) (value on : ℕ) →
    arm_address at labels arms value on ≡ elim (slice_get arms (arm_way arms value)) [ Some arm ↦ at (label_of labels arm.to).number | None ↦ on ]
