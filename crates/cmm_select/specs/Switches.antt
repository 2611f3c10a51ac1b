-- Which way switches go (C-- Language Specification 2.0, the switch statement).
use Rattle.std.specs.Prelude.{◌≡◌, ℕ, ◌+◌, ◌≤◌, ◌^◌, IsTrue, true, List, [], ◌∷◌, ◌++◌, flat_map, length, replicate, slice_index_or}
use Rattle.std.specs.List.{All}
use Rattle.cmm_abi.specs.declared.registers.TheConstants.{FIRST_SCRATCH}
use Rattle.cmm_graph.specs.declared.node.Arm.{Arm}
use Rattle.cmm_graph.specs.declared.number.NodeId.{NodeId}
use Rattle.cmm_program.specs.Bodies.{is_in_ranges}
use Rattle.cmm_program.specs.InRange.{none_meet}
use Rattle.cmm_program.specs.declared.statement.Range.{Range}
use Rattle.rv_asm.specs.Parts.{Code, way}
use Rattle.rv_asm.specs.declared.part.Label.{Label}
use Rattle.rv_asm.specs.declared.part.Meaning.{Meaning}
use Rattle.rv_asm.specs.declared.part.Meaning.TheVariants.{Inner}
use Rattle.rv_table.specs.Machine.{MemoryMap, State, code_base}
use Rattle.cmm_effects.specs.Changes.{Keeps}
use Rattle.cmm_effects.specs.Pieces.{BeginsQuietly}
use Rattle.cmm_effects.specs.Ways.{Goes}
use Rattle.cmm_select.specs.Operands.{CanBringOperand, operand_at}
use Rattle.cmm_select.specs.declared.operand.Operand.{Operand}

-- the value stays in register 5, and nothing else is changed but registers 6 and 7
pub record KeepsFirst (s t : State) : Type 0 where
  pub first : t.registers FIRST_SCRATCH ≡ s.registers FIRST_SCRATCH
  pub keeps : Keeps s t

-- how many ranges arms have
abbrev pub ranges_in : List Arm → ℕ
ranges_in arms = length (flat_map (λ arm. arm.ranges) arms)

-- no range is empty, and no two meet
pub record AreApart (ranges : List Range) : Type 0 where
  pub some : All (λ range. range.from ≤ range.to) ranges
  pub apart : IsTrue (none_meet ranges)

-- the label of a node
abbrev pub label_of : List Label → NodeId → Label
label_of labels n = slice_index_or labels n.number (record { number = 0 })

-- where the first arm leads that is for a value, or on
abbrev pub arm_address : (ℕ → ℕ) → List Label → List Arm → ℕ → ℕ → ℕ
arm_address at labels [] value on = on
arm_address at labels (arm ∷ arms) value on = way (is_in_ranges value arm.ranges) (at (label_of labels arm.to).number) (arm_address at labels arms value on)

-- the code ends below 2^32, so that sums of its addresses with small numbers are what they are as whole numbers
abbrev pub EndsLow : MemoryMap → Type 0
EndsLow m = code_base + length m.code ≤ 2 ^ 32

-- labels were made, each for a place in the code that it has
pub record MakesInner (most : ℕ) (old new : List Meaning) : Type 0 where
  pub count : ℕ
  pub few : count ≤ most
  pub is : new ≡ old ++ replicate count (Inner true)

-- Control goes where an arm leads that is for an operand, and on where there is none; nothing is changed but scratch registers. Of all code the first
-- instruction asks for nothing but input, and in code that ends low control goes so.
pub record Switches (most : ℕ) (a : Operand) (labels : List Label) (arms : List Arm) (x : Code) (from on : ℕ) : Type 0 where
  pub quiet : BeginsQuietly x from
  pub goes : EndsLow x.map → Goes 1 most (CanBringOperand a) (λ s. arm_address x.at labels arms (operand_at x.at a s) on) Keeps x from
