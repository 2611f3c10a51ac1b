-- Counts of the tokens of some parts and arms of a body.
use Rattle.std.specs.Prelude.{ℕ, ◌+◌, List, [], ◌∷◌}
use Rattle.cmm_ast.specs.declared.statement.Arm.{Arm}
use Rattle.cmm_ast.specs.declared.statement.Part.{Part}
use Rattle.cmm_elaboration.specs.Bodies.{part_length}

abbrev pub total : {A : Type 0} → (A → ℕ) → List A → ℕ
total length [] = 0
total length (x ∷ xs) = length x + total length xs

abbrev pub parts_length : List Part → ℕ
parts_length ps = total part_length ps

abbrev pub arm_length : Arm → ℕ
arm_length a = parts_length a.body.parts

abbrev pub arms_length : List Arm → ℕ
arms_length as_ = total arm_length as_
