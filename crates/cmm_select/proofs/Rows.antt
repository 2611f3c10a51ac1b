-- Worked rows: the code of operators, comparisons and an assignment, run.
use Rattle.std.proofs.Common.{◌≡◌, ℕ, ◌+◌, ◌*◌, List, [], ◌∷◌, refl, true, false, lit<, Option, Some, None}
use Rattle.cmm_chain.specs.declared.frame.Location.TheVariants.{Slot, Saved}
use Rattle.cmm_words.specs.Words.{holds, value2}
use Rattle.cmm_words.specs.declared.operators.Cmp.TheVariants as cmp
use Rattle.cmm_words.specs.declared.operators.Op2.TheVariants as op
use Rattle.cmm_words.specs.declared.width.Width.TheVariants.{W8, W32, W64}
use Rattle.rv_table.specs.Machine.{MemoryMap, State, steps}
use Rattle.rv_table.specs.Registers.{with_register}
use Rattle.cmm_effects.specs.Changes.{read_at}
use Rattle.cmm_select.specs.Assignments.{CanAssignBoth}
use Rattle.cmm_select.specs.Operators.{HaveWords}
use Rattle.cmm_select.specs.Sources.{brought}
use Rattle.cmm_select.specs.declared.destination.Destination.TheVariants as destination
use Rattle.cmm_select.specs.declared.operand.Operand.TheVariants.{Held, Symbol}
use Rattle.cmm_graph.specs.declared.node.Arm.{Arm}
use Rattle.rv_asm.specs.declared.part.Label.{Label}
use Rattle.cmm_select.specs.Memory.{accesses}
use Rattle.cmm_select.specs.Operands.{most_for, operand_at}
use Rattle.cmm_select.specs.Switches.{arm_address}
use Rattle.cmm_select.specs.declared.source.Source.TheVariants.{Place, Number, Address}
use Rattle.cmm_select.specs.inside.Rotations.{left_by, right_by}

abbrev running : List ℕ → MemoryMap
running code = record { code = code; data_length = 0; region_length = 0x2000 }

abbrev on_words : ℕ → ℕ → State
on_words a b = record { registers = with_register (with_register (λ r. 0) 5 a) 7 b; pc = 0x10000; memory = λ k. 0 }

abbrev result : Option State → Option ℕ
result (Some t) = Some (t.registers 5)
result None = None

-- sub x5, x5, x7; andi x5, x5, 255
abbrev difference : MemoryMap
difference = running (0xb3 ∷ 0x82 ∷ 0x72 ∷ 0x40 ∷ 0x93 ∷ 0xf2 ∷ 0xf2 ∷ 0x0f ∷ [])

words_are_given : HaveWords W8 difference (on_words 5 7)
words_are_given = (lit< tt, lit< tt)

difference_is_cut : (result (steps difference 2 (on_words 5 7)) ≡ Some 254) × (value2 op.Sub W8 5 7 ≡ Some 254)
difference_is_cut = (refl, refl)

-- sltu x5, x5, x7; xori x5, x5, 1
abbrev not_below : MemoryMap
not_below = running (0xb3 ∷ 0xb2 ∷ 0x72 ∷ 0x00 ∷ 0x93 ∷ 0xc2 ∷ 0x12 ∷ 0x00 ∷ [])

comparison_is_told : (result (steps not_below 2 (on_words 9 7)) ≡ Some 1) × (holds cmp.Geu W64 9 7 ≡ true)
comparison_is_told = (refl, refl)

comparison_fails : (result (steps not_below 2 (on_words 5 7)) ≡ Some 0) × (holds cmp.Geu W64 5 7 ≡ false)
comparison_fails = (refl, refl)

-- ---- a difference at 8 bits, of what register 9 has and 7, in a slot of the frame at 0x60001000

-- addi x5, x9, -7; andi x5, x5, 255; sd x5, 8(x2)
abbrev assignment : MemoryMap
assignment = running (0x93 ∷ 0x82 ∷ 0x94 ∷ 0xff ∷ 0x93 ∷ 0xf2 ∷ 0xf2 ∷ 0x0f ∷ 0x23 ∷ 0x34 ∷ 0x51 ∷ 0x00 ∷ [])

abbrev before : State
before = record { registers = with_register (with_register (λ r. 0) 2 0x60001000) 9 5; pc = 0x10000; memory = λ k. 0 }

abbrev in_slot : Option State → Option ℕ
in_slot (Some t) = Some (read_at (Slot 8) t)
in_slot None = None

may_be_assigned : CanAssignBoth (λ l. 0) W8 (Held (Place (Saved 9))) (Held (Number 7)) (destination.Place (Slot 8)) assignment before
may_be_assigned = record { brings = record { brings_left = tt; brings_right = tt }; words = (lit< tt, lit< tt); reaches = (lit< tt, refl) }

difference_is_assigned : in_slot (steps assignment 3 before) ≡ Some 254
difference_is_assigned = refl

operands_are_brought : (brought (Place (Saved 9)) before ≡ 5) × (brought (Number 7) before ≡ 7) × (brought (Address 16) before ≡ 0x60001010)
operands_are_brought = (refl, refl, refl)

-- ---- rotations by a number

rotation_past_the_width : (left_by op.Rotr W32 40 ≡ 24) × (right_by op.Rotr W32 40 ≡ 8)
rotation_past_the_width = (refl, refl)

rotation_by_the_width : (left_by op.Rotl W64 64 ≡ 0) × (right_by op.Rotl W64 64 ≡ 0)
rotation_by_the_width = (refl, refl)

-- ---- operands that name a label, accesses, and the arms of a switch

symbol_is_so_many_bytes_on : operand_at (λ l. 0x40000000) (Symbol (record { number = 3 }) 16) before ≡ 0x40000010
symbol_is_so_many_bytes_on = refl

symbol_goes_round : operand_at (λ l. 0x40000000) (Symbol (record { number = 3 }) 0xfffffffffffffff8) before ≡ 0x3ffffff8
symbol_goes_round = refl

short_number : most_for (Held (Number 0x10000000000)) ≡ 4
short_number = refl

long_number : most_for (Held (Number 0x10000000001)) ≡ 8
long_number = refl

four_accesses : accesses W64 6 ≡ 4
four_accesses = refl

one_access : accesses W64 16 ≡ 1
one_access = refl

abbrev two_arms : List Arm
two_arms = record { ranges = record { from = 1; to = 5 } ∷ []; to = record { number = 1 } } ∷ record { ranges = record { from = 7; to = 7 } ∷ []; to = record { number = 0 } } ∷ []

abbrev two_labels : List Label
two_labels = record { number = 8 } ∷ record { number = 9 } ∷ []

first_arm_is_taken : arm_address (λ l. 0x10000 + 4 * l) two_labels two_arms 5 0x10400 ≡ 0x10024
first_arm_is_taken = refl

second_arm_is_taken : arm_address (λ l. 0x10000 + 4 * l) two_labels two_arms 7 0x10400 ≡ 0x10020
second_arm_is_taken = refl

no_arm_is_taken : arm_address (λ l. 0x10000 + 4 * l) two_labels two_arms 6 0x10400 ≡ 0x10400
no_arm_is_taken = refl
