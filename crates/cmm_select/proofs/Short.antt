-- Counts of instructions, and where switches lead.
use Rattle.std.proofs.Common.{◌≡◌, ℕ, suc, ◌+◌, ◌*◌, ◌<◌, ◌≤◌, ◌^◌, refl, arith, List, [], ◌∷◌, true, false, Some, None, Option}
use Rattle.std.specs.Prelude.{Bool, slice_get}
use Rattle.cmm_graph.specs.Acting.{arm_way}
use Rattle.cmm_graph.specs.declared.node.Arm.{Arm}
use Rattle.cmm_program.specs.Bodies.{is_in_ranges}
use Rattle.cmm_words.specs.declared.width.Width.{Width}
use Rattle.cmm_words.specs.declared.width.Width.TheVariants.{W8, W16, W32, W64}
use Rattle.rv_asm.specs.Parts.{way}
use Rattle.rv_asm.specs.declared.part.Label.{Label}
use Rattle.cmm_select.proofs.Constants.{eight_at_most, four_for}
use Rattle.cmm_select.specs.Laws.{CodeIsShort, MayBe, SwitchesLead}
use Rattle.cmm_select.specs.Operands.{most_for, most_for_number}
use Rattle.cmm_select.specs.Operators.{shifts_of}
use Rattle.cmm_select.specs.Switches.{arm_address, label_of}
use Rattle.cmm_select.specs.declared.operand.Operand.{Operand}
use Rattle.cmm_select.specs.declared.operand.Operand.TheVariants.{Held, Symbol}
use Rattle.cmm_select.specs.declared.source.Source.TheVariants.{Place, Number, Address}

eleven : (a : Operand) → most_for a ≤ 11
eleven (Held (Place p)) = omega arith
eleven (Held (Number n)) = omega (arith, eight_at_most n)
eleven (Held (Address o)) = omega arith
eleven (Symbol l plus) = omega arith

-- a number below 2 ^ 32 takes four instructions at most
small : (n : ℕ) → n < 2 ^ 32 → most_for_number n ≤ 4
small n h = let e : 4 ≡ most_for_number n = four_for n (omega arith) in omega (arith, e)

four : (w : Width) (a : Operand) → ((n : ℕ) → MayBe w (Held (Number n)) → n < 2 ^ 32) → (w ≡ W64 → ⊥) → MayBe w a → most_for a ≤ 4
four w (Held (Place p)) below other may = omega arith
four w (Held (Number n)) below other may = small n (below n may)
four w (Held (Address o)) below other may = omega arith
four w (Symbol l plus) below other may = absurd (other may)

add_up : (a b k : ℕ) → a ≤ 4 → b ≤ 4 → k ≤ 2 → a + b + 3 * k + 10 ≤ 32
add_up a b k h g f = omega arith

pub code_is_short : CodeIsShort
code_is_short = record { operand = eleven; binary = short }
  where
    short : (w : Width) (left right : Operand) → MayBe w left → MayBe w right → most_for left + most_for right + 3 * shifts_of w + 10 ≤ 32
    short W8 left right h g =
        add_up (most_for left) (most_for right) 2 (four W8 left (λ n may. omega arith) (λ e. absurd (cc)) h) (four W8 right (λ n may. omega arith) (λ e. absurd (cc)) g) (omega arith)
    short W16 left right h g =
        add_up (most_for left) (most_for right) 2 (four W16 left (λ n may. omega arith) (λ e. absurd (cc)) h) (four W16 right (λ n may. omega arith) (λ e. absurd (cc)) g) (omega arith)
    short W32 left right h g =
        add_up (most_for left) (most_for right) 2 (four W32 left (λ n may. may) (λ e. absurd (cc)) h) (four W32 right (λ n may. may) (λ e. absurd (cc)) g) (omega arith)
    short W64 left right h g = omega (arith, eleven left, eleven right)

abbrev found : (ℕ → ℕ) → List Label → ℕ → Option Arm → ℕ
found at labels on o = elim o [ Some arm ↦ at (label_of labels arm.to).number | None ↦ on ]

pub switches_lead : SwitchesLead
switches_lead at labels [] value on = refl
switches_lead at labels (arm ∷ arms) value on = by (is_in_ranges value arm.ranges) (switches_lead at labels arms value on)
  where
    by : (b : Bool) → arm_address at labels arms value on ≡ found at labels on (slice_get arms (arm_way arms value)) →
        way b (at (label_of labels arm.to).number) (arm_address at labels arms value on)
        ≡ found at labels on (slice_get (arm ∷ arms) (elim b as (λ _. ℕ) [ true ↦ 0 | false ↦ suc (arm_way arms value) ]))
    by true rest = refl
    by false rest = rest
