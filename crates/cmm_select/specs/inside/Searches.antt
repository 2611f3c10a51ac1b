-- Ranges with their labels, among which a switch looks for its value.
use Rattle.std.specs.Prelude.{ℕ, suc, ◌+◌, ◌^◌, ◌&&◌, nat_le, nat_lt, Bool, true, List, [], ◌∷◌, ◌++◌, length, map}
use Rattle.cmm_graph.specs.declared.node.Arm.{Arm}
use Rattle.cmm_program.specs.declared.statement.Range.{Range}
use Rattle.rv_asm.specs.Parts.{Code, way}
use Rattle.rv_asm.specs.declared.part.Label.{Label}
use Rattle.rv_asm.specs.declared.part.TheConstants.{TABLE_LIMIT}
use Rattle.cmm_abi.specs.declared.registers.TheConstants.{FIRST_SCRATCH}
use Rattle.cmm_effects.specs.Pieces.{Always}
use Rattle.cmm_effects.specs.Ways.{Goes}
use Rattle.cmm_select.specs.Switches.{EndsLow, KeepsFirst, label_of}
use Rattle.cmm_select.specs.declared.span.Span.{Span}
use Rattle.cmm_select.specs.declared.span.TheConstants.{LEAST_JUMPS}

-- a span has a value
abbrev pub is_in : ℕ → Span → Bool
is_in value span = nat_le span.from value && nat_le value span.to

-- where the first span leads that has a value, or on
abbrev pub span_address : (ℕ → ℕ) → List Span → ℕ → ℕ → ℕ
span_address at [] value on = on
span_address at (span ∷ spans) value on = way (is_in value span) (at span.label.number) (span_address at spans value on)

-- the ranges of arms, each with the label of its arm
abbrev pub span_of : Label → Range → Span
span_of label range = record { from = range.from; to = range.to; label = label }

-- the range of a span
abbrev pub range_of : Span → Range
range_of span = record { from = span.from; to = span.to }

abbrev pub spans_in : Label → List Range → List Span
spans_in label ranges = map (span_of label) ranges

abbrev pub spans_of : List Label → List Arm → List Span
spans_of labels [] = []
spans_of labels (arm ∷ arms) = spans_in (label_of labels arm.to) arm.ranges ++ spans_of labels arms

-- none is empty, and each begins behind the last number of the one before it
abbrev pub ascend : ℕ → List Span → Bool
ascend least [] = true
ascend least (span ∷ spans) = nat_le least span.from && (nat_le span.from span.to && ascend (suc span.to) spans)

-- what is one behind the last number of the last one
abbrev pub behind : ℕ → List Span → ℕ
behind least [] = least
behind least (span ∷ spans) = behind (suc span.to) spans

-- the first number of the first one
abbrev pub first_of : List Span → ℕ
first_of [] = 0
first_of (span ∷ spans) = span.from

-- they have one number each, these follow one another, a table of jumps has room for them and is worth its instructions, and one more number follows
abbrev pub is_run : List Span → Bool
is_run spans =
    (nat_le LEAST_JUMPS (length spans) && nat_le (length spans) TABLE_LIMIT)
    && (nat_le (behind 0 spans) (first_of spans + length spans) && nat_lt (behind 0 spans) (2 ^ 64))

-- control goes to the label of a span where that has the value in register 5, and on otherwise
abbrev pub GoesInSpan : ℕ → Span → Code → ℕ → ℕ → Type 0
GoesInSpan most span x from on = Goes 0 most Always (λ s. way (is_in (s.registers FIRST_SCRATCH) span) (x.at span.label.number) on) KeepsFirst x from

-- control goes to the label of the first span that has the value in register 5, and on where none has it
abbrev pub GoesInSpans : ℕ → List Span → Code → ℕ → ℕ → Type 0
GoesInSpans most spans x from on = EndsLow x.map → Goes 0 most Always (λ s. span_address x.at spans (s.registers FIRST_SCRATCH) on) KeepsFirst x from

-- the same, and to another label where none has it
abbrev pub Searches : ℕ → List Span → Label → Code → ℕ → ℕ → Type 0
Searches most spans end x from on = EndsLow x.map → Goes 0 most Always (λ s. span_address x.at spans (s.registers FIRST_SCRATCH) (x.at end.number)) KeepsFirst x from

-- control goes to a label where the value in register 5 is a number or above it, and on otherwise
abbrev pub GoesFrom : ℕ → Label → Code → ℕ → ℕ → Type 0
GoesFrom number label x from on = Goes 0 11 Always (λ s. way (nat_le number (s.registers FIRST_SCRATCH)) (x.at label.number) on) KeepsFirst x from
