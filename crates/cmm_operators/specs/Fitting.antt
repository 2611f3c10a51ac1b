-- What stands for values fits their widths, as the operators ask.
use Rattle.std.specs.Prelude.{Option, Some, None}
use Rattle.cmm_words.specs.declared.width.Width.{Width}
use Rattle.cmm_words.specs.Widths.{IsWord}
use Rattle.cmm_static_semantics.specs.declared.known.Known.{Known}
use Rattle.cmm_static_semantics.specs.declared.known.Known.TheVariants.{Number, Symbol, Sum, Nothing}
use Rattle.cmm_static_semantics.specs.declared.judged.Bits.{Bits}
use Rattle.cmm_static_semantics.specs.declared.judged.Typed.{Typed}
use Rattle.cmm_static_semantics.specs.declared.judged.Typed.TheVariants as typed
use Rattle.cmm_static_semantics.specs.declared.judged.Operand.{Operand}

-- a number is a word of this width
abbrev pub IsKnown : Width → Known → Type 0
IsKnown width (Number word) = IsWord width word
IsKnown width (Symbol c) = Unit {0}
IsKnown width (Sum c) = Unit {0}
IsKnown width Nothing = Unit {0}

-- ---- what is judged, by what may stand for a word of a width

abbrev pub FitsIf : {E : Type 0} → (E → Type 0) → Option E → Type 0
FitsIf fits (Some value) = fits value
FitsIf fits None = Unit {0}

abbrev pub BitsFit : {E : Type 0} → (Width → E → Type 0) → Bits E → Type 0
BitsFit fits x = FitsIf (fits x.width) x.value

abbrev pub TypedFits : {E C : Type 0} → (Width → E → Type 0) → Typed E C → Type 0
TypedFits fits (typed.Bits x) = BitsFit fits x
TypedFits fits (typed.Test c) = Unit {0}

abbrev pub OperandFits : {E C : Type 0} → (Width → E → Type 0) → Operand E C → Type 0
OperandFits fits o = TypedFits fits o.typed
