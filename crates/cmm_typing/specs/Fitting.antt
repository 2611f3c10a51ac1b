-- What is known of values fits their widths, and what is required of names.
use Rattle.std.specs.Prelude.{ℕ, List, Option, Some}
use Rattle.cmm_words.specs.Constants.{Fits}
use Rattle.cmm_static_semantics.specs.declared.known.Known.{Known}
use Rattle.cmm_static_semantics.specs.declared.judged.Bits.{Bits}
use Rattle.cmm_static_semantics.specs.declared.judged.Typed.{Typed}
use Rattle.cmm_static_semantics.specs.declared.sense.Sense.{Sense}
use Rattle.cmm_static_semantics.specs.declared.sense.Sense.TheVariants.{Value}
use Rattle.cmm_static_semantics.specs.Senses.{Senses}
use Rattle.cmm_operators.specs.Fitting.{IsKnown, BitsFit, TypedFits}

abbrev pub FitsBits : Bits Known → Type 0
FitsBits x = BitsFit IsKnown x

abbrev pub FitsTyped : Typed Known (Unit {0}) → Type 0
FitsTyped t = TypedFits IsKnown t

-- ---- what is required of names

-- each constant that names mean is a word
abbrev pub FitsSense : Option Sense → Type 0
FitsSense (Some (Value c)) = Fits c
FitsSense _ = Unit {0}

abbrev pub AreWords : Senses → Type 0
AreWords names = (name : List ℕ) → FitsSense (names name)
