-- Bits of one width as bits of another: which are allowed, and what stands for them.
use Rattle.std.specs.Prelude.{◌≡◌, Bool, true, nat_le}
use Rattle.cmm_words.specs.declared.width.Width.{Width}
use Rattle.cmm_words.specs.Widths.{bits}
use Rattle.cmm_static_semantics.specs.Algebras.{Algebra}
use Rattle.cmm_operators.specs.declared.converting.Conversion.{Conversion}
use Rattle.cmm_operators.specs.declared.converting.Conversion.TheVariants.{SignExtend, ZeroExtend, LowBits}

abbrev pub allowed : Conversion → Width → Width → Bool
allowed SignExtend from to = nat_le (bits from) (bits to)
allowed ZeroExtend from to = nat_le (bits from) (bits to)
allowed LowBits from to = nat_le (bits to) (bits from)

abbrev pub Allowed : Conversion → Width → Width → Type 0
Allowed conversion from to = allowed conversion from to ≡ true

abbrev pub made : {E C : Type 0} → Algebra E C → Conversion → Width → Width → E → E
made algebra SignExtend = algebra.sign_extend
made algebra ZeroExtend = algebra.zero_extend
made algebra LowBits = algebra.low_part
