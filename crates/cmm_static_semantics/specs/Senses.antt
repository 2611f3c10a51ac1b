-- What names mean, as a function: names of the host, widths of what is assigned to and of constants.
use Rattle.std.specs.Prelude.{ℕ, Bool, true, false, List, bytes_eq, codes, Option, Some, None}
use Rattle.cmm_words.specs.declared.width.Width.{Width}
use Rattle.cmm_words.specs.declared.width.Width.TheVariants.{W64}
use Rattle.cmm_words.specs.declared.constant.Constant.{Constant}
use Rattle.cmm_words.specs.declared.constant.Constant.TheVariants.{Number, Code, Address}
use Rattle.cmm_static_semantics.specs.declared.sense.Host.{Host}
use Rattle.cmm_static_semantics.specs.declared.sense.Host.TheVariants.{Yield, PutByte, GetByte}
use Rattle.cmm_static_semantics.specs.declared.sense.Sense.{Sense}
use Rattle.cmm_static_semantics.specs.declared.sense.Sense.TheVariants.{Variable, Register}

-- what each name means at a place
abbrev pub Senses : Type 0
Senses = List ℕ → Option Sense

-- the procedures of the host, whose names every unit has
abbrev pub host_named : List ℕ → Option Host
host_named name = elim (bytes_eq name (codes "yield")) [
  | true ↦ Some Yield
  | false ↦ elim (bytes_eq name (codes "cmm_putbyte")) [
    | true ↦ Some PutByte
    | false ↦ elim (bytes_eq name (codes "cmm_getbyte")) [ true ↦ Some GetByte | false ↦ None ]
  ]
]

abbrev pub is_there : {A : Type 0} → Option A → Bool
is_there (Some a) = true
is_there None = false

abbrev pub is_host : List ℕ → Bool
is_host name = is_there (host_named name)

-- the width of what is assigned to
abbrev pub target_width : Option Sense → Option Width
target_width (Some (Variable number width)) = width
target_width (Some (Register number width)) = width
target_width _ = None

-- an address is a word of 64 bits
abbrev pub constant_width : Constant → Width
constant_width (Number word width) = width
constant_width (Code proc plus) = W64
constant_width (Address label plus) = W64
