-- Places of variables while their activation is suspended: one field, its number with what follows it.
use Rattle.std.specs.Prelude.{ℕ, zero, suc, ◌+◌, ◌<◌, ◌^◌, nat_lt, nat_le, Bool, true, false, IsTrue, List, [], ◌∷◌, length, drop, Option, Ok, Err}
use Rattle.byteorder.specs.Endian.{little_number}
use Rattle.cmm_abi.specs.Registers.{is_callee_saves}
use Rattle.cmm_rules.specs.declared.rule.Rule.TheVariants.{ImageIsCut, BadImageField, ImageOutOfRange}
use Rattle.cmm_image.specs.declared.rows.VariablePlace.{VariablePlace}
use Rattle.cmm_image.specs.declared.rows.VariablePlace.TheVariants.{Dead, Slot, Register}
use Rattle.cmm_format.specs.Formats.{Format, Front, breaks, number_bytes}

-- n bytes from an offset on lie in the frame
abbrev pub leaves : ℕ → ℕ → ℕ → Bool
leaves count frame offset = nat_le (offset + count) frame

-- 0; 1 and an offset; 2 and a register
abbrev pub place_bytes : VariablePlace → List ℕ
place_bytes Dead = 0 ∷ []
place_bytes (Slot offset) = 1 ∷ number_bytes 4 offset
place_bytes (Register register) = 2 ∷ number_bytes 1 register

abbrev pub IsPlace : ℕ → VariablePlace → Type 0
IsPlace frame Dead = Unit {0}
IsPlace frame (Slot offset) = (offset < 2 ^ 32) × IsTrue (leaves 8 frame offset)
IsPlace frame (Register register) = IsTrue (is_callee_saves register)

abbrev pub slot_at : ℕ → List ℕ → List ℕ → Front VariablePlace
slot_at frame bytes rest = elim (nat_lt (length rest) 4) [
  | true ↦ Err (breaks ImageIsCut bytes)
  | false ↦ elim (leaves 8 frame (little_number 4 rest)) [
    | true ↦ Ok (Slot (little_number 4 rest), drop 4 rest)
    | false ↦ Err (breaks ImageOutOfRange bytes)
  ]
]

abbrev pub register_at : List ℕ → List ℕ → Front VariablePlace
register_at bytes [] = Err (breaks ImageIsCut bytes)
register_at bytes (n ∷ rest) = elim (is_callee_saves n) [ true ↦ Ok (Register n, rest) | false ↦ Err (breaks BadImageField bytes) ]

unfoldable pub place_at : ℕ → List ℕ → Front VariablePlace
place_at frame [] = Err (breaks ImageIsCut [])
place_at frame (zero ∷ rest) = Ok (Dead, rest)
place_at frame (suc zero ∷ rest) = slot_at frame (1 ∷ rest) rest
place_at frame (suc (suc zero) ∷ rest) = register_at (2 ∷ rest) rest
place_at frame (suc (suc (suc n)) ∷ rest) = Err (breaks BadImageField (suc (suc (suc n)) ∷ rest))

abbrev pub variable_place : ℕ → Option VariablePlace → Format VariablePlace
variable_place frame previous = record { spelled = place_bytes; Holds = IsPlace frame; at = place_at frame }
