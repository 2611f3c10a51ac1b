-- The codes of units that are joined to one text.
use Rattle.std.specs.Prelude.{◌≡◌, ℕ, ◌+◌, ◌*◌, ◌<◌, ◌≤◌, ◌^◌, List, [], ◌∷◌, ◌++◌, length, map, slice_get, slice_index_or, sum_by, Some, None}
use Rattle.std.specs.List.{All}
use Rattle.rv_table.specs.Memory.{code_base}
use Rattle.rv_table.specs.declared.memory_map.TheConstants.{GLOBALS_OFFSET}
use Rattle.rv_asm.specs.Filling.{AreApart, filled}
use Rattle.cmm_unit_code.specs.declared.text.Text.{Text}
use Rattle.cmm_program.specs.declared.program.Program.{Program}
use Rattle.cmm_program.specs.Layout.{label_addresses}
use Rattle.cmm_unit_code.specs.declared.unit_code.ProgramCode.{ProgramCode}
use Rattle.cmm_unit_code.specs.declared.unit_code.Reference.{Reference}
use Rattle.cmm_unit_code.specs.declared.unit_code.Reference.TheVariants.{Register, Label, Procedure}
use Rattle.cmm_unit_code.specs.declared.unit_code.UnitCode.{UnitCode}

-- what is named stands for a number: the offset of a global register in the region, the address of a data label, or that of a procedure
abbrev pub reference_value : List ℕ → List ℕ → Reference → ℕ
reference_value addresses procedures (Register n) = GLOBALS_OFFSET + 8 * n
reference_value addresses procedures (Label n) = slice_index_or addresses n 0
reference_value addresses procedures (Procedure n) = slice_index_or procedures n 0

-- a symbol of a unit stands for what its list has there, which has these numbers
abbrev pub symbol_value : (Reference → ℕ) → List Reference → ℕ → ℕ
symbol_value value references symbol = elim (slice_get references symbol) [ Some r ↦ value r | None ↦ 0 ]

-- the bytes of codes that stand one behind another from an address on, once each fix has its number
abbrev pub joined_code : (Reference → ℕ) → ℕ → List UnitCode → List ℕ
joined_code value at [] = []
joined_code value at (u ∷ us) = filled (symbol_value value u.references) at u.fixes u.code ++ joined_code value (at + length u.code) us

-- where their procedures begin
abbrev pub procedure_addresses : ℕ → List UnitCode → List ℕ
procedure_addresses at [] = []
procedure_addresses at (u ∷ us) = map (λ offset. at + offset) u.procedures ++ procedure_addresses (at + length u.code) us

-- where cuts land in them
abbrev pub landing_addresses : ℕ → List UnitCode → List (List ℕ)
landing_addresses at [] = []
landing_addresses at (u ∷ us) = map (λ offsets. map (λ offset. at + offset) offsets) u.landings ++ landing_addresses (at + length u.code) us

-- where control comes back to sites in them
abbrev pub site_addresses : ℕ → List UnitCode → List (List ℕ)
site_addresses at [] = []
site_addresses at (u ∷ us) = map (λ offsets. map (λ offset. at + offset) offsets) u.sites ++ site_addresses (at + length u.code) us

-- a unit's code is whole: its fixes have two words each of their own, and name what its list has, and each place is in it
pub record IsWhole (u : UnitCode) : Type 0 where
  pub apart : AreApart 0 u.fixes (length u.code)
  pub symbols : All (λ f. f.symbol < length u.references) u.fixes
  pub procedures : All (λ offset. offset ≤ length u.code) u.procedures
  pub landings : All (All (λ offset. offset ≤ length u.code)) u.landings
  pub sites : All (All (λ offset. offset ≤ length u.code)) u.sites

-- Codes were joined to one text, from `code_base` on: they stand one behind another, and each symbol has its number. The call of main comes back behind so
-- many bytes.
pub record IsJoined (addresses : List ℕ) (units : List UnitCode) (after_main : ℕ) (t : Text) : Type 0 where
  pub procedures : t.procedures ≡ procedure_addresses code_base units
  pub landings : t.landings ≡ landing_addresses code_base units
  pub sites : t.sites ≡ site_addresses code_base units
  pub code : t.code ≡ joined_code (reference_value addresses t.procedures) code_base units
  pub start : t.start ≡ code_base
  pub last : t.last ≡ code_base + after_main

-- the code of a program can be joined: each part is whole, and together they have room
pub record CanBeJoined (c : ProgramCode) : Type 0 where
  pub whole : All IsWhole c.units
  pub room : code_base + sum_by (λ u. length u.code) c.units ≤ 2 ^ 30
  pub last : c.last ≤ 2 ^ 30

-- it was joined, as the symbols of the program stand for
abbrev pub IsTextOf : Program → ProgramCode → Text → Type 0
IsTextOf p c t = IsJoined (label_addresses p) c.units c.last t
