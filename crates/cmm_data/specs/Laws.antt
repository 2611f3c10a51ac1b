-- What holds of data that is laid out, and of fixes that are filled one after another.
use Rattle.std.specs.Prelude.{◌≡◌, ℕ, ◌+◌, ◌≤◌, List, [], ◌∷◌, ◌++◌, length, slice_get, Some}
use Rattle.std.specs.List.{All}
use Rattle.rv_table.specs.Memory.{data_base}
use Rattle.cmm_program.specs.declared.program.Program.{Program}
use Rattle.cmm_program.specs.declared.placement.Placement.{Placement}
use Rattle.cmm_program.specs.InRange.{IsInRange}
use Rattle.cmm_program.specs.Layout.{data_bytes, end_before, label_addresses}
use Rattle.cmm_data.specs.Conditions.{CanBeLaidOut}
use Rattle.cmm_data.specs.Filling.{AreApart, filled, fix_value, with_value}
use Rattle.cmm_data.specs.declared.fix.Fix.{Fix}

-- the data of each program in range can be laid out
abbrev pub InRangeCanBeLaidOut : Type 0
InRangeCanBeLaidOut = (p : Program) → IsInRange p → CanBeLaidOut p

-- the bytes of data reach to the end of the last datum, wherever code lies
abbrev pub DataReachesItsEnd : Type 0
DataReachesItsEnd = (p : Program) (placement : Placement) → CanBeLaidOut p →
    data_base + length (data_bytes p placement) ≡ end_before p (length p.datums)

pub record FixesAreFilled : Type 0 where
  -- the next fix is filled in what the fixes before it have left
  pub more : (code : ℕ → ℕ) (fixes : List Fix) (f : Fix) (bytes : List ℕ) →
      filled code (fixes ++ f ∷ []) bytes ≡ with_value (fix_value (code f.procedure) f) f.place (filled code fixes bytes)
  -- it has eight bytes
  pub within : (from size i : ℕ) (fixes : List Fix) (f : Fix) → AreApart from fixes size → slice_get fixes i ≡ Some f → f.place + 8 ≤ size
  -- as many bytes are left
  pub kept : (value place : ℕ) (bytes : List ℕ) → place + 8 ≤ length bytes → length (with_value value place bytes) ≡ length bytes

-- an address lies in the data of a program, or is its end
pub record LiesInData (p : Program) (address : ℕ) : Type 0 where
  pub from : data_base ≤ address
  pub to : address ≤ end_before p (length p.datums)

-- the address of each label does
abbrev pub LabelsLieInData : Type 0
LabelsLieInData = (p : Program) → CanBeLaidOut p → All (LiesInData p) (label_addresses p)
