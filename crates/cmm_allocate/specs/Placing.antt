-- The placement of a program whose procedures have these places.
use Rattle.std.specs.Prelude.{ℕ, List, map}
use Rattle.std.specs.List.{zip}
use Rattle.cmm_program.specs.declared.placement.PlaceRow.{PlaceRow}
use Rattle.cmm_located.specs.Layouts.{row_with}
use Rattle.cmm_allocate.specs.declared.procedure.ProcedurePlaces.{ProcedurePlaces}

-- a row for each procedure: the address of its code, and the frame that was laid
abbrev pub placement_rows : List ProcedurePlaces → List ℕ → List PlaceRow
placement_rows found codes = map (λ of. row_with of.1 of.0.frame) (zip found codes)
