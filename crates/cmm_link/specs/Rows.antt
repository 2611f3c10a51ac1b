-- The rows that the tables of an image have for procedures and sites of a program.
use Rattle.std.specs.Prelude.{ℕ, List, flat_map, map, slice_index}
use Rattle.std.specs.List.{enumerate_from, zip}
use Rattle.cmm_words.specs.declared.constant.Constant.{Constant}
use Rattle.cmm_program.specs.declared.procedure.Proc.{Proc}
use Rattle.cmm_image.specs.declared.rows.ProcRow.{ProcRow}
use Rattle.cmm_image.specs.declared.rows.SiteRow.{SiteRow}
use Rattle.cmm_allocate.specs.declared.procedure.ProcedurePlaces.{ProcedurePlaces}
use Rattle.cmm_tables.specs.ProcedureRows.{procedure_row}
use Rattle.cmm_tables.specs.SiteRows.{local_place, placed_site, unplaced_sites}

-- ---- procedures

abbrev pub placed_procedure : Proc × (ProcedurePlaces × (ℕ × List ℕ)) → ProcRow
placed_procedure of = procedure_row of.0 of.1.0.frame of.1.1.0 of.1.1.1

abbrev pub procedure_rows : List Proc → List ProcedurePlaces → List ℕ → List (List ℕ) → List ProcRow
procedure_rows procs places codes landings = map placed_procedure (zip procs (zip places (zip codes landings)))

-- ---- sites

-- The rows of a procedure's sites, by its number: control comes back to them at these addresses. Continuations of the procedure have these landings, and
-- constants come to these numbers.
abbrev pub sites_of : (Constant → ℕ) → ℕ → Proc → ProcedurePlaces → List ℕ → List ℕ → List SiteRow
sites_of value q p k landings addresses =
    map (λ of. placed_site (λ k. slice_index landings k) value of.1 of.0) (zip (unplaced_sites p (local_place k.locals) q) addresses)

abbrev pub placed_sites : (Constant → ℕ) → ℕ × (Proc × (ProcedurePlaces × (List ℕ × List ℕ))) → List SiteRow
placed_sites value of = sites_of value of.0 of.1.0 of.1.1.0 of.1.1.1.0 of.1.1.1.1

-- those of all procedures, one procedure after another
abbrev pub site_rows : (Constant → ℕ) → List Proc → List ProcedurePlaces → List (List ℕ) → List (List ℕ) → List SiteRow
site_rows value procs places landings addresses = flat_map (placed_sites value) (enumerate_from 0 (zip procs (zip places (zip landings addresses))))
