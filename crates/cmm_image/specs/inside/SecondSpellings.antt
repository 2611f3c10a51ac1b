-- The bytes of parts of records of version 2, which are written by functions of their own, and sites apart by their procedures.
use Rattle.std.specs.Prelude.{◌≡◌, ℕ, ◌<◌, List, [], length, map, slice_index_or, None}
use Rattle.std.specs.Borrow.{Bor}
use Rattle.std.specs.List.{zip}
use Rattle.cmm_image.specs.declared.procedure_record.ProcedureRecord.{ProcedureRecord}
use Rattle.cmm_image.specs.declared.rows.ProcRow.{ProcRow}
use Rattle.cmm_image.specs.declared.rows.SiteRow.{SiteRow}
use Rattle.cmm_image.specs.declared.rows.VariablePlace.{VariablePlace}
use Rattle.cmm_image.specs.declared.rows.VariableRow.{VariableRow}
use Rattle.cmm_format.specs.Formats.{counted, given}
use Rattle.cmm_image.specs.ImageFormat.{lists_with, procedure_with, site_with, u16, u32}
use Rattle.cmm_image.specs.SecondFormat.{mask_count, masks, placed, placed_variable, places_among, procedure_record, record_fields, sites_of}

-- the bits of a site, which has so many variables
abbrev pub live_bytes : ℕ → List VariablePlace → List ℕ
live_bytes variables = (masks (mask_count variables) []).spelled

-- a site of a procedure that has so many variables
abbrev pub live_site_bytes : ℕ → SiteRow → List ℕ
live_site_bytes variables = (site_with [] (given 0) (λ procedure. lists_with (masks (mask_count variables) []) 0 0)).spelled

-- its sites, behind their count
abbrev pub live_sites_bytes : ℕ → List SiteRow → List ℕ
live_sites_bytes variables = (counted u32 (λ previous. site_with [] (given 0) (λ procedure. lists_with (masks (mask_count variables) []) 0 0))).spelled

-- variables with their places, behind their count
abbrev pub placed_bytes : List VariableRow → List VariablePlace → List ℕ
placed_bytes rows places = (counted u16 (placed_variable 0)).spelled (map placed (zip rows places))

abbrev pub record_bytes : ProcedureRecord → List ℕ
record_bytes = (procedure_record 0 0 0 []).spelled

-- a procedure whose sites are these
abbrev pub record_with : ProcRow → List SiteRow → ProcedureRecord
record_with p sites = record { row = p; places = places_among (length p.variables) sites; sites = sites }

-- the fields of a procedure's record up to its sites
abbrev pub front_bytes : ProcRow → List VariablePlace → List ℕ
front_bytes p places = (procedure_with placed_variable 0 None).spelled (record_fields (record { row = p; places = places; sites = [] })).0

abbrev pub read_all : List (Bor SiteRow) → List SiteRow
read_all sites = map (λ s. s.now) sites

-- for each procedure, its sites in their order
pub record AreOwned (procedures : ℕ) (owned : List (List (Bor SiteRow))) (sites : List SiteRow) : Type 0 where
  pub count : length owned ≡ procedures
  pub each : (n : ℕ) → n < procedures → read_all (slice_index_or owned n []) ≡ sites_of n sites
