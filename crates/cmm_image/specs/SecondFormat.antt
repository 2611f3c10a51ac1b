-- The tables of version 2: the sites of a procedure stand in its record, and so does the place of each of its variables, which is the same at all
-- of its sites where the variable is live. A site has one bit a variable.
use Rattle.std.specs.Prelude.{ℕ, zero, suc, ◌+◌, ◌*◌, ◌/◌, ◌%◌, ◌==◌, ◌&&◌, ◌||◌, nat_lt, not, Bool, true, false, if◌then◌else◌, List, [], ◌∷◌, ◌++◌, length, take, drop, map, filter, flat_map, replicate, Option, Some, None}
use Rattle.std.specs.Option.{option_map}
use Rattle.std.specs.List.{list_any, zip}
use Rattle.cmm_image.specs.declared.procedure_record.PlacedVariable.{PlacedVariable}
use Rattle.cmm_image.specs.declared.procedure_record.ProcedureRecord.{ProcedureRecord}
use Rattle.cmm_image.specs.declared.rows.ProcRow.{ProcRow}
use Rattle.cmm_image.specs.declared.rows.VariableRow.{VariableRow}
use Rattle.cmm_image.specs.declared.rows.VariablePlace.{VariablePlace}
use Rattle.cmm_image.specs.declared.rows.VariablePlace.TheVariants.{Dead, Slot, Register}
use Rattle.cmm_image.specs.declared.rows.SiteRow.{SiteRow}
use Rattle.cmm_format.specs.Formats.{Format, ◌when◌, ◌▸◌, as_, seen_as, given, counted, rows_behind}
use Rattle.cmm_image.specs.ImageFormat.{Code, FieldsWith, SiteFieldsOf, Tables, above, formed, image_code, lies_in, lists_in, may_have_sites, one_if, procedure_in, procedure_of, site_fields, site_fields_with, site_of_fields, span, u8, u32, variable}
use Rattle.cmm_image.specs.Places.{variable_place}

-- ---- the bits of a site

abbrev pub is_live : VariablePlace → Bool
is_live Dead = false
is_live (Slot offset) = true
is_live (Register register) = true

-- the places at a site of variables with these places, of which those are live whose bits are 1, from bit 0 on
abbrev pub masked : List VariablePlace → ℕ → List VariablePlace
masked [] bits = []
masked (p ∷ ps) bits = (if bits % 2 == 1 then p else Dead) ∷ masked ps (bits / 2)

abbrev pub mask_number : List VariablePlace → ℕ
mask_number [] = 0
mask_number (p ∷ ps) = one_if (is_live p) + 2 * mask_number ps

-- a variable that is live has a place, and the bits that are no variable's are 0
abbrev pub is_mask : List VariablePlace → ℕ → Bool
is_mask [] bits = bits == 0
is_mask (p ∷ ps) bits = (is_live p || (bits % 2 == 0)) && is_mask ps (bits / 2)

-- a byte for up to eight variables with these places
abbrev pub mask : List VariablePlace → Format (List VariablePlace)
mask places = seen_as (masked places) mask_number (u8 when (formed (is_mask places) ∷ []))

-- so many bytes, one for eight variables each
abbrev pub masks : ℕ → List VariablePlace → Format (List VariablePlace)
masks zero places = given []
masks (suc n) places = as_ (λ x. x.0 ++ x.1) (λ ps. (take 8 ps, drop 8 ps)) (mask (take 8 places) ▸ λ first. masks n (drop 8 places))

-- a byte for each eight variables begun
abbrev pub mask_count : ℕ → ℕ
mask_count variables = (variables + 7) / 8

abbrev pub live_places : List VariablePlace → Format (List VariablePlace)
live_places places = masks (mask_count (length places)) places

-- ---- sites

abbrev pub addresses_of : List ProcedureRecord → List ℕ
addresses_of records = map (λ s. s.return_address) (flat_map (λ r. r.sites) records)

-- unlike each of these addresses
abbrev pub is_unlike : List ℕ → ℕ → Bool
is_unlike others address = not (list_any (λ other. address == other) others)

-- a site of the procedure of a number, which has variables with these places, and n continuations, behind a site with this return address; the sites of earlier procedures have these
-- addresses, and spans have a format of their own
abbrev pub live_fields : {S : Type 0} → (Option S → Format S) → Code → ℕ → List ℕ → List VariablePlace → ℕ → Option ℕ → Format (SiteFieldsOf S)
live_fields span code procedure earlier places continuations previous =
    site_fields_with (above previous ∷ formed (is_unlike earlier) ∷ lies_in code ∷ []) (given procedure)
    (λ procedure. lists_in (live_places places) span code continuations)

-- one of an image
abbrev pub live_site : ℕ → ℕ → List ℕ → List VariablePlace → ℕ → Option SiteRow → Format SiteRow
live_site code_length procedure earlier places continuations previous =
    as_ site_of_fields site_fields (live_fields span (image_code code_length) procedure earlier places continuations (option_map (λ s. s.return_address) previous))

-- ---- procedures

abbrev pub placed_variable : ℕ → Option PlacedVariable → Format PlacedVariable
placed_variable frame previous = as_ (λ x. record { row = x.0; place = x.1 }) (λ v. (v.row, v.place)) (variable None ▸ λ row. variable_place frame None)

abbrev pub or_place : VariablePlace → VariablePlace → VariablePlace
or_place p q = if is_live p then p else q

abbrev pub or_places : List VariablePlace → List VariablePlace → List VariablePlace
or_places [] qs = qs
or_places (p ∷ ps) [] = p ∷ ps
or_places (p ∷ ps) (q ∷ qs) = or_place p q ∷ or_places ps qs

-- the place of each variable that has these places: its own, or that at the first of these sites where it is live; a site gives places to variables
abbrev pub places_by : {T : Type 0} → (T → List VariablePlace) → List VariablePlace → List T → List VariablePlace
places_by of places [] = places
places_by of places (s ∷ ss) = places_by of (or_places places (of s)) ss

abbrev pub places_with : List VariablePlace → List SiteRow → List VariablePlace
places_with places sites = places_by (λ s. s.variables) places sites

-- the place of each variable: that at the first of these sites where it is live
abbrev pub places_among : ℕ → List SiteRow → List VariablePlace
places_among variables sites = places_with (replicate variables Dead) sites

-- each of the first that is a place is one among the second
abbrev pub are_among : List VariablePlace → List VariablePlace → Bool
are_among [] qs = true
are_among (p ∷ ps) [] = not (is_live p) && are_among ps []
are_among (p ∷ ps) (q ∷ qs) = (not (is_live p) || is_live q) && are_among ps qs

-- behind so many procedures with so many sites, this one with its sites is not the last, or there are as many as the header says
abbrev pub is_total : ℕ → ℕ → List ProcedureRecord → List SiteRow → Bool
is_total procedures total before sites = not (suc (length before) == procedures) || (length (addresses_of before) + length sites == total)

abbrev pub row_places : List PlacedVariable → List VariablePlace
row_places variables = map (λ v. v.place) variables

abbrev pub RecordFields : Type 0
RecordFields = FieldsWith PlacedVariable × (List SiteRow × ℕ)

abbrev pub record_of : RecordFields → ProcedureRecord
record_of ((code, (name, (frame, (return_at, (saved, (variables, (stack_labels, continuations))))))), (sites, end)) = record {
  row = procedure_of (code, (name, (frame, (return_at, (saved, (map (λ v. v.row) variables, (stack_labels, continuations)))))));
  places = row_places variables;
  sites = sites;
}

abbrev pub placed : VariableRow × VariablePlace → PlacedVariable
placed x = record { row = x.0; place = x.1 }

abbrev pub record_fields : ProcedureRecord → RecordFields
record_fields r = (
  (r.row.code, (r.row.name, (r.row.frame, (r.row.return_at, (r.row.saved, (map placed (zip r.row.variables r.places), (r.row.stack_labels, r.row.continuations))))))),
  (r.sites, 0),
)

abbrev pub variables_of : FieldsWith PlacedVariable → List PlacedVariable
variables_of (code, (name, (frame, (return_at, (saved, (variables, (stack_labels, continuations))))))) = variables

-- the sites of a procedure, which have a format by the places of its variables and the count of its continuations
abbrev pub sites_with : {T : Type 0} → (List VariablePlace → ℕ → Option T → Format T) → FieldsWith PlacedVariable → Format (List T)
sites_with site (code, (name, (frame, (return_at, (saved, (variables, (stack_labels, continuations))))))) =
    counted (u32 when (formed (λ n. (n == 0) || may_have_sites frame return_at) ∷ [])) (site (row_places variables) (length continuations))

abbrev pub sites_of_record : ℕ → List ProcedureRecord → FieldsWith PlacedVariable → Format (List SiteRow)
sites_of_record code_length before p = sites_with (live_site code_length (length before) (addresses_of before)) p

-- the byte at the end of a procedure: each variable with a place is live at some site, and the sites are as many as there may be
abbrev pub end_with : {T : Type 0} → (T → List VariablePlace) → (List T → Bool) → List VariablePlace → List T → Format ℕ
end_with of are_all places sites =
    u8 when (
    formed (λ n. n == 0)
    ∷ formed (λ n. are_among places (places_by of (replicate (length places) Dead) sites))
    ∷ formed (λ n. are_all sites)
    ∷ []
    )

abbrev pub record_end : ℕ → ℕ → List ProcedureRecord → List VariablePlace → List SiteRow → Format ℕ
record_end procedures total before places sites = end_with (λ s. s.variables) (is_total procedures total before) places sites

abbrev pub last_code : List ProcedureRecord → Option ℕ
last_code [] = None
last_code (r ∷ []) = Some r.row.code
last_code (r ∷ s ∷ rs) = last_code (s ∷ rs)

-- The table of a procedure's record in code, behind a procedure at an address: its sites have a format, by the places of its variables and the count of its continuations, each
-- gives places to variables, and all together are as many as there may be. In an image code begins at its base, and spans have numbers; what holds a procedure before it is placed
-- can take the same table over code from 0 on, and over other values of spans (`live_fields`).
abbrev pub record_table : {T : Type 0} → Code → (List VariablePlace → ℕ → Option T → Format T) → (T → List VariablePlace) → (List T → Bool) → Option ℕ → Format (FieldsWith PlacedVariable × (List T × ℕ))
record_table code site of are_all previous =
    procedure_in placed_variable code previous
    ▸ λ p. sites_with site p
    ▸ λ sites. end_with of are_all (row_places (variables_of p)) sites

-- the record of a procedure of an image behind these, where there are so many procedures, and so many sites
abbrev pub procedure_record : ℕ → ℕ → ℕ → List ProcedureRecord → Format ProcedureRecord
procedure_record code_length procedures total before = seen_as record_of record_fields (
    record_table (image_code code_length) (live_site code_length (length before) (addresses_of before)) (λ s. s.variables) (is_total procedures total before) (last_code before)
    )

-- ---- the tables

abbrev pub put_in : SiteRow → List SiteRow → List SiteRow
put_in s [] = s ∷ []
put_in s (t ∷ ts) = if nat_lt s.return_address t.return_address then s ∷ t ∷ ts else t ∷ put_in s ts

-- sites in the order of their return addresses
abbrev pub in_order : List SiteRow → List SiteRow
in_order [] = []
in_order (s ∷ ss) = put_in s (in_order ss)

abbrev pub tables_of : List ProcedureRecord → Tables
tables_of records = (map (λ r. r.row) records, in_order (flat_map (λ r. r.sites) records))

abbrev pub sites_of : ℕ → List SiteRow → List SiteRow
sites_of procedure sites = filter (λ s. s.procedure == procedure) sites

-- the records of procedures from a number on
abbrev pub records_from : ℕ → List ProcRow → List SiteRow → List ProcedureRecord
records_from n [] sites = []
records_from n (p ∷ ps) sites =
    record { row = p; places = places_among (length p.variables) (sites_of n sites); sites = sites_of n sites } ∷ records_from (suc n) ps sites

abbrev pub records_of : Tables → List ProcedureRecord
records_of t = records_from 0 t.0 t.1

abbrev pub second_tables : ℕ → ℕ → ℕ → Format Tables
second_tables code_length procedures sites = seen_as tables_of records_of (rows_behind (procedure_record code_length procedures sites) procedures)
