use Rattle.std.proofs.Common.{◌≡◌, Option, Ok, Err, List, ℕ, ◌∙◌, ap, subst, sym}
use Rattle.std.proofs.lemmas.Result.{err_from_is_err_and}
use Rattle.cmm_format.specs.Formats.{Front}
use Rattle.cmm_format.specs.Reading.{Reads}
use Rattle.cmm_image.specs.declared.rows.SiteRow.{SiteRow}
use Rattle.cmm_image.specs.declared.rows.VariablePlace.{VariablePlace}
use Rattle.cmm_image.specs.declared.rows.VariableRow.{VariableRow}
use Rattle.cmm_image.specs.ImageFormat.{procedure_with}
use Rattle.cmm_image.specs.SecondFormat.{last_code, placed_variable, record_end, row_places, sites_of_record}
use Rattle.cmm_image.specs.inside.Wholes.{fields_seen}
use Rattle.cmm_image.proofs.RecordLaws.{end_breaks, record_done, sites_break, sites_same}
use Rattle.cmm_image.proofs.second_reading.read_record.Goals as goal

pub returns-in_err-sites : goal.returns-in_err-sites
returns-in_err-sites c =
    let p = err_from_is_err_and c.from_residual-in_err-sites.result c.from_residual-in_err-sites.ensures.1 in
    let totals = c.args.totals.now in
    let before = c.args.earlier.now.records.items in
    let bytes = c.args.reader.now.rest.now in
    let fields = c.in_ok-fields.fields in
    let after = c.placed_procedure.new.reader.rest.now in
    let read : (procedure_with placed_variable totals.bounds.code_length (last_code before)).at bytes ≡ Ok (fields_seen fields, after) =
    subst (λ (o : Option ℕ). (procedure_with placed_variable totals.bounds.code_length o).at bytes ≡ Ok (fields_seen fields, after))
    (c.last_code.ensures ∙ ap last_code c.as_slice.ensures.value) c.in_ok-fields.ensures in
    let places : c.as_slice-2.result.now ≡ row_places fields.variables = c.as_slice-2.ensures ∙ ap (λ (x : List VariableRow × List VariablePlace). x.1) c.in_ok-variables.ensures in
    let same = sites_same totals before fields c.can_have_sites.result c.args.number c.args.earlier.now.addresses.keys c.as_slice-2.result.now c.len.result c.can_have_sites.ensures
    c.requires.number c.requires.kept places c.len.ensures after in
    let broken : Reads (Err c.in_err-sites.field-0.0) ((sites_of_record totals.bounds.code_length before (fields_seen fields)).at after) c.live_sites.new.reader.rest.now =
    subst (λ (front : Front (List SiteRow)). Reads (Err c.in_err-sites.field-0.0) front c.live_sites.new.reader.rest.now) same c.in_err-sites.ensures in
    rw (p.1, p.2) (sites_break totals before (fields_seen fields) bytes after read c.in_err-sites.field-0.0 c.live_sites.new.reader.rest.now c.live_sites.new.reader.rest.now broken)

pub returns-in_err-read_end : goal.returns-in_err-read_end
returns-in_err-read_end c =
    let p = err_from_is_err_and c.from_residual-in_err-read_end.result c.from_residual-in_err-read_end.ensures.1 in
    let totals = c.args.totals.now in
    let before = c.args.earlier.now.records.items in
    let bytes = c.args.reader.now.rest.now in
    let fields = c.in_ok-fields.fields in
    let after = c.placed_procedure.new.reader.rest.now in
    let sites = c.in_ok-sites.sites in
    let behind = c.live_sites.new.reader.rest.now in
    let read : (procedure_with placed_variable totals.bounds.code_length (last_code before)).at bytes ≡ Ok (fields_seen fields, after) =
    subst (λ (o : Option ℕ). (procedure_with placed_variable totals.bounds.code_length o).at bytes ≡ Ok (fields_seen fields, after))
    (c.last_code.ensures ∙ ap last_code c.as_slice.ensures.value) c.in_ok-fields.ensures in
    let own : c.in_ok-variables.places ≡ row_places fields.variables = ap (λ (x : List VariableRow × List VariablePlace). x.1) c.in_ok-variables.ensures in
    let same = sites_same totals before fields c.can_have_sites.result c.args.number c.args.earlier.now.addresses.keys c.as_slice-2.result.now c.len.result c.can_have_sites.ensures
    c.requires.number c.requires.kept (c.as_slice-2.ensures ∙ own) c.len.ensures after in
    let more : (sites_of_record totals.bounds.code_length before (fields_seen fields)).at after ≡ Ok (sites, behind) = sym same ∙ c.in_ok-sites.ensures in
    let broken : Reads (Err c.in_err-read_end.field-0.0) ((record_end totals.procedures totals.sites before (row_places fields.variables) sites).at behind) c.read_end.new.reader.rest.now =
    subst (λ (ps : List VariablePlace). Reads (Err c.in_err-read_end.field-0.0) ((record_end totals.procedures totals.sites before ps sites).at behind) c.read_end.new.reader.rest.now)
    (c.as_slice-3.ensures ∙ own)
    (subst (λ (ss : List SiteRow). Reads (Err c.in_err-read_end.field-0.0) ((record_end totals.procedures totals.sites before c.as_slice-3.result.now ss).at behind) c.read_end.new.reader.rest.now)
    c.as_slice-4.ensures c.in_err-read_end.ensures) in
    rw (p.1, p.2)
    (end_breaks totals before (fields_seen fields) bytes after read sites behind more c.in_err-read_end.field-0.0 c.read_end.new.reader.rest.now c.read_end.new.reader.rest.now broken)

pub returns : goal.returns
returns c =
    let totals = c.args.totals.now in
    let before = c.args.earlier.now.records.items in
    let bytes = c.args.reader.now.rest.now in
    let fields = c.in_ok-fields.fields in
    let after = c.placed_procedure.new.reader.rest.now in
    let sites = c.in_ok-sites.sites in
    let behind = c.live_sites.new.reader.rest.now in
    let read : (procedure_with placed_variable totals.bounds.code_length (last_code before)).at bytes ≡ Ok (fields_seen fields, after) =
    subst (λ (o : Option ℕ). (procedure_with placed_variable totals.bounds.code_length o).at bytes ≡ Ok (fields_seen fields, after))
    (c.last_code.ensures ∙ ap last_code c.as_slice.ensures.value) c.in_ok-fields.ensures in
    let own : c.in_ok-variables.places ≡ row_places fields.variables = ap (λ (x : List VariableRow × List VariablePlace). x.1) c.in_ok-variables.ensures in
    let rows = ap (λ (x : List VariableRow × List VariablePlace). x.0) c.in_ok-variables.ensures in
    let same = sites_same totals before fields c.can_have_sites.result c.args.number c.args.earlier.now.addresses.keys c.as_slice-2.result.now c.len.result c.can_have_sites.ensures
    c.requires.number c.requires.kept (c.as_slice-2.ensures ∙ own) c.len.ensures after in
    let more : (sites_of_record totals.bounds.code_length before (fields_seen fields)).at after ≡ Ok (sites, behind) = sym same ∙ c.in_ok-sites.ensures in
    let last = subst (λ (ps : List VariablePlace). (record_end totals.procedures totals.sites before ps sites).at behind ≡ Ok (c.in_ok-read_end.field-0, c.read_end.new.reader.rest.now))
    (c.as_slice-3.ensures ∙ own)
    (subst (λ (ss : List SiteRow). (record_end totals.procedures totals.sites before c.as_slice-3.result.now ss).at behind ≡ Ok (c.in_ok-read_end.field-0, c.read_end.new.reader.rest.now))
    c.as_slice-4.ensures c.in_ok-read_end.ensures) in
    rw (rows, own) (record_done totals before (fields_seen fields) bytes after read sites behind more c.in_ok-read_end.field-0 c.read_end.new.reader.rest.now last)
