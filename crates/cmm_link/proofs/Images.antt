-- The parts that are linked keep every rule of the format.
use Rattle.std.proofs.Common.{◌≡◌, ℕ, ◌*◌, ◌+◌, ◌^◌, ap, ◌≤◌, ◌&&◌, ◌==◌, ◌%◌, ◌++◌, nat_le, true, IsTrue, None, Some, All, List, length, map, flat_map, refl, sym, ◌∙◌, subst, arith}
use Rattle.std.proofs.lemmas.Bool.{and_from, and_parts, le-leb, leb-true, lt-ltb}
use Rattle.std.proofs.lemmas.List.{length-append, length-map}
use Rattle.std.proofs.lemmas.List.Elements.{All-weaker}
use Rattle.std.proofs.Math.Path.{fun_ext}
use Rattle.std.proofs.lemmas.List.Sorted.{All-permutation, sum_by-IsPermutation}
use Rattle.std.specs.Prelude.{slice_index_or, sum_by}
use Rattle.rv_table.specs.declared.memory_map.TheConstants.{CODE_LENGTH_LIMIT, DATA_LENGTH_LIMIT}
use Rattle.cmm_program.specs.declared.program.Program.{Program}
use Rattle.cmm_program.specs.InRange.{IsInRange}
use Rattle.cmm_words.specs.declared.constant.Constant.{Constant}
use Rattle.cmm_words.specs.declared.constant.Constant.TheVariants.{Address, Code, Number}
use Rattle.cmm_program.specs.declared.placement.Placement.{Placement}
use Rattle.cmm_program.specs.declared.placement.PlaceRow.{PlaceRow}
use Rattle.cmm_program.specs.Layout.{constant_value, label_addresses}
use Rattle.cmm_program.proofs.Shared.{all_get}
use Rattle.cmm_data.specs.declared.layout.DataImage.{DataImage}
use Rattle.cmm_data.specs.Laws.{InRangeCanBeLaidOut, LabelsLieInData}
use Rattle.cmm_image.specs.declared.parts.ImageParts.{ImageParts}
use Rattle.cmm_image.specs.declared.reading.TheConstants.{IMAGE_LIMIT}
use Rattle.cmm_image.specs.declared.rows.GlobalRow.{GlobalRow}
use Rattle.cmm_image.specs.declared.rows.LabelRow.{LabelRow}
use Rattle.cmm_image.specs.declared.rows.ProcRow.{ProcRow}
use Rattle.cmm_image.specs.declared.rows.SiteRow.{SiteRow}
use Rattle.cmm_format.specs.Formats.{AreBytes, AreRows}
use Rattle.cmm_image.specs.ImageFormat.{global, header, is_code_length, label, procedure, site}
use Rattle.cmm_image.specs.WholeImage.{image, image_header}
use Rattle.cmm_image.specs.Images.{IsImage}
use Rattle.cmm_image.specs.SecondFormat.{second_tables}
use Rattle.cmm_image.proofs.Shared.{first_keeps_second, header_long, second_is_short}
use Rattle.cmm_allocate.specs.declared.procedure.ProcedurePlaces.{ProcedurePlaces}
use Rattle.cmm_unit_code.specs.declared.text.Text.{Text}
use Rattle.cmm_link.specs.Labels.{AreLabelsOf, exports, names_ascend, row_named}
use Rattle.cmm_allocate.specs.Placing.{placement_rows}
use Rattle.cmm_link.specs.Linked.{AreSitesOf, HaveFewSpans, HaveFrames, IsDataOf, IsImageOf}
use Rattle.cmm_link.specs.Rooms.{HasRoom}
use Rattle.cmm_link.specs.Rows.{procedure_rows, site_rows}
use Rattle.cmm_image_machine.specs.Tables.{global_row}
use Rattle.cmm_unit_code.specs.Texts.{IsText}
use Rattle.cmm_link.specs.inside.Made.{AreMade}
use Rattle.cmm_link.specs.inside.Named.{HasSmallSpans, IsNamed, IsNamedGlobal, IsNamedLabel}
use Rattle.cmm_link.specs.inside.Values.{value_at}
use Rattle.cmm_link.proofs.Codes.{code_at, filled_by_placement, no_row, places_counted}
use Rattle.cmm_link.proofs.Exports.{IsExport, IsInData, exports_counted, exports_fit, globals_hold, labels_hold}
use Rattle.cmm_link.proofs.ProcedureRows.{address_small, name_short}
use Rattle.cmm_link.proofs.ProcedureTable.{rows_counted, table_holds}
use Rattle.cmm_link.proofs.FirstLabels.{found_among}
use Rattle.cmm_link.proofs.Listed.{all_from_get}
use Rattle.cmm_link.proofs.OnePlaces.{sites_have_one_place}
use Rattle.cmm_link.proofs.SiteSizes.{row_cost, rows_cost, rows_few}
use Rattle.cmm_link.proofs.SiteTable.{IsRow, rows_are}
use Rattle.cmm_link.proofs.SiteTokens.{site_measure}
use Rattle.cmm_link.proofs.SitesHold.{row_holds, sites_hold, sites_long}
use Rattle.cmm_link.proofs.Sizes.{added_long, globals_long, labels_long, table_long}

-- what is required of what they are made from
pub record AreGiven (p : Program) (places : List ProcedurePlaces) (d : DataImage) (t : Text) : Type 0 where
  pub range : IsInRange p
  pub frames : HaveFrames p.procs places
  pub laid : IsDataOf p d
  pub text : IsText p t
  pub spans : HaveFewSpans p.procs
  pub room : HasRoom p t
  pub globals : IsTrue (names_ascend (map (λ g. g.name) p.globals))

-- the parts, with what they are made from put in
abbrev parts_of : Program → List ProcedurePlaces → Text → List ℕ → List SiteRow → List LabelRow → ImageParts
parts_of p places t initial sites labels = record {
  version = 2;
  code = t.code;
  initial = initial;
  start = t.start;
  last = t.last;
  main = p.main;
  procs = procedure_rows p.procs places t.procedures t.landings;
  sites = sites;
  labels = labels;
  globals = map global_row p.globals;
}

-- parts with equal fields are equal
fields_same : (version version' : ℕ) (code code' initial initial' : List ℕ) (start start' last last' main main' : ℕ) (procs procs' : List ProcRow) (sites sites' : List SiteRow)
    (labels labels' : List LabelRow) (globals globals' : List GlobalRow) → version ≡ version' → code ≡ code' → initial ≡ initial' → start ≡ start' → last ≡ last' → main ≡ main' →
    procs ≡ procs' → sites ≡ sites' → labels ≡ labels' → globals ≡ globals' →
    ◌≡◌ {A = ImageParts}
    record { version = version; code = code; initial = initial; start = start; last = last; main = main; procs = procs; sites = sites; labels = labels; globals = globals }
    record { version = version'; code = code'; initial = initial'; start = start'; last = last'; main = main'; procs = procs'; sites = sites'; labels = labels'; globals = globals' }
fields_same version version' code code' initial initial' start start' last last' main main' procs procs' sites sites' labels labels' globals globals' v a b c d e f g h k = cc

same_parts : (i j : ImageParts) → i.version ≡ j.version → i.code ≡ j.code → i.initial ≡ j.initial → i.start ≡ j.start → i.last ≡ j.last → i.main ≡ j.main → i.procs ≡ j.procs →
    i.sites ≡ j.sites → i.labels ≡ j.labels → i.globals ≡ j.globals → i ≡ j
same_parts i j v a b c d e f g h k =
    fields_same i.version j.version i.code j.code i.initial j.initial i.start j.start i.last j.last i.main j.main i.procs j.procs i.sites j.sites i.labels j.labels i.globals j.globals
    v a b c d e f g h k

code_room : (n : ℕ) → is_code_length n ≡ true → n ≤ CODE_LENGTH_LIMIT
code_room n is =
    let both = and_parts (nat_le 4 n && nat_le n CODE_LENGTH_LIMIT) (n % 4 == 0) is in
    leb-true n CODE_LENGTH_LIMIT (and_parts (nat_le 4 n) (nat_le n CODE_LENGTH_LIMIT) both.0).1

module _
    (p : Program) (places : List ProcedurePlaces) (d : DataImage) (t : Text) (given : AreGiven p places d t)
    (can : InRangeCanBeLaidOut) (lie : LabelsLieInData) where
  room : length t.code ≤ CODE_LENGTH_LIMIT
  room = code_room (length t.code) given.text.size

  data_room : length d.bytes ≤ DATA_LENGTH_LIMIT
  data_room =
      let size = given.laid.size in
      let most = given.range.data_size in
      omega (arith, size, most)

  in_data : (row : LabelRow) → IsExport p row → IsInData (length d.bytes) row
  in_data row is =
      let from = is.address.from in
      let to = is.address.to in
      let size = given.laid.size in
      record { short = name_short row.name is.short; from = omega (arith, from); to = omega (arith, to, size) }

  labels_in_data : (rows : List LabelRow) → AreLabelsOf (exports p) rows → All (IsInData (length d.bytes)) rows
  labels_in_data rows are =
      let exported : All (IsExport p) (exports p) = exports_fit p p.labels (label_addresses p) given.range.labels (lie p (can p given.range)) in
      All-weaker (λ row. row_named (exports p) row.name ≡ Some row) (IsInData (length d.bytes))
      (λ row first. let there = found_among (exports p) row.name row first in in_data row (all_get (IsExport p) (exports p) there.0 row exported there.1)) rows are.first

  -- the parts, with their equations put in
  module _
      (initial : List ℕ) (labels : List LabelRow) (size : length initial ≡ length d.bytes) (are : AreLabelsOf (exports p) labels) (few : length labels ≤ length (exports p))
      (code_bytes : AreBytes t.code) (data_bytes : AreBytes initial) (procedure_names : All IsNamed (procedure_rows p.procs places t.procedures t.landings))
      (label_names : All IsNamedLabel labels) (global_names : All IsNamedGlobal (map global_row p.globals)) (sites : List SiteRow)
      (are_sites : AreSitesOf (site_rows (value_at t.procedures d.addresses) p.procs places t.landings t.sites) sites) (small_spans : All HasSmallSpans sites) where
    abbrev procs : List ProcRow
    procs = procedure_rows p.procs places t.procedures t.landings

    abbrev globals : List GlobalRow
    globals = map global_row p.globals

    abbrev parts : ImageParts
    parts = parts_of p places t initial sites labels

    counted : length procs ≡ length p.procs
    counted = rows_counted p.procs places t.procedures t.landings given.frames given.text.count given.text.counts

    few_links : 2 * length labels ≤ 1000000
    few_links =
        let tokens = given.room.tokens in
        omega (arith, few, exports_counted p.labels (label_addresses p), tokens)

    procedures_hold : AreRows (λ previous. (procedure (length t.code) previous).Holds) None procs
    procedures_hold =
        table_holds p (length t.code) room None 0 p.procs places t.procedures t.landings (λ code less. refl) given.range.procedures given.frames given.text.procedures
        given.text.ascending given.text.landings procedure_names

    labels_keep : AreRows (λ previous. (label (length initial) previous).Holds) None labels
    labels_keep =
        subst (λ (n : ℕ). AreRows (λ previous. (label n previous).Holds) None labels) (sym size)
        (labels_hold (length d.bytes) None labels data_room label_names (labels_in_data labels are) are.ascending)

    globals_keep : AreRows (λ previous. (global previous).Holds) None globals
    globals_keep = globals_hold None p.globals given.range.register_names global_names given.globals

    abbrev IsProgramRow : SiteRow → Type 0
    IsProgramRow row = IsRow (value_at t.procedures d.addresses) p.procs places t.landings t.sites row

    abbrev IsValid : SiteRow → Type 0
    IsValid row = (site (length t.code) procs None).Holds row

    program_rows : All IsProgramRow sites
    program_rows =
        let value = value_at t.procedures d.addresses in
        All-permutation IsProgramRow (site_rows value p.procs places t.landings t.sites) sites are_sites.same (rows_are value p.procs places t.landings t.sites)

    sites_valid : All IsValid sites
    sites_valid =
        let value = value_at t.procedures d.addresses in
        all_from_get IsValid sites (λ i row is.
        row_holds p places t value room given.range.procedure_count given.range.procedures given.frames given.text given.spans row
        (all_get IsProgramRow sites i row program_rows is) (all_get HasSmallSpans sites i row small_spans is))

    sites_keep : AreRows (λ previous. (site (length t.code) procs previous).Holds) None sites
    sites_keep = sites_hold (length t.code) procs None 0 sites (λ address less. refl) are_sites.ascending sites_valid

    sites_cost : sum_by row_cost sites ≤ 129 * sum_by (λ q. sum_by site_measure q.sites) p.procs + 56000000
    sites_cost =
        let value = value_at t.procedures d.addresses in
        let variables = given.range.site_variables in
        let spans = given.range.site_spans in
        omega (
          arith,
          sum_by-IsPermutation row_cost (site_rows value p.procs places t.landings t.sites) sites are_sites.same,
          rows_cost value 0 p.procs places t.landings t.sites,
          variables,
          spans,
        )

    procedures_long : length (flat_map (procedure (length t.code) None).spelled procs) + 129 * sum_by (λ q. sum_by site_measure q.sites) p.procs
        ≤ 334 * length p.procs + 129 * sum_by (λ q. q.tokens) p.procs
    procedures_long = table_long p (length t.code) None p.procs places t.procedures t.landings given.range.procedures given.text.count given.text.counts given.frames procedures_hold

    few_sites : length sites ≤ 2000000
    few_sites =
        let tokens = given.room.tokens in
        let count = given.range.procedure_count in
        omega (arith, rows_few sites, sites_cost, procedures_long, tokens, count)

    header_holds : header.Holds (image_header parts)
    header_holds =
        let rows = counted in
        let main = given.range.main in
        let count = given.range.procedure_count in
        let registers : length globals ≤ 256 = omega (arith, length-map p.globals global_row, given.range.registers) in
        let most : length initial ≤ DATA_LENGTH_LIMIT = omega (arith, size, data_room) in (
          (omega arith, (refl, tt)),
          (
            (omega arith, (refl, tt)),
            (
              (omega (arith, room), (given.text.size, tt)),
              (
                (omega (arith, most), (le-leb _ _ most, tt)),
                (
                  (omega (arith, address_small (length t.code) t.start room given.text.start), (given.text.start, tt)),
                  (
                    (omega (arith, address_small (length t.code) t.last room given.text.last), (given.text.last, tt)),
                    (
                      (
                        omega (arith, rows, count),
                        (and_from (nat_le 1 (length procs)) (nat_le (length procs) 65535) (le-leb _ _ (omega (arith, rows, main))) (le-leb _ _ (omega (arith, rows, count))), tt),
                      ),
                      (
                        omega (arith, few_sites),
                        (
                          omega (arith, few_links),
                          (
                            (omega (arith, registers), (le-leb _ _ registers, tt)),
                            ((omega (arith, main, count), (lt-ltb _ _ (omega (arith, rows, main)), tt)), (omega arith, (refl, tt))),
                          ),
                        ),
                      ),
                    ),
                  ),
                ),
              ),
            ),
          ),
        )

    -- each variable has one place in its procedure, so that version 2 spells the tables
    tables_hold : (second_tables (length t.code) (length procs) (length sites)).Holds (procs, sites)
    tables_hold =
        first_keeps_second (length t.code) (length procs) (length sites) (procs, sites) (omega (arith, few_sites)) ((refl, procedures_hold), (refl, sites_keep))
        (sites_have_one_place (value_at t.procedures d.addresses) p.procs places t.landings t.sites sites program_rows)

    fields_hold : image.Holds parts
    fields_hold = (header_holds, ((refl, code_bytes), ((refl, data_bytes), (tables_hold, ((refl, labels_keep), (refl, globals_keep))))))

    short : length (image.spelled parts) ≤ IMAGE_LIMIT
    short =
        let globals_part = flat_map (global None).spelled globals in
        let labels_part = flat_map (label (length initial) None).spelled labels in
        let procs_part = flat_map (procedure (length t.code) None).spelled procs in
        let symbols = labels_part ++ globals_part in
        let sites_part = flat_map (site (length t.code) procs None).spelled sites in
        let tables_part = (second_tables (length t.code) (length procs) (length sites)).spelled (procs, sites) in
        let from_tables = tables_part ++ symbols in
        let code = given.room.code in
        let tokens = given.room.tokens in
        let count = given.range.procedure_count in
        omega (
          arith,
          length-append (header.spelled (image_header parts)) (t.code ++ (initial ++ from_tables)),
          header_long parts,
          length-append t.code (initial ++ from_tables),
          code,
          length-append initial from_tables,
          size,
          data_room,
          length-append tables_part symbols,
          second_is_short (length t.code) (length procs) (length sites) (procs, sites) tables_hold,
          added_long p (length t.code) p.procs places t.procedures t.landings given.range.procedures,
          length-append procs_part sites_part,
          procedures_long,
          sites_long (length t.code) procs sites sites_valid,
          sites_cost,
          count,
          tokens,
          length-append labels_part globals_part,
          labels_long (length initial) labels labels_keep,
          few,
          exports_counted p.labels (label_addresses p),
          globals_long globals globals_keep,
          length-map p.globals global_row,
          given.range.registers,
        )

    parts_are_image : IsImage parts
    parts_are_image = record { fields = fields_hold; short = short }

  pub made_are_image : (i : ImageParts) → AreMade p places d t i → IsImage i
  made_are_image i made =
      subst IsImage (sym (same_parts i (parts_of p places t i.initial i.sites i.labels) made.version made.code refl made.start made.last made.main made.procedures refl refl made.globals))
      (parts_are_image i.initial i.labels made.size made.labels made.few (subst AreBytes made.code made.code_bytes) made.data_bytes
      (subst (All IsNamed) made.procedures made.procedure_names) made.label_names (subst (All IsNamedGlobal) made.globals made.global_names) i.sites made.sites made.small_spans)

-- constants come to the numbers that they have by the placement
value_same : (p : Program) (places : List ProcedurePlaces) (d : DataImage) (t : Text) (placement : Placement) → IsDataOf p d → length t.procedures ≡ length places →
    placement.rows ≡ placement_rows places t.procedures → (c : Constant) → value_at t.procedures d.addresses c ≡ constant_value p placement c
value_same p places d t placement laid count rows (Number n width) = refl
value_same p places d t placement laid count rows (Code proc plus) =
    ap (λ (code : ℕ). (code + plus) % 2 ^ 64)
    (sym (ap (λ (rows : List PlaceRow). (slice_index_or rows proc no_row).code) rows ∙ code_at places t.procedures proc count))
value_same p places d t placement laid count rows (Address label plus) = ap (λ (labels : List ℕ). (slice_index_or labels label 0 + plus) % 2 ^ 64) laid.addresses

-- and they are the image of the program
pub made_are_linked : (p : Program) (places : List ProcedurePlaces) (d : DataImage) (t : Text) (i : ImageParts) → HaveFrames p.procs places → IsDataOf p d → IsText p t →
    AreMade p places d t i → IsImageOf p places t i
made_are_linked p places d t i frames laid text made = record {
  version = made.version;
  code = made.code;
  start = made.start;
  last = made.last;
  main = made.main;
  initial = λ placement rows.
      let count = places_counted p.procs places frames in
      made.initial ∙ filled_by_placement places t.procedures placement d.fixes d.bytes (text.count ∙ sym count) rows ∙ laid.bytes placement;
  procedures = made.procedures;
  sites = λ placement rows.
      let count = places_counted p.procs places frames in
      let same : value_at t.procedures d.addresses ≡ constant_value p placement = fun_ext (value_same p places d t placement laid (text.count ∙ sym count) rows) in
      subst (λ (value : Constant → ℕ). AreSitesOf (site_rows value p.procs places t.landings t.sites) i.sites) same made.sites;
  labels = made.labels;
  globals = made.globals;
}
