-- The rows of an image tell of its program, as walks ask for.
use Rattle.std.proofs.Common.{◌≡◌, ℕ, ◌<◌, ◌≤◌, ◌++◌, ◌&&◌, ◌||◌, nat_lt, Bool, true, false, Option, Some, None, Contains, List, [], ◌∷◌, length, map, slice_get, refl, ap, sym, ◌∙◌, subst, arith}
use Rattle.std.proofs.lemmas.Bool.{and_parts, leb-true, ltb-true}
use Rattle.std.proofs.lemmas.List.Sorted.{Contains-permutation}
use Rattle.std.proofs.lemmas.Option.{same_Some, slice_get_within}
use Rattle.std.proofs.lemmas.Slice.Eq.{bytes_eq-Decides}
use Rattle.std.specs.List.{list_all, zip}
use Rattle.std.specs.Prelude.{bytes_eq, slice_index, slice_index_or}
use Rattle.cmm_words.specs.declared.constant.Constant.{Constant}
use Rattle.cmm_program.specs.declared.procedure.Cont.{Cont}
use Rattle.cmm_program.specs.declared.procedure.Proc.{Proc}
use Rattle.cmm_program.specs.declared.procedure.Site.{Site}
use Rattle.cmm_program.specs.declared.program.Label.{Label}
use Rattle.cmm_program.specs.declared.program.Program.{Program}
use Rattle.cmm_program.specs.Client.{is_linked, linked_label}
use Rattle.cmm_program.specs.Frames.{procedure_at}
use Rattle.cmm_program.specs.InRange.{IsInRange, IsProcInRange, at_most_64, below, is_continuation, is_site}
use Rattle.cmm_program.specs.Layout.{constant_value, label_address}
use Rattle.cmm_program.specs.State.{Setting}
use Rattle.cmm_program.proofs.Shared.{all_get, list_all_get}
use Rattle.rv_table.specs.Memory.{code_base}
use Rattle.cmm_chain.specs.declared.frame.Frame.{Frame}
use Rattle.cmm_chain.specs.declared.frame.Location.{Location}
use Rattle.cmm_located.specs.Layouts.{IsFrameOf}
use Rattle.cmm_graph.specs.declared.graph.Graph.{Graph}
use Rattle.cmm_allocate.specs.Compiling.{compiled, no_frame, no_place}
use Rattle.cmm_allocate.specs.Placing.{placement_rows}
use Rattle.cmm_allocate.specs.declared.procedure.ProcedurePlaces.{ProcedurePlaces}
use Rattle.cmm_image.specs.declared.parts.ImageParts.{ImageParts}
use Rattle.cmm_image.specs.declared.rows.LabelRow.{LabelRow}
use Rattle.cmm_image.specs.declared.rows.ProcRow.{ProcRow}
use Rattle.cmm_image.specs.declared.rows.SiteRow.{SiteRow}
use Rattle.cmm_image.specs.declared.rows.UnwindRow.{UnwindRow}
use Rattle.cmm_image.specs.ImageFormat.{or_none, procedure_at as row_at}
use Rattle.cmm_unit_code.specs.declared.text.Text.{Text}
use Rattle.cmm_unit_code.specs.Texts.{HasLandings, HasSitesAt, IsText, ascend_above}
use Rattle.cmm_tables.specs.ProcedureRows.{procedure_row}
use Rattle.cmm_tables.specs.SiteRows.{continuation_number, local_place, placed_site, unplaced_site, unwind_row}
use Rattle.cmm_emit_laws.specs.Words.{Symbols}
use Rattle.cmm_client_laws.specs.Rows.{HaveLabelRows, HaveRows, HaveSiteRows, rows_ascend, site_row}
use Rattle.cmm_client_laws.specs.Tables.{IsProcedureRow}
use Rattle.cmm_client_laws.proofs.Shared.{procedure_is_told}
use Rattle.cmm_link.specs.Labels.{AreLabelsOf, exports, exports_at, label_names, row_named}
use Rattle.cmm_link.specs.Laws.{HaveAddresses, ImagesHaveRows}
use Rattle.cmm_link.specs.Linked.{AreSitesOf, HaveFrames, IsImageOf}
use Rattle.cmm_link.specs.Rows.{placed_procedure, site_rows}
use Rattle.cmm_link.proofs.FirstLabels.{found_among, found_behind, found_here}
use Rattle.cmm_link.proofs.Frames.{pairs_counted}
use Rattle.cmm_link.proofs.Listed.{at_contained, get_there, index_get, map_get, mapped_get, there_at, zip_get}
use Rattle.cmm_link.proofs.SiteTable.{of_lists, row_there}
use Rattle.cmm_link.proofs.SiteYields.{HasParts, parts_of}

-- ---- labels

module _ (p : Program) (name : List ℕ) where
  abbrev rows_of : ℕ → List (List ℕ) → List LabelRow
  rows_of address links = map (λ name. record { name = name; address = address }) links

  in_links : (address : ℕ) (links : List (List ℕ)) (rest : List LabelRow) → is_linked name links ≡ true →
      row_named (rows_of address links ++ rest) name ≡ Some record { name = name; address = address }
  in_links address [] rest is = absurd (cc (is))
  in_links address (link ∷ links) rest is = by (bytes_eq name link) refl is (in_links address links rest)
    where
      by : (b : Bool) → bytes_eq name link ≡ b → (b || is_linked name links) ≡ true →
          (is_linked name links ≡ true → row_named (rows_of address links ++ rest) name ≡ Some record { name = name; address = address }) →
          row_named (rows_of address (link ∷ links) ++ rest) name ≡ Some record { name = name; address = address }
      by true here linked later =
          let same : name ≡ link = (bytes_eq-Decides name link).0 here in
          found_here name record { name = link; address = address } (rows_of address links ++ rest) here
          ∙ ap (λ (name : List ℕ). let row : Option LabelRow = Some record { name = name; address = address } in row) (sym same)
      by false here linked later = found_behind name record { name = link; address = address } (rows_of address links ++ rest) here ∙ later linked

  not_in_links : (address : ℕ) (links : List (List ℕ)) (rest : List LabelRow) → is_linked name links ≡ false → row_named (rows_of address links ++ rest) name ≡ row_named rest name
  not_in_links address [] rest is = refl
  not_in_links address (link ∷ links) rest is = by (bytes_eq name link) refl is (not_in_links address links rest)
    where
      by : (b : Bool) → bytes_eq name link ≡ b → (b || is_linked name links) ≡ false →
          (is_linked name links ≡ false → row_named (rows_of address links ++ rest) name ≡ row_named rest name) →
          row_named (rows_of address (link ∷ links) ++ rest) name ≡ row_named rest name
      by true here linked later = absurd (cc (linked))
      by false here linked later = found_behind name record { name = link; address = address } (rows_of address links ++ rest) here ∙ later linked

  record IsNamedAlike (labels : List Label) : Type 0 where
    pub found : (row : LabelRow) → row_named (exports_at labels (map (label_address p) labels)) name ≡ Some row →
        (l : Label) × (linked_label name labels ≡ Some l) × (row.address ≡ label_address p l)
    pub there : (l : Label) → linked_label name labels ≡ Some l →
        row_named (exports_at labels (map (label_address p) labels)) name ≡ Some record { name = name; address = label_address p l }

  named_alike : (labels : List Label) → IsNamedAlike labels
  named_alike [] = record { found = λ row is. absurd (cc (is)); there = λ l is. absurd (cc (is)) }
  named_alike (l ∷ ls) = by (is_linked name l.links) refl (named_alike ls)
    where
      first_is : (b : Bool) → is_linked name l.links ≡ b → linked_label name (l ∷ ls) ≡ elim b as (λ _. Option Label) [ true ↦ Some l | false ↦ linked_label name ls ]
      first_is b is = ap (λ (b : Bool). elim b as (λ _. Option Label) [ true ↦ Some l | false ↦ linked_label name ls ]) is

      by : (b : Bool) → is_linked name l.links ≡ b → IsNamedAlike ls → IsNamedAlike (l ∷ ls)
      by true linked others =
          let here = in_links (label_address p l) l.links (exports_at ls (map (label_address p) ls)) linked in record {
            found = λ row is. (l, first_is true linked, ap (λ (r : LabelRow). r.address) (same_Some _ _ (sym is ∙ here)));
            there = λ m is. let same : l ≡ m = same_Some l m (sym (first_is true linked) ∙ is) in
                here ∙ ap (λ (l : Label). let row : Option LabelRow = Some record { name = name; address = label_address p l } in row) same;
          }
      by false linked others =
          let behind = not_in_links (label_address p l) l.links (exports_at ls (map (label_address p) ls)) linked in record {
            found = λ row is. let m = others.found row (sym behind ∙ is) in (m.0, first_is false linked ∙ m.1, m.2);
            there = λ m is. behind ∙ others.there m (sym (first_is false linked) ∙ is);
          }

labels_tell : (p : Program) (rows : List LabelRow) → AreLabelsOf (exports p) rows → HaveLabelRows p rows
labels_tell p rows are = record {
  each = λ k row is. (named_alike p row.name p.labels).found row (all_get (λ row. row_named (exports p) row.name ≡ Some row) rows k row are.first is);
  every = λ name l is.
      let there = found_among (exports p) name record { name = name; address = label_address p l } ((named_alike p name p.labels).there l is) in
      let among = at_contained (label_names rows) name (all_get (λ export. Contains (label_names rows) export.name) (exports p) there.0 record { name = name; address = label_address p l } are.every there.1) in
      let row = mapped_get (λ (row : LabelRow). row.name) rows among.0 name among.1 in (among.0, row.0, row.1, row.2);
}

-- ---- sites

ascend_alike : (before : ℕ) (rows : List SiteRow) → ascend_above before (map (λ row. row.return_address) rows) ≡ rows_ascend before rows
ascend_alike before [] = refl
ascend_alike before (row ∷ rows) = ap (λ (b : Bool). nat_lt before row.return_address && b) (ascend_alike row.return_address rows)

unwinds_alike : (f g : ℕ → ℕ) (count : ℕ) (ks : List ℕ) → list_all (below count) ks ≡ true → ((k : ℕ) → k < count → f k ≡ g k) →
    map (unwind_row f) (map continuation_number ks) ≡ map (unwind_row g) (map continuation_number ks)
unwinds_alike f g count [] are same = refl
unwinds_alike f g count (k ∷ ks) are same =
    let both = and_parts (nat_lt k count) (list_all (below count) ks) are in
    let one : unwind_row f (continuation_number k) ≡ unwind_row g (continuation_number k) =
    ap (λ (n : ℕ). let row : UnwindRow = record { continuation = continuation_number k; landing = n } in row) (same k (ltb-true k count both.0))
    in
    ap (λ (u : UnwindRow). u ∷ map (unwind_row f) (map continuation_number ks)) one
    ∙ ap (λ (us : List UnwindRow). unwind_row g (continuation_number k) ∷ us) (unwinds_alike f g count ks both.1 same)

placed_alike : (f g : ℕ → ℕ) (value : Constant → ℕ) (address : ℕ) (p : Proc) (place : ℕ → Location) (q n : ℕ) (site : Site) → list_all (below (length p.conts)) site.unwinds ≡ true →
    ((k : ℕ) → k < length p.conts → f k ≡ g k) → placed_site f value address (unplaced_site p place q n site) ≡ placed_site g value address (unplaced_site p place q n site)
placed_alike f g value address p place q n site are same =
    ap (λ (us : List UnwindRow). record (placed_site f value address (unplaced_site p place q n site)) { unwinds = us }) (unwinds_alike f g (length p.conts) site.unwinds are same)

-- ---- an image

module _
    (s : Setting) (graphs : List Graph) (found : List ProcedurePlaces) (t : Text) (i : ImageParts) (y : Symbols) (range : IsInRange s.program) (frames : HaveFrames s.program.procs found)
    (text : IsText s.program t) (image : IsImageOf s.program found t i) (placed : s.placement.rows ≡ placement_rows found t.procedures) (addresses : HaveAddresses s t y) where
  abbrev procs : List Proc
  procs = s.program.procs

  -- what there is of a procedure
  record HasAll (q : ℕ) (p : Proc) : Type 0 where
    pub k : ProcedurePlaces
    pub is_places : slice_get found q ≡ Some k
    pub laid : IsFrameOf p k.locals k.frame
    pub lands : List ℕ
    pub is_lands : slice_get t.landings q ≡ Some lands
    pub many : length lands ≡ length p.conts
    pub code : ℕ
    pub is_code : slice_get t.procedures q ≡ Some code
    pub own : List ℕ
    pub is_own : slice_get t.sites q ≡ Some own
    pub landed : (j : ℕ) → j < length p.conts → slice_index lands j ≡ y.landing_of q j

  has_all : (q : ℕ) (p : Proc) → procedure_at s q ≡ Some p → HasAll q p
  has_all q p is =
      let count = text.count in
      let k = there_at (λ q k. IsFrameOf q k.locals k.frame) procs found q p frames is in
      let lands = there_at HasLandings procs t.landings q p text.counts is in
      let code = get_there t.procedures q (let less = slice_get_within procs q p is in omega (arith, less, count)) in
      let own = there_at (HasSitesAt (length t.code)) procs t.sites q p text.sites is in record {
        k = k.0;
        is_places = k.1;
        laid = k.2;
        lands = lands.0;
        is_lands = lands.1;
        many = lands.2;
        code = code.0;
        is_code = code.1;
        own = own.0;
        is_own = own.1;
        landed = λ j less. index_get lands.0 j (y.landing_of q j) (of_lists t.landings q j (y.landing_of q j) lands.0 lands.1 (addresses.lands q j p is less));
      }

  proc_in_range : (q : ℕ) (p : Proc) → procedure_at s q ≡ Some p → IsProcInRange s.program p
  proc_in_range q p is = all_get (IsProcInRange s.program) procs q p range.procedures is

  procedures_tell : (q : ℕ) (p : Proc) → procedure_at s q ≡ Some p → IsProcedureRow p ((compiled graphs found).plan.frame q) y q (row_at i.procs q)
  procedures_tell q p is =
      let all = has_all q p is in
      let at_q =
      zip_get procs (zip found (zip t.procedures t.landings)) q p (all.k, (all.code, all.lands)) is
      (zip_get found (zip t.procedures t.landings) q all.k (all.code, all.lands) all.is_places (zip_get t.procedures t.landings q all.code all.lands all.is_code all.is_lands))
      in
      let row : row_at i.procs q ≡ procedure_row p all.k.frame all.code all.lands =
      ap (λ (rows : List ProcRow). row_at rows q) image.procedures
      ∙ ap or_none (map_get placed_procedure (zip procs (zip found (zip t.procedures t.landings))) q (p, (all.k, (all.code, all.lands))) at_q)
      in
      let frame : (compiled graphs found).plan.frame q ≡ all.k.frame =
      ap (λ (o : Option ProcedurePlaces). elim o as (λ _. Frame) [ Some k ↦ k.frame | None ↦ no_frame ]) all.is_places in
      let few : (j : ℕ) (cont : Cont) → slice_get p.conts j ≡ Some cont → length cont.params ≤ 64 =
      λ j cont there.
      leb-true (length cont.params) 64
      (and_parts (at_most_64 cont.params) (list_all (below (length p.vars)) cont.params) (list_all_get (is_continuation s.program p) p.conts j cont (proc_in_range q p is).continuations there)).0
      in
      subst (λ (f : Frame). IsProcedureRow p f y q (row_at i.procs q)) (sym frame)
      (subst (λ (r : ProcRow). IsProcedureRow p all.k.frame y q r) (sym row)
      (procedure_is_told p all.k.frame y q all.code all.lands (pairs_counted p all.k.frame (all.laid.placed code_base refl)) all.many (λ j less. sym (all.landed j less)) few))

  own_parts : (q n : ℕ) (p : Proc) (site : Site) → procedure_at s q ≡ Some p → slice_get p.sites n ≡ Some site → HasParts p site
  own_parts q n p site is_p there = (parts_of s.program p site (list_all_get (is_site s.program p) p.sites n site (proc_in_range q p is_p).sites there)).0

  are_sites : AreSitesOf (site_rows (constant_value s.program s.placement) procs found t.landings t.sites) i.sites
  are_sites = image.sites s.placement placed

  row_among : (q n : ℕ) (p : Proc) (site : Site) → procedure_at s q ≡ Some p → slice_get p.sites n ≡ Some site → Contains i.sites (site_row s (compiled graphs found) y q n p site)
  row_among q n p site is_p is_site =
      let all = has_all q p is_p in
      let value = constant_value s.program s.placement in
      let address = of_lists t.sites q n (y.return_to q n) all.own all.is_own (addresses.returns q n p is_p (slice_get_within p.sites n site is_site)) in
      let row = row_there value procs found t.landings t.sites q n p site all.k all.lands (y.return_to q n) is_p all.is_places all.is_lands is_site all.own all.is_own address in
      let unwinds = (own_parts q n p site is_p is_site).unwinds_below in
      let place_at : Option ProcedurePlaces → ℕ → Location = λ o v. elim o as (λ _. Location) [ Some k ↦ slice_index_or k.locals v no_place | None ↦ no_place ] in
      let same : placed_site (λ k. slice_index all.lands k) value (y.return_to q n) (unplaced_site p (local_place all.k.locals) q n site)
      ≡ site_row s (compiled graphs found) y q n p site =
      placed_alike (λ k. slice_index all.lands k) (λ k. y.landing_of q k) value (y.return_to q n) p (local_place all.k.locals) q n site unwinds all.landed
      ∙ ap (λ (o : Option ProcedurePlaces). placed_site (λ k. y.landing_of q k) value (y.return_to q n) (unplaced_site p (place_at o) q n site)) (sym all.is_places)
      in
      subst (Contains i.sites) same
      (Contains-permutation (site_rows value procs found t.landings t.sites) i.sites
      (placed_site (λ k. slice_index all.lands k) value (y.return_to q n) (unplaced_site p (local_place all.k.locals) q n site)) are_sites.same row)

  sites_tell : HaveSiteRows s (compiled graphs found) y i.sites
  sites_tell = record {
    ascending = sym (ascend_alike 0 i.sites) ∙ are_sites.ascending;
    each = λ q n p site is_p is_site. at_contained i.sites (site_row s (compiled graphs found) y q n p site) (row_among q n p site is_p is_site);
    few = λ q n p site is_p is_site. (own_parts q n p site is_p is_site).results;
    cuts = λ q n p site is_p is_site. (own_parts q n p site is_p is_site).cuts_below;
  }

  rows_tell : HaveRows s (compiled graphs found) y i
  rows_tell = record {
    procedures = procedures_tell;
    sites = sites_tell;
    labels = labels_tell s.program i.labels image.labels;
    data_length = ap (λ (bytes : List ℕ). length bytes) (image.initial s.placement placed);
    last = image.last ∙ sym addresses.last;
  }

pub images_have : ImagesHaveRows
images_have s graphs found t i y range frames text image placed addresses = rows_tell s graphs found t i y range frames text image placed addresses
