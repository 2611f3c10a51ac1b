-- The rows of exported labels and of global registers keep the conditions of an image.
use Rattle.std.proofs.Common.{◌≡◌, ℕ, ◌+◌, ◌<◌, ◌≤◌, ◌&&◌, ◌++◌, nat_le, true, Option, Some, All, List, [], ◌∷◌, length, map, flat_map, refl, ap, sym, ◌∙◌, arith}
use Rattle.std.proofs.lemmas.Bool.{and_from, and_parts, le-leb}
use Rattle.std.proofs.lemmas.List.{append-nil, append_assoc, length-append, length-map, map-append}
use Rattle.std.proofs.lemmas.List.Elements.{All-append, All-cons, All-head, All-nil, All-tail}
use Rattle.std.proofs.lemmas.List.Sums.{sum_by-cons}
use Rattle.std.specs.List.{list_all}
use Rattle.std.specs.Option.{option_map}
use Rattle.std.specs.Prelude.{sum_by}
use Rattle.rv_table.specs.declared.memory_map.TheConstants.{DATA_BASE, DATA_LENGTH_LIMIT}
use Rattle.cmm_program.specs.declared.program.Global.{Global}
use Rattle.cmm_program.specs.declared.program.Label.{Label}
use Rattle.cmm_program.specs.declared.program.Program.{Program}
use Rattle.cmm_program.specs.InRange.{is_label, is_name}
use Rattle.cmm_data.specs.Laws.{LiesInData}
use Rattle.cmm_image.specs.declared.rows.GlobalRow.{GlobalRow}
use Rattle.cmm_image.specs.declared.rows.LabelRow.{LabelRow}
use Rattle.cmm_format.specs.Formats.{AreRows}
use Rattle.cmm_image.specs.ImageFormat.{global, is_after, is_in_data, label}
use Rattle.cmm_link.specs.Labels.{ascend_after, exports_at, label_exports, label_names}
use Rattle.cmm_image_machine.specs.Tables.{global_row}
use Rattle.cmm_link.specs.inside.Named.{IsNamedGlobal, IsNamedLabel}
use Rattle.cmm_link.proofs.ProcedureRows.{name_short, width_holds}

-- ---- what is exported

module _ (p : Program) where
  pub record IsExport (row : LabelRow) : Type 0 where
    pub short : is_name row.name ≡ true
    pub address : LiesInData p row.address

  links_fit : (links : List (List ℕ)) (address : ℕ) → list_all is_name links ≡ true → LiesInData p address → All IsExport (map (λ name. record { name = name; address = address }) links)
  links_fit [] address names lies = All-nil IsExport
  links_fit (link ∷ links) address names lies =
      let both = and_parts (is_name link) (list_all is_name links) names in
      All-cons IsExport record { name = link; address = address } (map (λ name. record { name = name; address = address }) links) record { short = both.0; address = lies }
      (links_fit links address both.1 lies)

  pub exports_fit : (labels : List Label) (addresses : List ℕ) → list_all (is_label p) labels ≡ true → All (LiesInData p) addresses → All IsExport (exports_at labels addresses)
  exports_fit [] addresses are lie = All-nil IsExport
  exports_fit (l ∷ ls) [] are lie = All-nil IsExport
  exports_fit (l ∷ ls) (address ∷ addresses) are lie =
      let both = and_parts (is_label p l) (list_all (is_label p) ls) are in
      let named = and_parts (is_name l.name && list_all is_name l.links) _ both.0 in
      let links = and_parts (is_name l.name) (list_all is_name l.links) named.0 in
      All-append IsExport (label_exports (l, address)) (exports_at ls addresses) (links_fit l.links address links.1 (All-head (LiesInData p) address addresses lie))
      (exports_fit ls addresses both.1 (All-tail (LiesInData p) address addresses lie))

pub exports_counted : (labels : List Label) (addresses : List ℕ) → length (exports_at labels addresses) ≤ sum_by (λ l. length l.links) labels
exports_counted [] addresses = omega arith
exports_counted (l ∷ ls) [] = omega arith
exports_counted (l ∷ ls) (address ∷ addresses) =
    omega (
      arith,
      length-append (label_exports (l, address)) (exports_at ls addresses),
      length-map l.links (λ (name : List ℕ). let row : LabelRow = record { name = name; address = address } in row),
      sum_by-cons (λ (l : Label). length l.links) l ls,
      exports_counted ls addresses,
    )

-- ---- rows

pub record IsInData (data_length : ℕ) (row : LabelRow) : Type 0 where
  pub short : length row.name < 256
  pub from : DATA_BASE ≤ row.address
  pub to : row.address ≤ DATA_BASE + data_length

in_data : (data_length address : ℕ) → DATA_BASE ≤ address → address ≤ DATA_BASE + data_length → is_in_data data_length address ≡ true
in_data data_length address from to = and_from (nat_le DATA_BASE address) (nat_le address (DATA_BASE + data_length)) (le-leb _ _ from) (le-leb _ _ to)

pub labels_hold : (data_length : ℕ) (previous : Option LabelRow) (rows : List LabelRow) → data_length ≤ DATA_LENGTH_LIMIT → All IsNamedLabel rows →
    All (IsInData data_length) rows → ascend_after (option_map (λ l. l.name) previous) (label_names rows) ≡ true →
    AreRows (λ previous. (label data_length previous).Holds) previous rows
labels_hold data_length previous [] room named are ascend = tt
labels_hold data_length previous (row ∷ rows) room named are ascend =
    let here : IsInData data_length row = All-head (IsInData data_length) row rows are in
    let up = and_parts (is_after (option_map (λ l. l.name) previous) row.name) (ascend_after (Some row.name) (label_names rows)) ascend in (
      (
        ((here.short, All-head IsNamedLabel row rows named), (up.0, tt)),
        (omega (arith, room, here.to), (in_data data_length row.address here.from here.to, tt)),
      ),
      labels_hold data_length (Some row) rows room (All-tail IsNamedLabel row rows named) (All-tail (IsInData data_length) row rows are) up.1,
    )

pub globals_hold : (previous : Option GlobalRow) (globals : List Global) → list_all (λ g. is_name g.name) globals ≡ true → All IsNamedGlobal (map global_row globals) →
    ascend_after (option_map (λ g. g.name) previous) (map (λ g. g.name) globals) ≡ true →
    AreRows (λ previous. (global previous).Holds) previous (map global_row globals)
globals_hold previous [] names named ascend = tt
globals_hold previous (g ∷ gs) names named ascend =
    let both = and_parts (is_name g.name) (list_all (λ g. is_name g.name) gs) names in
    let up = and_parts (is_after (option_map (λ g. g.name) previous) g.name) (ascend_after (Some g.name) (map (λ g. g.name) gs)) ascend in (
      (width_holds g.width, ((name_short g.name both.0, All-head IsNamedGlobal (global_row g) (map global_row gs) named), (up.0, tt))),
      globals_hold (Some (global_row g)) gs both.1 (All-tail IsNamedGlobal (global_row g) (map global_row gs) named) up.1,
    )

-- ---- lists that are made one by one

pub flat_pushed : {A B : Type 0} (f : A → List B) (xs : List A) (x : A) → flat_map f (xs ++ x ∷ []) ≡ flat_map f xs ++ f x
flat_pushed f [] x = append-nil (f x)
flat_pushed f (y ∷ ys) x = ap (λ rest. f y ++ rest) (flat_pushed f ys x) ∙ sym (append_assoc (f y) (flat_map f ys) (f x))

pub flat_mapped : {A B C : Type 0} (g : A → B) (f : B → List C) (xs : List A) → flat_map (λ x. f (g x)) xs ≡ flat_map f (map g xs)
flat_mapped g f [] = refl
flat_mapped g f (x ∷ xs) = ap (λ rest. f (g x) ++ rest) (flat_mapped g f xs)

pub map_pushed : {A B : Type 0} (f : A → B) (xs : List A) (x : A) (rows : List B) (row : B) → rows ≡ map f xs → row ≡ f x → rows ++ row ∷ [] ≡ map f (xs ++ x ∷ [])
map_pushed f xs x rows row so_far is = ap (λ rows. rows ++ row ∷ []) so_far ∙ ap (λ row. map f xs ++ row ∷ []) is ∙ sym (map-append f xs (x ∷ []))
