-- The rows of sites are found by their return addresses, and say what the tables are asked.
use Rattle.std.proofs.Common.{◌≡◌, ℕ, zero, suc, ◌+◌, ◌<◌, ◌≤◌, ◌==◌, Bool, true, false, List, [], ◌∷◌, map, length, Option, Some, None, refl, sym, ap, ◌∙◌, subst, arith}
use Rattle.std.proofs.lemmas.Slice.Eq.{bytes_eq-Decides}
use Rattle.cmm_image_machine.specs.Changes.{label_named}
use Rattle.cmm_image_machine.specs.Laws.{KeepFrames}
use Rattle.cmm_image.specs.declared.rows.LabelRow.{LabelRow}
use Rattle.cmm_program.specs.declared.program.Label.{Label}
use Rattle.cmm_program.specs.declared.program.Program.{Program}
use Rattle.cmm_program.specs.Client.{linked_label}
use Rattle.std.specs.Prelude.{bytes_eq, find, nat_lt, slice_get, slice_index_or}
use Rattle.std.specs.List.{AllZip}
use Rattle.std.proofs.lemmas.Bool.{and_parts}
use Rattle.std.proofs.lemmas.Bool.Decides.{nat_tests}
use Rattle.std.proofs.lemmas.Option.{same_Some}
use Rattle.cmm_program.specs.declared.procedure.Cont.{Cont}
use Rattle.cmm_program.specs.declared.procedure.Proc.{Proc}
use Rattle.cmm_chain.specs.declared.frame.Frame.{Frame}
use Rattle.cmm_image.specs.declared.rows.ContinuationRow.{ContinuationRow}
use Rattle.cmm_image.specs.declared.rows.VariableNumber.{VariableNumber}
use Rattle.cmm_program.specs.declared.procedure.Site.{Site}
use Rattle.cmm_program.specs.Frames.{procedure_at}
use Rattle.cmm_program.specs.State.{Setting}
use Rattle.cmm_image.specs.declared.parts.ImageParts.{ImageParts}
use Rattle.cmm_image.specs.declared.rows.SiteRow.{SiteRow}
use Rattle.cmm_image_machine.specs.Frames.{site_at}
use Rattle.cmm_emit_laws.specs.Words.{Symbols}
use Rattle.cmm_located.specs.Compiled.{Compiled}
use Rattle.cmm_tables.specs.ProcedureRows.{continuation_row, continuation_rows, parameter_row, procedure_row}
use Rattle.cmm_tables.specs.SiteRows.{continuation_number, unwind_row}
use Rattle.cmm_client_laws.specs.Rows.{HaveLabelRows, HaveRows, HaveSiteRows, rows_ascend, site_row}
use Rattle.cmm_client_laws.specs.Tables.{HaveTables, IsContinuationRow, IsProcedureRow, IsSiteRow, IsUnwindRow}
use Rattle.cmm_image_machine.specs.Tables.{IsLabelRow}

-- in ascending rows those behind are above
above : (rows : List SiteRow) (before k : ℕ) (row : SiteRow) → rows_ascend before rows ≡ true → slice_get rows k ≡ Some row → before < row.return_address
above [] before k row ascend is = absurd (cc)
above (first ∷ rows) before zero row ascend is =
    let both = and_parts (nat_lt before first.return_address) (rows_ascend first.return_address rows) ascend in
    let same : first ≡ row = same_Some first row is in
    let less : before < first.return_address = grind (arith, nat_tests, both.0) in
    subst (λ (r : SiteRow). before < r.return_address) same less
above (first ∷ rows) before (suc k) row ascend is =
    let both = and_parts (nat_lt before first.return_address) (rows_ascend first.return_address rows) ascend in
    let less : before < first.return_address = grind (arith, nat_tests, both.0) in
    let more = above rows first.return_address k row both.1 is in omega (arith, less, more)

-- so each row is found by its return address
here_found : {A : Type 0} (p : A → Bool) (x : A) (xs : List A) → p x ≡ true → find p (x ∷ xs) ≡ Some x
here_found p x xs is = rw is refl

behind_found : {A : Type 0} (p : A → Bool) (x : A) (xs : List A) → p x ≡ false → find p (x ∷ xs) ≡ find p xs
behind_found p x xs is = rw is refl

row_found : (rows : List SiteRow) (before k : ℕ) (row : SiteRow) → rows_ascend before rows ≡ true → slice_get rows k ≡ Some row →
    find (λ s. s.return_address == row.return_address) rows ≡ Some row
row_found [] before k row ascend is = absurd (cc)
row_found (first ∷ rows) before zero row ascend is =
    let same : first ≡ row = same_Some first row is in
    let addresses : first.return_address ≡ row.return_address = ap (λ (r : SiteRow). r.return_address) same in
    let equal : (first.return_address == row.return_address) ≡ true = grind (arith, nat_tests, addresses) in
    here_found (λ s. s.return_address == row.return_address) first rows equal ∙ ap (λ (r : SiteRow). Some r) same
row_found (first ∷ rows) before (suc k) row ascend is =
    let both = and_parts (nat_lt before first.return_address) (rows_ascend first.return_address rows) ascend in
    let more = above rows first.return_address k row both.1 is in
    let differ : (first.return_address == row.return_address) ≡ false = grind (arith, nat_tests, more) in
    behind_found (λ s. s.return_address == row.return_address) first rows differ ∙ row_found rows first.return_address k row both.1 is

unwinds_are : (y : Symbols) (q : ℕ) (ks : List ℕ) → AllZip (λ k u. IsUnwindRow y q k u) ks (map (unwind_row (λ k. y.landing_of q k)) (map continuation_number ks))
unwinds_are y q [] = tt
unwinds_are y q (k ∷ ks) = (record { continuation = refl; landing = refl }, unwinds_are y q ks)

-- so the tables say of sites what is asked of them
pub sites_are_told : (s : Setting) (c : Compiled) (y : Symbols) (i : ImageParts) → HaveSiteRows s c y i.sites → (q n : ℕ) (p : Proc) (site : Site) → procedure_at s q ≡ Some p →
    slice_get p.sites n ≡ Some site → (row : SiteRow) × (site_at i (y.return_to q n) ≡ Some row) × IsSiteRow s c y q n p site row
sites_are_told s c y i have q n p site is_p is_site =
    let there = have.each q n p site is_p is_site in (
      site_row s c y q n p site,
      row_found i.sites 0 there.0 (site_row s c y q n p site) have.ascending there.1,
      record {
        procedure = refl;
        number = refl;
        never_returns = refl;
        yield_values = refl;
        results = refl;
        few = have.few q n p site is_p is_site;
        returns = refl;
        unwinds = unwinds_are y q site.unwinds;
        cuts = refl;
        cuts_there = have.cuts q n p site is_p is_site;
        variables = refl;
        spans = refl;
      },
    )

-- ---- procedures

parameters_are : (vs : List ℕ) → map (λ (v : VariableNumber). v.0) (map parameter_row vs) ≡ vs
parameters_are [] = refl
parameters_are (v ∷ vs) = ap (λ (l : List ℕ). v ∷ l) (parameters_are vs)

-- the row of a continuation is where its pair and its landing are
continuation_there : (y : Symbols) (f : Frame) (q first : ℕ) (conts : List Cont) (pairs landings : List ℕ) → length pairs ≡ length conts → length landings ≡ length conts →
    ((k : ℕ) → k < length conts → (slice_index_or f.pairs (first + k) 0 ≡ slice_index_or pairs k 0) × (y.landing_of q (first + k) ≡ slice_index_or landings k 0)) →
    ((k : ℕ) (cont : Cont) → slice_get conts k ≡ Some cont → length cont.params ≤ 64) → (k : ℕ) (cont : Cont) → slice_get conts k ≡ Some cont →
    (c : ContinuationRow) × (slice_get (continuation_rows conts pairs landings) k ≡ Some c) × IsContinuationRow f y q (first + k) cont c
continuation_there y f q first [] pairs landings many also each few k cont is = absurd (cc)
continuation_there y f q first (cont ∷ conts) (pair ∷ pairs) (landing ∷ landings) many also each few zero other is =
    let same : cont ≡ other = same_Some cont other is in
    let here = each 0 (omega arith) in (
      continuation_row (cont, (pair, landing)),
      refl,
      subst (λ (z : Cont). IsContinuationRow f y q (first + 0) z (continuation_row (cont, (pair, landing)))) same (record {
        pair = sym here.0;
        code = sym here.1;
        parameters = parameters_are cont.params;
        few = few 0 cont refl;
      }),
    )
continuation_there y f q first (cont ∷ conts) (pair ∷ pairs) (landing ∷ landings) many also each few (suc k) other is =
    let more : suc first + k ≡ first + suc k = omega arith in
    let there = continuation_there y f q (suc first) conts pairs landings (omega (arith, many)) (omega (arith, also))
    (λ j less. let on : first + suc j ≡ suc first + j = omega arith in
    let have = each (suc j) (omega (arith, less)) in
    (subst (λ (i : ℕ). slice_index_or f.pairs i 0 ≡ slice_index_or pairs j 0) on have.0, subst (λ (i : ℕ). y.landing_of q i ≡ slice_index_or landings j 0) on have.1))
    (λ j z is_z. few (suc j) z is_z) k other is in
    (there.0, there.1, subst (λ (i : ℕ). IsContinuationRow f y q i other there.0) more there.2)
continuation_there y f q first (cont ∷ conts) [] landings many also each few k other is = absurd (omega (arith, many))
continuation_there y f q first (cont ∷ conts) (pair ∷ pairs) [] many also each few k other is = absurd (omega (arith, also))

none_behind : (conts : List Cont) (pairs landings : List ℕ) (k : ℕ) → slice_get conts k ≡ None → slice_get (continuation_rows conts pairs landings) k ≡ None
none_behind [] pairs landings k is = refl
none_behind (cont ∷ conts) [] landings k is = refl
none_behind (cont ∷ conts) (pair ∷ pairs) [] k is = refl
none_behind (cont ∷ conts) (pair ∷ pairs) (landing ∷ landings) zero is = absurd (cc)
none_behind (cont ∷ conts) (pair ∷ pairs) (landing ∷ landings) (suc k) is = none_behind conts pairs landings k is

-- so the row of a procedure says what is asked of it
pub procedure_is_told : (p : Proc) (f : Frame) (y : Symbols) (q code : ℕ) (landings : List ℕ) → length f.pairs ≡ length p.conts → length landings ≡ length p.conts →
    ((k : ℕ) → k < length p.conts → y.landing_of q k ≡ slice_index_or landings k 0) → ((k : ℕ) (cont : Cont) → slice_get p.conts k ≡ Some cont → length cont.params ≤ 64) →
    IsProcedureRow p f y q (procedure_row p f code landings)
procedure_is_told p f y q code landings many also lands few = record {
  name = refl;
  frame = refl;
  return_at = refl;
  saved = refl;
  variables = refl;
  continuations = λ k cont is.
      let none : 0 + k ≡ k = omega arith in
      let there = continuation_there y f q 0 p.conts f.pairs landings many also (λ j less. let one : 0 + j ≡ j = omega arith in
      (ap (λ (i : ℕ). slice_index_or f.pairs i 0) one, ap (y.landing_of q) one ∙ lands j less)) few k cont is in
      (there.0, there.1, subst (λ (i : ℕ). IsContinuationRow f y q i cont there.0) none there.2);
  no_more = λ k is. none_behind p.conts f.pairs landings k is;
}

-- ---- labels

pub record FindsThat {A : Type 0} (p : A → Bool) (xs : List A) (x : A) : Type 0 where
  pub place : ℕ
  pub there : slice_get xs place ≡ Some x
  pub is : p x ≡ true

pub finds_that : {A : Type 0} (p : A → Bool) (xs : List A) (x : A) → find p xs ≡ Some x → FindsThat p xs x
finds_that p [] x is = absurd (cc)
finds_that {A = A} p (y ∷ xs) x is = by (p y) refl (λ rest. finds_that p xs x rest)
  where
    by : (b : Bool) → p y ≡ b → (find p xs ≡ Some x → FindsThat p xs x) → FindsThat p (y ∷ xs) x
    by true first rest =
        let same : y ≡ x = same_Some y x (sym (here_found p y xs first) ∙ is) in
        record { place = 0; there = ap (λ (z : A). Some z) same; is = subst (λ (z : A). p z ≡ true) same first }
    by false first rest = let there = rest (sym (behind_found p y xs first) ∙ is) in record { place = suc there.place; there = there.there; is = there.is }

finds_none : {A : Type 0} (p : A → Bool) (xs : List A) (k : ℕ) (x : A) → find p xs ≡ None → slice_get xs k ≡ Some x → p x ≡ false
finds_none p [] k x none is = absurd (cc)
finds_none {A = A} p (y ∷ xs) k x none is = by (p y) refl k is (λ j rest there. finds_none p xs j x rest there)
  where
    by : (b : Bool) → p y ≡ b → (k : ℕ) → slice_get (y ∷ xs) k ≡ Some x → ((j : ℕ) → find p xs ≡ None → slice_get xs j ≡ Some x → p x ≡ false) → p x ≡ false
    by true first k there rest = let never : Some y ≡ None = sym (here_found p y xs first) ∙ none in absurd (cc)
    by false first zero there rest = subst (λ (z : A). p z ≡ false) (same_Some y x there) first
    by false first (suc j) there rest = rest j (sym (behind_found p y xs first) ∙ none) there

pub labels_are_told : (p : Program) (i : ImageParts) → HaveLabelRows p i.labels → (name : List ℕ) → IsLabelRow p (linked_label name p.labels) (label_named i name)
labels_are_told p i have name = by (label_named i name) refl (linked_label name p.labels) refl
  where
    by : (o : Option LabelRow) → label_named i name ≡ o → (l : Option Label) → linked_label name p.labels ≡ l → IsLabelRow p l o
    by (Some row) is_row l is_l =
        let there = finds_that (λ r. bytes_eq name r.name) i.labels row is_row in
        let named : name ≡ row.name = (bytes_eq-Decides name row.name).0 there.is in
        let each = have.each there.place row there.there in
        let linked : linked_label name p.labels ≡ Some each.0 = ap (λ (n : List ℕ). linked_label n p.labels) named ∙ each.1 in
        subst (λ (o : Option Label). IsLabelRow p o (Some row)) (sym linked ∙ is_l) each.2
    by None is_row None is_l = tt
    by None is_row (Some l) is_l =
        let every = have.every name l is_l in
        let never : bytes_eq name every.1.name ≡ false = finds_none (λ r. bytes_eq name r.name) i.labels every.0 every.1 is_row every.2 in
        let always : bytes_eq name every.1.name ≡ true = (bytes_eq-Decides name every.1.name).1 (sym every.3) in
        absurd (cc)

-- ---- the whole

-- rows of procedures, sites and labels make tables
pub tables_are_told : (s : Setting) (c : Compiled) (y : Symbols) (i : ImageParts) → KeepFrames i → HaveRows s c y i → HaveTables s c y i
tables_are_told s c y i keep have = record {
  procedures = have.procedures;
  sites = sites_are_told s c y i have.sites;
  labels = labels_are_told s.program i have.labels;
  data_length = have.data_length;
  last = have.last;
  keep = keep;
}
