-- The format of a whole image reads what it spells and nothing else, in either version; and what the tables of an image keep, those of version 1 keep.
use Rattle.std.proofs.Common.{◌≡◌, ℕ, ◌≤◌, nat_eq, Bool, true, false, IsTrue, List, length, refl, arith}
use Rattle.std.proofs.lemmas.Bool.{eq-eqb}
use Rattle.std.proofs.lemmas.Bool.Decides.{nat_tests}
use Rattle.cmm_image.specs.declared.header.Header.{Header}
use Rattle.cmm_image.specs.declared.parts.ImageParts.{ImageParts}
use Rattle.cmm_image.specs.declared.rows.ProcRow.{ProcRow}
use Rattle.cmm_image.specs.declared.rows.SiteRow.{SiteRow}
use Rattle.cmm_image.specs.declared.rows.LabelRow.{LabelRow}
use Rattle.cmm_image.specs.declared.rows.GlobalRow.{GlobalRow}
use Rattle.cmm_format.specs.Formats.{choose}
use Rattle.cmm_format.proofs.Shared.{IsExact, block-exact, choose-exact, then-exact, as-exact, rows-exact}
use Rattle.cmm_image.specs.ImageFormat.{Tables, first_tables, header, is_procedure_count}
use Rattle.cmm_image.specs.SecondFormat.{second_tables}
use Rattle.cmm_image.specs.WholeImage.{image, image_fields, image_header, image_of, is_second, tables}
use Rattle.cmm_image.specs.Images.{IsImage}
use Rattle.cmm_image.proofs.FirstLaws.{second_keeps_first}
use Rattle.cmm_image.proofs.ImageLaws.{first-exact, global-exact, header-exact, label-exact}
use Rattle.cmm_image.proofs.SecondLaws.{second-exact}

-- ---- the tables of either version

tables-exact : (h : Header) → IsExact (tables h)
tables-exact h =
    choose-exact (is_second h.version) {F = second_tables h.code_length h.procedures h.sites} {G = first_tables h.code_length h.procedures h.sites}
    (second-exact h.code_length h.procedures h.sites) (first-exact h.code_length h.procedures h.sites)

some_procedure : (n : ℕ) → IsTrue (is_procedure_count n) → 1 ≤ n
some_procedure n h = grind (arith, nat_tests)

few_procedures : (n : ℕ) → IsTrue (is_procedure_count n) → n ≤ 65535
few_procedures n h = grind (arith, nat_tests)

-- what the tables of either version keep, those of version 1 keep
first_kept : (h : Header) (t : Tables) → header.Holds h → (tables h).Holds t → (first_tables h.code_length h.procedures h.sites).Holds t
first_kept h t kept holds = by (is_second h.version) holds
  where
    count : IsTrue (is_procedure_count h.procedures)
    count = kept.1.1.1.1.1.1.0.1.0

    by : (b : Bool) → (choose b (second_tables h.code_length h.procedures h.sites) (first_tables h.code_length h.procedures h.sites)).Holds t →
        (first_tables h.code_length h.procedures h.sites).Holds t
    by true second = second_keeps_first h.code_length h.procedures h.sites t (some_procedure h.procedures count) (few_procedures h.procedures count) second
    by false first = first

pub first_holds : (i : ImageParts) → IsImage i → (first_tables (length i.code) (length i.procs) (length i.sites)).Holds (i.procs, i.sites)
first_holds i h = first_kept (image_header i) (i.procs, i.sites) h.fields.0 h.fields.1.1.1.0

-- ---- the whole

-- the header counts what follows
image-same : (h : Header) (code initial : List ℕ) (procs : List ProcRow) (sites : List SiteRow) (labels : List LabelRow) (globals : List GlobalRow)
    → length code ≡ h.code_length → length initial ≡ h.data_length → length procs ≡ h.procedures → length sites ≡ h.sites → length labels ≡ h.labels → length globals ≡ h.globals
    → image_fields (image_of (h, (code, (initial, ((procs, sites), (labels, globals)))))) ≡ (h, (code, (initial, ((procs, sites), (labels, globals)))))
image-same h code initial procs sites labels globals a b c d e f = rw (a, b, c, d, e, f) refl

pub image-exact : IsExact image
image-exact = as-exact image_of image_fields
    (then-exact header-exact λ (h : Header).
    then-exact (block-exact _ h.code_length) λ (code : List ℕ).
    then-exact (block-exact _ h.data_length) λ (initial : List ℕ).
    then-exact (tables-exact h) λ (tables : Tables).
    then-exact (rows-exact (label-exact h.data_length) (λ p a. refl) h.labels) λ (labels : List LabelRow).
    rows-exact global-exact (λ p a. refl) h.globals)
    (λ b holds. refl)
    (λ a holds.
    let first = first_kept a.0 a.1.1.1.0 holds.0 holds.1.1.1.0 in
    image-same a.0 a.1.0 a.1.1.0 a.1.1.1.0.0 a.1.1.1.0.1 a.1.1.1.1.0 a.1.1.1.1.1 holds.1.0.0 holds.1.1.0.0 first.0.0 first.1.0 holds.1.1.1.1.0.0 holds.1.1.1.1.1.0)

-- ---- what stands at the front of bytes

pub second_there : (h : Header) (code_length : ℕ) (bytes : List ℕ) → h.version ≡ 2 → code_length ≡ h.code_length →
    (second_tables code_length h.procedures h.sites).at bytes ≡ (tables h).at bytes
second_there h code_length bytes second same = (let test : nat_eq h.version 2 ≡ true = eq-eqb h.version 2 second in rw (test, same) refl)

pub first_there : (h : Header) (code_length : ℕ) (bytes : List ℕ) → (h.version ≡ 2 → ⊥) → code_length ≡ h.code_length →
    (first_tables code_length h.procedures h.sites).at bytes ≡ (tables h).at bytes
first_there h code_length bytes first same = (let test : nat_eq h.version 2 ≡ false = grind (arith, nat_tests, first) in rw (test, same) refl)
