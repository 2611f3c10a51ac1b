-- What the bytes and the fixes of all data are.
use Rattle.std.proofs.Common.{◌≡◌, ℕ, ◌+◌, ◌-◌, ◌^◌, ◌≤◌, sym, ◌∙◌, ap, subst, arith, List, length, map, Result, Ok, Err, OnOk}
use Rattle.std.specs.List.{All}
use Rattle.std.proofs.lemmas.List.{length-map}
use Rattle.std.proofs.lemmas.List.Elements.{All-weaker}
use Rattle.rv_table.specs.Memory.{data_base}
use Rattle.cmm_program.specs.declared.program.Program.{Program}
use Rattle.cmm_program.specs.declared.program.Datum.{Datum}
use Rattle.cmm_program.specs.declared.program.Label.{Label}
use Rattle.cmm_program.specs.declared.placement.Placement.{Placement}
use Rattle.cmm_program.specs.Layout.{data_bytes, datum_piece, end_before, end_of, label_address, label_addresses}
use Rattle.cmm_data.specs.Conditions.{CanBeLaidOut, HasAlignment, IsLayable, IsOnDatum}
use Rattle.cmm_data.specs.Filling.{AreApart, IsWaiting, code_in, filled, fix_procedures, procedure_addresses}
use Rattle.cmm_data.specs.inside.Walking.{address_in, bytes_by, fixes_from, unfilled}
use Rattle.cmm_data.specs.declared.fix.Fix.{Fix}
use Rattle.cmm_data.proofs.Ends.{end_of_all}
use Rattle.cmm_data.proofs.Fixes.{all_apart, procedures_are}
use Rattle.cmm_data.proofs.Sizes.{length-bytes_by}
use Rattle.cmm_data.proofs.Waiting.{data_waits}
use Rattle.cmm_data.proofs.Words.{data_filled}

-- what holds anyway holds where a call answers Ok
pub always_ok : {T E P : Type 0} (r : Result T E) → P → OnOk r P
always_ok (Ok x) p = p
always_ok (Err e) p = tt

-- ---- what each part asks for
module _ (p : Program) (can : CanBeLaidOut p) (ds : List Datum) (data_is : ds ≡ p.datums) where
  pub layable_in : (addresses : List ℕ) → addresses ≡ label_addresses p → All (IsLayable (length addresses)) ds
  layable_in addresses is =
      let count : length p.labels ≡ length addresses = sym (ap length is ∙ length-map p.labels (label_address p)) in
      subst (λ (ds : List Datum). All (IsLayable (length addresses)) ds) (sym data_is) (subst (λ (n : ℕ). All (IsLayable n) p.datums) count can.datums)

  pub aligned_in : All HasAlignment ds
  aligned_in =
      subst (λ (ds : List Datum). All HasAlignment ds) (sym data_is)
      (All-weaker (IsLayable (length p.labels)) HasAlignment (λ d layable. layable.align) p.datums can.datums)

  pub size_in : end_of data_base (map datum_piece ds) ≤ data_base + 2 ^ 32
  size_in = omega (arith, ap (λ (ds : List Datum). end_of data_base (map datum_piece ds)) data_is, end_of_all p, can.size)

  pub there_in : (ls : List Label) → ls ≡ p.labels → All (IsOnDatum (length ds)) ls
  there_in ls is =
      subst (λ (ls : List Label). All (IsOnDatum (length ds)) ls) (sym is)
      (subst (λ (n : ℕ). All (IsOnDatum n) p.labels) (sym (ap length data_is)) can.labels)

-- ---- what comes of them
module _ (p : Program) (can : CanBeLaidOut p) (bytes : List ℕ) (fixes : List Fix)
    (bytes_are : bytes ≡ bytes_by (unfilled (label_addresses p)) data_base p.datums) (fixes_are : fixes ≡ fixes_from data_base p.datums) where
  pub is_data : (placement : Placement) → filled (code_in placement) fixes bytes ≡ data_bytes p placement
  is_data placement =
      ap (λ (fs : List Fix). filled (code_in placement) fs bytes) fixes_are
      ∙ ap (λ (bs : List ℕ). filled (code_in placement) (fixes_from data_base p.datums) bs) bytes_are
      ∙ data_filled p placement can

  pub has_size : data_base + length bytes ≡ end_before p (length p.datums)
  has_size =
      omega (arith, ap length bytes_are, length-bytes_by (unfilled (label_addresses p)) (length p.labels) data_base p.datums can.datums, end_of_all p)

  pub has_procedures : fix_procedures fixes ≡ procedure_addresses p
  has_procedures = ap fix_procedures fixes_are ∙ procedures_are p

  pub is_apart : AreApart 0 fixes (length bytes)
  is_apart =
      let size : end_of data_base (map datum_piece p.datums) - data_base ≡ length bytes = omega (arith, has_size, end_of_all p) in
      subst (λ (n : ℕ). AreApart 0 fixes n) size
      (subst (λ (fs : List Fix). AreApart 0 fs (end_of data_base (map datum_piece p.datums) - data_base)) (sym fixes_are)
      (all_apart (length p.labels) data_base p.datums (omega arith) can.datums))

  pub is_waiting : All (IsWaiting bytes) fixes
  is_waiting =
      subst (λ (bs : List ℕ). All (IsWaiting bs) fixes) (sym bytes_are)
      (subst (λ (fs : List Fix). All (IsWaiting (bytes_by (unfilled (label_addresses p)) data_base p.datums)) fs) (sym fixes_are)
      (data_waits (label_addresses p) (length p.labels) p.datums can.datums))

-- ---- what was laid, over the slices of a program's data and labels
pub found_addresses : (p : Program) {ds : List Datum} {ls : List Label} {addresses : List ℕ} → ds ≡ p.datums → ls ≡ p.labels →
    addresses ≡ map (address_in ds) ls → addresses ≡ label_addresses p
found_addresses p {ls = ls} data_is labels_are found =
    found ∙ ap (λ (ds : List Datum). map (address_in ds) ls) data_is ∙ ap (λ (ls : List Label). map (address_in p.datums) ls) labels_are

pub laid_bytes : (p : Program) {ds : List Datum} {addresses bytes result : List ℕ} → ds ≡ p.datums → addresses ≡ label_addresses p →
    bytes ≡ bytes_by (unfilled addresses) data_base ds → result ≡ bytes → result ≡ bytes_by (unfilled (label_addresses p)) data_base p.datums
laid_bytes p {ds = ds} data_is found laid is =
    is ∙ laid ∙ ap (λ (addresses : List ℕ). bytes_by (unfilled addresses) data_base ds) found
    ∙ ap (λ (ds : List Datum). bytes_by (unfilled (label_addresses p)) data_base ds) data_is

pub laid_fixes : (p : Program) {ds : List Datum} {fixes result : List Fix} → ds ≡ p.datums → fixes ≡ fixes_from data_base ds → result ≡ fixes →
    result ≡ fixes_from data_base p.datums
laid_fixes p data_is laid is = is ∙ laid ∙ ap (λ (ds : List Datum). fixes_from data_base ds) data_is
