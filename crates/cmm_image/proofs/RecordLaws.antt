-- Reading the records of procedures one after another, and what their sites keep.
use Rattle.std.proofs.Common.{◌≡◌, ℕ, zero, suc, ◌-◌, ◌+◌, ◌<◌, ◌≤◌, ◌||◌, false, Bool, nat_eq, List, [], ◌∷◌, ◌++◌, length, map, flat_map, take, slice_get, Ok, Err, refl, sym, ap, subst, ◌∙◌, append_assoc, arith}
use Rattle.std.specs.List.{list_any}
use Rattle.std.specs.Option.{option_map}
use Rattle.std.proofs.lemmas.List.{append-nil, map-append}
use Rattle.cmm_format.specs.declared.fault.Unread.{Unread}
use Rattle.cmm_format.specs.declared.fault.Unread.TheVariants.{Breaks, Memory}
use Rattle.cmm_format.specs.Formats.{◌>>=◌, AreBytes, Front, counted_at, rows_behind_at, ◌when◌}
use Rattle.cmm_format.specs.Reading.{Reads}
use Rattle.cmm_format.proofs.Shared.{with_front}
use Rattle.cmm_image.specs.declared.procedure_record.PlacedProcedure.{PlacedProcedure}
use Rattle.cmm_image.specs.declared.procedure_record.PlacedVariable.{PlacedVariable}
use Rattle.cmm_image.specs.declared.procedure_record.ProcedureRecord.{ProcedureRecord}
use Rattle.cmm_image.specs.declared.rows.VariablePlace.{VariablePlace}
use Rattle.cmm_image.specs.ImageFormat.{FieldsWith, formed, may_have_sites, procedure_with, u32}
use Rattle.cmm_image.specs.inside.Wholes.{fields_seen}
use Rattle.cmm_image.specs.declared.second_reading.Totals.{Totals}
use Rattle.cmm_image.specs.declared.rows.SiteRow.{SiteRow}
use Rattle.cmm_image.specs.SecondFormat.{addresses_of, last_code, live_site, placed_variable, procedure_record, record_end, record_of, row_places, sites_of_record, variables_of}
use Rattle.cmm_image.specs.inside.Ascending.{address_at}
use Rattle.cmm_image.specs.inside.Reading.{ReadsFront}
use Rattle.cmm_image.specs.inside.Records.{Apart, AreNew, Distinct}
use Rattle.cmm_image.proofs.DistinctLaws.{flips}
use Rattle.cmm_image.proofs.FirstLaws.{all_distinct, sites_behind}
use Rattle.cmm_image.proofs.SecondLaws.{record-exact}

-- ---- rows behind all rows before, as a loop reads them

regroup : {A : Type 0} (front : List A) (a : A) (read : Front (List A)) → with_front front (read >>= λ x. Ok (a ∷ x.0, x.1)) ≡ with_front (front ++ a ∷ []) read
regroup {A = A} front a (Ok x) = ap (λ (as_ : List A). Ok (as_, x.1)) (sym (append_assoc front (a ∷ []) x.0))
regroup front a (Err f) = refl

pub behind_next : {A : Type 0} (each : List A → List ℕ → Front A) (front : List A) (count i : ℕ) (bytes : List ℕ) (a : A) (after : List ℕ) (total : Front (List A)) → i < count →
    each front bytes ≡ Ok (a, after) → with_front front (rows_behind_at each (count - i) front bytes) ≡ total →
    with_front (front ++ a ∷ []) (rows_behind_at each (count - (i + 1)) (front ++ a ∷ []) after) ≡ total
behind_next each front count i bytes a after total lt read so_far =
    let k : count - i ≡ suc (count - (i + 1)) = omega (arith, lt) in
    let one : with_front front (rows_behind_at each (suc (count - (i + 1))) front bytes)
    ≡ with_front (front ++ a ∷ []) (rows_behind_at each (count - (i + 1)) (front ++ a ∷ []) after) =
    rw read (regroup front a (rows_behind_at each (count - (i + 1)) (front ++ a ∷ []) after)) in
    sym one ∙ ap (λ (n : ℕ). with_front front (rows_behind_at each n front bytes)) (sym k) ∙ so_far

pub behind_ends : {A : Type 0} (e : Unread) (each : List A → List ℕ → Front A) (front : List A) (count i : ℕ) (bytes left : List ℕ) (total : Front (List A)) → i < count →
    Reads {A = A} (Err e) (each front bytes) left → with_front front (rows_behind_at each (count - i) front bytes) ≡ total → ReadsFront {A = List A} (Err e) total
behind_ends Memory each front count i bytes left total lt read so_far = tt
behind_ends (Breaks b) each front count i bytes left total lt read so_far =
    let k : count - i ≡ suc (count - (i + 1)) = omega (arith, lt) in
    let h : each front bytes ≡ Err b = read in
    let one : with_front front (rows_behind_at each (suc (count - (i + 1))) front bytes) ≡ Err b = rw h refl in
    sym so_far ∙ ap (λ (n : ℕ). with_front front (rows_behind_at each n front bytes)) k ∙ one

pub behind_done : {A : Type 0} (each : List A → List ℕ → Front A) (front : List A) (count i : ℕ) (bytes : List ℕ) (total : Front (List A)) → count ≤ i →
    with_front front (rows_behind_at each (count - i) front bytes) ≡ total → total ≡ Ok (front, bytes)
behind_done {A = A} each front count i bytes total le so_far =
    let k : count - i ≡ 0 = omega (arith, le) in
    sym so_far ∙ ap (λ (n : ℕ). with_front front (rows_behind_at each n front bytes)) k ∙ ap (λ (as_ : List A). Ok (as_, bytes)) (append-nil front)

abbrev pub each_record : Totals → List ProcedureRecord → List ℕ → Front ProcedureRecord
each_record totals before = (procedure_record totals.bounds.code_length totals.procedures totals.sites before).at

abbrev pub read_behind : Totals → List ProcedureRecord → ℕ → List ℕ → Front (List ProcedureRecord)
read_behind totals records number bytes = with_front records (rows_behind_at (each_record totals) (totals.procedures - number) records bytes)

abbrev pub records_at : Totals → List ℕ → Front (List ProcedureRecord)
records_at totals bytes = rows_behind_at (each_record totals) totals.procedures [] bytes

-- ---- the last record

pub last_of_records : (rs : List ProcedureRecord) → last_code rs ≡ option_map (λ r. r.row.code) (slice_get rs (length rs - 1))
last_of_records [] = refl
last_of_records (r ∷ []) = refl
last_of_records (r ∷ s ∷ rs) =
    let next : suc (length (s ∷ rs) - 1) ≡ length (r ∷ s ∷ rs) - 1 = omega arith in
    last_of_records (s ∷ rs) ∙ ap (λ (n : ℕ). option_map (λ r. r.row.code) (slice_get (r ∷ s ∷ rs) n)) next

-- ---- their sites, no two of which have one return address

pub more_distinct : (totals : Totals) (before : List ProcedureRecord) (next : ProcedureRecord) (bytes rest : List ℕ) → AreBytes bytes →
    each_record totals before bytes ≡ Ok (next, rest) → Distinct (flat_map (λ r. r.sites) before) →
    Distinct (flat_map (λ r. r.sites) (before ++ next ∷ [])) × AreBytes rest
more_distinct totals before next bytes rest fits read distinct =
    let taken = (record-exact totals.bounds.code_length totals.procedures totals.sites before).taken bytes next rest fits read in
    (all_distinct totals.bounds.code_length totals.procedures totals.sites before (next ∷ []) distinct (taken.1, tt), taken.2)

apart_at : (a : ℕ) (sites : List SiteRow) (k : ℕ) → Apart a sites → k < length sites → nat_eq a (address_at sites k) ≡ false
apart_at a [] k apart less = absurd (omega (arith, less))
apart_at a (s ∷ ss) zero apart less = apart.0
apart_at a (s ∷ ss) (suc k) apart less = apart_at a ss k apart.1 (omega (arith, less))

apart_behind : (a : ℕ) (before sites : List SiteRow) (k : ℕ) → Apart a (before ++ sites) → k < length sites → nat_eq a (address_at sites k) ≡ false
apart_behind a [] sites k apart less = apart_at a sites k apart less
apart_behind a (b ∷ bs) sites k apart less = apart_behind a bs sites k apart.1 less

new_in : (sites : List SiteRow) (k : ℕ) → Distinct sites → k < length sites → list_any (nat_eq (address_at sites k)) (map (λ s. s.return_address) (take k sites)) ≡ false
new_in [] k distinct less = absurd (omega (arith, less))
new_in (s ∷ ss) zero distinct less = refl
new_in (s ∷ ss) (suc k) distinct less =
    let other = flips s.return_address (address_at ss k) (apart_at s.return_address ss k distinct.0 (omega (arith, less))) in
    rw other (new_in ss k distinct.1 (omega (arith, less)))

new_behind : (before sites : List SiteRow) → Distinct (before ++ sites) → AreNew (map (λ s. s.return_address) before) sites
new_behind [] sites distinct k less = new_in sites k distinct less
new_behind (b ∷ bs) sites distinct k less =
    let other = flips b.return_address (address_at sites k) (apart_behind b.return_address bs sites k distinct.0 less) in
    rw other (new_behind bs sites distinct.1 k less)

-- the sites of a record behind others are new
pub next_new : (addresses : List ℕ) (before : List ProcedureRecord) (next : ProcedureRecord) → addresses ≡ addresses_of before →
    Distinct (flat_map (λ r. r.sites) (before ++ next ∷ [])) → AreNew addresses next.sites
next_new addresses before next are distinct =
    subst (λ (xs : List ℕ). AreNew xs next.sites) (sym are)
    (new_behind (flat_map (λ r. r.sites) before) next.sites (subst Distinct (sites_behind before next) distinct))

-- and with them the addresses are those of all
pub next_addresses : (addresses : List ℕ) (before : List ProcedureRecord) (next : ProcedureRecord) → addresses ≡ addresses_of before →
    addresses ++ map (λ s. s.return_address) next.sites ≡ addresses_of (before ++ next ∷ [])
next_addresses addresses before next are =
    ap (λ (xs : List ℕ). xs ++ map (λ s. s.return_address) next.sites) are
    ∙ sym (map-append (λ s. s.return_address) (flat_map (λ r. r.sites) before) next.sites)
    ∙ ap (map (λ s. s.return_address)) (sym (sites_behind before next))

-- ---- one record

-- the sites of a record, whose parts are read on the way
pub sites_same : (totals : Totals) (before : List ProcedureRecord) (fields : PlacedProcedure) (may : Bool) (number : ℕ) (keys : List ℕ) (places : List VariablePlace) (count : ℕ) →
    may ≡ may_have_sites fields.frame fields.return_at → number ≡ length before → keys ≡ addresses_of before → places ≡ row_places fields.variables →
    count ≡ length fields.continuations → (bytes : List ℕ) →
    counted_at (u32 when (formed (λ n. nat_eq n 0 || may) ∷ [])).at (λ previous. (live_site totals.bounds.code_length number keys places count previous).at) bytes
    ≡ (sites_of_record totals.bounds.code_length before (fields_seen fields)).at bytes
sites_same totals before fields may number keys places count a b c d e bytes = rw (a, b, c, d, e) refl

module _ (totals : Totals) (before : List ProcedureRecord) (p : FieldsWith PlacedVariable) (bytes after : List ℕ)
    (read : (procedure_with placed_variable totals.bounds.code_length (last_code before)).at bytes ≡ Ok (p, after)) where
  pub sites_break : (e : Unread) (left end : List ℕ) → Reads {A = List SiteRow} (Err e) ((sites_of_record totals.bounds.code_length before p).at after) left →
      Reads {A = ProcedureRecord} (Err e) (each_record totals before bytes) end
  sites_break Memory left end broken = tt
  sites_break (Breaks b) left end broken =
      let h : (sites_of_record totals.bounds.code_length before p).at after ≡ Err b = broken in
      rw (read, h) refl

  module _ (sites : List SiteRow) (behind : List ℕ) (more : (sites_of_record totals.bounds.code_length before p).at after ≡ Ok (sites, behind)) where
    pub end_breaks : (e : Unread) (left end : List ℕ) → Reads {A = ℕ} (Err e) ((record_end totals.procedures totals.sites before (row_places (variables_of p)) sites).at behind) left →
        Reads {A = ProcedureRecord} (Err e) (each_record totals before bytes) end
    end_breaks Memory left end broken = tt
    end_breaks (Breaks b) left end broken =
        let h : (record_end totals.procedures totals.sites before (row_places (variables_of p)) sites).at behind ≡ Err b = broken in
        rw (read, more, h) refl

    pub record_done : (n : ℕ) (rest : List ℕ) → (record_end totals.procedures totals.sites before (row_places (variables_of p)) sites).at behind ≡ Ok (n, rest) →
        each_record totals before bytes ≡ Ok (record_of (p, (sites, n)), rest)
    record_done n rest last = rw (read, more, last) refl

-- ---- the first of them

pub front_none : {A : Type 0} (read : Front (List A)) → with_front [] read ≡ read
front_none (Ok x) = refl
front_none (Err b) = refl
