-- The header, the symbols and the tables of version 1 read what they spell and nothing else.
use Rattle.std.proofs.Common.{◌≡◌, ℕ, zero, suc, ◌%◌, Bool, true, false, ◌||◌, IsTrue, if◌then◌else◌, nat_le, nat_lt, nat_eq, List, [], ◌∷◌, length, Option, None, refl, sym, arith}
use Rattle.std.specs.Option.{option_map}
use Rattle.std.proofs.lemmas.Bool.{eqb-true}
use Rattle.std.proofs.lemmas.Bool.Decides.{nat_tests}
use Rattle.cmm_rules.specs.declared.rule.Rule.TheVariants.{NotAnImage, OtherImageVersion}
use Rattle.cmm_words.specs.declared.width.Width.{Width}
use Rattle.cmm_words.specs.declared.width.Width.TheVariants.{W8, W16, W32, W64}
use Rattle.cmm_words.specs.Widths.{bits}
use Rattle.rv_table.specs.declared.memory_map.TheConstants.{DATA_LENGTH_LIMIT, GLOBAL_COUNT_LIMIT}
use Rattle.cmm_image.specs.declared.rows.VariableNumber.{VariableNumber}
use Rattle.cmm_image.specs.declared.rows.ContinuationNumber.{ContinuationNumber}
use Rattle.cmm_image.specs.declared.rows.SavedRegister.{SavedRegister}
use Rattle.cmm_image.specs.declared.rows.StackLabelRow.{StackLabelRow}
use Rattle.cmm_image.specs.declared.rows.VariableRow.{VariableRow}
use Rattle.cmm_image.specs.declared.rows.ContinuationRow.{ContinuationRow}
use Rattle.cmm_image.specs.declared.rows.ProcRow.{ProcRow}
use Rattle.cmm_image.specs.declared.rows.UnwindRow.{UnwindRow}
use Rattle.cmm_image.specs.declared.rows.VariablePlace.{VariablePlace}
use Rattle.cmm_image.specs.declared.rows.SpanRow.{SpanRow}
use Rattle.cmm_image.specs.declared.rows.SiteRow.{SiteRow}
use Rattle.cmm_image.specs.declared.rows.LabelRow.{LabelRow}
use Rattle.cmm_image.specs.declared.rows.GlobalRow.{GlobalRow}
use Rattle.cmm_abi.specs.Registers.{is_callee_saves}
use Rattle.cmm_image.specs.Places.{leaves}
use Rattle.cmm_image.specs.ImageFormat.{formed, within, in_code, is_in_data, above, after, is_width, width_of, width, one_if, magic, is_code_length, is_procedure_count, HeaderFields, header_of, header_fields, counts, header, saved_register, variable, stack_label, variable_number, is_pair, continuation, no_return, is_return_offset, procedure_of, procedure_fields, procedure_with, procedure, has_sites, continuation_number, unwind, span, flags_of, flags_number, flags, is_version, exits_in_code, SiteLists, lists_with, procedure_at, site_of_fields, site_fields, site_with, site, label, global, first_tables}
use Rattle.cmm_format.specs.Formats.{Condition, Format}
use Rattle.cmm_format.proofs.Shared.{IsExact, number-exact, text-exact, when-exact, optional-exact}
use Rattle.cmm_format.proofs.Shared.{then-exact, as-exact, rows-exact, counted-exact}
use Rattle.cmm_image.proofs.PlaceLaws.{place-exact}

-- ---- fields that stand for other values

width-there : (w : Width) → width_of (bits w) ≡ w
width-there W8 = refl
width-there W16 = refl
width-there W32 = refl
width-there W64 = refl

width-among : (n : ℕ) (a b c d : Bool) → (a ≡ true → n ≡ 8) → (b ≡ true → n ≡ 16) → (c ≡ true → n ≡ 32) → (d ≡ true → n ≡ 64) → IsTrue (a || b || c || d)
    → bits (if a then W8 else (if b then W16 else (if c then W32 else W64))) ≡ n
width-among n true b c d h8 h16 h32 h64 h = sym (h8 refl)
width-among n false true c d h8 h16 h32 h64 h = sym (h16 refl)
width-among n false false true d h8 h16 h32 h64 h = sym (h32 refl)
width-among n false false false true h8 h16 h32 h64 h = sym (h64 refl)
width-among n false false false false h8 h16 h32 h64 h = absurd cc

width-back : (n : ℕ) → IsTrue (is_width n) → bits (width_of n) ≡ n
width-back n h = width-among n (nat_eq n 8) (nat_eq n 16) (nat_eq n 32) (nat_eq n 64) (eqb-true n 8) (eqb-true n 16) (eqb-true n 32) (eqb-true n 64) h

width-exact : IsExact width
width-exact = as-exact width_of bits (when-exact (formed is_width ∷ []) (number-exact _ 1)) (λ w holds. width-there w) (λ n holds. width-back n holds.1.0)

flag-there : (b : Bool) → nat_eq (one_if b) 1 ≡ b
flag-there true = refl
flag-there false = refl

flag-back : (n : ℕ) → IsTrue (nat_le n 1) → one_if (nat_eq n 1) ≡ n
flag-back zero h = refl
flag-back (suc zero) h = refl
flag-back (suc (suc n)) h = absurd (grind (arith, nat_tests))

flags-there : (f : Bool × Bool) → flags_of (flags_number f) ≡ f
flags-there (true, true) = refl
flags-there (true, false) = refl
flags-there (false, true) = refl
flags-there (false, false) = refl

flags-back : (n : ℕ) → IsTrue (nat_lt n 4) → flags_number (flags_of n) ≡ n
flags-back zero h = refl
flags-back (suc zero) h = refl
flags-back (suc (suc zero)) h = refl
flags-back (suc (suc (suc zero))) h = refl
flags-back (suc (suc (suc (suc n)))) h = absurd (grind (arith, nat_tests))

flags-exact : IsExact flags
flags-exact = as-exact flags_of flags_number (when-exact (formed (λ n. nat_lt n 4) ∷ []) (number-exact _ 1)) (λ f holds. flags-there f) (λ n holds. flags-back n holds.1.0)

-- ---- procedures

saved_register-exact : (frame : ℕ) (previous : Option SavedRegister) → IsExact (saved_register frame previous)
saved_register-exact frame previous = as-exact (λ x. record { register = x.0; offset = x.1 }) (λ s. (s.register, s.offset))
    (then-exact (when-exact (formed is_callee_saves ∷ above (option_map (λ s. s.register) previous) ∷ []) (number-exact _ 1)) λ (register : ℕ).
    when-exact (within (leaves 8 frame) ∷ []) (number-exact _ 4))
    (λ b holds. refl) (λ a holds. refl)

pub variable-exact : (previous : Option VariableRow) → IsExact (variable previous)
variable-exact previous = as-exact (λ x. record { width = x.0; invariant = x.1.0; kind = x.1.1 }) (λ v. (v.width, (v.invariant, v.kind)))
    (then-exact width-exact λ (width : Width).
    then-exact (as-exact (λ n. nat_eq n 1) one_if (when-exact (formed (λ n. nat_le n 1) ∷ []) (number-exact _ 1)) (λ b holds. flag-there b) (λ n holds. flag-back n holds.1.0)) λ (invariant : Bool).
    (text-exact _))
    (λ b holds. refl) (λ a holds. refl)

stack_label-exact : (frame : ℕ) (previous : Option StackLabelRow) → IsExact (stack_label frame previous)
stack_label-exact frame previous = as-exact (λ n. record { offset = n }) (λ l. l.offset) (when-exact (within (λ n. nat_le n frame) ∷ []) (number-exact _ 4)) (λ b holds. refl) (λ a holds. refl)

variable_number-exact : (count : ℕ) (previous : Option VariableNumber) → IsExact (variable_number count previous)
variable_number-exact count previous = as-exact (λ n. record { 0 = n }) (λ v. v.0) (when-exact (formed (λ n. nat_lt n count) ∷ []) (number-exact _ 2)) (λ b holds. refl) (λ a holds. refl)

continuation-exact : (length frame variables : ℕ) (previous : Option ContinuationRow) → IsExact (continuation length frame variables previous)
continuation-exact length frame variables previous = as-exact (λ x. record { pair = x.0; code = x.1.0; parameters = x.1.1 }) (λ c. (c.pair, (c.code, c.parameters)))
    (then-exact (when-exact (within (is_pair frame) ∷ []) (number-exact _ 4)) λ (pair : ℕ).
    then-exact (when-exact (in_code length ∷ []) (number-exact _ 8)) λ (code : ℕ).
    counted-exact (when-exact (formed (λ n. nat_le n 64) ∷ []) (number-exact _ 1)) (variable_number-exact variables) (λ p a. refl))
    (λ b holds. refl) (λ a holds. refl)

pub procedure_with-exact : {V : Type 0} {variable : ℕ → Option V → Format V} → ((frame : ℕ) (previous : Option V) → IsExact (variable frame previous)) →
    ((frame : ℕ) (previous : Option V) (a : V) → (variable frame previous).spelled a ≡ (variable frame None).spelled a) →
    (code_length : ℕ) (previous : Option ℕ) → IsExact (procedure_with variable code_length previous)
procedure_with-exact {V = V} {variable = variable} exact one code_length previous =
    then-exact (when-exact (above previous ∷ in_code code_length ∷ []) (number-exact _ 8)) λ (code : ℕ).
    then-exact (text-exact _) λ (name : List ℕ).
    then-exact (when-exact (formed (λ n. nat_eq (n % 16) 0) ∷ within (λ n. nat_le n 0x10000000) ∷ []) (number-exact _ 4)) λ (frame : ℕ).
    then-exact (optional-exact _ 4 no_return (within (is_return_offset frame) ∷ []) (omega arith)) λ (return_at : Option ℕ).
    then-exact (counted-exact (number-exact _ 1) (saved_register-exact frame) (λ p a. refl)) λ (saved : List SavedRegister).
    then-exact (counted-exact {each = variable frame} (when-exact (formed (λ n. nat_le n 1024) ∷ []) (number-exact _ 2)) (exact frame) (one frame)) λ (variables : List V).
    then-exact (counted-exact (number-exact _ 2) (stack_label-exact frame) (λ p a. refl)) λ (stack_labels : List StackLabelRow).
    counted-exact (number-exact _ 2) (continuation-exact code_length frame (length variables)) (λ p a. refl)

procedure-exact : (code_length : ℕ) (previous : Option ProcRow) → IsExact (procedure code_length previous)
procedure-exact code_length previous = as-exact procedure_of procedure_fields
    (procedure_with-exact {variable = λ frame. variable} (λ frame. variable-exact) (λ frame p a. refl) code_length (option_map (λ p. p.code) previous))
    (λ b holds. refl) (λ a holds. refl)

-- ---- sites

continuation_number-exact : (count : ℕ) (previous : Option ContinuationNumber) → IsExact (continuation_number count previous)
continuation_number-exact count previous = as-exact (λ n. record { 0 = n }) (λ c. c.0) (when-exact (formed (λ n. nat_lt n count) ∷ []) (number-exact _ 2)) (λ b holds. refl) (λ a holds. refl)

unwind-exact : (code_length count : ℕ) (previous : Option UnwindRow) → IsExact (unwind code_length count previous)
unwind-exact code_length count previous = as-exact (λ x. record { continuation = x.0; landing = x.1 }) (λ u. (u.continuation, u.landing))
    (then-exact (continuation_number-exact count None) λ (continuation : ContinuationNumber).
    when-exact (in_code code_length ∷ []) (number-exact _ 8))
    (λ b holds. refl) (λ a holds. refl)

span-exact : (previous : Option SpanRow) → IsExact (span previous)
span-exact previous = as-exact (λ x. record { token = x.0; value = x.1 }) (λ s. (s.token, s.value))
    (then-exact (when-exact (above (option_map (λ s. s.token) previous) ∷ []) (number-exact _ 8)) λ (token : ℕ).
    number-exact _ 8)
    (λ b holds. refl) (λ a holds. refl)

pub lists_with-exact : {places : Format (List VariablePlace)} → IsExact places → (code_length continuations return_address : ℕ) →
    IsExact (lists_with places code_length continuations return_address)
lists_with-exact exact code_length continuations return_address =
    then-exact (counted-exact (when-exact (formed (λ n. nat_le n 64) ∷ within (exits_in_code code_length return_address) ∷ []) (number-exact _ 1)) (continuation_number-exact continuations) (λ p a. refl)) λ (returns : List ContinuationNumber).
    then-exact (counted-exact (number-exact _ 2) (unwind-exact code_length continuations) (λ p a. refl)) λ (unwinds : List UnwindRow).
    then-exact (counted-exact (number-exact _ 2) (continuation_number-exact continuations) (λ p a. refl)) λ (cuts : List ContinuationNumber).
    then-exact exact λ (variables : List VariablePlace).
    counted-exact (number-exact _ 2) span-exact (λ p a. refl)

pub site_with-exact : (address : List (Condition ℕ)) {procedure : Format ℕ} {lists : ℕ → ℕ → Format SiteLists} → IsExact procedure →
    ((procedure return_address : ℕ) → IsExact (lists procedure return_address)) → IsExact (site_with address procedure lists)
site_with-exact address {procedure = procedure} {lists = lists} exact all = as-exact site_of_fields site_fields
    (then-exact (when-exact address (number-exact _ 8)) λ (return_address : ℕ).
    then-exact exact λ (n : ℕ).
    then-exact (number-exact _ 4) λ (number : ℕ).
    then-exact flags-exact λ (flags : Bool × Bool).
    then-exact (optional-exact _ 1 255 (formed (λ n. nat_le n 64) ∷ []) (omega arith)) λ (yield_values : Option ℕ).
    then-exact (counted-exact {each = λ previous. width} (when-exact (formed (λ n. nat_le n 64) ∷ []) (number-exact _ 1)) (λ p. width-exact) (λ p a. refl)) λ (results : List Width).
    all n return_address)
    (λ b holds. refl) (λ a holds. refl)

site-exact : (code_length : ℕ) (procedures : List ProcRow) (previous : Option SiteRow) → IsExact (site code_length procedures previous)
site-exact code_length procedures previous =
    site_with-exact (above (option_map (λ s. s.return_address) previous) ∷ in_code code_length ∷ []) (when-exact (formed (has_sites procedures) ∷ []) (number-exact _ 4))
    (λ procedure.
    lists_with-exact (rows-exact (place-exact (procedure_at procedures procedure).frame) (λ p a. refl) (length (procedure_at procedures procedure).variables)) code_length
    (length (procedure_at procedures procedure).continuations))

-- ---- labels and global registers

pub label-exact : (data_length : ℕ) (previous : Option LabelRow) → IsExact (label data_length previous)
label-exact data_length previous = as-exact (λ x. record { name = x.0; address = x.1 }) (λ l. (l.name, l.address))
    (then-exact (when-exact (after (option_map (λ l. l.name) previous) ∷ []) (text-exact _)) λ (name : List ℕ).
    when-exact (within (is_in_data data_length) ∷ []) (number-exact _ 8))
    (λ b holds. refl) (λ a holds. refl)

pub global-exact : (previous : Option GlobalRow) → IsExact (global previous)
global-exact previous = as-exact (λ x. record { width = x.0; name = x.1 }) (λ g. (g.width, g.name))
    (then-exact width-exact λ (width : Width).
    when-exact (after (option_map (λ g. g.name) previous) ∷ []) (text-exact _))
    (λ b holds. refl) (λ a holds. refl)

-- ---- the header, and the tables

counts-exact : IsExact counts
counts-exact =
    then-exact (when-exact (formed is_procedure_count ∷ []) (number-exact _ 4)) λ (procedures : ℕ).
    then-exact (number-exact _ 4) λ (sites : ℕ).
    then-exact (number-exact _ 4) λ (labels : ℕ).
    then-exact (when-exact (formed (λ n. nat_le n GLOBAL_COUNT_LIMIT) ∷ []) (number-exact _ 4)) λ (globals : ℕ).
    then-exact (when-exact (formed (λ n. nat_lt n procedures) ∷ []) (number-exact _ 4)) λ (main : ℕ).
    when-exact (formed (λ n. nat_eq n 0) ∷ []) (number-exact _ 4)

-- the fields of a header that it need not keep are always the same
header-same : (front version code initial start last procedures sites labels globals main nothing : ℕ) → front ≡ magic → nothing ≡ 0
    → ◌≡◌ {A = HeaderFields} (magic, (version, (code, (initial, (start, (last, (procedures, (sites, (labels, (globals, (main, 0))))))))))) (front, (version, (code, (initial, (start, (last, (procedures, (sites, (labels, (globals, (main, nothing)))))))))))
header-same front version code initial start last procedures sites labels globals main nothing e f = rw (e, f) refl

pub header-exact : IsExact header
header-exact = as-exact header_of header_fields
    (then-exact (when-exact (record { rule = NotAnImage; holds = λ n. nat_eq n magic } ∷ []) (number-exact _ 4)) λ (front : ℕ).
    then-exact (when-exact (record { rule = OtherImageVersion; holds = is_version } ∷ []) (number-exact _ 4)) λ (version : ℕ).
    then-exact (when-exact (within is_code_length ∷ []) (number-exact _ 8)) λ (code_length : ℕ).
    then-exact (when-exact (within (λ n. nat_le n DATA_LENGTH_LIMIT) ∷ []) (number-exact _ 8)) λ (data_length : ℕ).
    then-exact (when-exact (in_code code_length ∷ []) (number-exact _ 8)) λ (start : ℕ).
    then-exact (when-exact (in_code code_length ∷ []) (number-exact _ 8)) λ (last : ℕ).
    counts-exact)
    (λ b holds. refl)
    (λ a holds. header-same a.0 a.1.0 a.1.1.0 a.1.1.1.0 a.1.1.1.1.0 a.1.1.1.1.1.0 a.1.1.1.1.1.1.0 a.1.1.1.1.1.1.1.0 a.1.1.1.1.1.1.1.1.0 a.1.1.1.1.1.1.1.1.1.0 a.1.1.1.1.1.1.1.1.1.1.0 a.1.1.1.1.1.1.1.1.1.1.1
    (eqb-true a.0 magic holds.0.1.0) (eqb-true a.1.1.1.1.1.1.1.1.1.1.1 0 holds.1.1.1.1.1.1.1.1.1.1.1.1.0))

pub first-exact : (code_length procedures sites : ℕ) → IsExact (first_tables code_length procedures sites)
first-exact code_length procedures sites =
    then-exact (rows-exact (procedure-exact code_length) (λ p a. refl) procedures) λ (procs : List ProcRow).
    rows-exact (site-exact code_length procs) (λ p a. refl) sites
