-- The fields of an image, a line each, in their order, with their conditions in the order in which they are tested: those of version 1. Version 2 has
-- other tables of procedures and sites (`SecondFormat`).
use Rattle.std.specs.Prelude.{ℕ, ◌+◌, ◌*◌, ◌%◌, ◌==◌, ◌&&◌, ◌||◌, nat_lt, nat_le, Bool, true, false, if◌then◌else◌, List, [], ◌∷◌, length, slice_get, is_some, Option, Some, None}
use Rattle.std.specs.Option.{option_map}
use Rattle.std.specs.Cmp.Lexicographic.{slice_cmp}
use Rattle.std.specs.Ordering.{nat_cmp, is_lt}
use Rattle.cmm_rules.specs.declared.rule.Rule.TheVariants.{NotAnImage, ImageIsCut, OtherImageVersion, BadImageField, ImageOutOfRange}
use Rattle.cmm_words.specs.declared.width.Width.{Width}
use Rattle.cmm_words.specs.declared.width.Width.TheVariants.{W8, W16, W32, W64}
use Rattle.cmm_words.specs.Widths.{bits}
use Rattle.rv_table.specs.declared.memory_map.TheConstants.{CODE_BASE, CODE_LENGTH_LIMIT, DATA_BASE, DATA_LENGTH_LIMIT, GLOBAL_COUNT_LIMIT}
use Rattle.cmm_image.specs.declared.header.Header.{Header}
use Rattle.cmm_image.specs.declared.rows.VariableNumber.{VariableNumber}
use Rattle.cmm_image.specs.declared.rows.ContinuationNumber.{ContinuationNumber}
use Rattle.cmm_image.specs.declared.rows.SavedRegister.{SavedRegister}
use Rattle.cmm_image.specs.declared.rows.StackLabelRow.{StackLabelRow}
use Rattle.cmm_image.specs.declared.rows.VariableRow.{VariableRow}
use Rattle.cmm_image.specs.declared.rows.ContinuationRow.{ContinuationRow}
use Rattle.cmm_image.specs.declared.rows.ProcRow.{ProcRow}
use Rattle.cmm_image.specs.declared.rows.UnwindRow.{UnwindRow}
use Rattle.cmm_image.specs.declared.rows.VariablePlace.{VariablePlace}
use Rattle.cmm_image.specs.declared.rows.SpanRow.{SpanRow}
use Rattle.cmm_image.specs.declared.rows.SiteRow.{SiteRow}
use Rattle.cmm_image.specs.declared.rows.LabelRow.{LabelRow}
use Rattle.cmm_image.specs.declared.rows.GlobalRow.{GlobalRow}
use Rattle.cmm_format.specs.Formats.{Format, Condition, number, text, ◌when◌, ◌▸◌, as_, optional, rows, counted}
use Rattle.cmm_abi.specs.Registers.{is_callee_saves}
use Rattle.cmm_image.specs.Places.{variable_place, leaves}

-- ---- numbers

abbrev pub u8 : Format ℕ
u8 = number ImageIsCut 1

abbrev pub u16 : Format ℕ
u16 = number ImageIsCut 2

abbrev pub u32 : Format ℕ
u32 = number ImageIsCut 4

abbrev pub u64 : Format ℕ
u64 = number ImageIsCut 8

-- ---- conditions

-- a value is of the form that its field has
abbrev pub formed : {A : Type 0} → (A → Bool) → Condition A
formed test = record { rule = BadImageField; holds = test }

-- an address, an offset or a size lies within what it is of
abbrev pub within : {A : Type 0} → (A → Bool) → Condition A
within test = record { rule = ImageOutOfRange; holds = test }

-- code: the address at which it begins, and its length in bytes
pub record Code : Type 0 where
  pub base : ℕ
  pub size : ℕ

-- an address in code
abbrev pub is_in : Code → ℕ → Bool
is_in code address = nat_le code.base address && nat_lt address (code.base + code.size) && (address % 4 == 0)

abbrev pub lies_in : Code → Condition ℕ
lies_in code = within (is_in code)

-- the code of an image, which has this length
abbrev pub image_code : ℕ → Code
image_code length = record { base = CODE_BASE; size = length }

abbrev pub is_in_code : ℕ → ℕ → Bool
is_in_code length address = is_in (image_code length) address

abbrev pub in_code : ℕ → Condition ℕ
in_code length = lies_in (image_code length)

-- an address in data of this length, or its code_length
abbrev pub is_in_data : ℕ → ℕ → Bool
is_in_data length address = nat_le DATA_BASE address && nat_le address (DATA_BASE + length)

abbrev pub is_above : Option ℕ → ℕ → Bool
is_above None n = true
is_above (Some m) n = nat_lt m n

-- above the number of the record before
abbrev pub above : Option ℕ → Condition ℕ
above previous = formed (is_above previous)

abbrev pub is_after : Option (List ℕ) → List ℕ → Bool
is_after None name = true
is_after (Some before) name = is_lt (slice_cmp nat_cmp before name)

-- after the name of the record before, by bytes
abbrev pub after : Option (List ℕ) → Condition (List ℕ)
after previous = formed (is_after previous)

abbrev pub is_width : ℕ → Bool
is_width n = (n == 8) || (n == 16) || (n == 32) || (n == 64)

abbrev pub width_of : ℕ → Width
width_of n = if n == 8 then W8 else (if n == 16 then W16 else (if n == 32 then W32 else W64))

abbrev pub width : Format Width
width = as_ width_of bits (u8 when (formed is_width ∷ []))

abbrev pub one_if : Bool → ℕ
one_if true = 1
one_if false = 0

-- ---- the header, 64 bytes

-- 434d4d49, "CMMI"
abbrev pub magic : ℕ
magic = 0x494d4d43

abbrev pub is_version : ℕ → Bool
is_version n = (n == 1) || (n == 2)

abbrev pub is_code_length : ℕ → Bool
is_code_length n = nat_le 4 n && nat_le n CODE_LENGTH_LIMIT && (n % 4 == 0)

abbrev pub is_procedure_count : ℕ → Bool
is_procedure_count n = nat_le 1 n && nat_le n 65535

abbrev pub Counts : Type 0
Counts = ℕ × (ℕ × (ℕ × (ℕ × (ℕ × ℕ))))

abbrev pub HeaderFields : Type 0
HeaderFields = ℕ × (ℕ × (ℕ × (ℕ × (ℕ × (ℕ × Counts)))))

abbrev pub header_of : HeaderFields → Header
header_of (front, (version, (code, (initial, (start, (last, (procedures, (sites, (labels, (globals, (main, nothing))))))))))) = record {
  version = version;
  code_length = code;
  data_length = initial;
  start = start;
  last = last;
  procedures = procedures;
  sites = sites;
  labels = labels;
  globals = globals;
  main = main;
}

abbrev pub header_fields : Header → HeaderFields
header_fields h = (magic, (h.version, (h.code_length, (h.data_length, (h.start, (h.last, (h.procedures, (h.sites, (h.labels, (h.globals, (h.main, 0)))))))))))

abbrev pub counts : Format Counts
counts =
    u32 when (formed is_procedure_count ∷ [])
    ▸ λ procedures. u32
    ▸ λ sites. u32
    ▸ λ labels. u32 when (formed (λ n. nat_le n GLOBAL_COUNT_LIMIT) ∷ [])
    ▸ λ globals. u32 when (formed (λ n. nat_lt n procedures) ∷ [])
    ▸ λ main. u32 when (formed (λ n. n == 0) ∷ [])

abbrev pub header : Format Header
header = as_ header_of header_fields (
    u32 when (record { rule = NotAnImage; holds = λ n. n == magic } ∷ [])
    ▸ λ front. u32 when (record { rule = OtherImageVersion; holds = is_version } ∷ [])
    ▸ λ version. u64 when (within is_code_length ∷ [])
    ▸ λ code_length. u64 when (within (λ n. nat_le n DATA_LENGTH_LIMIT) ∷ [])
    ▸ λ data_length. u64 when (in_code code_length ∷ [])
    ▸ λ start. u64 when (in_code code_length ∷ [])
    ▸ λ last. counts
    )

-- ---- procedures

-- a register that is saved: its number, ascending, and where in the frame it is
abbrev pub saved_register : ℕ → Option SavedRegister → Format SavedRegister
saved_register frame previous = as_ (λ x. record { register = x.0; offset = x.1 }) (λ s. (s.register, s.offset)) (
    u8 when (formed is_callee_saves ∷ above (option_map (λ s. s.register) previous) ∷ [])
    ▸ λ register. u32 when (within (leaves 8 frame) ∷ [])
    )

abbrev pub variable : Option VariableRow → Format VariableRow
variable previous = as_ (λ x. record { width = x.0; invariant = x.1.0; kind = x.1.1 }) (λ v. (v.width, (v.invariant, v.kind))) (
    width
    ▸ λ width. as_ (λ n. n == 1) one_if (u8 when (formed (λ n. nat_le n 1) ∷ []))
    ▸ λ invariant. text ImageIsCut
    )

abbrev pub stack_label : ℕ → Option StackLabelRow → Format StackLabelRow
stack_label frame previous = as_ (λ n. record { offset = n }) (λ l. l.offset) (u32 when (within (λ n. nat_le n frame) ∷ []))

abbrev pub variable_number : ℕ → Option VariableNumber → Format VariableNumber
variable_number count previous = as_ (λ n. record { 0 = n }) (λ v. v.0) (u16 when (formed (λ n. nat_lt n count) ∷ []))

abbrev pub is_pair : ℕ → ℕ → Bool
is_pair frame n = (n % 8 == 0) && leaves 16 frame n

abbrev pub continuation_in : Code → ℕ → ℕ → Option ContinuationRow → Format ContinuationRow
continuation_in code frame variables previous = as_ (λ x. record { pair = x.0; code = x.1.0; parameters = x.1.1 }) (λ c. (c.pair, (c.code, c.parameters))) (
    u32 when (within (is_pair frame) ∷ [])
    ▸ λ pair. u64 when (lies_in code ∷ [])
    ▸ λ cuts. counted (u8 when (formed (λ n. nat_le n 64) ∷ [])) (variable_number variables)
    )

abbrev pub continuation : ℕ → ℕ → ℕ → Option ContinuationRow → Format ContinuationRow
continuation code_length frame variables previous = continuation_in (image_code code_length) frame variables previous

-- the mark of a procedure that saves no return address
abbrev pub no_return : ℕ
no_return = 0xFFFFFFFF

abbrev pub is_return_offset : ℕ → ℕ → Bool
is_return_offset frame n = (n % 8 == 0) && leaves 8 frame n

-- the fields of a procedure whose variables are kept as values of a type
abbrev pub FieldsWith : Type 0 → Type 0
FieldsWith V = ℕ × (List ℕ × (ℕ × (Option ℕ × (List SavedRegister × (List V × (List StackLabelRow × List ContinuationRow))))))

abbrev pub ProcedureFields : Type 0
ProcedureFields = FieldsWith VariableRow

abbrev pub procedure_of : ProcedureFields → ProcRow
procedure_of (code, (name, (frame, (return_at, (saved, (variables, (stack_labels, continuations))))))) = record {
  code = code;
  name = name;
  frame = frame;
  return_at = return_at;
  saved = saved;
  variables = variables;
  stack_labels = stack_labels;
  continuations = continuations;
}

abbrev pub procedure_fields : ProcRow → ProcedureFields
procedure_fields p = (p.code, (p.name, (p.frame, (p.return_at, (p.saved, (p.variables, (p.stack_labels, p.continuations)))))))

-- the fields of a procedure in code, whose variables, in a frame of a size, have a format of their own: behind a procedure at an address
abbrev pub procedure_in : {V : Type 0} → (ℕ → Option V → Format V) → Code → Option ℕ → Format (FieldsWith V)
procedure_in variable code previous =
    u64 when (above previous ∷ lies_in code ∷ [])
    ▸ λ address. text ImageIsCut
    ▸ λ name. u32 when (formed (λ n. n % 16 == 0) ∷ within (λ n. nat_le n 0x10000000) ∷ [])
    ▸ λ frame. optional ImageIsCut 4 no_return (within (is_return_offset frame) ∷ [])
    ▸ λ return_at. counted u8 (saved_register frame)
    ▸ λ saved. counted (u16 when (formed (λ n. nat_le n 1024) ∷ [])) (variable frame)
    ▸ λ variables. counted u16 (stack_label frame)
    ▸ λ stack_labels. counted u16 (continuation_in code frame (length variables))

abbrev pub procedure_with : {V : Type 0} → (ℕ → Option V → Format V) → ℕ → Option ℕ → Format (FieldsWith V)
procedure_with variable code_length previous = procedure_in variable (image_code code_length) previous

abbrev pub procedure : ℕ → Option ProcRow → Format ProcRow
procedure code_length previous = as_ procedure_of procedure_fields (procedure_with (λ frame. variable) code_length (option_map (λ p. p.code) previous))

-- ---- sites

-- the procedure of a number; of a number that none has, one without anything
abbrev pub no_procedure : ProcRow
no_procedure = record { code = 0; name = []; frame = 0; return_at = None; saved = []; variables = []; stack_labels = []; continuations = [] }

abbrev pub or_none : Option ProcRow → ProcRow
or_none None = no_procedure
or_none (Some p) = p

abbrev pub procedure_at : List ProcRow → ℕ → ProcRow
procedure_at procedures n = or_none (slice_get procedures n)

-- a procedure may have sites: it is there, its frame has 16 bytes, and it saves its return address
abbrev pub may_have_sites : ℕ → Option ℕ → Bool
may_have_sites frame return_at = nat_le 16 frame && is_some return_at

abbrev pub has_sites : List ProcRow → ℕ → Bool
has_sites procedures n = may_have_sites (procedure_at procedures n).frame (procedure_at procedures n).return_at

abbrev pub continuation_number : ℕ → Option ContinuationNumber → Format ContinuationNumber
continuation_number count previous = as_ (λ n. record { 0 = n }) (λ c. c.0) (u16 when (formed (λ n. nat_lt n count) ∷ []))

abbrev pub unwind_in : Code → ℕ → Option UnwindRow → Format UnwindRow
unwind_in code count previous = as_ (λ x. record { continuation = x.0; landing = x.1 }) (λ u. (u.continuation, u.landing)) (
    continuation_number count None
    ▸ λ continuation. u64 when (lies_in code ∷ [])
    )

abbrev pub unwind : ℕ → ℕ → Option UnwindRow → Format UnwindRow
unwind code_length count previous = unwind_in (image_code code_length) count previous

-- a span behind one with this token, whose value has a format of its own
abbrev pub span_with : {V : Type 0} → Format V → Option ℕ → Format (ℕ × V)
span_with value previous = u64 when (above previous ∷ []) ▸ λ token. value

abbrev pub span : Option SpanRow → Format SpanRow
span previous = as_ (λ x. record { token = x.0; value = x.1 }) (λ s. (s.token, s.value)) (span_with u64 (option_map (λ s. s.token) previous))

-- bit 0: never returns; bit 1: aborts
abbrev pub flags_of : ℕ → Bool × Bool
flags_of n = (n % 2 == 1, nat_le 2 n)

abbrev pub flags_number : Bool × Bool → ℕ
flags_number f = one_if f.0 + 2 * one_if f.1

abbrev pub flags : Format (Bool × Bool)
flags = as_ flags_of flags_number (u8 when (formed (λ n. nat_lt n 4) ∷ []))

-- the lists and the fields of a site whose spans are kept as values of a type
abbrev pub ListsOf : Type 0 → Type 0
ListsOf S = List ContinuationNumber × (List UnwindRow × (List ContinuationNumber × (List VariablePlace × List S)))

abbrev pub SiteFieldsOf : Type 0 → Type 0
SiteFieldsOf S = ℕ × (ℕ × (ℕ × ((Bool × Bool) × (Option ℕ × (List Width × ListsOf S)))))

abbrev pub SiteLists : Type 0
SiteLists = ListsOf SpanRow

abbrev pub SiteFields : Type 0
SiteFields = SiteFieldsOf SpanRow

abbrev pub site_of_fields : SiteFields → SiteRow
site_of_fields (return_address, (procedure, (number, (flags, (yield_values, (results, (returns, (unwinds, (cuts, (variables, spans)))))))))) = record {
  return_address = return_address;
  procedure = procedure;
  number = number;
  never_returns = flags.0;
  aborts = flags.1;
  yield_values = yield_values;
  results = results;
  returns = returns;
  unwinds = unwinds;
  cuts = cuts;
  variables = variables;
  spans = spans;
}

abbrev pub site_fields : SiteRow → SiteFields
site_fields s = (s.return_address, (s.procedure, (s.number, ((s.never_returns, s.aborts), (s.yield_values, (s.results, (s.returns, (s.unwinds, (s.cuts, (s.variables, s.spans))))))))))

-- behind n alternate exits, of four bytes each, stands the normal return
abbrev pub exits_in : Code → ℕ → ℕ → Bool
exits_in code return_address n = is_in code (return_address + 4 * n)

abbrev pub exits_in_code : ℕ → ℕ → ℕ → Bool
exits_in_code code_length return_address n = exits_in (image_code code_length) return_address n

-- the exits, places and spans of a site in code, in a procedure which has n continuations, the places of whose variables have a format, and so have the spans
abbrev pub lists_in : {S : Type 0} → Format (List VariablePlace) → (Option S → Format S) → Code → ℕ → ℕ → Format (ListsOf S)
lists_in places span code continuations return_address =
    counted (u8 when (formed (λ n. nat_le n 64) ∷ within (exits_in code return_address) ∷ [])) (continuation_number continuations)
    ▸ λ returns. counted u16 (unwind_in code continuations)
    ▸ λ unwinds. counted u16 (continuation_number continuations)
    ▸ λ cuts. places
    ▸ λ variables. counted u16 span

-- those in an image
abbrev pub lists_with : Format (List VariablePlace) → ℕ → ℕ → ℕ → Format SiteLists
lists_with places code_length continuations return_address = lists_in places span (image_code code_length) continuations return_address

-- those in a procedure whose frame has a size and which has n variables, each of whose places stands at the site
abbrev pub site_lists : ℕ → ℕ → ℕ → ℕ → ℕ → Format SiteLists
site_lists code_length frame variables continuations return_address = lists_with (rows (variable_place frame) variables) code_length continuations return_address

abbrev pub site_lists_in : ℕ → ProcRow → ℕ → Format SiteLists
site_lists_in code_length p return_address = site_lists code_length p.frame (length p.variables) (length p.continuations) return_address

-- the fields of a site: the conditions of its return address, and the formats of its procedure's number and of its lists
abbrev pub site_fields_with : {S : Type 0} → List (Condition ℕ) → Format ℕ → (ℕ → ℕ → Format (ListsOf S)) → Format (SiteFieldsOf S)
site_fields_with address procedure lists =
    u64 when address
    ▸ λ return_address. procedure
    ▸ λ procedure. u32
    ▸ λ number. flags
    ▸ λ flags. optional ImageIsCut 1 255 (formed (λ n. nat_le n 64) ∷ [])
    ▸ λ yield_values. counted (u8 when (formed (λ n. nat_le n 64) ∷ [])) (λ previous. width)
    ▸ λ results. lists procedure return_address

abbrev pub site_with : List (Condition ℕ) → Format ℕ → (ℕ → ℕ → Format SiteLists) → Format SiteRow
site_with address procedure lists = as_ site_of_fields site_fields (site_fields_with address procedure lists)

abbrev pub site : ℕ → List ProcRow → Option SiteRow → Format SiteRow
site code_length procedures previous =
    site_with (above (option_map (λ s. s.return_address) previous) ∷ in_code code_length ∷ []) (u32 when (formed (has_sites procedures) ∷ []))
    (λ procedure. site_lists_in code_length (procedure_at procedures procedure))

-- ---- labels and global registers

abbrev pub label : ℕ → Option LabelRow → Format LabelRow
label data_length previous = as_ (λ x. record { name = x.0; address = x.1 }) (λ l. (l.name, l.address)) (
    text ImageIsCut when (after (option_map (λ l. l.name) previous) ∷ [])
    ▸ λ name. u64 when (within (is_in_data data_length) ∷ [])
    )

abbrev pub global : Option GlobalRow → Format GlobalRow
global previous = as_ (λ x. record { width = x.0; name = x.1 }) (λ g. (g.width, g.name)) (
    width
    ▸ λ width. text ImageIsCut when (after (option_map (λ g. g.name) previous) ∷ [])
    )

-- ---- the tables of version 1: the records of all procedures, and then those of all sites

abbrev pub Tables : Type 0
Tables = List ProcRow × List SiteRow

abbrev pub first_tables : ℕ → ℕ → ℕ → Format Tables
first_tables code_length procedures sites = rows (procedure code_length) procedures ▸ λ procs. rows (site code_length procs) sites
