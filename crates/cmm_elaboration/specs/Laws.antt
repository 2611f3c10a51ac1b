-- What holds of the program that units mean.
use Rattle.std.specs.Prelude.{◌≡◌, ℕ, suc, ◌+◌, ◌^◌, ◌<◌, ◌≤◌, ◌&&◌, nat_le, Bool, true, false, IsTrue, All, List, [], length, map, sum_by, ◌*◌, slice_get, Option, Some, None}
use Rattle.std.specs.List.{list_all, range_with_len}
use Rattle.std.specs.List.Sorted.{IsNonDecreasingBy, IsStrictlySortedBy}
use Rattle.std.specs.Cmp.Lexicographic.{slice_cmp}
use Rattle.std.specs.Ordering.{nat_cmp}
use Rattle.std.specs.Option.{is_some}
use Rattle.cmm_lexer.specs.declared.piece.Lexeme.{Lexeme}
use Rattle.cmm_lexer.specs.Laws.{AreBytes, IsOfBytes}
use Rattle.cmm_lexer.specs.Lexing.{tokens_of}
use Rattle.cmm_grammar.specs.Derivation.{Derives, DerivesWithin}
use Rattle.cmm_ast.specs.declared.unit.Unit.{Unit as UnitTree}
use Rattle.cmm_words.specs.declared.width.Width.{Width}
use Rattle.cmm_program.specs.declared.procedure.Proc.{Proc}
use Rattle.cmm_program.specs.declared.statement.Form.{Form}
use Rattle.cmm_program.specs.InRange.{IsInRange, all_ranges, are_assigned, below, defaults, is_continuation, is_datum, is_form, is_item, is_label, is_name, is_range, is_site, none_meet}
use Rattle.cmm_program.specs.Layout.{end_before, stackdata_size}
use Rattle.cmm_program.specs.Bodies.{AtLabel, Branch, after_inside, body_statements, branches}
use Rattle.cmm_program.specs.declared.statement.Form.TheVariants.{Assign, Cut, Goto, Span, Switch'}
use Rattle.cmm_program.specs.Typing.{is_typed, typed}
use Rattle.cmm_program.specs.Tokens.{own_tokens, procedure_tokens}
use Rattle.cmm_program.specs.Numbering.{AreNumbered, body_numbers, body_tokens, label_number, continuation_number, site_number}
use Rattle.cmm_program.specs.declared.program.Program.{Program}
use Rattle.cmm_program.specs.Limits.{data_limit, procedure_limit, procedure_token_limit, register_limit, site_span_limit, site_variable_limit, stackdata_limit, token_limit, unit_limit, variable_limit}
use Rattle.cmm_ast.specs.declared.expression.Expr.{Expr}
use Rattle.cmm_ast.specs.declared.unit.DatumForm.TheVariants.{Data}
use Rattle.cmm_ast.specs.declared.unit.Initial.{Initial}
use Rattle.cmm_ast.specs.declared.unit.Initial.TheVariants.{Text}
use Rattle.cmm_ast.specs.declared.unit.Item.{Item}
use Rattle.cmm_ast.specs.declared.unit.Item.TheVariants.{Datum}
use Rattle.cmm_static_semantics.specs.Senses.{Senses}
use Rattle.cmm_static_semantics.specs.Algebras.{expressions}
use Rattle.cmm_static_semantics.specs.Typing.{expr_type}
use Rattle.cmm_static_semantics.specs.Expressions.{inner_spots}
use Rattle.cmm_ast.specs.declared.procedure.Proc.{Proc as ProcTree}
use Rattle.cmm_static_semantics.specs.Items.{SpanTree}
use Rattle.cmm_static_semantics.specs.Scopes.{senses, unit_senses}
use Rattle.cmm_static_semantics.specs.Declarations.{named_units}
use Rattle.cmm_static_semantics.specs.Linking.{program_of}
use Rattle.cmm_static_semantics.specs.Statements.{scope_of}
use Rattle.cmm_elaboration.specs.Procedures.{procedure_of}
use Rattle.cmm_static_semantics.specs.Faults.{AreAccepted}
use Rattle.cmm_elaboration.specs.Fitting.{NamesFit, JudgedFits, is_whole}
use Rattle.cmm_elaboration.specs.Meaning.{meaning_of}

-- the numbers that the statements of a body have are those below a count, once each, in textual order
pub record AreInOrder (number : Form → List ℕ) (count : ℕ) (q : Proc) : Type 0 where
  pub ascending : body_numbers number q ≡ range_with_len 0 count
  pub once : AreNumbered number count q

-- the call sites of each procedure
abbrev pub SitesAreInOrder : Type 0
SitesAreInOrder = (us : List UnitTree) → All (λ q. AreInOrder site_number (length q.sites) q) (meaning_of us).procs

-- the labels and the continuations of a procedure
pub record MarksInOrder (q : Proc) : Type 0 where
  pub labels : AreInOrder label_number (length (body_numbers label_number q)) q
  pub continuations : AreInOrder continuation_number (length q.conts) q

-- where no rule is broken
abbrev pub MarksAreInOrder : Type 0
MarksAreInOrder = (us : List UnitTree) → AreAccepted us → All MarksInOrder (meaning_of us).procs

-- where names fit a program, so does each expression over them that names no procedure of the host and no other alignment than the language's
abbrev pub WidthsAreKept : Type 0
WidthsAreKept = (p : Program) (q : Proc) (names : Senses) → NamesFit p q names → (e : Expr) → inner_spots names e ≡ [] →
    JudgedFits p q (expr_type expressions names e)

-- where the names of a unit fit a program, so do those of each procedure that is a procedure of it
abbrev pub ScopesFit : Type 0
ScopesFit = (p : Program) (outer : Senses) (unit : ℕ) (around : List SpanTree) (tree : ProcTree) → let q = procedure_of outer unit around tree in
    NamesFit p q outer → NamesFit p q (senses (scope_of outer tree))

-- the names of each accepted unit fit the program, whatever procedure of it they are asked in
abbrev pub NamesAreThere : Type 0
NamesAreThere = (us : List UnitTree) → AreAccepted us →
    All (λ u. (q : Proc) → NamesFit (meaning_of us) q (unit_senses (program_of (named_units us)) u.entries)) (named_units us)

-- the limits on a procedure
pub record ProcKeepsLimits (p : Program) (q : Proc) : Type 0 where
  pub unit : q.unit < unit_limit
  pub formals : IsTrue (nat_le q.formals (length q.vars) && nat_le q.formals 64)
  pub variables : length q.vars ≤ variable_limit
  pub tokens : q.tokens ≤ procedure_token_limit
  pub items : IsTrue (list_all is_item q.stack)
  pub continuations : IsTrue (list_all (is_continuation p q) q.conts)

-- and those on numbers of procedures and registers, and on sums over all call sites
pub record KeepsLimits (p : Program) : Type 0 where
  pub procedures : All (ProcKeepsLimits p) p.procs
  pub procedure_count : length p.procs ≤ procedure_limit
  pub main : p.main < length p.procs
  pub registers : length p.globals ≤ register_limit
  pub site_variables : sum_by (λ q. length q.sites * length q.vars) p.procs ≤ site_variable_limit
  pub site_spans : sum_by (λ q. sum_by (λ site. length site.spans) q.sites) p.procs ≤ site_span_limit

abbrev pub LimitsAreKept : Type 0
LimitsAreKept = (us : List UnitTree) → AreAccepted us → KeepsLimits (meaning_of us)

-- the call sites of each procedure of accepted units keep the rules on results, exits and spans
abbrev pub SitesAreThere : Type 0
SitesAreThere = (us : List UnitTree) → AreAccepted us → All (λ q. IsTrue (list_all (is_site (meaning_of us) q) q.sites)) (meaning_of us).procs

-- a `goto` leads to a label of its procedure, and a cut statement to continuations of it
abbrev pub leads : Proc → Form → Bool
leads q (Goto n) = is_some (after_inside (AtLabel n) (Span q.body))
leads q (Cut to values own) = list_all (below (length q.conts)) own
leads q _ = true

abbrev pub WaysAreThere : Type 0
WaysAreThere = (us : List UnitTree) → AreAccepted us → All (λ q. IsTrue (list_all (λ st. leads q st.form) (body_statements q))) (meaning_of us).procs

-- the stackdata of each procedure of accepted units takes at most 64 KiB
abbrev pub StackdataFits : Type 0
StackdataFits = (us : List UnitTree) → AreAccepted us → All (λ q. stackdata_size q.stack ≤ stackdata_limit) (meaning_of us).procs

-- names and kinds of variables have at most 255 bytes
pub record NamesShort (q : Proc) : Type 0 where
  pub name : IsTrue (is_name q.name)
  pub kinds : IsTrue (list_all (λ v. is_name v.kind) q.vars)

abbrev pub NamesAreShort : Type 0
NamesAreShort = (us : List UnitTree) → AreAccepted us → All NamesShort (meaning_of us).procs

-- the procedure that the program starts with has no formals
abbrev pub StartHasNoFormals : Type 0
StartHasNoFormals = (us : List UnitTree) → AreAccepted us → (q : Proc) → slice_get (meaning_of us).procs (meaning_of us).main ≡ Some q → q.formals ≡ 0

-- each data label stands on a datum or behind one, and its name and link names have at most 255 bytes
abbrev pub LabelsAreThere : Type 0
LabelsAreThere = (us : List UnitTree) → AreAccepted us → IsTrue (list_all (is_label (meaning_of us)) (meaning_of us).labels)

abbrev pub RegisterNamesAreShort : Type 0
RegisterNamesAreShort = (us : List UnitTree) → AreAccepted us → IsTrue (list_all (λ g. is_name g.name) (meaning_of us).globals)

-- the procedures of any units stand unit by unit, in the order of the units
abbrev pub ProceduresAscend : Type 0
ProceduresAscend = (us : List UnitTree) → IsNonDecreasingBy (λ q. q.unit) (meaning_of us).procs

-- the registers of any units are in the order of their names, by bytes, each name once
abbrev pub RegistersAscend : Type 0
RegistersAscend = (us : List UnitTree) → IsStrictlySortedBy (slice_cmp nat_cmp) (map (λ g. g.name) (meaning_of us).globals)

-- the data of all units ends at most 64 MiB behind where it begins, before the first datum
abbrev pub DataFits : Type 0
DataFits = (us : List UnitTree) → AreAccepted us → let p = meaning_of us in end_before p (length p.datums) ≤ end_before p 0 + data_limit

-- no name of an accepted unit is broken
abbrev pub NamesAreWhole : Type 0
NamesAreWhole = (us : List UnitTree) → AreAccepted us →
    All (λ u. (name : List ℕ) → IsTrue (is_whole (unit_senses (program_of (named_units us)) u.entries name))) (named_units us)

-- a text that data begins with is one of bytes, as each text is that is read
abbrev pub has_bytes : Initial → Bool
has_bytes (Text text) = list_all (below 256) text.bytes
has_bytes _ = true

abbrev pub of_bytes : Item → Bool
of_bytes (Datum d) = elim d.form [ Data t count initial ↦ has_bytes initial | _ ↦ true ]
of_bytes _ = true

abbrev pub TextsAreBytes : List UnitTree → Type 0
TextsAreBytes us = IsTrue (list_all (λ u. list_all (λ i. of_bytes i.what) u.items) (named_units us))

-- alignments are those of the language, and the values of a datum fill it, each with its width
abbrev pub DatumsAreInRange : Type 0
DatumsAreInRange = (us : List UnitTree) → AreAccepted us → TextsAreBytes us → IsTrue (list_all (is_datum (meaning_of us)) (meaning_of us).datums)

-- what the rules ask of a statement. That something is assigned to, and that each arm of a switch but the default has a range, is of the grammar;
-- the ranges stand apart.
abbrev pub keeps_rules : Program → Proc → Form → Bool
keeps_rules p q (Assign to values) = are_assigned p q to values
keeps_rules p q (Switch' value _ arms) = is_typed p q value
keeps_rules p q form = is_form p q form

abbrev pub StatementsKeepRules : Type 0
StatementsKeepRules = (us : List UnitTree) → AreAccepted us → All (λ q. IsTrue (list_all (λ st. keeps_rules (meaning_of us) q st.form) (body_statements q))) (meaning_of us).procs

-- the ranges of a switch on values of a width: none falls or leaves the width, no two meet, and there is one default at most
abbrev pub are_apart : Option Width → List Branch → Bool
are_apart None bs = false
are_apart (Some width) bs = list_all (is_range width) (all_ranges bs) && none_meet (all_ranges bs) && nat_le (defaults bs) 1

abbrev pub ranges_apart : Program → Proc → Form → Bool
ranges_apart p q (Switch' value _ arms) = are_apart (typed p q value) (branches arms)
ranges_apart p q _ = true

abbrev pub RangesAreApart : Type 0
RangesAreApart = (us : List UnitTree) → AreAccepted us → All (λ q. IsTrue (list_all (λ st. ranges_apart (meaning_of us) q st.form) (body_statements q))) (meaning_of us).procs

-- each unit derives some tokens, by the grammar
abbrev pub AreDerived : List UnitTree → Type 0
AreDerived us = All (λ u. (tokens : List Lexeme) × Derives tokens u) us

abbrev pub FormsAreInRange : Type 0
FormsAreInRange = (us : List UnitTree) → AreAccepted us → AreDerived us → All (λ q. IsTrue (list_all (λ st. is_form (meaning_of us) q st.form) (body_statements q))) (meaning_of us).procs

-- each unit derives some tokens, with a place for each of them and for its end
abbrev pub AreRead : List UnitTree → Type 0
AreRead us = All (λ u. (tokens : List Lexeme) × (Derives tokens u × (length u.places ≡ suc (length tokens)))) us

-- each unit derives some tokens, none of which passes a limit on nesting
abbrev pub AreDerivedWithin : List UnitTree → Type 0
AreDerivedWithin us = All (λ u. (tokens : List Lexeme) × DerivesWithin tokens u) us

-- at most 200 spans are in force at each call site, as each stands in a bracket of its own
abbrev pub SpansAreFew : Type 0
SpansAreFew = (us : List UnitTree) → AreDerivedWithin us → All (λ q. All (λ site. length site.spans ≤ 200) q.sites) (meaning_of us).procs

-- the limits on sums that come from counting tokens
pub record KeepsCounts (p : Program) : Type 0 where
  pub tokens : sum_by (λ q. q.tokens) p.procs ≤ token_limit
  pub datum_count : length p.datums < 2 ^ 32
  pub label_count : length p.labels < 2 ^ 32

abbrev pub CountsAreKept : Type 0
CountsAreKept = (us : List UnitTree) → AreAccepted us → AreRead us → KeepsCounts (meaning_of us)

-- the counts of a procedure's statements come to at most its own
abbrev pub BodiesAreCounted : Type 0
BodiesAreCounted = (us : List UnitTree) → AreAccepted us → AreDerived us → All (λ q. body_tokens q ≤ q.tokens) (meaning_of us).procs

-- each statement counts at least as many tokens as its shortest text has
abbrev pub StatementsHaveShortest : Type 0
StatementsHaveShortest = (us : List UnitTree) → AreAccepted us → AreDerived us → All (λ q. IsTrue (list_all (λ st. nat_le (own_tokens q st.form) st.tokens) (body_statements q))) (meaning_of us).procs

-- and so does each whole procedure
abbrev pub ProceduresHaveShortest : Type 0
ProceduresHaveShortest = (us : List UnitTree) → AreAccepted us → AreDerived us → All (λ q. procedure_tokens q ≤ q.tokens) (meaning_of us).procs

-- each unit derives some tokens that are of bytes
abbrev pub AreOfBytes : List UnitTree → Type 0
AreOfBytes us = All (λ u. (tokens : List Lexeme) × (Derives tokens u × All IsOfBytes tokens)) us

abbrev pub TextsComeFromTokens : Type 0
TextsComeFromTokens = (us : List UnitTree) → AreOfBytes us → TextsAreBytes us

abbrev pub ProgramsAreInRange : Type 0
ProgramsAreInRange = (us : List UnitTree) → AreAccepted us → AreRead us → TextsAreBytes us → IsInRange (meaning_of us)

-- a unit is read from bytes: it derives the tokens that they make, and has a place for each of these and for its end
pub record IsReadFromBytes (u : UnitTree) : Type 0 where
  pub bytes : List ℕ
  pub are_bytes : AreBytes bytes
  pub derives : Derives (map (λ t. t.lexeme) (tokens_of bytes)) u
  pub places : length u.places ≡ suc (length (tokens_of bytes))

abbrev pub ReadProgramsAreInRange : Type 0
ReadProgramsAreInRange = (us : List UnitTree) → AreAccepted us → All IsReadFromBytes us → IsInRange (meaning_of us)
