-- At most 200 spans are in force at each call site of units that keep the limits on nesting.
use Rattle.std.proofs.Common.{◌≡◌, ℕ, suc, ◌+◌, ◌≤◌, Bool, true, false, List, [], ◌∷◌, ◌++◌, None, arith, length}
use Rattle.std.specs.Prelude.{map, flat_map, nat_lt, ◌==◌, All}
use Rattle.std.proofs.lemmas.List.{length-map, length-append}
use Rattle.std.proofs.lemmas.List.Elements.{All-nil, All-cons, All-append, All-head, All-tail}
use Rattle.cmm_lexer.specs.declared.piece.Lexeme.{Lexeme}
use Rattle.cmm_grammar.specs.Derivation.{DerivesWithin}
use Rattle.cmm_ast.specs.declared.statement.Part.{Part}
use Rattle.cmm_ast.specs.declared.statement.Part.TheVariants as parts
use Rattle.cmm_ast.specs.declared.statement.StmtForm.{StmtForm}
use Rattle.cmm_ast.specs.declared.statement.StmtForm.TheVariants as stmts
use Rattle.cmm_ast.specs.declared.procedure.Proc.{Proc as ProcTree}
use Rattle.cmm_ast.specs.declared.unit.Item.{Item}
use Rattle.cmm_ast.specs.declared.unit.Item.TheVariants as items
use Rattle.cmm_ast.specs.declared.unit.Unit.{Unit as UnitTree}
use Rattle.cmm_program.specs.declared.procedure.Proc.{Proc}
use Rattle.cmm_program.specs.declared.procedure.Site.{Site}
use Rattle.cmm_static_semantics.specs.Senses.{Senses}
use Rattle.cmm_static_semantics.specs.Items.{SpanTree, Within, items_of, parts_in}
use Rattle.cmm_static_semantics.specs.Declarations.{NamedUnit, named_units, units_from, procs_in, labels_in, sum_of}
use Rattle.cmm_static_semantics.specs.Linking.{Program as Linked, program_of}
use Rattle.cmm_static_semantics.specs.Scopes.{Scope, senses, unit_senses}
use Rattle.cmm_static_semantics.specs.Statements.{scope_of}
use Rattle.cmm_elaboration.specs.Sites.{SpanValue, span_value, with_span, innermost, form_sites, part_sites, sites_among}
use Rattle.cmm_elaboration.specs.Procedures.{procedure_of}
use Rattle.cmm_elaboration.specs.Meaning.{item_procedures, unit_procedures, procedures_from}
use Rattle.cmm_elaboration.specs.Laws.{AreDerivedWithin, SpansAreFew}
use Rattle.cmm_elaboration.proofs.Nesting.{IsFew, ItemFew, unit_few}

-- ---- a span inside others makes them one more at most

with_by : (x y : SpanValue) (ys more : List SpanValue) (less same : Bool) → length more ≤ suc (length ys) →
    length (elim less as (λ b. List SpanValue) [ true ↦ x ∷ y ∷ ys | false ↦ elim same as (λ b. List SpanValue) [ true ↦ x ∷ ys | false ↦ y ∷ more ] ]) ≤ suc (length (y ∷ ys))
with_by x y ys more true same h = omega arith
with_by x y ys more false true h = omega arith
with_by x y ys more false false h = omega arith

with_few : (x : SpanValue) (ys : List SpanValue) → length (with_span x ys) ≤ suc (length ys)
with_few x [] = omega arith
with_few x (y ∷ ys) = with_by x y ys (with_span x ys) (nat_lt x.0 y.0) (x.0 == y.0) (with_few x ys)

innermost_few : (xs : List SpanValue) → length (innermost xs) ≤ length xs
innermost_few [] = omega arith
innermost_few (x ∷ xs) =
    let one : length (with_span x (innermost xs)) ≤ suc (length (innermost xs)) = with_few x (innermost xs) in let rest : length (innermost xs) ≤ length xs = innermost_few xs in
    let goal : length (with_span x (innermost xs)) ≤ suc (length xs) = omega arith in goal

-- ---- sites

abbrev SiteFew : Site → Type 0
SiteFew site = length site.spans ≤ 200

abbrev AllFew : Proc → Type 0
AllFew q = All SiteFew q.sites

form_few : (s : Scope) (spans : List SpanValue) (form : StmtForm) → length spans ≤ 200 → All SiteFew (form_sites s spans form)
form_few s spans (stmts.Call results None callee actuals fs) few = All-cons SiteFew _ [] few (All-nil SiteFew)
form_few s spans (stmts.Checked result operator left right fs) few = All-cons SiteFew _ [] few (All-nil SiteFew)
form_few s spans form few = All-nil SiteFew

part_few : (s : Scope) (spans : List SpanValue) (p : Part) → length spans ≤ 200 → All SiteFew (part_sites s spans p)
part_few s spans (parts.Local l) few = All-nil SiteFew
part_few s spans (parts.Stmt' first past form) few = form_few s spans form few

sites_few : (s : Scope) (around : List SpanValue) (m : ℕ) → length around ≡ m → (ps : List (Within Part)) → All (IsFew m) ps → All SiteFew (sites_among s around ps)
sites_few s around m count [] few = All-nil SiteFew
sites_few s around m count (p ∷ ps) few =
    let inside = map (span_value (senses s)) p.spans in
    let one : m + length p.spans ≤ 200 = All-head (IsFew m) p ps few in
    let own : length inside ≡ length p.spans = length-map p.spans (span_value (senses s)) in
    let all : length (inside ++ around) ≡ length inside + length around = length-append inside around in
    let less : length (innermost (inside ++ around)) ≤ length (inside ++ around) = innermost_few (inside ++ around) in
    All-append SiteFew (part_sites s (innermost (inside ++ around)) p.what) (sites_among s around ps)
    (part_few s (innermost (inside ++ around)) p.what (omega arith)) (sites_few s around m count ps (All-tail (IsFew m) p ps few))

-- ---- procedures of units

procedure_few : (names : Senses) (unit : ℕ) (around : List SpanTree) (p : ProcTree) → All (IsFew (length around)) (parts_in [] p.body) → AllFew (procedure_of names unit around p)
procedure_few names unit around p few =
    sites_few (scope_of names p) (map (span_value names) around) (length around) (length-map around (span_value names)) (parts_in [] p.body) few

item_sites : (names : Senses) (unit : ℕ) (spans : List SpanTree) (i : Item) → ItemFew (record { spans = spans; what = i }) → All AllFew (item_procedures names unit (record { spans = spans; what = i }))
item_sites names unit spans (items.Decl d) few = All-nil AllFew
item_sites names unit spans (items.Proc p) few = All-cons AllFew (procedure_of names unit spans p) [] (procedure_few names unit spans p few) (All-nil AllFew)
item_sites names unit spans (items.Datum d) few = All-nil AllFew
item_sites names unit spans (items.Span' first key value size inside) few = All-nil AllFew

items_sites : (names : Senses) (unit : ℕ) (is : List (Within Item)) → All ItemFew is → All AllFew (flat_map (item_procedures names unit) is)
items_sites names unit [] few = All-nil AllFew
items_sites names unit (i ∷ is) few =
    All-append AllFew (item_procedures names unit i) (flat_map (item_procedures names unit) is) (item_sites names unit i.spans i.what (All-head ItemFew i is few))
    (items_sites names unit is (All-tail ItemFew i is few))

abbrev UnitFew : NamedUnit → Type 0
UnitFew u = All ItemFew u.items

units_sites : (program : Linked) (number : ℕ) (us : List NamedUnit) → All UnitFew us → All AllFew (procedures_from program number us)
units_sites program number [] few = All-nil AllFew
units_sites program number (u ∷ us) few =
    All-append AllFew (unit_procedures program number u) (procedures_from program (suc number) us)
    (items_sites (unit_senses program u.entries) number u.items (All-head UnitFew u us few)) (units_sites program (suc number) us (All-tail UnitFew u us few))

abbrev IsDerived : UnitTree → Type 0
IsDerived u = (tokens : List Lexeme) × DerivesWithin tokens u

units_few : (procs labels : ℕ) (us : List UnitTree) → AreDerivedWithin us → All UnitFew (units_from procs labels us)
units_few procs labels [] derived = All-nil UnitFew
units_few procs labels (u ∷ us) derived = let d = All-head IsDerived u us derived in
    All-cons UnitFew _ (units_from (procs + sum_of procs_in (items_of u)) (labels + sum_of labels_in (items_of u)) us) (unit_few u d.0 d.1)
    (units_few (procs + sum_of procs_in (items_of u)) (labels + sum_of labels_in (items_of u)) us (All-tail IsDerived u us derived))

pub spans_are_few : SpansAreFew
spans_are_few us derived = units_sites (program_of (named_units us)) 0 (named_units us) (units_few 0 0 us derived)
