-- Each statement of accepted units that derive some tokens counts at least the tokens of its shortest text.
use Rattle.std.proofs.Common.{◌≡◌, ℕ, suc, ◌+◌, ◌-◌, ◌≤◌, refl, sym, ap, ◌∙◌, true, List, [], ◌∷◌, ◌++◌, append_assoc, Some, None, arith, length, length-append, IsTrue, ◌⊎◌, inl, inr}
use Rattle.std.specs.Prelude.{map, flat_map, nat_le, slice_get, All}
use Rattle.std.specs.List.{list_all}
use Rattle.std.proofs.lemmas.Bool.{and_parts, le-leb, and_from}
use Rattle.std.proofs.lemmas.List.Folds.{list_all-append}
use Rattle.std.proofs.lemmas.List.Elements.{All-nil, All-cons, All-append, All-head, All-tail}
use Rattle.cmm_ast.specs.declared.procedure.Proc.{Proc as ProcTree}
use Rattle.cmm_ast.specs.declared.statement.Part.{Part}
use Rattle.cmm_ast.specs.declared.statement.Part.TheVariants as parts
use Rattle.cmm_ast.specs.declared.statement.StmtForm.{StmtForm}
use Rattle.cmm_ast.specs.declared.statement.StmtForm.TheVariants as stmts
use Rattle.cmm_ast.specs.declared.unit.Item.{Item}
use Rattle.cmm_ast.specs.declared.unit.Item.TheVariants as items
use Rattle.cmm_ast.specs.declared.unit.Unit.{Unit as UnitTree}
use Rattle.cmm_grammar.specs.Taking.{Reading}
use Rattle.cmm_grammar.specs.StatementGrammar.{stmt_form, chained, proc}
use Rattle.cmm_program.specs.declared.procedure.Cont.{Cont}
use Rattle.cmm_program.specs.declared.procedure.Proc.{Proc}
use Rattle.cmm_program.specs.declared.procedure.Site.{Site}
use Rattle.cmm_program.specs.declared.program.Program.{Program}
use Rattle.cmm_program.specs.Bodies.{body_statements}
use Rattle.cmm_program.specs.Frames.{parameters}
use Rattle.cmm_program.specs.Tokens.{own_tokens}
use Rattle.cmm_rules.specs.declared.rule.Rule.TheVariants.{BadHostCall}
use Rattle.cmm_static_semantics.specs.Items.{SpanTree, Within, parts_in, parts_of}
use Rattle.cmm_static_semantics.specs.Calls.{is_foreign}
use Rattle.cmm_static_semantics.specs.Declarations.{Declared, Local, Continuation, NamedUnit, named_units, again, formal_name, part_names, number_in, is_continuation}
use Rattle.cmm_static_semantics.specs.Linking.{Program as Linked, program_of}
use Rattle.cmm_static_semantics.specs.Limits.{sites_of, proc_limits}
use Rattle.cmm_static_semantics.specs.Scopes.{Scope, senses, unit_senses}
use Rattle.cmm_static_semantics.specs.Statements.{stmt_spots, part_spots, scope_of, proc_spots}
use Rattle.cmm_static_semantics.specs.Faults.{AreAccepted, each_unit, item_procedure_spots, procedure_spots}
use Rattle.cmm_elaboration.specs.Fitting.{NamesFit}
use Rattle.cmm_elaboration.specs.Sites.{SpanValue, span_value, innermost, continuation_of, form_sites, part_sites, sites_among}
use Rattle.cmm_elaboration.specs.Bodies.{blocks_length, form_of, part_of}
use Rattle.cmm_elaboration.specs.Procedures.{procedure_of, parameter_of, part_conts}
use Rattle.cmm_elaboration.specs.Meaning.{meaning_of, item_procedures, unit_procedures, procedures_from}
use Rattle.cmm_elaboration.specs.Laws.{AreDerived, StatementsHaveShortest}
use Rattle.cmm_elaboration.proofs.Nothing.{no_left, no_right, no_unless, first_unit, other_units, unbroken, procedures_kept}
use Rattle.cmm_elaboration.proofs.Naming.{how_many, how_many_append, number_here, again_head, again_rest}
use Rattle.cmm_elaboration.proofs.MarkNumbers.{formals_none, continuations_alone, part_conts_are, declared_once}
use Rattle.cmm_elaboration.proofs.Everywhere.{Place}
use Rattle.cmm_elaboration.proofs.Flat.{whats, flat_from, procedure_is}
use Rattle.cmm_elaboration.proofs.Scoping.{scopes_fit}
use Rattle.cmm_elaboration.proofs.Starting.{behind}
use Rattle.cmm_elaboration.proofs.UnitNames.{names_of, declared_there}
use Rattle.cmm_elaboration.proofs.Wide.{IsWide, unit_wide, scope_wide}
use Rattle.cmm_elaboration.proofs.Whole.{IsUnbroken}
use Rattle.cmm_elaboration.proofs.Settled.{unit_unbroken}
use Rattle.cmm_elaboration.proofs.WholeUnits.{scope_unbroken}
use Rattle.cmm_elaboration.proofs.Values.{test_judged}
use Rattle.cmm_elaboration.proofs.Forms.{SitesAt, one_site, own_sites}
use Rattle.cmm_elaboration.proofs.Derived.{Taken}
use Rattle.cmm_elaboration.proofs.TakenParts.{PartTaken, ItemTaken, body_taken, units_taken}
use Rattle.cmm_elaboration.proofs.Spent.{IsShort}
use Rattle.cmm_elaboration.proofs.SpentNames.{unit_short, scope_short}
use Rattle.cmm_elaboration.proofs.SpentStatements.{Needs, form_cost, chained_cost}

-- ---- what holds of each procedure of accepted units, of which each takes some tokens

abbrev OwnItem : Within Item → Type 0
OwnItem i = ItemTaken i.what

abbrev OwnUnit : NamedUnit → Type 0
OwnUnit u = All (λ i. ItemTaken i.what) u.items

module _ (P : Proc → Type 0) (program : Linked) (all : List NamedUnit)
    (each : (earlier : List NamedUnit) (u : NamedUnit) (number : ℕ) → Place all earlier u number → (around : List SpanTree) (p : ProcTree) →
    item_procedure_spots (unit_senses program u.entries) (items.Proc p) ≡ [] → Taken (proc p) → P (procedure_of (unit_senses program u.entries) number around p)) where
  item_kept : (earlier : List NamedUnit) (u : NamedUnit) (number : ℕ) → Place all earlier u number → (around : List SpanTree) (i : Item) →
      item_procedure_spots (unit_senses program u.entries) i ≡ [] → ItemTaken i → All P (item_procedures (unit_senses program u.entries) number (record { spans = around; what = i }))
  item_kept earlier u number place around (items.Proc p) none taken =
      All-cons P (procedure_of (unit_senses program u.entries) number around p) [] (each earlier u number place around p none taken) (All-nil P)
  item_kept earlier u number place around (items.Decl d) none taken = All-nil P
  item_kept earlier u number place around (items.Datum d) none taken = All-nil P
  item_kept earlier u number place around (items.Span' first key value size inside) none taken = All-nil P

  unit_kept : (earlier : List NamedUnit) (u : NamedUnit) (number : ℕ) → Place all earlier u number → (is : List (Within Item)) →
      flat_map (λ i. item_procedure_spots (unit_senses program u.entries) i.what) is ≡ [] → All OwnItem is → All P (flat_map (item_procedures (unit_senses program u.entries) number) is)
  unit_kept earlier u number place [] none taken = All-nil P
  unit_kept earlier u number place (i ∷ is) none taken = let names = unit_senses program u.entries in
      let here = item_procedure_spots names i.what in let rest = flat_map (λ (j : Within Item). item_procedure_spots names j.what) is in
      All-append P (item_procedures names number i) (flat_map (item_procedures names number) is)
      (item_kept earlier u number place i.spans i.what (no_left here rest none) (All-head OwnItem i is taken)) (unit_kept earlier u number place is (no_right here rest none) (All-tail OwnItem i is taken))

  units_kept : (earlier : List NamedUnit) (number : ℕ) (us : List NamedUnit) → all ≡ earlier ++ us → number ≡ length earlier →
      each_unit (procedure_spots program) earlier number us ≡ [] → All OwnUnit us → All P (procedures_from program number us)
  units_kept earlier number [] is counted none taken = All-nil P
  units_kept earlier number (u ∷ us) is counted none taken =
      All-append P (unit_procedures program number u) (procedures_from program (suc number) us)
      (unit_kept earlier u number (record { later = us; units = is; number_is = counted }) u.items (first_unit (procedure_spots program) earlier number u us none) (All-head OwnUnit u us taken))
      (units_kept (earlier ++ u ∷ []) (suc number) us (is ∙ sym (append_assoc earlier (u ∷ []) us))
      (ap suc counted ∙ (let e : suc (length earlier) ≡ length earlier + 1 = omega arith in e) ∙ sym (length-append earlier (u ∷ [])))
      (other_units (procedure_spots program) earlier number u us none) (All-tail OwnUnit u us taken))

pub all_taken : (P : Proc → Type 0) (us : List UnitTree) → AreAccepted us → AreDerived us →
    ((earlier : List NamedUnit) (u : NamedUnit) (number : ℕ) → Place (named_units us) earlier u number → (around : List SpanTree) (p : ProcTree) →
    item_procedure_spots (unit_senses (program_of (named_units us)) u.entries) (items.Proc p) ≡ [] → Taken (proc p) →
    P (procedure_of (unit_senses (program_of (named_units us)) u.entries) number around p)) →
    All P (meaning_of us).procs
all_taken P us accepted derived each =
    units_kept P (program_of (named_units us)) (named_units us) each [] 0 (named_units us) refl refl
    (procedures_kept (named_units us) (unbroken us accepted).nowhere) (units_taken 0 0 us derived)

-- ---- the statements of a procedure

module _ (p : Program) (q : Proc) (s : Scope) (fit : NamesFit p q (senses s)) (wide : (name : List ℕ) → IsWide (senses s name)) (whole : (name : List ℕ) → IsUnbroken (senses s name))
    (short : (name : List ℕ) → IsShort (senses s name)) where
  -- the parameters of a continuation stand in the procedure at its number
  abbrev ContAt : Part → Type 0
  ContAt (parts.Stmt' first past (stmts.Continuation name ks)) = parameters q (continuation_of s name) ≡ map (parameter_of s) ks
  ContAt _ = Unit {0}

  cont_at : (x : Part) (before after : List Cont) (earlier rest : List (Declared Local)) → q.conts ≡ before ++ (part_conts s x ++ after) → length before ≡ how_many is_continuation earlier →
      s.own ≡ earlier ++ (part_names x ++ rest) → again earlier (part_names x ++ rest) ≡ [] → ContAt x
  cont_at (parts.Stmt' first past (stmts.Continuation name ks)) before after earlier rest is counted own once =
      let d : Declared Local = record { name = name; as_what = Continuation } in
      let k : continuation_of s name ≡ length before =
      ap (number_in is_continuation name.name) own ∙ number_here is_continuation d earlier rest (again_head earlier d rest once) ∙ sym counted in
      let x : Cont = record { params = map (parameter_of s) ks } in
      let slot : slice_get q.conts (continuation_of s name) ≡ Some x = ap (λ cs. slice_get cs (continuation_of s name)) is ∙ behind before x after (continuation_of s name) k in
      ap (λ o. elim o as (λ y. List ℕ) [ Some c ↦ c.params | None ↦ [] ]) slot
  cont_at x before after earlier rest is counted own once = tt

  form_needs : (n first past : ℕ) (spans : List SpanValue) (form : StmtForm) → stmt_spots s first form ≡ [] → SitesAt p q s fit wide whole n (form_sites s spans form) → ContAt (parts.Stmt' first past form) →
      Needs q s short n spans form
  form_needs n first past spans (stmts.If' condition _ body otherwise) free sites cont = test_judged p q (senses s) fit wide whole condition free
  form_needs n first past spans (stmts.Checked result operator left right flows) free sites cont = sites
  form_needs n first past spans (stmts.Call results None callee actuals flows) free sites cont = sites
  form_needs n first past spans (stmts.Call results (Some convention) callee actuals flows) free sites cont =
      (and_parts _ _ (and_parts _ _ (no_unless (is_foreign s convention results callee actuals flows) BadHostCall callee.token (no_right _ _ free))).0).1
  form_needs n first past spans (stmts.Continuation name ks) free sites cont = cont
  form_needs n first past spans form free sites cont = tt

  spent_by : (n : ℕ) (spans : List SpanValue) (form : StmtForm) (from to : Reading) → (stmt_form form from ≡ Some to) ⊎ (chained form from ≡ Some to) → Needs q s short n spans form →
      from.taken + own_tokens q (form_of s n form) + blocks_length form ≤ to.taken
  spent_by n spans form from to (inl is) needs = form_cost q s short n spans form from to is needs
  spent_by n spans form from to (inr is) needs = chained_cost q s short n spans form from to is needs

  part_shortest : (n : ℕ) (spans : List SpanValue) (x : Part) → part_spots s x ≡ [] → SitesAt p q s fit wide whole n (part_sites s spans x) → ContAt x → PartTaken x →
      list_all (λ st. nat_le (own_tokens q st.form) st.tokens) (part_of s n x) ≡ true
  part_shortest n spans (parts.Local l) free sites cont taken = refl
  part_shortest n spans (parts.Stmt' first past form) free sites cont taken =
      let a : first ≡ taken.from.taken = taken.first_is in let b : past ≡ taken.to.taken = taken.past_is in
      let h : taken.from.taken + own_tokens q (form_of s n form) + blocks_length form ≤ taken.to.taken = spent_by n spans form taken.from taken.to taken.is (form_needs n first past spans form free sites cont) in
      and_from (nat_le (own_tokens q (form_of s n form)) (past - first - blocks_length form)) true (le-leb (own_tokens q (form_of s n form)) (past - first - blocks_length form) (omega arith)) refl

  flat_shortest : (n : ℕ) (before : List Site) (conts : List Cont) (earlier : List (Declared Local)) (around : List SpanValue) (ps : List (Within Part)) →
      q.sites ≡ before ++ sites_among s around ps → n ≡ length before → q.conts ≡ conts ++ flat_map (part_conts s) (whats ps) → length conts ≡ how_many is_continuation earlier →
      s.own ≡ earlier ++ flat_map part_names (whats ps) → again earlier (flat_map part_names (whats ps)) ≡ [] → flat_map (part_spots s) (whats ps) ≡ [] → All (λ x. PartTaken x.what) ps →
      list_all (λ st. nat_le (own_tokens q st.form) st.tokens) (flat_from s n (whats ps)) ≡ true
  flat_shortest n before conts earlier around [] is counted cs many own once free taken = refl
  flat_shortest n before conts earlier around (x ∷ ps) is counted cs many own once free taken =
      let spans = innermost (map (span_value (senses s)) x.spans ++ around) in let mine = part_sites s spans x.what in
      let more = flat_map (part_conts s) (whats ps) in let names = part_names x.what in let rest = flat_map part_names (whats ps) in
      list_all-append (λ st. nat_le (own_tokens q st.form) st.tokens) (part_of s n x.what) (flat_from s (n + sites_of x.what) (whats ps))
      ∙ and_from (list_all (λ st. nat_le (own_tokens q st.form) st.tokens) (part_of s n x.what)) _
      (part_shortest n spans x.what (no_left (part_spots s x.what) (flat_map (part_spots s) (whats ps)) free) (own_sites p q s fit wide whole n before mine (sites_among s around ps) is counted)
      (cont_at x.what conts more earlier rest cs many own once) (All-head (λ y. PartTaken y.what) x ps taken))
      (flat_shortest (n + sites_of x.what) (before ++ mine) (conts ++ part_conts s x.what) (earlier ++ names) around ps (is ∙ sym (append_assoc before mine (sites_among s around ps)))
      (ap (λ m. m + sites_of x.what) counted ∙ ap (λ m. length before + m) (sym (one_site p q s fit wide whole spans x.what)) ∙ sym (length-append before mine))
      (cs ∙ sym (append_assoc conts (part_conts s x.what) more))
      (length-append conts (part_conts s x.what) ∙ ap (λ m. m + length (part_conts s x.what)) many ∙ ap (λ m. how_many is_continuation earlier + m) (part_conts_are s x.what) ∙ sym (how_many_append is_continuation earlier names))
      (own ∙ sym (append_assoc earlier names rest)) (again_rest earlier names rest once)
      (no_right (part_spots s x.what) (flat_map (part_spots s) (whats ps)) free) (All-tail (λ y. PartTaken y.what) x ps taken))

-- the statements of the procedure that a tree of accepted units means, where it takes some tokens
pub tree_shortest : (us : List UnitTree) (accepted : AreAccepted us) (earlier : List NamedUnit) (u : NamedUnit) (number : ℕ) (place : Place (named_units us) earlier u number) (around : List SpanTree) (tree : ProcTree) →
    item_procedure_spots (unit_senses (program_of (named_units us)) u.entries) (items.Proc tree) ≡ [] → Taken (proc tree) → let q = procedure_of (unit_senses (program_of (named_units us)) u.entries) number around tree in
    list_all (λ st. nat_le (own_tokens q st.form) st.tokens) (body_statements q) ≡ true
tree_shortest us accepted earlier u number place around tree none taken =
    let program = program_of (named_units us) in let outer = unit_senses program u.entries in
    let p = meaning_of us in let q = procedure_of outer number around tree in let s = scope_of outer tree in
    let rules = no_left (proc_spots outer tree) (proc_limits outer tree) none in
    let declared = declared_there us accepted earlier place.later u place.units in
    let fit : NamesFit p q (senses s) = scopes_fit p outer number around tree (names_of us accepted earlier place.later u place.units q) in
    let wide = scope_wide outer (unit_wide program u.entries declared) tree rules in
    let whole = scope_unbroken outer (unit_unbroken program u.entries declared) tree in
    let short = scope_short outer (unit_short (named_units us) u.entries) tree in
    let formals = map formal_name tree.formals in
    ap (list_all (λ st. nat_le (own_tokens q st.form) st.tokens)) (procedure_is outer number around tree)
    ∙ flat_shortest p q s fit wide whole short 0 [] [] formals (map (span_value outer) around) (parts_in [] tree.body) refl refl refl (sym (formals_none is_continuation continuations_alone tree.formals)) refl
    (again_rest [] formals (flat_map part_names (parts_of tree.body)) (declared_once outer tree none)) (no_right _ (flat_map (part_spots s) (parts_of tree.body)) rules) (body_taken tree taken)

pub statements_have_shortest : StatementsHaveShortest
statements_have_shortest us accepted derived =
    all_taken (λ q. IsTrue (list_all (λ st. nat_le (own_tokens q st.form) st.tokens) (body_statements q))) us accepted derived (tree_shortest us accepted)
