-- The statements of accepted units keep the rules on what they compute with, on call sites, and on ways to go.
use Rattle.std.proofs.Common.{◌≡◌, ℕ, zero, suc, ◌+◌, ◌≤◌, refl, sym, ap, ◌∙◌, subst, Bool, true, false, List, [], ◌∷◌, ◌++◌, append_assoc, Option, Some, None, arith, length, length-append, IsTrue, inl, inr}
use Rattle.std.specs.Prelude.{map, flat_map, unwrap_or, not, nat_le, slice_get, ◌==◌, ◌&&◌}
use Rattle.std.specs.List.{list_all, range_with_len}
use Rattle.std.specs.Option.{is_some}
use Rattle.std.proofs.lemmas.Bool.{and_parts, eq-eqb, lt-ltb, and_from}
use Rattle.std.proofs.lemmas.List.{length-map}
use Rattle.std.proofs.lemmas.List.Folds.{list_all-append}
use Rattle.cmm_words.specs.declared.width.Width.TheVariants.{W64}
use Rattle.cmm_words.specs.Widths.{bits}
use Rattle.cmm_words.specs.Words.{is_division}
use Rattle.cmm_ast.specs.declared.procedure.Proc.{Proc as ProcTree}
use Rattle.cmm_ast.specs.declared.token.Ident.{Ident}
use Rattle.cmm_ast.specs.declared.statement.Actual.{Actual}
use Rattle.cmm_ast.specs.declared.statement.Callee.{Callee}
use Rattle.cmm_ast.specs.declared.statement.Exit.{Exit}
use Rattle.cmm_ast.specs.declared.statement.Flow.{Flow}
use Rattle.cmm_ast.specs.declared.statement.Kinded.{Kinded}
use Rattle.cmm_ast.specs.declared.statement.Part.{Part}
use Rattle.cmm_ast.specs.declared.statement.Part.TheVariants as parts
use Rattle.cmm_ast.specs.declared.statement.StmtForm.{StmtForm}
use Rattle.cmm_ast.specs.declared.statement.StmtForm.TheVariants as stmts
use Rattle.cmm_ast.specs.declared.unit.Item.TheVariants as items
use Rattle.cmm_ast.specs.declared.unit.Unit.{Unit as UnitTree}
use Rattle.cmm_program.specs.declared.procedure.Proc.{Proc}
use Rattle.cmm_program.specs.declared.procedure.Site.{Site}
use Rattle.cmm_program.specs.declared.procedure.Target.{Target}
use Rattle.cmm_program.specs.declared.program.Program.{Program}
use Rattle.cmm_program.specs.declared.statement.Form.{Form}
use Rattle.cmm_program.specs.declared.statement.Form.TheVariants as forms
use Rattle.cmm_program.specs.Bodies.{body_statements}
use Rattle.cmm_program.specs.Numbering.{continuation_number}
use Rattle.cmm_program.specs.Orders.{target_width as resolved_width}
use Rattle.cmm_program.specs.InRange.{below, at_site, is_call_site, is_yield_site, is_checked_site, are_passed}
use Rattle.cmm_program.specs.Typing.{same_width, has_width}
use Rattle.cmm_rules.specs.declared.rule.Rule.TheVariants.{BadReturnIndex, BadHostCall, CountsDiffer}
use Rattle.cmm_static_semantics.specs.declared.sense.Host.{Host}
use Rattle.cmm_static_semantics.specs.declared.sense.Host.TheVariants.{PutByte, GetByte}
use Rattle.cmm_static_semantics.specs.Senses.{Senses, target_width}
use Rattle.cmm_static_semantics.specs.Operators.{checked_named}
use Rattle.cmm_static_semantics.specs.Algebras.{knowns}
use Rattle.cmm_static_semantics.specs.Items.{SpanTree, Within, parts_in, parts_of}
use Rattle.cmm_static_semantics.specs.Judging.{if_ok}
use Rattle.cmm_static_semantics.specs.Typing.{expr_type, of_primary}
use Rattle.cmm_static_semantics.specs.Constants.{number_of}
use Rattle.cmm_static_semantics.specs.Calls.{ident_spots, results_spots, actuals_spots, flows_spots, site_flows_spots, callee_spots, foreign_callee, foreign_callee_spots, may_be_bits64, may_hold_bits64, is_host_call, is_foreign, too_many_names, too_many_actuals}
use Rattle.cmm_static_semantics.specs.Expressions.{bits_spots, number_spots}
use Rattle.cmm_static_semantics.specs.Declarations.{NamedUnit, named_units}
use Rattle.cmm_static_semantics.specs.Linking.{program_of}
use Rattle.cmm_static_semantics.specs.Limits.{number_or_zero, sites_of, proc_limits}
use Rattle.cmm_static_semantics.specs.Scopes.{Scope, senses, unit_senses}
use Rattle.cmm_static_semantics.specs.Statements.{lvalue_spots, sides, is_exit, return_spots, stmt_spots, checked_spots, part_spots, scope_of, proc_spots}
use Rattle.cmm_static_semantics.specs.Faults.{AreAccepted, item_procedure_spots}
use Rattle.cmm_elaboration.specs.Fitting.{NamesFit}
use Rattle.cmm_elaboration.specs.Resolving.{value_of, values_of, callee_of, target_of}
use Rattle.cmm_elaboration.specs.Sites.{SpanValue, span_value, innermost, is_yield, yielded_by, site_with, form_sites, part_sites, sites_among}
use Rattle.cmm_elaboration.specs.Bodies.{host_form, return_form, form_of, part_of, division}
use Rattle.cmm_elaboration.specs.Procedures.{procedure_of}
use Rattle.cmm_elaboration.specs.Meaning.{meaning_of}
use Rattle.cmm_elaboration.specs.Laws.{AreInOrder, leads, keeps_rules, StatementsKeepRules}
use Rattle.cmm_elaboration.proofs.Nothing.{no_left, no_right, no_unless}
use Rattle.cmm_elaboration.proofs.Everywhere.{Place, all_accepted}
use Rattle.cmm_elaboration.proofs.Flat.{whats, flat_from, procedure_is}
use Rattle.cmm_elaboration.proofs.Judged.{same_bits}
use Rattle.cmm_elaboration.proofs.Scoping.{scopes_fit}
use Rattle.cmm_elaboration.proofs.Starting.{behind}
use Rattle.cmm_elaboration.proofs.UnitNames.{names_of, declared_there}
use Rattle.cmm_elaboration.proofs.SiteParts.{target_there}
use Rattle.cmm_elaboration.proofs.Wide.{IsWide, unit_wide, scope_wide}
use Rattle.cmm_elaboration.proofs.Whole.{IsUnbroken}
use Rattle.cmm_elaboration.proofs.Settled.{unit_unbroken}
use Rattle.cmm_elaboration.proofs.WholeUnits.{scope_unbroken}
use Rattle.cmm_elaboration.proofs.Datums.{number_there}
use Rattle.cmm_elaboration.proofs.Values.{bits_are_there, wide_value, is_some_width, test_is_there, passed_there, callee_there}
use Rattle.cmm_elaboration.proofs.Assigning.{assigned_there, ident_place}
use Rattle.cmm_elaboration.proofs.Checking.{checked_there}
use Rattle.cmm_elaboration.proofs.Leading.{all_lead}
use Rattle.cmm_elaboration.proofs.MarkNumbers.{continuations_in_order, declared_once}

-- what a statement computes with, and its call site; where it goes is shown apart
abbrev computes : Program → Proc → Form → Bool
computes p q (forms.Goto n) = true
computes p q (forms.Continuation n) = true
computes p q (forms.Cut to values own) = has_width p q W64 to && are_passed p q values
computes p q form = keeps_rules p q form

module _ (p : Program) (q : Proc) (s : Scope) (fit : NamesFit p q (senses s)) (wide : (name : List ℕ) → IsWide (senses s name)) (unbroken : (name : List ℕ) → IsUnbroken (senses s name)) where
  abbrev names : Senses
  names = senses s

  -- the sites of a statement stand in the procedure from its number on
  abbrev pub SitesAt : ℕ → List Site → Type 0
  SitesAt n [] = Unit {0}
  SitesAt n (x ∷ xs) = slice_get q.sites n ≡ Some x

  at_own : (n : ℕ) (x : Site) (test : Site → Bool) → slice_get q.sites n ≡ Some x → test x ≡ true → at_site p q n test ≡ true
  at_own n x test is holds = ap (λ o. elim o as (λ y. Bool) [ Some site ↦ test site | None ↦ false ]) is ∙ holds

  -- ---- calls

  yield_site : (count : ℕ) (results : List Target) (yielding : Bool) (callee : Callee) (as_ : List Actual) (fs : List Flow) (spans : List SpanValue) → is_yield s callee ≡ yielding → yielding ≡ true → length as_ ≡ count →
      is_yield_site p q count (site_with s results (yielded_by s callee as_) fs spans) ≡ true
  yield_site count results yielding callee as_ fs spans is so many =
      ap (λ b. elim (elim b as (λ x. Option ℕ) [ true ↦ Some (length as_) | false ↦ None ]) as (λ x. Bool) [ Some n ↦ n == count | None ↦ false ]) (is ∙ so) ∙ eq-eqb (length as_) count many

  call_site : (results : List Target) (callee : Callee) (as_ : List Actual) (fs : List Flow) (spans : List SpanValue) → is_yield s callee ≡ false →
      is_call_site p q (site_with s results (yielded_by s callee as_) fs spans) ≡ true
  call_site results callee as_ fs spans is = ap (λ b. not (is_some (elim b as (λ x. Option ℕ) [ true ↦ Some (length as_) | false ↦ None ]))) is

  call_by : (n : ℕ) (results : List Target) (callee : Callee) (as_ : List Actual) (fs : List Flow) (spans : List SpanValue) (b : Bool) → is_yield s callee ≡ b →
      slice_get q.sites n ≡ Some (site_with s results (yielded_by s callee as_) fs spans) → callee_spots s true callee ≡ [] → actuals_spots s as_ ≡ [] →
      computes p q (elim b as (λ x. Form) [ true ↦ forms.Yield n (values_of names as_) | false ↦ forms.Call n (callee_of names callee) (values_of names as_) ]) ≡ true
  call_by n results callee as_ fs spans true is there called given =
      and_from _ _
      (at_own n (site_with s results (yielded_by s callee as_) fs spans) (is_yield_site p q (length (values_of names as_))) there
      (yield_site (length (values_of names as_)) results true callee as_ fs spans is refl (sym (length-map as_ (λ a. value_of names a.value)))))
      (passed_there p q s fit wide unbroken as_ given)
  call_by n results callee as_ fs spans false is there called given =
      and_from _ _ (and_from _ _ (at_own n (site_with s results (yielded_by s callee as_) fs spans) (is_call_site p q) there (call_site results callee as_ fs spans is))
      (callee_there p q s fit wide unbroken true callee called (inr is))) (passed_there p q s fit wide unbroken as_ given)

  -- ---- calls of the host

  put_by : (a : Actual) → bits_spots names None a.value ≡ [] → may_be_bits64 (expr_type knowns names a.value) ≡ true → has_width p q W64 (value_of names a.value) ≡ true
  put_by a free is = let b = bits_are_there p q names fit wide unbroken None a.value free in
      let here : (bits b.known.width == bits W64) ≡ true = ap may_be_bits64 (sym b.typed_as) ∙ is in
      subst (λ w. has_width p q w (value_of names a.value) ≡ true) (same_bits b.known.width W64 here) (wide_value p q names fit wide unbroken None a.value b)

  get_by : (i : Ident) → ident_spots s i ≡ [] → may_hold_bits64 (target_width (names i.name)) ≡ true → computes p q (forms.GetByte (target_of names i)) ≡ true
  get_by i free is = let w = ident_place p q s fit wide unbroken i free in
      let here : (bits w.0 == bits W64) ≡ true = ap may_hold_bits64 (sym w.1.0) ∙ is in
      and_from _ _ (target_there p q i.token (names i.name) free (fit i.name) (wide i.name)) (ap (λ v. same_width v W64) (w.1.1 ∙ same_bits w.0 W64 here))

  host_by : (o : Option Host) (results : List Kinded) (as_ : List Actual) → ◌≡◌ {A = Bool} (elim o as (λ x. Bool) [ Some h ↦ is_host_call s h results as_ | None ↦ false ]) true →
      flat_map (λ k. ident_spots s k.name) results ≡ [] → flat_map (λ a. bits_spots names None a.value) as_ ≡ [] → computes p q (host_form s o results (values_of names as_)) ≡ true
  host_by (Some PutByte) [] (a ∷ []) is results free = put_by a (no_left (bits_spots names None a.value) [] free) is
  host_by (Some GetByte) (k ∷ []) [] is results free = get_by k.name (no_left (ident_spots s k.name) [] results) is
  host_by o results as_ is none free = let bad : false ≡ true = is in cc

  -- ---- returns

  return_by : (exit : Option Exit) (as_ : List Actual) → return_spots s exit ≡ [] → actuals_spots s as_ ≡ [] → computes p q (return_form s exit (values_of names as_)) ≡ true
  return_by None as_ free given = and_from _ _ refl (passed_there p q s fit wide unbroken as_ given)
  return_by (Some x) as_ free given =
      let index = of_primary x.index in let count = of_primary x.count in
      let before = no_left _ _ free in
      let a = number_there names wide unbroken index (no_left (number_spots names index) (number_spots names count) before) in
      let b = number_there names wide unbroken count (no_right (number_spots names index) (number_spots names count) before) in
      let leaves = no_unless (is_exit (if_ok (number_of names index)) (if_ok (number_of names count))) BadReturnIndex x.token (no_right _ _ free) in
      let kept : (nat_le a.0 b.0 && nat_le b.0 64) ≡ true = sym (ap (λ j. is_exit (if_ok j) (if_ok (number_of names count))) a.1 ∙ ap (λ j. is_exit (Some a.0) (if_ok j)) b.1) ∙ leaves in
      let first : number_or_zero names index ≡ a.0 = ap (λ j. unwrap_or (if_ok j) 0) a.1 in
      let second : number_or_zero names count ≡ b.0 = ap (λ j. unwrap_or (if_ok j) 0) b.1 in
      and_from _ _ (ap (λ m. nat_le m (number_or_zero names count) && nat_le (number_or_zero names count) 64) first ∙ ap (λ m. nat_le a.0 m && nat_le m 64) second ∙ kept)
      (passed_there p q s fit wide unbroken as_ given)

  -- ---- statements

  form_computes : (n first : ℕ) (spans : List SpanValue) (form : StmtForm) → stmt_spots s first form ≡ [] → SitesAt n (form_sites s spans form) → computes p q (form_of s n form) ≡ true
  form_computes n first spans (stmts.If' condition _ body otherwise) free sites = test_is_there p q names fit wide unbroken condition free
  form_computes n first spans (stmts.Switch' range value _ arms) free sites =
      is_some_width p q names fit wide unbroken value (no_left (bits_spots names None value) _ free)
  form_computes n first spans (stmts.Span' key value _ body) free sites = refl
  form_computes n first spans (stmts.Assign to values) free sites =
      let before = no_left _ (sides s to values) free in
      assigned_there p q s fit wide unbroken to values (no_unless (length to == length values) CountsDiffer first (no_left _ (flat_map (lvalue_spots s) to) before))
      (no_right _ (flat_map (lvalue_spots s) to) before) (no_right _ (sides s to values) free)
  form_computes n first spans (stmts.Checked result operator left right flows) free sites =
      let c = checked_there p q s fit wide unbroken result operator left right (no_left (checked_spots s result operator left right) (site_flows_spots s flows) free) in
      let site = site_with s (target_of names result ∷ []) (Some 1) flows spans in
      let kept : (at_site p q n (is_checked_site p q c.width) && is_division (division (checked_named operator.name)) && has_width p q c.width (value_of names left) && has_width p q c.width (value_of names right)) ≡ true =
      and_from _ _ (and_from _ _ (and_from _ _
      (at_own n site (is_checked_site p q c.width) sites (and_from (same_width (resolved_width (target_of names result)) c.width) true c.result_has refl)) c.divides) c.left_has) c.right_has in
      subst (λ w. (at_site p q n (is_checked_site p q w) && is_division (division (checked_named operator.name)) && has_width p q w (value_of names left) && has_width p q w (value_of names right)) ≡ true)
      (sym c.width_is) kept
  form_computes n first spans (stmts.Call results None callee actuals flows) free sites =
      let before = no_left _ (site_flows_spots s flows) free in
      call_by n (map (λ k. target_of names k.name) results) callee actuals flows spans (is_yield s callee) refl sites
      (no_right (results_spots s results) (callee_spots s true callee) (no_left _ (actuals_spots s actuals) before)) (no_right _ (actuals_spots s actuals) before)
  form_computes n first spans (stmts.Call results (Some convention) callee actuals flows) free sites =
      let is = no_unless (is_foreign s convention results callee actuals flows) BadHostCall callee.token (no_right _ _ free) in
      let before = no_left _ (flows_spots s flows) (no_left _ _ free) in
      let given = no_right _ (actuals_spots s actuals) before in
      let targets = no_left (results_spots s results) (foreign_callee_spots s callee) (no_left _ (actuals_spots s actuals) before) in
      host_by (foreign_callee s callee) results actuals (and_parts _ _ (and_parts _ _ is).0).1
      (no_right (too_many_names results) (flat_map (λ k. ident_spots s k.name) results) targets)
      (no_right (too_many_actuals actuals) (flat_map (λ a. bits_spots names None a.value) actuals) given)
  form_computes n first spans (stmts.Jump callee actuals) free sites =
      and_from _ _ (callee_there p q s fit wide unbroken false callee (no_left (callee_spots s false callee) (actuals_spots s actuals) free) (inl refl))
      (passed_there p q s fit wide unbroken actuals (no_right (callee_spots s false callee) (actuals_spots s actuals) free))
  form_computes n first spans (stmts.Return exit None) free sites =
      return_by exit [] (no_left (return_spots s exit) (actuals_spots s []) free) (no_right (return_spots s exit) (actuals_spots s []) free)
  form_computes n first spans (stmts.Return exit (Some values)) free sites =
      return_by exit values (no_left (return_spots s exit) (actuals_spots s values) free) (no_right (return_spots s exit) (actuals_spots s values) free)
  form_computes n first spans (stmts.Label name) free sites = refl
  form_computes n first spans (stmts.Continuation name parameters) free sites = refl
  form_computes n first spans (stmts.Goto name) free sites = refl
  form_computes n first spans (stmts.Cut callee actuals flows) free sites = let before = no_left _ (flows_spots s flows) free in
      and_from _ _ (callee_there p q s fit wide unbroken false callee (no_left (callee_spots s false callee) (actuals_spots s actuals) before) (inl refl))
      (passed_there p q s fit wide unbroken actuals (no_right (callee_spots s false callee) (actuals_spots s actuals) before))
  form_computes n first spans stmts.Empty free sites = refl

  part_computes : (n : ℕ) (spans : List SpanValue) (x : Part) → part_spots s x ≡ [] → SitesAt n (part_sites s spans x) → list_all (λ st. computes p q st.form) (part_of s n x) ≡ true
  part_computes n spans (parts.Local l) free sites = refl
  part_computes n spans (parts.Stmt' first past form) free sites = and_from _ true (form_computes n first spans form free sites) refl

  pub one_site : (spans : List SpanValue) (x : Part) → length (part_sites s spans x) ≡ sites_of x
  one_site spans (parts.Local l) = refl
  one_site spans (parts.Stmt' first past (stmts.Call results None callee actuals flows)) = refl
  one_site spans (parts.Stmt' first past (stmts.Call results (Some convention) callee actuals flows)) = refl
  one_site spans (parts.Stmt' first past (stmts.Checked result operator left right flows)) = refl
  one_site spans (parts.Stmt' first past form) = refl

  pub own_sites : (n : ℕ) (before own after : List Site) → q.sites ≡ before ++ (own ++ after) → n ≡ length before → SitesAt n own
  own_sites n before [] after is counted = tt
  own_sites n before (x ∷ own) after is counted = ap (λ xs. slice_get xs n) is ∙ behind before x (own ++ after) n counted

  flat_computes : (n : ℕ) (before : List Site) (around : List SpanValue) (ps : List (Within Part)) → q.sites ≡ before ++ sites_among s around ps → n ≡ length before →
      flat_map (part_spots s) (whats ps) ≡ [] → list_all (λ st. computes p q st.form) (flat_from s n (whats ps)) ≡ true
  flat_computes n before around [] is counted free = refl
  flat_computes n before around (x ∷ ps) is counted free =
      let spans = innermost (map (span_value (senses s)) x.spans ++ around) in let own = part_sites s spans x.what in
      list_all-append (λ st. computes p q st.form) (part_of s n x.what) (flat_from s (n + sites_of x.what) (whats ps))
      ∙ and_from (list_all (λ st. computes p q st.form) (part_of s n x.what)) _
      (part_computes n spans x.what (no_left (part_spots s x.what) (flat_map (part_spots s) (whats ps)) free) (own_sites n before own (sites_among s around ps) is counted))
      (flat_computes (n + sites_of x.what) (before ++ own) around ps (is ∙ sym (append_assoc before own (sites_among s around ps)))
      (ap (λ m. m + sites_of x.what) counted ∙ ap (λ m. length before + m) (sym (one_site spans x.what)) ∙ sym (length-append before own))
      (no_right (part_spots s x.what) (flat_map (part_spots s) (whats ps)) free))

-- ---- the statements of a procedure

below_range : (a k limit : ℕ) → a + k ≤ limit → list_all (below limit) (range_with_len a k) ≡ true
below_range a zero limit few = refl
below_range a (suc k) limit few = and_from (below limit a) _ (lt-ltb a limit (omega arith)) (below_range (a + 1) k limit (omega arith))

apart : {A B : Type 0} (f : B → Bool) (g : A → List B) (xs : List A) → list_all f (flat_map g xs) ≡ true → list_all (λ x. list_all f (g x)) xs ≡ true
apart f g [] h = refl
apart f g (x ∷ xs) h = let both = and_parts (list_all f (g x)) (list_all f (flat_map g xs)) (sym (list_all-append f (g x) (flat_map g xs)) ∙ h) in
    and_from (list_all f (g x)) _ both.0 (apart f g xs both.1)

pub all_three : {A : Type 0} (f g h r : A → Bool) → ((x : A) → f x ≡ true → g x ≡ true → h x ≡ true → r x ≡ true) → (xs : List A) → list_all f xs ≡ true → list_all g xs ≡ true → list_all h xs ≡ true → list_all r xs ≡ true
all_three f g h r each [] a b c = refl
all_three f g h r each (x ∷ xs) a b c =
    let a' = and_parts (f x) (list_all f xs) a in let b' = and_parts (g x) (list_all g xs) b in let c' = and_parts (h x) (list_all h xs) c in
    and_from (r x) _ (each x a'.0 b'.0 c'.0) (all_three f g h r each xs a'.1 b'.1 c'.1)

-- a number of a continuation that is there
abbrev numbered : Proc → Form → Bool
numbered q form = list_all (below (length q.conts)) (continuation_number form)

together : (p : Program) (q : Proc) (form : Form) → computes p q form ≡ true → leads q form ≡ true → numbered q form ≡ true → keeps_rules p q form ≡ true
together p q (forms.Goto n) a b c = b
together p q (forms.Continuation n) a b c = (and_parts (below (length q.conts) n) true c).0
together p q (forms.Cut to values own) a b c = and_from _ _ a b
together p q form a b c = a

module _ (p : Program) (q : Proc) where
  kept_by : list_all (λ st. computes p q st.form) (body_statements q) ≡ true → list_all (λ st. leads q st.form) (body_statements q) ≡ true → AreInOrder continuation_number (length q.conts) q →
      list_all (λ st. keeps_rules p q st.form) (body_statements q) ≡ true
  kept_by a b marks =
      let inside : list_all (below (length q.conts)) (flat_map (λ st. continuation_number st.form) (body_statements q)) ≡ true =
      ap (list_all (below (length q.conts))) marks.ascending ∙ below_range 0 (length q.conts) (length q.conts) (omega arith) in
      all_three (λ st. computes p q st.form) (λ st. leads q st.form) (λ st. numbered q st.form) (λ st. keeps_rules p q st.form) (λ st. together p q st.form) (body_statements q) a b
      (apart (below (length q.conts)) (λ st. continuation_number st.form) (body_statements q) inside)

-- the statements of the procedure that a tree of accepted units means
pub statement_kept : (us : List UnitTree) (accepted : AreAccepted us) (earlier : List NamedUnit) (u : NamedUnit) (number : ℕ) (place : Place (named_units us) earlier u number) (around : List SpanTree) (tree : ProcTree) →
    item_procedure_spots (unit_senses (program_of (named_units us)) u.entries) (items.Proc tree) ≡ [] → let q = procedure_of (unit_senses (program_of (named_units us)) u.entries) number around tree in
    list_all (λ st. keeps_rules (meaning_of us) q st.form) (body_statements q) ≡ true
statement_kept us accepted earlier u number place around tree none =
    let program = program_of (named_units us) in let outer = unit_senses program u.entries in
    let p = meaning_of us in let q = procedure_of outer number around tree in let s = scope_of outer tree in
    let rules = no_left (proc_spots outer tree) (proc_limits outer tree) none in
    let declared = declared_there us accepted earlier place.later u place.units in
    let fit : NamesFit p q (senses s) = scopes_fit p outer number around tree (names_of us accepted earlier place.later u place.units q) in
    let wide = scope_wide outer (unit_wide program u.entries declared) tree rules in
    let unbroken = scope_unbroken outer (unit_unbroken program u.entries declared) tree in
    kept_by p q
    (ap (list_all (λ st. computes p q st.form)) (procedure_is outer number around tree)
    ∙ flat_computes p q s fit wide unbroken 0 [] (map (span_value outer) around) (parts_in [] tree.body) refl refl (no_right _ (flat_map (part_spots s) (parts_of tree.body)) rules))
    (all_lead outer number around tree none) (continuations_in_order outer number around tree (declared_once outer tree none))

pub statements_keep_rules : StatementsKeepRules
statements_keep_rules us accepted = all_accepted (λ q. IsTrue (list_all (λ st. keeps_rules (meaning_of us) q st.form) (body_statements q))) us accepted (statement_kept us accepted)
