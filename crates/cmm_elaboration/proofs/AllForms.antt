-- Each statement of accepted units that derive some tokens is in range.
use Rattle.std.proofs.Common.{◌≡◌, ℕ, ◌+◌, refl, sym, ap, ◌∙◌, Bool, true, false, List, [], ◌∷◌, Option, Some, None, length, IsTrue}
use Rattle.std.specs.Prelude.{map, nat_lt, nat_le, ◌&&◌}
use Rattle.std.specs.List.{list_all}
use Rattle.std.proofs.lemmas.Bool.{and_parts, and_from}
use Rattle.std.proofs.lemmas.List.{length-map}
use Rattle.std.proofs.lemmas.List.Elements.{All-head, All-tail}
use Rattle.std.proofs.lemmas.List.Folds.{list_all-append}
use denote.Hole.Carrier as Carrier
use Rattle.cmm_lexer.specs.declared.piece.Lexeme.{Lexeme}
use Rattle.cmm_words.specs.declared.width.Width.{Width}
use Rattle.cmm_ast.specs.declared.statement.Callee.{Callee}
use Rattle.cmm_ast.specs.declared.statement.Case.{Case as CaseTree}
use Rattle.cmm_ast.specs.declared.statement.Case.TheVariants.{Ranges, Default}
use Rattle.cmm_ast.specs.declared.statement.Exit.{Exit}
use Rattle.cmm_ast.specs.declared.statement.Kinded.{Kinded}
use Rattle.cmm_ast.specs.declared.statement.Part.{Part}
use Rattle.cmm_ast.specs.declared.statement.Part.TheVariants as parts
use Rattle.cmm_ast.specs.declared.statement.StmtForm.{Row_of-Arm, end_of-Arm, more_of-Arm}
use Rattle.cmm_ast.specs.declared.statement.StmtForm.TheVariants as stmts
use Rattle.cmm_ast.specs.declared.unit.Unit.{Unit as UnitTree}
use Rattle.cmm_grammar.specs.Derivation.{Derives}
use Rattle.cmm_program.specs.declared.expression.Expression.{Expression}
use Rattle.cmm_program.specs.declared.procedure.Proc.{Proc}
use Rattle.cmm_program.specs.declared.program.Program.{Program}
use Rattle.cmm_program.specs.declared.statement.Arm.{Arm}
use Rattle.cmm_program.specs.declared.statement.Form.{Form}
use Rattle.cmm_program.specs.declared.statement.Form.TheVariants as forms
use Rattle.cmm_program.specs.Bodies.{Branch, branches, body_statements}
use Rattle.cmm_program.specs.InRange.{has_ranges, is_range, all_ranges, none_meet, defaults, are_arms, is_form}
use Rattle.cmm_program.specs.Typing.{typed as width_of}
use Rattle.cmm_static_semantics.specs.declared.sense.Host.{Host}
use Rattle.cmm_static_semantics.specs.declared.sense.Host.TheVariants.{Yield, PutByte, GetByte}
use Rattle.cmm_static_semantics.specs.Items.{items_of, parts_of}
use Rattle.cmm_static_semantics.specs.Calls.{foreign_callee}
use Rattle.cmm_static_semantics.specs.Switches.{heads}
use Rattle.cmm_static_semantics.specs.Declarations.{named_units, units_from, procs_in, labels_in, sum_of}
use Rattle.cmm_static_semantics.specs.Linking.{program_of}
use Rattle.cmm_static_semantics.specs.Limits.{sites_of}
use Rattle.cmm_static_semantics.specs.Scopes.{Scope, senses, unit_senses}
use Rattle.cmm_static_semantics.specs.Statements.{scope_of}
use Rattle.cmm_elaboration.specs.Resolving.{value_of, values_of, callee_of, place_of}
use Rattle.cmm_elaboration.specs.Sites.{is_yield}
use Rattle.cmm_elaboration.specs.Bodies.{sites_in_row, value_width, range_of, case_of, row_of, arms_of, part_of, host_form, return_form}
use Rattle.cmm_elaboration.specs.Procedures.{procedure_of}
use Rattle.cmm_elaboration.specs.Meaning.{meaning_of}
use Rattle.cmm_elaboration.specs.Laws.{AreDerived, keeps_rules, are_apart, ranges_apart, FormsAreInRange}
use Rattle.cmm_elaboration.proofs.Everywhere.{all_read}
use Rattle.cmm_elaboration.proofs.Flat.{flat_from, procedure_is}
use Rattle.cmm_elaboration.proofs.Forms.{all_three, statement_kept}
use Rattle.cmm_elaboration.proofs.Switching.{branch_of, hidden_branches, rolled_case, statement_apart}
use Rattle.cmm_elaboration.proofs.Derived.{has_range, part_has, item_has, unit_has}

-- what the grammar requires of a resolved statement
abbrev has_all : Form → Bool
has_all (forms.Assign to values) = nat_lt 0 (length to)
has_all (forms.Switch' value _ arms) = list_all (λ b. has_ranges b.case) (branches arms)
has_all _ = true

switch_all : (v : Expression) (as_ : List Arm) → has_all (forms.Switch v as_) ≡ list_all (λ b. has_ranges b.case) (map branch_of as_)
unfolding Carrier.hidden
switch_all v as_ = rw (sym (hidden_branches as_)) refl

module _ (s : Scope) where
  case_all : (width : Option Width) (what : CaseTree) → has_range what ≡ true → has_ranges (case_of s width what) ≡ true
  case_all width (Ranges rs) h = ap (λ n. nat_lt 0 n) (length-map rs (range_of s width)) ∙ h
  case_all width Default h = refl

  arms_all : (n : ℕ) (width : Option Width) (k : _) (row : Row_of-Arm k) → list_all (λ h. has_range h.case_) (heads row) ≡ true → list_all (λ b. has_ranges b.case) (map branch_of (arms_of s n width row)) ≡ true
  arms_all n width k end_of-Arm h = refl
  arms_all n width k (more_of-Arm {n = m} first what _ body rest) h =
      let both = and_parts (has_range what) (list_all (λ x. has_range x.case_) (heads rest)) h in
      and_from _ _ (ap has_ranges (rolled_case (case_of s width what) (row_of s n body)) ∙ case_all width what both.0) (arms_all (n + sites_in_row body) width m rest both.1)

  call_all : (n : ℕ) (c : Callee) (values : List Expression) (b : Bool) → has_all (elim b as (λ x. Form) [ true ↦ forms.Yield n values | false ↦ forms.Call n (callee_of (senses s) c) values ]) ≡ true
  call_all n c values true = refl
  call_all n c values false = refl

  host_all : (h : Option Host) (results : List Kinded) (values : List Expression) → has_all (host_form s h results values) ≡ true
  host_all (Some PutByte) results [] = refl
  host_all (Some PutByte) results (v ∷ vs) = refl
  host_all (Some GetByte) [] values = refl
  host_all (Some GetByte) (k ∷ ks) values = refl
  host_all (Some Yield) results values = refl
  host_all None results values = refl

  return_all : (exit : Option Exit) (values : List Expression) → has_all (return_form s exit values) ≡ true
  return_all None values = refl
  return_all (Some x) values = refl

  one_all : (n : ℕ) (x : Part) → part_has x ≡ true → list_all (λ st. has_all st.form) (part_of s n x) ≡ true
  one_all n (parts.Local l) h = refl
  one_all n (parts.Stmt' first past (stmts.Switch' over value _ arms)) h =
      and_from _ true (switch_all (value_of (senses s) value) (arms_of s n (value_width s value) arms) ∙ arms_all n (value_width s value) _ arms h) refl
  one_all n (parts.Stmt' first past (stmts.Assign to values)) h = and_from _ true (ap (λ m. nat_lt 0 m) (length-map to (place_of (senses s))) ∙ h) refl
  one_all n (parts.Stmt' first past (stmts.Call results None callee actuals flows)) h = and_from _ true (call_all n callee (values_of (senses s) actuals) (is_yield s callee)) refl
  one_all n (parts.Stmt' first past (stmts.Call results (Some convention) callee actuals flows)) h = and_from _ true (host_all (foreign_callee s callee) results (values_of (senses s) actuals)) refl
  one_all n (parts.Stmt' first past (stmts.Return exit None)) h = and_from _ true (return_all exit []) refl
  one_all n (parts.Stmt' first past (stmts.Return exit (Some values))) h = and_from _ true (return_all exit (values_of (senses s) values)) refl
  one_all n (parts.Stmt' first past (stmts.If' c _ body otherwise)) h = refl
  one_all n (parts.Stmt' first past (stmts.Span' key value _ body)) h = refl
  one_all n (parts.Stmt' first past (stmts.Checked result operator left right flows)) h = refl
  one_all n (parts.Stmt' first past (stmts.Jump callee actuals)) h = refl
  one_all n (parts.Stmt' first past (stmts.Label name)) h = refl
  one_all n (parts.Stmt' first past (stmts.Continuation name parameters)) h = refl
  one_all n (parts.Stmt' first past (stmts.Goto name)) h = refl
  one_all n (parts.Stmt' first past (stmts.Cut callee actuals flows)) h = refl
  one_all n (parts.Stmt' first past stmts.Empty) h = refl

  flat_all : (n : ℕ) (ps : List Part) → list_all part_has ps ≡ true → list_all (λ st. has_all st.form) (flat_from s n ps) ≡ true
  flat_all n [] h = refl
  flat_all n (x ∷ ps) h = let both = and_parts (part_has x) (list_all part_has ps) h in
      list_all-append (λ st. has_all st.form) (part_of s n x) (flat_from s (n + sites_of x) ps)
      ∙ and_from (list_all (λ st. has_all st.form) (part_of s n x)) _ (one_all n x both.0) (flat_all (n + sites_of x) ps both.1)

-- ---- with the rules that they keep

arms_by : (o : Option Width) (bs : List Branch) → ◌≡◌ {A = Bool} (elim o as (λ x. Bool) [ Some found ↦ true | None ↦ false ]) true → are_apart o bs ≡ true → list_all (λ b. has_ranges b.case) bs ≡ true → are_arms o bs ≡ true
arms_by None bs typed_ apart all = let bad : false ≡ true = typed_ in cc
arms_by (Some w) bs typed_ apart all =
    let two = and_parts (list_all (is_range w) (all_ranges bs) && none_meet (all_ranges bs)) (nat_le (defaults bs) 1) apart in
    let one = and_parts (list_all (is_range w) (all_ranges bs)) (none_meet (all_ranges bs)) two.0 in
    and_from _ _ (and_from _ _ (and_from _ _ all one.0) one.1) two.1

form_in : (p : Program) (q : Proc) (form : Form) → keeps_rules p q form ≡ true → ranges_apart p q form ≡ true → has_all form ≡ true → is_form p q form ≡ true
form_in p q (forms.Assign to values) a b c = and_from (nat_lt 0 (length to)) _ c a
form_in p q (forms.Switch' value _ arms) a b c = arms_by (width_of p q value) (branches arms) a b c
form_in p q form a b c = a

-- ---- units that derive some tokens

named_have : (procs labels : ℕ) (us : List UnitTree) → AreDerived us → list_all (λ u. list_all (λ i. item_has i.what) u.items) (units_from procs labels us) ≡ true
named_have procs labels [] derived = refl
named_have procs labels (u ∷ us) derived = let own = All-head (λ v. (tokens : List Lexeme) × Derives tokens v) u us derived in
    and_from (list_all (λ i. item_has i.what) (items_of u)) _ (unit_has u own.0 own.1)
    (named_have (procs + sum_of procs_in (items_of u)) (labels + sum_of labels_in (items_of u)) us (All-tail (λ v. (tokens : List Lexeme) × Derives tokens v) u us derived))

pub forms_are_in_range : FormsAreInRange
forms_are_in_range us accepted derived = all_read item_has (λ q. IsTrue (list_all (λ st. is_form (meaning_of us) q st.form) (body_statements q))) us accepted (named_have 0 0 us derived)
    (λ earlier u number place around tree none has.
    let outer = unit_senses (program_of (named_units us)) u.entries in
    let p = meaning_of us in let q = procedure_of outer number around tree in
    all_three (λ st. keeps_rules p q st.form) (λ st. ranges_apart p q st.form) (λ st. has_all st.form) (λ st. is_form p q st.form) (λ st. form_in p q st.form) (body_statements q)
    (statement_kept us accepted earlier u number place around tree none) (statement_apart us accepted earlier u number place around tree none)
    (ap (list_all (λ st. has_all st.form)) (procedure_is outer number around tree) ∙ flat_all (scope_of outer tree) 0 (parts_of tree.body) has))
