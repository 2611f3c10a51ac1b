-- In accepted units a `goto` leads to a label of its procedure, and a cut statement to its own continuations.
use Rattle.std.proofs.Common.{◌≡◌, ℕ, zero, suc, ◌+◌, ◌<◌, ◌≤◌, refl, sym, ap, ◌∙◌, Bool, true, false, List, [], ◌∷◌, ◌++◌, Option, Some, None, arith, IsTrue, inl, inr, ◌⊎◌}
use Rattle.std.specs.Prelude.{map, flat_map, ◌||◌, ◌==◌}
use Rattle.std.specs.List.{list_all, list_any, range_with_len}
use Rattle.std.specs.Option.{is_some}
use Rattle.std.proofs.lemmas.Bool.{cases_eq, or_cases, or_left, or_right, eq-eqb, and_from}
use Rattle.std.proofs.lemmas.List.Folds.{list_all-append, list_any-append}
use Rattle.cmm_ast.specs.declared.token.Ident.{Ident}
use Rattle.cmm_ast.specs.declared.procedure.Proc.{Proc as ProcTree}
use Rattle.cmm_ast.specs.declared.statement.Callee.{Callee}
use Rattle.cmm_ast.specs.declared.statement.Exit.{Exit}
use Rattle.cmm_ast.specs.declared.statement.Kinded.{Kinded}
use Rattle.cmm_ast.specs.declared.statement.Part.{Part}
use Rattle.cmm_ast.specs.declared.statement.Part.TheVariants as parts
use Rattle.cmm_ast.specs.declared.statement.StmtForm.TheVariants as stmts
use Rattle.cmm_ast.specs.declared.unit.Item.TheVariants as items
use Rattle.cmm_program.specs.declared.expression.Expression.{Expression}
use Rattle.cmm_program.specs.declared.procedure.Proc.{Proc}
use Rattle.cmm_program.specs.declared.statement.Arm.{Arm', Row_of-Statement, end_of-Statement, more_of-Statement}
use Rattle.cmm_program.specs.declared.statement.Form.{Form, Row_of-Arm, end_of-Arm, more_of-Arm}
use Rattle.cmm_program.specs.declared.statement.Form.TheVariants.{If', Switch', Span', Span}
use Rattle.cmm_program.specs.declared.statement.Form.TheVariants as forms
use Rattle.cmm_program.specs.declared.statement.Statement.{Statement}
use Rattle.cmm_program.specs.Bodies.{Mark, AtLabel, is_mark, first_of_two, outward, statements, within, within_block, within_arms, after_inside, after_in, after_in_arms, body_statements}
use Rattle.cmm_program.specs.Numbering.{body_numbers, label_number}
use Rattle.cmm_static_semantics.specs.declared.sense.Host.{Host}
use Rattle.cmm_static_semantics.specs.declared.sense.Host.TheVariants.{Yield, PutByte, GetByte}
use Rattle.cmm_rules.specs.declared.rule.Rule.TheVariants.{NoSuchLabel}
use Rattle.cmm_static_semantics.specs.Senses.{Senses}
use Rattle.cmm_static_semantics.specs.Items.{SpanTree, parts_of}
use Rattle.cmm_static_semantics.specs.Declarations.{Local, found, is_declared, is_label, formal_name, part_names, named_units}
use Rattle.cmm_static_semantics.specs.Calls.{foreign_callee, flows_spots, goto_spots}
use Rattle.cmm_static_semantics.specs.Faults.{item_procedure_spots}
use Rattle.cmm_static_semantics.specs.Limits.{proc_limits, sites_of}
use Rattle.cmm_static_semantics.specs.Linking.{program_of}
use Rattle.cmm_static_semantics.specs.Scopes.{Scope, senses, unit_senses}
use Rattle.cmm_static_semantics.specs.Statements.{scope_of, part_spots, proc_spots}
use Rattle.cmm_elaboration.specs.Resolving.{values_of, callee_of}
use Rattle.cmm_elaboration.specs.Sites.{cut_names, is_yield}
use Rattle.cmm_elaboration.specs.Bodies.{part_of, label_of, host_form, return_form}
use Rattle.cmm_elaboration.specs.Procedures.{procedure_of}
use Rattle.cmm_elaboration.specs.Laws.{leads, WaysAreThere}
use Rattle.cmm_elaboration.proofs.Nothing.{no_left, no_right, no_unless}
use Rattle.cmm_elaboration.proofs.Everywhere.{all_accepted}
use Rattle.cmm_elaboration.proofs.Flat.{flat_from, procedure_is}
use Rattle.cmm_elaboration.proofs.Naming.{how_many, how_many_append}
use Rattle.cmm_elaboration.proofs.MarkNumbers.{formals_none, labels_alone, label_part, marks_ascend, declared_once}
use Rattle.cmm_elaboration.proofs.Scoping.{number_below}
use Rattle.cmm_elaboration.proofs.SiteParts.{exits_below, flows_below, by_cuts}

-- ---- a mark that stands among the statements is found

any_two : {A : Type 0} (test : A → Bool) (xs ys : List A) → list_any test (xs ++ ys) ≡ true → (list_any test xs ≡ true) ⊎ (list_any test ys ≡ true)
any_two test xs ys e = or_cases (list_any test xs) (list_any test ys) (sym (list_any-append test xs ys) ∙ e)

first_some : {A : Type 0} (a b : Option A) → (is_some a ≡ true) ⊎ (is_some b ≡ true) → is_some (first_of_two a b) ≡ true
first_some (Some x) b h = refl
first_some None b (inl h) = let bad : false ≡ true = h in cc
first_some None b (inr h) = h

outward_some : (o : Option (List Statement)) (rest : List Statement) → is_some o ≡ true → is_some (outward o rest) ≡ true
outward_some (Some inner) rest h = refl
outward_some None rest h = h

abbrev marked : Mark → List Statement → Bool
marked m ss = list_any (λ st. is_mark m st.form) ss

row_by : (here : Bool) (inside behind : Option (List Statement)) (rest : List Statement) (a b : Bool) → (here || (a || b)) ≡ true → (a ≡ true → is_some inside ≡ true) → (b ≡ true → is_some behind ≡ true) →
    is_some (elim here as (λ x. Option (List Statement)) [ true ↦ Some rest | false ↦ first_of_two (outward inside rest) behind ]) ≡ true
row_by true inside behind rest a b e f g = refl
row_by false inside behind rest a b e f g =
    first_some (outward inside rest) behind (elim (or_cases a b e) [ inl x ↦ inl (outward_some inside rest (f x)) | inr y ↦ inr (g y) ])

mutual
  form_marked : (m : Mark) (f : Form) → marked m (within f) ≡ true → is_some (after_inside m f) ≡ true
  form_marked m (If' c _ t _ o) e = first_some (after_in m t) (after_in m o)
      (elim (any_two (λ st. is_mark m st.form) (within_block t) (within_block o) e) [ inl x ↦ inl (row_marked m t x) | inr y ↦ inr (row_marked m o y) ])
  form_marked m (Switch' v _ arms) e = arms_marked m arms e
  form_marked m (Span' _ body) e = row_marked m body e
  form_marked m f e = let bad : false ≡ true = e in cc

  row_marked : {n : _} (m : Mark) (row : Row_of-Statement n) → marked m (within_block row) ≡ true → is_some (after_in m row) ≡ true
  row_marked m end_of-Statement e = let bad : false ≡ true = e in cc
  row_marked m (more_of-Statement tokens form rest) e =
      row_by (is_mark m form) (after_inside m form) (after_in m rest) (statements rest) (marked m (within form)) (marked m (within_block rest))
      (ap (λ b. is_mark m form || b) (sym (list_any-append (λ st. is_mark m st.form) (within form) (within_block rest))) ∙ e) (form_marked m form) (row_marked m rest)

  arms_marked : {n : _} (m : Mark) (row : Row_of-Arm n) → marked m (within_arms row) ≡ true → is_some (after_in_arms m row) ≡ true
  arms_marked m end_of-Arm e = let bad : false ≡ true = e in cc
  arms_marked m (more_of-Arm (Arm' what _ body) rest) e = first_some (after_in m body) (after_in_arms m rest)
      (elim (any_two (λ st. is_mark m st.form) (within_block body) (within_arms rest) e) [ inl x ↦ inl (row_marked m body x) | inr y ↦ inr (arms_marked m rest y) ])

-- ---- a label of the procedure stands among its statements

abbrev holds_number : ℕ → List ℕ → Bool
holds_number n ns = list_any (λ m. n == m) ns

in_by : (n a : ℕ) (rest : List ℕ) → (n ≡ a) ⊎ (n ≡ a → ⊥) → ((n ≡ a → ⊥) → holds_number n rest ≡ true) → holds_number n (a ∷ rest) ≡ true
in_by n a rest (inl same) later = or_left (n == a) (holds_number n rest) (eq-eqb n a same)
in_by n a rest (inr other) later = or_right (n == a) (holds_number n rest) (later other)

in_range : (n a k : ℕ) → a ≤ n → n < a + k → holds_number n (range_with_len a k) ≡ true
in_range n a zero low high = absurd (omega arith)
in_range n a (suc k) low high = in_by n a (range_with_len (a + 1) k) (cases_eq n a) (λ other. in_range n (a + 1) k (omega arith) (omega arith))

only_one : (b : Bool) → (b || false) ≡ true → b ≡ true
only_one true h = refl
only_one false h = h

label_is : (n : ℕ) (f : Form) → holds_number n (label_number f) ≡ true → is_mark (AtLabel n) f ≡ true
label_is n (forms.Label m) e = only_one (n == m) e
label_is n f e = let bad : false ≡ true = e in cc

marked_by : (n : ℕ) (ss : List Statement) → holds_number n (flat_map (λ st. label_number st.form) ss) ≡ true → marked (AtLabel n) ss ≡ true
marked_by n [] e = e
marked_by n (st ∷ ss) e =
    elim (any_two (λ m. n == m) (label_number st.form) (flat_map (λ t. label_number t.form) ss) e) [
      | inl x ↦ or_left (is_mark (AtLabel n) st.form) (marked (AtLabel n) ss) (label_is n st.form x)
      | inr y ↦ or_right (is_mark (AtLabel n) st.form) (marked (AtLabel n) ss) (marked_by n ss y)
    ]

declared_label : (o : Option Local) → ◌≡◌ {A = Bool} (elim o [ Some a ↦ is_label a | None ↦ false ]) true → (l : Local) × ((o ≡ Some l) × (is_label l ≡ true))
declared_label (Some l) e = (l, (refl, e))
declared_label None e = let bad : false ≡ true = e in cc

module _ (outer : Senses) (unit : ℕ) (around : List SpanTree) (tree : ProcTree) (none : item_procedure_spots outer (items.Proc tree) ≡ []) where
  abbrev s : Scope
  s = scope_of outer tree

  abbrev q : Proc
  q = procedure_of outer unit around tree

  goto_there : (i : Ident) → goto_spots s i ≡ [] → is_some (after_inside (AtLabel (label_of s i)) (Span q.body)) ≡ true
  goto_there i free =
      let rest = flat_map part_names (parts_of tree.body) in let n = label_of s i in
      let known = declared_label (found i.name s.own) (no_unless (is_declared is_label i.name s.own) NoSuchLabel i.token free) in
      let under : n < how_many is_label s.own = number_below is_label i.name known.0 s.own known.1.0 known.1.1 in
      let all : how_many is_label s.own ≡ how_many is_label rest =
      how_many_append is_label (map formal_name tree.formals) rest ∙ ap (λ m. m + how_many is_label rest) (formals_none is_label labels_alone tree.formals)
      ∙ (let e : 0 + how_many is_label rest ≡ how_many is_label rest = omega arith in e) in
      let numbers : body_numbers label_number q ≡ range_with_len 0 (how_many is_label rest) =
      marks_ascend is_label label_number labels_alone label_part outer unit around tree (declared_once outer tree none) in
      let inside : holds_number n (body_numbers label_number q) ≡ true =
      ap (holds_number n) numbers ∙ in_range n 0 (how_many is_label rest) (omega arith) (omega arith) in
      form_marked (AtLabel n) (Span q.body) (marked_by n (body_statements q) inside)

  call_leads : (n : ℕ) (c : Callee) (values : List Expression) (b : Bool) → leads q (elim b as (λ x. Form) [ true ↦ forms.Yield n values | false ↦ forms.Call n (callee_of (senses s) c) values ]) ≡ true
  call_leads n c values true = refl
  call_leads n c values false = refl

  host_leads : (h : Option Host) (results : List Kinded) (values : List Expression) → leads q (host_form s h results values) ≡ true
  host_leads (Some PutByte) results [] = refl
  host_leads (Some PutByte) results (v ∷ vs) = refl
  host_leads (Some GetByte) [] values = refl
  host_leads (Some GetByte) (k ∷ ks) values = refl
  host_leads (Some Yield) results values = refl
  host_leads None results values = refl

  return_leads : (exit : Option Exit) (values : List Expression) → leads q (return_form s exit values) ≡ true
  return_leads None values = refl
  return_leads (Some x) values = refl

  part_leads : (n : ℕ) (p : Part) → part_spots s p ≡ [] → list_all (λ st. leads q st.form) (part_of s n p) ≡ true
  part_leads n (parts.Local l) free = refl
  part_leads n (parts.Stmt' first past (stmts.Goto i)) free = and_from _ true (goto_there i free) refl
  part_leads n (parts.Stmt' first past (stmts.Cut callee actuals flows)) free =
      and_from _ true (exits_below outer tree (flat_map cut_names flows) (flows_below outer tree cut_names (by_cuts outer tree) flows (no_right _ (flows_spots s flows) free))) refl
  part_leads n (parts.Stmt' first past (stmts.Call results None callee actuals flows)) free = and_from _ true (call_leads n callee (values_of (senses s) actuals) (is_yield s callee)) refl
  part_leads n (parts.Stmt' first past (stmts.Call results (Some convention) callee actuals flows)) free =
      and_from _ true (host_leads (foreign_callee s callee) results (values_of (senses s) actuals)) refl
  part_leads n (parts.Stmt' first past (stmts.Return exit None)) free = and_from _ true (return_leads exit []) refl
  part_leads n (parts.Stmt' first past (stmts.Return exit (Some values))) free = and_from _ true (return_leads exit (values_of (senses s) values)) refl
  part_leads n (parts.Stmt' first past (stmts.If' c _ body otherwise)) free = refl
  part_leads n (parts.Stmt' first past (stmts.Switch' range value _ arms)) free = refl
  part_leads n (parts.Stmt' first past (stmts.Span' key value _ body)) free = refl
  part_leads n (parts.Stmt' first past (stmts.Assign to values)) free = refl
  part_leads n (parts.Stmt' first past (stmts.Checked result operator left right flows)) free = refl
  part_leads n (parts.Stmt' first past (stmts.Jump callee actuals)) free = refl
  part_leads n (parts.Stmt' first past (stmts.Label name)) free = refl
  part_leads n (parts.Stmt' first past (stmts.Continuation name parameters)) free = refl
  part_leads n (parts.Stmt' first past stmts.Empty) free = refl

  flat_leads : (n : ℕ) (ps : List Part) → flat_map (part_spots s) ps ≡ [] → list_all (λ st. leads q st.form) (flat_from s n ps) ≡ true
  flat_leads n [] free = refl
  flat_leads n (p ∷ ps) free =
      list_all-append (λ st. leads q st.form) (part_of s n p) (flat_from s (n + sites_of p) ps)
      ∙ and_from (list_all (λ st. leads q st.form) (part_of s n p)) _ (part_leads n p (no_left (part_spots s p) (flat_map (part_spots s) ps) free))
      (flat_leads (n + sites_of p) ps (no_right (part_spots s p) (flat_map (part_spots s) ps) free))

  pub all_lead : list_all (λ st. leads q st.form) (body_statements q) ≡ true
  all_lead = ap (list_all (λ st. leads q st.form)) (procedure_is outer unit around tree)
      ∙ flat_leads 0 (parts_of tree.body) (no_right _ (flat_map (part_spots s) (parts_of tree.body)) (no_left (proc_spots outer tree) (proc_limits outer tree) none))

pub ways_are_there : WaysAreThere
ways_are_there us accepted = all_accepted (λ q. IsTrue (list_all (λ st. leads q st.form) (body_statements q))) us accepted
    (λ earlier u number place around tree none. all_lead (unit_senses (program_of (named_units us)) u.entries) number around tree none)
