-- A statement and its call sites are made from what stands inside it.
use Rattle.std.proofs.Common.{◌≡◌, ℕ, ◌+◌, ◌-◌, ◌<◌, ◌^◌, length, length-append, refl, sym, ap, ◌∙◌, subst, arith, true, false, List, [], ◌∷◌, ◌++◌, append-nil, append_assoc, Option}
use Rattle.std.specs.Prelude.{map, Result, Ok, Err, IfOk}
use Rattle.std.specs.List.{All}
use Rattle.std.proofs.lemmas.List.Elements.{All-head}
use Rattle.cmm_words.specs.declared.width.Width.{Width}
use Rattle.cmm_ast.specs.declared.expression.Expr.{Expr}
use Rattle.cmm_ast.specs.declared.expression.Primary.{Primary}
use Rattle.cmm_ast.specs.declared.procedure.Local.{Local}
use Rattle.cmm_ast.specs.declared.statement.Flow.{Flow}
use Rattle.cmm_ast.specs.declared.statement.Lvalue.{Lvalue as LvalueTree}
use Rattle.cmm_ast.specs.declared.token.Ident.{Ident}
use Rattle.cmm_ast.specs.declared.statement.Arm.{Arm as ArmTree}
use Rattle.cmm_ast.specs.declared.statement.Block.{Block}
use Rattle.cmm_ast.specs.declared.statement.Otherwise.{Otherwise}
use Rattle.cmm_ast.specs.declared.statement.Otherwise.TheVariants as otherwises
use Rattle.cmm_ast.specs.declared.statement.Part.{Part}
use Rattle.cmm_ast.specs.declared.statement.Part.TheVariants as parts
use Rattle.cmm_ast.specs.declared.statement.Span.{Span as SwitchSpan}
use Rattle.cmm_ast.specs.declared.statement.Stmt.{Stmt}
use Rattle.cmm_ast.specs.declared.statement.StmtForm.{StmtForm}
use Rattle.cmm_ast.specs.declared.statement.StmtForm.TheVariants as stmts
use Rattle.cmm_program.specs.declared.expression.Condition.{Condition}
use Rattle.cmm_program.specs.declared.expression.Expression.{Expression}
use Rattle.cmm_program.specs.declared.procedure.Site.{Site}
use Rattle.cmm_program.specs.declared.statement.Arm.{Arm, roll-Arm}
use Rattle.cmm_program.specs.declared.statement.Case.{Case}
use Rattle.cmm_program.specs.declared.statement.Form.{Form}
use Rattle.cmm_program.specs.declared.statement.Form.TheVariants as forms
use Rattle.cmm_program.specs.declared.statement.Statement.{Statement}
use Rattle.cmm_static_semantics.specs.Items.{SpanTree, Within, part_within, parts_in, parts_inside, parts_otherwise}
use Rattle.cmm_static_semantics.specs.Limits.{is_site, site_count}
use Rattle.cmm_static_semantics.specs.Scopes.{Scope, senses}
use Rattle.cmm_symbols.specs.Shown.{whats}
use Rattle.cmm_elaboration.specs.Resolving.{condition_of, place_of, value_of}
use Rattle.cmm_elaboration.specs.Sites.{SpanValue, form_sites, innermost, part_sites, sites_among, span_value, with_span}
use Rattle.cmm_elaboration.specs.Bodies.{blocks_length, case_of, checked_form, counted, form_of, otherwise_of, part_of, value_width}
use Rattle.cmm_elaboration.proofs.Shared.{if_inside, span_inside, switch_inside, else_inside, else_if_inside, site_here, whats_alike, whats_append}
use Rattle.cmm_lower_parts.specs.Fitting.{PlaceFits}
use Rattle.cmm_typing.specs.Resolved.{AlignmentsFit}
use Rattle.cmm_lower.specs.Fitting.{FormFits, PartFits, PartsFit}
use Rattle.cmm_lower.specs.inside.Making.{AreInForce, ArmsMade, FormMade, OtherwiseMade, PartMade, PartsMade, StatementMade, arm_inside, arm_of, own_sites, parts_from}
use Rattle.cmm_lower.proofs.Making.{counted_after, fit_left, fit_right, sites_append}
use Rattle.cmm_lower.proofs.Variants.{else_if_made, else_made, if_form, span_form, switch_form}

module _ (s : Scope) (in_force : List SpanValue) where
  -- ---- statements with blocks

  if_is : (before mid after : List Site) (n : ℕ) (c : Expr) (b : Block) (o : Otherwise) (condition : Condition) (then other : List Statement) →
      (AlignmentsFit c → condition ≡ condition_of (senses s) c) → PartsMade s in_force before mid b.parts then → OtherwiseMade s in_force mid after o other →
      FormMade s in_force before after n (stmts.If c b o) (forms.If condition then other)
  if_is before mid after n c b o condition then other value first second spans around force fits number within =
      let whole : whats (parts_inside spans (stmts.If c b o)) ≡ whats (parts_in spans b) ++ whats (parts_otherwise spans o) =
      ap whats (if_inside spans c b o) ∙ whats_append (parts_in spans b) (parts_otherwise spans o) in
      let both = subst (PartsFit s (length before)) whole within in
      let one = first spans around force (fit_left s (length before) (whats (parts_in spans b)) (whats (parts_otherwise spans o)) both) in
      let counted : length mid ≡ length before + site_count (whats (parts_in spans b)) = counted_after s around before mid (parts_in spans b) one.1 in
      let two = second spans around force (fit_right s (length before) (length mid) (whats (parts_in spans b)) (whats (parts_otherwise spans o)) counted both) in
      let start : length before ≡ n = let e : length before ≡ n + 0 = number in omega arith in
      let later : length mid ≡ n + site_count (whats (parts_in [] b)) =
      counted ∙ ap (λ ps. length before + site_count ps) (whats_alike spans [] b.parts) ∙ ap (λ m. m + site_count (whats (parts_in [] b))) start in (
        ap (λ x. forms.If x then other) (value fits) ∙ ap (λ t. forms.If (condition_of (senses s) c) t other) (one.0 ∙ ap (λ m. parts_from s m b.parts) start)
            ∙ ap (λ t. forms.If (condition_of (senses s) c) (parts_from s n b.parts) t) (two.0 ∙ ap (λ m. otherwise_of s m o) later) ∙ sym (if_form s n c b o),
        two.1 ∙ ap (λ t. t ++ sites_among s around (parts_otherwise spans o)) one.1
            ∙ append_assoc before (sites_among s around (parts_in spans b)) (sites_among s around (parts_otherwise spans o))
            ∙ ap (λ t. before ++ t) (sym (sites_append s around (parts_in spans b) (parts_otherwise spans o))) ∙ ap (λ ws. before ++ sites_among s around ws) (sym (if_inside spans c b o)),
      )

  switch_is : (before after : List Site) (n : ℕ) (over : Option SwitchSpan) (v : Expr) (as_ : List ArmTree) (width : Option Width) (value : Expression) (arms : List Arm) →
      width ≡ value_width s v → (AlignmentsFit v → value ≡ value_of (senses s) v) → ArmsMade s in_force before after width as_ arms →
      FormMade s in_force before after n (stmts.Switch over v as_) (forms.Switch value arms)
  switch_is before after n over v as_ width value arms wide is made spans around force fits number within =
      let all = made spans around force (subst (PartsFit s (length before)) (ap whats (switch_inside spans over v as_)) within) in
      let start : length before ≡ n = let e : length before ≡ n + 0 = number in omega arith in (
        ap (λ x. forms.Switch x arms) (is fits) ∙ ap (forms.Switch (value_of (senses s) v)) (all.0 ∙ rw (start, wide) refl) ∙ sym (switch_form s n over v as_),
        all.1 ∙ ap (λ ws. before ++ sites_among s around ws) (sym (switch_inside spans over v as_)),
      )

  span_is : (before after : List Site) (n : ℕ) (key : Primary) (v : Expr) (b : Block) (x : SpanValue) (inner : List SpanValue) (body : List Statement) →
      x ≡ span_value (senses s) record { key = key; value = v } → inner ≡ with_span x in_force → PartsMade s inner before after b.parts body →
      FormMade s in_force before after n (stmts.Span key v b) (forms.Span body)
  span_is before after n key v b x inner body value inside made spans around force fits number within =
      let tree : SpanTree = record { key = key; value = v } in
      let entered : AreInForce s inner (tree ∷ spans) around =
      inside ∙ ap (λ y. with_span y in_force) value ∙ ap (with_span (span_value (senses s) tree)) force in
      let all = made (tree ∷ spans) around entered (subst (PartsFit s (length before)) (ap whats (span_inside spans key v b)) within) in
      let start : length before ≡ n = let e : length before ≡ n + 0 = number in omega arith in (
        ap forms.Span (all.0 ∙ ap (λ m. parts_from s m b.parts) start) ∙ sym (span_form s n key v b),
        all.1 ∙ ap (λ ws. before ++ sites_among s around ws) (sym (span_inside spans key v b)),
      )

  pub if_made : (before mid after : List Site) (n : ℕ) (f : StmtForm) (c : Expr) (b : Block) (o : Otherwise) (condition : Condition) (then other : List Statement) → f ≡ stmts.If c b o →
      (AlignmentsFit c → condition ≡ condition_of (senses s) c) → PartsMade s in_force before mid b.parts then → OtherwiseMade s in_force mid after o other →
      FormMade s in_force before after n f (forms.If condition then other)
  if_made before mid after n f c b o condition then other is value first second =
      subst (λ g. FormMade s in_force before after n g (forms.If condition then other)) (sym is) (if_is before mid after n c b o condition then other value first second)

  pub switch_made : (before after : List Site) (n : ℕ) (f : StmtForm) (over : Option SwitchSpan) (v : Expr) (as_ : List ArmTree) (width : Option Width) (value : Expression) (arms : List Arm) →
      f ≡ stmts.Switch over v as_ → width ≡ value_width s v → (AlignmentsFit v → value ≡ value_of (senses s) v) → ArmsMade s in_force before after width as_ arms →
      FormMade s in_force before after n f (forms.Switch value arms)
  switch_made before after n f over v as_ width value arms is wide one made =
      subst (λ g. FormMade s in_force before after n g (forms.Switch value arms)) (sym is) (switch_is before after n over v as_ width value arms wide one made)

  pub span_made : (before after : List Site) (n : ℕ) (f : StmtForm) (key : Primary) (v : Expr) (b : Block) (x : SpanValue) (inner : List SpanValue) (body : List Statement) →
      f ≡ stmts.Span key v b → x ≡ span_value (senses s) record { key = key; value = v } → inner ≡ with_span x in_force → PartsMade s inner before after b.parts body →
      FormMade s in_force before after n f (forms.Span body)
  span_made before after n f key v b x inner body is value inside made =
      subst (λ g. FormMade s in_force before after n g (forms.Span body)) (sym is) (span_is before after n key v b x inner body value inside made)

  -- ---- statements without blocks

  leaf_is : (sites : List Site) (n : ℕ) (f : StmtForm) (made : Form) → ((spans : List SpanTree) → parts_inside spans f ≡ []) → (FormFits s f → made ≡ form_of s n f) →
      FormMade s in_force sites sites n f made
  leaf_is sites n f made none is spans around force fits number within =
      (is fits, sym (append-nil sites) ∙ ap (λ ws. sites ++ sites_among s around ws) (sym (none spans)))

  pub leaf_made : {E : Type 0} (sites : List Site) (n : ℕ) (f g : StmtForm) (r : Result Form E) → f ≡ g → ((spans : List SpanTree) → parts_inside spans g ≡ []) →
      (FormFits s g → IfOk r (λ made. made ≡ form_of s n g)) → IfOk r (λ made. FormMade s in_force sites sites n f made)
  leaf_made sites n f g (Ok made) same none is = subst (λ h. FormMade s in_force sites sites n h made) (sym same) (leaf_is sites n g made none is)
  leaf_made sites n f g (Err e) same none is = tt

  pub assign_made : {E : Type 0} (sites : List Site) (n : ℕ) (f : StmtForm) (to xs : List LvalueTree) (values ys : List Expr) (r : Result Form E) → f ≡ stmts.Assign to values → xs ≡ to → ys ≡ values →
      (All PlaceFits xs → All AlignmentsFit ys → IfOk r (λ form. form ≡ forms.Assign (map (place_of (senses s)) xs) (map (value_of (senses s)) ys))) →
      IfOk r (λ made. FormMade s in_force sites sites n f made)
  assign_made sites n f to xs values ys r is left right made = leaf_made sites n f (stmts.Assign to values) r is (λ spans. refl) (λ fits.
      subst (λ zs. All PlaceFits zs → All AlignmentsFit values → IfOk r (λ form. form ≡ forms.Assign (map (place_of (senses s)) zs) (map (value_of (senses s)) values))) left
      (subst (λ zs. All PlaceFits xs → All AlignmentsFit zs → IfOk r (λ form. form ≡ forms.Assign (map (place_of (senses s)) xs) (map (value_of (senses s)) zs))) right made) fits.0 fits.1)

  pub checked_made : {E : Type 0} (sites : List Site) (n : ℕ) (f : StmtForm) (result operator : Ident) (left right : Expr) (flows : List Flow) (r : Result Form E) →
      f ≡ stmts.Checked result operator left right flows → (AlignmentsFit left → AlignmentsFit right → IfOk r (λ form. form ≡ checked_form s n operator left right)) →
      IfOk r (λ made. FormMade s in_force sites sites n f made)
  checked_made sites n f result operator left right flows r is made =
      leaf_made sites n f (stmts.Checked result operator left right flows) r is (λ spans. refl) (λ fits. made fits.0 fits.1)

  -- ---- what stands after the block of an `if`

  pub none_made : (sites : List Site) (o : Otherwise) → o ≡ otherwises.Nothing → OtherwiseMade s in_force sites sites o []
  none_made sites o is = subst (λ q. OtherwiseMade s in_force sites sites q []) (sym is) (λ spans around force within. (refl, sym (append-nil sites)))

  pub else_is_made : (before after : List Site) (o : Otherwise) (b : Block) (made : List Statement) → o ≡ otherwises.Else b → PartsMade s in_force before after b.parts made →
      OtherwiseMade s in_force before after o made
  else_is_made before after o b made is done = subst (λ q. OtherwiseMade s in_force before after q made) (sym is) (λ spans around force within.
      let all = done spans around force (subst (PartsFit s (length before)) (ap whats (else_inside spans b)) within) in
      (all.0 ∙ sym (else_made s (length before) b), all.1 ∙ ap (λ ws. before ++ sites_among s around ws) (sym (else_inside spans b))))

  pub else_ok : {E : Type 0} (before after : List Site) (o : Otherwise) (b : Block) (ps : List Part) (r : Result (List Statement) E) → o ≡ otherwises.Else b → ps ≡ b.parts →
      IfOk r (λ made. PartsMade s in_force before after ps made) → IfOk r (λ made. OtherwiseMade s in_force before after o made)
  else_ok before after o b ps (Ok made) is same done = else_is_made before after o b made is (subst (λ qs. PartsMade s in_force before after qs made) same done)
  else_ok before after o b ps (Err e) is same done = tt

  pub else_if_is_made : (before after : List Site) (o : Otherwise) (t u : Stmt) (made : Statement) → o ≡ otherwises.ElseIf t → u ≡ t → StatementMade s in_force before after u made →
      OtherwiseMade s in_force before after o (made ∷ [])
  else_if_is_made before after o t u made is same done = subst (λ q. OtherwiseMade s in_force before after q (made ∷ [])) (sym (is ∙ ap otherwises.ElseIf (sym same))) (λ spans around force within.
      let all = done spans around force (subst (PartsFit s (length before)) (ap whats (else_if_inside spans u)) within) in
      (ap (λ x. x ∷ []) all.0 ∙ sym (else_if_made s (length before) u), all.1 ∙ ap (λ ws. before ++ sites_among s around ws) (sym (else_if_inside spans u))))

  -- ---- a statement with its own site

  pub statement_made : (before mid after : List Site) (t : Stmt) (tokens n : ℕ) (form : Form) → tokens ≡ t.past - t.token - blocks_length t.form →
      (length before < 2 ^ 32 → n ≡ length before) → (FormFits s t.form → mid ≡ before ++ form_sites s in_force t.form) → FormMade s in_force mid after n t.form form →
      StatementMade s in_force before after t (record { tokens = tokens; form = form })
  statement_made before mid after t tokens n form long numbered site made spans around force fits =
      let rest = whats (parts_inside spans t.form) in
      let own : FormFits s t.form = All-head (PartFits s) (parts.Stmt t) rest fits.each in
      let some : length before + (own_sites t.form + site_count rest) < 2 ^ 32 = fits.sites in
      let number : n ≡ length before = numbered (omega arith) in
      let there : mid ≡ before ++ form_sites s in_force t.form = site own in
      let counted : length mid ≡ n + own_sites t.form =
      ap length there ∙ length-append before (form_sites s in_force t.form) ∙ ap (λ m. length before + m) (site_here s in_force (parts.Stmt t)) ∙ ap (λ m. m + own_sites t.form) (sym number) in
      let inner : PartsFit s (length mid) rest =
      fit_right s (length before) (length mid) (parts.Stmt t ∷ []) rest (counted ∙ ap (λ m. m + own_sites t.form) number ∙ (let e : length before + own_sites t.form ≡ length before + (own_sites t.form + 0) = omega arith in e)) fits in
      let all = made spans around force own counted inner in (
        ap (λ k. record { tokens = k; form = form }) long ∙ ap (λ f. record { tokens = t.past - t.token - blocks_length t.form; form = f }) (all.0 ∙ ap (λ m. form_of s m t.form) number),
        all.1 ∙ ap (λ q. q ++ sites_among s around (parts_inside spans t.form)) (there ∙ ap (λ x. before ++ form_sites s x t.form) force)
            ∙ append_assoc before (form_sites s (innermost (map (span_value (senses s)) spans ++ around)) t.form) (sites_among s around (parts_inside spans t.form)),
      )

  -- ---- a part of a block

  pub local_made : (sites : List Site) (p : Part) (l : Local) (made : List Statement) → p ≡ parts.Local l → PartMade s in_force sites sites p made made
  local_made sites p l made is =
      subst (λ q. PartMade s in_force sites sites q made made) (sym is) (λ spans around force within. (sym (append-nil made), sym (append-nil sites)))

  pub stmt_made : (before after : List Site) (p : Part) (t : Stmt) (one : Statement) (old new : List Statement) → p ≡ parts.Stmt t → new ≡ old ++ one ∷ [] →
      StatementMade s in_force before after t one → PartMade s in_force before after p old new
  stmt_made before after p t one old new is grown made = subst (λ q. PartMade s in_force before after q old new) (sym is) (λ spans around force within.
      let all = made spans around force within in (grown ∙ ap (λ x. old ++ x ∷ []) all.0, all.1))

  -- an arm, behind others
  pub arm_made : (before after : List Site) (width : Option Width) (a : ArmTree) (case_ : Case) (body : List Statement) (old new : List Arm) → case_ ≡ case_of s width a.case →
      PartsMade s in_force before after a.body.parts body → new ≡ old ++ roll-Arm record { case = case_; body = body } ∷ [] →
      (spans : List SpanTree) (around : List SpanValue) → AreInForce s in_force spans around → PartsFit s (length before) (whats (arm_inside spans a)) →
      (new ≡ old ++ arm_of s width (length before) a) × (after ≡ before ++ sites_among s around (arm_inside spans a))
  arm_made before after width a case_ body old new is made grown spans around force within = let all = made spans around force within in
      (grown ∙ rw (is, all.0) refl, all.1)
