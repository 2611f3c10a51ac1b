-- What statements with blocks come to, where blocks are lists.
use Rattle.std.proofs.Common.{◌≡◌, ℕ, ◌+◌, refl, sym, ap, ◌∙◌, List, [], ◌∷◌, ◌++◌, Option}
use denote.Hole.Carrier as Carrier
use Rattle.cmm_words.specs.declared.width.Width.{Width}
use Rattle.cmm_ast.specs.declared.expression.Expr.{Expr}
use Rattle.cmm_ast.specs.declared.expression.Primary.{Primary}
use Rattle.cmm_ast.specs.declared.statement.Arm.{Arm}
use Rattle.cmm_ast.specs.declared.statement.Block.{Block, Row_of-Part, end_of-Part, more_of-Part, items-the_row-Part, items_hidden-the_row-Part-0, items_shown-the_row-Part-0}
use Rattle.cmm_ast.specs.declared.statement.Otherwise.{Otherwise}
use Rattle.cmm_ast.specs.declared.statement.Otherwise.TheVariants as otherwises
use Rattle.cmm_ast.specs.declared.statement.Otherwise.TheBlock as OtherwiseForms
use Rattle.cmm_ast.specs.declared.statement.Part.{Part}
use Rattle.cmm_ast.specs.declared.statement.Span.{Span as SwitchSpan}
use Rattle.cmm_ast.specs.declared.statement.Stmt.{Stmt}
use Rattle.cmm_ast.specs.declared.statement.StmtForm.{Row_of-Arm, end_of-Arm, more_of-Arm, items-the_row-Arm, items_hidden-the_row-Arm-2}
use Rattle.cmm_ast.specs.declared.statement.StmtForm.TheVariants as stmts
use Rattle.cmm_program.specs.declared.statement.Arm.{roll-Arm}
use Rattle.cmm_program.specs.declared.statement.Form.TheVariants as forms
use Rattle.cmm_program.specs.declared.statement.Statement.{Statement}
use Rattle.cmm_static_semantics.specs.Items.{part_within, parts_in, parts_row}
use Rattle.cmm_static_semantics.specs.Limits.{site_count}
use Rattle.cmm_static_semantics.specs.Scopes.{Scope, senses}
use Rattle.cmm_symbols.specs.Shown.{whats}
use Rattle.cmm_elaboration.specs.Resolving.{condition_of, value_of}
use Rattle.cmm_elaboration.specs.Bodies.{arms_of, case_of, counted, form_of, otherwise_of, part_of, row_of, sites_in_part, sites_in_row, statements_from, value_width}
use Rattle.cmm_elaboration.proofs.Shared.{hidden_parts, shown_parts}
use Rattle.cmm_lower.specs.inside.Making.{arm_inside, arm_of, arms_from, from, parts_from}

unfoldable opened : Unit {0}
unfolding OtherwiseForms.hidden-the_row-Part-0 OtherwiseForms.hidden-the_row-Stmt-1 OtherwiseForms.hidden-the_row-Arm-2 Carrier.hidden Carrier.roll
opened = tt

module _ (s : Scope) where
  pub list_is : (n : ℕ) (ps : List Part) → statements_from s n ps ≡ parts_from s n ps
  list_is n [] = refl
  list_is n (p ∷ ps) = ap (λ t. part_of s n p ++ t) (list_is (n + sites_in_part p) ps)

  row_is : (n k : _) (row : Row_of-Part k) → row_of s n row ≡ parts_from s n (items-the_row-Part k row)
  row_is n k end_of-Part = refl
  row_is n k (more_of-Part {n = m} p rest) = ap (λ t. part_of s n p ++ t) (row_is (n + sites_in_part p) m rest)

  hidden_is : (n : ℕ) (ps : List Part) → row_of s n (OtherwiseForms.hidden-the_row-Part-0 ps) ≡ parts_from s n ps
  hidden_is n ps = row_is n _ (OtherwiseForms.hidden-the_row-Part-0 ps) ∙ ap (parts_from s n) (items_hidden-the_row-Part-0 ps)

  shown_is : (n : ℕ) (x : _) (body : Row_of-Part _) → parts_from s n (OtherwiseForms.shown-the_row-Part-0 x body) ≡ row_of s n body
  shown_is n x body = ap (parts_from s n) (items_shown-the_row-Part-0 x body) ∙ sym (row_is n _ body)

  arm_rows : (n : ℕ) (width : Option Width) (k : _) (row : Row_of-Arm k) → arms_of s n width row ≡ arms_from s width n (items-the_row-Arm k row)
  unfolding opened
  arm_rows n width k end_of-Arm = refl
  arm_rows n width k (more_of-Arm {n = m} first what x body rest) =
      ap (λ t. roll-Arm record { case = case_of s width what; body = row_of s n body } ∷ t) (arm_rows (n + sites_in_row body) width m rest)
      ∙ ap (λ t. roll-Arm record { case = case_of s width what; body = t } ∷ arms_from s width (n + sites_in_row body) (items-the_row-Arm m rest)) (sym (shown_is n _ body))
      ∙ ap (λ ws. roll-Arm record { case = case_of s width what; body = parts_from s n (OtherwiseForms.shown-the_row-Part-0 _ body) } ∷ arms_from s width (n + site_count (whats ws)) (items-the_row-Arm m rest)) (sym (shown_parts [] _ body))

  -- ---- by the forms of statements

  pub if_form : (n : ℕ) (c : Expr) (b : Block) (o : Otherwise) →
      form_of s n (stmts.If c b o) ≡ forms.If (condition_of (senses s) c) (parts_from s n b.parts) (otherwise_of s (n + site_count (whats (parts_in [] b))) o)
  unfolding opened
  if_form n c b o =
      ap (λ t. forms.If (condition_of (senses s) c) t (otherwise_of s (n + sites_in_row (OtherwiseForms.hidden-the_row-Part-0 b.parts)) o)) (hidden_is n b.parts)
      ∙ ap (λ ws. forms.If (condition_of (senses s) c) (parts_from s n b.parts) (otherwise_of s (n + site_count (whats ws)) o)) (hidden_parts [] b.parts)

  pub switch_form : (n : ℕ) (over : Option SwitchSpan) (v : Expr) (as_ : List Arm) →
      form_of s n (stmts.Switch over v as_) ≡ forms.Switch (value_of (senses s) v) (arms_from s (value_width s v) n as_)
  unfolding opened
  switch_form n over v as_ =
      ap (forms.Switch (value_of (senses s) v)) (arm_rows n (value_width s v) _ (OtherwiseForms.hidden-the_row-Arm-2 as_) ∙ ap (arms_from s (value_width s v) n) (items_hidden-the_row-Arm-2 as_))

  pub span_form : (n : ℕ) (key : Primary) (v : Expr) (b : Block) → form_of s n (stmts.Span key v b) ≡ forms.Span (parts_from s n b.parts)
  unfolding opened
  span_form n key v b = ap forms.Span (hidden_is n b.parts)

  pub else_made : (n : ℕ) (b : Block) → otherwise_of s n (otherwises.Else b) ≡ parts_from s n b.parts
  unfolding opened
  else_made n b = hidden_is n b.parts

  pub else_if_made : (n : ℕ) (t : Stmt) → otherwise_of s n (otherwises.ElseIf t) ≡ counted t.token t.past t.form (form_of s n t.form) ∷ []
  unfolding opened
  else_if_made n t = refl
