-- One law for each form of expression that holds others.
use Rattle.std.proofs.Common.{◌≡◌, refl, ap, ◌∙◌, subst, List, ℕ, Option}
use Rattle.std.specs.Prelude.{Ok, Result, IfOk}
use denote.Hole.Carrier as Carrier
use Rattle.cmm_ast.specs.declared.expression.Expr.{Expr}
use Rattle.cmm_ast.specs.declared.expression.ExprForm.{Row_of-Expr, more_of-Expr, end_of-Expr, items-the_row-Expr, items_hidden-the_row-Expr-1}
use Rattle.cmm_ast.specs.declared.expression.ExprForm.TheBlock as ExprForms
use Rattle.cmm_ast.specs.declared.expression.ExprForm.TheVariants.{Infix, Prefix, Named}
use Rattle.cmm_ast.specs.declared.expression.Infix.{Infix as Sign}
use Rattle.cmm_ast.specs.declared.expression.Prefix.{Prefix as PrefixSign}
use Rattle.cmm_ast.specs.declared.expression.PrimForm.{PrimForm}
use Rattle.cmm_ast.specs.declared.expression.PrimForm.TheVariants.{Bracketed}
use Rattle.cmm_ast.specs.declared.expression.Memory.{Memory, Memory', out-Memory}
use Rattle.cmm_words.specs.declared.width.Width.{Width}
use Rattle.cmm_static_semantics.specs.declared.judged.Typed.{Typed}
use Rattle.cmm_static_semantics.specs.declared.judged.Operand.{Operand}
use Rattle.cmm_static_semantics.specs.declared.judged.Operands.{Operands}
use Rattle.cmm_static_semantics.specs.declared.judged.Operands.TheVariants as operands
use Rattle.cmm_static_semantics.specs.declared.operator.Operator.{Operator}
use Rattle.cmm_static_semantics.specs.Senses.{Senses}
use Rattle.cmm_static_semantics.specs.Operators.{infix_operator, prefix_operator, operator_named}
use Rattle.cmm_static_semantics.specs.Algebras.{Algebra}
use Rattle.cmm_static_semantics.specs.Judging.{Judged, with_ok, with_both}
use Rattle.cmm_static_semantics.specs.Typing.{expr_type, form_type, prim_type, memory_type, type_width, operand_at, given_operands, with_operand, applied, applied_to_one, applied_to_two, load}
use Rattle.cmm_typing.specs.inside.Operands.{list_operands}

module _ {E C : Type 0} (algebra : Algebra E C) (names : Senses) where
  -- an operand, by its first token
  abbrev pub at_token : Expr → Judged (Operand E C)
  at_token e = operand_at algebra e.token (expr_type algebra names e)

  infix_form : (token : ℕ) (l : Expr) (op : Sign) (r : Expr) →
      form_type algebra names token (Infix l op r) ≡ with_both (at_token l) (at_token r) (applied_to_two algebra (infix_operator op) token)
  unfolding ExprForms.hidden-the_row-Expr-0 Carrier.hidden
  infix_form token l op r = refl

  prefix_form : (token : ℕ) (op : PrefixSign) (a : Expr) →
      form_type algebra names token (Prefix op a) ≡ with_ok (at_token a) (applied_to_one algebra (prefix_operator op) token)
  unfolding ExprForms.hidden-the_row-Expr-0 Carrier.hidden
  prefix_form token op a = refl

  bracketed_form : (token : ℕ) (a : Expr) → prim_type algebra names token (Bracketed a) ≡ expr_type algebra names a
  unfolding ExprForms.hidden-the_row-Expr-0 Carrier.hidden
  bracketed_form token a = refl

  rows : (before : Judged (Operands E C)) (n : _) (row : Row_of-Expr n) →
      given_operands algebra names before row ≡ list_operands algebra names before (items-the_row-Expr n row)
  rows before n end_of-Expr = refl
  rows before n (more_of-Expr {n = m} token form rest) =
      rows (with_operand algebra before (operand_at algebra token (form_type algebra names token form))) m rest

  named_form : (token : ℕ) (name : List ℕ) (es : List Expr) →
      form_type algebra names token (Named name es) ≡ with_ok (list_operands algebra names (Ok operands.Zero) es) (applied algebra token (operator_named name))
  unfolding ExprForms.hidden-the_row-Expr-1 Carrier.hidden
  named_form token name es = ap (λ o. with_ok o (applied algebra token (operator_named name)))
      (rows (Ok operands.Zero) _ (ExprForms.hidden-the_row-Expr-1 es) ∙ ap (list_operands algebra names (Ok operands.Zero)) (items_hidden-the_row-Expr-1 es))

  pub infix_law : (e l : Expr) (op : Sign) (r : Expr) → e.form ≡ Infix l op r →
      expr_type algebra names e ≡ with_both (at_token l) (at_token r) (applied_to_two algebra (infix_operator op) e.token)
  infix_law e l op r is = ap (form_type algebra names e.token) is ∙ infix_form e.token l op r

  pub prefix_law : (e : Expr) (op : PrefixSign) (a : Expr) → e.form ≡ Prefix op a →
      expr_type algebra names e ≡ with_ok (at_token a) (applied_to_one algebra (prefix_operator op) e.token)
  prefix_law e op a is = ap (form_type algebra names e.token) is ∙ prefix_form e.token op a

  pub named_law : (e : Expr) (name : List ℕ) (es : List Expr) → e.form ≡ Named name es →
      expr_type algebra names e ≡ with_ok (list_operands algebra names (Ok operands.Zero) es) (applied algebra e.token (operator_named name))
  named_law e name es is = ap (form_type algebra names e.token) is ∙ named_form e.token name es

  pub bracketed_law : (token : ℕ) (p : PrimForm) (a : Expr) → p ≡ Bracketed a → prim_type algebra names token p ≡ expr_type algebra names a
  bracketed_law token p a is = ap (prim_type algebra names token) is ∙ bracketed_form token a

  pub memory_law : (m : Memory) → memory_type algebra names m ≡
      with_both (type_width names (out-Memory m).width) (at_token (out-Memory m).address) (load algebra (out-Memory m).aligned)
  unfolding ExprForms.hidden-the_row-Expr-0 Carrier.hidden out-Memory Carrier.out ExprForms.shown-the_row-Expr-0 Carrier.shown
  memory_law (Memory' width _ (more_of-Expr token form end_of-Expr) aligned) = refl

  -- ---- what is joined from judgements of parts, unless that fails

  abbrev Whole : Type 0
  Whole = Judged (Typed E C)

  abbrev IsJoined : {F : Type 0} → Result Whole F → Whole → Type 0
  IsJoined r judged = IfOk r (λ j. j ≡ judged)

  pub infix_joined : {F : Type 0} (r : Result Whole F) (e l : Expr) (op : Sign) (k : Expr) → e.form ≡ Infix l op k →
      (l1 l2 k1 k2 : Expr) → l1 ≡ l → l2 ≡ l → k1 ≡ k → k2 ≡ k → (a b : Whole) → a ≡ expr_type algebra names l1 → b ≡ expr_type algebra names k1 →
      IsJoined r (with_both (operand_at algebra l2.token a) (operand_at algebra k2.token b) (applied_to_two algebra (infix_operator op) e.token)) →
      IsJoined r (expr_type algebra names e)
  infix_joined r e l op k is l1 l2 k1 k2 l1-is l2-is k1-is k2-is a b a-is b-is joined =
      let same : with_both (operand_at algebra l2.token a) (operand_at algebra k2.token b) (applied_to_two algebra (infix_operator op) e.token) ≡ expr_type algebra names e
      = rw (infix_law e l op k is, a-is, b-is, l1-is, l2-is, k1-is, k2-is) refl in
      subst (IsJoined r) same joined

  pub prefix_joined : {F : Type 0} (r : Result Whole F) (e : Expr) (op : PrefixSign) (l : Expr) → e.form ≡ Prefix op l →
      (l1 l2 : Expr) → l1 ≡ l → l2 ≡ l → (a : Whole) → a ≡ expr_type algebra names l1 →
      IsJoined r (with_ok (operand_at algebra l2.token a) (applied_to_one algebra (prefix_operator op) e.token)) → IsJoined r (expr_type algebra names e)
  prefix_joined r e op l is l1 l2 l1-is l2-is a a-is joined =
      let same : with_ok (operand_at algebra l2.token a) (applied_to_one algebra (prefix_operator op) e.token) ≡ expr_type algebra names e
      = rw (prefix_law e op l is, a-is, l1-is, l2-is) refl in
      subst (IsJoined r) same joined

  pub named_joined : {F : Type 0} (r : Result Whole F) (e : Expr) (name : List ℕ) (es : List Expr) → e.form ≡ Named name es →
      (given_of : List Expr) → given_of ≡ es → (given : Judged (Operands E C)) → given ≡ list_operands algebra names (Ok operands.Zero) given_of →
      (o : Option Operator) → o ≡ operator_named name → IsJoined r (with_ok given (applied algebra e.token o)) → IsJoined r (expr_type algebra names e)
  named_joined r e name es is given_of of-is given given-is o o-is joined =
      let same : with_ok given (applied algebra e.token o) ≡ expr_type algebra names e
      = rw (named_law e name es is, given-is, of-is, o-is) refl in
      subst (IsJoined r) same joined

  pub bracketed_joined : {F : Type 0} (r : Result Whole F) (token : ℕ) (p : PrimForm) (a : Expr) → p ≡ Bracketed a → (a1 : Expr) → a1 ≡ a →
      IsJoined r (expr_type algebra names a1) → IsJoined r (prim_type algebra names token p)
  bracketed_joined r token p a is a1 a1-is joined =
      let same : expr_type algebra names a1 ≡ prim_type algebra names token p = rw (bracketed_law token p a is, a1-is) refl in
      subst (IsJoined r) same joined

  pub memory_joined : {F : Type 0} (r : Result Whole F) (m : Memory) (w : Judged Width) → w ≡ type_width names (out-Memory m).width →
      (a1 a2 : Expr) → a1 ≡ (out-Memory m).address → a2 ≡ (out-Memory m).address → (a : Whole) → a ≡ expr_type algebra names a1 →
      IsJoined r (with_both w (operand_at algebra a2.token a) (load algebra (out-Memory m).aligned)) → IsJoined r (memory_type algebra names m)
  memory_joined r m w w-is a1 a2 a1-is a2-is a a-is joined =
      let same : with_both w (operand_at algebra a2.token a) (load algebra (out-Memory m).aligned) ≡ memory_type algebra names m
      = rw (memory_law m, w-is, a-is, a1-is, a2-is) refl in
      subst (IsJoined r) same joined
