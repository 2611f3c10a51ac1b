-- What holds of each name that stands in an expression; and an expression is judged by what those names and its types mean.
use mathlib.Core.Former.{one_more}
use Rattle.std.proofs.Common.{◌≡◌, ℕ, refl, ap, ◌∙◌, List, [], ◌∷◌, ◌++◌, Option, Some, None, Ok}
use Rattle.cmm_ast.specs.declared.token.Ident.{Ident}
use Rattle.cmm_ast.specs.declared.expression.Expr.{Expr}
use Rattle.cmm_ast.specs.declared.expression.ExprForm.{ExprForm, Row_of-Expr, end_of-Expr, more_of-Expr}
use Rattle.cmm_ast.specs.declared.expression.ExprForm.TheVariants.{Infix', Prefix', Prim, Memory as InMemory, Named'}
use Rattle.cmm_ast.specs.declared.expression.Number.{Number}
use Rattle.cmm_ast.specs.declared.expression.PrimForm.{PrimForm}
use Rattle.cmm_ast.specs.declared.expression.PrimForm.TheVariants.{Literal, Name as NameOf, Bracketed'}
use Rattle.cmm_ast.specs.declared.expression.Memory.{Memory, Memory'}
use Rattle.cmm_ast.specs.declared.expression.TypeName.{TypeName}
use Rattle.cmm_static_semantics.specs.declared.judged.Operands.{Operands}
use Rattle.cmm_static_semantics.specs.declared.judged.Operands.TheVariants as operands
use Rattle.cmm_static_semantics.specs.Senses.{Senses}
use Rattle.cmm_static_semantics.specs.Operators.{operator_named, infix_operator, prefix_operator}
use Rattle.cmm_static_semantics.specs.Algebras.{Algebra}
use Rattle.cmm_static_semantics.specs.Judging.{Judged, with_ok, with_both}
use Rattle.cmm_static_semantics.specs.Mentions.{values_alone, form_names, row_names, prim_names, memory_names, expr_names}
use Rattle.cmm_static_semantics.specs.Typing.{type_width, literal_width, number_value, name_type, literal, applied_to_one, applied_to_two, applied, with_operand, load, operand_at, form_type, operand, given_operands, prim_type, memory_type, expr_type}

abbrev pub EachName : (Ident → Type 0) → List Ident → Type 0
EachName P [] = Unit {0}
EachName P (i ∷ is) = P i × EachName P is

pub each_left : (P : Ident → Type 0) (is js : List Ident) → EachName P (is ++ js) → EachName P is
each_left P [] js h = tt
each_left P (i ∷ is) js h = (h.0, each_left P is js h.1)

pub each_right : (P : Ident → Type 0) (is js : List Ident) → EachName P (is ++ js) → EachName P js
each_right P [] js h = h
each_right P (i ∷ is) js h = each_right P is js h.1

-- ---- where two ways of meaning agree on them and on types, the judgement is the same

module _ {E C : Type 0} (algebra : Algebra E C) (names others : Senses) (types : (t : TypeName) → type_width names t ≡ type_width others t) where
  abbrev pub IsSame : Ident → Type 0
  IsSame i = names i.name ≡ others i.name

  width_same : (n : Number) (t : Option TypeName) → literal_width names n t ≡ literal_width others n t
  width_same n None = refl
  width_same n (Some t) = types t

  mutual
    form_same : (token : ℕ) (f : ExprForm) → EachName IsSame (form_names values_alone token f) → form_type algebra names token f ≡ form_type algebra others token f
    form_same token (Infix' _ left o _ right) h =
        ap (λ j. with_both j (operand algebra names right) (applied_to_two algebra (infix_operator o) token)) (operand_same left (each_left IsSame (row_names values_alone left) (row_names values_alone right) h))
        ∙ ap (λ k. with_both (operand algebra others left) k (applied_to_two algebra (infix_operator o) token)) (operand_same right (each_right IsSame (row_names values_alone left) (row_names values_alone right) h))
    form_same token (Prefix' o _ a) h = ap (λ j. with_ok j (applied_to_one algebra (prefix_operator o) token)) (operand_same a h)
    form_same token (Prim prim) h = prim_same token prim h
    form_same token (InMemory m) h = memory_same m h
    form_same token (Named' o _ given) h = ap (λ j. with_ok j (applied algebra token (operator_named o))) (given_same (Ok operands.Zero) (Ok operands.Zero) refl given h)

    operand_same : {n : _} (row : Row_of-Expr (one_more n)) → EachName IsSame (row_names values_alone row) → operand algebra names row ≡ operand algebra others row
    operand_same (more_of-Expr token form rest) h =
        ap (operand_at algebra token) (form_same token form (each_left IsSame (form_names values_alone token form) (row_names values_alone rest) h))

    given_same : {n : _} (before after : Judged (Operands E C)) → before ≡ after → (row : Row_of-Expr n) → EachName IsSame (row_names values_alone row) →
        given_operands algebra names before row ≡ given_operands algebra others after row
    given_same before after same end_of-Expr h = same
    given_same before after same (more_of-Expr token form rest) h =
        given_same (with_operand algebra before (operand_at algebra token (form_type algebra names token form))) (with_operand algebra after (operand_at algebra token (form_type algebra others token form)))
        (ap (λ j. with_operand algebra j (operand_at algebra token (form_type algebra names token form))) same
        ∙ ap (λ k. with_operand algebra after (operand_at algebra token k)) (form_same token form (each_left IsSame (form_names values_alone token form) (row_names values_alone rest) h)))
        rest (each_right IsSame (form_names values_alone token form) (row_names values_alone rest) h)

    prim_same : (token : ℕ) (prim : PrimForm) → EachName IsSame (prim_names values_alone token prim) → prim_type algebra names token prim ≡ prim_type algebra others token prim
    prim_same token (Literal n t) h = ap (λ j. with_ok j (literal algebra token (number_value n))) (width_same n t)
    prim_same token (NameOf name) h = ap (name_type algebra token) h.0
    prim_same token (Bracketed' _ (more_of-Expr first form rest)) h = form_same first form (each_left IsSame (form_names values_alone first form) (row_names values_alone rest) h)

    memory_same : (m : Memory) → EachName IsSame (memory_names values_alone m) → memory_type algebra names m ≡ memory_type algebra others m
    memory_same (Memory' width _ address aligned) h =
        ap (λ j. with_both j (operand algebra names address) (load algebra aligned)) (types width)
        ∙ ap (λ k. with_both (type_width others width) k (load algebra aligned)) (operand_same address h)

  pub judged_same : (e : Expr) → EachName IsSame (expr_names values_alone e) → expr_type algebra names e ≡ expr_type algebra others e
  judged_same e h = form_same e.token e.form h
