-- Where alignments are numbers of 32 bits, an expression is resolved to that of a program.
use mathlib.Core.Former.{one_more}
use Rattle.std.proofs.Common.{◌≡◌, refl, ap, ◌∙◌, subst, ℕ, List, [], ◌∷◌, ◌++◌, ◌+◌, ◌-◌, ◌^◌, ◌<◌, length, min, Option, Some, None, arith}
use Rattle.std.specs.Prelude.{Result, IfOk, Ok, Err, option_map}
use Rattle.std.specs.List.{All}
use Rattle.std.proofs.lemmas.List.{length-append, get_or_append_left, get_or-append-add}
use Rattle.cmm_words.specs.declared.width.Width.{Width}
use Rattle.cmm_words.specs.declared.width.Width.TheVariants.{W8, W16, W32, W64}
use Rattle.cmm_ast.specs.declared.token.Int.{Int}
use Rattle.cmm_ast.specs.declared.expression.Expr.{Expr}
use Rattle.cmm_ast.specs.declared.expression.ExprForm.{ExprForm, Row_of-Expr, end_of-Expr, more_of-Expr}
use Rattle.cmm_ast.specs.declared.expression.ExprForm.TheVariants.{Infix', Prefix', Prim, Memory as InMemory, Named'}
use Rattle.cmm_ast.specs.declared.expression.PrimForm.{PrimForm}
use Rattle.cmm_ast.specs.declared.expression.PrimForm.TheVariants.{Literal, Name as NameOf, Bracketed'}
use Rattle.cmm_ast.specs.declared.expression.Memory.{Memory, Memory'}
use Rattle.cmm_program.specs.declared.expression.Expression.{Expression}
use Rattle.cmm_program.specs.declared.expression.Expression.TheVariants.{Load}
use Rattle.cmm_program.specs.declared.expression.Condition.{Condition}
use Rattle.cmm_static_semantics.specs.declared.judged.Typed.{Typed}
use Rattle.cmm_static_semantics.specs.declared.judged.Typed.TheVariants as typed
use Rattle.cmm_static_semantics.specs.declared.judged.Operand.{Operand}
use Rattle.cmm_static_semantics.specs.declared.judged.Operands.{Operands}
use Rattle.cmm_static_semantics.specs.declared.judged.Operands.TheVariants as operands
use Rattle.cmm_static_semantics.specs.Senses.{Senses}
use Rattle.cmm_static_semantics.specs.Operators.{infix_operator, prefix_operator, operator_named}
use Rattle.cmm_static_semantics.specs.Algebras.{expressions}
use Rattle.cmm_static_semantics.specs.Judging.{Judged, with_ok, with_both, as_wanted}
use Rattle.cmm_static_semantics.specs.Mentions.{form_alignments, row_alignments, prim_alignments, memory_alignments, listed}
use Rattle.cmm_static_semantics.specs.Typing as typing
use Rattle.cmm_typing.specs.Resolved.{resolved, AlignmentsFit}

-- ---- lists of which each element is something

pub all_left : {A : Type 0} (P : A → Type 0) (xs ys : List A) → All P (xs ++ ys) → All P xs
all_left P xs ys all k d inside = subst P (get_or_append_left xs ys d k inside) (all k d (omega (arith, inside, length-append xs ys)))

pub all_right : {A : Type 0} (P : A → Type 0) (xs ys : List A) → All P (xs ++ ys) → All P ys
all_right P xs ys all k d inside = subst P (get_or-append-add xs ys k d) (all (length xs + k) d (omega (arith, inside, length-append xs ys)))

-- ---- words in memory

abbrev pub IsSmall : Int → Type 0
IsSmall k = k.value < 2 ^ 32

kept : (n : ℕ) → n < 2 ^ 32 → min n (2 ^ 32 - 1) ≡ n
kept n small = grind (arith, small)

pub alignment_kept : (aligned : Option Int) → All IsSmall (listed aligned) → (width : Width) → min (typing.alignment width aligned) (2 ^ 32 - 1) ≡ typing.alignment width aligned
alignment_kept (Some k) fits width = kept k.value (fits 0 k (omega arith))
alignment_kept None fits W8 = refl
alignment_kept None fits W16 = refl
alignment_kept None fits W32 = refl
alignment_kept None fits W64 = refl

-- the word at an address that is aligned to n bytes
abbrev word_at : Width → Operand Expression Condition → ℕ → Judged (Typed Expression Condition)
word_at width o aligned = with_ok (as_wanted (Some W64) o.token o.typed) (λ a. Ok (typed.Bits record { width = width; value = option_map (Load width aligned) a.value }))

load_same : (aligned : Option Int) → All IsSmall (listed aligned) → (width : Width) (o : Operand Expression Condition) →
    typing.load resolved aligned width o ≡ typing.load expressions aligned width o
load_same aligned fits width o = ap (word_at width o) (alignment_kept aligned fits width)

both_same : {A B D : Type 0} (j : Judged A) (k : Judged B) (next after : A → B → Judged D) → ((a : A) (b : B) → next a b ≡ after a b) → with_both j k next ≡ with_both j k after
both_same (Ok a) (Ok b) next after same = same a b
both_same (Ok a) (Err s) next after same = refl
both_same (Err s) (Ok b) next after same = refl
both_same (Err s) (Err t) next after same = refl

-- ---- expressions

module _ (names : Senses) where
  mutual
    form_same : (token : ℕ) (form : ExprForm) → All IsSmall (form_alignments form) → typing.form_type resolved names token form ≡ typing.form_type expressions names token form
    form_same token (Infix' _ left operator _ right) fits =
        ap (λ j. with_both j (typing.operand resolved names right) (typing.applied_to_two expressions (infix_operator operator) token))
        (operand_same left (all_left IsSmall (row_alignments left) (row_alignments right) fits))
        ∙ ap (λ k. with_both (typing.operand expressions names left) k (typing.applied_to_two expressions (infix_operator operator) token))
        (operand_same right (all_right IsSmall (row_alignments left) (row_alignments right) fits))
    form_same token (Prefix' operator _ a) fits = ap (λ j. with_ok j (typing.applied_to_one expressions (prefix_operator operator) token)) (operand_same a fits)
    form_same token (Prim prim) fits = prim_same token prim fits
    form_same token (InMemory m) fits = memory_same m fits
    form_same token (Named' operator _ given) fits = ap (λ j. with_ok j (typing.applied expressions token (operator_named operator))) (given_same (Ok operands.Zero) given fits)

    operand_same : {n : _} (row : Row_of-Expr (one_more n)) → All IsSmall (row_alignments row) → typing.operand resolved names row ≡ typing.operand expressions names row
    operand_same (more_of-Expr token form rest) fits =
        ap (typing.operand_at expressions token) (form_same token form (all_left IsSmall (form_alignments form) (row_alignments rest) fits))

    given_same : {n : _} (before : Judged (Operands Expression Condition)) (row : Row_of-Expr n) → All IsSmall (row_alignments row) →
        typing.given_operands resolved names before row ≡ typing.given_operands expressions names before row
    given_same before end_of-Expr fits = refl
    given_same before (more_of-Expr token form rest) fits =
        ap (λ j. typing.given_operands resolved names (typing.with_operand expressions before (typing.operand_at expressions token j)) rest)
        (form_same token form (all_left IsSmall (form_alignments form) (row_alignments rest) fits))
        ∙ given_same (typing.with_operand expressions before (typing.operand_at expressions token (typing.form_type expressions names token form))) rest
        (all_right IsSmall (form_alignments form) (row_alignments rest) fits)

    prim_same : (token : ℕ) (prim : PrimForm) → All IsSmall (prim_alignments prim) → typing.prim_type resolved names token prim ≡ typing.prim_type expressions names token prim
    prim_same token (Literal n t) fits = refl
    prim_same token (NameOf name) fits = refl
    prim_same token (Bracketed' _ (more_of-Expr first form rest)) fits = form_same first form (all_left IsSmall (form_alignments form) (row_alignments rest) fits)

    memory_same : (m : Memory) → All IsSmall (memory_alignments m) → typing.memory_type resolved names m ≡ typing.memory_type expressions names m
    memory_same (Memory' width _ address aligned) fits =
        ap (λ k. with_both (typing.type_width names width) k (typing.load resolved aligned)) (operand_same address (all_left IsSmall (row_alignments address) (listed aligned) fits))
        ∙ both_same (typing.type_width names width) (typing.operand expressions names address) (typing.load resolved aligned) (typing.load expressions aligned)
        (load_same aligned (all_right IsSmall (row_alignments address) (listed aligned) fits))

  pub in_program : {F : Type 0} (r : Result (Judged (Typed Expression Condition)) F) (e : Expr) → IfOk r (λ j. j ≡ typing.expr_type resolved names e) →
      AlignmentsFit e → IfOk r (λ j. j ≡ typing.expr_type expressions names e)
  in_program r e given fits = subst (λ y. IfOk r (λ j. j ≡ y)) (form_same e.token e.form fits) given
