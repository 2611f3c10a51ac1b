-- Words in memory that are assigned to, by their parts.
use Rattle.std.proofs.Common.{◌≡◌, refl, ap, [], ◌++◌}
use Rattle.std.specs.Prelude.{Ok, Err}
use denote.Hole.Carrier as Carrier
use Rattle.cmm_ast.specs.declared.expression.ExprForm.{more_of-Expr, end_of-Expr}
use Rattle.cmm_ast.specs.declared.expression.ExprForm.TheBlock as ExprForms
use Rattle.cmm_ast.specs.declared.expression.Memory.{Memory, Memory', out-Memory}
use Rattle.cmm_program.specs.declared.expression.Expression.{Expression}
use Rattle.cmm_program.specs.declared.expression.Condition.{Condition}
use Rattle.cmm_program.specs.declared.statement.Lvalue.TheVariants as places
use Rattle.cmm_words.specs.declared.width.Width.{Width}
use Rattle.cmm_static_semantics.specs.declared.judged.Typed.{Typed}
use Rattle.cmm_static_semantics.specs.Senses.{Senses}
use Rattle.cmm_static_semantics.specs.Judging.{Judged}
use Rattle.cmm_static_semantics.specs.Mentions.{form_alignments, listed}
use Rattle.cmm_static_semantics.specs.Typing.{alignment, form_type, of_memory, operand_at}
use Rattle.cmm_static_semantics.specs.Algebras.{expressions}
use Rattle.cmm_elaboration.specs.Resolving.{memory_place, operand_in, value_in, value_of, width_at}
use Rattle.cmm_typing.specs.Resolved.{AlignmentsFit}
use Rattle.cmm_typing.proofs.Shared.{IsSmall, all_left, all_right, alignment_kept}
use Rattle.cmm_lower_parts.specs.Held.{held}

operand_value : (token : _) (j : Judged (Typed Expression Condition)) → operand_in (operand_at expressions token j) ≡ value_in j
operand_value token (Ok t) = refl
operand_value token (Err broken) = refl

pub memory_parts : (names : Senses) (m : Memory) →
    memory_place names m ≡ places.Memory (width_at names (out-Memory m).width) (alignment (width_at names (out-Memory m).width) (out-Memory m).aligned) (value_of names (out-Memory m).address)
unfolding ExprForms.hidden-the_row-Expr-0 Carrier.hidden out-Memory Carrier.out ExprForms.shown-the_row-Expr-0 Carrier.shown
memory_parts names (Memory' width _ (more_of-Expr token form end_of-Expr) aligned) =
    ap (places.Memory (width_at names width) (alignment (width_at names width) aligned)) (operand_value token (form_type expressions names token form))

pub address_fits : (m : Memory) → AlignmentsFit (of_memory 0 m) → AlignmentsFit (out-Memory m).address
unfolding ExprForms.hidden-the_row-Expr-0 Carrier.hidden out-Memory Carrier.out ExprForms.shown-the_row-Expr-0 Carrier.shown
address_fits (Memory' width _ (more_of-Expr token form end_of-Expr) aligned) fits =
    all_left IsSmall (form_alignments form) [] (all_left IsSmall (form_alignments form ++ []) (listed aligned) fits)

pub alignment_fits : (m : Memory) (width : Width) → AlignmentsFit (of_memory 0 m) → held (alignment width (out-Memory m).aligned) ≡ alignment width (out-Memory m).aligned
unfolding ExprForms.hidden-the_row-Expr-0 Carrier.hidden out-Memory Carrier.out ExprForms.shown-the_row-Expr-0 Carrier.shown
alignment_fits (Memory' _ _ (more_of-Expr token form end_of-Expr) aligned) width fits =
    alignment_kept aligned (all_right IsSmall (form_alignments form ++ []) (listed aligned) fits) width
