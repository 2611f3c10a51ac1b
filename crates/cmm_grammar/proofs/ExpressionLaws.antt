-- What readers say of all of some tokens, used on expressions.
use Rattle.std.proofs.Common.{ℕ, true, refl}
use Rattle.cmm_ast.specs.declared.expression.Expr.{Expr}
use Rattle.cmm_grammar.specs.ExpressionGrammar as grammar
use Rattle.cmm_grammar.specs.inside.Duties.{Complete, Local}
use Rattle.cmm_grammar.specs.ExpressionReading.{whole}
use Rattle.cmm_grammar.specs.ExpressionLaws.{OneExpression, NoneGoesOn, EachIsTooDeep, EachIsRead, WhatIsReadIsOne}
use Rattle.cmm_grammar.proofs.Completes.{follow_complete}
use Rattle.cmm_grammar.proofs.CompleteExpressions.{Begins, whole_complete}
use Rattle.cmm_grammar.proofs.Meets.{is_sound, is_local}
use Rattle.cmm_grammar.proofs.Wholes.{AtEnd, one_tree, none_goes_on_with, each_passes_a_limit, tree_is_read}
use Rattle.cmm_grammar.proofs.MeetsOperands.{whole_expr_meets}

local : (fuel : ℕ) → Local (whole fuel)
local fuel = is_local (whole_expr_meets {first = true} fuel)

-- an expression ends at the end of the tokens
ended_complete : (fuel : ℕ) (e : Expr) → Complete fuel (grammar.whole e) e (whole fuel) Begins AtEnd
ended_complete fuel e = follow_complete (λ x f. f) (λ x f. rw f (record { no_more = refl; no_infix = λ op is. absurd cc })) (whole_complete fuel e)

pub one_expression : OneExpression
one_expression tokens e f is other = one_tree whole grammar.whole ended_complete tokens e f is other

pub none_goes_on : NoneGoesOn
none_goes_on tokens more token e stops less is = none_goes_on_with whole grammar.whole ended_complete local tokens more token e stops less is

pub each_is_too_deep : EachIsTooDeep
each_is_too_deep tokens more token e stops less is = each_passes_a_limit whole grammar.whole ended_complete local tokens more token e stops less is

pub each_is_read : EachIsRead
each_is_read tokens e is fits = tree_is_read whole grammar.whole ended_complete tokens e is fits

pub what_is_read_is_one : WhatIsReadIsOne
what_is_read_is_one fuel p after e read = (is_sound (whole_expr_meets {first = true} fuel)).sound p e after read
