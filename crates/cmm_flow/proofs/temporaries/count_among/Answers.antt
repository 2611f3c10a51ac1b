use Rattle.std.proofs.Common.{arith, subst}
use Rattle.std.proofs.lemmas.List.{take_all}
use Rattle.cmm_flow.specs.inside.Temporaries.{IsLeast, is_below}
use Rattle.cmm_flow.proofs.Least.{least_more, least_of_none}
use Rattle.cmm_flow.proofs.temporaries.count_among.Goals as goal

pub loop-local-init : goal.loop-local-init
loop-local-init c = least_of_none is_below

pub loop-local-preserved : goal.loop-local-preserved
loop-local-preserved c =
    least_more is_below c.args.locals.now c.loop-local.local-index _ c.loop-local.count c.in_ok-count_of.field-0 c.max-count.result c.loop-local-test.true
    c.loop-local.invariant c.in_ok-count_of.ensures c.max-count.ensures

pub returns : goal.returns
returns c =
    subst (λ xs. IsLeast is_below xs c.loop-local.count) (take_all c.loop-local.local-index c.args.locals.now (omega (arith, c.loop-local-test.false))) c.loop-local.invariant
