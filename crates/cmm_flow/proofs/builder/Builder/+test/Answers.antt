use Rattle.std.proofs.Common.{◌++◌, ap, ◌∙◌, subst, sym}
use Rattle.cmm_flow.specs.Code.{TestCode}
use Rattle.cmm_flow.specs.inside.Nodes.{nodes_of_test}
use Rattle.cmm_flow.proofs.Begins.{on_two, test_begins, the_two, two_steps}
use Rattle.cmm_flow.proofs.Laying.{lays_after, lays_as, led_by}
use Rattle.cmm_flow.proofs.ExpressionForms.{test_of_not, test_of_both, test_of_either}
use Rattle.cmm_flow.proofs.ExpressionsStay.{test_stays}
use Rattle.cmm_flow.proofs.NodeLists.{nodes_of_both, nodes_of_either, nodes_of_not}
use Rattle.cmm_flow.proofs.builder.Builder.+test.Goals as goal

pub returns-in-Not : goal.returns-in-Not
returns-in-Not t c =
    led_by _ _ _ _ _ _ _ _ c.test.result
    (lays_as _ _ _ _ _ _ _ _ _ c.test.result c.test.ensures
    (ap nodes_of_test c.get-in-Not.ensures ∙ nodes_of_not c.in-Not.inner ∙ sym (ap nodes_of_test c.in-Not.is))
    (λ n nodes is.
    subst (λ a. TestCode nodes a n c.args.then c.args.otherwise) (sym c.in-Not.is)
    (test_of_not nodes n c.args.then c.args.otherwise c.in-Not.inner (subst (λ a. TestCode nodes a n c.args.otherwise c.args.then) c.get-in-Not.ensures is))))
    (λ g steps. let both = the_two g c.args.then c.args.otherwise steps in two_steps g c.args.otherwise c.args.then both.1 both.0)

pub returns-in_ok-second-in-Both : goal.returns-in_ok-second-in-Both
returns-in_ok-second-in-Both t c =
    let left = c.in-Both.left in let right = c.in-Both.right in let second = c.in_ok-second-in-Both.second in
    lays_after _ _ _ _ _ _ _ _ c.test-in-Both-2.result c.in_ok-second-in-Both.ensures
    (λ nodes more. test_stays nodes more c.get-in-Both.result.now second c.args.then c.args.otherwise) c.test-in-Both-2.ensures
    (ap (λ a. nodes_of_test a ++ nodes_of_test c.get-in-Both.result.now) c.get-in-Both-2.ensures ∙ ap (λ a. nodes_of_test left ++ nodes_of_test a) c.get-in-Both.ensures
    ∙ nodes_of_both left right ∙ sym (ap nodes_of_test c.in-Both.is))
    (λ g is steps normal. on_two g second c.args.otherwise (test_begins g c.get-in-Both.result.now second c.args.then c.args.otherwise is)
    (the_two g c.args.then c.args.otherwise steps).1)
    (λ n nodes later first. subst (λ a. TestCode nodes a n c.args.then c.args.otherwise) (sym c.in-Both.is)
    (test_of_both nodes n c.args.then c.args.otherwise left right second
    (subst (λ a. TestCode nodes a second c.args.then c.args.otherwise) c.get-in-Both.ensures later)
    (subst (λ a. TestCode nodes a n second c.args.otherwise) c.get-in-Both-2.ensures first)))

pub returns-in_ok-second-in-Either : goal.returns-in_ok-second-in-Either
returns-in_ok-second-in-Either t c =
    let left = c.in-Either.left in let right = c.in-Either.right in let second = c.in_ok-second-in-Either.second in
    lays_after _ _ _ _ _ _ _ _ c.test-in-Either-2.result c.in_ok-second-in-Either.ensures
    (λ nodes more. test_stays nodes more c.get-in-Either.result.now second c.args.then c.args.otherwise) c.test-in-Either-2.ensures
    (ap (λ a. nodes_of_test a ++ nodes_of_test c.get-in-Either.result.now) c.get-in-Either-2.ensures ∙ ap (λ a. nodes_of_test left ++ nodes_of_test a) c.get-in-Either.ensures
    ∙ nodes_of_either left right ∙ sym (ap nodes_of_test c.in-Either.is))
    (λ g is steps normal. on_two g c.args.then second (the_two g c.args.then c.args.otherwise steps).0
    (test_begins g c.get-in-Either.result.now second c.args.then c.args.otherwise is))
    (λ n nodes later first. subst (λ a. TestCode nodes a n c.args.then c.args.otherwise) (sym c.in-Either.is)
    (test_of_either nodes n c.args.then c.args.otherwise left right second
    (subst (λ a. TestCode nodes a second c.args.then c.args.otherwise) c.get-in-Either.ensures later)
    (subst (λ a. TestCode nodes a n c.args.then second) c.get-in-Either-2.ensures first)))
