use Rattle.std.proofs.Common.{ap, subst, sym}
use Rattle.cmm_flow.specs.Statements.{ExitsCode}
use Rattle.cmm_flow.specs.inside.Nodes.{nodes_of_exits}
use Rattle.cmm_flow.specs.inside.Passing.{ExitsLead}
use Rattle.cmm_flow.proofs.Laying.{if_ok, lays_other}
use Rattle.cmm_flow.proofs.Passing.{normal_there}
use Rattle.cmm_flow.proofs.builder.Builder.exits_if_there.Goals as goal

pub returns-in-Some : goal.returns-in-Some
returns-in-Some c =
    let is = sym c.in-Some.ensures.value in let next = c.args.next in
    if_ok c.exits.result (λ exits laid.
    lays_other (λ nodes. ExitsLead nodes _ exits next) laid (ap nodes_of_exits (sym is))
    (λ nodes code. (subst (λ o. ExitsCode nodes o exits next) (sym is) code, normal_there nodes c.in-Some.site.now exits.normal next code.1))) c.exits.ensures
