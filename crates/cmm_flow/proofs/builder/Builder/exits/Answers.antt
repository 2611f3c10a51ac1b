use Rattle.std.proofs.Common.{Some, refl}
use Rattle.cmm_graph.specs.declared.node.Exits.{Exits}
use Rattle.cmm_flow.specs.Statements.{ExitsCode}
use Rattle.cmm_flow.proofs.Laying.{lays_other}
use Rattle.cmm_flow.proofs.Passing.{numbers_back}
use Rattle.cmm_flow.proofs.builder.Builder.exits.Goals as goal

pub returns : goal.returns
returns c =
    let site = c.args.site.now in
    let exits : Exits =
    record { normal = c.in_ok-normal.normal; returns = c.in_ok-returns.returns; unwinds = c.in_ok-unwinds.unwinds; cuts = c.in_ok-cuts.cuts } in
    lays_other (λ nodes. ExitsCode nodes (Some site) exits c.args.next) c.in_ok-normal.ensures refl (λ nodes is. (
      record {
        returns = numbers_back c.in_ok-returns.returns c.as_slice.result.now site.returns c.in_ok-returns.ensures c.as_slice.ensures;
        unwinds = numbers_back c.in_ok-unwinds.unwinds c.as_slice-2.result.now site.unwinds c.in_ok-unwinds.ensures c.as_slice-2.ensures;
        cuts = numbers_back c.in_ok-cuts.cuts c.as_slice-3.result.now site.cuts c.in_ok-cuts.ensures c.as_slice-3.ensures;
      },
      is,
    ))
