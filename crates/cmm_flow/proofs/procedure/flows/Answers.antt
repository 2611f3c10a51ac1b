use Rattle.std.proofs.Common.{◌+◌, ◌∙◌, sym, subst, take, arith}
use Rattle.std.proofs.lemmas.List.{take_all}
use Rattle.std.specs.List.{AllZip}
use Rattle.cmm_flow.specs.Flow.{IsFlow}
use Rattle.cmm_flow.proofs.Graphs.{bounded_given, covered_given, graphs_given}
use Rattle.cmm_flow.proofs.RangesCovering.{flows_given, zip_more}
use Rattle.cmm_flow.proofs.procedure.flows.Goals as goal

pub loop-q-preserved : goal.loop-q-preserved
loop-q-preserved c =
    let qs = c.as_slice-procs.result.now in
    let i = c.loop-q.q-index in
    subst (AllZip IsFlow (take (i + 1) qs)) (sym c.in_ok-push.ensures.ok)
    (zip_more IsFlow qs c.loop-q.graphs i c.q-item.result c.in_ok-flow.field-0 c.loop-q-test.true c.q-item.is c.loop-q.invariant c.in_ok-flow.ensures)

pub returns : goal.returns
returns c =
    let qs = c.as_slice-procs.result.now in
    let whole = take_all c.loop-q.q-index qs (omega (arith, c.loop-q-test.false)) in
    let are = subst (λ qs. AllZip IsFlow qs c.loop-q.graphs) (whole ∙ c.as_slice-procs.ensures) c.loop-q.invariant in
    let p = c.args.program.now in
    let graphs = c.loop-q.graphs in
    record {
      each = are;
      are_graphs = λ range. graphs_given p graphs are range;
      are_bounded = λ range. bounded_given p graphs are range;
      are_covered = λ range. covered_given p graphs are range;
      are_flows = λ s same range. flows_given p graphs are s same range;
    }
