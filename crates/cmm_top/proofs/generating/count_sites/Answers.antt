use Rattle.std.proofs.Common.{◌≡◌, List, length, get_or, ap, ◌∙◌, arith}
use Rattle.std.specs.Prelude.{sum_by}
use Rattle.std.proofs.lemmas.List.Sums.{sum_by_more, sum_by_more_le}
use Rattle.cmm_program.specs.declared.procedure.Proc.{Proc}
use Rattle.cmm_top.specs.Counts.{site_count}
use Rattle.cmm_top.proofs.generating.count_sites.Goals as goal

pub overflow_add-count : goal.overflow_add-count
overflow_add-count c =
    let items = c.as_slice-procedure-items.result.now in
    let k = c.loop-procedure.procedure-index in
    let sites = λ (q : Proc). length q.sites in
    let here : c.len.result ≡ sites (get_or items k c.procedure-item.result) = c.len.ensures ∙ ap sites c.procedure-item.is in
    let more = sum_by_more_le sites items k c.procedure-item.result c.loop-procedure-test.true in
    let all : sum_by sites items ≡ site_count c.args.program.now = ap (λ (qs : List Proc). sum_by sites qs) c.loop-procedure.invariant.1 in
    omega (arith, here, more, all, c.loop-procedure.invariant.0)

pub loop-procedure-preserved : goal.loop-procedure-preserved
loop-procedure-preserved c =
    let items = c.as_slice-procedure-items.result.now in
    let k = c.loop-procedure.procedure-index in
    let sites = λ (q : Proc). length q.sites in
    let here : c.len.result ≡ sites (get_or items k c.procedure-item.result) = c.len.ensures ∙ ap sites c.procedure-item.is in
    let more = sum_by_more sites items k c.procedure-item.result c.loop-procedure-test.true in
    (omega (arith, here, more, c.loop-procedure.invariant.0), c.loop-procedure.invariant.1)
