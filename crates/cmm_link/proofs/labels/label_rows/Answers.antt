use Rattle.std.proofs.Common.{◌≡◌, ◌≤◌, None, All, List, length, subst, sym, ap, arith}
use Rattle.std.proofs.lemmas.List.Sorted.{All-permutation, length_permutation}
use Rattle.std.proofs.lemmas.Result.{IfOk-weaker}
use Rattle.cmm_image.specs.declared.rows.LabelRow.{LabelRow}
use Rattle.cmm_link.specs.Labels.{AreLabelsOf, exports_at}
use Rattle.cmm_link.specs.inside.Kept.{kept_after}
use Rattle.cmm_link.specs.inside.Named.{IsNamedLabel}
use Rattle.cmm_link.proofs.FirstLabels.{labels_of_sorted}
use Rattle.cmm_link.proofs.KeptLabels.{kept_all, kept_few}
use Rattle.cmm_link.proofs.labels.label_rows.Goals as goal

pub returns-clause-rows : goal.returns-clause-rows
returns-clause-rows c =
    let sorted = c.sort_by_name.new.rows.items in
    let are = labels_of_sorted c.in_ok-rows.rows.items sorted c.sort_by_name.ensures.same c.in_ok-sort_by_name.ensures.stable c.in_ok-sort_by_name.ensures.sorted in
    let exported = exports_at c.args.labels.now c.args.addresses.now in
    let of_program : AreLabelsOf exported (kept_after None sorted) = subst (λ (rows : List LabelRow). AreLabelsOf rows (kept_after None sorted)) c.in_ok-rows.ensures.rows are in
    IfOk-weaker c.each_once.result (λ kept. kept ≡ kept_after None sorted) (AreLabelsOf exported) (λ kept same. subst (AreLabelsOf exported) (sym same) of_program) c.each_once.ensures

pub returns-clause-named : goal.returns-clause-named
returns-clause-named c =
    let sorted = c.sort_by_name.new.rows.items in
    let named = All-permutation IsNamedLabel c.in_ok-rows.rows.items sorted c.sort_by_name.ensures.same c.in_ok-rows.ensures.named in
    IfOk-weaker c.each_once.result (λ kept. kept ≡ kept_after None sorted) (All IsNamedLabel)
    (λ kept same. subst (All IsNamedLabel) (sym same) (kept_all IsNamedLabel None sorted named)) c.each_once.ensures

pub returns-clause-few : goal.returns-clause-few
returns-clause-few c =
    let sorted = c.sort_by_name.new.rows.items in
    let exported = exports_at c.args.labels.now c.args.addresses.now in
    let as_many = length_permutation c.in_ok-rows.rows.items sorted c.sort_by_name.ensures.same in
    let count : length c.in_ok-rows.rows.items ≡ length exported = ap (λ (rows : List LabelRow). length rows) c.in_ok-rows.ensures.rows in
    let few : length (kept_after None sorted) ≤ length exported = omega (arith, kept_few None sorted, as_many, count) in
    IfOk-weaker c.each_once.result (λ kept. kept ≡ kept_after None sorted) (λ kept. length kept ≤ length exported)
    (λ kept same. subst (λ (kept : List LabelRow). length kept ≤ length exported) (sym same) few) c.each_once.ensures
