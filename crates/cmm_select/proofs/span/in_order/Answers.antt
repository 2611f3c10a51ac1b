use Rattle.std.proofs.Common.{◌≡◌, ◌∙◌, false, ap, sym, rules}
use Rattle.std.proofs.lemmas.List.Sorted.{IsNonDecreasingBy-from_sort_by_key}
use Rattle.std.specs.List.Sorted.{IsNonDecreasingBy, IsPermutation}
use Rattle.cmm_select.proofs.Spans.{not_apart}
use Rattle.cmm_select.specs.inside.Searches.{ascend}
use Rattle.cmm_select.specs.declared.span.Span.{Span}
use Rattle.cmm_select.proofs.span.in_order.Goals as goal

pub returns-then-not-ascend-clause-none : goal.returns-then-not-ascend-clause-none
returns-then-not-ascend-clause-none c =
    let ordered = c.sort_by_key.new.self.items in
    let same : IsPermutation c.args.spans.now ordered = search rules in
    let up : IsNonDecreasingBy (λ (s : Span). s.from) ordered = IsNonDecreasingBy-from_sort_by_key (λ (s : Span). s.from) _ c.in_ok-sort_by_key.ensures.sorted (λ a r q k. search rules) in
    let falls : ascend 0 ordered ≡ false = ap (ascend 0) (sym c.deref.ensures.value) ∙ sym c.ascend.ensures ∙ c.if-not-ascend.true in
    not_apart c.args.spans.now ordered same up falls
