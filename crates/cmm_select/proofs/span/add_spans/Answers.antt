use Rattle.std.proofs.Common.{◌∙◌, ◌∷◌, ◌++◌, [], List, ap, sym, take, get_or, append_assoc, arith}
use Rattle.std.proofs.lemmas.List.{take_all}
use Rattle.cmm_program.specs.declared.statement.Range.{Range}
use Rattle.cmm_select.proofs.Ranging.{up_to}
use Rattle.cmm_select.proofs.Spans.{nothing_behind, spans_in_more}
use Rattle.cmm_select.specs.inside.Searches.{span_of, spans_in}
use Rattle.cmm_select.specs.declared.span.Span.{Span}
use Rattle.cmm_select.proofs.span.add_spans.Goals as goal

abbrev none : Range
none = record { from = 0; to = 0 }

pub loop-range-init : goal.loop-range-init
loop-range-init c = sym (nothing_behind c.args.spans.now.items)

pub loop-range-preserved : goal.loop-range-preserved
loop-range-preserved c =
    let i = c.loop-range.range-index in
    let rs = c.args.ranges.now in
    let l = c.args.label in
    let old = c.args.spans.now.items in
    let r = get_or rs i none in
    c.in_ok-push.ensures.items ∙ ap (λ (ss : List Span). ss ++ span_of l r ∷ []) c.loop-range.invariant ∙ append_assoc old (spans_in l (take i rs)) (span_of l r ∷ [])
    ∙ ap (λ (ss : List Span). old ++ ss) (sym (spans_in_more l (take i rs) r) ∙ ap (spans_in l) (sym (up_to rs i none c.loop-range-test.true)))

pub returns : goal.returns
returns c =
    let i = c.loop-range.range-index in
    let rs = c.args.ranges.now in
    c.loop-range.invariant ∙ ap (λ (qs : List Range). c.args.spans.now.items ++ spans_in c.args.label qs) (take_all i rs (let past = c.loop-range-test.false in omega (arith, past)))
