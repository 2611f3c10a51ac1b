use Rattle.std.proofs.Common.{◌∙◌, ◌∷◌, ◌++◌, [], List, map, ap, sym, take, get_or, arith}
use Rattle.std.proofs.lemmas.List.{take_all}
use Rattle.rv_asm.specs.declared.part.Label.{Label}
use Rattle.cmm_select.proofs.Ranging.{up_to}
use Rattle.cmm_select.proofs.Spans.{labels_more}
use Rattle.cmm_select.specs.declared.span.Span.{Span}
use Rattle.cmm_select.proofs.searching.labels_of.Goals as goal

abbrev none : Span
none = record { from = 0; to = 0; label = record { number = 0 } }

pub loop-span-preserved : goal.loop-span-preserved
loop-span-preserved c =
    let i = c.loop-span.span-index in
    let ss = c.args.spans.now in
    c.in_ok-push.ensures.items ∙ ap (λ (ls : List Label). ls ++ (get_or ss i none).label ∷ []) c.loop-span.invariant ∙ sym (labels_more (take i ss) (get_or ss i none))
    ∙ ap (map (λ (s : Span). s.label)) (sym (up_to ss i none c.loop-span-test.true))

pub returns : goal.returns
returns c =
    let i = c.loop-span.span-index in
    let ss = c.args.spans.now in
    c.loop-span.invariant ∙ ap (map (λ (s : Span). s.label)) (take_all i ss (let past = c.loop-span-test.false in omega (arith, past)))
