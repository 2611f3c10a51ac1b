use Rattle.std.proofs.Common.{List, ◌∙◌, sym, ap, arith}
use Rattle.std.proofs.lemmas.List.{drop_all}
use Rattle.cmm_image.specs.declared.rows.VariablePlace.{VariablePlace}
use Rattle.cmm_image.proofs.LiveLaws.{behind_all, or_behind}
use Rattle.cmm_image.proofs.live.add_places.Goals as goal

pub returns : goal.returns
returns c =
    let n = c.loop-number.number in
    let done = drop_all n c.args.at_site.now (omega (arith, c.loop-number-test.false)) in
    sym (behind_all n c.loop-number.places.items) ∙ ap (λ (ps : List VariablePlace). or_behind n c.loop-number.places.items ps) (sym done) ∙ c.loop-number.invariant.0
