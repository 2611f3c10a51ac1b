use Rattle.std.proofs.Common.{ap, ◌∙◌, ◌++◌, map, take}
use Rattle.std.specs.Prelude.{flat_map}
use Rattle.std.proofs.lemmas.List.{map-append, take_all}
use Rattle.cmm_elaboration.specs.Data.{item_datums}
use Rattle.cmm_symbols.specs.Shown.{thing_item}
use Rattle.cmm_static_semantics.proofs.Shared.{flat_next, grown}
use Rattle.cmm_lower_parts.specs.Held.{datum_held}
use Rattle.cmm_lower_parts.proofs.Holding.{datums_same}
use Rattle.cmm_lower_parts.proofs.data.add_datums.Goals as goal

pub loop-thing-preserved : goal.loop-thing-preserved
loop-thing-preserved g c =
    let n = g.N.Names.senses c.args.names.now in let xs = c.args.things.now in let i = c.loop-thing.thing-index in let x = c.thing-item.result in
    let so_far = flat_map (item_datums n) (map thing_item (take i xs)) in
    grown c.loop-thing.to c.args.to.now (map datum_held so_far) (map datum_held (item_datums n (thing_item x))) c.in_ok-add_thing.ensures c.loop-thing.invariant
    (ap (map datum_held) (flat_next thing_item (item_datums n) xs i x c.loop-thing-test.true c.thing-item.is) ∙ map-append datum_held so_far (item_datums n (thing_item x)))

pub returns-clause-fitting : goal.returns-clause-fitting
returns-clause-fitting g c = λ fit.
    let n = g.N.Names.senses c.args.names.now in let things = c.args.things.now in
    c.loop-thing.invariant
    ∙ ap (λ xs. c.args.to.now ++ map datum_held (flat_map (item_datums n) (map thing_item xs))) (take_all c.loop-thing.thing-index things c.loop-thing-test.false)
    ∙ ap (λ ds. c.args.to.now ++ ds) (datums_same (flat_map (item_datums n) (map thing_item things)) fit)
