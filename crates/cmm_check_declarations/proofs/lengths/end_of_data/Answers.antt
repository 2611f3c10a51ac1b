use Rattle.std.proofs.Common.{ℕ, Option, map, subst, sym, arith}
use Rattle.cmm_symbols.specs.Shown.{thing_item}
use Rattle.cmm_check_declarations.specs.DataEnds.{IsEnd, data_of}
use Rattle.cmm_check_declarations.proofs.Ends.{data_grows, some_next, none_next}
use Rattle.cmm_check_declarations.proofs.lengths.end_of_data.Goals as goal

pub returns-then-place-gt-DATA_LIMIT : goal.returns-then-place-gt-DATA_LIMIT
returns-then-place-gt-DATA_LIMIT g c = λ all.
    omega (arith, data_grows (g.N.Names.senses c.args.names.now) c.args.place (map thing_item c.args.things.now), all)

pub returns-in_err-end : goal.returns-in_err-end
returns-in_err-end g c =
    let names = g.N.Names.senses c.args.names.now in
    let things = c.args.things.now in
    let past = none_next thing_item names c.args.place things c.loop-thing.thing-index c.thing-item.result c.loop-thing-test.true c.thing-item.is
    c.loop-thing.end c.loop-thing.invariant.so_far c.after_thing.result c.in_err-end.was c.after_thing.ensures
    in subst (λ (end : Option ℕ). IsEnd c.args.place (data_of names (map thing_item things)) end) (sym c.from_residual.ensures) past

pub loop-thing-preserved : goal.loop-thing-preserved
loop-thing-preserved g c =
    let next = some_next thing_item (g.N.Names.senses c.args.names.now) c.args.place c.args.things.now c.loop-thing.thing-index c.thing-item.result c.loop-thing-test.true c.thing-item.is
    c.loop-thing.end c.loop-thing.invariant.so_far c.after_thing.result c.in_ok-end.end c.in_ok-end.was c.after_thing.ensures
    in record { so_far = next.0; within = next.1 }
