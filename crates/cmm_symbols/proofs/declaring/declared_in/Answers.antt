use Rattle.std.proofs.Common.{map}
use Rattle.cmm_static_semantics.specs.Declarations.{entries_from}
use Rattle.cmm_symbols.specs.Shown.{alone, shown}
use Rattle.cmm_symbols.proofs.Numbered.{declared_next}
use Rattle.cmm_symbols.proofs.declaring.declared_in.Goals as goal

pub loop-thing-preserved : goal.loop-thing-preserved
loop-thing-preserved c =
    let ts = c.args.things.now in
    let ns = c.loop-thing.numbers in
    let next = c.in_ok-numbers.numbers in
    declared_next (map shown c.loop-thing.declared) (map shown c.add_thing.new.to) (entries_from c.args.first.procedures c.args.first.labels (map alone ts))
    ns.procedures ns.labels next.procedures next.labels ts c.loop-thing.thing-index c.thing-item.result
    c.loop-thing-test.true c.thing-item.is c.in_ok-add_thing.ensures c.in_ok-numbers.ensures.procedures c.in_ok-numbers.ensures.labels c.loop-thing.invariant
