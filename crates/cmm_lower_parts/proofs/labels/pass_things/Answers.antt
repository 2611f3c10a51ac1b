use Rattle.std.proofs.Common.{sym, subst, [], ◌∷◌, map, take}
use Rattle.cmm_symbols.specs.Shown.{alone}
use Rattle.cmm_static_semantics.proofs.Shared.{mapped_next}
use Rattle.cmm_lower_parts.specs.inside.Passing.{Passes}
use Rattle.cmm_lower_parts.proofs.Passing.{passes_then, passes_none}
use Rattle.cmm_lower_parts.proofs.labels.pass_things.Goals as goal

pub loop-thing-init : goal.loop-thing-init
loop-thing-init c = passes_none (map (λ e. e.now) c.args.links.now.exports.now) c.args.first c.args.to.now

pub loop-thing-preserved : goal.loop-thing-preserved
loop-thing-preserved c =
    let es = map (λ e. e.now) c.args.links.now.exports.now in
    let xs = c.args.things.now in let i = c.loop-thing.thing-index in let x = c.thing-item.result in
    subst (λ is. Passes es is c.args.first c.in_ok-passed.passed c.args.to.now c.pass_thing.new.to) (sym (mapped_next alone xs i x c.loop-thing-test.true c.thing-item.is))
    (passes_then es (map alone (take i xs)) (alone x ∷ []) c.args.first c.loop-thing.passed c.in_ok-passed.passed c.args.to.now c.loop-thing.to c.pass_thing.new.to
    c.loop-thing.invariant c.in_ok-passed.ensures)
