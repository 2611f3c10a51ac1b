use Rattle.std.proofs.Common.{true, ◌≡◌, replicate, sym, subst}
use Rattle.cmm_live.specs.inside.Worklists.{IsList}
use Rattle.cmm_live.proofs.Worklists.{list_of_all, placed_more, placed_all}
use Rattle.cmm_live.proofs.worklist.Worklist.of_all.Goals as goal

pub loop-index-preserved : goal.loop-index-preserved
loop-index-preserved c =
    let next = placed_more c.args.last_first c.args.count c.loop-index.index c.nth.result c.loop-index.nodes.items c.push.new.self.items
    c.loop-index-test.true c.nth.ensures c.in_ok-push.ensures.items c.loop-index.invariant.within c.loop-index.invariant.placed in
    record { within = next.0; placed = next.1 }

pub returns : goal.returns
returns c =
    let waits : c.in_ok-waits.waits.items ≡ replicate c.args.count true = c.in_ok-waits.ensures.items_if_clones_equal (λ y e. e) in (
      subst (IsList c.loop-index.nodes.items) (sym waits) (list_of_all c.args.count c.loop-index.nodes.items c.loop-index.invariant.within
          (placed_all c.args.last_first c.args.count c.loop-index.index c.loop-index.nodes.items c.loop-index-test.false c.loop-index.invariant.placed)),
      waits,
    )
