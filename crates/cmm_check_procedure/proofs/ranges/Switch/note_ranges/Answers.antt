use Rattle.std.proofs.Common.{◌+◌, ◌∷◌, sym, subst, take}
use Rattle.std.specs.Prelude.{option_map}
use Rattle.std.proofs.lemmas.List.{take_all}
use Rattle.cmm_static_semantics.proofs.Shared.{taken}
use Rattle.cmm_static_semantics.specs.Switches.{range_extent, range_spots, ranges_spots, with_extents}
use Rattle.cmm_check_procedure.specs.Extents.{shown}
use Rattle.cmm_check_procedure.specs.inside.Earlier.{AreEarlier}
use Rattle.cmm_check_procedure.proofs.Switched.{ranges_walk}
use Rattle.cmm_check_procedure.proofs.Walks.{walked, moved_on}
use Rattle.cmm_check_procedure.proofs.ranges.Switch.note_ranges.Goals as goal

pub loop-range-preserved : goal.loop-range-preserved
loop-range-preserved g c earlier told =
    let names = g.N.Names.senses c.args.self.now.names.now in let width = c.args.self.now.width in
    let all = option_map shown c.args.self.now.whole in
    let i = c.loop-range.range-index in let xs = c.args.ranges.now in let x = c.range-item.result in
    let p = c.loop-range.invariant earlier told in
    let so_far = with_extents names width (take i xs) earlier in
    let grown = taken xs i x c.loop-range-test.true c.range-item.is in (
      walked (range_spots names width all) (λ e r. range_extent names width r ∷ e) (ranges_spots names width all) (λ e rs. with_extents names width rs e)
          (ranges_walk names width all) earlier (take i xs) (take (i + 1) xs) x c.args.best.now c.loop-range.best c.note_range.new.best grown p.0
          (c.in_ok-note_range.ensures.spots so_far p.1),
      subst (AreEarlier c.note_range.new.seen)
          (sym (moved_on (range_spots names width all) (λ e r. range_extent names width r ∷ e) (ranges_spots names width all) (λ e rs. with_extents names width rs e)
          (ranges_walk names width all) earlier (take i xs) (take (i + 1) xs) x grown))
          (c.in_ok-note_range.ensures.seen so_far p.1),
    )

pub returns-clause-seen : goal.returns-clause-seen
returns-clause-seen g c earlier told =
    let names = g.N.Names.senses c.args.self.now.names.now in let width = c.args.self.now.width in
    subst (λ rs. AreEarlier c.loop-range.seen (with_extents names width rs earlier)) (take_all c.loop-range.range-index c.args.ranges.now c.loop-range-test.false)
    (c.loop-range.invariant earlier told).1
