use Rattle.std.proofs.Common.{arith, length}
use Rattle.rv_asm.proofs.Forming.{most_size}
use Rattle.rv_asm.proofs.Starts.{start_within}
use Rattle.rv_asm.proofs.walks.grow.Goals as goal

pub overflow_add-base : goal.overflow_add-base
overflow_add-base c =
    let g = c.grow_ahead-size.ensures.grown in
    let h = start_within c.args.parts.now c.grow_ahead-size.new.sizes.items (length c.args.parts.now) g.count
    (most_size c.args.labels.now c.args.parts.now c.args.spots.now c.args.base c.grow_ahead-size.new.sizes.items g) in
    omega (arith, h, c.grow_ahead-size.ensures.size, c.requires.room)

pub loop-end-smaller : goal.loop-end-smaller
loop-end-smaller c =
    let g = c.grow_ahead-size.ensures.grown in
    let h = start_within c.args.parts.now c.grow_ahead-size.new.sizes.items (length c.args.parts.now) g.count
    (most_size c.args.labels.now c.args.parts.now c.args.spots.now c.args.base c.grow_ahead-size.new.sizes.items g) in
    let first = c.grow_back-end.ensures.more in
    let second = c.grow_ahead-size.ensures.growth.more in
    omega (arith, h, first, second, c.grow_ahead-size.ensures.size, c.grow_back-end.ensures.end, c.if-base-size.false)
