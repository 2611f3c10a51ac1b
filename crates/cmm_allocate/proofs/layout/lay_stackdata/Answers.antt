use Rattle.std.proofs.Common.{false, arith, drop}
use Rattle.cmm_program.proofs.Shared.{end_of-grows}
use Rattle.cmm_allocate.proofs.Offsets.{item_aligned, item_ends}
use Rattle.cmm_allocate.proofs.layout.lay_stackdata.Goals as goal

pub next_aligned-here-requires-clause-small : goal.next_aligned-here-requires-clause-small
next_aligned-here-requires-clause-small c =
    let small = item_aligned c.args.items.now c.loop-item.item-index (record { align = 0; length = 0; label = false }) c.loop-item-test.true c.loop-item.invariant.1 in
    omega (arith, small, end_of-grows c.loop-item.place (drop c.loop-item.item-index c.args.items.now) c.loop-item.invariant.1, c.loop-item.invariant.0, c.requires.size)

pub overflow_add-base : goal.overflow_add-base
overflow_add-base c =
    let ends = item_ends c.args.items.now c.loop-item.item-index (record { align = 0; length = 0; label = false }) c.loop-item.place _ c.loop-item-test.true c.loop-item.invariant.1
    c.loop-item.invariant.0 in
    omega (arith, ends, c.next_aligned-here.ensures.place, c.requires.size, c.requires.base)

pub overflow_add-place : goal.overflow_add-place
overflow_add-place c =
    let ends = item_ends c.args.items.now c.loop-item.item-index (record { align = 0; length = 0; label = false }) c.loop-item.place _ c.loop-item-test.true c.loop-item.invariant.1
    c.loop-item.invariant.0 in
    omega (arith, ends, c.next_aligned-here.ensures.place, c.requires.size)
