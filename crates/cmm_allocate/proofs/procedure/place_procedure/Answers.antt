use Rattle.std.proofs.Common.{◌∙◌, ap, arith}
use Rattle.cmm_located.specs.Layouts.{is_location, slots_end}
use Rattle.std.specs.List.{list_all}
use Rattle.cmm_allocate.proofs.Suiting.{allocated_are_locations}
use Rattle.cmm_allocate.proofs.SlotOrder.{slots_end_from}
use Rattle.cmm_allocate.proofs.procedure.place_procedure.Goals as goal

pub lay_frame-requires-clause-places : goal.lay_frame-requires-clause-places
lay_frame-requires-clause-places c =
    ap (λ places. list_all is_location places) c.as_slice.ensures ∙ allocated_are_locations c.args.g.now c.args.live c.in_ok-locals.locals c.in_ok-locals.ensures.allocated

pub lay_frame-requires-clause-room : goal.lay_frame-requires-clause-room
lay_frame-requires-clause-room c =
    let are = c.in_ok-locals.ensures.allocated in
    let same = ap slots_end c.as_slice.ensures in
    let end = slots_end_from c.in_ok-locals.locals 0 are.slots in
    omega (arith, same, end, are.count, c.requires.can.bounded, c.requires.can.continuations)

pub returns : goal.returns
returns c = record {
  allocated = c.in_ok-locals.ensures.allocated;
  locals = c.in_ok-locals.ensures.suit;
  frame = rw c.as_slice.ensures at c.in_ok-frame.ensures;
  live = c.requires.live;
  zeroed = c.in_ok-zeroed.ensures;
}
