use Rattle.std.proofs.Common.{List, ◌+◌, ◌*◌, ◌∙◌, ap, map}
use Rattle.cmm_program.specs.declared.procedure.StackItem.{StackItem}
use Rattle.cmm_program.specs.Layout.{aligned_up, stackdata_labels, stackdata_size}
use Rattle.cmm_allocate.proofs.Framing.{is_frame_of}
use Rattle.cmm_allocate.proofs.layout.lay_frame.Goals as goal

-- the parts are those of the frame that is laid
pub returns : goal.returns
returns c =
    is_frame_of c.args.p.now c.args.places.now c.next_aligned.result c.end_of_slots-return_at.result (c.end_of_slots-return_at.result + 8 + 8 * c.len.result)
    c.next_aligned-base.result c.len-count.result c.in_ok-saved.saved c.in_ok-pairs.pairs c.in_ok-stack.stack c.requires.places c.requires.room
    c.end_of_slots-return_at.ensures c.in_ok-saved.ensures.saved (ap (λ n. c.end_of_slots-return_at.result + 8 + 8 * n) c.len.ensures) c.len-count.ensures
    c.in_ok-pairs.ensures c.next_aligned-base.ensures.place
    (c.in_ok-stack.ensures.0 ∙ ap (λ (items : List StackItem). map (λ place. c.next_aligned-base.result + place) (stackdata_labels items)) c.as_slice.ensures)
    (c.next_aligned.ensures.place ∙ ap (λ n. aligned_up 16 n)
    (c.in_ok-stack.ensures.1 ∙ ap (λ (items : List StackItem). c.next_aligned-base.result + stackdata_size items) c.as_slice.ensures))
