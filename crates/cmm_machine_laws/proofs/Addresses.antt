-- Addresses on a valid placement: frames adjoin, and the parts of each lie inside it.
use Rattle.std.specs.List.{list_all}
use Rattle.std.proofs.Common.{Option, ◌≡◌, ℕ, suc, ◌+◌, ◌%◌, ◌<◌, ◌≤◌, IsTrue, List, [], ◌∷◌, drop, map, length, slice_get, slice_index_or, Some, None, refl, ap, ◌∙◌, arith}
use Rattle.std.proofs.lemmas.Bool.Decides.{nat_tests}
use Rattle.std.proofs.lemmas.List.{drop-drop, length-replicate}
use Rattle.std.proofs.lemmas.List.Sums.{sum_by-cons, sum_by-take-drop}
use Rattle.cmm_program.specs.declared.procedure.Proc.{Proc}
use Rattle.cmm_program.specs.declared.placement.PlaceRow.{PlaceRow}
use Rattle.cmm_program.specs.Frames.{frame_address, frame_size, sum_of_sizes}
use Rattle.cmm_program.specs.Memory.{Outside, Room, cell_in}
use Rattle.cmm_program.specs.Machine.{state_after}
use Rattle.cmm_program.specs.Placed.{IsPlaced, is_pair_in, is_row_placed, are_rows_placed}
use Rattle.cmm_program.specs.State.{Setting, Activation}
use Rattle.cmm_machine_laws.specs.Stacks.{IsSet, Stack, Extent, IsStack, IsPart, LiesIn, OfEachStack, EachStateHasStack, OneRoomEach, OlderAreStack, FramesReachTop, FramesAdjoin, FramesAreAligned, PartsLieInFrame, PartsLieApart, PartsLieInStack, NoneBelow, OwnAlone, extent, stackdata_at, stackdata_of}
use Rattle.cmm_machine_laws.proofs.Stacking.{length_stackdata, steps_stack}
use Rattle.cmm_machine_laws.proofs.StackKept.{stackdata_drop, without_keeps}

-- a row is that of a procedure as it is placed, or where there is none, empty
abbrev IsRowOf : Option Proc → PlaceRow → Type 0
IsRowOf (Some p) row = IsTrue (is_row_placed p row)
IsRowOf None row = row ≡ record { code = 0; frame = 0; pairs = []; stack = [] }

-- so is the row at any number in a placement
pub row_at : (ps : List Proc) (rows : List PlaceRow) → IsTrue (are_rows_placed ps rows) → (n : ℕ) →
    IsRowOf (slice_get ps n) (slice_index_or rows n record { code = 0; frame = 0; pairs = []; stack = [] })
row_at (p ∷ ps) (row ∷ rows) placed (suc n) = grind (arith, nat_tests, row_at ps rows)
row_at ps rows placed n = grind (arith, nat_tests)

-- a pair that is placed ends inside the frame
pub pairs_inside : (frame : ℕ) (pairs : List ℕ) (k : ℕ) → IsTrue (list_all (is_pair_in frame) pairs) →
    (slice_index_or pairs k 0 ≤ frame) × (k < length pairs → slice_index_or pairs k 0 + 16 ≤ frame)
pairs_inside frame (o ∷ os) (suc k) are = grind (arith, nat_tests, pairs_inside frame os k)
pairs_inside frame pairs k are = grind (arith, nat_tests)

-- frames fill multiples of 16 bytes
sizes_aligned : (s : Setting) → IsPlaced s.program s.placement → (fs : List Activation) → sum_of_sizes s fs % 16 ≡ 0
sizes_aligned s placed [] = refl
sizes_aligned s placed (f ∷ fs) =
    grind (arith, nat_tests, row_at s.program.procs s.placement.rows, sizes_aligned s placed fs, sum_by-cons (frame_size s))

-- a part of an activation lies inside its frame
part_inside : (s : Setting) {activations : List Activation} {data_room part : Extent} {rooms : List Extent} → IsSet s →
    IsStack s record { activations = activations; data_room = data_room; rooms = rooms } → IsPart s activations rooms part → LiesIn s activations part
part_inside s {activations = []} set h is = grind arith
part_inside s {activations = f ∷ fs} set h is =
    grind (arith, nat_tests, row_at s.program.procs s.placement.rows, pairs_inside, length-replicate, sum_by-cons (frame_size s) f fs)

-- a stack without some of its youngest activations is as it should be
stack_dropped : (s : Setting) (n : ℕ) (k : Stack) → IsStack s k → IsStack s record k { activations = drop n k.activations; rooms = drop n k.rooms }
stack_dropped s n k h = grind (arith, stackdata_drop s n k.activations, sum_by-take-drop (frame_size s) k.activations n)

-- ---- the laws

-- what every stack has that is as it should be, the stack of each state has
of_each : (P : Setting → Stack → Type 0) → ((s : Setting) (stack : Stack) → IsStack s stack → P s stack) → OfEachStack P
of_each P has = record {
  of_stack = has;
  in_state = λ s input m n. has s _ ((without_keeps s n (state_after s input m).store).1 (steps_stack _ s input m));
}

-- each is as it should be, with a room for each frame
pub each_stack : EachStateHasStack
each_stack = of_each IsStack (λ s stack h. h)

pub one_room_each : OneRoomEach
one_room_each = of_each _ (λ s stack h. ap (length {A = Extent}) h.rooms ∙ length_stackdata s stack.activations)

pub older_are_stack : OlderAreStack
older_are_stack = of_each _ (λ s stack h younger. stack_dropped s younger stack h)

pub frames_reach_top : FramesReachTop
frames_reach_top = of_each _ (λ s stack h. omega (arith, h.fits))

-- frames adjoin, each at a multiple of 16
pub frames_adjoin : FramesAdjoin
frames_adjoin = of_each _ (λ s stack h f fs is. grind (arith, sum_by-cons (frame_size s) f fs))

pub frames_aligned : FramesAreAligned
frames_aligned = of_each _ (λ s stack h set. grind (arith, sizes_aligned s set.placed stack.activations))

-- parts lie inside their frames, apart from those of older activations, and in the stack
pub parts_in_frame : PartsLieInFrame
parts_in_frame = of_each _ (λ s stack h set part. part_inside s set h)

pub parts_apart : PartsLieApart
parts_apart = of_each _ (λ s stack h set n part other first second.
    let sizes = rw (drop-drop n 1) at (sum_by-take-drop (frame_size s) (drop 1 stack.activations) n) in
    grind (arith, part_inside s set h first, part_inside s set (stack_dropped s (suc n) stack h) second, sizes))

pub parts_in_stack : PartsLieInStack
parts_in_stack = of_each _ (λ s stack h set part is. grind (arith, part_inside s set h is))

-- ---- what stands nowhere

-- stackdata lies at its frame's address or above it
stackdata_above : (s : Setting) (a : Activation) (at : ℕ) → at ≤ (stackdata_at s a at).address
stackdata_above s a at = grind arith

-- below the frames no room has an address
none_below_rooms : (s : Setting) (as_ : List Activation) (rooms : List Room) (at : ℕ) → map extent rooms ≡ stackdata_of s as_ →
    at < frame_address s as_ → cell_in rooms at ≡ Outside
none_below_rooms s [] [] at are less = refl
none_below_rooms s (a ∷ as_) (room ∷ rooms) at are less =
    let above = stackdata_above s a (frame_address s (a ∷ as_)) in
    grind (arith, nat_tests, above, sum_by-cons (frame_size s) a as_, none_below_rooms s as_ rooms at)
none_below_rooms s as_ rooms at are less = grind arith

pub none_below : NoneBelow
none_below s store at h less = none_below_rooms s store.activations store.memory.rooms at h.rooms less

pub own_alone : OwnAlone
own_alone s store a older room rooms at h as_ have less lacks =
    grind (arith, lacks, as_, have, h.rooms, none_below_rooms s older rooms at)
