use Rattle.std.proofs.Common.{◌≡◌, ℕ, Option, subst, sym, ◌∙◌, arith}
use Rattle.cmm_abi.specs.Registers.{callee_saves}
use Rattle.cmm_chain.specs.declared.frame.Location.{Location}
use Rattle.cmm_live.specs.Locals.{local_count}
use Rattle.cmm_allocate.specs.Allocated.{AreAllocated, temporaries}
use Rattle.cmm_allocate.specs.inside.Colouring.{AreHomes, register_in, register_of}
use Rattle.cmm_allocate.proofs.Allocating.{are_allocated, homes_more, no_homes, register_only}
use Rattle.cmm_allocate.proofs.Sharing.{second_coloured, second_size}
use Rattle.cmm_allocate.proofs.SlotOrder.{slots_few}
use Rattle.cmm_allocate.proofs.Suiting.{allocated_suit}
use Rattle.cmm_allocate.proofs.colouring.places.Goals as goal

pub loop-number-init : goal.loop-number-init
loop-number-init c =
    let r = c.in_ok-registers.registers in
    rw c.in_ok-locals.ensures (no_homes (register_in r.temporary.class r.temporary.colours r.callee_saves.class r.callee_saves.colours))

pub of-requires-clause-number : goal.of-requires-clause-number
of-requires-clause-number c = let size = c.in_ok-registers.ensures.apart.classes.temporary.size in omega (arith, size)

pub of-requires-clause-size : goal.of-requires-clause-size
of-requires-clause-size c = second_size c.in_ok-registers.ensures ∙ sym c.in_ok-registers.ensures.apart.classes.temporary.size

pub of-requires-clause-temporary : goal.of-requires-clause-temporary
of-requires-clause-temporary c =
    let are = c.in_ok-registers.ensures.apart in
    are.first_coloured.colours_are.size ∙ (are.first_coloured.conflicts.size ∙ sym are.classes.temporary.size)

pub of-requires-clause-callee_saves : goal.of-requires-clause-callee_saves
of-requires-clause-callee_saves c =
    let are = c.in_ok-registers.ensures in
    let coloured = second_coloured are in
    coloured.colours_are.size ∙ (coloured.conflicts.size ∙ sym (second_size are))

pub of-requires-clause-few : goal.of-requires-clause-few
of-requires-clause-few c = c.in_ok-registers.ensures.apart.first_coloured.colours_are.below

pub of-requires-clause-below : goal.of-requires-clause-below
of-requires-clause-below c = (second_coloured c.in_ok-registers.ensures).colours_are.below

pub home-place-requires : goal.home-place-requires
home-place-requires c =
    let so_far = c.loop-number.invariant in
    let few = slots_few c.loop-number.locals in
    omega (arith, so_far.end_is, so_far.length_is, few, c.requires.few)

pub loop-number-preserved : goal.loop-number-preserved
loop-number-preserved c =
    let r = c.in_ok-registers.registers in
    let n = c.loop-number.number in
    let f = register_in r.temporary.class r.temporary.colours r.callee_saves.class r.callee_saves.colours in
    rw (c.in_ok-push.ensures.ok, c.home-place.ensures.place, c.home-place.ensures.end, c.of.ensures)
    (homes_more f n c.loop-number.locals c.loop-number.end (λ place is.
    register_only (register_of r.temporary.class r.temporary.colours temporaries n) (register_of r.callee_saves.class r.callee_saves.colours callee_saves n) place is) c.loop-number.invariant)

pub returns : goal.returns
returns c =
    let g = c.args.g.now in
    let live = c.args.live.now in
    let r = c.in_ok-registers.registers in
    let f : ℕ → Option Location = register_in r.temporary.class r.temporary.colours r.callee_saves.class r.callee_saves.colours in
    let all : c.loop-number.number ≡ local_count g = omega arith in
    let homes : AreHomes f (local_count g) c.loop-number.locals c.loop-number.end =
    subst (λ n. AreHomes f n c.loop-number.locals c.loop-number.end) all c.loop-number.invariant in
    let allocated : AreAllocated g live c.loop-number.locals =
    are_allocated c.sets_decide_conflicts.ensures g live c.requires.live r.temporary.class r.temporary.colours r.callee_saves.class r.callee_saves.colours c.in_ok-registers.ensures c.loop-number.locals
    c.loop-number.end homes in
    record {
      allocated = allocated;
      suit = allocated_suit c.sets_are_closed.ensures c.sets_decide_conflicts.ensures g live c.loop-number.locals c.requires.live allocated;
    }
