use Rattle.std.proofs.Common.{◌≡◌, ℕ, ◌+◌, ◌-◌, ◌≤◌, ◌^◌, suc, arith, refl, ap, subst, length, set, Some}
use Rattle.std.specs.Prelude.{Bool, slice_get, slice_index}
use Rattle.std.proofs.lemmas.Option.{slice_get_read}
use Rattle.rv_asm.specs.Reach.{near_label}
use Rattle.rv_asm.specs.inside.Growing.{grown, out_ahead_by, start}
use Rattle.rv_asm.specs.inside.Sound.{noted}
use Rattle.rv_asm.proofs.Starts.{read_size, start-zero}
use Rattle.rv_asm.proofs.Steps.{DownState, down_begins, down_room, down_step}
use Rattle.rv_asm.proofs.walks.grow_ahead.Goals.{After-deref}
use Rattle.rv_asm.proofs.walks.grow_ahead.Goals as goal

pub loop-index-init : goal.loop-index-init
loop-index-init c =
    down_begins c.args.labels.now c.args.parts.now c.args.spots.now c.args.base c.args.sizes.now.items c.args.rests.now.items c.requires.spots c.requires.rest_count c.requires.low c.requires.grown

-- the part that is walked over, and the state before it
part_is : (c : After-deref) → slice_get c.args.parts.now (c.loop-index.index - 1) ≡ Some c.index-parts-index.result
part_is c = slice_get_read c.args.parts.now (length c.args.parts.now) (c.loop-index.index - 1) c.index-parts-index.result refl (omega arith) c.index-parts-index.is

state : (c : After-deref) → DownState c.args.labels.now c.args.parts.now c.args.spots.now c.args.base c.args.sizes.now.items (suc (c.loop-index.index - 1)) c.loop-index.sizes.items c.loop-index.rests.items c.loop-index.rest
state c =
    let e : c.loop-index.index ≡ suc (c.loop-index.index - 1) = omega arith in
    subst (λ i. DownState c.args.labels.now c.args.parts.now c.args.spots.now c.args.base c.args.sizes.now.items i c.loop-index.sizes.items c.loop-index.rests.items c.loop-index.rest) e c.loop-index.invariant

old_is : (c : After-deref) → c.index-old.result.now ≡ slice_index c.loop-index.sizes.items (c.loop-index.index - 1)
old_is c =
    read_size c.loop-index.sizes.items (c.loop-index.index - 1) c.index-old.result.now (omega (arith, c.loop-index.invariant.grown.count, c.loop-index.auto.index)) c.index-old.ensures

room : (c : After-deref) → c.loop-index.rest + c.index-old.result.now ≤ 2 ^ 30
room c =
    rw (old_is c) (down_room c.args.labels.now c.args.parts.now c.args.spots.now c.args.base c.requires.sound c.requires.room c.requires.spots (c.loop-index.index - 1) c.index-parts-index.result (part_is c)
    c.args.sizes.now.items c.loop-index.sizes.items c.loop-index.rests.items c.loop-index.rest (state c))

pub overflow_add-rest : goal.overflow_add-rest
overflow_add-rest c = let h = room (goal.at.overflow_add-rest c).After-deref in omega (arith, h)

pub is_out_ahead-is_out-requires-clause-rest : goal.is_out_ahead-is_out-requires-clause-rest
is_out_ahead-is_out-requires-clause-rest c = room (goal.at.is_out_ahead-is_out-requires-clause-rest c).After-deref

-- and the state behind it
after : (d : After-deref) (b : Bool) (v : ℕ) →
    b ≡ out_ahead_by d.args.spots.now d.deref.result.now (d.loop-index.index - 1) (d.loop-index.rest + d.index-old.result.now) (near_label d.args.labels.now d.index-parts-index.result) →
    v ≡ grown d.index-parts-index.result d.index-old.result.now b →
    (d.loop-index.rest + v ≤ 2 ^ 30) × DownState d.args.labels.now d.args.parts.now d.args.spots.now d.args.base d.args.sizes.now.items (d.loop-index.index - 1)
    (set d.loop-index.sizes.items (d.loop-index.index - 1) v) (noted d.loop-index.rests.items d.index-parts-index.result (d.loop-index.rest + v)) (d.loop-index.rest + v)
after d b v is_b is_v =
    down_step d.args.labels.now d.args.parts.now d.args.spots.now d.args.base d.requires.sound d.requires.room d.requires.spots (d.loop-index.index - 1) d.index-parts-index.result (part_is d)
    d.args.sizes.now.items d.loop-index.sizes.items d.loop-index.rests.items d.loop-index.rest (state d) b v (rw (old_is d, d.deref.ensures.value) at is_b) (rw (old_is d) at is_v)

pub overflow_add-rest-in-loop-index : goal.overflow_add-rest-in-loop-index
overflow_add-rest-in-loop-index c =
    let d = (goal.at.overflow_add-rest-in-loop-index c).After-deref in
    let h = (after d c.is_out_ahead-is_out.result c.grown-size.result c.is_out_ahead-is_out.ensures c.grown-size.ensures).0 in
    omega (arith, h)

pub loop-index-preserved : goal.loop-index-preserved
loop-index-preserved c =
    let d = (goal.at.loop-index-preserved c).After-deref in
    rw c.note.ensures (after d c.is_out_ahead-is_out.result c.grown-size.result c.is_out_ahead-is_out.ensures c.grown-size.ensures).1

pub returns-clause-size : goal.returns-clause-size
returns-clause-size c =
    let e : c.loop-index.index ≡ 0 = omega arith in
    let f = ap (start c.loop-index.sizes.items) e in
    omega (arith, c.loop-index.invariant.here, start-zero c.loop-index.sizes.items, f)
