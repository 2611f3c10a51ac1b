use Rattle.std.proofs.Common.{◌≡◌, ℕ, ◌+◌, ◌≤◌, ◌^◌, suc, arith, refl, length, set, Some}
use Rattle.std.specs.Prelude.{Bool, slice_get, slice_index}
use Rattle.std.proofs.lemmas.Option.{slice_get_read}
use Rattle.rv_asm.specs.Reach.{near_label}
use Rattle.rv_asm.specs.inside.Growing.{grown, out_back_by}
use Rattle.rv_asm.specs.inside.Sound.{noted}
use Rattle.rv_asm.proofs.Starts.{read_size}
use Rattle.rv_asm.proofs.Steps.{UpState, up_low, up_step}
use Rattle.rv_asm.proofs.walks.grow_back.Goals.{After-deref}
use Rattle.rv_asm.proofs.walks.grow_back.Goals as goal

part_is : (d : After-deref) → slice_get d.args.parts.now d.loop-index.index ≡ Some d.index-parts-index.result
part_is d = slice_get_read d.args.parts.now (length d.args.parts.now) d.loop-index.index d.index-parts-index.result refl d.loop-index-test.true d.index-parts-index.is

pub is_out_back-is_out-requires-clause-low : goal.is_out_back-is_out-requires-clause-low
is_out_back-is_out-requires-clause-low c =
    let d = (goal.at.is_out_back-is_out-requires-clause-low c).After-deref in
    rw (d.deref.ensures.value, d.note.ensures)
    (up_low d.args.labels.now d.args.parts.now d.args.spots.now d.args.base d.requires.sound d.requires.room d.requires.spots d.loop-index.index d.index-parts-index.result (part_is d)
    d.args.sizes.now.items d.loop-index.sizes.items d.loop-index.places.items d.loop-index.address d.loop-index.invariant)

-- the state behind the part
after : (d : After-deref) (b : Bool) (old v : ℕ) → old ≡ slice_index d.loop-index.sizes.items d.loop-index.index →
    b ≡ out_back_by d.args.spots.now d.deref.result.now d.loop-index.index d.loop-index.address (near_label d.args.labels.now d.index-parts-index.result) →
    v ≡ grown d.index-parts-index.result old b →
    (d.loop-index.address + v ≤ 2 ^ 30) × UpState d.args.labels.now d.args.parts.now d.args.spots.now d.args.base d.args.sizes.now.items (suc d.loop-index.index)
    (set d.loop-index.sizes.items d.loop-index.index v) (noted d.loop-index.places.items d.index-parts-index.result d.loop-index.address) (d.loop-index.address + v)
after d b old v is_old is_b is_v =
    up_step d.args.labels.now d.args.parts.now d.args.spots.now d.args.base d.requires.sound d.requires.room d.requires.spots d.loop-index.index d.index-parts-index.result (part_is d)
    d.args.sizes.now.items d.loop-index.sizes.items d.loop-index.places.items d.loop-index.address d.loop-index.invariant b v (rw (d.deref.ensures.value, d.note.ensures) at is_b) (rw is_old at is_v)

pub overflow_add-address : goal.overflow_add-address
overflow_add-address c =
    let d = (goal.at.overflow_add-address c).After-deref in
    let old = read_size c.loop-index.sizes.items c.loop-index.index c.index.result.now (omega (arith, c.loop-index.invariant.grown.count, c.loop-index-test.true)) c.index.ensures in
    let h = (after d c.is_out_back-is_out.result c.index.result.now c.grown-size.result old c.is_out_back-is_out.ensures c.grown-size.ensures).0 in
    omega (arith, h)

pub loop-index-preserved : goal.loop-index-preserved
loop-index-preserved c =
    let d = (goal.at.loop-index-preserved c).After-deref in
    let old = read_size c.loop-index.sizes.items c.loop-index.index c.index.result.now (omega (arith, c.loop-index.invariant.grown.count, c.loop-index-test.true)) c.index.ensures in
    let e : c.loop-index.index + 1 ≡ suc c.loop-index.index = omega arith in
    rw (c.note.ensures, e) (after d c.is_out_back-is_out.result c.index.result.now c.grown-size.result old c.is_out_back-is_out.ensures c.grown-size.ensures).1
