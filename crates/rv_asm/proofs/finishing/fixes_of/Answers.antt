use Rattle.std.proofs.Common.{◌≡◌, ◌+◌, refl, sym, arith, length, take}
use Rattle.std.proofs.lemmas.Option.{slice_get_read}
use Rattle.rv_asm.proofs.Sizes.{end_more, end_most, fixes_more, longest-take, longest_within}
use Rattle.rv_asm.specs.Reach.{end_at}
use Rattle.rv_asm.proofs.finishing.fixes_of.Goals as goal

pub overflow_add-place : goal.overflow_add-place
overflow_add-place c =
    let ps = c.args.parts.now in
    let i = c.loop-part.part-index in
    let p = c.part-item.result in
    let is = slice_get_read ps (length ps) i p refl c.loop-part-test.true c.part-item.is in
    let next = end_more c.args.labels.now c.args.places.now c.args.base ps i p is in
    let most = end_most c.args.labels.now c.args.places.now c.args.base (take (i + 1) ps) in
    let few = longest-take ps (i + 1) in
    let e : c.args.base + c.from.result ≡ end_at c.args.labels.now c.args.places.now c.args.base (take i ps) = omega (arith, c.from.ensures, c.loop-part.invariant.here) in
    let size = rw e at c.size_at.ensures in
    omega (arith, next, most, few, size, c.loop-part.invariant.here, c.requires.room)

pub loop-part-preserved : goal.loop-part-preserved
loop-part-preserved c =
    let ps = c.args.parts.now in
    let i = c.loop-part.part-index in
    let p = c.part-item.result in
    let is = slice_get_read ps (length ps) i p refl c.loop-part-test.true c.part-item.is in
    let e : c.args.base + c.from.result ≡ end_at c.args.labels.now c.args.places.now c.args.base (take i ps) = omega (arith, c.from.ensures, c.loop-part.invariant.here) in
    let size = rw e at c.size_at.ensures in
    record {
      here = omega (arith, end_more c.args.labels.now c.args.places.now c.args.base ps i p is, size, c.loop-part.invariant.here);
      so_far = rw (c.in_ok-add_fix.ensures, c.loop-part.invariant.so_far)
          (sym (fixes_more c.args.labels.now c.args.places.now c.args.base c.loop-part.place ps i p is c.loop-part.invariant.here));
    }

pub size_at-requires-clause-room : goal.size_at-requires-clause-room
size_at-requires-clause-room c =
    let ps = c.args.parts.now in
    let i = c.loop-part.part-index in
    let p = c.part-item.result in
    let within = longest_within ps i p (slice_get_read ps (length ps) i p refl c.loop-part-test.true c.part-item.is) in
    omega (arith, within, end_most c.args.labels.now c.args.places.now c.args.base (take i ps), c.loop-part.invariant.here, c.from.ensures, c.requires.room)
