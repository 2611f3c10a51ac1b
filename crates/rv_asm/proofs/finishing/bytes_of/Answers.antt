use Rattle.std.proofs.Common.{◌+◌, refl, sym, ◌∙◌, ap, arith, length, take}
use Rattle.std.proofs.lemmas.Option.{slice_get_read}
use Rattle.rv_table.specs.Stands.{code_of}
use Rattle.rv_asm.proofs.Fixes.{code-append}
use Rattle.rv_asm.proofs.Sizes.{end_aligned, end_most, end_more, instructions_more, longest-take, longest_within}
use Rattle.rv_asm.specs.Reach.{end_at}
use Rattle.rv_asm.specs.inside.Forms.{code_by, instructions, number_of, unfilled}
use Rattle.rv_asm.proofs.finishing.bytes_of.Goals as goal

pub add_part-requires-clause-room : goal.add_part-requires-clause-room
add_part-requires-clause-room c =
    let ps = c.args.parts.now in
    let i = c.loop-part.part-index in
    let p = c.part-item.result in
    let within = longest_within ps i p (slice_get_read ps (length ps) i p refl c.loop-part-test.true c.part-item.is) in
    omega (arith, within, end_most c.args.labels.now c.args.places.now c.args.base (take i ps), c.loop-part.invariant.here, c.requires.room)

pub add_part-requires-clause-aligned : goal.add_part-requires-clause-aligned
add_part-requires-clause-aligned c =
    rw c.loop-part.invariant.here (end_aligned c.args.labels.now c.args.places.now c.args.base (take c.loop-part.part-index c.args.parts.now) c.requires.aligned)

pub size_at-address-requires-clause-room : goal.size_at-address-requires-clause-room
size_at-address-requires-clause-room c =
    let ps = c.args.parts.now in
    let i = c.loop-part.part-index in
    let p = c.part-item.result in
    let within = longest_within ps i p (slice_get_read ps (length ps) i p refl c.loop-part-test.true c.part-item.is) in
    omega (arith, within, end_most c.args.labels.now c.args.places.now c.args.base (take i ps), c.loop-part.invariant.here, c.requires.room)

pub overflow_add-address : goal.overflow_add-address
overflow_add-address c =
    let ps = c.args.parts.now in
    let i = c.loop-part.part-index in
    let p = c.part-item.result in
    let is = slice_get_read ps (length ps) i p refl c.loop-part-test.true c.part-item.is in
    let next = end_more c.args.labels.now c.args.places.now c.args.base ps i p is in
    let most = end_most c.args.labels.now c.args.places.now c.args.base (take (i + 1) ps) in
    let few = longest-take ps (i + 1) in
    let size = rw c.loop-part.invariant.here at c.size_at-address.ensures in
    omega (arith, next, most, few, size, c.loop-part.invariant.here, c.requires.room)

pub loop-part-preserved : goal.loop-part-preserved
loop-part-preserved c =
    let ps = c.args.parts.now in
    let i = c.loop-part.part-index in
    let p = c.part-item.result in
    let is = slice_get_read ps (length ps) i p refl c.loop-part-test.true c.part-item.is in
    let labels = c.args.labels.now in
    let places = c.args.places.now in
    let number = number_of labels places unfilled in
    let base = c.args.base in
    let size = rw c.loop-part.invariant.here at c.size_at-address.ensures in
    record {
      here = omega (arith, end_more labels places base ps i p is, size, c.loop-part.invariant.here);
      so_far = rw (c.in_ok-add_part.ensures, c.loop-part.invariant.here, c.loop-part.invariant.so_far)
          (sym (code-append (code_by labels places unfilled base (take i ps)) (instructions number places labels (end_at labels places base (take i ps)) p))
          ∙ ap code_of (sym (instructions_more number places labels base ps i p is)));
    }
