use Rattle.rv_asm.proofs.Settled.{are_places}
use Rattle.rv_asm.proofs.walks.grown_places.Goals as goal

pub returns : goal.returns
returns c =
    let same = c.deref.ensures.value in
    are_places c.args.labels.now c.args.parts.now c.in_ok-spots.spots.items c.args.base c.grow.new.sizes.items c.grow.new.places.items
    (rw same at c.grow.ensures.grown) c.in_ok-spots.ensures.spots (rw same at c.grow.ensures.places) (rw same at c.grow.ensures.back) (rw same at c.grow.ensures.ahead)
    c.grow.ensures.place_count c.grow.ensures.low c.requires.aligned
