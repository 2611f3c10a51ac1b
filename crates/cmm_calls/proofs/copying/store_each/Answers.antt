use Rattle.std.proofs.Common.{◌∙◌, refl}
use Rattle.std.proofs.lemmas.List.Elements.{All-get_or}
use Rattle.cmm_chain.specs.declared.frame.Location.TheVariants.{Slot}
use Rattle.cmm_select.specs.Destinations.{IsDestination}
use Rattle.cmm_select.specs.declared.destination.Destination.TheVariants.{Place}
use Rattle.cmm_calls.proofs.Stored.{stored_all, stored_more, stored_none}
use Rattle.cmm_calls.proofs.Standing.{each}
use Rattle.cmm_calls.specs.Copying.{is_destination}
use Rattle.cmm_calls.proofs.copying.store_each.Goals as goal

pub loop-index-init : goal.loop-index-init
loop-index-init c = record { copies = stored_none c.args.asm.now.parts c.args.frame.now.size c.args.to.now; labels = refl }

pub copy_if-requires-clause-destination : goal.copy_if-requires-clause-destination
copy_if-requires-clause-destination c =
    rw c.loop-index.invariant.labels
    (All-get_or (IsDestination c.args.asm.now.labels) c.args.to.now c.loop-index.index (Place (Slot 0)) c.loop-index-test.true c.requires.labels)

pub loop-index-preserved : goal.loop-index-preserved
loop-index-preserved c =
    let i = c.loop-index.index in
    let d = Place (Slot 0) in
    record {
      copies = stored_more c.args.asm.now.parts c.loop-index.asm.parts c.copy_if.new.asm.parts c.args.frame.now c.args.to.now i d c.is_stored-now.result c.loop-index-test.true c.requires.few
          (each (is_destination c.args.frame.now) c.args.to.now i d c.requires.destinations c.loop-index-test.true) c.is_stored-now.ensures c.loop-index.invariant.copies c.in_ok-copy_if.ensures.copies;
      labels = c.in_ok-copy_if.ensures.labels ∙ c.loop-index.invariant.labels;
    }

pub returns-clause-copies : goal.returns-clause-copies
returns-clause-copies c =
    stored_all c.args.asm.now.parts c.loop-index.asm.parts c.args.frame.now.size c.args.to.now c.loop-index.index c.loop-index-test.false c.loop-index.invariant.copies
