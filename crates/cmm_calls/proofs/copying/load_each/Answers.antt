use Rattle.std.proofs.Common.{◌≡◌, ◌+◌, ◌∙◌, ap, arith, refl, ℕ, suc, List, get_or}
use Rattle.std.proofs.lemmas.List.Elements.{All-get_or}
use Rattle.cmm_chain.specs.declared.frame.Location.TheVariants.{Slot}
use Rattle.cmm_select.specs.Destinations.{IsDestination}
use Rattle.cmm_select.specs.declared.destination.Destination.{Destination}
use Rattle.cmm_select.specs.declared.destination.Destination.TheVariants.{Place}
use Rattle.cmm_calls.proofs.Arrived.{behind_all, left, left_step, loaded_all, loaded_more, loaded_none}
use Rattle.cmm_calls.specs.inside.Arriving.{is_loaded}
use Rattle.cmm_calls.proofs.copying.load_each.Goals as goal

pub loop-index-init : goal.loop-index-init
loop-index-init c = record { copies = loaded_none c.args.asm.now.parts c.args.frame.now.size c.args.to.now; less = omega arith; labels = refl }

pub copy_if-requires-clause-destination : goal.copy_if-requires-clause-destination
copy_if-requires-clause-destination c =
    rw c.loop-index.invariant.labels
    (All-get_or (IsDestination c.args.asm.now.labels) c.args.to.now c.loop-index.index (Place (Slot 0)) c.loop-index-test.true c.requires.labels)

pub loop-index-preserved : goal.loop-index-preserved
loop-index-preserved c =
    let i = c.loop-index.index in
    let d : Destination = Place (Slot 0) in
    let to = c.args.to.now in
    let behind = ap (λ (rest : List Destination). is_loaded i (get_or to i d) rest) (behind_all to i) in
    let step0 = left_step to i d c.loop-index-test.true in
    let step = step0 in
    let n : suc i ≡ i + 1 = omega arith in
    let further = ap (λ (k : ℕ). left k to) n in
    record {
      copies = loaded_more c.args.asm.now.parts c.loop-index.asm.parts c.copy_if.new.asm.parts c.args.frame.now to i d c.is_loaded-now.result c.loop-index-test.true c.requires.few
          c.requires.destinations (c.is_loaded-now.ensures ∙ behind) c.loop-index.invariant.less c.loop-index.invariant.copies c.in_ok-copy_if.ensures.copies;
      less = omega (arith, step, further, c.loop-index.invariant.less);
      labels = c.in_ok-copy_if.ensures.labels ∙ c.loop-index.invariant.labels;
    }

pub returns-clause-copies : goal.returns-clause-copies
returns-clause-copies c =
    loaded_all c.args.asm.now.parts c.loop-index.asm.parts c.args.frame.now.size c.args.to.now c.loop-index.index c.loop-index-test.false c.loop-index.invariant.copies
