use Rattle.std.proofs.Common.{subst, sym}
use Rattle.cmm_link.specs.Linked.{IsImageOf}
use Rattle.cmm_link.proofs.Images.{AreGiven, made_are_image, made_are_linked}
use Rattle.cmm_link.proofs.Placements.{images_show}
use Rattle.cmm_link.proofs.linking.image_of.Goals as goal

pub new-requires : goal.new-requires
new-requires c =
    let given : AreGiven c.args.program.now c.args.places.now c.args.laid c.args.text = record {
      range = c.requires.range;
      frames = c.requires.frames;
      laid = c.requires.laid;
      text = c.requires.text;
      spans = c.requires.spans;
      room = c.requires.room;
      globals = c.requires.globals;
    } in
    made_are_image c.args.program.now c.args.places.now c.args.laid c.args.text given c.programs_in_range.ensures c.labels_in_data.ensures c.in_ok-parts.parts c.in_ok-parts.ensures

pub returns-clause-image : goal.returns-clause-image
returns-clause-image c =
    subst (IsImageOf c.args.program.now c.args.places.now c.args.text) (sym c.new.ensures)
    (made_are_linked c.args.program.now c.args.places.now c.args.laid c.args.text c.in_ok-parts.parts c.requires.frames c.requires.laid c.requires.text c.in_ok-parts.ensures)

pub returns-clause-placement : goal.returns-clause-placement
returns-clause-placement c =
    images_show c.args.program.now c.args.places.now c.args.text c.new.result c.requires.frames c.requires.text
    (subst (IsImageOf c.args.program.now c.args.places.now c.args.text) (sym c.new.ensures)
    (made_are_linked c.args.program.now c.args.places.now c.args.laid c.args.text c.in_ok-parts.parts c.requires.frames c.requires.laid c.requires.text c.in_ok-parts.ensures))
