use Rattle.cmm_static_semantics.specs.Units.{property_spots}
use Rattle.cmm_static_semantics.proofs.Shared.{noted_at}
use Rattle.cmm_check_units.proofs.target.note_properties.Goals as goal

pub loop-property-preserved : goal.loop-property-preserved
loop-property-preserved c = rw (c.note_property.ensures, c.loop-property.invariant)
    (noted_at property_spots c.args.best.now c.args.properties.now c.loop-property.property-index _ c.loop-property-test.true)
