use Rattle.std.proofs.Common.{[]}
use Rattle.cmm_static_semantics.specs.Scopes.{senses}
use Rattle.cmm_elaboration.specs.Resolving.{place_of}
use Rattle.cmm_lower_parts.specs.Fitting.{PlaceFits}
use Rattle.cmm_proc_scope.specs.Bodies.{scope_of_body}
use Rattle.cmm_lower.proofs.Turns.{mapped_if}
use Rattle.cmm_lower.proofs.forms.places_of.Goals as goal

pub loop-place-preserved : goal.loop-place-preserved
loop-place-preserved g c = mapped_if PlaceFits (place_of (senses (scope_of_body g.N.Names.senses c.args.names.now))) c.args.to.now c.loop-place.place-index c.place-item.result
    c.in_ok-made.made [] c.loop-place-test.true c.place-item.is c.in_ok-made.ensures c.in_ok-push.ensures.ok c.loop-place.invariant
