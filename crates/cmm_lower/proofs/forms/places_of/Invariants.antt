use Rattle.std.proofs.Common.{◌≡◌, take}
use Rattle.std.specs.Prelude.{map}
use Rattle.std.specs.List.{All}
use Rattle.cmm_static_semantics.specs.Scopes.{senses}
use Rattle.cmm_elaboration.specs.Resolving.{place_of}
use Rattle.cmm_lower_parts.specs.Fitting.{PlaceFits}
use Rattle.cmm_proc_scope.specs.Bodies.{scope_of_body}
use Rattle.cmm_lower.proofs.forms.places_of.Given as goal

abbrev pub invariant-loop-place : goal.invariant-loop-place
invariant-loop-place g l = All PlaceFits l.to → l.places ≡ map (place_of (senses (scope_of_body g.N.Names.senses l.names))) (take l.place-index l.to)
