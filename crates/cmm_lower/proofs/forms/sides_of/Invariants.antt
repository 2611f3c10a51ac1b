use Rattle.std.proofs.Common.{◌≡◌, take}
use Rattle.std.specs.Prelude.{map}
use Rattle.std.specs.List.{All}
use Rattle.cmm_static_semantics.specs.Scopes.{senses}
use Rattle.cmm_elaboration.specs.Resolving.{value_of}
use Rattle.cmm_proc_scope.specs.Bodies.{scope_of_body}
use Rattle.cmm_typing.specs.Resolved.{AlignmentsFit}
use Rattle.cmm_lower.proofs.forms.sides_of.Given as goal

abbrev pub invariant-loop-value : goal.invariant-loop-value
invariant-loop-value g l = All AlignmentsFit l.values → l.sides ≡ map (value_of (senses (scope_of_body g.N.Names.senses l.names))) (take l.value-index l.values)
