-- Which parts of a unit fit a program, whose numbers have 32 bits: those of units that break no rule do.
use Rattle.std.specs.Prelude.{List}
use Rattle.std.specs.List.{All}
use Rattle.cmm_ast.specs.declared.statement.Actual.{Actual}
use Rattle.cmm_ast.specs.declared.statement.CalleeForm.{CalleeForm}
use Rattle.cmm_ast.specs.declared.statement.CalleeForm.TheVariants as callees
use Rattle.cmm_ast.specs.declared.statement.Lvalue.{Lvalue}
use Rattle.cmm_ast.specs.declared.statement.Lvalue.TheVariants as places
use Rattle.cmm_static_semantics.specs.Typing.{of_memory}
use Rattle.cmm_typing.specs.Resolved.{AlignmentsFit}

-- ---- alignments

abbrev pub ActualsFit : List Actual → Type 0
ActualsFit actuals = All (λ a. AlignmentsFit a.value) actuals

abbrev pub CalleeFits : CalleeForm → Type 0
CalleeFits (callees.Name i) = Unit {0}
CalleeFits (callees.Memory m) = AlignmentsFit (of_memory 0 m)
CalleeFits (callees.Bracketed e) = AlignmentsFit e

abbrev pub PlaceFits : Lvalue → Type 0
PlaceFits (places.Name i) = Unit {0}
PlaceFits (places.Memory m) = AlignmentsFit (of_memory 0 m)
