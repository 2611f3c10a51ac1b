-- The arms of a switch: the names in what an arm is for, and what stands in the bodies of arms.
use Rattle.std.specs.Prelude.{List, [], flat_map}
use Rattle.cmm_ast.specs.declared.token.Ident.{Ident}
use Rattle.cmm_ast.specs.declared.statement.Part.{Part}
use Rattle.cmm_ast.specs.declared.statement.Case.{Case}
use Rattle.cmm_ast.specs.declared.statement.Case.TheVariants.{Ranges, Default}
use Rattle.cmm_ast.specs.declared.statement.Arm.{Arm}
use Rattle.cmm_static_semantics.specs.Items.{SpanTree, parts_in}
use Rattle.cmm_static_semantics.specs.LongNames.{of_range}
use Rattle.cmm_symbols.specs.Shown.{whats}

abbrev pub of_case : Case → List Ident
of_case (Ranges rs) = flat_map of_range rs
of_case Default = []

abbrev pub in_arms : List SpanTree → List Arm → List Part
in_arms spans arms = flat_map (λ a. whats (parts_in spans a.body)) arms
