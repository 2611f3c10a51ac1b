-- Which program units mean.
use Rattle.std.specs.Prelude.{◌≡◌, ℕ, List}
use Rattle.std.specs.List.{AllZip}
use Rattle.cmm_static_semantics.specs.Faults.{AreAccepted}
use Rattle.cmm_ast.specs.declared.unit.Unit.{Unit as UnitTree}
use Rattle.cmm_elaboration.specs.Meaning.{meaning_of}
use Rattle.cmm_program.specs.declared.program.Program.{Program}
use Rattle.cmm_front.specs.Sources.{IsTreeOf}

-- The units have trees, which are accepted and mean this program.
pub record IsProgramOf (units : List (List ℕ)) (p : Program) : Type 0 where
  pub trees : List UnitTree
  pub are_trees : AllZip IsTreeOf units trees
  pub accepted : AreAccepted trees
  pub is_program : p ≡ meaning_of trees
