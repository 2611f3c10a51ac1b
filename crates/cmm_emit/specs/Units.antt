-- The code of units.
use Rattle.std.specs.Prelude.{◌≡◌, ◌≢◌, ℕ, ◌+◌, ◌<◌, ◌≤◌, List, [], ◌∷◌, length, slice_get, Some}
use Rattle.rv_asm.specs.declared.part.Meaning.{Meaning}
use Rattle.rv_asm.specs.declared.part.Part.{Part}
use Rattle.cmm_program.specs.declared.procedure.Proc.{Proc}
use Rattle.cmm_program.specs.declared.program.Program.{Program}
use Rattle.cmm_graph.specs.declared.graph.Graph.{Graph}
use Rattle.cmm_allocate.specs.declared.procedure.ProcedurePlaces.{ProcedurePlaces}
use Rattle.cmm_unit_code.specs.declared.unit_code.UnitCode.{UnitCode}
use Rattle.cmm_emit.specs.Finishing.{IsFinished}
use Rattle.cmm_emit.specs.LaidProcedures.{IsWholeIn}
use Rattle.cmm_unit_code.specs.declared.unit_code.ProgramCode.{ProgramCode}
use Rattle.cmm_unit_code.specs.declared.unit_code.Reference.TheVariants.{Procedure}
use Rattle.cmm_emit.specs.Mentions.{references_of}
use Rattle.cmm_emit.specs.Outlines.{IsOutlineIn, share}
use Rattle.cmm_emit.specs.declared.outline.Outline.{Outline}

-- The code of n procedures of a program, from one on: they are laid, and finished.
pub record IsUnit (p : Program) (graphs : List Graph) (found : List ProcedurePlaces) (first count : ℕ) (u : UnitCode) : Type 0 where
  pub outline : Outline
  pub labels : List Meaning
  pub parts : List Part
  pub first_is : outline.first ≡ first
  pub count_is : length outline.contexts ≡ count
  pub is_outline : IsOutlineIn p graphs found outline
  pub whole : IsWholeIn p graphs outline labels parts
  pub finished : IsFinished labels parts outline u

-- the code of the procedures from one up to another, unit by unit, one behind the other
abbrev pub AreUnits : Program → List Graph → List ProcedurePlaces → ℕ → ℕ → List UnitCode → Type 0
AreUnits p graphs found first end [] = first ≡ end
AreUnits p graphs found first end (u ∷ us) = (count : ℕ) × IsUnit p graphs found first count u × AreUnits p graphs found (first + count) end us

-- codes of units one behind the other, the first with procedures of a program from one on: each lists what the graphs of its procedures name, and nothing else
abbrev pub HaveReferences : Program → List Graph → ℕ → List UnitCode → Type 0
HaveReferences p graphs first [] = first ≡ length p.procs
HaveReferences p graphs first (u ∷ us) =
    (u.references ≡ references_of p (share first (length u.procedures) graphs) first (length u.procedures)) × HaveReferences p graphs (first + length u.procedures) us

-- the code of a program: that with which a run begins names `main`, and that of units what they use
pub record NamesWhatItUses (p : Program) (graphs : List Graph) (code : ProgramCode) : Type 0 where
  pub start : UnitCode
  pub units : List UnitCode
  pub is : code.units ≡ start ∷ units
  pub main : start.references ≡ Procedure p.main ∷ []
  pub each : HaveReferences p graphs 0 units

-- the procedures from one up to another are all of the unit of the first
abbrev pub AreOfOneUnit : List Proc → ℕ → ℕ → Type 0
AreOfOneUnit procs first end =
    (n : ℕ) (q r : Proc) → first ≤ n → n < end → slice_get procs first ≡ Some q → slice_get procs n ≡ Some r → r.unit ≡ q.unit

-- where the procedures end that are of one unit and stand one behind the other, from one on
pub record IsUnitEnd (procs : List Proc) (first end : ℕ) : Type 0 where
  pub behind : first < end
  pub within : end ≤ length procs
  pub one : AreOfOneUnit procs first end
  pub other : (q r : Proc) → slice_get procs first ≡ Some q → slice_get procs end ≡ Some r → r.unit ≢ q.unit
