-- Which fault is named of units: the first by phase, then by unit; of a unit by place and rule.
use Rattle.std.specs.Prelude.{◌≡◌, ◌⊎◌, ℕ, suc, List, [], ◌∷◌, Some}
use Rattle.std.specs.List.{All, AllZip}
use Rattle.cmm_static_semantics.specs.declared.fault.Fault.{Fault}
use Rattle.cmm_static_semantics.specs.Faults.{first_fault}
use Rattle.cmm_ast.specs.declared.unit.Unit.{Unit as UnitTree}
use Rattle.cmm_front.specs.declared.fault.FrontFault.{FrontFault}
use Rattle.cmm_front.specs.declared.fault.FrontFault.TheVariants.{At, Memory}
use Rattle.cmm_check_units.specs.declared.fault.StaticFault.{StaticFault}
use Rattle.cmm_check_units.specs.declared.fault.StaticFault.TheVariants as static_fault
use Rattle.cmm_front.specs.Sources.{HasTokens, HasTree, IsLexicalFault, IsSyntaxFault, IsTreeOf}

-- the fault is that of the first unit, counted from a number, that is not whole
abbrev pub IsOfFirst : (List ℕ → Type 0) → (List ℕ → ℕ → Fault → Type 0) → ℕ → List (List ℕ) → Fault → Type 0
IsOfFirst IsWhole IsBroken number [] f = ⊥
IsOfFirst IsWhole IsBroken number (unit ∷ units) f = IsBroken unit number f ⊎ (IsWhole unit × IsOfFirst IsWhole IsBroken (suc number) units f)

-- some unit breaks a rule of the lexical form
abbrev pub BreaksLexis : List (List ℕ) → Fault → Type 0
BreaksLexis units f = IsOfFirst HasTokens IsLexicalFault 0 units f

-- none does, and some unit breaks a rule of the syntax
abbrev pub BreaksSyntax : List (List ℕ) → Fault → Type 0
BreaksSyntax units f = All HasTokens units × IsOfFirst HasTree IsSyntaxFault 0 units f

-- all have trees, which break a static rule
pub record BreaksStatic (units : List (List ℕ)) (f : Fault) : Type 0 where
  pub trees : List UnitTree
  pub are_trees : AllZip IsTreeOf units trees
  pub first : first_fault trees ≡ Some f

abbrev pub IsFaultOf : List (List ℕ) → Fault → Type 0
IsFaultOf units f = BreaksLexis units f ⊎ (BreaksSyntax units f ⊎ BreaksStatic units f)

-- what is said of a fault that is named; of want of memory nothing is
abbrev pub IsRefused : (Fault → Type 0) → FrontFault → Type 0
IsRefused P (At f) = P f
IsRefused P Memory = Unit {0}

-- the same fault
abbrev pub of_static : StaticFault → FrontFault
of_static (static_fault.At f) = At f
of_static static_fault.Memory = Memory
