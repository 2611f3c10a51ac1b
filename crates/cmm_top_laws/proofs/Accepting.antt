-- Accepted units are built and run.
use Rattle.std.proofs.Common.{◌≡◌, inl, inr, ℕ, List, [], ◌∷◌, IfSome, Option, Some, None, refl, sym, ◌∙◌, subst}
use Rattle.cmm_front.specs.Laws.{NeverBoth}
use Rattle.cmm_front.specs.Programs.{IsProgramOf}
use Rattle.cmm_front.specs.Refusing.{IsFaultOf}
use Rattle.cmm_outside.specs.Storage.{Contents}
use Rattle.cmm_rules.specs.declared.rule.Rule.{Rule}
use Rattle.cmm_static_semantics.specs.declared.fault.Fault.{Fault}
use Rattle.cmm_program.specs.declared.program.Program.{Program}
use Rattle.cmm_script.specs.Faults.{IsFirstFault}
use Rattle.cmm_script.specs.Laws.{NeverBoth as NeverScriptAndFault}
use Rattle.cmm_script.specs.declared.script.Script.{Script}
use Rattle.cmm_work.specs.Files.{HasBytes, HasUnits, Hold}
use Rattle.cmm_work.specs.Script.{HasScript, HoldsNoScript}
use Rattle.cmm_work.specs.Work.{Work}
use Rattle.cmm_top_laws.specs.Accepted.{AcceptedGeneratedUnitRuns, AcceptedUnitsAreBuilt, AcceptedUnitsRun, AcceptedUnitsRunWithScripts}

-- files hold one list of units under some names
one_list : (files : Contents) (names us vs : List (List ℕ)) → Hold files names us → Hold files names vs → us ≡ vs
one_list files [] [] [] held other = refl
one_list files [] [] (v ∷ vs) held other = absurd other
one_list files [] (u ∷ us) vs held other = absurd held
one_list files (name ∷ names) [] vs held other = absurd held
one_list files (name ∷ names) (u ∷ us) [] held other = absurd other
one_list files (name ∷ names) (u ∷ us) (v ∷ vs) held other =
    let same : u ≡ v = cc (sym held.0 ∙ other.0) in let rest = one_list files names us vs held.1 other.1 in λ i. same i ∷ rest i

module _ (never : NeverBoth) where
  -- units that files hold, and that mean a program, have no fault
  no_fault : (contents : Option Contents) (names : List (List ℕ)) (files : Contents) (units : List (List ℕ)) (p : Program) → contents ≡ Some files → Hold files names units →
      IsProgramOf units p → (f : Fault) → HasUnits contents names (λ us. IsFaultOf us f) → ⊥
  no_fault contents names files units p told held means f (others, hold, fault) =
      let there : Hold files names others = subst (λ (c : Option Contents). IfSome c (λ fs. Hold fs names others)) told hold in
      never units p f means (subst (λ (us : List (List ℕ)). IsFaultOf us f) (one_list files names others units there held) fault)

  pub accepted_units_run : AcceptedUnitsRun
  accepted_units_run names client limits w files units p told held means (inl run) = inl run
  accepted_units_run names client limits w files units p told held means (inr (inl bad)) = inr (inl bad)
  accepted_units_run names client limits w files units p told held means (inr (inr (inl refused))) =
      absurd (no_fault w.before.files names files units p told held means refused.fault refused.cause)
  accepted_units_run names client limits w files units p told held means (inr (inr (inr (inl fails)))) = inr (inr (inl fails))
  accepted_units_run names client limits w files units p told held means (inr (inr (inr (inr memory)))) = inr (inr (inr memory))

  pub accepted_units_are_built : AcceptedUnitsAreBuilt
  accepted_units_are_built names name w files units p told held means (inl built) = inl built
  accepted_units_are_built names name w files units p told held means (inr (inl fails)) = inr (inl fails)
  accepted_units_are_built names name w files units p told held means (inr (inr (inl refused))) =
      absurd (no_fault w.before.files names files units p told held means refused.fault refused.cause)
  accepted_units_are_built names name w files units p told held means (inr (inr (inr rest))) = inr (inr rest)

  pub accepted_generated_unit_runs : AcceptedGeneratedUnitRuns
  accepted_generated_unit_runs number w p means (inl run) = inl run
  accepted_generated_unit_runs number w p means (inr (inl fails)) = inr (inl fails)
  accepted_generated_unit_runs number w p means (inr (inr (inl refused))) = absurd (never _ p refused.fault means refused.cause)
  accepted_generated_unit_runs number w p means (inr (inr (inr memory))) = inr (inr memory)

-- a file that holds a script does not hold none
script_there : NeverScriptAndFault → (files : Contents) (client : Option (List ℕ)) (script : Script) (name : List ℕ) → client ≡ Some name → HasScript (Some files) client script →
    (rule : Rule) (line : ℕ) → HasBytes (Some files) name (λ bytes. IsFirstFault bytes rule line) → ⊥
script_there never files None script name named has rule line bad = cc named
script_there never files (Some other) script name named (bytes, holds, spells) rule line (others, hold, fault) =
    let same : other ≡ name = cc in
    let one : others ≡ bytes = cc (sym hold ∙ (subst (λ (n : List ℕ). files n ≡ Some bytes) same holds)) in
    never bytes script rule line spells (subst (λ (bs : List ℕ). IsFirstFault bs rule line) one fault)

-- what was read of the client is no script
bad_script : NeverScriptAndFault → (client : Option (List ℕ)) (w : Work) (files : Contents) (script : Script) → w.before.files ≡ Some files → HasScript (Some files) client script →
    HoldsNoScript client w → ⊥
bad_script scripts client w files script told has lacks =
    script_there scripts files client script lacks.name lacks.named has lacks.rule lacks.line
    (subst (λ (c : Option Contents). HasBytes c lacks.name (λ bytes. IsFirstFault bytes lacks.rule lacks.line)) told lacks.first)

pub accepted_units_run_with_scripts : NeverBoth → NeverScriptAndFault → AcceptedUnitsRunWithScripts
accepted_units_run_with_scripts never scripts names client limits w files units p script told held means has (inl run) = inl run
accepted_units_run_with_scripts never scripts names client limits w files units p script told held means has (inr (inl bad)) =
    absurd (bad_script scripts client w files script told has bad.bad)
accepted_units_run_with_scripts never scripts names client limits w files units p script told held means has (inr (inr (inl refused))) =
    absurd (no_fault never w.before.files names files units p told held means refused.fault refused.cause)
accepted_units_run_with_scripts never scripts names client limits w files units p script told held means has (inr (inr (inr rest))) = inr rest
