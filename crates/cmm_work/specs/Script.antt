-- The script of a run's client, and what there is to say where its file holds none.
use Rattle.std.specs.Prelude.{◌≡◌, ℕ, List, [], ◌∷◌, Option, Some, None}
use Rattle.cmm_outside.specs.Storage.{Contents}
use Rattle.cmm_rules.specs.declared.rule.Rule.{Rule}
use Rattle.cmm_script.specs.declared.script.Script.{Script}
use Rattle.cmm_script.specs.Faults.{IsFirstFault}
use Rattle.cmm_script.specs.Spelling.{SpellsScript}
use Rattle.cmm_work.specs.declared.status.Status.TheVariants.{BadScript}
use Rattle.cmm_work.specs.Files.{HasBytes}
use Rattle.cmm_work.specs.Lines.{bad_script_line}
use Rattle.cmm_work.specs.Work.{DoesNothing, Ends, Work, no_script}

-- the file of the client, if words name one
abbrev pub named_file : Option (List ℕ) → List (List ℕ)
named_file None = []
named_file (Some name) = name ∷ []

-- the script is the one in the file, or that without a block where no file is named
abbrev pub HasScript : Option Contents → Option (List ℕ) → Script → Type 0
HasScript contents None script = script ≡ no_script
HasScript contents (Some name) script = HasBytes contents name (λ bytes. SpellsScript bytes script)

-- the file holds no script: this rule is the first that its bytes break, in this line, and nothing was done
pub record HoldsNoScript (client : Option (List ℕ)) (w : Work) : Type 0 where
  pub name : List ℕ
  pub named : client ≡ Some name
  pub rule : Rule
  pub line : ℕ
  pub first : HasBytes w.before.files name (λ bytes. IsFirstFault bytes rule line)
  pub nothing : DoesNothing w
  pub ends : Ends w (bad_script_line rule line) BadScript
