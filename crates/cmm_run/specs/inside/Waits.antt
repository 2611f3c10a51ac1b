-- Output that waits to be written.
use Rattle.std.specs.Prelude.{◌≡◌, ◌⊎◌, ℕ, List, ◌++◌, Option}
use Rattle.cmm_outside.specs.Faults.{Rose}
use Rattle.cmm_outside.specs.Output.{Appends, AppendsFront}
use Rattle.cmm_run.specs.declared.outcome.Outcome.{Outcome}
use Rattle.cmm_run.specs.declared.outcome.Outcome.TheVariants.{OutputFault}

-- Of these bytes a front was written, and the rest waits.
pub record Moves (before after : Option (List ℕ)) (bytes rest : List ℕ) : Type 0 where
  pub written : List ℕ
  pub parts : bytes ≡ written ++ rest
  pub appended : Appends before after written

-- what waited is written and the outcome stands, or the write failed
abbrev pub Closes : {Sink : Type 0} → (Sink → Option (List ℕ)) → (Sink → ℕ) → Sink → Sink → List ℕ → Outcome → Outcome → Type 0
Closes taken faults old new waiting outcome result =
    ((result ≡ outcome) × Appends (taken old) (taken new) waiting × (faults new ≡ faults old))
    ⊎ ((result ≡ OutputFault) × AppendsFront (taken old) (taken new) waiting × Rose (faults old) (faults new))
