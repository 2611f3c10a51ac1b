-- What writing a walk comes to.
use Rattle.std.specs.Prelude.{◌≡◌, ℕ, List, [], ◌++◌, map, Result, Ok, Err, Option, Some, None, codes}
use Rattle.rv_table.specs.Machine.{State}
use Rattle.cmm_outside.specs.Faults.{Rose}
use Rattle.cmm_outside.specs.Output.{Appends, AppendsFront}
use Rattle.cmm_script.specs.Walk.{activation_texts, line}
use Rattle.cmm_program.specs.Asking.{Break, Chain}
use Rattle.cmm_image_machine.specs.Frames.{Element}
use Rattle.cmm_image_machine.specs.Walks.{element_shown}
use Rattle.cmm_walk.specs.declared.walking.WalkError.{WalkError}
use Rattle.cmm_walk.specs.declared.walking.WalkError.TheVariants.{Torn, Failed}
use Rattle.cmm_walk.specs.Walking.{break_of}

-- the line behind the last activation, where the chain does not break
abbrev pub end_text : Option Break → List ℕ
end_text None = line (codes "end")
end_text (Some b) = []

-- the lines of the activations, counted from a number on, and the end
abbrev pub chain_text : State → ℕ → Chain Element → List ℕ
chain_text s number chain = activation_texts number (map (element_shown s) chain.activations) ++ end_text chain.broken

-- The walk is written, or its lines before the break, or a front of these where a write fails. What a sink has taken and how often it has failed are
-- given.
abbrev pub WritesWalk : {Sink : Type 0} → (Sink → Option (List ℕ)) → (Sink → ℕ) → Sink → Sink → State → Chain Element → Result (Unit {0}) WalkError → Type 0
WritesWalk taken faults old new s chain (Ok done) = (chain.broken ≡ None) × Appends (taken old) (taken new) (chain_text s 0 chain) × (faults new ≡ faults old)
WritesWalk taken faults old new s chain (Err (Torn t)) =
    (chain.broken ≡ Some (break_of t)) × Appends (taken old) (taken new) (chain_text s 0 chain) × (faults new ≡ faults old)
WritesWalk taken faults old new s chain (Err Failed) = AppendsFront (taken old) (taken new) (chain_text s 0 chain) × Rose (faults old) (faults new)
