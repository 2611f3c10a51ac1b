-- The walk of a state: its suspended activations, youngest first, as the client sees them (C-- Language Specification
-- 2.0, the run-time interface).
use Rattle.std.specs.Prelude.{ℕ, suc, true, false, List, [], ◌∷◌, map, slice_index_or, Option, Some, None}
use Rattle.cmm_words.specs.Widths.{bits}
use Rattle.cmm_script.specs.Walk.{Shown, Spanned, Activation as ShownActivation}
use Rattle.cmm_program.specs.declared.procedure.Proc.{Proc}
use Rattle.cmm_program.specs.declared.procedure.Site.{Site}
use Rattle.cmm_program.specs.declared.procedure.VarInfo.{VarInfo}
use Rattle.cmm_program.specs.Layout.{constant_value}
use Rattle.cmm_program.specs.State.{Setting, Activation, Store}
use Rattle.cmm_program.specs.Frames.{Suspended, suspended_at}
use Rattle.cmm_program.specs.Liveness.{is_live_at}

-- the value of a variable, where it is live at the site
abbrev pub live_value : Proc → ℕ → List ℕ → ℕ → Option ℕ
live_value p site values n = elim (is_live_at p site n) [ true ↦ Some (slice_index_or values n 0) | false ↦ None ]

abbrev pub variables_shown : Proc → ℕ → List ℕ → ℕ → List VarInfo → List Shown
variables_shown p site values n [] = []
variables_shown p site values n (v ∷ vs) =
    record { width = bits v.width; kind = v.kind; invariant = v.invariant; value = live_value p site values n } ∷ variables_shown p site values (suc n) vs

abbrev pub spans_shown : Setting → Site → List Spanned
spans_shown s site = map (λ span. record { token = span.0; value = constant_value s.program s.placement span.1 }) site.spans

-- an activation of a procedure at one of its sites, with these values of its variables
abbrev pub site_shown : Setting → Proc → ℕ → Site → List ℕ → ShownActivation
site_shown s p number site values = record {
  procedure = p.name;
  site = number;
  spans = spans_shown s site;
  variables = variables_shown p number values 0 p.vars;
}

abbrev pub activation_shown : Setting → Suspended → ShownActivation
activation_shown s a = site_shown s a.procedure a.number a.site a.activation.variables

-- these activations, as far as they are suspended
abbrev pub activations_shown : Setting → List Activation → List ShownActivation
activations_shown s [] = []
activations_shown s (a ∷ older) = elim (suspended_at s (a ∷ older)) [
  | Some here ↦ activation_shown s here ∷ activations_shown s older
  | None ↦ []
]

abbrev pub walk_of : Setting → Store → List ShownActivation
walk_of s store = activations_shown s store.activations
