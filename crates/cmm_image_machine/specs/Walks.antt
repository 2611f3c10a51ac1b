-- The walk of a chain: its activations as a client sees them.
use Rattle.std.specs.Prelude.{ℕ, ◌+◌, List, [], ◌∷◌, map, Option, Some, None}
use Rattle.cmm_words.specs.Widths.{bits}
use Rattle.cmm_words.specs.Words.{low_bits}
use Rattle.cmm_words.specs.declared.width.Width.{Width}
use Rattle.rv_table.specs.Machine.{State}
use Rattle.cmm_script.specs.Walk.{Shown, Activation}
use Rattle.cmm_image.specs.declared.rows.VariableRow.{VariableRow}
use Rattle.cmm_image.specs.declared.rows.VariablePlace.{VariablePlace}
use Rattle.cmm_image.specs.declared.rows.VariablePlace.TheVariants.{Dead, Slot, Register}
use Rattle.cmm_image.specs.declared.parts.ImageParts.{ImageParts}
use Rattle.cmm_program.specs.Asking.{Chain}
use Rattle.cmm_abi.specs.Regions.{Region, Place, InMemory, word_at}
use Rattle.cmm_image_machine.specs.Frames.{Element, chain_of}

-- where a variable of an activation is, if it is live: in a slot of the frame, or where the value of its register is
abbrev pub place_in : Element → VariablePlace → Option Place
place_in e Dead = None
place_in e (Slot offset) = Some (InMemory (e.frame + offset))
place_in e (Register n) = Some (e.places n)

-- the low bits of what is there
abbrev pub value_at : State → Width → Option Place → Option ℕ
value_at s width None = None
value_at s width (Some place) = Some (low_bits width (word_at s place))

-- each variable, with its place
abbrev pub variables_shown : State → Element → List VariableRow → List VariablePlace → List Shown
variables_shown s e (v ∷ vs) (p ∷ ps) =
    record { width = bits v.width; kind = v.kind; invariant = v.invariant; value = value_at s v.width (place_in e p) } ∷ variables_shown s e vs ps
variables_shown s e _ _ = []

abbrev pub element_shown : State → Element → Activation
element_shown s e = record {
  procedure = e.procedure.name;
  site = e.site.number;
  spans = map (λ span. record { token = span.token; value = span.value }) e.site.spans;
  variables = variables_shown s e e.procedure.variables e.site.variables;
}

-- the walk of a chain; there is none where the chain breaks
abbrev pub walk_along : State → Chain Element → Option (List Activation)
walk_along s chain = elim chain.broken [ None ↦ Some (map (element_shown s) chain.activations) | Some b ↦ None ]

abbrev pub chain_walk : ImageParts → Region → State → Option (List Activation)
chain_walk i r s = walk_along s (chain_of i r s)
