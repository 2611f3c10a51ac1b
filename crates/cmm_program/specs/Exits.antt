-- The exits of a call site, and landings: where control arrives in an activation, with values for it
-- (C-- Language Specification 2.0, call-site annotations).
use Rattle.std.specs.Prelude.{ℕ, ◌==◌, ◌&&◌, not, nat_lt, Bool, true, false, List, [], ◌∷◌, map, length, slice_get, slice_index_or, Option, Some, None}
use Rattle.cmm_words.specs.declared.width.Width.{Width}
use Rattle.cmm_words.specs.declared.width.Width.TheVariants.{W64}
use Rattle.cmm_words.specs.Widths.{bits}
use Rattle.cmm_program.specs.declared.procedure.Proc.{Proc}
use Rattle.cmm_program.specs.declared.procedure.Site.{Site}
use Rattle.cmm_program.specs.declared.procedure.Target.{Target}
use Rattle.cmm_program.specs.declared.procedure.Target.TheVariants.{Variable}
use Rattle.cmm_program.specs.Errors.{with_some}
use Rattle.cmm_program.specs.State.{Setting, Activation, Store}
use Rattle.cmm_program.specs.Frames.{procedure_at, place_row, frame_address, fits_stack, room_of, new_activation, with_site, suspended_at, parameters}
use Rattle.cmm_program.specs.Orders.{Word, target_width}
use Rattle.cmm_program.specs.Writes.{all_assigned}

-- where control arrives, with the values that it brings
pub data Landing : Type 0 where
  -- in a new activation of a procedure, which the youngest one calls at a site
  Called : ℕ → ℕ → List ℕ → Landing
  -- in a new activation of a procedure, in place of one that is gone, or as the first
  Instead : ℕ → List ℕ → Landing
  -- in the youngest activation, behind its site
  Back : List ℕ → Landing
  -- in the youngest activation, at one of its continuations
  Resumed : ℕ → List ℕ → Landing

-- an exit: the widths of what takes its values, and where it leads
pub record Exit : Type 0 where
  pub widths : List Width
  pub landing : List ℕ → Landing

abbrev pub variable_width : Proc → ℕ → Width
variable_width p n = slice_index_or (map (λ v. v.width) p.vars) n W64

abbrev pub normal_exit : Site → Exit
normal_exit site = record { widths = map target_width site.results; landing = Back }

-- to a continuation of a procedure
abbrev pub continuation_exit : Proc → ℕ → Option Exit
continuation_exit p k = with_some (slice_get p.conts k) (λ c. Some record { widths = map (variable_width p) c.params; landing = Resumed k })

-- The exits of a return, by number: first the alternate ones, and then the normal one, if there is one.
abbrev pub return_exit : Proc → Site → ℕ → Option Exit
return_exit p site n = elim (nat_lt n (length site.returns)) [
  | true ↦ with_some (slice_get site.returns n) (continuation_exit p)
  | false ↦ elim ((n == length site.returns) && not site.never) [ true ↦ Some (normal_exit site) | false ↦ None ]
]

abbrev pub unwind_exit : Proc → Site → ℕ → Option Exit
unwind_exit p site n = with_some (slice_get site.unwinds n) (continuation_exit p)

-- whether values have just these widths
abbrev pub have_widths : List Width → List Word → Bool
have_widths [] [] = true
have_widths (w ∷ ws) (v ∷ vs) = (bits w == bits v.width) && have_widths ws vs
have_widths _ _ = false

abbrev pub numbers : List Word → List ℕ
numbers words = map (λ w. w.value) words

-- ---- what a landing does to the store

-- a new activation of a procedure above these, with its stackdata
abbrev pub begun : Setting → ℕ → Proc → List ℕ → List Activation → Store → Store
begun s n p values older store = let activations = new_activation n p values ∷ older in record store {
  activations = activations;
  memory = record store.memory { rooms = room_of (frame_address s activations) p (place_row s n) ∷ store.memory.rooms };
}

-- unless the stack is too small for it
abbrev pub entered : Setting → ℕ → List ℕ → List Activation → Store → Option Store
entered s n values older store = with_some (procedure_at s n) (λ p.
    elim (fits_stack s (new_activation n p values ∷ older)) [ true ↦ Some (begun s n p values older store) | false ↦ None ])

-- what takes the values at the normal exit of the youngest activation's site, and at one of its continuations
abbrev pub results_of : Setting → List Activation → List Target
results_of s activations = elim (suspended_at s activations) [ Some a ↦ a.site.results | None ↦ [] ]

abbrev pub parameters_of : Setting → ℕ → List Activation → List Target
parameters_of s k [] = []
parameters_of s k (a ∷ older) = elim (procedure_at s a.procedure) [
  | Some p ↦ map (λ n. Variable n (variable_width p n)) (parameters p k)
  | None ↦ []
]

-- the youngest activation goes on, with its values assigned
abbrev pub gone_on : List Target → List ℕ → Store → Store
gone_on targets values store = let after = all_assigned targets values store in record after { activations = with_site None after.activations }

-- the store after a landing, or none where the stack is too small
abbrev pub land : Setting → Landing → Store → Option Store
land s (Called site n values) store = entered s n values (with_site (Some site) store.activations) store
land s (Instead n values) store = entered s n values store.activations store
land s (Back values) store = Some (gone_on (results_of s store.activations) values store)
land s (Resumed k values) store = Some (gone_on (parameters_of s k store.activations) values store)
