-- Activations and their frames: the sizes and addresses of frames, what is in them, and how activations come and go. Each
-- activation has a frame, a stretch of the stack. Activations stand youngest first; a list of them stands for its youngest,
-- whose older ones follow.
use Rattle.std.specs.Prelude.{ℕ, ◌+◌, ◌-◌, Bool, nat_le, List, [], ◌∷◌, ◌++◌, length, map, drop, replicate, sum_by, slice_get, slice_index_or, Option, Some, None}
use Rattle.cmm_program.specs.declared.procedure.Proc.{Proc}
use Rattle.cmm_program.specs.declared.procedure.Site.{Site}
use Rattle.cmm_program.specs.declared.placement.PlaceRow.{PlaceRow}
use Rattle.cmm_program.specs.Errors.{with_some}
use Rattle.cmm_program.specs.Layout.{row_of, stackdata_labels, stackdata_size}
use Rattle.cmm_program.specs.Memory.{Room}
use Rattle.cmm_program.specs.State.{Setting, Activation, Store, stack_top}

abbrev pub procedure_at : Setting → ℕ → Option Proc
procedure_at s n = slice_get s.program.procs n

abbrev pub place_row : Setting → ℕ → PlaceRow
place_row s n = row_of s.placement n

-- ---- sizes and addresses

abbrev pub frame_size : Setting → Activation → ℕ
frame_size s a = (place_row s a.procedure).frame

abbrev pub sum_of_sizes : Setting → List Activation → ℕ
sum_of_sizes s activations = sum_by (frame_size s) activations

abbrev pub fits_stack : Setting → List Activation → Bool
fits_stack s activations = nat_le (sum_of_sizes s activations) s.stack_size

-- the address of the youngest frame
abbrev pub frame_address : Setting → List Activation → ℕ
frame_address s activations = stack_top s - sum_of_sizes s activations

-- what the offset of a part of the youngest frame says
abbrev pub part_address : Setting → List Activation → List ℕ → ℕ → ℕ
part_address s activations offsets n = frame_address s activations + slice_index_or offsets n 0

-- the value of a continuation: the address of its pair
abbrev pub continuation_value : Setting → List Activation → ℕ → ℕ
continuation_value s [] k = 0
continuation_value s (a ∷ older) k = part_address s (a ∷ older) (place_row s a.procedure).pairs k

abbrev pub stackdata_address : Setting → List Activation → ℕ → ℕ
stackdata_address s [] n = 0
stackdata_address s (a ∷ older) n = part_address s (a ∷ older) (place_row s a.procedure).stack n

-- ---- stackdata

-- The offset of a procedure's stackdata in its frame, which that of its first label shows: on a valid placement that is the
-- label's place more. Without a label its stackdata has no addresses.
abbrev pub stackdata_offset : Proc → PlaceRow → Option ℕ
stackdata_offset p row = with_some (slice_get row.stack 0) (λ offset. with_some (slice_get (stackdata_labels p.stack) 0) (λ place. Some (offset - place)))

abbrev pub room_of : ℕ → Proc → PlaceRow → Room
room_of frame p row = elim (stackdata_offset p row) [
  | Some offset ↦ record { address = frame + offset; cells = replicate (stackdata_size p.stack) None }
  | None ↦ record { address = frame; cells = [] }
]

-- ---- sites and continuations

-- a suspended activation: with its procedure, and its site with the site's number
pub record Suspended : Type 0 where
  pub activation : Activation
  pub procedure : Proc
  pub number : ℕ
  pub site : Site

-- the youngest of these activations, if it is suspended
abbrev pub suspended_at : Setting → List Activation → Option Suspended
suspended_at s [] = None
suspended_at s (a ∷ older) = with_some a.site (λ n. with_some (procedure_at s a.procedure) (λ p. with_some (slice_get p.sites n) (λ site.
    Some record { activation = a; procedure = p; number = n; site = site })))

abbrev pub parameters : Proc → ℕ → List ℕ
parameters p k = elim (slice_get p.conts k) [ Some c ↦ c.params | None ↦ [] ]

-- the continuations to which the site of the youngest activation also cuts
abbrev pub site_cuts : Setting → List Activation → List ℕ
site_cuts s activations = elim (suspended_at s activations) [ Some a ↦ a.site.cuts | None ↦ [] ]

-- ---- coming and going

-- a new activation: its formals as passed, and its other variables 0
abbrev pub new_activation : ℕ → Proc → List ℕ → Activation
new_activation n p values = record {
  procedure = n;
  variables = values ++ map (λ v. 0) (drop (length values) p.vars);
  site = None;
}

-- the youngest activation suspended at a site, or going on
abbrev pub with_site : Option ℕ → List Activation → List Activation
with_site site [] = []
with_site site (a ∷ older) = record a { site = site } ∷ older

-- without the youngest activations, n
abbrev pub without : ℕ → Store → Store
without n store = record store { activations = drop n store.activations; memory = record store.memory { rooms = drop n store.memory.rooms } }
