-- The store of the C-- machine as a program whose activations can be asked, and the answer of its client to a yield
-- (C-- Language Specification 2.0, the run-time interface).
use Rattle.std.specs.Prelude.{ℕ, zero, suc, ◌+◌, ◌%◌, ◌==◌, ◌&&◌, ◌||◌, nat_le, bytes_eq, slice_set, Bool, true, false, List, [], ◌∷◌, ◌++◌, drop, find, length, Option, Some, None}
use Rattle.cmm_script.specs.Walk as walk
use Rattle.cmm_program.specs.declared.procedure.Proc.{Proc}
use Rattle.cmm_program.specs.declared.procedure.Site.{Site}
use Rattle.cmm_program.specs.declared.program.Label.{Label}
use Rattle.cmm_program.specs.Errors.{with_some}
use Rattle.cmm_program.specs.Layout.{label_address}
use Rattle.cmm_program.specs.Memory.{Room, with_bytes}
use Rattle.cmm_program.specs.State.{Setting, Activation, Store, Ended, Stopped}
use Rattle.cmm_program.specs.Frames.{Suspended, suspended_at, continuation_value, without}
use Rattle.cmm_program.specs.Exits as exits
use Rattle.cmm_program.specs.Exits.{Landing, continuation_exit}
use Rattle.cmm_program.specs.Performing.{Transfer, Away, Over}
use Rattle.cmm_program.specs.Walks.{site_shown}
use Rattle.cmm_program.specs.Asking.{Chain, Exit, Askable}
use Rattle.cmm_program.specs.Commands as client
use Rattle.cmm_program.specs.Commands.{Answer, answer_to}

-- ---- activations

-- a suspended activation as it is found: how many are younger, its procedure, and its site with the site's number
pub record Located : Type 0 where
  pub younger : ℕ
  pub procedure : Proc
  pub number : ℕ
  pub site : Site

abbrev pub located : ℕ → Suspended → Located
located younger a = record { younger = younger; procedure = a.procedure; number = a.number; site = a.site }

-- the youngest of these activations, if it is suspended, where n more are younger
abbrev pub first_located : Setting → ℕ → List Activation → Option Located
first_located s younger activations = with_some (suspended_at s activations) (λ a. Some (located younger a))

-- all of them, as far as they are suspended
abbrev pub all_located : Setting → ℕ → List Activation → List Located
all_located s younger [] = []
all_located s younger (a ∷ older) = elim (first_located s younger (a ∷ older)) [
  | Some here ↦ here ∷ all_located s (suc younger) older
  | None ↦ []
]

-- but for n of the youngest; the chain never breaks
abbrev pub chain_behind : Setting → ℕ → Store → Chain Located
chain_behind s younger store = record { activations = all_located s younger (drop younger store.activations); broken = None }

abbrev pub values_at : List Activation → List ℕ
values_at [] = []
values_at (a ∷ older) = a.variables

abbrev pub located_shown : Setting → Store → Located → walk.Activation
located_shown s store a = site_shown s a.procedure a.number a.site (values_at (drop a.younger store.activations))

-- the activation that has n younger ones, if there is one
abbrev pub at_number : Setting → ℕ → Store → Option Located
at_number s n store = first_located s n (drop n store.activations)

-- ---- what a client changes

abbrev pub with_value : ℕ → ℕ → ℕ → List Activation → List Activation
with_value cursor n value [] = []
with_value zero n value (a ∷ older) = record a { variables = slice_set a.variables n value } ∷ older
with_value (suc cursor) n value (a ∷ older) = a ∷ with_value cursor n value older

abbrev pub with_variable : Store → Located → ℕ → ℕ → Store
with_variable store a n value = record store { activations = with_value a.younger n value store.activations }

abbrev pub is_linked : List ℕ → List (List ℕ) → Bool
is_linked name [] = false
is_linked name (link ∷ links) = bytes_eq name link || is_linked name links

-- the data label that is exported under a name
abbrev pub linked_label : List ℕ → List Label → Option Label
linked_label name [] = None
linked_label name (l ∷ ls) = elim (is_linked name l.links) [ true ↦ Some l | false ↦ linked_label name ls ]

-- bytes may be written from an address on where it is a multiple of 8 and all of them lie in the room of data
abbrev pub may_poke : Room → ℕ → ℕ → Bool
may_poke room address count = (address % 8 == 0) && nat_le room.address address && nat_le (address + count) (room.address + length room.cells)

abbrev pub poked : Store → ℕ → List ℕ → Option Store
poked store address bytes = elim (may_poke store.memory.data_room address (length bytes)) [
  | true ↦ Some record store { memory = with_bytes store.memory address bytes }
  | false ↦ None
]

abbrev pub with_data : Setting → Store → List ℕ → ℕ → List ℕ → Option Store
with_data s store name offset bytes = with_some (linked_label name s.program.labels) (λ l. poked store (label_address s.program l + offset) bytes)

-- ---- exits

-- n of the youngest activations are gone from a store, and control lands
pub record Landed : Type 0 where
  pub gone : ℕ
  pub store : Store
  pub landing : Landing

-- an exit of this activation, once the younger ones are gone
abbrev pub exit_to : Store → Located → exits.Exit → Exit Landed
exit_to store a e = record { widths = e.widths; resumed = λ values. record { gone = a.younger; store = without a.younger store; landing = e.landing values } }

abbrev pub exit_by : Store → Located → Option exits.Exit → Option (Exit Landed)
exit_by store a exit = with_some exit (λ e. Some (exit_to store a e))

-- the continuation of a value, to which the activation's site also cuts: its value is the address of its pair in the activation's frame
abbrev pub cut_number : Setting → List Activation → Located → ℕ → Option ℕ
cut_number s activations a value = find (λ k. continuation_value s (drop a.younger activations) k == value) a.site.cuts

abbrev pub cut_exit : Setting → Store → Located → ℕ → Option (Exit Landed)
cut_exit s store a value = with_some (cut_number s store.activations a value) (λ k. exit_by store a (continuation_exit a.procedure k))

-- ---- the store as a program that can be asked

abbrev pub store_askable : Setting → Askable Located Store Landed
store_askable s = record {
  chain = chain_behind s 0;
  running = chain_behind s 0;
  older = λ store a. chain_behind s (suc a.younger) store;
  shown = located_shown s;
  with_variable = with_variable;
  with_data = with_data s;
  return_exit = λ store a n. exit_by store a (exits.return_exit a.procedure a.site n);
  unwind_exit = λ store a n. exit_by store a (exits.unwind_exit a.procedure a.site n);
  cut_exit = cut_exit s;
}

-- ---- the answer to a yield

abbrev pub with_log : List ℕ → Store → Store
with_log log store = record store { log = log }

abbrev pub stopped : Store → Transfer
stopped store = Over 0 record store { status = Ended Stopped }

-- how the machine goes on, with this log before the answer's lines; the chain of a store never breaks
abbrev pub left_by : List ℕ → Answer Store Landed → Transfer
left_by log answer = elim answer.left [
  | client.Running r ↦ Away r.gone (with_log (log ++ answer.text) r.store) r.landing
  | client.Stopped store ↦ stopped (with_log (log ++ answer.text) store)
  | client.Torn b store ↦ stopped (with_log (log ++ answer.text) store)
]

-- the client's answer to a yield of these values
abbrev pub answered : Setting → List ℕ → Store → Transfer
answered s yielded store = left_by store.log (answer_to (store_askable s) s.script yielded store)
