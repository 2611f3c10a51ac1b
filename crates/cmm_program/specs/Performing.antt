-- Orders done to the store: what each changes, and how control goes on (C-- Language Specification 2.0, statements; Ramsey
-- and Peyton Jones, PLDI 2000, the abstract machine).
use Rattle.std.specs.Prelude.{ℕ, suc, ◌%◌, ◌^◌, ◌-◌, ◌==◌, true, false, List, [], ◌∷◌, ◌++◌, map, take, length, find, Ok, Err, Option, Some, None}
use Rattle.cmm_words.specs.declared.width.Width.TheVariants.{W64}
use Rattle.cmm_script.specs.Lines.{yield_line}
use Rattle.cmm_program.specs.declared.placement.PlaceRow.{PlaceRow}
use Rattle.cmm_program.specs.Errors.{Tried, NotAProcedure, WrongValues, WrongAlternates, NeverReturns, NoSuchCut, EndOfBody, and_then, provided, given, with_some}
use Rattle.cmm_program.specs.State.{Setting, Activation, Store, Waiting, Ended, Done}
use Rattle.cmm_program.specs.Frames.{procedure_at, continuation_value, suspended_at, site_cuts, with_site, without}
use Rattle.cmm_program.specs.Orders.{Word, Order, Nothing, Assign, Choose, PutByte, GetByte, Call, Yield, Jump, Return, Cut}
use Rattle.cmm_program.specs.Writes.{assigned, put_all}
use Rattle.cmm_program.specs.Exits.{Landing, Called, Instead, Exit, return_exit, continuation_exit, have_widths, numbers}

-- how control goes on after an order
pub data Transfer : Type 0 where
  -- the youngest activation goes on, by the way of this number; 0 where there is only one
  Stay : ℕ → Store → Transfer
  -- the youngest activation waits at its site, and the state for the client
  Wait : Store → Transfer
  -- n of the youngest activations are gone, and control lands
  Away : ℕ → Store → Landing → Transfer
  -- n of the youngest activations are gone, and the run has ended
  Over : ℕ → Store → Transfer

-- ---- calls and jumps

-- the procedure whose code has this address
abbrev pub procedure_from : ℕ → ℕ → List PlaceRow → Option ℕ
procedure_from n address [] = None
procedure_from n address (row ∷ rows) = elim (row.code == address) [ true ↦ Some n | false ↦ procedure_from (suc n) address rows ]

-- the procedure at an address is entered with values, of which it has just the widths
abbrev pub entering : Setting → ℕ → List Word → (ℕ → Tried Transfer) → Tried Transfer
entering s address words next =
    given (procedure_from 0 address s.placement.rows) NotAProcedure (λ n.
    given (procedure_at s n) NotAProcedure (λ p.
    provided (have_widths (map (λ v. v.width) (take p.formals p.vars)) words) WrongValues (next n)))

-- ---- returns

-- by an exit, if its widths are those of the values
abbrev pub leaving : ℕ → Store → Exit → List Word → Tried Transfer
leaving gone store exit words = provided (have_widths exit.widths words) WrongValues (Ok (Away gone store (exit.landing (numbers words))))

-- The oldest activation is called from a site that has one result, of 64 bits, and no alternate exit.
abbrev pub after_the_oldest : ℕ → ℕ → List Word → Store → Tried Transfer
after_the_oldest exit alternates words store =
    provided (alternates == 0) WrongAlternates
    (provided (have_widths (W64 ∷ []) words) WrongValues
    (elim (numbers words) [
      | v ∷ _ ↦ Ok (Over 1 (record (without 1 store) { status = Ended (Done v) }))
      | [] ↦ Err WrongValues
    ]))

-- to the site of the youngest of the older activations
abbrev pub returned : Setting → ℕ → ℕ → List Word → List Activation → Store → Tried Transfer
returned s exit alternates words [] store = after_the_oldest exit alternates words store
returned s exit alternates words older store =
    given (suspended_at s older) WrongAlternates (λ a.
    provided (alternates == length a.site.returns) WrongAlternates
    (given (return_exit a.procedure a.site exit) NeverReturns (λ e. leaving 1 (without 1 store) e words)))

-- ---- cuts

-- a continuation that a present activation lists: how many activations are younger, and its procedure and number
pub record Found : Type 0 where
  pub younger : ℕ
  pub procedure : ℕ
  pub continuation : ℕ

-- The first activation, youngest first, that lists a continuation of this value. The youngest lists `own`, an older
-- one what its site also cuts to.
abbrev pub cut_among : Setting → ℕ → List ℕ → ℕ → List Activation → Option Found
cut_among s younger own value [] = None
cut_among s younger own value (a ∷ older) = elim (find (λ k. continuation_value s (a ∷ older) k == value) own) [
  | Some k ↦ Some record { younger = younger; procedure = a.procedure; continuation = k }
  | None ↦ cut_among s (suc younger) (site_cuts s older) value older
]

abbrev pub found_exit : Setting → Found → Option Exit
found_exit s found = with_some (procedure_at s found.procedure) (λ p. continuation_exit p found.continuation)

-- ---- input

-- the next byte of the input, or all ones at its end, where nothing is taken
abbrev pub next_byte : List ℕ → ℕ
next_byte [] = 2 ^ 64 - 1
next_byte (byte ∷ rest) = byte

abbrev pub one_taken : Store → Store
one_taken store = elim store.input [
  | [] ↦ store
  | byte ∷ rest ↦ record store { input = rest; taken = store.taken ++ byte ∷ [] }
]

-- ---- every order

abbrev pub perform : Setting → Order → Store → Tried Transfer
perform s Nothing store = Ok (Stay 0 store)
perform s (Assign ws) store = and_then (put_all ws store) (λ after. Ok (Stay 0 after))
perform s (Choose way) store = Ok (Stay way store)
perform s (PutByte value) store = Ok (Stay 0 record store { output = store.output ++ value % 256 ∷ [] })
perform s (GetByte target) store = Ok (Stay 0 (assigned target (next_byte store.input) (one_taken store)))
perform s (Call site address words) store = entering s address words (λ n. Ok (Away 0 store (Called site n (numbers words))))
perform s (Yield site values) store = Ok (Wait record store {
  activations = with_site (Some site) store.activations;
  log = store.log ++ yield_line values;
  status = Waiting values;
})
perform s (Jump address words) store = entering s address words (λ n. Ok (Away 1 (without 1 store) (Instead n (numbers words))))
perform s (Return exit alternates words) store = elim store.activations [
  | [] ↦ Err EndOfBody
  | a ∷ older ↦ returned s exit alternates words older store
]
perform s (Cut value words own) store =
    given (cut_among s 0 own value store.activations) NoSuchCut (λ found.
    given (found_exit s found) NoSuchCut (λ exit. leaving found.younger (without found.younger store) exit words))
