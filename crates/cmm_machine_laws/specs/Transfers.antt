-- How control goes on after a call, a jump, a return and a cut, by cases: where it goes, and what has to hold for that, or an
-- unchecked error. The laws are of orders and the store alone, so they hold of a machine with any control.
use Rattle.std.specs.Prelude.{◌≡◌, ◌≢◌, ℕ, zero, suc, ◌<◌, ◌==◌, true, List, [], ◌∷◌, map, take, drop, length, Ok, Err, Some}
use Rattle.std.specs.List.{All, Contains, find}
use Rattle.cmm_words.specs.declared.width.Width.TheVariants.{W64}
use Rattle.cmm_program.specs.declared.procedure.Proc.{Proc}
use Rattle.cmm_program.specs.Errors.{Tried, UncheckedError}
use Rattle.cmm_program.specs.Exits.{Called, Instead, Exit, have_widths, numbers, return_exit}
use Rattle.cmm_program.specs.Frames.{Suspended, continuation_value, procedure_at, site_cuts, suspended_at, without}
use Rattle.cmm_program.specs.Orders.{Word, Call, Jump, Return, Cut}
use Rattle.cmm_program.specs.Performing.{Transfer, Away, Over, Found, cut_among, found_exit, perform, procedure_from}
use Rattle.cmm_program.specs.State.{Setting, Activation, Store, Ended, Done}

-- ---- entering

-- control goes on at a procedure whose code has this address, with words of the widths of its formals
pub data Enters (s : Setting) (address : ℕ) (words : List Word) (next : ℕ → Transfer) : Tried Transfer → Type 0 where
  EntersAt : (n : ℕ) (p : Proc) → procedure_from 0 address s.placement.rows ≡ Some n → procedure_at s n ≡ Some p →
      have_widths (map (λ v. v.width) (take p.formals p.vars)) words ≡ true → Enters s address words next (Ok (next n))
  EntersNot : (error : UncheckedError) → Enters s address words next (Err error)

abbrev pub CallEnters : Type 0
CallEnters = (s : Setting) (store : Store) (site address : ℕ) (words : List Word) →
    Enters s address words (λ n. Away 0 store (Called site n (numbers words))) (perform s (Call site address words) store)

abbrev pub JumpEnters : Type 0
JumpEnters = (s : Setting) (store : Store) (address : ℕ) (words : List Word) →
    Enters s address words (λ n. Away 1 (without 1 store) (Instead n (numbers words))) (perform s (Jump address words) store)

-- ---- leaving

-- control goes on at the site of the youngest of the older activations, by one of its exits, or the oldest one ends the run
pub data Leaves (s : Setting) (store : Store) (exit alternates : ℕ) (words : List Word) (older : List Activation) : Tried Transfer → Type 0 where
  LeavesTo : (a : Suspended) (e : Exit) → suspended_at s older ≡ Some a → alternates ≡ length a.site.returns →
      return_exit a.procedure a.site exit ≡ Some e → have_widths e.widths words ≡ true →
      Leaves s store exit alternates words older (Ok (Away 1 (without 1 store) (e.landing (numbers words))))
  Ends : (value : ℕ) → older ≡ [] → alternates ≡ 0 → have_widths (W64 ∷ []) words ≡ true → numbers words ≡ value ∷ [] →
      Leaves s store exit alternates words older (Ok (Over 1 (record (without 1 store) { status = Ended (Done value) })))
  LeavesNot : (error : UncheckedError) → Leaves s store exit alternates words older (Err error)

abbrev pub ReturnLeaves : Type 0
ReturnLeaves = (s : Setting) (store : Store) (exit alternates : ℕ) (words : List Word) (a : Activation) (older : List Activation) →
    store.activations ≡ a ∷ older → Leaves s store exit alternates words older (perform s (Return exit alternates words) store)

-- ---- cutting

-- control goes on at the continuation that the search finds, with words of the widths of its parameters
pub data Cuts (s : Setting) (store : Store) (value : ℕ) (words : List Word) (own : List ℕ) : Tried Transfer → Type 0 where
  CutsTo : (found : Found) (e : Exit) → cut_among s 0 own value store.activations ≡ Some found → found_exit s found ≡ Some e →
      have_widths e.widths words ≡ true →
      Cuts s store value words own (Ok (Away found.younger (without found.younger store) (e.landing (numbers words))))
  CutsNot : (error : UncheckedError) → Cuts s store value words own (Err error)

abbrev pub CutCuts : Type 0
CutCuts = (s : Setting) (store : Store) (value : ℕ) (words : List Word) (own : List ℕ) →
    Cuts s store value words own (perform s (Cut value words own) store)

-- ---- what the search for a cut finds

-- what the n-th of some activations lists: the youngest its own continuations, an older one those to which its site also cuts
abbrev pub listed_by : Setting → List ℕ → ℕ → List Activation → List ℕ
listed_by s own n activations = elim n [ zero ↦ own | suc _ ↦ site_cuts s activations ]

-- a continuation of this value, which the n-th of some activations lists
pub record IsListed (s : Setting) (own : List ℕ) (value : ℕ) (activations : List Activation) (n : ℕ) (found : Found) : Type 0 where
  pub activation : Activation
  pub older : List Activation
  pub stands : drop n activations ≡ activation ∷ older
  pub procedure : found.procedure ≡ activation.procedure
  pub listed : Contains (listed_by s own n (activation ∷ older)) found.continuation
  pub has_value : continuation_value s (activation ∷ older) found.continuation ≡ value
  -- no other stands before it in that list
  pub first : find (λ k. continuation_value s (activation ∷ older) k == value) (listed_by s own n (activation ∷ older)) ≡ Some found.continuation

-- the search finds such a one, of an activation that has as many younger ones as it says
abbrev pub SearchFinds : Type 0
SearchFinds = (s : Setting) (own : List ℕ) (value : ℕ) (activations : List Activation) (found : Found) →
    cut_among s 0 own value activations ≡ Some found → IsListed s own value activations found.younger found

-- none of n of the youngest activations lists a continuation of this value
abbrev pub NoneLists : Setting → List ℕ → ℕ → List Activation → ℕ → Type 0
NoneLists s own value activations count = (n : ℕ) (a : Activation) (older : List Activation) → n < count → drop n activations ≡ a ∷ older →
    All (λ k. continuation_value s (a ∷ older) k ≢ value) (listed_by s own n (a ∷ older))

-- so it is the first: none of the younger ones lists one
abbrev pub SearchFindsFirst : Type 0
SearchFindsFirst = (s : Setting) (own : List ℕ) (value : ℕ) (activations : List Activation) (found : Found) →
    cut_among s 0 own value activations ≡ Some found → NoneLists s own value activations found.younger
