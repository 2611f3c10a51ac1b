-- Where a machine goes on. A machine is its control and the store: two machines with the same acts do the same.
use Rattle.std.specs.Prelude.{ℕ, List, [], ◌∷◌, drop, Ok, Err, Some, None}
use Rattle.cmm_program.specs.Errors.{and_then}
use Rattle.cmm_program.specs.State.{Setting, Store, Status, Running, Ended, Wrong, StackLimit}
use Rattle.cmm_program.specs.Acts.{Act, Nothing, evaluated}
use Rattle.cmm_program.specs.Writes.{reads_of}
use Rattle.cmm_program.specs.Exits.{Landing, Called, Instead, Back, Resumed, land}
use Rattle.cmm_program.specs.Performing.{Transfer, Stay, Wait, Away, Over, perform}

-- A control C says where one activation stands.
pub record Control (C : Type 0) : Type 0 where
  -- what it does next
  pub act : C → Act
  -- where it goes on after that, by the way of this number
  pub on : ℕ → C → C
  -- where it waits at its site
  pub later : C → C
  -- where it goes on behind its site
  pub back : C → C
  -- where it goes on at a continuation
  pub resume : ℕ → C → C
  -- where a new activation of a procedure begins
  pub begin : ℕ → C

-- a state: the store, and where each activation stands, youngest first
pub record State (C : Type 0) : Type 0 where
  pub store : Store
  pub controls : List C

-- where the activations stand after a landing
abbrev pub arrived : {C : Type 0} → Control C → Landing → List C → List C
arrived k (Called site n values) [] = k.begin n ∷ []
arrived k (Called site n values) (c ∷ cs) = k.begin n ∷ k.later c ∷ cs
arrived k (Instead n values) cs = k.begin n ∷ cs
arrived k (Back values) [] = []
arrived k (Back values) (c ∷ cs) = k.back c ∷ cs
arrived k (Resumed n values) [] = []
arrived k (Resumed n values) (c ∷ cs) = k.resume n c ∷ cs

abbrev pub over : Status → Store → Store
over status store = record store { status = status }

-- a landing done; the run ends at the stack limit where the stack is too small
abbrev pub landed : {C : Type 0} → Control C → Setting → Landing → Store → List C → State C
landed k s landing store controls = elim (land s landing store) [
  | Some after ↦ record { store = over Running after; controls = arrived k landing controls }
  | None ↦ record { store = over (Ended StackLimit) store; controls = controls }
]

abbrev pub moved : {C : Type 0} → (C → C) → List C → List C
moved f [] = []
moved f (c ∷ cs) = f c ∷ cs

-- what is made of a state by how control goes on
abbrev pub transferred : {C : Type 0} → Control C → Setting → Transfer → List C → State C
transferred k s (Stay way store) controls = record { store = store; controls = moved (k.on way) controls }
transferred k s (Wait store) controls = record { store = store; controls = moved k.later controls }
transferred k s (Away gone store landing) controls = landed k s landing store (drop gone controls)
transferred k s (Over gone store) controls = record { store = store; controls = drop gone controls }

-- what the youngest activation does
abbrev pub next_act : {C : Type 0} → Control C → List C → Act
next_act k [] = Nothing
next_act k (c ∷ cs) = k.act c

-- one step of a running state
abbrev pub ran : {C : Type 0} → Control C → Setting → State C → State C
ran k s st = elim (and_then (evaluated (reads_of s st.store) (next_act k st.controls)) (λ order. perform s order st.store)) [
  | Ok transfer ↦ transferred k s transfer st.controls
  | Err error ↦ record st { store = over (Wrong error) st.store }
]
