-- Programs whose activations can be asked: what a client of the run-time system sees of a stopped program, and what it can change
-- (C-- Language Specification 2.0, the run-time interface). The commands are said over these alone, so that they mean the same for
-- every machine that is one.
use Rattle.std.specs.Prelude.{ℕ, List, [], ◌∷◌, Option, Some, None}
use Rattle.cmm_words.specs.declared.width.Width.{Width}
use Rattle.cmm_script.specs.Walk.{Activation}

-- where a walk cannot go on: no activation has this return address at this frame
pub record Break : Type 0 where
  pub frame : ℕ
  pub address : ℕ

-- activations, youngest first, and where the chain of their frames breaks behind them, if it does
pub record Chain (A : Type 0) : Type 0 where
  pub activations : List A
  pub broken : Option Break

-- what a client looks at: an activation, if there is one
pub record Cursor (A : Type 0) : Type 0 where
  pub activation : Option A

-- an exit: the widths of what takes its values, and where the program goes on once they are brought
pub record Exit (R : Type 0) : Type 0 where
  pub widths : List Width
  pub resumed : List ℕ → R

-- A stopped program is an S, each of its activations an A, and one that goes on an R.
pub record Askable (A S R : Type 0) : Type 0 where
  -- all suspended activations of the thread at the cursor, and of the one that runs: so far both are one
  pub chain : S → Chain A
  pub running : S → Chain A
  -- those that are older than one
  pub older : S → A → Chain A
  -- what a walk shows of one
  pub shown : S → A → Activation
  -- once a variable has a value
  pub with_variable : S → A → ℕ → ℕ → S
  -- once these bytes are written so far behind an exported data label, where such a label is and they may be
  pub with_data : S → List ℕ → ℕ → List ℕ → Option S
  -- the exits of the activation's site: as a return of what it calls takes them, by number; to unwind to, by number; and the one
  -- that a cut to a value takes, where the site also cuts to the continuation of that value
  pub return_exit : S → A → ℕ → Option (Exit R)
  pub unwind_exit : S → A → ℕ → Option (Exit R)
  pub cut_exit : S → A → ℕ → Option (Exit R)

-- at the first activation of a chain
abbrev pub at_youngest : {A : Type 0} → Chain A → Cursor A
at_youngest chain = record { activation = elim chain.activations [ [] ↦ None | a ∷ older ↦ Some a ] }
