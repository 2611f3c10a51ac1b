-- States of two controls whose activations stand at places that belong together, what their steps cost, and laws of the first one's states.
use Rattle.std.specs.Prelude.{◌≡◌, ℕ, ◌+◌, ◌≤◌, List, [], ◌∷◌, Ok}
use Rattle.std.specs.List.{AllZip}
use Rattle.cmm_program.specs.Control.{Control, State}
use Rattle.cmm_program.specs.Machine.{step_of}
use Rattle.cmm_program.specs.Performing.{Stay}
use Rattle.cmm_program.specs.State.{Setting, Status, Store, Running, Waiting, Ended, Wrong}
use Rattle.cmm_rewriting.specs.Places.{comes_to}

-- the rank of the youngest activation
abbrev pub rank_of : {C : Type 0} → (C → ℕ) → State C → ℕ
rank_of rank st = elim st.controls [ [] ↦ 0 | c ∷ _ ↦ rank c ]

module _ {C D : Type 0} (P : Store → C → D → Type 0) (W : C → D → Type 0) where
  -- by the status of the store; none has gone wrong
  abbrev pub StandAs : Store → Status → List C → List D → Type 0
  StandAs store Running [] [] = Unit {0}
  StandAs store Running (c ∷ cs) (d ∷ ds) = P store c d × AllZip W cs ds
  StandAs store Running _ _ = ⊥
  StandAs store (Waiting values) cs ds = AllZip W cs ds
  StandAs store (Ended outcome) cs ds = AllZip W cs ds
  StandAs store (Wrong error) cs ds = ⊥

  pub record Together (x : State C) (y : State D) : Type 0 where
    pub store : y.store ≡ x.store
    pub stands : StandAs x.store x.store.status x.controls y.controls

  -- and a law holds of the first, whose youngest activation has this rank
  pub record TogetherAt (H : State C → Type 0) (rank : C → ℕ) (left : ℕ) (x : State C) (y : State D) : Type 0 where
    pub together : Together x y
    pub holds : H x
    pub ranked : rank_of rank x ≡ left

  -- Costs of steps, a and b, beside costs by place, `before` and `now`: where a place of the second costs no more than one of the first, and what may come behind it, its step
  -- costs no more. A quiet step of a chain costs what its place does. And no step costs more where nobody runs; one that waits may go on by a chain.
  pub record AreCosts (l : Control D) (s : Setting) (before : C → ℕ) (now : D → ℕ) (more : ℕ) (a : State C → ℕ) (b : State D → ℕ) : Type 0 where
    pub runs : (store : Store) (c : C) (cs : List C) (d : D) (ds : List D) → store.status ≡ Running → (extra : ℕ) → extra ≤ more → now d + extra ≤ before c →
        b record { store = store; controls = d ∷ ds } + extra ≤ a record { store = store; controls = c ∷ cs }
    pub alone : (store : Store) (d : D) (ds : List D) (way : ℕ) → store.status ≡ Running → comes_to s store (l.act d) ≡ Ok (Stay way store) → now d ≤ more →
        b record { store = store; controls = d ∷ ds } ≤ now d
    pub waits : (x : State C) (y : State D) (values : List ℕ) → Together x y → x.store.status ≡ Waiting values → b y + more ≤ a x
    pub rests : (x : State C) (y : State D) → Together x y → (x.store.status ≡ Running → x.controls ≡ []) → b y ≤ a x

-- a law of the states of a machine, from which follows what is known of the store where one runs
pub record IsLaw {C : Type 0} (k : Control C) (s : Setting) (H : State C → Type 0) (I : Store → C → Type 0) : Type 0 where
  pub next : (st : State C) → H st → H (step_of k s st)
  pub known : (store : Store) (c : C) (cs : List C) → store.status ≡ Running → H record { store = store; controls = c ∷ cs } → I store c
