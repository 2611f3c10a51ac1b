-- Two controls over the same store, where the second is what a pass makes of the first: at places that belong together both ask for the same, or the first asks for nothing
-- and comes nearer to where it does (textbook forward simulation with a measure, as in CompCert; Ramsey and Peyton Jones, PLDI 2000, the abstract machine). What belongs together
-- may depend on the store, as what is known of variables at a node does.
use Rattle.std.specs.Prelude.{◌≡◌, ◌⊎◌, ℕ, zero, suc, ◌+◌, ◌<◌, ◌≤◌, Ok, Some, None}
use Rattle.cmm_machine_laws.specs.Observed.{event_at}
use Rattle.cmm_program.specs.declared.procedure.Proc.{Proc}
use Rattle.cmm_program.specs.Acts.{Act, evaluated}
use Rattle.cmm_program.specs.Control.{Control}
use Rattle.cmm_program.specs.Errors.{Tried, and_then}
use Rattle.cmm_program.specs.Exits.{Landing, Called, Instead, Back, Resumed}
use Rattle.cmm_program.specs.Frames.{procedure_at}
use Rattle.cmm_program.specs.Performing.{Transfer, Stay, Wait, Away, Over, perform}
use Rattle.cmm_program.specs.State.{Setting, Store, Running}
use Rattle.cmm_program.specs.Writes.{reads_of}

-- what an act comes to
abbrev pub comes_to : Setting → Store → Act → Tried Transfer
comes_to s store what = and_then (evaluated (reads_of s store) what) (λ order. perform s order store)

-- the youngest activation waits, or goes on at a continuation of its own: it is still there, and does not stay where it runs
abbrev pub RestsAfter : Transfer → Type 0
RestsAfter (Stay way store) = ⊥
RestsAfter (Wait store) = Unit {0}
RestsAfter (Away zero store landing) = Unit {0}
RestsAfter (Away (suc gone) store landing) = ⊥
RestsAfter (Over zero store) = Unit {0}
RestsAfter (Over (suc gone) store) = ⊥

-- where control enters a procedure, the second one may do so much first
abbrev pub landing_cost : ℕ → Landing → ℕ
landing_cost more (Called site n values) = more
landing_cost more (Instead n values) = more
landing_cost more (Back values) = 0
landing_cost more (Resumed n values) = 0

abbrev pub entry_cost : ℕ → Transfer → ℕ
entry_cost more (Away gone store landing) = landing_cost more landing
entry_cost more transfer = 0

-- ---- a chain of the second control

-- P: the youngest activation runs at places that belong together, with this store. `now`: what a step costs at a place.
module _ {C D : Type 0} (l : Control D) (s : Setting) (P : Store → C → D → Type 0) (now : D → ℕ) where
  -- a quiet step: the control stays, leaves the store as it is and stands at no event; and so much may be spent behind it
  pub record GoesQuietly (Next : ℕ → D → Type 0) (store : Store) (most : ℕ) (d : D) : Type 0 where
    pub way : ℕ
    pub stays : comes_to s store (l.act d) ≡ Ok (Stay way store)
    pub quiet : event_at s Running store (l.act d) ≡ None
    pub left : ℕ
    pub within : now d + left ≤ most
    pub on : Next left (l.on way d)

  -- by so many quiet steps, which cost at most so much, the control comes to where it belongs together with the first
  abbrev pub ComesBy : ℕ → Store → C → ℕ → D → Type 0
  ComesBy zero store c most d = P store c d
  ComesBy (suc steps) store c most d = GoesQuietly (ComesBy steps store c) store most d

  abbrev pub Comes : ℕ → Store → C → D → Type 0
  Comes most store c d = (steps : ℕ) × ComesBy steps store c most d

-- ---- both controls

-- W: another activation runs, and this one waits, whatever becomes of the store. `rank`: how many steps the first may do alone from a place. `before`: what a step costs at a
-- place of the first. `more`: what a chain costs at most.
module _ {C D : Type 0} (k : Control C) (l : Control D) (s : Setting) (P : Store → C → D → Type 0) (W : C → D → Type 0) (rank before : C → ℕ) (now : D → ℕ) (more : ℕ) where
  -- both do the same, the second for no more, a chain included where they enter a procedure, and go on at places that belong together
  pub record BothGo (store : Store) (c : C) (d : D) : Type 0 where
    pub cheap : (t : Transfer) → comes_to s store (k.act c) ≡ Ok t → now d + entry_cost more t ≤ before c
    pub asks : evaluated (reads_of s store) (l.act d) ≡ evaluated (reads_of s store) (k.act c)
    -- where they wait, or control goes on at a continuation of theirs
    pub rests : (t : Transfer) → comes_to s store (k.act c) ≡ Ok t → RestsAfter t → W c d
    pub on : (way : ℕ) (after : Store) → comes_to s store (k.act c) ≡ Ok (Stay way after) → P after (k.on way c) (l.on way d)

  -- both stay, leave the store as it is and stand at no event, each by a way of its own, the second for no more, and go on at places that belong together
  pub record BothStay (store : Store) (c : C) (d : D) : Type 0 where
    pub cheap : now d ≤ before c
    pub first : ℕ
    pub second : ℕ
    pub stays : comes_to s store (k.act c) ≡ Ok (Stay first store)
    pub also : comes_to s store (l.act d) ≡ Ok (Stay second store)
    pub quiet : event_at s Running store (l.act d) ≡ None
    pub there : P store (k.on first c) (l.on second d)

  -- the first one goes on alone, leaves the store as it is, and its rank falls
  pub record GoesAlone (store : Store) (c : C) (d : D) : Type 0 where
    pub way : ℕ
    pub stays : comes_to s store (k.act c) ≡ Ok (Stay way store)
    pub there : P store (k.on way c) d
    pub nearer : rank (k.on way c) < rank c

  -- I: what is known of the store where the youngest activation runs at a place of the first control, as a law of its machine. `slack`: ranks are below it.
  pub record AreRewritten (I : Store → C → Type 0) (slack : ℕ) : Type 0 where
    pub positive : 1 ≤ slack
    pub few : (c : C) → rank c < slack
    pub steps : (store : Store) (c : C) (d : D) → I store c → P store c d → BothGo store c d ⊎ (BothStay store c d ⊎ GoesAlone store c d)
    pub later : (c : C) (d : D) → W c d → W (k.later c) (l.later d)
    pub back : (store : Store) (c : C) (d : D) → W c d → P store (k.back c) (l.back d)
    pub resume : (store : Store) (n : ℕ) (c : C) (d : D) → W c d → P store (k.resume n c) (l.resume n d)
    -- where activations of the program's procedures begin, behind a chain of the second
    pub begin : (store : Store) (n : ℕ) (q : Proc) → procedure_at s n ≡ Some q → Comes l s P now more store (k.begin n) (l.begin n)
