-- The laws of chains.
use Rattle.std.specs.Prelude.{◌≡◌, ◌≢◌, ◌⊎◌, ℕ, ◌+◌, ◌≤◌, Bool, true, List, ◌∷◌, drop, length, slice_get, is_some, Some}
use Rattle.std.specs.List.{AllZip}
use Rattle.cmm_chain.specs.declared.frame.Location.{Location}
use Rattle.cmm_chain.specs.declared.frame.Location.TheVariants.{Slot}
use Rattle.cmm_abi.specs.Registers.{is_callee_saves}
use Rattle.cmm_chain.specs.Contents.{Content, Number, Contents}
use Rattle.cmm_chain.specs.Plans.{Plan, IsPlanned, is_laid, is_place, saved_at}
use Rattle.cmm_chain.specs.Chain.{Point, Suspension, IsChain, chain_size}
use Rattle.cmm_chain.specs.Running.{Holdings, IsFramed, HasValues, held, put_in, entered, called, left, with_number, lasts}
use Rattle.cmm_chain.specs.Walks.{Element, Shows, Spot, walk_from, spot_of, put_at, unwound, with_value}

-- ---- what lasts

-- points that a chain cannot tell apart
pub record Alike (p q : Point) : Type 0 where
  pub at : p.at ≡ q.at
  pub back : p.back ≡ q.back
  pub kept : (r : ℕ) → is_callee_saves r ≡ true → p.kept r ≡ q.kept r

-- a chain outlives what happens below it, in the stack and in registers that are no callee-saves registers
abbrev pub ChainOutlives : Type 0
ChainOutlives = (plan : Plan) (top : ℕ) (before after : Contents) (suspended : List Suspension) (p q : Point) → Alike p q →
    ((a : ℕ) → p.at ≤ a → before a ≡ after a) → IsChain plan top before suspended p → IsChain plan top after suspended q

-- the same activations, as far as live locals go
pub record AreAlive (plan : Plan) (s t : Suspension) : Type 0 where
  pub procedure : s.procedure ≡ t.procedure
  pub site : s.site ≡ t.site
  pub values : (v : ℕ) → plan.live s.procedure s.site v ≡ true → s.values v ≡ t.values v

-- nothing is required of the values of dead locals
abbrev pub LiveAlone : Type 0
LiveAlone = (plan : Plan) (top : ℕ) (contents : Contents) (suspended others : List Suspension) (p : Point) → AllZip (AreAlive plan) suspended others →
    IsChain plan top contents suspended p → IsChain plan top contents others p

-- the frames reach from the point up to the top
abbrev pub FramesReachTop : Type 0
FramesReachTop = (plan : Plan) (top : ℕ) (contents : Contents) (suspended : List Suspension) (p : Point) → IsChain plan top contents suspended p →
    p.at + chain_size plan suspended ≡ top

-- ---- the youngest runs

-- a place holds what was put there
abbrev pub PutIsHeld : Type 0
PutIsHeld = (l : Location) (c : Content) (h : Holdings) → held (put_in l c h) l ≡ c

-- and every other place what it held
abbrev pub OthersStay : Type 0
OthersStay = (l other : Location) (c : Content) (h : Holdings) → l ≢ other → held (put_in l c h) other ≡ held h other

-- what is put into a place of the youngest leaves its frame below the chain
abbrev pub PutKeepsFrame : Type 0
PutKeepsFrame = (plan : Plan) (top q : ℕ) (older : List Suspension) (h : Holdings) (l : Location) (c : Content) → is_place (plan.frame q) l ≡ true →
    is_laid (plan.frame q) ≡ true → IsFramed plan top q older h → IsFramed plan top q older (put_in l c h)

-- A local takes a value. What is live after that was live before it, or is this local, and does not share its place.
abbrev pub WriteKeepsValues : Type 0
WriteKeepsValues = (plan : Plan) (q : ℕ) (h : Holdings) (before after : ℕ → Bool) (values : ℕ → ℕ) (v x : ℕ) →
    ((u : ℕ) → after u ≡ true → u ≢ v → (before u ≡ true) × (plan.place q v ≢ plan.place q u)) →
    HasValues plan q h before values → HasValues plan q (put_in (plan.place q v) (Number x) h) after (with_number v x values)

-- ---- frames come

-- a procedure that is entered has its frame below the chain
abbrev pub EnteredIsFramed : Type 0
EnteredIsFramed = (plan : Plan) (top q : ℕ) (suspended : List Suspension) (p : Point) (contents : Contents) → is_laid (plan.frame q) ≡ true →
    (plan.frame q).size ≤ p.at → IsChain plan top contents suspended p → IsFramed plan top q suspended (entered plan q p contents)

-- What is live at a site has its value, in a place that lasts.
abbrev pub IsReadyAt : Plan → Suspension → Holdings → Type 0
IsReadyAt plan s h = (v : ℕ) → plan.live s.procedure s.site v ≡ true →
    (lasts (plan.place s.procedure v) ≡ true) × (held h (plan.place s.procedure v) ≡ Number (s.values v))

-- the youngest calls, and is the youngest of the chain
abbrev pub CallSuspends : Type 0
CallSuspends = (plan : Plan) (top : ℕ) (s : Suspension) (older : List Suspension) (h : Holdings) → plan.is_procedure s.procedure ≡ true →
    IsReadyAt plan s h → IsFramed plan top s.procedure older h →
    let after = called s.procedure s.site h in IsChain plan top after.contents (s ∷ older) after.point

-- ---- frames go

-- the youngest leaves its frame, and the chain below which it stood is there
abbrev pub LeftIsChain : Type 0
LeftIsChain = (plan : Plan) (top q : ℕ) (older : List Suspension) (h : Holdings) → IsFramed plan top q older h →
    let after = left plan q h in IsChain plan top after.contents older after.point

-- Control is back at the frame of a suspended activation. Each callee-saves register is what the walk finds, as after a return or an
-- unwinding, or is saved by the activation's own procedure: after a cut, which restores none, that has to be so of all.
pub record IsBackAt (plan : Plan) (contents : Contents) (s : Suspension) (p : Point) (h : Holdings) : Type 0 where
  pub stack : h.contents ≡ contents
  pub at : h.point.at ≡ p.at
  pub kept : (r : ℕ) → is_callee_saves r ≡ true → (h.point.kept r ≡ p.kept r) ⊎ (is_some (saved_at plan s.procedure r) ≡ true)

-- then its frame is below the older ones
abbrev pub GoesOnFramed : Type 0
GoesOnFramed = (plan : Plan) (top : ℕ) (contents : Contents) (s : Suspension) (older : List Suspension) (p : Point) (h : Holdings) →
    IsChain plan top contents (s ∷ older) p → IsBackAt plan contents s p h → IsFramed plan top s.procedure older h

-- and a local that is live at its site has its value, where it is in a slot or all registers are what the walk finds
abbrev pub GoesOnWithValues : Type 0
GoesOnWithValues = (plan : Plan) (top : ℕ) (contents : Contents) (s : Suspension) (older : List Suspension) (p : Point) (h : Holdings) (v : ℕ) →
    IsChain plan top contents (s ∷ older) p → IsBackAt plan contents s p h → plan.live s.procedure s.site v ≡ true →
    ((offset : ℕ) × (plan.place s.procedure v ≡ Slot offset)) ⊎ ((r : ℕ) → is_callee_saves r ≡ true → h.point.kept r ≡ p.kept r) →
    held h (plan.place s.procedure v) ≡ Number (s.values v)

-- ---- the walk

-- the walk lists just the activations of the chain, and shows the value of each live local
abbrev pub WalkListsChain : Type 0
WalkListsChain = (plan : Plan) (top : ℕ) (suspended : List Suspension) (h : Holdings) (n : ℕ) → IsChain plan top h.contents suspended h.point →
    length suspended ≤ n → AllZip (Shows plan h) suspended (walk_from plan h n)

-- after an unwinding to an activation that the walk lists, it is the youngest of the chain
abbrev pub UnwoundIsChain : Type 0
UnwoundIsChain = (plan : Plan) (top : ℕ) (suspended : List Suspension) (h : Holdings) (n m : ℕ) (e : Element) →
    IsChain plan top h.contents suspended h.point → slice_get (walk_from plan h n) m ≡ Some e →
    let after = unwound e.mark h in IsChain plan top after.contents (drop m suspended) after.point

-- the local is live at the activation's site, and no other one that is live there has its place
pub record MayBeSet (plan : Plan) (s : Suspension) (v : ℕ) : Type 0 where
  pub live : plan.live s.procedure s.site v ≡ true
  pub apart : (u : ℕ) → plan.live s.procedure s.site u ≡ true → u ≢ v → plan.place s.procedure v ≢ plan.place s.procedure u

-- the client changes a local of an activation that the walk lists, wherever its register lies
abbrev pub SetIsChain : Type 0
SetIsChain = (plan : Plan) (top : ℕ) (suspended : List Suspension) (h : Holdings) (n m v x : ℕ) (s : Suspension) (e : Element) (spot : Spot) →
    IsPlanned plan → IsChain plan top h.contents suspended h.point → slice_get suspended m ≡ Some s → MayBeSet plan s v →
    slice_get (walk_from plan h n) m ≡ Some e → spot_of e.mark (plan.place s.procedure v) ≡ Some spot →
    let after = put_at spot (Number x) h in IsChain plan top after.contents (with_value m v x suspended) after.point
