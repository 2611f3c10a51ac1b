-- The walk over locations is the walk of the C-- machine: what the client is shown.
use Rattle.std.specs.Prelude.{◌≡◌, ℕ, ◌<◌, true, List, length, map, slice_index_or, Some}
use Rattle.std.specs.List.{AllZip}
use Rattle.cmm_program.specs.declared.procedure.Proc.{Proc}
use Rattle.cmm_program.specs.Frames.{procedure_at}
use Rattle.cmm_program.specs.Liveness.{is_live_at}
use Rattle.cmm_program.specs.State.{Setting, Activation, Store}
use Rattle.cmm_program.specs.Walks.{walk_of}
use Rattle.cmm_chain.specs.Chain.{Suspension, IsChain}
use Rattle.cmm_located.specs.Answering.{shown}
use Rattle.cmm_located.specs.Compiled.{Compiled, Located, bare}

-- a suspension tells of an activation: its procedure, its site, and the values of its variables
pub record IsToldOf (s : Setting) (a : Activation) (t : Suspension) : Type 0 where
  pub procedure : t.procedure ≡ a.procedure
  pub site : a.site ≡ Some t.site
  pub values : (p : Proc) (v : ℕ) → procedure_at s a.procedure ≡ Some p → v < length p.vars → t.values v ≡ slice_index_or a.variables v 0

-- each variable that is live at a site of the program counts as live in the plan
abbrev pub KnowsLive : Setting → Compiled → Type 0
KnowsLive s c = (q site v : ℕ) (p : Proc) → procedure_at s q ≡ Some p → v < length p.vars → is_live_at p site v ≡ true → c.plan.live q site v ≡ true

-- Where the activations of a store are those of a chain, the walk over locations shows what the store's walk does: the same activations
-- with their sites and descriptors, and the value of each variable that is live.
abbrev pub WalkIsShown : Type 0
WalkIsShown = (s : Setting) (c : Compiled) (top : ℕ) (store : Store) (suspended : List Suspension) (at : Located) → KnowsLive s c →
    AllZip (IsToldOf s) store.activations suspended → IsChain c.plan top at.holdings.contents suspended at.holdings.point →
    at.store ≡ record store { activations = map bare store.activations } → walk_of s (shown s c at) ≡ walk_of s store
