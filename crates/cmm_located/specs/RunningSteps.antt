-- Every step of a run over graphs but the client's answer, over locations.
use Rattle.std.specs.Prelude.{◌≡◌, ℕ, ◌+◌}
use Rattle.cmm_program.specs.Control.{State}
use Rattle.cmm_program.specs.State.{Setting, Running}
use Rattle.cmm_graph.specs.GraphControl.{Position}
use Rattle.cmm_graph.specs.GraphMachine.{tokens_of_youngest}
use Rattle.cmm_chain.specs.Plans.{IsPlanned}
use Rattle.cmm_located.specs.Compiled.{Compiled, Located}
use Rattle.cmm_located.specs.Cutting.{HaveCuts, HaveOwnCuts, HavePairs}
use Rattle.cmm_located.specs.Entering.{AreReady, HaveEntries, IsWithinMost}
use Rattle.cmm_located.specs.Relation.{Liveness, Related}
use Rattle.cmm_located.specs.Returning.{HaveExits, ReturnsAreInRange}
use Rattle.cmm_located.specs.SameOrders.{HasFrames}
use Rattle.cmm_located.specs.ShownWalks.{KnowsLive}
use Rattle.cmm_located.specs.Walkable.{HaveSites}
use Rattle.cmm_located.specs.Steps.{IsClosed, IsFollowed}

-- the procedures of a program are compiled, for a liveness, into nodes of at most n tokens
pub record IsCompiled (s : Setting) (c : Compiled) (live : Liveness) (most : ℕ) : Type 0 where
  pub planned : IsPlanned c.plan
  pub frames : HasFrames s c
  pub closed : IsClosed c live
  pub ready : AreReady c live
  pub entries : HaveEntries s c live
  pub exits : HaveExits s c live
  pub returns : ReturnsAreInRange c
  pub cuts : HaveCuts s c live
  pub own_cuts : HaveOwnCuts s c live
  pub pairs : HavePairs s
  pub within : IsWithinMost c most

-- A step of an activation that runs is done over locations, at the cost of its node and of the node where it lands.
abbrev pub StepsAreFollowed : Type 0
StepsAreFollowed = (s : Setting) (c : Compiled) (live : Liveness) (most : ℕ) (st : State Position) (at : Located) → IsCompiled s c live most →
    KnowsLive s c → HaveSites s c → Related s c live st at → st.store.status ≡ Running → IsFollowed s c live (tokens_of_youngest c.graphs st + most) st at
