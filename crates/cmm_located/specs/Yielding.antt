-- A yield: the activation waits at its site, and the run for the client.
use Rattle.std.specs.Prelude.{◌≡◌, Bool, true, false}
use Rattle.cmm_program.specs.Control.{State}
use Rattle.cmm_program.specs.State.{Setting, Running}
use Rattle.cmm_graph.specs.declared.node.NodeKind.{NodeKind}
use Rattle.cmm_graph.specs.declared.node.NodeKind.TheVariants.{Yield}
use Rattle.cmm_graph.specs.GraphControl.{Position}
use Rattle.cmm_graph.specs.GraphMachine.{tokens_of_youngest}
use Rattle.cmm_located.specs.Compiled.{Compiled, Located}
use Rattle.cmm_located.specs.Entering.{AreReady}
use Rattle.cmm_located.specs.Relation.{Liveness, Related}
use Rattle.cmm_located.specs.SameOrders.{HasFrames}
use Rattle.cmm_located.specs.ShownWalks.{KnowsLive}
use Rattle.cmm_located.specs.Walkable.{HaveSites}
use Rattle.cmm_located.specs.Steps.{IsClosed, IsFollowed, kind_of_youngest}

abbrev pub is_yield : NodeKind → Bool
is_yield (Yield site values exits) = true
is_yield _ = false

-- A yield is done over locations in one step, at the same cost: the stack is then the chain of all activations.
abbrev pub YieldsAreFollowed : Type 0
YieldsAreFollowed = (s : Setting) (c : Compiled) (live : Liveness) (st : State Position) (at : Located) → HasFrames s c → IsClosed c live → AreReady c live →
    KnowsLive s c → HaveSites s c →
    Related s c live st at → st.store.status ≡ Running → is_yield (kind_of_youngest c st) ≡ true →
    IsFollowed s c live (tokens_of_youngest c.graphs st) st at
