-- A run that is over.
use Rattle.std.specs.Prelude.{◌≡◌}
use Rattle.cmm_program.specs.Control.{State}
use Rattle.cmm_program.specs.State.{Setting, Outcome, Ended}
use Rattle.cmm_graph.specs.GraphControl.{Position}
use Rattle.cmm_located.specs.Compiled.{Compiled, Located}
use Rattle.cmm_located.specs.Laws.{HasVariables}
use Rattle.cmm_located.specs.LocatedMachine.{tokens_at}
use Rattle.cmm_located.specs.Relation.{Liveness, Related}
use Rattle.cmm_located.specs.ShownWalks.{KnowsLive}
use Rattle.cmm_located.specs.Steps.{IsFollowed}

-- A run that is over stays over in both machines, with the same ending: its outcome, and the walk where the client has stopped it.
abbrev pub EndsAreFollowed : Type 0
EndsAreFollowed = (s : Setting) (c : Compiled) (live : Liveness) (st : State Position) (at : Located) (outcome : Outcome) → HasVariables s c → KnowsLive s c →
    Related s c live st at → st.store.status ≡ Ended outcome → IsFollowed s c live (tokens_at s c at) st at
