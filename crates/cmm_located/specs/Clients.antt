-- The client answers: a run that waits goes on, or is over, over locations as over graphs.
use Rattle.std.specs.Prelude.{◌≡◌, ◌≢◌, ℕ, ◌+◌, true, List}
use Rattle.cmm_program.specs.Control.{State}
use Rattle.cmm_program.specs.State.{Setting, Waiting}
use Rattle.cmm_graph.specs.GraphControl.{Position}
use Rattle.cmm_located.specs.Compiled.{Compiled, Located}
use Rattle.cmm_located.specs.Laws.{HasVariables}
use Rattle.cmm_located.specs.LocatedMachine.{tokens_at}
use Rattle.cmm_located.specs.Relation.{Liveness, Related}
use Rattle.cmm_located.specs.RunningSteps.{IsCompiled}
use Rattle.cmm_located.specs.ShownWalks.{KnowsLive}
use Rattle.cmm_located.specs.Steps.{IsFollowed}
use Rattle.cmm_located.specs.Walkable.{HaveSites}

-- locals that are live at one site have different places
abbrev pub AreApart : Compiled → Type 0
AreApart c = (q site v u : ℕ) → c.plan.is_procedure q ≡ true → c.plan.live q site v ≡ true → c.plan.live q site u ≡ true → u ≢ v →
    c.plan.place q v ≢ c.plan.place q u

-- the client can be shown all activations, and can change their variables
pub record IsShowable (s : Setting) (c : Compiled) : Type 0 where
  pub variables : HasVariables s c
  pub live : KnowsLive s c
  pub apart : AreApart c
  pub sites : HaveSites s c

-- The client's answer is done over locations in at most two steps, the second at a CopyIn.
abbrev pub ClientsAreFollowed : Type 0
ClientsAreFollowed = (s : Setting) (c : Compiled) (live : Liveness) (most : ℕ) (values : List ℕ) (st : State Position) (at : Located) → IsCompiled s c live most →
    IsShowable s c → Related s c live st at → st.store.status ≡ Waiting values → IsFollowed s c live (tokens_at s c at + most) st at
