-- the youngest activation comes to wait at a site
use Rattle.std.proofs.Common.{◌≡◌, ℕ, List, ◌∷◌, Some, refl, ap, ◌∙◌}
use Rattle.cmm_program.specs.State.{Setting, Activation, Store, stack_top}
use Rattle.cmm_graph.specs.declared.number.SiteId.{SiteId}
use Rattle.cmm_graph.specs.declared.node.NodeKind.{NodeKind}
use Rattle.cmm_graph.specs.GraphControl.{Position, kind_at}
use Rattle.cmm_live.specs.Sites.{site_of}
use Rattle.cmm_chain.specs.Chain.{IsChain}
use Rattle.cmm_chain.specs.Running.{Holdings, called}
use Rattle.cmm_chain.proofs.Shared.{call_suspends}
use Rattle.cmm_located.specs.Compiled.{Compiled}
use Rattle.cmm_located.specs.Entering.{IsReady}
use Rattle.cmm_located.specs.Relation.{Liveness, Runs, Waits, suspension_of, suspensions}
use Rattle.cmm_located.proofs.Parts.{located_of, position_of}

module _ (s : Setting) (c : Compiled) (live : Liveness) (store : Store) (a : Activation) (older : List Activation) (p : Position) (ps : List Position) (h : Holdings)
    (carried : List ℕ) (runs : Runs s c live a older (position_of a p) ps (located_of store a older p.node h carried)) (node : NodeKind) (site : SiteId)
    (is : kind_at c.graphs a.procedure p.node ≡ node) (waits : site_of node ≡ Some site) (ready : IsReady c live a.procedure p.node node) where
  abbrev pub Caller : Activation
  Caller = record a { site = Some site.number }

  pub caller_waits : Waits c.graphs Caller (position_of a p)
  caller_waits = record { procedure = refl; variables = runs.variables; site = site.number; is_site = refl; stands = ap site_of is ∙ waits }

  -- the stack is the chain of all activations
  pub call_chain : IsChain c.plan (stack_top s) h.contents (suspensions c.graphs (Caller ∷ older) (position_of a p ∷ ps)) (called a.procedure site.number h).point
  call_chain = call_suspends c.plan (stack_top s) (suspension_of c.graphs Caller (position_of a p)) (suspensions c.graphs older ps) h runs.exists
      (λ v is_live. let r = ready.ready site v waits is_live in (r.0, runs.values v r.1)) runs.framed
