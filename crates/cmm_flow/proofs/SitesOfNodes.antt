-- Each node of what `flow` answers that waits has the exits of its site: it is the one that the code of the site's statement names.
use Rattle.std.proofs.Common.{◌≡◌, inl, inr, ℕ, suc, ◌<◌, Bool, true, false, Some, None, Option, List, length, get_or, refl, slice_get, sym, ap, ◌∙◌, subst, arith}
use Rattle.std.proofs.lemmas.Option.{slice_get-get_or, slice_get_cases}
use Rattle.cmm_program.specs.declared.procedure.Proc.{Proc}
use Rattle.cmm_program.specs.declared.procedure.Site.{Site}
use Rattle.cmm_program.specs.declared.program.Program.{Program}
use Rattle.cmm_program.specs.declared.procedure.Target.{Target}
use Rattle.cmm_program.specs.Bodies.{AtSite, follow}
use Rattle.cmm_program.specs.Errors.{with_some}
use Rattle.cmm_program.specs.InRange.{IsProcInRange}
use Rattle.cmm_program.specs.Numbering.{body_numbers, site_number}
use Rattle.cmm_graph.specs.declared.graph.Graph.{Graph}
use Rattle.cmm_graph.specs.declared.node.Exits.{Exits}
use Rattle.cmm_graph.specs.declared.node.Node.{Node}
use Rattle.cmm_graph.specs.declared.node.NodeKind.{NodeKind}
use Rattle.cmm_graph.specs.declared.node.NodeKind.TheVariants.{Call, Yield, CopyIn}
use Rattle.cmm_graph.specs.declared.number.NodeId.{NodeId}
use Rattle.cmm_graph.specs.declared.number.SiteId.{SiteId}
use Rattle.cmm_graph.specs.Counterpart.{AreExitsOf, HasSite, taken_at, taken_by}
use Rattle.cmm_live.specs.Sites.{site_of}
use Rattle.cmm_flow.specs.Code.{IsNode}
use Rattle.cmm_flow.specs.Flow.{IsFlow}
use Rattle.cmm_flow.specs.Laws.{AnswersHaveSites, AnswersWaitAtEach}
use Rattle.cmm_flow.specs.Liveness.{AnswersAreInRange}
use Rattle.cmm_flow.specs.Statements.{ExitsCode}
use Rattle.cmm_flow.specs.Waiting.{all_different, waiting_sites}
use Rattle.cmm_flow.proofs.LivenessSets.{listed, same_node}
use Rattle.cmm_flow.proofs.LivenessWaiting.{ByCall, ByYield, IsWaiting, Waits, site_waits, waiting_site}
use Rattle.cmm_flow.proofs.WaitingOnce.{among_counted, answers_wait_once, counted_below}

has_waiting : (q : Proc) (g : Graph) (kind : NodeKind) (site : SiteId) (ends : Exits) → IsWaiting kind site ends → AreExitsOf q g site ends → HasSite q g kind
has_waiting q g _ _ _ (ByCall site callee arguments ends) are = are
has_waiting q g _ _ _ (ByYield site values ends) are = are

no_site : (q : Proc) (g : Graph) (kind : NodeKind) → site_of kind ≡ None → HasSite q g kind
no_site q g (Call site callee arguments exits) none = absurd (cc)
no_site q g (Yield site values exits) none = absurd (cc)
no_site q g kind none = tt

module _ (q : Proc) (g : Graph) (site : Site) (ends : Exits) (k : NodeId) where
  -- the results take what the normal exit brings
  normal_takes : (never : Bool) →
      elim never as (λ _. Type 0) [
        | true ↦ ends.normal ≡ None
        | false ↦ (j : NodeId) × (ends.normal ≡ Some j) × IsNode g.nodes j (suc (length site.results)) (CopyIn site.results k)
      ] → with_some ends.normal (taken_at g) ≡ elim never as (λ _. Option (List Target)) [ true ↦ None | false ↦ Some site.results ]
  normal_takes true none = ap (λ o. with_some o (taken_at g)) none
  normal_takes false (j, is, node) = ap (λ o. with_some o (taken_at g)) is ∙ ap (λ o. with_some o (λ (node : Node). taken_by node.kind)) node

  are_exits : (n : SiteId) → slice_get q.sites n.number ≡ Some site → ExitsCode g.nodes (Some site) ends k → AreExitsOf q g n ends
  are_exits n is code = record {
    site = site;
    is_site = is;
    normal = normal_takes site.never code.1;
    returns = code.0.returns;
    unwinds = code.0.unwinds;
    cuts = code.0.cuts;
  }

module _ (p : Program) (q : Proc) (g : Graph) (range : IsProcInRange p q) (is : IsFlow q g) where
  once : all_different (waiting_sites g.nodes) ≡ true
  once = answers_wait_once p q g range is

  -- the site at which a node waits is there
  site_there : (site : SiteId) (n : ℕ) (node : Node) → slice_get g.nodes n ≡ Some node → site_of node.kind ≡ Some site → site.number < length q.sites
  site_there site n node at waits =
      let some = among_counted site.number (waiting_sites g.nodes) (listed site g.nodes n node at waits) in
      counted_below (length q.sites) (body_numbers site_number q) range.sites_numbered site.number (omega (arith, some, is.waits site.number))

  waiting : (site : SiteId) (n : ℕ) (node : Node) → slice_get g.nodes n ≡ Some node → site_of node.kind ≡ Some site → HasSite q g node.kind
  waiting site n node at waits =
      let less = site_there site n node at waits in
      let w : Waits p q g is.flow.label_node site.number (follow q (AtSite site.number)) =
      site_waits p q g is.flow.label_node site.number range is.flow.begun.next is.flow.begun.code less in
      let its : Node = record { tokens = w.tokens; kind = w.kind } in
      let same : node ≡ its = same_node site g.nodes once n w.at.number node its at w.node waits (waiting_site w.kind site w.ends w.waits) in
      let has : (s : Site) → slice_get q.sites site.number ≡ Some s → HasSite q g w.kind =
      λ s there. has_waiting q g w.kind site w.ends w.waits
      (are_exits q g s w.ends w.behind site there (subst (λ o. ExitsCode g.nodes o w.ends w.behind) there w.normal)) in
      subst (λ (node : Node). HasSite q g node.kind) (sym same) (elim (slice_get_cases q.sites site.number).1 [
        | inl found ↦ has found.0 found.2
        | inr past ↦ absurd (omega (arith, less, past.0))
      ])

  has_site : (n : ℕ) (node : Node) → slice_get g.nodes n ≡ Some node → HasSite q g node.kind
  has_site n node at = by (site_of node.kind) refl
    where
      by : (o : Option SiteId) → site_of node.kind ≡ o → HasSite q g node.kind
      by (Some site) waits = waiting site n node at waits
      by None none = no_site q g node.kind none

pub answers_have_sites : AnswersHaveSites
answers_have_sites p q g range is = λ n node less. has_site p q g range is n (get_or g.nodes n node) (slice_get-get_or g.nodes n node less)

pub answers_wait_at_each : AnswersWaitAtEach
answers_wait_at_each p q g site range is less =
    let w = site_waits p q g is.flow.label_node site range is.flow.begun.next is.flow.begun.code less in
    record {
      at = w.at;
      node = record { tokens = w.tokens; kind = w.kind };
      is_there = w.node;
      waits = waiting_site w.kind record { number = site } w.ends w.waits;
    }

pub answers_are_in_range : AnswersAreInRange
answers_are_in_range p q g range is = record {
  range = range;
  graph = record { variables = is.variables; continuations = is.continuations; sites = answers_have_sites p q g range is };
  flow = is.flow;
}
