-- Each site of a procedure stands in the code of the node that waits there, with the exits of the site behind it.
use Rattle.std.proofs.Common.{◌≡◌, ℕ, ◌+◌, true, sym, ◌∙◌, ap, subst, List, length, Some, slice_get}
use Rattle.std.proofs.lemmas.List.{length-map}
use Rattle.std.proofs.lemmas.Option.{slice_get_within}
use Rattle.rv_asm.specs.declared.part.Part.{Part}
use Rattle.rv_asm.specs.Appending.{IsBehind}
use Rattle.cmm_program.proofs.Shared.{all_get}
use Rattle.cmm_program.specs.InRange.{IsProcInRange}
use Rattle.cmm_program.specs.declared.procedure.Proc.{Proc}
use Rattle.cmm_program.specs.declared.procedure.Site.{Site}
use Rattle.cmm_program.specs.declared.program.Program.{Program}
use Rattle.cmm_graph.specs.Counterpart.{HasSite}
use Rattle.cmm_graph.specs.declared.graph.Graph.{Graph}
use Rattle.cmm_graph.specs.declared.node.Node.{Node}
use Rattle.cmm_graph.specs.declared.node.NodeKind.{NodeKind}
use Rattle.cmm_graph.specs.declared.node.NodeKind.TheVariants.{Assign, Branch, Call, CopyIn, Cut, Entry, Goto, Host, Jump, Return, Stop, Store, Switch, Yield}
use Rattle.cmm_graph.specs.declared.number.ContinuationId.{ContinuationId}
use Rattle.cmm_graph.specs.declared.number.SiteId.{SiteId}
use Rattle.cmm_live.specs.Sites.{site_of}
use Rattle.cmm_hoisted.specs.Flow.{IsHoistedFlow}
use Rattle.cmm_hoisted.specs.Laws.{HoistedFlowsHaveSites, HoistedFlowsWaitAtEach}
use Rattle.cmm_emit.specs.declared.context.Context.{Context}
use Rattle.cmm_emit.specs.Naming.{label_at}
use Rattle.cmm_emit.specs.Standing.{SiteStands}

-- the node that waits at a site, and what its code says of the site
pub record IsWaited (g : Graph) (n : ℕ) (site : Site) : Type 0 where
  pub at : ℕ
  pub node : Node
  pub is_there : slice_get g.nodes at ≡ Some node
  pub stands : (c : Context) (parts : List Part) → SiteStands true c node.kind parts → IsBehind (label_at c.sites n) (length site.returns + 1) parts

module _ (q : Proc) (g : Graph) (n : ℕ) (site : Site) (is : slice_get q.sites n ≡ Some site) where
  -- with the exits of the site
  with_exits : (at : SiteId) (found : Site) (returns : List ContinuationId) (c : Context) (parts : List Part) → at ≡ record { number = n } →
      slice_get q.sites at.number ≡ Some found → length returns ≡ length found.returns →
      IsBehind (label_at c.sites at.number) (length returns + 1) parts → IsBehind (label_at c.sites n) (length site.returns + 1) parts
  with_exits at found returns c parts same is_found counted stands =
      let number : at.number ≡ n = ap (λ (s : SiteId). s.number) same in
      let one : found ≡ site = let here : slice_get q.sites n ≡ Some found = subst (λ (m : ℕ). slice_get q.sites m ≡ Some found) number is_found in cc in
      let count : length returns ≡ length site.returns = counted ∙ ap (λ (s : Site). length s.returns) one in
      subst (λ (m : ℕ). IsBehind (label_at c.sites n) (m + 1) parts) count (subst (λ (m : ℕ). IsBehind (label_at c.sites m) (length returns + 1) parts) number stands)

  stands_at : (kind : NodeKind) → site_of kind ≡ Some (record { number = n }) → HasSite q g kind → (c : Context) (parts : List Part) → SiteStands true c kind parts →
      IsBehind (label_at c.sites n) (length site.returns + 1) parts
  stands_at (Call at callee arguments exits) waits has c parts stands =
      with_exits at has.site exits.returns c parts (cc) has.is_site (sym (length-map exits.returns (λ (k : ContinuationId). k.number)) ∙ ap (λ (ks : List ℕ). length ks) has.returns) stands
  stands_at (Yield at values exits) waits has c parts stands =
      with_exits at has.site exits.returns c parts (cc) has.is_site (sym (length-map exits.returns (λ (k : ContinuationId). k.number)) ∙ ap (λ (ks : List ℕ). length ks) has.returns) stands
  stands_at (Entry formals next) waits has c parts stands = absurd (cc)
  stands_at (CopyIn to next) waits has c parts stands = absurd (cc)
  stands_at (Assign to value next) waits has c parts stands = absurd (cc)
  stands_at (Store width aligned address value next) waits has c parts stands = absurd (cc)
  stands_at (Branch test then_ otherwise) waits has c parts stands = absurd (cc)
  stands_at (Switch value arms otherwise) waits has c parts stands = absurd (cc)
  stands_at (Jump callee arguments) waits has c parts stands = absurd (cc)
  stands_at (Cut to arguments own) waits has c parts stands = absurd (cc)
  stands_at (Return exit alternates results) waits has c parts stands = absurd (cc)
  stands_at (Host call next) waits has c parts stands = absurd (cc)
  stands_at (Goto next) waits has c parts stands = absurd (cc)
  stands_at Stop waits has c parts stands = absurd (cc)

pub waited : (p : Program) (q : Proc) (g : Graph) → HoistedFlowsWaitAtEach → HoistedFlowsHaveSites → IsProcInRange p q → IsHoistedFlow q g → (n : ℕ) (site : Site) →
    slice_get q.sites n ≡ Some site → IsWaited g n site
waited p q g each have range flow n site is =
    let at = each p q g n range flow (slice_get_within q.sites n site is) in
    let has = all_get (λ (node : Node). HasSite q g node.kind) g.nodes (at.at).number at.node (have p q g range flow) at.is_there in
    record {
      at = (at.at).number;
      node = at.node;
      is_there = at.is_there;
      stands = stands_at q g n site is (at.node).kind at.waits has;
    }
