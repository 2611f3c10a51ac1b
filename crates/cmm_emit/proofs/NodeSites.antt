-- The sites of nodes that are laid stand behind the instructions by which these wait.
use Rattle.std.proofs.Common.{◌≡◌, ◌≢◌, ◌⊎◌, inl, inr, ℕ, ◌+◌, sym, ◌∙◌, subst, List, [], ◌∷◌, ◌++◌, length, slice_get, set, Some, None, true, false, Bool, arith}
use Rattle.rv_asm.specs.Appending.{Appends, IsBehind}
use Rattle.rv_asm.specs.Parts.{Code}
use Rattle.rv_asm.specs.declared.part.Label.{Label}
use Rattle.rv_asm.specs.declared.part.Part.{Part}
use Rattle.rv_asm.specs.declared.part.Part.TheVariants.{Single}
use Rattle.rv_table.specs.declared.instruction.Instr.TheVariants.{Ebreak}
use Rattle.cmm_bitset.proofs.Shared.{has-set_other}
use Rattle.rv_asm.proofs.Shared.{behind_more, behind_parts, shortest-append}
use Rattle.cmm_graph.specs.declared.graph.Graph.{Graph}
use Rattle.cmm_graph.specs.declared.node.Node.{Node}
use Rattle.cmm_graph.specs.declared.node.NodeKind.{NodeKind}
use Rattle.cmm_graph.specs.declared.node.NodeKind.TheVariants.{Assign, Branch, Call, CopyIn, Cut, Entry, Goto, Host, Jump, Return, Stop, Store, Switch, Yield}
use Rattle.cmm_graph.specs.declared.number.NodeId.{NodeId}
use Rattle.cmm_emit.specs.declared.context.Context.{Context}
use Rattle.cmm_emit.specs.LaidNodes.{SitesStand}
use Rattle.cmm_emit.specs.Naming.{site_label}
use Rattle.cmm_emit.specs.Standing.{SiteStands, site_words}

-- what is so of each label that stands behind words is so of the site at which a node waits
by_site : (a b : Bool) (p : Context) (kind : NodeKind) {old new : List Part} → ((l : Label) (n : ℕ) → IsBehind l (site_words a n) old → IsBehind l (site_words b n) new) →
    SiteStands a p kind old → SiteStands b p kind new
by_site a b p (Call site callee arguments exits) so stands = so (site_label p site) (length exits.returns) stands
by_site a b p (Yield site values exits) so stands = so (site_label p site) (length exits.returns) stands
by_site a b p (Entry formals next) so stands = tt
by_site a b p (CopyIn to next) so stands = tt
by_site a b p (Assign to value next) so stands = tt
by_site a b p (Store width aligned address value next) so stands = tt
by_site a b p (Branch test then_ otherwise) so stands = tt
by_site a b p (Switch value arms otherwise) so stands = tt
by_site a b p (Jump callee arguments) so stands = tt
by_site a b p (Cut to arguments own) so stands = tt
by_site a b p (Return exit alternates results) so stands = tt
by_site a b p (Host call next) so stands = tt
by_site a b p (Goto next) so stands = tt
by_site a b p Stop so stands = tt

-- whatever is appended
pub site_stays : (closed : Bool) (p : Context) (kind : NodeKind) {old new : List Part} {So : Code → ℕ → ℕ → Type 0} → SiteStands closed p kind old → Appends old new So →
    SiteStands closed p kind new
site_stays closed p kind stands more = by_site closed closed p kind (λ l n behind. behind_more behind more) stands

-- the word that closes a procedure is behind each of its sites
pub site_closed : (p : Context) (kind : NodeKind) (old : List Part) {new : List Part} → SiteStands false p kind old → new ≡ old ++ Single Ebreak ∷ [] → SiteStands true p kind new
site_closed p kind old stands closed =
    by_site false true p kind
    (λ l n behind.
    behind_parts behind (Single Ebreak ∷ []) (n + 1) closed (let room = behind.room in omega (arith, room, shortest-append behind.back (Single Ebreak ∷ [])))) stands

module _ (p : Context) (g : Graph) where
  pub stand_more : (placed : List Bool) {old new : List Part} {So : Code → ℕ → ℕ → Type 0} → SitesStand p g placed None old → Appends old new So → SitesStand p g placed None new
  stand_more placed stand more k node is come = site_stays false p node.kind (stand k node is come) more

  -- the next node has its place: its code is still to come
  pub stand_comes : (placed : List Bool) (n : ℕ) (parts : List Part) → SitesStand p g placed None parts → SitesStand p g (set placed n true) (Some (record { number = n })) parts
  stand_comes placed n parts stand k node is come = stand k node is (sym (has-set_other placed n k true come.1) ∙ come.0)

  -- and then its code is there
  pub stand_laid : (placed : List Bool) (n : NodeId) (node : Node) {old new : List Part} {So : Code → ℕ → ℕ → Type 0} → slice_get g.nodes n.number ≡ Some node →
      SitesStand p g placed (Some n) old → Appends old new So → SiteStands false p node.kind new → SitesStand p g placed None new
  stand_laid placed n node {old} {new} there stand more here k other is come = by (grind arith)
    where
      by : (k ≡ n.number) ⊎ (k ≢ n.number) → SiteStands false p other.kind new
      by (inl e) = let same : node ≡ other = cc in subst (λ (z : Node). SiteStands false p z.kind new) same here
      by (inr differ) = site_stays false p other.kind (stand k other is (come, differ)) more
