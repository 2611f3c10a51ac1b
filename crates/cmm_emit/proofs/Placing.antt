-- Nodes come to have their code behind their labels, one after the other.
use Rattle.std.proofs.Common.{◌≡◌, ◌≢◌, ◌⊎◌, inl, inr, ℕ, zero, suc, ◌<◌, sym, ◌∙◌, ap, subst, refl, List, [], ◌∷◌, length, set, slice_get, Some, None, true, false, Bool, arith}
use Rattle.rv_asm.proofs.Shared.{codes_more, codes_new}
use Rattle.rv_asm.specs.Appending.{Appends, Codes}
use Rattle.rv_asm.specs.Parts.{Code}
use Rattle.rv_asm.specs.declared.part.Meaning.{Meaning}
use Rattle.rv_asm.specs.declared.part.Part.{Part}
use Rattle.cmm_bitset.proofs.Shared.{has-set_other, has-set_same}
use Rattle.cmm_bitset.specs.Sets.{has, member_count}
use Rattle.cmm_graph.specs.declared.graph.Graph.{Graph}
use Rattle.cmm_graph.specs.declared.node.Node.{Node}
use Rattle.cmm_graph.specs.declared.number.NodeId.{NodeId}
use Rattle.cmm_emit.specs.declared.context.Context.{Context}
use Rattle.cmm_emit.specs.declared.context.Targets.{Targets}
use Rattle.cmm_emit.proofs.NodeSites.{stand_comes}
use Rattle.cmm_emit.specs.Costs.{cost_of}
use Rattle.cmm_emit.specs.LaidNodes.{AreLaid, CodesAlone, EndsAt, HaveCode, IsPending, SitesStand, SitesWait, StandsHere}
use Rattle.cmm_emit.specs.Naming.{label_at}
use Rattle.cmm_emit.specs.Standing.{HasCode, IsReady}

-- a new member is one more
pub one_member_more : (set_ : List Bool) (n : ℕ) → n < length set_ → has set_ n ≡ false → member_count (set set_ n true) ≡ suc (member_count set_)
one_member_more [] n within fresh = absurd (omega arith)
one_member_more (true ∷ rest) zero within fresh = absurd (cc)
one_member_more (false ∷ rest) zero within fresh = refl
one_member_more (true ∷ rest) (suc n) within fresh = ap suc (one_member_more rest n (omega (arith, within)) fresh)
one_member_more (false ∷ rest) (suc n) within fresh = one_member_more rest n (omega (arith, within)) fresh

-- where there is a member, there is one at least
pub some_member : (set_ : List Bool) (k : ℕ) → has set_ k ≡ true → 0 < member_count set_
some_member [] k there = absurd (cc)
some_member (true ∷ rest) k there = omega arith
some_member (false ∷ rest) zero there = absurd (cc)
some_member (false ∷ rest) (suc k) there = some_member rest k there

-- a member stays one when another comes
pub member_stays : (set_ : List Bool) (n k : ℕ) → n < length set_ → has set_ k ≡ true → has (set set_ n true) k ≡ true
member_stays set_ n k within there = by (grind arith)
  where
    by : (k ≡ n) ⊎ (k ≢ n) → has (set set_ n true) k ≡ true
    by (inl e) = subst (λ (z : ℕ). has (set set_ n true) z ≡ true) (sym e) (has-set_same set_ n true within)
    by (inr differ) = has-set_other set_ n k true differ ∙ there

module _ (p : Context) (y : Targets) (g : Graph) where
  -- the code of a node is that of its number
  pub node_stands : (k : ℕ) (node : Node) → slice_get g.nodes k ≡ Some node → (x : Code) (from to : ℕ) → CodesAlone p y node.kind x from to → StandsHere p y g k x from to
  node_stands k node is x from to codes other same s c l f q is-x of at =
      let e : node ≡ other = cc in
      subst (λ (z : Node). HasCode s c l f q (record { number = k }) z.kind (cost_of p y z.kind)) e (codes s c l f q (record { number = k }) is-x of at)

  -- the node that may still come gets its code
  pub code_comes : (labels : List Meaning) (placed : List Bool) (n : NodeId) (old new : List Part) → IsPending p y g labels placed n old →
      Appends old new (StandsHere p y g n.number) → HaveCode p y g placed None new
  code_comes labels placed n old new pending appends k there = by (grind arith)
    where
      by : (k ≡ n.number) ⊎ (k ≢ n.number) → Codes new (label_at p.nodes k) (StandsHere p y g k)
      by (inl e) = subst (λ (z : ℕ). Codes new (label_at p.nodes z) (StandsHere p y g z)) (sym e) (codes_new pending.front (label_at p.nodes n.number) pending.ends appends)
      by (inr differ) = codes_more (label_at p.nodes k) (pending.have k there differ) appends

  -- and then another has its place at the end
  pub place_comes : (labels : List Meaning) (old new : List Bool) (n : NodeId) (parts : List Part) → EndsAt p n old new parts → IsReady labels p y → AreLaid labels p new →
      SitesWait p g labels new (Some n) → length old ≡ length p.nodes → HaveCode p y g old None parts → SitesStand p g old None parts → IsPending p y g labels new n parts
  place_comes labels old new n parts ends ready laid waits size have stand = record {
    ready = ready;
    laid = laid;
    waits = waits;
    within = ends.within;
    member = rw ends.placed (has-set_same old n.number true (omega (arith, size, ends.within)));
    front = ends.front;
    ends = ends.is;
    have = λ k there differ. have k (sym (has-set_other old n.number k true differ) ∙ subst (λ (z : List Bool). has z k ≡ true) ends.placed there);
    stand = rw ends.placed (stand_comes p g old n.number parts stand);
  }
