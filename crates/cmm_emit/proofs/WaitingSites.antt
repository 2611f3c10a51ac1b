-- The sites of the nodes whose code is still to come have no place yet, while nodes and sites get theirs.
use Rattle.std.proofs.Common.{◌≡◌, ◌≢◌, ◌⊎◌, inl, inr, ℕ, ◌<◌, sym, ◌∙◌, ap, refl, List, length, set, slice_get, Option, Some, None, true, false, Bool, IfSome, IsTrue, arith}
use Rattle.std.specs.List.{list_all}
use Rattle.rv_asm.specs.declared.part.Meaning.{Meaning}
use Rattle.rv_asm.specs.declared.part.Meaning.TheVariants.{Inner}
use Rattle.cmm_bitset.proofs.Shared.{has-set_other}
use Rattle.cmm_bitset.specs.Sets.{has}
use Rattle.cmm_program.proofs.Shared.{list_all_get}
use Rattle.cmm_graph.specs.declared.graph.Graph.{Graph}
use Rattle.cmm_graph.specs.declared.node.Node.{Node}
use Rattle.cmm_graph.specs.declared.number.NodeId.{NodeId}
use Rattle.cmm_graph.specs.declared.number.SiteId.{SiteId}
use Rattle.cmm_live.specs.Sites.{site_of}
use Rattle.cmm_emit.proofs.NodeLabels.{get_other, waits_within}
use Rattle.cmm_emit.specs.declared.context.Context.{Context}
use Rattle.cmm_emit.specs.declared.context.Targets.{Targets}
use Rattle.cmm_emit.specs.LaidNodes.{AreUnplaced, HaveSites, SitesWait, WaitApart}
use Rattle.cmm_emit.specs.Naming.{has_kind, label_at, site_label}
use Rattle.cmm_emit.specs.Standing.{labels_with}

abbrev numbered : ℕ → SiteId
numbered n = record { number = n }

module _ (p : Context) (y : Targets) (g : Graph) (kinds : IsTrue (list_all (λ node. has_kind p y node.kind) g.nodes)) where
  within : (k : ℕ) (node : Node) (site : SiteId) → slice_get g.nodes k ≡ Some node → site_of node.kind ≡ Some site → site.number < length p.sites
  within k node site is waits = waits_within p y node.kind site (list_all_get (λ node. has_kind p y node.kind) g.nodes k node kinds is) waits

  -- at first none has a place
  pub none_placed : (labels : List Meaning) (placed : List Bool) → AreUnplaced labels p → SitesWait p g labels placed None
  none_placed labels placed unplaced k node is fresh = by (site_of node.kind) refl
    where
      by : (o : Option SiteId) → site_of node.kind ≡ o → IfSome o (λ site. slice_get labels (site_label p site).number ≡ Some (Inner false))
      by None waits = tt
      by (Some site) waits = unplaced site.number (within k node site is waits)

  module _ (sites : HaveSites p) where
    -- a node has its code, and its site a place
    pub waits_with : WaitApart g → (labels : List Meaning) (placed : List Bool) (n : NodeId) (node : Node) → slice_get g.nodes n.number ≡ Some node →
        has placed n.number ≡ true → SitesWait p g labels placed (Some n) → SitesWait p g (labels_with p node.kind labels) placed None
    waits_with once labels placed n node is member waits k other there fresh =
        by (site_of node.kind) refl (site_of other.kind) refl (waits k other there (inl fresh))
      where
        apart : (a b : SiteId) → site_of node.kind ≡ Some a → site_of other.kind ≡ Some b → a.number ≡ b.number → ⊥
        apart a b e e' same =
            let one : a ≡ b = ap numbered same in
            let number : n.number ≡ k = once b n.number k node other is there (e ∙ ap Some one) e' in
            let here : has placed n.number ≡ has placed k = ap (has placed) number in
            absurd (cc)

        by : (o : Option SiteId) → site_of node.kind ≡ o → (u : Option SiteId) → site_of other.kind ≡ u →
            IfSome u (λ site. slice_get labels (site_label p site).number ≡ Some (Inner false)) →
            IfSome u (λ site. slice_get (elim o [ Some a ↦ set labels (site_label p a).number (Inner true) | None ↦ labels ]) (site_label p site).number ≡ Some (Inner false))
        by o e None e' can = tt
        by None e (Some b) e' can = can
        by (Some a) e (Some b) e' can =
            get_other labels (site_label p a).number (site_label p b).number (Inner true) (Inner false)
            (λ same. apart a b e e' (sites.apart a.number b.number (within n.number node a is e) (within k other b there e') same)) can

    -- a node gets its place, whose code comes next
    pub waits_behind : (labels : List Meaning) (placed : List Bool) (n : NodeId) → n.number < length p.nodes → has placed n.number ≡ false →
        SitesWait p g labels placed None → SitesWait p g (set labels (label_at p.nodes n.number).number (Inner true)) (set placed n.number true) (Some n)
    waits_behind labels placed n inside fresh waits k other there comes = by (site_of other.kind) refl (waits k other there (still (grind arith)))
      where
        still : (k ≡ n.number) ⊎ (k ≢ n.number) → has placed k ≡ false
        still (inl e) = ap (has placed) e ∙ fresh
        still (inr differ) = elim comes [ inl out ↦ sym (has-set_other placed n.number k true differ) ∙ out | inr e ↦ absurd (differ e) ]

        by : (u : Option SiteId) → site_of other.kind ≡ u → IfSome u (λ site. slice_get labels (site_label p site).number ≡ Some (Inner false)) →
            IfSome u (λ site. slice_get (set labels (label_at p.nodes n.number).number (Inner true)) (site_label p site).number ≡ Some (Inner false))
        by None e can = tt
        by (Some site) e can =
            get_other labels (label_at p.nodes n.number).number (site_label p site).number (Inner true) (Inner false)
            (λ same. sites.of_none site.number n.number (within k other site there e) inside (sym same)) can
