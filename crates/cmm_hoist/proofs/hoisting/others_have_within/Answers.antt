use Rattle.std.proofs.Common.{◌≡◌, ℕ, ◌+◌, ◌<◌, ◌≤◌, ◌⊎◌, ◌∙◌, inl, inr, sym, subst, ap, arith, get_or, List, Some}
use Rattle.std.specs.Prelude.{slice_get}
use Rattle.std.proofs.lemmas.Option.{get_or_from_slice_get, slice_get_within}
use Rattle.cmm_graph.specs.declared.node.Node.{Node}
use Rattle.cmm_hoist.proofs.hoisting.others_have_within.Goals.{else-index-g-via-then-index-g+else-nodes-index, else-index-g-via-else-index-g}
use Rattle.cmm_hoist.proofs.hoisting.others_have_within.Goals as goal

last_or_below : (n i : ℕ) → n < i + 1 → (n < i) ⊎ (n ≡ i)
last_or_below n i less = grind arith

pub loop-index-preserved : goal.loop-index-preserved
loop-index-preserved c = λ n node less is other.
    let nodes = c.as_slice-nodes.result.now in
    let i = c.loop-index.index in
    elim (last_or_below n i less) [
      | inl below ↦ c.loop-index.invariant n node below is other
      | inr here ↦
          elim c.else-index-g.branch [
            | else-index-g-via-then-index-g+else-nodes-index w ↦
                let found = w.index-nodes-index.result in
                let same : get_or nodes i found ≡ node = get_or_from_slice_get nodes i node found (ap (slice_get nodes) (sym here) ∙ is) in
                subst (λ (it : Node). it.tokens ≤ c.args.most) same w.if-nodes-index.false
            | else-index-g-via-else-index-g w ↦ absurd (other (here ∙ w.if-index-g.false))
          ]
    ]

pub returns : goal.returns
returns c = λ true n node is other.
    let nodes = c.as_slice-nodes.result.now in
    let here : slice_get nodes n ≡ Some node = ap (λ (ns : List Node). slice_get ns n) c.as_slice-nodes.ensures ∙ is in
    c.loop-index.invariant n node (omega (arith, slice_get_within nodes n node here, c.loop-index-test.false)) here other
