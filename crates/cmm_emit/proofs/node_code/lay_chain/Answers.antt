use Rattle.std.proofs.Common.{◌≡◌, ◌<◌, ◌∙◌, ap, inr, refl, sym, get_or, length, set, subst, List, Some, None, true, arith}
use Rattle.rv_asm.specs.declared.part.Meaning.TheVariants.{Inner}
use Rattle.std.proofs.lemmas.Option.{slice_get-get_or, slice_get_within}
use Rattle.rv_asm.proofs.Shared.{appends_none, appends_then, appends_weaker}
use Rattle.rv_asm.specs.declared.part.Meaning.{Meaning}
use Rattle.cmm_bitset.specs.Sets.{has}
use Rattle.cmm_program.proofs.Shared.{list_all_get}
use Rattle.cmm_emit.proofs.NodeLabels.{own_made, waits_made}
use Rattle.cmm_emit.proofs.Own.{own_node, own_none, own_then, own_with}
use Rattle.cmm_bitset.proofs.Shared.{member_count-le}
use Rattle.cmm_emit.proofs.Placing.{code_comes, member_stays, node_stands, one_member_more, place_comes, some_member}
use Rattle.cmm_emit.proofs.NodeSites.{stand_laid}
use Rattle.cmm_emit.proofs.Summing.{last_costs, next_costs}
use Rattle.cmm_emit.proofs.WaitingSites.{waits_behind, waits_with}
use Rattle.cmm_emit.specs.LaidNodes.{AreLabelsBehind, EndsAt, PlacesOwn, SitesStand, SitesWait}
use Rattle.cmm_emit.specs.Naming.{has_kind, label_at}
use Rattle.cmm_emit.specs.Standing.{labels_with}
use Rattle.cmm_emit.proofs.node_code.lay_chain.Goals as goal

pub loop-init : goal.loop-init
loop-init c = (c.requires.pending, λ k is. is, some_member c.args.placed.now c.args.first.number c.requires.pending.member, appends_weaker (appends_none c.args.asm.now.parts) (λ x from to is. tt), own_none c.args.context.now c.args.asm.now.labels, omega arith)

pub lay_node-requires-clause-waits : goal.lay_node-requires-clause-waits
lay_node-requires-clause-waits c =
    let at = c.loop.at in
    let node = c.index-as_slice-at.result in
    let nodes = c.args.graph.now.nodes in
    let inside : at.number < length nodes = omega (arith, c.loop.invariant.0.within, c.requires.size) in
    let same : get_or nodes at.number node ≡ node = sym (rw c.as_slice.ensures at c.index-as_slice-at.is) in
    c.loop.invariant.0.waits at.number node (slice_get-get_or nodes at.number node inside ∙ ap Some same) (inr refl)

pub returns-in-None-clause-between : goal.returns-in-None-clause-between
returns-in-None-clause-between c =
    let p = c.args.context.now in
    let y = c.args.targets.now in
    let g = c.args.graph.now in
    let at = c.loop.at in
    let node = c.index-as_slice-at.result in
    let nodes = g.nodes in
    let inside : at.number < length nodes = omega (arith, c.loop.invariant.0.within, c.requires.size) in
    let same : get_or nodes at.number node ≡ node = sym (rw c.as_slice.ensures at c.index-as_slice-at.is) in
    let is = slice_get-get_or nodes at.number node inside ∙ ap Some same in
    let pending = c.loop.invariant.0 in
    let stays : c.lay_node.new.placed ≡ c.loop.placed = rw c.in-None.is at c.in_ok-next.ensures.stays in
    let behind : AreLabelsBehind p node.kind None c.loop.asm.labels c.lay_node.new.asm.labels = rw c.in-None.is at c.in_ok-next.ensures.labels in
    let waits : SitesWait p g (labels_with p node.kind c.loop.asm.labels) c.loop.placed None =
    waits_with p y g c.requires.kinds c.requires.sites c.requires.once c.loop.asm.labels c.loop.placed at node is pending.member pending.waits in
    let made : SitesWait p g behind.0 c.loop.placed None = waits_made p _ _ behind.0 behind.1 g c.loop.placed None waits in
    let appends = appends_weaker c.in_ok-next.ensures.code.appends (λ x from to codes. node_stands p y g at.number node is x from to codes) in
    let have = code_comes p y g c.loop.asm.labels c.loop.placed at c.loop.asm.parts c.lay_node.new.asm.parts pending appends in
    let stand : SitesStand p g c.loop.placed None c.lay_node.new.asm.parts =
    stand_laid p g c.loop.placed at node is pending.stand c.in_ok-next.ensures.code.appends c.in_ok-next.ensures.stands in
    record {
      ready = c.in_ok-next.ensures.ready;
      laid = c.in_ok-next.ensures.laid;
      waits = rw (behind.2, stays) made;
      have = rw stays have;
      stand = rw stays stand;
    }

pub loop-preserved : goal.loop-preserved
loop-preserved c =
    let p = c.args.context.now in
    let y = c.args.targets.now in
    let g = c.args.graph.now in
    let at = c.loop.at in
    let node = c.index-as_slice-at.result in
    let nodes = g.nodes in
    let inside : at.number < length nodes = omega (arith, c.loop.invariant.0.within, c.requires.size) in
    let same : get_or nodes at.number node ≡ node = sym (rw c.as_slice.ensures at c.index-as_slice-at.is) in
    let is = slice_get-get_or nodes at.number node inside ∙ ap Some same in
    let appends = appends_weaker c.in_ok-next.ensures.code.appends (λ x from to codes. node_stands p y g at.number node is x from to codes) in
    let have = code_comes p y g c.loop.asm.labels c.loop.placed at c.loop.asm.parts c.lay_node.new.asm.parts c.loop.invariant.0 appends in
    let next = c.in-Some.next in
    let old = c.loop.placed in
    let ends : EndsAt p next old c.lay_node.new.placed c.lay_node.new.asm.parts = rw c.in-Some.is at c.in_ok-next.ensures.ends in
    let size = c.loop.invariant.0.laid.size in
    let within : next.number < length old = omega (arith, size, ends.within) in
    let behind : AreLabelsBehind p node.kind (Some next) c.loop.asm.labels c.lay_node.new.asm.labels = rw c.in-Some.is at c.in_ok-next.ensures.labels in
    let mid = behind.0 in
    let labels : c.lay_node.new.asm.labels ≡ set mid (label_at p.nodes next.number).number (Inner true) = behind.2 in
    let pending = c.loop.invariant.0 in
    let sites_wait : SitesWait p g mid old None =
    waits_made p _ _ mid behind.1 g old None (waits_with p y g c.requires.kinds c.requires.sites c.requires.once c.loop.asm.labels old at node is pending.member pending.waits) in
    let can = list_all_get (λ node. has_kind p y node.kind) nodes at.number node c.requires.kinds is in
    let own = own_then p c.loop.asm.labels (labels_with p node.kind c.loop.asm.labels) mid (own_with p y node.kind c.loop.asm.labels can (pending.waits at.number node is (inr refl)))
    (own_made p _ _ mid behind.1) in
    let there = slice_get_within c.loop.asm.labels (label_at p.nodes next.number).number (Inner (has old next.number)) (pending.laid.each next.number ends.within) in
    let waits : SitesWait p g c.lay_node.new.asm.labels c.lay_node.new.placed (Some next) =
    rw (labels, ends.placed) (waits_behind p y g c.requires.kinds c.requires.sites mid old next ends.within ends.fresh sites_wait) in (
      place_comes p y g c.lay_node.new.asm.labels old c.lay_node.new.placed next c.lay_node.new.asm.parts ends c.in_ok-next.ensures.ready c.in_ok-next.ensures.laid waits size have
          (stand_laid p g old at node is pending.stand c.in_ok-next.ensures.code.appends c.in_ok-next.ensures.stands),
      λ k is. rw ends.placed (member_stays old next.number k within (c.loop.invariant.1 k is)),
      rw (ends.placed, one_member_more old next.number within ends.fresh) (omega (arith, c.loop.invariant.2)),
      appends_weaker (appends_then c.loop.invariant.3 appends) (λ x from to does. tt),
      own_then p c.args.asm.now.labels c.loop.asm.labels c.lay_node.new.asm.labels c.loop.invariant.4 (subst (λ (ms : List Meaning). PlacesOwn p c.loop.asm.labels ms) (sym labels)
          (own_then p c.loop.asm.labels mid (set mid (label_at p.nodes next.number).number (Inner true)) own
          (own_node p mid next.number ends.within (omega (arith, own.count, there))))),
      rw ends.placed (omega (arith, c.loop.invariant.5, c.in_ok-next.ensures.code.few, next_costs p y g old at next node is pending.member ends.fresh)),
    )

pub returns-clause-between : goal.returns-clause-between
returns-clause-between c =
    absurd (omega (arith, c.loop.invariant.2, member_count-le c.loop.placed, c.loop.invariant.0.laid.size, c.requires.size, c.loop-test.false, c.len-end.ensures))

pub returns-clause-behind : goal.returns-clause-behind
returns-clause-behind c =
    absurd (omega (arith, c.loop.invariant.2, member_count-le c.loop.placed, c.loop.invariant.0.laid.size, c.requires.size, c.loop-test.false, c.len-end.ensures))

pub returns-in-None-clause-behind : goal.returns-in-None-clause-behind
returns-in-None-clause-behind c =
    let p = c.args.context.now in
    let y = c.args.targets.now in
    let g = c.args.graph.now in
    let at = c.loop.at in
    let node = c.index-as_slice-at.result in
    let nodes = g.nodes in
    let inside : at.number < length nodes = omega (arith, c.loop.invariant.0.within, c.requires.size) in
    let same : get_or nodes at.number node ≡ node = sym (rw c.as_slice.ensures at c.index-as_slice-at.is) in
    let is = slice_get-get_or nodes at.number node inside ∙ ap Some same in
    let pending = c.loop.invariant.0 in
    let stays : c.lay_node.new.placed ≡ c.loop.placed = rw c.in-None.is at c.in_ok-next.ensures.stays in
    let behind : AreLabelsBehind p node.kind None c.loop.asm.labels c.lay_node.new.asm.labels = rw c.in-None.is at c.in_ok-next.ensures.labels in
    let can = list_all_get (λ node. has_kind p y node.kind) nodes at.number node c.requires.kinds is in
    let own = own_then p c.loop.asm.labels (labels_with p node.kind c.loop.asm.labels) behind.0 (own_with p y node.kind c.loop.asm.labels can (pending.waits at.number node is (inr refl)))
    (own_made p _ _ behind.0 behind.1) in
    record {
      grows = rw stays c.loop.invariant.1;
      added = appends_weaker (appends_then c.loop.invariant.3 c.in_ok-next.ensures.code.appends) (λ x from to does. tt);
      places =
          own_then p c.args.asm.now.labels c.loop.asm.labels c.lay_node.new.asm.labels c.loop.invariant.4 (subst (λ (ms : List Meaning). PlacesOwn p c.loop.asm.labels ms) (sym behind.2) own);
      size = rw stays (omega (arith, c.loop.invariant.5, c.in_ok-next.ensures.code.few, last_costs p y g c.loop.placed at node is pending.member));
    }
