use Rattle.std.proofs.Common.{◌<◌, ◌≤◌, ◌∷◌, [], ap, length, sym, ◌∙◌, None, Some, arith}
use Rattle.std.proofs.lemmas.Bool.Decides.{nat_tests}
use Rattle.cmm_effects.proofs.Shared.{by_last}
use Rattle.cmm_emit.proofs.NodeLabels.{laid_placed, ready_placed}
use Rattle.std.proofs.lemmas.Option.{slice_get_within}
use Rattle.rv_asm.proofs.Shared.{appends_one, appends_then, appends_weaker, codes_more, longest-append}
use Rattle.rv_asm.specs.Appending.{Appends}
use Rattle.rv_asm.specs.Parts.{Does}
use Rattle.rv_asm.specs.Sizes.{all_longest}
use Rattle.rv_asm.specs.declared.part.Meaning.TheVariants.{Inner}
use Rattle.cmm_bitset.specs.Sets.{has}
use Rattle.cmm_emit.proofs.Between.{none_behind}
use Rattle.cmm_emit.proofs.Own.{own_node, own_then}
use Rattle.rv_asm.specs.declared.part.Part.TheVariants.{Place}
use Rattle.cmm_emit.proofs.Placing.{member_stays, place_comes}
use Rattle.cmm_emit.proofs.NodeSites.{stand_more}
use Rattle.cmm_emit.proofs.Summing.{place_costs}
use Rattle.cmm_emit.proofs.WaitingSites.{waits_behind}
use Rattle.cmm_emit.specs.LaidNodes.{AreLaid, SitesWait, cost_to_come}
use Rattle.cmm_emit.specs.Naming.{label_at}
use Rattle.cmm_emit.specs.Standing.{IsReady}
use Rattle.cmm_emit.proofs.node_code.lay_from.Goals as goal

pub lay_chain-requires-clause-pending : goal.lay_chain-requires-clause-pending
lay_chain-requires-clause-pending c =
    let p = c.args.context.now in
    let y = c.args.targets.now in
    let n = c.args.first in
    let old = c.args.placed.now in
    let labels = c.args.asm.now.labels in
    let within : n.number < length p.nodes = grind (arith, nat_tests, c.requires.first) in
    let fresh = sym c.has.ensures ∙ c.if-has.false in
    let parts = rw c.as_slice.ensures at c.place.ensures.parts in
    let is-labels = rw c.as_slice.ensures at c.place.ensures.labels in
    let ready : IsReady c.place.new.self.labels p y = rw is-labels (ready_placed labels p old c.requires.between.laid n.number within fresh y c.requires.between.ready) in
    let laid : AreLaid c.place.new.self.labels p c.insert.new.self = rw (is-labels, c.insert.ensures) (laid_placed labels p old c.requires.between.laid n.number within fresh) in
    let waits : SitesWait p c.args.graph.now c.place.new.self.labels c.insert.new.self (Some n) =
    rw (is-labels, c.insert.ensures) (waits_behind p y c.args.graph.now c.requires.kinds c.requires.sites labels old n within fresh c.requires.between.waits) in
    place_comes p y c.args.graph.now c.place.new.self.labels old c.insert.new.self n c.place.new.self.parts
    (record { front = c.args.asm.now.parts; is = parts; within = within; fresh = fresh; placed = c.insert.ensures }) ready laid waits c.requires.between.laid.size
    (λ k there. rw parts (codes_more (label_at p.nodes k) (c.requires.between.have k there) (appends_one c.args.asm.now.parts (Place (label_at p.nodes n.number)))))
    (rw parts (stand_more p c.args.graph.now old c.requires.between.stand (appends_one c.args.asm.now.parts (Place (label_at p.nodes n.number)))))

pub returns-then-has-clause-behind : goal.returns-then-has-clause-behind
returns-then-has-clause-behind c = none_behind c.args.context.now c.args.targets.now c.args.graph.now c.args.asm.now.labels c.args.placed.now c.args.asm.now.parts

pub returns-clause-behind : goal.returns-clause-behind
returns-clause-behind c =
    by_last c.lay_chain.result c.lay_chain.ensures.behind
    (λ h.
    let p = c.args.context.now in
    let y = c.args.targets.now in
    let g = c.args.graph.now in
    let n = c.args.first in
    let old = c.args.placed.now in
    let labels = c.args.asm.now.labels in
    let front = c.args.asm.now.parts in
    let chain = h in
    let within : n.number < length p.nodes = grind (arith, nat_tests, c.requires.first) in
    let fresh = sym c.has.ensures ∙ c.if-has.false in
    let is-labels = rw c.as_slice.ensures at c.place.ensures.labels in
    let parts = rw c.as_slice.ensures at c.place.ensures.parts in
    let there = slice_get_within labels (label_at p.nodes n.number).number (Inner (has old n.number)) (c.requires.between.laid.each n.number within) in
    let place : Appends front c.place.new.self.parts (λ x from to. Does x (Place (label_at p.nodes n.number)) from to) =
    rw parts (appends_one front (Place (label_at p.nodes n.number))) in
    let placed : cost_to_come p y c.insert.new.self (Some n) g.nodes ≤ cost_to_come p y old None g.nodes = rw c.insert.ensures (place_costs p y g old n fresh) in
    record {
      grows = λ k is. chain.grows k (rw c.insert.ensures (member_stays old n.number k (let size = c.requires.between.laid.size in omega (arith, within, size)) is));
      added = appends_weaker (appends_then place chain.added) (λ x from to does. tt);
      places = own_then p labels c.place.new.self.labels c.lay_chain.new.asm.labels (rw is-labels (own_node p labels n.number within there)) chain.places;
      size = let few = chain.size in omega (arith, few, placed, ap all_longest parts, longest-append front (Place (label_at p.nodes n.number) ∷ []));
    })
