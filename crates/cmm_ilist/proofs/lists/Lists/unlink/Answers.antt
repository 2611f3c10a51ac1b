use Rattle.std.proofs.Common.{◌<◌, length, ap, ◌∙◌, arith, refl, map, List, ℕ}
use Rattle.cmm_ilist.specs.NodeLists.{without}
use Rattle.cmm_ilist.proofs.Answering.{after_within, before_within, entry_read, first_within, has_owner, is_at, last_within, lists_in, standing, unlinked_new}
use Rattle.cmm_ilist.proofs.Linked.{are_linked, lists_are}
use Rattle.cmm_ilist.proofs.lists.Lists.unlink.Goals as goal

pub index-requires : goal.index-requires
index-requires c =
    let below : c.args.node < length c.self.inside.owner.items = standing _ _ c.self.invariant c.args.node _ (ap lists_in c.self.view_is) c.requires in
    omega (arith, below, c.self.inside.owner.ok)

pub returns-in_default-clause-lists : goal.returns-in_default-clause-lists
returns-in_default-clause-lists c =
    let below : c.args.node < length c.self.inside.owner.items = standing _ _ c.self.invariant c.args.node _ (ap lists_in c.self.view_is) c.requires in
    absurd (has_owner _ _ c.self.invariant c.args.node _ (ap lists_in c.self.view_is) c.requires c.index.result.now
    (entry_read c.self.inside.owner.items c.args.node c.index.result.now below c.index.ensures) c.in_default.not-Some)

pub index-before-requires : goal.index-before-requires
index-before-requires c =
    let below : c.args.node < length c.self.inside.owner.items = standing _ _ c.self.invariant c.args.node _ (ap lists_in c.self.view_is) c.requires in
    omega (arith, below, c.self.inside.before.ok, c.self.invariant.befores)

pub index-after-requires : goal.index-after-requires
index-after-requires c =
    let below : c.args.node < length c.self.inside.owner.items = standing _ _ c.self.invariant c.args.node _ (ap lists_in c.self.view_is) c.requires in
    omega (arith, below, c.self.inside.after.ok, c.self.invariant.afters)

pub set_either-requires-clause-node : goal.set_either-requires-clause-node
set_either-requires-clause-node c =
    let below : c.args.node < length c.self.inside.owner.items = standing _ _ c.self.invariant c.args.node _ (ap lists_in c.self.view_is) c.requires in
    let at = is_at _ _ c.self.invariant c.args.node below c.index.result.now c.in-Some.list c.index-before.result.now c.index-after.result.now
    c.index.ensures c.in-Some.is c.index-before.ensures c.index-after.ensures in
    before_within _ _ c.self.invariant _ _ _ _ at

pub set_either-requires-clause-list : goal.set_either-requires-clause-list
set_either-requires-clause-list c =
    let below : c.args.node < length c.self.inside.owner.items = standing _ _ c.self.invariant c.args.node _ (ap lists_in c.self.view_is) c.requires in
    let at = is_at _ _ c.self.invariant c.args.node below c.index.result.now c.in-Some.list c.index-before.result.now c.index-after.result.now
    c.index.ensures c.in-Some.is c.index-before.ensures c.index-after.ensures in
    first_within _ _ c.self.invariant _ _ _ _ at

pub set_either-requires-2-clause-node : goal.set_either-requires-2-clause-node
set_either-requires-2-clause-node c =
    let below : c.args.node < length c.self.inside.owner.items = standing _ _ c.self.invariant c.args.node _ (ap lists_in c.self.view_is) c.requires in
    let at = is_at _ _ c.self.invariant c.args.node below c.index.result.now c.in-Some.list c.index-before.result.now c.index-after.result.now
    c.index.ensures c.in-Some.is c.index-before.ensures c.index-after.ensures in
    after_within _ _ c.self.invariant _ _ _ _ at

pub set_either-requires-2-clause-list : goal.set_either-requires-2-clause-list
set_either-requires-2-clause-list c =
    let below : c.args.node < length c.self.inside.owner.items = standing _ _ c.self.invariant c.args.node _ (ap lists_in c.self.view_is) c.requires in
    let at = is_at _ _ c.self.invariant c.args.node below c.index.result.now c.in-Some.list c.index-before.result.now c.index-after.result.now
    c.index.ensures c.in-Some.is c.index-before.ensures c.index-after.ensures in
    last_within _ _ c.self.invariant _ _ _ _ at

pub index_mut-requires : goal.index_mut-requires
index_mut-requires c =
    let below : c.args.node < length c.self.inside.owner.items = standing _ _ c.self.invariant c.args.node _ (ap lists_in c.self.view_is) c.requires in
    omega (arith, below, c.self.inside.owner.ok)

pub invariant_of-self : goal.invariant_of-self
invariant_of-self c =
    let below : c.args.node < length c.self.inside.owner.items = standing _ _ c.self.invariant c.args.node _ (ap lists_in c.self.view_is) c.requires in
    let at = is_at _ _ c.self.invariant c.args.node below c.index.result.now c.in-Some.list c.index-before.result.now c.index-after.result.now
    c.index.ensures c.in-Some.is c.index-before.ensures c.index-after.ensures in
    are_linked _ _ (unlinked_new _ _ c.self.invariant _ _ _ _ at _ _ _ _ _ refl c.set_either-2.ensures.nodes c.set_either.ensures.nodes
    c.set_either.ensures.lists c.set_either-2.ensures.lists)

pub returns-clause-lists : goal.returns-clause-lists
returns-clause-lists c =
    let below : c.args.node < length c.self.inside.owner.items = standing _ _ c.self.invariant c.args.node _ (ap lists_in c.self.view_is) c.requires in
    let at = is_at _ _ c.self.invariant c.args.node below c.index.result.now c.in-Some.list c.index-before.result.now c.index-after.result.now
    c.index.ensures c.in-Some.is c.index-before.ensures c.index-after.ensures in
    lists_are _ _ (unlinked_new _ _ c.self.invariant _ _ _ _ at _ _ _ _ _ refl c.set_either-2.ensures.nodes c.set_either.ensures.nodes
    c.set_either.ensures.lists c.set_either-2.ensures.lists) ∙ ap (λ (ls : List (List ℕ)). map (without c.args.node) ls) (ap lists_in c.self.view_is)
