use Rattle.std.proofs.Common.{◌<◌, length, sym, ap, ◌∙◌, arith, List, ℕ}
use Rattle.cmm_ilist.specs.NodeLists.{NodeLists, after_in, has, list_at}
use Rattle.cmm_ilist.proofs.Answering.{entry_read, lists_in, node_within, standing}
use Rattle.cmm_ilist.proofs.lists.Lists.after.Goals as goal

pub index-requires : goal.index-requires
index-requires c =
    let below : c.args.node < length c.self.inside.owner.items = standing _ _ c.self.invariant c.args.node _ (ap lists_in c.self.view_is) c.requires in
    omega (arith, below, c.self.inside.after.ok, c.self.invariant.afters)

pub returns : goal.returns
returns c = λ k there.
    let is = ap (λ (v : NodeLists). v.lists) c.self.view_is in
    let there_ = ap (λ (ls : List (List ℕ)). has c.args.node (list_at ls k)) is ∙ there in
    let within = node_within _ _ c.self.invariant c.args.node k there_ in
    let below : c.args.node < length c.self.inside.after.items = omega (arith, within, c.self.invariant.afters) in
    sym (entry_read c.self.inside.after.items c.args.node c.index.result.now below c.index.ensures) ∙ (c.self.invariant.after k c.args.node there_ ∙ ap (λ (ls : List (List ℕ)). after_in c.args.node (list_at ls k)) is)
