use Rattle.std.proofs.Common.{◌≡◌, ◌<◌, ◌∙◌, ℕ, true, List, Some, length, sym, ap, subst}
use Rattle.std.specs.Prelude.{◌↔◌}
use Rattle.cmm_ilist.specs.NodeLists.{NodeLists, has, is_in_some, list_at}
use Rattle.cmm_ilist.proofs.Answering.{entry_read, lists_in, owner_is_some, owner_tells}
use Rattle.cmm_ilist.proofs.lists.Lists.list_of.Goals as goal

pub returns-clause-list : goal.returns-clause-list
returns-clause-list c =
    let below = subst (λ n. c.args.node < n) (sym (ap (λ (v : NodeLists). v.nodes) c.self.view_is)) c.requires in
    subst (λ (v : NodeLists). (k : ℕ) → (c.index.result.now ≡ Some k) ↔ (has c.args.node (list_at v.lists k) ≡ true)) c.self.view_is
    (owner_tells _ _ c.self.invariant c.args.node c.index.result.now (entry_read c.self.inside.owner.items c.args.node c.index.result.now below c.index.ensures))

pub returns-clause-some : goal.returns-clause-some
returns-clause-some c =
    let below = subst (λ n. c.args.node < n) (sym (ap (λ (v : NodeLists). v.nodes) c.self.view_is)) c.requires in
    owner_is_some _ _ c.self.invariant c.args.node c.index.result.now (entry_read c.self.inside.owner.items c.args.node c.index.result.now below c.index.ensures)
    ∙ ap (is_in_some c.args.node) (ap lists_in c.self.view_is)
