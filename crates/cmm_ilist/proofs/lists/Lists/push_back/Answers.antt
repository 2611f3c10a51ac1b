use Rattle.std.proofs.Common.{◌<◌, ◌++◌, ◌∷◌, [], length, sym, ap, ◌∙◌, subst, arith, refl, List, ℕ, set, Option, None}
use Rattle.cmm_ilist.specs.NodeLists.{NodeLists, is_in_some, list_at}
use Rattle.cmm_ilist.specs.inside.Linked.{lists_of}
use Rattle.cmm_ilist.proofs.Answering.{end_within, entry_read, none_has, pushed_new}
use Rattle.cmm_ilist.proofs.Linked.{are_linked, lists_are}
use Rattle.cmm_ilist.proofs.lists.Lists.push_back.Goals as goal

pub set_either-requires-clause-node : goal.set_either-requires-clause-node
set_either-requires-clause-node c =
    let is = ap (λ (v : NodeLists). v.lists) c.self.view_is in
    let count = ap (λ (v : NodeLists). v.nodes) c.self.view_is in
    let below : c.args.list < length (lists_of (length c.self.inside.owner.items) c.self.inside.after.items c.self.inside.first.items) = subst (λ (ls : List (List ℕ)). c.args.list < length ls) (sym is) c.requires.list in
    end_within _ _ c.self.invariant c.args.node c.args.list (subst (λ n. c.args.node < n) (sym count) c.requires.node) below
    (none_has c.args.node _ (ap (is_in_some c.args.node) is ∙ c.requires.free))
    c.index-end.result.now (entry_read c.self.inside.last.items c.args.list c.index-end.result.now (omega (arith, below, c.self.invariant.lasts)) c.index-end.ensures)

pub invariant_of-self : goal.invariant_of-self
invariant_of-self c =
    let is = ap (λ (v : NodeLists). v.lists) c.self.view_is in
    let count = ap (λ (v : NodeLists). v.nodes) c.self.view_is in
    let below : c.args.list < length (lists_of (length c.self.inside.owner.items) c.self.inside.after.items c.self.inside.first.items) = subst (λ (ls : List (List ℕ)). c.args.list < length ls) (sym is) c.requires.list in
    are_linked _ _ (pushed_new _ _ c.self.invariant c.args.node c.args.list (subst (λ n. c.args.node < n) (sym count) c.requires.node) below
    (none_has c.args.node _ (ap (is_in_some c.args.node) is ∙ c.requires.free))
    c.index-end.result.now (entry_read c.self.inside.last.items c.args.list c.index-end.result.now (omega (arith, below, c.self.invariant.lasts)) c.index-end.ensures)
    _ _ _ _ _ refl refl (ap (λ (t : List (Option ℕ)). set t c.args.node None) c.set_either.ensures.nodes) c.set_either.ensures.lists refl)

pub returns-clause-lists : goal.returns-clause-lists
returns-clause-lists c =
    let is = ap (λ (v : NodeLists). v.lists) c.self.view_is in
    let count = ap (λ (v : NodeLists). v.nodes) c.self.view_is in
    let below : c.args.list < length (lists_of (length c.self.inside.owner.items) c.self.inside.after.items c.self.inside.first.items) = subst (λ (ls : List (List ℕ)). c.args.list < length ls) (sym is) c.requires.list in
    lists_are _ _ (pushed_new _ _ c.self.invariant c.args.node c.args.list (subst (λ n. c.args.node < n) (sym count) c.requires.node) below
    (none_has c.args.node _ (ap (is_in_some c.args.node) is ∙ c.requires.free))
    c.index-end.result.now (entry_read c.self.inside.last.items c.args.list c.index-end.result.now (omega (arith, below, c.self.invariant.lasts)) c.index-end.ensures)
    _ _ _ _ _ refl refl (ap (λ (t : List (Option ℕ)). set t c.args.node None) c.set_either.ensures.nodes) c.set_either.ensures.lists refl)
    ∙ ap (λ (ls : List (List ℕ)). set ls c.args.list (list_at ls c.args.list ++ c.args.node ∷ [])) is
