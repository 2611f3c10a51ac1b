use Rattle.std.proofs.Common.{[], ◌∙◌, subst, List, ℕ}
use Rattle.std.proofs.lemmas.List.{get_or_default}
use Rattle.cmm_digraph.specs.inside.Listed.{AreAdded}
use Rattle.cmm_digraph.proofs.Listing.{users_next}
use Rattle.cmm_digraph.proofs.users.users_of.Goals as goal

pub loop-user-preserved : goal.loop-user-preserved
loop-user-preserved c =
    let graph = c.args.graph.now in
    let k = c.loop-user.user in
    let added = c.in_ok-add_user.ensures in (
      added.size ∙ c.loop-user.invariant.0,
      users_next graph c.loop-user.users.items c.add_user.new.users.items k c.loop-user-test.true c.loop-user.invariant.0 c.loop-user.invariant.1
          (subst (λ (ms : List ℕ). AreAdded k ms c.loop-user.users.items c.add_user.new.users.items)
          (c.as_slice.ensures ∙ c.index-graph-user.is ∙ get_or_default graph k c.index-graph-user.result [] c.loop-user-test.true) added),
    )
