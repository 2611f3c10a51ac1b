use Rattle.std.proofs.Common.{◌≡◌, ◌<◌, ◌++◌, ◌∷◌, [], length, ◌∙◌, ap, set, get_or, arith}
use Rattle.std.proofs.lemmas.List.{get_or_default}
use Rattle.cmm_digraph.proofs.Counting.{below_index}
use Rattle.cmm_digraph.proofs.Listing.{added_next}
use Rattle.cmm_digraph.proofs.users.add_user.Goals as goal

pub loop-node-preserved : goal.loop-node-preserved
loop-node-preserved c =
    let i = c.loop-node.node-index in
    let ms = c.args.mentioned.now in
    let users = c.loop-node.users.items in
    let node : get_or ms i 0 < length c.args.users.now.items = below_index _ ms i c.requires c.loop-node-test.true in
    let size : length users ≡ length c.args.users.now.items = c.loop-node.invariant.size in
    added_next c.args.user ms i c.args.users.now.items users (set users (get_or ms i 0) c.push.new.self) c.loop-node-test.true
    node c.loop-node.invariant
    (ap (set users (get_or ms i 0)) (c.in_ok-push.ensures.ok ∙ ap (λ q. q ++ c.args.user ∷ []) (c.index_mut.ensures.value ∙ get_or_default users (get_or ms i 0) c.index_mut.result.now [] (omega arith))))
