use Rattle.std.proofs.Common.{◌<◌, [], ℕ, List, length, ap, sym, ◌∙◌, arith}
use Rattle.std.proofs.lemmas.List.{get_or_default}
use Rattle.cmm_ilist.specs.NodeLists.{has}
use Rattle.cmm_colour.proofs.simple.simple.Goals as goal

pub once-requires-clause-below : goal.once-requires-clause-below
once-requires-clause-below c = λ w there.
    let rows = c.args.rows.now in
    let v = c.loop-node.node in
    let is = c.as_slice.ensures ∙ c.index-rows-node.is ∙ get_or_default rows v c.index-rows-node.result [] c.loop-node-test.true in
    let low : w < length rows = c.requires.within v w (ap (λ (l : List ℕ). has w l) (sym is) ∙ there) in
    omega (arith, low, c.loop-node.invariant.marks)
