use Rattle.std.proofs.Common.{ℕ, List, ◌++◌, ap, ◌∙◌}
use Rattle.std.proofs.lemmas.Iterator.{YieldsList-from_slice, YieldsList-from_zip}
use Rattle.std.proofs.lemmas.Iterator.Consumers.{YieldsList-end}
use Rattle.cmm_image.proofs.SecondByteLaws.{placed_put}
use Rattle.cmm_image.proofs.second_bytes.put_placed.Goals as goal

pub returns : goal.returns
returns c =
    let road = YieldsList-from_zip (YieldsList-from_slice c.args.rows.now cc) (YieldsList-from_slice c.args.places.now cc) in
    let e = YieldsList-end road c.loop-row.yielded _ c.loop-row.yielded_by _ c.next.new.self c.in-None.is c.next.ensures.steps in
    c.loop-row.invariant ∙ ap (λ (t : List ℕ). c.args.out.now.items ++ t) (placed_put c.args.rows.now c.args.places.now c.loop-row.yielded c.requires e.0)
