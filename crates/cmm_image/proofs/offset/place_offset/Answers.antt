use Rattle.std.proofs.Common.{◌≡◌, ℕ, List, ◌++◌, ap, length, ◌∙◌, arith}
use Rattle.cmm_image.proofs.OffsetLaws.{before_long}
use Rattle.cmm_image.specs.inside.Fronts.{before_place}
use Rattle.cmm_image.proofs.offset.place_offset.Goals as goal

pub returns : goal.returns
returns c =
    let i = c.args.i.now in
    let before = before_place i c.args.at.site c.args.at.variable in
    let written : c.put_before.new.out.items ≡ before = c.in_ok-put_before.ensures ∙ ap (λ (t : List ℕ). t ++ before) c.new-before.ensures.items in
    let long = c.len.ensures in
    omega (arith, long, ap length written, before_long i c.args.at.site c.args.at.variable)
