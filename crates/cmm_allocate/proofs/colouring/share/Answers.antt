use Rattle.std.proofs.Common.{◌≡◌, Bool, List, length, ap, sym, ◌∙◌}
use Rattle.cmm_bitset.proofs.Shared.{length-union}
use Rattle.cmm_bitset.specs.Sets.{union}
use Rattle.cmm_allocate.proofs.colouring.share.Goals as goal

pub interference_within-requires-clause-class : goal.interference_within-requires-clause-class
interference_within-requires-clause-class c =
    let is : c.in-Some.class ≡ union c.args.first.class c.args.more.now = rw c.in-Some.is at c.in_ok-class.ensures in
    ap (λ (s : List Bool). length s) is ∙ (length-union c.args.first.class c.args.more.now (c.requires.class ∙ sym c.requires.more) ∙ c.requires.class)
