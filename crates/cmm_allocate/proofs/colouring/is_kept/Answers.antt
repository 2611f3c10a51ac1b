use Rattle.cmm_allocate.proofs.Left.{told}
use Rattle.cmm_allocate.proofs.colouring.is_kept.Goals as goal

pub returns : goal.returns
returns c =
    let both = told c.args.class.now c.args.colours.now c.args.others.now c.in_ok-left.left c.in_ok-without_colour.field-0 c.in_ok-left.ensures c.in_ok-without_colour.ensures
    c.join-lost.result c.join-lost.new.self c.join-lost.ensures.joined c.join-lost.ensures.grew c.join-lost.ensures.settled in
    record { kept = both.0; lost = both.1 }
