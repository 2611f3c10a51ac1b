use Rattle.std.proofs.Common.{List, Bool, length, ap, sym, ◌≡◌, ◌∙◌}
use Rattle.cmm_bitset.specs.Sets.{union}
use Rattle.cmm_allocate.proofs.Left.{taken_in}
use Rattle.cmm_allocate.proofs.colouring.widened.Goals as goal

pub join-requires-2 : goal.join-requires-2
join-requires-2 c =
    ap (λ (s : List Bool). length s) (taken_in c.in_ok-wider.wider c.args.class.now c.join.new.self c.size.result c.size.ensures c.in_ok-wider.ensures c.join.ensures.joined)
    ∙ sym c.requires

pub returns-then-join : goal.returns-then-join
returns-then-join c =
    c.join-2.ensures.joined ∙ ap (λ (s : List Bool). union s c.args.more.now)
    (taken_in c.in_ok-wider.wider c.args.class.now c.join.new.self c.size.result c.size.ensures c.in_ok-wider.ensures c.join.ensures.joined)

pub returns-else-join : goal.returns-else-join
returns-else-join c =
    let same : c.join.new.self ≡ c.args.class.now =
    taken_in c.in_ok-wider.wider c.args.class.now c.join.new.self c.size.result c.size.ensures c.in_ok-wider.ensures c.join.ensures.joined in
    let settled : c.join-2.new.self ≡ c.join.new.self = c.if-join.ensures.settled in
    sym (ap (λ (s : List Bool). union s c.args.more.now) same) ∙ (sym c.join-2.ensures.joined ∙ (settled ∙ same))
