use Rattle.std.proofs.Common.{arith}
use Rattle.cmm_effects.proofs.Shared.{adds_weaker, by_last}
use Rattle.cmm_select.proofs.Gathering.{parts, stores_scattered}
use Rattle.cmm_select.specs.Memory.{access_of}
use Rattle.cmm_select.proofs.accesses.store_word.Goals as goal

pub returns-clause-stores : goal.returns-clause-stores
returns-clause-stores c =
    by_last c.scatter.result c.scatter.ensures.scatters
    (λ h.
    let w = c.args.width in
    let p = access_of w c.args.aligned in
    let scatters = rw (c.bytes.ensures, c.bytes-2.ensures, c.access_of-access.ensures) at h in
    adds_weaker scatters (omega arith) (λ x from to leads. stores_scattered x p w from to (parts w c.args.aligned) leads))
