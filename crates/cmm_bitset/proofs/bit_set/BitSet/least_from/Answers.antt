use Rattle.cmm_bitset.proofs.WordBits.{none_found, none_past, least_found}
use Rattle.cmm_bitset.proofs.bit_set.BitSet.least_from.Goals as goal

pub returns-then-from-self-clause-least : goal.returns-then-from-self-clause-least
returns-then-from-self-clause-least c =
    none_past c.self.inside.words.items c.self.inside.size c.args.from c.args.self.now c.self.invariant c.self.view_is c.if-from-self.true

pub returns-in_err-least-clause-least : goal.returns-in_err-least-clause-least
returns-in_err-least-clause-least c =
    rw c.from_residual.ensures (none_found c.self.inside.words.items c.self.inside.size c.args.from c.args.self.now c.self.invariant c.self.view_is
    (rw c.deref.ensures.value at c.in_err-least.ensures))

pub returns-clause-least : goal.returns-clause-least
returns-clause-least c =
    (least_found c.self.inside.words.items c.self.inside.size c.args.from c.in_ok-least.least c.args.self.now c.self.invariant c.self.view_is
    (rw c.deref.ensures.value at c.in_ok-least.ensures)).1
