use Rattle.cmm_allocate.specs.inside.Colouring.{AreHomes, register_in}
use Rattle.cmm_allocate.proofs.colouring.places.Given as goal

abbrev pub invariant-loop-number : goal.invariant-loop-number
invariant-loop-number l =
    AreHomes (register_in l.registers.temporary.class l.registers.temporary.colours l.registers.callee_saves.class l.registers.callee_saves.colours) l.number l.locals l.end
