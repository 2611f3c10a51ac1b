use Rattle.cmm_allocate.specs.inside.Colouring.{HaveNoColour}
use Rattle.cmm_allocate.proofs.colouring.without_colour.Given as goal

abbrev pub invariant-loop-number : goal.invariant-loop-number
invariant-loop-number l = HaveNoColour l.class l.colours l.number l.left
