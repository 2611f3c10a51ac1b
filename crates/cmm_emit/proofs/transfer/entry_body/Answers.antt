use Rattle.std.proofs.lemmas.List.{length-map}
use Rattle.cmm_graph.specs.declared.number.Variable.{Variable}
use Rattle.cmm_chain.specs.declared.frame.Location.{Location}
use Rattle.std.proofs.Common.{arith}
use Rattle.cmm_effects.proofs.Shared.{adds_weaker, by_last}
use Rattle.cmm_emit.proofs.Bodies.{begin_codes}
use Rattle.cmm_emit.proofs.transfer.entry_body.Goals as goal

pub returns-clause-code : goal.returns-clause-code
returns-clause-code c next =
    by_last c.begin.result c.begin.ensures.begins
    (λ h.
    let begins = rw (c.as_slice.ensures, c.as_slice-2.ensures, c.as_slice-3.ensures, c.in_ok-places.ensures) at h in
    adds_weaker begins (omega (arith, length-map {A = Variable} {B = Location}))
    (λ x from to does. begin_codes c.args.asm.now.labels c.args.context.now c.args.targets.now c.requires.ready x from to c.args.formals.now next c.requires.formals does))
