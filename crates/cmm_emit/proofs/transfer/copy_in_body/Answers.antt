use Rattle.std.proofs.Common.{◌≡◌, length, arith}
use Rattle.std.proofs.lemmas.List.{length-map}
use Rattle.cmm_effects.proofs.Shared.{adds_weaker, by_last}
use Rattle.cmm_emit.proofs.Bodies.{copy_codes}
use Rattle.cmm_emit.proofs.Operands.{targets_are_ready}
use Rattle.cmm_emit.specs.Naming.{target_destination, target_destinations}
use Rattle.cmm_emit.proofs.transfer.copy_in_body.Goals as goal

pub copy_in-requires-clause-labels : goal.copy_in-requires-clause-labels
copy_in-requires-clause-labels c =
    rw (c.as_slice.ensures, c.in_ok-destinations.ensures)
    (targets_are_ready c.args.asm.now.labels c.args.context.now c.args.targets.now c.requires.ready c.args.to.now (grind (arith, c.requires.to)))

pub returns-clause-code : goal.returns-clause-code
returns-clause-code c next =
    by_last c.copy_in.result c.copy_in.ensures.copies
    (λ h.
    let p = c.args.context.now in
    let y = c.args.targets.now in
    let to = c.args.to.now in
    let same : length (target_destinations p y to) ≡ length to = length-map to (target_destination p y) in
    let copies = rw (c.as_slice.ensures, c.in_ok-destinations.ensures) at h in
    adds_weaker copies (omega (arith, same)) (λ x from behind does. copy_codes c.args.asm.now.labels p y c.requires.ready x from behind to next c.requires.to does))
