use Rattle.std.proofs.Common.{◌≡◌, ◌≤◌, ap, length, arith}
use Rattle.std.proofs.lemmas.Bool.Decides.{nat_tests}
use Rattle.cmm_effects.proofs.Shared.{adds_weaker, by_last}
use Rattle.cmm_calls.specs.Calls.{exits_cost}
use Rattle.cmm_emit.proofs.Calls.{inner_landings, landings_count}
use Rattle.cmm_emit.specs.Naming.{landing_labels}
use Rattle.cmm_emit.proofs.calling.lay_landings.Goals as goal

pub lay_exits-requires-clause-few : goal.lay_exits-requires-clause-few
lay_exits-requires-clause-few c =
    let p = c.args.context.now in
    let returns = c.args.exits.now.returns in
    let few : length returns ≤ 64 = grind (arith, nat_tests, c.requires.exits) in
    let same : length (landing_labels p returns) ≡ length returns = landings_count p returns in
    rw (c.as_slice-2.ensures, c.in_ok-landings.ensures, c.as_slice.ensures) (omega (arith, few, same))

pub lay_exits-requires-clause-inner : goal.lay_exits-requires-clause-inner
lay_exits-requires-clause-inner c =
    rw (c.as_slice-2.ensures, c.in_ok-landings.ensures, c.as_slice.ensures)
    (inner_landings c.args.asm.now.labels c.args.context.now c.args.targets.now c.requires.ready c.args.exits.now.returns (grind (arith, c.requires.exits)))

pub returns-clause-exits : goal.returns-clause-exits
returns-clause-exits c =
    by_last c.lay_exits.result c.lay_exits.ensures.exits
    (λ h.
    let p = c.args.context.now in
    let returns = c.args.exits.now.returns in
    let same : length (landing_labels p returns) ≡ length returns = landings_count p returns in
    let exits = rw (c.as_slice-2.ensures, c.in_ok-landings.ensures, c.as_slice.ensures) at h in
    let cost : exits_cost (length (landing_labels p returns)) ≡ exits_cost (length returns) = ap exits_cost same in
    adds_weaker exits (omega (arith, cost)) (λ x from to does. does))

pub returns-clause-words : goal.returns-clause-words
returns-clause-words c =
    by_last c.lay_exits.result c.lay_exits.ensures.words
    (λ h.
    let p = c.args.context.now in
    let returns = c.args.exits.now.returns in
    let same : length (landing_labels p returns) ≡ length returns = landings_count p returns in
    rw same at (rw (c.as_slice-2.ensures, c.in_ok-landings.ensures, c.as_slice.ensures) at h))
