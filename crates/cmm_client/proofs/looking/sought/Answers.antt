use Rattle.std.proofs.Common.{◌≡◌, ◌==◌, ◌<◌, false, Ok, Option, sym, ap, subst, ◌∙◌, arith}
use Rattle.std.proofs.lemmas.Bool.Decides.{nat_tests}
use Rattle.rv_memory.specs.Regions.{memory_of, region_of}
use Rattle.rv_memory.specs.States.{state_of}
use Rattle.cmm_abi.specs.Regions.{top}
use Rattle.cmm_program.specs.Commands.{span_value}
use Rattle.cmm_walk.specs.declared.activation.Activation.{Activation}
use Rattle.cmm_walk.specs.Activations.{element_of}
use Rattle.cmm_walk.specs.Shown.{spans_of}
use Rattle.cmm_walk.specs.Walking.{found_by}
use Rattle.cmm_walk.proofs.Shared.{left_of, nearer}
use Rattle.cmm_client.proofs.Asked.{passes, sought_along}
use Rattle.cmm_client.proofs.looking.sought.Goals as goal

pub loop-next-smaller : goal.loop-next-smaller
loop-next-smaller c =
    let i = c.args.i.now in
    let r = region_of c.args.m.now in
    let fits = rw c.in-Some.is at c.loop-next.invariant.fits in
    subst (λ (f : Option Activation). left_of (top r) (Ok c.in-Ok.found) < left_of (top r) (Ok f)) (sym c.in-Some.is)
    (nearer i c.next_activation.ensures.kept r (memory_of c.args.m.now) c.in-Some.a (Ok c.in-Ok.found) fits c.in-Ok.ensures.found c.in-Ok.ensures.fits)

pub loop-next-preserved : goal.loop-next-preserved
loop-next-preserved c =
    let i = c.args.i.now in
    let q = region_of c.args.m.now in
    let token = c.args.token in
    let value = c.args.value in
    let e = element_of i c.in-Some.a in
    let other : (span_value token (spans_of e) == value) ≡ false = rw (← c.descriptor.ensures) (grind (arith, nat_tests, c.if-descriptor-value.false)) in
    record {
      same = λ r.
          let s = state_of r c.args.m.now in
          c.loop-next.invariant.same r
          ∙ ap (λ (f : Option Activation). sought_along i q s token value (found_by i (Ok f))) c.in-Some.is
          ∙ passes i c.next_activation.ensures.kept q s token value e other
          ∙ ap (sought_along i q s token value) (sym c.in-Ok.ensures.found);
      fits = c.in-Ok.ensures.fits;
    }
