use Rattle.std.proofs.Common.{◌<◌, Ok, Option, sym, ap, subst, ◌∙◌}
use Rattle.rv_memory.specs.Regions.{memory_of}
use Rattle.cmm_abi.specs.Regions.{top}
use Rattle.cmm_walk.specs.declared.activation.Activation.{Activation}
use Rattle.cmm_walk.specs.Activations.{element_of}
use Rattle.rv_memory.specs.Regions.{region_of}
use Rattle.rv_memory.specs.States.{state_of}
use Rattle.cmm_walk.specs.Walking.{found_by}
use Rattle.cmm_resume.specs.inside.CutPaths.{cut_along}
use Rattle.cmm_walk.proofs.Shared.{left_of, nearer}
use Rattle.cmm_resume.proofs.CutLaws.{an_exit, begins, no_exit, passes, row_there, stops}
use Rattle.cmm_resume.proofs.cutting.continuation_of.Goals as goal

pub loop-found-init : goal.loop-found-init
loop-found-init c = record {
  same = λ values.
      begins c.args.i.now c.youngest.ensures.kept (region_of c.args.m.now) (state_of c.args.r.now c.args.m.now) c.args.to values
      ∙ ap (cut_along c.args.i.now (region_of c.args.m.now) (state_of c.args.r.now c.args.m.now) c.args.to values) (sym c.in_ok-found.ensures.found);
  fits = c.in_ok-found.ensures.fits;
}

pub returns-in-Some-number_of : goal.returns-in-Some-number_of
returns-in-Some-number_of c =
    let i = c.args.i.now in
    let r = region_of c.args.m.now in
    let s = state_of c.args.r.now c.args.m.now in
    let to = c.args.to in
    let e = element_of i c.in-Some.activation in
    let fits = rw c.in-Some.is at c.loop-found.invariant.fits in
    let is = sym c.number_of.ensures ∙ c.in-Some-number_of.is in
    let row = row_there e to c.in-Some-number_of.number is in
    let exit = an_exit r s e to c.in-Some-number_of.number row.0 is row.1 in (
      fits.there,
      is,
      λ values. c.loop-found.invariant.same values
          ∙ ap (λ (f : Option Activation). cut_along i r s to values (found_by i (Ok f))) c.in-Some.is
          ∙ stops i c.youngest.ensures.kept r s to values e exit.0 exit.1,
    )

pub loop-found-smaller : goal.loop-found-smaller
loop-found-smaller c =
    let i = c.args.i.now in
    let r = region_of c.args.m.now in
    let fits = rw c.in-Some.is at c.loop-found.invariant.fits in
    subst (λ (f : Option Activation). left_of (top r) (Ok c.in_ok-found-2.found) < left_of (top r) (Ok f)) (sym c.in-Some.is)
    (nearer i c.youngest.ensures.kept r (memory_of c.args.m.now) c.in-Some.activation (Ok c.in_ok-found-2.found) fits c.in_ok-found-2.ensures.found c.in_ok-found-2.ensures.fits)

pub loop-found-preserved : goal.loop-found-preserved
loop-found-preserved c =
    let i = c.args.i.now in
    let r = region_of c.args.m.now in
    let s = state_of c.args.r.now c.args.m.now in
    let to = c.args.to in
    let e = element_of i c.in-Some.activation in
    let none = sym c.number_of.ensures ∙ c.in_default-number_of.is in
    record {
      same = λ values.
          c.loop-found.invariant.same values
          ∙ ap (λ (f : Option Activation). cut_along i r s to values (found_by i (Ok f))) c.in-Some.is
          ∙ passes i c.youngest.ensures.kept r s to values e (no_exit r s e to none)
          ∙ ap (cut_along i r s to values) (sym c.in_ok-found-2.ensures.found);
      fits = c.in_ok-found-2.ensures.fits;
    }
