use Rattle.std.proofs.Common.{not, ap, ◌∙◌, arith}
use Rattle.cmm_image.specs.SecondFormat.{or_places}
use Rattle.cmm_image.proofs.SeenLaws.{before_next, none_past, step_differs, step_seen}
use Rattle.cmm_image.proofs.differing.first_difference.Goals as goal

pub returns-in-Some : goal.returns-in-Some
returns-in-Some c =
    let step = step_differs (λ places. places.items) c.args.procedures c.loop-number.seen.items c.args.sites.now c.loop-number.number c.index-sites-number.result c.loop-number-test.true
    c.index-sites-number.is c.requires c.loop-number.invariant.seen c.index_mut-own.result.now c.index_mut-own.ensures.value c.as_slice.result.now
    c.as_slice-in-loop-number.result.now c.as_slice.ensures.value c.as_slice-in-loop-number.ensures in record {
      here = step c.in-Some.variable ∙ ap not c.in-Some.ensures.first;
      earlier = λ j u less. c.loop-number.invariant.before j u less;
      lower = λ u less. step u ∙ ap not (c.in-Some.ensures.lower u less);
    }

pub loop-number-preserved : goal.loop-number-preserved
loop-number-preserved c = record {
  before = before_next c.args.sites.now c.loop-number.number c.loop-number.invariant.before (λ v. step_differs (λ places. places.items) c.args.procedures c.loop-number.seen.items c.args.sites.now c.loop-number.number c.index-sites-number.result c.loop-number-test.true
      c.index-sites-number.is c.requires c.loop-number.invariant.seen c.index_mut-own.result.now c.index_mut-own.ensures.value c.as_slice.result.now
      c.as_slice-in-loop-number.result.now c.as_slice.ensures.value c.as_slice-in-loop-number.ensures v ∙ ap not (c.in_default.ensures.none v));
  seen = step_seen (λ places. places.items) c.args.procedures c.loop-number.seen.items c.args.sites.now c.loop-number.number c.index-sites-number.result c.loop-number-test.true
      c.index-sites-number.is c.requires c.loop-number.invariant.seen c.index_mut-own.result.now c.index_mut-own.ensures.value c.as_slice.result.now
      c.as_slice-in-loop-number.result.now c.as_slice.ensures.value c.as_slice-in-loop-number.ensures c.in_default.ensures.none c.add_places.new.places
      (c.in_ok-add_places.ensures ∙ ap (or_places c.index_mut-own.result.now.items) c.as_slice-in-loop-number-2.ensures);
}

pub returns : goal.returns
returns c = none_past c.args.sites.now c.loop-number.number (omega (arith, c.loop-number-test.false)) c.loop-number.invariant.before
