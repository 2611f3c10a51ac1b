use Rattle.std.proofs.Common.{◌≡◌, ◌<◌, ◌∙◌, [], ◌∷◌, length, get_or, arith, rules, tests, length-append}
use Rattle.std.proofs.lemmas.Iterator.Consumers.{YieldsList-at, YieldsList-turn, YieldsList-end}
use Rattle.std.proofs.lemmas.Iterator.Splits.{YieldsList-from_slice_split}
use Rattle.std.proofs.lemmas.Result.{err_from_is_err_and}
use Rattle.std.specs.List.{slice_split}
use Rattle.cmm_script.specs.Words.{ends_line}
use Rattle.cmm_script.proofs.Stepping.{lines-more, lines-broken, lines-done}
use Rattle.cmm_script.proofs.reader.blocks_of.Goals as goal

pub loop-line-preserved : goal.loop-line-preserved
loop-line-preserved c =
    let lines = slice_split ends_line c.args.bytes.now in
    let turn = YieldsList-turn
    (YieldsList-at c.into_iter-line-iterator.ensures.into_iter_gives (YieldsList-from_slice_split _ ends_line c.args.bytes.now c.split-line-items.ensures.rest c.split-line-items.ensures.done c.split-line-items.ensures.closure (λ x r q k. search (rules, tests))))
    c.loop-line.yielded _ c.loop-line.yielded_by _ _ c.in-Some.line c.in-Some.is c.next.ensures.steps in
    let at : (c.loop-line.number < length lines) × (c.in-Some.line.now ≡ get_or lines c.loop-line.number c.in-Some.line.now) = rw c.loop-line.invariant.number turn in
    record {
      number = omega (arith, c.loop-line.invariant.number, length-append c.loop-line.yielded (c.in-Some.line ∷ []));
      so_far = lines-more _ _ c.loop-line.number lines c.in-Some.line.now _ at c.in_ok-read_line.ensures c.loop-line.invariant.so_far;
    }

pub returns-in_err-read_line : goal.returns-in_err-read_line
returns-in_err-read_line c =
    let lines = slice_split ends_line c.args.bytes.now in
    let turn = YieldsList-turn
    (YieldsList-at c.into_iter-line-iterator.ensures.into_iter_gives (YieldsList-from_slice_split _ ends_line c.args.bytes.now c.split-line-items.ensures.rest c.split-line-items.ensures.done c.split-line-items.ensures.closure (λ x r q k. search (rules, tests))))
    c.loop-line.yielded _ c.loop-line.yielded_by _ _ c.in-Some.line c.in-Some.is c.next.ensures.steps in
    let at : (c.loop-line.number < length lines) × (c.in-Some.line.now ≡ get_or lines c.loop-line.number c.in-Some.line.now) = rw c.loop-line.invariant.number turn in
    let p = err_from_is_err_and c.from_residual.result c.from_residual.ensures.1 in
    rw (p.1, p.2) (lines-broken _ _ c.loop-line.number lines c.in-Some.line.now _ c.in_err-read_line.field-0.0 at c.in_err-read_line.ensures c.loop-line.invariant.so_far)

pub returns : goal.returns
returns c =
    let lines = slice_split ends_line c.args.bytes.now in
    let end = YieldsList-end
    (YieldsList-at c.into_iter-line-iterator.ensures.into_iter_gives (YieldsList-from_slice_split _ ends_line c.args.bytes.now c.split-line-items.ensures.rest c.split-line-items.ensures.done c.split-line-items.ensures.closure (λ x r q k. search (rules, tests))))
    c.loop-line.yielded _ c.loop-line.yielded_by _ _ c.in-None.is c.next.ensures.steps in
    lines-done _ c.loop-line.number lines _ c.from_vec.result c.from_vec.ensures (c.loop-line.invariant.number ∙ end.1) c.loop-line.invariant.so_far
