use Rattle.std.proofs.Common.{Err, get_or, sym, ap, ◌∙◌, arith}
use Rattle.std.proofs.lemmas.List.{length-set, take_more_set}
use Rattle.std.proofs.lemmas.Result.{err_from_is_err_and}
use Rattle.std.proofs.Math.Seq.{drop-cons}
use Rattle.cmm_program.specs.Commands.{number_given}
use Rattle.cmm_script.specs.declared.script.Value.TheVariants.{Number}
use Rattle.cmm_client.specs.inside.Replies.{first_numbers, ruled}
use Rattle.cmm_client.proofs.Numbers.{given_ok, goes_on, refused, refused_by}
use Rattle.cmm_client.proofs.given.numbers_given.Goals as goal

pub returns-in_err-numbers : goal.returns-in_err-numbers
returns-in_err-numbers c =
    let values = c.args.values.now in
    let k = c.loop-k.k in
    let v = get_or values k (Number 0) in
    let p = err_from_is_err_and c.from_residual.result c.from_residual.ensures.1 in
    let q = refused_by (number_given c.args.yielded.now v) p.0 (sym c.number_given.ensures ∙ c.in_err-numbers.was ∙ ap Err (sym p.2)) in
    ap (first_numbers _) p.1 ∙ ap Err q.2
    ∙ sym (ap ruled (refused c.args.yielded.now values k v q.0 c.loop-k.numbers (drop-cons values k (Number 0) c.loop-k-test.true) q.1 c.loop-k.invariant.so_far))

pub loop-k-preserved : goal.loop-k-preserved
loop-k-preserved c =
    let values = c.args.values.now in
    let k = c.loop-k.k in
    let v = get_or values k (Number 0) in
    let n = c.in_ok-numbers.field-0 in
    record {
      so_far = goes_on c.args.yielded.now values k v n c.loop-k.numbers _ (drop-cons values k (Number 0) c.loop-k-test.true)
          (given_ok (number_given c.args.yielded.now v) n (sym c.number_given.ensures ∙ c.in_ok-numbers.was)) c.loop-k.invariant.so_far
          (take_more_set c.loop-k.numbers k n (omega (arith, c.loop-k.invariant.count, c.loop-k-test.true, c.requires)));
      count = length-set c.loop-k.numbers k n ∙ c.loop-k.invariant.count;
    }
