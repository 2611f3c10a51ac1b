use Rattle.std.proofs.Common.{◌≤◌, inl, inr, length, arith}
use Rattle.cmm_select.proofs.Spans.{behind_is, first_is, no_run, spread}
use Rattle.cmm_select.specs.declared.span.Span.{Span}
use Rattle.cmm_select.proofs.span.end_of_run.Goals as goal

abbrev none : Span
none = record { from = 0; to = 0; label = record { number = 0 } }

pub overflow_sub-last-2 : goal.overflow_sub-last-2
overflow_sub-last-2 c =
    let ss = c.args.spans.now in
    let some : 1 ≤ length ss = omega (arith, c.if-count-lt-LEAST_JUMPS.false) in
    omega (arith, first_is ss none some, behind_is 0 ss none some, spread ss some c.requires, some)

pub returns : goal.returns
returns c =
    let ss = c.args.spans.now in
    let some : 1 ≤ length ss = omega (arith, c.if-count-lt-LEAST_JUMPS.false) in
    let one = first_is ss none some in
    let two = behind_is 0 ss none some in
    let three = spread ss some c.requires in
    record {
      none = tt;
      some =
          (omega (arith, c.if-count-lt-LEAST_JUMPS.false), omega (arith, c.if-count-gt-TABLE_LIMIT.false), omega (arith, two), omega (arith, one, two, three, c.if-last-first.false));
    }

pub returns-then-count-lt-LEAST_JUMPS-clause-none : goal.returns-then-count-lt-LEAST_JUMPS-clause-none
returns-then-count-lt-LEAST_JUMPS-clause-none c = no_run c.args.spans.now (inl (omega (arith, c.if-count-lt-LEAST_JUMPS.true)))

pub returns-then-count-gt-TABLE_LIMIT-clause-none : goal.returns-then-count-gt-TABLE_LIMIT-clause-none
returns-then-count-gt-TABLE_LIMIT-clause-none c = no_run c.args.spans.now (inr (inl (omega (arith, c.if-count-gt-TABLE_LIMIT.true))))

pub returns-then-last-first-clause-none : goal.returns-then-last-first-clause-none
returns-then-last-first-clause-none c =
    let ss = c.args.spans.now in
    let some : 1 ≤ length ss = omega (arith, c.if-count-lt-LEAST_JUMPS.false) in
    let one = first_is ss none some in
    let two = behind_is 0 ss none some in
    no_run ss (inr (inr (inl (omega (arith, one, two, c.if-last-first.true, spread ss some c.requires)))))

pub returns-then-last-clause-none : goal.returns-then-last-clause-none
returns-then-last-clause-none c =
    let ss = c.args.spans.now in
    let some : 1 ≤ length ss = omega (arith, c.if-count-lt-LEAST_JUMPS.false) in
    let two = behind_is 0 ss none some in
    no_run ss (inr (inr (inr (omega (arith, two, c.if-last.true)))))
