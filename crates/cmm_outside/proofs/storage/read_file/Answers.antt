use Rattle.std.proofs.Common.{◌≡◌, ◌++◌, ◌<◌, ◌≤◌, ◌∙◌, length, take, drop, arith, vec_len}
use Rattle.std.proofs.lemmas.List.{length-append, length-take, take-append-le}
use Rattle.cmm_outside.proofs.Going.{Going, goes_on, going_goes_on, made_more, made_or_not, read_behind, read_in_vain, whole_at_end, whole_past}
use Rattle.cmm_outside.proofs.Reading.{HasFile-end, IsFront-append}
use Rattle.cmm_outside.proofs.storage.read_file.Goals as goal

pub returns-then-count-eq0-clause-ok : goal.returns-then-count-eq0-clause-ok
returns-then-count-eq0-clause-ok g c =
    let asked : 0 < length (take c.min-asked.result c.loop-bytes.piece) = grind (arith, length-take) in
    HasFile-end _ _ c.loop-bytes.bytes.items _ c.read_at.new.buffer c.in_ok-count.count asked
    c.loop-bytes.invariant.front
    (rw (c.loop-bytes.invariant.same, c.len-in-loop-bytes.ensures, c.loop-bytes.bytes.ok.0) at c.in_ok-count.ensures.read)
    c.if-count-eq0.true

pub loop-bytes-preserved : goal.loop-bytes-preserved
loop-bytes-preserved g c =
    let asked : 0 < length (take c.min-asked.result c.loop-bytes.piece) = grind (arith, length-take) in
    let count : c.in_ok-count.count ≤ length c.read_at.new.buffer = omega (arith, c.in_ok-count.ensures.bound) in
    let front : take c.in_ok-count.count (c.read_at.new.buffer ++ drop c.min-asked.result c.loop-bytes.piece)
    ≡ take c.in_ok-count.count c.read_at.new.buffer = take-append-le _ _ _ count in
    record {
      within = omega (arith, c.in_ok-extend_from_slice.ensures.len, length-take c.in_ok-count.count (c.read_at.new.buffer ++ drop c.min-asked.result c.loop-bytes.piece));
      front = rw (c.in_ok-extend_from_slice.ensures.items, front)
          (IsFront-append _ _ _ _ _ _ asked c.loop-bytes.invariant.front
          (rw (c.loop-bytes.invariant.same, c.len-in-loop-bytes.ensures, c.loop-bytes.bytes.ok.0) at c.in_ok-count.ensures.read));
      same = c.in_ok-count.ensures.same ∙ c.loop-bytes.invariant.same;
      same_faults = c.in_ok-count.ensures.no_fault ∙ c.loop-bytes.invariant.same_faults;
      reads = made_more _ _ _ (Going c.args.name.now c.args.limit 0 (vec_len c.loop-bytes.bytes)) _ _ c.loop-bytes.invariant.reads (c.in_ok-count.ensures.told asked)
          (λ calls going. goes_on c.args.name.now c.args.limit (vec_len c.loop-bytes.bytes) c.len-in-loop-bytes.result _ c.in_ok-count.count _ calls going c.len-in-loop-bytes.ensures
          (omega (arith, length-take c.min-asked.result c.loop-bytes.piece)) (omega (arith, c.if-count-eq0.false)) (omega (arith, c.if-count-left.false))
          (omega (
            arith,
            count,
            c.in_ok-extend_from_slice.ensures.len,
            length-append c.read_at.new.buffer (drop c.min-asked.result c.loop-bytes.piece),
            length-take c.in_ok-count.count (c.read_at.new.buffer ++ drop c.min-asked.result c.loop-bytes.piece),
          )));
      same_failed = c.in_ok-count.ensures.no_failed_call ∙ c.loop-bytes.invariant.same_failed;
    }

pub returns-in_err-count-clause-reads : goal.returns-in_err-count-clause-reads
returns-in_err-count-clause-reads g c =
    made_or_not _ _ _ (Going c.args.name.now c.args.limit 0 (vec_len c.loop-bytes.bytes)) _ _ c.loop-bytes.invariant.reads c.in_err-count.ensures.told_failed
    (λ calls going. read_in_vain c.args.name.now c.args.limit _ c.from_residual.result _ c.from_residual.ensures.1 (λ is. absurd (cc is))
    (going_goes_on c.args.name.now c.args.limit 0 (vec_len c.loop-bytes.bytes) calls going))
    (λ calls going. read_in_vain c.args.name.now c.args.limit _ c.from_residual.result _ c.from_residual.ensures.1 (λ is. absurd (cc is))
    (read_behind c.args.name.now c.args.limit (vec_len c.loop-bytes.bytes) c.len-in-loop-bytes.result _ _ calls going c.len-in-loop-bytes.ensures
    (omega (arith, length-take c.min-asked.result c.loop-bytes.piece))))

pub returns-then-count-eq0-clause-reads : goal.returns-then-count-eq0-clause-reads
returns-then-count-eq0-clause-reads g c =
    let asked : 0 < length (take c.min-asked.result c.loop-bytes.piece) = grind (arith, length-take) in
    made_more _ _ _ (Going c.args.name.now c.args.limit 0 (vec_len c.loop-bytes.bytes)) _ _ c.loop-bytes.invariant.reads (c.in_ok-count.ensures.told asked)
    (λ calls going. (
      read_behind c.args.name.now c.args.limit (vec_len c.loop-bytes.bytes) c.len-in-loop-bytes.result _ _ calls going c.len-in-loop-bytes.ensures
          (omega (arith, length-take c.min-asked.result c.loop-bytes.piece)),
      whole_at_end c.args.name.now c.args.limit c.len-in-loop-bytes.result _ c.in_ok-count.count calls c.if-count-eq0.true,
    ))

pub returns-then-count-left-clause-reads : goal.returns-then-count-left-clause-reads
returns-then-count-left-clause-reads g c =
    let asked : 0 < length (take c.min-asked.result c.loop-bytes.piece) = grind (arith, length-take) in
    made_more _ _ _ (Going c.args.name.now c.args.limit 0 (vec_len c.loop-bytes.bytes)) _ _ c.loop-bytes.invariant.reads (c.in_ok-count.ensures.told asked)
    (λ calls going. (
      read_behind c.args.name.now c.args.limit (vec_len c.loop-bytes.bytes) c.len-in-loop-bytes.result _ _ calls going c.len-in-loop-bytes.ensures
          (omega (arith, length-take c.min-asked.result c.loop-bytes.piece)),
      whole_past c.args.name.now c.args.limit c.len-in-loop-bytes.result _ c.in_ok-count.count calls (omega (arith, c.if-count-left.true)),
    ))

pub returns-in_err-extend_from_slice-clause-reads : goal.returns-in_err-extend_from_slice-clause-reads
returns-in_err-extend_from_slice-clause-reads g c =
    let asked : 0 < length (take c.min-asked.result c.loop-bytes.piece) = grind (arith, length-take) in
    made_more _ _ _ (Going c.args.name.now c.args.limit 0 (vec_len c.loop-bytes.bytes)) _ _ c.loop-bytes.invariant.reads (c.in_ok-count.ensures.told asked)
    (λ calls going. read_in_vain c.args.name.now c.args.limit _ c.from_residual-in_err-extend_from_slice.result _ c.from_residual-in_err-extend_from_slice.ensures.1 (λ is. absurd (cc is))
    (read_behind c.args.name.now c.args.limit (vec_len c.loop-bytes.bytes) c.len-in-loop-bytes.result _ _ calls going c.len-in-loop-bytes.ensures
    (omega (arith, length-take c.min-asked.result c.loop-bytes.piece))))
