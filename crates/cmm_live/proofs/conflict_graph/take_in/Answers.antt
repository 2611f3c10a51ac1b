use Rattle.std.proofs.Common.{[], ◌≡◌, ◌<◌, length, get_or, arith}
use Rattle.std.proofs.lemmas.List.{get_or_default, get_or_read}
use Rattle.cmm_live.specs.Exact.{set_at}
use Rattle.cmm_live.proofs.Interfering.{took_next}
use Rattle.cmm_live.proofs.conflict_graph.take_in.Goals as goal

pub loop-number-preserved : goal.loop-number-preserved
loop-number-preserved c =
    let numbers = c.args.numbers.now in
    let i = c.loop-number.number-index in
    let n = get_or numbers i 0 in
    let rows = c.loop-number.rows.items in
    let below : n < length c.args.rows.now.items = c.requires.within i 0 c.loop-number-test.true in
    let was : c.index_mut.result.now ≡ set_at rows n =
    get_or_read rows n c.index_mut.result.now (omega (arith, below, c.loop-number.invariant.are_rows.size)) c.index_mut.ensures.value [] in
    rw (c.join.ensures.joined, was) (took_next (length c.args.rows.now.items) numbers i n c.args.set.now c.args.rows.now.items rows c.loop-number-test.true
    (get_or_default numbers i 0 n c.loop-number-test.true) below c.requires.size c.loop-number.invariant)
