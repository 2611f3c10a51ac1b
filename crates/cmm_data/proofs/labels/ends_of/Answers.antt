use Rattle.std.proofs.Common.{◌≡◌, ◌+◌, refl, ap, arith, List, drop, length, map}
use Rattle.std.proofs.lemmas.List.Elements.{All-drop}
use Rattle.std.proofs.lemmas.Option.{slice_get_read}
use Rattle.cmm_program.specs.declared.program.Datum.{Datum}
use Rattle.cmm_program.specs.Layout.{aligned_up, datum_piece, end_of}
use Rattle.cmm_data.specs.Conditions.{HasAlignment}
use Rattle.cmm_data.proofs.Ends.{ends_grow}
use Rattle.cmm_data.proofs.Placing.{left_at}
use Rattle.cmm_data.proofs.labels.ends_of.Goals as goal

-- no end is past that of all data
pub next_aligned-requires-clause-address : goal.next_aligned-requires-clause-address
next_aligned-requires-clause-address c =
    let ds = c.args.datums.now in
    let i = c.loop-datum.datum-index in
    omega (arith, ends_grow c.loop-datum.end (drop i ds) (All-drop HasAlignment i ds c.requires.aligned), c.loop-datum.invariant.last, c.requires.size)

pub overflow_add-end : goal.overflow_add-end
overflow_add-end c =
    let ds = c.args.datums.now in
    let i = c.loop-datum.datum-index in
    let d = c.datum-item.result in
    let is = slice_get_read ds (length ds) i d refl c.loop-datum-test.true c.datum-item.is in
    let next = aligned_up d.align c.loop-datum.end + d.length in
    let e : end_of c.loop-datum.end (map datum_piece (drop i ds)) ≡ end_of next (map datum_piece (drop (i + 1) ds)) =
    ap (λ (ds : List Datum). end_of c.loop-datum.end (map datum_piece ds)) (left_at ds i d is)
    in
    omega (arith, e, ends_grow next (drop (i + 1) ds) (All-drop HasAlignment (i + 1) ds c.requires.aligned), c.loop-datum.invariant.last, c.requires.size, c.next_aligned.ensures, c.from.ensures)
