use Rattle.std.proofs.Common.{◌≡◌, ◌++◌, ◌∷◌, [], option_copied, rules}
use Rattle.std.proofs.lemmas.Result.{err_from_is_err_and}
use Rattle.cmm_format.proofs.ReadingRows.{last_of, last_of-push, goes_on, ends}
use Rattle.cmm_format.proofs.record.read_rows.Goals as goal

pub returns-in_err-row : goal.returns-in_err-row
returns-in_err-row g c =
    let p = err_from_is_err_and c.from_residual.result c.from_residual.ensures.1 in
    let same : option_copied c.last.result ≡ last_of c.loop.rows.items = search rules in
    rw (p.1, p.2) (ends c.in_err-row.field-0.0 (g.R.Read.at c.args.context.now) c.loop.rows.items c.args.count c.loop.counter _ _ c.loop.reader.rest.now _ _ _ c.loop-test.true same c.in_err-row.ensures c.loop.invariant)

pub loop-preserved : goal.loop-preserved
loop-preserved g c =
    let same : option_copied c.last.result ≡ last_of c.loop.rows.items = search rules in
    let e : c.push.new.self.items ≡ c.loop.rows.items ++ c.in_ok-row.row ∷ [] = c.in_ok-push.ensures.items in
    rw (e, last_of-push c.loop.rows.items c.in_ok-row.row)
    (goes_on (g.R.Read.at c.args.context.now) c.loop.rows.items c.args.count c.loop.counter _ _ c.loop.reader.rest.now c.in_ok-row.row c.read.new.reader.rest.now _ c.loop-test.true same c.in_ok-row.ensures c.loop.invariant)
