use Rattle.std.proofs.Common.{◌≡◌, ◌-◌, None}
use Rattle.cmm_format.specs.Formats.{rows_at}
use Rattle.cmm_format.proofs.ReadingRows.{with_front, last_of}
use Rattle.cmm_format.proofs.record.read_rows.Given as goal

-- the rows so far, and those that are left, are all
abbrev pub invariant-loop : goal.invariant-loop
invariant-loop g l = with_front l.rows.items (rows_at (g.R.Read.at l.context) (l.count - l.counter) (last_of l.rows.items) l.reader.rest.now) ≡ rows_at (g.R.Read.at l.context) l.count None l.fn.reader.rest.now
