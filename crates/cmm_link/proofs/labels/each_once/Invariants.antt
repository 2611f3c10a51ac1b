use Rattle.std.proofs.Common.{◌≡◌, ◌++◌, None}
use Rattle.std.specs.Vec.Iter.{into_iter_items}
use Rattle.cmm_link.specs.inside.Kept.{kept_after, last_name}
use Rattle.cmm_link.proofs.labels.each_once.Given as goal

abbrev pub invariant-loop-row : goal.invariant-loop-row
invariant-loop-row l = l.kept ++ kept_after (last_name l.kept) (into_iter_items l.row-iterator) ≡ kept_after None l.fn.rows.items
