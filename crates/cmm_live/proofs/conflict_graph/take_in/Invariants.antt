use Rattle.std.proofs.Common.{length, take}
use Rattle.cmm_live.specs.inside.Interfering.{TakeIn, is_one_of}
use Rattle.cmm_live.proofs.conflict_graph.take_in.Given as goal

abbrev pub invariant-loop-number : goal.invariant-loop-number
invariant-loop-number l = TakeIn (length l.fn.rows.items) (is_one_of (take l.number-index l.numbers)) l.set l.fn.rows.items l.rows.items
