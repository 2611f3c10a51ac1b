use Rattle.std.proofs.Common.{◌≡◌, ◌≤◌, map, take}
use Rattle.cmm_static_semantics.specs.Limits.{site_count}
use Rattle.cmm_symbols.specs.Shown.{piece_part}
use Rattle.cmm_limits.proofs.sites.sites_in.Given as goal

abbrev pub invariant-loop-piece : goal.invariant-loop-piece
invariant-loop-piece l = (l.count ≡ site_count (map piece_part (take l.piece-index l.pieces))) × (l.count ≤ l.piece-index)
