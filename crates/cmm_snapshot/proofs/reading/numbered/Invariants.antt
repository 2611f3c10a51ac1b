use Rattle.std.proofs.Common.{◌≡◌, None, length, slice_index}
use Rattle.cmm_format.specs.Formats.{rows_at}
use Rattle.cmm_snapshot.specs.SnapshotFormat.{numbered_count, u64}
use Rattle.cmm_snapshot.proofs.TakingLaws.{Left}
use Rattle.cmm_snapshot.proofs.reading.numbered.Given as goal

-- the registers so far, and those that are left, are all
abbrev pub invariant-loop-register : goal.invariant-loop-register
invariant-loop-register l =
    (Left l.x l.register l.reader.rest.now ≡ rows_at (λ previous. u64.at) numbered_count None l.fn.reader.rest.now)
    × (length l.x ≡ 32) × (slice_index l.x 0 ≡ 0)
