use Rattle.cmm_snapshot.proofs.ReadLaws.{each_means_one_thing, snapshots_are_one, no_snapshot_has_a_fault}
use Rattle.cmm_snapshot.proofs.laws.bytes_mean_one_snapshot.Goals as goal

pub returns : goal.returns
returns c = record { each = each_means_one_thing; one = snapshots_are_one; never_both = no_snapshot_has_a_fault }
