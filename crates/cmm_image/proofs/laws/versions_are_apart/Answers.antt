use Rattle.cmm_image.proofs.MigratingLaws.{no_bytes_are_both, one_spelling_a_version}
use Rattle.cmm_image.proofs.laws.versions_are_apart.Goals as goal

pub returns : goal.returns
returns c = record { one = one_spelling_a_version; never_both = no_bytes_are_both }
