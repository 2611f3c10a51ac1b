use Rattle.cmm_image.proofs.MigrationLaws.{first_keeps_second}
use Rattle.cmm_image.proofs.OnePlaceLaws.{second_has_one_place}
use Rattle.cmm_image.proofs.laws.one_place_makes_second_tables.Goals as goal

pub returns : goal.returns
returns c = record { kept = first_keeps_second; only = second_has_one_place }
