use Rattle.cmm_image_machine.proofs.Versions.{migrated_images_run_so, migrated_images_walk_so, versions_run_so, versions_walk_so}
use Rattle.cmm_image_machine.proofs.laws.versions_do_not_matter.Goals as goal

pub returns-clause-runs : goal.returns-clause-runs
returns-clause-runs c = versions_run_so

pub returns-clause-walks : goal.returns-clause-walks
returns-clause-walks c = versions_walk_so

pub returns-clause-migrated_runs : goal.returns-clause-migrated_runs
returns-clause-migrated_runs c = migrated_images_run_so c.bytes_mean_one_thing.ensures.one

pub returns-clause-migrated_walks : goal.returns-clause-migrated_walks
returns-clause-migrated_walks c = migrated_images_walk_so c.bytes_mean_one_thing.ensures.one
