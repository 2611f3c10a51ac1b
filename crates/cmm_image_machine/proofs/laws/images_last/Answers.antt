use Rattle.cmm_image_machine.proofs.Growing.{images_last, runs_are_the_machine, ends_once}
use Rattle.cmm_image_machine.proofs.laws.images_last.Goals as goal

pub returns-clause-lasts : goal.returns-clause-lasts
returns-clause-lasts c = images_last

pub returns-clause-runs : goal.returns-clause-runs
returns-clause-runs c = runs_are_the_machine

pub returns-clause-once : goal.returns-clause-once
returns-clause-once c = ends_once
