use Rattle.cmm_client.specs.Stops.{region_of}
use Rattle.cmm_client.proofs.command.asked.Goals as goal

pub returns-in-Desc-clause-fits : goal.returns-in-Desc-clause-fits
returns-in-Desc-clause-fits c = c.describe.ensures.fits (region_of c.args.stopped.now)
