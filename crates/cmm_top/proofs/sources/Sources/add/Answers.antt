use Rattle.cmm_top.proofs.FilesRead.{still_cut}
use Rattle.cmm_top.proofs.sources.Sources.add.Goals as goal

pub returns-then-self-clause-units : goal.returns-then-self-clause-units
returns-then-self-clause-units c units unit is are = still_cut units unit c.args.self.now c.if-self.true are
