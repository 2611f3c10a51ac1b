use Rattle.cmm_parser.proofs.Steps.{steps}
use Rattle.cmm_parser.proofs.declaration.ExportListed.parse.Goals as goal

pub returns : goal.returns
returns c = steps _ c.in_ok-name.ensures c.export_of.ensures
