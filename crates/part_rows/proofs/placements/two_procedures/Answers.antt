use Rattle.part_rows.proofs.PlacedRows.{made_in_range}
use Rattle.part_rows.proofs.placements.two_procedures.Goals as goal

pub returns : goal.returns
returns c = made_in_range c.program.result c.procedure-main.result c.in_ok-f.f (cc) c.in_ok-f.ensures c.program.ensures
