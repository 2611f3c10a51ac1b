use Rattle.cmm_work.proofs.line.write_snapshot_fault.Goals as goal

pub returns : goal.returns
returns g c = rw (c.from.ensures, c.number.ensures) at c.write_parts.ensures
