use Rattle.cmm_top.proofs.generating.put_counts.Goals as goal

pub returns : goal.returns
returns g c = rw (c.len.ensures, c.count_sites.ensures) at c.write_parts.ensures
