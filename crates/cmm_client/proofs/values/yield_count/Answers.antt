use Rattle.cmm_walk.proofs.Shared.{site_bounds}
use Rattle.cmm_client.proofs.values.yield_count.Goals as goal

pub returns-in-Some-yield_values-clause-few : goal.returns-in-Some-yield_values-clause-few
returns-in-Some-yield_values-clause-few c =
    let there = rw c.in-Some.is at c.requires.there in
    rw c.from.ensures (rw (← c.site_at.ensures.row, c.in-Some-yield_values.is) at (site_bounds c.args.i.now c.requires.kept c.in-Some.a.site there.site).yields)
