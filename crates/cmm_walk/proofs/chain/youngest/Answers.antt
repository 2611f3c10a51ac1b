use Rattle.rv_memory.specs.Regions.{region_of}
use Rattle.cmm_walk.proofs.chain.youngest.Goals as goal

pub found_at-requires : goal.found_at-requires
found_at-requires c = c.first_point.ensures.saved (region_of c.args.m.now)
