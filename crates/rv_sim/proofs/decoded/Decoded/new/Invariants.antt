use Rattle.rv_memory.specs.Regions.{map_of}
use Rattle.rv_sim.proofs.Tables.{IsFront}
use Rattle.rv_sim.proofs.decoded.Decoded.new.Given as goal

abbrev pub invariant-loop-index : goal.invariant-loop-index
invariant-loop-index l = IsFront (map_of l.m).code l.index l.table.items
