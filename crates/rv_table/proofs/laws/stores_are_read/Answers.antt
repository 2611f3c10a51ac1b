use Rattle.rv_table.proofs.MemoryFacts.{loaded-same, loaded-within, loaded-below, loaded-above, stored-inside, stored-outside}
use Rattle.rv_table.proofs.laws.stores_are_read.Goals as goal

pub returns : goal.returns
returns c = record {
  same = loaded-same;
  within = loaded-within;
  below = loaded-below;
  above = loaded-above;
  inside = stored-inside;
  outside = stored-outside;
}
