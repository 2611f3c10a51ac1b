use Rattle.std.proofs.Common.{length, sym, ◌∙◌, ap}
use Rattle.cmm_bitset.proofs.WordBits.{length-set_of}
use Rattle.cmm_bitset.proofs.bit_set.BitSet.size.Goals as goal

pub returns : goal.returns
returns c = sym (length-set_of _ _) ∙ ap length c.self.view_is
