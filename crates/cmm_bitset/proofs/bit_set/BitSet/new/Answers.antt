use Rattle.cmm_bitset.proofs.WordBits.{set_of-zeros}
use Rattle.cmm_bitset.proofs.bit_set.BitSet.new.Goals as goal

pub returns : goal.returns
returns c = set_of-zeros c.in_ok-words.words.items _ c.args.size (c.in_ok-words.ensures.items_if_clones_equal (λ _ e. e))
