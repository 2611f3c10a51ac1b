use Rattle.std.proofs.Common.{◌≡◌, length, vec_len, rules, arith}
use Rattle.cmm_bitset.proofs.WordBits.{below_size, word_within, read_bit}
use Rattle.cmm_bitset.proofs.bit_set.BitSet.has.Goals as goal

pub index-requires : goal.index-requires
index-requires c =
    let words = c.self.inside.words in
    let long : length words.items ≡ vec_len words = search rules in
    omega (arith, word_within words.items c.self.inside.size c.args.number c.self.invariant (below_size _ _ _ _ c.self.view_is c.requires))

pub returns : goal.returns
returns c = read_bit c.self.inside.words.items c.self.inside.size c.args.number c.index.result.now c.args.self.now c.self.invariant c.self.view_is c.requires c.index.ensures
