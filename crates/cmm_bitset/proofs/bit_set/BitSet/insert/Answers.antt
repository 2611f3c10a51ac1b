use Rattle.std.proofs.Common.{◌≡◌, length, vec_len, rules, arith}
use Rattle.cmm_bitset.proofs.WordBits.{below_size, word_within, inserted}
use Rattle.cmm_bitset.proofs.bit_set.BitSet.insert.Goals as goal

pub index_mut-requires : goal.index_mut-requires
index_mut-requires c =
    let words = c.self.inside.words in
    let long : length words.items ≡ vec_len words = search rules in
    omega (arith, word_within words.items c.self.inside.size c.args.number c.self.invariant (below_size _ _ _ _ c.self.view_is c.requires))

pub invariant_of-self : goal.invariant_of-self
invariant_of-self c =
    (inserted c.self.inside.words.items c.self.inside.size c.args.number c.index_mut.result.now c.args.self.now c.self.invariant c.self.view_is c.requires c.index_mut.ensures.value).1

pub returns : goal.returns
returns c =
    (inserted c.self.inside.words.items c.self.inside.size c.args.number c.index_mut.result.now c.args.self.now c.self.invariant c.self.view_is c.requires c.index_mut.ensures.value).0
