use Rattle.std.proofs.Common.{length, sym, ap, ◌∙◌, rules, arith}
use Rattle.cmm_bitset.proofs.WordBits.{length-set_of}
use Rattle.cmm_bitset.proofs.Joining.{Joined, join_trims, join_unites, join_grows, on_true}
use Rattle.cmm_bitset.proofs.bit_set.BitSet.join.Goals as goal

pub join-requires : goal.join-requires
join-requires c =
    rw c.deref.ensures.value (omega (
      arith,
      c.self.invariant.enough,
      c.other.invariant.enough,
      sym (length-set_of c.self.inside.words.items c.self.inside.size) ∙ ap length c.self.view_is,
      sym (length-set_of c.other.inside.words.items c.other.inside.size) ∙ ap length c.other.view_is,
    ))

pub invariant_of-self : goal.invariant_of-self
invariant_of-self c =
    let j : Joined c.self.inside.words.items c.other.inside.words.items c.join.new.words.items c.self.inside.size c.other.inside.size c.args.self.now c.args.other.now = record {
      new_is = rw c.deref.ensures.value at c.join.ensures.joined;
      trimmed = c.self.invariant;
      trimmed' = c.other.invariant;
      view = c.self.view_is;
      view' = c.other.view_is;
      same = c.requires;
    } in
    join_trims j

pub returns : goal.returns
returns c =
    let j : Joined c.self.inside.words.items c.other.inside.words.items c.join.new.words.items c.self.inside.size c.other.inside.size c.args.self.now c.args.other.now = record {
      new_is = rw c.deref.ensures.value at c.join.ensures.joined;
      trimmed = c.self.invariant;
      trimmed' = c.other.invariant;
      view = c.self.view_is;
      view' = c.other.view_is;
      same = c.requires;
    } in
    record {
      joined = join_unites j;
      grew = on_true c.join.result (join_grows j) c.join.ensures.grew;
      settled = search rules;
    }
