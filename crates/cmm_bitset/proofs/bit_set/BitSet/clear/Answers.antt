use Rattle.std.proofs.Common.{◌≡◌, ◌∙◌, sym, ap, length, replicate, false}
use Rattle.cmm_bitset.proofs.WordBits.{set_of-zeros, length-set_of}
use Rattle.cmm_bitset.proofs.bit_set.BitSet.clear.Goals as goal

pub returns : goal.returns
returns c =
    let size_is : c.self.inside.size ≡ length c.args.self.now = sym (length-set_of _ _) ∙ ap length c.self.view_is in
    set_of-zeros _ _ _ (c.fill.ensures.items (λ _ e. e)) ∙ ap (λ n. replicate n false) size_is
