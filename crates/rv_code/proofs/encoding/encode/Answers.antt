use Rattle.rv_table.proofs.Shared.{word_of-lt}
use Rattle.rv_code.proofs.encoding.encode.Goals as goal

pub pack-requires : goal.pack-requires
pack-requires c = rw c.fields.ensures (word_of-lt c.args.i c.requires)
