use Rattle.rv_table.proofs.WordFacts.{remainder-word}
use Rattle.rv_table.proofs.arithmetic.remainder_words_signed.Goals as goal

pub returns : goal.returns
returns c = let r = remainder-word c.args.a c.args.b in cc
