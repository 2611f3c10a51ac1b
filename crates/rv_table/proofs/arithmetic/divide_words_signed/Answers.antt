use Rattle.rv_table.proofs.WordFacts.{quotient-word}
use Rattle.rv_table.proofs.arithmetic.divide_words_signed.Goals as goal

pub returns : goal.returns
returns c = let q = quotient-word c.args.a c.args.b in cc
