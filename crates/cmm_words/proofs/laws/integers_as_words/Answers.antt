use Rattle.cmm_words.specs.Widths.{bits}
use Rattle.cmm_words.proofs.Sums.{wrapped-add, wrapped-multiple}
use Rattle.cmm_words.proofs.laws.integers_as_words.Goals as goal

pub returns-clause-multiple : goal.returns-clause-multiple
returns-clause-multiple c = λ w z n. wrapped-multiple (bits w) z n

pub returns-clause-sum : goal.returns-clause-sum
returns-clause-sum c = λ w x y. wrapped-add (bits w) x y
