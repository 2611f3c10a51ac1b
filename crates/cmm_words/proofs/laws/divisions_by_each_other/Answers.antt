use Rattle.cmm_words.proofs.Rounding.{div_from_quot, mod_from_rem}
use Rattle.cmm_words.proofs.laws.divisions_by_each_other.Goals as goal

pub returns-clause-quotient : goal.returns-clause-quotient
returns-clause-quotient c = div_from_quot

pub returns-clause-remainder : goal.returns-clause-remainder
returns-clause-remainder c = mod_from_rem
