use Rattle.cmm_lexer.proofs.Numbered.{found-same}
use Rattle.cmm_lexer.proofs.tokens.Tokens.number_of.Goals as goal

pub returns-clause-number : goal.returns-clause-number
returns-clause-number c = (c.in_ok-number.ensures.within, found-same c.insert_full.new.self.keys c.in_ok-number.number c.args.spelling c.in_ok-number.ensures.stored)
