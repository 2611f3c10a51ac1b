use Rattle.cmm_typing.proofs.Words.{names_are_words}
use Rattle.cmm_typing.proofs.scope.Scope.fits.Goals as goal

pub returns-clause-words : goal.returns-clause-words
returns-clause-words c = λ truth. names_are_words c.args.self.now.names (cc (c.are_words.ensures, c.as_slice.ensures, truth))
