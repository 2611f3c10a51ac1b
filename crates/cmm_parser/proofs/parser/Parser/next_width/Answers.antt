use Rattle.std.proofs.Common.{sym}
use Rattle.cmm_parser.proofs.NextTokens.{no_width}
use Rattle.cmm_parser.proofs.parser.Parser.next_width.Goals as goal

pub returns-in_err-next_word : goal.returns-in_err-next_word
returns-in_err-next_word c = rw c.from_residual.ensures (sym (no_width _ c.in_err-next_word.ensures))
