use Rattle.std.proofs.Common.{sym}
use Rattle.cmm_parser.proofs.NextTokens.{no_prefix}
use Rattle.cmm_parser.proofs.parser.Parser.next_prefix.Goals as goal

pub returns-in_err-next_symbol : goal.returns-in_err-next_symbol
returns-in_err-next_symbol c = rw c.from_residual.ensures (sym (no_prefix _ c.in_err-next_symbol.ensures))
