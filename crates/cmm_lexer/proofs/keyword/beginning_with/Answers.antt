use Rattle.std.proofs.Common.{sym, ◌-◌, arith}
use Rattle.std.proofs.lemmas.List.{get_or_past}
use Rattle.cmm_lexer.specs.declared.keyword.TheConstants.{BEGINNINGS}
use Rattle.cmm_lexer.proofs.keyword.beginning_with.Goals as goal

pub returns-else-place-lt26 : goal.returns-else-place-lt26
returns-else-place-lt26 c = sym (get_or_past BEGINNINGS (c.args.byte - 97) (0, 0) (omega (arith, c.if-place-lt26.false, c.saturating_sub.ensures, c.from-place.ensures)))
