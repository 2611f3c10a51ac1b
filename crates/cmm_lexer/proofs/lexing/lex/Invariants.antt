use Rattle.std.proofs.Common.{◌-◌, length}
use Rattle.cmm_lexer.specs.inside.Reached.{Reached}
use Rattle.cmm_lexer.proofs.lexing.lex.Given as goal

-- the tokens before the place are read
abbrev pub invariant-loop-place : goal.invariant-loop-place
invariant-loop-place l = Reached l.unit l.place l.tokens

abbrev pub decreases-loop-place : goal.decreases-loop-place
decreases-loop-place l = length l.unit - l.place
