use Rattle.std.proofs.Common.{◌≡◌, take}
use Rattle.std.specs.List.{All, AllZip}
use Rattle.cmm_lexer.specs.Laws.{AreBytes}
use Rattle.cmm_lexer.specs.Lexing.{Lexes}
use Rattle.cmm_front.proofs.tokens.tokens_of.Given as goal

abbrev pub invariant-loop-unit : goal.invariant-loop-unit
invariant-loop-unit l = (l.number ≡ l.unit-index) × AllZip Lexes (take l.unit-index l.units) l.all × All AreBytes (take l.unit-index l.units)
