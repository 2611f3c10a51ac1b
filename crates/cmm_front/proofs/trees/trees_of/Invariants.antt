use Rattle.std.proofs.Common.{◌≡◌, ℕ, List, take}
use Rattle.std.specs.List.{AllZip}
use Rattle.cmm_lexer.specs.Lexing.{Lexes}
use Rattle.cmm_front.specs.Sources.{IsTreeOf}
use Rattle.cmm_front.proofs.trees.trees_of.Given as goal

abbrev pub invariant-loop-tokens : goal.invariant-loop-tokens
invariant-loop-tokens l = (l.number ≡ l.tokens-index) × ((units : List (List ℕ)) → AllZip Lexes units l.all → AllZip IsTreeOf (take l.tokens-index units) l.trees)
