-- What the parser's answer says of the tokens of a unit.
use Rattle.std.specs.Prelude.{◌≡◌, ◌⊎◌, List, [], ◌∷◌, ◌++◌, map}
use Rattle.cmm_rules.specs.declared.rule.Rule.TheVariants.{Syntax, TooDeep}
use Rattle.cmm_lexer.specs.declared.piece.Lexeme.{Lexeme}
use Rattle.cmm_lexer.specs.declared.token.Token.{Token}
use Rattle.cmm_lexer.specs.declared.token.TokenKind.{TokenKind}
use Rattle.cmm_lexer.specs.declared.tokens.Tokens.{Tokens}
use Rattle.cmm_lexer.specs.Lexing.{lexeme_of}
use Rattle.cmm_ast.specs.declared.unit.Place.{Place}
use Rattle.cmm_grammar.specs.Derivation.{IsUnexpected, IsTooDeep}
use Rattle.cmm_parser.specs.declared.fault.SyntaxFault.{SyntaxFault}
use Rattle.cmm_parser.specs.declared.fault.SyntaxFault.TheVariants.{At, Memory}

-- what a token is, as a reader sees it
abbrev pub lexeme_in : Tokens → TokenKind → Lexeme
lexeme_in tokens kind = lexeme_of tokens.spellings.keys kind

abbrev pub lexemes : Tokens → List Token → List Lexeme
lexemes tokens list = map (λ t. lexeme_in tokens t.kind) list

-- the tokens of a unit, with their spellings
abbrev pub lexemes_of : Tokens → List Lexeme
lexemes_of ts = lexemes ts ts.list

-- where each of them stands, and the end of the unit
abbrev pub place_of : Token → Place
place_of t = record { line = t.line; column = t.column }

abbrev pub places_of : Tokens → List Place
places_of ts = map place_of ts.list ++ record { line = ts.line; column = ts.column } ∷ []

-- one rule names the token that no unit goes on with, the other the first that passes a limit on nesting
abbrev pub IsFaultOf : List Lexeme → SyntaxFault → Type 0
IsFaultOf tokens (At rule token) = ((rule ≡ Syntax) × IsUnexpected tokens token) ⊎ ((rule ≡ TooDeep) × IsTooDeep tokens token)
IsFaultOf tokens Memory = Unit {0}
