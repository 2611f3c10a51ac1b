use Rattle.std.proofs.Common.{◌≡◌, ◌∷◌, [], ◌++◌, rules}
use Rattle.cmm_lexer.proofs.Numbered.{spelled-pushed, are_numbered-pushed}
use Rattle.cmm_lexer.specs.declared.token.Token.{Token}
use Rattle.cmm_lexer.proofs.tokens.Tokens.push.Goals as goal

pub returns-clause-list : goal.returns-clause-list
returns-clause-list c =
    let token : Token = record { kind = c.in_ok-kind.kind; start = c.args.start; «end» = c.args.end; line = c.args.self.now.line; column = c.args.self.now.column } in
    let there : c.push.new.self ≡ c.args.self.now.list ++ token ∷ [] = search rules in
    spelled-pushed c.args.self.now.spellings.keys c.kind_of.new.self.spellings.keys c.args.self.now.list c.push.new.self token c.args.lexeme c.in_ok-kind.ensures.kept there c.requires.numbered c.in_ok-kind.ensures.lexeme

pub returns-clause-numbered : goal.returns-clause-numbered
returns-clause-numbered c =
    let token : Token = record { kind = c.in_ok-kind.kind; start = c.args.start; «end» = c.args.end; line = c.args.self.now.line; column = c.args.self.now.column } in
    let there : c.push.new.self ≡ c.args.self.now.list ++ token ∷ [] = search rules in
    are_numbered-pushed c.args.self.now.spellings.keys c.kind_of.new.self.spellings.keys c.args.self.now.list c.push.new.self token c.in_ok-kind.ensures.kept there c.requires.numbered c.in_ok-kind.ensures.numbered
