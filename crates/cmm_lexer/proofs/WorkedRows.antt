-- Rows of the lexical form, by computing.
use Rattle.std.proofs.Common.{◌≡◌, [], ◌∷◌, codes, map, Some, refl}
use Rattle.cmm_lexer.specs.declared.piece.Lexeme.TheVariants.{Name, Int, Char, Text, Op, Checked, Word, Symbol}
use Rattle.cmm_rules.specs.declared.rule.Rule.TheVariants.{BadByte, OpenComment, OpenText, BadNumber}
use Rattle.cmm_lexer.specs.Spellings.{number_of, reserved, symbols}
use Rattle.cmm_lexer.specs.Pieces.{comment_piece, name_piece, number_piece, character_piece, text_piece, symbol_piece, percent_piece, piece_at, pieces_from}
use Rattle.cmm_lexer.specs.Lexing.{tokens_of, first_fault}

-- what the rows compute with
unfoldable opened : Unit {0}
unfolding number_of reserved symbols comment_piece name_piece number_piece character_piece text_piece symbol_piece percent_piece piece_at pieces_from
opened = tt

-- a name stops before two dots
row_dots : map (λ t. t.lexeme) (tokens_of (codes "a..b.c")) ≡ Name (codes "a") ∷ Symbol 28 ∷ Name (codes "b.c") ∷ []
unfolding opened
row_dots = refl

-- a comment that nothing closes
row_comment : first_fault (codes "a; /* x") ≡ Some (record { rule = OpenComment; start = 3 })
unfolding opened
row_comment = refl

-- the same bytes after escapes, and a place on the second line
row_text : tokens_of (codes "\n \"\\x41\"") ≡ record { lexeme = Text (codes "A"); start = 2; past = 8; line = 2; column = 2 } ∷ []
unfolding opened
row_text = refl

-- numbers of three bases
row_numbers : map (λ t. t.lexeme) (tokens_of (codes "10 010 0x1F")) ≡ Int 10 ∷ Int 8 ∷ Int 31 ∷ []
unfolding opened
row_numbers = refl

-- a digit past the base
row_octal : first_fault (codes "08") ≡ Some (record { rule = BadNumber; start = 0 })
unfolding opened
row_octal = refl

-- a line that begins with `#` is skipped, and one in a comment is not
row_hash : first_fault (codes "#!\n #") ≡ Some (record { rule = BadByte; start = 4 })
unfolding opened
row_hash = refl

-- percent signs
row_percent : map (λ t. t.lexeme) (tokens_of (codes "%a%%b%")) ≡ Op (codes "a") ∷ Checked (codes "b") ∷ Symbol 21 ∷ []
unfolding opened
row_percent = refl

-- reserved words, characters, and the longest symbol
row_words : map (λ t. t.lexeme) (tokens_of (codes "if'\\n'<=<")) ≡ Word 23 ∷ Char 10 ∷ Symbol 14 ∷ Symbol 13 ∷ []
unfolding opened
row_words = refl

-- a character that is not exactly one
row_character : first_fault (codes "''") ≡ Some (record { rule = OpenText; start = 0 })
unfolding opened
row_character = refl
