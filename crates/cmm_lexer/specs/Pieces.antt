-- The pieces that a text splits into: separators, comments, skipped lines and tokens, each the longest at its place.
use Rattle.std.specs.Prelude.{ℕ, suc, zero, Bool, true, false, ◌==◌, ◌&&◌, ◌+◌, ◌-◌, not, nat_lt, List, [], ◌∷◌, drop, take, length, Some, None}
use Rattle.std.specs.List.{prefix_len}
use Rattle.cmm_lexer.specs.declared.piece.Lexeme.{Lexeme}
use Rattle.cmm_lexer.specs.declared.piece.Lexeme.TheVariants.{Name, Int, Char, Text, Op, Checked, Word, Symbol}
use Rattle.cmm_lexer.specs.declared.piece.Part.TheVariants.{Skipped, Lexed, Broken}
use Rattle.cmm_lexer.specs.declared.piece.Piece.{Piece}
use Rattle.cmm_rules.specs.declared.rule.Rule.{Rule}
use Rattle.cmm_rules.specs.declared.rule.Rule.TheVariants.{BadByte, OpenComment, OpenText, BadNumber}
use Rattle.cmm_lexer.specs.Bytes.{is_separator, is_digit, is_operator_byte, begins_operator, begins_word, begins}
use Rattle.cmm_lexer.specs.Spellings.{reserved, symbols, number_of, name_len}
use Rattle.cmm_lexer.specs.Characters.{character_at, quoted, after_comment}
use Rattle.cmm_lexer.specs.Places.{column_at}
use Rattle.cmm_words.specs.Digits.{base, written}
use Rattle.cmm_lexer.specs.Numbers.{radix_of, digits_start, is_digit_at}

abbrev pub skipped : ℕ → Piece
skipped n = record { len = n; part = Skipped }

abbrev pub lexed : ℕ → Lexeme → Piece
lexed n x = record { len = n; part = Lexed x }

-- a broken rule, at the first byte of what breaks it
abbrev pub broken : Rule → Piece
broken r = record { len = 1; part = Broken r }

-- how many bytes stand before the end of the line
abbrev pub line_len : List ℕ → ℕ
line_len text = prefix_len (λ b. not (b == 10)) text

-- a block comment: a `*` of its opening does not close it
unfoldable pub comment_piece : List ℕ → Piece
comment_piece text = elim (after_comment (drop 2 text)) [ None ↦ broken OpenComment | Some rest ↦ skipped (length text - length rest) ]

unfoldable pub name_piece : List ℕ → Piece
name_piece text = elim (number_of reserved (take (name_len text) text)) [
  | Some n ↦ lexed (name_len text) (Word n)
  | None ↦ lexed (name_len text) (Name (take (name_len text) text))
]

unfoldable pub number_piece : List ℕ → Piece
number_piece text =
    let radix = radix_of text in
    let rest = drop (digits_start radix) text in
    let len = prefix_len (is_digit_at radix) rest in
    elim (begins begins_word (drop len rest)) [
      | true ↦ broken BadNumber
      | false ↦ elim (written (base radix) (take len rest)) [ Some n ↦ lexed (digits_start radix + len) (Int n) | None ↦ broken BadNumber ]
    ]

-- one character between single quotes
unfoldable pub character_piece : List ℕ → Piece
character_piece text = elim (character_at 39 (drop 1 text)) [
  | None ↦ broken OpenText
  | Some c ↦ elim (begins (λ b. b == 39) (drop (1 + c.len) text)) [ true ↦ lexed (c.len + 2) (Char c.value) | false ↦ broken OpenText ]
]

unfoldable pub text_piece : List ℕ → Piece
text_piece text = elim (quoted 0 (drop 1 text)) [ None ↦ broken OpenText | Some q ↦ lexed (length text - length q.rest) (Text q.values) ]

unfoldable pub symbol_piece : List ℕ → Piece
symbol_piece text = elim (number_of symbols (take 2 text)) [
  | Some n ↦ lexed (length (take 2 text)) (Symbol n)
  | None ↦ elim (number_of symbols (take 1 text)) [ Some n ↦ lexed 1 (Symbol n) | None ↦ broken BadByte ]
]

-- the name of an operator after one or two percent signs, or the symbol `%`
unfoldable pub percent_piece : List ℕ → Piece
percent_piece text = elim (begins begins_operator (drop 1 text)) [
  | true ↦ let name = take (prefix_len is_operator_byte (drop 1 text)) (drop 1 text) in lexed (1 + length name) (Op name)
  | false ↦ elim (begins (λ b. b == 37) (drop 1 text) && begins begins_operator (drop 2 text)) [
    | true ↦ let name = take (prefix_len is_operator_byte (drop 2 text)) (drop 2 text) in lexed (2 + length name) (Checked name)
    | false ↦ symbol_piece text
  ]
]

-- the piece at the front of a text, at the start of a line or elsewhere
unfoldable pub piece_at : Bool → List ℕ → Piece
piece_at first text =
    elim (begins is_separator text) [
      | true ↦ skipped 1
      | false ↦
          elim (first && begins (λ b. b == 35) text) [
            | true ↦ skipped (line_len text)
            | false ↦
                elim (begins (λ b. b == 47) text && begins (λ b. b == 47) (drop 1 text)) [
                  | true ↦ skipped (line_len text)
                  | false ↦
                      elim (begins (λ b. b == 47) text && begins (λ b. b == 42) (drop 1 text)) [
                        | true ↦ comment_piece text
                        | false ↦
                            elim (begins is_digit text) [
                              | true ↦ number_piece text
                              | false ↦
                                  elim (nat_lt 0 (name_len text)) [
                                    | true ↦ name_piece text
                                    | false ↦
                                        elim (begins (λ b. b == 39) text) [
                                          | true ↦ character_piece text
                                          | false ↦
                                              elim (begins (λ b. b == 34) text) [
                                                | true ↦ text_piece text
                                                | false ↦
                                                    elim (begins (λ b. b == 37) text) [
                                                      | true ↦ percent_piece text
                                                      | false ↦
                                                          symbol_piece text
                                                    ]
                                              ]
                                        ]
                                  ]
                            ]
                      ]
                ]
          ]
    ]

-- a piece, and where it starts in its unit
pub record Placed : Type 0 where
  pub start : ℕ
  pub piece : Piece

-- whether a place of a unit is the first of its line
abbrev pub begins_line : List ℕ → ℕ → Bool
begins_line unit place = column_at unit place == 1

-- the pieces from a place of a unit on, whose text from there is given: the first bytes of it, as many as are owned, belong to a piece before them
unfoldable pub pieces_from : List ℕ → ℕ → ℕ → List ℕ → List Placed
pieces_from unit owned place [] = []
pieces_from unit (suc owned) place (b ∷ bs) = pieces_from unit owned (suc place) bs
pieces_from unit zero place (b ∷ bs) =
    let piece = piece_at (begins_line unit place) (b ∷ bs) in
    record { start = place; piece = piece } ∷ pieces_from unit (piece.len - 1) (suc place) bs

abbrev pub pieces_of : List ℕ → List Placed
pieces_of unit = pieces_from unit 0 0 unit
