-- The characters between quotes, and the end of a block comment.
use Rattle.std.specs.Prelude.{ℕ, suc, zero, true, false, ◌==◌, ◌&&◌, ◌||◌, ◌+◌, ◌*◌, ◌-◌, List, [], ◌∷◌, drop, Option, Some, None, option_map}
use Rattle.std.specs.Char.{is_digit, digit_value}
use Rattle.cmm_lexer.specs.declared.character.Character.{Character}
use Rattle.cmm_lexer.specs.Bytes.{begins}

-- the byte that a letter after a backslash stands for: n, t, r, 0, the backslash and the quotes
abbrev pub escaped : ℕ → Option ℕ
escaped b =
    elim (b == 110) [
      | true ↦ Some 10
      | false ↦
          elim (b == 116) [
            | true ↦ Some 9
            | false ↦
                elim (b == 114) [
                  | true ↦ Some 13
                  | false ↦
                      elim (b == 48) [
                        | true ↦ Some 0
                        | false ↦
                            elim (b == 92 || b == 34 || b == 39) [ true ↦ Some b | false ↦ None ]
                      ]
                ]
          ]
    ]

-- the byte that two hexadecimal digits after `\x` write
abbrev pub hex_pair : List ℕ → Option ℕ
hex_pair [] = None
hex_pair (h ∷ []) = None
hex_pair (h ∷ l ∷ bs) = elim (is_digit h 16 && is_digit l 16) [ true ↦ Some (digit_value h * 16 + digit_value l) | false ↦ None ]

-- the character that begins with a backslash, from the byte after it
abbrev pub escape_at : List ℕ → Option Character
escape_at [] = None
escape_at (b ∷ bs) = elim (b == 120) [
  | true ↦ option_map (λ v. record { value = v; len = 4 }) (hex_pair bs)
  | false ↦ option_map (λ v. record { value = v; len = 2 }) (escaped b)
]

-- the character at the front of a text, where it has one, inside these quotes
abbrev pub character_at : ℕ → List ℕ → Option Character
character_at quote [] = None
character_at quote (b ∷ bs) = elim (b == 10 || b == quote) [ true ↦ None | false ↦ elim (b == 92) [ true ↦ escape_at bs | false ↦ Some (record { value = b; len = 1 }) ] ]

-- the bytes that characters stand for, and the text after the quote that closes them
pub record Quoted : Type 0 where
  pub values : List ℕ
  pub rest : List ℕ

abbrev pub with_value : ℕ → Option Quoted → Option Quoted
with_value v found = option_map (λ q. record { values = v ∷ q.values; rest = q.rest }) found

-- the characters up to a double quote: the first bytes, as many as are owned, belong to a character before them
abbrev pub quoted : ℕ → List ℕ → Option Quoted
quoted owned [] = None
quoted (suc owned) (b ∷ bs) = quoted owned bs
quoted zero (b ∷ bs) = elim (b == 34) [
  | true ↦ Some (record { values = []; rest = bs })
  | false ↦ elim (character_at 34 (b ∷ bs)) [ None ↦ None | Some c ↦ with_value c.value (quoted (c.len - 1) bs) ]
]

-- the text after the next `*/`
abbrev pub after_comment : List ℕ → Option (List ℕ)
after_comment [] = None
after_comment (b ∷ bs) = elim (b == 42 && begins (λ c. c == 47) bs) [ true ↦ Some (drop 1 bs) | false ↦ after_comment bs ]
