-- Which bytes separate tokens, and which make them up.
use Rattle.std.specs.Prelude.{ℕ, Bool, false, ◌==◌, ◌&&◌, ◌||◌, nat_le, List, [], ◌∷◌}

-- space, tab, line feed, form feed and carriage return
abbrev pub is_separator : ℕ → Bool
is_separator b = b == 32 || b == 9 || b == 10 || b == 12 || b == 13

abbrev pub is_letter : ℕ → Bool
is_letter b = (nat_le 97 b && nat_le b 122) || (nat_le 65 b && nat_le b 90)

abbrev pub is_digit : ℕ → Bool
is_digit b = nat_le 48 b && nat_le b 57

-- a letter or `_`, with which the name of an operator begins
abbrev pub begins_operator : ℕ → Bool
begins_operator b = is_letter b || b == 95

-- a letter, digit or `_`, which go on the name of an operator
abbrev pub is_operator_byte : ℕ → Bool
is_operator_byte b = begins_operator b || is_digit b

-- a letter, `_`, `$` or `@`, which may not follow a number
abbrev pub begins_word : ℕ → Bool
begins_word b = begins_operator b || b == 36 || b == 64

-- what a name is made of but for dots
abbrev pub is_word_byte : ℕ → Bool
is_word_byte b = begins_word b || is_digit b

-- the text's first byte passes a test
abbrev pub begins : (ℕ → Bool) → List ℕ → Bool
begins p [] = false
begins p (b ∷ bs) = p b
