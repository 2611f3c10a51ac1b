-- Each token of a unit of bytes is of bytes, as what escapes stand for is.
use Rattle.std.proofs.Common.{◌≡◌, ℕ, zero, suc, ◌+◌, ◌*◌, ◌-◌, ◌<◌, ◌==◌, Bool, true, false, List, [], ◌∷◌, Option, Some, None, option_map, take, drop, length, refl, arith}
use Rattle.std.specs.Prelude.{◌&&◌, ◌||◌, nat_lt, All}
use Rattle.std.specs.List.{flat_map, prefix_len}
use Rattle.std.specs.Char.{is_digit as is_digit_in, digit_value}
use Rattle.std.proofs.lemmas.Bool.{and_parts, ltb-true}
use Rattle.std.proofs.lemmas.List.Elements.{All-nil, All-cons, All-head, All-tail, All-take, All-drop, All-append}
use Rattle.cmm_lexer.specs.declared.character.Character.{Character}
use Rattle.cmm_lexer.specs.declared.piece.Lexeme.TheVariants.{Name, Int, Char, Text, Op, Checked, Word, Symbol}
use Rattle.cmm_lexer.specs.declared.piece.Part.{Part}
use Rattle.cmm_lexer.specs.declared.piece.Part.TheVariants.{Skipped, Lexed, Broken}
use Rattle.cmm_lexer.specs.declared.piece.Piece.{Piece}
use Rattle.cmm_rules.specs.declared.rule.Rule.TheVariants.{BadByte, OpenComment, OpenText, BadNumber}
use Rattle.cmm_lexer.specs.Bytes.{is_separator, is_digit, is_operator_byte, begins_operator, begins_word, begins}
use Rattle.cmm_lexer.specs.Characters.{escaped, hex_pair, escape_at, character_at, Quoted, with_value, quoted, after_comment}
use Rattle.cmm_lexer.specs.Spellings.{reserved, symbols, number_of, name_len}
use Rattle.cmm_words.specs.Digits.{base, written}
use Rattle.cmm_lexer.specs.Numbers.{radix_of, digits_start, is_digit_at}
use Rattle.cmm_lexer.specs.Pieces.{skipped, lexed, broken, line_len, comment_piece, name_piece, number_piece, character_piece, text_piece, symbol_piece, percent_piece, piece_at, Placed, begins_line, pieces_from, pieces_of}
use Rattle.cmm_lexer.specs.Lexing.{Spelled, token_in, token_of}
use Rattle.cmm_lexer.specs.Laws.{AreBytes, IsOfBytes, TokensAreOfBytes}

abbrev IsByte : ℕ → Type 0
IsByte b = b < 256

-- what holds of both is kept by a choice
either : {A : Type 0} (P : A → Type 0) (b : Bool) (x y : A) → P x → P y → P (elim b [ true ↦ x | false ↦ y ])
either P true x y h k = h
either P false x y h k = k

found : {A B : Type 0} (P : A → Type 0) (o : Option B) (f : B → A) (y : A) → ((b : B) → P (f b)) → P y → P (elim o [ Some b ↦ f b | None ↦ y ])
found P (Some b) f y h k = h b
found P None f y h k = k

-- ---- characters

abbrev ByteFound : Option ℕ → Type 0
ByteFound None = Unit {0}
ByteFound (Some v) = v < 256

abbrev CharacterFound : Option Character → Type 0
CharacterFound None = Unit {0}
CharacterFound (Some c) = c.value < 256

abbrev QuotedFound : Option Quoted → Type 0
QuotedFound None = Unit {0}
QuotedFound (Some q) = AreBytes q.values

escaped_byte : (b : ℕ) → b < 256 → ByteFound (escaped b)
escaped_byte b h =
    either ByteFound (b == 110) (Some 10) _ (omega arith)
    (either ByteFound (b == 116) (Some 9) _ (omega arith)
    (either ByteFound (b == 114) (Some 13) _ (omega arith)
    (either ByteFound (b == 48) (Some 0) _ (omega arith)
    (either ByteFound (b == 92 || b == 34 || b == 39) (Some b) None h tt))))

two_digits : (b : Bool) (x y : ℕ) → (nat_lt x 16 && nat_lt y 16) ≡ b → ByteFound (elim b [ true ↦ Some (x * 16 + y) | false ↦ None ])
two_digits true x y e = let both = and_parts (nat_lt x 16) (nat_lt y 16) e in let high : x < 16 = ltb-true x 16 both.0 in let low : y < 16 = ltb-true y 16 both.1 in omega arith
two_digits false x y e = tt

hex_byte : (bs : List ℕ) → ByteFound (hex_pair bs)
hex_byte [] = tt
hex_byte (h ∷ []) = tt
hex_byte (h ∷ l ∷ bs) = two_digits (is_digit_in h 16 && is_digit_in l 16) (digit_value h) (digit_value l) refl

with_len : (n : ℕ) (o : Option ℕ) → ByteFound o → CharacterFound (option_map (λ v. record { value = v; len = n }) o)
with_len n None h = tt
with_len n (Some v) h = h

escape_byte : (bs : List ℕ) → AreBytes bs → CharacterFound (escape_at bs)
escape_byte [] h = tt
escape_byte (b ∷ bs) h =
    either CharacterFound (b == 120) (option_map (λ v. record { value = v; len = 4 }) (hex_pair bs)) (option_map (λ v. record { value = v; len = 2 }) (escaped b))
    (with_len 4 (hex_pair bs) (hex_byte bs)) (with_len 2 (escaped b) (escaped_byte b (All-head IsByte b bs h)))

character_byte : (quote : ℕ) (text : List ℕ) → AreBytes text → CharacterFound (character_at quote text)
character_byte quote [] h = tt
character_byte quote (b ∷ bs) h =
    either CharacterFound (b == 10 || b == quote) None _ tt
    (either CharacterFound (b == 92) (escape_at bs) (Some (record { value = b; len = 1 })) (escape_byte bs (All-tail IsByte b bs h)) (All-head IsByte b bs h))

with_value_bytes : (v : ℕ) (o : Option Quoted) → v < 256 → QuotedFound o → QuotedFound (with_value v o)
with_value_bytes v None h k = tt
with_value_bytes v (Some q) h k = All-cons IsByte v q.values h k

next_value : (o : Option Character) (bs : List ℕ) → CharacterFound o → ((owned : ℕ) → QuotedFound (quoted owned bs)) →
    QuotedFound (elim o [ None ↦ None | Some c ↦ with_value c.value (quoted (c.len - 1) bs) ])
next_value None bs h rest = tt
next_value (Some c) bs h rest = with_value_bytes c.value (quoted (c.len - 1) bs) h (rest (c.len - 1))

quoted_bytes : (bs : List ℕ) → AreBytes bs → (owned : ℕ) → QuotedFound (quoted owned bs)
quoted_bytes [] h zero = tt
quoted_bytes [] h (suc owned) = tt
quoted_bytes (b ∷ bs) h (suc owned) = quoted_bytes bs (All-tail IsByte b bs h) owned
quoted_bytes (b ∷ bs) h zero =
    either QuotedFound (b == 34) (Some (record { values = []; rest = bs })) _ (All-nil IsByte)
    (next_value (character_at 34 (b ∷ bs)) bs (character_byte 34 (b ∷ bs) h) (λ owned. quoted_bytes bs (All-tail IsByte b bs h) owned))

-- ---- pieces

abbrev PartOfBytes : Part → Type 0
PartOfBytes Skipped = Unit {0}
PartOfBytes (Lexed x) = IsOfBytes x
PartOfBytes (Broken r) = Unit {0}

-- the token that a piece is, if it is one, is of bytes
record IsSound (p : Piece) : Type 0 where
  pub part : PartOfBytes p.part

sound : (p : Piece) → PartOfBytes p.part → IsSound p
sound p h = record { part = h }

comment_sound : (text : List ℕ) → IsSound (comment_piece text)
unfolding comment_piece
comment_sound text = found IsSound (after_comment (drop 2 text)) (λ rest. skipped (length text - length rest)) (broken OpenComment) (λ rest. sound _ tt) (sound _ tt)

name_sound : (text : List ℕ) → AreBytes text → IsSound (name_piece text)
unfolding name_piece
name_sound text h =
    found IsSound (number_of reserved (take (name_len text) text)) (λ n. lexed (name_len text) (Word n)) (lexed (name_len text) (Name (take (name_len text) text)))
    (λ n. sound _ tt) (sound _ (All-take IsByte (name_len text) text h))

number_by : (stuck : Bool) (value : Option ℕ) (len : ℕ) → IsSound (elim stuck [ true ↦ broken BadNumber | false ↦ elim value [ Some n ↦ lexed len (Int n) | None ↦ broken BadNumber ] ])
number_by true value len = sound _ tt
number_by false (Some n) len = sound _ tt
number_by false None len = sound _ tt

number_sound : (text : List ℕ) → IsSound (number_piece text)
unfolding number_piece
number_sound text =
    let radix = radix_of text in
    let rest = drop (digits_start radix) text in
    let len = prefix_len (is_digit_at radix) rest in
    number_by (begins begins_word (drop len rest)) (written (base radix) (take len rest)) (digits_start radix + len)

closed_character : (o : Option Character) (closes : Character → Bool) → CharacterFound o →
    IsSound (elim o [ None ↦ broken OpenText | Some c ↦ elim (closes c) [ true ↦ lexed (c.len + 2) (Char c.value) | false ↦ broken OpenText ] ])
closed_character None closes h = sound _ tt
closed_character (Some c) closes h = either IsSound (closes c) (lexed (c.len + 2) (Char c.value)) (broken OpenText) (sound _ h) (sound _ tt)

character_sound : (text : List ℕ) → AreBytes text → IsSound (character_piece text)
unfolding character_piece
character_sound text h = closed_character (character_at 39 (drop 1 text)) _ (character_byte 39 (drop 1 text) (All-drop IsByte 1 text h))

closed_text : (o : Option Quoted) (len : Quoted → ℕ) → QuotedFound o → IsSound (elim o [ None ↦ broken OpenText | Some q ↦ lexed (len q) (Text q.values) ])
closed_text None len h = sound _ tt
closed_text (Some q) len h = sound _ h

text_sound : (text : List ℕ) → AreBytes text → IsSound (text_piece text)
unfolding text_piece
text_sound text h = closed_text (quoted 0 (drop 1 text)) (λ q. length text - length q.rest) (quoted_bytes (drop 1 text) (All-drop IsByte 1 text h) 0)

symbol_sound : (text : List ℕ) → IsSound (symbol_piece text)
unfolding symbol_piece
symbol_sound text =
    found IsSound (number_of symbols (take 2 text)) (λ n. lexed (length (take 2 text)) (Symbol n)) _ (λ n. sound _ tt)
    (found IsSound (number_of symbols (take 1 text)) (λ n. lexed 1 (Symbol n)) (broken BadByte) (λ n. sound _ tt) (sound _ tt))

percent_sound : (text : List ℕ) → AreBytes text → IsSound (percent_piece text)
unfolding percent_piece
percent_sound text h =
    let name = take (prefix_len is_operator_byte (drop 1 text)) (drop 1 text) in
    let checked = take (prefix_len is_operator_byte (drop 2 text)) (drop 2 text) in
    either IsSound (begins begins_operator (drop 1 text)) (lexed (1 + length name) (Op name)) _ (sound _ (All-take IsByte (prefix_len is_operator_byte (drop 1 text)) (drop 1 text) (All-drop IsByte 1 text h)))
    (either IsSound (begins (λ b. b == 37) (drop 1 text) && begins begins_operator (drop 2 text)) (lexed (2 + length checked) (Checked checked)) (symbol_piece text)
    (sound _ (All-take IsByte (prefix_len is_operator_byte (drop 2 text)) (drop 2 text) (All-drop IsByte 2 text h))) (symbol_sound text))

piece_sound : (first : Bool) (text : List ℕ) → AreBytes text → IsSound (piece_at first text)
unfolding piece_at
piece_sound first text h =
    either IsSound (begins is_separator text) (skipped 1) _ (sound _ tt)
    (either IsSound (first && begins (λ b. b == 35) text) (skipped (line_len text)) _ (sound _ tt)
    (either IsSound (begins (λ b. b == 47) text && begins (λ b. b == 47) (drop 1 text)) (skipped (line_len text)) _ (sound _ tt)
    (either IsSound (begins (λ b. b == 47) text && begins (λ b. b == 42) (drop 1 text)) (comment_piece text) _ (comment_sound text)
    (either IsSound (begins is_digit text) (number_piece text) _ (number_sound text)
    (either IsSound (nat_lt 0 (name_len text)) (name_piece text) _ (name_sound text h)
    (either IsSound (begins (λ b. b == 39) text) (character_piece text) _ (character_sound text h)
    (either IsSound (begins (λ b. b == 34) text) (text_piece text) _ (text_sound text h)
    (either IsSound (begins (λ b. b == 37) text) (percent_piece text) (symbol_piece text) (percent_sound text h) (symbol_sound text)))))))))

-- ---- units

abbrev PlacedSound : Placed → Type 0
PlacedSound p = IsSound p.piece

pieces_sound : (unit text : List ℕ) → AreBytes text → (owned place : ℕ) → All PlacedSound (pieces_from unit owned place text)
unfolding pieces_from
pieces_sound unit [] h zero place = All-nil PlacedSound
pieces_sound unit [] h (suc owned) place = All-nil PlacedSound
pieces_sound unit (b ∷ bs) h (suc owned) place = pieces_sound unit bs (All-tail IsByte b bs h) owned (suc place)
pieces_sound unit (b ∷ bs) h zero place =
    let piece = piece_at (begins_line unit place) (b ∷ bs) in
    All-cons PlacedSound (record { start = place; piece = piece }) (pieces_from unit (piece.len - 1) (suc place) bs) (piece_sound (begins_line unit place) (b ∷ bs) h)
    (pieces_sound unit bs (All-tail IsByte b bs h) (piece.len - 1) (suc place))

abbrev TokenOfBytes : Spelled → Type 0
TokenOfBytes t = IsOfBytes t.lexeme

one_token : (part : Part) (start past line column : ℕ) → PartOfBytes part → All TokenOfBytes (token_in part start past line column)
one_token Skipped start past line column h = All-nil TokenOfBytes
one_token (Lexed x) start past line column h = All-cons TokenOfBytes _ [] h (All-nil TokenOfBytes)
one_token (Broken r) start past line column h = All-nil TokenOfBytes

tokens_in : (unit : List ℕ) (ps : List Placed) → All PlacedSound ps → All TokenOfBytes (flat_map (token_of unit) ps)
tokens_in unit [] h = All-nil TokenOfBytes
tokens_in unit (p ∷ ps) h =
    let first : IsSound p.piece = All-head PlacedSound p ps h in
    All-append TokenOfBytes (token_of unit p) (flat_map (token_of unit) ps) (one_token p.piece.part _ _ _ _ first.part) (tokens_in unit ps (All-tail PlacedSound p ps h))

pub tokens_are_of_bytes : TokensAreOfBytes
tokens_are_of_bytes unit h = tokens_in unit (pieces_of unit) (pieces_sound unit unit h 0 0)
