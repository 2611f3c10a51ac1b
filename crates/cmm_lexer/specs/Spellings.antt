-- The words and symbols of the language, in the order of their numbers, and how far a name reaches.
use Rattle.std.specs.Prelude.{ℕ, Bool, true, false, ◌==◌, ◌&&◌, ◌||◌, not, ◌+◌, List, [], ◌∷◌, codes, nat_eq, Option, position}
use Rattle.std.specs.Cmp.Lexicographic.{pointwise}
use Rattle.cmm_lexer.specs.declared.keyword.Keyword.{Keyword}
use Rattle.cmm_lexer.specs.declared.keyword.Keyword.TheVariants as word
use Rattle.cmm_lexer.specs.declared.symbol.Symbol.{Symbol}
use Rattle.cmm_lexer.specs.declared.symbol.Symbol.TheVariants as sign
use Rattle.cmm_lexer.specs.Bytes.{is_word_byte, begins}

-- the words that are no names
unfoldable pub reserved : List (List ℕ)
reserved =
    codes "aborts" ∷ codes "align" ∷ codes "aligned" ∷ codes "also" ∷ codes "as" ∷ codes "big" ∷ codes "bits8" ∷ codes "bits16" ∷ codes "bits32"
    ∷ codes "bits64" ∷ codes "bool" ∷ codes "byteorder" ∷ codes "case" ∷ codes "const" ∷ codes "continuation" ∷ codes "cut" ∷ codes "cuts"
    ∷ codes "default" ∷ codes "else" ∷ codes "export" ∷ codes "float" ∷ codes "foreign" ∷ codes "goto" ∷ codes "if" ∷ codes "import" ∷ codes "in"
    ∷ codes "invariant" ∷ codes "jump" ∷ codes "little" ∷ codes "memsize" ∷ codes "never" ∷ codes "pointersize" ∷ codes "pragma" ∷ codes "reads"
    ∷ codes "register" ∷ codes "return" ∷ codes "returns" ∷ codes "section" ∷ codes "span" ∷ codes "stackdata" ∷ codes "string16" ∷ codes "switch"
    ∷ codes "target" ∷ codes "to" ∷ codes "typedef" ∷ codes "unicode" ∷ codes "unwinds" ∷ codes "wordsize" ∷ codes "writes" ∷ []

unfoldable pub symbols : List (List ℕ)
symbols =
    codes "{" ∷ codes "}" ∷ codes "(" ∷ codes ")" ∷ codes "[" ∷ codes "]" ∷ codes "," ∷ codes ";" ∷ codes ":" ∷ codes "::" ∷ codes "=" ∷ codes "=="
    ∷ codes "!=" ∷ codes "<" ∷ codes "<=" ∷ codes ">" ∷ codes ">=" ∷ codes "+" ∷ codes "-" ∷ codes "*" ∷ codes "/" ∷ codes "%" ∷ codes "&"
    ∷ codes "|" ∷ codes "^" ∷ codes "~" ∷ codes "<<" ∷ codes ">>" ∷ codes ".." ∷ []

-- the numbers of the reserved words among themselves, and of the symbols among themselves, as tokens have them
abbrev pub keyword_number : Keyword → ℕ
keyword_number word.Aborts = 0
keyword_number word.Align = 1
keyword_number word.Aligned = 2
keyword_number word.Also = 3
keyword_number word.As = 4
keyword_number word.Big = 5
keyword_number word.Bits8 = 6
keyword_number word.Bits16 = 7
keyword_number word.Bits32 = 8
keyword_number word.Bits64 = 9
keyword_number word.Bool = 10
keyword_number word.Byteorder = 11
keyword_number word.Case = 12
keyword_number word.Const = 13
keyword_number word.Continuation = 14
keyword_number word.Cut = 15
keyword_number word.Cuts = 16
keyword_number word.Default = 17
keyword_number word.Else = 18
keyword_number word.Export = 19
keyword_number word.Float = 20
keyword_number word.Foreign = 21
keyword_number word.Goto = 22
keyword_number word.If = 23
keyword_number word.Import = 24
keyword_number word.In = 25
keyword_number word.Invariant = 26
keyword_number word.Jump = 27
keyword_number word.Little = 28
keyword_number word.Memsize = 29
keyword_number word.Never = 30
keyword_number word.Pointersize = 31
keyword_number word.Pragma = 32
keyword_number word.Reads = 33
keyword_number word.Register = 34
keyword_number word.Return = 35
keyword_number word.Returns = 36
keyword_number word.Section = 37
keyword_number word.Span = 38
keyword_number word.Stackdata = 39
keyword_number word.String16 = 40
keyword_number word.Switch = 41
keyword_number word.Target = 42
keyword_number word.To = 43
keyword_number word.Typedef = 44
keyword_number word.Unicode = 45
keyword_number word.Unwinds = 46
keyword_number word.Wordsize = 47
keyword_number word.Writes = 48

abbrev pub symbol_number : Symbol → ℕ
symbol_number sign.OpenBrace = 0
symbol_number sign.CloseBrace = 1
symbol_number sign.Open = 2
symbol_number sign.Close = 3
symbol_number sign.OpenSquare = 4
symbol_number sign.CloseSquare = 5
symbol_number sign.Comma = 6
symbol_number sign.Semicolon = 7
symbol_number sign.Colon = 8
symbol_number sign.Colons = 9
symbol_number sign.Assign = 10
symbol_number sign.Equal = 11
symbol_number sign.NotEqual = 12
symbol_number sign.Less = 13
symbol_number sign.LessEqual = 14
symbol_number sign.Greater = 15
symbol_number sign.GreaterEqual = 16
symbol_number sign.Plus = 17
symbol_number sign.Minus = 18
symbol_number sign.Star = 19
symbol_number sign.Slash = 20
symbol_number sign.Percent = 21
symbol_number sign.Ampersand = 22
symbol_number sign.Bar = 23
symbol_number sign.Caret = 24
symbol_number sign.Tilde = 25
symbol_number sign.ShiftLeft = 26
symbol_number sign.ShiftRight = 27
symbol_number sign.Range = 28

-- the number of a spelling in a table
unfoldable pub number_of : List (List ℕ) → List ℕ → Option ℕ
number_of table spelling = position (pointwise nat_eq spelling) table

-- a byte goes on a name before this text: a dot does only where no dot follows
abbrev pub goes_on : ℕ → List ℕ → Bool
goes_on b bs = is_word_byte b || (b == 46 && not (begins (λ c. c == 46) bs))

-- how many bytes from the front go on a name
abbrev pub name_len : List ℕ → ℕ
name_len [] = 0
name_len (b ∷ bs) = elim (goes_on b bs) [ true ↦ 1 + name_len bs | false ↦ 0 ]
