-- How data, sections and units are read, over how a block is.
use Rattle.std.specs.Prelude.{ℕ, zero, suc, Bool, true, List, [], Option, Some, None}
use Rattle.cmm_lexer.specs.declared.piece.Lexeme.{Lexeme}
use Rattle.cmm_ast.specs.declared.token.Ident.{Ident}
use Rattle.cmm_lexer.specs.declared.keyword.Keyword.TheVariants.{Align, Section as SectionWord, Span}
use Rattle.cmm_lexer.specs.declared.symbol.Symbol.TheVariants.{Colon, CloseBrace, CloseSquare, Open, OpenBrace, OpenSquare, Semicolon}
use Rattle.cmm_ast.specs.declared.expression.TypeName.{TypeName}
use Rattle.cmm_ast.specs.declared.expression.Expr.{Expr}
use Rattle.cmm_ast.specs.declared.statement.Block.{Block}
use Rattle.cmm_ast.specs.declared.unit.TopLevel.{TopLevel}
use Rattle.cmm_ast.specs.declared.unit.TopLevel.TheVariants as tops
use Rattle.cmm_ast.specs.declared.unit.Section.{Section}
use Rattle.cmm_ast.specs.declared.unit.Item.{Item}
use Rattle.cmm_ast.specs.declared.unit.Item.TheVariants as items
use Rattle.cmm_ast.specs.declared.unit.DatumForm.{DatumForm}
use Rattle.cmm_ast.specs.declared.unit.DatumForm.TheVariants as data_forms
use Rattle.cmm_ast.specs.declared.unit.Count.{Count}
use Rattle.cmm_ast.specs.declared.unit.Count.TheVariants as counts
use Rattle.cmm_ast.specs.declared.unit.Initial.{Initial}
use Rattle.cmm_ast.specs.declared.unit.Initial.TheVariants as initials
use Rattle.cmm_grammar.specs.Taking.{is_word, is_sign}
use Rattle.cmm_grammar.specs.Reading.{Reads, ◌>>=◌, give, stop, if_next, here, keyword, symbol, ident, text, int, many, listed, square, braces}
use Rattle.cmm_grammar.specs.ExpressionReading.{named_type, begins_expression, whole, whole_prim}
use Rattle.cmm_grammar.specs.DeclarationReading.{is_other, if_symbol, bits, decl}
use Rattle.cmm_grammar.specs.ProcedureReading.{procedure}
use Rattle.cmm_grammar.specs.PartReading.{is_any_name, is_any_text}

-- ---- data

-- what stands in the square brackets
abbrev pub count_in : ℕ → Reads (Option Expr)
count_in fuel = if_next (is_sign CloseSquare) (give None) (whole fuel >>= λ e. give (Some e))

abbrev pub count_of : Option Expr → Count
count_of None = counts.OfInitial
count_of (Some e) = counts.Of e

abbrev pub count : ℕ → Reads Count
count fuel = if_next (is_sign OpenSquare) (square (count_in fuel) >>= λ e. give (count_of e)) (give counts.One)

abbrev pub values : ℕ → Reads Initial
values fuel = braces (listed fuel begins_expression (whole fuel)) >>= λ found. give (initials.Values found)

abbrev pub initial : ℕ → Reads Initial
initial fuel =
    if_next is_any_text (text >>= λ t. give (initials.Text t))
    (if_next (is_sign OpenBrace) (values fuel) (give initials.Zeros))

-- data after its type
abbrev pub values_of : ℕ → TypeName → Reads DatumForm
values_of fuel width =
    count fuel >>= λ how_many. initial fuel >>= λ first. symbol Semicolon >>= λ _. give (data_forms.Data width how_many first)

abbrev pub named_datum : ℕ → Ident → Reads DatumForm
named_datum fuel name = if_symbol Colon (give (data_forms.Label name)) (values_of fuel (named_type name))

-- ---- items of a section

abbrev pub datum_at : ℕ → DatumForm → Item
datum_at token form = items.Datum record { token = token; form = form }

-- an item after the name that it begins with: a procedure, a label, or data of the type that it names
abbrev pub named_item : ℕ → Reads Block → Ident → Reads Item
named_item fuel block name =
    if_next (is_sign Open) (procedure fuel block name >>= λ p. give (items.Proc p))
    (named_datum fuel name >>= λ form. give (datum_at name.token form))

abbrev pub align_item : Reads Item
align_item = here >>= λ token. keyword Align >>= λ _. int >>= λ bytes. symbol Semicolon >>= λ _. give (datum_at token (data_forms.Align bytes))

abbrev pub item_by : ℕ → Option TypeName → Reads Item
item_by fuel (Some width) = values_of fuel width >>= λ form. give (datum_at width.token form)
item_by fuel None = decl fuel >>= λ d. give (items.Decl d)

-- an item that holds no other
abbrev pub flat_item : ℕ → Reads Block → Reads Item
flat_item fuel block =
    if_next is_any_name (ident >>= λ name. named_item fuel block name)
    (if_next (is_word Align) align_item (bits >>= λ width. item_by fuel width))

-- items in their braces
abbrev pub in_braces : ℕ → Reads Item → Reads (List Item)
in_braces turns item = braces (many turns (is_other CloseBrace) item [])

abbrev pub span : ℕ → Reads Item → Reads Item
span fuel inner =
    here >>= λ token.
    keyword Span >>= λ _.
    whole_prim fuel >>= λ key. whole fuel >>= λ value. in_braces fuel inner >>= λ inside. give (items.Span token key value inside)

-- a count above the tokens that are left is enough
abbrev pub item : ℕ → (ℕ → Reads Block) → Reads Item
item zero block = stop
item (suc fuel) block = if_next (is_word Span) (span fuel (item fuel block)) (flat_item (suc fuel) (block (suc fuel)))

-- ---- sections and units

abbrev pub section : ℕ → (ℕ → Reads Block) → Reads Section
section fuel block =
    here >>= λ token.
    keyword SectionWord >>= λ _.
    text >>= λ name. in_braces fuel (item fuel block) >>= λ inside. give record { token = token; name = name; items = inside }

abbrev pub top_level : ℕ → (ℕ → Reads Block) → Reads TopLevel
top_level fuel block =
    if_next (is_word SectionWord) (section fuel block >>= λ s. give (tops.Section s))
    (if_next is_any_name ((ident >>= λ name. procedure fuel (block fuel) name) >>= λ p. give (tops.Proc p))
    (decl fuel >>= λ d. give (tops.Decl d)))

abbrev pub any_token : Lexeme → Bool
any_token x = true

-- the parts of a unit, up to its end
abbrev pub parts : ℕ → (ℕ → Reads Block) → Reads (List TopLevel)
parts fuel block = many fuel any_token (top_level fuel block) []
