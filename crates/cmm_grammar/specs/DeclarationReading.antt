-- How declarations are read: by the word that they begin with. Where a type may be left out, a name is one if a name or a
-- text follows it.
pub use Rattle.cmm_grammar.specs.declared.told_apart.Head.{Head}
pub use Rattle.cmm_grammar.specs.declared.told_apart.Head.TheVariants.{TypeFirst, NameFirst, Neither}
use Rattle.std.specs.Prelude.{ℕ, Bool, true, false, ◌||◌, List, [], ◌∷◌, Option, Some, None}
use Rattle.cmm_lexer.specs.declared.piece.Lexeme.{Lexeme}
use Rattle.cmm_ast.specs.declared.token.Ident.{Ident}
use Rattle.cmm_ast.specs.declared.token.Text.{Text}
use Rattle.cmm_lexer.specs.declared.keyword.Keyword.{Keyword}
use Rattle.cmm_lexer.specs.declared.keyword.Keyword.TheVariants.{As, Big, Byteorder, Const, Export as ExportWord, Import as ImportWord, Invariant, Little, Memsize, Pointersize, Register, Target, Typedef, Wordsize}
use Rattle.cmm_lexer.specs.declared.symbol.Symbol.{Symbol}
use Rattle.cmm_lexer.specs.declared.symbol.Symbol.TheVariants.{Assign, Semicolon}
use Rattle.cmm_ast.specs.declared.expression.TypeName.{TypeName}
use Rattle.cmm_ast.specs.declared.declaration.Decl.{Decl}
use Rattle.cmm_ast.specs.declared.declaration.DeclForm.{DeclForm}
use Rattle.cmm_ast.specs.declared.declaration.DeclForm.TheVariants as decls
use Rattle.cmm_ast.specs.declared.declaration.Import.{Import}
use Rattle.cmm_ast.specs.declared.declaration.Export.{Export}
use Rattle.cmm_ast.specs.declared.declaration.Property.{Property}
use Rattle.cmm_ast.specs.declared.declaration.PropertyForm.{PropertyForm}
use Rattle.cmm_ast.specs.declared.declaration.PropertyForm.TheVariants as properties
use Rattle.cmm_ast.specs.declared.declaration.ByteOrder.{ByteOrder}
use Rattle.cmm_ast.specs.declared.declaration.ByteOrder.TheVariants as orders
use Rattle.cmm_grammar.specs.Taking.{is_word, is_sign}
use Rattle.cmm_grammar.specs.Reading.{Reads, ◌>>=◌, give, if_next, here, skip, keyword, symbol, ident, text, int, optional, many, more_listed, listed}
use Rattle.cmm_grammar.specs.ExpressionReading.{type_name, named_type, whole}
use Rattle.cmm_grammar.specs.PartReading.{is_any_name, is_any_text, is_width}

-- ---- by the next token

-- not the token that ends a row
abbrev pub is_other : Symbol → Lexeme → Bool
is_other end x = elim (is_sign end x) [ true ↦ false | false ↦ true ]

-- what follows this word, where it is next
abbrev pub if_word : {A : Type 0} → Keyword → Reads A → Reads A → Reads A
if_word word holds fails = if_next (is_word word) (skip >>= λ _. holds) fails

abbrev pub if_symbol : {A : Type 0} → Symbol → Reads A → Reads A → Reads A
if_symbol sign holds fails = if_next (is_sign sign) (skip >>= λ _. holds) fails

abbrev pub optional_text : Reads (Option Text)
optional_text = optional is_any_text text

-- ---- types

-- a type that is one of the words for bits, where such a word is next
abbrev pub bits : Reads (Option TypeName)
bits = optional is_width type_name

abbrev pub begins_name : Lexeme → Bool
begins_name x = is_any_name x || is_any_text x

abbrev pub name_head : Reads Head
name_head = ident >>= λ name. if_next begins_name (give (TypeFirst (named_type name))) (give (NameFirst name))

abbrev pub head_by : Option TypeName → Reads Head
head_by (Some width) = give (TypeFirst width)
head_by None = if_next is_any_name name_head (give Neither)

abbrev pub head : Reads Head
head = bits >>= head_by

-- ---- what declarations list

abbrev pub names : ℕ → Reads (List Ident)
names turns = listed turns is_any_name ident

-- the name under which another unit exports it, before `as`
abbrev pub text_as : Reads Text
text_as = text >>= λ t. keyword As >>= λ _. give t

abbrev pub import_name : Reads Import
import_name = optional is_any_text text_as >>= λ link. ident >>= λ name. give record { link = link; name = name }

abbrev pub import_of : Ident → Import
import_of name = record { link = None; name = name }

-- the name under which it is published, after `as`
abbrev pub as_text : Reads Text
as_text = keyword As >>= λ _. text

-- an export after its name
abbrev pub export_of : Ident → Reads Export
export_of name = optional (is_word As) as_text >>= λ link. give record { name = name; link = link }

abbrev pub export_name : Reads Export
export_name = ident >>= λ name. export_of name

-- a type that may be left out, and a list
abbrev pub imports_by : ℕ → Head → Reads (Option TypeName × List Import)
imports_by turns (TypeFirst width) = listed turns begins_name import_name >>= λ imports. give (Some width, imports)
imports_by turns (NameFirst name) = more_listed turns begins_name import_name (import_of name ∷ []) >>= λ imports. give (None, imports)
imports_by turns Neither = listed turns begins_name import_name >>= λ imports. give (None, imports)

abbrev pub exports_by : ℕ → Head → Reads (Option TypeName × List Export)
exports_by turns (TypeFirst width) = listed turns is_any_name export_name >>= λ exports. give (Some width, exports)
exports_by turns (NameFirst name) =
    (export_of name >>= λ e. more_listed turns is_any_name export_name (e ∷ [])) >>= λ exports. give (None, exports)
exports_by turns Neither = listed turns is_any_name export_name >>= λ exports. give (None, exports)

abbrev pub typed_name_by : Head → Reads (Option TypeName × Ident)
typed_name_by (TypeFirst width) = ident >>= λ name. give (Some width, name)
typed_name_by (NameFirst name) = give (None, name)
typed_name_by Neither = ident >>= λ name. give (None, name)

-- ---- properties of the target

abbrev pub byte_order : Reads ByteOrder
byte_order = if_word Little (give orders.Little) (keyword Big >>= λ _. give orders.Big)

abbrev pub property_form : Reads PropertyForm
property_form =
    if_word Memsize (int >>= λ bits. give (properties.Memsize bits))
    (if_word Byteorder (byte_order >>= λ order. give (properties.Byteorder order))
    (if_word Pointersize (int >>= λ bits. give (properties.Pointersize bits))
    (keyword Wordsize >>= λ _. int >>= λ bits. give (properties.Wordsize bits))))

abbrev pub property : Reads Property
property = here >>= λ token. property_form >>= λ form. give record { token = token; form = form }

-- ---- declarations, after their word

abbrev pub imports : ℕ → Reads DeclForm
imports turns = (head >>= imports_by turns) >>= λ found. symbol Semicolon >>= λ _. give (decls.Import found.0 found.1)

abbrev pub exports : ℕ → Reads DeclForm
exports turns = (head >>= exports_by turns) >>= λ found. symbol Semicolon >>= λ _. give (decls.Export found.0 found.1)

abbrev pub constant : ℕ → Reads DeclForm
constant fuel =
    (head >>= typed_name_by) >>= λ found.
    symbol Assign >>= λ _. whole fuel >>= λ value. symbol Semicolon >>= λ _. give (decls.Const found.0 found.1 value)

abbrev pub typedef : ℕ → Reads DeclForm
typedef turns = type_name >>= λ width. names turns >>= λ named. symbol Semicolon >>= λ _. give (decls.Typedef width named)

abbrev pub target : ℕ → Reads DeclForm
target turns = many turns (is_other Semicolon) property [] >>= λ found. symbol Semicolon >>= λ _. give (decls.Target found)

-- whole, since the word isn't the first
abbrev pub is_invariant : Reads Bool
is_invariant = if_word Invariant (give true) (give false)

abbrev pub register : ℕ → Reads DeclForm
register turns =
    is_invariant >>= λ invariant.
    keyword Register >>= λ _.
    optional_text >>= λ kind.
    type_name >>= λ width. names turns >>= λ named. symbol Semicolon >>= λ _. give (decls.Register invariant kind width named)

-- ---- whole declarations

abbrev pub decl_form : ℕ → Reads DeclForm
decl_form fuel =
    if_word ImportWord (imports fuel)
    (if_word ExportWord (exports fuel)
    (if_word Const (constant fuel)
    (if_word Typedef (typedef fuel)
    (if_word Target (target fuel)
    (register fuel)))))

abbrev pub decl : ℕ → Reads Decl
decl fuel = here >>= λ token. decl_form fuel >>= λ form. give record { token = token; form = form }
