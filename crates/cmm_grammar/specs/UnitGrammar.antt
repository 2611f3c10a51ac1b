-- The grammar of declarations, of sections and of units (C-- Language Specification 2.0, syntax): a line for each
-- alternative.
use Rattle.std.specs.Prelude.{Bool, true, false}
use Rattle.cmm_lexer.specs.declared.keyword.Keyword.TheVariants.{Align, As, Big, Byteorder, Const, Export as ExportWord, Import as ImportWord, Invariant, Little, Memsize, Pointersize, Register, Section as SectionWord, Span, Target, Typedef, Wordsize}
use Rattle.cmm_lexer.specs.declared.symbol.Symbol.TheVariants.{Assign, Colon, Semicolon}
use Rattle.cmm_ast.specs.declared.declaration.Decl.{Decl}
use Rattle.cmm_ast.specs.declared.declaration.DeclForm.{DeclForm}
use Rattle.cmm_ast.specs.declared.declaration.DeclForm.TheVariants as decls
use Rattle.cmm_ast.specs.declared.declaration.Import.{Import}
use Rattle.cmm_ast.specs.declared.declaration.Export.{Export}
use Rattle.cmm_ast.specs.declared.declaration.PropertyForm.{PropertyForm}
use Rattle.cmm_ast.specs.declared.declaration.PropertyForm.TheVariants as properties
use Rattle.cmm_ast.specs.declared.declaration.ByteOrder.{ByteOrder}
use Rattle.cmm_ast.specs.declared.declaration.ByteOrder.TheVariants as orders
use Rattle.cmm_ast.specs.declared.unit.Unit.{Unit as UnitTree}
use Rattle.cmm_ast.specs.declared.unit.TopLevel.{TopLevel}
use Rattle.cmm_ast.specs.declared.unit.TopLevel.TheVariants as tops
use Rattle.cmm_ast.specs.declared.unit.Section.{Section}
use Rattle.cmm_ast.specs.declared.unit.Item.{Item, Row_of-Item, end_of-Item, more_of-Item}
use Rattle.cmm_ast.specs.declared.unit.Item.TheVariants as items
use Rattle.cmm_ast.specs.declared.unit.DatumForm.{DatumForm}
use Rattle.cmm_ast.specs.declared.unit.DatumForm.TheVariants as data_forms
use Rattle.cmm_ast.specs.declared.unit.Count.{Count}
use Rattle.cmm_ast.specs.declared.unit.Count.TheVariants as counts
use Rattle.cmm_ast.specs.declared.unit.Initial.{Initial}
use Rattle.cmm_ast.specs.declared.unit.Initial.TheVariants as initials
use Rattle.cmm_grammar.specs.Taking.{Takes, ◌⨾◌, keyword, symbol, here, nothing, square, braces, optional, many, listed}
use Rattle.cmm_grammar.specs.ExpressionGrammar.{ident, text, int, type_name, whole, whole_prim}
use Rattle.cmm_grammar.specs.StatementGrammar.{proc}

-- ---- declarations

abbrev pub import_name : Import → Takes
import_name i = optional (λ t. text t ⨾ keyword As) i.link ⨾ ident i.name

abbrev pub export_name : Export → Takes
export_name e = ident e.name ⨾ optional (λ t. keyword As ⨾ text t) e.link

abbrev pub byte_order : ByteOrder → Takes
byte_order orders.Little = keyword Little
byte_order orders.Big = keyword Big

abbrev pub property_form : PropertyForm → Takes
property_form (properties.Memsize bits) = keyword Memsize ⨾ int bits
property_form (properties.Byteorder order) = keyword Byteorder ⨾ byte_order order
property_form (properties.Pointersize bits) = keyword Pointersize ⨾ int bits
property_form (properties.Wordsize bits) = keyword Wordsize ⨾ int bits

abbrev pub if_invariant : Bool → Takes
if_invariant invariant = elim invariant [ true ↦ keyword Invariant | false ↦ nothing ]

abbrev pub decl_form : DeclForm → Takes
decl_form (decls.Import width imports) = keyword ImportWord ⨾ optional type_name width ⨾ listed import_name imports ⨾ symbol Semicolon
decl_form (decls.Export width exports) = keyword ExportWord ⨾ optional type_name width ⨾ listed export_name exports ⨾ symbol Semicolon
decl_form (decls.Const width name value) = keyword Const ⨾ optional type_name width ⨾ ident name ⨾ symbol Assign ⨾ whole value ⨾ symbol Semicolon
decl_form (decls.Typedef width names) = keyword Typedef ⨾ type_name width ⨾ listed ident names ⨾ symbol Semicolon
decl_form (decls.Register invariant kind width names) =
    if_invariant invariant ⨾ keyword Register ⨾ optional text kind ⨾ type_name width ⨾ listed ident names ⨾ symbol Semicolon
decl_form (decls.Target properties) = keyword Target ⨾ many (λ p. here p.token ⨾ property_form p.form) properties ⨾ symbol Semicolon

abbrev pub decl : Decl → Takes
decl d = here d.token ⨾ decl_form d.form

-- ---- data

abbrev pub count : Count → Takes
count counts.One = nothing
count counts.OfInitial = square nothing
count (counts.Of e) = square (whole e)

abbrev pub initial : Initial → Takes
initial initials.Zeros = nothing
initial (initials.Values values) = braces (listed whole values)
initial (initials.Text t) = text t

abbrev pub datum_form : DatumForm → Takes
datum_form (data_forms.Label name) = ident name ⨾ symbol Colon
datum_form (data_forms.Align bytes) = keyword Align ⨾ int bytes ⨾ symbol Semicolon
datum_form (data_forms.Data width many_ first) = type_name width ⨾ count many_ ⨾ initial first ⨾ symbol Semicolon

-- ---- sections and units

abbrev mutual
  pub item : Item → Takes
  item (items.Decl d) = decl d
  item (items.Proc p) = proc p
  item (items.Datum d) = here d.token ⨾ datum_form d.form
  item (items.Span' first key value _ inside) = here first ⨾ keyword Span ⨾ whole_prim key ⨾ whole value ⨾ braces (item_row inside)

  pub item_row : {n : _} → Row_of-Item n → Takes
  item_row end_of-Item = nothing
  item_row (more_of-Item i rest) = item i ⨾ item_row rest

abbrev pub section : Section → Takes
section s = here s.token ⨾ keyword SectionWord ⨾ text s.name ⨾ braces (many item s.items)

abbrev pub top_level : TopLevel → Takes
top_level (tops.Section s) = section s
top_level (tops.Decl d) = decl d
top_level (tops.Proc p) = proc p

abbrev pub unit : UnitTree → Takes
unit u = many top_level u.parts
