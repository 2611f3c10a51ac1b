-- What declarations, data and units take, in terms of the parts that a tree is made of.
use Rattle.std.proofs.Common.{◌≡◌, ℕ, List, Option, Some, None, refl, sym, ap, ◌∙◌}
use Rattle.cmm_ast.specs.declared.token.Ident.{Ident}
use Rattle.cmm_ast.specs.declared.expression.TypeName.{TypeName}
use Rattle.cmm_ast.specs.declared.declaration.Import.{Import}
use Rattle.cmm_ast.specs.declared.declaration.Export.{Export}
use Rattle.cmm_ast.specs.declared.declaration.Property.{Property}
use Rattle.cmm_grammar.specs.Taking.{Takes, ◌⨾◌, nothing, here as here_is, keyword as keyword_is, optional as optional_is, listed as listed_is, token, square as square_is, braces as braces_is, many as many_is}
use Rattle.cmm_grammar.specs.ExpressionGrammar as grammar
use Rattle.cmm_grammar.specs.UnitGrammar as units
use Rattle.cmm_grammar.specs.DeclarationReading.{Head, TypeFirst, NameFirst, Neither}
use Rattle.cmm_lexer.specs.declared.keyword.Keyword.TheVariants.{Span}
use Rattle.cmm_ast.specs.declared.expression.Expr.{Expr}
use Rattle.cmm_ast.specs.declared.unit.Item.{Item, Row_of-Item, end_of-Item, more_of-Item, items-the_row-Item, items_hidden-the_row-Item-0}
use Rattle.cmm_ast.specs.declared.unit.Item.TheVariants as items
use Rattle.cmm_ast.specs.declared.unit.Item.TheBlock as Items
use Rattle.cmm_ast.specs.declared.expression.Primary.{Primary}
use Rattle.cmm_grammar.specs.UnitReading.{count_of}
use Rattle.cmm_grammar.proofs.Takings.{takes_assoc}

-- ---- declarations

-- what a declaration takes to its first name
abbrev pub head_is : Head → Takes
head_is (TypeFirst width) = grammar.type_name width
head_is (NameFirst name) = grammar.ident name
head_is Neither = nothing

abbrev pub imports_is : Option TypeName × List Import → Takes
imports_is found = optional_is grammar.type_name found.0 ⨾ listed_is units.import_name found.1

abbrev pub exports_is : Option TypeName × List Export → Takes
exports_is found = optional_is grammar.type_name found.0 ⨾ listed_is units.export_name found.1

abbrev pub typed_name_is : Option TypeName × Ident → Takes
typed_name_is found = optional_is grammar.type_name found.0 ⨾ grammar.ident found.1

abbrev pub property_is : Property → Takes
property_is p = here_is p.token ⨾ units.property_form p.form

-- what is listed with its type, and what goes on, after a word
pub regrouped : (word p q s : Takes) → (word ⨾ p ⨾ q ⨾ s) ≡ (word ⨾ (p ⨾ q) ⨾ s)
regrouped word p q s = ap (λ t. word ⨾ t) (sym (takes_assoc p q s))

-- ---- data

pub count_of_is : (e : Option Expr) → units.count (count_of e) ≡ square_is (optional_is grammar.whole e)
count_of_is None = refl
count_of_is (Some e) = refl

pub row_is : (n : _) (row : Row_of-Item n) → units.item_row row ≡ many_is units.item (items-the_row-Item n row)
row_is n end_of-Item = refl
row_is n (more_of-Item {n = m} i rest) = ap (λ t. units.item i ⨾ t) (row_is m rest)

pub span_is : (token : ℕ) (key : Primary) (value : Expr) (inside : List Item) →
    units.item (items.Span token key value inside)
    ≡ (here_is token ⨾ keyword_is Span ⨾ grammar.whole_prim key ⨾ grammar.whole value ⨾ braces_is (many_is units.item inside))
span_is token key value inside =
    ap (λ t. here_is token ⨾ keyword_is Span ⨾ grammar.whole_prim key ⨾ grammar.whole value ⨾ braces_is t)
    (row_is _ (Items.hidden-the_row-Item-0 inside) ∙ ap (many_is units.item) (items_hidden-the_row-Item-0 inside))
