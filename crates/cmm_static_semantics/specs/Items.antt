-- What stands in a unit and in a body, whatever it is nested in, in textual order, each with the spans around it.
use Rattle.std.specs.Prelude.{List, [], ◌∷◌, ◌++◌, map, flat_map}
use Rattle.cmm_ast.specs.declared.expression.Expr.{Expr}
use Rattle.cmm_ast.specs.declared.expression.Primary.{Primary}
use Rattle.cmm_ast.specs.declared.unit.Unit.{Unit as UnitTree}
use Rattle.cmm_ast.specs.declared.unit.TopLevel.{TopLevel}
use Rattle.cmm_ast.specs.declared.unit.TopLevel.TheVariants as tops
use Rattle.cmm_ast.specs.declared.unit.Item.{Item, Row_of-Item, end_of-Item, more_of-Item}
use Rattle.cmm_ast.specs.declared.unit.Item.TheVariants as items
use Rattle.cmm_ast.specs.declared.statement.Part.{Part}
use Rattle.cmm_ast.specs.declared.statement.Part.TheVariants as parts
use Rattle.cmm_ast.specs.declared.statement.Block.{Block, Row_of-Part, end_of-Part, more_of-Part}
use Rattle.cmm_ast.specs.declared.statement.StmtForm.{StmtForm, Row_of-Arm, end_of-Arm, more_of-Arm}
use Rattle.cmm_ast.specs.declared.statement.StmtForm.TheVariants as stmts
use Rattle.cmm_ast.specs.declared.statement.Otherwise.{Otherwise, more_of-Stmt}
use Rattle.cmm_ast.specs.declared.statement.Otherwise.TheVariants.{Nothing as NoElse, Else', ElseIf'}

-- a span's token and value
pub record SpanTree : Type 0 where
  pub key : Primary
  pub value : Expr

-- something, with the spans around it, the innermost first
pub record Within (A : Type 0) : Type 0 where
  pub spans : List SpanTree
  pub what : A

abbrev pub within : {A : Type 0} → List SpanTree → A → Within A
within spans what = record { spans = spans; what = what }

-- ---- of a unit: declarations, procedures, data and spans, a span before what stands inside it

abbrev mutual
  pub item_within : List SpanTree → Item → List (Within Item)
  item_within spans (items.Span' first key value size inside) =
      within spans (items.Span' first key value size inside) ∷ items_within (record { key = key; value = value } ∷ spans) inside
  item_within spans i = within spans i ∷ []

  pub items_within : {n : _} → List SpanTree → Row_of-Item n → List (Within Item)
  items_within spans end_of-Item = []
  items_within spans (more_of-Item i rest) = item_within spans i ++ items_within spans rest

abbrev pub top_items : TopLevel → List (Within Item)
top_items (tops.Section s) = flat_map (item_within []) s.items
top_items (tops.Decl d) = within [] (items.Decl d) ∷ []
top_items (tops.Proc p) = within [] (items.Proc p) ∷ []

abbrev pub items_of : UnitTree → List (Within Item)
items_of u = flat_map top_items u.parts

-- ---- of a body: declarations and statements, a statement before those inside it

abbrev mutual
  pub parts_inside : List SpanTree → StmtForm → List (Within Part)
  parts_inside spans (stmts.If' condition _ body otherwise) = parts_row spans body ++ parts_otherwise spans otherwise
  parts_inside spans (stmts.Switch' range value _ arms) = parts_of_arms spans arms
  parts_inside spans (stmts.Span' key value _ body) = parts_row (record { key = key; value = value } ∷ spans) body
  parts_inside spans _ = []

  pub parts_otherwise : List SpanTree → Otherwise → List (Within Part)
  parts_otherwise spans NoElse = []
  parts_otherwise spans (Else' _ body) = parts_row spans body
  parts_otherwise spans (ElseIf' _ (more_of-Stmt first past form rest)) = within spans (parts.Stmt' first past form) ∷ parts_inside spans form

  pub part_within : List SpanTree → Part → List (Within Part)
  part_within spans (parts.Local l) = within spans (parts.Local l) ∷ []
  part_within spans (parts.Stmt' first past form) = within spans (parts.Stmt' first past form) ∷ parts_inside spans form

  pub parts_row : {n : _} → List SpanTree → Row_of-Part n → List (Within Part)
  parts_row spans end_of-Part = []
  parts_row spans (more_of-Part p rest) = part_within spans p ++ parts_row spans rest

  pub parts_of_arms : {n : _} → List SpanTree → Row_of-Arm n → List (Within Part)
  parts_of_arms spans end_of-Arm = []
  parts_of_arms spans (more_of-Arm first what _ body rest) = parts_row spans body ++ parts_of_arms spans rest

-- the parts of a body that stands in some spans
abbrev pub parts_in : List SpanTree → Block → List (Within Part)
parts_in spans b = flat_map (part_within spans) b.parts

abbrev pub parts_of : Block → List Part
parts_of b = map (λ p. p.what) (parts_in [] b)
