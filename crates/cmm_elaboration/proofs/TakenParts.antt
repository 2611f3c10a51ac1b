-- Each procedure of units that derive some tokens takes some of them, and so does each part of its body.
use Rattle.std.proofs.Common.{◌≡◌, ℕ, ◌+◌, ap, ◌∙◌, subst, List, [], ◌∷◌, Some, None, ◌⊎◌, inl, inr}
use Rattle.std.specs.Prelude.{flat_map, All}
use Rattle.std.proofs.lemmas.List.Elements.{All-nil, All-cons, All-append, All-head, All-tail}
use Rattle.cmm_lexer.specs.declared.piece.Lexeme.{Lexeme}
use Rattle.cmm_lexer.specs.declared.keyword.Keyword.TheVariants.{Else, If, Section as SectionWord, Span as SpanWord, Switch}
use Rattle.cmm_ast.specs.declared.procedure.Local.{Local}
use Rattle.cmm_ast.specs.declared.procedure.Proc.{Proc as ProcTree}
use Rattle.cmm_ast.specs.declared.statement.Block.{Row_of-Part, end_of-Part, more_of-Part}
use Rattle.cmm_ast.specs.declared.statement.Otherwise.{Otherwise, more_of-Stmt}
use Rattle.cmm_ast.specs.declared.statement.Otherwise.TheVariants.{Nothing as NoElse, Else', ElseIf'}
use Rattle.cmm_ast.specs.declared.statement.Otherwise.TheBlock as OtherwiseForms
use Rattle.cmm_ast.specs.declared.statement.Part.{Part}
use Rattle.cmm_ast.specs.declared.statement.Part.TheVariants as parts
use Rattle.cmm_ast.specs.declared.statement.StmtForm.{StmtForm, Row_of-Arm, end_of-Arm, more_of-Arm}
use Rattle.cmm_ast.specs.declared.statement.StmtForm.TheVariants as stmts
use Rattle.cmm_ast.specs.declared.unit.Item.{Item, Row_of-Item, end_of-Item, more_of-Item}
use Rattle.cmm_ast.specs.declared.unit.Item.TheVariants as items
use Rattle.cmm_ast.specs.declared.unit.TopLevel.{TopLevel}
use Rattle.cmm_ast.specs.declared.unit.TopLevel.TheVariants as tops
use Rattle.cmm_ast.specs.declared.unit.Unit.{Unit as UnitTree}
use Rattle.cmm_grammar.specs.Derivation.{Derives, at_start}
use Rattle.cmm_grammar.specs.Taking.{Reading, ◌⨾◌, keyword, here, opening, enclosed, round, braces, optional, many, may_list}
use Rattle.cmm_grammar.specs.ExpressionGrammar.{ident, text, whole, whole_prim}
use Rattle.cmm_grammar.specs.StatementGrammar.{formal, case, switch_span, local_form, stmt_form, otherwise_, chained, part_row, part_, arm_row, block, proc}
use Rattle.cmm_grammar.specs.UnitGrammar.{item, item_row, top_level}
use Rattle.cmm_static_semantics.specs.Items.{SpanTree, Within, within, item_within, items_within, top_items, items_of, parts_inside, parts_otherwise, part_within, parts_row, parts_of_arms, parts_in}
use Rattle.cmm_static_semantics.specs.Declarations.{NamedUnit, units_from, procs_in, labels_in, sum_of}
use Rattle.cmm_elaboration.specs.Laws.{AreDerived}
use Rattle.cmm_elaboration.proofs.Derived.{Taken, middle, front, back, closed, inside_braces, block_is}
use Rattle.cmm_static_semantics.proofs.Shared.{hidden_parts}
use Rattle.cmm_elaboration.proofs.Steady.{here_is}

-- ---- parts of a body

-- a statement takes what stands between its ends, at the front of a list or behind an `else`
pub record IsTaken (first past : ℕ) (form : StmtForm) : Type 0 where
  pub from : Reading
  pub to : Reading
  pub is : (stmt_form form from ≡ Some to) ⊎ (chained form from ≡ Some to)
  pub first_is : first ≡ from.taken
  pub past_is : past ≡ to.taken

pub record IsDeclared (l : Local) : Type 0 where
  pub from : Reading
  pub to : Reading
  pub is : local_form l.form from ≡ Some to
  pub first_is : l.token ≡ from.taken
  pub past_is : l.past ≡ to.taken

abbrev pub PartTaken : Part → Type 0
PartTaken (parts.Local l) = IsDeclared l
PartTaken (parts.Stmt' first past form) = IsTaken first past form

abbrev Own : Within Part → Type 0
Own p = PartTaken p.what

abbrev AllTaken : List (Within Part) → Type 0
AllTaken ps = All Own ps

statement_taken : (first past : ℕ) (form : StmtForm) → Taken (here first ⨾ stmt_form form ⨾ here past) → IsTaken first past form
statement_taken first past form t =
    let a = middle (here first t.from) (stmt_form form ⨾ here past) t.to t.is in let b = middle (stmt_form form a.at_) (here past) t.to a.next in
    let start = here_is first t.from a.at_ a.first in
    record { from = a.at_; to = b.at_; is = inl b.first; first_is = start.0 ∙ ap (λ m. m.taken) start.1; past_is = (here_is past b.at_ t.to b.next).0 }

behind_else : (first past : ℕ) (form : StmtForm) → Taken (here first ⨾ chained form ⨾ here past) → IsTaken first past form
behind_else first past form t =
    let a = middle (here first t.from) (chained form ⨾ here past) t.to t.is in let b = middle (chained form a.at_) (here past) t.to a.next in
    let start = here_is first t.from a.at_ a.first in
    record { from = a.at_; to = b.at_; is = inr b.first; first_is = start.0 ∙ ap (λ m. m.taken) start.1; past_is = (here_is past b.at_ t.to b.next).0 }

local_taken : (l : Local) → Taken (here l.token ⨾ local_form l.form ⨾ here l.past) → IsDeclared l
local_taken l t =
    let a = middle (here l.token t.from) (local_form l.form ⨾ here l.past) t.to t.is in let b = middle (local_form l.form a.at_) (here l.past) t.to a.next in
    let start = here_is l.token t.from a.at_ a.first in
    record { from = a.at_; to = b.at_; is = b.first; first_is = start.0 ∙ ap (λ m. m.taken) start.1; past_is = (here_is l.past b.at_ t.to b.next).0 }

mutual
  inside_taken : (spans : List SpanTree) (form : StmtForm) → Taken (stmt_form form) → AllTaken (parts_inside spans form)
  inside_taken spans (stmts.If' condition _ body otherwise) t =
      let rest = back (whole condition) (braces (part_row body) ⨾ otherwise_ otherwise) (back (keyword If) (whole condition ⨾ braces (part_row body) ⨾ otherwise_ otherwise) t) in
      All-append Own (parts_row spans body) (parts_otherwise spans otherwise)
      (row_taken spans _ body (inside_braces (part_row body) (front (braces (part_row body)) (otherwise_ otherwise) rest)))
      (otherwise_taken spans otherwise (back (braces (part_row body)) (otherwise_ otherwise) rest))
  inside_taken spans (stmts.Switch' over value _ arms) t =
      arms_taken spans _ arms (inside_braces (arm_row arms) (back (whole value) (braces (arm_row arms)) (back (optional switch_span over) (whole value ⨾ braces (arm_row arms))
      (back (keyword Switch) (optional switch_span over ⨾ whole value ⨾ braces (arm_row arms)) t))))
  inside_taken spans (stmts.Span' key value _ body) t =
      row_taken (record { key = key; value = value } ∷ spans) _ body (inside_braces (part_row body) (back (whole value) (braces (part_row body))
      (back (whole_prim key) (whole value ⨾ braces (part_row body)) (back (keyword SpanWord) (whole_prim key ⨾ whole value ⨾ braces (part_row body)) t))))
  inside_taken spans form t = All-nil Own

  chained_taken : (spans : List SpanTree) (form : StmtForm) → Taken (chained form) → AllTaken (parts_inside spans form)
  chained_taken spans (stmts.If' condition _ body otherwise) t =
      let rest = back (whole condition) (braces (part_row body) ⨾ otherwise_ otherwise) (back (opening (keyword If)) (whole condition ⨾ braces (part_row body) ⨾ otherwise_ otherwise) t) in
      All-append Own (parts_row spans body) (parts_otherwise spans otherwise)
      (row_taken spans _ body (inside_braces (part_row body) (front (braces (part_row body)) (otherwise_ otherwise) rest)))
      (otherwise_taken spans otherwise (back (braces (part_row body)) (otherwise_ otherwise) rest))
  chained_taken spans form t = let bad : None ≡ Some t.to = t.is in cc

  otherwise_taken : (spans : List SpanTree) (o : Otherwise) → Taken (otherwise_ o) → AllTaken (parts_otherwise spans o)
  otherwise_taken spans NoElse t = All-nil Own
  otherwise_taken spans (Else' _ body) t = row_taken spans _ body (inside_braces (part_row body) (back (keyword Else) (braces (part_row body)) t))
  otherwise_taken spans (ElseIf' _ (more_of-Stmt first past form rest)) t =
      let inner = closed (here first ⨾ chained form ⨾ here past) (back (keyword Else) (enclosed (here first ⨾ chained form ⨾ here past)) t) in
      All-cons Own (within spans (parts.Stmt' first past form)) (parts_inside spans form) (behind_else first past form inner)
      (chained_taken spans form (front (chained form) (here past) (back (here first) (chained form ⨾ here past) inner)))

  one_taken : (spans : List SpanTree) (p : Part) → Taken (part_ p) → AllTaken (part_within spans p)
  one_taken spans (parts.Local l) t = All-cons Own (within spans (parts.Local l)) [] (local_taken l t) (All-nil Own)
  one_taken spans (parts.Stmt' first past form) t =
      All-cons Own (within spans (parts.Stmt' first past form)) (parts_inside spans form) (statement_taken first past form t)
      (inside_taken spans form (front (stmt_form form) (here past) (back (here first) (stmt_form form ⨾ here past) t)))

  row_taken : (spans : List SpanTree) (n : _) (row : Row_of-Part n) → Taken (part_row row) → AllTaken (parts_row spans row)
  row_taken spans n end_of-Part t = All-nil Own
  row_taken spans n (more_of-Part {n = m} p rest) t =
      All-append Own (part_within spans p) (parts_row spans rest) (one_taken spans p (front (part_ p) (part_row rest) t)) (row_taken spans m rest (back (part_ p) (part_row rest) t))

  arms_taken : (spans : List SpanTree) (n : _) (row : Row_of-Arm n) → Taken (arm_row row) → AllTaken (parts_of_arms spans row)
  arms_taken spans n end_of-Arm t = All-nil Own
  arms_taken spans n (more_of-Arm {n = m} first what _ body rest) t =
      let b = back (case what) (braces (part_row body) ⨾ arm_row rest) (back (here first) (case what ⨾ braces (part_row body) ⨾ arm_row rest) t) in
      All-append Own (parts_row spans body) (parts_of_arms spans rest) (row_taken spans _ body (inside_braces (part_row body) (front (braces (part_row body)) (arm_row rest) b)))
      (arms_taken spans m rest (back (braces (part_row body)) (arm_row rest) b))

list_taken : (ps : List Part) → Taken (block (record { parts = ps })) → AllTaken (flat_map (part_within []) ps)
list_taken ps t =
    subst AllTaken (hidden_parts [] ps)
    (row_taken [] _ (OtherwiseForms.hidden-the_row-Part-0 ps) (inside_braces (part_row (OtherwiseForms.hidden-the_row-Part-0 ps)) (subst Taken (block_is ps) t)))

pub body_taken : (p : ProcTree) → Taken (proc p) → All (λ x. PartTaken x.what) (parts_in [] p.body)
body_taken p t =
    list_taken p.body.parts (front (block p.body) (here p.past) (back (round (may_list formal p.formals)) (block p.body ⨾ here p.past)
    (back (ident p.name) (round (may_list formal p.formals) ⨾ block p.body ⨾ here p.past) t)))

-- ---- procedures of units

abbrev pub ItemTaken : Item → Type 0
ItemTaken (items.Proc p) = Taken (proc p)
ItemTaken _ = Unit {0}

abbrev OwnItem : Within Item → Type 0
OwnItem i = ItemTaken i.what

abbrev ItemsTaken : List (Within Item) → Type 0
ItemsTaken is = All OwnItem is

mutual
  item_taken : (spans : List SpanTree) (i : Item) → Taken (item i) → ItemsTaken (item_within spans i)
  item_taken spans (items.Decl d) t = All-cons OwnItem (within spans (items.Decl d)) [] tt (All-nil OwnItem)
  item_taken spans (items.Proc p) t = All-cons OwnItem (within spans (items.Proc p)) [] t (All-nil OwnItem)
  item_taken spans (items.Datum d) t = All-cons OwnItem (within spans (items.Datum d)) [] tt (All-nil OwnItem)
  item_taken spans (items.Span' first key value size inside) t =
      All-cons OwnItem (within spans (items.Span' first key value size inside)) (items_within (record { key = key; value = value } ∷ spans) inside) tt
      (items_taken (record { key = key; value = value } ∷ spans) _ inside (inside_braces (item_row inside) (back (whole value) (braces (item_row inside))
      (back (whole_prim key) (whole value ⨾ braces (item_row inside)) (back (keyword SpanWord) (whole_prim key ⨾ whole value ⨾ braces (item_row inside))
      (back (here first) (keyword SpanWord ⨾ whole_prim key ⨾ whole value ⨾ braces (item_row inside)) t))))))

  items_taken : (spans : List SpanTree) (n : _) (row : Row_of-Item n) → Taken (item_row row) → ItemsTaken (items_within spans row)
  items_taken spans n end_of-Item t = All-nil OwnItem
  items_taken spans n (more_of-Item {n = m} i rest) t =
      All-append OwnItem (item_within spans i) (items_within spans rest) (item_taken spans i (front (item i) (item_row rest) t)) (items_taken spans m rest (back (item i) (item_row rest) t))

section_taken : (is : List Item) → Taken (many item is) → ItemsTaken (flat_map (item_within []) is)
section_taken [] t = All-nil OwnItem
section_taken (i ∷ is) t = All-append OwnItem (item_within [] i) (flat_map (item_within []) is) (item_taken [] i (front (item i) (many item is) t)) (section_taken is (back (item i) (many item is) t))

top_taken : (x : TopLevel) → Taken (top_level x) → ItemsTaken (top_items x)
top_taken (tops.Section s) t =
    section_taken s.items (inside_braces (many item s.items) (back (text s.name) (braces (many item s.items))
    (back (keyword SectionWord) (text s.name ⨾ braces (many item s.items)) (back (here s.token) (keyword SectionWord ⨾ text s.name ⨾ braces (many item s.items)) t))))
top_taken (tops.Decl d) t = All-cons OwnItem (within [] (items.Decl d)) [] tt (All-nil OwnItem)
top_taken (tops.Proc p) t = All-cons OwnItem (within [] (items.Proc p)) [] t (All-nil OwnItem)

tops_taken : (ts : List TopLevel) → Taken (many top_level ts) → ItemsTaken (flat_map top_items ts)
tops_taken [] t = All-nil OwnItem
tops_taken (x ∷ ts) t =
    All-append OwnItem (top_items x) (flat_map top_items ts) (top_taken x (front (top_level x) (many top_level ts) t)) (tops_taken ts (back (top_level x) (many top_level ts) t))

unit_taken : (u : UnitTree) (tokens : List Lexeme) → Derives tokens u → ItemsTaken (items_of u)
unit_taken u tokens d = tops_taken u.parts (record { from = at_start tokens; to = d.after; is = d.takes })

abbrev UnitTaken : NamedUnit → Type 0
UnitTaken u = All (λ i. ItemTaken i.what) u.items

pub units_taken : (procs labels : ℕ) (us : List UnitTree) → AreDerived us → All (λ u. All (λ i. ItemTaken i.what) u.items) (units_from procs labels us)
units_taken procs labels [] derived = All-nil UnitTaken
units_taken procs labels (u ∷ us) derived = let d = All-head (λ v. (tokens : List Lexeme) × Derives tokens v) u us derived in
    All-cons UnitTaken _ (units_from (procs + sum_of procs_in (items_of u)) (labels + sum_of labels_in (items_of u)) us) (unit_taken u d.0 d.1)
    (units_taken (procs + sum_of procs_in (items_of u)) (labels + sum_of labels_in (items_of u)) us (All-tail (λ v. (tokens : List Lexeme) × Derives tokens v) u us derived))
