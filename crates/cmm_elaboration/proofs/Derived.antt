-- What the grammar requires of the statements of a unit that derives some tokens: something is assigned to, and each arm of a switch but the default has
-- a range.
use Rattle.std.proofs.Common.{◌≡◌, refl, sym, ap, ◌∙◌, subst, Bool, true, List, [], ◌∷◌, ◌++◌, Option, Some, None, arith, length}
use Rattle.std.specs.Prelude.{map, flat_map, nat_lt, ◌&&◌}
use Rattle.std.specs.List.{list_all}
use Rattle.std.proofs.lemmas.Bool.{lt-ltb, and_from}
use Rattle.std.proofs.lemmas.List.Folds.{list_all-append}
use denote.Hole.Carrier as Carrier
use Rattle.cmm_lexer.specs.declared.piece.Lexeme.{Lexeme}
use Rattle.cmm_lexer.specs.declared.keyword.Keyword.TheVariants.{Else, If, Section as SectionWord, Span as SpanWord, Switch}
use Rattle.cmm_lexer.specs.declared.keyword.Keyword.TheVariants as word
use Rattle.cmm_lexer.specs.declared.symbol.Symbol.TheVariants.{Assign, Colon, Semicolon, OpenBrace, CloseBrace}
use Rattle.cmm_ast.specs.declared.procedure.Proc.{Proc}
use Rattle.cmm_ast.specs.declared.statement.Block.{Row_of-Part, end_of-Part, more_of-Part}
use Rattle.cmm_ast.specs.declared.statement.Case.{Case}
use Rattle.cmm_ast.specs.declared.statement.Case.TheVariants.{Ranges, Default}
use Rattle.cmm_ast.specs.declared.statement.Otherwise.{Otherwise, more_of-Stmt}
use Rattle.cmm_ast.specs.declared.statement.Otherwise.TheVariants.{Nothing as NoElse, Else', ElseIf'}
use Rattle.cmm_ast.specs.declared.statement.Otherwise.TheBlock as OtherwiseForms
use Rattle.cmm_ast.specs.declared.statement.Part.{Part}
use Rattle.cmm_ast.specs.declared.statement.Part.TheVariants as parts
use Rattle.cmm_ast.specs.declared.statement.StmtForm.{StmtForm, Row_of-Arm, end_of-Arm, more_of-Arm}
use Rattle.cmm_ast.specs.declared.statement.StmtForm.TheVariants as stmts
use Rattle.cmm_ast.specs.declared.unit.Item.{Item, Row_of-Item, end_of-Item, more_of-Item}
use Rattle.cmm_ast.specs.declared.unit.Item.TheVariants as items
use Rattle.cmm_ast.specs.declared.unit.TopLevel.{TopLevel}
use Rattle.cmm_ast.specs.declared.unit.TopLevel.TheVariants as tops
use Rattle.cmm_ast.specs.declared.unit.Unit.{Unit as UnitTree}
use Rattle.cmm_grammar.specs.Derivation.{Derives, at_start}
use Rattle.cmm_grammar.specs.Taking.{Reading, Takes, ◌⨾◌, keyword, symbol, here, opening, enclosed, round, braces, optional, many, commas, listed, may_list}
use Rattle.cmm_grammar.specs.ExpressionGrammar.{ident, text, whole, whole_prim}
use Rattle.cmm_grammar.specs.StatementGrammar.{formal, lvalue, range, case, switch_span, stmt_form, otherwise_, chained, part_row, part_, arm_row, block, proc}
use Rattle.cmm_grammar.specs.UnitGrammar.{item, item_row, top_level}
use Rattle.cmm_static_semantics.specs.Items.{SpanTree, Within, item_within, items_within, top_items, items_of, parts_inside, parts_otherwise, part_within, parts_row, parts_of_arms, parts_in, parts_of}
use Rattle.cmm_static_semantics.specs.Switches.{heads}
use Rattle.cmm_static_semantics.proofs.Shared.{hidden_parts}

-- ---- what is taken has been taken part by part

pub record Taken (p : Takes) : Type 0 where
  pub from : Reading
  pub to : Reading
  pub is : p from ≡ Some to

pub record Middle (o : Option Reading) (b : Takes) (to : Reading) : Type 0 where
  pub at_ : Reading
  pub first : o ≡ Some at_
  pub next : b at_ ≡ Some to

pub middle : (o : Option Reading) (b : Takes) (to : Reading) → ◌≡◌ {A = Option Reading} (elim o [ Some after ↦ b after | None ↦ None ]) (Some to) → Middle o b to
middle (Some m) b to is = record { at_ = m; first = refl; next = is }
middle None b to is = let bad : None ≡ Some to = is in cc

pub front : (a b : Takes) → Taken (a ⨾ b) → Taken a
front a b t = let m = middle (a t.from) b t.to t.is in record { from = t.from; to = m.at_; is = m.first }

pub back : (a b : Takes) → Taken (a ⨾ b) → Taken b
back a b t = let m = middle (a t.from) b t.to t.is in record { from = m.at_; to = t.to; is = m.next }

pub closed : (p : Takes) → Taken (enclosed p) → Taken p
closed p t = let m = middle (p t.from) (λ after. Some record after { open_brackets = t.from.open_brackets }) t.to t.is in record { from = t.from; to = m.at_; is = m.first }

pub inside_braces : (p : Takes) → Taken (braces p) → Taken p
inside_braces p t =
    front p (symbol CloseBrace) (back (opening (symbol OpenBrace)) (p ⨾ symbol CloseBrace) (closed (opening (symbol OpenBrace) ⨾ p ⨾ symbol CloseBrace) t))

not_empty : {A : Type 0} (p : A → Takes) (as_ : List A) → Taken (commas p as_) → nat_lt 0 (length as_) ≡ true
not_empty p [] t = let bad : None ≡ Some t.to = t.is in cc
not_empty p (a ∷ as_) t = lt-ltb 0 (length (a ∷ as_)) (omega arith)

-- ---- statements

abbrev pub has_range : Case → Bool
has_range (Ranges rs) = nat_lt 0 (length rs)
has_range Default = true

abbrev pub has_parts : StmtForm → Bool
has_parts (stmts.Assign to values) = nat_lt 0 (length to)
has_parts (stmts.Switch' over value _ arms) = list_all (λ h. has_range h.case_) (heads arms)
has_parts _ = true

abbrev pub part_has : Part → Bool
part_has (parts.Local l) = true
part_has (parts.Stmt' first past form) = has_parts form

abbrev AllHave : List (Within Part) → Type 0
AllHave ps = list_all (λ p. part_has p.what) ps ≡ true

both_have : (xs ys : List (Within Part)) → AllHave xs → AllHave ys → AllHave (xs ++ ys)
both_have xs ys h k = list_all-append (λ p. part_has p.what) xs ys ∙ and_from (list_all (λ p. part_has p.what) xs) (list_all (λ p. part_has p.what) ys) h k

case_has : (what : Case) → Taken (case what) → has_range what ≡ true
case_has (Ranges rs) t = not_empty range rs (front (commas range rs) (symbol Colon) (back (keyword word.Case) (commas range rs ⨾ symbol Colon) t))
case_has Default t = refl

heads_have : (n : _) (row : Row_of-Arm n) → Taken (arm_row row) → list_all (λ h. has_range h.case_) (heads row) ≡ true
heads_have n end_of-Arm t = refl
heads_have n (more_of-Arm {n = m} first what _ body rest) t =
    let a = back (here first) (case what ⨾ braces (part_row body) ⨾ arm_row rest) t in
    let b = back (case what) (braces (part_row body) ⨾ arm_row rest) a in
    and_from (has_range what) _ (case_has what (front (case what) (braces (part_row body) ⨾ arm_row rest) a)) (heads_have m rest (back (braces (part_row body)) (arm_row rest) b))

mutual
  form_has : (spans : List SpanTree) (form : StmtForm) → Taken (stmt_form form) → (has_parts form ≡ true) × AllHave (parts_inside spans form)
  form_has spans (stmts.If' condition _ body otherwise) t =
      let rest = back (whole condition) (braces (part_row body) ⨾ otherwise_ otherwise) (back (keyword If) (whole condition ⨾ braces (part_row body) ⨾ otherwise_ otherwise) t) in (
        refl,
        both_have (parts_row spans body) (parts_otherwise spans otherwise)
            (row_has spans _ body (inside_braces (part_row body) (front (braces (part_row body)) (otherwise_ otherwise) rest)))
            (otherwise_has spans otherwise (back (braces (part_row body)) (otherwise_ otherwise) rest)),
      )
  form_has spans (stmts.Switch' over value _ arms) t =
      let all = inside_braces (arm_row arms) (back (whole value) (braces (arm_row arms)) (back (optional switch_span over) (whole value ⨾ braces (arm_row arms))
      (back (keyword Switch) (optional switch_span over ⨾ whole value ⨾ braces (arm_row arms)) t))) in
      (heads_have _ arms all, arms_have spans _ arms all)
  form_has spans (stmts.Span' key value _ body) t = (
    refl,
    row_has (record { key = key; value = value } ∷ spans) _ body (inside_braces (part_row body) (back (whole value) (braces (part_row body))
        (back (whole_prim key) (whole value ⨾ braces (part_row body)) (back (keyword SpanWord) (whole_prim key ⨾ whole value ⨾ braces (part_row body)) t)))),
  )
  form_has spans (stmts.Assign to values) t = (not_empty lvalue to (front (commas lvalue to) (symbol Assign ⨾ listed whole values ⨾ symbol Semicolon) t), refl)
  form_has spans form t = (refl, refl)

  -- an `if` after an `else` has no part that is asked for
  chained_has : (spans : List SpanTree) (form : StmtForm) → Taken (chained form) → (has_parts form ≡ true) × AllHave (parts_inside spans form)
  chained_has spans (stmts.If' condition _ body otherwise) t =
      let rest = back (whole condition) (braces (part_row body) ⨾ otherwise_ otherwise) (back (opening (keyword If)) (whole condition ⨾ braces (part_row body) ⨾ otherwise_ otherwise) t) in (
        refl,
        both_have (parts_row spans body) (parts_otherwise spans otherwise)
            (row_has spans _ body (inside_braces (part_row body) (front (braces (part_row body)) (otherwise_ otherwise) rest)))
            (otherwise_has spans otherwise (back (braces (part_row body)) (otherwise_ otherwise) rest)),
      )
  chained_has spans form t = let bad : None ≡ Some t.to = t.is in cc

  otherwise_has : (spans : List SpanTree) (o : Otherwise) → Taken (otherwise_ o) → AllHave (parts_otherwise spans o)
  otherwise_has spans NoElse t = refl
  otherwise_has spans (Else' _ body) t = row_has spans _ body (inside_braces (part_row body) (back (keyword Else) (braces (part_row body)) t))
  otherwise_has spans (ElseIf' _ (more_of-Stmt first past form rest)) t =
      let inner = closed (here first ⨾ chained form ⨾ here past) (back (keyword Else) (enclosed (here first ⨾ chained form ⨾ here past)) t) in
      let h = chained_has spans form (front (chained form) (here past) (back (here first) (chained form ⨾ here past) inner)) in
      and_from (has_parts form) _ h.0 h.1

  one_has : (spans : List SpanTree) (p : Part) → Taken (part_ p) → AllHave (part_within spans p)
  one_has spans (parts.Local l) t = refl
  one_has spans (parts.Stmt' first past form) t =
      let h = form_has spans form (front (stmt_form form) (here past) (back (here first) (stmt_form form ⨾ here past) t)) in and_from (has_parts form) _ h.0 h.1

  row_has : (spans : List SpanTree) (n : _) (row : Row_of-Part n) → Taken (part_row row) → AllHave (parts_row spans row)
  row_has spans n end_of-Part t = refl
  row_has spans n (more_of-Part {n = m} p rest) t =
      both_have (part_within spans p) (parts_row spans rest) (one_has spans p (front (part_ p) (part_row rest) t)) (row_has spans m rest (back (part_ p) (part_row rest) t))

  arms_have : (spans : List SpanTree) (n : _) (row : Row_of-Arm n) → Taken (arm_row row) → AllHave (parts_of_arms spans row)
  arms_have spans n end_of-Arm t = refl
  arms_have spans n (more_of-Arm {n = m} first what _ body rest) t =
      let b = back (case what) (braces (part_row body) ⨾ arm_row rest) (back (here first) (case what ⨾ braces (part_row body) ⨾ arm_row rest) t) in
      both_have (parts_row spans body) (parts_of_arms spans rest) (row_has spans _ body (inside_braces (part_row body) (front (braces (part_row body)) (arm_row rest) b)))
      (arms_have spans m rest (back (braces (part_row body)) (arm_row rest) b))

-- ---- procedures

pub block_is : (ps : List Part) → block (record { parts = ps }) ≡ braces (part_row (OtherwiseForms.hidden-the_row-Part-0 ps))
unfolding Carrier.hidden Carrier.roll
block_is ps = refl

list_has : (ps : List Part) → Taken (block (record { parts = ps })) → AllHave (flat_map (part_within []) ps)
list_has ps t =
    subst AllHave (hidden_parts [] ps)
    (row_has [] _ (OtherwiseForms.hidden-the_row-Part-0 ps) (inside_braces (part_row (OtherwiseForms.hidden-the_row-Part-0 ps)) (subst Taken (block_is ps) t)))

without_spans : (ps : List (Within Part)) → list_all (λ p. part_has p.what) ps ≡ list_all part_has (map (λ p. p.what) ps)
without_spans [] = refl
without_spans (p ∷ ps) = ap (λ b. part_has p.what && b) (without_spans ps)

-- a test of each procedure
abbrev pub item_test : (Proc → Bool) → Item → Bool
item_test test (items.Proc p) = test p
item_test test _ = true

abbrev has_all_parts : Proc → Bool
has_all_parts p = list_all part_has (parts_of p.body)

abbrev pub item_has : Item → Bool
item_has i = item_test has_all_parts i

proc_has : (p : Proc) → Taken (proc p) → list_all part_has (parts_of p.body) ≡ true
proc_has p t =
    let body = front (block p.body) (here p.past) (back (round (may_list formal p.formals)) (block p.body ⨾ here p.past)
    (back (ident p.name) (round (may_list formal p.formals) ⨾ block p.body ⨾ here p.past) t)) in
    sym (without_spans (parts_in [] p.body)) ∙ list_has p.body.parts body

-- ---- units: what holds of each procedure that the grammar derives

module _ (test : Proc → Bool) (each : (p : Proc) → Taken (proc p) → test p ≡ true) where
  abbrev ItemsHave : List (Within Item) → Type 0
  ItemsHave is = list_all (λ i. item_test test i.what) is ≡ true

  items_both : (xs ys : List (Within Item)) → ItemsHave xs → ItemsHave ys → ItemsHave (xs ++ ys)
  items_both xs ys h k = list_all-append (λ i. item_test test i.what) xs ys ∙ and_from (list_all (λ i. item_test test i.what) xs) (list_all (λ i. item_test test i.what) ys) h k

  mutual
    item_is : (spans : List SpanTree) (i : Item) → Taken (item i) → ItemsHave (item_within spans i)
    item_is spans (items.Decl d) t = refl
    item_is spans (items.Proc p) t = and_from (test p) true (each p t) refl
    item_is spans (items.Datum d) t = refl
    item_is spans (items.Span' first key value size inside) t =
        items_are (record { key = key; value = value } ∷ spans) _ inside (inside_braces (item_row inside) (back (whole value) (braces (item_row inside))
        (back (whole_prim key) (whole value ⨾ braces (item_row inside)) (back (keyword SpanWord) (whole_prim key ⨾ whole value ⨾ braces (item_row inside))
        (back (here first) (keyword SpanWord ⨾ whole_prim key ⨾ whole value ⨾ braces (item_row inside)) t)))))

    items_are : (spans : List SpanTree) (n : _) (row : Row_of-Item n) → Taken (item_row row) → ItemsHave (items_within spans row)
    items_are spans n end_of-Item t = refl
    items_are spans n (more_of-Item {n = m} i rest) t =
        items_both (item_within spans i) (items_within spans rest) (item_is spans i (front (item i) (item_row rest) t)) (items_are spans m rest (back (item i) (item_row rest) t))

  section_has : (is : List Item) → Taken (many item is) → ItemsHave (flat_map (item_within []) is)
  section_has [] t = refl
  section_has (i ∷ is) t = items_both (item_within [] i) (flat_map (item_within []) is) (item_is [] i (front (item i) (many item is) t)) (section_has is (back (item i) (many item is) t))

  top_has : (x : TopLevel) → Taken (top_level x) → ItemsHave (top_items x)
  top_has (tops.Section s) t =
      section_has s.items (inside_braces (many item s.items) (back (text s.name) (braces (many item s.items))
      (back (keyword SectionWord) (text s.name ⨾ braces (many item s.items)) (back (here s.token) (keyword SectionWord ⨾ text s.name ⨾ braces (many item s.items)) t))))
  top_has (tops.Decl d) t = refl
  top_has (tops.Proc p) t = and_from (test p) true (each p t) refl

  tops_have : (ts : List TopLevel) → Taken (many top_level ts) → ItemsHave (flat_map top_items ts)
  tops_have [] t = refl
  tops_have (x ∷ ts) t =
      items_both (top_items x) (flat_map top_items ts) (top_has x (front (top_level x) (many top_level ts) t)) (tops_have ts (back (top_level x) (many top_level ts) t))

  pub unit_test : (u : UnitTree) (tokens : List Lexeme) → Derives tokens u → list_all (λ i. item_test test i.what) (items_of u) ≡ true
  unit_test u tokens d = tops_have u.parts (record { from = at_start tokens; to = d.after; is = d.takes })

pub unit_has : (u : UnitTree) (tokens : List Lexeme) → Derives tokens u → list_all (λ i. item_has i.what) (items_of u) ≡ true
unit_has u tokens d = unit_test has_all_parts proc_has u tokens d
