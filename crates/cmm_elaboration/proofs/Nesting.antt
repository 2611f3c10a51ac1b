-- Spans nest within the limit on brackets: each opens one, and no more than 200 are open at a token of a unit that keeps the limits.
use Rattle.std.proofs.Common.{◌≡◌, ℕ, suc, ◌+◌, ◌≤◌, ap, ◌∙◌, subst, List, [], ◌∷◌, ◌++◌, Some, None, arith, length}
use Rattle.std.specs.Prelude.{flat_map, nat_lt, All}
use Rattle.std.proofs.lemmas.Bool.{ltb-false}
use Rattle.std.proofs.lemmas.List.Elements.{All-nil, All-cons, All-append}
use Rattle.cmm_lexer.specs.declared.piece.Lexeme.{Lexeme}
use Rattle.cmm_lexer.specs.declared.keyword.Keyword.TheVariants.{Else, If, Section as SectionWord, Span as SpanWord, Switch}
use Rattle.cmm_lexer.specs.declared.symbol.Symbol.TheVariants.{OpenBrace, CloseBrace}
use Rattle.cmm_ast.specs.declared.procedure.Proc.{Proc as ProcTree}
use Rattle.cmm_ast.specs.declared.statement.Block.{Row_of-Part, end_of-Part, more_of-Part}
use Rattle.cmm_ast.specs.declared.statement.Otherwise.{Otherwise, more_of-Stmt}
use Rattle.cmm_ast.specs.declared.statement.Otherwise.TheVariants.{Nothing as NoElse, Else', ElseIf'}
use Rattle.cmm_ast.specs.declared.statement.Otherwise.TheBlock as OtherwiseForms
use Rattle.cmm_ast.specs.declared.statement.Part.{Part}
use Rattle.cmm_ast.specs.declared.statement.Part.TheVariants as parts
use Rattle.cmm_ast.specs.declared.statement.StmtForm.{StmtForm, Row_of-Arm, end_of-Arm, more_of-Arm}
use Rattle.cmm_ast.specs.declared.statement.StmtForm.TheVariants as stmts
use Rattle.cmm_ast.specs.declared.unit.Item.{Item, Row_of-Item, end_of-Item, more_of-Item}
use Rattle.cmm_ast.specs.declared.unit.Item.TheVariants as items
use Rattle.cmm_ast.specs.declared.unit.TopLevel.{TopLevel}
use Rattle.cmm_ast.specs.declared.unit.TopLevel.TheVariants as tops
use Rattle.cmm_ast.specs.declared.unit.Unit.{Unit as UnitTree}
use Rattle.cmm_grammar.specs.Derivation.{DerivesWithin, at_start}
use Rattle.cmm_grammar.specs.Taking.{Reading, Takes, ◌⨾◌, keyword, symbol, here, first_over, opening, enclosed, round, braces, optional, many, may_list}
use Rattle.cmm_grammar.specs.ExpressionGrammar.{ident, text, whole, whole_prim}
use Rattle.cmm_grammar.specs.StatementGrammar.{formal, case, switch_span, stmt_form, otherwise_, chained, part_row, part_, arm_row, block, proc}
use Rattle.cmm_grammar.specs.UnitGrammar.{item, item_row, top_level}
use Rattle.cmm_static_semantics.specs.Items.{SpanTree, Within, within, item_within, items_within, top_items, items_of, parts_inside, parts_otherwise, part_within, parts_row, parts_of_arms, parts_in}
use Rattle.cmm_static_semantics.proofs.Shared.{hidden_parts}
use Rattle.cmm_elaboration.proofs.Derived.{middle, block_is}
use Rattle.cmm_elaboration.proofs.Steady.{IsSteady, fits_here, same_reading, steady_here, steady_keyword, steady_symbol, steady_opening, steady_round, steady_braces, steady_optional, steady_many, steady_list, steady_ident, steady_text, steady_whole, steady_primary}
use Rattle.cmm_elaboration.proofs.SteadyUnits.{steady_formal, steady_case, steady_span, steady_otherwise, steady_part, steady_row, steady_arms, steady_item, steady_items, steady_top}

-- ---- what is taken within the limits, inside some open brackets

pub record Nested (p : Takes) (n : ℕ) : Type 0 where
  pub from : Reading
  pub to : Reading
  pub is : p from ≡ Some to
  pub deep : n ≤ from.open_brackets
  pub fits : to.over ≡ None
  pub within : n ≤ 200

first_part : (a b : Takes) (n : ℕ) → IsSteady b → Nested (a ⨾ b) n → Nested a n
first_part a b n steady t = let m = middle (a t.from) b t.to t.is in
    record { from = t.from; to = m.at_; is = m.first; deep = t.deep; fits = (steady m.at_ t.to m.next).fits t.fits; within = t.within }

next_part : (a b : Takes) (n : ℕ) → IsSteady a → Nested (a ⨾ b) n → Nested b n
next_part a b n steady t =
    let m = middle (a t.from) b t.to t.is in let deep : n ≤ t.from.open_brackets = t.deep in let more : t.from.open_brackets ≤ m.at_.open_brackets = (steady t.from m.at_ m.first).opens in
    record { from = m.at_; to = t.to; is = m.next; deep = omega arith; fits = t.fits; within = t.within }

unclosed : (p : Takes) (n : ℕ) → Nested (enclosed p) n → Nested p n
unclosed p n t =
    let m = middle (p t.from) (λ after. Some record after { open_brackets = t.from.open_brackets }) t.to t.is in
    let over : m.at_.over ≡ t.to.over = ap (λ (r : Reading). r.over) (same_reading record m.at_ { open_brackets = t.from.open_brackets } t.to m.next) in
    record { from = t.from; to = m.at_; is = m.first; deep = t.deep; fits = over ∙ t.fits; within = t.within }

-- braces open one more
inside : (p : Takes) (n k : ℕ) → k ≤ suc n → IsSteady p → Nested (braces p) n → Nested p k
inside p n k one steady t =
    let o = unclosed (opening (symbol OpenBrace) ⨾ p ⨾ symbol CloseBrace) n t in
    let a = middle (opening (symbol OpenBrace) o.from) (p ⨾ symbol CloseBrace) o.to o.is in
    let c = middle (p a.at_) (symbol CloseBrace) o.to a.next in
    let b = middle (symbol OpenBrace o.from) (λ m. Some record m { open_brackets = suc m.open_brackets; over = first_over m.over (nat_lt 200 (suc m.open_brackets)) o.from.taken }) a.at_ a.first in
    let opened = same_reading record b.at_ { open_brackets = suc b.at_.open_brackets; over = first_over b.at_.over (nat_lt 200 (suc b.at_.open_brackets)) o.from.taken } a.at_ b.next in
    let fits : a.at_.over ≡ None = (steady a.at_ c.at_ c.first).fits ((steady_symbol CloseBrace c.at_ o.to c.next).fits o.fits) in
    let low : suc b.at_.open_brackets ≤ 200 = ltb-false 200 (suc b.at_.open_brackets) (fits_here b.at_.over (nat_lt 200 (suc b.at_.open_brackets)) o.from.taken (ap (λ (r : Reading). r.over) opened ∙ fits)) in
    let deep : n ≤ o.from.open_brackets = o.deep in let more : o.from.open_brackets ≤ b.at_.open_brackets = (steady_symbol OpenBrace o.from b.at_ b.first).opens in
    let count : suc b.at_.open_brackets ≡ a.at_.open_brackets = ap (λ (r : Reading). r.open_brackets) opened in
    record { from = a.at_; to = c.at_; is = c.first; deep = omega arith; fits = (steady_symbol CloseBrace c.at_ o.to c.next).fits o.fits; within = omega arith }

-- ---- parts of a body, with m spans around the procedure

abbrev pub IsFew : ℕ → Within Part → Type 0
IsFew m p = m + length p.spans ≤ 200

module _ (m : ℕ) where
  abbrev pub AreFew : List (Within Part) → Type 0
  AreFew ps = All (IsFew m) ps

  abbrev NestedIn : Takes → List SpanTree → Type 0
  NestedIn p spans = Nested p (m + length spans)

  block_in : (p : Takes) (spans : List SpanTree) → IsSteady p → NestedIn (braces p) spans → NestedIn p spans
  block_in p spans steady t = inside p (m + length spans) (m + length spans) (omega arith) steady t

  -- behind the `if` of a statement, first or behind an `else`
  branches_few : (spans : List SpanTree) (condition : _) (n : _) (body : Row_of-Part n) (otherwise : Otherwise) → NestedIn (whole condition ⨾ braces (part_row body) ⨾ otherwise_ otherwise) spans →
      (NestedIn (part_row body) spans → AreFew (parts_row spans body)) → (NestedIn (otherwise_ otherwise) spans → AreFew (parts_otherwise spans otherwise)) →
      AreFew (parts_row spans body ++ parts_otherwise spans otherwise)
  branches_few spans condition n body otherwise t first next =
      let rest = next_part (whole condition) (braces (part_row body) ⨾ otherwise_ otherwise) (m + length spans) (steady_whole condition) t in
      All-append (IsFew m) (parts_row spans body) (parts_otherwise spans otherwise)
      (first (block_in (part_row body) spans (steady_row n body) (first_part (braces (part_row body)) (otherwise_ otherwise) (m + length spans) (steady_otherwise otherwise) rest)))
      (next (next_part (braces (part_row body)) (otherwise_ otherwise) (m + length spans) (steady_braces (part_row body) (steady_row n body)) rest))

  mutual
    inside_few : (spans : List SpanTree) (form : StmtForm) → NestedIn (stmt_form form) spans → AreFew (parts_inside spans form)
    inside_few spans (stmts.If' condition _ body otherwise) t =
        branches_few spans condition _ body otherwise
        (next_part (keyword If) (whole condition ⨾ braces (part_row body) ⨾ otherwise_ otherwise) (m + length spans) (steady_keyword If) t)
        (row_few spans _ body) (otherwise_few spans otherwise)
    inside_few spans (stmts.Switch' over value _ arms) t = let n = m + length spans in
        arms_few spans _ arms (block_in (arm_row arms) spans (steady_arms _ arms)
        (next_part (whole value) (braces (arm_row arms)) n (steady_whole value)
        (next_part (optional switch_span over) (whole value ⨾ braces (arm_row arms)) n (steady_optional switch_span steady_span over)
        (next_part (keyword Switch) (optional switch_span over ⨾ whole value ⨾ braces (arm_row arms)) n (steady_keyword Switch) t))))
    inside_few spans (stmts.Span' key value _ body) t =
        let n = m + length spans in let more = record { key = key; value = value } ∷ spans in
        row_few more _ body (inside (part_row body) n (m + length more) (omega arith) (steady_row _ body)
        (next_part (whole value) (braces (part_row body)) n (steady_whole value)
        (next_part (whole_prim key) (whole value ⨾ braces (part_row body)) n (steady_primary key)
        (next_part (keyword SpanWord) (whole_prim key ⨾ whole value ⨾ braces (part_row body)) n (steady_keyword SpanWord) t))))
    inside_few spans form t = All-nil (IsFew m)

    chained_few : (spans : List SpanTree) (form : StmtForm) → NestedIn (chained form) spans → AreFew (parts_inside spans form)
    chained_few spans (stmts.If' condition _ body otherwise) t =
        branches_few spans condition _ body otherwise
        (next_part (opening (keyword If)) (whole condition ⨾ braces (part_row body) ⨾ otherwise_ otherwise) (m + length spans) (steady_opening (keyword If) (steady_keyword If)) t)
        (row_few spans _ body) (otherwise_few spans otherwise)
    chained_few spans form t = let bad : None ≡ Some t.to = t.is in cc

    otherwise_few : (spans : List SpanTree) (o : Otherwise) → NestedIn (otherwise_ o) spans → AreFew (parts_otherwise spans o)
    otherwise_few spans NoElse t = All-nil (IsFew m)
    otherwise_few spans (Else' _ body) t =
        row_few spans _ body (block_in (part_row body) spans (steady_row _ body) (next_part (keyword Else) (braces (part_row body)) (m + length spans) (steady_keyword Else) t))
    otherwise_few spans (ElseIf' _ (more_of-Stmt first past form rest)) t =
        let n = m + length spans in
        let inner = unclosed (here first ⨾ chained form ⨾ here past) n (next_part (keyword Else) (enclosed (here first ⨾ chained form ⨾ here past)) n (steady_keyword Else) t) in
        All-cons (IsFew m) (within spans (parts.Stmt' first past form)) (parts_inside spans form) t.within
        (chained_few spans form (first_part (chained form) (here past) n (steady_here past) (next_part (here first) (chained form ⨾ here past) n (steady_here first) inner)))

    one_few : (spans : List SpanTree) (p : Part) → NestedIn (part_ p) spans → AreFew (part_within spans p)
    one_few spans (parts.Local l) t = All-cons (IsFew m) (within spans (parts.Local l)) [] t.within (All-nil (IsFew m))
    one_few spans (parts.Stmt' first past form) t =
        All-cons (IsFew m) (within spans (parts.Stmt' first past form)) (parts_inside spans form) t.within
        (inside_few spans form (first_part (stmt_form form) (here past) (m + length spans) (steady_here past)
        (next_part (here first) (stmt_form form ⨾ here past) (m + length spans) (steady_here first) t)))

    row_few : (spans : List SpanTree) (n : _) (row : Row_of-Part n) → NestedIn (part_row row) spans → AreFew (parts_row spans row)
    row_few spans n end_of-Part t = All-nil (IsFew m)
    row_few spans n (more_of-Part {n = k} p rest) t =
        All-append (IsFew m) (part_within spans p) (parts_row spans rest)
        (one_few spans p (first_part (part_ p) (part_row rest) (m + length spans) (steady_row k rest) t))
        (row_few spans k rest (next_part (part_ p) (part_row rest) (m + length spans) (steady_part p) t))

    arms_few : (spans : List SpanTree) (n : _) (row : Row_of-Arm n) → NestedIn (arm_row row) spans → AreFew (parts_of_arms spans row)
    arms_few spans n end_of-Arm t = All-nil (IsFew m)
    arms_few spans n (more_of-Arm {n = k} first what _ body rest) t =
        let j = m + length spans in
        let b = next_part (case what) (braces (part_row body) ⨾ arm_row rest) j (steady_case what) (next_part (here first) (case what ⨾ braces (part_row body) ⨾ arm_row rest) j (steady_here first) t) in
        All-append (IsFew m) (parts_row spans body) (parts_of_arms spans rest)
        (row_few spans _ body (block_in (part_row body) spans (steady_row _ body) (first_part (braces (part_row body)) (arm_row rest) j (steady_arms k rest) b)))
        (arms_few spans k rest (next_part (braces (part_row body)) (arm_row rest) j (steady_braces (part_row body) (steady_row _ body)) b))

  list_few : (ps : List Part) → Nested (block (record { parts = ps })) m → AreFew (flat_map (part_within []) ps)
  list_few ps t =
      let row = OtherwiseForms.hidden-the_row-Part-0 ps in
      subst AreFew (hidden_parts [] ps)
      (row_few [] _ row (inside (part_row row) m (m + 0) (omega arith) (steady_row _ row) (subst (λ p. Nested p m) (block_is ps) t)))

  pub body_few : (p : ProcTree) → Nested (proc p) m → AreFew (parts_in [] p.body)
  body_few p t =
      list_few p.body.parts (first_part (block p.body) (here p.past) m (steady_here p.past)
      (next_part (round (may_list formal p.formals)) (block p.body ⨾ here p.past) m (steady_round (may_list formal p.formals) (steady_list formal steady_formal p.formals))
      (next_part (ident p.name) (round (may_list formal p.formals) ⨾ block p.body ⨾ here p.past) m (steady_ident p.name) t)))

-- ---- procedures of a unit: the spans around each come to at most 200 with those around a part of its body

abbrev pub IsFewAround : List SpanTree → Item → Type 0
IsFewAround around (items.Proc p) = All (IsFew (length around)) (parts_in [] p.body)
IsFewAround around _ = Unit {0}

abbrev pub ItemFew : Within Item → Type 0
ItemFew i = IsFewAround i.spans i.what

abbrev ItemsFew : List (Within Item) → Type 0
ItemsFew is = All ItemFew is

mutual
  item_few : (spans : List SpanTree) (i : Item) → Nested (item i) (length spans) → ItemsFew (item_within spans i)
  item_few spans (items.Decl d) t = All-cons ItemFew (within spans (items.Decl d)) [] tt (All-nil ItemFew)
  item_few spans (items.Proc p) t = All-cons ItemFew (within spans (items.Proc p)) [] (body_few (length spans) p t) (All-nil ItemFew)
  item_few spans (items.Datum d) t = All-cons ItemFew (within spans (items.Datum d)) [] tt (All-nil ItemFew)
  item_few spans (items.Span' first key value size inner) t =
      let n = length spans in let more = record { key = key; value = value } ∷ spans in
      All-cons ItemFew (within spans (items.Span' first key value size inner)) (items_within more inner) tt
      (items_few more _ inner (inside (item_row inner) n (length more) (omega arith) (steady_items _ inner)
      (next_part (whole value) (braces (item_row inner)) n (steady_whole value)
      (next_part (whole_prim key) (whole value ⨾ braces (item_row inner)) n (steady_primary key)
      (next_part (keyword SpanWord) (whole_prim key ⨾ whole value ⨾ braces (item_row inner)) n (steady_keyword SpanWord)
      (next_part (here first) (keyword SpanWord ⨾ whole_prim key ⨾ whole value ⨾ braces (item_row inner)) n (steady_here first) t))))))

  items_few : (spans : List SpanTree) (n : _) (row : Row_of-Item n) → Nested (item_row row) (length spans) → ItemsFew (items_within spans row)
  items_few spans n end_of-Item t = All-nil ItemFew
  items_few spans n (more_of-Item {n = m} i rest) t =
      All-append ItemFew (item_within spans i) (items_within spans rest) (item_few spans i (first_part (item i) (item_row rest) (length spans) (steady_items m rest) t))
      (items_few spans m rest (next_part (item i) (item_row rest) (length spans) (steady_item i) t))

section_few : (is : List Item) → Nested (many item is) 0 → ItemsFew (flat_map (item_within []) is)
section_few [] t = All-nil ItemFew
section_few (i ∷ is) t =
    All-append ItemFew (item_within [] i) (flat_map (item_within []) is) (item_few [] i (first_part (item i) (many item is) 0 (steady_many item steady_item is) t))
    (section_few is (next_part (item i) (many item is) 0 (steady_item i) t))

top_few : (x : TopLevel) → Nested (top_level x) 0 → ItemsFew (top_items x)
top_few (tops.Section s) t =
    section_few s.items (inside (many item s.items) 0 0 (omega arith) (steady_many item steady_item s.items) (next_part (text s.name) (braces (many item s.items)) 0 (steady_text s.name)
    (next_part (keyword SectionWord) (text s.name ⨾ braces (many item s.items)) 0 (steady_keyword SectionWord)
    (next_part (here s.token) (keyword SectionWord ⨾ text s.name ⨾ braces (many item s.items)) 0 (steady_here s.token) t))))
top_few (tops.Decl d) t = All-cons ItemFew (within [] (items.Decl d)) [] tt (All-nil ItemFew)
top_few (tops.Proc p) t = All-cons ItemFew (within [] (items.Proc p)) [] (body_few 0 p t) (All-nil ItemFew)

tops_few : (ts : List TopLevel) → Nested (many top_level ts) 0 → ItemsFew (flat_map top_items ts)
tops_few [] t = All-nil ItemFew
tops_few (x ∷ ts) t =
    All-append ItemFew (top_items x) (flat_map top_items ts) (top_few x (first_part (top_level x) (many top_level ts) 0 (steady_many top_level steady_top ts) t))
    (tops_few ts (next_part (top_level x) (many top_level ts) 0 (steady_top x) t))

pub unit_few : (u : UnitTree) (tokens : List Lexeme) → DerivesWithin tokens u → All ItemFew (items_of u)
unit_few u tokens d =
    tops_few u.parts (record { from = at_start tokens; to = d.derives.after; is = d.derives.takes; deep = omega arith; fits = d.within; within = omega arith })
