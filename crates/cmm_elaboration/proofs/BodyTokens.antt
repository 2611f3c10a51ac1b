-- The counts of a procedure's statements come to at most the procedure's own, where its unit derives some tokens: a statement has what stands between its
-- ends, without what stands in the blocks inside it.
use Rattle.std.proofs.Common.{◌≡◌, ℕ, ◌+◌, ◌-◌, ◌≤◌, refl, sym, ap, subst, Bool, true, List, [], ◌∷◌, ◌++◌, Some, None, arith}
use Rattle.std.specs.Prelude.{map, flat_map, nat_le, sum_by}
use Rattle.std.specs.List.{list_all}
use Rattle.std.proofs.lemmas.Bool.{le-leb, leb-true, and_from}
use Rattle.std.proofs.lemmas.List.Elements.{All-head, All-tail}
use Rattle.std.proofs.lemmas.List.Sums.{sum_by-append, sum_by-cons}
use Rattle.cmm_lexer.specs.declared.piece.Lexeme.{Lexeme}
use Rattle.cmm_lexer.specs.declared.keyword.Keyword.TheVariants.{Else, If, Span as SpanWord, Switch}
use Rattle.cmm_ast.specs.declared.procedure.Proc.{Proc as ProcTree}
use Rattle.cmm_ast.specs.declared.statement.Block.{Row_of-Part, end_of-Part, more_of-Part}
use Rattle.cmm_ast.specs.declared.statement.Otherwise.{Otherwise, more_of-Stmt}
use Rattle.cmm_ast.specs.declared.statement.Otherwise.TheVariants.{Nothing as NoElse, Else', ElseIf'}
use Rattle.cmm_ast.specs.declared.statement.Otherwise.TheBlock as OtherwiseForms
use Rattle.cmm_ast.specs.declared.statement.Part.{Part}
use Rattle.cmm_ast.specs.declared.statement.Part.TheVariants as parts
use Rattle.cmm_ast.specs.declared.statement.StmtForm.{StmtForm, Row_of-Arm, end_of-Arm, more_of-Arm}
use Rattle.cmm_ast.specs.declared.statement.StmtForm.TheVariants as stmts
use Rattle.cmm_ast.specs.declared.unit.Unit.{Unit as UnitTree}
use Rattle.cmm_grammar.specs.Derivation.{Derives}
use Rattle.cmm_grammar.specs.Taking.{Reading, Takes, ◌⨾◌, token, is_name, keyword, here, opening, enclosed, round, braces, optional, may_list}
use Rattle.cmm_grammar.specs.ExpressionGrammar.{ident, whole, whole_prim}
use Rattle.cmm_grammar.specs.StatementGrammar.{formal, case, switch_span, local_form, stmt_form, otherwise_, chained, part_row, part_, arm_row, block, proc}
use Rattle.cmm_program.specs.declared.statement.Statement.{Statement}
use Rattle.cmm_program.specs.Numbering.{body_tokens}
use Rattle.cmm_static_semantics.specs.Items.{SpanTree, Within, items_of, parts_inside, parts_otherwise, part_within, parts_row, parts_of_arms, parts_in, parts_of}
use Rattle.cmm_static_semantics.specs.Declarations.{named_units, units_from, procs_in, labels_in, sum_of}
use Rattle.cmm_static_semantics.specs.Linking.{program_of}
use Rattle.cmm_static_semantics.specs.Limits.{sites_of}
use Rattle.cmm_static_semantics.specs.Scopes.{Scope, unit_senses}
use Rattle.cmm_static_semantics.specs.Statements.{scope_of}
use Rattle.cmm_elaboration.specs.Bodies.{part_length, row_length, arms_length, otherwise_length, blocks_length, counted, form_of, part_of}
use Rattle.cmm_elaboration.specs.Laws.{AreDerived, BodiesAreCounted}
use Rattle.cmm_elaboration.proofs.Everywhere.{all_read}
use Rattle.cmm_elaboration.proofs.Flat.{flat_from, procedure_is}
use Rattle.cmm_elaboration.proofs.Derived.{Taken, middle, block_is, item_test, unit_test}
use Rattle.cmm_static_semantics.proofs.Shared.{hidden_parts}
use Rattle.cmm_elaboration.proofs.Steady.{IsSteady, here_is, steady_keyword, steady_opening, steady_whole, steady_primary, steady_optional, steady_round, steady_list, steady_ident}
use Rattle.cmm_elaboration.proofs.SteadyUnits.{steady_case, steady_span, steady_formal, steady_local, steady_stmt}
use Rattle.cmm_elaboration.proofs.Weighing.{inside_of, taken_of}

-- the tokens of a declaration and a statement's own, and those of some parts
abbrev pub own : Part → ℕ
own (parts.Local l) = l.past - l.token
own (parts.Stmt' first past form) = past - first - blocks_length form

abbrev pub owns : List (Within Part) → ℕ
owns [] = 0
owns (p ∷ ps) = own p.what + owns ps

owns_append : (xs ys : List (Within Part)) → owns (xs ++ ys) ≡ owns xs + owns ys
owns_append [] ys = let e : owns ys ≡ 0 + owns ys = omega arith in e
owns_append (x ∷ xs) ys = let e : owns (xs ++ ys) ≡ owns xs + owns ys = owns_append xs ys in omega arith

-- ---- what blocks have, between two readings

pub record Fits (ps : List (Within Part)) (size : ℕ) (r s : Reading) : Type 0 where
  pub few : owns ps ≤ size
  pub room : r.taken + size ≤ s.taken

-- wider readings have room too
wider : (ps : List (Within Part)) (size : ℕ) (r a b s : Reading) → r.taken ≤ a.taken → b.taken ≤ s.taken → Fits ps size a b → Fits ps size r s
wider ps size r a b s low high h = record { few = h.few; room = let k : a.taken + size ≤ b.taken = h.room in omega arith }

join : (xs ys : List (Within Part)) (m n : ℕ) (r t s : Reading) → Fits xs m r t → Fits ys n t s → Fits (xs ++ ys) (m + n) r s
join xs ys m n r t s h k =
    let e : owns (xs ++ ys) ≡ owns xs + owns ys = owns_append xs ys in
    let a : owns xs ≤ m = h.few in let b : owns ys ≤ n = k.few in let c : r.taken + m ≤ t.taken = h.room in let d : t.taken + n ≤ s.taken = k.room in
    record { few = omega arith; room = omega arith }

none_fit : (r s : Reading) → r.taken ≤ s.taken → Fits [] 0 r s
none_fit r s h = record { few = omega arith; room = omega arith }

block_fits : (row : Takes) (ps : List (Within Part)) (size : ℕ) (r s : Reading) → braces row r ≡ Some s → ((a b : Reading) → row a ≡ Some b → Fits ps size a b) → Fits ps size r s
block_fits row ps size r s is each = let i = inside_of row r s is in wider ps size r i.from i.to s i.low i.high (each i.from i.to i.is)

one_fits : (spans : List SpanTree) (first past : ℕ) (form : StmtForm) (r a b s : Reading) → (first ≡ r.taken) × (r ≡ a) → (past ≡ b.taken) × (b ≡ s) →
    Fits (parts_inside spans form) (blocks_length form) a b → Fits (record { spans = spans; what = parts.Stmt' first past form } ∷ parts_inside spans form) (past - first) r s
one_fits spans first past form r a b s start end h =
    let x : first ≡ r.taken = start.0 in let y : r.taken ≡ a.taken = ap (λ m. m.taken) start.1 in let z : past ≡ b.taken = end.0 in let w : b.taken ≡ s.taken = ap (λ m. m.taken) end.1 in
    let few : owns (parts_inside spans form) ≤ blocks_length form = h.few in let room : a.taken + blocks_length form ≤ b.taken = h.room in
    record { few = omega arith; room = omega arith }

if_fits : (opens : Takes) → IsSteady opens → (condition : _) (body : Takes) (rest : Takes) (xs ys : List (Within Part)) (m n : ℕ) (r s : Reading) →
    (opens ⨾ whole condition ⨾ braces body ⨾ rest) r ≡ Some s → ((a b : Reading) → body a ≡ Some b → Fits xs m a b) → ((a b : Reading) → rest a ≡ Some b → Fits ys n a b) → Fits (xs ++ ys) (m + n) r s
if_fits opens steady condition body rest xs ys m n r s is first then_ =
    let a = middle (opens r) (whole condition ⨾ braces body ⨾ rest) s is in
    let b = middle (whole condition a.at_) (braces body ⨾ rest) s a.next in
    let c = middle (braces body b.at_) rest s b.next in
    let one : r.taken ≤ a.at_.taken = (steady r a.at_ a.first).grows in let two : a.at_.taken ≤ b.at_.taken = (steady_whole condition a.at_ b.at_ b.first).grows in
    join xs ys m n r c.at_ s (wider xs m r b.at_ c.at_ c.at_ (omega arith) (omega arith) (block_fits body xs m b.at_ c.at_ c.first first)) (then_ c.at_ s c.next)

mutual
  form_fits : (spans : List SpanTree) (form : StmtForm) (r s : Reading) → stmt_form form r ≡ Some s → r.taken ≤ s.taken → Fits (parts_inside spans form) (blocks_length form) r s
  form_fits spans (stmts.If' condition _ body otherwise) r s is grows =
      if_fits (keyword If) (steady_keyword If) condition (part_row body) (otherwise_ otherwise) (parts_row spans body) (parts_otherwise spans otherwise) (row_length body) (otherwise_length otherwise) r s is
      (row_fits spans _ body) (otherwise_fits spans otherwise)
  form_fits spans (stmts.Switch' over value _ arms) r s is grows =
      let a = middle (keyword Switch r) (optional switch_span over ⨾ whole value ⨾ braces (arm_row arms)) s is in
      let b = middle (optional switch_span over a.at_) (whole value ⨾ braces (arm_row arms)) s a.next in
      let c = middle (whole value b.at_) (braces (arm_row arms)) s b.next in
      let one : r.taken ≤ a.at_.taken = (steady_keyword Switch r a.at_ a.first).grows in let two : a.at_.taken ≤ b.at_.taken = (steady_optional switch_span steady_span over a.at_ b.at_ b.first).grows in
      let three : b.at_.taken ≤ c.at_.taken = (steady_whole value b.at_ c.at_ c.first).grows in
      wider (parts_of_arms spans arms) (arms_length arms) r c.at_ s s (omega arith) (omega arith) (block_fits (arm_row arms) (parts_of_arms spans arms) (arms_length arms) c.at_ s c.next (arms_fit spans _ arms))
  form_fits spans (stmts.Span' key value _ body) r s is grows =
      let in_ = record { key = key; value = value } ∷ spans in
      let a = middle (keyword SpanWord r) (whole_prim key ⨾ whole value ⨾ braces (part_row body)) s is in
      let b = middle (whole_prim key a.at_) (whole value ⨾ braces (part_row body)) s a.next in
      let c = middle (whole value b.at_) (braces (part_row body)) s b.next in
      let one : r.taken ≤ a.at_.taken = (steady_keyword SpanWord r a.at_ a.first).grows in let two : a.at_.taken ≤ b.at_.taken = (steady_primary key a.at_ b.at_ b.first).grows in
      let three : b.at_.taken ≤ c.at_.taken = (steady_whole value b.at_ c.at_ c.first).grows in
      wider (parts_row in_ body) (row_length body) r c.at_ s s (omega arith) (omega arith) (block_fits (part_row body) (parts_row in_ body) (row_length body) c.at_ s c.next (row_fits in_ _ body))
  form_fits spans form r s is grows = none_fit r s grows

  chained_fits : (spans : List SpanTree) (form : StmtForm) (r s : Reading) → chained form r ≡ Some s → Fits (parts_inside spans form) (blocks_length form) r s
  chained_fits spans (stmts.If' condition _ body otherwise) r s is =
      if_fits (opening (keyword If)) (steady_opening (keyword If) (steady_keyword If)) condition (part_row body) (otherwise_ otherwise) (parts_row spans body) (parts_otherwise spans otherwise) (row_length body) (otherwise_length otherwise) r s is
      (row_fits spans _ body) (otherwise_fits spans otherwise)
  chained_fits spans form r s is = let bad : None ≡ Some s = is in cc

  otherwise_fits : (spans : List SpanTree) (o : Otherwise) (r s : Reading) → otherwise_ o r ≡ Some s → Fits (parts_otherwise spans o) (otherwise_length o) r s
  otherwise_fits spans NoElse r s is = none_fit r s (let e : r.taken ≡ s.taken = ap taken_of is in omega arith)
  otherwise_fits spans (Else' _ body) r s is =
      let a = middle (keyword Else r) (braces (part_row body)) s is in let one : r.taken ≤ a.at_.taken = (steady_keyword Else r a.at_ a.first).grows in
      wider (parts_row spans body) (row_length body) r a.at_ s s one (omega arith) (block_fits (part_row body) (parts_row spans body) (row_length body) a.at_ s a.next (row_fits spans _ body))
  otherwise_fits spans (ElseIf' _ (more_of-Stmt first past form rest)) r s is =
      let a = middle (keyword Else r) (enclosed (here first ⨾ chained form ⨾ here past)) s is in let one : r.taken ≤ a.at_.taken = (steady_keyword Else r a.at_ a.first).grows in
      let b = middle ((here first ⨾ chained form ⨾ here past) a.at_) (λ x. Some record x { open_brackets = a.at_.open_brackets }) s a.next in
      let last : b.at_.taken ≡ s.taken = let e : Some record b.at_ { open_brackets = a.at_.open_brackets } ≡ Some s = b.next in ap taken_of e in
      let c = middle (here first a.at_) (chained form ⨾ here past) b.at_ b.first in
      let d = middle (chained form c.at_) (here past) b.at_ c.next in
      wider (record { spans = spans; what = parts.Stmt' first past form } ∷ parts_inside spans form) (past - first) r a.at_ b.at_ s one (omega arith)
      (one_fits spans first past form a.at_ c.at_ d.at_ b.at_ (here_is first a.at_ c.at_ c.first) (here_is past d.at_ b.at_ d.next) (chained_fits spans form c.at_ d.at_ d.first))

  one_part : (spans : List SpanTree) (p : Part) (r s : Reading) → part_ p r ≡ Some s → Fits (part_within spans p) (part_length p) r s
  one_part spans (parts.Local l) r s is =
      let a = middle (here l.token r) (local_form l.form ⨾ here l.past) s is in
      let b = middle (local_form l.form a.at_) (here l.past) s a.next in
      let start = here_is l.token r a.at_ a.first in let end = here_is l.past b.at_ s b.next in
      let x : l.token ≡ r.taken = start.0 in let y : r.taken ≡ a.at_.taken = ap (λ m. m.taken) start.1 in let z : l.past ≡ b.at_.taken = end.0 in let w : b.at_.taken ≡ s.taken = ap (λ m. m.taken) end.1 in
      let grows : a.at_.taken ≤ b.at_.taken = (steady_local l.form a.at_ b.at_ b.first).grows in
      record { few = omega arith; room = omega arith }
  one_part spans (parts.Stmt' first past form) r s is =
      let a = middle (here first r) (stmt_form form ⨾ here past) s is in
      let b = middle (stmt_form form a.at_) (here past) s a.next in
      one_fits spans first past form r a.at_ b.at_ s (here_is first r a.at_ a.first) (here_is past b.at_ s b.next) (form_fits spans form a.at_ b.at_ b.first (steady_stmt form a.at_ b.at_ b.first).grows)

  pub row_fits : (spans : List SpanTree) (n : _) (row : Row_of-Part n) (r s : Reading) → part_row row r ≡ Some s → Fits (parts_row spans row) (row_length row) r s
  row_fits spans n end_of-Part r s is = none_fit r s (let e : r.taken ≡ s.taken = ap taken_of is in omega arith)
  row_fits spans n (more_of-Part {n = k} p rest) r s is =
      let m = middle (part_ p r) (part_row rest) s is in
      join (part_within spans p) (parts_row spans rest) (part_length p) (row_length rest) r m.at_ s (one_part spans p r m.at_ m.first) (row_fits spans k rest m.at_ s m.next)

  arms_fit : (spans : List SpanTree) (n : _) (row : Row_of-Arm n) (r s : Reading) → arm_row row r ≡ Some s → Fits (parts_of_arms spans row) (arms_length row) r s
  arms_fit spans n end_of-Arm r s is = none_fit r s (let e : r.taken ≡ s.taken = ap taken_of is in omega arith)
  arms_fit spans n (more_of-Arm {n = k} first what _ body rest) r s is =
      let a = middle (here first r) (case what ⨾ braces (part_row body) ⨾ arm_row rest) s is in
      let b = middle (case what a.at_) (braces (part_row body) ⨾ arm_row rest) s a.next in
      let c = middle (braces (part_row body) b.at_) (arm_row rest) s b.next in
      let one : r.taken ≡ a.at_.taken = ap (λ m. m.taken) (here_is first r a.at_ a.first).1 in let two : a.at_.taken ≤ b.at_.taken = (steady_case what a.at_ b.at_ b.first).grows in
      join (parts_row spans body) (parts_of_arms spans rest) (row_length body) (arms_length rest) r c.at_ s
      (wider (parts_row spans body) (row_length body) r b.at_ c.at_ c.at_ (omega arith) (omega arith) (block_fits (part_row body) (parts_row spans body) (row_length body) b.at_ c.at_ c.first (row_fits spans _ body)))
      (arms_fit spans k rest c.at_ s c.next)

-- ---- a procedure

abbrev pub sum_owns : List Part → ℕ
sum_owns [] = 0
sum_owns (p ∷ ps) = own p + sum_owns ps

pub without_spans : (ps : List (Within Part)) → owns ps ≡ sum_owns (map (λ p. p.what) ps)
without_spans [] = refl
without_spans (p ∷ ps) = ap (λ n. own p.what + n) (without_spans ps)

abbrev is_counted : ProcTree → Bool
is_counted p = nat_le (sum_owns (parts_of p.body)) (p.past - p.name.token)

list_fits : (ps : List Part) (r s : Reading) → block (record { parts = ps }) r ≡ Some s → r.taken + owns (flat_map (part_within []) ps) ≤ s.taken
list_fits ps r s is =
    let row = OtherwiseForms.hidden-the_row-Part-0 ps in
    let f = block_fits (part_row row) (parts_row [] row) (row_length row) r s (subst (λ t. t r ≡ Some s) (block_is ps) is) (row_fits [] _ row) in
    let few : owns (parts_row [] row) ≤ row_length row = f.few in let room : r.taken + row_length row ≤ s.taken = f.room in
    subst (λ xs. r.taken + owns xs ≤ s.taken) (hidden_parts [] ps) (omega arith)

counted_by : (p : ProcTree) → Taken (proc p) → is_counted p ≡ true
counted_by p t =
    let r = t.from in let s = t.to in
    let m = middle (ident p.name r) (round (may_list formal p.formals) ⨾ block p.body ⨾ here p.past) s t.is in
    let h = middle (here p.name.token r) (token (is_name p.name.name)) m.at_ m.first in
    let first : p.name.token ≡ r.taken = (here_is p.name.token r h.at_ h.first).0 in
    let b = middle (round (may_list formal p.formals) m.at_) (block p.body ⨾ here p.past) s m.next in
    let e = middle (block p.body b.at_) (here p.past) s b.next in
    let last = here_is p.past e.at_ s e.next in
    let past : p.past ≡ e.at_.taken = last.0 in
    let one : r.taken ≤ m.at_.taken = (steady_ident p.name r m.at_ m.first).grows in
    let two : m.at_.taken ≤ b.at_.taken = (steady_round (may_list formal p.formals) (steady_list formal steady_formal p.formals) m.at_ b.at_ b.first).grows in
    let room : b.at_.taken + owns (flat_map (part_within []) p.body.parts) ≤ e.at_.taken = list_fits p.body.parts b.at_ e.at_ e.first in
    let same : owns (flat_map (part_within []) p.body.parts) ≡ sum_owns (parts_of p.body) = without_spans (parts_in [] p.body) in
    le-leb (sum_owns (parts_of p.body)) (p.past - p.name.token) (omega arith)

-- those of the declarations alone
abbrev declared : Part → ℕ
declared (parts.Local l) = l.past - l.token
declared (parts.Stmt' first past form) = 0

abbrev pub all_declared : List Part → ℕ
all_declared [] = 0
all_declared (p ∷ ps) = declared p + all_declared ps

one_counted : (s : Scope) (n : ℕ) (x : Part) → sum_by (λ st. st.tokens) (part_of s n x) + declared x ≡ own x
one_counted s n (parts.Local l) = let e : 0 + (l.past - l.token) ≡ l.past - l.token = omega arith in e
one_counted s n (parts.Stmt' first past form) =
    let e : sum_by (λ (st : Statement). st.tokens) (counted first past form (form_of s n form) ∷ []) ≡ past - first - blocks_length form + 0 = sum_by-cons (λ (st : Statement). st.tokens) (counted first past form (form_of s n form)) [] in
    let goal : sum_by (λ (st : Statement). st.tokens) (counted first past form (form_of s n form) ∷ []) + 0 ≡ past - first - blocks_length form = omega arith in goal

pub flat_counted : (s : Scope) (n : ℕ) (ps : List Part) → sum_by (λ st. st.tokens) (flat_from s n ps) + all_declared ps ≡ sum_owns ps
flat_counted s n [] = refl
flat_counted s n (x ∷ ps) =
    let rest = flat_from s (n + sites_of x) ps in
    let a : sum_by (λ (st : Statement). st.tokens) (part_of s n x ++ rest) ≡ sum_by (λ st. st.tokens) (part_of s n x) + sum_by (λ st. st.tokens) rest = sum_by-append (λ st. st.tokens) (part_of s n x) rest in
    let b : sum_by (λ st. st.tokens) (part_of s n x) + declared x ≡ own x = one_counted s n x in
    let d : sum_by (λ st. st.tokens) rest + all_declared ps ≡ sum_owns ps = flat_counted s (n + sites_of x) ps in
    let goal : sum_by (λ (st : Statement). st.tokens) (part_of s n x ++ rest) + (declared x + all_declared ps) ≡ own x + sum_owns ps = omega arith in goal

named_counted : (procs labels : ℕ) (us : List UnitTree) → AreDerived us → list_all (λ u. list_all (λ i. item_test is_counted i.what) u.items) (units_from procs labels us) ≡ true
named_counted procs labels [] derived = refl
named_counted procs labels (u ∷ us) derived = let d = All-head (λ v. (tokens : List Lexeme) × Derives tokens v) u us derived in
    and_from (list_all (λ i. item_test is_counted i.what) (items_of u)) _ (unit_test is_counted counted_by u d.0 d.1)
    (named_counted (procs + sum_of procs_in (items_of u)) (labels + sum_of labels_in (items_of u)) us (All-tail (λ v. (tokens : List Lexeme) × Derives tokens v) u us derived))

pub bodies_are_counted : BodiesAreCounted
bodies_are_counted us accepted derived = all_read (item_test is_counted) (λ q. body_tokens q ≤ q.tokens) us accepted (named_counted 0 0 us derived)
    (λ earlier u number place around tree none has.
    let outer = unit_senses (program_of (named_units us)) u.entries in let s = scope_of outer tree in let ps = parts_of tree.body in
    let few : sum_owns ps ≤ tree.past - tree.name.token = leb-true (sum_owns ps) (tree.past - tree.name.token) has in
    let all : sum_by (λ (st : Statement). st.tokens) (flat_from s 0 ps) + all_declared ps ≡ sum_owns ps = flat_counted s 0 ps in
    let flat : sum_by (λ (st : Statement). st.tokens) (flat_from s 0 ps) ≤ tree.past - tree.name.token = omega arith in
    subst (λ n. n ≤ tree.past - tree.name.token) (sym (ap (sum_by (λ st. st.tokens)) (procedure_is outer number around tree))) flat)
