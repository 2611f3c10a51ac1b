-- The statements of a body, over all its blocks in textual order, are those of its parts one by one.
use Rattle.std.proofs.Common.{◌≡◌, ℕ, ◌+◌, refl, sym, ap, ◌∙◌, List, [], ◌∷◌, ◌++◌, append_assoc, append-nil, arith, Bool, true, false, Some, None, Option}
use Rattle.std.specs.Prelude.{map, flat_map}
use Rattle.std.proofs.lemmas.List.{map-append}
use Rattle.std.proofs.lemmas.Grind.{flat_map-append}
use denote.Hole.Carrier as Carrier
use Rattle.cmm_words.specs.declared.width.Width.{Width}
use Rattle.cmm_ast.specs.declared.statement.Block.{Row_of-Part, end_of-Part, more_of-Part}
use Rattle.cmm_ast.specs.declared.procedure.Proc.{Proc as ProcTree}
use Rattle.cmm_ast.specs.declared.statement.Callee.{Callee}
use Rattle.cmm_ast.specs.declared.statement.Exit.{Exit}
use Rattle.cmm_ast.specs.declared.statement.Kinded.{Kinded}
use Rattle.cmm_ast.specs.declared.statement.Part.{Part}
use Rattle.cmm_ast.specs.declared.statement.Part.TheVariants as parts
use Rattle.cmm_ast.specs.declared.statement.StmtForm.{StmtForm, Row_of-Arm, end_of-Arm, more_of-Arm}
use Rattle.cmm_ast.specs.declared.statement.StmtForm.TheVariants as stmts
use Rattle.cmm_ast.specs.declared.statement.Otherwise.{Otherwise, more_of-Stmt}
use Rattle.cmm_ast.specs.declared.statement.Otherwise.TheVariants.{Nothing as NoElse, Else', ElseIf'}
use Rattle.cmm_program.specs.declared.expression.Condition.{Condition}
use Rattle.cmm_program.specs.declared.expression.Expression.{Expression}
use Rattle.cmm_program.specs.declared.statement.Case.{Case}
use Rattle.cmm_program.specs.declared.statement.Form.{Row_of-Arm as Row_of-Branch, end_of-Arm as end_of-Branch, more_of-Arm as more_of-Branch, items-the_row-Arm, items_hidden-the_row-Arm-1}
use Rattle.cmm_program.specs.declared.statement.Form.TheVariants as forms
use Rattle.cmm_program.specs.declared.statement.Form.TheBlock as Forms
use Rattle.cmm_program.specs.declared.statement.Statement.{Statement}
use Rattle.cmm_program.specs.declared.statement.Arm.{Arm, Arm', roll-Arm, Row_of-Statement, end_of-Statement, more_of-Statement, items-the_row-Statement, items_hidden-the_row-Statement-0}
use Rattle.cmm_program.specs.declared.procedure.Proc.{Proc}
use Rattle.cmm_program.specs.Bodies.{within, within_block, within_arms, body_statements}
use Rattle.cmm_static_semantics.specs.Items.{SpanTree, Within, parts_row, parts_of_arms, parts_otherwise, parts_inside, part_within}
use Rattle.cmm_static_semantics.specs.declared.sense.Host.{Host}
use Rattle.cmm_static_semantics.specs.declared.sense.Host.TheVariants.{Yield, PutByte, GetByte}
use Rattle.cmm_static_semantics.specs.Senses.{Senses}
use Rattle.cmm_static_semantics.specs.Items.{parts_of}
use Rattle.cmm_static_semantics.specs.Scopes.{Scope, senses}
use Rattle.cmm_static_semantics.specs.Calls.{foreign_callee}
use Rattle.cmm_static_semantics.specs.Statements.{passed, scope_of}
use Rattle.cmm_static_semantics.specs.Limits.{site_count, sites_of, is_site}
use Rattle.cmm_elaboration.specs.Resolving.{value_of, values_of, condition_of, callee_of}
use Rattle.cmm_elaboration.specs.Sites.{is_yield}
use Rattle.cmm_elaboration.specs.Bodies.{form_of, otherwise_of, arms_of, part_of, row_of, statements_from, counted, sites_in_row, sites_in_part, host_form, return_form, value_width, case_of}
use Rattle.cmm_elaboration.specs.Procedures.{procedure_of}

unfoldable pub opened : Unit {0}
unfolding Forms.hidden-the_row-Statement-0 Forms.hidden-the_row-Arm-1 roll-Arm Carrier.hidden Carrier.roll
opened = tt

-- ---- parts without their spans

abbrev pub whats : List (Within Part) → List Part
whats ps = map (λ p. p.what) ps

pub whats_append : (xs ys : List (Within Part)) → whats (xs ++ ys) ≡ whats xs ++ whats ys
whats_append xs ys = map-append (λ p. p.what) xs ys

mutual
  alike_form : (a b : List SpanTree) (f : StmtForm) → whats (parts_inside a f) ≡ whats (parts_inside b f)
  alike_form a b (stmts.If' c _ body otherwise) =
      whats_append (parts_row a body) (parts_otherwise a otherwise)
      ∙ rw (alike_row a b _ body, alike_otherwise a b otherwise) (sym (whats_append (parts_row b body) (parts_otherwise b otherwise)))
  alike_form a b (stmts.Switch' range value _ arms) = alike_arms a b _ arms
  alike_form a b (stmts.Span' key value _ body) = alike_row (record { key = key; value = value } ∷ a) (record { key = key; value = value } ∷ b) _ body
  alike_form a b _ = refl

  alike_otherwise : (a b : List SpanTree) (o : Otherwise) → whats (parts_otherwise a o) ≡ whats (parts_otherwise b o)
  alike_otherwise a b NoElse = refl
  alike_otherwise a b (Else' _ body) = alike_row a b _ body
  alike_otherwise a b (ElseIf' _ (more_of-Stmt first past form rest)) = ap (λ t. parts.Stmt' first past form ∷ t) (alike_form a b form)

  pub alike_part : (a b : List SpanTree) (p : Part) → whats (part_within a p) ≡ whats (part_within b p)
  alike_part a b (parts.Local l) = refl
  alike_part a b (parts.Stmt' first past form) = ap (λ t. parts.Stmt' first past form ∷ t) (alike_form a b form)

  alike_row : (a b : List SpanTree) (n : _) (row : Row_of-Part n) → whats (parts_row a row) ≡ whats (parts_row b row)
  alike_row a b n end_of-Part = refl
  alike_row a b n (more_of-Part {n = m} p rest) =
      whats_append (part_within a p) (parts_row a rest)
      ∙ rw (alike_part a b p, alike_row a b m rest) (sym (whats_append (part_within b p) (parts_row b rest)))

  alike_arms : (a b : List SpanTree) (n : _) (row : Row_of-Arm n) → whats (parts_of_arms a row) ≡ whats (parts_of_arms b row)
  alike_arms a b n end_of-Arm = refl
  alike_arms a b n (more_of-Arm {n = m} first what _ body rest) =
      whats_append (parts_row a body) (parts_of_arms a rest)
      ∙ rw (alike_row a b _ body, alike_arms a b m rest) (sym (whats_append (parts_row b body) (parts_of_arms b rest)))

-- what stands in a list of parts is the same whatever spans are around it
pub whats_alike : (a b : List SpanTree) (ps : List Part) → whats (flat_map (part_within a) ps) ≡ whats (flat_map (part_within b) ps)
whats_alike a b [] = refl
whats_alike a b (p ∷ ps) =
    whats_append (part_within a p) (flat_map (part_within a) ps)
    ∙ rw (alike_part a b p, whats_alike a b ps) (sym (whats_append (part_within b p) (flat_map (part_within b) ps)))

-- ---- statements with those inside them

abbrev pub with_inside : Statement → List Statement
with_inside st = st ∷ within st.form

abbrev pub all_of : List Statement → List Statement
all_of ss = flat_map with_inside ss

all_append : (xs ys : List Statement) → all_of (xs ++ ys) ≡ all_of xs ++ all_of ys
all_append xs ys = flat_map-append with_inside xs ys

block_all : (n : _) (row : Row_of-Statement n) → within_block row ≡ all_of (items-the_row-Statement n row)
block_all n end_of-Statement = refl
block_all n (more_of-Statement {n = m} tokens form rest) =
    ap (λ t. record { tokens = tokens; form = form } ∷ (within form ++ t)) (block_all m rest)

hidden_all : (ss : List Statement) → within_block (Forms.hidden-the_row-Statement-0 ss) ≡ all_of ss
hidden_all ss = block_all _ (Forms.hidden-the_row-Statement-0 ss) ∙ ap all_of (items_hidden-the_row-Statement-0 ss)

within_if : (c : Condition) (t o : List Statement) → within (forms.If c t o) ≡ all_of t ++ all_of o
unfolding Carrier.hidden
within_if c t o = rw (sym (hidden_all t), sym (hidden_all o)) refl

within_span : (b : List Statement) → within (forms.Span b) ≡ all_of b
unfolding Carrier.hidden
within_span b = rw (sym (hidden_all b)) refl

pub body_all : (q : Proc) → body_statements q ≡ all_of q.body
body_all q = within_span q.body

-- ---- the parts of a body, one by one

-- the statements of some parts, those inside them standing as parts of their own
abbrev pub flat_from : Scope → ℕ → List Part → List Statement
flat_from s n [] = []
flat_from s n (p ∷ ps) = part_of s n p ++ flat_from s (n + sites_of p) ps

pub count_append : (xs ys : List Part) → site_count (xs ++ ys) ≡ site_count xs + site_count ys
count_append [] ys = let e : site_count ys ≡ 0 + site_count ys = omega arith in e
count_append (x ∷ xs) ys =
    ap (λ t. sites_of x + t) (count_append xs ys) ∙ (let e : sites_of x + (site_count xs + site_count ys) ≡ sites_of x + site_count xs + site_count ys = omega arith in e)

flat_append : (s : Scope) (n : ℕ) (xs ys : List Part) → flat_from s n (xs ++ ys) ≡ flat_from s n xs ++ flat_from s (n + site_count xs) ys
flat_append s n [] ys = ap (λ m. flat_from s m ys) (let e : n ≡ n + 0 = omega arith in e)
flat_append s n (x ∷ xs) ys =
    ap (λ t. part_of s n x ++ t) (flat_append s (n + sites_of x) xs ys)
    ∙ sym (append_assoc (part_of s n x) (flat_from s (n + sites_of x) xs) (flat_from s (n + sites_of x + site_count xs) ys))
    ∙ ap (λ m. (part_of s n x ++ flat_from s (n + sites_of x) xs) ++ flat_from s m ys)
    (let e : n + sites_of x + site_count xs ≡ n + (sites_of x + site_count xs) = omega arith in e)

-- two lists of parts, each of which gives some statements
flat_two : (s : Scope) (n : ℕ) (a b : List Part) (xs ys : List Statement) →
    xs ≡ flat_from s n a → ys ≡ flat_from s (n + site_count a) b → xs ++ ys ≡ flat_from s n (a ++ b)
flat_two s n a b xs ys x y = rw (x, y) (sym (flat_append s n a b))

-- ---- arms

abbrev all_of_arm : Arm → List Statement
all_of_arm (Arm' case_ _ body) = within_block body

arms_all : (n : _) (row : Row_of-Branch n) → within_arms row ≡ flat_map all_of_arm (items-the_row-Arm n row)
arms_all n end_of-Branch = refl
arms_all n (more_of-Branch {n = m} (Arm' case_ _ body) rest) = ap (λ t. within_block body ++ t) (arms_all m rest)

hidden_arms : (as_ : List Arm) → within_arms (Forms.hidden-the_row-Arm-1 as_) ≡ flat_map all_of_arm as_
hidden_arms as_ = arms_all _ (Forms.hidden-the_row-Arm-1 as_) ∙ ap (flat_map all_of_arm) (items_hidden-the_row-Arm-1 as_)

within_switch : (v : Expression) (as_ : List Arm) → within (forms.Switch v as_) ≡ flat_map all_of_arm as_
unfolding Carrier.hidden
within_switch v as_ = rw (sym (hidden_arms as_)) refl

rolled : (c : Case) (b : List Statement) → all_of_arm (roll-Arm record { case = c; body = b }) ≡ all_of b
unfolding Carrier.hidden Carrier.roll roll-Arm
rolled c b = rw (sym (hidden_all b)) refl

-- ---- statements without blocks

call_inside : (s : Scope) (n : ℕ) (c : Callee) (values : List Expression) (b : Bool) →
    within (elim b [ true ↦ forms.Yield n values | false ↦ forms.Call n (callee_of (senses s) c) values ]) ≡ []
call_inside s n c values true = refl
call_inside s n c values false = refl

host_inside : (s : Scope) (h : Option Host) (results : List Kinded) (values : List Expression) → within (host_form s h results values) ≡ []
host_inside s (Some PutByte) results [] = refl
host_inside s (Some PutByte) results (v ∷ vs) = refl
host_inside s (Some GetByte) [] values = refl
host_inside s (Some GetByte) (k ∷ ks) values = refl
host_inside s (Some Yield) results values = refl
host_inside s None results values = refl

return_inside : (s : Scope) (exit : Option Exit) (values : List Expression) → within (return_form s exit values) ≡ []
return_inside s None values = refl
return_inside s (Some x) values = refl

-- ---- a body

abbrev own : StmtForm → ℕ
own f = elim (is_site f) [ true ↦ 1 | false ↦ 0 ]

abbrev nothing_before : (s : Scope) (n : ℕ) (ps : List Part) → flat_from s n ps ≡ flat_from s (n + 0) ps
nothing_before s n ps = ap (λ m. flat_from s m ps) (let e : n ≡ n + 0 = omega arith in e)

module _ (s : Scope) where
  mutual
    inside_is : (n : ℕ) (f : StmtForm) → within (form_of s n f) ≡ flat_from s (n + own f) (whats (parts_inside [] f))
    inside_is n (stmts.If' c _ body otherwise) =
        within_if (condition_of (senses s) c) (row_of s n body) (otherwise_of s (n + sites_in_row body) otherwise)
        ∙ flat_two s n (whats (parts_row [] body)) (whats (parts_otherwise [] otherwise)) _ _ (row_is n _ body) (otherwise_is (n + sites_in_row body) otherwise)
        ∙ ap (flat_from s n) (sym (whats_append (parts_row [] body) (parts_otherwise [] otherwise)))
        ∙ nothing_before s n (whats (parts_row [] body ++ parts_otherwise [] otherwise))
    inside_is n (stmts.Switch' range value _ arms) =
        within_switch (value_of (senses s) value) (arms_of s n (value_width s value) arms)
        ∙ arms_is n (value_width s value) _ arms ∙ nothing_before s n (whats (parts_of_arms [] arms))
    inside_is n (stmts.Span' key value _ body) =
        within_span (row_of s n body) ∙ row_is n _ body
        ∙ ap (flat_from s n) (alike_row [] (record { key = key; value = value } ∷ []) _ body)
        ∙ nothing_before s n (whats (parts_row (record { key = key; value = value } ∷ []) body))
    inside_is n (stmts.Assign to values) = refl
    inside_is n (stmts.Checked result operator left right flows) = refl
    inside_is n (stmts.Call results None callee actuals flows) = call_inside s n callee (values_of (senses s) actuals) (is_yield s callee)
    inside_is n (stmts.Call results (Some convention) callee actuals flows) = host_inside s (foreign_callee s callee) results (values_of (senses s) actuals)
    inside_is n (stmts.Jump callee actuals) = refl
    inside_is n (stmts.Return exit values) = return_inside s exit (values_of (senses s) (passed values))
    inside_is n (stmts.Label name) = refl
    inside_is n (stmts.Continuation name parameters) = refl
    inside_is n (stmts.Goto name) = refl
    inside_is n (stmts.Cut callee actuals flows) = refl
    inside_is n stmts.Empty = refl

    otherwise_is : (n : ℕ) (o : Otherwise) → all_of (otherwise_of s n o) ≡ flat_from s n (whats (parts_otherwise [] o))
    otherwise_is n NoElse = refl
    otherwise_is n (Else' _ body) = row_is n _ body
    otherwise_is n (ElseIf' _ (more_of-Stmt first past f rest)) =
        ap (λ t. counted first past f (form_of s n f) ∷ t) (append-nil (within (form_of s n f)) ∙ inside_is n f)

    part_is : (n : ℕ) (p : Part) → all_of (part_of s n p) ≡ flat_from s n (whats (part_within [] p))
    part_is n (parts.Local l) = refl
    part_is n (parts.Stmt' first past f) = ap (λ t. counted first past f (form_of s n f) ∷ t) (append-nil (within (form_of s n f)) ∙ inside_is n f)

    row_is : (n k : _) (row : Row_of-Part k) → all_of (row_of s n row) ≡ flat_from s n (whats (parts_row [] row))
    row_is n k end_of-Part = refl
    row_is n k (more_of-Part {n = m} p rest) =
        all_append (part_of s n p) (row_of s (n + sites_in_part p) rest)
        ∙ flat_two s n (whats (part_within [] p)) (whats (parts_row [] rest)) _ _ (part_is n p) (row_is (n + sites_in_part p) m rest)
        ∙ ap (flat_from s n) (sym (whats_append (part_within [] p) (parts_row [] rest)))

    arms_is : (n : ℕ) (width : Option Width) (k : _) (row : Row_of-Arm k) →
        flat_map all_of_arm (arms_of s n width row) ≡ flat_from s n (whats (parts_of_arms [] row))
    arms_is n width k end_of-Arm = refl
    arms_is n width k (more_of-Arm {n = m} first what _ body rest) =
        ap (λ t. t ++ flat_map all_of_arm (arms_of s (n + sites_in_row body) width rest)) (rolled (case_of s width what) (row_of s n body))
        ∙ flat_two s n (whats (parts_row [] body)) (whats (parts_of_arms [] rest)) _ _ (row_is n _ body) (arms_is (n + sites_in_row body) width m rest)
        ∙ ap (flat_from s n) (sym (whats_append (parts_row [] body) (parts_of_arms [] rest)))

  pub list_is : (n : ℕ) (ps : List Part) → all_of (statements_from s n ps) ≡ flat_from s n (whats (flat_map (part_within []) ps))
  list_is n [] = refl
  list_is n (p ∷ ps) =
      all_append (part_of s n p) (statements_from s (n + sites_in_part p) ps)
      ∙ flat_two s n (whats (part_within [] p)) (whats (flat_map (part_within []) ps)) _ _ (part_is n p) (list_is (n + sites_in_part p) ps)
      ∙ ap (flat_from s n) (sym (whats_append (part_within [] p) (flat_map (part_within []) ps)))

-- the statements of a procedure's body
pub procedure_is : (outer : Senses) (unit : ℕ) (around : List SpanTree) (p : ProcTree) →
    body_statements (procedure_of outer unit around p) ≡ flat_from (scope_of outer p) 0 (parts_of p.body)
procedure_is outer unit around p = body_all (procedure_of outer unit around p) ∙ list_is (scope_of outer p) 0 p.body.parts
