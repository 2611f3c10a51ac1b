-- What statements, blocks and parts take, in terms of the parts that a tree is made of.
use Rattle.std.proofs.Common.{◌≡◌, ℕ, nat_le, List, [], ◌∷◌, ◌++◌, map, Option, Some, None, refl, sym, ap, ◌∙◌, arith}
use Rattle.std.proofs.lemmas.Bool.Decides.{nat_tests}
use denote.Hole.Carrier as Carrier
use Rattle.cmm_lexer.specs.declared.keyword.Keyword.{Keyword}
use Rattle.cmm_lexer.specs.declared.keyword.Keyword.TheVariants.{Also, Else, If, Invariant, Span, Switch, To}
use Rattle.cmm_lexer.specs.declared.symbol.Symbol.TheVariants as sign
use Rattle.cmm_ast.specs.declared.token.Ident.{Ident}
use Rattle.cmm_ast.specs.declared.token.Text.{Text}
use Rattle.cmm_ast.specs.declared.expression.Expr.{Expr}
use Rattle.cmm_ast.specs.declared.expression.ExprForm.{ExprForm, more_of-Expr}
use Rattle.cmm_ast.specs.declared.expression.ExprForm.TheVariants.{Prim, Memory as InMemory}
use Rattle.cmm_ast.specs.declared.expression.Memory.{Memory, Memory'}
use Rattle.cmm_ast.specs.declared.expression.PrimForm.TheVariants.{Name as NameOf, Bracketed'}
use Rattle.cmm_ast.specs.declared.expression.Primary.{Primary}
use Rattle.cmm_ast.specs.declared.expression.TypeForm.{TypeForm}
use Rattle.cmm_ast.specs.declared.expression.TypeForm.TheVariants.{Bits, Named as OfName}
use Rattle.cmm_ast.specs.declared.expression.TypeName.{TypeName}
use Rattle.cmm_ast.specs.declared.procedure.Room.{Room}
use Rattle.cmm_ast.specs.declared.statement.Arm.{Arm}
use Rattle.cmm_ast.specs.declared.statement.Block.{Block, Row_of-Part, end_of-Part, more_of-Part, items-the_row-Part, items_hidden-the_row-Part-0, items_shown-the_row-Part-0}
use Rattle.cmm_ast.specs.declared.statement.CalleeForm.{CalleeForm}
use Rattle.cmm_ast.specs.declared.statement.CalleeForm.TheVariants as callees
use Rattle.cmm_ast.specs.declared.statement.FlowForm.{FlowForm}
use Rattle.cmm_ast.specs.declared.statement.Lvalue.{Lvalue}
use Rattle.cmm_ast.specs.declared.statement.Lvalue.TheVariants as lvalues
use Rattle.cmm_ast.specs.declared.statement.Otherwise.{Otherwise}
use Rattle.cmm_ast.specs.declared.statement.Otherwise.TheVariants as otherwises
use Rattle.cmm_ast.specs.declared.statement.Otherwise.TheBlock as OtherwiseForms
use Rattle.cmm_ast.specs.declared.statement.Part.{Part}
use Rattle.cmm_ast.specs.declared.statement.Span.{Span as SwitchSpan}
use Rattle.cmm_ast.specs.declared.statement.Stmt.{Stmt}
use Rattle.cmm_ast.specs.declared.statement.StmtForm.{Row_of-Arm, end_of-Arm, more_of-Arm, items-the_row-Arm, items_hidden-the_row-Arm-2}
use Rattle.cmm_ast.specs.declared.statement.StmtForm.TheVariants as stmts
use Rattle.cmm_grammar.specs.Taking.{Takes, ◌⨾◌, nothing, token, is_name, keyword, symbol, here, opening, enclosed, outermost, round, square, braces, optional, commas, listed, may_comma}
use Rattle.cmm_grammar.specs.ExpressionGrammar as grammar
use Rattle.cmm_grammar.specs.ExpressionGrammar.{whole, whole_prim, aligned_by, expr_form, level_of, operand}
use Rattle.cmm_grammar.specs.StatementGrammar as bodies
use Rattle.cmm_grammar.specs.StatementGrammar.{case, switch_span, local_form, stmt_form, otherwise_, chained, part_row, part_, arm_row, block}
use Rattle.cmm_grammar.specs.PartReading.{called}
use Rattle.cmm_grammar.specs.TargetReading.{Targets, Names, Lvalues, Results, with_lvalue, callee_of_form, lvalues_of, results_of}
use Rattle.cmm_grammar.specs.ProcedureReading.{invariant_by}
use Rattle.cmm_grammar.specs.StatementReading.{PartForm, OfLocal, OfStmt, part_of, memory_token}
use Rattle.cmm_grammar.proofs.Takings.{Apart, takes_assoc, takes_assoc3, takes_nothing, many_to, token_apart, here_apart, both_apart, outermost_brackets}
use Rattle.cmm_grammar.proofs.ExpressionForms.{bound_by, here_twice}

-- what the laws of trees unfold beside definitions that always unfold
unfoldable pub opened : Unit {0}
unfolding OtherwiseForms.hidden-the_row-Part-0 OtherwiseForms.hidden-the_row-Stmt-1 Carrier.hidden Carrier.roll
opened = tt

pub form_of_if : (c : Expr) (b : Block) (o : Otherwise) → stmt_form (stmts.If c b o) ≡ (keyword If ⨾ whole c ⨾ block b ⨾ otherwise_ o)
unfolding opened
form_of_if c b o = refl

pub chained_if : (c : Expr) (b : Block) (o : Otherwise) → chained (stmts.If c b o) ≡ (opening (keyword If) ⨾ whole c ⨾ block b ⨾ otherwise_ o)
unfolding opened
chained_if c b o = refl

pub form_of_span : (key : Primary) (v : Expr) (b : Block) → stmt_form (stmts.Span key v b) ≡ (keyword Span ⨾ whole_prim key ⨾ whole v ⨾ block b)
unfolding opened
form_of_span key v b = refl

pub form_of_else : (b : Block) → otherwise_ (otherwises.Else b) ≡ (keyword Else ⨾ block b)
unfolding opened
form_of_else b = refl

pub form_of_else_if : (s : Stmt) → otherwise_ (otherwises.ElseIf s) ≡ (keyword Else ⨾ enclosed (here s.token ⨾ chained s.form ⨾ here s.past))
unfolding opened
form_of_else_if s = refl

abbrev pub form_is : PartForm → Takes
form_is (OfLocal form) = local_form form
form_is (OfStmt form) = stmt_form form

pub part_is : (token past : ℕ) (form : PartForm) → part_ (part_of token past form) ≡ (here token ⨾ form_is form ⨾ here past)
unfolding opened
part_is token past (OfLocal form) = refl
part_is token past (OfStmt form) = refl

part_rows : (n : _) (row : Row_of-Part n) → part_row row ≡ many_to part_ (items-the_row-Part n row) nothing
part_rows n end_of-Part = refl
part_rows n (more_of-Part {n = m} p rest) = ap (λ t. part_ p ⨾ t) (part_rows m rest)

hidden_parts : (ps : List Part) → part_row (OtherwiseForms.hidden-the_row-Part-0 ps) ≡ many_to part_ ps nothing
hidden_parts ps = part_rows _ (OtherwiseForms.hidden-the_row-Part-0 ps) ∙ ap (λ xs. many_to part_ xs nothing) (items_hidden-the_row-Part-0 ps)

pub block_is : (ps : List Part) → block (record { parts = ps }) ≡ braces (many_to part_ ps nothing)
unfolding opened
block_is ps = ap braces (hidden_parts ps)

abbrev pub arm_ : Arm → Takes
arm_ a = here a.token ⨾ case a.case ⨾ block a.body

shown_is : (x : _) (body : Row_of-Part _) → part_row (OtherwiseForms.hidden-the_row-Part-0 (OtherwiseForms.shown-the_row-Part-0 x body)) ≡ part_row body
shown_is x body =
    hidden_parts (OtherwiseForms.shown-the_row-Part-0 x body) ∙ ap (λ xs. many_to part_ xs nothing) (items_shown-the_row-Part-0 x body)
    ∙ sym (part_rows _ body)

arm_rows : (n : _) (row : Row_of-Arm n) → arm_row row ≡ many_to arm_ (items-the_row-Arm n row) nothing
unfolding opened
arm_rows n end_of-Arm = refl
arm_rows n (more_of-Arm {n = m} first what _ body rest) =
    ap (λ t. here first ⨾ case what ⨾ braces (part_row body) ⨾ t) (arm_rows m rest)
    ∙ ap (λ t. here first ⨾ case what ⨾ braces t ⨾ many_to arm_ (items-the_row-Arm m rest) nothing) (sym (shown_is _ body))
    ∙ sym (takes_assoc3 (here first) (case what) (block (record { parts = OtherwiseForms.shown-the_row-Part-0 _ body })) (many_to arm_ (items-the_row-Arm m rest) nothing))

pub arms_are : (as_ : List Arm) → arm_row (OtherwiseForms.hidden-the_row-Arm-2 as_) ≡ many_to arm_ as_ nothing
arms_are as_ = arm_rows _ (OtherwiseForms.hidden-the_row-Arm-2 as_) ∙ ap (λ xs. many_to arm_ xs nothing) (items_hidden-the_row-Arm-2 as_)

pub form_of_switch : (over : Option SwitchSpan) (v : Expr) (as_ : List Arm) →
    stmt_form (stmts.Switch over v as_) ≡ (keyword Switch ⨾ optional switch_span over ⨾ whole v ⨾ braces (many_to arm_ as_ nothing))
unfolding opened
form_of_switch over v as_ = ap (λ t. keyword Switch ⨾ optional switch_span over ⨾ whole v ⨾ braces t) (arms_are as_)

-- ---- types and words in memory

form_apart : (form : TypeForm) → Apart (grammar.type_form form)
form_apart (Bits width) = token_apart _
form_apart (OfName bytes) = token_apart _

-- no operator is in a type
pub outer_type : (t : TypeName) (q : Takes) → outermost (grammar.type_name t ⨾ q) ≡ (grammar.type_name t ⨾ outermost q)
outer_type t q = (both_apart (here_apart t.token) (form_apart t.form)).apart q

pub memory_here : (m : Memory) → (here (memory_token m) ⨾ grammar.whole_memory m) ≡ grammar.whole_memory m
memory_here (Memory' width _ address aligned) =
    let rest : Takes = square (operand 0 address ⨾ optional aligned_by aligned) in
    sym ((here_apart width.token).apart (grammar.type_name width ⨾ rest))
    ∙ ap outermost
    (ap (λ t. here width.token ⨾ t) (takes_assoc (here width.token) (grammar.type_form width.form) rest)
    ∙ here_twice width.token (grammar.type_form width.form ⨾ rest) ∙ sym (takes_assoc (here width.token) (grammar.type_form width.form) rest))

-- ---- parts of statements

pub called_is : (v : Lvalue) → bodies.callee_form (called v) ≡ bodies.lvalue v
called_is (lvalues.Name name) = refl
called_is (lvalues.Memory m) = refl

-- an annotation, and the comma that may follow it
abbrev pub flow_is : FlowForm → Takes
flow_is form = bodies.flow_form form ⨾ may_comma

pub named_same : (verb : Keyword) (names : List Ident) →
    (bodies.names_to verb names ⨾ may_comma) ≡ (keyword Also ⨾ keyword verb ⨾ keyword To ⨾ listed grammar.ident names)
named_same verb names =
    takes_assoc (keyword Also) (keyword verb ⨾ keyword To ⨾ commas grammar.ident names) may_comma
    ∙ ap (λ t. keyword Also ⨾ t)
    (takes_assoc (keyword verb) (keyword To ⨾ commas grammar.ident names) may_comma
    ∙ ap (λ t. keyword verb ⨾ t) (takes_assoc (keyword To) (commas grammar.ident names) may_comma))

abbrev pub targets_are : Targets → Takes
targets_are (Names names) = commas grammar.ident names
targets_are (Lvalues to) = commas bodies.lvalue to
targets_are (Results results) = commas bodies.kinded results

-- one more item of a list
pub commas_more : {A : Type 0} (p : A → Takes) (a : A) (as_ : List A) (b : A) →
    commas p (a ∷ (as_ ++ (b ∷ []))) ≡ (commas p (a ∷ as_) ⨾ symbol sign.Comma ⨾ p b)
commas_more p a [] b = refl
commas_more p a (c ∷ rest) b =
    ap (λ t. p a ⨾ symbol sign.Comma ⨾ t) (commas_more p c rest b)
    ∙ sym (takes_assoc3 (p a) (symbol sign.Comma) (commas p (c ∷ rest)) (symbol sign.Comma ⨾ p b))

commas_map : {A B : Type 0} (p : B → Takes) (f : A → B) (as_ : List A) → commas p (map f as_) ≡ commas (λ a. p (f a)) as_
commas_map p f [] = refl
commas_map p f (a ∷ []) = refl
commas_map p f (a ∷ b ∷ rest) = ap (λ t. p (f a) ⨾ symbol sign.Comma ⨾ t) (commas_map p f (b ∷ rest))

pub lvalues_same : (names : List Ident) → commas bodies.lvalue (lvalues_of names) ≡ commas grammar.ident names
lvalues_same names = commas_map bodies.lvalue lvalues.Name names

pub results_same : (names : List Ident) → commas bodies.kinded (results_of names) ≡ commas grammar.ident names
results_same names = commas_map bodies.kinded (λ name. record { kind = None; name = name }) names

abbrev pub After_comma : Targets → Takes → Takes
After_comma t k = targets_are t ⨾ symbol sign.Comma ⨾ k

-- names and then one more, or a word in memory
pub with_lvalue_is : (a : Ident) (as_ : List Ident) (to : Lvalue) →
    targets_are (with_lvalue (a ∷ as_) to) ≡ (commas grammar.ident (a ∷ as_) ⨾ symbol sign.Comma ⨾ bodies.lvalue to)
with_lvalue_is a as_ (lvalues.Name n) = commas_more grammar.ident a as_ n
with_lvalue_is a as_ (lvalues.Memory m) =
    commas_more bodies.lvalue (lvalues.Name a) (lvalues_of as_) (lvalues.Memory m)
    ∙ ap (λ t. t ⨾ symbol sign.Comma ⨾ bodies.lvalue (lvalues.Memory m)) (lvalues_same (a ∷ as_))

abbrev pub After_assign : Targets → Takes → Takes
After_assign t k = targets_are t ⨾ symbol sign.Assign ⨾ k

pub assigned_results : (a : Ident) (as_ : List Ident) (k : Takes) →
    (targets_are (Names (a ∷ as_)) ⨾ symbol sign.Assign ⨾ k) ≡ (bodies.results (results_of (a ∷ as_)) ⨾ k)
assigned_results a as_ k =
    ap (λ t. t ⨾ symbol sign.Assign ⨾ k) (sym (results_same (a ∷ as_)))
    ∙ sym (takes_assoc (commas bodies.kinded (results_of (a ∷ as_))) (symbol sign.Assign) k)

-- the callee that an expression is, where operators are counted anew after it
pub called_form : (n : ℕ) (form : ExprForm) (c : CalleeForm) → callee_of_form n form ≡ Some c → (k : Takes) →
    (outermost (here n ⨾ grammar.expr_form form) ⨾ outermost k) ≡ ((here n ⨾ bodies.callee_form c) ⨾ outermost k)
called_form n (Prim (NameOf bytes)) c is k =
    let same : callees.Name (record { name = bytes; token = n }) ≡ c = cc in
    (both_apart (here_apart n) (token_apart (is_name bytes))).apart (outermost k)
    ∙ ap (λ t. t ⨾ outermost k) (sym (here_twice n (token (is_name bytes)))) ∙ ap (λ c. (here n ⨾ bodies.callee_form c) ⨾ outermost k) same
called_form n (Prim (Bracketed' _ (more_of-Expr first form rest))) c is k =
    let same : callees.Bracketed (record { token = first; form = form }) ≡ c = cc in
    ap (λ t. outermost (here n ⨾ round t) ⨾ outermost k) (bound_by (nat_le 0 (level_of form)) (here first ⨾ expr_form form) (grind (arith, nat_tests)))
    ∙ ap (λ t. t ⨾ outermost k) ((here_apart n).apart (round (here first ⨾ expr_form form)))
    ∙ ap (λ t. (here n ⨾ t) ⨾ outermost k) (outermost_brackets sign.Open (here first ⨾ expr_form form) sign.Close)
    ∙ ap (λ c. (here n ⨾ bodies.callee_form c) ⨾ outermost k) same
called_form n (InMemory m) c is k =
    let same : callees.Memory m ≡ c = cc in
    ap (λ t. t ⨾ outermost k) ((here_apart n).apart (grammar.memory m)) ∙ ap (λ c. (here n ⨾ bodies.callee_form c) ⨾ outermost k) same
called_form n _ c is k = absurd cc

-- ---- procedures

pub invariant_by_is : (first : ℕ) (kind : Option Text) →
    bodies.modifiers (invariant_by first kind) ≡ (here first ⨾ keyword Invariant ⨾ optional grammar.text kind)
invariant_by_is first (Some kind) = refl
invariant_by_is first None = ap (λ t. here first ⨾ t) (sym (takes_nothing (keyword Invariant)))

abbrev pub room_is : Room → Takes
room_is r = here r.token ⨾ bodies.room_form r.form
