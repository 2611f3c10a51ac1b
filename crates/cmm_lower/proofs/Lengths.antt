-- Counts of tokens, part by part and block by block.
use Rattle.std.proofs.Common.{◌≡◌, ℕ, ◌+◌, ◌-◌, ◌<◌, length, take, get_or, refl, sym, ap, ◌∙◌, arith, List, [], ◌∷◌, ◌++◌, Option}
use denote.Hole.Carrier as Carrier
use Rattle.cmm_ast.specs.declared.expression.Expr.{Expr}
use Rattle.cmm_ast.specs.declared.expression.Primary.{Primary}
use Rattle.cmm_ast.specs.declared.statement.Arm.{Arm}
use Rattle.cmm_ast.specs.declared.statement.Block.{Block, Row_of-Part, end_of-Part, more_of-Part, items-the_row-Part, items_hidden-the_row-Part-0, items_shown-the_row-Part-0}
use Rattle.cmm_ast.specs.declared.statement.Otherwise.{Otherwise}
use Rattle.cmm_ast.specs.declared.statement.Otherwise.TheVariants as otherwises
use Rattle.cmm_ast.specs.declared.statement.Otherwise.TheBlock as OtherwiseForms
use Rattle.cmm_ast.specs.declared.statement.Part.{Part}
use Rattle.cmm_ast.specs.declared.statement.Span.{Span as SwitchSpan}
use Rattle.cmm_ast.specs.declared.statement.Stmt.{Stmt}
use Rattle.cmm_ast.specs.declared.statement.StmtForm.{StmtForm, Row_of-Arm, end_of-Arm, more_of-Arm, items-the_row-Arm, items_hidden-the_row-Arm-2}
use Rattle.cmm_ast.specs.declared.statement.StmtForm.TheVariants as stmts
use Rattle.cmm_static_semantics.proofs.Shared.{taken}
use Rattle.cmm_elaboration.specs.Bodies.{blocks_length, otherwise_length, part_length, row_length}
use Rattle.cmm_elaboration.specs.Bodies as meaning
use Rattle.cmm_lower.specs.inside.Lengths.{arm_length, arms_length, parts_length, total}

-- ---- one after another

total_append : {A : Type 0} (f : A → ℕ) (xs ys : List A) → total f (xs ++ ys) ≡ total f xs + total f ys
total_append f [] ys = omega arith
total_append f (x ∷ xs) ys = ap (λ n. f x + n) (total_append f xs ys) ∙ (let e : f x + (total f xs + total f ys) ≡ f x + total f xs + total f ys = omega arith in e)

-- a turn of a loop that takes off what each item has
pub left_next : {A : Type 0} (f : A → ℕ) (xs : List A) (i : ℕ) (x : A) (tokens left next : ℕ) → i < length xs → x ≡ get_or xs i x →
    left ≡ tokens - total f (take i xs) → next ≡ left - f x → next ≡ tokens - total f (take (i + 1) xs)
left_next f xs i x tokens left next within is so_far more =
    let whole : total f (take (i + 1) xs) ≡ total f (take i xs) + (f x + 0) = ap (total f) (taken xs i x within is) ∙ total_append f (take i xs) (x ∷ []) in omega arith

-- ---- blocks

unfoldable opened : Unit {0}
unfolding OtherwiseForms.hidden-the_row-Part-0 OtherwiseForms.hidden-the_row-Stmt-1 OtherwiseForms.hidden-the_row-Arm-2 Carrier.hidden Carrier.roll
opened = tt

row_is : (n : _) (row : Row_of-Part n) → row_length row ≡ parts_length (items-the_row-Part n row)
row_is n end_of-Part = refl
row_is n (more_of-Part {n = m} p rest) = ap (λ t. part_length p + t) (row_is m rest)

hidden_is : (ps : List Part) → row_length (OtherwiseForms.hidden-the_row-Part-0 ps) ≡ parts_length ps
hidden_is ps = row_is _ (OtherwiseForms.hidden-the_row-Part-0 ps) ∙ ap parts_length (items_hidden-the_row-Part-0 ps)

shown_is : (x : _) (body : Row_of-Part _) → parts_length (OtherwiseForms.shown-the_row-Part-0 x body) ≡ row_length body
shown_is x body = ap parts_length (items_shown-the_row-Part-0 x body) ∙ sym (row_is _ body)

arms_are : (n : _) (row : Row_of-Arm n) → meaning.arms_length row ≡ arms_length (items-the_row-Arm n row)
unfolding opened
arms_are n end_of-Arm = refl
arms_are n (more_of-Arm {n = m} first what x body rest) =
    ap (λ t. row_length body + t) (arms_are m rest) ∙ ap (λ t. t + arms_length (items-the_row-Arm m rest)) (sym (shown_is _ body))

if_is : (c : Expr) (b : Block) (o : Otherwise) → blocks_length (stmts.If c b o) ≡ parts_length b.parts + otherwise_length o
unfolding opened
if_is c b o = ap (λ n. n + otherwise_length o) (hidden_is b.parts)

switch_is : (over : Option SwitchSpan) (v : Expr) (as_ : List Arm) → blocks_length (stmts.Switch over v as_) ≡ arms_length as_
unfolding opened
switch_is over v as_ = arms_are _ (OtherwiseForms.hidden-the_row-Arm-2 as_) ∙ ap arms_length (items_hidden-the_row-Arm-2 as_)

span_is : (key : Primary) (v : Expr) (b : Block) → blocks_length (stmts.Span key v b) ≡ parts_length b.parts
unfolding opened
span_is key v b = hidden_is b.parts

else_is : (b : Block) → otherwise_length (otherwises.Else b) ≡ parts_length b.parts
unfolding opened
else_is b = hidden_is b.parts

else_if_is : (s : Stmt) → otherwise_length (otherwises.ElseIf s) ≡ s.past - s.token
unfolding opened
else_if_is s = refl

-- ---- what is left without those in the blocks of a form

pub if_left : (tokens left next : ℕ) (f : StmtForm) (c : Expr) (b : Block) (o : Otherwise) → f ≡ stmts.If c b o → left ≡ tokens - parts_length b.parts → next ≡ left - otherwise_length o →
    next ≡ tokens - blocks_length f
if_left tokens left next f c b o is first second = let whole : blocks_length f ≡ parts_length b.parts + otherwise_length o = ap blocks_length is ∙ if_is c b o in omega arith

pub switch_left : (tokens left : ℕ) (f : StmtForm) (over : Option SwitchSpan) (v : Expr) (as_ : List Arm) → f ≡ stmts.Switch over v as_ → left ≡ tokens - arms_length as_ →
    left ≡ tokens - blocks_length f
switch_left tokens left f over v as_ is e = e ∙ ap (λ n. tokens - n) (sym (ap blocks_length is ∙ switch_is over v as_))

pub span_left : (tokens left : ℕ) (f : StmtForm) (key : Primary) (v : Expr) (b : Block) → f ≡ stmts.Span key v b → left ≡ tokens - parts_length b.parts → left ≡ tokens - blocks_length f
span_left tokens left f key v b is e = e ∙ ap (λ n. tokens - n) (sym (ap blocks_length is ∙ span_is key v b))

pub else_left : (tokens left : ℕ) (o : Otherwise) (b : Block) → o ≡ otherwises.Else b → left ≡ tokens - parts_length b.parts → left ≡ tokens - otherwise_length o
else_left tokens left o b is e = e ∙ ap (λ n. tokens - n) (sym (ap otherwise_length is ∙ else_is b))

pub else_if_left : (tokens left : ℕ) (o : Otherwise) (s t : Stmt) → o ≡ otherwises.ElseIf s → t ≡ s → left ≡ tokens - (t.past - t.token) → left ≡ tokens - otherwise_length o
else_if_left tokens left o s t is same e = e ∙ ap (λ q. tokens - (q.past - q.token)) same ∙ ap (λ n. tokens - n) (sym (ap otherwise_length is ∙ else_if_is s))
