-- The sites of statements with what they hold, from those of their parts.
use Rattle.std.proofs.Common.{◌≡◌, arith, ap₂, List, [], ◌∷◌, ◌++◌, ℕ, flat_map, map, append_assoc, refl, ap, sym, ◌∙◌}
use Rattle.std.proofs.lemmas.List.Concat.{flat_map-append}
use Rattle.std.specs.List.{zip}
use Rattle.std.specs.Prelude.{true}
use denote.Hole.Carrier as Carrier
use mathlib.Core.Former.{Count}
use Rattle.cmm_program.specs.declared.expression.Condition.{Condition}
use Rattle.cmm_program.specs.declared.expression.Expression.{Expression}
use Rattle.cmm_program.specs.declared.procedure.Cont.{Cont}
use Rattle.cmm_program.specs.declared.procedure.Proc.{Proc}
use Rattle.cmm_program.specs.declared.statement.Arm.{Arm, Arm', out-Arm, Row_of-Statement, end_of-Statement, more_of-Statement}
use Rattle.cmm_program.specs.declared.statement.Form.{Form, Row_of-Arm, end_of-Arm, more_of-Arm, items-the_row-Arm, items_hidden-the_row-Arm-1}
use Rattle.cmm_program.specs.declared.statement.Form.TheBlock.{hidden-the_row-Statement-0, hidden-the_row-Arm-1}
use Rattle.cmm_program.specs.declared.statement.Form.TheVariants as form
use Rattle.cmm_program.specs.declared.statement.Form.TheVariants.{If, Switch, Span}
use Rattle.cmm_program.specs.declared.statement.Statement.{Statement}
use Rattle.cmm_program.specs.Bodies.{statements, within, within_arms, within_block}
use Rattle.cmm_program.specs.Numbering.{site_number}
use Rattle.cmm_graph.specs.declared.number.NodeId.{NodeId}
use Rattle.cmm_flow.specs.Waiting.{waiting_sites}
use Rattle.cmm_flow.specs.inside.Blocks.{is_simple}
use Rattle.cmm_flow.specs.inside.Fronts.{copy_in, goto_nodes}
use Rattle.cmm_flow.specs.inside.LayingBlocks.{arm_sites, block_sites, form_sites}
use Rattle.cmm_flow.proofs.Blocks.{shown_statements}
use Rattle.cmm_flow.proofs.Counting.{row_statements}

abbrev number : Statement → List ℕ
number s = site_number s.form

abbrev numbers : List Statement → List ℕ
numbers ss = flat_map number ss

row_sites : {i : _} (row : Row_of-Statement i) → numbers (within_block row) ≡ block_sites (statements row)
row_sites end_of-Statement = refl
row_sites (more_of-Statement tokens form rest) =
    ap (λ ns. site_number form ++ ns) (flat_map-append number (within form) (within_block rest) ∙ ap (λ ns. numbers (within form) ++ ns) (row_sites rest))
    ∙ sym (append_assoc (site_number form) (numbers (within form)) (block_sites (statements rest)))

block_row : (xs : List Statement) → numbers (within_block (hidden-the_row-Statement-0 xs)) ≡ block_sites xs
block_row xs = row_sites (hidden-the_row-Statement-0 xs) ∙ ap block_sites (row_statements xs)

pub span_sites : (body : List Statement) → form_sites (Span body) ≡ block_sites body
unfolding hidden-the_row-Statement-0 Carrier.hidden
span_sites body = block_row body

pub if_sites : (condition : Condition) (then_ otherwise : List Statement) → form_sites (If condition then_ otherwise) ≡ block_sites then_ ++ block_sites otherwise
unfolding hidden-the_row-Statement-0 Carrier.hidden
if_sites condition then_ otherwise =
    flat_map-append number (within_block (hidden-the_row-Statement-0 then_)) (within_block (hidden-the_row-Statement-0 otherwise))
    ∙ ap₂ (λ xs ys. xs ++ ys) (block_row then_) (block_row otherwise)

arms_row : (i : Count) (row : Row_of-Arm i) → numbers (within_arms row) ≡ arm_sites (items-the_row-Arm i row)
unfolding out-Arm Carrier.out
arms_row i end_of-Arm = refl
arms_row i (more_of-Arm (Arm' case x body) rest) =
    flat_map-append number (within_block body) (within_arms rest)
    ∙ ap₂ (λ xs ys. xs ++ ys) (row_sites body ∙ ap block_sites (sym (shown_statements x body))) (arms_row _ rest)

pub switch_sites : (value : Expression) (arms : List Arm) → form_sites (Switch value arms) ≡ arm_sites arms
unfolding hidden-the_row-Arm-1 Carrier.hidden
switch_sites value arms = arms_row _ (hidden-the_row-Arm-1 arms) ∙ ap arm_sites (items_hidden-the_row-Arm-1 arms)

-- a statement without blocks holds none
pub simple_sites : (f : Form) → is_simple f ≡ true → form_sites f ≡ site_number f
simple_sites (form.Assign to values) is = refl
simple_sites (form.Call site callee actuals) is = refl
simple_sites (form.Yield site values) is = refl
simple_sites (form.Checked site op width left right) is = refl
simple_sites (form.PutByte value) is = refl
simple_sites (form.GetByte target) is = refl
simple_sites (form.Jump callee actuals) is = refl
simple_sites (form.Return exit alternates values) is = refl
simple_sites (form.Cut to values own) is = refl
simple_sites f is = grind (arith, is)

-- ---- the nodes in front

pub gotos_wait : (to : List NodeId) → waiting_sites (goto_nodes to) ≡ []
gotos_wait [] = refl
gotos_wait (n ∷ to) = gotos_wait to

pub copies_wait : (q : Proc) (conts : List Cont) (to : List NodeId) → waiting_sites (map (λ c. copy_in q c.0 c.1) (zip conts to)) ≡ []
copies_wait q [] to = refl
copies_wait q (c ∷ conts) [] = refl
copies_wait q (c ∷ conts) (n ∷ to) = copies_wait q conts to
