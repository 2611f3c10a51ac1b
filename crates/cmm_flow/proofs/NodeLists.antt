-- The nodes of constructs, from those of their parts.
use Rattle.std.proofs.Common.{◌≡◌, ℕ, suc, true, false, Some, List, [], ◌∷◌, ◌++◌, length, refl, sym, ap, ◌∙◌}
use denote.Hole.Carrier as Carrier
use Rattle.cmm_words.specs.Words.{is_division}
use Rattle.cmm_words.specs.declared.operators.Op1.{Op1}
use Rattle.cmm_words.specs.declared.operators.Op2.{Op2}
use Rattle.cmm_words.specs.declared.width.Width.{Width}
use Rattle.cmm_program.specs.declared.expression.Condition.{Condition}
use Rattle.cmm_program.specs.declared.expression.Condition.TheBlock as Conditions
use Rattle.cmm_program.specs.declared.expression.Condition.TheVariants as c
use Rattle.cmm_program.specs.declared.expression.Expression.{Expression}
use Rattle.cmm_program.specs.declared.expression.Expression.TheBlock as Expressions
use Rattle.cmm_program.specs.declared.expression.Expression.TheVariants as e
use Rattle.cmm_program.specs.declared.procedure.Proc.{Proc}
use Rattle.cmm_program.specs.declared.procedure.Site.{Site}
use Rattle.cmm_program.specs.declared.statement.Form.TheVariants as form
use Rattle.cmm_program.specs.declared.statement.Lvalue.{Lvalue}
use Rattle.cmm_program.specs.declared.statement.Lvalue.TheVariants as lvalue
use Rattle.cmm_program.specs.declared.statement.Statement.{Statement}
use Rattle.cmm_graph.specs.declared.node.Node.{Node}
use Rattle.cmm_graph.specs.declared.node.NodeKind.{NodeKind}
use Rattle.cmm_graph.specs.declared.node.NodeKind.TheVariants.{CopyIn}
use Rattle.cmm_graph.specs.declared.number.NodeId.{NodeId}
use Rattle.cmm_graph.specs.declared.operand.Operand.{Operand}
use Rattle.cmm_flow.specs.declared.builder.Builder.{Builder}
use Rattle.cmm_flow.specs.Code.{IsNode, to_temporary}
use Rattle.cmm_flow.specs.Operands.{operand_of, temporary}
use Rattle.cmm_flow.specs.inside.Laying.{Lays, LaysNode}
use Rattle.cmm_flow.specs.inside.Nodes.{goto, nodes_of_address, nodes_of_addresses, nodes_of_assignment, nodes_of_exits, nodes_of_form, nodes_of_guard, nodes_of_guard_if, nodes_of_operand, nodes_of_operands, nodes_of_parts, nodes_of_several, nodes_of_stores, nodes_of_test, nodes_of_two, nodes_of_value, nodes_of_values, nowhere, stored}
use Rattle.cmm_flow.specs.inside.Parts.{store_node, store_tokens}

pub same_node : {tokens count : ℕ} {kind other : NodeKind} → tokens ≡ count → kind ≡ other →
    ◌≡◌ {A = Node} record { tokens = tokens; kind = kind } (record { tokens = count; kind = other })
same_node {tokens = tokens} {count = count} {kind = kind} {other = other} counts kinds =
    ap (λ (t : ℕ). record { tokens = t; kind = kind }) counts ∙ ap (λ (k : NodeKind). record { tokens = count; kind = k }) kinds

-- ---- the parts of each operator

module _ (base : ℕ) where
  pub nodes_of_load : (width : Width) (aligned : ℕ) (a : Expression) → nodes_of_operand base a ≡ nodes_of_parts base (e.Load width aligned a)
  unfolding Expressions.hidden-the_row-Expression-0 Carrier.hidden
  nodes_of_load width aligned a = refl

  pub nodes_of_unary : (op : Op1) (width : Width) (a : Expression) → nodes_of_operand base a ≡ nodes_of_parts base (e.Unary op width a)
  unfolding Expressions.hidden-the_row-Expression-0 Carrier.hidden
  nodes_of_unary op width a = refl

  pub nodes_of_binary : (op : Op2) (width : Width) (a b : Expression) →
      nodes_of_operand base a ++ nodes_of_operand (suc base) b ≡ nodes_of_parts base (e.Binary op width a b)
  unfolding Expressions.hidden-the_row-Expression-0 Carrier.hidden
  nodes_of_binary op width a b = refl

  pub nodes_of_sign_extend : (from to : Width) (a : Expression) → nodes_of_operand base a ≡ nodes_of_parts base (e.SignExtend from to a)
  unfolding Expressions.hidden-the_row-Expression-0 Carrier.hidden
  nodes_of_sign_extend from to a = refl

  pub nodes_of_low_bits : (from to : Width) (a : Expression) → nodes_of_operand base a ≡ nodes_of_parts base (e.LowBits from to a)
  unfolding Expressions.hidden-the_row-Expression-0 Carrier.hidden
  nodes_of_low_bits from to a = refl

  pub nodes_of_zero_extend : (from to : Width) (a : Expression) → nodes_of_parts base a ≡ nodes_of_parts base (e.ZeroExtend from to a)
  unfolding Expressions.hidden-the_row-Expression-0 Carrier.hidden
  nodes_of_zero_extend from to a = refl

-- ---- conditions

pub nodes_of_not : (a : Condition) → nodes_of_test a ≡ nodes_of_test (c.Not a)
unfolding Conditions.hidden-the_row-Condition-0 Carrier.hidden
nodes_of_not a = refl

pub nodes_of_both : (a b : Condition) → nodes_of_test a ++ nodes_of_test b ≡ nodes_of_test (c.Both a b)
unfolding Conditions.hidden-the_row-Condition-0 Carrier.hidden
nodes_of_both a b = refl

pub nodes_of_either : (a b : Condition) → nodes_of_test a ++ nodes_of_test b ≡ nodes_of_test (c.Either a b)
unfolding Conditions.hidden-the_row-Condition-0 Carrier.hidden
nodes_of_either a b = refl

-- ---- lists

pub operands_more : {es rest : List Expression} {x : Expression} {base next : ℕ} → es ≡ x ∷ rest → next ≡ suc base →
    nodes_of_operand base x ++ nodes_of_operands next rest ≡ nodes_of_operands base es
operands_more {rest = rest} {x = x} {base = base} same next =
    ap (λ n. nodes_of_operand base x ++ nodes_of_operands n rest) next ∙ sym (ap (nodes_of_operands base) same)

pub values_more : {es rest : List Expression} {x : Expression} {base next : ℕ} → es ≡ x ∷ rest → next ≡ suc base →
    nodes_of_value base (to_temporary base) x ++ nodes_of_values next rest ≡ nodes_of_values base es
values_more {rest = rest} {x = x} {base = base} same next =
    ap (λ n. nodes_of_value base (to_temporary base) x ++ nodes_of_values n rest) next ∙ sym (ap (nodes_of_values base) same)

pub addresses_more : {ls rest : List Lvalue} {l : Lvalue} {base next : ℕ} → ls ≡ l ∷ rest → next ≡ suc base →
    nodes_of_address base l ++ nodes_of_addresses next rest ≡ nodes_of_addresses base ls
addresses_more {rest = rest} {l = l} {base = base} same next =
    ap (λ n. nodes_of_address base l ++ nodes_of_addresses n rest) next ∙ sym (ap (nodes_of_addresses base) same)

-- ---- stores

-- the node that stores a value
pub store_laid : {a c : Builder} (l : Lvalue) (address value : Operand) (k n : NodeId) → LaysNode record { tokens = store_tokens l; kind = store_node l address value k } a c n →
    Lays (stored l address value ∷ []) (k ∷ []) a c (λ nodes. IsNode nodes n (store_tokens l) (store_node l address value k))
store_laid (lvalue.Target target) address value k n laid = laid
store_laid (lvalue.Memory width aligned at) address value k n laid = laid

pub stores_more : {ls rest : List Lvalue} {l : Lvalue} {values es : List Expression} {x : Expression} {address value addresses numbers : ℕ} →
    ls ≡ l ∷ rest → values ≡ x ∷ es → addresses ≡ suc address → numbers ≡ suc value →
    stored l (temporary address) (temporary value) ∷ nodes_of_stores rest es addresses numbers
    ≡ nodes_of_stores ls values address value
stores_more {ls = ls} {rest = rest} {l = l} {values = values} {es = es} {address = address} {value = value} {numbers = numbers} places sources at of =
    ap (λ (n : ℕ). stored l (temporary address) (temporary value) ∷ nodes_of_stores rest es n numbers) at
    ∙ ap (λ (n : ℕ). stored l (temporary address) (temporary value) ∷ nodes_of_stores rest es (suc address) n) of
    ∙ sym (ap (λ ls. nodes_of_stores ls values address value) places ∙ ap (λ vs. nodes_of_stores (l ∷ rest) vs address value) sources)

-- ---- assignments

pub one_stored : (to : Lvalue) (width : Width) (aligned : ℕ) (address value : Expression) → to ≡ lvalue.Memory width aligned address →
    nodes_of_two address value ++ stored to (operand_of 0 address) (operand_of 1 value) ∷ []
    ≡ nodes_of_assignment (to ∷ []) (value ∷ [])
one_stored to width aligned address value place =
    ap (λ (l : Lvalue). nodes_of_two address value ++ stored l (operand_of 0 address) (operand_of 1 value) ∷ []) place
    ∙ sym (ap (λ (l : Lvalue). nodes_of_assignment (l ∷ []) (value ∷ [])) place)

several_are : (l : Lvalue) (ls : List Lvalue) (x : Expression) (es : List Expression) → (length ls ≡ 0 → length es ≡ 0 → ⊥) →
    nodes_of_several (l ∷ ls) (x ∷ es) ≡ nodes_of_assignment (l ∷ ls) (x ∷ es)
several_are (lvalue.Target target) [] x [] apart = absurd (apart refl refl)
several_are (lvalue.Memory width aligned at) [] x [] apart = absurd (apart refl refl)
several_are (lvalue.Target target) [] x (y ∷ ys) apart = refl
several_are (lvalue.Memory width aligned at) [] x (y ∷ ys) apart = refl
several_are (lvalue.Target target) (m ∷ ms) x es apart = refl
several_are (lvalue.Memory width aligned at) (m ∷ ms) x es apart = refl

pub several_at_once : (to ls : List Lvalue) (l : Lvalue) (values es : List Expression) (x : Expression) → to ≡ l ∷ ls → values ≡ x ∷ es →
    (length ls ≡ 0 → length es ≡ 0 → ⊥) → nodes_of_several to values ≡ nodes_of_assignment to values
several_at_once to ls l values es x places sources apart =
    ap (λ to. nodes_of_several to values) places ∙ ap (λ values. nodes_of_several (l ∷ ls) values) sources ∙ several_are l ls x es apart
    ∙ sym (ap (λ to. nodes_of_assignment to values) places ∙ ap (λ values. nodes_of_assignment (l ∷ ls) values) sources)

-- ---- exits and divisions

pub no_exit : (site : Site) → site.never ≡ true → nodes_of_exits (Some site) ≡ []
no_exit site is = ap (λ b. elim b as (λ _. List Node) [ true ↦ [] | false ↦ record { tokens = suc (length site.results); kind = CopyIn site.results nowhere } ∷ [] ]) is

pub one_exit : (site : Site) → site.never ≡ false →
    ◌≡◌ {A = List Node} (record { tokens = suc (length site.results); kind = CopyIn site.results nowhere } ∷ []) (nodes_of_exits (Some site))
one_exit site is =
    sym (ap (λ b. elim b as (λ _. List Node) [ true ↦ [] | false ↦ record { tokens = suc (length site.results); kind = CopyIn site.results nowhere } ∷ [] ]) is)

pub guard_needed : (q : Proc) (tokens used site : ℕ) (op : Op2) (width : Width) (divisor : Expression) → is_division op ≡ true →
    nodes_of_guard q tokens used site width divisor ≡ nodes_of_guard_if q tokens used site op width divisor
guard_needed q tokens used site op width divisor is =
    sym (ap (λ b. elim b as (λ _. List Node) [ true ↦ nodes_of_guard q tokens used site width divisor | false ↦ [] ]) is)

-- ---- statements with blocks

pub nodes_of_if : (q : Proc) (tokens : ℕ) (condition : Condition) (then_ otherwise : List Statement) →
    nodes_of_form q tokens (form.If condition then_ otherwise) ≡ nodes_of_test condition
nodes_of_if q tokens condition then_ otherwise = refl

pub nodes_of_span : (q : Proc) (tokens : ℕ) (body : List Statement) → nodes_of_form q tokens (form.Span body) ≡ goto ∷ []
nodes_of_span q tokens body = refl
