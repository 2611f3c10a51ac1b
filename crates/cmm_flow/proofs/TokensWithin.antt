-- No node that is laid for a statement has more tokens than the statement, or than the CopyIn of its site.
use Rattle.std.proofs.Common.{◌≡◌, ℕ, suc, ◌+◌, ◌<◌, ◌≤◌, nat_le, nat_lt, IsTrue, Bool, true, false, Option, Some, None, List, [], ◌∷◌, length, slice_get, refl, arith}
use Rattle.cmm_words.specs.Words.{is_division}
use Rattle.cmm_words.specs.declared.width.Width.{Width}
use Rattle.cmm_words.specs.Widths.{bytes}
use Rattle.cmm_program.specs.declared.expression.Expression.{Expression}
use Rattle.cmm_program.specs.declared.procedure.Proc.{Proc}
use Rattle.cmm_program.specs.declared.procedure.Site.{Site}
use Rattle.cmm_program.specs.declared.statement.Form.{Form}
use Rattle.cmm_program.specs.declared.statement.Form.TheVariants as form
use Rattle.cmm_program.specs.declared.statement.Form.TheVariants.{Empty, If', Switch', Span', Label, Continuation, Checked, PutByte, GetByte, Cut}
use Rattle.cmm_program.specs.declared.statement.Lvalue.{Lvalue}
use Rattle.cmm_program.specs.declared.statement.Lvalue.TheVariants as lvalue
use Rattle.cmm_graph.specs.declared.node.Node.{Node}
use Rattle.cmm_graph.specs.declared.node.HostCall.TheVariants as host
use Rattle.cmm_graph.specs.declared.node.NodeKind.TheVariants as node
use Rattle.cmm_graph.specs.declared.operand.Operand.{Operand}
use Rattle.cmm_graph.specs.declared.operand.Rvalue.{Rvalue}
use Rattle.cmm_graph.specs.declared.operand.Rvalue.TheVariants as rvalue
use Rattle.cmm_graph.specs.Covering.{access_tokens, least_for, operator_tokens}
use Rattle.cmm_flow.specs.Flow.{CoversSites}
use Rattle.cmm_flow.specs.Operands.{nodes, nodes_of_all, operand_of}
use Rattle.cmm_flow.specs.Statements.{normal_tokens, operator_nodes, remaining}
use Rattle.cmm_flow.specs.inside.Nodes.{call_node, division, goto, nodes_of_exits, nodes_of_form, nodes_of_guard, nodes_of_guard_if, nodes_of_operand, nodes_of_operands, nodes_of_passing, nodes_of_two, nodes_of_yield_one, normal_node, nowhere, yield_node, yield_one, zero_test}
use Rattle.cmm_flow.specs.inside.Parts.{store_tokens}
use Rattle.cmm_flow.proofs.Covering.{AreWithin, site_covered, test_at_most}
use Rattle.cmm_flow.proofs.Laying.{both_pass}
use Rattle.cmm_flow.proofs.Operands.{operator_most}
use Rattle.cmm_flow.proofs.PartsPass.{HoldsOfNodes, assignment, behind, condition, in_front, operand, operands, passing, two}

module _ (q : Proc) (most : ℕ) (covers : CoversSites q most) where
  abbrev within : Node → Bool
  within node = nat_le node.tokens most

  abbrev Within : List Node → Type 0
  Within = AreWithin most

  -- a node of one token
  one : IsTrue (nat_le 1 most)
  one = let accesses = covers.accesses in test_at_most 1 most (omega (arith, accesses))

  -- one that moves a word in memory
  access : (width : Width) (aligned : ℕ) → IsTrue (nat_le (access_tokens width aligned) most)
  access width aligned = by (nat_lt aligned (bytes width))
    where
      by : (b : Bool) → IsTrue (nat_le (elim b as (λ _. ℕ) [ true ↦ 2 | false ↦ 0 ] + 1) most)
      by true = test_at_most 3 most covers.accesses
      by false = one

  -- one that computes an operator
  computes : (width : Width) (a b : Operand) → IsTrue (nat_le (operator_tokens width a b) most)
  computes width a b = let accesses = covers.accesses in test_at_most (operator_tokens width a b) most (omega (arith, accesses, operator_most width a b))

  right : (value : Rvalue) → IsTrue (nat_le (least_for value) most)
  right (rvalue.Load width aligned address) = access width aligned
  right (rvalue.Copy o) = one
  right (rvalue.Register r) = one
  right (rvalue.Unary operator width o) = one
  right (rvalue.Binary operator width a b) = computes width a b
  right (rvalue.Compare c) = computes c.width c.left c.right
  right (rvalue.SignExtend from to o) = one
  right (rvalue.LowBits from to o) = one

  into : (l : Lvalue) → IsTrue (nat_le (store_tokens l) most)
  into (lvalue.Target target) = one
  into (lvalue.Memory width aligned address) = access width aligned

  -- each node of an expression, a condition or an assignment
  holds : HoldsOfNodes within
  holds = record { right = λ to value. right value; into = λ l address value. into l; tests = λ operator width a b. one; goes = one }

  -- ---- statements

  exits : (site : ℕ) → Within (nodes_of_exits (slice_get q.sites site))
  exits n = by (slice_get q.sites n) refl
    where
      choice : (site : Site) → length site.results < most → (b : Bool) →
          Within (elim b as (λ _. List Node) [ true ↦ [] | false ↦ normal_node site ∷ [] ])
      choice site less true = refl
      choice site less false = in_front within (normal_node site) [] (test_at_most (suc (length site.results)) most (omega (arith, less))) refl

      by : (o : Option Site) → slice_get q.sites n ≡ o → Within (nodes_of_exits o)
      by None is = refl
      by (Some site) is = choice site (site_covered q n site most is covers) site.never

  module _ (tokens : ℕ) (fit : tokens ≤ most) where
    -- the last node of a statement
    rest : (used : ℕ) → IsTrue (nat_le (remaining tokens used) most)
    rest used = let accesses = covers.accesses in test_at_most (remaining tokens used) most (omega (arith, fit, accesses))

    guard_by : (used site : ℕ) (width : Width) (divisor : Expression) (b : Bool) →
        Within (elim b as (λ _. List Node) [ true ↦ nodes_of_guard q tokens used site width divisor | false ↦ [] ])
    guard_by used site width divisor true =
        in_front within (zero_test width divisor) (nodes_of_yield_one q (remaining tokens (used + 1 + normal_tokens (slice_get q.sites site))) site) one
        (in_front within (yield_one (remaining tokens (used + 1 + normal_tokens (slice_get q.sites site))) site) (nodes_of_exits (slice_get q.sites site)) (rest (used + 1 + normal_tokens (slice_get q.sites site))) (exits site))
    guard_by used site width divisor false = refl

    pub form_within : (f : Form) → Within (nodes_of_form q tokens f)
    form_within Empty = in_front within goto [] one refl
    form_within (If' test _ then_ _ otherwise) = condition within holds test
    form_within (Switch' value_ _ arms) = behind within (nodes_of_operand 0 value_) _ (operand within holds 0 value_) (rest (nodes value_))
    form_within (Span' _ body) = in_front within goto [] one refl
    form_within (form.Assign to es) = assignment within holds to es
    form_within (form.Call site callee actuals) =
        both_pass within (nodes_of_passing callee actuals) _ (passing within holds callee actuals)
        (in_front within (call_node q tokens site callee actuals) (nodes_of_exits (slice_get q.sites site)) (rest (nodes callee + nodes_of_all actuals + normal_tokens (slice_get q.sites site))) (exits site))
    form_within (form.Yield site es) =
        both_pass within (nodes_of_operands 0 es) _ (operands within holds 0 es)
        (in_front within (yield_node q tokens site es) (nodes_of_exits (slice_get q.sites site)) (rest (nodes_of_all es + normal_tokens (slice_get q.sites site))) (exits site))
    form_within (Checked site op width left right) =
        both_pass within (nodes_of_two left right) _ (two within holds left right)
        (behind within (nodes_of_guard_if q tokens (operator_nodes width left right) site op width right) (division q site op width left right)
        (guard_by (operator_nodes width left right) site width right (is_division op)) (computes width (operand_of 0 left) (operand_of 1 right)))
    form_within (PutByte value_) = behind within (nodes_of_operand 0 value_) _ (operand within holds 0 value_) one
    form_within (GetByte target) = in_front within record { tokens = 1; kind = node.Host (host.GetByte target) nowhere } [] one refl
    form_within (form.Jump callee actuals) = behind within (nodes_of_passing callee actuals) _ (passing within holds callee actuals) (rest (nodes callee + nodes_of_all actuals))
    form_within (form.Return exit alternates es) = behind within (nodes_of_operands 0 es) _ (operands within holds 0 es) (rest (nodes_of_all es))
    form_within (Label l) = in_front within goto [] one refl
    form_within (form.Goto l) = refl
    form_within (Continuation k) = refl
    form_within (Cut to es own) = behind within (nodes_of_passing to es) _ (passing within holds to es) (rest (nodes to + nodes_of_all es))
