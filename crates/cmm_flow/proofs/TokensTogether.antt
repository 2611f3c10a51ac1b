-- The nodes that are laid for a statement in range have together at most as many tokens as the statement, with what stands for it in front of all nodes.
use Rattle.std.proofs.Common.{◌≡◌, ℕ, suc, ◌+◌, ◌≤◌, Bool, true, false, IsTrue, Option, Some, None, List, [], ◌∷◌, ◌++◌, length, slice_get, refl, sym, ◌∙◌, arith}
use Rattle.std.proofs.lemmas.Bool.{and_parts}
use Rattle.std.proofs.lemmas.List.Sums.{sum_by-cons}
use Rattle.std.specs.List.{list_all}
use Rattle.std.specs.Prelude.{nat_le, sum_by}
use mathlib.Core.Former.{one_more}
use Rattle.cmm_words.specs.Words.{is_division}
use Rattle.cmm_words.specs.declared.width.Width.{Width}
use Rattle.cmm_program.specs.declared.expression.Condition.{Condition, Row_of-Condition, more_of-Condition}
use Rattle.cmm_program.specs.declared.expression.Condition.TheVariants.{Compare, Not', Both', Either'}
use Rattle.cmm_program.specs.declared.expression.Expression.{Expression, Row_of-Expression, more_of-Expression}
use Rattle.cmm_program.specs.declared.expression.Expression.TheVariants.{Known, Variable, Register, Stackdata, Load', Unary', Binary', SignExtend', ZeroExtend', LowBits'}
use Rattle.cmm_program.specs.declared.expression.Expression.TheVariants as expression
use Rattle.cmm_program.specs.declared.procedure.Proc.{Proc}
use Rattle.cmm_program.specs.declared.procedure.Site.{Site}
use Rattle.cmm_program.specs.declared.program.Program.{Program}
use Rattle.cmm_program.specs.declared.statement.Form.{Form}
use Rattle.cmm_program.specs.declared.statement.Form.TheVariants as form
use Rattle.cmm_program.specs.declared.statement.Form.TheVariants.{Empty, If', Switch', Span', Label, Continuation, Checked, PutByte, GetByte, Cut}
use Rattle.cmm_program.specs.declared.statement.Lvalue.{Lvalue}
use Rattle.cmm_program.specs.declared.statement.Lvalue.TheVariants as lvalue
use Rattle.cmm_program.specs.declared.statement.Statement.{Statement}
use Rattle.cmm_program.specs.Bodies.{branches}
use Rattle.cmm_program.specs.ExpressionTokens.{alone}
use Rattle.cmm_program.specs.Folds.{fold_part}
use Rattle.cmm_program.specs.Frames.{parameters}
use Rattle.cmm_program.specs.InRange.{all_ranges, is_checked_site, is_form, is_statement}
use Rattle.cmm_program.specs.InRange.{at_site as site_passes}
use Rattle.cmm_program.specs.Tokens.{names, own_tokens}
use Rattle.cmm_graph.specs.declared.node.Node.{Node}
use Rattle.cmm_graph.specs.declared.operand.Destination.{Destination}
use Rattle.cmm_graph.specs.declared.operand.Destination.TheVariants as destination
use Rattle.cmm_graph.specs.Covering.{least_for}
use Rattle.cmm_flow.specs.Code.{to_temporary}
use Rattle.cmm_flow.specs.Flow.{all_tokens}
use Rattle.cmm_flow.specs.Operands.{is_plain, nodes, nodes_in, nodes_of_all, operand_in, operand_of, temporary, test_node_step, test_nodes}
use Rattle.cmm_flow.specs.Statements.{normal_tokens, operator_nodes, remaining}
use Rattle.cmm_flow.specs.inside.LayingBlocks.{laid_tokens}
use Rattle.cmm_flow.specs.inside.Nodes.{assigned, branch, call_node, cut_node, division, jump_node, nodes_of_addresses, nodes_of_assignment, nodes_of_exits, nodes_of_form, nodes_of_guard, nodes_of_guard_if, nodes_of_operand, nodes_of_operands, nodes_of_part, nodes_of_parts, nodes_of_passing, nodes_of_same, nodes_of_several, nodes_of_stores, nodes_of_test, nodes_of_test_part, nodes_of_two, nodes_of_value, nodes_of_values, nodes_of_yield_one, normal_node, put_node, return_node, stored, switch_node, yield_node, yield_one, zero_test}
use Rattle.cmm_flow.specs.inside.Parts.{rvalue_in, rvalue_of}
use Rattle.cmm_flow.proofs.Assigning.{addresses_cost, assign_cost, stores_cost, values_cost}
use Rattle.cmm_flow.proofs.Costs.{assign_least, brackets_least, operand_counted, test_counted, two_least}
use Rattle.cmm_flow.proofs.Covering.{at_most}
use Rattle.cmm_flow.proofs.Enough.{checked_least, site_least}
use Rattle.cmm_flow.proofs.Laying.{tokens-append}
use Rattle.cmm_flow.proofs.Operands.{inner, inner_in, nodes_inner, operator_alike, operator_some, plain_nodes}

-- one node behind others
behind : (xs : List Node) (x : Node) → all_tokens (xs ++ x ∷ []) ≡ all_tokens xs + x.tokens
behind xs x = tokens-append xs (x ∷ []) ∙ omega arith

-- and in front of them
in_front : (x : Node) (xs : List Node) → all_tokens (x ∷ xs) ≡ x.tokens + all_tokens xs
in_front x xs = sum_by-cons (λ (node : Node). node.tokens) x xs

-- ---- expressions

mutual
  -- the nodes of an expression's operands leave its last node
  parts_sum : (base : ℕ) (e : Expression) → all_tokens (nodes_of_parts base e) + least_for (rvalue_of base e) ≡ inner e + 1
  parts_sum base (Known value) = refl
  parts_sum base (Variable number width) = refl
  parts_sum base (Register number width) = refl
  parts_sum base (Stackdata number) = refl
  parts_sum base (expression.Continuation number) = refl
  parts_sum base (Load' width aligned _ address) = omega (arith, part_sum base address)
  parts_sum base (Unary' op width _ a) = omega (arith, part_sum base a)
  parts_sum base (Binary' op width _ a _ b) =
      omega (
        arith,
        tokens-append (nodes_of_part base a) (nodes_of_part (suc base) b),
        part_sum base a,
        part_sum (suc base) b,
        operator_alike width base a b,
        operator_some width (operand_in 0 a) (operand_in 1 b),
      )
  parts_sum base (SignExtend' from to _ a) = omega (arith, part_sum base a)
  parts_sum base (ZeroExtend' from to _ a) = same_sum base a
  parts_sum base (LowBits' from to _ a) = omega (arith, part_sum base a)

  part_sum : {n : _} (base : ℕ) (row : Row_of-Expression (one_more n)) → all_tokens (nodes_of_part base row) ≡ nodes_in row
  part_sum base (more_of-Expression a rest) = by (parts_sum base a) (is_plain a) refl
    where
      by : all_tokens (nodes_of_parts base a) + least_for (rvalue_of base a) ≡ inner a + 1 → (b : Bool) → is_plain a ≡ b →
          all_tokens (elim b as (λ _. List Node) [ true ↦ [] | false ↦ nodes_of_parts base a ++ assigned (to_temporary base) (rvalue_of base a) ∷ [] ]) ≡ nodes a
      by whole true plain = sym (plain_nodes a plain)
      by whole false other = omega (arith, behind (nodes_of_parts base a) (assigned (to_temporary base) (rvalue_of base a)), whole, nodes_inner a other)

  same_sum : {n : _} (base : ℕ) (row : Row_of-Expression (one_more n)) → all_tokens (nodes_of_same base row) + least_for (rvalue_in base row) ≡ inner_in row + 1
  same_sum base (more_of-Expression a rest) = parts_sum base a

value_sum : (base : ℕ) (to : Destination) (e : Expression) → all_tokens (nodes_of_value base to e) ≡ inner e + 1
value_sum base to e = behind (nodes_of_parts base e) (assigned to (rvalue_of base e)) ∙ parts_sum base e

operand_sum : (base : ℕ) (e : Expression) → all_tokens (nodes_of_operand base e) ≡ nodes e
operand_sum base e = by (is_plain e) refl
  where
    by : (b : Bool) → is_plain e ≡ b → all_tokens (elim b as (λ _. List Node) [ true ↦ [] | false ↦ nodes_of_value base (to_temporary base) e ]) ≡ nodes e
    by true plain = sym (plain_nodes e plain)
    by false other = value_sum base (to_temporary base) e ∙ nodes_inner e other

operands_sum : (base : ℕ) (es : List Expression) → all_tokens (nodes_of_operands base es) ≡ nodes_of_all es
operands_sum base [] = refl
operands_sum base (e ∷ es) =
    omega (arith, tokens-append (nodes_of_operand base e) (nodes_of_operands (suc base) es), operand_sum base e, operands_sum (suc base) es)

values_sum : (base : ℕ) (es : List Expression) → all_tokens (nodes_of_values base es) ≡ values_cost es
values_sum base [] = refl
values_sum base (e ∷ es) =
    omega (
      arith,
      tokens-append (nodes_of_value base (to_temporary base) e) (nodes_of_values (suc base) es),
      value_sum base (to_temporary base) e,
      values_sum (suc base) es,
    )

two_sum : (a b : Expression) → all_tokens (nodes_of_two a b) ≡ nodes a + nodes b
two_sum a b = omega (arith, tokens-append (nodes_of_operand 0 a) (nodes_of_operand 1 b), operand_sum 0 a, operand_sum 1 b)

passing_sum : (to : Expression) (es : List Expression) → all_tokens (nodes_of_passing to es) ≡ nodes to + nodes_of_all es
passing_sum to es = omega (arith, tokens-append (nodes_of_operand 0 to) (nodes_of_operands 1 es), operand_sum 0 to, operands_sum 1 es)

-- ---- conditions

mutual
  test_sum : (c : Condition) → all_tokens (nodes_of_test c) ≡ test_nodes c
  test_sum (Compare operator width a b) = omega (arith, behind (nodes_of_two a b) (branch operator width a b), two_sum a b)
  test_sum (Not' _ a) = test_part_sum a
  test_sum (Both' _ a _ b) = omega (arith, tokens-append (nodes_of_test_part a) (nodes_of_test_part b), test_part_sum a, test_part_sum b)
  test_sum (Either' _ a _ b) = omega (arith, tokens-append (nodes_of_test_part a) (nodes_of_test_part b), test_part_sum a, test_part_sum b)

  test_part_sum : {n : _} (row : Row_of-Condition (one_more n)) → all_tokens (nodes_of_test_part row) ≡ fold_part test_node_step row
  test_part_sum (more_of-Condition a rest) = test_sum a

-- ---- assignments

addresses_sum : (base : ℕ) (ls : List Lvalue) → all_tokens (nodes_of_addresses base ls) ≡ addresses_cost ls
addresses_sum base [] = refl
addresses_sum base (lvalue.Target target ∷ ls) = addresses_sum (suc base) ls
addresses_sum base (lvalue.Memory width aligned address ∷ ls) =
    omega (
      arith,
      tokens-append (nodes_of_value base (to_temporary base) address) (nodes_of_addresses (suc base) ls),
      value_sum base (to_temporary base) address,
      addresses_sum (suc base) ls,
    )

stores_sum : (ls : List Lvalue) (es : List Expression) (address value : ℕ) → all_tokens (nodes_of_stores ls es address value) ≤ stores_cost ls
stores_sum [] es address value = omega arith
stores_sum (l ∷ ls) [] address value = omega arith
stores_sum (lvalue.Target target ∷ ls) (e ∷ es) address value =
    omega (
      arith,
      in_front (stored (lvalue.Target target) (temporary address) (temporary value)) (nodes_of_stores ls es (suc address) (suc value)),
      stores_sum ls es (suc address) (suc value),
    )
stores_sum (lvalue.Memory width aligned at ∷ ls) (e ∷ es) address value =
    omega (
      arith,
      in_front (stored (lvalue.Memory width aligned at) (temporary address) (temporary value)) (nodes_of_stores ls es (suc address) (suc value)),
      stores_sum ls es (suc address) (suc value),
    )

several_sum : (to : List Lvalue) (es : List Expression) → all_tokens (nodes_of_several to es) ≤ addresses_cost to + values_cost es + stores_cost to
several_sum to es =
    let stores = nodes_of_stores to es 0 (length to) in
    omega (
      arith,
      tokens-append (nodes_of_addresses 0 to) (nodes_of_values (length to) es ++ stores),
      tokens-append (nodes_of_values (length to) es) stores,
      addresses_sum 0 to,
      values_sum (length to) es,
      stores_sum to es 0 (length to),
    )

assignment_sum : (to : List Lvalue) (es : List Expression) → all_tokens (nodes_of_assignment to es) ≤ assign_cost to es
assignment_sum to [] = omega arith
assignment_sum (lvalue.Target target ∷ []) (e ∷ []) = omega (arith, value_sum 0 (destination.Target target) e)
assignment_sum (lvalue.Memory width aligned address ∷ []) (e ∷ []) =
    omega (
      arith,
      behind (nodes_of_two address e) (stored (lvalue.Memory width aligned address) (operand_of 0 address) (operand_of 1 e)),
      two_sum address e,
    )
assignment_sum (l ∷ m ∷ ls) (e ∷ es) = several_sum (l ∷ m ∷ ls) (e ∷ es)
assignment_sum to (e ∷ es) = several_sum to (e ∷ es)

-- ---- statements

names_least : {A : Type 0} (xs : List A) → length xs ≤ names xs
names_least [] = omega arith
names_least {A = A} (x ∷ xs) = omega (arith, sum_by-cons (λ (a : A). 1) x xs)

exits_sum : (o : Option Site) → all_tokens (nodes_of_exits o) ≡ normal_tokens o
exits_sum None = refl
exits_sum (Some site) = by site.never
  where
    by : (b : Bool) →
        all_tokens (elim b as (λ _. List Node) [ true ↦ [] | false ↦ normal_node site ∷ [] ]) ≡ elim b as (λ _. ℕ) [ true ↦ 0 | false ↦ suc (length site.results) ]
    by true = refl
    by false = omega arith

-- what stands in front of all nodes for a statement: the Goto of a label, and the CopyIn of a continuation
abbrev pub front_tokens : Proc → Form → ℕ
front_tokens q (Label l) = 1
front_tokens q (Continuation k) = suc (length (parameters q k))
front_tokens q f = 0

-- the last node of a statement, with what is laid behind it
last_sum : (tokens used behind_ : ℕ) → used + behind_ + 1 ≤ tokens → used + remaining tokens (used + behind_) + behind_ ≤ tokens
last_sum tokens used behind_ room = omega arith

module _ (p : Program) (q : Proc) (tokens : ℕ) where
  guard_sum : (used site : ℕ) (width : Width) (divisor : Expression) (b : Bool) → used + normal_tokens (slice_get q.sites site) + 2 ≤ tokens →
      used + all_tokens (elim b as (λ _. List Node) [ true ↦ nodes_of_guard q tokens used site width divisor | false ↦ [] ]) ≤ tokens
  guard_sum used site width divisor true room =
      let normal = normal_tokens (slice_get q.sites site) in
      let count = remaining tokens (used + 1 + normal) in
      let last : used + 1 + remaining tokens (used + 1 + normal) + normal ≤ tokens = last_sum tokens (used + 1) normal (omega (arith, room)) in
      omega (
        arith,
        in_front (zero_test width divisor) (nodes_of_yield_one q count site),
        in_front (yield_one count site) (nodes_of_exits (slice_get q.sites site)),
        exits_sum (slice_get q.sites site),
        last,
      )
  guard_sum used site width divisor false room = omega (arith, room)

  -- what is passed, then the last node, then the CopyIn of its normal exit
  waiting_sum : (passed : List Node) (used site : ℕ) (last : Node) → all_tokens passed ≡ used → last.tokens ≡ remaining tokens (used + normal_tokens (slice_get q.sites site)) →
      used + normal_tokens (slice_get q.sites site) + 1 ≤ tokens → all_tokens (passed ++ last ∷ nodes_of_exits (slice_get q.sites site)) ≤ tokens
  waiting_sum passed used site last first count room =
      let exits = nodes_of_exits (slice_get q.sites site) in
      omega (
        arith,
        tokens-append passed (last ∷ exits),
        in_front last exits,
        exits_sum (slice_get q.sites site),
        first,
        count,
        last_sum tokens used (normal_tokens (slice_get q.sites site)) room,
      )

  -- what is passed, and then the last node
  leaving_sum : (passed : List Node) (used : ℕ) (last : Node) → all_tokens passed ≡ used → last.tokens ≡ remaining tokens used → used + 1 ≤ tokens →
      all_tokens (passed ++ last ∷ []) ≤ tokens
  leaving_sum passed used last first count room = omega (arith, behind passed last, first, count)

  pub form_sum : (f : Form) → IsTrue (is_form p q f) → own_tokens q f ≤ tokens → all_tokens (nodes_of_form q tokens f) + front_tokens q f ≤ tokens
  form_sum Empty is own = omega (arith, own)
  form_sum (If' test _ then_ _ otherwise) is own = omega (arith, own, test_sum test, test_counted test)
  form_sum (Switch' value _ arms) is own =
      omega (
        arith,
        leaving_sum (nodes_of_operand 0 value) (nodes value) (switch_node tokens value (all_ranges (branches arms))) (operand_sum 0 value) refl
            (omega (arith, own, operand_counted value alone)),
      )
  form_sum (Span' _ body) is own = omega (arith, own)
  form_sum (form.Assign to es) is own = omega (arith, own, assignment_sum to es, assign_least to es)
  form_sum (form.Call site callee actuals) is own =
      omega (
        arith,
        waiting_sum (nodes_of_passing callee actuals) (nodes callee + nodes_of_all actuals) site (call_node q tokens site callee actuals)
            (passing_sum callee actuals) refl (omega (arith, own, operand_counted callee 8, brackets_least actuals, site_least p q site)),
      )
  form_sum (form.Yield site es) is own =
      omega (
        arith,
        waiting_sum (nodes_of_operands 0 es) (nodes_of_all es) site (yield_node q tokens site es) (operands_sum 0 es) refl
            (omega (arith, own, brackets_least es, site_least p q site)),
      )
  form_sum (Checked site op width left right) is own =
      let three = and_parts _ _ (and_parts _ _ is).0 in
      let one = (and_parts (site_passes p q site (is_checked_site p q width)) (is_division op) three.0).0 in
      let used = operator_nodes width left right in
      let guard = nodes_of_guard_if q tokens used site op width right in
      let last = division q site op width left right in
      let room : used + normal_tokens (slice_get q.sites site) + 2 ≤ tokens = omega (arith, own, two_least width left right, checked_least p q site width one) in
      omega (
        arith,
        tokens-append (nodes_of_two left right) (guard ++ last ∷ []),
        behind guard last,
        two_sum left right,
        guard_sum used site width right (is_division op) room,
      )
  form_sum (PutByte value) is own =
      omega (arith, own, behind (nodes_of_operand 0 value) (put_node value), operand_sum 0 value, brackets_least (value ∷ []))
  form_sum (GetByte target) is own = omega (arith, own)
  form_sum (form.Jump callee actuals) is own =
      omega (
        arith,
        leaving_sum (nodes_of_passing callee actuals) (nodes callee + nodes_of_all actuals) (jump_node tokens callee actuals) (passing_sum callee actuals) refl
            (omega (arith, own, operand_counted callee 8, brackets_least actuals)),
      )
  form_sum (form.Return exit alternates []) is own =
      omega (arith, leaving_sum (nodes_of_operands 0 []) 0 (return_node tokens exit alternates []) refl refl (omega (arith, own)))
  form_sum (form.Return exit alternates (e ∷ es)) is own =
      omega (
        arith,
        leaving_sum (nodes_of_operands 0 (e ∷ es)) (nodes_of_all (e ∷ es)) (return_node tokens exit alternates (e ∷ es)) (operands_sum 0 (e ∷ es)) refl
            (omega (arith, own, brackets_least (e ∷ es))),
      )
  form_sum (Label l) is own = omega (arith, own)
  form_sum (form.Goto l) is own = omega (arith, own)
  form_sum (Continuation k) is own = omega (arith, own, names_least (parameters q k))
  form_sum (Cut to es own_) is own =
      omega (
        arith,
        leaving_sum (nodes_of_passing to es) (nodes to + nodes_of_all es) (cut_node tokens to es own_) (passing_sum to es) refl
            (omega (arith, own, operand_counted to 8, brackets_least es)),
      )

module _ (p : Program) (q : Proc) where
  -- over all statements
  pub statements_sum : (ss : List Statement) → IsTrue (list_all (is_statement p q) ss) →
      sum_by (laid_tokens q) ss + sum_by (λ s. front_tokens q s.form) ss ≤ sum_by (λ s. s.tokens) ss
  statements_sum [] all = omega arith
  statements_sum (s ∷ ss) all =
      let both = and_parts (is_statement p q s) (list_all (is_statement p q) ss) all in
      let one = and_parts (is_form p q s.form) (nat_le (own_tokens q s.form) s.tokens) both.0 in
      omega (
        arith,
        form_sum p q s.tokens s.form one.0 (at_most (own_tokens q s.form) s.tokens one.1),
        statements_sum ss both.1,
        sum_by-cons (laid_tokens q) s ss,
        sum_by-cons (λ (s : Statement). front_tokens q s.form) s ss,
        sum_by-cons (λ (s : Statement). s.tokens) s ss,
      )
