-- The nodes that are laid for each construct, wherever they lead.
use Rattle.std.specs.Prelude.{ℕ, suc, ◌+◌, true, false, List, [], ◌∷◌, ◌++◌, map, flat_map, length, slice_get, Option, Some, None}
use mathlib.Core.Former.{one_more}
use Rattle.cmm_words.specs.Words.{is_division}
use Rattle.cmm_words.specs.declared.constant.Constant.TheVariants.{Number}
use Rattle.cmm_words.specs.declared.operators.Cmp.{Cmp}
use Rattle.cmm_words.specs.declared.operators.Cmp.TheVariants.{Eq}
use Rattle.cmm_words.specs.declared.operators.Op2.{Op2}
use Rattle.cmm_words.specs.declared.width.Width.{Width}
use Rattle.cmm_words.specs.declared.width.Width.TheVariants.{W64}
use Rattle.cmm_program.specs.declared.expression.Condition.{Condition, Row_of-Condition, more_of-Condition}
use Rattle.cmm_program.specs.declared.expression.Condition.TheVariants.{Compare, Not', Both', Either'}
use Rattle.cmm_program.specs.declared.expression.Expression.{Expression, Row_of-Expression, more_of-Expression}
use Rattle.cmm_program.specs.declared.expression.Expression.TheVariants.{Load', Unary', Binary', SignExtend', ZeroExtend', LowBits'}
use Rattle.cmm_program.specs.declared.procedure.Proc.{Proc}
use Rattle.cmm_program.specs.declared.procedure.Site.{Site}
use Rattle.cmm_program.specs.declared.statement.Form.{Form}
use Rattle.cmm_program.specs.declared.statement.Form.TheVariants as form
use Rattle.cmm_program.specs.declared.statement.Form.TheVariants.{Empty, If', Switch', Span', Label, Continuation, Checked, GetByte, Cut, Assign, PutByte}
use Rattle.cmm_program.specs.declared.statement.Lvalue.{Lvalue}
use Rattle.cmm_program.specs.declared.statement.Lvalue.TheVariants as lvalue
use Rattle.cmm_program.specs.declared.statement.Range.{Range}
use Rattle.cmm_program.specs.Bodies.{branches}
use Rattle.cmm_program.specs.InRange.{all_ranges}
use Rattle.cmm_program.specs.Todo.{site_results}
use Rattle.cmm_graph.specs.declared.node.Arm.{Arm}
use Rattle.cmm_graph.specs.declared.node.Exits.{Exits}
use Rattle.cmm_graph.specs.declared.node.HostCall.TheVariants as host
use Rattle.cmm_graph.specs.declared.node.Node.{Node}
use Rattle.cmm_graph.specs.declared.node.NodeKind.{NodeKind}
use Rattle.cmm_graph.specs.declared.node.NodeKind.TheVariants as node
use Rattle.cmm_graph.specs.declared.number.NodeId.{NodeId}
use Rattle.cmm_graph.specs.declared.operand.Destination.{Destination}
use Rattle.cmm_graph.specs.declared.operand.Destination.TheVariants as destination
use Rattle.cmm_graph.specs.declared.operand.Operand.{Operand}
use Rattle.cmm_graph.specs.declared.operand.Operand.TheVariants.{Constant}
use Rattle.cmm_graph.specs.declared.operand.Rvalue.{Rvalue}
use Rattle.cmm_graph.specs.declared.operand.Rvalue.TheVariants as rvalue
use Rattle.cmm_graph.specs.Covering.{access_tokens, least_for}
use Rattle.cmm_flow.specs.Code.{to_temporary}
use Rattle.cmm_flow.specs.Operands.{arguments_of, is_plain, nodes, nodes_of_all, operand_of, operands_of, temporary}
use Rattle.cmm_flow.specs.Statements.{operator_nodes, first_result, normal_tokens, remaining}
use Rattle.cmm_flow.specs.inside.Parts.{rvalue_of, store_node, store_tokens}

-- ---- a node without where it leads

abbrev pub nowhere : NodeId
nowhere = record { number = 0 }

abbrev pub no_exits : Exits
no_exits = record { normal = None; returns = []; unwinds = []; cuts = [] }

-- the ranges of a switch, and all of them as those of one arm
abbrev pub ranges_of : List Arm → List Range
ranges_of arms = flat_map (λ arm. arm.ranges) arms

abbrev pub one_arm : List Range → List Arm
one_arm ranges = record { ranges = ranges; to = nowhere } ∷ []

abbrev pub unled_kind : NodeKind → NodeKind
unled_kind (node.Entry formals next) = node.Entry formals nowhere
unled_kind (node.CopyIn to next) = node.CopyIn to nowhere
unled_kind (node.Assign to value next) = node.Assign to value nowhere
unled_kind (node.Store width aligned address value next) = node.Store width aligned address value nowhere
unled_kind (node.Branch test then_ otherwise) = node.Branch test nowhere nowhere
unled_kind (node.Switch value arms otherwise) = node.Switch value (one_arm (ranges_of arms)) nowhere
unled_kind (node.Call site callee arguments exits) = node.Call site callee arguments no_exits
unled_kind (node.Yield site values exits) = node.Yield site values no_exits
unled_kind (node.Host call next) = node.Host call nowhere
unled_kind (node.Goto next) = node.Goto nowhere
unled_kind kind = kind

abbrev pub unled : Node → Node
unled n = record { tokens = n.tokens; kind = unled_kind n.kind }

abbrev pub goto : Node
goto = record { tokens = 1; kind = node.Goto nowhere }

abbrev pub assigned : Destination → Rvalue → Node
assigned to value = record { tokens = least_for value; kind = node.Assign to value nowhere }

abbrev pub branch : Cmp → Width → Expression → Expression → Node
branch operator width a b =
    record { tokens = 1; kind = node.Branch record { operator = operator; width = width; left = operand_of 0 a; right = operand_of 1 b } nowhere nowhere }

-- ---- expressions

abbrev mutual
  -- the operands of the outermost operator
  pub nodes_of_parts : ℕ → Expression → List Node
  nodes_of_parts base (Load' width aligned _ address) = nodes_of_part base address
  nodes_of_parts base (Unary' op width _ a) = nodes_of_part base a
  nodes_of_parts base (Binary' op width _ a _ b) = nodes_of_part base a ++ nodes_of_part (suc base) b
  nodes_of_parts base (SignExtend' from to _ a) = nodes_of_part base a
  nodes_of_parts base (ZeroExtend' from to _ a) = nodes_of_same base a
  nodes_of_parts base (LowBits' from to _ a) = nodes_of_part base a
  nodes_of_parts base _ = []

  pub nodes_of_part : {n : _} → ℕ → Row_of-Expression (one_more n) → List Node
  nodes_of_part base (more_of-Expression a rest) =
      elim (is_plain a) [ true ↦ [] | false ↦ nodes_of_parts base a ++ assigned (to_temporary base) (rvalue_of base a) ∷ [] ]

  pub nodes_of_same : {n : _} → ℕ → Row_of-Expression (one_more n) → List Node
  nodes_of_same base (more_of-Expression a rest) = nodes_of_parts base a

abbrev pub nodes_of_value : ℕ → Destination → Expression → List Node
nodes_of_value base to e = nodes_of_parts base e ++ assigned to (rvalue_of base e) ∷ []

abbrev pub nodes_of_operand : ℕ → Expression → List Node
nodes_of_operand base e = elim (is_plain e) [ true ↦ [] | false ↦ nodes_of_value base (to_temporary base) e ]

abbrev pub nodes_of_operands : ℕ → List Expression → List Node
nodes_of_operands base [] = []
nodes_of_operands base (e ∷ es) = nodes_of_operand base e ++ nodes_of_operands (suc base) es

abbrev pub nodes_of_values : ℕ → List Expression → List Node
nodes_of_values base [] = []
nodes_of_values base (e ∷ es) = nodes_of_value base (to_temporary base) e ++ nodes_of_values (suc base) es

abbrev pub nodes_of_two : Expression → Expression → List Node
nodes_of_two a b = nodes_of_operand 0 a ++ nodes_of_operand 1 b

-- ---- conditions

abbrev mutual
  pub nodes_of_test : Condition → List Node
  nodes_of_test (Compare operator width a b) = nodes_of_two a b ++ branch operator width a b ∷ []
  nodes_of_test (Not' _ a) = nodes_of_test_part a
  nodes_of_test (Both' _ a _ b) = nodes_of_test_part a ++ nodes_of_test_part b
  nodes_of_test (Either' _ a _ b) = nodes_of_test_part a ++ nodes_of_test_part b

  pub nodes_of_test_part : {n : _} → Row_of-Condition (one_more n) → List Node
  nodes_of_test_part (more_of-Condition a rest) = nodes_of_test a

-- ---- assignments

abbrev pub nodes_of_address : ℕ → Lvalue → List Node
nodes_of_address base (lvalue.Target target) = []
nodes_of_address base (lvalue.Memory width aligned address) = nodes_of_value base (to_temporary base) address

abbrev pub nodes_of_addresses : ℕ → List Lvalue → List Node
nodes_of_addresses base [] = []
nodes_of_addresses base (l ∷ ls) = nodes_of_address base l ++ nodes_of_addresses (suc base) ls

-- a value that is stored
abbrev pub stored : Lvalue → Operand → Operand → Node
stored l address value = record { tokens = store_tokens l; kind = store_node l address value nowhere }

-- values in temporaries, at addresses in temporaries
abbrev pub nodes_of_stores : List Lvalue → List Expression → ℕ → ℕ → List Node
nodes_of_stores [] es address value = []
nodes_of_stores (l ∷ ls) [] address value = []
nodes_of_stores (l ∷ ls) (e ∷ es) address value =
    stored l (temporary address) (temporary value) ∷ nodes_of_stores ls es (suc address) (suc value)

abbrev pub nodes_of_several : List Lvalue → List Expression → List Node
nodes_of_several to values = nodes_of_addresses 0 to ++ (nodes_of_values (length to) values ++ nodes_of_stores to values 0 (length to))

abbrev pub nodes_of_assignment : List Lvalue → List Expression → List Node
nodes_of_assignment to [] = goto ∷ []
nodes_of_assignment (lvalue.Target target ∷ []) (e ∷ []) = nodes_of_value 0 (destination.Target target) e
nodes_of_assignment (lvalue.Memory width aligned address ∷ []) (e ∷ []) =
    nodes_of_two address e ++ record { tokens = access_tokens width aligned; kind = node.Store width aligned (operand_of 0 address) (operand_of 1 e) nowhere } ∷ []
nodes_of_assignment to (e ∷ es) = nodes_of_several to (e ∷ es)

-- ---- statements

-- the CopyIn of a normal exit
abbrev pub normal_node : Site → Node
normal_node site = record { tokens = suc (length site.results); kind = node.CopyIn site.results nowhere }

abbrev pub nodes_of_exits : Option Site → List Node
nodes_of_exits None = []
nodes_of_exits (Some site) = elim site.never [
  | true ↦ []
  | false ↦ normal_node site ∷ []
]

abbrev pub nodes_of_passing : Expression → List Expression → List Node
nodes_of_passing to actuals = nodes_of_operand 0 to ++ nodes_of_operands 1 actuals

-- a yield of the number 1
abbrev pub yield_one : ℕ → ℕ → Node
yield_one tokens site = record { tokens = tokens; kind = node.Yield record { number = site } (Constant (Number 1 W64) ∷ []) no_exits }

abbrev pub nodes_of_yield_one : Proc → ℕ → ℕ → List Node
nodes_of_yield_one q tokens site =
    yield_one tokens site ∷ nodes_of_exits (slice_get q.sites site)

-- the test of a divisor
abbrev pub zero_test : Width → Expression → Node
zero_test width divisor = record {
  tokens = 1;
  kind = node.Branch record { operator = Eq; width = width; left = operand_of 1 divisor; right = Constant (Number 0 width) } nowhere nowhere;
}

abbrev pub nodes_of_guard : Proc → ℕ → ℕ → ℕ → Width → Expression → List Node
nodes_of_guard q tokens used site width divisor =
    zero_test width divisor ∷ nodes_of_yield_one q (remaining tokens (used + 1 + normal_tokens (slice_get q.sites site))) site

abbrev pub nodes_of_guard_if : Proc → ℕ → ℕ → ℕ → Op2 → Width → Expression → List Node
nodes_of_guard_if q tokens used site op width divisor =
    elim (is_division op) [ true ↦ nodes_of_guard q tokens used site width divisor | false ↦ [] ]

abbrev pub division : Proc → ℕ → Op2 → Width → Expression → Expression → Node
division q site op width left right =
    assigned (first_result (site_results q site)) (rvalue.Binary op width (operand_of 0 left) (operand_of 1 right))

abbrev pub nodes_of_checked : Proc → ℕ → ℕ → Op2 → Width → Expression → Expression → List Node
nodes_of_checked q tokens site op width left right =
    nodes_of_two left right ++ (nodes_of_guard_if q tokens (operator_nodes width left right) site op width right ++ division q site op width left right ∷ [])

abbrev pub call_node : Proc → ℕ → ℕ → Expression → List Expression → Node
call_node q tokens site callee actuals = record {
  tokens = remaining tokens (nodes callee + nodes_of_all actuals + normal_tokens (slice_get q.sites site));
  kind = node.Call record { number = site } (operand_of 0 callee) (arguments_of 1 actuals) no_exits;
}

abbrev pub nodes_of_call : Proc → ℕ → ℕ → Expression → List Expression → List Node
nodes_of_call q tokens site callee actuals =
    nodes_of_passing callee actuals ++ call_node q tokens site callee actuals ∷ nodes_of_exits (slice_get q.sites site)

abbrev pub yield_node : Proc → ℕ → ℕ → List Expression → Node
yield_node q tokens site values = record {
  tokens = remaining tokens (nodes_of_all values + normal_tokens (slice_get q.sites site));
  kind = node.Yield record { number = site } (operands_of 0 values) no_exits;
}

abbrev pub nodes_of_yield : Proc → ℕ → ℕ → List Expression → List Node
nodes_of_yield q tokens site values =
    nodes_of_operands 0 values ++ yield_node q tokens site values ∷ nodes_of_exits (slice_get q.sites site)

abbrev pub jump_node : ℕ → Expression → List Expression → Node
jump_node tokens callee actuals = record { tokens = remaining tokens (nodes callee + nodes_of_all actuals); kind = node.Jump (operand_of 0 callee) (arguments_of 1 actuals) }

abbrev pub nodes_of_jump : ℕ → Expression → List Expression → List Node
nodes_of_jump tokens callee actuals =
    nodes_of_passing callee actuals ++ jump_node tokens callee actuals ∷ []

abbrev pub cut_node : ℕ → Expression → List Expression → List ℕ → Node
cut_node tokens to values own = record {
  tokens = remaining tokens (nodes to + nodes_of_all values);
  kind = node.Cut (operand_of 0 to) (arguments_of 1 values) (map (λ k. record { number = k }) own);
}

abbrev pub nodes_of_cut : ℕ → Expression → List Expression → List ℕ → List Node
nodes_of_cut tokens to values own =
    nodes_of_passing to values ++ cut_node tokens to values own ∷ []

abbrev pub return_node : ℕ → ℕ → ℕ → List Expression → Node
return_node tokens exit alternates values = record { tokens = remaining tokens (nodes_of_all values); kind = node.Return exit alternates (arguments_of 0 values) }

abbrev pub nodes_of_return : ℕ → ℕ → ℕ → List Expression → List Node
nodes_of_return tokens exit alternates values =
    nodes_of_operands 0 values ++ return_node tokens exit alternates values ∷ []

abbrev pub put_node : Expression → Node
put_node value = record { tokens = 1; kind = node.Host (host.PutByte (operand_of 0 value)) nowhere }

abbrev pub nodes_of_put : Expression → List Node
nodes_of_put value = nodes_of_operand 0 value ++ put_node value ∷ []

abbrev pub switch_node : ℕ → Expression → List Range → Node
switch_node tokens value ranges = record { tokens = remaining tokens (nodes value); kind = node.Switch (operand_of 0 value) (one_arm ranges) nowhere }

abbrev pub nodes_of_switch : ℕ → Expression → List Range → List Node
nodes_of_switch tokens value ranges =
    nodes_of_operand 0 value ++ switch_node tokens value ranges ∷ []

-- a statement of n tokens, without the blocks inside it
abbrev pub nodes_of_form : Proc → ℕ → Form → List Node
nodes_of_form q tokens Empty = goto ∷ []
nodes_of_form q tokens (If' condition _ then_ _ otherwise) = nodes_of_test condition
nodes_of_form q tokens (Switch' value _ arms) = nodes_of_switch tokens value (all_ranges (branches arms))
nodes_of_form q tokens (Span' _ body) = goto ∷ []
nodes_of_form q tokens (Assign to values) = nodes_of_assignment to values
nodes_of_form q tokens (form.Call site callee actuals) = nodes_of_call q tokens site callee actuals
nodes_of_form q tokens (form.Yield site values) = nodes_of_yield q tokens site values
nodes_of_form q tokens (Checked site op width left right) = nodes_of_checked q tokens site op width left right
nodes_of_form q tokens (PutByte value) = nodes_of_put value
nodes_of_form q tokens (GetByte target) = record { tokens = 1; kind = node.Host (host.GetByte target) nowhere } ∷ []
nodes_of_form q tokens (form.Jump callee actuals) = nodes_of_jump tokens callee actuals
nodes_of_form q tokens (form.Return exit alternates values) = nodes_of_return tokens exit alternates values
nodes_of_form q tokens (Label l) = goto ∷ []
nodes_of_form q tokens (form.Goto l) = []
nodes_of_form q tokens (Continuation k) = []
nodes_of_form q tokens (Cut to values own) = nodes_of_cut tokens to values own
