-- Which nodes are the code of a statement, one line a form, and of the statements that an activation has still to do
-- (C-- Language Specification 2.0, statements).
use Rattle.std.specs.Prelude.{◌≡◌, ℕ, suc, ◌+◌, ◌-◌, max, true, false, List, [], ◌∷◌, map, length, slice_get, Option, Some, None}
use Rattle.cmm_words.specs.Words.{is_division}
use Rattle.cmm_words.specs.declared.constant.Constant.TheVariants.{Number}
use Rattle.cmm_words.specs.declared.operators.Cmp.TheVariants.{Eq}
use Rattle.cmm_words.specs.declared.operators.Op2.{Op2}
use Rattle.cmm_words.specs.declared.width.Width.{Width}
use Rattle.cmm_words.specs.declared.width.Width.TheVariants.{W64}
use Rattle.cmm_program.specs.declared.expression.Expression.{Expression}
use Rattle.cmm_program.specs.declared.statement.Form.{Form, Row_of-Arm, end_of-Arm, more_of-Arm}
use Rattle.cmm_program.specs.declared.statement.Form.TheVariants as form
use Rattle.cmm_program.specs.declared.statement.Form.TheVariants.{Empty, If', Switch', Span', Label, Continuation, Checked, GetByte, Jump, Cut, Return, Call, Yield, Assign, PutByte}
use Rattle.cmm_program.specs.declared.statement.Statement.{Statement}
use Rattle.cmm_program.specs.declared.statement.Arm.{Arm', Row_of-Statement, end_of-Statement, more_of-Statement}
use Rattle.cmm_program.specs.declared.statement.Case.TheVariants.{In, Default}
use Rattle.cmm_program.specs.declared.statement.Lvalue.{Lvalue}
use Rattle.cmm_program.specs.declared.statement.Lvalue.TheVariants as lvalue
use Rattle.cmm_program.specs.declared.procedure.Proc.{Proc}
use Rattle.cmm_program.specs.declared.procedure.Site.{Site}
use Rattle.cmm_program.specs.declared.procedure.Target.{Target}
use Rattle.cmm_program.specs.Todo.{site_results}
use Rattle.cmm_graph.specs.declared.number.NodeId.{NodeId}
use Rattle.cmm_graph.specs.declared.operand.Operand.TheVariants.{Constant}
use Rattle.cmm_graph.specs.declared.operand.Rvalue.TheVariants as rvalue
use Rattle.cmm_graph.specs.declared.operand.Destination.{Destination}
use Rattle.cmm_graph.specs.declared.operand.Destination.TheVariants as destination
use Rattle.cmm_graph.specs.declared.node.Arm.{Arm}
use Rattle.cmm_graph.specs.declared.node.Exits.{Exits}
use Rattle.cmm_graph.specs.declared.node.HostCall.TheVariants as host
use Rattle.cmm_graph.specs.declared.node.Node.{Node}
use Rattle.cmm_graph.specs.declared.node.NodeKind.{NodeKind}
use Rattle.cmm_graph.specs.declared.node.NodeKind.TheVariants as node
use Rattle.cmm_graph.specs.Counterpart.{numbers_of}
use Rattle.cmm_graph.specs.Covering.{access_tokens, operator_tokens}
use Rattle.cmm_flow.specs.Operands.{temporary, operand_of, operands_of, arguments_of, nodes, nodes_of_all}
use Rattle.cmm_flow.specs.Code.{to_temporary, IsNode, OperandCode, OperandsCode, TestCode, ValueCode, ValuesCode}

-- ---- counts of tokens

-- The last node of a statement has the tokens that its other nodes leave, and one at least.
abbrev pub remaining : ℕ → ℕ → ℕ
remaining tokens used = max 1 (tokens - used)

-- the CopyIn of a normal exit has one token, and one for each result
abbrev pub normal_tokens : Option Site → ℕ
normal_tokens (Some site) = elim site.never [ true ↦ 0 | false ↦ suc (length site.results) ]
normal_tokens None = 0

-- ---- parts of statements

-- the results of a checked operator: the first takes its value
abbrev pub first_result : List Target → Destination
first_result [] = to_temporary 0
first_result (t ∷ ts) = destination.Target t

-- the nodes of an operator and of its operands
abbrev pub operator_nodes : Width → Expression → Expression → ℕ
operator_nodes width left right = nodes left + nodes right + operator_tokens width (operand_of 0 left) (operand_of 1 right)

-- the continuations to which exits lead are those of a site
pub record HasContinuations (site : Site) (exits : Exits) : Type 0 where
  pub returns : numbers_of exits.returns ≡ site.returns
  pub unwinds : numbers_of exits.unwinds ≡ site.unwinds
  pub cuts : numbers_of exits.cuts ≡ site.cuts

module _ (nodes_there : List Node) where
  abbrev pub Is : NodeId → ℕ → NodeKind → Type 0
  Is = IsNode nodes_there

  -- the addresses among what is assigned to, each into the temporary of its base
  abbrev pub AddressesCode : List Lvalue → ℕ → NodeId → NodeId → Type 0
  AddressesCode [] base n k = n ≡ k
  AddressesCode (lvalue.Target target ∷ ls) base n k = AddressesCode ls (suc base) n k
  AddressesCode (lvalue.Memory width aligned address ∷ ls) base n k =
      (m : NodeId) × ValueCode nodes_there address base (to_temporary base) n m × AddressesCode ls (suc base) m k

  -- values in temporaries are stored one by one, at addresses in temporaries
  abbrev pub StoresCode : List Lvalue → List Expression → ℕ → ℕ → NodeId → NodeId → Type 0
  StoresCode [] es address value n k = n ≡ k
  StoresCode (l ∷ ls) [] address value n k = n ≡ k
  StoresCode (lvalue.Target target ∷ ls) (e ∷ es) address value n k =
      (m : NodeId) × Is n 1 (node.Assign (destination.Target target) (rvalue.Copy (temporary value)) m)
      × StoresCode ls es (suc address) (suc value) m k
  StoresCode (lvalue.Memory width aligned _ ∷ ls) (e ∷ es) address value n k =
      (m : NodeId) × Is n (access_tokens width aligned) (node.Store width aligned (temporary address) (temporary value) m) × StoresCode ls es (suc address) (suc value) m k

  -- several at once: all addresses and all values are there before the first of them is stored
  abbrev pub SeveralCode : List Lvalue → List Expression → NodeId → NodeId → Type 0
  SeveralCode to values n k =
      (m : NodeId) × (j : NodeId) × AddressesCode to 0 n m × ValuesCode nodes_there values (length to) m j × StoresCode to values 0 (length to) j k

  -- One value goes to its target directly. Without values there is nothing to do.
  abbrev pub AssignCode : List Lvalue → List Expression → NodeId → NodeId → Type 0
  AssignCode to [] n k = Is n 1 (node.Goto k)
  AssignCode (lvalue.Target target ∷ []) (e ∷ []) n k = ValueCode nodes_there e 0 (destination.Target target) n k
  AssignCode (lvalue.Memory width aligned address ∷ []) (e ∷ []) n k =
      (m : NodeId) × (j : NodeId) × OperandCode nodes_there address 0 n m × OperandCode nodes_there e 1 m j
      × Is j (access_tokens width aligned) (node.Store width aligned (operand_of 0 address) (operand_of 1 e) k)
  AssignCode to (e ∷ es) n k = SeveralCode to (e ∷ es) n k

  -- the normal exit of a site, if it has one, takes the results and leads to a node
  abbrev pub NormalExit : Site → Option NodeId → NodeId → Type 0
  NormalExit site normal k = elim site.never [
    | true ↦ normal ≡ None
    | false ↦ (j : NodeId) × (normal ≡ Some j) × Is j (suc (length site.results)) (node.CopyIn site.results k)
  ]

  -- the exits of a site are its continuations and its normal exit, which leads behind the statement
  abbrev pub ExitsCode : Option Site → Exits → NodeId → Type 0
  ExitsCode None exits k = Unit {0}
  ExitsCode (Some site) exits k = HasContinuations site exits × NormalExit site exits.normal k

  -- a divisor of 0 is yielded for, with the value 1
  abbrev pub ZeroCode : Proc → ℕ → ℕ → ℕ → Width → Expression → NodeId → NodeId → NodeId → Type 0
  ZeroCode q tokens used site width divisor n otherwise k =
      (y : NodeId) × (exits : Exits)
      × Is n 1 (node.Branch record { operator = Eq; width = width; left = operand_of 1 divisor; right = Constant (Number 0 width) } y otherwise)
      × Is y (remaining tokens (used + 1 + normal_tokens (slice_get q.sites site)))
      (node.Yield record { number = site } (Constant (Number 1 W64) ∷ []) exits)
      × ExitsCode (slice_get q.sites site) exits k

  -- only a division has no value for 0
  abbrev pub CheckedCode : Proc → ℕ → ℕ → Op2 → Width → Expression → Expression → NodeId → NodeId → Type 0
  CheckedCode q tokens site op width left right n k =
      (m : NodeId) × (j : NodeId) × (d : NodeId) × OperandCode nodes_there left 0 n m × OperandCode nodes_there right 1 m j
      × Is d (operator_tokens width (operand_of 0 left) (operand_of 1 right))
      (node.Assign (first_result (site_results q site)) (rvalue.Binary op width (operand_of 0 left) (operand_of 1 right)) k)
      × elim (is_division op) [ true ↦ ZeroCode q tokens (operator_nodes width left right) site width right j d k | false ↦ j ≡ d ]

  abbrev pub CallCode : Proc → ℕ → ℕ → Expression → List Expression → NodeId → NodeId → Type 0
  CallCode q tokens site callee actuals n k =
      (m : NodeId) × (j : NodeId) × (exits : Exits) × OperandCode nodes_there callee 0 n m × OperandsCode nodes_there actuals 1 m j
      × Is j (remaining tokens (nodes callee + nodes_of_all actuals + normal_tokens (slice_get q.sites site)))
      (node.Call record { number = site } (operand_of 0 callee) (arguments_of 1 actuals) exits)
      × ExitsCode (slice_get q.sites site) exits k

  abbrev pub YieldCode : Proc → ℕ → ℕ → List Expression → NodeId → NodeId → Type 0
  YieldCode q tokens site values n k =
      (j : NodeId) × (exits : Exits) × OperandsCode nodes_there values 0 n j
      × Is j (remaining tokens (nodes_of_all values + normal_tokens (slice_get q.sites site)))
      (node.Yield record { number = site } (operands_of 0 values) exits)
      × ExitsCode (slice_get q.sites site) exits k

  abbrev pub JumpCode : ℕ → Expression → List Expression → NodeId → Type 0
  JumpCode tokens callee actuals n =
      (m : NodeId) × (j : NodeId) × OperandCode nodes_there callee 0 n m × OperandsCode nodes_there actuals 1 m j
      × Is j (remaining tokens (nodes callee + nodes_of_all actuals)) (node.Jump (operand_of 0 callee) (arguments_of 1 actuals))

  abbrev pub CutCode : ℕ → Expression → List Expression → List ℕ → NodeId → Type 0
  CutCode tokens to values own n =
      (m : NodeId) × (j : NodeId) × OperandCode nodes_there to 0 n m × OperandsCode nodes_there values 1 m j
      × Is j (remaining tokens (nodes to + nodes_of_all values))
      (node.Cut (operand_of 0 to) (arguments_of 1 values) (map (λ k. record { number = k }) own))

  abbrev pub ReturnCode : ℕ → ℕ → ℕ → List Expression → NodeId → Type 0
  ReturnCode tokens exit alternates values n =
      (j : NodeId) × OperandsCode nodes_there values 0 n j
      × Is j (remaining tokens (nodes_of_all values)) (node.Return exit alternates (arguments_of 0 values))

-- ---- statements

-- the procedure, the nodes of its graph, and the node to which a `goto` to each label goes
module _ (q : Proc) (nodes_there : List Node) (label_node : ℕ → NodeId) where
  abbrev mutual
    -- The nodes from n on are the code of a statement of m tokens, behind which control goes on at k. A `goto` has no node
    -- of its own: to go on at the node of its label is a step. A continuation that is reached from above ends the run.
    pub FormCode : ℕ → Form → NodeId → NodeId → Type 0
    FormCode tokens Empty n k = IsNode nodes_there n 1 (node.Goto k)
    FormCode tokens (If' condition _ then_ _ otherwise) n k =
        (held : NodeId) × (failed : NodeId) × TestCode nodes_there condition n held failed × RowCode then_ held k × RowCode otherwise failed k
    FormCode tokens (Switch' value _ arms) n k =
        (j : NodeId) × (to : List Arm) × (otherwise : NodeId) × OperandCode nodes_there value 0 n j
        × IsNode nodes_there j (remaining tokens (nodes value)) (node.Switch (operand_of 0 value) to otherwise)
        × ArmsCode arms to k × DefaultCode arms otherwise k
    FormCode tokens (Span' _ body) n k = (j : NodeId) × IsNode nodes_there n 1 (node.Goto j) × RowCode body j k
    FormCode tokens (Assign to values) n k = AssignCode nodes_there to values n k
    FormCode tokens (Call site callee actuals) n k = CallCode nodes_there q tokens site callee actuals n k
    FormCode tokens (Yield site values) n k = YieldCode nodes_there q tokens site values n k
    FormCode tokens (Checked site op width left right) n k = CheckedCode nodes_there q tokens site op width left right n k
    FormCode tokens (PutByte value) n k =
        (j : NodeId) × OperandCode nodes_there value 0 n j × IsNode nodes_there j 1 (node.Host (host.PutByte (operand_of 0 value)) k)
    FormCode tokens (GetByte target) n k = IsNode nodes_there n 1 (node.Host (host.GetByte target) k)
    FormCode tokens (Jump callee actuals) n k = JumpCode nodes_there tokens callee actuals n
    FormCode tokens (Return exit alternates values) n k = ReturnCode nodes_there tokens exit alternates values n
    FormCode tokens (Label l) n k = IsNode nodes_there n 1 (node.Goto k)
    FormCode tokens (form.Goto l) n k = n ≡ label_node l
    FormCode tokens (Continuation c) n k = IsNode nodes_there n 1 node.Stop
    FormCode tokens (Cut to values own) n k = CutCode nodes_there tokens to values own n

    -- the statements of a block, one behind the other
    pub RowCode : {i : _} → Row_of-Statement i → NodeId → NodeId → Type 0
    RowCode end_of-Statement n k = n ≡ k
    RowCode (more_of-Statement tokens form rest) n k = (m : NodeId) × FormCode tokens form n m × RowCode rest m k

    -- the arms of a switch in their order, without a default
    pub ArmsCode : {i : _} → Row_of-Arm i → List Arm → NodeId → Type 0
    ArmsCode end_of-Arm to k = to ≡ []
    ArmsCode (more_of-Arm (Arm' (In ranges) _ body) rest) to k =
        (m : NodeId) × (more : List Arm) × (to ≡ record { ranges = ranges; to = m } ∷ more) × RowCode body m k × ArmsCode rest more k
    ArmsCode (more_of-Arm (Arm' Default _ body) rest) to k = ArmsCode rest to k

    -- the first default, or the end of the run where there is none
    pub DefaultCode : {i : _} → Row_of-Arm i → NodeId → NodeId → Type 0
    DefaultCode end_of-Arm n k = IsNode nodes_there n 1 node.Stop
    DefaultCode (more_of-Arm (Arm' (In ranges) _ body) rest) n k = DefaultCode rest n k
    DefaultCode (more_of-Arm (Arm' Default _ body) rest) n k = RowCode body n k

  -- the statements that are still to do, with the end of the body behind them
  abbrev pub ListCode : List Statement → NodeId → Type 0
  ListCode [] n = IsNode nodes_there n 1 node.Stop
  ListCode (statement ∷ rest) n = (k : NodeId) × FormCode statement.tokens statement.form n k × ListCode rest k
