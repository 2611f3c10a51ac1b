-- Code of statements stays where more nodes are laid, and so does where marks lead.
use Rattle.std.proofs.Common.{◌≡◌, ℕ, Bool, true, false, Option, Some, None, List, [], ◌∷◌, ◌++◌, length, slice_get}
use Rattle.cmm_program.specs.declared.procedure.Proc.{Proc}
use Rattle.cmm_program.specs.declared.expression.Expression.{Expression}
use Rattle.cmm_program.specs.declared.statement.Arm.{Arm, Arm', Row_of-Statement, end_of-Statement, more_of-Statement}
use Rattle.cmm_program.specs.declared.statement.Case.TheVariants.{In, Default}
use Rattle.cmm_program.specs.declared.statement.Form.{Form, Row_of-Arm, end_of-Arm, more_of-Arm}
use Rattle.cmm_program.specs.declared.statement.Form.TheVariants.{Empty, If', Switch', Span', Assign, Call, Yield, Checked, PutByte, GetByte, Jump, Return, Label, Continuation, Cut}
use Rattle.cmm_program.specs.declared.statement.Form.TheVariants as form
use Rattle.cmm_program.specs.declared.statement.Lvalue.{Lvalue}
use Rattle.cmm_program.specs.declared.statement.Lvalue.TheVariants as lvalue
use Rattle.cmm_program.specs.declared.statement.Statement.{Statement}
use Rattle.cmm_program.specs.Bodies.{Mark, after_inside, is_mark}
use Rattle.cmm_graph.specs.declared.node.Arm.{Arm as Way}
use Rattle.cmm_graph.specs.declared.node.Node.{Node}
use Rattle.cmm_graph.specs.declared.number.NodeId.{NodeId}
use Rattle.cmm_flow.specs.Statements.{ArmsCode, AssignCode, DefaultCode, FormCode, RowCode}
use Rattle.cmm_flow.specs.inside.Marks.{FrontCode, LeadsBehind, LeadsBehindForm, OtherwiseCode, WaysCode}
use Rattle.cmm_flow.proofs.Assignments.{addresses_stay, stores_stay}
use Rattle.cmm_flow.proofs.Divisions.{guard_stays}
use Rattle.cmm_flow.proofs.ExpressionsStay.{node_stays, operand_stays, operands_stay, test_stays, value_stays, values_stay}
use Rattle.cmm_flow.proofs.Passing.{exits_stay}

module _ (nodes more : List Node) where
  abbrev all : List Node
  all = nodes ++ more

  assign_stays : (to : List Lvalue) (es : List Expression) (n k : NodeId) → AssignCode nodes to es n k → AssignCode all to es n k
  assign_stays to [] n k is = node_stays nodes more n _ _ is
  assign_stays (lvalue.Target target ∷ []) (e ∷ []) n k is = value_stays nodes more e 0 _ n k is
  assign_stays (lvalue.Memory width aligned address ∷ []) (e ∷ []) n k (m, j, first, second, is) =
      (m, j, operand_stays nodes more address 0 n m first, operand_stays nodes more e 1 m j second, node_stays nodes more j _ _ is)
  assign_stays to (e ∷ es) n k (m, j, addresses, values, stores) = (
    m,
    j,
    addresses_stay nodes more to 0 n m addresses,
    values_stay nodes more (e ∷ es) (length to) m j values,
    stores_stay nodes more to (e ∷ es) 0 (length to) j k stores,
  )

  module _ (q : Proc) (label_node : ℕ → NodeId) where
    mutual
      pub form_stays : (tokens : ℕ) (form : Form) (n k : NodeId) → FormCode q nodes label_node tokens form n k → FormCode q all label_node tokens form n k
      form_stays tokens Empty n k is = node_stays nodes more n _ _ is
      form_stays tokens (If' condition _ then_ _ otherwise) n k (held, failed, test, first, second) =
          (held, failed, test_stays nodes more condition n held failed test, row_stays then_ held k first, row_stays otherwise failed k second)
      form_stays tokens (Switch' value _ arms) n k (j, to, otherwise, first, is, ways, default) =
          (j, to, otherwise, operand_stays nodes more value 0 n j first, node_stays nodes more j _ _ is, arms_stay arms to k ways, default_stays arms otherwise k default)
      form_stays tokens (Span' _ body) n k (j, is, inner) = (j, node_stays nodes more n _ _ is, row_stays body j k inner)
      form_stays tokens (Assign to values) n k is = assign_stays to values n k is
      form_stays tokens (Call site callee actuals) n k (m, j, exits, first, rest, is, normal) = (
        m,
        j,
        exits,
        operand_stays nodes more callee 0 n m first,
        operands_stay nodes more actuals 1 m j rest,
        node_stays nodes more j _ _ is,
        exits_stay nodes more (slice_get q.sites site) exits k normal,
      )
      form_stays tokens (Yield site values) n k (j, exits, rest, is, normal) =
          (j, exits, operands_stay nodes more values 0 n j rest, node_stays nodes more j _ _ is, exits_stay nodes more (slice_get q.sites site) exits k normal)
      form_stays tokens (Checked site op width left right) n k (m, j, d, first, second, is, guard) = (
        m,
        j,
        d,
        operand_stays nodes more left 0 n m first,
        operand_stays nodes more right 1 m j second,
        node_stays nodes more d _ _ is,
        guard_stays nodes more q tokens _ site op width right j d k guard,
      )
      form_stays tokens (PutByte value) n k (j, first, is) = (j, operand_stays nodes more value 0 n j first, node_stays nodes more j _ _ is)
      form_stays tokens (GetByte target) n k is = node_stays nodes more n _ _ is
      form_stays tokens (Jump callee actuals) n k (m, j, first, rest, is) =
          (m, j, operand_stays nodes more callee 0 n m first, operands_stay nodes more actuals 1 m j rest, node_stays nodes more j _ _ is)
      form_stays tokens (Return exit alternates values) n k (j, rest, is) = (j, operands_stay nodes more values 0 n j rest, node_stays nodes more j _ _ is)
      form_stays tokens (Label l) n k is = node_stays nodes more n _ _ is
      form_stays tokens (form.Goto l) n k is = is
      form_stays tokens (Continuation c) n k is = node_stays nodes more n _ _ is
      form_stays tokens (Cut to values own) n k (m, j, first, rest, is) =
          (m, j, operand_stays nodes more to 0 n m first, operands_stay nodes more values 1 m j rest, node_stays nodes more j _ _ is)

      pub row_stays : {i : _} (row : Row_of-Statement i) (n k : NodeId) → RowCode q nodes label_node row n k → RowCode q all label_node row n k
      row_stays end_of-Statement n k is = is
      row_stays (more_of-Statement tokens form rest) n k (m, first, later) = (m, form_stays tokens form n m first, row_stays rest m k later)

      arms_stay : {i : _} (row : Row_of-Arm i) (to : List Way) (k : NodeId) → ArmsCode q nodes label_node row to k → ArmsCode q all label_node row to k
      arms_stay end_of-Arm to k is = is
      arms_stay (more_of-Arm (Arm' (In ranges) _ body) rest) to k (m, others, is, first, later) =
          (m, others, is, row_stays body m k first, arms_stay rest others k later)
      arms_stay (more_of-Arm (Arm' Default _ body) rest) to k is = arms_stay rest to k is

      default_stays : {i : _} (row : Row_of-Arm i) (n k : NodeId) → DefaultCode q nodes label_node row n k → DefaultCode q all label_node row n k
      default_stays end_of-Arm n k is = node_stays nodes more n _ _ is
      default_stays (more_of-Arm (Arm' (In ranges) _ body) rest) n k is = default_stays rest n k is
      default_stays (more_of-Arm (Arm' Default _ body) rest) n k is = row_stays body n k is

    -- ---- lists

    pub front_stays : (xs : List Statement) (n k : NodeId) → FrontCode q nodes label_node xs n k → FrontCode q all label_node xs n k
    front_stays [] n k is = is
    front_stays (x ∷ xs) n k (m, first, later) = (m, form_stays x.tokens x.form n m first, front_stays xs m k later)

    pub ways_stay : (arms : List Arm) (to : List Way) (k : NodeId) → WaysCode q nodes label_node arms to k → WaysCode q all label_node arms to k
    ways_stay [] to k is = is
    ways_stay (Arm' (In ranges) _ body ∷ rest) to k (m, others, is, first, later) = (m, others, is, row_stays body m k first, ways_stay rest others k later)
    ways_stay (Arm' Default _ body ∷ rest) to k is = ways_stay rest to k is

    pub otherwise_stays : (arms : List Arm) (n k : NodeId) → OtherwiseCode q nodes label_node arms n k → OtherwiseCode q all label_node arms n k
    otherwise_stays [] n k is = node_stays nodes more n _ _ is
    otherwise_stays (Arm' (In ranges) _ body ∷ rest) n k is = otherwise_stays rest n k is
    otherwise_stays (Arm' Default _ body ∷ rest) n k is = row_stays body n k is

    -- ---- where marks lead

    pub leads_stay : (o : Option (List Statement)) (k before after : NodeId) → LeadsBehind q nodes label_node o k before after →
        LeadsBehind q all label_node o k before after
    leads_stay None k before after is = is
    leads_stay (Some inner) k before after is = front_stays inner after k is

    pub leads_form_stays : (form : Form) (k : NodeId) (mark : Mark) (before after : NodeId) → LeadsBehindForm q nodes label_node form k mark before after →
        LeadsBehindForm q all label_node form k mark before after
    leads_form_stays form k mark before after is = by (is_mark mark form) is
      where
        by : (b : Bool) → elim b as (λ _. Type 0) [ true ↦ after ≡ k | false ↦ LeadsBehind q nodes label_node (after_inside mark form) k before after ] →
            elim b as (λ _. Type 0) [ true ↦ after ≡ k | false ↦ LeadsBehind q all label_node (after_inside mark form) k before after ]
        by true is = is
        by false is = leads_stay (after_inside mark form) k before after is
