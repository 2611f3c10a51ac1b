-- Code of divisions that yield where their divisor is 0: that it stays where more nodes are laid, and how it is made of its parts.
use Rattle.std.proofs.Common.{◌≡◌, ℕ, ◌+◌, Bool, true, false, List, [], ◌∷◌, ◌++◌, slice_get, refl, sym, ap, subst}
use Rattle.cmm_words.specs.Words.{is_division}
use Rattle.cmm_words.specs.declared.constant.Constant.TheVariants.{Number}
use Rattle.cmm_words.specs.declared.operators.Cmp.TheVariants.{Eq}
use Rattle.cmm_words.specs.declared.operators.Op2.{Op2}
use Rattle.cmm_words.specs.declared.width.Width.{Width}
use Rattle.cmm_program.specs.declared.expression.Expression.{Expression}
use Rattle.cmm_program.specs.declared.procedure.Proc.{Proc}
use Rattle.cmm_program.specs.Todo.{site_results}
use Rattle.cmm_graph.specs.declared.number.NodeId.{NodeId}
use Rattle.cmm_graph.specs.declared.operand.Operand.{Operand}
use Rattle.cmm_graph.specs.declared.operand.Operand.TheVariants.{Constant}
use Rattle.cmm_graph.specs.declared.operand.Rvalue.TheVariants.{Binary}
use Rattle.cmm_graph.specs.declared.node.Node.{Node}
use Rattle.cmm_graph.specs.declared.node.NodeKind.TheVariants.{Assign, Branch}
use Rattle.cmm_graph.specs.Covering.{operator_tokens}
use Rattle.cmm_flow.specs.Operands.{operand_of}
use Rattle.cmm_flow.specs.Code.{IsNode}
use Rattle.cmm_flow.specs.Statements.{CheckedCode, ZeroCode, first_result, normal_tokens, operator_nodes, remaining}
use Rattle.cmm_flow.specs.declared.builder.Builder.{Builder}
use Rattle.cmm_flow.specs.inside.Laying.{LaysAt, LaysNode}
use Rattle.cmm_flow.specs.inside.Nodes.{nodes_of_guard, nodes_of_yield_one, nowhere}
use Rattle.cmm_flow.specs.inside.Parts.{TwoCode}
use Rattle.cmm_flow.specs.inside.Passing.{GuardCode, YieldOne}
use Rattle.cmm_flow.proofs.Begins.{node_begins, on_two, one_step, the_two}
use Rattle.cmm_flow.proofs.ExpressionsStay.{node_stays}
use Rattle.cmm_flow.proofs.Laying.{led_one, lays_other, then_lays}
use Rattle.cmm_flow.proofs.Passing.{exits_stay, told}

module _ (nodes_there more : List Node) where
  pub yield_stays : (q : Proc) (tokens site : ℕ) (n k : NodeId) → YieldOne nodes_there q tokens site n k → YieldOne (nodes_there ++ more) q tokens site n k
  yield_stays q tokens site n k (exits, is, normal) =
      (exits, node_stays nodes_there more n _ _ is, exits_stay nodes_there more (slice_get q.sites site) exits k normal)

  zero_stays : (q : Proc) (tokens used site : ℕ) (width : Width) (divisor : Expression) (n otherwise k : NodeId) →
      ZeroCode nodes_there q tokens used site width divisor n otherwise k → ZeroCode (nodes_there ++ more) q tokens used site width divisor n otherwise k
  zero_stays q tokens used site width divisor n otherwise k (y, exits, test, is, normal) =
      (y, exits, node_stays nodes_there more n _ _ test, node_stays nodes_there more y _ _ is, exits_stay nodes_there more (slice_get q.sites site) exits k normal)

  guard_by : (q : Proc) (tokens used site : ℕ) (width : Width) (divisor : Expression) (n division k : NodeId) (b : Bool) →
      elim b as (λ _. Type 0) [ true ↦ ZeroCode nodes_there q tokens used site width divisor n division k | false ↦ n ≡ division ] →
      elim b as (λ _. Type 0) [ true ↦ ZeroCode (nodes_there ++ more) q tokens used site width divisor n division k | false ↦ n ≡ division ]
  guard_by q tokens used site width divisor n division k true is = zero_stays q tokens used site width divisor n division k is
  guard_by q tokens used site width divisor n division k false is = is

  pub guard_stays : (q : Proc) (tokens used site : ℕ) (op : Op2) (width : Width) (divisor : Expression) (n division k : NodeId) →
      GuardCode nodes_there q tokens used site op width divisor n division k → GuardCode (nodes_there ++ more) q tokens used site op width divisor n division k
  guard_stays q tokens used site op width divisor n division k is = guard_by q tokens used site width divisor n division k (is_division op) is

module _ (nodes_there : List Node) where
  pub zero_code : (q : Proc) (tokens used site count : ℕ) (width : Width) (divisor : Expression) (left : Operand) (n y otherwise k : NodeId) →
      left ≡ operand_of 1 divisor → count ≡ remaining tokens (used + 1 + normal_tokens (slice_get q.sites site)) → YieldOne nodes_there q count site y k →
      IsNode nodes_there n 1 (Branch record { operator = Eq; width = width; left = left; right = Constant (Number 0 width) } y otherwise) →
      ZeroCode nodes_there q tokens used site width divisor n otherwise k
  zero_code q tokens used site count width divisor left n y otherwise k lefts counts (exits, is, normal) test = (
    y,
    exits,
    told nodes_there n 1 1 _ _ refl (ap (λ l. Branch record { operator = Eq; width = width; left = l; right = Constant (Number 0 width) } y otherwise) lefts) test,
    told nodes_there y _ _ _ _ counts refl is,
    normal,
  )

  guard_at : (q : Proc) (tokens used site : ℕ) (width : Width) (divisor : Expression) (n division k : NodeId) (a b : Bool) → a ≡ b →
      elim a as (λ _. Type 0) [ true ↦ ZeroCode nodes_there q tokens used site width divisor n division k | false ↦ n ≡ division ] →
      elim b as (λ _. Type 0) [ true ↦ ZeroCode nodes_there q tokens used site width divisor n division k | false ↦ n ≡ division ]
  guard_at q tokens used site width divisor n division k a b same is =
      subst (λ b. elim b as (λ _. Type 0) [ true ↦ ZeroCode nodes_there q tokens used site width divisor n division k | false ↦ n ≡ division ]) same is

  -- guarded, where the operator needs that
  pub guarded : (q : Proc) (tokens used site : ℕ) (op : Op2) (width : Width) (divisor : Expression) (n division k : NodeId) → is_division op ≡ true →
      ZeroCode nodes_there q tokens used site width divisor n division k → GuardCode nodes_there q tokens used site op width divisor n division k
  guarded q tokens used site op width divisor n division k is code = guard_at q tokens used site width divisor n division k true (is_division op) (sym is) code

  pub unguarded : (q : Proc) (tokens used site : ℕ) (op : Op2) (width : Width) (divisor : Expression) (division k : NodeId) → is_division op ≡ false →
      GuardCode nodes_there q tokens used site op width divisor division division k
  unguarded q tokens used site op width divisor division k is = guard_at q tokens used site width divisor division division k false (is_division op) (sym is) refl

  pub checked_code : (q : Proc) (tokens site : ℕ) (op : Op2) (width : Width) (left right : Expression) (n j d k : NodeId) →
      IsNode nodes_there d (operator_tokens width (operand_of 0 left) (operand_of 1 right))
      (Assign (first_result (site_results q site)) (Binary op width (operand_of 0 left) (operand_of 1 right)) k) →
      GuardCode nodes_there q tokens (operator_nodes width left right) site op width right j d k → TwoCode nodes_there left right n j →
      CheckedCode nodes_there q tokens site op width left right n k
  checked_code q tokens site op width left right n j d k division guard (m, first, second) = (m, j, d, first, second, division, guard)

-- a division is guarded, and goes on at the node behind the statement or at the division itself
pub guard_laid : {a b c : Builder} (q : Proc) (tokens used site count : ℕ) (width : Width) (divisor : Expression) (n y division k : NodeId) →
    LaysAt (site ∷ []) (nodes_of_yield_one q count site) (k ∷ []) [] a b (λ nodes. YieldOne nodes q count site y k) →
    LaysNode record { tokens = 1; kind = Branch record { operator = Eq; width = width; left = operand_of 1 divisor; right = Constant (Number 0 width) } y division } b c n →
    count ≡ remaining tokens (used + 1 + normal_tokens (slice_get q.sites site)) →
    LaysAt (site ∷ []) (nodes_of_guard q tokens used site width divisor) (division ∷ k ∷ []) [] a c (λ nodes. ZeroCode nodes q tokens used site width divisor n division k)
guard_laid q tokens used site count width divisor n y division k first test counts =
    let Whole : List Node → Type 0 = λ nodes. ZeroCode nodes q tokens used site width divisor n division k in
    lays_other Whole
    (then_lays Whole (led_one (division ∷ k ∷ []) first (λ g steps. one_step g k (the_two g division k steps).1)) test
    (λ nodes more. yield_stays nodes more q count site y k)
    (λ g code steps normal. on_two g y division (node_begins g y count _ code.1 refl) (the_two g division k steps).0)
    (λ nodes yields is. zero_code nodes q tokens used site count width divisor (operand_of 1 divisor) n y division k refl counts yields is))
    (ap (λ (t : ℕ). record {
      tokens = 1;
      kind = Branch record { operator = Eq; width = width; left = operand_of 1 divisor; right = Constant (Number 0 width) } nowhere nowhere;
    } ∷ nodes_of_yield_one q t site) counts) (λ nodes code. code)
