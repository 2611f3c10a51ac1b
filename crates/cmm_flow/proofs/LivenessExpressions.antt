-- The code of expressions and conditions as the paths of liveness see it: it reads the variables that these read, and writes
-- none of the procedure's but its destination.
use Rattle.cmm_program.proofs.Shared.{or_left_comm}
use Rattle.std.proofs.Math.Bool.{or-false, or_assoc}
use Rattle.std.proofs.Common.{◌≡◌, ◌⊎◌, inl, inr, ℕ, suc, ◌||◌, Bool, true, false, IsFalse, List, [], ◌∷◌, ◌++◌, refl, ap, sym, ◌∙◌, subst, arith}
use Rattle.cmm_program.specs.declared.expression.Expression.{Expression, Row_of-Expression, more_of-Expression}
use Rattle.cmm_program.specs.declared.expression.Expression.TheVariants.{Known, Variable, Register, Stackdata, Continuation, Load', Unary', Binary', SignExtend', ZeroExtend', LowBits'}
use Rattle.cmm_program.specs.declared.expression.Condition.{Condition, Row_of-Condition, more_of-Condition}
use Rattle.cmm_program.specs.declared.expression.Condition.TheVariants.{Compare, Not', Both', Either'}
use Rattle.cmm_program.specs.Folds.{fold_condition, fold_operand, fold_part}
use Rattle.cmm_program.specs.Liveness.{is_among, read_by, read_by_all, read_step, test_read_step}
use mathlib.Core.Former.{one_more}
use Rattle.cmm_graph.specs.declared.graph.Graph.{Graph}
use Rattle.cmm_graph.specs.declared.node.NodeKind.TheVariants.{Assign, Branch}
use Rattle.cmm_graph.specs.declared.number.NodeId.{NodeId}
use Rattle.cmm_graph.specs.declared.operand.Comparison.{Comparison}
use Rattle.cmm_graph.specs.declared.operand.Destination.{Destination}
use Rattle.cmm_graph.specs.declared.operand.Rvalue.{Rvalue}
use Rattle.cmm_graph.specs.declared.operand.Rvalue.TheVariants as rvalue
use Rattle.cmm_graph.specs.Paths.{operands_of_rvalue, values_of, written_to_destination}
use Rattle.cmm_graph.specs.Covering.{least_for}
use Rattle.cmm_flow.specs.Code.{Assigns, IsNode, OperandCode, OperandsCode, PartCode, SameCode, TestCode, TestPart, ValueCode, ValuesCode, to_temporary}
use Rattle.cmm_flow.specs.Operands.{arguments_of, is_plain, operand_in, operand_of, operands_of}
use Rattle.cmm_flow.proofs.LivenessMembers.{is_among-append}
use Rattle.cmm_flow.proofs.LivenessPieces.{Piece, any_local, any_operand, any_read, fewer, left_as, node_piece, one_node, read_as, stay, then_either, then_piece}
use Rattle.cmm_flow.proofs.Operands.{in_temporary}

-- what is passed are the operands
pub values_passed : (base : ℕ) (es : List Expression) → values_of (arguments_of base es) ≡ operands_of base es
values_passed base [] = refl
values_passed base (e ∷ es) = ap (λ os. operand_of base e ∷ os) (values_passed (suc base) es)

module _ (g : Graph) (v : ℕ) where
  -- control goes on at a node, where a value was not written to the variable
  abbrev pub Written : Destination → NodeId → NodeId → Type 0
  Written to k m = IsFalse (any_local v (written_to_destination to)) × (k ≡ m)

  assigns_piece : (to : Destination) (value : Rvalue) (n k : NodeId) → Assigns g.nodes to value n k →
      Piece g v 1 n (any_operand v (operands_of_rvalue value)) (Written to k)
  assigns_piece to value n k is = one_node g v n k (least_for value) (Assign to value k) is refl

  pub into_temporary : (base : ℕ) (n k : NodeId) (r : Bool) → Piece g v 1 n r (Written (to_temporary base) k) → Piece g v 1 n r (λ m. k ≡ m)
  into_temporary base n k r piece = left_as g v (λ m. k ≡ m) (λ m is. is.1) (λ m same. (refl, same)) piece

  -- ---- operands

  plain_reads : (base : ℕ) (e : Expression) → is_plain e ≡ true → any_read v (operand_of base e) ≡ is_among v (read_by e)
  plain_reads base (Known value) is = refl
  plain_reads base (Variable number width) is = refl
  plain_reads base (Stackdata number) is = refl
  plain_reads base (Continuation number) is = refl
  plain_reads base (ZeroExtend' from to _ (more_of-Expression a rest)) is = plain_reads base a is
  plain_reads base e is = grind (arith, is)

  other_reads : (base : ℕ) (e : Expression) → is_plain e ≡ false → any_read v (operand_of base e) ≡ false
  other_reads base e is = ap (any_read v) (in_temporary base e is)

  -- what reads an operand reads the expression, from where the expression's code begins
  operand_from : (e : Expression) (base s : ℕ) (n k : NodeId) (b : Bool) (X : NodeId → Type 0) →
      (ValueCode g.nodes e base (to_temporary base) n k → Piece g v 1 n (is_among v (read_by e)) (λ m. k ≡ m)) →
      OperandCode g.nodes e base n k → Piece g v s k (any_read v (operand_of base e) || b) X → Piece g v s n (is_among v (read_by e) || b) X
  operand_from e base s n k b X value code piece = by (is_plain e) refl code
    where
      by : (plain : Bool) → is_plain e ≡ plain → elim plain as (λ _. Type 0) [ true ↦ n ≡ k | false ↦ ValueCode g.nodes e base (to_temporary base) n k ] →
          Piece g v s n (is_among v (read_by e) || b) X
      by true plain same =
          read_as g v (is_among v (read_by e) || b) (ap (λ a. a || b) (plain_reads base e plain))
          (subst (λ m. Piece g v s m (any_read v (operand_of base e) || b) X) (sym same) piece)
      by false plain code =
          then_piece g v 1 s s (omega arith) (value code) (read_as g v b (ap (λ a. a || b) (other_reads base e plain)) piece)

  -- ---- the value of an expression

  -- the last node of an operator with one operand
  last_part : {i : _} (a : Row_of-Expression (one_more i)) (base : ℕ) (to : Destination) (value : Rvalue) (m k : NodeId) →
      Assigns g.nodes to value m k → operands_of_rvalue value ≡ operand_in base a ∷ [] → Piece g v 1 m (any_read v (operand_in base a) || false) (Written to k)
  last_part a base to value m k node is = read_as g v (any_read v (operand_in base a) || false) (ap (any_operand v) is) (assigns_piece to value m k node)

  pub alone : {s : ℕ} {n : NodeId} {X : NodeId → Type 0} (b : Bool) → Piece g v s n (b || false) X → Piece g v s n b X
  alone b piece = read_as g v b (or-false b) piece

  mutual
    pub value_piece : (e : Expression) (base : ℕ) (to : Destination) (n k : NodeId) → ValueCode g.nodes e base to n k →
        Piece g v 1 n (is_among v (read_by e)) (Written to k)
    value_piece (Known value) base to n k node = assigns_piece to (rvalue.Copy (operand_of base (Known value))) n k node
    value_piece (Variable number width) base to n k node =
        read_as g v (is_among v (number ∷ [])) (or-false (is_among v (number ∷ []))) (assigns_piece to (rvalue.Copy (operand_of base (Variable number width))) n k node)
    value_piece (Register number width) base to n k node = assigns_piece to (rvalue.Register record { number = number }) n k node
    value_piece (Stackdata number) base to n k node = assigns_piece to (rvalue.Copy (operand_of base (Stackdata number))) n k node
    value_piece (Continuation number) base to n k node = assigns_piece to (rvalue.Copy (operand_of base (Continuation number))) n k node
    value_piece (Load' width aligned _ address) base to n k code =
        alone (is_among v (fold_operand read_step address)) (part_piece address base n code.0 false to k code.1 (last_part address base to (rvalue.Load width aligned (operand_in base address)) code.0 k code.2 refl))
    value_piece (Unary' op width _ a) base to n k code = alone (is_among v (fold_operand read_step a)) (part_piece a base n code.0 false to k code.1 (last_part a base to (rvalue.Unary op width (operand_in base a)) code.0 k code.2 refl))
    value_piece (Binary' op width _ a _ b) base to n k code =
        let j = code.1 in
        let x = any_read v (operand_in base a) in
        let y = any_read v (operand_in (suc base) b) in
        let reads_a = is_among v (fold_operand read_step a) in
        let reads_b = is_among v (fold_operand read_step b) in
        let last = read_as g v (y || (x || false)) (or_left_comm x y false)
        (assigns_piece to (rvalue.Binary op width (operand_in base a) (operand_in (suc base) b)) j k code.4) in
        let second = read_as g v (x || (reads_b || false)) (or_left_comm reads_b x false) (part_piece b (suc base) code.0 j (x || false) to k code.3 last) in
        let first = part_piece a base n code.0 (reads_b || false) to k code.2 second in
        read_as g v (is_among v (fold_operand read_step a ++ fold_operand read_step b))
        (ap (λ c. reads_a || c) (or-false reads_b) ∙ sym (is_among-append v (fold_operand read_step a) (fold_operand read_step b))) first
    value_piece (SignExtend' from to' _ a) base to n k code =
        alone (is_among v (fold_operand read_step a)) (part_piece a base n code.0 false to k code.1 (last_part a base to (rvalue.SignExtend from to' (operand_in base a)) code.0 k code.2 refl))
    value_piece (ZeroExtend' from to' _ a) base to n k code = same_piece a base to n k code
    value_piece (LowBits' from to' _ a) base to n k code = alone (is_among v (fold_operand read_step a)) (part_piece a base n code.0 false to k code.1 (last_part a base to (rvalue.LowBits from to' (operand_in base a)) code.0 k code.2 refl))

    same_piece : {i : _} (a : Row_of-Expression (one_more i)) (base : ℕ) (to : Destination) (n k : NodeId) → SameCode g.nodes a base to n k →
        Piece g v 1 n (is_among v (fold_operand read_step a)) (Written to k)
    same_piece (more_of-Expression a rest) base to n k code = value_piece a base to n k code

    part_piece : {i : _} (a : Row_of-Expression (one_more i)) (base : ℕ) (n k : NodeId) (b : Bool) (to : Destination) (last : NodeId) → PartCode g.nodes a base n k →
        Piece g v 1 k (any_read v (operand_in base a) || b) (Written to last) → Piece g v 1 n (is_among v (fold_operand read_step a) || b) (Written to last)
    part_piece (more_of-Expression a rest) base n k b to last code piece =
        operand_from a base 1 n k b (Written to last) (λ code. into_temporary base n k (is_among v (read_by a)) (value_piece a base (to_temporary base) n k code)) code piece

  pub operand_piece : (e : Expression) (base s : ℕ) (n k : NodeId) (b : Bool) (X : NodeId → Type 0) → OperandCode g.nodes e base n k →
      Piece g v s k (any_read v (operand_of base e) || b) X → Piece g v s n (is_among v (read_by e) || b) X
  operand_piece e base s n k b X code piece =
      operand_from e base s n k b X (λ code. into_temporary base n k (is_among v (read_by e)) (value_piece e base (to_temporary base) n k code)) code piece

  -- several, one after the other
  pub operands_piece : (es : List Expression) (base s : ℕ) (n k : NodeId) (b : Bool) (X : NodeId → Type 0) → OperandsCode g.nodes es base n k →
      Piece g v s k (any_operand v (operands_of base es) || b) X → Piece g v s n (is_among v (read_by_all es) || b) X
  operands_piece [] base s n k b X same piece = subst (λ m. Piece g v s m b X) (sym same) piece
  operands_piece (e ∷ es) base s n k b X code piece =
      let x = any_read v (operand_of base e) in
      let y = any_operand v (operands_of (suc base) es) in
      let reads = is_among v (read_by e) in
      let others = is_among v (read_by_all es) in
      let later = operands_piece es (suc base) s code.0 k (x || b) X code.2 (read_as g v (y || (x || b)) (or_assoc x y b ∙ or_left_comm x y b) piece) in
      let first = operand_piece e base s n code.0 (others || b) X code.1 (read_as g v (x || (others || b)) (or_left_comm others x b) later) in
      read_as g v (is_among v (read_by_all (e ∷ es)) || b)
      (sym (or_assoc reads others b) ∙ ap (λ c. c || b) (sym (is_among-append v (read_by e) (read_by_all es)))) first

  -- their values into temporaries
  pub values_piece : (es : List Expression) (base : ℕ) (n k : NodeId) → ValuesCode g.nodes es base n k →
      Piece g v 0 n (is_among v (read_by_all es)) (λ m. k ≡ m)
  values_piece [] base n k same = stay g v n k same
  values_piece (e ∷ es) base n k code =
      read_as g v (is_among v (read_by_all (e ∷ es))) (sym (is_among-append v (read_by e) (read_by_all es)))
      (then_piece g v 1 0 0 (omega arith) (into_temporary base n code.0 (is_among v (read_by e)) (value_piece e base (to_temporary base) n code.0 code.1))
      (values_piece es (suc base) code.0 k code.2))

  -- there is a node, where there is a value
  pub some_values : (e : Expression) (es : List Expression) (base : ℕ) (n k : NodeId) → ValuesCode g.nodes (e ∷ es) base n k →
      Piece g v 1 n (is_among v (read_by_all (e ∷ es))) (λ m. k ≡ m)
  some_values e es base n k code =
      read_as g v (is_among v (read_by_all (e ∷ es))) (sym (is_among-append v (read_by e) (read_by_all es)))
      (then_piece g v 1 0 1 (omega arith) (into_temporary base n code.0 (is_among v (read_by e)) (value_piece e base (to_temporary base) n code.0 code.1))
      (values_piece es (suc base) code.0 k code.2))

  -- ---- conditions

  abbrev pub EitherNode : NodeId → NodeId → NodeId → Type 0
  EitherNode a c m = (a ≡ m) ⊎ (c ≡ m)

  pub branch_piece : (n : NodeId) (test : Comparison) (held failed : NodeId) → IsNode g.nodes n 1 (Branch test held failed) →
      Piece g v 1 n (any_operand v (test.left ∷ test.right ∷ [])) (EitherNode held failed)
  branch_piece n test held failed is = left_as g v (EitherNode held failed) there back (node_piece g v n 1 (Branch test held failed) is)
    where
      there : (m : NodeId) → IsFalse false × ((held ≡ m) ⊎ ((failed ≡ m) ⊎ ⊥)) → EitherNode held failed m
      there m (is, inl same) = inl same
      there m (is, inr (inl same)) = inr same
      there m (is, inr (inr none)) = absurd none

      back : (m : NodeId) → EitherNode held failed m → IsFalse false × ((held ≡ m) ⊎ ((failed ≡ m) ⊎ ⊥))
      back m (inl same) = (refl, inl same)
      back m (inr same) = (refl, inr (inl same))

  turned : (a c m : NodeId) → EitherNode a c m → EitherNode c a m
  turned a c m (inl is) = inr is
  turned a c m (inr is) = inl is

  second_or : (a c m : NodeId) → EitherNode a c m ⊎ (c ≡ m) → EitherNode a c m
  second_or a c m (inl is) = is
  second_or a c m (inr is) = inr is

  first_or : (a c m : NodeId) → (a ≡ m) ⊎ EitherNode a c m → EitherNode a c m
  first_or a c m (inl is) = inl is
  first_or a c m (inr is) = is

  mutual
    pub test_piece : (c : Condition) (n held failed : NodeId) → TestCode g.nodes c n held failed →
        Piece g v 1 n (is_among v (fold_condition test_read_step c)) (EitherNode held failed)
    test_piece (Compare operator width a b) n held failed code =
        let x = any_read v (operand_of 0 a) in
        let y = any_read v (operand_of 1 b) in
        let reads_a = is_among v (read_by a) in
        let reads_b = is_among v (read_by b) in
        let last = read_as g v (y || (x || false)) (or_left_comm x y false) (branch_piece code.1 _ held failed code.4) in
        let second = read_as g v (x || (reads_b || false)) (or_left_comm reads_b x false) (operand_piece b 1 1 code.0 code.1 (x || false) (EitherNode held failed) code.3 last) in
        let first = operand_piece a 0 1 n code.0 (reads_b || false) (EitherNode held failed) code.2 second in
        read_as g v (is_among v (read_by a ++ read_by b)) (ap (λ c. reads_a || c) (or-false reads_b) ∙ sym (is_among-append v (read_by a) (read_by b))) first
    test_piece (Not' _ a) n held failed code =
        left_as g v (EitherNode held failed) (λ m is. turned failed held m is) (λ m is. turned held failed m is) (part_test a n failed held code)
    test_piece (Both' _ a _ b) n held failed code =
        let reads_a = is_among v (fold_part test_read_step a) in
        let reads_b = is_among v (fold_part test_read_step b) in
        read_as g v (is_among v (fold_part test_read_step a ++ fold_part test_read_step b))
        (ap (λ c. reads_a || c) (or-false reads_b) ∙ sym (is_among-append v (fold_part test_read_step a) (fold_part test_read_step b)))
        (left_as g v (EitherNode held failed) (second_or held failed) (λ m is. inl is)
        (then_either g v (part_test a n code.0 failed code.1) (fewer g v 1 0 (omega arith) (part_test b code.0 held failed code.2)) (stay g v failed failed refl)))
    test_piece (Either' _ a _ b) n held failed code =
        read_as g v (is_among v (fold_part test_read_step a ++ fold_part test_read_step b))
        (sym (is_among-append v (fold_part test_read_step a) (fold_part test_read_step b)))
        (left_as g v (EitherNode held failed) (first_or held failed) (λ m is. inr is)
        (then_either g v (part_test a n held code.0 code.1) (stay g v held held refl) (fewer g v 1 0 (omega arith) (part_test b code.0 held failed code.2))))

    part_test : {i : _} (a : Row_of-Condition (one_more i)) (n held failed : NodeId) → TestPart g.nodes a n held failed →
        Piece g v 1 n (is_among v (fold_part test_read_step a)) (EitherNode held failed)
    part_test (more_of-Condition a rest) n held failed code = test_piece a n held failed code
