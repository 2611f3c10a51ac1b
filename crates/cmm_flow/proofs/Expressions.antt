-- The code of an expression brings its value: once control has come through it, the operand has the value, in the same store.
use Rattle.std.proofs.Common.{◌≡◌, ℕ, suc, ◌+◌, ◌^◌, ◌<◌, ◌≤◌, max, Bool, true, false, Result, Ok, Err, refl, ap, ◌∙◌, subst, arith}
use Rattle.std.proofs.lemmas.Bool.Decides.{nat_tests}
use Rattle.cmm_machine_laws.specs.Observed.{store_seen}
use Rattle.cmm_program.specs.declared.expression.Expression.{Expression, Row_of-Expression, more_of-Expression}
use Rattle.cmm_program.specs.declared.expression.Expression.TheVariants.{Known, Variable, Register, Stackdata, Continuation, Load', Unary', Binary', SignExtend', ZeroExtend', LowBits'}
use Rattle.cmm_program.specs.declared.procedure.Proc.{Proc}
use Rattle.cmm_program.specs.Errors.{Tried, ZeroDivisor, and_then, given}
use Rattle.cmm_program.specs.Folds.{fold_operand}
use Rattle.cmm_program.specs.Orders as order
use Rattle.cmm_program.specs.Orders.{Order}
use Rattle.cmm_program.specs.State.{Running, Store}
use Rattle.cmm_program.specs.Values.{loaded, value_of, value_step}
use Rattle.cmm_program.specs.Writes.{reads_of}
use Rattle.cmm_words.specs.declared.width.Width.{Width}
use Rattle.cmm_words.specs.declared.width.Width.TheVariants.{W64}
use Rattle.cmm_words.specs.Widths.{IsWord}
use Rattle.cmm_words.specs.Words.{value1, value2, sign_extended, low_bits}
use mathlib.Core.Former.{one_more}
use Rattle.cmm_graph.specs.declared.node.NodeKind.TheVariants.{Assign}
use Rattle.cmm_graph.specs.declared.number.NodeId.{NodeId}
use Rattle.cmm_graph.specs.declared.number.Temporary.{Temporary}
use Rattle.cmm_graph.specs.declared.operand.Destination.{Destination}
use Rattle.cmm_graph.specs.declared.operand.Operand.{Operand}
use Rattle.cmm_graph.specs.declared.operand.Rvalue.{Rvalue}
use Rattle.cmm_graph.specs.declared.operand.Rvalue.TheVariants as rvalue
use Rattle.cmm_graph.specs.GraphControl.{held_by, with_temporary}
use Rattle.cmm_graph.specs.Values.{found_value, operand_value, operand_word, rvalue_value}
use Rattle.cmm_graph.specs.Covering.{extra_tokens, operator_tokens}
use Rattle.cmm_flow.specs.Code.{IsNode, OperandCode, PartCode, SameCode, ValueCode, to_temporary}
use Rattle.cmm_flow.specs.Operands.{is_plain, nodes, nodes_in, operand_in, operand_of, temporary}
use Rattle.cmm_flow.proofs.Fits.{HasPart, IsFit, IsTyped, has_parts, part_given, small_given, typed_with, word_passes}
use Rattle.cmm_flow.proofs.Operands.{AreSameBelow, in_temporary, inner, inner_in, nodes_inner, operator_alike, operator_some, plain_value, value_kept}
use Rattle.cmm_flow.proofs.Steps.{Goes, Run, Youngest, and_goes, at, passes_one, stays_there}

-- what goes on with a value that is there
pub bound : {A B E : Type 0} (t : Result A E) (next : A → Result B E) (v : B) → and_then t next ≡ Ok v → (a : A) × (t ≡ Ok a) × (next a ≡ Ok v)
bound (Ok a) next v is = (a, refl, is)
bound (Err e) next v is = grind (arith, is)

module _ {r : Run} (y : Youngest r) (store : Store) (running : store.status ≡ Running) where
  abbrev gives : (Temporary → ℕ) → Operand → Tried ℕ
  gives temporaries o = operand_value (held_by temporaries) o (reads_of r.setting store)

  -- control comes from a node to another, where an operand has a value; temporaries below the base are left alone
  pub record Brings (temporaries : Temporary → ℕ) (n k : NodeId) (most base : ℕ) (o : Operand) (v : ℕ) : Type 0 where
    pub after : Temporary → ℕ
    pub path : Goes r (store_seen store) 0 most (at y store temporaries n) (at y store after k)
    pub value : gives after o ≡ Ok v
    pub below : AreSameBelow base temporaries after

  -- control comes to the last node of a value, whose right side has it
  pub record Comes (temporaries : Temporary → ℕ) (n k : NodeId) (most base : ℕ) (to : Destination) (v : ℕ) : Type 0 where
    pub after : Temporary → ℕ
    pub last : NodeId
    pub side : Rvalue
    pub before : ℕ
    pub tokens : ℕ
    pub path : Goes r (store_seen store) 0 before (at y store temporaries n) (at y store after last)
    pub node : IsNode y.graph.nodes last tokens (Assign to side k)
    pub fits : before + max 1 tokens ≤ most + 1
    pub value : rvalue_value (held_by after) side (reads_of r.setting store) ≡ Ok v
    pub below : AreSameBelow base temporaries after

  -- the value of a right side into a temporary
  pub into_temporary : (temporaries : Temporary → ℕ) (n k : NodeId) (base v tokens : ℕ) (side : Rvalue) →
      IsNode y.graph.nodes n tokens (Assign (to_temporary base) side k) →
      rvalue_value (held_by temporaries) side (reads_of r.setting store) ≡ Ok v →
      Goes r (store_seen store) 1 (max 1 tokens) (at y store temporaries n) (at y store (with_temporary (record { number = base }) v temporaries) k)
  into_temporary temporaries n k base v tokens side node is =
      passes_one y store store temporaries n tokens (Assign (to_temporary base) side k) (order.Choose v) v running node
      (ap (λ t. and_then t (λ way. Ok (order.Choose way))) is) refl running refl refl

  -- what the temporaries are once one has a value
  pub written : (temporaries : Temporary → ℕ) (base v : ℕ) → with_temporary (record { number = base }) v temporaries (record { number = base }) ≡ v
  written temporaries base v = grind (arith, nat_tests)

  pub written_below : (temporaries : Temporary → ℕ) (base v : ℕ) → AreSameBelow base temporaries (with_temporary (record { number = base }) v temporaries)
  written_below temporaries base v u less = grind (arith, nat_tests, less)

  -- from the last node of an operand's value on
  pub brings_last : (e : Expression) (temporaries : Temporary → ℕ) (n k : NodeId) (base v : ℕ) → is_plain e ≡ false →
      operand_of base e ≡ temporary base → Comes temporaries n k (inner e) base (to_temporary base) v → Brings temporaries n k (nodes e) base (operand_of base e) v
  brings_last e temporaries n k base v is o comes = record {
    after = with_temporary (record { number = base }) v comes.after;
    path =
        let fits = comes.fits in
        and_goes comes.path (into_temporary comes.after comes.last k base v comes.tokens comes.side comes.node comes.value) (omega arith)
        (omega (arith, fits, nodes_inner e is));
    value = rw o (ap Ok (written comes.after base v));
    below = λ u less. written_below comes.after base v u less ∙ comes.below u less;
  }

  -- an operand, from what the code of its value brings
  brings_from : (e : Expression) (temporaries : Temporary → ℕ) (n k : NodeId) (base v : ℕ) →
      ((is : value_of e (reads_of r.setting store) ≡ Ok v) → ValueCode y.graph.nodes e base (to_temporary base) n k →
      Comes temporaries n k (inner e) base (to_temporary base) v) →
      OperandCode y.graph.nodes e base n k → value_of e (reads_of r.setting store) ≡ Ok v → Brings temporaries n k (nodes e) base (operand_of base e) v
  brings_from e temporaries n k base v comes code is = by (is_plain e) refl code
    where
      by : (plain : Bool) → is_plain e ≡ plain → elim plain as (λ _. Type 0) [ true ↦ n ≡ k | false ↦ ValueCode y.graph.nodes e base (to_temporary base) n k ] →
          Brings temporaries n k (nodes e) base (operand_of base e) v
      by true plain same = record {
        after = temporaries;
        path = subst (λ m. Goes r (store_seen store) 0 (nodes e) (at y store temporaries n) (at y store temporaries m)) same (stays_there (nodes e) (at y store temporaries n));
        value = plain_value temporaries base (reads_of r.setting store) e plain ∙ is;
        below = λ u less. refl;
      }
      by false plain code = brings_last e temporaries n k base v plain (in_temporary base e plain) (comes is code)

  -- a right side whose value is a word
  pub right_is : (temporaries : Temporary → ℕ) (side : Rvalue) (v : ℕ) → v < 2 ^ 64 → found_value (held_by temporaries) side (reads_of r.setting store) ≡ Ok v →
      rvalue_value (held_by temporaries) side (reads_of r.setting store) ≡ Ok v
  right_is temporaries side v small is = word_passes W64 (found_value (held_by temporaries) side) (reads_of r.setting store) v is small

  -- an operand that is a word
  pub operand_is : (temporaries : Temporary → ℕ) (w : Width) (o : Operand) (x : ℕ) → IsWord w x → gives temporaries o ≡ Ok x →
      operand_word (held_by temporaries) w o (reads_of r.setting store) ≡ Ok x
  operand_is temporaries w o x word is = word_passes w (operand_value (held_by temporaries) o) (reads_of r.setting store) x is word

  -- a value that its one node gives
  one_node : (temporaries : Temporary → ℕ) (n k : NodeId) (base : ℕ) (to : Destination) (v : ℕ) (side : Rvalue) →
      IsNode y.graph.nodes n 1 (Assign to side k) → v < 2 ^ 64 → found_value (held_by temporaries) side (reads_of r.setting store) ≡ Ok v →
      Comes temporaries n k 0 base to v
  one_node temporaries n k base to v side node small is = record {
    after = temporaries;
    last = n;
    side = side;
    before = 0;
    tokens = 1;
    path = stays_there 0 (at y store temporaries n);
    node = node;
    fits = omega arith;
    value = right_is temporaries side v small is;
    below = λ u less. refl;
  }

  -- the last node of an operator with one operand
  one_operand : (temporaries : Temporary → ℕ) (n m k : NodeId) (before tokens most base : ℕ) → before + max 1 tokens ≤ most + 1 → (to : Destination) (o : Operand) (x v : ℕ) (side : Rvalue) →
      Brings temporaries n m before base o x → IsNode y.graph.nodes m tokens (Assign to side k) →
      v < 2 ^ 64 → ((after : Temporary → ℕ) → gives after o ≡ Ok x → found_value (held_by after) side (reads_of r.setting store) ≡ Ok v) →
      Comes temporaries n k most base to v
  one_operand temporaries n m k before tokens most base fits to o x v side brings node small is = record {
    after = brings.after;
    last = m;
    side = side;
    before = before;
    tokens = tokens;
    path = brings.path;
    node = node;
    fits = fits;
    value = right_is brings.after side v small (is brings.after brings.value);
    below = brings.below;
  }

  module _ {q : Proc} (fit : IsFit r.setting q store) where
    abbrev Has : {i : _} → Width → Row_of-Expression (one_more i) → Type 0
    Has w a = HasPart r.setting.program q w a

    -- operands, which are words of their widths and stay
    part_is : {i : _} (w : Width) (a : Row_of-Expression (one_more i)) (base : ℕ) (temporaries : Temporary → ℕ) (x : ℕ) → Has w a →
        fold_operand value_step a (reads_of r.setting store) ≡ Ok x → gives temporaries (operand_in base a) ≡ Ok x →
        operand_word (held_by temporaries) w (operand_in base a) (reads_of r.setting store) ≡ Ok x
    part_is w a base temporaries x has is given_ = operand_is temporaries w (operand_in base a) x (part_given fit w a x has is) given_

    part_kept : {i : _} (base : ℕ) (temporaries others : Temporary → ℕ) (a : Row_of-Expression (one_more i)) → AreSameBelow (suc base) temporaries others →
        gives others (operand_in base a) ≡ gives temporaries (operand_in base a)
    part_kept base temporaries others (more_of-Expression a rest) same =
        value_kept base (suc base) temporaries others (reads_of r.setting store) a (omega arith) same

    -- the value of an expression
    mutual
      pub value_comes : (e : Expression) (temporaries : Temporary → ℕ) (base : ℕ) (to : Destination) (n k : NodeId) (v : ℕ) → IsTyped r.setting.program q e →
          value_of e (reads_of r.setting store) ≡ Ok v → ValueCode y.graph.nodes e base to n k → Comes temporaries n k (inner e) base to v
      value_comes (Known value) temporaries base to n k v typed is node = one_node temporaries n k base to v _ node (small_given fit (Known value) v typed is) is
      value_comes (Variable number width) temporaries base to n k v typed is node =
          one_node temporaries n k base to v _ node (small_given fit (Variable number width) v typed is) is
      value_comes (Register number width) temporaries base to n k v typed is node =
          one_node temporaries n k base to v _ node (small_given fit (Register number width) v typed is) is
      value_comes (Stackdata number) temporaries base to n k v typed is node =
          one_node temporaries n k base to v _ node (small_given fit (Stackdata number) v typed is) is
      value_comes (Continuation number) temporaries base to n k v typed is node =
          one_node temporaries n k base to v _ node (small_given fit (Continuation number) v typed is) is
      value_comes (Load' width aligned c address) temporaries base to n k v typed is code =
          let x = bound (fold_operand value_step address (reads_of r.setting store)) (loaded (reads_of r.setting store) width aligned) v is in
          one_operand temporaries n code.0 k (nodes_in address) (extra_tokens width aligned + 1) (nodes_in address + extra_tokens width aligned) base (omega arith) to (operand_in base address) x.0 v _
          (part_brings W64 address temporaries base n code.0 x.0 (has_parts r.setting.program q (Load' width aligned c address) typed) x.1 code.1) code.2
          (small_given fit (Load' width aligned c address) v typed is)
          (λ after gives. ap (λ t. and_then t (loaded (reads_of r.setting store) width aligned)) gives ∙ x.2)
      value_comes (Unary' op width c a) temporaries base to n k v typed is code =
          let x = bound (fold_operand value_step a (reads_of r.setting store)) (λ x. Ok (value1 op width x)) v is in
          let has = has_parts r.setting.program q (Unary' op width c a) typed in
          one_operand temporaries n code.0 k (nodes_in a) 1 (nodes_in a) base (omega arith) to (operand_in base a) x.0 v _
          (part_brings width a temporaries base n code.0 x.0 has x.1 code.1) code.2 (small_given fit (Unary' op width c a) v typed is)
          (λ after gives. ap (λ t. and_then t (λ x. Ok (value1 op width x))) (part_is width a base after x.0 has x.1 gives) ∙ x.2)
      value_comes (Binary' op width c a d b) temporaries base to n k v typed is code =
          let reads = reads_of r.setting store in
          let x = bound (fold_operand value_step a reads) (λ x. and_then (fold_operand value_step b reads) (λ z. given (value2 op width x z) ZeroDivisor Ok)) v is in
          let z = bound (fold_operand value_step b reads) (λ z. given (value2 op width x.0 z) ZeroDivisor Ok) v x.2 in
          let has = has_parts r.setting.program q (Binary' op width c a d b) typed in
          let first = part_brings width a temporaries base n code.0 x.0 has.0 x.1 code.2 in
          let second = part_brings width b first.after (suc base) code.0 code.1 z.0 has.1 z.1 code.3 in
          let left = part_is width a base second.after x.0 has.0 x.1 (part_kept base first.after second.after a second.below ∙ first.value) in
          let right = part_is width b (suc base) second.after z.0 has.1 z.1 second.value in
          let side = rvalue.Binary op width (operand_in base a) (operand_in (suc base) b) in
          record {
            after = second.after;
            last = code.1;
            side = side;
            before = nodes_in a + nodes_in b;
            tokens = operator_tokens width (operand_in base a) (operand_in (suc base) b);
            path = and_goes first.path second.path (omega arith) (omega arith);
            node = code.4;
            fits = omega (arith, operator_alike width base a b, operator_some width (operand_in 0 a) (operand_in 1 b));
            value =
                right_is second.after side v (small_given fit (Binary' op width c a d b) v typed is)
                (ap (λ t. and_then t (λ u. and_then (operand_word (held_by second.after) width (operand_in (suc base) b) reads) (λ w. given (value2 op width u w) ZeroDivisor Ok))) left
                ∙ ap (λ t. and_then t (λ w. given (value2 op width x.0 w) ZeroDivisor Ok)) right ∙ z.2);
            below = λ u less. second.below u (omega arith) ∙ first.below u less;
          }
      value_comes (SignExtend' from to' c a) temporaries base to n k v typed is code =
          let x = bound (fold_operand value_step a (reads_of r.setting store)) (λ x. Ok (sign_extended from to' x)) v is in
          let has = has_parts r.setting.program q (SignExtend' from to' c a) typed in
          one_operand temporaries n code.0 k (nodes_in a) 1 (nodes_in a) base (omega arith) to (operand_in base a) x.0 v _
          (part_brings from a temporaries base n code.0 x.0 has x.1 code.1) code.2 (small_given fit (SignExtend' from to' c a) v typed is)
          (λ after gives. ap (λ t. and_then t (λ x. Ok (sign_extended from to' x))) (part_is from a base after x.0 has x.1 gives) ∙ x.2)
      value_comes (ZeroExtend' from to' c a) temporaries base to n k v typed is code =
          same_comes from a temporaries base to n k v (has_parts r.setting.program q (ZeroExtend' from to' c a) typed) is code
      value_comes (LowBits' from to' c a) temporaries base to n k v typed is code =
          let x = bound (fold_operand value_step a (reads_of r.setting store)) (λ x. Ok (low_bits to' x)) v is in
          let has = has_parts r.setting.program q (LowBits' from to' c a) typed in
          one_operand temporaries n code.0 k (nodes_in a) 1 (nodes_in a) base (omega arith) to (operand_in base a) x.0 v _
          (part_brings from a temporaries base n code.0 x.0 has x.1 code.1) code.2 (small_given fit (LowBits' from to' c a) v typed is)
          (λ after gives. ap (λ t. and_then t (λ x. Ok (low_bits to' x))) (part_is from a base after x.0 has x.1 gives) ∙ x.2)

      part_brings : {i : _} (w : Width) (a : Row_of-Expression (one_more i)) (temporaries : Temporary → ℕ) (base : ℕ) (n k : NodeId) (v : ℕ) → Has w a →
          fold_operand value_step a (reads_of r.setting store) ≡ Ok v → PartCode y.graph.nodes a base n k →
          Brings temporaries n k (nodes_in a) base (operand_in base a) v
      part_brings w (more_of-Expression a rest) temporaries base n k v has is code =
          brings_from a temporaries n k base v
          (λ is code. value_comes a temporaries base (to_temporary base) n k v (typed_with r.setting.program q w a has) is code) code is

      same_comes : {i : _} (w : Width) (a : Row_of-Expression (one_more i)) (temporaries : Temporary → ℕ) (base : ℕ) (to : Destination) (n k : NodeId) (v : ℕ) → Has w a →
          fold_operand value_step a (reads_of r.setting store) ≡ Ok v → SameCode y.graph.nodes a base to n k → Comes temporaries n k (inner_in a) base to v
      same_comes w (more_of-Expression a rest) temporaries base to n k v has is code =
          value_comes a temporaries base to n k v (typed_with r.setting.program q w a has) is code

    -- the operand of an expression
    pub operand_brings : (e : Expression) (temporaries : Temporary → ℕ) (base : ℕ) (n k : NodeId) (v : ℕ) → IsTyped r.setting.program q e →
        value_of e (reads_of r.setting store) ≡ Ok v → OperandCode y.graph.nodes e base n k → Brings temporaries n k (nodes e) base (operand_of base e) v
    operand_brings e temporaries base n k v typed is code =
        brings_from e temporaries n k base v (λ is code. value_comes e temporaries base (to_temporary base) n k v typed is code) code is
