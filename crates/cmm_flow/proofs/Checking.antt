-- A checked operator: its value is assigned, or the site yields where the divisor is 0.
use Rattle.std.proofs.Common.{◌≡◌, ℕ, ◌+◌, ◌^◌, ◌<◌, max, ◌==◌, Bool, true, false, IsTrue, Ok, Option, Some, None, IfSome, List, [], ◌∷◌, map, slice_get, refl, ap, ◌∙◌, subst, arith}
use Rattle.std.proofs.lemmas.Bool.Decides.{nat_tests}
use Rattle.std.proofs.lemmas.Nat.{pow_pos}
use Rattle.cmm_machine_laws.specs.Observed.{store_seen}
use Rattle.cmm_program.specs.declared.expression.Expression.{Expression}
use Rattle.cmm_program.specs.declared.procedure.Proc.{Proc}
use Rattle.cmm_program.specs.declared.procedure.Target.{Target}
use Rattle.cmm_program.specs.declared.statement.Form.{Form}
use Rattle.cmm_program.specs.declared.statement.Statement.{Statement}
use Rattle.cmm_program.specs.Errors.{ZeroDivisor, and_then, given}
use Rattle.cmm_program.specs.Orders as order
use Rattle.cmm_program.specs.Orders.{Held, writes}
use Rattle.cmm_program.specs.Performing.{Stay, perform}
use Rattle.cmm_program.specs.State.{Running, Store}
use Rattle.cmm_program.specs.Todo.{site_results}
use Rattle.cmm_program.specs.Typing.{has_width}
use Rattle.cmm_program.specs.Values.{Reads, value_of}
use Rattle.cmm_program.specs.Writes.{assigned, reads_of}
use Rattle.cmm_words.proofs.Shared.{value2-word, word_64}
use Rattle.cmm_words.specs.Widths.{IsWord, bits}
use Rattle.cmm_words.specs.Words.{is_division, value2}
use Rattle.cmm_words.specs.declared.operators.Cmp.TheVariants.{Eq}
use Rattle.cmm_words.specs.declared.constant.Constant.TheVariants.{Number}
use Rattle.cmm_words.specs.declared.operators.Op2.{Op2}
use Rattle.cmm_words.specs.declared.operators.Op2.TheVariants.{Divu, Modu, Div, Mod, Quot, Rem}
use Rattle.cmm_words.specs.declared.width.Width.{Width}
use Rattle.cmm_words.specs.declared.width.Width.TheVariants.{W64}
use Rattle.cmm_graph.specs.declared.node.NodeKind.TheVariants.{Assign, Yield}
use Rattle.cmm_graph.specs.declared.number.NodeId.{NodeId}
use Rattle.cmm_graph.specs.declared.number.Temporary.{Temporary}
use Rattle.cmm_graph.specs.declared.operand.Comparison.{Comparison}
use Rattle.cmm_graph.specs.declared.operand.Operand.TheVariants.{Constant}
use Rattle.cmm_graph.specs.declared.operand.Rvalue.{Rvalue}
use Rattle.cmm_graph.specs.declared.operand.Rvalue.TheVariants.{Binary}
use Rattle.cmm_graph.specs.GraphControl.{held_by, with_temporary}
use Rattle.cmm_graph.specs.Values.{operand_value, operand_word, rvalue_value, test_value}
use Rattle.cmm_flow.specs.Code.{IsNode}
use Rattle.cmm_flow.specs.Flow.{IsFlowOf}
use Rattle.cmm_graph.specs.Covering.{operator_tokens}
use Rattle.cmm_flow.specs.Operands.{operand_of}
use Rattle.cmm_flow.specs.Statements.{CheckedCode, ZeroCode, first_result, normal_tokens, operator_nodes, remaining}
use Rattle.cmm_flow.proofs.Assigning.{target_goes}
use Rattle.cmm_flow.proofs.Done.{Asks, CodeOf, Passes}
use Rattle.cmm_flow.proofs.Expressions.{into_temporary, operand_brings, operand_is, right_is}
use Rattle.cmm_flow.proofs.Fits.{IsFit, typed_with, word_given}
use Rattle.cmm_flow.proofs.Leaving.{IsSilent}
use Rattle.cmm_flow.proofs.Operands.{operator_some, value_kept}
use Rattle.cmm_flow.proofs.Steps.{Goes, Run, Youngest, at, at_most, shown_as, stays_there, then_goes}
use Rattle.cmm_flow.proofs.Conditions.{branch_goes}
use Rattle.cmm_flow.proofs.Writes.{Leaves, assigned_leaves, leaves_itself}

-- a division has a value unless the divisor is 0, and any other operator has one
division_value : (op : Op2) (width : Width) (a b : ℕ) → is_division op ≡ true → (b == 0) ≡ elim (value2 op width a b) [ Some v ↦ false | None ↦ true ]
division_value Divu width a b is = grind (arith, nat_tests)
division_value Modu width a b is = grind (arith, nat_tests)
division_value Div width a b is = grind (arith, nat_tests)
division_value Mod width a b is = grind (arith, nat_tests)
division_value Quot width a b is = grind (arith, nat_tests)
division_value Rem width a b is = grind (arith, nat_tests)
division_value op width a b is = grind (arith, is)

other_value : (op : Op2) (width : Width) (a b : ℕ) → is_division op ≡ false → value2 op width a b ≡ None → ⊥
other_value op width a b is none = grind (arith, is, none)

-- the value of an operator on words
small_value : (op : Op2) (width : Width) (a b v : ℕ) → IsWord width a → IsWord width b → value2 op width a b ≡ Some v → v < 2 ^ 64
small_value op width a b v left right has =
    let Fits : Option ℕ → Type 0 = λ o. IfSome o (IsWord width) in word_64 width v (subst Fits has (value2-word op width a b left right))

module _ {r : Run} (y : Youngest r) (q : Proc) (flow : IsFlowOf q y.graph) (store : Store) (running : store.status ≡ Running) (fit : IsFit r.setting q store) where
  abbrev Has : Width → Expression → Type 0
  Has width e = IsTrue (has_width r.setting.program q width e)

  -- the store once the first of some targets has a value
  abbrev pub with_result : List Target → ℕ → Store
  with_result [] v = store
  with_result (t ∷ ts) v = assigned t v store

  pub result_leaves : (ts : List Target) (v : ℕ) → Leaves store (with_result ts v)
  result_leaves [] v = leaves_itself store
  result_leaves (t ∷ ts) v = assigned_leaves t v store

  pub result_performs : (ts : List Target) (v : ℕ) → perform r.setting (order.Assign (writes (map Held ts) (v ∷ []))) store ≡ Ok (Stay 0 (with_result ts v))
  result_performs [] v = refl
  result_performs (t ∷ []) v = refl
  result_performs (t ∷ u ∷ ts) v = refl

  -- a value to the first of some targets
  record TakesResult (temporaries : Temporary → ℕ) (n k : NodeId) (ts : List Target) (v tokens : ℕ) : Type 0 where
    after : Temporary → ℕ
    path : Goes r (store_seen store) 1 tokens (at y store temporaries n) (at y (with_result ts v) after k)

  result_goes : (ts : List Target) (temporaries : Temporary → ℕ) (n k : NodeId) (tokens : ℕ) (side : Rvalue) (v : ℕ) →
      IsNode y.graph.nodes n tokens (Assign (first_result ts) side k) → rvalue_value (held_by temporaries) side (reads_of r.setting store) ≡ Ok v →
      TakesResult temporaries n k ts v (max 1 tokens)
  result_goes [] temporaries n k tokens side v node is =
      record { after = with_temporary (record { number = 0 }) v temporaries; path = into_temporary y store running temporaries n k 0 v tokens side node is }
  result_goes (t ∷ ts) temporaries n k tokens side v node is =
      record { after = temporaries; path = shown_as (assigned_leaves t v store).seen (target_goes y store temporaries n k t tokens side v running node is) }

  -- the test of the divisor
  abbrev Divides : Bool → ℕ → ℕ → ℕ → Width → Expression → NodeId → NodeId → NodeId → Type 0
  Divides division tokens used site width divisor j d k =
      elim division [ true ↦ ZeroCode y.graph.nodes q tokens used site width divisor j d k | false ↦ j ≡ d ]

  abbrev reads : Reads
  reads = reads_of r.setting store

  abbrev zero_test : Width → Expression → Comparison
  zero_test width divisor = record { operator = Eq; width = width; left = operand_of 1 divisor; right = Constant (Number 0 width) }

  tested : (width : Width) (divisor : Expression) (temporaries : Temporary → ℕ) (b : ℕ) (found : Bool) → IsWord width b →
      operand_value (held_by temporaries) (operand_of 1 divisor) reads ≡ Ok b → (b == 0) ≡ found →
      test_value (held_by temporaries) (zero_test width divisor) reads ≡ Ok found
  tested width divisor temporaries b found word value is =
      let left = operand_is y store running temporaries width (operand_of 1 divisor) b word value in
      let right = operand_is y store running temporaries width (Constant (Number 0 width)) 0 (pow_pos (bits width)) refl in
      ap (λ t. and_then t (λ x. and_then (operand_word (held_by temporaries) width (Constant (Number 0 width)) reads) (λ z. Ok (x == z)))) left
      ∙ ap (λ t. and_then t (λ z. Ok (b == z))) right ∙ ap (λ found. Ok found) is

  -- past it where there is a value
  past_test : (op : Op2) (width : Width) (a b v : ℕ) → IsWord width b → value2 op width a b ≡ Some v → (division : Bool) → is_division op ≡ division → (tokens used site : ℕ)
      (divisor : Expression) (temporaries : Temporary → ℕ) (j d k : NodeId) → operand_value (held_by temporaries) (operand_of 1 divisor) (reads_of r.setting store) ≡ Ok b →
      Divides division tokens used site width divisor j d k → Goes r (store_seen store) 0 1 (at y store temporaries j) (at y store temporaries d)
  past_test op width a b v word has true is tokens used site divisor temporaries j d k value code =
      let not_zero : (b == 0) ≡ false = grind (arith, division_value op width a b is, has) in
      at_most (branch_goes y store running temporaries j (zero_test width divisor) code.0 d false code.2
      (tested width divisor temporaries b false word value not_zero)) (omega arith) (omega arith)
  past_test op width a b v word has false is tokens used site divisor temporaries j d k value same =
      subst (λ m. Goes r (store_seen store) 0 1 (at y store temporaries j) (at y store temporaries m)) same (stays_there 1 (at y store temporaries j))

  pub checked_passes : (tokens site : ℕ) (op : Op2) (width : Width) (left right : Expression) (rest : List Statement) (temporaries : Temporary → ℕ) (n k : NodeId)
      (a b v : ℕ) → Has width left → Has width right → value_of left (reads_of r.setting store) ≡ Ok a → value_of right (reads_of r.setting store) ≡ Ok b → value2 op width a b ≡ Some v →
      CheckedCode y.graph.nodes q tokens site op width left right n k → CodeOf y q flow store rest k →
      Passes y q flow store temporaries n (with_result (site_results q site) v) rest (operator_nodes width left right + 1)
  checked_passes tokens site op width left right rest temporaries n k a b v has_left has_right is_left is_right has code behind =
      let first = operand_brings y store running fit left temporaries 0 n code.0 a (typed_with r.setting.program q width left has_left) is_left code.3 in
      let second = operand_brings y store running fit right first.after 1 code.0 code.1 b (typed_with r.setting.program q width right has_right) is_right code.4 in
      let word = word_given fit width left a has_left is_left in
      let divisor = word_given fit width right b has_right is_right in
      let kept =
      operand_is y store running second.after width (operand_of 0 left) a word
      (value_kept 0 1 first.after second.after reads left (omega arith) second.below ∙ first.value) in
      let over = operand_is y store running second.after width (operand_of 1 right) b divisor second.value in
      let test = past_test op width a b v divisor has (is_division op) refl tokens (operator_nodes width left right) site right second.after code.1 code.2 k second.value code.6 in
      let side = Binary op width (operand_of 0 left) (operand_of 1 right) in
      let value =
      right_is y store running second.after side v (small_value op width a b v word divisor has)
      (ap (λ t. and_then t (λ x. and_then (operand_word (held_by second.after) width (operand_of 1 right) reads) (λ z. given (value2 op width x z) ZeroDivisor Ok))) kept
      ∙ ap (λ t. and_then t (λ z. given (value2 op width a z) ZeroDivisor Ok)) over ∙ ap (λ o. given o ZeroDivisor Ok) has) in
      let divides = operator_tokens width (operand_of 0 left) (operand_of 1 right) in
      let takes = result_goes (site_results q site) second.after code.2 k divides side v code.5 value in
      let some = operator_some width (operand_of 0 left) (operand_of 1 right) in
      record {
        then_ = takes.after;
        to = k;
        path = at_most (then_goes (then_goes (then_goes first.path second.path) test) takes.path) (omega arith) (omega (arith, some));
        code = behind;
      }

  -- to the yield where there is none
  zero_asks : (form : Form) (op : Op2) (width : Width) (a b : ℕ) → IsWord width b → value2 op width a b ≡ None → (division : Bool) → is_division op ≡ division → (tokens used site : ℕ)
      (divisor : Expression) (rest : List Statement) (temporaries then_ : Temporary → ℕ) (n j d k : NodeId) → IsSilent y q flow store running fit form →
      operand_value (held_by then_) (operand_of 1 divisor) (reads_of r.setting store) ≡ Ok b →
      Divides division tokens used site width divisor j d k → CodeOf y q flow store rest k →
      Goes r (store_seen store) 0 used (at y store temporaries n) (at y store then_ j) →
      Asks y q flow store temporaries n form rest (order.Yield site (1 ∷ [])) (used + 1 + remaining tokens (used + 1 + normal_tokens (slice_get q.sites site)))
  zero_asks form op width a b word none true is tokens used site divisor rest temporaries then_ n j d k silent value code behind path =
      let zero : (b == 0) ≡ true = grind (arith, division_value op width a b is, none) in
      let test = branch_goes y store running then_ j (zero_test width divisor) code.0 d true code.2 (tested width divisor then_ b true word value zero) in
      record {
        then_ = then_;
        to = code.0;
        tokens = remaining tokens (used + 1 + normal_tokens (slice_get q.sites site));
        kind = Yield (record { number = site }) (Constant (Number 1 W64) ∷ []) code.1;
        before = used + 1;
        path = at_most (then_goes path test) (omega arith) (omega arith);
        node = code.3;
        same = refl;
        event = silent;
        within = omega arith;
        next = (code.1, k, refl, code.4, behind);
      }
  zero_asks form op width a b word none false is tokens used site divisor rest temporaries then_ n j d k silent value same behind path =
      absurd (other_value op width a b is none)

  pub checked_asks : (form : Form) (tokens site : ℕ) (op : Op2) (width : Width) (left right : Expression) (rest : List Statement) (temporaries : Temporary → ℕ)
      (n k : NodeId) (a b : ℕ) → IsSilent y q flow store running fit form → Has width left → Has width right → value_of left (reads_of r.setting store) ≡ Ok a →
      value_of right (reads_of r.setting store) ≡ Ok b → value2 op width a b ≡ None → CheckedCode y.graph.nodes q tokens site op width left right n k →
      CodeOf y q flow store rest k → Asks y q flow store temporaries n form rest (order.Yield site (1 ∷ []))
      (operator_nodes width left right + 1 + remaining tokens (operator_nodes width left right + 1 + normal_tokens (slice_get q.sites site)))
  checked_asks form tokens site op width left right rest temporaries n k a b silent has_left has_right is_left is_right none code behind =
      let first = operand_brings y store running fit left temporaries 0 n code.0 a (typed_with r.setting.program q width left has_left) is_left code.3 in
      let second = operand_brings y store running fit right first.after 1 code.0 code.1 b (typed_with r.setting.program q width right has_right) is_right code.4 in
      zero_asks form op width a b (word_given fit width right b has_right is_right) none (is_division op) refl tokens (operator_nodes width left right) site right rest temporaries second.after n code.1 code.2 k silent
      second.value code.6 behind (at_most (then_goes first.path second.path) (omega arith) (omega arith))
