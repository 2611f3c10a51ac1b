-- The code of a condition leads to one node where it holds and to another where it does not.
use Rattle.std.proofs.Common.{◌≡◌, ℕ, ◌+◌, ◌&&◌, ◌||◌, not, Bool, true, false, IsTrue, Ok, refl, ap, ◌∙◌, subst, arith}
use Rattle.std.proofs.lemmas.Bool.{and_parts}
use Rattle.cmm_machine_laws.specs.Observed.{store_seen}
use Rattle.cmm_program.specs.declared.expression.Condition.{Condition, Row_of-Condition, more_of-Condition}
use Rattle.cmm_program.specs.declared.expression.Condition.TheVariants.{Compare, Not', Both', Either'}
use Rattle.cmm_program.specs.declared.procedure.Proc.{Proc}
use Rattle.cmm_program.specs.Errors.{Tried, and_then}
use Rattle.cmm_program.specs.Folds.{fold_part}
use Rattle.cmm_program.specs.Orders as order
use Rattle.cmm_program.specs.State.{Running, Store}
use Rattle.cmm_program.specs.Typing.{has_width, is_condition}
use Rattle.cmm_program.specs.Values.{test_of, test_step, value_of}
use Rattle.cmm_program.specs.Writes.{reads_of}
use Rattle.cmm_words.specs.Words.{holds}
use mathlib.Core.Former.{one_more}
use Rattle.cmm_graph.specs.declared.node.NodeKind.TheVariants.{Branch}
use Rattle.cmm_graph.specs.declared.number.NodeId.{NodeId}
use Rattle.cmm_graph.specs.declared.number.Temporary.{Temporary}
use Rattle.cmm_graph.specs.declared.operand.Comparison.{Comparison}
use Rattle.cmm_graph.specs.GraphControl.{held_by}
use Rattle.cmm_graph.specs.Values.{operand_word, test_value}
use Rattle.cmm_flow.specs.Code.{IsNode, TestCode, TestPart}
use Rattle.cmm_flow.specs.Operands.{operand_of, test_node_step, test_nodes}
use Rattle.cmm_flow.proofs.Expressions.{bound, operand_brings, operand_is}
use Rattle.cmm_flow.proofs.Fits.{IsFit, typed_with, word_given}
use Rattle.cmm_flow.proofs.Operands.{value_kept}
use Rattle.cmm_flow.proofs.Steps.{Goes, Run, Youngest, at, at_most, passes_one, then_goes}

-- the node of the answer
abbrev pub chosen : Bool → NodeId → NodeId → NodeId
chosen found held failed = elim found [ true ↦ held | false ↦ failed ]

-- an answer that is there
abbrev answer : Bool → Tried Bool
answer found = Ok found

module _ {r : Run} (y : Youngest r) (store : Store) (running : store.status ≡ Running) where
  -- a Branch by its test
  pub branch_goes : (temporaries : Temporary → ℕ) (n : NodeId) (test : Comparison) (held failed : NodeId) (found : Bool) →
      IsNode y.graph.nodes n 1 (Branch test held failed) → test_value (held_by temporaries) test (reads_of r.setting store) ≡ Ok found →
      Goes r (store_seen store) 1 1 (at y store temporaries n) (at y store temporaries (chosen found held failed))
  branch_goes temporaries n test held failed true node is =
      passes_one y store store temporaries n 1 (Branch test held failed) (order.Choose 0) 0 running node
      (ap (λ t. and_then (and_then t (λ found. Ok (elim found [ true ↦ 0 | false ↦ 1 ]))) (λ way. Ok (order.Choose way))) is) refl running refl refl
  branch_goes temporaries n test held failed false node is =
      passes_one y store store temporaries n 1 (Branch test held failed) (order.Choose 1) 1 running node
      (ap (λ t. and_then (and_then t (λ found. Ok (elim found [ true ↦ 0 | false ↦ 1 ]))) (λ way. Ok (order.Choose way))) is) refl running refl refl

  -- control comes from a node to that of the answer
  pub record Decides (temporaries : Temporary → ℕ) (n to : NodeId) (most : ℕ) : Type 0 where
    pub after : Temporary → ℕ
    pub path : Goes r (store_seen store) 1 most (at y store temporaries n) (at y store after to)

  -- where the answer is known otherwise
  decides_same : {temporaries : Temporary → ℕ} {n to : NodeId} {most : ℕ} (other : NodeId) → to ≡ other → Decides temporaries n to most → Decides temporaries n other most
  decides_same {temporaries = temporaries} {n = n} {most = most} other same decides = subst (λ u. Decides temporaries n u most) same decides

  negated : (x found : Bool) (held failed : NodeId) → answer (not x) ≡ answer found → chosen x failed held ≡ chosen found held failed
  negated true found held failed is = grind (arith, is)
  negated false found held failed is = grind (arith, is)

  -- a second test behind the first
  decides_both : (temporaries : Temporary → ℕ) (n m held failed : NodeId) (x z found : Bool) (first second : ℕ) → answer (x && z) ≡ answer found →
      Decides temporaries n (chosen x m failed) first → ((after : Temporary → ℕ) → Decides after m (chosen z held failed) second) →
      Decides temporaries n (chosen found held failed) (first + second)
  decides_both temporaries n m held failed true z found first second is decides next =
      let later = next decides.after in
      decides_same (chosen found held failed) (grind (arith, is)) (record { after = later.after; path = at_most (then_goes decides.path later.path) (omega arith) (omega arith) })
  decides_both temporaries n m held failed false z found first second is decides next =
      decides_same (chosen found held failed) (grind (arith, is)) (record { after = decides.after; path = at_most decides.path (omega arith) (omega arith) })

  decides_either : (temporaries : Temporary → ℕ) (n m held failed : NodeId) (x z found : Bool) (first second : ℕ) → answer (x || z) ≡ answer found →
      Decides temporaries n (chosen x held m) first → ((after : Temporary → ℕ) → Decides after m (chosen z held failed) second) →
      Decides temporaries n (chosen found held failed) (first + second)
  decides_either temporaries n m held failed false z found first second is decides next =
      let later = next decides.after in
      decides_same (chosen found held failed) (grind (arith, is)) (record { after = later.after; path = at_most (then_goes decides.path later.path) (omega arith) (omega arith) })
  decides_either temporaries n m held failed true z found first second is decides next =
      decides_same (chosen found held failed) (grind (arith, is)) (record { after = decides.after; path = at_most decides.path (omega arith) (omega arith) })

  module _ {q : Proc} (fit : IsFit r.setting q store) where
    -- a condition that keeps the rules on widths, and one in a row
    abbrev pub IsTested : Condition → Type 0
    IsTested c = IsTrue (is_condition r.setting.program q c)

    abbrev IsPart : {i : _} → Row_of-Condition (one_more i) → Type 0
    IsPart (more_of-Condition a rest) = IsTested a

    -- so do the parts of one
    abbrev AreParts : Condition → Type 0
    AreParts (Not' _ a) = IsPart a
    AreParts (Both' _ a _ b) = IsPart a × IsPart b
    AreParts (Either' _ a _ b) = IsPart a × IsPart b
    AreParts _ = Unit {0}

    are_parts : (c : Condition) → IsTested c → AreParts c
    are_parts (Not' _ (more_of-Condition a _)) tested = tested
    are_parts (Both' _ (more_of-Condition a _) _ (more_of-Condition b _)) tested =
        and_parts (is_condition r.setting.program q a) (is_condition r.setting.program q b) tested
    are_parts (Either' _ (more_of-Condition a _) _ (more_of-Condition b _)) tested =
        and_parts (is_condition r.setting.program q a) (is_condition r.setting.program q b) tested
    are_parts c tested = tt

    mutual
      pub test_decides : (c : Condition) (temporaries : Temporary → ℕ) (n held failed : NodeId) (found : Bool) → IsTested c →
          test_of c (reads_of r.setting store) ≡ Ok found → TestCode y.graph.nodes c n held failed →
          Decides temporaries n (chosen found held failed) (test_nodes c)
      test_decides (Compare operator width a b) temporaries n held failed found tested is code =
          let reads = reads_of r.setting store in
          let x = bound (value_of a reads) (λ x. and_then (value_of b reads) (λ z. Ok (holds operator width x z))) found is in
          let z = bound (value_of b reads) (λ z. Ok (holds operator width x.0 z)) found x.2 in
          let p = r.setting.program in
          let has = and_parts (has_width p q width a) (has_width p q width b) tested in
          let first = operand_brings y store running fit a temporaries 0 n code.0 x.0 (typed_with p q width a has.0) x.1 code.2 in
          let second = operand_brings y store running fit b first.after 1 code.0 code.1 z.0 (typed_with p q width b has.1) z.1 code.3 in
          let left =
          operand_is y store running second.after width (operand_of 0 a) x.0 (word_given fit width a x.0 has.0 x.1)
          (value_kept 0 1 first.after second.after reads a (omega arith) second.below ∙ first.value) in
          let right = operand_is y store running second.after width (operand_of 1 b) z.0 (word_given fit width b z.0 has.1 z.1) second.value in
          let test =
          ap (λ t. and_then t (λ u. and_then (operand_word (held_by second.after) width (operand_of 1 b) reads) (λ w. Ok (holds operator width u w)))) left
          ∙ ap (λ t. and_then t (λ w. Ok (holds operator width x.0 w))) right ∙ z.2 in
          record {
            after = second.after;
            path = at_most (then_goes (then_goes first.path second.path) (branch_goes second.after code.1 _ held failed found code.4 test)) (omega arith) (omega arith);
          }
      test_decides (Not' c a) temporaries n held failed found tested is code =
          let x = bound (fold_part test_step a (reads_of r.setting store)) (λ x. Ok (not x)) found is in
          decides_same (chosen found held failed) (negated x.0 found held failed x.2) (part_decides a temporaries n failed held x.0 (are_parts (Not' c a) tested) x.1 code)
      test_decides (Both' c a d b) temporaries n held failed found tested is code =
          let reads = reads_of r.setting store in
          let x = bound (fold_part test_step a reads) (λ x. and_then (fold_part test_step b reads) (λ z. Ok (x && z))) found is in
          let z = bound (fold_part test_step b reads) (λ z. Ok (x.0 && z)) found x.2 in
          let are = are_parts (Both' c a d b) tested in
          decides_both temporaries n code.0 held failed x.0 z.0 found (fold_part test_node_step a) (fold_part test_node_step b) z.2
          (part_decides a temporaries n code.0 failed x.0 are.0 x.1 code.1) (λ after. part_decides b after code.0 held failed z.0 are.1 z.1 code.2)
      test_decides (Either' c a d b) temporaries n held failed found tested is code =
          let reads = reads_of r.setting store in
          let x = bound (fold_part test_step a reads) (λ x. and_then (fold_part test_step b reads) (λ z. Ok (x || z))) found is in
          let z = bound (fold_part test_step b reads) (λ z. Ok (x.0 || z)) found x.2 in
          let are = are_parts (Either' c a d b) tested in
          decides_either temporaries n code.0 held failed x.0 z.0 found (fold_part test_node_step a) (fold_part test_node_step b) z.2
          (part_decides a temporaries n held code.0 x.0 are.0 x.1 code.1) (λ after. part_decides b after code.0 held failed z.0 are.1 z.1 code.2)

      pub part_decides : {i : _} (a : Row_of-Condition (one_more i)) (temporaries : Temporary → ℕ) (n held failed : NodeId) (found : Bool) → IsPart a →
          fold_part test_step a (reads_of r.setting store) ≡ Ok found → TestPart y.graph.nodes a n held failed →
          Decides temporaries n (chosen found held failed) (fold_part test_node_step a)
      part_decides (more_of-Condition a rest) temporaries n held failed found tested is code = test_decides a temporaries n held failed found tested is code
