-- The code of each form of statement does what the machine does, at a cost by the form.
use Rattle.std.proofs.Common.{◌≡◌, ℕ, ◌+◌, ◌&&◌, max, nat_le, nat_lt, Bool, true, false, IsTrue, Ok, Option, Some, None, List, [], ◌∷◌, length, map, slice_get, refl, ap, sym, ◌∙◌, arith}
use Rattle.std.proofs.lemmas.Bool.{and_parts}
use Rattle.std.specs.List.{list_all}
use Rattle.cmm_program.specs.declared.expression.Expression.{Expression}
use Rattle.cmm_program.specs.declared.procedure.Proc.{Proc}
use Rattle.cmm_program.specs.declared.program.Program.{Program}
use Rattle.cmm_program.specs.declared.statement.Form.{Form}
use Rattle.cmm_program.specs.declared.statement.Form.TheVariants.{Empty, If', Switch', Span', Assign, Call, Yield, Checked, PutByte, GetByte, Jump, Return, Label, Continuation, Cut}
use Rattle.cmm_program.specs.declared.statement.Form.TheVariants as form
use Rattle.cmm_program.specs.declared.statement.Statement.{Statement}
use Rattle.cmm_program.specs.Acts.{checked_order, evaluated, places_of, values_of, words_of}
use Rattle.cmm_program.specs.Bodies.{Branch, arm_for, branches}
use Rattle.cmm_program.specs.Errors.{NoArm, and_then, given}
use Rattle.cmm_program.specs.InRange.{are_arms, are_assigned, are_passed, at_most_64, at_site, below, is_call_site, is_checked_site, is_form, is_yield_site}
use Rattle.cmm_program.specs.Orders as order
use Rattle.cmm_program.specs.Orders.{Order, writes}
use Rattle.cmm_program.specs.Performing.{Stay, Transfer, perform}
use Rattle.cmm_program.specs.State.{Running, Store}
use Rattle.cmm_program.specs.Todo as todo
use Rattle.cmm_program.specs.Todo.{aim_of, if_way, site_results, switch_way}
use Rattle.cmm_program.specs.Typing.{has_width, is_typed, typed}
use Rattle.cmm_program.specs.Values.{test_of, value_of}
use Rattle.cmm_program.specs.Writes.{put_all, reads_of}
use Rattle.cmm_words.specs.declared.width.Width.{Width}
use Rattle.cmm_words.specs.declared.width.Width.TheVariants.{W64}
use Rattle.cmm_words.specs.Words.{is_division, value2}
use Rattle.cmm_graph.specs.declared.number.NodeId.{NodeId}
use Rattle.cmm_graph.specs.declared.number.Temporary.{Temporary}
use Rattle.cmm_flow.specs.Flow.{IsFlowOf}
use Rattle.cmm_flow.specs.Operands.{nodes, nodes_of_all, test_nodes}
use Rattle.cmm_flow.specs.Statements.{FormCode, normal_tokens, operator_nodes, remaining}
use Rattle.cmm_flow.proofs.Assigning.{assign_cost, assigned_lvalues, assigned_typed}
use Rattle.cmm_flow.proofs.Checking.{checked_asks, checked_passes, result_leaves, result_performs, with_result}
use Rattle.cmm_flow.proofs.Done.{CodeOf, Finally, IsDone, Quietly, asked, is_done_for, there}
use Rattle.cmm_flow.proofs.Expressions.{bound}
use Rattle.cmm_flow.proofs.Fits.{AreTyped, IsFit, IsTyped, typed_with}
use Rattle.cmm_flow.proofs.Leaving.{call_asks, cut_asks, get_asks, jump_asks, put_asks, return_asks, yield_asks}
use Rattle.cmm_flow.proofs.Plain.{assign_passes, chosen_done, goto_done, if_passes, nothing_done, switch_passes}
use Rattle.cmm_flow.proofs.Rows.{row_leads}
use Rattle.cmm_flow.proofs.Steps.{Run, Youngest, at_most}
use Rattle.cmm_flow.proofs.Writes.{put_all_leaves}

-- the most that a passage through the code of a statement costs
abbrev pub form_cost : Proc → ℕ → Form → ℕ
form_cost q tokens (If' condition _ then_ _ otherwise) = test_nodes condition
form_cost q tokens (Switch' value _ arms) = nodes value + max 1 (remaining tokens (nodes value))
form_cost q tokens (Assign to values) = assign_cost to values
form_cost q tokens (Call site callee actuals) =
    nodes callee + nodes_of_all actuals + remaining tokens (nodes callee + nodes_of_all actuals + normal_tokens (slice_get q.sites site))
form_cost q tokens (Yield site values) = nodes_of_all values + remaining tokens (nodes_of_all values + normal_tokens (slice_get q.sites site))
form_cost q tokens (Checked site op width left right) =
    operator_nodes width left right + 1 + remaining tokens (operator_nodes width left right + 1 + normal_tokens (slice_get q.sites site))
form_cost q tokens (PutByte value) = nodes value + 1
form_cost q tokens (Jump callee actuals) = nodes callee + nodes_of_all actuals + remaining tokens (nodes callee + nodes_of_all actuals)
form_cost q tokens (Return exit alternates values) = nodes_of_all values + remaining tokens (nodes_of_all values)
form_cost q tokens (Cut to values own) = nodes to + nodes_of_all values + remaining tokens (nodes to + nodes_of_all values)
form_cost q tokens _ = 1

-- ---- what is in range of a form

first_two : (a b c : Bool) → IsTrue (a && b && c) → IsTrue a × IsTrue b
first_two a b c is = (grind (arith, is), grind (arith, is))

last_two : (a b c : Bool) → IsTrue (a && b && c) → IsTrue b × IsTrue c
last_two a b c is = (grind (arith, is), grind (arith, is))

last_of_four : (a b c d : Bool) → IsTrue (a && b && c && d) → IsTrue c × IsTrue d
last_of_four a b c d is = (grind (arith, is), grind (arith, is))

module _ (p : Program) (q : Proc) where
  passed_typed : (es : List Expression) → IsTrue (are_passed p q es) → AreTyped p q es
  passed_typed es are = (and_parts (at_most_64 es) (list_all (is_typed p q) es) are).1

  switch_typed : (value : Expression) (bs : List Branch) → IsTrue (are_arms (typed p q value) bs) → IsTyped p q value
  switch_typed value bs are = by (typed p q value) are
    where
      by : (o : Option Width) → IsTrue (are_arms o bs) → IsTrue (elim o as (λ _. Bool) [ Some found ↦ true | None ↦ false ])
      by (Some found) are = refl
      by None are = are

module _ {r : Run} (y : Youngest r) (q : Proc) (flow : IsFlowOf q y.graph) (store : Store) (running : store.status ≡ Running) (fit : IsFit r.setting q store) where
  abbrev p : Program
  p = r.setting.program

  abbrev pub Performs : Order → Type 0
  Performs o = (transfer : Transfer) × (perform r.setting o store ≡ Ok transfer)

  -- the order of a statement is done in silence, or a node comes to it
  pub form_done : (tokens : ℕ) (form : Form) (rest : List Statement) (temporaries : Temporary → ℕ) (n k : NodeId) (o : Order) → IsTrue (is_form p q form) →
      FormCode q y.graph.nodes flow.label_node tokens form n k → CodeOf y q flow store rest k →
      evaluated (reads_of r.setting store) (todo.act_of q form) ≡ asked o → Performs o → IsDone y q flow store temporaries n form rest o (form_cost q tokens form)
  form_done tokens Empty rest temporaries n k o range node behind is performs = nothing_done y q flow store running temporaries Empty rest n k o is node behind
  form_done tokens (Label l) rest temporaries n k o range node behind is performs =
      nothing_done y q flow store running temporaries (Label l) rest n k o is node behind
  form_done tokens (form.Goto l) rest temporaries n k o range same behind is performs = goto_done y q flow store running l temporaries rest n o is same
  form_done tokens (Span' c body) rest temporaries n k o range code behind is performs =
      nothing_done y q flow store running temporaries (Span' c body) rest n code.0 o is code.1
      (row_leads q y.graph.nodes flow.label_node body code.0 k code.2 rest behind)
  form_done tokens (If' condition c then_ d otherwise) rest temporaries n k o range code behind is performs =
      let reads = reads_of r.setting store in
      let way = bound (if_way (test_of condition) reads) (λ n. Ok (order.Choose n)) o is in
      let found = bound (test_of condition reads) (λ holds. Ok (elim holds [ true ↦ 0 | false ↦ 1 ])) way.0 way.1 in
      let same : elim found.0 as (λ _. ℕ) [ true ↦ 0 | false ↦ 1 ] ≡ way.0 = grind (arith, found.2) in
      chosen_done y q flow store running temporaries (If' condition c then_ d otherwise) rest n o way.0 (test_nodes condition) way.2
      (if_passes y q flow store running condition then_ otherwise rest temporaries n code.0 code.1 k found.0 way.0 same fit range found.1 code.2 behind code.3 code.4)
  form_done tokens (Switch' value c arms) rest temporaries n k o range code behind is performs =
      let reads = reads_of r.setting store in
      let way = bound (switch_way (branches arms) (value_of value) reads) (λ n. Ok (order.Choose n)) o is in
      let v = bound (value_of value reads) (λ v. given (arm_for (branches arms) v) NoArm Ok) way.0 way.1 in
      let arm = there (arm_for (branches arms) v.0) NoArm Ok way.0 v.2 in
      let same : arm.0 ≡ way.0 = grind (arith, arm.2) in
      chosen_done y q flow store running temporaries (Switch' value c arms) rest n o way.0 (nodes value + max 1 (remaining tokens (nodes value))) way.2
      (switch_passes y q flow store running value arms rest temporaries n code.0 code.1 code.2 k (remaining tokens (nodes value)) v.0 way.0 fit (switch_typed p q value (branches arms) range) v.1
      (arm.1 ∙ ap (λ a. Some a) same) code.3 code.4 code.5 code.6 behind)
  form_done tokens (Assign to values) rest temporaries n k o range code behind is performs =
      let reads = reads_of r.setting store in
      let are = (and_parts (nat_lt 0 (length to)) (are_assigned p q to values) range).1 in
      let ps = bound (places_of reads (map aim_of to)) (λ ps. and_then (values_of reads (map value_of values)) (λ vs. Ok (order.Assign (writes ps vs)))) o is in
      let vs = bound (values_of reads (map value_of values)) (λ vs. Ok (order.Assign (writes ps.0 vs))) o ps.2 in
      let same : o ≡ order.Assign (writes ps.0 vs.0) = grind (arith, vs.2) in
      let after =
      bound (put_all (writes ps.0 vs.0) store) (λ after. Ok (Stay 0 after)) performs.0 (ap (λ o. perform r.setting o store) (sym same) ∙ performs.1) in
      is_done_for y q flow store (order.Assign (writes ps.0 vs.0)) o (ap (λ o. asked o) (sym same))
      (Quietly 0 after.0 (ap (λ t. and_then t (λ after. Ok (Stay 0 after))) after.1) (put_all_leaves (writes ps.0 vs.0) store after.0 after.1)
      (assign_passes y q flow store running to values rest temporaries n k ps.0 vs.0 after.0 fit
      (assigned_lvalues p q to values are) (assigned_typed p q to values are) ps.1 vs.1 after.1 code behind))
  form_done tokens (Call site callee actuals) rest temporaries n k o range code behind is performs =
      let are = last_two (at_site p q site (is_call_site p q)) (has_width p q W64 callee) (are_passed p q actuals) range in
      let reads = reads_of r.setting store in
      let to = bound (value_of callee reads) (λ to. and_then (words_of reads (map todo.passed actuals)) (λ ws. Ok (order.Call site to ws))) o is in
      let ws = bound (words_of reads (map todo.passed actuals)) (λ ws. Ok (order.Call site to.0 ws)) o to.2 in
      is_done_for y q flow store (order.Call site to.0 ws.0) o ws.2
      (Finally refl (call_asks y q flow store running fit (Call site callee actuals) rest temporaries tokens site n k callee actuals to.0 ws.0 refl (typed_with p q W64 callee are.0)
      (passed_typed p q actuals are.1) to.1 ws.1 code behind))
  form_done tokens (Yield site values) rest temporaries n k o range code behind is performs =
      let are = (and_parts (at_site p q site (is_yield_site p q (length values))) (are_passed p q values) range).1 in
      let vs = bound (values_of (reads_of r.setting store) (map value_of values)) (λ vs. Ok (order.Yield site vs)) o is in
      is_done_for y q flow store (order.Yield site vs.0) o vs.2
      (Finally refl (yield_asks y q flow store running fit (Yield site values) rest temporaries tokens site n k values vs.0 refl (passed_typed p q values are) vs.1 code behind))
  form_done tokens (Checked site op width left right) rest temporaries n k o range code behind is performs =
      let are =
      last_of_four (at_site p q site (is_checked_site p q width)) (is_division op) (has_width p q width left) (has_width p q width right) range in
      let reads = reads_of r.setting store in
      let a = bound (value_of left reads) (λ a. and_then (value_of right reads) (λ b. Ok (checked_order site (site_results q site) (value2 op width a b)))) o is in
      let b = bound (value_of right reads) (λ b. Ok (checked_order site (site_results q site) (value2 op width a.0 b))) o a.2 in
      by are a.0 b.0 a.1 b.1 (value2 op width a.0 b.0) refl b.2
    where
      by : (are : IsTrue (has_width p q width left) × IsTrue (has_width p q width right)) (a b : ℕ) → value_of left (reads_of r.setting store) ≡ Ok a → value_of right (reads_of r.setting store) ≡ Ok b → (found : Option ℕ) →
          value2 op width a b ≡ found → asked (checked_order site (site_results q site) found) ≡ asked o →
          IsDone y q flow store temporaries n (Checked site op width left right) rest o (form_cost q tokens (Checked site op width left right))
      by are a b is_left is_right (Some v) has same =
          let passes = checked_passes y q flow store running fit tokens site op width left right rest temporaries n k a b v are.0 are.1 is_left is_right has code behind in
          is_done_for y q flow store (checked_order site (site_results q site) (Some v)) o same
          (Quietly 0 (with_result y q flow store running fit (site_results q site) v) (result_performs y q flow store running fit (site_results q site) v)
          (result_leaves y q flow store running fit (site_results q site) v)
          (record { then_ = passes.then_; to = passes.to; path = at_most passes.path (omega arith) (omega arith); code = passes.code }))
      by are a b is_left is_right None none same =
          is_done_for y q flow store (order.Yield site (1 ∷ [])) o same
          (Finally refl (checked_asks y q flow store running fit (Checked site op width left right) tokens site op width left right rest temporaries n k a b refl are.0
          are.1 is_left is_right none code behind))
  form_done tokens (PutByte value) rest temporaries n k o range code behind is performs =
      let v = bound (value_of value (reads_of r.setting store)) (λ v. Ok (order.PutByte v)) o is in
      is_done_for y q flow store (order.PutByte v.0) o v.2
      (Finally refl (put_asks y q flow store running fit (PutByte value) rest temporaries n code.0 k value v.0 refl (typed_with p q W64 value range) v.1 code.1 code.2 behind))
  form_done tokens (GetByte target) rest temporaries n k o range node behind is performs =
      is_done_for y q flow store (order.GetByte target) o is
      (Finally refl (get_asks y q flow store running fit (GetByte target) rest temporaries n k target refl node behind))
  form_done tokens (Jump callee actuals) rest temporaries n k o range code behind is performs =
      let are = and_parts (has_width p q W64 callee) (are_passed p q actuals) range in
      let reads = reads_of r.setting store in
      let to = bound (value_of callee reads) (λ to. and_then (words_of reads (map todo.passed actuals)) (λ ws. Ok (order.Jump to ws))) o is in
      let ws = bound (words_of reads (map todo.passed actuals)) (λ ws. Ok (order.Jump to.0 ws)) o to.2 in
      is_done_for y q flow store (order.Jump to.0 ws.0) o ws.2
      (Finally refl (jump_asks y q flow store running fit (Jump callee actuals) rest temporaries tokens n callee actuals to.0 ws.0 refl (typed_with p q W64 callee are.0)
      (passed_typed p q actuals are.1) to.1 ws.1 code))
  form_done tokens (Return exit alternates values) rest temporaries n k o range code behind is performs =
      let are = last_two (nat_le exit alternates) (nat_le alternates 64) (are_passed p q values) range in
      let ws = bound (words_of (reads_of r.setting store) (map todo.passed values)) (λ ws. Ok (order.Return exit alternates ws)) o is in
      is_done_for y q flow store (order.Return exit alternates ws.0) o ws.2
      (Finally refl (return_asks y q flow store running fit (Return exit alternates values) rest temporaries tokens exit alternates n values ws.0 refl (passed_typed p q values are.1) ws.1 code))
  form_done tokens (Cut to values own) rest temporaries n k o range code behind is performs =
      let are = first_two (has_width p q W64 to) (are_passed p q values) (list_all (below (length q.conts)) own) range in
      let reads = reads_of r.setting store in
      let v = bound (value_of to reads) (λ v. and_then (words_of reads (map todo.passed values)) (λ ws. Ok (order.Cut v ws own))) o is in
      let ws = bound (words_of reads (map todo.passed values)) (λ ws. Ok (order.Cut v.0 ws own)) o v.2 in
      is_done_for y q flow store (order.Cut v.0 ws.0 own) o ws.2
      (Finally refl (cut_asks y q flow store running fit (Cut to values own) rest temporaries tokens n to values own v.0 ws.0 refl (typed_with p q W64 to are.0)
      (passed_typed p q values are.1) v.1 ws.1 code))
  form_done tokens (Continuation c) rest temporaries n k o range node behind is performs = grind (arith, is)
