-- Statements whose last node does the same order: foreign calls, calls, yields, jumps, returns and cuts.
use Rattle.std.proofs.Common.{◌≡◌, ℕ, ◌+◌, Ok, None, List, [], ◌∷◌, map, slice_get, refl, ap, ◌∙◌, arith}
use Rattle.cmm_machine_laws.specs.Observed.{event_at, store_seen}
use Rattle.cmm_program.specs.declared.expression.Expression.{Expression}
use Rattle.cmm_program.specs.declared.procedure.Proc.{Proc}
use Rattle.cmm_program.specs.declared.procedure.Target.{Target}
use Rattle.cmm_program.specs.declared.statement.Form.{Form}
use Rattle.cmm_program.specs.declared.statement.Statement.{Statement}
use Rattle.cmm_program.specs.Acts.{GetByte, values_of, words_of}
use Rattle.cmm_program.specs.Errors.{and_then}
use Rattle.cmm_program.specs.Orders as order
use Rattle.cmm_program.specs.Orders.{Word}
use Rattle.cmm_program.specs.State.{Running, Store}
use Rattle.cmm_program.specs.Todo as todo
use Rattle.cmm_program.specs.Values.{value_of}
use Rattle.cmm_program.specs.Writes.{reads_of}
use Rattle.cmm_graph.specs.declared.node.HostCall.TheVariants as host
use Rattle.cmm_graph.specs.declared.node.NodeKind.TheVariants as kind
use Rattle.cmm_graph.specs.declared.number.ContinuationId.{ContinuationId}
use Rattle.cmm_graph.specs.declared.number.NodeId.{NodeId}
use Rattle.cmm_graph.specs.declared.number.Temporary.{Temporary}
use Rattle.cmm_graph.specs.GraphControl.{held_by}
use Rattle.cmm_graph.specs.Values.{operand_value, passed}
use Rattle.cmm_flow.specs.Code.{IsNode, OperandCode, OperandsCode}
use Rattle.cmm_flow.specs.Flow.{IsFlowOf}
use Rattle.cmm_flow.specs.Operands.{arguments_of, nodes, nodes_of_all, operand_of, operands_of}
use Rattle.cmm_flow.specs.Statements.{CallCode, CutCode, JumpCode, ReturnCode, YieldCode, normal_tokens, remaining}
use Rattle.cmm_flow.proofs.Done.{Asks, CodeOf}
use Rattle.cmm_flow.proofs.Expressions.{operand_brings}
use Rattle.cmm_flow.proofs.Fits.{AreTyped, IsFit, IsTyped}
use Rattle.cmm_flow.proofs.OperandLists.{operands_bring, same_values, same_words, values_there, words_there}
use Rattle.cmm_flow.proofs.Operands.{value_kept}
use Rattle.cmm_flow.proofs.Steps.{Goes, Run, Youngest, at, stays_there, then_goes}

-- numbers of continuations and back
same_numbers : (own : List ℕ) → map (λ c. c.number) (map {B = ContinuationId} (λ k. record { number = k }) own) ≡ own
same_numbers [] = refl
same_numbers (k ∷ ks) = ap (λ ns. k ∷ ns) (same_numbers ks)

module _ {r : Run} (y : Youngest r) (q : Proc) (flow : IsFlowOf q y.graph) (store : Store) (running : store.status ≡ Running) (fit : IsFit r.setting q store) where
  abbrev Typed : Expression → Type 0
  Typed e = IsTyped r.setting.program q e

  abbrev AllTyped : List Expression → Type 0
  AllTyped es = AreTyped r.setting.program q es

  -- a statement that takes nothing from the input
  abbrev pub IsSilent : Form → Type 0
  IsSilent form = None ≡ event_at r.setting Running store (todo.act_of q form)

  -- ---- foreign calls

  pub put_asks : (form : Form) (rest : List Statement) (temporaries : Temporary → ℕ) (n j k : NodeId) (value : Expression) (v : ℕ) → IsSilent form → Typed value →
      value_of value (reads_of r.setting store) ≡ Ok v → OperandCode y.graph.nodes value 0 n j →
      IsNode y.graph.nodes j 1 (kind.Host (host.PutByte (operand_of 0 value)) k) → CodeOf y q flow store rest k →
      Asks y q flow store temporaries n form rest (order.PutByte v) (nodes value + 1)
  put_asks form rest temporaries n j k value v silent typed is operand node behind =
      let first = operand_brings y store running fit value temporaries 0 n j v typed is operand in
      record {
        then_ = first.after;
        to = j;
        tokens = 1;
        kind = kind.Host (host.PutByte (operand_of 0 value)) k;
        before = nodes value;
        path = first.path;
        node = node;
        same = ap (λ t. and_then t (λ v. Ok (order.PutByte v))) first.value;
        event = silent;
        within = omega arith;
        next = (k, refl, behind);
      }

  pub get_asks : (form : Form) (rest : List Statement) (temporaries : Temporary → ℕ) (n k : NodeId) (target : Target) →
      event_at r.setting Running store (GetByte target) ≡ event_at r.setting Running store (todo.act_of q form) →
      IsNode y.graph.nodes n 1 (kind.Host (host.GetByte target) k) → CodeOf y q flow store rest k →
      Asks y q flow store temporaries n form rest (order.GetByte target) 1
  get_asks form rest temporaries n k target event node behind = record {
    then_ = temporaries;
    to = n;
    tokens = 1;
    kind = kind.Host (host.GetByte target) k;
    before = 0;
    path = stays_there 0 (at y store temporaries n);
    node = node;
    same = refl;
    event = event;
    within = omega arith;
    next = (k, refl, behind);
  }

  -- ---- an operand and then several

  record BringBoth (temporaries : Temporary → ℕ) (n j : NodeId) (e : Expression) (es : List Expression) (v : ℕ) : Type 0 where
    after : Temporary → ℕ
    path : Goes r (store_seen store) 0 (nodes e + nodes_of_all es) (at y store temporaries n) (at y store after j)
    value : operand_value (held_by after) (operand_of 0 e) (reads_of r.setting store) ≡ Ok v
    words : words_of (reads_of r.setting store) (passed (held_by after) (arguments_of 1 es)) ≡ words_of (reads_of r.setting store) (map todo.passed es)

  both_bring : (e : Expression) (es : List Expression) (temporaries : Temporary → ℕ) (n m j : NodeId) (v : ℕ) (ws : List Word) → Typed e → AllTyped es →
      value_of e (reads_of r.setting store) ≡ Ok v → words_of (reads_of r.setting store) (map todo.passed es) ≡ Ok ws →
      OperandCode y.graph.nodes e 0 n m → OperandsCode y.graph.nodes es 1 m j → BringBoth temporaries n j e es v
  both_bring e es temporaries n m j v ws typed all is are operand operands =
      let first = operand_brings y store running fit e temporaries 0 n m v typed is operand in
      let others = operands_bring y store running fit es first.after 1 m j all (words_there (reads_of r.setting store) es ws are) operands in
      record {
        after = others.after;
        path = then_goes first.path others.path;
        value = value_kept 0 1 first.after others.after (reads_of r.setting store) e (omega arith) others.below ∙ first.value;
        words = same_words (reads_of r.setting store) others.after 1 es others.given;
      }

  -- ---- sites

  pub call_asks : (form : Form) (rest : List Statement) (temporaries : Temporary → ℕ) (tokens site : ℕ) (n k : NodeId) (callee : Expression)
      (actuals : List Expression) (to : ℕ) (ws : List Word) → IsSilent form → Typed callee → AllTyped actuals →
      value_of callee (reads_of r.setting store) ≡ Ok to → words_of (reads_of r.setting store) (map todo.passed actuals) ≡ Ok ws → CallCode y.graph.nodes q tokens site callee actuals n k →
      CodeOf y q flow store rest k → Asks y q flow store temporaries n form rest (order.Call site to ws)
      (nodes callee + nodes_of_all actuals + remaining tokens (nodes callee + nodes_of_all actuals + normal_tokens (slice_get q.sites site)))
  call_asks form rest temporaries tokens site n k callee actuals to ws silent typed all is are code behind =
      let both = both_bring callee actuals temporaries n code.0 code.1 to ws typed all is are code.3 code.4 in
      let words = words_of (reads_of r.setting store) (passed (held_by both.after) (arguments_of 1 actuals)) in
      record {
        then_ = both.after;
        to = code.1;
        tokens = remaining tokens (nodes callee + nodes_of_all actuals + normal_tokens (slice_get q.sites site));
        kind = kind.Call (record { number = site }) (operand_of 0 callee) (arguments_of 1 actuals) code.2;
        before = nodes callee + nodes_of_all actuals;
        path = both.path;
        node = code.5;
        same =
            ap (λ t. and_then t (λ to. and_then words (λ ws. Ok (order.Call site to ws)))) both.value
            ∙ ap (λ t. and_then t (λ ws. Ok (order.Call site to ws))) (both.words ∙ are);
        event = silent;
        within = omega arith;
        next = (code.2, k, refl, code.6, behind);
      }

  pub yield_asks : (form : Form) (rest : List Statement) (temporaries : Temporary → ℕ) (tokens site : ℕ) (n k : NodeId) (values : List Expression)
      (vs : List ℕ) → IsSilent form → AllTyped values → values_of (reads_of r.setting store) (map value_of values) ≡ Ok vs →
      YieldCode y.graph.nodes q tokens site values n k → CodeOf y q flow store rest k →
      Asks y q flow store temporaries n form rest (order.Yield site vs)
      (nodes_of_all values + remaining tokens (nodes_of_all values + normal_tokens (slice_get q.sites site)))
  yield_asks form rest temporaries tokens site n k values vs silent typed are code behind =
      let reads = reads_of r.setting store in
      let all = operands_bring y store running fit values temporaries 0 n code.0 typed (values_there reads values vs are) code.2 in
      record {
        then_ = all.after;
        to = code.0;
        tokens = remaining tokens (nodes_of_all values + normal_tokens (slice_get q.sites site));
        kind = kind.Yield (record { number = site }) (operands_of 0 values) code.1;
        before = nodes_of_all values;
        path = all.path;
        node = code.3;
        same = ap (λ t. and_then t (λ vs. Ok (order.Yield site vs))) (same_values reads all.after 0 values all.given ∙ are);
        event = silent;
        within = omega arith;
        next = (code.1, k, refl, code.4, behind);
      }

  -- ---- leaving the activation

  pub jump_asks : (form : Form) (rest : List Statement) (temporaries : Temporary → ℕ) (tokens : ℕ) (n : NodeId) (callee : Expression)
      (actuals : List Expression) (to : ℕ) (ws : List Word) → IsSilent form → Typed callee → AllTyped actuals →
      value_of callee (reads_of r.setting store) ≡ Ok to → words_of (reads_of r.setting store) (map todo.passed actuals) ≡ Ok ws → JumpCode y.graph.nodes tokens callee actuals n →
      Asks y q flow store temporaries n form rest (order.Jump to ws)
      (nodes callee + nodes_of_all actuals + remaining tokens (nodes callee + nodes_of_all actuals))
  jump_asks form rest temporaries tokens n callee actuals to ws silent typed all is are code =
      let both = both_bring callee actuals temporaries n code.0 code.1 to ws typed all is are code.2 code.3 in
      let words = words_of (reads_of r.setting store) (passed (held_by both.after) (arguments_of 1 actuals)) in
      record {
        then_ = both.after;
        to = code.1;
        tokens = remaining tokens (nodes callee + nodes_of_all actuals);
        kind = kind.Jump (operand_of 0 callee) (arguments_of 1 actuals);
        before = nodes callee + nodes_of_all actuals;
        path = both.path;
        node = code.4;
        same =
            ap (λ t. and_then t (λ to. and_then words (λ ws. Ok (order.Jump to ws)))) both.value
            ∙ ap (λ t. and_then t (λ ws. Ok (order.Jump to ws))) (both.words ∙ are);
        event = silent;
        within = omega arith;
        next = tt;
      }

  pub cut_asks : (form : Form) (rest : List Statement) (temporaries : Temporary → ℕ) (tokens : ℕ) (n : NodeId) (to : Expression)
      (values : List Expression) (own : List ℕ) (v : ℕ) (ws : List Word) → IsSilent form → Typed to → AllTyped values → value_of to (reads_of r.setting store) ≡ Ok v →
      words_of (reads_of r.setting store) (map todo.passed values) ≡ Ok ws → CutCode y.graph.nodes tokens to values own n →
      Asks y q flow store temporaries n form rest (order.Cut v ws own) (nodes to + nodes_of_all values + remaining tokens (nodes to + nodes_of_all values))
  cut_asks form rest temporaries tokens n to values own v ws silent typed all is are code =
      let both = both_bring to values temporaries n code.0 code.1 v ws typed all is are code.2 code.3 in
      let words = words_of (reads_of r.setting store) (passed (held_by both.after) (arguments_of 1 values)) in
      let listed = map (λ c. c.number) (map {B = ContinuationId} (λ k. record { number = k }) own) in
      record {
        then_ = both.after;
        to = code.1;
        tokens = remaining tokens (nodes to + nodes_of_all values);
        kind = kind.Cut (operand_of 0 to) (arguments_of 1 values) (map (λ k. record { number = k }) own);
        before = nodes to + nodes_of_all values;
        path = both.path;
        node = code.4;
        same =
            ap (λ t. and_then t (λ v. and_then words (λ ws. Ok (order.Cut v ws listed)))) both.value
            ∙ ap (λ t. and_then t (λ ws. Ok (order.Cut v ws listed))) (both.words ∙ are) ∙ ap (λ own. Ok (order.Cut v ws own)) (same_numbers own);
        event = silent;
        within = omega arith;
        next = tt;
      }

  pub return_asks : (form : Form) (rest : List Statement) (temporaries : Temporary → ℕ) (tokens exit alternates : ℕ) (n : NodeId) (values : List Expression)
      (ws : List Word) → IsSilent form → AllTyped values → words_of (reads_of r.setting store) (map todo.passed values) ≡ Ok ws →
      ReturnCode y.graph.nodes tokens exit alternates values n →
      Asks y q flow store temporaries n form rest (order.Return exit alternates ws) (nodes_of_all values + remaining tokens (nodes_of_all values))
  return_asks form rest temporaries tokens exit alternates n values ws silent typed are code =
      let reads = reads_of r.setting store in
      let all = operands_bring y store running fit values temporaries 0 n code.0 typed (words_there reads values ws are) code.1 in
      record {
        then_ = all.after;
        to = code.0;
        tokens = remaining tokens (nodes_of_all values);
        kind = kind.Return exit alternates (arguments_of 0 values);
        before = nodes_of_all values;
        path = all.path;
        node = code.2;
        same = ap (λ t. and_then t (λ ws. Ok (order.Return exit alternates ws))) (same_words reads all.after 0 values all.given ∙ are);
        event = silent;
        within = omega arith;
        next = tt;
      }
