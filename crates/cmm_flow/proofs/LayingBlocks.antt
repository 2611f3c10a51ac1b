-- What is laid for statements with what they hold, from what is laid for their parts.
use Rattle.std.proofs.Common.{◌≡◌, ℕ, IsTrue, true, false, None, List, [], ◌∷◌, ◌++◌, length, map, reverse, append-nil, refl, sym, ap, ◌∙◌, subst, arith}
use Rattle.std.specs.List.{list_all}
use Rattle.std.proofs.lemmas.List.{map-append, reverse-append, reverse-reverse}
use Rattle.std.proofs.lemmas.List.Sums.{sum_by-cons}
use Rattle.std.specs.Prelude.{sum_by}
use Rattle.cmm_program.specs.declared.expression.Condition.{Condition}
use Rattle.cmm_program.specs.declared.expression.Expression.{Expression}
use Rattle.cmm_program.specs.declared.procedure.Proc.{Proc}
use Rattle.cmm_program.specs.declared.statement.Arm.{Arm, out-Arm}
use Rattle.cmm_program.specs.declared.statement.Form.{Form}
use Rattle.cmm_program.specs.declared.statement.Form.TheBlock.{hidden-the_row-Arm-1}
use Rattle.cmm_program.specs.declared.statement.Form.TheVariants as form
use Rattle.cmm_program.specs.declared.statement.Statement.{Statement}
use Rattle.cmm_program.specs.Bodies.{AtContinuation, AtLabel, after_inside, branches, is_mark}
use Rattle.cmm_program.specs.InRange.{all_ranges}
use Rattle.cmm_graph.specs.declared.node.Arm.{Arm as Way}
use Rattle.cmm_graph.specs.declared.node.Node.{Node}
use Rattle.cmm_graph.specs.declared.node.NodeKind.TheVariants as node
use Rattle.cmm_graph.specs.declared.number.NodeId.{NodeId}
use Rattle.cmm_graph.specs.Paths.{arm_nodes}
use Rattle.cmm_graph.specs.Ranges.{is_step, leads_to}
use Rattle.cmm_flow.specs.declared.builder.Builder.{Builder}
use Rattle.cmm_flow.specs.Code.{IsNode, OperandCode, TestCode}
use Rattle.cmm_flow.specs.Flow.{all_tokens}
use Rattle.cmm_flow.specs.Operands.{nodes, operand_of}
use Rattle.cmm_flow.specs.Statements.{FormCode, remaining}
use Rattle.cmm_flow.specs.inside.Blocks.{is_simple}
use Rattle.cmm_program.specs.Numbering.{site_number}
use Rattle.cmm_flow.specs.Waiting.{times, waiting_sites}
use Rattle.cmm_flow.specs.inside.Laying.{AddsSites, AreAsked, Lays, LaysAt, LaysMarked, SetsMark, label_of}
use Rattle.cmm_flow.specs.inside.LayingBlocks.{LaysArms, LaysBlock, LaysForm, LaysStatement, arm_sites, block_sites, block_tokens, form_sites, form_tokens, laid_tokens, passes_own}
use Rattle.cmm_flow.specs.inside.Marks.{FrontCode, LeadsBehind, LeadsBehindArms, LeadsBehindForm, LeadsBehindList, OtherwiseCode, PutsArm, WaysCode}
use Rattle.cmm_flow.specs.inside.Nodes.{goto, nodes_of_form, nodes_of_switch, nodes_of_test, ranges_of}
use Rattle.cmm_flow.proofs.Begins.{front_begins, one_step, otherwise_begins, two_steps, ways_begin}
use Rattle.cmm_flow.proofs.Blocks.{after_arm, after_if, after_span, after_switch, arm_code, if_code, no_mark_if, no_mark_span, no_mark_switch, span_code, switch_code, ways_ranges}
use Rattle.cmm_flow.proofs.Covering.{if_of, span_of, switch_of}
use Rattle.cmm_flow.proofs.FormsStay.{front_stays, leads_stay, otherwise_stays, ways_stay}
use Rattle.cmm_flow.proofs.LaidTokens.{if_tokens, simple_within, span_tokens, switch_same, switch_tokens}
use Rattle.cmm_flow.proofs.Laying.{adds_nothing, both_pass, get_behind, holds_in, lays_nothing, lays_other, stands_before, then_adds_before}
use Rattle.cmm_flow.proofs.Marking.{lays_marked, ready_later, then_marked}
use Rattle.cmm_flow.proofs.Marks.{first_leads, form_leads, list_leads}
use Rattle.cmm_flow.proofs.WaitingSites.{if_sites, simple_sites, span_sites, switch_sites}

-- ---- a loop over a list from its end

pub turned : {A B : Type 0} (f : A → B) (ys : List A) (y : A) → reverse (map f (ys ++ y ∷ [])) ≡ f y ∷ reverse (map f ys)
turned f ys y = ap reverse (map-append f ys (y ∷ [])) ∙ reverse-append (map f ys) (f y ∷ [])

pub turned_back : {A : Type 0} (ys xs : List A) → ys ≡ reverse xs → reverse ys ≡ xs
turned_back ys xs same = ap reverse same ∙ reverse-reverse xs

module _ (q : Proc) where
  -- ---- blocks

  pub block_none : (a : Builder) (k : NodeId) → LaysBlock a a q [] k k
  block_none a k = record {
    lays = λ count ready.
        lays_marked (λ nodes. LeadsBehindList q nodes (label_of count) [] k)
        (lays_nothing {sites = []} {laid = []} {ahead = []} {normal = []} a (λ nodes. k ≡ k) (λ nodes. refl)) (λ nodes l n. refl)
        (λ nodes c n. refl);
    keeps = λ count ready asked stands when are. are;
    waits = adds_nothing a [];
    adds = omega arith;
  }

  pub block_more : {a b c : Builder} (x : Statement) (xs : List Statement) (n m k : NodeId) → LaysBlock a b q xs m k → LaysStatement b c q x n m →
      LaysBlock a c q (x ∷ xs) n k
  block_more {a = a} {b = b} {c = c} x xs n m k first second = record {
    lays = λ count ready.
        let later = first.lays count ready in
        then_marked _ _ later (second.lays count (ready_later later ready)) (λ nodes more. front_stays nodes more q (label_of count) xs m k)
        (λ mark before after nodes more. leads_stay nodes more q (label_of count) _ k before after)
        (λ nodes front code. (m, code, front))
        (λ nodes mark before between after front code earlier now. list_leads q nodes (label_of count) mark x xs m k before between after front earlier now);
    keeps = λ count ready asked stands when are.
        let g = asked.graph in
        let later = first.lays count ready in
        let behind = ready_later later ready in
        let before = stands_before g (second.lays count behind).extends stands in
        let front = holds_in b g (λ nodes. FrontCode q nodes (label_of count) xs m k) (λ nodes more. front_stays nodes more q (label_of count) xs m k) before later.code in
        let on = front_begins g q (label_of count) xs m k front when.0.labels when.0.next in
        second.keeps count behind asked stands (record { labels = when.0.labels; next = on }, when.1.0.0, when.1.0.1)
        (first.keeps count ready asked before (when.0, when.1.1) are);
    waits = then_adds_before a b c (block_sites xs) (form_sites x.form) first.waits second.waits;
    adds = omega (arith, first.adds, second.adds, sum_by-cons (λ (s : Statement). form_tokens q s.tokens s.form) x xs);
  }

  -- ---- arms

  pub arms_none : (a : Builder) (k : NodeId) → LaysArms a a q [] [] a.stop k
  arms_none a k = record {
    lays = λ count ready.
        let laid : Lays [] [] a a (λ nodes. WaysCode q nodes (label_of count) [] [] k × OtherwiseCode q nodes (label_of count) [] a.stop k) = record {
          extends = record { more = []; nodes = sym (append-nil a.nodes); stop = refl };
          labels = refl;
          continuations = refl;
          code = λ front many. (refl, get_behind front a.nodes 0 a.stop.number (omega (arith, many)) ∙ ready.stop);
          keeps = λ asked stands holds are. are;
          waits = adds_nothing a [];
          adds = omega arith;
        } in
        lays_marked (λ nodes. LeadsBehindArms q nodes (label_of count) [] k) laid (λ nodes l n. refl) (λ nodes c n. refl);
    keeps = λ count ready asked stands when are. are;
    waits = adds_nothing a [];
    adds = omega arith;
  }

  pub arms_more : {a b c : Builder} (arm : Arm) (arms : List Arm) (to to_after : List Way) (n otherwise otherwise_after k : NodeId) →
      LaysArms a b q arms to otherwise k → LaysBlock b c q (out-Arm arm).body n k → PutsArm (out-Arm arm).case n to otherwise to_after otherwise_after →
      LaysArms a c q (arm ∷ arms) to_after otherwise_after k
  arms_more {a = a} {b = b} {c = c} arm arms to to_after n otherwise otherwise_after k first second puts = record {
    lays = λ count ready.
        let later = first.lays count ready in
        then_marked _ _ later (second.lays count (ready_later later ready))
        (λ nodes more f. (ways_stay nodes more q (label_of count) arms to k f.0, otherwise_stays nodes more q (label_of count) arms otherwise k f.1))
        (λ mark before after nodes more. leads_stay nodes more q (label_of count) _ k before after)
        (λ nodes others code. arm_code q nodes (label_of count) arm arms to to_after n otherwise otherwise_after k puts code others)
        (λ nodes mark before between after others code earlier now.
        subst (λ o. LeadsBehind q nodes (label_of count) o k before after) (sym (after_arm mark arm arms))
        (first_leads q nodes (label_of count) _ _ k before between after earlier now));
    keeps = λ count ready asked stands when are.
        let behind = ready_later (first.lays count ready) ready in
        let before = stands_before asked.graph (second.lays count behind).extends stands in
        second.keeps count behind asked stands (when.0, when.1.0) (first.keeps count ready asked before (when.0, when.1.1) are);
    waits = then_adds_before a b c (arm_sites arms) (block_sites (out-Arm arm).body) first.waits second.waits;
    adds = omega (arith, first.adds, second.adds, sum_by-cons (λ (arm : Arm). block_tokens q (out-Arm arm).body) arm arms);
  }

  -- ---- forms

  pub if_lays : {a b c d : Builder} (tokens : ℕ) (condition : Condition) (then_ otherwise : List Statement) (n held failed k : NodeId) →
      LaysBlock a b q otherwise failed k → LaysBlock b c q then_ held k → Lays (nodes_of_test condition) (held ∷ failed ∷ []) c d (λ nodes. TestCode nodes condition n held failed) →
      LaysForm a d q tokens (form.If condition then_ otherwise) n k
  if_lays {a = a} {b = b} {c = c} {d = d} tokens condition then_ otherwise n held failed k first second third = record {
    lays = λ count ready.
        let one = first.lays count ready in
        let two = second.lays count (ready_later one ready) in
        let front = λ (nodes more : List Node). front_stays nodes more q (label_of count) in
        let stays = λ (nodes more : List Node). leads_stay nodes more q (label_of count) in
        let both =
        then_marked (λ nodes. FrontCode q nodes (label_of count) otherwise failed k × FrontCode q nodes (label_of count) then_ held k)
        (λ nodes mark. LeadsBehind q nodes (label_of count) (after_inside mark (form.If condition then_ otherwise)) k)
        one two (λ nodes more. front nodes more otherwise failed k) (λ mark before after nodes more. stays nodes more _ k before after)
        (λ nodes f g. (f, g))
        (λ nodes mark before between after f g earlier now.
        subst (λ o. LeadsBehind q nodes (label_of count) o k before after) (sym (after_if mark condition then_ otherwise))
        (first_leads q nodes (label_of count) _ _ k before between after earlier now)) in
        then_marked _ _ both (lays_marked (λ nodes mark before after. after ≡ before) third (λ nodes l n. refl) (λ nodes c n. refl))
        (λ nodes more f. (front nodes more otherwise failed k f.0, front nodes more then_ held k f.1)) (λ mark before after nodes more. stays nodes more _ k before after)
        (λ nodes f test. if_code q nodes (label_of count) tokens condition then_ otherwise n held failed k f.0 f.1 test)
        (λ nodes mark before between after f test earlier same.
        form_leads q nodes (label_of count) mark (form.If condition then_ otherwise) k before after (no_mark_if mark condition then_ otherwise)
        (subst (LeadsBehind q nodes (label_of count) (after_inside mark (form.If condition then_ otherwise)) k before) (sym same) earlier));
    keeps = λ count ready asked stands when are.
        let g = asked.graph in
        let one = first.lays count ready in
        let behind = ready_later one ready in
        let two = second.lays count behind in
        let in_c = stands_before g third.extends stands in
        let in_b = stands_before g two.extends in_c in
        let front = λ (b : Builder) (xs : List Statement) (m : NodeId).
        holds_in b g (λ nodes. FrontCode q nodes (label_of count) xs m k) (λ nodes more. front_stays nodes more q (label_of count) xs m k) in
        let begins = λ (xs : List Statement) (m : NodeId) (code : FrontCode q g.nodes (label_of count) xs m k).
        front_begins g q (label_of count) xs m k code when.0.labels when.0.next in
        let on = two_steps g held failed (begins then_ held (front c then_ held in_c two.code)) (begins otherwise failed (front b otherwise failed in_b one.code)) in
        let inner = if_of (passes_own q asked.test) condition then_ otherwise when.2 in
        third.keeps asked stands record { test = when.1; steps = on; copy_ins = refl }
        (second.keeps count behind asked in_c (when.0, inner.0) (first.keeps count ready asked in_b (when.0, inner.1) are));
    waits =
        let blocks = then_adds_before a b c (block_sites otherwise) (block_sites then_) first.waits second.waits in
        subst (λ ns. AddsSites ns a d) (sym (if_sites condition then_ otherwise))
        (then_adds_before a c d (block_sites then_ ++ block_sites otherwise) [] blocks third.waits);
    adds = omega (arith, first.adds, second.adds, third.adds, if_tokens q condition then_ otherwise);
  }

  pub span_lays : {a b c : Builder} (tokens : ℕ) (body : List Statement) (n j k : NodeId) → LaysBlock a b q body j k →
      Lays (goto ∷ []) (j ∷ []) b c (λ nodes. IsNode nodes n 1 (node.Goto j)) → LaysForm a c q tokens (form.Span body) n k
  span_lays {a = a} {b = b} {c = c} tokens body n j k first second = record {
    lays = λ count ready.
        then_marked _ _ (first.lays count ready) (lays_marked (λ nodes mark before after. after ≡ before) second (λ nodes l n. refl) (λ nodes c n. refl))
        (λ nodes more. front_stays nodes more q (label_of count) body j k) (λ mark before after nodes more. leads_stay nodes more q (label_of count) _ k before after)
        (λ nodes f is. span_code q nodes (label_of count) tokens body n j k f is)
        (λ nodes mark before between after f is earlier same.
        form_leads q nodes (label_of count) mark (form.Span body) k before after (no_mark_span mark body)
        (subst (LeadsBehind q nodes (label_of count) (after_inside mark (form.Span body)) k before) (sym same)
        (subst (λ o. LeadsBehind q nodes (label_of count) o k before between) (sym (after_span mark body)) earlier)));
    keeps = λ count ready asked stands when are.
        let g = asked.graph in
        let one = first.lays count ready in
        let before = stands_before g second.extends stands in
        let front = holds_in b g (λ nodes. FrontCode q nodes (label_of count) body j k) (λ nodes more. front_stays nodes more q (label_of count) body j k) before one.code in
        let on = one_step g j (front_begins g q (label_of count) body j k front when.0.labels when.0.next) in
        second.keeps asked stands record { test = when.1; steps = on; copy_ins = refl }
        (first.keeps count ready asked before (when.0, span_of (passes_own q asked.test) body when.2) are);
    waits = subst (λ ns. AddsSites ns a c) (sym (span_sites body)) (then_adds_before a b c (block_sites body) [] first.waits second.waits);
    adds = omega (arith, first.adds, second.adds, span_tokens q body);
  }

  pub switch_lays : {a b c : Builder} (tokens : ℕ) (value : Expression) (arms : List Arm) (to : List Way) (n otherwise k : NodeId) →
      LaysArms a b q arms to otherwise k →
      Lays (nodes_of_switch tokens value (ranges_of to)) (arm_nodes to ++ otherwise ∷ []) b c (λ all. (j : NodeId) × OperandCode all value 0 n j × IsNode all j (remaining tokens (nodes value)) (node.Switch (operand_of 0 value) to otherwise)) →
      LaysForm a c q tokens (form.Switch value arms) n k
  switch_lays {a = a} {b = b} {c = c} tokens value arms to n otherwise k first second = record {
    lays = λ count ready.
        then_marked _ _ (first.lays count ready) (lays_marked (λ nodes mark before after. after ≡ before) second (λ nodes l n. refl) (λ nodes c n. refl))
        (λ nodes more f. (ways_stay nodes more q (label_of count) arms to k f.0, otherwise_stays nodes more q (label_of count) arms otherwise k f.1))
        (λ mark before after nodes more. leads_stay nodes more q (label_of count) _ k before after)
        (λ all f s. switch_code q all (label_of count) tokens value arms to n s.0 otherwise k f.0 f.1 s.2 s.1)
        (λ nodes mark before between after f s earlier same.
        form_leads q nodes (label_of count) mark (form.Switch value arms) k before after (no_mark_switch mark value arms)
        (subst (LeadsBehind q nodes (label_of count) (after_inside mark (form.Switch value arms)) k before) (sym same)
        (subst (λ o. LeadsBehind q nodes (label_of count) o k before between) (sym (after_switch mark value arms)) earlier)));
    keeps = λ count ready asked stands when are.
        let g = asked.graph in
        let one = first.lays count ready in
        let before = stands_before g second.extends stands in
        let ways =
        holds_in b g (λ nodes. WaysCode q nodes (label_of count) arms to k × OtherwiseCode q nodes (label_of count) arms otherwise k)
        (λ nodes more f. (ways_stay nodes more q (label_of count) arms to k f.0, otherwise_stays nodes more q (label_of count) arms otherwise k f.1)) before one.code in
        let on =
        both_pass (leads_to g is_step) (arm_nodes to) (otherwise ∷ []) (ways_begin g q (label_of count) arms to k ways.0 when.0.labels when.0.next)
        (one_step g otherwise (otherwise_begins g q (label_of count) arms otherwise k ways.1 when.0.labels when.0.next)) in
        let passed = subst (λ rs. IsTrue (list_all asked.test (nodes_of_switch tokens value rs))) (sym (ways_ranges q g.nodes (label_of count) arms to k ways.0)) when.1 in
        second.keeps asked stands record { test = passed; steps = on; copy_ins = refl }
        (first.keeps count ready asked before (when.0, switch_of (passes_own q asked.test) value arms when.2) are);
    waits = subst (λ ns. AddsSites ns a c) (sym (switch_sites value arms)) (then_adds_before a b c (arm_sites arms) [] first.waits second.waits);
    adds = omega (arith, first.adds, second.adds, switch_tokens q value arms, switch_same tokens value (ranges_of to) (all_ranges (branches (hidden-the_row-Arm-1 arms))));
  }

  -- a statement without blocks has no label and no continuation
  simple_label : (form : Form) (l : ℕ) → is_simple form ≡ true → (is_mark (AtLabel l) form ≡ false) × (after_inside (AtLabel l) form ≡ None)
  simple_label (form.Assign to values) l is = (refl, refl)
  simple_label (form.Call site callee actuals) l is = (refl, refl)
  simple_label (form.Yield site values) l is = (refl, refl)
  simple_label (form.Checked site op width left right) l is = (refl, refl)
  simple_label (form.PutByte value) l is = (refl, refl)
  simple_label (form.GetByte target) l is = (refl, refl)
  simple_label (form.Jump callee actuals) l is = (refl, refl)
  simple_label (form.Return exit alternates values) l is = (refl, refl)
  simple_label (form.Cut to values own) l is = (refl, refl)
  simple_label form l is = grind (arith, is)

  simple_continuation : (form : Form) (c : ℕ) → is_simple form ≡ true → (is_mark (AtContinuation c) form ≡ false) × (after_inside (AtContinuation c) form ≡ None)
  simple_continuation (form.Assign to values) c is = (refl, refl)
  simple_continuation (form.Call site callee actuals) c is = (refl, refl)
  simple_continuation (form.Yield site values) c is = (refl, refl)
  simple_continuation (form.Checked site op width left right) c is = (refl, refl)
  simple_continuation (form.PutByte value) c is = (refl, refl)
  simple_continuation (form.GetByte target) c is = (refl, refl)
  simple_continuation (form.Jump callee actuals) c is = (refl, refl)
  simple_continuation (form.Return exit alternates values) c is = (refl, refl)
  simple_continuation (form.Cut to values own) c is = (refl, refl)
  simple_continuation form c is = grind (arith, is)

  -- where a statement has no mark, no mark is led elsewhere
  kept : (nodes : List Node) (label_node : ℕ → NodeId) (mark : _) (form : Form) (k n : NodeId) → is_mark mark form ≡ false → after_inside mark form ≡ None →
      LeadsBehindForm q nodes label_node form k mark n n
  kept nodes label_node mark form k n other none =
      form_leads q nodes label_node mark form k n n other (subst (λ o. LeadsBehind q nodes label_node o k n n) (sym none) refl)

  pub simple_lays : {a b : Builder} (tokens : ℕ) (form : Form) (n k : NodeId) → is_simple form ≡ true →
      LaysAt (site_number form) (nodes_of_form q tokens form) (k ∷ []) [] a b (λ nodes. (label_node : ℕ → NodeId) → FormCode q nodes label_node tokens form n k) → LaysForm a b q tokens form n k
  simple_lays {a = a} {b = b} tokens form n k is l = record {
    lays = λ count ready.
        lays_marked (λ nodes. LeadsBehindForm q nodes (label_of count) form k)
        (lays_other (λ nodes. FormCode q nodes (label_of count) tokens form n k) l refl (λ nodes code. code (label_of count)))
        (λ nodes i m. let none = simple_label form i is in kept nodes (label_of count) (AtLabel i) form k m none.0 none.1)
        (λ nodes i m. let none = simple_continuation form i is in kept nodes (label_of count) (AtContinuation i) form k m none.0 none.1);
    keeps = λ count ready asked stands when are. l.keeps asked stands record { test = when.1; steps = one_step asked.graph k when.0.next; copy_ins = refl } are;
    waits = subst (λ ns. AddsSites ns a b) (sym (simple_sites form is)) l.waits;
    adds = omega (arith, l.adds, ap (sum_by (laid_tokens q)) (simple_within form is));
  }

  pub empty_lays : {a b : Builder} (tokens : ℕ) (n k : NodeId) → Lays (goto ∷ []) (k ∷ []) a b (λ nodes. IsNode nodes n 1 (node.Goto k)) → LaysForm a b q tokens form.Empty n k
  empty_lays tokens n k l = record {
    lays = λ count ready.
        lays_marked (λ nodes. LeadsBehindForm q nodes (label_of count) form.Empty k) l (λ nodes i m. refl) (λ nodes i m. refl);
    keeps = λ count ready asked stands when are. l.keeps asked stands record { test = when.1; steps = one_step asked.graph k when.0.next; copy_ins = refl } are;
    waits = l.waits;
    adds = omega (arith, l.adds);
  }

  pub goto_lays : (a : Builder) (tokens l : ℕ) (n k : NodeId) → n ≡ label_of (length a.labels) l → LaysForm a a q tokens (form.Goto l) n k
  goto_lays a tokens l n k same = record {
    lays = λ count ready.
        lays_marked (λ nodes. LeadsBehindForm q nodes (label_of count) (form.Goto l) k)
        (lays_nothing {sites = []} {laid = []} {ahead = []} {normal = []} a (λ nodes. n ≡ label_of count l) (λ nodes. same ∙ ap (λ c. label_of c l) ready.labels)) (λ nodes i m. refl) (λ nodes i m. refl);
    keeps = λ count ready asked stands when are. are;
    waits = adds_nothing a [];
    adds = omega arith;
  }

  pub label_lays : {a b c : Builder} (tokens l : ℕ) (n k : NodeId) → LaysMarked a b (λ nodes. Unit {0}) (λ nodes. SetsMark (form.Label l) k) →
      b.nodes ≡ a.nodes → Lays (goto ∷ []) (k ∷ []) b c (λ nodes. IsNode nodes n 1 (node.Goto k)) → LaysForm a c q tokens (form.Label l) n k
  label_lays tokens l n k first same second = record {
    lays = λ count ready.
        then_marked _ _ first (lays_marked (λ nodes mark before after. after ≡ before) second (λ nodes i m. refl) (λ nodes i m. refl))
        (λ nodes more f. tt) (λ mark before after nodes more is. is) (λ nodes f is. is)
        (λ nodes mark before between after f is set same. subst (SetsMark (form.Label l) k mark before) (sym same) set);
    keeps = λ count ready asked stands when are.
        second.keeps asked stands record { test = when.1; steps = one_step asked.graph k when.0.next; copy_ins = refl } (subst (AreAsked asked) (sym same) are);
    waits = λ site. omega (arith, second.waits site, ap (λ nodes. times site (waiting_sites nodes)) same);
    adds = omega (arith, second.adds, ap all_tokens same);
  }

  -- where control reaches a continuation from above it has come to the end of the run
  pub continuation_lays : {a b : Builder} (tokens c : ℕ) (k : NodeId) → LaysMarked a b (λ nodes. Unit {0}) (λ nodes. SetsMark (form.Continuation c) k) →
      b.nodes ≡ a.nodes → LaysForm a b q tokens (form.Continuation c) b.stop k
  continuation_lays {b = b} tokens c k first same = record {
    lays = λ count ready.
        let later = ready_later first ready in
        record {
          extends = first.extends;
          labels = first.labels;
          continuations = first.continuations;
          code = λ front many. get_behind front b.nodes 0 b.stop.number (omega (arith, many)) ∙ later.stop;
          marks = first.marks;
        };
    keeps = λ count ready asked stands when are. subst (AreAsked asked) (sym same) are;
    waits = λ site. omega (arith, ap (λ nodes. times site (waiting_sites nodes)) same);
    adds = omega (arith, ap all_tokens same);
  }
