-- The nodes that are laid for a statement in range have tokens enough for what they do.
use Rattle.std.proofs.Common.{◌≡◌, ℕ, suc, ◌+◌, ◌≤◌, ◌&&◌, ◌==◌, max, nat_le, IsTrue, Bool, true, false, Option, Some, None, List, [], ◌∷◌, ◌++◌, length, map, slice_get, refl, sym, ap, ◌∙◌, arith}
use Rattle.std.proofs.lemmas.Bool.{and_parts, eqb-true}
use Rattle.std.proofs.lemmas.List.{length-append, length-map}
use Rattle.std.proofs.lemmas.List.FromFn.{length-range_with_len}
use Rattle.std.proofs.lemmas.List.Sums.{sum_by-cons}
use Rattle.std.specs.List.{list_all, range_with_len}
use Rattle.std.specs.Prelude.{sum_by}
use Rattle.cmm_words.specs.Words.{is_division}
use Rattle.cmm_words.specs.declared.width.Width.{Width}
use Rattle.cmm_program.specs.declared.expression.Expression.{Expression}
use Rattle.cmm_program.specs.declared.procedure.Cont.{Cont}
use Rattle.cmm_program.specs.declared.procedure.Proc.{Proc}
use Rattle.cmm_program.specs.declared.procedure.Site.{Site}
use Rattle.cmm_program.specs.declared.procedure.Target.{Target}
use Rattle.cmm_program.specs.declared.procedure.Target.TheVariants as target
use Rattle.cmm_program.specs.declared.program.Program.{Program}
use Rattle.cmm_program.specs.declared.statement.Case.{Case}
use Rattle.cmm_program.specs.declared.statement.Case.TheVariants.{In, Default}
use Rattle.cmm_program.specs.declared.statement.Form.{Form}
use Rattle.cmm_program.specs.declared.statement.Form.TheVariants as form
use Rattle.cmm_program.specs.declared.statement.Form.TheVariants.{Empty, If', Switch', Span', Label, Continuation, Checked, PutByte, GetByte, Cut}
use Rattle.cmm_program.specs.declared.statement.Lvalue.{Lvalue}
use Rattle.cmm_program.specs.declared.statement.Lvalue.TheVariants as lvalue
use Rattle.cmm_program.specs.declared.statement.Range.{Range}
use Rattle.cmm_program.specs.declared.statement.Statement.{Statement}
use Rattle.cmm_program.specs.Bodies.{Branch, body_statements, branches}
use Rattle.cmm_program.specs.Exits.{variable_width}
use Rattle.cmm_program.specs.ExpressionTokens.{alone}
use Rattle.cmm_program.specs.InRange.{IsProcInRange, all_ranges, is_checked_site, is_form, is_statement, is_yield_site}
use Rattle.cmm_program.specs.InRange.{at_site as site_passes}
use Rattle.cmm_program.specs.Orders.{target_width}
use Rattle.cmm_program.specs.Tokens.{annotation, at_site, case_tokens, names, own_tokens, result_tokens, site_tokens, with_commas}
use Rattle.cmm_program.specs.Typing.{same_width}
use Rattle.cmm_graph.specs.declared.node.HostCall.TheVariants as host
use Rattle.cmm_graph.specs.declared.node.Node.{Node}
use Rattle.cmm_graph.specs.declared.node.NodeKind.{NodeKind}
use Rattle.cmm_graph.specs.declared.node.NodeKind.TheVariants as node
use Rattle.cmm_graph.specs.declared.number.Variable.{Variable}
use Rattle.cmm_graph.specs.Counterpart.{parameter_targets}
use Rattle.cmm_graph.specs.Covering.{access_tokens, least_for, least_tokens, operator_tokens}
use Rattle.cmm_flow.specs.Operands.{arguments_of, nodes, nodes_of_all, operand_of, operands_of}
use Rattle.cmm_flow.specs.Statements.{normal_tokens, operator_nodes, remaining}
use Rattle.cmm_flow.specs.inside.Fronts.{copy_in}
use Rattle.cmm_flow.specs.inside.LayingBlocks.{passes_own}
use Rattle.cmm_flow.specs.inside.Nodes.{call_node, cut_node, division, goto, jump_node, nodes_of_exits, nodes_of_form, nodes_of_guard, nodes_of_guard_if, nodes_of_operand, nodes_of_operands, nodes_of_passing, nodes_of_two, nodes_of_yield_one, normal_node, nowhere, put_node, return_node, stored, switch_node, unled, yield_node, yield_one, zero_test}
use Rattle.cmm_flow.proofs.Bounded.{variables_least}
use Rattle.cmm_flow.proofs.Costs.{brackets_more, operand_counted, two_least}
use Rattle.cmm_flow.proofs.Covering.{at_most, list_all_more, test_at_most}
use Rattle.cmm_flow.proofs.Laying.{and_both, both_pass}
use Rattle.cmm_flow.proofs.PartsPass.{HoldsOfNodes, Passes, assignment, behind, condition, in_front, operand, operands, passing, two}

-- ---- shortest texts

names_least : {A : Type 0} (list : List A) → length list ≤ names list
names_least [] = omega arith
names_least (a ∷ as_) = omega (arith, sum_by-cons (λ _. 1) a as_)

annotation_least : (ks : List ℕ) → length ks ≤ annotation ks
annotation_least [] = omega arith
annotation_least (k ∷ ks) = omega (arith, names_least (k ∷ ks))

results_least : (site : Site) → length site.results ≤ result_tokens site
results_least site = by site.results refl
  where
    by : (ts : List Target) → site.results ≡ ts → length site.results ≤ elim ts as (λ _. ℕ) [ [] ↦ 0 | _ ∷ _ ↦ names site.results + 1 ]
    by [] is = omega (arith, ap length is)
    by (t ∷ ts) is = omega (arith, names_least site.results)

abbrev range_tokens : Range → ℕ
range_tokens r = elim (r.from == r.to) [ true ↦ 1 | false ↦ 3 ]

ranges_least : (rs : List Range) → length rs ≤ with_commas range_tokens rs
ranges_least [] = omega arith
ranges_least (r ∷ rs) = omega (arith, sum_by-cons range_tokens r rs, some (r.from == r.to))
  where
    some : (b : Bool) → 1 ≤ elim b as (λ _. ℕ) [ true ↦ 1 | false ↦ 3 ]
    some true = omega arith
    some false = omega arith

case_least : (c : Case) (rest : List Range) → length (elim c as (λ _. List Range) [ In ranges ↦ ranges ++ rest | Default ↦ rest ]) ≤ case_tokens c + length rest
case_least (In ranges) rest = omega (arith, length-append ranges rest, ranges_least ranges)
case_least Default rest = omega arith

arms_least : (bs : List Branch) → length (all_ranges bs) ≤ sum_by (λ (b : Branch). case_tokens b.case) bs
arms_least [] = omega arith
arms_least (b ∷ bs) = omega (arith, sum_by-cons (λ (b : Branch). case_tokens b.case) b bs, case_least b.case (all_ranges bs), arms_least bs)

pub arguments_many : (base : ℕ) (es : List Expression) → length (arguments_of base es) ≡ length es
arguments_many base [] = refl
arguments_many base (e ∷ es) = ap suc (arguments_many (suc base) es)

pub operands_many : (base : ℕ) (es : List Expression) → length (operands_of base es) ≡ length es
operands_many base [] = refl
operands_many base (e ∷ es) = ap suc (operands_many (suc base) es)

-- ---- what a node needs, before it is known where it leads

-- the exits of a site that lead back to continuations
abbrev pub returns_at : Proc → ℕ → ℕ
returns_at q n = elim (slice_get q.sites n) [ Some site ↦ length site.returns | None ↦ 0 ]

abbrev pub least_unled : Proc → NodeKind → ℕ
least_unled q (node.Call site callee arguments exits) = suc (length arguments + returns_at q site.number)
least_unled q (node.Yield site values exits) = suc (length values + returns_at q site.number)
least_unled q kind = least_tokens q.tokens kind

abbrev pub has_enough : Proc → Node → Bool
has_enough q node = nat_le (least_unled q node.kind) node.tokens

exactly : (n : ℕ) → IsTrue (nat_le n n)
exactly n = test_at_most n n (omega arith)

module _ (p : Program) (q : Proc) where
  abbrev Enough : List Node → Type 0
  Enough nodes = Passes (has_enough q) nodes

  into : (l : Lvalue) (address value : _) → IsTrue (has_enough q (stored l address value))
  into (lvalue.Target target) address value = refl
  into (lvalue.Memory width aligned at) address value = exactly (access_tokens width aligned)

  holds : HoldsOfNodes (has_enough q)
  holds = record { right = λ to value. exactly (least_for value); into = into; tests = λ operator width a b. refl; goes = refl }

  -- ---- sites

  normal_least : (site : Site) (never : Bool) → elim never as (λ _. ℕ) [ true ↦ 0 | false ↦ suc (length site.results) ] ≤ length site.results + 1
  normal_least site true = omega arith
  normal_least site false = omega arith

  pub site_least : (n : ℕ) → normal_tokens (slice_get q.sites n) + returns_at q n ≤ at_site q n (λ s. result_tokens s + site_tokens s) + 1
  site_least n = by (slice_get q.sites n)
    where
      by : (o : Option Site) →
          normal_tokens o + elim o as (λ _. ℕ) [ Some site ↦ length site.returns | None ↦ 0 ]
          ≤ elim o as (λ _. ℕ) [ Some s ↦ result_tokens s + site_tokens s | None ↦ 0 ] + 1
      by None = omega arith
      by (Some site) = omega (arith, normal_least site site.never, results_least site, annotation_least site.returns)

  one_result : (width : Width) (ts : List Target) → IsTrue (elim ts as (λ _. Bool) [ [] ↦ false | target ∷ more ↦ same_width (target_width target) width && (length more == 0) ]) →
      length ts ≡ 1
  one_result width [] is = absurd (cc)
  one_result width (t ∷ ts) is = ap suc (eqb-true (length ts) 0 (and_parts (same_width (target_width t) width) (length ts == 0) is).1)

  -- a checked operator has one result
  pub checked_least : (n : ℕ) (width : Width) → IsTrue (site_passes p q n (is_checked_site p q width)) →
      normal_tokens (slice_get q.sites n) + returns_at q n ≤ at_site q n site_tokens + 2
  checked_least n width = by (slice_get q.sites n)
    where
      by : (o : Option Site) → IsTrue (elim o as (λ _. Bool) [ Some site ↦ is_checked_site p q width site | None ↦ false ]) →
          normal_tokens o + elim o as (λ _. ℕ) [ Some site ↦ length site.returns | None ↦ 0 ] ≤ elim o as (λ _. ℕ) [ Some s ↦ site_tokens s | None ↦ 0 ] + 2
      by None is = absurd (cc)
      by (Some site) is =
          omega (arith, normal_least site site.never, annotation_least site.returns, one_result width site.results (and_parts (is_yield_site p q 1 site) _ is).1)

  exits : (site : ℕ) → Enough (nodes_of_exits (slice_get q.sites site))
  exits n = by (slice_get q.sites n)
    where
      choice : (site : Site) (b : Bool) → Enough (elim b as (λ _. List Node) [ true ↦ [] | false ↦ normal_node site ∷ [] ])
      choice site true = refl
      choice site false = in_front (has_enough q) (normal_node site) [] (exactly (suc (length site.results))) refl

      by : (o : Option Site) → Enough (nodes_of_exits o)
      by None = refl
      by (Some site) = choice site site.never

  -- ---- statements

  module _ (tokens : ℕ) where
    guard_by : (used site : ℕ) (width : Width) (divisor : Expression) (b : Bool) →
        returns_at q site + 2 ≤ remaining tokens (used + 1 + normal_tokens (slice_get q.sites site)) →
        Enough (elim b as (λ _. List Node) [ true ↦ nodes_of_guard q tokens used site width divisor | false ↦ [] ])
    guard_by used site width divisor true room =
        let count = remaining tokens (used + 1 + normal_tokens (slice_get q.sites site)) in
        in_front (has_enough q) (zero_test width divisor) (nodes_of_yield_one q count site) refl
        (in_front (has_enough q) (yield_one count site) (nodes_of_exits (slice_get q.sites site)) (test_at_most (suc (1 + returns_at q site)) count (omega (arith, room)))
        (exits site))
    guard_by used site width divisor false room = refl

    call_enough : (site : ℕ) (callee : Expression) (actuals : List Expression) → own_tokens q (form.Call site callee actuals) ≤ tokens →
        IsTrue (has_enough q (call_node q tokens site callee actuals))
    call_enough site callee actuals own =
        test_at_most (suc (length (arguments_of 1 actuals) + returns_at q site)) (remaining tokens (nodes callee + nodes_of_all actuals + normal_tokens (slice_get q.sites site)))
        (omega (arith, own, arguments_many 1 actuals, brackets_more actuals, operand_counted callee 8, site_least site))

    yield_enough : (site : ℕ) (es : List Expression) → own_tokens q (form.Yield site es) ≤ tokens → IsTrue (has_enough q (yield_node q tokens site es))
    yield_enough site es own =
        test_at_most (suc (length (operands_of 0 es) + returns_at q site)) (remaining tokens (nodes_of_all es + normal_tokens (slice_get q.sites site)))
        (omega (arith, own, operands_many 0 es, brackets_more es, site_least site))

    jump_enough : (callee : Expression) (actuals : List Expression) → own_tokens q (form.Jump callee actuals) ≤ tokens → IsTrue (has_enough q (jump_node tokens callee actuals))
    jump_enough callee actuals own =
        test_at_most (length (arguments_of 1 actuals) + 2) (remaining tokens (nodes callee + nodes_of_all actuals))
        (omega (arith, own, arguments_many 1 actuals, brackets_more actuals, operand_counted callee 8))

    cut_enough : (to : Expression) (es : List Expression) (own : List ℕ) → own_tokens q (Cut to es own) ≤ tokens → IsTrue (has_enough q (cut_node tokens to es own))
    cut_enough to es own room =
        test_at_most (length (arguments_of 1 es) + 2) (remaining tokens (nodes to + nodes_of_all es))
        (omega (arith, room, arguments_many 1 es, brackets_more es, operand_counted to 8))

    return_enough : (exit alternates : ℕ) (es : List Expression) → own_tokens q (form.Return exit alternates es) ≤ tokens →
        IsTrue (has_enough q (return_node tokens exit alternates es))
    return_enough exit alternates [] own = test_at_most 2 (remaining tokens 0) (omega (arith, own))
    return_enough exit alternates (e ∷ es) own =
        test_at_most (length (arguments_of 0 (e ∷ es)) + 2) (remaining tokens (nodes_of_all (e ∷ es)))
        (omega (arith, own, arguments_many 0 (e ∷ es), brackets_more (e ∷ es)))

    switch_enough : (value : Expression) (bs : List Branch) → 3 + nodes value + sum_by (λ (b : Branch). case_tokens b.case) bs ≤ tokens →
        IsTrue (has_enough q (switch_node tokens value (all_ranges bs)))
    switch_enough value bs own =
        test_at_most (suc (length (all_ranges bs ++ []))) (remaining tokens (nodes value)) (omega (arith, own, arms_least bs, length-append (all_ranges bs) []))

    pub form_enough : (f : Form) → IsTrue (is_form p q f) → own_tokens q f ≤ tokens → Enough (nodes_of_form q tokens f)
    form_enough Empty is own = in_front (has_enough q) goto [] refl refl
    form_enough (If' test _ then_ _ otherwise) is own = condition (has_enough q) holds test
    form_enough (Switch' value _ arms) is own =
        behind (has_enough q) (nodes_of_operand 0 value) (switch_node tokens value (all_ranges (branches arms))) (operand (has_enough q) holds 0 value)
        (switch_enough value (branches arms) (omega (arith, own, operand_counted value alone)))
    form_enough (Span' _ body) is own = in_front (has_enough q) goto [] refl refl
    form_enough (form.Assign to es) is own = assignment (has_enough q) holds to es
    form_enough (form.Call site callee actuals) is own =
        both_pass (has_enough q) (nodes_of_passing callee actuals) _ (passing (has_enough q) holds callee actuals)
        (in_front (has_enough q) (call_node q tokens site callee actuals) (nodes_of_exits (slice_get q.sites site)) (call_enough site callee actuals own) (exits site))
    form_enough (form.Yield site es) is own =
        both_pass (has_enough q) (nodes_of_operands 0 es) _ (operands (has_enough q) holds 0 es)
        (in_front (has_enough q) (yield_node q tokens site es) (nodes_of_exits (slice_get q.sites site)) (yield_enough site es own) (exits site))
    form_enough (Checked site op width left right) is own =
        let three = and_parts _ _ (and_parts _ _ is).0 in
        let one = (and_parts (site_passes p q site (is_checked_site p q width)) (is_division op) three.0).0 in
        both_pass (has_enough q) (nodes_of_two left right) _ (two (has_enough q) holds left right)
        (behind (has_enough q) (nodes_of_guard_if q tokens (operator_nodes width left right) site op width right) (division q site op width left right)
        (guard_by (operator_nodes width left right) site width right (is_division op) (omega (arith, own, two_least width left right, checked_least site width one)))
        (exactly (operator_tokens width (operand_of 0 left) (operand_of 1 right))))
    form_enough (PutByte value) is own = behind (has_enough q) (nodes_of_operand 0 value) (put_node value) (operand (has_enough q) holds 0 value) refl
    form_enough (GetByte target) is own = in_front (has_enough q) record { tokens = 1; kind = node.Host (host.GetByte target) nowhere } [] refl refl
    form_enough (form.Jump callee actuals) is own =
        behind (has_enough q) (nodes_of_passing callee actuals) (jump_node tokens callee actuals) (passing (has_enough q) holds callee actuals) (jump_enough callee actuals own)
    form_enough (form.Return exit alternates es) is own =
        behind (has_enough q) (nodes_of_operands 0 es) (return_node tokens exit alternates es) (operands (has_enough q) holds 0 es) (return_enough exit alternates es own)
    form_enough (Label l) is own = in_front (has_enough q) goto [] refl refl
    form_enough (form.Goto l) is own = refl
    form_enough (Continuation k) is own = refl
    form_enough (Cut to es own) is room =
        behind (has_enough q) (nodes_of_passing to es) (cut_node tokens to es own) (passing (has_enough q) holds to es) (cut_enough to es own room)

  statement_enough : (s : Statement) → IsTrue (is_statement p q s) → IsTrue (passes_own q (has_enough q) s)
  statement_enough s is =
      let both = and_parts (is_form p q s.form) (nat_le (own_tokens q s.form) s.tokens) is in
      form_enough s.tokens s.form both.0 (at_most (own_tokens q s.form) s.tokens both.1)

  -- ---- the nodes in front

  pub copies_enough : (ks : List Cont) → IsTrue (list_all (λ k. has_enough q (unled (copy_in q k nowhere))) ks)
  copies_enough [] = refl
  copies_enough (k ∷ ks) =
      and_both (has_enough q (unled (copy_in q k nowhere))) (list_all (λ (k : Cont). has_enough q (unled (copy_in q k nowhere))) ks)
      (test_at_most (suc (length (parameter_targets q k))) (suc (length k.params))
      (omega (arith, length-map k.params (λ n. target.Variable n (variable_width q n))))) (copies_enough ks)

  module _ (range : IsProcInRange p q) where
    pub statements_enough : IsTrue (list_all (passes_own q (has_enough q)) (body_statements q))
    statements_enough = list_all_more (is_statement p q) (passes_own q (has_enough q)) statement_enough (body_statements q) range.body

    pub entry_enough : (formals : List Variable) → map (λ v. v.number) formals ≡ range_with_len 0 q.formals →
        IsTrue (has_enough q record { tokens = q.tokens; kind = node.Entry formals nowhere })
    entry_enough formals are =
        let shortest = range.shortest in
        let many : length formals ≡ q.formals = sym (length-map formals (λ (v : Variable). v.number)) ∙ ap length are ∙ length-range_with_len 0 q.formals in
        let few = at_most q.formals (length q.vars) (and_parts _ _ range.formals).0 in
        test_at_most (max q.tokens (length formals + 3)) q.tokens (omega (arith, shortest, many, few, variables_least p q))
