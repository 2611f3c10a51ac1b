-- The nodes of a statement in range name what the procedure and its program have, and temporaries below a limit that is at least the statement's least
-- count of tokens.
use Rattle.std.proofs.Common.{◌≡◌, ℕ, suc, ◌+◌, ◌<◌, ◌≤◌, ◌&&◌, ◌==◌, nat_le, nat_lt, IsTrue, Bool, true, false, Option, Some, None, List, [], ◌∷◌, ◌++◌, length, map, slice_get, refl, subst, arith}
use Rattle.std.proofs.lemmas.Bool.{and_parts}
use Rattle.std.specs.List.{list_all}
use Rattle.cmm_words.specs.Words.{is_division}
use Rattle.cmm_words.specs.declared.constant.Constant.TheVariants.{Number}
use Rattle.cmm_words.specs.declared.width.Width.{Width}
use Rattle.cmm_words.specs.declared.width.Width.TheVariants.{W8, W16, W32, W64}
use Rattle.cmm_program.proofs.Shared.{list_all_get}
use Rattle.cmm_program.specs.declared.expression.Expression.{Expression}
use Rattle.cmm_program.specs.declared.procedure.Proc.{Proc}
use Rattle.cmm_program.specs.declared.procedure.Site.{Site}
use Rattle.cmm_program.specs.declared.procedure.Target.{Target}
use Rattle.cmm_program.specs.declared.program.Program.{Program}
use Rattle.cmm_program.specs.declared.statement.Form.{Form}
use Rattle.cmm_program.specs.declared.statement.Form.TheVariants as form
use Rattle.cmm_program.specs.declared.statement.Form.TheVariants.{Empty, If', Switch', Span', Label, Continuation, Checked, PutByte, GetByte, Cut}
use Rattle.cmm_program.specs.declared.statement.Lvalue.{Lvalue}
use Rattle.cmm_program.specs.declared.statement.Lvalue.TheVariants as lvalue
use Rattle.cmm_program.specs.Bodies.{Branch, branches}
use Rattle.cmm_program.specs.ExpressionTokens.{alone}
use Rattle.cmm_program.specs.InRange.{all_ranges, are_arms, are_assigned, are_passed, at_most_64, at_site, below, is_call_site, is_checked_site, is_form, is_lvalue, is_site, is_yield_site, lvalue_width}
use Rattle.cmm_program.specs.Orders.{target_width}
use Rattle.cmm_program.specs.Todo.{site_results}
use Rattle.cmm_program.specs.Tokens.{bracketed, own_tokens}
use Rattle.cmm_program.specs.Typing.{has_width, is_alignment, is_target, is_typed, same_width, typed}
use Rattle.cmm_graph.specs.declared.node.HostCall.TheVariants as host
use Rattle.cmm_graph.specs.declared.node.Node.{Node}
use Rattle.cmm_graph.specs.declared.node.NodeKind.TheVariants as node
use Rattle.cmm_graph.specs.declared.number.ContinuationId.{ContinuationId}
use Rattle.cmm_graph.specs.declared.operand.Destination.TheVariants as destination
use Rattle.cmm_graph.specs.declared.operand.Operand.TheVariants.{Constant}
use Rattle.cmm_graph.specs.declared.operand.Rvalue.TheVariants as rvalue
use Rattle.cmm_flow.specs.Code.{to_temporary}
use Rattle.cmm_graph.specs.Paths.{values_of}
use Rattle.cmm_graph.specs.Covering.{access_tokens}
use Rattle.cmm_flow.specs.Operands.{arguments_of, nodes, nodes_of_all, operand_of, temporary}
use Rattle.cmm_flow.specs.Statements.{first_result, normal_tokens, operator_nodes, remaining}
use Rattle.cmm_flow.specs.inside.Nodes.{call_node, cut_node, division, goto, jump_node, nodes_of_addresses, nodes_of_assignment, nodes_of_exits, nodes_of_form, nodes_of_guard, nodes_of_guard_if, nodes_of_operand, nodes_of_operands, nodes_of_passing, nodes_of_stores, nodes_of_two, nodes_of_value, nodes_of_values, nodes_of_yield_one, normal_node, nowhere, put_node, return_node, stored, switch_node, yield_node, yield_one, zero_test}
use Rattle.cmm_flow.proofs.Assigning.{addresses_cost, assign_cost, stores_cost, values_cost}
use Rattle.cmm_flow.proofs.Belongs.{Belong, Fits, IsThere, arguments_fit, assigned_belongs, belongs, destination_belongs, first_belongs, into_belong, last_belongs, node_belongs, operand_belong, operand_belongs, operand_fits, operands_belong, operands_fit, test_belongs, two_belong, two_fit, value_belong, width_is_there}
use Rattle.cmm_flow.proofs.Costs.{assign_least, brackets_more, operand_counted, test_counted}
use Rattle.cmm_flow.proofs.Covering.{test_less}
use Rattle.cmm_flow.proofs.Laying.{and_both, both_pass}
use Rattle.cmm_flow.proofs.NodesPass.{FitAll}
use Rattle.cmm_flow.proofs.Operands.{operand_nodes}

module _ (p : Program) (q : Proc) (limit : ℕ) where
  abbrev Fit : ℕ → Expression → Type 0
  Fit = Fits p q limit

  abbrev Pass : List Node → Type 0
  Pass = Belong p q limit

  -- ---- what is passed

  typed_is_there : (e : Expression) → IsTrue (is_typed p q e) → IsThere (typed p q e)
  typed_is_there e is = by (typed p q e) is
    where
      by : (o : Option Width) → IsTrue (elim o as (λ _. Bool) [ Some found ↦ true | None ↦ false ]) → IsThere o
      by (Some found) is = refl
      by None is = is

  all_fit : (base : ℕ) (es : List Expression) → IsTrue (list_all (is_typed p q) es) → base + nodes_of_all es + length es ≤ limit + 1 → FitAll Fit base es
  all_fit base [] typed room = tt
  all_fit base (e ∷ es) typed room =
      let both = and_parts (is_typed p q e) (list_all (is_typed p q) es) typed in
      (record { there = typed_is_there e both.0; room = omega (arith, room) }, all_fit (suc base) es both.1 (omega (arith, room)))

  passed : (es : List Expression) → IsTrue (are_passed p q es) → IsTrue (list_all (is_typed p q) es)
  passed es are = (and_parts (at_most_64 es) (list_all (is_typed p q) es) are).1

  passing : (to : Expression) (es : List Expression) → IsTrue (has_width p q W64 to) → IsTrue (are_passed p q es) → nodes to ≤ limit → bracketed es ≤ limit →
      Fit 0 to × FitAll Fit 1 es
  passing to es wide are one more =
      (record { there = width_is_there p q limit W64 to wide; room = omega (arith, one) }, all_fit 1 es (passed es are) (omega (arith, more, brackets_more es)))

  passing_belong : (to : Expression) (es : List Expression) → Fit 0 to × FitAll Fit 1 es → Pass (nodes_of_passing to es)
  passing_belong to es fit =
      both_pass (belongs p q limit) (nodes_of_operand 0 to) (nodes_of_operands 1 es) (operand_belong p q limit 0 to fit.0) (operands_belong p q limit 1 es fit.1)

  -- the operands of one that passes
  passing_fit : (to : Expression) (es : List Expression) → Fit 0 to × FitAll Fit 1 es →
      IsTrue (list_all (operand_belongs p q limit) (operand_of 0 to ∷ values_of (arguments_of 1 es)))
  passing_fit to es fit =
      and_both (operand_belongs p q limit (operand_of 0 to)) (list_all (operand_belongs p q limit) (values_of (arguments_of 1 es)))
      (operand_fits p q limit 0 to fit.0) (arguments_fit p q limit 1 es fit.1)

  -- ---- assignments

  addresses_belong : (base : ℕ) (ls : List Lvalue) → IsTrue (list_all (is_lvalue p q) ls) → base + addresses_cost ls + length ls ≤ limit → Pass (nodes_of_addresses base ls)
  addresses_belong base [] are room = refl
  addresses_belong base (lvalue.Target target ∷ ls) are room =
      addresses_belong (suc base) ls (and_parts (is_target p q target) (list_all (is_lvalue p q) ls) are).1 (omega (arith, room))
  addresses_belong base (lvalue.Memory width aligned address ∷ ls) are room =
      let l : Lvalue = lvalue.Memory width aligned address in
      let both = and_parts (is_lvalue p q l) (list_all (is_lvalue p q) ls) are in
      let wide = (and_parts (is_alignment aligned) (has_width p q W64 address) both.0).1 in
      let fit : Fit base address = record { there = width_is_there p q limit W64 address wide; room = omega (arith, room, operand_nodes base address) } in
      both_pass (belongs p q limit) (nodes_of_value base (to_temporary base) address) (nodes_of_addresses (suc base) ls)
      (into_belong p q limit base address fit (omega (arith, room))) (addresses_belong (suc base) ls both.1 (omega (arith, room)))

  abbrev AreThere : List Expression → Type 0
  AreThere [] = Unit {0}
  AreThere (e ∷ es) = IsThere (typed p q e) × AreThere es

  values_belong : (base : ℕ) (es : List Expression) → AreThere es → base + values_cost es ≤ limit → Pass (nodes_of_values base es)
  values_belong base [] there room = refl
  values_belong base (e ∷ es) there room =
      let fit : Fit base e = record { there = there.0; room = omega (arith, room, operand_nodes base e) } in
      both_pass (belongs p q limit) (nodes_of_value base (to_temporary base) e) (nodes_of_values (suc base) es)
      (into_belong p q limit base e fit (omega (arith, room))) (values_belong (suc base) es there.1 (omega (arith, room)))

  two_temporaries : (a v : ℕ) → a < limit → v < limit → IsTrue (list_all (operand_belongs p q limit) (temporary a ∷ temporary v ∷ []))
  two_temporaries a v first second =
      both_pass (operand_belongs p q limit) (temporary a ∷ []) (temporary v ∷ [])
      (and_both (nat_lt a limit) true (test_less a limit first) refl) (and_both (nat_lt v limit) true (test_less v limit second) refl)

  stored_belongs : (l : Lvalue) (a v : ℕ) → IsTrue (is_lvalue p q l) → a < limit → v < limit → IsTrue (belongs p q limit (stored l (temporary a) (temporary v)))
  stored_belongs (lvalue.Target target) a v is first second =
      assigned_belongs p q limit (destination.Target target) (rvalue.Copy (temporary v)) is record { first = and_both (nat_lt v limit) true (test_less v limit second) refl; rest = refl }
  stored_belongs (lvalue.Memory width aligned address) a v is first second =
      node_belongs p q limit (stored (lvalue.Memory width aligned address) (temporary a) (temporary v)) (omega arith) (two_temporaries a v first second) (and_parts (is_alignment aligned) (has_width p q W64 address) is).0

  stores_belong : (ls : List Lvalue) (es : List Expression) (a v : ℕ) → IsTrue (list_all (is_lvalue p q) ls) → a + length ls ≤ limit → v + length es ≤ limit →
      Pass (nodes_of_stores ls es a v)
  stores_belong [] es a v are first second = refl
  stores_belong (l ∷ ls) [] a v are first second = refl
  stores_belong (l ∷ ls) (e ∷ es) a v are first second =
      let both = and_parts (is_lvalue p q l) (list_all (is_lvalue p q) ls) are in
      first_belongs p q limit (stored l (temporary a) (temporary v)) (nodes_of_stores ls es (suc a) (suc v))
      (stored_belongs l a v both.0 (omega (arith, first)) (omega (arith, second))) (stores_belong ls es (suc a) (suc v) both.1 (omega (arith, first)) (omega (arith, second)))

  -- as many places as values, and each is there
  record Assigns (to : List Lvalue) (es : List Expression) : Type 0 where
    places : IsTrue (list_all (is_lvalue p q) to)
    values : AreThere es
    many : length es ≤ length to

  assigns : (to : List Lvalue) (es : List Expression) → IsTrue (are_assigned p q to es) → Assigns to es
  assigns [] [] are = record { places = refl; values = tt; many = omega arith }
  assigns [] (e ∷ es) are = absurd (cc)
  assigns (l ∷ ls) [] are = absurd (cc)
  assigns (l ∷ ls) (e ∷ es) are =
      let first = and_parts (is_lvalue p q l && has_width p q (lvalue_width p q l) e) (are_assigned p q ls es) are in
      let here = and_parts (is_lvalue p q l) (has_width p q (lvalue_width p q l) e) first.0 in
      let rest = assigns ls es first.1 in
      let many = rest.many in record {
        places = and_both (is_lvalue p q l) (list_all (is_lvalue p q) ls) here.0 rest.places;
        values = (width_is_there p q limit (lvalue_width p q l) e here.1, rest.values);
        many = omega (arith, many);
      }

  stores_least : (ls : List Lvalue) → length ls ≤ stores_cost ls
  stores_least [] = omega arith
  stores_least (lvalue.Target target ∷ ls) = omega (arith, stores_least ls)
  stores_least (lvalue.Memory width aligned address ∷ ls) = omega (arith, stores_least ls)

  length_least : (es : List Expression) → length es ≤ values_cost es
  length_least [] = omega arith
  length_least (e ∷ es) = omega (arith, length_least es)

  several_belong : (to : List Lvalue) (es : List Expression) → Assigns to es → addresses_cost to + values_cost es + stores_cost to ≤ limit →
      Pass (nodes_of_addresses 0 to ++ (nodes_of_values (length to) es ++ nodes_of_stores to es 0 (length to)))
  several_belong to es are room =
      let few = stores_least to in
      let values = values_belong (length to) es are.values (omega (arith, room, few)) in
      let stores = stores_belong to es 0 (length to) are.places (omega (arith, room, few)) (omega (arith, room, few, length_least es)) in
      both_pass (belongs p q limit) (nodes_of_addresses 0 to) (nodes_of_values (length to) es ++ nodes_of_stores to es 0 (length to))
      (addresses_belong 0 to are.places (omega (arith, room, few)))
      (both_pass (belongs p q limit) (nodes_of_values (length to) es) (nodes_of_stores to es 0 (length to)) values stores)

  goto_belongs : IsTrue (belongs p q limit goto)
  goto_belongs = node_belongs p q limit goto (omega arith) refl refl

  assignment_belongs : (to : List Lvalue) (es : List Expression) → IsTrue (are_assigned p q to es) → assign_cost to es ≤ limit → Pass (nodes_of_assignment to es)
  assignment_belongs to [] are room = first_belongs p q limit goto [] goto_belongs refl
  assignment_belongs (lvalue.Target target ∷ []) (e ∷ []) are room =
      let is = assigns (lvalue.Target target ∷ []) (e ∷ []) are in
      let fit : Fit 0 e = record { there = is.values.0; room = omega (arith, room, operand_nodes 0 e) } in
      value_belong p q limit 0 (destination.Target target) e fit (and_parts (is_target p q target) true is.places).0
  assignment_belongs (lvalue.Memory width aligned address ∷ []) (e ∷ []) are room =
      let is = assigns (lvalue.Memory width aligned address ∷ []) (e ∷ []) are in
      let here = and_parts (is_alignment aligned) (has_width p q W64 address) (and_parts (is_alignment aligned && has_width p q W64 address) true is.places).0 in
      let first : Fit 0 address = record { there = width_is_there p q limit W64 address here.1; room = omega (arith, room) } in
      let second : Fit 1 e = record { there = is.values.0; room = omega (arith, room) } in
      let node : Node = record { tokens = access_tokens width aligned; kind = node.Store width aligned (operand_of 0 address) (operand_of 1 e) nowhere } in
      last_belongs p q limit (nodes_of_two address e) node (two_belong p q limit address e first second)
      (node_belongs p q limit node (omega arith) (two_fit p q limit 0 1 address e first second) here.0)
  assignment_belongs to (e ∷ es) are room = several_belong to (e ∷ es) (assigns to (e ∷ es) are) room

  -- ---- sites

  module _ (sites : IsTrue (list_all (is_site p q) q.sites)) where
    site_results_belong : (n : ℕ) (site : Site) → slice_get q.sites n ≡ Some site → IsTrue (list_all (is_target p q) site.results)
    site_results_belong n site is =
        let whole = list_all_get (is_site p q) q.sites n site sites is in
        (and_parts _ _ (and_parts _ _ (and_parts _ _ (and_parts _ _ (and_parts _ _ (and_parts _ _ whole).0).0).0).0).0).1

    exits_belong : (n : ℕ) → Pass (nodes_of_exits (slice_get q.sites n))
    exits_belong n = by (slice_get q.sites n) refl
      where
        choice : (site : Site) → IsTrue (list_all (is_target p q) site.results) → (b : Bool) →
            Pass (elim b as (λ _. List Node) [ true ↦ [] | false ↦ normal_node site ∷ [] ])
        choice site are true = refl
        choice site are false = first_belongs p q limit (normal_node site) [] (node_belongs p q limit (normal_node site) (omega arith) refl are) refl

        by : (o : Option Site) → slice_get q.sites n ≡ o → Pass (nodes_of_exits o)
        by None is = refl
        by (Some site) is = choice site (site_results_belong n site is) site.never

    first_belongs_to : (n : ℕ) (width : Width) → IsTrue (at_site p q n (is_checked_site p q width)) → IsTrue (destination_belongs p q limit (first_result (site_results q n)))
    first_belongs_to n width is = by (slice_get q.sites n) refl is
      where
        results : (site : Site) → IsTrue (list_all (is_target p q) site.results) → (ts : List Target) → site.results ≡ ts →
            IsTrue (elim ts as (λ _. Bool) [ [] ↦ false | target ∷ more ↦ same_width (target_width target) width && (length more == 0) ]) →
            IsTrue (destination_belongs p q limit (first_result ts))
        results site are [] same one = absurd (cc)
        results site are (t ∷ ts) same one =
            (and_parts (is_target p q t) (list_all (is_target p q) ts) (subst (λ ts. IsTrue (list_all (is_target p q) ts)) same are)).0

        by : (o : Option Site) → slice_get q.sites n ≡ o → IsTrue (elim o as (λ _. Bool) [ Some site ↦ is_checked_site p q width site | None ↦ false ]) →
            IsTrue (destination_belongs p q limit (first_result (elim o as (λ _. List Target) [ Some site ↦ site.results | None ↦ [] ])))
        by None is holds = absurd (cc)
        by (Some site) is holds = results site (site_results_belong n site is) site.results refl (and_parts (is_yield_site p q 1 site) _ holds).1

    -- ---- statements

    module _ (tokens : ℕ) where
      positive : (used : ℕ) → 0 < remaining tokens used
      positive used = omega arith

      zero_belongs : (width : Width) → IsTrue (list_all (operand_belongs p q limit) (Constant (Number 0 width) ∷ []))
      zero_belongs W8 = refl
      zero_belongs W16 = refl
      zero_belongs W32 = refl
      zero_belongs W64 = refl

      guard_by : (used site : ℕ) (width : Width) (divisor : Expression) → Fit 1 divisor → (b : Bool) →
          Pass (elim b as (λ _. List Node) [ true ↦ nodes_of_guard q tokens used site width divisor | false ↦ [] ])
      guard_by used site width divisor fit false = refl
      guard_by used site width divisor fit true =
          let count = remaining tokens (used + 1 + normal_tokens (slice_get q.sites site)) in
          first_belongs p q limit (zero_test width divisor) (nodes_of_yield_one q count site)
          (node_belongs p q limit (zero_test width divisor) (omega arith)
          (both_pass (operand_belongs p q limit) (operand_of 1 divisor ∷ []) (Constant (Number 0 width) ∷ [])
          (and_both (operand_belongs p q limit (operand_of 1 divisor)) true (operand_fits p q limit 1 divisor fit) refl) (zero_belongs width)) refl)
          (first_belongs p q limit (yield_one count site) (nodes_of_exits (slice_get q.sites site))
          (node_belongs p q limit (yield_one count site) (positive (used + 1 + normal_tokens (slice_get q.sites site))) refl refl) (exits_belong site))

      own_below : (own : List ℕ) → IsTrue (list_all (below (length q.conts)) own) →
          IsTrue (list_all (λ (k : ContinuationId). nat_lt k.number (length q.conts)) (map (λ k. record { number = k }) own))
      own_below [] are = refl
      own_below (k ∷ ks) are =
          let both = and_parts (below (length q.conts) k) (list_all (below (length q.conts)) ks) are in
          and_both (nat_lt k (length q.conts)) (list_all (λ (k : ContinuationId). nat_lt k.number (length q.conts)) (map (λ k. record { number = k }) ks)) both.0
          (own_below ks both.1)

      arms_typed : (o : Option Width) (bs : List Branch) → IsTrue (are_arms o bs) → IsThere o
      arms_typed None bs are = are
      arms_typed (Some width) bs are = refl

      pub form_belongs : (f : Form) → IsTrue (is_form p q f) → own_tokens q f ≤ limit → Pass (nodes_of_form q tokens f)
      form_belongs Empty is room = first_belongs p q limit goto [] goto_belongs refl
      form_belongs (If' condition _ then_ _ otherwise) is room = test_belongs p q limit condition is (omega (arith, room, test_counted condition))
      form_belongs (Switch' value _ arms) is room =
          let fit : Fit 0 value = record { there = arms_typed (typed p q value) (branches arms) is; room = omega (arith, room, operand_counted value alone) } in
          let ranges = all_ranges (branches arms) in
          last_belongs p q limit (nodes_of_operand 0 value) (switch_node tokens value ranges) (operand_belong p q limit 0 value fit)
          (node_belongs p q limit (switch_node tokens value ranges) (positive (nodes value)) (and_both (operand_belongs p q limit (operand_of 0 value)) true (operand_fits p q limit 0 value fit) refl) refl)
      form_belongs (Span' _ body) is room = first_belongs p q limit goto [] goto_belongs refl
      form_belongs (form.Assign to es) is room =
          assignment_belongs to es (and_parts (nat_lt 0 (length to)) (are_assigned p q to es) is).1 (omega (arith, room, assign_least to es))
      form_belongs (form.Call site callee actuals) is room =
          let whole = and_parts (at_site p q site (is_call_site p q) && has_width p q W64 callee) (are_passed p q actuals) is in
          let wide = (and_parts (at_site p q site (is_call_site p q)) (has_width p q W64 callee) whole.0).1 in
          let fit = passing callee actuals wide whole.1 (omega (arith, room, operand_counted callee 8)) (omega (arith, room)) in
          both_pass (belongs p q limit) (nodes_of_passing callee actuals) _ (passing_belong callee actuals fit)
          (first_belongs p q limit (call_node q tokens site callee actuals) (nodes_of_exits (slice_get q.sites site))
          (node_belongs p q limit (call_node q tokens site callee actuals) (positive (nodes callee + nodes_of_all actuals + normal_tokens (slice_get q.sites site)))
          (passing_fit callee actuals fit) refl) (exits_belong site))
      form_belongs (form.Yield site es) is room =
          let are = (and_parts (at_site p q site (is_yield_site p q (length es))) (are_passed p q es) is).1 in
          let fit = all_fit 0 es (passed es are) (omega (arith, room, brackets_more es)) in
          both_pass (belongs p q limit) (nodes_of_operands 0 es) _ (operands_belong p q limit 0 es fit)
          (first_belongs p q limit (yield_node q tokens site es) (nodes_of_exits (slice_get q.sites site))
          (node_belongs p q limit (yield_node q tokens site es) (positive (nodes_of_all es + normal_tokens (slice_get q.sites site))) (operands_fit p q limit 0 es fit) refl)
          (exits_belong site))
      form_belongs (Checked site op width left right) is room =
          let one = and_parts (at_site p q site (is_checked_site p q width) && is_division op && has_width p q width left) (has_width p q width right) is in
          let two = and_parts (at_site p q site (is_checked_site p q width) && is_division op) (has_width p q width left) one.0 in
          let three = and_parts (at_site p q site (is_checked_site p q width)) (is_division op) two.0 in
          let least = brackets_more (left ∷ right ∷ []) in
          let first : Fit 0 left = record { there = width_is_there p q limit width left two.1; room = omega (arith, room, least) } in
          let second : Fit 1 right = record { there = width_is_there p q limit width right one.1; room = omega (arith, room, least) } in
          both_pass (belongs p q limit) (nodes_of_two left right) _ (two_belong p q limit left right first second)
          (last_belongs p q limit (nodes_of_guard_if q tokens (operator_nodes width left right) site op width right) (division q site op width left right)
          (guard_by (operator_nodes width left right) site width right second (is_division op))
          (assigned_belongs p q limit (first_result (site_results q site)) (rvalue.Binary op width (operand_of 0 left) (operand_of 1 right)) (first_belongs_to site width three.0)
          record { first = two_fit p q limit 0 1 left right first second; rest = refl }))
      form_belongs (PutByte value) is room =
          let fit : Fit 0 value = record { there = width_is_there p q limit W64 value is; room = omega (arith, room, brackets_more (value ∷ [])) } in
          last_belongs p q limit (nodes_of_operand 0 value) (put_node value) (operand_belong p q limit 0 value fit)
          (node_belongs p q limit (put_node value) (omega arith) (and_both (operand_belongs p q limit (operand_of 0 value)) true (operand_fits p q limit 0 value fit) refl) refl)
      form_belongs (GetByte target) is room =
          first_belongs p q limit record { tokens = 1; kind = node.Host (host.GetByte target) nowhere } []
          (node_belongs p q limit record { tokens = 1; kind = node.Host (host.GetByte target) nowhere } (omega arith) refl
          (and_parts (is_target p q target) (same_width (target_width target) W64) is).0) refl
      form_belongs (form.Jump callee actuals) is room =
          let whole = and_parts (has_width p q W64 callee) (are_passed p q actuals) is in
          let fit = passing callee actuals whole.0 whole.1 (omega (arith, room, operand_counted callee 8)) (omega (arith, room)) in
          last_belongs p q limit (nodes_of_passing callee actuals) (jump_node tokens callee actuals) (passing_belong callee actuals fit)
          (node_belongs p q limit (jump_node tokens callee actuals) (positive (nodes callee + nodes_of_all actuals)) (passing_fit callee actuals fit) refl)
      form_belongs (form.Return exit alternates []) is room =
          let whole = and_parts (nat_le exit alternates && nat_le alternates 64) (are_passed p q []) is in
          first_belongs p q limit (return_node tokens exit alternates []) []
          (node_belongs p q limit (return_node tokens exit alternates []) (positive 0) refl (and_parts (nat_le exit alternates) (nat_le alternates 64) whole.0).0) refl
      form_belongs (form.Return exit alternates (e ∷ es)) is room =
          let whole = and_parts (nat_le exit alternates && nat_le alternates 64) (are_passed p q (e ∷ es)) is in
          let fit = all_fit 0 (e ∷ es) (passed (e ∷ es) whole.1) (omega (arith, room, brackets_more (e ∷ es))) in
          last_belongs p q limit (nodes_of_operands 0 (e ∷ es)) (return_node tokens exit alternates (e ∷ es)) (operands_belong p q limit 0 (e ∷ es) fit)
          (node_belongs p q limit (return_node tokens exit alternates (e ∷ es)) (positive (nodes_of_all (e ∷ es))) (arguments_fit p q limit 0 (e ∷ es) fit)
          (and_parts (nat_le exit alternates) (nat_le alternates 64) whole.0).0)
      form_belongs (Label l) is room = first_belongs p q limit goto [] goto_belongs refl
      form_belongs (form.Goto l) is room = refl
      form_belongs (Continuation k) is room = refl
      form_belongs (Cut to es own) is room =
          let whole = and_parts (has_width p q W64 to && are_passed p q es) (list_all (below (length q.conts)) own) is in
          let both = and_parts (has_width p q W64 to) (are_passed p q es) whole.0 in
          let fit = passing to es both.0 both.1 (omega (arith, room, operand_counted to 8)) (omega (arith, room)) in
          last_belongs p q limit (nodes_of_passing to es) (cut_node tokens to es own) (passing_belong to es fit)
          (node_belongs p q limit (cut_node tokens to es own) (positive (nodes to + nodes_of_all es)) (passing_fit to es fit) (own_below own whole.1))
