-- The nodes of a procedure in range pass few values, and those that yield do so with as many as their sites say.
use Rattle.std.proofs.Common.{◌≡◌, ℕ, ◌+◌, ◌&&◌, ◌==◌, nat_le, IsTrue, Bool, true, false, Option, Some, None, List, [], ◌∷◌, length, map, slice_get, refl, sym, ap, ◌∙◌, subst}
use Rattle.std.proofs.lemmas.Bool.{and_parts}
use Rattle.std.proofs.lemmas.List.{length-map}
use Rattle.std.proofs.lemmas.List.FromFn.{length-range_with_len}
use Rattle.std.proofs.lemmas.Option.{get_or_from_slice_get, slice_get_within}
use Rattle.std.specs.List.{All, list_all, range_with_len}
use Rattle.cmm_words.specs.Words.{is_division}
use Rattle.cmm_words.specs.declared.width.Width.{Width}
use Rattle.cmm_program.proofs.Shared.{list_all_get}
use Rattle.cmm_program.specs.declared.expression.Expression.{Expression}
use Rattle.cmm_program.specs.declared.procedure.Cont.{Cont}
use Rattle.cmm_program.specs.declared.procedure.Proc.{Proc}
use Rattle.cmm_program.specs.declared.procedure.Site.{Site}
use Rattle.cmm_program.specs.declared.procedure.Target.TheVariants as target
use Rattle.cmm_program.specs.declared.program.Program.{Program}
use Rattle.cmm_program.specs.declared.statement.Form.{Form}
use Rattle.cmm_program.specs.declared.statement.Form.TheVariants as form
use Rattle.cmm_program.specs.declared.statement.Form.TheVariants.{Empty, If', Switch', Span', Label, Continuation, Checked, PutByte, GetByte, Cut}
use Rattle.cmm_program.specs.declared.statement.Lvalue.{Lvalue}
use Rattle.cmm_program.specs.declared.statement.Lvalue.TheVariants as lvalue
use Rattle.cmm_program.specs.declared.statement.Statement.{Statement}
use Rattle.cmm_program.specs.Bodies.{body_statements, branches}
use Rattle.cmm_program.specs.Exits.{variable_width}
use Rattle.cmm_program.specs.InRange.{IsProcInRange, all_ranges, are_passed, at_most_64, is_checked_site, is_continuation, is_form, is_site, is_statement, is_yield_site}
use Rattle.cmm_program.specs.InRange.{at_site as site_passes}
use Rattle.cmm_program.specs.Tokens.{own_tokens}
use Rattle.cmm_graph.specs.declared.graph.Graph.{Graph}
use Rattle.cmm_graph.specs.declared.node.HostCall.TheVariants as host
use Rattle.cmm_graph.specs.declared.node.Node.{Node}
use Rattle.cmm_graph.specs.declared.node.NodeKind.{NodeKind}
use Rattle.cmm_graph.specs.declared.node.NodeKind.TheVariants as node
use Rattle.cmm_graph.specs.declared.number.Variable.{Variable}
use Rattle.cmm_graph.specs.Counterpart.{AreExitsOf, HasSite}
use Rattle.cmm_graph.specs.declared.node.Exits.{Exits}
use Rattle.cmm_graph.specs.declared.number.SiteId.{SiteId}
use Rattle.cmm_flow.specs.Few.{PassFew, YieldThere, passes_few, yields_there}
use Rattle.cmm_flow.specs.Operands.{arguments_of, operands_of}
use Rattle.cmm_flow.specs.Statements.{normal_tokens, operator_nodes, remaining}
use Rattle.cmm_flow.specs.inside.Fronts.{copy_in}
use Rattle.cmm_flow.specs.inside.Laying.{AreAsked, leads_on, passes}
use Rattle.cmm_flow.specs.inside.LayingBlocks.{passes_own}
use Rattle.cmm_flow.specs.inside.Nodes.{call_node, cut_node, division, goto, jump_node, nodes_of_exits, nodes_of_form, nodes_of_guard, nodes_of_guard_if, nodes_of_operand, nodes_of_operands, nodes_of_passing, nodes_of_two, nodes_of_yield_one, normal_node, nowhere, put_node, return_node, stored, switch_node, unled, unled_kind, yield_node, yield_one, zero_test}
use Rattle.cmm_flow.proofs.Covered.{returns_many}
use Rattle.cmm_flow.proofs.Covering.{each_passes, list_all_more}
use Rattle.cmm_flow.proofs.Enough.{arguments_many, operands_many, returns_at}
use Rattle.cmm_flow.proofs.Laying.{and_both, both_pass}
use Rattle.cmm_flow.proofs.PartsPass.{HoldsOfNodes, Passes, assignment, behind, condition, in_front, operand, operands, passing, two}

-- ---- before it is known where a node leads

-- the exits of a site are as many as the site has alternates
abbrev few_kind : Proc → NodeKind → Bool
few_kind q (node.Call site callee arguments exits) = nat_le (length arguments) 64 && nat_le (returns_at q site.number) 64
few_kind q (node.Yield site values exits) = (nat_le (length values) 64 && nat_le (returns_at q site.number) 64) && yields_there q (node.Yield site values exits)
few_kind q kind = passes_few kind

abbrev pub is_few : Proc → Node → Bool
is_few q node = few_kind q node.kind

module _ (p : Program) (q : Proc) (range : IsProcInRange p q) where
  abbrev Few : List Node → Type 0
  Few nodes = Passes (is_few q) nodes

  into : (l : Lvalue) (address value : _) → IsTrue (is_few q (stored l address value))
  into (lvalue.Target target) address value = refl
  into (lvalue.Memory width aligned at) address value = refl

  holds : HoldsOfNodes (is_few q)
  holds = record { right = λ to value. refl; into = into; tests = λ operator width a b. refl; goes = refl }

  -- ---- sites

  site_in_range : (n : ℕ) (site : Site) → slice_get q.sites n ≡ Some site → IsTrue (is_site p q site)
  site_in_range n site is = list_all_get (is_site p q) q.sites n site range.sites is

  few_results : (n : ℕ) (site : Site) → slice_get q.sites n ≡ Some site → IsTrue (nat_le (length site.results) 64)
  few_results n site is =
      let whole = site_in_range n site is in
      let six = and_parts _ _ whole in let five = and_parts _ _ six.0 in let four = and_parts _ _ five.0 in let three = and_parts _ _ four.0 in
      let two = and_parts _ _ three.0 in
      (and_parts (at_most_64 site.results) _ two.0).0

  few_returns : (n : ℕ) → IsTrue (nat_le (returns_at q n) 64)
  few_returns n = by (slice_get q.sites n) refl
    where
      by : (o : Option Site) → slice_get q.sites n ≡ o → IsTrue (nat_le (elim o as (λ _. ℕ) [ Some site ↦ length site.returns | None ↦ 0 ]) 64)
      by None is = refl
      by (Some site) is =
          let whole = site_in_range n site is in
          let six = and_parts _ _ whole in let five = and_parts _ _ six.0 in let four = and_parts _ _ five.0 in let three = and_parts _ _ four.0 in
          (and_parts _ (at_most_64 site.returns) three.0).1

  -- a site that is to yield so many values does so
  yields_at : (count : ℕ) (o : Option Site) → IsTrue (elim o as (λ _. Bool) [ Some site ↦ is_yield_site p q count site | None ↦ false ]) →
      IsTrue (elim o as (λ _. Bool) [ Some s ↦ elim s.yield_values [ Some n ↦ n == count | None ↦ false ] | None ↦ false ])
  yields_at count None is = is
  yields_at count (Some site) is = is

  checked_yields : (width : Width) (o : Option Site) → IsTrue (elim o as (λ _. Bool) [ Some site ↦ is_checked_site p q width site | None ↦ false ]) →
      IsTrue (elim o as (λ _. Bool) [ Some s ↦ elim s.yield_values [ Some n ↦ n == 1 | None ↦ false ] | None ↦ false ])
  checked_yields width None is = is
  checked_yields width (Some site) is = (and_parts (is_yield_site p q 1 site) _ is).0

  exits : (n : ℕ) → Few (nodes_of_exits (slice_get q.sites n))
  exits n = by (slice_get q.sites n) refl
    where
      choice : (site : Site) (b : Bool) → IsTrue (nat_le (length site.results) 64) → Few (elim b as (λ _. List Node) [ true ↦ [] | false ↦ normal_node site ∷ [] ])
      choice site true few = refl
      choice site false few = in_front (is_few q) (normal_node site) [] few refl

      by : (o : Option Site) → slice_get q.sites n ≡ o → Few (nodes_of_exits o)
      by None is = refl
      by (Some site) is = choice site site.never (few_results n site is)

  -- ---- statements

  few_arguments : (base : ℕ) (es : List Expression) → IsTrue (are_passed p q es) → IsTrue (nat_le (length (arguments_of base es)) 64)
  few_arguments base es are =
      subst (λ (n : ℕ). IsTrue (nat_le n 64)) (sym (arguments_many base es)) (and_parts (at_most_64 es) _ are).0

  few_operands : (es : List Expression) → IsTrue (are_passed p q es) → IsTrue (nat_le (length (operands_of 0 es)) 64)
  few_operands es are = subst (λ (n : ℕ). IsTrue (nat_le n 64)) (sym (operands_many 0 es)) (and_parts (at_most_64 es) _ are).0

  -- so many values are yielded at a site
  abbrev yields : ℕ → ℕ → Bool
  yields count site = elim (slice_get q.sites site) [ Some s ↦ elim s.yield_values [ Some n ↦ n == count | None ↦ false ] | None ↦ false ]

  yield_few : (site count : ℕ) → IsTrue (nat_le count 64) → IsTrue (yields count site) → IsTrue ((nat_le count 64 && nat_le (returns_at q site) 64) && yields count site)
  yield_few site count few there =
      and_both (nat_le count 64 && nat_le (returns_at q site) 64) (yields count site) (and_both (nat_le count 64) (nat_le (returns_at q site) 64) few (few_returns site)) there

  module _ (tokens : ℕ) where
    guard_by : (used site : ℕ) (width : Width) (divisor : Expression) (b : Bool) → IsTrue (yields 1 site) →
        Few (elim b as (λ _. List Node) [ true ↦ nodes_of_guard q tokens used site width divisor | false ↦ [] ])
    guard_by used site width divisor true there =
        let count = remaining tokens (used + 1 + normal_tokens (slice_get q.sites site)) in
        in_front (is_few q) (zero_test width divisor) (nodes_of_yield_one q count site) refl
        (in_front (is_few q) (yield_one count site) (nodes_of_exits (slice_get q.sites site)) (yield_few site 1 refl there) (exits site))
    guard_by used site width divisor false there = refl

    form_few : (f : Form) → IsTrue (is_form p q f) → Few (nodes_of_form q tokens f)
    form_few Empty is = in_front (is_few q) goto [] refl refl
    form_few (If' test _ then_ _ otherwise) is = condition (is_few q) holds test
    form_few (Switch' value _ arms) is =
        behind (is_few q) (nodes_of_operand 0 value) (switch_node tokens value (all_ranges (branches arms))) (operand (is_few q) holds 0 value) refl
    form_few (Span' _ body) is = in_front (is_few q) goto [] refl refl
    form_few (form.Assign to es) is = assignment (is_few q) holds to es
    form_few (form.Call site callee actuals) is =
        both_pass (is_few q) (nodes_of_passing callee actuals) _ (passing (is_few q) holds callee actuals)
        (in_front (is_few q) (call_node q tokens site callee actuals) (nodes_of_exits (slice_get q.sites site))
        (and_both (nat_le (length (arguments_of 1 actuals)) 64) (nat_le (returns_at q site) 64) (few_arguments 1 actuals (and_parts _ (are_passed p q actuals) is).1)
        (few_returns site)) (exits site))
    form_few (form.Yield site es) is =
        let both = and_parts (site_passes p q site (is_yield_site p q (length es))) (are_passed p q es) is in
        let many = operands_many 0 es in
        both_pass (is_few q) (nodes_of_operands 0 es) _ (operands (is_few q) holds 0 es)
        (in_front (is_few q) (yield_node q tokens site es) (nodes_of_exits (slice_get q.sites site))
        (yield_few site (length (operands_of 0 es)) (few_operands es both.1)
        (subst (λ (n : ℕ). IsTrue (yields n site)) (sym many) (yields_at (length es) (slice_get q.sites site) both.0))) (exits site))
    form_few (Checked site op width left right) is =
        let three = and_parts _ _ (and_parts _ _ is).0 in
        let one = (and_parts (site_passes p q site (is_checked_site p q width)) (is_division op) three.0).0 in
        both_pass (is_few q) (nodes_of_two left right) _ (two (is_few q) holds left right)
        (behind (is_few q) (nodes_of_guard_if q tokens (operator_nodes width left right) site op width right) (division q site op width left right)
        (guard_by (operator_nodes width left right) site width right (is_division op) (checked_yields width (slice_get q.sites site) one)) refl)
    form_few (PutByte value) is = behind (is_few q) (nodes_of_operand 0 value) (put_node value) (operand (is_few q) holds 0 value) refl
    form_few (GetByte target) is = in_front (is_few q) record { tokens = 1; kind = node.Host (host.GetByte target) nowhere } [] refl refl
    form_few (form.Jump callee actuals) is =
        behind (is_few q) (nodes_of_passing callee actuals) (jump_node tokens callee actuals) (passing (is_few q) holds callee actuals)
        (few_arguments 1 actuals (and_parts _ (are_passed p q actuals) is).1)
    form_few (form.Return exit alternates es) is =
        let both = and_parts _ (are_passed p q es) is in
        behind (is_few q) (nodes_of_operands 0 es) (return_node tokens exit alternates es) (operands (is_few q) holds 0 es)
        (and_both (nat_le alternates 64) (nat_le (length (arguments_of 0 es)) 64) (and_parts _ (nat_le alternates 64) both.0).1 (few_arguments 0 es both.1))
    form_few (Label l) is = in_front (is_few q) goto [] refl refl
    form_few (form.Goto l) is = refl
    form_few (Continuation k) is = refl
    form_few (Cut to es own) is =
        behind (is_few q) (nodes_of_passing to es) (cut_node tokens to es own) (passing (is_few q) holds to es)
        (few_arguments 1 es (and_parts _ (are_passed p q es) (and_parts _ _ is).0).1)

  statement_few : (s : Statement) → IsTrue (is_statement p q s) → IsTrue (passes_own q (is_few q) s)
  statement_few s is = form_few s.tokens s.form (and_parts (is_form p q s.form) (nat_le (own_tokens q s.form) s.tokens) is).0

  pub statements_few : IsTrue (list_all (passes_own q (is_few q)) (body_statements q))
  statements_few = list_all_more (is_statement p q) (passes_own q (is_few q)) statement_few (body_statements q) range.body

  -- ---- the nodes in front

  copy_few : (k : Cont) → IsTrue (is_continuation p q k) → IsTrue (is_few q (unled (copy_in q k nowhere)))
  copy_few k is =
      subst (λ (n : ℕ). IsTrue (nat_le n 64)) (sym (length-map k.params (λ n. target.Variable n (variable_width q n)))) (and_parts (at_most_64 k.params) _ is).0

  pub copies_few : IsTrue (list_all (λ k. is_few q (unled (copy_in q k nowhere))) q.conts)
  copies_few =
      list_all_more (is_continuation p q) (λ (k : Cont). is_few q (unled (copy_in q k nowhere))) copy_few q.conts range.continuations

  pub entry_few : (formals : List Variable) → map (λ v. v.number) formals ≡ range_with_len 0 q.formals →
      IsTrue (is_few q record { tokens = q.tokens; kind = node.Entry formals nowhere })
  entry_few formals are =
      let many : length formals ≡ q.formals = sym (length-map formals (λ (v : Variable). v.number)) ∙ ap length are ∙ length-range_with_len 0 q.formals in
      subst (λ (n : ℕ). IsTrue (nat_le n 64)) (sym many) (and_parts (nat_le q.formals (length q.vars)) (nat_le q.formals 64) range.formals).1

-- ---- the graph

module _ (q : Proc) (g : Graph) where
  -- the exits of a node are as many as those of its site
  as_many : (count : ℕ) (n : SiteId) (exits : Exits) → AreExitsOf q g n exits → IsTrue (nat_le count 64 && nat_le (returns_at q n.number) 64) →
      IsTrue (nat_le count 64 && nat_le (length exits.returns) 64)
  as_many count n exits site is =
      let both = and_parts (nat_le count 64) (nat_le (returns_at q n.number) 64) is in
      and_both (nat_le count 64) (nat_le (length exits.returns) 64) both.0
      (subst (λ (n : ℕ). IsTrue (nat_le n 64)) (sym (returns_many q g n exits site)) both.1)

  kind_few : (kind : NodeKind) → IsTrue (few_kind q (unled_kind kind)) → HasSite q g kind → IsTrue (passes_few kind)
  kind_few (node.Call n callee arguments exits) is site = as_many (length arguments) n exits site is
  kind_few (node.Yield n values exits) is site =
      as_many (length values) n exits site (and_parts (nat_le (length values) 64 && nat_le (returns_at q n.number) 64) _ is).0
  kind_few kind is site = is

  kind_yields : (kind : NodeKind) → IsTrue (few_kind q (unled_kind kind)) → IsTrue (yields_there q kind)
  kind_yields (node.Yield n values exits) is = (and_parts (nat_le (length values) 64 && nat_le (returns_at q n.number) 64) _ is).1
  kind_yields kind is = refl

  pub nodes_few : AreAsked record { test = is_few q; graph = g } g.nodes → All (λ node. HasSite q g node.kind) g.nodes → PassFew g
  nodes_few asked sites = each_passes (λ node. passes_few node.kind) g.nodes (λ n node at.
      let less = slice_get_within g.nodes n node at in
      let site = subst (λ (node : Node). HasSite q g node.kind) (get_or_from_slice_get g.nodes n node node at) (sites n node less) in
      let whole = list_all_get (passes record { test = is_few q; graph = g }) g.nodes n node asked at in
      kind_few node.kind (and_parts (is_few q (unled node)) (leads_on g node.kind) whole).0 site)

  pub nodes_yield : AreAsked record { test = is_few q; graph = g } g.nodes → YieldThere q g
  nodes_yield asked = each_passes (λ node. yields_there q node.kind) g.nodes (λ n node at.
      let whole = list_all_get (passes record { test = is_few q; graph = g }) g.nodes n node asked at in
      kind_yields node.kind (and_parts (is_few q (unled node)) (leads_on g node.kind) whole).0)
