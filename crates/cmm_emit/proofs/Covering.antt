-- Nodes with tokens enough have at most 32 instructions a token.
use Rattle.std.proofs.Common.{◌≡◌, ◌⊎◌, inl, inr, ℕ, zero, suc, ◌+◌, ◌*◌, ◌^◌, ◌≤◌, ◌&&◌, ◌||◌, nat_le, nat_lt, Bool, true, false, refl, sym, ◌∙◌, ap, subst, List, [], ◌∷◌, ◌++◌, length, IsTrue, arith, lit≤}
use Rattle.std.proofs.lemmas.Bool.Decides.{nat_tests}
use Rattle.std.proofs.lemmas.List.{length-map, length-append}
use Rattle.std.specs.List.{flat_map}
use Rattle.cmm_words.specs.declared.constant.Constant.TheVariants as constant
use Rattle.cmm_words.specs.declared.width.Width.{Width}
use Rattle.cmm_words.specs.declared.width.Width.TheVariants.{W8, W16, W32, W64}
use Rattle.cmm_words.specs.Widths.{bits}
use Rattle.cmm_program.specs.Typing.{is_alignment}
use Rattle.cmm_program.proofs.Shared.{list_all_get}
use Rattle.cmm_graph.specs.Covering.{access_tokens, covers, is_constant_operand, is_label_operand, least_for, least_tokens, operator_tokens}
use Rattle.cmm_graph.specs.Ranges.{is_kind, is_node, is_rvalue}
use Rattle.cmm_graph.specs.declared.graph.Graph.{Graph}
use Rattle.cmm_graph.specs.declared.node.Arm.{Arm}
use Rattle.cmm_graph.specs.declared.node.HostCall.TheVariants as host
use Rattle.cmm_graph.specs.declared.node.Node.{Node}
use Rattle.cmm_graph.specs.declared.node.NodeKind.{NodeKind}
use Rattle.cmm_graph.specs.declared.node.NodeKind.TheVariants.{Assign, Branch, Call, CopyIn, Cut, Entry, Goto, Host, Jump, Return, Stop, Store, Switch, Yield}
use Rattle.cmm_graph.specs.declared.number.NodeId.{NodeId}
use Rattle.cmm_graph.specs.declared.number.Variable.{Variable}
use Rattle.cmm_graph.specs.declared.operand.Argument.{Argument}
use Rattle.cmm_graph.specs.declared.operand.Operand.{Operand}
use Rattle.cmm_graph.specs.declared.operand.Operand.TheVariants as operand
use Rattle.cmm_graph.specs.declared.operand.Rvalue.{Rvalue}
use Rattle.cmm_graph.specs.declared.operand.Rvalue.TheVariants as rvalue
use Rattle.cmm_calls.specs.Calls.{exits_cost}
use Rattle.cmm_select.specs.Memory.{accesses}
use Rattle.cmm_select.specs.Operators.{shifts_of}
use Rattle.cmm_select.specs.Switches.{ranges_in}
use Rattle.cmm_hoisted.specs.Flow.{entry_tokens}
use Rattle.cmm_emit.proofs.Bodies.{few_for}
use Rattle.cmm_emit.proofs.Summing.{one_spares}
use Rattle.cmm_emit.specs.declared.context.Context.{Context}
use Rattle.cmm_emit.specs.declared.context.Targets.{Targets}
use Rattle.cmm_emit.specs.Costs.{both_cost, cost_of, operand_cost, rvalue_cost}
use Rattle.cmm_emit.specs.Laws.{GraphsAreShort, IsSmallFor, NodesAreShort}
use Rattle.cmm_emit.specs.Naming.{argument_operand, argument_operands, code_operand}

-- ---- operators

-- what brings an operand by how many instructions: eleven for a label, eight for a number, four for the others
data Bringing : Type 0 where
  label : Bringing
  number : Bringing
  other : Bringing

abbrev bringing : Operand → Bringing
bringing (operand.Constant (constant.Number n width)) = number
bringing (operand.Constant (constant.Code k plus)) = label
bringing (operand.Constant (constant.Address k plus)) = label
bringing _ = other

abbrev weight : Bringing → ℕ
weight label = 11
weight number = 8
weight other = 4

abbrev is_label : Bringing → Bool
is_label label = true
is_label _ = false

abbrev is_constant : Bringing → Bool
is_constant other = false
is_constant _ = true

abbrev tokens_for : Bool → Bringing → Bringing → ℕ
tokens_for narrow a b = elim ((is_constant a && is_constant b) || (narrow && (is_label a || is_label b))) [ true ↦ 2 | false ↦ 1 ]

abbrev shifts : Bool → ℕ
shifts narrow = elim narrow [ true ↦ 2 | false ↦ 0 ]

weigh : (narrow : Bool) (a b : Bringing) → weight a + weight b + 3 * shifts narrow + 12 ≤ 32 * tokens_for narrow a b
weigh true label label = lit≤ tt
weigh true label number = lit≤ tt
weigh true label other = lit≤ tt
weigh true number label = lit≤ tt
weigh true number number = lit≤ tt
weigh true number other = lit≤ tt
weigh true other label = lit≤ tt
weigh true other number = lit≤ tt
weigh true other other = lit≤ tt
weigh false label label = lit≤ tt
weigh false label number = lit≤ tt
weigh false label other = lit≤ tt
weigh false number label = lit≤ tt
weigh false number number = lit≤ tt
weigh false number other = lit≤ tt
weigh false other label = lit≤ tt
weigh false other number = lit≤ tt
weigh false other other = lit≤ tt

constant_is : (o : Operand) → is_constant_operand o ≡ is_constant (bringing o)
constant_is (operand.Constant (constant.Number n width)) = refl
constant_is (operand.Constant (constant.Code k plus)) = refl
constant_is (operand.Constant (constant.Address k plus)) = refl
constant_is (operand.Local v) = refl
constant_is (operand.Stackdata l) = refl
constant_is (operand.Continuation k) = refl

label_is : (o : Operand) → is_label_operand o ≡ is_label (bringing o)
label_is (operand.Constant (constant.Number n width)) = refl
label_is (operand.Constant (constant.Code k plus)) = refl
label_is (operand.Constant (constant.Address k plus)) = refl
label_is (operand.Local v) = refl
label_is (operand.Stackdata l) = refl
label_is (operand.Continuation k) = refl

shifts_are : (w : Width) → shifts_of w ≡ shifts (nat_lt (bits w) 64)
shifts_are W8 = refl
shifts_are W16 = refl
shifts_are W32 = refl
shifts_are W64 = refl

abbrev tokens_by : Bool → Bool → Bool → Bool → Bool → ℕ
tokens_by narrow ca cb la lb = elim ((ca && cb) || (narrow && (la || lb))) [ true ↦ 2 | false ↦ 1 ]

tokens_are : (w : Width) (a b : Operand) → operator_tokens w a b ≡ tokens_for (nat_lt (bits w) 64) (bringing a) (bringing b)
tokens_are w a b =
    let narrow : Bool = nat_lt (bits w) 64 in
    ap (λ z. tokens_by narrow z (is_constant_operand b) (is_label_operand a) (is_label_operand b)) (constant_is a)
    ∙ ap (λ z. tokens_by narrow (is_constant (bringing a)) z (is_label_operand a) (is_label_operand b)) (constant_is b)
    ∙ ap (λ z. tokens_by narrow (is_constant (bringing a)) (is_constant (bringing b)) z (is_label_operand b)) (label_is a)
    ∙ ap (λ z. tokens_by narrow (is_constant (bringing a)) (is_constant (bringing b)) (is_label (bringing a)) z) (label_is b)

few_for_number : (b : Bool) → elim b as (λ _. ℕ) [ true ↦ 4 | false ↦ 8 ] ≤ 8
few_for_number true = lit≤ tt
few_for_number false = lit≤ tt

few_narrow : (narrow : Bool) → shifts narrow ≤ 2
few_narrow true = lit≤ tt
few_narrow false = lit≤ tt

few_shifts : (w : Width) → shifts_of w ≤ 2
few_shifts w = subst (λ n. n ≤ 2) (sym (shifts_are w)) (few_narrow (nat_lt (bits w) 64))

few_exits : (n : ℕ) → exits_cost n ≤ 3 * n + 1
few_exits zero = omega arith
few_exits (suc n) = omega arith

-- ---- words in memory

abbrev Few : Width → ℕ → Type 0
Few w aligned = accesses w aligned + 3 ≤ 4 * access_tokens w aligned

few_at_each : (w : Width) → Few w 1 × Few w 2 × Few w 4 × Few w 8 × Few w 16
few_at_each W8 = (lit≤ tt, lit≤ tt, lit≤ tt, lit≤ tt, lit≤ tt)
few_at_each W16 = (lit≤ tt, lit≤ tt, lit≤ tt, lit≤ tt, lit≤ tt)
few_at_each W32 = (lit≤ tt, lit≤ tt, lit≤ tt, lit≤ tt, lit≤ tt)
few_at_each W64 = (lit≤ tt, lit≤ tt, lit≤ tt, lit≤ tt, lit≤ tt)

one_of : (n : ℕ) → IsTrue (is_alignment n) → (n ≡ 1) ⊎ ((n ≡ 2) ⊎ ((n ≡ 4) ⊎ ((n ≡ 8) ⊎ (n ≡ 16))))
one_of n is = grind (arith, nat_tests)

few_accesses : (w : Width) (aligned : ℕ) → IsTrue (is_alignment aligned) → Few w aligned
few_accesses w aligned is = by (one_of aligned is)
  where
    by : (aligned ≡ 1) ⊎ ((aligned ≡ 2) ⊎ ((aligned ≡ 4) ⊎ ((aligned ≡ 8) ⊎ (aligned ≡ 16)))) → Few w aligned
    by (inl e) = subst (Few w) (sym e) (few_at_each w).0
    by (inr (inl e)) = subst (Few w) (sym e) (few_at_each w).1
    by (inr (inr (inl e))) = subst (Few w) (sym e) (few_at_each w).2
    by (inr (inr (inr (inl e)))) = subst (Few w) (sym e) (few_at_each w).3
    by (inr (inr (inr (inr e)))) = subst (Few w) (sym e) (few_at_each w).4

-- ---- ranges

ranges_are : (arms : List Arm) → ranges_in arms ≡ length (flat_map (λ arm. arm.ranges) arms)
ranges_are [] = refl
ranges_are (arm ∷ arms) =
    let later : ranges_in arms ≡ length (flat_map (λ arm. arm.ranges) arms) = ranges_are arms in
    let joined : length (arm.ranges ++ flat_map (λ arm. arm.ranges) arms) ≡ length arm.ranges + length (flat_map (λ arm. arm.ranges) arms) =
    length-append arm.ranges (flat_map (λ arm. arm.ranges) arms) in
    omega (arith, later, joined)

module _ (p : Context) (y : Targets) where
  few_by : (o : Operand) → operand_cost p y o ≤ weight (bringing o)
  few_by (operand.Constant (constant.Number n width)) = few_for_number (nat_le n (2 ^ 40))
  few_by (operand.Constant (constant.Code k plus)) = lit≤ tt
  few_by (operand.Constant (constant.Address k plus)) = lit≤ tt
  few_by (operand.Local v) = lit≤ tt
  few_by (operand.Stackdata l) = lit≤ tt
  few_by (operand.Continuation k) = lit≤ tt

  few : (o : Operand) → operand_cost p y o ≤ 11
  few o = few_for (code_operand p y o)

  operator_fits : (w : Width) (a b : Operand) → both_cost p y a b + 3 * shifts_of w + 12 ≤ 32 * operator_tokens w a b
  operator_fits w a b = omega (arith, few_by a, few_by b, weigh (nat_lt (bits w) 64) (bringing a) (bringing b), shifts_are w, tokens_are w a b)

  passed : (arguments : List Argument) → length (argument_operands p y arguments) ≡ length arguments
  passed arguments = length-map arguments (argument_operand p y)

  module _ (g : Graph) (whole : ℕ) (small : IsSmallFor p whole) (tokens : ℕ) where
    rvalue_fits : (value : Rvalue) → IsTrue (is_rvalue g value) → least_for value ≤ tokens → rvalue_cost p y value + 2 ≤ 32 * tokens
    rvalue_fits (rvalue.Copy o) is enough = omega (arith, few o, enough)
    rvalue_fits (rvalue.Register r) is enough = omega (arith, enough)
    rvalue_fits (rvalue.Load width aligned o) is enough = omega (arith, few o, few_accesses width aligned (grind (arith, is)), enough)
    rvalue_fits (rvalue.Unary operator width o) is enough = omega (arith, few o, few_shifts width, enough)
    rvalue_fits (rvalue.Binary operator width left right) is enough = omega (arith, operator_fits width left right, enough)
    rvalue_fits (rvalue.Compare test) is enough = omega (arith, operator_fits test.width test.left test.right, enough)
    rvalue_fits (rvalue.SignExtend narrow width o) is enough = omega (arith, few o, few_shifts narrow, few_shifts width, enough)
    rvalue_fits (rvalue.LowBits wide width o) is enough = omega (arith, few o, few_shifts width, enough)

    -- an Entry spares enough for what a graph has beside the code of its statements
    entry_spares : (formals : List Variable) (next : NodeId) → 5 ≤ whole → least_tokens whole (Entry formals next) ≤ whole → cost_of p y (Entry formals next) + 65 ≤ 32 * whole
    entry_spares formals next some enough = omega (arith, small.saved, small.words, enough)

    kind_fits : (kind : NodeKind) → IsTrue (is_kind g kind) → least_tokens whole kind ≤ tokens → cost_of p y kind ≤ 32 * tokens
    kind_fits (Entry formals next) is enough = omega (arith, small.saved, small.words, enough)
    kind_fits (CopyIn to next) is enough = omega (arith, enough)
    kind_fits (Assign to value next) is enough = rvalue_fits value (grind (arith, is)) enough
    kind_fits (Store width aligned address value next) is enough =
        omega (arith, few address, few value, few_accesses width aligned (grind (arith, is)), enough)
    kind_fits (Branch test then_ otherwise) is enough = omega (arith, few test.left, few test.right, few_shifts test.width, enough)
    kind_fits (Switch value arms otherwise) is enough = omega (arith, few value, ranges_are arms, enough)
    kind_fits (Call site callee arguments exits) is enough = omega (arith, few_exits (length exits.returns), enough)
    kind_fits (Yield site values exits) is enough = omega (arith, few_exits (length exits.returns), enough)
    kind_fits (Jump callee arguments) is enough = omega (arith, passed arguments, small.saved, enough)
    kind_fits (Cut to arguments own) is enough = omega (arith, few to, enough)
    kind_fits (Return exit alternates results) is enough = omega (arith, passed results, small.saved, enough)
    kind_fits (Host (host.PutByte value) next) is enough = omega (arith, few value, enough)
    kind_fits (Host (host.GetByte to) next) is enough = omega (arith, enough)
    kind_fits (Goto next) is enough = omega (arith, enough)
    kind_fits Stop is enough = omega (arith, enough)

pub nodes_are_short : NodesAreShort
nodes_are_short p y g whole node small is covered =
    kind_fits p y g whole small node.tokens node.kind (grind (arith, is)) (grind (arith, nat_tests, covered))

pub graphs_are_short : GraphsAreShort
graphs_are_short p y g whole small short =
    let least = entry_tokens g in
    let entry : Node = record { tokens = least; kind = Entry short.formals short.next } in
    let enough : IsTrue (covers least entry) = list_all_get (covers least) g.nodes g.first.number entry short.covered short.entry in
    let spares = entry_spares p y g least small least short.formals short.next short.some (grind (arith, nat_tests, enough)) in
    let all =
    one_spares (λ node. cost_of p y node.kind) (λ node. node.tokens) 65 g.nodes g.first.number entry short.entry spares
    (λ k node is.
    nodes_are_short p y g least node small (list_all_get (is_node g) g.nodes k node short.nodes is) (list_all_get (covers least) g.nodes k node short.covered is)) in
    let tokens = short.tokens in
    omega (arith, all, tokens)
