-- What stands at the nodes of a graph whose constants are hoisted, and that they are in range where those before are.
use Rattle.std.proofs.Common.{◌≡◌, ◌⊎◌, ℕ, ◌+◌, ◌<◌, inl, inr, refl, sym, ◌∙◌, ap, arith, Bool, false, length}
use Rattle.std.proofs.Math.Path.{fun_ext}
use Rattle.std.proofs.lemmas.Bool.Decides.{nat_tests}
use Rattle.std.proofs.lemmas.Option.{slice_get_within}
use Rattle.std.specs.Prelude.{◌&&◌, nat_le, nat_lt, slice_get, IsTrue, Option, Some, None}
use Rattle.std.specs.List.{list_all}
use Rattle.cmm_words.specs.declared.constant.Constant.{Constant}
use Rattle.cmm_words.specs.Widths.{bits}
use Rattle.cmm_program.specs.declared.procedure.Target.{Target}
use Rattle.cmm_program.specs.declared.procedure.Target.TheVariants as target
use Rattle.cmm_program.specs.Typing.{is_alignment}
use Rattle.cmm_graph.specs.declared.graph.Graph.{Graph}
use Rattle.cmm_graph.specs.declared.node.Exits.{Exits}
use Rattle.cmm_graph.specs.declared.node.HostCall.{HostCall}
use Rattle.cmm_graph.specs.declared.node.HostCall.TheVariants.{PutByte, GetByte}
use Rattle.cmm_graph.specs.declared.node.Node.{Node}
use Rattle.cmm_graph.specs.declared.node.NodeKind.{NodeKind}
use Rattle.cmm_graph.specs.declared.node.NodeKind.TheVariants.{Entry, CopyIn, Assign, Store, Branch, Switch, Call, Yield, Jump, Cut, Return, Host, Goto, Stop}
use Rattle.cmm_graph.specs.declared.number.NodeId.{NodeId}
use Rattle.cmm_graph.specs.declared.operand.Argument.{Argument}
use Rattle.cmm_graph.specs.declared.operand.Comparison.{Comparison}
use Rattle.cmm_graph.specs.declared.operand.Destination.{Destination}
use Rattle.cmm_graph.specs.declared.operand.Destination.TheVariants as destination
use Rattle.cmm_graph.specs.declared.operand.Local.TheVariants as local
use Rattle.cmm_graph.specs.declared.operand.Operand.{Operand}
use Rattle.cmm_graph.specs.declared.operand.Operand.TheVariants as operand
use Rattle.cmm_graph.specs.declared.operand.Rvalue.{Rvalue}
use Rattle.cmm_graph.specs.declared.operand.Rvalue.TheVariants as rvalue
use Rattle.cmm_graph.specs.Ranges.{are_exits, is_argument, is_arm, is_continuation, is_copy_in, is_destination, is_entry, is_host, is_kind, is_normal, is_operand, is_rvalue, is_step, is_target, is_test, is_variable, leads_to}
use Rattle.cmm_graph.specs.Paths.{node_of}
use Rattle.cmm_hoist.specs.Graphs.{IsHoistedFrom, keeping_node}
use Rattle.cmm_hoist.specs.Keeping.{Assigns, Branches, Compares, Computes, Copies, KindStandsFor, Loads, OperandStandsFor, RvalueStandsFor, SameKind, SameRvalue, Stores, TestStandsFor, Tests}
use Rattle.cmm_hoisted.proofs.Lists.{list_all_more}
use Rattle.cmm_hoisted.proofs.Nodes.{IsBlind, KeepsAt, MayStand, OldNode, lead, may_same, new_entry, new_node, old_entry, old_node}
use Rattle.cmm_hoisted.proofs.Tests.{both_more}

module _ (old new : Graph) (is : IsHoistedFrom old new) where
  abbrev pub Operands : Operand → Operand → Type 0
  Operands = OperandStandsFor old.temporaries is.kept

  abbrev pub Values : Rvalue → Rvalue → Type 0
  Values = RvalueStandsFor old.temporaries is.kept

  -- ---- what stands at a node

  -- What is the same of nodes that stand for others, and of those that keep constants what it is of none, is the same at each number.
  pub seen_same : {A : Type 0} (f : Option Node → A) → ((n : NodeId) (a b : Node) → MayStand old new is n a b → f (Some b) ≡ f (Some a)) →
      ((number : ℕ) (constant : Constant) (next : NodeId) → f (Some (keeping_node number constant next)) ≡ f None) → (n : NodeId) →
      f (node_of new n) ≡ f (node_of old n)
  seen_same f alike keeping n = by (node_of old n) (node_of new n) refl refl
    where
      by : (a b : Option Node) → node_of old n ≡ a → node_of new n ≡ b → f b ≡ f a
      by None None was now = refl
      by None (Some b) was now = here (old_node old new is n b now)
        where
          here : OldNode old new is n b ⊎ KeepsAt old new is n b → f (Some b) ≡ f None
          here (inl a) = let there = a.is_there in absurd (cc)
          here (inr k) = ap (λ node. f (Some node)) k.node ∙ keeping (old.temporaries + k.number) k.constant (lead old new is k.number)
      by (Some a) None was now = let b = new_node old new is n a was in let there = b.is_there in absurd (cc)
      by (Some a) (Some b) was now =
          let c = new_node old new is n a was in
          let there = c.is_there in
          let same : c.other ≡ b = cc in
          ap (λ node. f (Some node)) (sym same) ∙ alike n a c.other c.stands

  leads_same : (test : NodeKind → Bool) → IsBlind test → test (new_entry old new is).kind ≡ test (old_entry old new is).kind →
      ((number : ℕ) (constant : Constant) (next : NodeId) → test (keeping_node number constant next).kind ≡ false) → leads_to new test ≡ leads_to old test
  leads_same test blind entry keeping =
      fun_ext (seen_same (λ (o : Option Node). elim o as (λ _. Bool) [ Some node ↦ test node.kind | None ↦ false ])
      (may_same old new is test blind entry) keeping)

  pub entry_same : leads_to new is_entry ≡ leads_to old is_entry
  entry_same =
      leads_same is_entry (record { assigns = λ to v w next. refl; stores = λ width aligned a b c d next. refl; branches = λ t u then_ otherwise. refl }) refl
      (λ number constant next. refl)

  pub copy_same : leads_to new is_copy_in ≡ leads_to old is_copy_in
  copy_same =
      leads_same is_copy_in (record { assigns = λ to v w next. refl; stores = λ width aligned a b c d next. refl; branches = λ t u then_ otherwise. refl }) refl
      (λ number constant next. refl)

  step_blind : IsBlind is_step
  step_blind = record { assigns = λ to v w next. refl; stores = λ width aligned a b c d next. refl; branches = λ t u then_ otherwise. refl }

  abbrev pub steps : Option Node → Bool
  steps o = elim o [ Some node ↦ is_step node.kind | None ↦ false ]

  -- a node where a run may stand is one yet
  pub step_more : (n : NodeId) → IsTrue (leads_to old is_step n) → IsTrue (leads_to new is_step n)
  step_more n = by (node_of old n) refl
    where
      by : (o : Option Node) → node_of old n ≡ o → IsTrue (steps o) → IsTrue (leads_to new is_step n)
      by None was step = absurd (cc)
      by (Some a) was step =
          let b = new_node old new is n a was in
          ap steps b.is_there ∙ (may_same old new is is_step step_blind refl n a b.other b.stands ∙ step)

  -- ---- ranges: no count falls

  pub variable_same : is_variable new ≡ is_variable old
  variable_same = fun_ext (λ v. ap (λ k. nat_lt v.number k) is.variables)

  continuation_same : is_continuation new ≡ is_continuation old
  continuation_same = fun_ext (λ k. ap (λ ns. nat_lt k.number (length ns)) is.continuations)

  target_same : is_target new ≡ is_target old
  target_same = fun_ext by
    where
      by : (t : Target) → is_target new t ≡ is_target old t
      by (target.Variable number width) = ap (λ k. nat_lt number k) is.variables
      by (target.Register number width) = refl

  temporary_more : (number : ℕ) → IsTrue (nat_lt number old.temporaries) → IsTrue (nat_lt number new.temporaries)
  temporary_more number less =
      let below : number < old.temporaries = grind (arith, nat_tests, less) in
      let more = is.temporaries in
      let now : number < new.temporaries = omega (arith, below, more) in
      grind (arith, nat_tests, now)

  destination_more : (to : Destination) → IsTrue (is_destination old to) → IsTrue (is_destination new to)
  destination_more (destination.Target t) there = ap (λ f. f t) target_same ∙ there
  destination_more (destination.Temporary t) there = temporary_more t.number there

  operand_more : (o : Operand) → IsTrue (is_operand old o) → IsTrue (is_operand new o)
  operand_more (operand.Constant c) there = there
  operand_more (operand.Local (local.Variable v)) there = ap (λ f. f v) variable_same ∙ there
  operand_more (operand.Local (local.Temporary t)) there = temporary_more t.number there
  operand_more (operand.Stackdata label) there = refl
  operand_more (operand.Continuation k) there = ap (λ f. f k) continuation_same ∙ there

  -- a temporary that keeps a constant is one
  pub kept_below : (index : ℕ) (constant : Constant) → slice_get is.kept index ≡ Some constant → IsTrue (nat_lt (old.temporaries + index) new.temporaries)
  kept_below index constant kept =
      let within = slice_get_within is.kept index constant kept in
      let more = is.temporaries in
      let now : old.temporaries + index < new.temporaries = omega (arith, within, more) in
      grind (arith, nat_tests, now)

  operand_after : (a b : Operand) → Operands a b → IsTrue (is_operand old a) → IsTrue (is_operand new b)
  operand_after a b (inl e) there = ap (is_operand new) e ∙ operand_more a there
  operand_after a b (inr k) there = ap (is_operand new) k.is ∙ kept_below k.index k.constant k.is_kept

  argument_more : (a : Argument) → IsTrue (is_argument old a) → IsTrue (is_argument new a)
  argument_more a there = operand_more a.value there

  arguments_more : (arguments : _) → IsTrue (list_all (is_argument old) arguments) → IsTrue (list_all (is_argument new) arguments)
  arguments_more = list_all_more (is_argument old) (is_argument new) argument_more

  -- both are operands
  two_after : (a b c d : Operand) → Operands a c → Operands b d → IsTrue (is_operand old a && is_operand old b) → IsTrue (is_operand new c && is_operand new d)
  two_after a b c d one two =
      both_more (is_operand old a) (is_operand old b) (is_operand new c) (is_operand new d) (operand_after a c one) (operand_after b d two)

  test_after : (a b : Comparison) → TestStandsFor old.temporaries is.kept a b → IsTrue (is_test old a) → IsTrue (is_test new b)
  test_after _ _ (Compares test left right one two) = two_after test.left test.right left right one two

  value_more : (r : Rvalue) → IsTrue (is_rvalue old r) → IsTrue (is_rvalue new r)
  value_more (rvalue.Copy o) there = operand_more o there
  value_more (rvalue.Register r) there = refl
  value_more (rvalue.Load width aligned address) there = both_more (is_alignment aligned) _ _ _ (λ is. is) (operand_more address) there
  value_more (rvalue.Unary operator width o) there = operand_more o there
  value_more (rvalue.Binary operator width left right) there = both_more _ _ _ _ (operand_more left) (operand_more right) there
  value_more (rvalue.Compare c) there = both_more _ _ _ _ (operand_more c.left) (operand_more c.right) there
  value_more (rvalue.SignExtend from to o) there = both_more (nat_le (bits from) (bits to)) _ _ _ (λ is. is) (operand_more o) there
  value_more (rvalue.LowBits from to o) there = both_more (nat_le (bits to) (bits from)) _ _ _ (λ is. is) (operand_more o) there

  value_after : (a b : Rvalue) → Values a b → IsTrue (is_rvalue old a) → IsTrue (is_rvalue new b)
  value_after _ _ (Copies a b stands) there = operand_after a b stands there
  value_after _ _ (Loads width aligned a b stands) there =
      both_more (is_alignment aligned) (is_operand old a) (is_alignment aligned) (is_operand new b) (λ is. is) (operand_after a b stands) there
  value_after _ _ (Computes operator width a b c d one two) there = two_after a b c d one two there
  value_after _ _ (Tests a b stands) there = test_after a b stands there
  value_after _ _ (SameRvalue r) there = value_more r there

  exits_same : are_exits new ≡ are_exits old
  exits_same = fun_ext (λ e.
      ap (λ b. b && list_all (is_continuation new) e.returns && list_all (is_continuation new) e.unwinds && list_all (is_continuation new) e.cuts) (normal_same e.normal)
      ∙ ap (λ f. is_normal old e.normal && list_all f e.returns && list_all f e.unwinds && list_all f e.cuts) continuation_same)
    where
      normal_same : (o : Option NodeId) → is_normal new o ≡ is_normal old o
      normal_same (Some n) = ap (λ f. f n) copy_same
      normal_same None = refl

  exits_more : (e : Exits) → IsTrue (are_exits old e) → IsTrue (are_exits new e)
  exits_more e there = ap (λ f. f e) exits_same ∙ there

  host_more : (call : HostCall) → IsTrue (is_host old call) → IsTrue (is_host new call)
  host_more (PutByte value) there = operand_more value there
  host_more (GetByte to) there = ap (λ f. f to) target_same ∙ there

  kind_more : (kind : NodeKind) → IsTrue (is_kind old kind) → IsTrue (is_kind new kind)
  kind_more (Entry formals next) there = both_more _ _ _ _ (λ all. ap (λ f. list_all f formals) variable_same ∙ all) (step_more next) there
  kind_more (CopyIn to next) there = both_more _ _ _ _ (λ all. ap (λ f. list_all f to) target_same ∙ all) (step_more next) there
  kind_more (Assign to value next) there = both_more _ _ _ _ (both_more _ _ _ _ (destination_more to) (value_more value)) (step_more next) there
  kind_more (Store width aligned address value next) there =
      both_more _ _ _ _ (both_more _ _ _ _ (both_more (is_alignment aligned) _ _ _ (λ is. is) (operand_more address)) (operand_more value))
      (step_more next) there
  kind_more (Branch test then_ otherwise) there =
      both_more _ _ _ _ (both_more _ _ _ _ (both_more _ _ _ _ (operand_more test.left) (operand_more test.right)) (step_more then_)) (step_more otherwise) there
  kind_more (Switch value arms otherwise) there =
      both_more _ _ _ _ (both_more _ _ _ _ (operand_more value) (list_all_more (is_arm old) (is_arm new) (λ arm. step_more arm.to) arms))
      (step_more otherwise) there
  kind_more (Call site callee arguments exits) there =
      both_more _ _ _ _ (both_more _ _ _ _ (operand_more callee) (arguments_more arguments)) (exits_more exits) there
  kind_more (Yield site values exits) there = both_more _ _ _ _ (list_all_more (is_operand old) (is_operand new) operand_more values) (exits_more exits) there
  kind_more (Jump callee arguments) there = both_more _ _ _ _ (operand_more callee) (arguments_more arguments) there
  kind_more (Cut to arguments own) there =
      both_more _ _ _ _ (both_more _ _ _ _ (operand_more to) (arguments_more arguments)) (λ all. ap (λ f. list_all f own) continuation_same ∙ all) there
  kind_more (Return exit alternates results) there = both_more (nat_le exit alternates) _ _ _ (λ is. is) (arguments_more results) there
  kind_more (Host call next) there = both_more _ _ _ _ (host_more call) (step_more next) there
  kind_more (Goto next) there = step_more next there
  kind_more Stop there = refl

  pub kind_after : (a b : NodeKind) → KindStandsFor old.temporaries is.kept a b → IsTrue (is_kind old a) → IsTrue (is_kind new b)
  kind_after _ _ (Assigns to a b next stands) there =
      both_more _ _ _ _ (both_more _ _ _ _ (destination_more to) (value_after a b stands)) (step_more next) there
  kind_after _ _ (Stores width aligned a b c d next one two) there =
      both_more _ _ _ _ (both_more _ _ _ _ (both_more (is_alignment aligned) _ _ _ (λ is. is) (operand_after a c one)) (operand_after b d two))
      (step_more next) there
  kind_after _ _ (Branches a b then_ otherwise stands) there =
      both_more _ _ _ _ (both_more _ _ _ _ (test_after a b stands) (step_more then_)) (step_more otherwise) there
  kind_after _ _ (SameKind kind) there = kind_more kind there
