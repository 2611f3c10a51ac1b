-- A graph whose nodes belong to a procedure and lead on is in range, where each node that waits has the exits of its site.
use Rattle.std.proofs.Common.{◌≡◌, ℕ, ◌^◌, ◌&&◌, nat_le, nat_lt, IsTrue, true, Option, Some, None, flat_map, List, [], ◌∷◌, length, refl, sym, subst}
use Rattle.std.proofs.lemmas.Bool.{and_parts}
use Rattle.std.specs.List.{list_all}
use Rattle.std.specs.Option.{is_some}
use Rattle.cmm_words.specs.declared.constant.Constant.{Constant}
use Rattle.cmm_words.specs.declared.constant.Constant.TheVariants.{Number, Code, Address}
use Rattle.cmm_words.specs.Widths.{bits}
use Rattle.cmm_program.proofs.Shared.{list_all_get}
use Rattle.cmm_program.specs.declared.procedure.Proc.{Proc}
use Rattle.cmm_program.specs.declared.procedure.Target.{Target}
use Rattle.cmm_program.specs.declared.procedure.Target.TheVariants as target
use Rattle.cmm_program.specs.declared.program.Program.{Program}
use Rattle.cmm_program.specs.InRange.{below, is_site}
use Rattle.cmm_program.specs.Typing.{constant_width, is_alignment, is_target as has_target}
use Rattle.cmm_graph.specs.declared.graph.Graph.{Graph}
use Rattle.cmm_graph.specs.declared.node.Arm.{Arm}
use Rattle.cmm_graph.specs.declared.node.Exits.{Exits}
use Rattle.cmm_graph.specs.declared.node.HostCall.TheVariants.{PutByte, GetByte}
use Rattle.cmm_graph.specs.declared.node.Node.{Node}
use Rattle.cmm_graph.specs.declared.node.NodeKind.{NodeKind}
use Rattle.cmm_graph.specs.declared.node.NodeKind.TheVariants.{Entry, CopyIn, Assign, Store, Branch, Switch, Call, Yield, Jump, Cut, Return, Host, Goto, Stop}
use Rattle.cmm_graph.specs.declared.number.ContinuationId.{ContinuationId}
use Rattle.cmm_graph.specs.declared.number.NodeId.{NodeId}
use Rattle.cmm_graph.specs.declared.number.SiteId.{SiteId}
use Rattle.cmm_graph.specs.declared.number.Variable.{Variable}
use Rattle.cmm_graph.specs.declared.operand.Argument.{Argument}
use Rattle.cmm_graph.specs.declared.operand.Destination.{Destination}
use Rattle.cmm_graph.specs.declared.operand.Destination.TheVariants as destination
use Rattle.cmm_graph.specs.declared.operand.Local.TheVariants as local
use Rattle.cmm_graph.specs.declared.operand.Operand.{Operand}
use Rattle.cmm_graph.specs.declared.operand.Operand.TheVariants as operand
use Rattle.cmm_graph.specs.declared.operand.Rvalue.{Rvalue}
use Rattle.cmm_graph.specs.declared.operand.Rvalue.TheVariants as rvalue
use Rattle.cmm_graph.specs.Counterpart.{AreExitsOf, HasSite, names_operand, names_rvalue, names_there, numbers_of, reads_registers, targets, targets_of_destination}
use Rattle.cmm_graph.specs.Paths.{arm_nodes, if_there, operands, operands_of_rvalue, read_by, reads, values_of, writes, written_by_variable, written_to, written_to_destination}
use Rattle.cmm_graph.specs.Ranges.{are_exits, is_argument, is_arm, is_constant, is_continuation, is_copy_in, is_destination, is_kind, is_node, is_normal, is_operand, is_rvalue, is_step, is_target, is_variable, leads_to}
use Rattle.cmm_flow.specs.inside.Laying.{leads_on, normal_of, passes, steps_of}
use Rattle.cmm_flow.specs.inside.Nodes.{unled, unled_kind}
use Rattle.cmm_flow.specs.inside.Temporaries.{is_below, names_below}
use Rattle.cmm_flow.proofs.Belongs.{belongs, destination_belongs, has_there, holds_there, operand_belongs, rest_belongs, right_belongs}
use Rattle.cmm_flow.proofs.Covering.{list_all_more, test_less}
use Rattle.cmm_flow.proofs.Laying.{and_both, both_pass, each_pass}

-- where a node leads is nothing that it reads
reads_unled : (kind : NodeKind) → operands (unled_kind kind) ≡ operands kind
reads_unled (Entry formals next) = refl
reads_unled (CopyIn to next) = refl
reads_unled (Assign to value next) = refl
reads_unled (Store width aligned address value next) = refl
reads_unled (Branch test then_ otherwise) = refl
reads_unled (Switch value arms otherwise) = refl
reads_unled (Call site callee arguments exits) = refl
reads_unled (Yield site values exits) = refl
reads_unled (Jump callee arguments) = refl
reads_unled (Cut to arguments own) = refl
reads_unled (Return exit alternates results) = refl
reads_unled (Host call next) = refl
reads_unled (Goto next) = refl
reads_unled Stop = refl

module _ (p : Program) (q : Proc) (limit : ℕ) where
  -- ---- below a limit

  read_below : (o : Operand) → IsTrue (operand_belongs p q limit o) → IsTrue (list_all (is_below limit) (read_by o))
  read_below (operand.Constant c) is = refl
  read_below (operand.Local (local.Variable v)) is = refl
  read_below (operand.Local (local.Temporary t)) is = and_both (nat_lt t.number limit) true is refl
  read_below (operand.Stackdata label) is = refl
  read_below (operand.Continuation k) is = refl

  reads_below : (os : List Operand) → IsTrue (list_all (operand_belongs p q limit) os) → IsTrue (list_all (is_below limit) (flat_map read_by os))
  reads_below [] are = refl
  reads_below (o ∷ os) are =
      let both = and_parts (operand_belongs p q limit o) (list_all (operand_belongs p q limit) os) are in
      both_pass (is_below limit) (read_by o) (flat_map read_by os) (read_below o both.0) (reads_below os both.1)

  variables_below : (vs : List Variable) → IsTrue (list_all (is_below limit) (flat_map written_by_variable vs))
  variables_below [] = refl
  variables_below (v ∷ vs) = variables_below vs

  target_below : (t : Target) → IsTrue (list_all (is_below limit) (written_to t))
  target_below (target.Variable n width) = refl
  target_below (target.Register n width) = refl

  targets_below : (ts : List Target) → IsTrue (list_all (is_below limit) (flat_map written_to ts))
  targets_below [] = refl
  targets_below (t ∷ ts) = both_pass (is_below limit) (written_to t) (flat_map written_to ts) (target_below t) (targets_below ts)

  writes_below : (kind : NodeKind) → IsTrue (rest_belongs p q limit (unled_kind kind)) → IsTrue (list_all (is_below limit) (writes kind))
  writes_below (Entry formals next) is = variables_below formals
  writes_below (CopyIn to next) is = targets_below to
  writes_below (Assign (destination.Target t) value next) is = target_below t
  writes_below (Assign (destination.Temporary t) value next) is = and_both (nat_lt t.number limit) true (and_parts (nat_lt t.number limit) (right_belongs p q limit value) is).0 refl
  writes_below (Store width aligned address value next) is = refl
  writes_below (Branch test then_ otherwise) is = refl
  writes_below (Switch value arms otherwise) is = refl
  writes_below (Call site callee arguments exits) is = refl
  writes_below (Yield site values exits) is = refl
  writes_below (Jump callee arguments) is = refl
  writes_below (Cut to arguments own) is = refl
  writes_below (Return exit alternates results) is = refl
  writes_below (Host (PutByte value) next) is = refl
  writes_below (Host (GetByte to) next) is = target_below to
  writes_below (Goto next) is = refl
  writes_below Stop is = refl

  -- the parts of a node that belongs
  record Parts (node : Node) : Type 0 where
    tokens : IsTrue (nat_lt 0 node.tokens)
    first : IsTrue (list_all (operand_belongs p q limit) (operands node.kind))
    rest : IsTrue (rest_belongs p q limit (unled_kind node.kind))

  parts_of : (node : Node) → IsTrue (belongs p q limit (unled node)) → Parts node
  parts_of node is =
      let all = and_parts (nat_lt 0 node.tokens) (list_all (operand_belongs p q limit) (operands (unled_kind node.kind)) && rest_belongs p q limit (unled_kind node.kind)) is in
      let both = and_parts (list_all (operand_belongs p q limit) (operands (unled_kind node.kind))) (rest_belongs p q limit (unled_kind node.kind)) all.1 in
      record { tokens = all.0; first = subst (λ os. IsTrue (list_all (operand_belongs p q limit) os)) (reads_unled node.kind) both.0; rest = both.1 }

  pub node_below : (node : Node) → IsTrue (belongs p q limit (unled node)) → IsTrue (names_below limit node)
  node_below node is =
      let parts = parts_of node is in
      and_both (list_all (is_below limit) (reads node.kind)) (list_all (is_below limit) (writes node.kind)) (reads_below (operands node.kind) parts.first)
      (writes_below node.kind parts.rest)

  -- ---- names

  operand_named : (o : Operand) → IsTrue (operand_belongs p q limit o) → IsTrue (names_operand p q o)
  operand_named (operand.Constant c) is = is
  operand_named (operand.Local l) is = refl
  operand_named (operand.Stackdata label) is = is
  operand_named (operand.Continuation k) is = refl

  right_named : (value : Rvalue) → IsTrue (right_belongs p q limit value) → IsTrue (names_rvalue p value)
  right_named (rvalue.Register r) is = is
  right_named (rvalue.Copy o) is = refl
  right_named (rvalue.Load width aligned address) is = refl
  right_named (rvalue.Unary operator width o) is = refl
  right_named (rvalue.Binary operator width left right) is = refl
  right_named (rvalue.Compare c) is = refl
  right_named (rvalue.SignExtend from to o) is = refl
  right_named (rvalue.LowBits from to o) is = refl

  destination_named : (to : Destination) → IsTrue (destination_belongs p q limit to) → IsTrue (list_all (has_target p q) (targets_of_destination to))
  destination_named (destination.Target t) is = and_both (has_target p q t) true is refl
  destination_named (destination.Temporary t) is = refl

  targets_named : (kind : NodeKind) → IsTrue (rest_belongs p q limit (unled_kind kind)) → IsTrue (list_all (has_target p q) (targets kind)) × IsTrue (reads_registers p kind)
  targets_named (CopyIn to next) is = (is, refl)
  targets_named (Assign to value next) is =
      let both = and_parts (destination_belongs p q limit to) (right_belongs p q limit value) is in (destination_named to both.0, right_named value both.1)
  targets_named (Host (GetByte to) next) is = (and_both (has_target p q to) true is refl, refl)
  targets_named (Host (PutByte value) next) is = (refl, refl)
  targets_named (Entry formals next) is = (refl, refl)
  targets_named (Store width aligned address value next) is = (refl, refl)
  targets_named (Branch test then_ otherwise) is = (refl, refl)
  targets_named (Switch value arms otherwise) is = (refl, refl)
  targets_named (Call site callee arguments exits) is = (refl, refl)
  targets_named (Yield site values exits) is = (refl, refl)
  targets_named (Jump callee arguments) is = (refl, refl)
  targets_named (Cut to arguments own) is = (refl, refl)
  targets_named (Return exit alternates results) is = (refl, refl)
  targets_named (Goto next) is = (refl, refl)
  targets_named Stop is = (refl, refl)

  pub node_named : (node : Node) → IsTrue (belongs p q limit (unled node)) → IsTrue (names_there p q node.kind)
  node_named node is =
      let parts = parts_of node is in
      let named = targets_named node.kind parts.rest in
      and_both (list_all (names_operand p q) (operands node.kind) && list_all (has_target p q) (targets node.kind)) (reads_registers p node.kind)
      (and_both (list_all (names_operand p q) (operands node.kind)) (list_all (has_target p q) (targets node.kind))
      (list_all_more (operand_belongs p q limit) (names_operand p q) operand_named (operands node.kind) parts.first) named.0) named.1

  -- ---- in range

  module _ (g : Graph) (variables : g.variables ≡ length q.vars) (continuations : length g.continuations ≡ length q.conts)
      (sites : IsTrue (list_all (is_site p q) q.sites)) where
    constant_ranged : (c : Constant) → IsTrue (is_some (constant_width p c)) → IsTrue (is_constant c)
    constant_ranged (Number n width) is = holds_there (nat_lt n (2 ^ bits width)) width is
    constant_ranged (Code proc plus) is = refl
    constant_ranged (Address label plus) is = refl

    of_continuations : (k : ℕ) → IsTrue (nat_lt k (length q.conts)) → IsTrue (nat_lt k (length g.continuations))
    of_continuations k is = subst (λ n. IsTrue (nat_lt k n)) (sym continuations) is

    of_variables : (v : ℕ) → IsTrue (nat_lt v (length q.vars)) → IsTrue (nat_lt v g.variables)
    of_variables v is = subst (λ n. IsTrue (nat_lt v n)) (sym variables) is

    operand_ranged : (o : Operand) → IsTrue (operand_belongs p q limit o) → IsTrue (list_all (is_below g.temporaries) (read_by o)) → IsTrue (is_operand g o)
    operand_ranged (operand.Constant c) is under = constant_ranged c is
    operand_ranged (operand.Local (local.Variable v)) is under = of_variables v.number is
    operand_ranged (operand.Local (local.Temporary t)) is under = (and_parts (nat_lt t.number g.temporaries) true under).0
    operand_ranged (operand.Stackdata label) is under = refl
    operand_ranged (operand.Continuation k) is under = of_continuations k.number is

    abbrev Ranged : List Operand → Type 0
    Ranged os = IsTrue (list_all (is_operand g) os)

    operands_ranged : (os : List Operand) → IsTrue (list_all (operand_belongs p q limit) os) → IsTrue (list_all (is_below g.temporaries) (flat_map read_by os)) → Ranged os
    operands_ranged [] are under = refl
    operands_ranged (o ∷ os) are under =
        let both = and_parts (operand_belongs p q limit o) (list_all (operand_belongs p q limit) os) are in
        let apart = each_pass (is_below g.temporaries) (read_by o) (flat_map read_by os) under in
        and_both (is_operand g o) (list_all (is_operand g) os) (operand_ranged o both.0 apart.0) (operands_ranged os both.1 apart.1)

    one : (o : Operand) → Ranged (o ∷ []) → IsTrue (is_operand g o)
    one o are = (and_parts (is_operand g o) true are).0

    two : (o u : Operand) → Ranged (o ∷ u ∷ []) → IsTrue (is_operand g o && is_operand g u)
    two o u are = let both = and_parts (is_operand g o) (list_all (is_operand g) (u ∷ [])) are in and_both (is_operand g o) (is_operand g u) both.0 (one u both.1)

    arguments_ranged : (as_ : List Argument) → Ranged (values_of as_) → IsTrue (list_all (is_argument g) as_)
    arguments_ranged [] are = refl
    arguments_ranged (a ∷ as_) are =
        let both = and_parts (is_operand g a.value) (list_all (is_operand g) (values_of as_)) are in
        and_both (is_argument g a) (list_all (is_argument g) as_) both.0 (arguments_ranged as_ both.1)

    right_ranged : (value : Rvalue) → Ranged (operands_of_rvalue value) → IsTrue (right_belongs p q limit value) → IsTrue (is_rvalue g value)
    right_ranged (rvalue.Copy o) are is = one o are
    right_ranged (rvalue.Register r) are is = refl
    right_ranged (rvalue.Load width aligned address) are is = and_both (is_alignment aligned) (is_operand g address) is (one address are)
    right_ranged (rvalue.Unary operator width o) are is = one o are
    right_ranged (rvalue.Binary operator width left right) are is = two left right are
    right_ranged (rvalue.Compare c) are is = two c.left c.right are
    right_ranged (rvalue.SignExtend from to o) are is = and_both (nat_le (bits from) (bits to)) (is_operand g o) is (one o are)
    right_ranged (rvalue.LowBits from to o) are is = and_both (nat_le (bits to) (bits from)) (is_operand g o) is (one o are)

    target_ranged : (t : Target) → IsTrue (has_target p q t) → IsTrue (is_target g t)
    target_ranged (target.Variable n width) is = of_variables n (test_less n (length q.vars) (has_there p q limit n width is))
    target_ranged (target.Register n width) is = refl

    destination_ranged : (to : Destination) → IsTrue (destination_belongs p q limit to) → IsTrue (list_all (is_below g.temporaries) (written_to_destination to)) →
        IsTrue (is_destination g to)
    destination_ranged (destination.Target t) is under = target_ranged t is
    destination_ranged (destination.Temporary t) is under = (and_parts (nat_lt t.number g.temporaries) true under).0

    arms_ranged : (arms : List Arm) → IsTrue (list_all (leads_to g is_step) (arm_nodes arms)) → IsTrue (list_all (is_arm g) arms)
    arms_ranged [] are = refl
    arms_ranged (arm ∷ arms) are =
        let both = and_parts (leads_to g is_step arm.to) (list_all (leads_to g is_step) (arm_nodes arms)) are in
        and_both (is_arm g arm) (list_all (is_arm g) arms) both.0 (arms_ranged arms both.1)

    -- ---- exits

    ends_ranged : (ks : List ContinuationId) (ns : List ℕ) → numbers_of ks ≡ ns → IsTrue (list_all (below (length q.conts)) ns) → IsTrue (list_all (is_continuation g) ks)
    ends_ranged ks ns same are = by ks (subst (λ ns. IsTrue (list_all (below (length q.conts)) ns)) (sym same) are)
      where
        by : (ks : List ContinuationId) → IsTrue (list_all (below (length q.conts)) (numbers_of ks)) → IsTrue (list_all (is_continuation g) ks)
        by [] are = refl
        by (k ∷ ks) are =
            let both = and_parts (below (length q.conts) k.number) (list_all (below (length q.conts)) (numbers_of ks)) are in
            and_both (is_continuation g k) (list_all (is_continuation g) ks) (of_continuations k.number both.0) (by ks both.1)

    normal_ranged : (normal : Option NodeId) → IsTrue (list_all (leads_to g is_copy_in) (if_there normal)) → IsTrue (is_normal g normal)
    normal_ranged None are = refl
    normal_ranged (Some n) are = (and_parts (leads_to g is_copy_in n) true are).0

    exits_ranged : (n : SiteId) (exits : Exits) → AreExitsOf q g n exits → IsTrue (list_all (leads_to g is_copy_in) (if_there exits.normal)) → IsTrue (are_exits g exits)
    exits_ranged n exits are normal =
        let s = are.site in
        let whole = list_all_get (is_site p q) q.sites n.number s sites are.is_site in
        let to_cuts = (and_parts _ _ whole).0 in
        let to_unwinds = (and_parts _ _ to_cuts).0 in
        let to_returns = (and_parts _ _ to_unwinds).0 in
        let returns = ends_ranged exits.returns s.returns are.returns (and_parts _ _ to_returns).1 in
        let unwinds = ends_ranged exits.unwinds s.unwinds are.unwinds (and_parts _ _ to_unwinds).1 in
        let cuts = ends_ranged exits.cuts s.cuts are.cuts (and_parts _ _ to_cuts).1 in
        and_both (is_normal g exits.normal && list_all (is_continuation g) exits.returns && list_all (is_continuation g) exits.unwinds) (list_all (is_continuation g) exits.cuts)
        (and_both (is_normal g exits.normal && list_all (is_continuation g) exits.returns) (list_all (is_continuation g) exits.unwinds)
        (and_both (is_normal g exits.normal) (list_all (is_continuation g) exits.returns) (normal_ranged exits.normal normal) returns) unwinds) cuts

    -- ---- nodes

    step : (n : NodeId) → IsTrue (list_all (leads_to g is_step) (n ∷ [])) → IsTrue (leads_to g is_step n)
    step n are = (and_parts (leads_to g is_step n) true are).0

    kind_ranged : (kind : NodeKind) → Ranged (operands kind) → IsTrue (rest_belongs p q limit (unled_kind kind)) → IsTrue (list_all (is_below g.temporaries) (writes kind)) →
        IsTrue (list_all (leads_to g is_step) (steps_of kind)) → IsTrue (list_all (leads_to g is_copy_in) (normal_of kind)) → HasSite q g kind → IsTrue (is_kind g kind)
    kind_ranged (Entry formals next) are rest under steps normal site =
        and_both (list_all (is_variable g) formals) (leads_to g is_step next)
        (list_all_more (λ (v : Variable). nat_lt v.number (length q.vars)) (is_variable g) (λ v. of_variables v.number) formals rest) (step next steps)
    kind_ranged (CopyIn to next) are rest under steps normal site =
        and_both (list_all (is_target g) to) (leads_to g is_step next) (list_all_more (has_target p q) (is_target g) target_ranged to rest) (step next steps)
    kind_ranged (Assign to value next) are rest under steps normal site =
        let both = and_parts (destination_belongs p q limit to) (right_belongs p q limit value) rest in
        and_both (is_destination g to && is_rvalue g value) (leads_to g is_step next)
        (and_both (is_destination g to) (is_rvalue g value) (destination_ranged to both.0 under) (right_ranged value are both.1)) (step next steps)
    kind_ranged (Store width aligned address value next) are rest under steps normal site =
        let both = and_parts (is_operand g address) (list_all (is_operand g) (value ∷ [])) are in
        and_both (is_alignment aligned && is_operand g address && is_operand g value) (leads_to g is_step next)
        (and_both (is_alignment aligned && is_operand g address) (is_operand g value) (and_both (is_alignment aligned) (is_operand g address) rest both.0) (one value both.1))
        (step next steps)
    kind_ranged (Branch test then_ otherwise) are rest under steps normal site =
        let both = and_parts (leads_to g is_step then_) (list_all (leads_to g is_step) (otherwise ∷ [])) steps in
        and_both (is_operand g test.left && is_operand g test.right && leads_to g is_step then_) (leads_to g is_step otherwise)
        (and_both (is_operand g test.left && is_operand g test.right) (leads_to g is_step then_) (two test.left test.right are) both.0) (step otherwise both.1)
    kind_ranged (Switch value arms otherwise) are rest under steps normal site =
        let both = each_pass (leads_to g is_step) (arm_nodes arms) (otherwise ∷ []) steps in
        and_both (is_operand g value && list_all (is_arm g) arms) (leads_to g is_step otherwise)
        (and_both (is_operand g value) (list_all (is_arm g) arms) (one value are) (arms_ranged arms both.0)) (step otherwise both.1)
    kind_ranged (Call n callee arguments exits) are rest under steps normal site =
        let both = and_parts (is_operand g callee) (list_all (is_operand g) (values_of arguments)) are in
        and_both (is_operand g callee && list_all (is_argument g) arguments) (are_exits g exits)
        (and_both (is_operand g callee) (list_all (is_argument g) arguments) both.0 (arguments_ranged arguments both.1)) (exits_ranged n exits site normal)
    kind_ranged (Yield n values exits) are rest under steps normal site =
        and_both (list_all (is_operand g) values) (are_exits g exits) are (exits_ranged n exits site normal)
    kind_ranged (Jump callee arguments) are rest under steps normal site =
        let both = and_parts (is_operand g callee) (list_all (is_operand g) (values_of arguments)) are in
        and_both (is_operand g callee) (list_all (is_argument g) arguments) both.0 (arguments_ranged arguments both.1)
    kind_ranged (Cut to arguments own) are rest under steps normal site =
        let both = and_parts (is_operand g to) (list_all (is_operand g) (values_of arguments)) are in
        and_both (is_operand g to && list_all (is_argument g) arguments) (list_all (is_continuation g) own)
        (and_both (is_operand g to) (list_all (is_argument g) arguments) both.0 (arguments_ranged arguments both.1))
        (list_all_more (λ (k : ContinuationId). nat_lt k.number (length q.conts)) (is_continuation g) (λ k. of_continuations k.number) own rest)
    kind_ranged (Return exit alternates results) are rest under steps normal site =
        and_both (nat_le exit alternates) (list_all (is_argument g) results) rest (arguments_ranged results are)
    kind_ranged (Host (PutByte value) next) are rest under steps normal site =
        and_both (is_operand g value) (leads_to g is_step next) (one value are) (step next steps)
    kind_ranged (Host (GetByte to) next) are rest under steps normal site = and_both (is_target g to) (leads_to g is_step next) (target_ranged to rest) (step next steps)
    kind_ranged (Goto next) are rest under steps normal site = step next steps
    kind_ranged Stop are rest under steps normal site = refl

    pub node_ranged : (node : Node) → IsTrue (passes record { test = belongs p q limit; graph = g } node) → IsTrue (names_below g.temporaries node) → HasSite q g node.kind →
        IsTrue (is_node g node)
    node_ranged node is under site =
        let both = and_parts (belongs p q limit (unled node)) (leads_on g node.kind) is in
        let parts = parts_of node both.0 in
        let locals = and_parts (list_all (is_below g.temporaries) (reads node.kind)) (list_all (is_below g.temporaries) (writes node.kind)) under in
        let leads = and_parts (list_all (leads_to g is_step) (steps_of node.kind)) (list_all (leads_to g is_copy_in) (normal_of node.kind)) both.1 in
        and_both (nat_lt 0 node.tokens) (is_kind g node.kind) parts.tokens
        (kind_ranged node.kind (operands_ranged (operands node.kind) parts.first locals.0) parts.rest locals.1 leads.0 leads.1 site)
