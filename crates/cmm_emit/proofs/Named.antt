-- What nodes name is there.
use Rattle.std.proofs.Common.{◌≡◌, ℕ, zero, suc, ◌+◌, ◌<◌, ◌≤◌, ◌^◌, refl, sym, ap, subst, arith, Bool, true, false, List, [], ◌∷◌, length, get_or, Option, Some, None, slice_get}
use Rattle.std.specs.Prelude.{◌&&◌, nat_le, nat_lt, is_some}
use Rattle.std.specs.List.{list_all}
use Rattle.std.proofs.lemmas.List.{length-map}
use Rattle.std.proofs.lemmas.Option.{slice_get_within}
use Rattle.std.proofs.lemmas.Bool.{and_parts, and_from}
use Rattle.std.proofs.lemmas.Bool.Decides.{nat_tests}
use Rattle.cmm_words.specs.Widths.{bits}
use Rattle.cmm_words.specs.declared.constant.Constant.{Constant}
use Rattle.cmm_words.specs.declared.constant.Constant.TheVariants as constant
use Rattle.cmm_words.specs.declared.width.Width.{Width}
use Rattle.cmm_words.specs.declared.width.Width.TheVariants.{W8, W16, W32, W64}
use Rattle.cmm_chain.specs.Plans.{is_place}
use Rattle.cmm_chain.specs.declared.frame.Frame.{Frame}
use Rattle.cmm_chain.specs.declared.frame.Location.{Location}
use Rattle.cmm_chain.specs.declared.frame.Location.TheVariants.{Slot}
use Rattle.cmm_program.specs.declared.procedure.Proc.{Proc}
use Rattle.cmm_program.specs.declared.procedure.Site.{Site}
use Rattle.cmm_program.specs.declared.procedure.Target.{Target}
use Rattle.cmm_program.specs.declared.procedure.Target.TheVariants as target
use Rattle.cmm_program.specs.declared.program.Program.{Program}
use Rattle.cmm_program.specs.Layout.{stackdata_labels}
use Rattle.cmm_program.specs.Typing.{constant_width, if_holds, is_alignment}
use Rattle.cmm_graph.specs.declared.graph.Graph.{Graph}
use Rattle.cmm_graph.specs.declared.node.Arm.{Arm}
use Rattle.cmm_graph.specs.declared.node.Exits.{Exits}
use Rattle.cmm_graph.specs.declared.node.HostCall.TheVariants as host
use Rattle.cmm_graph.specs.declared.node.Node.{Node}
use Rattle.cmm_graph.specs.declared.node.NodeKind.{NodeKind}
use Rattle.cmm_graph.specs.declared.node.NodeKind.TheVariants.{Entry, CopyIn, Assign, Store, Branch, Switch, Call, Yield, Jump, Cut, Return, Host, Goto, Stop}
use Rattle.cmm_graph.specs.declared.number.NodeId.{NodeId}
use Rattle.cmm_graph.specs.declared.number.SiteId.{SiteId}
use Rattle.cmm_graph.specs.declared.number.Variable.{Variable}
use Rattle.cmm_graph.specs.declared.operand.Argument.{Argument}
use Rattle.cmm_graph.specs.declared.operand.Destination.{Destination}
use Rattle.cmm_graph.specs.declared.operand.Destination.TheVariants as destination
use Rattle.cmm_graph.specs.declared.operand.Local.{Local}
use Rattle.cmm_graph.specs.declared.operand.Local.TheVariants as local
use Rattle.cmm_graph.specs.declared.operand.Operand.{Operand}
use Rattle.cmm_graph.specs.declared.operand.Operand.TheVariants as operand
use Rattle.cmm_graph.specs.declared.operand.Rvalue.{Rvalue}
use Rattle.cmm_graph.specs.declared.operand.Rvalue.TheVariants as rvalue
use Rattle.cmm_graph.specs.Counterpart.{HasSite, names_operand, names_rvalue, reads_registers, targets, targets_of_destination}
use Rattle.cmm_graph.specs.Paths.{node_of, operands, operands_of_rvalue, values_of}
use Rattle.cmm_graph.specs.Ranges.{are_exits, is_argument, is_arm, is_constant, is_continuation, is_copy_in, is_destination, is_kind, is_local, is_normal, is_operand, is_rvalue, is_step, is_target, is_test, is_variable, leads_to}
use Rattle.cmm_live.specs.Locals.{local_count, local_number as number_of_local}
use Rattle.cmm_calls.specs.Copying.{is_destination as is_code_destination}
use Rattle.cmm_calls.specs.Values.{is_operand as is_code_operand}
use Rattle.cmm_emit_laws.specs.ProgramCode.{names_register}
use Rattle.cmm_unit_code.specs.declared.unit_code.Reference.{Reference}
use Rattle.cmm_unit_code.specs.declared.unit_code.Reference.TheVariants as reference
use Rattle.cmm_emit.proofs.MentionedNodes.{is_mentioned, reads_mentioned, takes_mentioned, value_mentioned}
use Rattle.cmm_emit.proofs.Outlined.{IsIn, has_label}
use Rattle.cmm_emit.specs.Mentions.{graph_names}
use Rattle.cmm_emit.specs.declared.context.Context.{Context}
use Rattle.cmm_emit.specs.declared.context.Targets.{Targets}
use Rattle.cmm_emit.specs.Naming.{argument_operand, argument_operands, can_begin, can_come_back, can_copy, can_give, can_go_to, can_land, can_send, can_take, code_operand, code_operands, constant_operand, has_argument, has_arm, has_both, has_constant, has_destination, has_kind, has_landing, has_local, has_node, has_operand, has_rvalue, has_site, has_target, local_number, place, target_destination, target_destinations, variable_places}
use Rattle.cmm_flow.specs.Few.{passes_few}

-- ---- tests

-- what one test says of all, another says
pub all_so : {A : Type 0} (first second : A → Bool) (xs : List A) → ((x : A) → first x ≡ true → second x ≡ true) → list_all first xs ≡ true → list_all second xs ≡ true
all_so first second [] so all = refl
all_so first second (x ∷ xs) so all =
    let both = and_parts (first x) (list_all first xs) all in
    and_from (second x) (list_all second xs) (so x both.0) (all_so first second xs so both.1)

-- two tests, another
pub all_both : {A : Type 0} (first other second : A → Bool) (xs : List A) → ((x : A) → first x ≡ true → other x ≡ true → second x ≡ true) →
    list_all first xs ≡ true → list_all other xs ≡ true → list_all second xs ≡ true
all_both first other second [] so all also = refl
all_both first other second (x ∷ xs) so all also =
    let both = and_parts (first x) (list_all first xs) all in
    let more = and_parts (other x) (list_all other xs) also in
    and_from (second x) (list_all second xs) (so x both.0 more.0) (all_both first other second xs so both.1 more.1)

less_in : (n a b : ℕ) → a ≡ b → nat_lt n a ≡ true → nat_lt n b ≡ true
less_in n a b same less = subst (λ (z : ℕ). nat_lt n z ≡ true) same less

-- ---- what a context has

pub record Has (p : Program) (q : Proc) (g : Graph) (c : Context) (y : Targets) : Type 0 where
  pub variables : c.variables ≡ g.variables
  pub places : length c.places ≡ local_count g
  pub fine : list_all (is_place c.frame) c.places ≡ true
  pub zeroed : list_all (is_place c.frame) c.zeroed ≡ true
  pub nodes : length g.nodes ≡ length c.nodes
  pub sites : length q.sites ≡ length c.sites
  pub landings : length g.continuations ≡ length c.landings
  pub pairs : length g.continuations ≡ length c.frame.pairs
  pub stack : length (stackdata_labels q.stack) ≡ length c.frame.stack
  pub offset_stack : (n : ℕ) → nat_le (get_or c.frame.stack n 0) c.frame.size ≡ true
  pub offset_pairs : (n : ℕ) → nat_le (get_or c.frame.pairs n 0) c.frame.size ≡ true
  pub named : (r : Reference) → IsIn p r → graph_names r g ≡ true → has_label y r ≡ true

-- ---- places of a frame

pub all_at : (f : Frame) (ls : List Location) (v : ℕ) (d : Location) → list_all (is_place f) ls ≡ true → nat_lt v (length ls) ≡ true → is_place f (get_or ls v d) ≡ true
all_at f [] v d all less = absurd (grind (arith, nat_tests, less))
all_at f (l ∷ ls) zero d all less = (and_parts (is_place f l) (list_all (is_place f) ls) all).0
all_at f (l ∷ ls) (suc v) d all less =
    let within : v < length ls = grind (arith, nat_tests, less) in
    all_at f ls v d (and_parts (is_place f l) (list_all (is_place f) ls) all).1 (grind (arith, nat_tests, within))

bits_few : (n : ℕ) (w : Width) → nat_lt n (2 ^ bits w) ≡ true → nat_lt n (2 ^ 64) ≡ true
bits_few n W8 less = let few : n < 2 ^ 8 = grind (arith, nat_tests, less) in grind (arith, nat_tests, few)
bits_few n W16 less = let few : n < 2 ^ 16 = grind (arith, nat_tests, less) in grind (arith, nat_tests, few)
bits_few n W32 less = let few : n < 2 ^ 32 = grind (arith, nat_tests, less) in grind (arith, nat_tests, few)
bits_few n W64 less = less

is_there : (b : Bool) (w : Width) → is_some (if_holds b w) ≡ true → b ≡ true
is_there true w is = refl
is_there false w is = absurd (cc)

-- ---- nodes of a graph, in a context

module _ (p : Program) (q : Proc) (g : Graph) (c : Context) (y : Targets) (has : Has p q g c y) where
  -- ---- places

  number_is : (l : Local) → local_number c l ≡ number_of_local g l
  number_is (local.Variable v) = refl
  number_is (local.Temporary t) = ap (λ (n : ℕ). n + t.number) has.variables

  counted : local_count g ≡ length c.places
  counted = sym has.places

  local_there : (l : Local) → is_local g l ≡ true → has_local c l ≡ true
  local_there (local.Variable v) is =
      let less : v.number < g.variables = grind (arith, nat_tests, is) in
      let within : v.number < length c.places = omega (arith, less, counted) in
      grind (arith, nat_tests, within)
  local_there (local.Temporary t) is =
      let less : t.number < g.temporaries = grind (arith, nat_tests, is) in
      let within : c.variables + t.number < length c.places = omega (arith, less, counted, has.variables) in
      grind (arith, nat_tests, within)

  place_fine : (l : Local) → is_local g l ≡ true → is_place c.frame (place c l) ≡ true
  place_fine l is = all_at c.frame c.places (local_number c l) (Slot 0) has.fine (local_there l is)

  -- ---- operands

  -- an operand is of the procedure, and the graph names it
  abbrev pub names : Operand → Bool
  names o = names_operand p q o && is_mentioned g o

  abbrev pub takes : Target → Bool
  takes t = names_register p t && takes_mentioned g t

  constant_there : (k : Constant) → is_constant k ≡ true → is_some (constant_width p k) ≡ true → is_mentioned g (operand.Constant k) ≡ true → has_constant y k ≡ true
  constant_there (constant.Number n width) is named mentioned = bits_few n width is
  constant_there (constant.Code proc plus) is named mentioned =
      let test = is_there (nat_lt proc (length p.procs)) W64 named in
      has.named (reference.Procedure proc) (grind (arith, nat_tests, test)) mentioned
  constant_there (constant.Address label plus) is named mentioned =
      let test = is_there (nat_lt label (length p.labels)) W64 named in
      has.named (reference.Label label) (grind (arith, nat_tests, test)) mentioned

  operand_there : (o : Operand) → is_operand g o ≡ true → names o ≡ true → has_operand c y o ≡ true
  operand_there (operand.Constant k) is named =
      let both = and_parts (names_operand p q (operand.Constant k)) (is_mentioned g (operand.Constant k)) named in
      constant_there k is both.0 both.1
  operand_there (operand.Local l) is named = local_there l is
  operand_there (operand.Stackdata label) is named =
      less_in label.number (length (stackdata_labels q.stack)) (length c.frame.stack) has.stack
      (and_parts (nat_lt label.number (length (stackdata_labels q.stack))) true named).0
  operand_there (operand.Continuation k) is named = less_in k.number (length g.continuations) (length c.frame.pairs) has.pairs is

  constant_fine : (k : Constant) → is_code_operand c.frame (constant_operand y k) ≡ true
  constant_fine (constant.Number n width) = refl
  constant_fine (constant.Code proc plus) = refl
  constant_fine (constant.Address label plus) = refl

  operand_fine : (o : Operand) → is_operand g o ≡ true → names o ≡ true → is_code_operand c.frame (code_operand c y o) ≡ true
  operand_fine (operand.Constant k) is named = constant_fine k
  operand_fine (operand.Local l) is named = place_fine l is
  operand_fine (operand.Stackdata label) is named = has.offset_stack label.number
  operand_fine (operand.Continuation k) is named = has.offset_pairs k.number

  -- ---- arguments

  arguments_there : (args : List Argument) → list_all (is_argument g) args ≡ true → list_all names (values_of args) ≡ true →
      (list_all (has_argument c y) args ≡ true) × (list_all (is_code_operand c.frame) (argument_operands c y args) ≡ true)
  arguments_there [] are named = (refl, refl)
  arguments_there (a ∷ args) are named =
      let first = and_parts (is_argument g a) (list_all (is_argument g) args) are in
      let second = and_parts (names a.value) (list_all names (values_of args)) named in
      let rest = arguments_there args first.1 second.1 in (
        and_from (has_argument c y a) (list_all (has_argument c y) args) (operand_there a.value first.0 second.0) rest.0,
        and_from (is_code_operand c.frame (argument_operand c y a)) (list_all (is_code_operand c.frame) (argument_operands c y args)) (operand_fine a.value first.0 second.0) rest.1,
      )

  can_pass : (args : List Argument) → list_all (is_argument g) args ≡ true → list_all names (values_of args) ≡ true → nat_le (length args) 64 ≡ true →
      (list_all (has_argument c y) args && can_give c y (argument_operands c y args)) ≡ true
  can_pass args are named few =
      let there = arguments_there args are named in
      let vs = argument_operands c y args in
      let count : nat_le (length vs) 64 ≡ true = subst (λ (n : ℕ). nat_le n 64 ≡ true) (sym (length-map args (argument_operand c y))) few in
      and_from (list_all (has_argument c y) args) (can_give c y vs) there.0
      (and_from (nat_le (length vs) 64) (list_all (is_code_operand c.frame) vs) count there.1)

  can_go : (to : Operand) (args : List Argument) → is_operand g to ≡ true → list_all (is_argument g) args ≡ true →
      list_all names (to ∷ values_of args) ≡ true → nat_le (length args) 64 ≡ true → can_go_to c y to args ≡ true
  can_go to args is are named few =
      let both = and_parts (names to) (list_all names (values_of args)) named in
      let pass = and_parts (list_all (has_argument c y) args) (can_give c y (argument_operands c y args)) (can_pass args are both.1 few) in
      and_from (has_operand c y to && is_code_operand c.frame (code_operand c y to) && list_all (has_argument c y) args) (can_give c y (argument_operands c y args))
      (and_from (has_operand c y to && is_code_operand c.frame (code_operand c y to)) (list_all (has_argument c y) args)
      (and_from (has_operand c y to) (is_code_operand c.frame (code_operand c y to)) (operand_there to is both.0) (operand_fine to is both.0)) pass.0) pass.1

  -- ---- values

  values_there : (vs : List Operand) → list_all (is_operand g) vs ≡ true → list_all names vs ≡ true →
      (list_all (has_operand c y) vs ≡ true) × (list_all (is_code_operand c.frame) (code_operands c y vs) ≡ true)
  values_there [] are named = (refl, refl)
  values_there (o ∷ os) are named =
      let first = and_parts (is_operand g o) (list_all (is_operand g) os) are in
      let second = and_parts (names o) (list_all names os) named in
      let rest = values_there os first.1 second.1 in (
        and_from (has_operand c y o) (list_all (has_operand c y) os) (operand_there o first.0 second.0) rest.0,
        and_from (is_code_operand c.frame (code_operand c y o)) (list_all (is_code_operand c.frame) (code_operands c y os)) (operand_fine o first.0 second.0) rest.1,
      )

  sends : (vs : List Operand) → list_all (is_operand g) vs ≡ true → list_all names vs ≡ true → nat_le (length vs) 64 ≡ true → can_send c y vs ≡ true
  sends vs are named few =
      let there = values_there vs are named in
      let out = code_operands c y vs in
      let count : nat_le (length out) 64 ≡ true = subst (λ (n : ℕ). nat_le n 64 ≡ true) (sym (length-map vs (code_operand c y))) few in
      and_from (list_all (has_operand c y) vs) (can_give c y out) there.0
      (and_from (nat_le (length out) 64) (list_all (is_code_operand c.frame) out) count there.1)

  -- ---- what takes values

  target_there : (t : Target) → is_target g t ≡ true → takes t ≡ true → has_target c y t ≡ true
  target_there (target.Variable number width) is named = local_there (local.Variable (record { number = number })) is
  target_there (target.Register number width) is named =
      let both = and_parts (nat_lt number (length p.globals)) (graph_names (reference.Register number) g) named in
      has.named (reference.Register number) (let test = both.0 in grind (arith, nat_tests, test)) both.1

  target_fine : (t : Target) → is_target g t ≡ true → is_code_destination c.frame (target_destination c y t) ≡ true
  target_fine (target.Variable number width) is = place_fine (local.Variable (record { number = number })) is
  target_fine (target.Register number width) is = refl

  targets_fine : (ts : List Target) → list_all (is_target g) ts ≡ true → list_all (is_code_destination c.frame) (target_destinations c y ts) ≡ true
  targets_fine [] are = refl
  targets_fine (t ∷ ts) are =
      let both = and_parts (is_target g t) (list_all (is_target g) ts) are in
      and_from (is_code_destination c.frame (target_destination c y t)) (list_all (is_code_destination c.frame) (target_destinations c y ts)) (target_fine t both.0)
      (targets_fine ts both.1)

  lands : (ts : List Target) → list_all (is_target g) ts ≡ true → list_all takes ts ≡ true → nat_le (length ts) 64 ≡ true → can_land c y ts ≡ true
  lands ts are named few =
      let ds = target_destinations c y ts in
      let count : nat_le (length ds) 64 ≡ true = subst (λ (n : ℕ). nat_le n 64 ≡ true) (sym (length-map ts (target_destination c y))) few in
      and_from (list_all (has_target c y) ts) (can_copy c y ds) (all_both (is_target g) takes (has_target c y) ts target_there are named)
      (and_from (nat_le (length ds) 64) (list_all (is_code_destination c.frame) ds) count (targets_fine ts are))

  destination_there : (d : Destination) → is_destination g d ≡ true → list_all takes (targets_of_destination d) ≡ true → has_destination c y d ≡ true
  destination_there (destination.Target t) is named = target_there t is (and_parts (takes t) true named).0
  destination_there (destination.Temporary t) is named = local_there (local.Temporary t) is

  -- ---- formals

  formals_fine : (vs : List Variable) → list_all (is_variable g) vs ≡ true → list_all (is_place c.frame) (variable_places c vs) ≡ true
  formals_fine [] are = refl
  formals_fine (v ∷ vs) are =
      let both = and_parts (is_variable g v) (list_all (is_variable g) vs) are in
      and_from (is_place c.frame (place c (local.Variable v))) (list_all (is_place c.frame) (variable_places c vs)) (place_fine (local.Variable v) both.0) (formals_fine vs both.1)

  begins : (vs : List Variable) → list_all (is_variable g) vs ≡ true → nat_le (length vs) 64 ≡ true → can_begin c vs ≡ true
  begins vs are few =
      let ls = variable_places c vs in
      let count : nat_le (length ls) 64 ≡ true = subst (λ (n : ℕ). nat_le n 64 ≡ true) (sym (length-map vs (λ (v : Variable). place c (local.Variable v)))) few in
      let taken : can_take c ls ≡ true = and_from (nat_le (length ls) 64) (list_all (is_place c.frame) ls) count (formals_fine vs are) in
      and_from (list_all (λ v. has_local c (local.Variable v)) vs && can_take c ls) (list_all (is_place c.frame) c.zeroed)
      (and_from (list_all (λ v. has_local c (local.Variable v)) vs) (can_take c ls)
      (all_so (is_variable g) (λ v. has_local c (local.Variable v)) vs (λ v is. local_there (local.Variable v) is) are) taken)
      has.zeroed

  -- ---- nodes and sites

  node_there : (test : NodeKind → Bool) (n : NodeId) → leads_to g test n ≡ true → has_node c n ≡ true
  node_there test n is = by (node_of g n) refl is
    where
      by : (o : Option Node) → node_of g n ≡ o → elim o as (λ _. Bool) [ Some node ↦ test node.kind | None ↦ false ] ≡ true → has_node c n ≡ true
      by (Some node) there e =
          let less : n.number < length c.nodes = omega (arith, slice_get_within g.nodes n.number node there, has.nodes) in
          grind (arith, nat_tests, less)
      by None there e = absurd (cc)

  site_there : (n : SiteId) (site : Site) → slice_get q.sites n.number ≡ Some site → has_site c n ≡ true
  site_there n site is =
      let less : n.number < length c.sites = omega (arith, slice_get_within q.sites n.number site is, has.sites) in
      grind (arith, nat_tests, less)

  arm_there : (arm : Arm) → is_arm g arm ≡ true → has_arm c y arm ≡ true
  arm_there arm is = node_there is_step arm.to is

  normal_there : (o : Option NodeId) → is_normal g o ≡ true → (elim o as (λ _. Bool) [ Some n ↦ has_node c n | None ↦ true ]) ≡ true
  normal_there (Some n) is = node_there is_copy_in n is
  normal_there None is = refl

  comes_back : (exits : Exits) → are_exits g exits ≡ true → nat_le (length exits.returns) 64 ≡ true → can_come_back c exits ≡ true
  comes_back exits are few =
      let three = and_parts (is_normal g exits.normal && list_all (is_continuation g) exits.returns && list_all (is_continuation g) exits.unwinds) (list_all (is_continuation g) exits.cuts) are in
      let two = and_parts (is_normal g exits.normal && list_all (is_continuation g) exits.returns) (list_all (is_continuation g) exits.unwinds) three.0 in
      let one = and_parts (is_normal g exits.normal) (list_all (is_continuation g) exits.returns) two.0 in
      and_from (list_all (has_landing c) exits.returns && nat_le (length exits.returns) 64) (elim exits.normal as (λ _. Bool) [ Some n ↦ has_node c n | None ↦ true ])
      (and_from (list_all (has_landing c) exits.returns) (nat_le (length exits.returns) 64)
      (all_so (is_continuation g) (has_landing c) exits.returns (λ k is. less_in k.number (length g.continuations) (length c.landings) has.landings is) one.1) few)
      (normal_there exits.normal one.0)

  -- ---- right sides

  two_there : (a b : Operand) → (is_operand g a && is_operand g b) ≡ true → list_all names (a ∷ b ∷ []) ≡ true →
      (has_operand c y a && has_operand c y b) ≡ true
  two_there a b are named =
      let both = and_parts (is_operand g a) (is_operand g b) are in
      let first = and_parts (names a) (list_all names (b ∷ [])) named in
      let second = and_parts (names b) true first.1 in
      and_from (has_operand c y a) (has_operand c y b) (operand_there a both.0 first.0) (operand_there b both.1 second.0)

  one_there : (a : Operand) → is_operand g a ≡ true → list_all names (a ∷ []) ≡ true → has_operand c y a ≡ true
  one_there a is named = operand_there a is (and_parts (names a) true named).0

  rvalue_there : (r : Rvalue) → is_rvalue g r ≡ true → list_all names (operands_of_rvalue r) ≡ true → names_rvalue p r ≡ true → value_mentioned g r ≡ true →
      has_rvalue c y r ≡ true
  rvalue_there (rvalue.Copy o) is named there mentioned = one_there o is named
  rvalue_there (rvalue.Register r) is named there mentioned = has.named (reference.Register r.number) (grind (arith, nat_tests, there)) mentioned
  rvalue_there (rvalue.Load width aligned o) is named there mentioned = one_there o (and_parts (is_alignment aligned) (is_operand g o) is).1 named
  rvalue_there (rvalue.Unary operator width o) is named there mentioned = one_there o is named
  rvalue_there (rvalue.Binary operator width left right) is named there mentioned = two_there left right is named
  rvalue_there (rvalue.Compare test) is named there mentioned = two_there test.left test.right is named
  rvalue_there (rvalue.SignExtend narrow width o) is named there mentioned = one_there o (and_parts (nat_le (bits narrow) (bits width)) (is_operand g o) is).1 named
  rvalue_there (rvalue.LowBits wide width o) is named there mentioned = one_there o (and_parts (nat_le (bits width) (bits wide)) (is_operand g o) is).1 named

  -- ---- kinds of nodes

  -- what is known of a node of the graph
  pub record IsFine (kind : NodeKind) : Type 0 where
    pub valid : is_kind g kind ≡ true
    pub operands : list_all names (operands kind) ≡ true
    pub targets : list_all takes (targets kind) ≡ true
    pub registers : reads_registers p kind ≡ true
    pub reads : reads_mentioned g kind ≡ true
    pub few : passes_few kind ≡ true
    pub site : HasSite q g kind

  next_there : (first : Bool) (next : NodeId) → (first && leads_to g is_step next) ≡ true → (first ≡ true) × (has_node c next ≡ true)
  next_there first next is =
      let both = and_parts first (leads_to g is_step next) is in (both.0, node_there is_step next both.1)

  pub kind_there : (kind : NodeKind) → IsFine kind → has_kind c y kind ≡ true
  kind_there (Entry formals next) fine =
      let both = next_there (list_all (is_variable g) formals) next fine.valid in
      and_from (can_begin c formals) (has_node c next) (begins formals both.0 fine.few) both.1
  kind_there (CopyIn to next) fine =
      let both = next_there (list_all (is_target g) to) next fine.valid in
      and_from (can_land c y to) (has_node c next) (lands to both.0 fine.targets fine.few) both.1
  kind_there (Assign to value next) fine =
      let both = next_there (is_destination g to && is_rvalue g value) next fine.valid in
      let parts = and_parts (is_destination g to) (is_rvalue g value) both.0 in
      and_from (has_destination c y to && has_rvalue c y value) (has_node c next)
      (and_from (has_destination c y to) (has_rvalue c y value) (destination_there to parts.0 fine.targets) (rvalue_there value parts.1 fine.operands fine.registers fine.reads)) both.1
  kind_there (Store width aligned address value next) fine =
      let both = next_there (is_alignment aligned && is_operand g address && is_operand g value) next fine.valid in
      let three = and_parts (is_alignment aligned && is_operand g address) (is_operand g value) both.0 in
      let two = and_parts (is_alignment aligned) (is_operand g address) three.0 in
      and_from (has_operand c y address && has_operand c y value) (has_node c next) (two_there address value (and_from (is_operand g address) (is_operand g value) two.1 three.1) fine.operands) both.1
  kind_there (Branch test then_ otherwise) fine =
      let both = next_there (is_test g test && leads_to g is_step then_) otherwise fine.valid in
      let parts = and_parts (is_test g test) (leads_to g is_step then_) both.0 in
      and_from (has_both c y test && has_node c then_) (has_node c otherwise)
      (and_from (has_both c y test) (has_node c then_) (two_there test.left test.right parts.0 fine.operands) (node_there is_step then_ parts.1)) both.1
  kind_there (Switch value arms otherwise) fine =
      let both = next_there (is_operand g value && list_all (is_arm g) arms) otherwise fine.valid in
      let parts = and_parts (is_operand g value) (list_all (is_arm g) arms) both.0 in
      and_from (has_operand c y value && list_all (has_arm c y) arms) (has_node c otherwise)
      (and_from (has_operand c y value) (list_all (has_arm c y) arms) (one_there value parts.0 fine.operands) (all_so (is_arm g) (has_arm c y) arms arm_there parts.1)) both.1
  kind_there (Call site callee arguments exits) fine =
      let both = and_parts (is_operand g callee && list_all (is_argument g) arguments) (are_exits g exits) fine.valid in
      let parts = and_parts (is_operand g callee) (list_all (is_argument g) arguments) both.0 in
      let few = and_parts (nat_le (length arguments) 64) (nat_le (length exits.returns) 64) fine.few in
      and_from (has_site c site && can_go_to c y callee arguments) (can_come_back c exits)
      (and_from (has_site c site) (can_go_to c y callee arguments) (site_there site fine.site.site fine.site.is_site) (can_go callee arguments parts.0 parts.1 fine.operands few.0))
      (comes_back exits both.1 few.1)
  kind_there (Yield site values exits) fine =
      let both = and_parts (list_all (is_operand g) values) (are_exits g exits) fine.valid in
      let few = and_parts (nat_le (length values) 64) (nat_le (length exits.returns) 64) fine.few in
      and_from (has_site c site && can_send c y values) (can_come_back c exits)
      (and_from (has_site c site) (can_send c y values) (site_there site fine.site.site fine.site.is_site) (sends values both.0 fine.operands few.0)) (comes_back exits both.1 few.1)
  kind_there (Jump callee arguments) fine =
      let parts = and_parts (is_operand g callee) (list_all (is_argument g) arguments) fine.valid in
      can_go callee arguments parts.0 parts.1 fine.operands fine.few
  kind_there (Cut to arguments own) fine =
      let both = and_parts (is_operand g to && list_all (is_argument g) arguments) (list_all (is_continuation g) own) fine.valid in
      let parts = and_parts (is_operand g to) (list_all (is_argument g) arguments) both.0 in
      can_go to arguments parts.0 parts.1 fine.operands fine.few
  kind_there (Return exit alternates results) fine =
      let parts = and_parts (nat_le exit alternates) (list_all (is_argument g) results) fine.valid in
      let few = and_parts (nat_le alternates 64) (nat_le (length results) 64) fine.few in
      let least : exit ≤ alternates = grind (arith, nat_tests, parts.0) in
      let most : alternates ≤ 64 = grind (arith, nat_tests, few.0) in
      let small : exit < 512 = omega (arith, least, most) in
      and_from (list_all (has_argument c y) results && can_give c y (argument_operands c y results)) (nat_lt exit 512) (can_pass results parts.1 fine.operands few.1)
      (grind (arith, nat_tests, small))
  kind_there (Host (host.PutByte value) next) fine =
      let both = next_there (is_operand g value) next fine.valid in
      and_from (has_operand c y value) (has_node c next) (one_there value both.0 fine.operands) both.1
  kind_there (Host (host.GetByte to) next) fine =
      let both = next_there (is_target g to) next fine.valid in
      and_from (has_target c y to) (has_node c next) (target_there to both.0 (and_parts (takes to) true fine.targets).0) both.1
  kind_there (Goto next) fine = node_there is_step next fine.valid
  kind_there Stop fine = refl
