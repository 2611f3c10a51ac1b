-- Pieces of code are what is required of the nodes' code.
use Rattle.std.proofs.Common.{◌≡◌, inl, inr, ℕ, ◌+◌, ◌*◌, ◌<◌, ◌≤◌, ◌%◌, ◌^◌, nat_le, Bool, true, false, refl, sym, ◌∙◌, ap, subst, List, [], ◌∷◌, length, map, IsTrue, arith}
use Rattle.std.specs.Prelude.{◌==◌}
use Rattle.std.proofs.lemmas.List.{length-map}
use Rattle.std.specs.List.{list_all}
use Rattle.std.proofs.lemmas.Bool.Decides.{nat_tests}
use Rattle.cmm_words.specs.declared.width.Width.{Width}
use Rattle.cmm_chain.specs.declared.frame.Frame.{Frame}
use Rattle.cmm_chain.specs.declared.frame.Location.{Location}
use Rattle.cmm_program.proofs.Shared.{list_all_get}
use Rattle.cmm_program.specs.declared.procedure.Target.{Target}
use Rattle.cmm_graph.specs.declared.number.ContinuationId.{ContinuationId}
use Rattle.cmm_graph.specs.declared.number.NodeId.{NodeId}
use Rattle.cmm_graph.specs.declared.number.Variable.{Variable}
use Rattle.cmm_graph.specs.declared.operand.Argument.{Argument}
use Rattle.cmm_graph.specs.declared.operand.Comparison.{Comparison}
use Rattle.cmm_graph.specs.declared.operand.Destination.{Destination}
use Rattle.cmm_graph.specs.declared.operand.Local.TheVariants as local
use Rattle.cmm_graph.specs.declared.operand.Operand.{Operand}
use Rattle.cmm_graph.specs.declared.operand.Rvalue.{Rvalue}
use Rattle.cmm_graph.specs.declared.node.Arm.{Arm}
use Rattle.cmm_graph.specs.declared.node.HostCall.TheVariants as host
use Rattle.cmm_graph.specs.declared.node.NodeKind.TheVariants.{Assign, Branch, CopyIn, Cut, Entry, Host, Jump, Return, Stop, Store, Switch}
use Rattle.rv_asm.specs.Parts.{Code}
use Rattle.rv_asm.specs.declared.part.Label.{Label}
use Rattle.rv_asm.specs.declared.part.Meaning.{Meaning}
use Rattle.rv_table.specs.Machine.{MemoryMap, State, Traps, instruction_step, Region}
use Rattle.rv_table.specs.declared.request.Request.TheVariants.{GetByte, PutByte}
use Rattle.rv_table.specs.declared.trap.TrapKind.TheVariants.{Breakpoint}
use Rattle.cmm_effects.proofs.Shared.{leads_turns, turns_weaker}
use Rattle.cmm_effects.specs.Ways.{Turns}
use Rattle.cmm_effects.specs.Changes.{Keeps}
use Rattle.cmm_effects.specs.Pieces.{BeginsQuietly}
use Rattle.cmm_effects.specs.Requests.{Requests}
use Rattle.cmm_select.specs.Destinations.{CanPut, PutsTo}
use Rattle.cmm_select.specs.Going.{Decides}
use Rattle.cmm_select.specs.Memory.{StoresWord}
use Rattle.cmm_select.specs.Operands.{CanBringOperand, most_for, operand_at}
use Rattle.cmm_select.specs.declared.operand.Operand.{Operand as CodeOperand}
use Rattle.cmm_select.specs.declared.operand.Operand.TheVariants as code
use Rattle.cmm_select.specs.declared.source.Source.TheVariants as source
use Rattle.cmm_select.specs.Switches.{Switches, label_of, ranges_in}
use Rattle.cmm_calls.specs.Calls.{CutsTo, JumpsBy}
use Rattle.cmm_calls.specs.Copying.{CopiesIn, PutsEachTo, values_to}
use Rattle.cmm_calls.specs.Frames.{entry_cost}
use Rattle.cmm_calls.specs.Values.{Begins, HasRegion, JumpsTo, ReturnsValues, parting_cost}
use Rattle.cmm_emit_laws.specs.Finished.{code_of}
use Rattle.cmm_emit_laws.specs.NodeCode.{GoesOn, IsLabelOf, IsPutInto, places_of}
use Rattle.cmm_emit.proofs.Operands.{destination_is_of, operand_is_of, operands_are_of, target_is_of, targets_are_global, targets_are_of}
use Rattle.cmm_emit.specs.declared.context.Context.{Context}
use Rattle.cmm_emit.specs.declared.context.Targets.{Targets}
use Rattle.cmm_emit.specs.Costs.{branch_cost, copy_cost, operand_cost, rvalue_cost, store_cost}
use Rattle.cmm_emit.specs.Naming.{IsNamed, argument_operand, argument_operands, can_begin, can_go_to, can_land, can_return, code_destination, code_operand, has_arm, has_both, has_destination, has_local, has_node, has_operand, has_target, place, target_destination, target_destinations, variable_places}
use Rattle.cmm_emit.specs.Standing.{CodesNode, CodesOwn, CodesWhole, IsReady, PutsValue}
use Rattle.cmm_emit_laws.specs.Represented.{stack_region}

-- code is that of an image, and an address is that of a node
pub moved : {x z : Code} {from at : ℕ} (P : Code → ℕ → Type 0) → x ≡ z → at ≡ from → P x from → P z at
moved {z = z} {from = from} P is-x is-at holds = subst (λ a. P z a) (sym is-at) (subst (λ w. P w from) is-x holds)

-- an operand is brought by 11 instructions at most
few_for_number : (b : Bool) → elim b as (λ _. ℕ) [ true ↦ 4 | false ↦ 8 ] ≤ 11
few_for_number true = omega arith
few_for_number false = omega arith

pub few_for : (a : CodeOperand) → most_for a ≤ 11
few_for (code.Held (source.Place at)) = omega arith
few_for (code.Held (source.Number n)) = few_for_number (nat_le n (2 ^ 40))
few_for (code.Held (source.Address offset)) = omega arith
few_for (code.Symbol label plus) = omega arith

module _ (labels : List Meaning) (p : Context) (y : Targets) (ready : IsReady labels p y) (x : Code) (from to : ℕ) where
  pub branch_codes : (test : Comparison) (then_ otherwise : NodeId) → IsTrue (has_both p y test) → IsTrue (has_node p then_) →
      Decides (branch_cost p y test) test.operator test.width (code_operand p y test.left) (code_operand p y test.right) (label_of p.nodes then_) x from to →
      CodesNode p y (Branch test then_ otherwise) x from to
  branch_codes test then_ otherwise both there decides s c l f q n is-x of at goes = record {
    left = code_operand p y test.left;
    right = code_operand p y test.right;
    label = label_of p.nodes then_;
    on = to;
    count = branch_cost p y test;
    is_left = operand_is_of labels p y ready s c l f q of test.left (grind (arith, both));
    is_right = operand_is_of labels p y ready s c l f q of test.right (grind (arith, both));
    there = of.nodes then_ (grind (arith, nat_tests, there));
    decides = moved (λ z a. Decides (branch_cost p y test) test.operator test.width (code_operand p y test.left) (code_operand p y test.right) (label_of p.nodes then_) z a to) is-x at decides;
    goes_on = goes;
    few = omega arith;
  }

  pub switch_codes : (value : Operand) (arms : List Arm) (otherwise : NodeId) → IsTrue (has_operand p y value) → IsTrue (list_all (has_arm p y) arms) →
      Switches (operand_cost p y value + 20 * ranges_in arms) (code_operand p y value) p.nodes arms x from to →
      CodesNode p y (Switch value arms otherwise) x from to
  switch_codes value arms otherwise has there switches s c l f q n is-x of at goes = record {
    operand = code_operand p y value;
    labels = p.nodes;
    on = to;
    count = operand_cost p y value + 20 * ranges_in arms;
    is_value = operand_is_of labels p y ready s c l f q of value has;
    there = λ k arm is. of.nodes arm.to (grind (arith, nat_tests, list_all_get (has_arm p y) arms k arm there is));
    switches = moved (λ z a. Switches (operand_cost p y value + 20 * ranges_in arms) (code_operand p y value) p.nodes arms z a to) is-x at switches;
    goes_on = goes;
    few = omega arith;
  }

  pub store_codes : (width : Width) (aligned : ℕ) (address value : Operand) (next : NodeId) → IsTrue (has_operand p y address) → IsTrue (has_operand p y value) →
      StoresWord (store_cost p y width aligned address value) width aligned (code_operand p y address) (code_operand p y value) x from to →
      CodesNode p y (Store width aligned address value next) x from to
  store_codes width aligned address value next has_address has_value stores s c l f q n is-x of at goes = record {
    to = code_operand p y address;
    stored = code_operand p y value;
    on = to;
    count = store_cost p y width aligned address value;
    is_address = operand_is_of labels p y ready s c l f q of address has_address;
    is_value = operand_is_of labels p y ready s c l f q of value has_value;
    stores = moved (λ z a. StoresWord (store_cost p y width aligned address value) width aligned (code_operand p y address) (code_operand p y value) z a to) is-x at stores;
    goes_on = goes;
    few = omega arith;
  }

  pub put_byte_codes : (value : Operand) (next : NodeId) → IsTrue (has_operand p y value) →
      Requests (operand_cost p y value + 2) 0 (CanBringOperand (code_operand p y value)) (λ t. PutByte (operand_at x.at (code_operand p y value) t % 256)) (λ u v. v ≡ u) x from to →
      CodesNode p y (Host (host.PutByte value) next) x from to
  put_byte_codes value next has requests s c l f q n is-x of at goes = record {
    operand = code_operand p y value;
    on = to;
    count = operand_cost p y value + 2;
    is_value = operand_is_of labels p y ready s c l f q of value has;
    requests = moved (λ z a. Requests (operand_cost p y value + 2) 0 (CanBringOperand (code_operand p y value)) (λ t. PutByte (operand_at z.at (code_operand p y value) t % 256)) (λ u v. v ≡ u) z a to) is-x at requests;
    goes_on = goes;
    few = omega arith;
  }

  pub get_byte_codes : (target : Target) (next : NodeId) → IsTrue (has_target p y target) →
      Requests 1 5 (CanPut x.at (target_destination p y target)) (λ t. GetByte) (λ u v. PutsTo x.at (target_destination p y target) (u.registers 10) u v) x from to →
      CodesNode p y (Host (host.GetByte target) next) x from to
  get_byte_codes target next has requests s c l f q n is-x of at goes = record {
    into = target_destination p y target;
    is_into = target_is_of labels p y ready s c l f q of target has;
    on = to;
    count = 1;
    later = 5;
    requests = moved (λ z a. Requests 1 5 (CanPut z.at (target_destination p y target)) (λ t. GetByte) (λ u v. PutsTo z.at (target_destination p y target) (u.registers 10) u v) z a to) is-x at requests;
    goes_on = goes;
    few = omega arith;
  }

  pub begin_codes : (formals : List Variable) (next : NodeId) → IsTrue (can_begin p formals) →
      Begins p.frame p.landings p.zeroed (variable_places p formals) y.limit x from to → CodesNode p y (Entry formals next) x from to
  begin_codes formals next can begins s c l f q n is-x of at goes = record {
    landings = p.landings;
    limit = y.limit;
    on = to;
    ends = 1;
    begins = at_frame (λ fr zs vs. Begins fr p.landings zs vs y.limit (code_of l f q) (f.node_at q n) to)
        (moved (λ z a. Begins p.frame p.landings p.zeroed (variable_places p formals) y.limit z a to) is-x at begins);
    few_formals = grind (arith, nat_tests, can, length-map);
    pairs = ready.landed ∙ ap (λ (fr : Frame). length fr.pairs) (sym of.frame);
    addresses = of.landings;
    limits = of.limit;
    goes_on = goes;
    few = at_frame (λ fr zs vs. entry_cost fr zs + 4 * length formals + 2 ≤ entry_cost p.frame p.zeroed + 4 * length formals + 2) (omega arith);
    few_at_limit = omega arith;
  }
    where
      formal_places : places_of s c l f q formals ≡ variable_places p formals
      formal_places = each formals (grind (arith, can))
        where
          each : (vs : List Variable) → IsTrue (list_all (λ v. has_local p (local.Variable v)) vs) → places_of s c l f q vs ≡ variable_places p vs
          each [] all = refl
          each (v ∷ vs) all =
              let here : c.plan.place q v.number ≡ place p (local.Variable v) = of.places v.number (grind (arith, nat_tests, all)) in
              let rest : places_of s c l f q vs ≡ variable_places p vs = each vs (grind (arith, all)) in
              cc

      at_frame : (P : Frame → List Location → List Location → Type 0) → P p.frame p.zeroed (variable_places p formals) →
          P (c.plan.frame q) (map (c.plan.place q) (c.zeroed q)) (places_of s c l f q formals)
      at_frame P holds =
          subst (λ fr. P fr (map (c.plan.place q) (c.zeroed q)) (places_of s c l f q formals)) (sym of.frame)
          (subst (λ zs. P p.frame zs (places_of s c l f q formals)) (sym of.zeroed) (subst (λ vs. P p.frame p.zeroed vs) (sym formal_places) holds))

  copies_some : (targets : List Target) (next : NodeId) → IsTrue (can_land p y targets) → 0 < length targets →
      CopiesIn (5 * length (target_destinations p y targets)) p.frame (target_destinations p y targets) x from to → CodesNode p y (CopyIn targets next) x from to
  copies_some targets next can some copies s c l f q n is-x of at goes = record {
    destinations = target_destinations p y targets;
    are = targets_are_of labels p y ready s c l f q of targets (grind (arith, can));
    turns = λ r. subst (λ (fr : Frame). Turns (copy_cost p y targets + 2) (HasRegion r fr.size) (λ u. f.node_at q next)
        (λ u w. (v : State) × PutsEachTo (f.labels q) (values_to r 0 (target_destinations p y targets) u) u v × Keeps v w) (code_of l f q) (f.node_at q n)) (sym of.frame)
        (turns_weaker
        (leads_turns
        ((moved (λ z a. CopiesIn (5 * length (target_destinations p y targets)) p.frame (target_destinations p y targets) z a to) is-x at copies).some (rw same some)
        (targets_are_global labels p y ready s c l f q of targets (grind (arith, can))) r)
        goes (λ u v sound sound_after region there. tt) (λ u. f.node_at q next) (λ u v region there. refl))
        (omega (arith, same)) (λ u sound region. region) (λ u w region there. there));
    few_values = grind (arith, nat_tests, can, same);
  }
    where
      same : length (target_destinations p y targets) ≡ length targets
      same = length-map targets (target_destination p y)

  pub copy_codes : (targets : List Target) (next : NodeId) → IsTrue (can_land p y targets) →
      CopiesIn (5 * length (target_destinations p y targets)) p.frame (target_destinations p y targets) x from to → CodesOwn p y (CopyIn targets next) x from to
  copy_codes [] next can copies = copies.none refl
  copy_codes (t ∷ ts) next can copies =
      let full : (length (t ∷ ts) == 0) ≡ false = grind (arith, nat_tests) in
      subst (λ (b : Bool). elim b as (λ _. Type 0) [ true ↦ from ≡ to | false ↦ CodesWhole p y (CopyIn (t ∷ ts) next) x from to ]) (sym full)
      (copies_some (t ∷ ts) next can (omega arith) copies, λ s c l f q is-x of on. tt)

  pub return_codes : (exit alternates : ℕ) (results : List Argument) → IsTrue (can_return p y exit results) →
      ReturnsValues p.frame (argument_operands p y results) exit x from → CodesNode p y (Return exit alternates results) x from to
  return_codes exit alternates results can returns s c l f q n is-x of at goes = record {
    operands = argument_operands p y results;
    ends = 1;
    are = operands_are_of labels p y ready s c l f q of results (grind (arith, can));
    few_results = grind (arith, nat_tests, can);
    returns = subst (λ (fr : Frame). ReturnsValues fr (argument_operands p y results) exit (code_of l f q) (f.node_at q n)) (sym of.frame)
        (moved (λ z a. ReturnsValues p.frame (argument_operands p y results) exit z a) is-x at returns);
    end_asked = of.end_asked;
    few = subst (λ (fr : Frame). parting_cost fr (argument_operands p y results) + 1 + 1 + 1 ≤ parting_cost p.frame (argument_operands p y results) + 1 + 3) (sym of.frame) (omega arith);
    few_behind = subst (λ (fr : Frame). parting_cost fr (argument_operands p y results) + 1 + 3 ≤ parting_cost p.frame (argument_operands p y results) + 1 + 3) (sym of.frame) (omega arith);
  }

  pub jump_codes : (callee : Operand) (arguments : List Argument) (to_label : Label) → IsNamed y callee to_label → IsTrue (can_go_to p y callee arguments) →
      JumpsTo p.frame (argument_operands p y arguments) to_label x from → CodesNode p y (Jump callee arguments) x from to
  jump_codes callee arguments to_label named can jumps s c l f q n is-x of at goes = record {
    operands = argument_operands p y arguments;
    are = operands_are_of labels p y ready s c l f q of arguments (grind (arith, can));
    few_values = grind (arith, nat_tests, can);
    quiet = moved (λ z a. BeginsQuietly z a) is-x at (jumps (stack_region s)).quiet;
    jumps = inl ((
      to_label,
      subst (λ o. IsLabelOf s c l f q o to_label) (sym named.is) (ap (λ (k : Label). f.labels q k.number) named.is_label ∙ of.entries named.procedure named.there),
      subst (λ (fr : Frame). JumpsTo fr (argument_operands p y arguments) to_label (code_of l f q) (f.node_at q n)) (sym of.frame)
          (moved (λ z a. JumpsTo p.frame (argument_operands p y arguments) to_label z a) is-x at jumps),
    ));
    few = subst (λ (fr : Frame). parting_cost fr (argument_operands p y arguments) + 12 ≤ parting_cost p.frame (argument_operands p y arguments) + 12) (sym of.frame) (omega arith);
  }

  pub jump_by_codes : (callee : Operand) (arguments : List Argument) → IsTrue (can_go_to p y callee arguments) →
      JumpsBy p.frame (code_operand p y callee) (argument_operands p y arguments) x from → CodesNode p y (Jump callee arguments) x from to
  jump_by_codes callee arguments can jumps s c l f q n is-x of at goes = record {
    operands = argument_operands p y arguments;
    are = operands_are_of labels p y ready s c l f q of arguments (grind (arith, can));
    few_values = grind (arith, nat_tests, can);
    quiet = moved (λ z a. BeginsQuietly z a) is-x at (jumps (stack_region s)).quiet;
    jumps = inr ((
      code_operand p y callee,
      operand_is_of labels p y ready s c l f q of callee (grind (arith, can)),
      (
        few_for (code_operand p y callee),
        subst (λ (fr : Frame). JumpsBy fr (code_operand p y callee) (argument_operands p y arguments) (code_of l f q) (f.node_at q n)) (sym of.frame)
            (moved (λ z a. JumpsBy p.frame (code_operand p y callee) (argument_operands p y arguments) z a) is-x at jumps),
      ),
    ));
    few = subst (λ (fr : Frame). parting_cost fr (argument_operands p y arguments) + 12 ≤ parting_cost p.frame (argument_operands p y arguments) + 12) (sym of.frame) (omega arith);
  }

  pub cut_codes : (pair : Operand) (arguments : List Argument) (own : List ContinuationId) → IsTrue (can_go_to p y pair arguments) →
      CutsTo p.frame (code_operand p y pair) (argument_operands p y arguments) x from → CodesNode p y (Cut pair arguments own) x from to
  cut_codes pair arguments own can cuts s c l f q n is-x of at goes = record {
    pair = code_operand p y pair;
    is_pair = operand_is_of labels p y ready s c l f q of pair (grind (arith, can));
    operands = argument_operands p y arguments;
    are = operands_are_of labels p y ready s c l f q of arguments (grind (arith, can));
    few_values = grind (arith, nat_tests, can);
    cuts = subst (λ (fr : Frame). CutsTo fr (code_operand p y pair) (argument_operands p y arguments) (code_of l f q) (f.node_at q n)) (sym of.frame)
        (moved (λ z a. CutsTo p.frame (code_operand p y pair) (argument_operands p y arguments) z a) is-x at cuts);
    few = (let same : length (argument_operands p y arguments) ≡ length arguments = length-map arguments (argument_operand p y) in omega (arith, same));
  }

  pub assign_codes : (takes : Destination) (value : Rvalue) (next : NodeId) → IsTrue (has_destination p y takes) →
      PutsValue p y value (code_destination p y takes) x from to → CodesNode p y (Assign takes value next) x from to
  assign_codes takes value next has puts s c l f q n is-x of at goes = record {
    into = code_destination p y takes;
    is_into = destination_is_of labels p y ready s c l f q of takes has;
    on = to;
    count = rvalue_cost p y value;
    quiet = moved (λ z a. BeginsQuietly z a) is-x at puts.0;
    puts = subst (λ a. IsPutInto s c l f q value (code_destination p y takes) (rvalue_cost p y value) a to) (sym at) (puts.1 s c l f q is-x of);
    goes_on = goes;
    few = omega arith;
  }

module _ (p : Context) (y : Targets) (x : Code) (from to : ℕ) where
  pub stop_codes : ((s : State) → s.pc ≡ from → instruction_step x.map s ≡ Traps Breakpoint) → CodesNode p y Stop x from to
  stop_codes traps s c l f q n is-x of at goes t r there asks =
      let e : instruction_step x.map t ≡ Traps Breakpoint = traps t (there ∙ at) in
      let g : instruction_step (code_of l f q).map t ≡ Traps Breakpoint = subst (λ (z : Code). instruction_step z.map t ≡ Traps Breakpoint) is-x e in
      absurd (cc)
