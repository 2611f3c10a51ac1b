-- What comes back is taken by variables and global registers.
use Rattle.std.proofs.Common.{◌≡◌, ℕ, suc, ◌<◌, ◌≤◌, ◌^◌, refl, ◌∙◌, ap, subst, arith, Bool, true, false, List, [], ◌∷◌, length, length-set, Option, Some, None, IsTrue, slice_get}
use Rattle.std.specs.Prelude.{◌&&◌, Ok, nat_le, nat_lt, slice_index_or, slice_set}
use Rattle.std.specs.List.{list_all}
use Rattle.std.proofs.lemmas.Bool.{and_parts}
use Rattle.std.proofs.lemmas.Bool.Decides.{nat_tests}
use Rattle.rv_table.specs.Machine.{State}
use Rattle.cmm_chain.specs.declared.frame.Location.{Location}
use Rattle.cmm_chain.specs.Contents.{Number}
use Rattle.cmm_chain.specs.Running.{Holdings, put_in}
use Rattle.cmm_program.specs.Errors.{WrongValues, provided}
use Rattle.cmm_program.specs.declared.procedure.Target.{Target}
use Rattle.cmm_program.specs.declared.procedure.Target.TheVariants as target
use Rattle.cmm_program.specs.State.{Activation, Setting, Store}
use Rattle.cmm_machine_laws.specs.Landings.{registers_after}
use Rattle.cmm_graph.specs.declared.number.NodeId.{NodeId}
use Rattle.cmm_graph.specs.declared.operand.Destination.TheVariants as destination
use Rattle.cmm_graph.specs.declared.operand.Local.TheVariants as local
use Rattle.cmm_graph.specs.declared.node.NodeKind.TheVariants.{CopyIn}
use Rattle.cmm_graph.specs.declared.graph.Graph.{Graph}
use Rattle.cmm_graph.specs.Ranges.{IsValid, is_kind, is_step, is_target, leads_to}
use Rattle.cmm_live.specs.Locals.{local_number}
use Rattle.cmm_effects.proofs.Shared.{reaches_more, reaches_sound}
use Rattle.cmm_effects.specs.Changes.{Keeps}
use Rattle.cmm_select.specs.declared.destination.Destination.{Destination as CodeDestination}
use Rattle.cmm_calls.specs.Copying.{PutsEachTo, values_to}
use Rattle.cmm_calls.specs.Frames.{HasFrame}
use Rattle.cmm_image_machine.specs.Machine.{Launch, map_of}
use Rattle.cmm_emit_laws.proofs.Carrying.{forget_values}
use Rattle.cmm_emit_laws.specs.Represented.{IsFor, IsPlaceOf, IsRepresented, stack_region}
use Rattle.cmm_located.specs.Compiled.{Compiled, Located, place_of}
use Rattle.cmm_located.specs.Nodes.{ran_at, taken}
use Rattle.cmm_emit_laws.proofs.Doing.{IsDone, kept_shown, silently, stands_there, tokens_there}
use Rattle.cmm_emit_laws.proofs.Taking.{come_to_destinations, pairs, values_fit}
use Rattle.cmm_emit_laws.proofs.Targets.{put_shown}
use Rattle.cmm_emit_laws.specs.Finished.{Finished}
use Rattle.cmm_emit_laws.specs.NodeCode.{AreTargetsOf, CopyInCode}
use Rattle.cmm_emit_laws.specs.ProgramCode.{names_register, names_registers}
use Rattle.cmm_emit_laws.specs.Standing.{IsYoungest, Stands}

-- ---- values are put where targets are

module _ (s : Setting) (c : Compiled) (l : Launch) (f : Finished) (rest : ℕ → ℕ) (is_for : IsFor s (map_of l)) (q : ℕ) (g : Graph) (is_graph : slice_get c.graphs q ≡ Some g)
    (a : Activation) (older : List Activation) (places : (v : ℕ) → IsPlaceOf s a (c.plan.place q v)) where
  -- the place of a variable
  place_is : (number : ℕ) → place_of c q (local.Variable (record { number = number })) ≡ c.plan.place q number
  place_is number = ap (λ (o : Option Graph). c.plan.place q (elim o as (λ _. ℕ) [ Some found ↦ local_number found (local.Variable (record { number = number })) | None ↦ 0 ])) is_graph

  length_targets : (to : List Target) (ds : List CodeDestination) → AreTargetsOf s c l f q to ds → length ds ≡ length to
  length_targets [] [] are = refl
  length_targets [] (d ∷ ds) are = absurd are
  length_targets (t ∷ ts) [] are = absurd are
  length_targets (t ∷ ts) (d ∷ ds) are = ap (λ (n : ℕ). suc n) (length_targets ts ds are.1)

  alone_named : (t : Target) → names_register s.program t ≡ true → list_all (names_register s.program) (t ∷ []) ≡ true
  alone_named t is = ap (λ (b : Bool). b && true) is

  count_after : (to : List Target) (values registers : List ℕ) → length (registers_after to values registers) ≡ length registers
  count_after [] values registers = refl
  count_after (t ∷ ts) [] registers = refl
  count_after (target.Variable number width ∷ ts) (value ∷ values) registers = count_after ts values registers
  count_after (target.Register number width ∷ ts) (value ∷ values) registers = count_after ts values (slice_set registers number value) ∙ length-set registers number value

  targets_show : (to : List Target) (ds : List CodeDestination) (values : List ℕ) (h : Holdings) (store : Store) (t u : State) → store.activations ≡ a ∷ older →
      length store.registers ≡ length s.program.globals → AreTargetsOf s c l f q to ds → list_all (names_register s.program) to ≡ true →
      ((i : ℕ) → i < length values → slice_index_or values i 0 < 2 ^ 64) → PutsEachTo (f.labels q) (pairs ds values) t u → IsRepresented f.symbols rest s h store [] t →
      IsRepresented f.symbols rest s (taken c.plan q to values h) (record store { registers = registers_after to values store.registers }) [] u
  targets_show [] [] values h store t u youngest count are named fit puts shown = subst (λ (z : State). IsRepresented f.symbols rest s h store [] z) puts shown
  targets_show [] (d ∷ ds) values h store t u youngest count are named fit puts shown = absurd are
  targets_show (to ∷ others) [] values h store t u youngest count are named fit puts shown = absurd are
  targets_show (to ∷ others) (d ∷ ds) [] h store t u youngest count are named fit puts shown = subst (λ (z : State). IsRepresented f.symbols rest s h store [] z) puts shown
  targets_show (target.Variable number width ∷ others) (d ∷ ds) (value ∷ values) h store t u youngest count are named fit puts shown =
      let both = and_parts true (list_all (names_register s.program) others) named in
      let first = put_shown s c l f rest is_for q h store a older youngest places t shown count value (fit 0 (omega arith)) puts.0
      (destination.Target (target.Variable number width)) d are.0 refl puts.1 in
      targets_show others ds values (put_in (c.plan.place q number) (Number value) h) store puts.0 u youngest count are.1 both.1 (λ i less. fit (suc i) (omega (arith, less))) puts.2
      (subst (λ (place : Location). IsRepresented f.symbols rest s (put_in place (Number value) h) store [] puts.0) (place_is number) first)
  targets_show (target.Register number width ∷ others) (d ∷ ds) (value ∷ values) h store t u youngest count are named fit puts shown =
      let both = and_parts (nat_lt number (length s.program.globals)) (list_all (names_register s.program) others) named in
      let first = put_shown s c l f rest is_for q h store a older youngest places t shown count value (fit 0 (omega arith)) puts.0
      (destination.Target (target.Register number width)) d are.0 (alone_named (target.Register number width) both.0) puts.1 in
      targets_show others ds values h (record store { registers = slice_set store.registers number value }) puts.0 u youngest
      (length-set store.registers number value ∙ count) are.1 both.1 (λ i less. fit (suc i) (omega (arith, less))) puts.2 first

-- ---- the node

module _ (s : Setting) (c : Compiled) (l : Launch) (f : Finished) (rest : ℕ → ℕ) (is_for : IsFor s (map_of l)) (at : Located) (t : State) (stands : Stands s c l f rest at t)
    (only : IsYoungest at) (g : Graph) (is_graph : slice_get c.graphs at.procedure ≡ Some g) (valid : IsValid g)
    (places : (v : ℕ) → IsPlaceOf s only.activation (c.plan.place at.procedure v)) (framed : HasFrame (stack_region s) (c.plan.frame at.procedure).size (map_of l) t)
    (to : List Target) (next : NodeId) (cost : ℕ) (after : Located) (code : CopyInCode s c l f at.procedure at.node to next cost)
    (named : names_registers s.program (CopyIn to next) ≡ true) (kept : length at.store.registers ≡ length s.program.globals)
    (fine : IsTrue (is_kind g (CopyIn to next))) where
  leads : IsTrue (leads_to g is_step next)
  leads = (and_parts (list_all (is_target g) to) (leads_to g is_step next) fine).1

  abbrev store_copied : Store
  store_copied = record at.store { registers = registers_after to at.carried at.store.registers }

  abbrev copied : Located
  copied = record { store = store_copied; holdings = taken c.plan at.procedure to at.carried at.holdings; procedure = at.procedure; node = next; carried = [] }

  copied_shown : length to ≤ length at.carried → (u : State) → PutsEachTo (f.labels at.procedure) (values_to (stack_region s) 0 code.destinations t) t u → IsRepresented f.symbols rest s copied.holdings store_copied [] u
  copied_shown enough u puts =
      let count : length code.destinations ≡ length to =
      length_targets s c l f rest is_for at.procedure g is_graph only.activation only.older places to code.destinations code.are in
      let same : values_to (stack_region s) 0 code.destinations t ≡ pairs code.destinations at.carried =
      come_to_destinations (stack_region s) code.destinations at.carried t (omega (arith, count, enough)) (λ i less. stands.shown.values.1 i (omega (arith, less, count, enough))) in
      targets_show s c l f rest is_for at.procedure g is_graph only.activation only.older places to code.destinations at.carried at.holdings at.store t u only.youngest kept code.are
      (and_parts (list_all (names_register s.program) to) true named).0 (values_fit (stack_region s) at.carried t stands.sound stands.shown.values)
      (subst (λ (list : List (CodeDestination × ℕ)). PutsEachTo (f.labels at.procedure) list t u) same puts)
      (forget_values f.symbols rest s at.holdings at.store at.carried t stands.shown)

  copied_done : length to ≤ length at.carried → IsDone s c l f rest at cost t copied
  copied_done enough =
      silently s c l f rest at cost t copied (tokens_there s c l f rest copied g is_graph valid next leads) refl
      (count_after s c l f rest is_for at.procedure g is_graph only.activation only.older places to at.carried at.store.registers) (λ b. b)
      (reaches_more (reaches_sound ((code.turns (stack_region s)).goes.go t stands.sound stands.pc (record { stack = framed; region = stands.shown.holdings.region })) stands.sound)
      (λ w there. stands_there s c l f rest copied g is_graph valid next leads w stands.running
      (record { activation = only.activation; older = only.older; youngest = only.youngest; same = only.same; carried = refl }) (settled w there.0.1) there.0.0 there.1))
    where
      settled : (w : State) → (u : State) × PutsEachTo (f.labels at.procedure) (values_to (stack_region s) 0 code.destinations t) t u × Keeps u w → IsRepresented f.symbols rest s copied.holdings store_copied [] w
      settled w (u, puts, keeps) = kept_shown f rest s l is_for copied.holdings store_copied [] u w keeps (copied_shown enough u puts)

  pub copy_done : ran_at s c (CopyIn to next) at ≡ Ok after → IsDone s c l f rest at cost t after
  copy_done is = by (nat_le (length to) (length at.carried)) refl is
    where
      by : (test : Bool) → nat_le (length to) (length at.carried) ≡ test → provided test WrongValues (Ok copied) ≡ Ok after → IsDone s c l f rest at cost t after
      by true many e =
          let same : copied ≡ after = cc in
          subst (λ (z : Located). IsDone s c l f rest at cost t z) same (copied_done (grind (arith, nat_tests, many)))
      by false few e = absurd (cc)
