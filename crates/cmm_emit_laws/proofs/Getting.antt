-- The input's next byte is taken.
use Rattle.std.proofs.Common.{◌≡◌, ℕ, ◌+◌, ◌<◌, ◌^◌, refl, sym, ◌∙◌, ap, subst, arith, true, false, List, [], ◌∷◌, ◌++◌, length, Some, IsTrue, slice_get}
use Rattle.std.specs.Prelude.{Ok, slice_set}
use Rattle.std.specs.List.{All, list_all}
use Rattle.std.proofs.lemmas.Bool.{and_parts}
use Rattle.std.proofs.lemmas.List.Elements.{All-tail}
use Rattle.rv_table.specs.Bounds.{IsSound}
use Rattle.rv_table.specs.Machine.{State, with_set}
use Rattle.rv_table.proofs.Shared.{with_register-other, with_register-same}
use Rattle.rv_table.specs.declared.request.Request.TheVariants as request
use Rattle.rv_asm.proofs.Shared.{reaches_then, reaches_weaker}
use Rattle.rv_asm.specs.Reaching.{Reaches}
use Rattle.cmm_simulation.specs.Seen.{Input}
use Rattle.cmm_program.specs.Memory.{IsByte}
use Rattle.cmm_machine_laws.specs.Observed.{event_at}
use Rattle.cmm_program.specs.declared.procedure.Target.{Target}
use Rattle.cmm_program.specs.declared.procedure.Target.TheVariants as target
use Rattle.cmm_program.specs.Performing.{next_byte, one_taken}
use Rattle.cmm_program.specs.State as p
use Rattle.cmm_program.specs.State.{Setting, Store}
use Rattle.cmm_graph.specs.declared.number.NodeId.{NodeId}
use Rattle.cmm_graph.specs.declared.operand.Destination.TheVariants as destination
use Rattle.cmm_graph.specs.declared.node.HostCall.TheVariants as host
use Rattle.cmm_graph.specs.declared.node.NodeKind.{NodeKind}
use Rattle.cmm_graph.specs.declared.node.NodeKind.TheVariants.{Host}
use Rattle.cmm_graph.specs.declared.graph.Graph.{Graph}
use Rattle.cmm_graph.specs.Acting.{act_of}
use Rattle.cmm_graph.specs.GraphControl.{kind_at}
use Rattle.cmm_graph.specs.Ranges.{IsValid, is_host, is_kind, is_step, leads_to}
use Rattle.cmm_effects.proofs.Shared.{reaches_more, reaches_sound, sound_taken}
use Rattle.cmm_effects.specs.Requests.{KeepsAsking, is_of_request}
use Rattle.cmm_select.specs.Destinations.{CanPut, PutsTo}
use Rattle.cmm_image_machine.specs.Machine as run
use Rattle.cmm_image_machine.specs.Machine.{Launch, map_of, requested}
use Rattle.cmm_emit_laws.specs.Outside.{Outside, outside, run_with}
use Rattle.cmm_emit_laws.specs.Serving.{Asking}
use Rattle.cmm_emit_laws.proofs.Carrying.{forget_values}
use Rattle.cmm_emit_laws.specs.Represented.{IsFor, IsPlaceOf, IsRepresented}
use Rattle.cmm_located.specs.Answering.{shown}
use Rattle.cmm_located.specs.Compiled.{Compiled, Located}
use Rattle.cmm_located.specs.LocatedMachine.{located_machine}
use Rattle.cmm_located.specs.Nodes.{keeping, ran_at}
use Rattle.cmm_emit_laws.proofs.Doing.{IsDone, kept_shown, stands_there, tokens_there}
use Rattle.cmm_emit_laws.proofs.Going.{place_is}
use Rattle.cmm_emit_laws.proofs.Putting.{asked_shown, never_over}
use Rattle.cmm_emit_laws.proofs.Targets.{can_put, count_with, holdings_with, put_shown, registers_with}
use Rattle.cmm_emit_laws.specs.Finished.{Finished}
use Rattle.cmm_emit_laws.specs.NodeCode.{GetByteCode}
use Rattle.cmm_emit_laws.specs.ProgramCode.{names_register, names_registers}
use Rattle.cmm_emit_laws.specs.Standing.{IsInBody, Stands, outside_at}

-- ---- the input

next_fits : (input : List ℕ) → All IsByte input → next_byte input < 2 ^ 64
next_fits [] all = omega arith
next_fits (byte ∷ rest) all = let fits : byte < 256 = all 0 0 (omega arith) in omega (arith, fits)

abbrev rest_of : List ℕ → List ℕ
rest_of [] = []
rest_of (byte ∷ rest) = rest

abbrev taken_with : List ℕ → List ℕ → List ℕ
taken_with [] taken = taken
taken_with (byte ∷ rest) taken = taken ++ byte ∷ []

rest_fits : (input : List ℕ) → All IsByte input → All IsByte (rest_of input)
rest_fits [] all = all
rest_fits (byte ∷ rest) all = All-tail IsByte byte rest all

store_taken : (store : Store) (input : List ℕ) → store.input ≡ input → one_taken store ≡ record store { input = rest_of input; taken = taken_with input store.taken }
store_taken store [] is = ap (λ (xs : List ℕ). elim xs as (λ _. Store) [ [] ↦ store | byte ∷ rest ↦ record store { input = rest; taken = store.taken ++ byte ∷ [] } ]) is
    ∙ ap (λ (xs : List ℕ). record store { input = xs }) is
store_taken store (byte ∷ rest) is = ap (λ (xs : List ℕ). elim xs as (λ _. Store) [ [] ↦ store | byte ∷ rest ↦ record store { input = rest; taken = store.taken ++ byte ∷ [] } ]) is

abbrev outside_of : Launch → Outside → State → List ℕ → Outside
outside_of l o u input = outside (elim input as (λ _. run.Run) [ [] ↦ run_with o u | byte ∷ rest ↦ record (run_with o u) { input = rest; taken = o.taken ++ byte ∷ [] } ])

-- what is outside once the next byte is taken
outside_taken : (l : Launch) (o : Outside) (u : State) (input : List ℕ) → o.input ≡ input →
    outside (requested l (run_with o u) request.GetByte) ≡ record o { input = rest_of input; taken = taken_with input o.taken }
outside_taken l o u [] is = ap (outside_of l o u) is ∙ ap (λ (xs : List ℕ). record o { input = xs }) is
outside_taken l o u (byte ∷ rest) is = ap (outside_of l o u) is

-- only the register of a request is set
set_keeps_asking : (t u : State) (n : ℕ) → KeepsAsking t u → KeepsAsking t (with_set u 10 n)
set_keeps_asking t u n keeps = record {
  registers = λ r is. with_register-other u.registers 10 n r (other r is) ∙ keeps.registers r is;
  memory = keeps.memory;
}
  where
    other : (r : ℕ) → is_of_request r ≡ false → r ≡ 10 → ⊥
    other r is same = let e : is_of_request 10 ≡ false = subst (λ (k : ℕ). is_of_request k ≡ false) same is in absurd (cc)

module _ (s : Setting) (c : Compiled) (l : Launch) (f : Finished) (rest : ℕ → ℕ) (is_for : IsFor s (map_of l)) (at : Located) (t : State) (stands : Stands s c l f rest at t)
    (body : IsInBody at) (g : Graph) (is_graph : slice_get c.graphs at.procedure ≡ Some g) (valid : IsValid g)
    (places : (v : ℕ) → IsPlaceOf s body.activation (c.plan.place at.procedure v)) (takes : Target) (next : NodeId) (cost : ℕ) (after : Located)
    (code : GetByteCode s c l f at.procedure at.node takes next cost) (fine : IsTrue (is_kind g (Host (host.GetByte takes) next)))
    (named : names_registers s.program (Host (host.GetByte takes) next) ≡ true) (kept : length at.store.registers ≡ length s.program.globals) (bytes : All IsByte at.store.input)
    (kind_is : kind_at c.graphs at.procedure at.node ≡ Host (host.GetByte takes) next) where
  leads : IsTrue (leads_to g is_step next)
  leads = (and_parts (is_host g (host.GetByte takes)) (leads_to g is_step next) fine).1

  named_there : list_all (names_register s.program) (takes ∷ []) ≡ true
  named_there = (and_parts (list_all (names_register s.program) (takes ∷ [])) true named).0

  abbrev value : ℕ
  value = next_byte at.store.input

  -- the store once the byte is taken from the input
  abbrev store_taking : Store
  store_taking = record at.store { input = rest_of at.store.input; taken = taken_with at.store.input at.store.taken }

  abbrev got : Located
  got = record at {
    store = record store_taking { registers = registers_with (destination.Target takes) value at.store.registers };
    holdings = holdings_with c at.procedure (destination.Target takes) value at.holdings;
  }

  -- ---- behind the request

  module _ (u : State) (sound : IsSound u) (keeps : KeepsAsking t u) where
    abbrev w : State
    w = with_set u 10 value

    sound_there : IsSound w
    sound_there = sound_taken u value (next_fits at.store.input bytes) sound

    shown_there : IsRepresented f.symbols rest s at.holdings store_taking [] w
    shown_there =
        asked_shown f rest s at.holdings at.store at.carried (rest_of at.store.input) (taken_with at.store.input at.store.taken) at.store.output t w
        (set_keeps_asking t u value keeps) stands.shown

    shown_put : (v : State) → PutsTo (f.labels at.procedure) code.into (w.registers 10) w v → IsRepresented f.symbols rest s got.holdings got.store at.carried v
    shown_put v puts =
        subst (λ (xs : List ℕ). IsRepresented f.symbols rest s got.holdings got.store xs v) (sym body.carried)
        (put_shown s c l f rest is_for at.procedure at.holdings store_taking body.activation body.older body.youngest places w shown_there kept value (next_fits at.store.input bytes) v
        (destination.Target takes) code.into code.is_into named_there
        (subst (λ (n : ℕ). PutsTo (f.labels at.procedure) code.into n w v) (with_register-same u.registers 10 value (omega arith)) puts))

    behind : Reaches (map_of l) 0 code.later w (λ v. (v.pc ≡ code.on) × PutsTo (f.labels at.procedure) code.into (w.registers 10) w v) →
        Reaches (map_of l) 0 (code.later + 2) w (Stands s c l f rest (record got { node = next }))
    behind reaches =
        reaches_weaker
        (reaches_then (reaches_sound reaches sound_there)
        (λ v there. reaches_more (reaches_sound (code.goes_on.go v there.1 there.0.0 tt) there.1)
        (λ x last. stands_there s c l f rest got g is_graph valid next leads x stands.running
        (record { activation = body.activation; older = body.older; youngest = body.youngest; same = body.same; carried = body.carried })
        (kept_shown f rest s l is_for got.holdings got.store at.carried v x last.0.1 (shown_put v there.0.1)) last.0.0 last.1)))
        (omega arith) (omega arith) (λ x last. last)

  reached : CanPut (f.labels at.procedure) code.into (map_of l) t
  reached = can_put s c l f rest is_for at.procedure at.holdings at.store body.activation body.older body.youngest places t
      (forget_values f.symbols rest s at.holdings at.store at.carried t stands.shown) kept (destination.Target takes) code.into code.is_into named_there

  asks_input : (located_machine s c).asks at ≡ Some Input
  asks_input =
      ap (λ (z : p.Status). event_at s z (shown s c at) (act_of (keeping s c at) (kind_at c.graphs at.procedure at.node))) stands.running
      ∙ ap (λ (kind : NodeKind). event_at s p.Running (shown s c at) (act_of (keeping s c at) kind)) kind_is

  taken : IsDone s c l f rest at cost t (record got { node = next })
  taken = record {
    tokens = tokens_there s c l f rest got g is_graph valid next leads;
    registers = count_with (destination.Target takes) value at.store.registers;
    bytes = rest_fits at.store.input;
    are_bare = λ b. b;
    by_code = λ e. Asking code.count (code.later + 2) request.GetByte (omega (arith, code.few))
        (reaches_weaker (reaches_sound (code.requests.go t stands.sound stands.pc reached) stands.sound) (omega arith) (omega arith) (λ u there. record {
          asks = there.0.1;
          event = λ event is. asks_input ∙ is;
          outside = outside_taken l (outside_at at) u at.store.input refl ∙ sym (ap outside_at e);
          running = λ going. subst (λ (z : Located). Reaches (map_of l) 0 (code.later + 2) (with_set u 10 value) (Stands s c l f rest z)) (sym e)
              (behind u there.1 there.0.0 (there.0.2 (with_set u 10 value) (value, next_fits at.store.input bytes, refl)));
          over = λ outcome ended. absurd (never_over (ap (λ (z : Located). z.store.status) e ∙ stands.running) ended);
        }));
  }

  -- where a target takes the byte, with this store
  abbrev got_with : Target → Store → Located
  got_with (target.Variable number width) store = record at { store = store; holdings = holdings_with c at.procedure (destination.Target (target.Variable number width)) value at.holdings; node = next }
  got_with (target.Register number width) store = record at { store = record store { registers = slice_set store.registers number value }; node = next }

  pub byte_taken : ran_at s c (Host (host.GetByte takes) next) at ≡ Ok after → IsDone s c l f rest at cost t after
  byte_taken is = subst (λ (z : Located). IsDone s c l f rest at cost t z) (sym (found takes) ∙ ran takes is) taken
    where
      ran : (to : Target) → ran_at s c (Host (host.GetByte to) next) at ≡ Ok after → got_with to (one_taken at.store) ≡ after
      ran (target.Variable number width) e = place_is e
      ran (target.Register number width) e = place_is e

      found : (to : Target) → got_with to (one_taken at.store) ≡ record at {
        store = record store_taking { registers = registers_with (destination.Target to) value at.store.registers };
        holdings = holdings_with c at.procedure (destination.Target to) value at.holdings;
        node = next;
      }
      found (target.Variable number width) = ap (got_with (target.Variable number width)) (store_taken at.store at.store.input refl)
      found (target.Register number width) = ap (got_with (target.Register number width)) (store_taken at.store at.store.input refl)
