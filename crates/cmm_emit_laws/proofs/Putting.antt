-- A byte is put.
use Rattle.std.proofs.Common.{◌≡◌, ℕ, ◌+◌, ◌%◌, refl, sym, ◌∙◌, ap, subst, arith, true, false, List, [], ◌∷◌, ◌++◌, Some, IsTrue, slice_get}
use Rattle.std.specs.Prelude.{Ok, Err}
use Rattle.std.proofs.lemmas.Bool.{and_parts}
use Rattle.std.proofs.lemmas.Bool.Decides.{nat_tests}
use Rattle.rv_table.specs.Bounds.{IsSound}
use Rattle.rv_table.specs.Machine.{State, Asks}
use Rattle.rv_table.specs.declared.request.Request.TheVariants as request
use Rattle.rv_asm.proofs.Shared.{reaches_then, reaches_weaker}
use Rattle.rv_asm.specs.Reaching.{Reaches}
use Rattle.cmm_program.specs.Errors.{Tried, and_then}
use Rattle.cmm_program.specs.Orders as order
use Rattle.cmm_program.specs.State as p
use Rattle.cmm_program.specs.State.{Outcome, Setting, Store}
use Rattle.cmm_graph.specs.declared.number.NodeId.{NodeId}
use Rattle.cmm_graph.specs.declared.operand.Operand.{Operand}
use Rattle.cmm_graph.specs.declared.node.HostCall.TheVariants as host
use Rattle.cmm_graph.specs.declared.node.NodeKind.TheVariants.{Host}
use Rattle.cmm_graph.specs.declared.graph.Graph.{Graph}
use Rattle.cmm_graph.specs.Ranges.{IsValid, is_host, is_kind, is_step, leads_to}
use Rattle.cmm_graph.specs.Values.{operand_value}
use Rattle.cmm_abi.specs.Registers.{is_callee_saves, is_temporary}
use Rattle.cmm_chain.specs.Running.{Holdings}
use Rattle.cmm_effects.proofs.Shared.{reaches_more, reaches_sound, sound_behind}
use Rattle.cmm_effects.specs.Requests.{KeepsAsking, is_of_request}
use Rattle.cmm_select.specs.Operands.{CanBringOperand, operand_at}
use Rattle.cmm_image_machine.specs.Changes.{at_pc}
use Rattle.cmm_image_machine.specs.Machine.{Launch, Running, Ended, map_of}
use Rattle.cmm_emit_laws.specs.Serving.{Asking}
use Rattle.cmm_emit_laws.proofs.Showing.{no_values}
use Rattle.cmm_emit_laws.proofs.WrittenWords.{shown_same}
use Rattle.cmm_emit_laws.specs.Represented.{IsFor, IsPlaceOf, IsRepresented, stack_region}
use Rattle.cmm_located.specs.Compiled.{Compiled, Located}
use Rattle.cmm_located.specs.Nodes.{done, keeping, ran_at, reads_at}
use Rattle.cmm_emit_laws.proofs.Doing.{IsDone, kept_shown, stands_there, tokens_there}
use Rattle.cmm_emit_laws.proofs.Going.{place_is}
use Rattle.cmm_emit_laws.proofs.Operands.{operand_is}
use Rattle.cmm_emit_laws.specs.Finished.{Finished}
use Rattle.cmm_emit_laws.specs.NodeCode.{PutByteCode}
use Rattle.cmm_emit_laws.specs.Standing.{IsInBody, Stands, outside_at, status_of}

-- only registers of a request are changed, and something may be put or taken
pub asked_shown : (f : Finished) (rest : ℕ → ℕ) (s : Setting) (h : Holdings) (store : Store) (carried input taken output : List ℕ) (t u : State) → KeepsAsking t u →
    IsRepresented f.symbols rest s h store carried t → IsRepresented f.symbols rest s h (record store { input = input; taken = taken; output = output }) [] u
asked_shown f rest s h store carried input taken output t u keeps shown = record {
  holdings = record {
    zero = keeps.registers 0 refl ∙ shown.holdings.zero;
    frame = keeps.registers 2 refl ∙ shown.holdings.frame;
    region = keeps.registers 4 refl ∙ shown.holdings.region;
    back = shown_same f.symbols h.point.back (t.registers 1) (u.registers 1) (λ known. keeps.registers 1 refl) shown.holdings.back;
    kept = λ r is. shown_same f.symbols (h.point.kept r) (t.registers r) (u.registers r) (λ known. keeps.registers r (saved_apart r is)) (shown.holdings.kept r is);
    temps = λ r is. shown_same f.symbols (h.temps r) (t.registers r) (u.registers r) (λ known. keeps.registers r (temporary_apart r is)) (shown.holdings.temps r is);
  };
  words = rw keeps.memory shown.words;
  cells = rw keeps.memory shown.cells;
  registers = rw keeps.memory shown.registers;
  elsewhere = rw keeps.memory shown.elsewhere;
  values = no_values (stack_region s) u;
  stack = shown.stack;
  at = shown.at;
}
  where
    saved_apart : (r : ℕ) → is_callee_saves r ≡ true → is_of_request r ≡ false
    saved_apart r is = grind (arith, nat_tests)

    temporary_apart : (r : ℕ) → is_temporary r ≡ true → is_of_request r ≡ false
    temporary_apart r is = grind (arith, nat_tests)

-- a run that goes on is not over
pub never_over : {z : p.Status} {outcome : Outcome} → z ≡ p.Running → status_of z ≡ Ended outcome → ⊥
never_over running ended = let e : Running ≡ _ = sym (ap status_of running) ∙ ended in absurd (cc)

module _ (s : Setting) (c : Compiled) (l : Launch) (f : Finished) (rest : ℕ → ℕ) (is_for : IsFor s (map_of l)) (at : Located) (t : State) (stands : Stands s c l f rest at t)
    (body : IsInBody at) (g : Graph) (is_graph : slice_get c.graphs at.procedure ≡ Some g) (valid : IsValid g)
    (places : (v : ℕ) → IsPlaceOf s body.activation (c.plan.place at.procedure v)) (value : Operand) (next : NodeId) (cost : ℕ) (after : Located)
    (code : PutByteCode s c l f at.procedure at.node value next cost) (fine : IsTrue (is_kind g (Host (host.PutByte value) next))) where
  leads : IsTrue (leads_to g is_step next)
  leads = (and_parts (is_host g (host.PutByte value)) (leads_to g is_step next) fine).1

  abbrev store_after : ℕ → Store
  store_after v = record at.store { output = at.store.output ++ v % 256 ∷ [] }

  abbrev put : ℕ → Located
  put v = record at { store = store_after v }

  behind : (v : ℕ) (u : State) → IsSound u → KeepsAsking t u → Reaches (map_of l) 0 0 (at_pc (u.pc + 4) u) (λ w. (w.pc ≡ code.on) × (w ≡ at_pc (u.pc + 4) u)) →
      Reaches (map_of l) 0 2 (at_pc (u.pc + 4) u) (Stands s c l f rest (record (put v) { node = next }))
  behind v u sound keeps reaches =
      reaches_weaker
      (reaches_then reaches
      (λ w there. reaches_more (reaches_sound (code.goes_on.go w (subst IsSound (sym there.1) (sound_behind u sound)) there.0 tt) (subst IsSound (sym there.1) (sound_behind u sound)))
      (λ x last. stands_there s c l f rest (put v) g is_graph valid next leads x stands.running
      (record { activation = body.activation; older = body.older; youngest = body.youngest; same = body.same; carried = body.carried })
      (kept_shown f rest s l is_for at.holdings (store_after v) at.carried w x last.0.1
      (subst (λ (z : State). IsRepresented f.symbols rest s at.holdings (store_after v) at.carried z) (sym there.1)
      (subst (λ (xs : List ℕ). IsRepresented f.symbols rest s at.holdings (store_after v) xs (at_pc (u.pc + 4) u)) (sym body.carried)
      (asked_shown f rest s at.holdings at.store at.carried at.store.input at.store.taken (at.store.output ++ v % 256 ∷ []) t (at_pc (u.pc + 4) u)
      (record { registers = keeps.registers; memory = keeps.memory }) stands.shown)))) last.0.0 last.1)))
      (omega arith) (omega arith) (λ x last. last)

  asked : (v : ℕ) → operand_at (f.labels at.procedure) code.operand t ≡ v → CanBringOperand code.operand (map_of l) t → IsDone s c l f rest at cost t (record (put v) { node = next })
  asked v is_v brings = record {
    tokens = tokens_there s c l f rest (put v) g is_graph valid next leads;
    registers = refl;
    bytes = λ all. all;
    are_bare = λ b. b;
    by_code = λ e. Asking code.count 2 (request.PutByte (v % 256)) (omega (arith, code.few))
        (reaches_weaker (reaches_sound (code.requests.go t stands.sound stands.pc brings) stands.sound) (omega arith) (omega arith) (λ u there. record {
          asks = there.0.1 ∙ ap (λ (n : ℕ). Asks (request.PutByte (n % 256))) is_v;
          event = λ event is. absurd (cc);
          outside = sym (ap outside_at e);
          running = λ going. subst (λ (z : Located). Reaches (map_of l) 0 2 (at_pc (u.pc + 4) u) (Stands s c l f rest z)) (sym e)
              (behind v u there.1 there.0.0 (there.0.2 (at_pc (u.pc + 4) u) refl));
          over = λ outcome ended. absurd (never_over (ap (λ (z : Located). z.store.status) e ∙ stands.running) ended);
        }));
  }

  pub byte_put : ran_at s c (Host (host.PutByte value) next) at ≡ Ok after → IsDone s c l f rest at cost t after
  byte_put is = by (operand_value (keeping s c at).held value (reads_at s c at)) refl is
    where
      by : (v : Tried ℕ) → operand_value (keeping s c at).held value (reads_at s c at) ≡ v →
          and_then (and_then v (λ n. Ok (order.PutByte n))) (λ o. done s c (Host (host.PutByte value) next) o at) ≡ Ok after → IsDone s c l f rest at cost t after
      by (Ok v) is_v e =
          let found = operand_is s c l f rest is_for at t body.activation body.older body.youngest places stands.shown value code.operand v code.is_value is_v in
          subst (λ (z : Located). IsDone s c l f rest at cost t z) (place_is e) (asked v found.0 found.1)
      by (Err error) is_v e = absurd (cc)
