-- The client's answer is done by one request, and at most three instructions behind it.
use Rattle.std.proofs.Common.{◌≡◌, inl, inr, ℕ, zero, suc, ◌≤◌, false, List, [], ◌∷◌, length, Option, Some, None, refl, sym, ap, ◌∙◌, subst, arith, slice_get, true, Bool}
use Rattle.std.proofs.lemmas.List.{length-map}
use Rattle.std.proofs.lemmas.Option.{same_Some}
use Rattle.rv_table.specs.Bounds.{IsSound}
use Rattle.rv_table.specs.Machine.{State, Asks}
use Rattle.rv_table.specs.declared.request.Request.TheVariants.{Yield}
use Rattle.rv_asm.proofs.Shared.{reaches_then, reaches_weaker}
use Rattle.rv_asm.specs.Reaching.{Reaches}
use Rattle.cmm_program.specs.Errors.{UncheckedError}
use Rattle.cmm_program.specs.State as p
use Rattle.cmm_program.specs.State.{Outcome, Setting}
use Rattle.cmm_script.specs.Walk as walk
use Rattle.cmm_simulation.specs.Seen.{Event, Client, End}
use Rattle.cmm_machine_laws.specs.Observed.{Call, Ending, LineUnseen, ending_of, event_at as stands_at, log_seen}
use Rattle.cmm_machine_laws.specs.Runs.{yielded as values_waiting}
use Rattle.cmm_graph.specs.Acting.{act_of}
use Rattle.cmm_graph.specs.GraphControl.{in_graph, kind_at}
use Rattle.cmm_graph.specs.Paths.{node_of}
use Rattle.cmm_graph.specs.declared.node.Node.{Node}
use Rattle.cmm_program.specs.Memory.{IsByte}
use Rattle.std.specs.List.{All}
use Rattle.cmm_graph.specs.declared.node.Exits.{Exits}
use Rattle.cmm_graph.specs.declared.number.ContinuationId.{ContinuationId}
use Rattle.cmm_graph.specs.declared.number.NodeId.{NodeId}
use Rattle.cmm_graph.specs.declared.graph.Graph.{Graph}
use Rattle.cmm_graph.specs.Counterpart.{numbers_of}
use Rattle.cmm_graph.specs.Ranges.{IsValid}
use Rattle.cmm_effects.specs.Changes.{Keeps}
use Rattle.cmm_effects.proofs.Shared.{reaches_more, reaches_sound}
use Rattle.cmm_program.specs.Asking.{Break, Chain}
use Rattle.cmm_program.specs.Commands as client
use Rattle.cmm_image_machine.specs.Frames.{Element, chain_of}
use Rattle.cmm_image_machine.specs.Machine.{Launch, Run, Status, Running, Ended, answered, goes_on, left, map_of, region_of, requested, yielded, yielded_at}
use Rattle.cmm_image_machine.specs.Observed.{asked_at}
use Rattle.cmm_image_machine.specs.Walks.{chain_walk}
use Rattle.cmm_emit_laws.specs.Outside.{Outside, outside, run_with}
use Rattle.cmm_emit_laws.specs.Serving.{Asking, IsAsked, IsDoneBy}
use Rattle.cmm_located.specs.Answering.{answered_at, shown}
use Rattle.cmm_located.specs.Compiled.{Compiled, Located, landing_in, site_exits}
use Rattle.cmm_located.specs.LocatedMachine.{located_machine, located_step, tokens_at}
use Rattle.cmm_located.specs.Nodes.{keeping}
use Rattle.cmm_client_laws.specs.Asked.{IsAtExit, IsResumedAs}
use Rattle.cmm_client_laws.specs.Keeping.{Keeps as KeepsOutside, PutOrRuns}
use Rattle.cmm_client_laws.specs.Laws.{IsTold}
use Rattle.cmm_client_laws.specs.Waiting.{IsClientDone}
use Rattle.cmm_client_laws.proofs.Shared.{answers_keep, call_is, client_done, ending_is}
use Rattle.cmm_emit_laws.proofs.Shared.{found_in, inside_copy, kept_shown, landing_holds, node_holds, normal_holds, step_is, there_too}
use Rattle.cmm_emit_laws.specs.Finished.{Finished}
use Rattle.cmm_emit_laws.specs.NodeCode.{SiteCode}
use Rattle.cmm_emit_laws.specs.ProgramCode.{IsCodeAround}
use Rattle.cmm_emit_laws.specs.Standing.{IsOfRun, IsYoungest, Stands, outside_at, status_of}
use Rattle.cmm_yield_laws.specs.Standing.{StandsOrWaits, WaitsAt}
use Rattle.cmm_yield_laws.specs.Yielding.{HaveSiteExits}

numbered : (ks : List ContinuationId) (i k : ℕ) → slice_get (numbers_of ks) i ≡ Some k → (id : ContinuationId) × (slice_get ks i ≡ Some id) × (id.number ≡ k)
numbered [] i k is = absurd (cc)
numbered (id ∷ ks) zero k is = (id, refl, same_Some id.number k is)
numbered (id ∷ ks) (suc i) k is = numbered ks i k is

-- what of a run is outside stays, but for log and status
left_keeps : (rest : client.Left State State) (run : Run) → ((left rest run).input ≡ run.input) × ((left rest run).taken ≡ run.taken) × ((left rest run).output ≡ run.output)
left_keeps (client.Running u) run = (refl, refl, refl)
left_keeps (client.Stopped u) run = (refl, refl, refl)
left_keeps (client.Torn b u) run = (refl, refl, refl)

yield_keeps : (l : Launch) (run : Run) → ((requested l run Yield).input ≡ run.input) × ((requested l run Yield).taken ≡ run.taken) × ((requested l run Yield).output ≡ run.output)
yield_keeps l run = by chain_here.activations chain_here.broken
  where
    chain_here : Chain Element
    chain_here = chain_of l.image (region_of l) (goes_on run).machine

    by : (xs : List Element) (b : Option Break) → let after = yielded l (record { activations = xs; broken = b }) (goes_on run) in
        (after.input ≡ run.input) × (after.taken ≡ run.taken) × (after.output ≡ run.output)
    by (x ∷ xs) b = left_keeps (answered l (yielded_at (region_of l) (goes_on run).machine (x ∷ xs)) (goes_on run).machine).left _
    by [] (Some b) = (refl, refl, refl)
    by [] None = left_keeps (answered l (yielded_at (region_of l) (goes_on run).machine []) (goes_on run).machine).left _

module _ (line : LineUnseen) (s : Setting) (c : Compiled) (l : Launch) (f : Finished) (rest : ℕ → ℕ) (code : IsCodeAround s c l f) (told : IsTold s c f.symbols l) (have : HaveSiteExits s c) where
  -- ---- from where the client resumes to the CopyIn

  reaches_here : (t : State) (P : State → Type 0) → P t → Reaches (map_of l) 0 3 t P
  reaches_here t P is = record { count = 0; to = t; enough = omega arith; few = omega arith; runs = refl; arrives = is }

  module _ (after : Located) (t : State) (resumed : IsResumedAs s c f.symbols rest l.image after t) (running : after.store.status ≡ p.Running) where
    valid : (g : Graph) → slice_get c.graphs after.procedure ≡ Some g → IsValid g
    valid = code.valid after.procedure

    youngest : IsYoungest after
    youngest = record { activation = resumed.activation; older = resumed.older; youngest = resumed.youngest; same = resumed.same }

    stands_at_landing : (k : ℕ) → landing_in c.graphs after.procedure k ≡ Some after.node → (u : State) → u.pc ≡ f.node_at after.procedure after.node → Keeps t u → IsSound u → Stands s c l f rest after u
    stands_at_landing k leads u pc keeps sound =
        let landing = landing_holds c.graphs after.procedure valid k after.node leads in record {
          running = running;
          node = landing.0;
          there = landing.1;
          inside = inside_copy landing.0.kind landing.2 after youngest;
          shown = kept_shown f rest s l code.is_for after.holdings after.store after.carried t u keeps resumed.shown;
          pc = pc;
          sound = sound;
        }

    stands_behind : (site : ℕ) (exits : Exits) → site_exits c.graphs after.procedure site ≡ Some exits → exits.normal ≡ Some after.node → (u : State) →
        u.pc ≡ f.node_at after.procedure after.node → Keeps t u → IsSound u → Stands s c l f rest after u
    stands_behind site exits is_exits normal u pc keeps sound =
        let landing = normal_holds c.graphs after.procedure valid site exits after.node is_exits normal in record {
          running = running;
          node = landing.0;
          there = landing.1;
          inside = inside_copy landing.0.kind landing.2 after youngest;
          shown = kept_shown f rest s l code.is_for after.holdings after.store after.carried t u keeps resumed.shown;
          pc = pc;
          sound = sound;
        }

    nothing_changed : Keeps t t
    nothing_changed = record { registers = λ r is. refl; memory = refl }

    comes : IsAtExit s c f.symbols l.image after t → Reaches (map_of l) 0 3 t (StandsOrWaits s c l f rest after)
    comes (IsAtExit.Landing k leads pc) =
        let lands = code.landings after.procedure k after.node leads in
        reaches_here t (StandsOrWaits s c l f rest after) (inl (stands_at_landing k leads t (pc ∙ sym lands.0) nothing_changed resumed.sound))
    comes (IsAtExit.Alternate proc site number n k is_proc is_site is_k leads pc) =
        let out = have after.procedure number proc site is_proc is_site in
        let behind : SiteCode s c l f after.procedure number out.0 = code.sites after.procedure number out.0 out.1 in
        let id = numbered out.0.returns n k (ap (λ (ks : List ℕ). slice_get ks n) out.2 ∙ is_k) in
        let label = there_too out.0.returns behind.labels n id.0 id.1 behind.count in
        let to_label = behind.table.alternate n label.0 label.1 in
        reaches_weaker
        (reaches_more (reaches_sound (to_label.goes.go t resumed.sound pc tt) resumed.sound)
        (λ u there. inl (stands_at_landing k leads u
        (there.0.0 ∙ behind.alternates n id.0 after.node label.0 id.1 (ap (λ (j : ℕ). landing_in c.graphs after.procedure j) id.2 ∙ leads) label.1) there.0.1 there.1)))
        (omega arith) (omega arith) (λ u there. there)
    comes (IsAtExit.Normal proc site number out is_proc is_site is_exits normal pc) =
        let has = have after.procedure number proc site is_proc is_site in
        let behind : SiteCode s c l f after.procedure number out = code.sites after.procedure number out is_exits in
        let same : has.0 ≡ out = same_Some has.0 out (sym has.1 ∙ is_exits) in
        let counted : length behind.labels ≡ length site.returns =
        behind.count ∙ sym (length-map out.returns (λ (k : ContinuationId). k.number)) ∙ ap (λ (e : Exits). length (numbers_of e.returns)) (sym same) ∙ ap (λ (ks : List ℕ). length ks) has.2 in
        reaches_weaker
        (reaches_then (reaches_sound (behind.table.normal.go t resumed.sound (pc ∙ omega (arith, counted)) tt) resumed.sound)
        (λ v there. reaches_more (reaches_sound ((behind.normal after.node normal).go v there.1 there.0.0 tt) there.1)
        (λ w keeps. inl (stands_behind number out is_exits normal w keeps.0.0 (keeps_both t v w there.0.1 keeps.0.1) keeps.1))))
        (omega arith) (omega arith) (λ w there. there)
      where
        keeps_both : (a b d : State) → Keeps a b → Keeps b d → Keeps a d
        keeps_both a b d one two = record { registers = λ r is. two.registers r is ∙ one.registers r is; memory = two.memory ∙ one.memory }

  -- ---- the step

  module _ (at : Located) (t : State) (waiting : WaitsAt s c l f rest at t) where
    abbrev values : List ℕ
    values = waiting.values

    abbrev run : Run
    run = run_with (outside_at at) t

    steps_to : located_step s c at ≡ answered_at s c waiting.values at
    steps_to = step_is s c at (p.Waiting waiting.values) waiting.status

    going : status_of at.store.status ≡ Running
    going = ap status_of waiting.status

    logged : log_seen (values_waiting at.store.status) at.store.log ≡ waiting.waits.front
    logged = ap (λ (z : p.Status). log_seen (values_waiting z) at.store.log) waiting.status ∙ ap (log_seen (Some waiting.values)) waiting.waits.logged ∙ line waiting.values waiting.waits.front

    pub event_is : (e : Event Call Ending) → asked_at l t (Asks Yield) ≡ Some e → (located_machine s c).asks at ≡ Some e
    event_is e is =
        let call = call_is s c f.symbols rest l told.tables told.planned told.is_for told.region told.frames told.apart told.knows told.scripts waiting.values at (run_with (outside_at at) t) waiting.waits in
        ap (λ (z : p.Status). stands_at s z (shown s c at) (act_of (keeping s c at) (kind_at c.graphs at.procedure at.node))) waiting.status
        ∙ ap (λ (k : Call). client_of k) (sym call) ∙ is
      where
        client_of : Call → Option (Event Call Ending)
        client_of k = Some (Client k)

    done : IsClientDone s c f.symbols rest l.image (answered_at s c waiting.values at) (requested l (run_with (outside_at at) t) Yield)
    done = client_done s c f.symbols rest l told.tables told.planned told.is_for told.region told.frames told.apart told.knows told.scripts waiting.values at (run_with (outside_at at) t) waiting.waits going logged

    kept : KeepsOutside at (answered_at s c waiting.values at)
    kept = (answers_keep s c at waiting.values).0

    same_outside : (z : p.Status) (status : Status) (log : List ℕ) → (answered_at s c waiting.values at).store.status ≡ z → status_of z ≡ status → values_waiting z ≡ None →
        (requested l (run_with (outside_at at) t) Yield).status ≡ status → (answered_at s c waiting.values at).store.log ≡ (requested l (run_with (outside_at at) t) Yield).log →
        outside (requested l (run_with (outside_at at) t) Yield) ≡ outside_at (answered_at s c waiting.values at)
    same_outside z status log is stands silent there same_log =
        let after = answered_at s c waiting.values at in
        let image = requested l (run_with (outside_at at) t) Yield in
        let from = yield_keeps l (run_with (outside_at at) t) in
        let log_is : log_seen (values_waiting after.store.status) after.store.log ≡ after.store.log =
        ap (λ (y : p.Status). log_seen (values_waiting y) after.store.log) is ∙ ap (λ (o : Option (List ℕ)). log_seen o after.store.log) silent in
        ap (λ (i : List ℕ). parts i image.taken image.output image.log image.status) (from.0 ∙ sym kept.input)
        ∙ ap (λ (i : List ℕ). parts after.store.input i image.output image.log image.status) (from.1 ∙ sym kept.taken)
        ∙ ap (λ (i : List ℕ). parts after.store.input after.store.taken i image.log image.status) (from.2 ∙ sym kept.output)
        ∙ ap (λ (i : List ℕ). parts after.store.input after.store.taken after.store.output i image.status) (sym same_log ∙ sym log_is)
        ∙ ap (λ (i : Status). parts after.store.input after.store.taken after.store.output (log_seen (values_waiting after.store.status) after.store.log) i) (there ∙ sym stands ∙ sym (ap status_of is))
      where
        parts : List ℕ → List ℕ → List ℕ → List ℕ → Status → Outside
        parts input taken output log status = record { input = input; taken = taken; output = output; log = log; status = status }

    never : {o : Outcome} → Running ≡ Ended o → ⊥
    never is = absurd (cc)

    same_outcome : (a b : Outcome) → Ended a ≡ Ended b → a ≡ b
    same_outcome a b is = cc

    not_wrong : (e : UncheckedError) → (answered_at s c waiting.values at).store.status ≡ p.Wrong e → (located_machine s c).wrong (located_step s c at) ≡ true
    not_wrong e wrong = ap (λ (z : Located). (located_machine s c).wrong z) steps_to ∙ ap (λ (z : p.Status). elim z as (λ _. Bool) [ p.Wrong error ↦ true | _ ↦ false ]) wrong

    -- the state afterwards is one of the run
    pub answer_is_of_run : IsOfRun s c at → (located_machine s c).wrong (located_step s c at) ≡ false → IsOfRun s c (located_step s c at)
    answer_is_of_run run right = subst (λ (z : Located). IsOfRun s c z) (sym steps_to) (record {
      tokens = by_client done;
      registers = ap (λ (rs : List ℕ). length rs) kept.registers ∙ run.registers;
      bytes = subst (λ (i : List ℕ). All IsByte i) (sym kept.input) run.bytes;
      are_bare = kept.are_bare run.are_bare;
    })
      where
        tokens_of : (after : Located) (node : Node) → in_graph c.graphs after.procedure (λ g. node_of g after.node) ≡ Some node → 1 ≤ tokens_at s c after
        tokens_of after node there =
            let found = found_in c.graphs after.procedure (λ g. node_of g after.node) node there in
            let some = node_holds found.0 after.node node (code.valid after.procedure found.0 found.1) found.2 in
            let same : tokens_at s c after ≡ node.tokens = ap (λ (o : Option Node). elim o as (λ _. ℕ) [ Some node ↦ node.tokens | None ↦ 0 ]) there in
            omega (arith, same, some.0)

        at_exit : (after : Located) (u : State) → IsAtExit s c f.symbols l.image after u → 1 ≤ tokens_at s c after
        at_exit after u (IsAtExit.Landing k leads pc) =
            let landing = landing_holds c.graphs after.procedure (code.valid after.procedure) k after.node leads in tokens_of after landing.0 landing.1
        at_exit after u (IsAtExit.Alternate proc site number n k is_proc is_site is_k leads pc) =
            let landing = landing_holds c.graphs after.procedure (code.valid after.procedure) k after.node leads in tokens_of after landing.0 landing.1
        at_exit after u (IsAtExit.Normal proc site number out is_proc is_site is_exits normal pc) =
            let landing = normal_holds c.graphs after.procedure (code.valid after.procedure) number out after.node is_exits normal in tokens_of after landing.0 landing.1

        is_over : {z : p.Status} → z ≡ p.Running → z ≡ p.Ended p.Stopped → ⊥
        is_over a b = absurd (cc)

        by_client : IsClientDone s c f.symbols rest l.image (answered_at s c waiting.values at) (requested l (run_with (outside_at at) t) Yield) → 1 ≤ tokens_at s c (answered_at s c waiting.values at)
        by_client (IsClientDone.GoesOn image_runs runs resumed same_log) = at_exit (answered_at s c waiting.values at) (requested l (run_with (outside_at at) t) Yield).machine resumed.control
        by_client (IsClientDone.GoesWrong e wrong) = let never : (located_machine s c).wrong (located_step s c at) ≡ true = not_wrong e wrong in absurd (cc)
        by_client (IsClientDone.IsOver image_over over stopped same_log) = by_place (answers_keep s c at waiting.values).1
          where
            by_place : PutOrRuns at (answered_at s c waiting.values at) → 1 ≤ tokens_at s c (answered_at s c waiting.values at)
            by_place (inl put) =
                let same : tokens_at s c (answered_at s c waiting.values at) ≡ tokens_at s c at =
                ap (λ (q : ℕ). tokens_there q (answered_at s c waiting.values at).node) put.procedure ∙ ap (λ (n : NodeId). tokens_there at.procedure n) put.node in
                omega (arith, same, run.tokens)
              where
                tokens_there : ℕ → NodeId → ℕ
                tokens_there q n = elim (in_graph c.graphs q (λ g. node_of g n)) as (λ _. ℕ) [ Some node ↦ node.tokens | None ↦ 0 ]
            by_place (inr runs) = absurd (is_over runs over)

    is_asked : (located_machine s c).wrong (located_step s c at) ≡ false → IsAsked (located_machine s c) l outside_at (StandsOrWaits s c l f rest) (IsOfRun s c) at 3 Yield t
    is_asked right = by done
      where
        by : IsClientDone s c f.symbols rest l.image (answered_at s c waiting.values at) (requested l (run_with (outside_at at) t) Yield) →
            IsAsked (located_machine s c) l outside_at (StandsOrWaits s c l f rest) (IsOfRun s c) at 3 Yield t
        by (IsClientDone.GoesOn image_runs runs resumed same_log) = record {
          asks = waiting.asks;
          event = event_is;
          outside = same_outside p.Running Running [] runs refl refl image_runs same_log ∙ sym (ap outside_at steps_to);
          running = λ is. subst (λ (z : Located). Reaches (map_of l) 0 3 (requested l (run_with (outside_at at) t) Yield).machine (StandsOrWaits s c l f rest z)) (sym steps_to)
              (comes (answered_at s c waiting.values at) (requested l (run_with (outside_at at) t) Yield).machine resumed runs resumed.control);
          over = λ outcome is. absurd (never (sym (ap status_of runs) ∙ sym (ap (λ (z : Located). status_of z.store.status) steps_to) ∙ is));
        }
        by (IsClientDone.GoesWrong e wrong) =
            let there : (located_machine s c).wrong (located_step s c at) ≡ true = not_wrong e wrong in absurd (cc)
        by (IsClientDone.IsOver image_over over stopped same_log) = record {
          asks = waiting.asks;
          event = event_is;
          outside = same_outside (p.Ended p.Stopped) (Ended p.Stopped) [] over refl refl image_over same_log ∙ sym (ap outside_at steps_to);
          running = λ is. absurd (never (sym is ∙ ap (λ (z : Located). status_of z.store.status) steps_to ∙ ap status_of over));
          over = λ outcome is.
              let one : p.Stopped ≡ outcome = same_outcome p.Stopped outcome (sym (ap status_of over) ∙ sym (ap (λ (z : Located). status_of z.store.status) steps_to) ∙ is) in
              let walks = ending_is s c f.symbols rest l told.tables told.planned told.is_for told.region told.frames told.apart told.knows told.scripts (answered_at s c waiting.values at) (requested l (run_with (outside_at at) t) Yield).machine stopped in
              ap (λ (z : Located). (located_machine s c).asks z) steps_to
              ∙ ap (λ (z : p.Status). stands_at s z (shown s c (answered_at s c waiting.values at)) (act_of (keeping s c (answered_at s c waiting.values at)) (kind_at c.graphs (answered_at s c waiting.values at).procedure (answered_at s c waiting.values at).node))) over
              ∙ ap (λ (w : Option (List walk.Activation)). ended p.Stopped w) (sym walks)
              ∙ ap (λ (o : Outcome). ended o (chain_walk l.image (region_of l) (requested l (run_with (outside_at at) t) Yield).machine)) one;
        }
          where
            ended : Outcome → Option (List walk.Activation) → Option (Event Call Ending)
            ended o w = Some (End (ending_of o w))

    -- the client's answer is done by code
    pub waiting_done : (located_machine s c).wrong (located_step s c at) ≡ false → (cost : ℕ) → 4 ≤ cost → IsDoneBy (located_machine s c) l outside_at (StandsOrWaits s c l f rest) (IsOfRun s c) at cost t
    waiting_done right cost enough = Asking 0 3 Yield (omega (arith, enough))
        (record { count = 0; to = t; enough = omega arith; few = omega arith; runs = refl; arrives = is_asked right })
