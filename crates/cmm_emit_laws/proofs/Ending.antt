-- A run ends by the request that tells how.
use Rattle.std.proofs.Common.{◌≡◌, ℕ, ◌+◌, ◌≤◌, sym, ◌∙◌, ap, subst, List, length, Option, Some}
use Rattle.std.specs.List.{All}
use Rattle.rv_table.specs.Machine.{State, Asks, instruction_step}
use Rattle.rv_table.specs.declared.request.Request.{Request}
use Rattle.rv_asm.specs.Reaching.{Reaches}
use Rattle.cmm_script.specs.Walk.{Activation}
use Rattle.cmm_simulation.specs.Seen.{Event, End}
use Rattle.cmm_program.specs.State as p
use Rattle.cmm_program.specs.State.{Outcome, Setting}
use Rattle.cmm_graph.specs.Acting.{act_of}
use Rattle.cmm_graph.specs.GraphControl.{kind_at}
use Rattle.cmm_program.specs.Memory.{IsByte}
use Rattle.cmm_machine_laws.specs.Observed.{Call, Ending, ending_of, event_at, log_seen}
use Rattle.cmm_machine_laws.specs.Runs.{yielded}
use Rattle.cmm_effects.proofs.Shared.{reaches_more}
use Rattle.cmm_image_machine.specs.Machine.{Launch, Status, Running, Ended, map_of, region_of, requested}
use Rattle.cmm_image_machine.specs.Observed.{asked_at}
use Rattle.cmm_image_machine.specs.Observed as run
use Rattle.cmm_image_machine.specs.Walks.{chain_walk}
use Rattle.cmm_program.specs.Walks.{walk_of}
use Rattle.cmm_emit_laws.specs.Outside.{Outside, outside, run_with}
use Rattle.cmm_emit_laws.specs.Serving.{Asking}
use Rattle.cmm_located.specs.Answering.{shown}
use Rattle.cmm_located.specs.Compiled.{Compiled, Located}
use Rattle.cmm_located.specs.LocatedMachine.{located_machine, located_step, tokens_at}
use Rattle.cmm_located.specs.Nodes.{keeping}
use Rattle.cmm_emit_laws.proofs.Doing.{IsDone}
use Rattle.cmm_emit_laws.specs.Finished.{Finished}
use Rattle.cmm_emit_laws.specs.Standing.{AreBare, outside_at, status_of}

-- The request leaves just the outcome, stands at no event, and the ending has no walk.
pub record IsEnd (l : Launch) (request : Request) (outcome : Outcome) : Type 0 where
  pub leaves : (o : Outside) (u : State) → outside (requested l (run_with o u) request) ≡ record o { status = Ended outcome }
  pub silent : (u : State) (e : Event Call Ending) → asked_at l u (Asks request) ≡ Some e → ⊥
  pub plain : (walk other : Option (List Activation)) → ending_of outcome walk ≡ ending_of outcome other

-- what is outside once a running state has ended
pub ended_outside : (at : Located) (outcome : Outcome) → at.store.status ≡ p.Running →
    record { input = at.store.input; taken = at.store.taken; output = at.store.output; log = at.store.log; status = Ended outcome } ≡ record (outside_at at) { status = Ended outcome }
ended_outside at outcome running =
    ap (λ (z : p.Status). outside_with (log_seen (yielded z) at.store.log)) (sym running)
  where
    outside_with : List ℕ → Outside
    outside_with log = record { input = at.store.input; taken = at.store.taken; output = at.store.output; log = log; status = Ended outcome }

module _ (s : Setting) (c : Compiled) (l : Launch) (f : Finished) (rest : ℕ → ℕ) (at : Located) (t : State) where
  pub ends : (request : Request) (outcome : Outcome) → IsEnd l request outcome → (after : Located) → after.store.status ≡ p.Ended outcome →
      outside_at after ≡ record (outside_at at) { status = Ended outcome } → 1 ≤ tokens_at s c after → length after.store.registers ≡ length at.store.registers → (AreBare at → AreBare after) → (cost before : ℕ) → before + 1 + 0 ≤ cost →
      Reaches (map_of l) 0 before t (λ u. instruction_step (map_of l) u ≡ Asks request) → IsDone s c l f rest at cost t after
  ends request outcome end after over left tokens count are_bare cost before few reaches = record {
    tokens = tokens;
    registers = count;
    bytes = subst (All IsByte) (sym (ap (λ (o : Outside). o.input) left));
    are_bare = are_bare;
    by_code = λ e. Asking before 0 request few (reaches_more reaches (λ u asks. record {
      asks = asks;
      event = λ event is. absurd (end.silent u event is);
      outside = end.leaves (outside_at at) u ∙ sym left ∙ sym (ap outside_at e);
      running = λ going. absurd (never (status_after (located_step s c at) e) going);
      over = λ other is. asks_end (located_step s c at) e ∙ ended_alike u other (same (located_step s c at) e other is);
    }));
  }
    where
      status_after : (z : Located) → z ≡ after → status_of z.store.status ≡ Ended outcome
      status_after z e = ap (λ (q : Located). status_of q.store.status) e ∙ ap status_of over

      never : {z : Status} → z ≡ Ended outcome → z ≡ Running → ⊥
      never is going = absurd (cc)

      same : (z : Located) → z ≡ after → (other : Outcome) → status_of z.store.status ≡ Ended other → outcome ≡ other
      same z e other is = let g : Ended outcome ≡ Ended other = sym (status_after z e) ∙ is in cc

      asks_end : (z : Located) → z ≡ after → (located_machine s c).asks z ≡ Some (End (ending_of outcome (Some (walk_of s (shown s c z)))))
      asks_end z e = ap (λ (q : p.Status). event_at s q (shown s c z) (act_of (keeping s c z) (kind_at c.graphs z.procedure z.node)))
          (ap (λ (q : Located). q.store.status) e ∙ over)

      ended_alike : (u : State) (other : Outcome) → outcome ≡ other →
          Some (End (ending_of outcome (Some (walk_of s (shown s c (located_step s c at)))))) ≡
          run.event_at l (requested l (run_with (outside_at at) u) request).machine (Ended other)
      ended_alike u other is =
          let m = (requested l (run_with (outside_at at) u) request).machine in
          ap (λ (e : Ending). Some (End e)) (end.plain (Some (walk_of s (shown s c (located_step s c at)))) (chain_walk l.image (region_of l) m))
          ∙ ap (λ (o : Outcome). run.event_at l m (Ended o)) is
