-- the located machine simulates the machine over graphs
use Rattle.std.proofs.Common.{◌≡◌, ℕ, ◌+◌, ◌≤◌, Bool, true, false, List, arith, refl, sym, ap, ◌∙◌, subst}
use Rattle.cmm_simulation.proofs.Followings.{follows_of_simulates}
use Rattle.cmm_simulation.proofs.Simulations.{stepwise}
use Rattle.cmm_program.specs.Control.{State}
use Rattle.cmm_program.specs.Errors.{UncheckedError}
use Rattle.cmm_program.specs.State.{Setting, Status, Running, Waiting, Ended, Wrong}
use Rattle.cmm_graph.specs.GraphControl.{Position, graph_control}
use Rattle.cmm_graph.specs.GraphMachine.{graph_step, tokens_of_youngest}
use Rattle.cmm_graph.specs.Laws.{OrderIsByReads, ValueIsByReads}
use Rattle.cmm_located.specs.Clients.{IsShowable}
use Rattle.cmm_located.specs.Compiled.{Compiled, Located}
use Rattle.cmm_located.specs.LocatedMachine.{tokens_at}
use Rattle.cmm_located.specs.Relation.{Liveness, Related}
use Rattle.cmm_located.specs.RunningSteps.{IsCompiled}
use Rattle.cmm_located.specs.Simulating.{LocatedRunsFollowGraphs, LocatedRunsSimulateGraphs, step_cost}
use Rattle.cmm_located.specs.Steps.{IsFollowed, kind_of_youngest, leads_on}
use Rattle.cmm_located.proofs.Assembling.{costs_more, steps_are_followed}
use Rattle.cmm_located.proofs.Clients.{clients_are_followed}
use Rattle.cmm_located.proofs.Entries.{runs_begin_alike}
use Rattle.cmm_located.proofs.Following.{wrong_in}
use Rattle.cmm_located.proofs.LeadingOn.{nodes_are_followed}
use Rattle.cmm_located.proofs.Levels.{related_are_level}
use Rattle.cmm_located.proofs.Resting.{ends_are_followed}

-- where the status is that of a run that went wrong
at_wrong : {A : Type 0} (runs : A) (waits : List ℕ → A) (ends wrong : A) (status : Status) (error : UncheckedError) → status ≡ Wrong error →
    elim status as (λ _. A) [ Running ↦ runs | Waiting v ↦ waits v | Ended o ↦ ends | Wrong e ↦ wrong ] ≡ wrong
at_wrong {A = A} runs waits ends wrong status error is = ap (λ x. elim x as (λ _. A) [ Running ↦ runs | Waiting v ↦ waits v | Ended o ↦ ends | Wrong e ↦ wrong ]) is

module _ (by_reads : OrderIsByReads) (by_values : ValueIsByReads) (s : Setting) (c : Compiled) (live : Liveness) (most : ℕ) (compiled : IsCompiled s c live most)
    (showable : IsShowable s c) (st : State Position) (at : Located) (related : Related s c live st at) where
  abbrev here : Position
  here = record { procedure = at.procedure; node = at.node; temporaries = λ t. 0 }

  in_most : tokens_at s c at ≤ most
  in_most = compiled.within here

  goes_wrong : (error : UncheckedError) → st.store.status ≡ Wrong error → wrong_in (graph_step c.graphs s st).store ≡ false → ⊥
  goes_wrong error is right =
      let stays : graph_step c.graphs s st ≡ st = at_wrong _ _ _ _ st.store.status error is in
      differ (sym (ap (λ (x : State Position). wrong_in x.store) stays ∙ ap (λ status. elim status as (λ _. Bool) [ Wrong error ↦ true | _ ↦ false ]) is) ∙ right)
    where
      differ : true ≡ false → ⊥
      differ is = absurd (cc)

  abbrev running_cost : Bool → ℕ
  running_cost leads = elim leads as (λ _. ℕ) [ true ↦ tokens_of_youngest c.graphs st | false ↦ tokens_of_youngest c.graphs st + most ]

  cost_at : (status : Status) → st.store.status ≡ status → elim status as (λ _. ℕ) [ Running ↦ running_cost (leads_on (kind_of_youngest c st)) | _ ↦ most + most ]
      ≡ step_cost c most st
  cost_at status is = sym (ap (λ status. elim status as (λ _. ℕ) [ Running ↦ running_cost (leads_on (kind_of_youngest c st)) | _ ↦ most + most ]) is)

  running_leads : st.store.status ≡ Running → (leads : Bool) → leads_on (kind_of_youngest c st) ≡ leads → IsFollowed s c live (running_cost leads) st at
  running_leads is true leads = nodes_are_followed by_reads by_values s c live st at compiled.frames compiled.planned compiled.closed related is leads
  running_leads is false leads = steps_are_followed by_reads by_values s c live most st at compiled showable.live showable.sites related is

  step_leads : (status : Status) → st.store.status ≡ status → IsFollowed s c live (step_cost c most st) st at
  step_leads Running is = subst (λ n. IsFollowed s c live n st at) (cost_at Running is) (running_leads is (leads_on (kind_of_youngest c st)) refl)
  step_leads (Waiting values) is = let within = in_most in
      let cost = cost_at (Waiting values) is in
      costs_more s c live st at (tokens_at s c at + most) (step_cost c most st) (omega (arith, cost))
      (clients_are_followed s c live most values st at compiled showable related is)
  step_leads (Ended outcome) is = let within = in_most in
      let cost = cost_at (Ended outcome) is in
      costs_more s c live st at (tokens_at s c at) (step_cost c most st) (omega (arith, cost))
      (ends_are_followed s c live st at outcome showable.variables showable.live related is)
  step_leads (Wrong error) is = λ right. absurd (goes_wrong error is right)

pub located_runs_simulate_graphs : OrderIsByReads → ValueIsByReads → LocatedRunsSimulateGraphs
located_runs_simulate_graphs by_reads by_values s c live most compiled showable =
    stepwise (λ st at related. related_are_level s c live st at showable.variables showable.live related)
    (λ st at related. step_leads by_reads by_values s c live most compiled showable st at related st.store.status refl)

pub located_runs_follow_graphs : OrderIsByReads → ValueIsByReads → LocatedRunsFollowGraphs
located_runs_follow_graphs by_reads by_values s c live most p input compiled showable is_main none =
    follows_of_simulates (located_runs_simulate_graphs by_reads by_values s c live most compiled showable)
    (runs_begin_alike s c live p input compiled.frames compiled.planned is_main none (compiled.entries s.program.main p is_main))
