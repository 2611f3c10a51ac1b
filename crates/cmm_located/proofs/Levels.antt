-- related states are level
use Rattle.std.proofs.Common.{◌≡◌, ℕ, ◌-◌, ◌<◌, Bool, true, false, List, [], ◌∷◌, Some, None, arith, refl, sym, ap, ◌∙◌}
use Rattle.std.specs.Prelude.{nat_lt, slice_index_or}
use Rattle.std.specs.List.{AllZip}
use Rattle.std.proofs.lemmas.Bool.Decides.{nat_tests}
use Rattle.cmm_simulation.specs.Seen.{Client, End, but_input}
use Rattle.cmm_script.specs.Walk as walk
use Rattle.cmm_program.specs.Acts.{Act, Nothing, Assign, Choose, PutByte, GetByte, Call, Yield, Checked, Jump, Return, Cut, Fail}
use Rattle.cmm_program.specs.Control.{State, next_act}
use Rattle.cmm_program.specs.State.{Setting, Activation, Status, Running, Waiting, Ended, Wrong, Done, Stopped, StackLimit, Store, stack_top}
use Rattle.cmm_program.specs.Walks.{walk_of}
use Rattle.cmm_machine_laws.specs.Observed.{ending_of, event_at, store_seen}
use Rattle.cmm_graph.specs.Acting.{act_of}
use Rattle.cmm_graph.specs.GraphControl.{Position, graph_control, kind_at}
use Rattle.cmm_located.specs.Answering.{shown}
use Rattle.cmm_located.specs.Compiled.{Compiled, Located}
use Rattle.cmm_located.specs.Nodes.{keeping}
use Rattle.cmm_located.specs.Laws.{HasVariables, RelatedAreLevel}
use Rattle.cmm_located.specs.Relation.{Liveness, Related, AllWait, Waits, IsStanding, IsSuspendedAll, site_number, suspension_of, suspensions, variable_count}
use Rattle.cmm_located.specs.ShownWalks.{IsToldOf, KnowsLive}
use Rattle.cmm_located.proofs.ShowingWalks.{walk_is_shown}

-- ---- suspensions tell of activations that wait

module _ (s : Setting) (c : Compiled) (counts : HasVariables s c) where
  told_of : (a : Activation) (p : Position) → Waits c.graphs a p → IsToldOf s a (suspension_of c.graphs a p)
  told_of a p waits = record {
    procedure = refl;
    site = waits.is_site ∙ ap (λ n. Some n) (sym (ap site_number waits.is_site));
    values = λ q v is less.
        let is_variable : nat_lt v (variable_count c.graphs a.procedure) ≡ true =
        (let count = counts a.procedure q is in let under : v < variable_count c.graphs a.procedure = omega arith in grind (arith, nat_tests)) in
        ap (λ b. elim b as (λ _. ℕ) [
          | true ↦ slice_index_or a.variables v 0
          | false ↦ p.temporaries (record { number = v - variable_count c.graphs a.procedure })
        ]) is_variable;
  }

  pub all_told : (activations : List Activation) (ps : List Position) → AllWait c.graphs activations ps →
      AllZip (IsToldOf s) activations (suspensions c.graphs activations ps)
  all_told [] [] waits = tt
  all_told (a ∷ older) (p ∷ ps) waits = (told_of a p waits.0, all_told older ps waits.1)
  all_told [] (p ∷ ps) waits = absurd waits
  all_told (a ∷ older) [] waits = absurd waits

-- ---- events

-- a state that runs stands at no event but an input
no_event : (s : Setting) (store : Store) (act : Act) → but_input (event_at s Running store act) ≡ None
no_event s store Nothing = refl
no_event s store (Assign aims values) = refl
no_event s store (Choose way) = refl
no_event s store (PutByte value) = refl
no_event s store (GetByte t) = refl
no_event s store (Call site callee actuals) = refl
no_event s store (Yield site values) = refl
no_event s store (Checked site targets op width left right) = refl
no_event s store (Jump callee actuals) = refl
no_event s store (Return exit alternates values) = refl
no_event s store (Cut to values own) = refl
no_event s store (Fail error) = refl

module _ (s : Setting) (c : Compiled) (live : Liveness) (st : State Position) (at : Located) (counts : HasVariables s c) (knows : KnowsLive s c)
    (related : Related s c live st at) where
  same_walk : IsSuspendedAll s c st.store.activations st.controls at → walk_of s (shown s c at) ≡ walk_of s st.store
  same_walk waiting =
      walk_is_shown s c (stack_top s) st.store (suspensions c.graphs st.store.activations st.controls) at knows
      (all_told s c counts st.store.activations st.controls waiting.waits) waiting.chain (related.store ∙ ap (λ activations. record st.store { activations = activations }) waiting.ghosts)

  -- the walk of a run that waits or that the client has stopped is the same, so it stands at the same event
  pub same_event : (status : Status) (act other : Act) → IsStanding s c live status st at →
      but_input (event_at s status st.store act) ≡ but_input (event_at s status (shown s c at) other)
  same_event Running act other stands = no_event s st.store act ∙ sym (no_event s (shown s c at) other)
  same_event (Waiting values) act other stands =
      ap (λ (w : List walk.Activation). Some (Client (record { values = values; walk = Some w }))) (sym (same_walk stands))
  same_event (Ended Stopped) act other stands = ap (λ (w : List walk.Activation). Some (End (ending_of Stopped (Some w)))) (sym (same_walk stands))
  same_event (Ended (Done value)) act other stands = refl
  same_event (Ended StackLimit) act other stands = refl
  same_event (Wrong error) act other stands = refl

pub related_are_level : RelatedAreLevel
related_are_level s c live st at counts knows related =
    let act = next_act (graph_control c.graphs) st.controls in
    let other = act_of (keeping s c at) (kind_at c.graphs at.procedure at.node) in
    record {
      seen = sym (ap store_seen related.store);
      asks = same_event s c live st at counts knows related st.store.status act other related.stands
          ∙ sym (ap (λ (store : Store). but_input (event_at s store.status (shown s c at) other)) related.store);
      wrong = sym (ap (λ (store : Store). elim store.status as (λ _. Bool) [ Wrong error ↦ true | _ ↦ false ]) related.store);
    }
