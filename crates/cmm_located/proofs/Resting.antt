-- a run that is over stays over
use Rattle.std.proofs.Common.{◌≡◌, ℕ, List, arith, sym, ap, ◌∙◌, subst}
use Rattle.cmm_program.specs.Control.{next_act}
use Rattle.cmm_program.specs.Errors.{UncheckedError}
use Rattle.cmm_program.specs.State.{Outcome, Status, Store, Running, Waiting, Ended, Wrong}
use Rattle.cmm_machine_laws.specs.Observed.{event_at, store_seen}
use Rattle.cmm_graph.specs.Acting.{act_of}
use Rattle.cmm_graph.specs.GraphControl.{graph_control, kind_at}
use Rattle.cmm_graph.specs.GraphMachine.{graph_step}
use Rattle.cmm_located.specs.Answering.{shown}
use Rattle.cmm_located.specs.LocatedMachine.{located_step, tokens_at}
use Rattle.cmm_located.specs.Nodes.{keeping}
use Rattle.cmm_located.specs.Relation.{IsStanding, Related}
use Rattle.cmm_located.specs.Resting.{EndsAreFollowed}
use Rattle.cmm_located.proofs.Following.{in_one}
use Rattle.cmm_located.proofs.Levels.{same_event}

-- where the status is an end
at_end : {A : Type 0} (runs : A) (waits : List ℕ → A) (ends : A) (wrong : UncheckedError → A) (status : Status) (outcome : Outcome) → status ≡ Ended outcome →
    elim status as (λ _. A) [ Running ↦ runs | Waiting values ↦ waits values | Ended o ↦ ends | Wrong error ↦ wrong error ] ≡ ends
at_end {A = A} runs waits ends wrong status outcome is =
    ap (λ x. elim x as (λ _. A) [ Running ↦ runs | Waiting values ↦ waits values | Ended o ↦ ends | Wrong error ↦ wrong error ]) is

pub ends_are_followed : EndsAreFollowed
ends_are_followed s c live st at outcome counts knows related over =
    let over_there : at.store.status ≡ Ended outcome = ap (λ (x : Store). x.status) related.store ∙ over in
    let stays : graph_step c.graphs s st ≡ st = at_end _ _ _ _ st.store.status outcome over in
    let stays_there : located_step s c at ≡ at = at_end _ _ _ _ at.store.status outcome over_there in
    let act = next_act (graph_control c.graphs) st.controls in
    let other = act_of (keeping s c at) (kind_at c.graphs at.procedure at.node) in
    let same : event_at s (Ended outcome) st.store act ≡ event_at s (Ended outcome) (shown s c at) other =
    same_event s c live st at counts knows related (Ended outcome) act other (subst (λ status. IsStanding s c live status st at) over related.stands) in
    let asks : event_at s st.store.status st.store act ≡ event_at s at.store.status (shown s c at) other =
    ap (λ status. event_at s status st.store act) over ∙ same ∙ sym (ap (λ status. event_at s status (shown s c at) other) over_there) in
    in_one s c live (tokens_at s c at) st at
    (λ right. subst (λ y. Related s c live (graph_step c.graphs s st) y) (sym stays_there) (subst (λ x. Related s c live x at) (sym stays) related))
    (λ event is. asks ∙ is) (ap store_seen related.store) (omega arith)
