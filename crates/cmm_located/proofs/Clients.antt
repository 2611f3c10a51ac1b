-- the client's answer, command by command
use Rattle.std.proofs.Common.{◌≡◌, inl, inr, ℕ, suc, ◌+◌, List, ◌++◌, slice_get, Some, arith, refl, sym, ap, ◌∙◌, subst}
use Rattle.cmm_script.specs.Walk.{Shown}
use Rattle.cmm_program.specs.Client as client
use Rattle.cmm_program.specs.Client.{Landed, answered, chain_behind, left_by, located_shown, store_askable, with_data, with_log, with_variable}
use Rattle.cmm_program.specs.Commands as command
use Rattle.cmm_program.specs.Commands.{Left, answer_to}
use Rattle.cmm_program.specs.Control.{next_act, transferred}
use Rattle.cmm_program.specs.Errors.{UncheckedError}
use Rattle.cmm_program.specs.State.{Setting, Status, Store, Running, Waiting, Ended, Wrong}
use Rattle.cmm_program.proofs.Shared.{youngest_is}
use Rattle.cmm_machine_laws.specs.Alike.{AreAlike, LeftAlike}
use Rattle.cmm_machine_laws.specs.Observed.{event_at, store_seen}
use Rattle.cmm_machine_laws.proofs.Shared.{answers_are_alike}
use Rattle.cmm_graph.specs.Acting.{act_of}
use Rattle.cmm_graph.specs.GraphControl.{Position, graph_control, kind_at}
use Rattle.cmm_graph.specs.GraphMachine.{graph_step}
use Rattle.cmm_located.specs.Answering.{answered_at, left_at, logged_as, places_askable, set_number, shown, stopped, with_bytes}
use Rattle.cmm_located.specs.Clients.{ClientsAreFollowed, IsShowable}
use Rattle.cmm_located.specs.Compiled.{Compiled, Located}
use Rattle.cmm_located.specs.LocatedMachine.{located_step, tokens_at}
use Rattle.cmm_located.specs.Nodes.{keeping}
use Rattle.cmm_located.specs.Relation.{Liveness, IsStanding, IsSuspendedAll}
use Rattle.cmm_located.specs.RunningSteps.{IsCompiled}
use Rattle.cmm_located.specs.Steps.{IsFollowed}
use Rattle.cmm_located.proofs.Commands.{Chains, Changed, Comes, Exits, GoesOn, IsThere, Stay, chains_alike, cuts_alike, poke_alike, returns_alike, set_alike, shown_alike, unwinds}
use Rattle.cmm_located.proofs.Following.{in_one, in_two_from}
use Rattle.cmm_located.proofs.Levels.{same_event}
use Rattle.cmm_located.proofs.Standing.{Stands, waiting_of}

module _ (s : Setting) (c : Compiled) (live : Liveness) (most : ℕ) (compiled : IsCompiled s c live most) (showable : IsShowable s c) (ps : List Position) where
  parted : (x : Store) (at : Located) → Stands s c ps x at → at ≡ waiting_of x at.holdings at.procedure at.node at.carried
  parted x at stands = ap (λ store. record at { store = store }) stands.store

  -- a located state by its parts
  by_parts : (x : Store) (Q : Located → Type 0) (at : Located) → Stands s c ps x at → Q (waiting_of x at.holdings at.procedure at.node at.carried) → Q at
  by_parts x Q at stands holds = subst Q (sym (parted x at stands)) holds

  module _ (x : Store) (at : Located) (stands : Stands s c ps x at) where
    chains : (m : ℕ) → Chains s c live most ps x at (chain_behind s m x) (chain_behind s m (shown s c at))
    chains m = by_parts x (λ y. Chains s c live most ps x y (chain_behind s m x) (chain_behind s m (shown s c y))) at stands
        (chains_alike s c live most compiled showable ps x at.holdings at.procedure at.node at.carried stands.waits stands.chain m)

    older : (a b : client.Located) → a ≡ b →
        Chains s c live most ps x at ((store_askable s).older x a) ((places_askable s c).older at b)
    older a b is =
        subst (λ (d : client.Located). Chains s c live most ps x at ((store_askable s).older x a) ((places_askable s c).older at d))
        is (chains (suc a.younger))

    shows : (a b : client.Located) → IsThere s c live most ps x at a b → located_shown s x a ≡ located_shown s (shown s c at) b
    shows a b is = by_parts x (λ y. located_shown s x a ≡ located_shown s (shown s c y) a) at stands
        (shown_alike s c live most compiled showable ps x at.holdings at.procedure at.node at.carried stands.waits stands.chain a is.1)
        ∙ ap (located_shown s (shown s c at)) is.0

    sets : (a b : client.Located) (n value : ℕ) (v : Shown) (old : ℕ) → IsThere s c live most ps x at a b → slice_get (located_shown s x a).variables n ≡ Some v →
        v.value ≡ Some old → Stay s c live most ps x at (with_variable x a n value) (set_number s c b.younger n value at)
    sets a b n value v old is there live_ =
        subst (λ (d : client.Located). Stay s c live most ps x at (with_variable x a n value) (set_number s c d.younger n value at)) is.0
        (by_parts x (λ y. Stay s c live most ps x y (with_variable x a n value) (set_number s c a.younger n value y)) at stands
        (set_alike s c live most compiled showable ps x at.holdings at.procedure at.node at.carried stands.waits stands.chain a n value v old is.1 there live_))

    pokes : (name : List ℕ) (offset : ℕ) (bytes : List ℕ) →
        Changed s c live most ps x at (with_data s x name offset bytes) (with_bytes s c at name offset bytes)
    pokes name offset bytes = by_parts x (λ y. Changed s c live most ps x y (with_data s x name offset bytes)
        (with_bytes s c y name offset bytes)) at stands
        (poke_alike s c live most compiled showable ps x at.holdings at.procedure at.node at.carried stands.waits stands.chain name offset bytes)

    returns : (a b : client.Located) (n : ℕ) → a.younger ≡ 0 → IsThere s c live most ps x at a b →
        Exits s c live most ps ((store_askable s).return_exit x a n) ((places_askable s c).return_exit at b n)
    returns a b n first is =
        subst (λ (d : client.Located). Exits s c live most ps ((store_askable s).return_exit x a n) ((places_askable s c).return_exit at d n)) is.0
        (by_parts x (λ y. Exits s c live most ps ((store_askable s).return_exit x a n) ((places_askable s c).return_exit y a n)) at stands
        (returns_alike s c live most compiled showable ps x at.holdings at.procedure at.node at.carried stands.waits stands.chain a n first is.1))

    unwound : (a b : client.Located) (n : ℕ) → IsThere s c live most ps x at a b →
        Exits s c live most ps ((store_askable s).unwind_exit x a n) ((places_askable s c).unwind_exit at b n)
    unwound a b n is =
        subst (λ (d : client.Located). Exits s c live most ps ((store_askable s).unwind_exit x a n) ((places_askable s c).unwind_exit at d n)) is.0
        (by_parts x (λ y. Exits s c live most ps ((store_askable s).unwind_exit x a n) ((places_askable s c).unwind_exit y a n)) at stands
        (unwinds s c live most compiled showable ps x at.holdings at.procedure at.node at.carried stands.waits stands.chain a n is.1))

    cut : (a b : client.Located) (value : ℕ) → IsThere s c live most ps x at a b →
        Exits s c live most ps ((store_askable s).cut_exit x a value) ((places_askable s c).cut_exit at b value)
    cut a b value is =
        subst (λ (d : client.Located). Exits s c live most ps ((store_askable s).cut_exit x a value) ((places_askable s c).cut_exit at d value)) is.0
        (by_parts x (λ y. Exits s c live most ps ((store_askable s).cut_exit x a value) ((places_askable s c).cut_exit y a value)) at stands
        (cuts_alike s c live most compiled showable ps x at.holdings at.procedure at.node at.carried stands.waits stands.chain a value is.1))

  -- so both are asked alike
  asked_alike : AreAlike (Stands s c ps) (IsThere s c live most ps) (GoesOn s c live most ps) (store_askable s) (places_askable s c)
  asked_alike = record {
    chain = λ x at stands. chains x at stands 0;
    running = λ x at stands. chains x at stands 0;
    older = λ x at a b stands is. older x at stands a b is.0;
    shown = λ x at a b stands is. shows x at stands a b is;
    set = λ x at a b n value v old stands is there live_ less. sets x at stands a b n value v old is there live_;
    poked = λ x at name offset bytes are stands. pokes x at stands name offset bytes;
    returned = λ x at a b older others n stands is first also. returns x at stands a b n (youngest_is s 0 x.activations a older first) is;
    unwound = λ x at a b n stands is. unwound x at stands a b n is;
    cut = λ x at a b value stands is. cut x at stands a b value is;
  }

  -- ---- what an answer leaves

  stopped_alike : (log : List ℕ) (x : Store) (at : Located) → Stands s c ps x at →
      Comes s c live most ps (transferred (graph_control c.graphs) s (client.stopped (with_log log x)) ps) (logged_as log (stopped at))
  stopped_alike log x at stands =
      by_parts x (λ y. Comes s c live most ps (transferred (graph_control c.graphs) s (client.stopped (with_log log x)) ps) (logged_as log (stopped y))) at stands
      (inl record { store = refl; stands = record { ghosts = refl; waits = stands.waits; chain = stands.chain } })

  left_alike : (log text : List ℕ) (l : Left Store Landed) (m : Left Located Located) → LeftAlike (Stands s c ps) (IsThere s c live most ps) (GoesOn s c live most ps) l m →
      Comes s c live most ps (transferred (graph_control c.graphs) s (left_by log record { text = text; left = l }) ps) (left_at s c log record { text = text; left = m })
  left_alike log text (command.Running r) (command.Running y) alike = alike (log ++ text)
  left_alike log text (command.Stopped x) (command.Stopped at) alike = stopped_alike (log ++ text) x at alike
  left_alike log text (command.Running r) (command.Stopped at) alike = absurd alike
  left_alike log text (command.Running r) (command.Torn b at) alike = absurd alike
  left_alike log text (command.Stopped x) (command.Running y) alike = absurd alike
  left_alike log text (command.Stopped x) (command.Torn b at) alike = absurd alike
  left_alike log text (command.Torn b x) m alike = absurd alike

  answers_come : (values : List ℕ) (x : Store) (at : Located) → Stands s c ps x at →
      Comes s c live most ps (transferred (graph_control c.graphs) s (answered s values x) ps) (answered_at s c values at)
  answers_come values x at stands =
      let one = answer_to (store_askable s) s.script values x in
      let other = answer_to (places_askable s c) s.script values at in
      let alike = answers_are_alike (Stands s c ps) (IsThere s c live most ps) (GoesOn s c live most ps) (store_askable s) (places_askable s c) asked_alike s.script values x at stands in
      let there : Comes s c live most ps (transferred (graph_control c.graphs) s (left_by x.log one) ps) (left_at s c x.log record { text = one.text; left = other.left }) =
      left_alike x.log one.text one.left other.left alike.left in
      subst (λ log. Comes s c live most ps (transferred (graph_control c.graphs) s (left_by x.log one) ps) (left_at s c log other)) (sym (ap (λ (y : Store). y.log) stands.store))
      (subst (λ text. Comes s c live most ps (transferred (graph_control c.graphs) s (left_by x.log one) ps) (left_at s c x.log record { text = text; left = other.left })) alike.text there)

-- where the status is that of a run that waits
at_waiting : {A : Type 0} (runs : A) (waits : List ℕ → A) (ends : A) (wrong : UncheckedError → A) (status : Status) (values : List ℕ) → status ≡ Waiting values →
    elim status as (λ _. A) [ Running ↦ runs | Waiting v ↦ waits v | Ended o ↦ ends | Wrong error ↦ wrong error ] ≡ waits values
at_waiting {A = A} runs waits ends wrong status values is =
    ap (λ x. elim x as (λ _. A) [ Running ↦ runs | Waiting v ↦ waits v | Ended o ↦ ends | Wrong error ↦ wrong error ]) is

pub clients_are_followed : ClientsAreFollowed
clients_are_followed s c live most values st at compiled showable related status =
    let waiting : IsSuspendedAll s c st.store.activations st.controls at = subst (λ status. IsStanding s c live status st at) status related.stands in
    let stands : Stands s c st.controls st.store at =
    record { store = related.store ∙ ap (λ l. record st.store { activations = l }) waiting.ghosts; waits = waiting.waits; chain = waiting.chain } in
    let over_there : at.store.status ≡ Waiting values = ap (λ (x : Store). x.status) related.store ∙ status in
    let goes : graph_step c.graphs s st ≡ transferred (graph_control c.graphs) s (answered s values st.store) st.controls =
    at_waiting _ (λ v. transferred (graph_control c.graphs) s (answered s v st.store) st.controls) _ (λ _. st) st.store.status values status in
    let goes_there : located_step s c at ≡ answered_at s c values at = at_waiting _ (λ v. answered_at s c v at) _ (λ _. at) at.store.status values over_there in
    let comes : Comes s c live most st.controls (graph_step c.graphs s st) (located_step s c at) =
    subst (λ y. Comes s c live most st.controls (graph_step c.graphs s st) y) (sym goes_there)
    (subst (λ y. Comes s c live most st.controls y (answered_at s c values at)) (sym goes)
    (answers_come s c live most compiled showable st.controls values st.store at stands)) in
    let act = next_act (graph_control c.graphs) st.controls in
    let other = act_of (keeping s c at) (kind_at c.graphs at.procedure at.node) in
    let same : event_at s (Waiting values) st.store act ≡ event_at s (Waiting values) (shown s c at) other =
    same_event s c live st at showable.variables showable.live related (Waiting values) act other waiting in
    let asks : event_at s at.store.status (shown s c at) other ≡ event_at s st.store.status st.store act =
    ap (λ status. event_at s status (shown s c at) other) over_there ∙ sym same ∙ sym (ap (λ status. event_at s status st.store act) status) in
    elim comes as (λ _. IsFollowed s c live (tokens_at s c at + most) st at) [
      | inl there ↦ in_one s c live (tokens_at s c at + most) st at (λ right. there) (λ event is. sym asks ∙ is) (ap store_seen related.store) (omega arith)
      | inr moves ↦ in_two_from s c live (tokens_at s c at) most st moves.0 at (λ right. moves.1) (λ event is. sym asks ∙ is) (ap store_seen related.store) (omega arith)
    ]
