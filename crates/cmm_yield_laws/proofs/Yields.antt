-- A yield is done by code: its values go out, and control comes to the ECALL that calls the client.
use Rattle.std.proofs.Common.{not, ◌≡◌, inr, ℕ, zero, suc, Bool, true, false, List, [], ◌∷◌, ◌++◌, length, Option, Some, refl, sym, ap, ◌∙◌, subst, arith, slice_get}
use Rattle.std.specs.Prelude.{◌==◌, slice_index_or, Ok, Err}
use Rattle.std.specs.List.{AllZip}
use Rattle.std.proofs.lemmas.Bool.{or_parts, not-false}
use Rattle.std.proofs.lemmas.Option.{same_Some}
use Rattle.cmm_script.specs.Lines.{yield_line}
use Rattle.rv_table.specs.Bounds.{IsSound}
use Rattle.rv_table.specs.Machine.{State}
use Rattle.rv_asm.proofs.Shared.{reaches_then, reaches_weaker}
use Rattle.rv_asm.specs.Reaching.{Reaches}
use Rattle.cmm_program.specs.declared.procedure.Proc.{Proc}
use Rattle.cmm_program.specs.Acts.{values_of}
use Rattle.cmm_program.specs.Errors.{Tried, WrongAlternates, and_then, provided}
use Rattle.cmm_program.specs.Frames.{with_site}
use Rattle.cmm_program.specs.Orders as order
use Rattle.cmm_program.specs.State as p
use Rattle.cmm_program.specs.State.{Activation, Setting, Store, stack_top}
use Rattle.cmm_program.specs.Walks.{walk_of}
use Rattle.cmm_machine_laws.specs.Observed.{LineUnseen, log_seen}
use Rattle.cmm_machine_laws.specs.Runs.{yielded as values_waiting}
use Rattle.cmm_graph.specs.declared.node.Exits.{Exits}
use Rattle.cmm_graph.specs.declared.node.NodeKind.TheVariants as node
use Rattle.cmm_graph.specs.declared.number.SiteId.{SiteId}
use Rattle.cmm_graph.specs.declared.operand.Operand.{Operand}
use Rattle.cmm_graph.specs.GraphControl.{kind_at}
use Rattle.cmm_graph.specs.Values.{operand_value, operand_values}
use Rattle.cmm_abi.specs.Registers.{is_scratch}
use Rattle.cmm_effects.specs.Changes.{Keeps, Sets}
use Rattle.cmm_effects.proofs.Shared.{reaches_more, reaches_sound}
use Rattle.cmm_calls.specs.Values.{Gives}
use Rattle.cmm_select.specs.declared.operand.Operand.{Operand as CodeOperand}
use Rattle.cmm_select.specs.Operands.{operand_at}
use Rattle.cmm_chain.specs.Chain.{Suspension, IsChain}
use Rattle.cmm_chain.specs.Running.{called, none_known}
use Rattle.cmm_image_machine.specs.Machine.{Launch, map_of}
use Rattle.cmm_emit_laws.specs.Outside.{Outside}
use Rattle.cmm_emit_laws.specs.Serving.{IsDoneBy, Silently}
use Rattle.cmm_emit_laws.specs.Represented.{IsFor, IsRepresented, stack_region}
use Rattle.cmm_emit_laws.proofs.Shared.{called_shows, forget_values, framed_inside, given_shows, kept_shown, operand_is, place_is, resited_shows}
use Rattle.cmm_located.specs.Answering.{shown}
use Rattle.cmm_located.specs.Compiled.{Compiled, Located}
use Rattle.cmm_located.specs.LocatedMachine.{located_machine, located_step}
use Rattle.cmm_located.specs.Nodes.{done, keeping, ran_at, reads_at}
use Rattle.cmm_located.specs.Walkable.{is_walkable}
use Rattle.cmm_client_laws.specs.Waiting.{IsWaitingAs}
use Rattle.cmm_client_laws.specs.Fits.{event_fits, walk_fits}
use Rattle.cmm_client_laws.specs.Walked.{IsGhostOf, IsWalked, shown_plan}
use Rattle.cmm_client_laws.proofs.Shared.{fitting_is_walked, log_shows}
use Rattle.cmm_emit_laws.specs.Finished.{Finished}
use Rattle.cmm_emit_laws.specs.ProgramCode.{IsLaidFor}
use Rattle.cmm_emit_laws.specs.Standing.{IsInBody, IsOfRun, Stands, outside_at, status_of}
use Rattle.cmm_simulation.specs.Tested.{fails}
use Rattle.cmm_yield_laws.specs.Standing.{StandsOrWaits}
use Rattle.cmm_yield_laws.specs.Yielding.{AreNumbersOf, HaveYields, YieldCode}

-- the state behind a yield of these values
abbrev pub waiting_at : ℕ → List ℕ → Located → Located
waiting_at site vs at = record at {
  store = record at.store { activations = with_site (Some site) at.store.activations; log = at.store.log ++ yield_line vs; status = p.Waiting vs };
  holdings = called at.procedure site at.holdings;
}

module _ (line : LineUnseen) (s : Setting) (c : Compiled) (l : Launch) (f : Finished) (rest : ℕ → ℕ) (is_for : IsFor s (map_of l)) (have : HaveYields s c) (at : Located) (t : State)
    (stands : Stands s c l f rest at t) (body : IsInBody at) (laid : IsLaidFor s c at.procedure) (site : SiteId) (values : List Operand) (exits : Exits)
    (here : kind_at c.graphs at.procedure at.node ≡ node.Yield site values exits) (cost : ℕ) (code : YieldCode s c l f at.procedure at.node site.number values cost) where
  -- ---- the values

  pub record AreOut (operands : List CodeOperand) (os : List Operand) (vs : List ℕ) : Type 0 where
    pub count : length operands ≡ length vs
    pub as_many : length vs ≡ length os
    pub have_each : (k : ℕ) (o : CodeOperand) → slice_get operands k ≡ Some o → operand_at (f.labels at.procedure) o t ≡ slice_index_or vs k 0

  abbrev value : Operand → Tried ℕ
  value o = operand_value (keeping s c at).held o (reads_at s c at)

  values_out : (os : List Operand) (operands : List CodeOperand) (vs : List ℕ) → AreNumbersOf s c l f at.procedure os operands →
      values_of (reads_at s c at) (operand_values (keeping s c at).held os) ≡ Ok vs → AreOut operands os vs
  values_out [] [] vs are is = let e : [] ≡ vs = cc in
      subst (AreOut [] []) e (record { count = refl; as_many = refl; have_each = λ k o there. absurd (nothing k o there) })
    where
      nothing : (k : ℕ) (o : CodeOperand) → slice_get {X = CodeOperand} [] k ≡ Some o → ⊥
      nothing k o is = cc
  values_out [] (operand ∷ operands) vs are is = absurd are
  values_out (o ∷ os) [] vs are is = absurd are
  values_out (o ∷ os) (operand ∷ operands) vs are is =
      by (λ rest found. values_out os operands rest are.1 found) (value o) refl (values_of (reads_at s c at) (operand_values (keeping s c at).held os)) refl is
    where
      by : ((rest : List ℕ) → values_of (reads_at s c at) (operand_values (keeping s c at).held os) ≡ Ok rest → AreOut operands os rest) →
          (v : Tried ℕ) → value o ≡ v → (others : Tried (List ℕ)) → values_of (reads_at s c at) (operand_values (keeping s c at).held os) ≡ others →
          and_then v (λ n. and_then others (λ rest. Ok (n ∷ rest))) ≡ Ok vs → AreOut (operand ∷ operands) (o ∷ os) vs
      by again (Ok n) is_n (Ok vs') is_rest e =
          let whole : n ∷ vs' ≡ vs = cc in
          let found = operand_is s c l f rest is_for at t body.activation body.older body.youngest (λ v. laid.places body.activation v body.same) stands.shown o operand n are.0 is_n in
          let others = again vs' is_rest in
          subst (AreOut (operand ∷ operands) (o ∷ os)) whole (record {
            count = omega (arith, others.count);
            as_many = omega (arith, others.as_many);
            have_each = λ k z there. each k z there found.0 others.have_each;
          })
        where
          each : (k : ℕ) (z : CodeOperand) → slice_get (operand ∷ operands) k ≡ Some z → operand_at (f.labels at.procedure) operand t ≡ n →
              ((j : ℕ) (w : CodeOperand) → slice_get operands j ≡ Some w → operand_at (f.labels at.procedure) w t ≡ slice_index_or vs' j 0) →
              operand_at (f.labels at.procedure) z t ≡ slice_index_or (n ∷ vs') k 0
          each zero z there first more = let same : operand ≡ z = same_Some operand z there in ap (λ (w : CodeOperand). operand_at (f.labels at.procedure) w t) (sym same) ∙ first
          each (suc j) z there first more = more j z there
      by again (Ok n) is_n (Err error) is_rest e = absurd (cc)
      by again (Err error) is_n others is_rest e = absurd (cc)

  -- ---- the state that waits

  module _ (vs : List ℕ) (is_values : values_of (reads_at s c at) (operand_values (keeping s c at).held values) ≡ Ok vs)
      (passes : is_walkable s c (called at.procedure site.number at.holdings).contents (with_site (Some site.number) at.store.activations) (called at.procedure site.number at.holdings).point ≡ true)
      (fit : walk_fits (walk_of s (shown s c (waiting_at site.number vs at))) ≡ true) where
    abbrev waiting : Located
    waiting = waiting_at site.number vs at

    out : AreOut code.operands values vs
    out = values_out values code.operands vs code.are is_values

    walked : (suspended : List Suspension) × IsWalked s c (called at.procedure site.number at.holdings) (with_site (Some site.number) at.store.activations) suspended
    walked = fitting_is_walked s c (waiting_at site.number vs at) passes fit refl

    shown_here : (w u v : State) → Gives (stack_region s) (f.labels at.procedure) code.operands t w → Sets 1 (f.labels at.procedure code.back.number) w u → Keeps u v →
        IsRepresented f.symbols rest s (called at.procedure site.number at.holdings) waiting.store vs v
    shown_here w u v gives sets keeps =
        let given = given_shows f.symbols rest s (map_of l) is_for at.holdings at.store vs (f.labels at.procedure) code.operands t w gives
        (record { few = omega (arith, code.few_values, out.count); count = out.count; have = out.have_each })
        (forget_values f.symbols rest s at.holdings at.store at.carried t stands.shown) in
        let linked = called_shows f.symbols rest s (map_of l) is_for (record at.holdings { temps = none_known }) at.store vs w u at.procedure site.number (sets.given ∙ code.is_back) sets.memory
        (λ k is. sets.others k (or_parts (k == 1) (is_scratch k) is).0) given in
        let logged = log_shows f.symbols rest s (called at.procedure site.number at.holdings) at.store vs u (at.store.log ++ yield_line vs) linked in
        kept_shown f rest s l is_for (called at.procedure site.number at.holdings) waiting.store vs u v keeps
        (resited_shows f.symbols rest s (called at.procedure site.number at.holdings) (record at.store { log = at.store.log ++ yield_line vs }) vs u (Some site.number) (p.Waiting vs) logged)

    waits_at : (v : State) → IsRepresented f.symbols rest s (called at.procedure site.number at.holdings) waiting.store vs v → IsSound v →
        IsWaitingAs s c f.symbols rest l.image vs waiting v
    waits_at v shown sound = by walked.0 walked.1.ghosts walked.1.chain
      where
        first : with_site (Some site.number) at.store.activations ≡ record body.activation { site = Some site.number } ∷ body.older
        first = ap (with_site (Some site.number)) body.youngest

        by : (suspended : List Suspension) → AllZip (IsGhostOf s) (with_site (Some site.number) at.store.activations) suspended →
            IsChain (shown_plan s c) (stack_top s) (called at.procedure site.number at.holdings).contents suspended (called at.procedure site.number at.holdings).point → IsWaitingAs s c f.symbols rest l.image vs waiting v
        by [] ghosts chain = absurd (subst (λ (as_ : List Activation). AllZip (IsGhostOf s) as_ []) first ghosts)
        by (youngest ∷ older) ghosts chain =
            let one = (subst (λ (as_ : List Activation). AllZip (IsGhostOf s) as_ (youngest ∷ older)) first ghosts).0 in
            let same_site : site.number ≡ youngest.site = same_Some site.number youngest.site one.waits in
            let same_procedure : at.procedure ≡ youngest.procedure = sym body.same ∙ one.procedure in
            record {
              youngest = youngest;
              older = older;
              walked = record { ghosts = ghosts; chain = chain; temps = refl };
              shown = shown;
              sound = sound;
              yields = λ a g.
                  let proc = ap (λ (q : ℕ). procedure_of q) same_procedure ∙ g.is_procedure in
                  let there = ap (λ (k : ℕ). slice_get g.proc.sites k) same_site ∙ g.is_site in
                  have at.procedure at.node site values exits g.proc g.site here proc there ∙ ap (λ (n : ℕ). Some n) (sym out.as_many);
              front = at.store.log;
              logged = refl;
            }
          where
            procedure_of : ℕ → Option Proc
            procedure_of q = slice_get s.program.procs q

    outside_same : outside_at waiting ≡ outside_at at
    outside_same =
        let log_is : log_seen (Some vs) (at.store.log ++ yield_line vs) ≡ log_seen (values_waiting at.store.status) at.store.log =
        line vs at.store.log ∙ sym (ap (λ (z : p.Status). log_seen (values_waiting z) at.store.log) stands.running) in
        ap (λ (log : List ℕ). parts log p.Running) log_is ∙ ap (λ (z : p.Status). parts (log_seen (values_waiting at.store.status) at.store.log) z) (sym stands.running)
      where
        parts : List ℕ → p.Status → Outside
        parts log z = record { input = at.store.input; taken = at.store.taken; output = at.store.output; log = log; status = status_of z }

    comes : Reaches (map_of l) 1 cost t (StandsOrWaits s c l f rest waiting)
    comes =
        reaches_weaker
        (reaches_then
        (reaches_sound ((code.calls.turns (stack_region s)).goes.go t stands.sound stands.pc (record { stack = framed_inside s c l f rest is_for at t stands body laid; region = stands.shown.holdings.region })) stands.sound)
        (λ u there. reaches_more (reaches_sound (code.client.go u there.1 there.0.0) there.1)
        (λ v last.
        let shown = shown_here there.0.1.0 u v there.0.1.1 there.0.1.2 last.0.0 in
        inr (record { values = vs; status = refl; waits = waits_at v shown last.1; asks = last.0.1 }))))
        (omega arith) (omega (arith, code.few)) (λ v there. there)

    pub yield_waits : located_step s c at ≡ waiting → IsDoneBy (located_machine s c) l outside_at (StandsOrWaits s c l f rest) (IsOfRun s c) at cost t
    yield_waits e = Silently (ap outside_at e ∙ outside_same) (subst (λ (z : Located). Reaches (map_of l) 1 cost t (StandsOrWaits s c l f rest z)) (sym e) comes)

  -- ---- the step

  pub yield_done : (after : Located) → ran_at s c (node.Yield site values exits) at ≡ Ok after → located_step s c at ≡ after →
      fails event_fits ((located_machine s c).asks (located_step s c at)) ≡ false →
      IsDoneBy (located_machine s c) l outside_at (StandsOrWaits s c l f rest) (IsOfRun s c) at cost t
  yield_done after ran steps fit = by (values_of (reads_at s c at) (operand_values (keeping s c at).held values)) refl
      (is_walkable s c (called at.procedure site.number at.holdings).contents (with_site (Some site.number) at.store.activations) (called at.procedure site.number at.holdings).point) refl ran
    where
      by : (found : Tried (List ℕ)) → values_of (reads_at s c at) (operand_values (keeping s c at).held values) ≡ found → (test : Bool) →
          is_walkable s c (called at.procedure site.number at.holdings).contents (with_site (Some site.number) at.store.activations) (called at.procedure site.number at.holdings).point ≡ test →
          and_then (and_then found (λ vs. Ok (order.Yield site.number vs))) (λ o. done s c (node.Yield site values exits) o at) ≡ Ok after →
          IsDoneBy (located_machine s c) l outside_at (StandsOrWaits s c l f rest) (IsOfRun s c) at cost t
      by (Ok vs) is_vs true passes e =
          let made : Located = record at {
            store = record at.store { activations = with_site (Some site.number) at.store.activations; log = at.store.log ++ yield_line vs; status = p.Waiting vs };
            holdings = called at.procedure site.number at.holdings;
          } in
          let whole : ◌≡◌ {A = Tried Located} (Ok made) (Ok after) = sym (ap (λ (b : Bool). provided {A = Located} b WrongAlternates (Ok made)) passes) ∙ e in
          let waits : located_step s c at ≡ waiting_at site.number vs at = steps ∙ sym (place_is whole) in
          let fails_not : not (walk_fits (walk_of s (shown s c (waiting_at site.number vs at)))) ≡ false =
          sym (ap (λ (z : Located). fails event_fits ((located_machine s c).asks z)) waits) ∙ fit in
          yield_waits vs is_vs passes (not-false (walk_fits (walk_of s (shown s c (waiting_at site.number vs at)))) fails_not) waits
      by (Ok vs) is_vs false passes e =
          let never : ◌≡◌ {A = Tried Located} (Err WrongAlternates) (Ok after) =
          sym (ap (λ (b : Bool). and_then (Ok (order.Yield site.number vs)) (λ o. tested b vs)) passes) ∙ e in absurd (cc)
        where
          tested : Bool → List ℕ → Tried Located
          tested b vs = provided b WrongAlternates (Ok record at {
            store = record at.store { activations = with_site (Some site.number) at.store.activations; log = at.store.log ++ yield_line vs; status = p.Waiting vs };
            holdings = called at.procedure site.number at.holdings;
          })
      by (Err error) is_vs test passes e = absurd (cc)

-- what a yield that is not wrong makes
pub yield_makes : (s : Setting) (c : Compiled) (at : Located) (site : SiteId) (values : List Operand) (exits : Exits) (after : Located) → ran_at s c (node.Yield site values exits) at ≡ Ok after →
    (vs : List ℕ) × (after ≡ waiting_at site.number vs at)
yield_makes s c at site values exits after ran = by (values_of (reads_at s c at) (operand_values (keeping s c at).held values))
    (is_walkable s c (called at.procedure site.number at.holdings).contents (with_site (Some site.number) at.store.activations) (called at.procedure site.number at.holdings).point) refl refl ran
  where
    by : (found : Tried (List ℕ)) (test : Bool) → values_of (reads_at s c at) (operand_values (keeping s c at).held values) ≡ found →
        is_walkable s c (called at.procedure site.number at.holdings).contents (with_site (Some site.number) at.store.activations) (called at.procedure site.number at.holdings).point ≡ test →
        and_then (and_then found (λ vs. Ok (order.Yield site.number vs))) (λ o. done s c (node.Yield site values exits) o at) ≡ Ok after → (vs : List ℕ) × (after ≡ waiting_at site.number vs at)
    by (Ok vs) true is_vs passes e =
        let whole : ◌≡◌ {A = Tried Located} (Ok (waiting_at site.number vs at)) (Ok after) =
        sym (ap (λ (b : Bool). provided {A = Located} b WrongAlternates (Ok (waiting_at site.number vs at))) passes) ∙ e in
        (vs, sym (place_is whole))
    by (Ok vs) false is_vs passes e =
        let never : ◌≡◌ {A = Tried Located} (Err WrongAlternates) (Ok after) =
        sym (ap (λ (b : Bool). provided {A = Located} b WrongAlternates (Ok (waiting_at site.number vs at))) passes) ∙ e in absurd (cc)
    by (Err error) test is_vs passes e = absurd (cc)
