-- Every located step is done by code, yields and the client's answers too.
use Rattle.std.proofs.Common.{◌≡◌, ◌⊎◌, inl, inr, ℕ, ◌*◌, Bool, true, false, List, Option, Some, None, refl, sym, ap, ◌∙◌, subst, arith}
use Rattle.std.specs.Prelude.{Ok, Err}
use Rattle.std.proofs.lemmas.Bool.{or_parts}
use Rattle.rv_table.specs.Machine.{State, instruction_step}
use Rattle.rv_table.specs.declared.request.Request.{Request}
use Rattle.rv_asm.proofs.Shared.{reaches_weaker}
use Rattle.cmm_simulation.specs.Machine.{Machine}
use Rattle.cmm_simulation.specs.Seen.{Event, Client, but_input}
use Rattle.cmm_program.specs.Errors.{Tried}
use Rattle.cmm_program.specs.State as p
use Rattle.cmm_program.specs.State.{Activation, Outcome, Setting}
use Rattle.cmm_machine_laws.specs.Observed.{Call, Ending, LineUnseen, event_at}
use Rattle.cmm_graph.specs.declared.node.Exits.{Exits}
use Rattle.cmm_graph.specs.declared.node.Node.{Node}
use Rattle.cmm_graph.specs.declared.node.NodeKind.{NodeKind}
use Rattle.cmm_graph.specs.declared.node.NodeKind.TheVariants.{Entry, CopyIn, Assign, Store, Branch, Switch, Call as CallNode, Yield, Jump, Cut, Return, Host, Goto, Stop}
use Rattle.cmm_graph.specs.declared.number.SiteId.{SiteId}
use Rattle.cmm_graph.specs.declared.operand.Operand.{Operand}
use Rattle.cmm_graph.specs.Acting.{act_of}
use Rattle.cmm_graph.specs.GraphControl.{kind_at}
use Rattle.cmm_graph.specs.Paths.{node_of}
use Rattle.cmm_effects.specs.Pieces.{BeginsQuietly}
use Rattle.cmm_select.specs.Laws.{SwitchesLead}
use Rattle.cmm_image_machine.specs.Machine.{Launch, Running, Ended, map_of}
use Rattle.cmm_image_machine.specs.Observed.{asked_at, call_at}
use Rattle.cmm_emit_laws.proofs.Shared.{code_does, code_is_quiet, found_in, image_simulates, keeps, quiet_asks, running_asks, step_is}
use Rattle.cmm_emit_laws.specs.Outside.{Outside}
use Rattle.cmm_emit_laws.specs.Serving.{AreDone, Asking, IsAsked, IsDoneBy, IsServed, Silently}
use Rattle.cmm_located.specs.Answering.{shown}
use Rattle.cmm_located.specs.Compiled.{Compiled, Located}
use Rattle.cmm_located.specs.LocatedMachine.{located_machine, located_step, tokens_at, tried}
use Rattle.cmm_located.specs.Nodes.{keeping, ran_at}
use Rattle.cmm_client_laws.specs.Fits.{event_fits}
use Rattle.cmm_client_laws.proofs.Shared.{resited_bare}
use Rattle.cmm_emit_laws.specs.Finished.{Finished, code_of}
use Rattle.cmm_emit_laws.specs.Laws.{most_for_step}
use Rattle.cmm_emit_laws.specs.ProgramCode.{IsLaidFor, is_coded}
use Rattle.cmm_emit_laws.specs.Standing.{IsInBody, IsInside, IsOfRun, Stands, outside_at, status_of}
use Rattle.cmm_simulation.specs.Tested.{fails, tested}
use Rattle.cmm_yield_laws.proofs.Served.{answer_is_of_run, event_is, waiting_done}
use Rattle.cmm_yield_laws.proofs.Yields.{yield_done, yield_makes}
use Rattle.cmm_yield_laws.specs.Laws.{ImagesSimulateYields, fitting_machine}
use Rattle.cmm_yield_laws.specs.Standing.{StandsOrWaits}
use Rattle.cmm_yield_laws.specs.WholeCode.{IsWholeCode}

-- a run that is shown in more states is done as well
is_asked_more : {S : Type 0} (A : Machine S ℕ Call Ending) (l : Launch) (outside_of : S → Outside) (P Q : S → State → Type 0) (H : S → Type 0) → ((a : S) (t : State) → P a t → Q a t) →
    (a : S) (later : ℕ) (r : Request) (t : State) → IsAsked A l outside_of P H a later r t → IsAsked A l outside_of Q H a later r t
is_asked_more A l outside_of P Q H more a later r t asked = record {
  asks = asked.asks;
  event = asked.event;
  outside = asked.outside;
  running = λ is. reaches_weaker (asked.running is) (omega arith) (omega arith) (λ u there. more (A.step a) u there);
  over = asked.over;
}

done_more : {S : Type 0} (A : Machine S ℕ Call Ending) (l : Launch) (outside_of : S → Outside) (P Q : S → State → Type 0) (H : S → Type 0) → ((a : S) (t : State) → P a t → Q a t) →
    (a : S) (cost : ℕ) (t : State) → IsDoneBy A l outside_of P H a cost t → IsDoneBy A l outside_of Q H a cost t
done_more A l outside_of P Q H more a cost t (Silently same reaches) = Silently same (reaches_weaker reaches (omega arith) (omega arith) (λ u there. more (A.step a) u there))
done_more A l outside_of P Q H more a cost t (Asking before later r enough reaches) =
    Asking before later r enough (reaches_weaker reaches (omega arith) (omega arith) (λ u there. is_asked_more A l outside_of P Q H more a later r u there))

-- and by the machine that is tested, whose steps are the same
asked_tested : {S : Type 0} (A : Machine S ℕ Call Ending) (passes : Event Call Ending → Bool) (l : Launch) (outside_of : S → Outside) (P : S → State → Type 0) (H : S → Type 0) →
    (a : S) (later : ℕ) (r : Request) (t : State) → IsAsked A l outside_of P H a later r t → IsAsked (tested passes A) l outside_of P H a later r t
asked_tested A passes l outside_of P H a later r t asked = record {
  asks = asked.asks;
  event = asked.event;
  outside = asked.outside;
  running = asked.running;
  over = asked.over;
}

done_tested : {S : Type 0} (A : Machine S ℕ Call Ending) (passes : Event Call Ending → Bool) (l : Launch) (outside_of : S → Outside) (P : S → State → Type 0) (H : S → Type 0) →
    (a : S) (cost : ℕ) (t : State) → IsDoneBy A l outside_of P H a cost t → IsDoneBy (tested passes A) l outside_of P H a cost t
done_tested A passes l outside_of P H a cost t (Silently same reaches) = Silently same reaches
done_tested A passes l outside_of P H a cost t (Asking before later r enough reaches) =
    Asking before later r enough (reaches_weaker reaches (omega arith) (omega arith) (λ u there. asked_tested A passes l outside_of P H a later r u there))

module _ (lead : SwitchesLead) (line : LineUnseen) (s : Setting) (c : Compiled) (l : Launch) (f : Finished) (rest : ℕ → ℕ) (whole : IsWholeCode s c l f) where
  kind_here : (at : Located) (t : State) (stands : Stands s c l f rest at t) → kind_at c.graphs at.procedure at.node ≡ stands.node.kind
  kind_here at t stands = ap (λ (o : Option Node). elim o as (λ _. NodeKind) [ Some node ↦ node.kind | None ↦ Stop ]) stands.there

  tokens_here : (at : Located) (t : State) (stands : Stands s c l f rest at t) → tokens_at s c at ≡ stands.node.tokens
  tokens_here at t stands = ap (λ (o : Option Node). elim o as (λ _. ℕ) [ Some node ↦ node.tokens | None ↦ 0 ]) stands.there

  abbrev IsYieldNode : NodeKind → Type 0
  IsYieldNode kind = (site : SiteId) × (values : List Operand) × (exits : Exits) × (kind ≡ Yield site values exits)

  which : (kind : NodeKind) → (is_coded kind ≡ true) ⊎ IsYieldNode kind
  which (Yield site values exits) = inr (site, values, exits, refl)
  which (Entry formals to) = inl refl
  which (Branch test then_ otherwise) = inl refl
  which (Switch value arms otherwise) = inl refl
  which (Return exit alternates results) = inl refl
  which (Goto to) = inl refl
  which Stop = inl refl
  which (CopyIn to after) = inl refl
  which (Assign to value after) = inl refl
  which (Store width aligned address value after) = inl refl
  which (CallNode site callee arguments exits) = inl refl
  which (Jump callee arguments) = inl refl
  which (Cut to arguments own) = inl refl
  which (Host call after) = inl refl

  -- ---- a yield

  module _ (at : Located) (t : State) (stands : Stands s c l f rest at t) (run : IsOfRun s c at) (site : SiteId) (values : List Operand) (exits : Exits)
      (is : stands.node.kind ≡ Yield site values exits) (right : (located_machine s c).wrong (located_step s c at) ≡ false) where
    here : kind_at c.graphs at.procedure at.node ≡ Yield site values exits
    here = kind_here at t stands ∙ is

    body : IsInBody at
    body = subst (λ (kind : NodeKind). IsInside kind at) is stands.inside

    steps : located_step s c at ≡ tried s c at (ran_at s c (Yield site values exits) at)
    steps = step_is s c at p.Running stands.running ∙ ap (λ (kind : NodeKind). tried s c at (ran_at s c kind at)) here

    abbrev Ran : Type 0
    Ran = (after : Located) × (ran_at s c (Yield site values exits) at ≡ Ok after) × (located_step s c at ≡ after)

    ran : Ran
    ran = by (ran_at s c (Yield site values exits) at) refl
      where
        by : (r : Tried Located) → ran_at s c (Yield site values exits) at ≡ r → Ran
        by (Ok after) is_r = (after, is_r, steps ∙ ap (tried s c at) is_r)
        by (Err error) is_r =
            let wrong : (located_machine s c).wrong (located_step s c at) ≡ true = ap (λ (z : Located). (located_machine s c).wrong z) (steps ∙ ap (tried s c at) is_r) in
            absurd (cc)

    laid_here : IsLaidFor s c at.procedure
    laid_here =
        let found = found_in c.graphs at.procedure (λ g. node_of g at.node) stands.node stands.there in whole.code.around.laid at.procedure found.0 found.1

    yield_by_code : fails event_fits ((located_machine s c).asks (located_step s c at)) ≡ false →
        IsDoneBy (located_machine s c) l outside_at (StandsOrWaits s c l f rest) (IsOfRun s c) at (most_for_step s c at) t
    yield_by_code fit =
        let made = yield_done line s c l f rest whole.code.around.is_for whole.code.values at t stands body laid_here site values exits here (32 * stands.node.tokens)
        (whole.code.yields at.procedure at.node stands.node site values exits stands.there is) ran.0 ran.1 ran.2 fit in
        subst (λ (n : ℕ). IsDoneBy (located_machine s c) l outside_at (StandsOrWaits s c l f rest) (IsOfRun s c) at (32 * n) t) (sym (tokens_here at t stands)) made

    yield_is_of_run : IsOfRun s c (located_step s c at)
    yield_is_of_run =
        let made = yield_makes s c at site values exits ran.0 ran.1 in
        subst (λ (z : Located). IsOfRun s c z) (sym (ran.2 ∙ made.1)) (record {
          tokens = run.tokens;
          registers = run.registers;
          bytes = run.bytes;
          are_bare = resited_bare (Some site.number) at.store.activations run.are_bare;
        })

  -- ---- the first instruction of a node asks for nothing but input

  quiet_here : (at : Located) (t : State) (stands : Stands s c l f rest at t) → BeginsQuietly (code_of l f at.procedure) (f.node_at at.procedure at.node)
  quiet_here at t stands = by (which stands.node.kind)
    where
      by : (is_coded stands.node.kind ≡ true) ⊎ IsYieldNode stands.node.kind → BeginsQuietly (code_of l f at.procedure) (f.node_at at.procedure at.node)
      by (inl other) =
          code_is_quiet s c l f at.procedure at.node stands.node.kind (32 * stands.node.tokens) (whole.code.nodes at.procedure at.node stands.node stands.there other)
      by (inr yield) = (whole.code.yields at.procedure at.node stands.node yield.0 yield.1 yield.2 stands.there yield.3).quiet

  -- ---- all

  level_both : (at : Located) (t : State) → StandsOrWaits s c l f rest at t → but_input ((located_machine s c).asks at) ≡ but_input (asked_at l t (instruction_step (map_of l) t))
  level_both at t (inl stands) =
      ap (λ (z : p.Status). but_input (event_at s z (shown s c at) (act_of (keeping s c at) (kind_at c.graphs at.procedure at.node)))) stands.running
      ∙ running_asks s (shown s c at) (act_of (keeping s c at) (kind_at c.graphs at.procedure at.node))
      ∙ sym (quiet_asks l f at.procedure (f.node_at at.procedure at.node) t (quiet_here at t stands) stands.pc)
  level_both at t (inr waits) =
      ap (λ (o : Option (Event Call Ending)). but_input o)
      (event_is line s c l f rest whole.code.around whole.told whole.code.exits at t waits (Client (call_at l t)) refl)
      ∙ sym (ap (λ o. but_input (asked_at l t o)) waits.asks)

  over_by : (at : Located) (z : p.Status) → at.store.status ≡ z → (located_machine s c).wrong at ≡ false → (status_of at.store.status ≡ Running → ⊥) →
      (outcome : Outcome) × (status_of at.store.status ≡ Ended outcome) × (located_step s c at ≡ at)
  over_by at p.Running is right never = absurd (never (ap status_of is))
  over_by at (p.Waiting values) is right never = absurd (never (ap status_of is))
  over_by at (p.Ended outcome) is right never = (outcome, ap status_of is, step_is s c at (p.Ended outcome) is)
  over_by at (p.Wrong error) is right never =
      let e : (located_machine s c).wrong at ≡ true = ap (λ (z : p.Status). elim z as (λ _. Bool) [ p.Wrong error ↦ true | _ ↦ false ]) is in absurd (cc)

  keeps_both : (at : Located) (t : State) → IsOfRun s c at → StandsOrWaits s c l f rest at t → (located_machine s c).wrong (located_step s c at) ≡ false → IsOfRun s c (located_step s c at)
  keeps_both at t run (inr waits) right = answer_is_of_run line s c l f rest whole.code.around whole.told whole.code.exits at t waits run right
  keeps_both at t run (inl stands) right = by (which stands.node.kind)
    where
      by : (is_coded stands.node.kind ≡ true) ⊎ IsYieldNode stands.node.kind → IsOfRun s c (located_step s c at)
      by (inl other) = keeps lead s c l f rest whole.code.around at t stands run other (whole.code.nodes at.procedure at.node stands.node stands.there other) right
      by (inr yield) = yield_is_of_run at t stands run yield.0 yield.1 yield.2 yield.3 right

  done_both : (at : Located) (t : State) → IsOfRun s c at → StandsOrWaits s c l f rest at t → (located_machine s c).wrong (located_step s c at) ≡ false →
      fails event_fits ((located_machine s c).asks (located_step s c at)) ≡ false →
      IsDoneBy (located_machine s c) l outside_at (StandsOrWaits s c l f rest) (IsOfRun s c) at (most_for_step s c at) t
  done_both at t run (inr waits) right fit =
      waiting_done line s c l f rest whole.code.around whole.told whole.code.exits at t waits right (most_for_step s c at) (omega (arith, run.tokens))
  done_both at t run (inl stands) right fit = by (which stands.node.kind)
    where
      by : (is_coded stands.node.kind ≡ true) ⊎ IsYieldNode stands.node.kind → IsDoneBy (located_machine s c) l outside_at (StandsOrWaits s c l f rest) (IsOfRun s c) at (most_for_step s c at) t
      by (inl other) = done_more (located_machine s c) l outside_at (Stands s c l f rest) (StandsOrWaits s c l f rest) (IsOfRun s c) (λ a u there. inl there) at (most_for_step s c at) t
          (code_does lead s c l f rest whole.code.around at t stands run other (whole.code.nodes at.procedure at.node stands.node stands.there other) right)
      by (inr yield) = yield_by_code at t stands run yield.0 yield.1 yield.2 yield.3 right fit

  served : IsServed (fitting_machine s c) l outside_at (StandsOrWaits s c l f rest) (IsOfRun s c) (most_for_step s c)
  served = record {
    seen = λ at. refl;
    over = λ at run right never. over_by at at.store.status refl (or_parts ((located_machine s c).wrong at) (fails event_fits ((located_machine s c).asks at)) right).0 never;
    costs = λ at run. omega (arith, run.tokens);
    level = λ at t run going stands. level_both at t stands;
  }

  pub are_done : AreDone (fitting_machine s c) l outside_at (StandsOrWaits s c l f rest) (IsOfRun s c) (most_for_step s c)
  are_done = record {
    served = served;
    keeps = λ at t run going stands right.
        let both = or_parts ((located_machine s c).wrong (located_step s c at)) (fails event_fits ((located_machine s c).asks (located_step s c at))) right in
        keeps_both at t run stands both.0;
    done = λ at t run going stands right.
        let both = or_parts ((located_machine s c).wrong (located_step s c at)) (fails event_fits ((located_machine s c).asks (located_step s c at))) right in
        done_tested (located_machine s c) event_fits l outside_at (StandsOrWaits s c l f rest) (IsOfRun s c) at (most_for_step s c at) t (done_both at t run stands both.0 both.1);
  }

-- the image simulates the located machine, with yields and the whole client
pub images_simulate_yields : SwitchesLead → LineUnseen → ImagesSimulateYields
images_simulate_yields lead line s c l f code rest =
    image_simulates (fitting_machine s c) l outside_at (StandsOrWaits s c l f rest) (IsOfRun s c) (most_for_step s c) (are_done lead line s c l f rest code)
