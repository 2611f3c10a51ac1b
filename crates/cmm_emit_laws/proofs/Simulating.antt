-- The image simulates the located machine.
use Rattle.std.proofs.Common.{◌≡◌, ℕ, ◌*◌, ◌≤◌, refl, sym, ◌∙◌, ap, subst, arith, Bool, true, false, length, Option, Some, None, IsTrue, slice_get}
use Rattle.std.specs.Prelude.{Ok, Err}
use Rattle.std.specs.List.{All, list_all}
use Rattle.std.proofs.lemmas.Bool.{and_parts}
use Rattle.rv_table.specs.Machine.{State, instruction_step}
use Rattle.cmm_simulation.proofs.Simulations.{stepwise}
use Rattle.cmm_simulation.specs.Observing.{Passes}
use Rattle.cmm_simulation.specs.Seen.{but_input}
use Rattle.cmm_simulation.specs.Simulation.{Leads}
use Rattle.cmm_program.proofs.Shared.{list_all_get}
use Rattle.cmm_program.specs.Errors.{Tried}
use Rattle.cmm_program.specs.State as p
use Rattle.cmm_program.specs.State.{Outcome, Setting}
use Rattle.cmm_graph.specs.declared.node.HostCall.TheVariants as host
use Rattle.cmm_graph.specs.declared.node.Node.{Node}
use Rattle.cmm_graph.specs.declared.node.NodeKind.{NodeKind}
use Rattle.cmm_graph.specs.declared.node.NodeKind.TheVariants.{Entry, CopyIn, Assign, Store, Branch, Switch, Call, Yield, Jump, Cut, Return, Host, Goto, Stop}
use Rattle.cmm_graph.specs.declared.graph.Graph.{Graph}
use Rattle.cmm_graph.specs.Acting.{act_of}
use Rattle.cmm_graph.specs.GraphControl.{kind_at}
use Rattle.cmm_graph.specs.Paths.{node_of}
use Rattle.cmm_graph.specs.Ranges.{IsValid, is_kind, is_step, is_variable, leads_to}
use Rattle.cmm_program.specs.Memory.{IsByte}
use Rattle.cmm_machine_laws.specs.Observed.{event_at}
use Rattle.cmm_select.specs.Laws.{SwitchesLead}
use Rattle.cmm_image_machine.specs.Machine.{Launch, Run, Status, Running, Ended, map_of}
use Rattle.cmm_image_machine.specs.Observed.{asked_at, image_machine}
use Rattle.cmm_emit_laws.proofs.SimulatedMachines.{image_is_level, image_leads}
use Rattle.cmm_emit_laws.specs.Serving.{IsDoneBy, IsServed}
use Rattle.cmm_located.specs.Answering.{shown}
use Rattle.cmm_located.specs.Compiled.{Compiled, Located}
use Rattle.cmm_located.specs.LocatedMachine.{located_machine, located_step, tokens_at, tried}
use Rattle.cmm_located.specs.Nodes.{keeping, ran_at}
use Rattle.cmm_located.specs.Answering.{answered_at}
use Rattle.cmm_emit_laws.proofs.Assigning.{assign_done}
use Rattle.cmm_emit_laws.proofs.Calling.{call_done, jump_done}
use Rattle.cmm_emit_laws.proofs.CopyingIn.{copy_done}
use Rattle.cmm_emit_laws.proofs.Cutting.{cut_done}
use Rattle.cmm_emit_laws.proofs.Doing.{IsDone}
use Rattle.cmm_emit_laws.proofs.Entering.{entry_done}
use Rattle.cmm_emit_laws.proofs.Framed.{framed_here}
use Rattle.cmm_emit_laws.proofs.Getting.{byte_taken}
use Rattle.cmm_emit_laws.proofs.Going.{branch_done, goto_done, switch_done}
use Rattle.cmm_emit_laws.proofs.Nodes.{code_is_quiet, found_in, node_holds, quiet_asks, running_asks}
use Rattle.cmm_emit_laws.proofs.Putting.{byte_put}
use Rattle.cmm_emit_laws.proofs.Returning.{return_done}
use Rattle.cmm_emit_laws.proofs.Storing.{store_done}
use Rattle.cmm_emit_laws.specs.Finished.{Finished}
use Rattle.cmm_emit_laws.specs.Laws.{ImagesSimulateLocatedRuns, IsRepresentedIn, most_for_step}
use Rattle.cmm_emit_laws.specs.NodeCode.{IsCodeOf}
use Rattle.cmm_emit_laws.specs.ProgramCode.{IsCode, IsCodeAround, is_coded, names_registers}
use Rattle.cmm_emit_laws.specs.Standing.{AreBare, IsInside, IsOfRun, Stands, outside_at, status_of}

-- a running state steps by its node
pub step_is : (s : Setting) (c : Compiled) (at : Located) (z : p.Status) → at.store.status ≡ z → located_step s c at ≡ elim z as (λ _. Located) [
  | p.Running ↦ tried s c at (ran_at s c (kind_at c.graphs at.procedure at.node) at)
  | p.Waiting values ↦ answered_at s c values at
  | p.Ended outcome ↦ at
  | p.Wrong error ↦ at
]
step_is s c at z is = ap (λ (q : p.Status). elim q as (λ _. Located) [
  | p.Running ↦ tried s c at (ran_at s c (kind_at c.graphs at.procedure at.node) at)
  | p.Waiting values ↦ answered_at s c values at
  | p.Ended outcome ↦ at
  | p.Wrong error ↦ at
]) is

never_ended : {z : Status} {outcome : Outcome} → z ≡ Ended outcome → z ≡ Running → ⊥
never_ended is going = absurd (cc)

module _ (lead : SwitchesLead) (s : Setting) (c : Compiled) (l : Launch) (f : Finished) (rest : ℕ → ℕ) (code : IsCodeAround s c l f) where
  pub first_tokens : (at : Located) → 1 ≤ tokens_at s c (record at { procedure = 0; node = record { number = 0 } })
  first_tokens at =
      let found = found_in c.graphs 0 (λ g. node_of g (record { number = 0 })) code.first code.is_first in
      let e : tokens_at s c (record at { procedure = 0; node = record { number = 0 } }) ≡ code.first.tokens =
      ap (λ (o : Option Node). elim o as (λ _. ℕ) [ Some node ↦ node.tokens | None ↦ 0 ]) code.is_first in
      let some : 1 ≤ code.first.tokens = (node_holds found.0 (record { number = 0 }) code.first (code.valid 0 found.0 found.1) found.2).0 in
      omega (arith, e, some)

  -- a step at a node that is no yield
  module _ (at : Located) (t : State) (stands : Stands s c l f rest at t) (run : IsOfRun s c at) (coded : is_coded stands.node.kind ≡ true)
      (piece_here : IsCodeOf s c l f at.procedure at.node stands.node.kind (32 * stands.node.tokens)) where
    found : (g : Graph) × (slice_get c.graphs at.procedure ≡ Some g) × (node_of g at.node ≡ Some stands.node)
    found = found_in c.graphs at.procedure (λ g. node_of g at.node) stands.node stands.there

    kind_is : kind_at c.graphs at.procedure at.node ≡ stands.node.kind
    kind_is = ap (λ (o : Option Node). elim o as (λ _. NodeKind) [ Some node ↦ node.kind | None ↦ Stop ]) stands.there

    tokens_are : tokens_at s c at ≡ stands.node.tokens
    tokens_are = ap (λ (o : Option Node). elim o as (λ _. ℕ) [ Some node ↦ node.tokens | None ↦ 0 ]) stands.there

    valid_here : IsValid found.0
    valid_here = code.valid at.procedure found.0 found.1

    node_done : (kind : NodeKind) → kind_at c.graphs at.procedure at.node ≡ kind → is_coded kind ≡ true → names_registers s.program kind ≡ true → IsInside kind at → IsTrue (is_kind found.0 kind) →
        IsCodeOf s c l f at.procedure at.node kind (32 * stands.node.tokens) → (next : Located) → ran_at s c kind at ≡ Ok next →
        IsDone s c l f rest at (32 * stands.node.tokens) t next
    node_done (Entry formals to) here is named inside fine piece next ran =
        entry_done s c l f rest code.is_for at t stands run.are_bare (code.laid at.procedure found.0 found.1) formals to (32 * stands.node.tokens) next piece found.0 found.1 valid_here
        (and_parts (list_all (is_variable found.0) formals) (leads_to found.0 is_step to) fine).1 run.tokens ran
    node_done (Branch test then_ otherwise) here is named inside fine piece next ran =
        branch_done s c l f rest code.is_for at t stands inside found.0 found.1 valid_here (λ v. (code.laid at.procedure found.0 found.1).places inside.activation v inside.same)
        test then_ otherwise (32 * stands.node.tokens) next piece fine ran
    node_done (Switch value arms otherwise) here is named inside fine piece next ran =
        switch_done s c l f rest code.is_for at t stands inside found.0 found.1 valid_here (λ v. (code.laid at.procedure found.0 found.1).places inside.activation v inside.same)
        lead value arms otherwise (32 * stands.node.tokens) next piece fine ran
    node_done (Return exit alternates results) here is named inside fine piece next ran =
        return_done s c l f rest code.is_for at t stands inside (code.laid at.procedure found.0 found.1) exit alternates results (32 * stands.node.tokens) piece
        code.back_aligned code.back_fits (first_tokens at) code.valid code.sites next ran
    node_done (Goto to) here is named inside fine piece next ran =
        goto_done s c l f rest code.is_for at t stands inside found.0 found.1 valid_here (λ v. (code.laid at.procedure found.0 found.1).places inside.activation v inside.same)
        to (32 * stands.node.tokens) next piece fine ran
    node_done Stop here is named inside fine piece next ran = absurd (cc)
    node_done (CopyIn to after) here is named inside fine piece next ran =
        let laid = code.laid at.procedure found.0 found.1 in
        copy_done s c l f rest code.is_for at t stands inside found.0 found.1 valid_here (λ v. laid.places inside.activation v inside.same)
        (framed_here s c l f rest code.is_for at.procedure at.holdings at.store at.carried inside.activation inside.older t laid inside.youngest inside.same stands.shown)
        to after (32 * stands.node.tokens) next piece named run.registers fine ran
    node_done (Assign to value after) here is named inside fine piece next ran =
        assign_done s c l f rest code.is_for at t stands inside found.0 found.1 valid_here (λ v. (code.laid at.procedure found.0 found.1).places inside.activation v inside.same)
        run.registers to value after (32 * stands.node.tokens) next piece fine named ran
    node_done (Store width aligned address value after) here is named inside fine piece next ran =
        store_done s c l f rest code.is_for at t stands inside found.0 found.1 valid_here (λ v. (code.laid at.procedure found.0 found.1).places inside.activation v inside.same)
        width aligned address value after (32 * stands.node.tokens) next piece fine ran
    node_done (Call site callee arguments exits) here is named inside fine piece next ran =
        call_done s c l f rest code.is_for code.valid code.entries at t stands inside (code.laid at.procedure found.0 found.1)
        site callee arguments exits (32 * stands.node.tokens) next piece ran
    node_done (Yield site values exits) here is named inside fine piece next ran = absurd (cc)
    node_done (Jump callee arguments) here is named inside fine piece next ran =
        jump_done s c l f rest code.is_for code.valid code.entries at t stands inside (code.laid at.procedure found.0 found.1)
        callee arguments (32 * stands.node.tokens) next piece ran
    node_done (Cut to arguments own) here is named inside fine piece next ran =
        cut_done s c l f rest code.is_for code.valid code.landings at t stands inside (code.laid at.procedure found.0 found.1)
        to arguments own (32 * stands.node.tokens) next piece ran
    node_done (Host (host.PutByte value) after) here is named inside fine piece next ran =
        byte_put s c l f rest code.is_for at t stands inside found.0 found.1 valid_here (λ v. (code.laid at.procedure found.0 found.1).places inside.activation v inside.same)
        value after (32 * stands.node.tokens) next piece fine ran
    node_done (Host (host.GetByte to) after) here is named inside fine piece next ran =
        byte_taken s c l f rest code.is_for at t stands inside found.0 found.1 valid_here (λ v. (code.laid at.procedure found.0 found.1).places inside.activation v inside.same)
        to after (32 * stands.node.tokens) next piece fine named run.registers run.bytes here ran

    -- a step that is not wrong
    step_done : (r : Tried Located) → ran_at s c stands.node.kind at ≡ r → (located_machine s c).wrong (tried s c at r) ≡ false →
        IsDone s c l f rest at (32 * stands.node.tokens) t (tried s c at r)
    step_done (Ok next) is right =
        node_done stands.node.kind kind_is coded
        (list_all_get (λ node. names_registers s.program node.kind) found.0.nodes at.node.number stands.node (code.named at.procedure found.0 found.1) found.2)
        stands.inside (node_holds found.0 at.node stands.node valid_here found.2).1 piece_here next is
    step_done (Err error) is right = absurd (cc)

    steps_to : located_step s c at ≡ tried s c at (ran_at s c stands.node.kind at)
    steps_to = step_is s c at p.Running stands.running ∙ ap (λ (kind : NodeKind). tried s c at (ran_at s c kind at)) kind_is

    done_here : (located_machine s c).wrong (located_step s c at) ≡ false → IsDone s c l f rest at (32 * stands.node.tokens) t (tried s c at (ran_at s c stands.node.kind at))
    done_here right = step_done (ran_at s c stands.node.kind at) refl (sym (ap (λ (z : Located). (located_machine s c).wrong z) steps_to) ∙ right)

    pub keeps : (located_machine s c).wrong (located_step s c at) ≡ false → IsOfRun s c (located_step s c at)
    keeps right = record {
      tokens = subst (λ (z : Located). 1 ≤ tokens_at s c z) (sym steps_to) (done_here right).tokens;
      registers = ap (λ (z : Located). length z.store.registers) steps_to ∙ (done_here right).registers ∙ run.registers;
      bytes = subst (λ (z : Located). All IsByte z.store.input) (sym steps_to) ((done_here right).bytes run.bytes);
      are_bare = subst AreBare (sym steps_to) ((done_here right).are_bare run.are_bare);
    }

    pub code_does : (located_machine s c).wrong (located_step s c at) ≡ false →
        IsDoneBy (located_machine s c) l outside_at (Stands s c l f rest) (IsOfRun s c) at (32 * tokens_at s c at) t
    code_does right =
        subst (λ (n : ℕ). IsDoneBy (located_machine s c) l outside_at (Stands s c l f rest) (IsOfRun s c) at (32 * n) t) (sym tokens_are) ((done_here right).by_code steps_to)

-- ---- programs without yields

pub code_around : (s : Setting) (c : Compiled) (l : Launch) (f : Finished) → IsCode s c l f → IsCodeAround s c l f
code_around s c l f code = record {
  is_for = code.is_for;
  valid = code.valid;
  named = code.named;
  laid = code.laid;
  sites = code.sites;
  entries = code.entries;
  landings = code.landings;
  first = code.first;
  is_first = code.is_first;
  back_aligned = code.back_aligned;
  back_fits = code.back_fits;
}

module _ (lead : SwitchesLead) (s : Setting) (c : Compiled) (l : Launch) (f : Finished) (rest : ℕ → ℕ) (code : IsCode s c l f) where
  all_coded : (at : Located) (t : State) (stands : Stands s c l f rest at t) → is_coded stands.node.kind ≡ true
  all_coded at t stands =
      let found = found_in c.graphs at.procedure (λ g. node_of g at.node) stands.node stands.there in
      list_all_get (λ node. is_coded node.kind) found.0.nodes at.node.number stands.node (code.coded at.procedure found.0 found.1) found.2

  -- the first instruction of a node asks for nothing but input
  level : (at : Located) (t : State) → Stands s c l f rest at t → but_input ((located_machine s c).asks at) ≡ but_input (asked_at l t (instruction_step (map_of l) t))
  level at t stands =
      ap (λ (z : p.Status). but_input (event_at s z (shown s c at) (act_of (keeping s c at) (kind_at c.graphs at.procedure at.node)))) stands.running
      ∙ running_asks s (shown s c at) (act_of (keeping s c at) (kind_at c.graphs at.procedure at.node))
      ∙ sym (quiet_asks l f at.procedure (f.node_at at.procedure at.node) t
      (code_is_quiet s c l f at.procedure at.node stands.node.kind (32 * stands.node.tokens) (code.nodes at.procedure at.node stands.node stands.there)) stands.pc)

  over_by : (at : Located) (z : p.Status) → at.store.status ≡ z → (located_machine s c).wrong at ≡ false → (status_of at.store.status ≡ Running → ⊥) →
      (outcome : Outcome) × (status_of at.store.status ≡ Ended outcome) × (located_step s c at ≡ at)
  over_by at p.Running is right never = absurd (never (ap status_of is))
  over_by at (p.Waiting values) is right never = absurd (never (ap status_of is))
  over_by at (p.Ended outcome) is right never = (outcome, ap status_of is, step_is s c at (p.Ended outcome) is)
  over_by at (p.Wrong error) is right never =
      let e : (located_machine s c).wrong at ≡ true = ap (λ (z : p.Status). elim z as (λ _. Bool) [ p.Wrong error ↦ true | _ ↦ false ]) is in absurd (cc)

  pub is_served : IsServed (located_machine s c) l outside_at (Stands s c l f rest) (IsOfRun s c) (most_for_step s c)
  is_served = record {
    seen = λ at. refl;
    over = λ at run right never. over_by at at.store.status refl right never;
    costs = λ at run. omega (arith, run.tokens);
    level = λ at t run going stands. level at t stands;
  }

  pub step_leads : (at : Located) (u : Run) → IsRepresentedIn s c l f rest at u → (located_machine s c).wrong (located_step s c at) ≡ false →
      Leads (image_machine l) (λ run. 1) (Passes (located_machine s c) (image_machine l) at) (IsRepresentedIn s c l f rest (located_step s c at)) 1 (most_for_step s c at) u
  step_leads at u is_shown right =
      image_leads (located_machine s c) l outside_at (Stands s c l f rest) (IsOfRun s c) (most_for_step s c) is_served at u is_shown right
      (λ going. let stands = is_shown.running going in
      keeps lead s c l f rest (code_around s c l f code) at u.machine stands is_shown.holds (all_coded at u.machine stands) (code.nodes at.procedure at.node stands.node stands.there) right)
      (λ going. let stands = is_shown.running going in
      code_does lead s c l f rest (code_around s c l f code) at u.machine stands is_shown.holds (all_coded at u.machine stands) (code.nodes at.procedure at.node stands.node stands.there) right)

pub images_simulate_located_runs : SwitchesLead → ImagesSimulateLocatedRuns
images_simulate_located_runs lead s c l f code rest =
    stepwise
    (λ at u is_shown.
    image_is_level (located_machine s c) l outside_at (Stands s c l f rest) (IsOfRun s c) (most_for_step s c) (is_served lead s c l f rest code) at u is_shown)
    (λ at u is_shown right. step_leads lead s c l f rest code at u is_shown right)
