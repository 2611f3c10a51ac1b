-- The client resumes the program: by a return, an unwinding or a cut.
use Rattle.std.proofs.Common.{◌≡◌, inl, inr, ℕ, zero, suc, ◌+◌, ◌<◌, ◌≤◌, true, List, [], ◌∷◌, drop, map, length, Option, Some, None, refl, sym, ap, ◌∙◌, subst, arith}
use Rattle.std.specs.Prelude.{slice_get, slice_index_or}
use Rattle.std.specs.List.{AllZip}
use Rattle.std.proofs.lemmas.List.{length-map}
use Rattle.std.proofs.lemmas.Option.{same_Some}
use Rattle.cmm_words.specs.declared.width.Width.{Width}
use Rattle.cmm_words.specs.declared.width.Width.TheVariants.{W64}
use Rattle.rv_table.specs.Bounds.{IsSound}
use Rattle.rv_table.specs.Machine.{MemoryMap, State}
use Rattle.cmm_program.specs.declared.procedure.Cont.{Cont}
use Rattle.cmm_program.specs.declared.procedure.Proc.{Proc}
use Rattle.cmm_program.specs.declared.procedure.VarInfo.{VarInfo}
use Rattle.cmm_program.specs.Commands.{all_fit}
use Rattle.cmm_program.specs.Errors.{WrongAlternates, with_some}
use Rattle.cmm_program.specs.Exits as exits
use Rattle.cmm_program.specs.Exits.{Landing, Back, Resumed}
use Rattle.cmm_program.specs.declared.placement.PlaceRow.{PlaceRow}
use Rattle.cmm_program.specs.Frames.{frame_address, frame_size, place_row, with_site, without}
use Rattle.cmm_program.specs.State as program
use Rattle.cmm_program.specs.State.{Setting, Activation, Store, stack_top}
use Rattle.cmm_graph.specs.declared.number.NodeId.{NodeId}
use Rattle.cmm_chain.specs.Contents.{Contents}
use Rattle.cmm_chain.specs.Plans.{IsPlanned}
use Rattle.cmm_chain.specs.Chain.{Point, Suspension, IsChain, behind}
use Rattle.cmm_chain.specs.Running.{Holdings, none_known}
use Rattle.cmm_chain.specs.Walks as chain
use Rattle.cmm_chain.specs.Walks.{Mark, first_mark, unwound}
use Rattle.cmm_image.specs.declared.parts.ImageParts.{ImageParts}
use Rattle.cmm_image.specs.declared.rows.ContinuationRow.{ContinuationRow}
use Rattle.cmm_image.specs.declared.rows.ProcRow.{ProcRow}
use Rattle.cmm_image.specs.declared.rows.VariableNumber.{VariableNumber}
use Rattle.cmm_image.specs.declared.rows.VariableRow.{VariableRow}
use Rattle.cmm_machine_laws.specs.Stacks.{IsStack, Stack, stack_of}
use Rattle.cmm_machine_laws.proofs.Shared.{frames_adjoin, older_are_stack}
use Rattle.cmm_program.specs.Asking.{Exit}
use Rattle.cmm_image_machine.specs.Changes as image
use Rattle.cmm_image_machine.specs.Changes.{at_pc, continuation_row, parameter_widths}
use Rattle.cmm_program.specs.Client as client
use Rattle.cmm_image_machine.specs.Frames.{Element}
use Rattle.cmm_abi.specs.Regions.{with_values}
use Rattle.cmm_emit_laws.specs.Words.{Symbols}
use Rattle.cmm_emit_laws.specs.Represented.{IsFor, IsRepresented, RepresentsHoldings, stack_region}
use Rattle.cmm_emit_laws.proofs.Shared.{moved_shows, outside_shows, resited_shows}
use Rattle.cmm_located.specs.Answering.{come_back, exit_over, landing_node, no_landing, resumed_by, values_brought}
use Rattle.cmm_located.specs.Compiled.{Compiled, Located, landing_in}
use Rattle.cmm_located.specs.SameOrders.{HasFrames}
use Rattle.cmm_machine_laws.specs.Alike.{ExitsAlike}
use Rattle.cmm_client_laws.specs.Asked.{AreAs, GoesOnAs, IsActivationAs, IsAtExit, IsStoppedAs}
use Rattle.cmm_image_machine.specs.Tables.{variable_row}
use Rattle.cmm_client_laws.specs.Tables.{HaveTables, IsContinuationRow, IsProcedureRow}
use Rattle.cmm_client_laws.specs.Walked.{IsGhostOf, back_of, mark_to, marked, shown_plan}
use Rattle.cmm_client_laws.proofs.Asking.{Known, known, proc_row}
use Rattle.cmm_client_laws.proofs.Bringing.{brought_shows, fit_words}
use Rattle.cmm_client_laws.proofs.Sound.{sound_pc, sound_values}
use Rattle.cmm_client_laws.proofs.Lists.{AreWords, drop_at, get_map}

-- ---- widths

same_width : (p : Proc) (rows : List VariableRow) (v : VariableNumber) → rows ≡ map variable_row p.vars →
    elim (slice_get rows v.0) as (λ _. Width) [ Some v ↦ v.width | None ↦ W64 ] ≡ exits.variable_width p v.0
same_width p rows v is =
    ap (λ (r : List VariableRow). elim (slice_get r v.0) as (λ _. Width) [ Some v ↦ v.width | None ↦ W64 ]) is
    ∙ ap (λ (o : Option VariableRow). elim o as (λ _. Width) [ Some v ↦ v.width | None ↦ W64 ]) (get_map variable_row v.0 p.vars) ∙ by v.0 p.vars
  where
    by : (n : ℕ) (vars : List VarInfo) → elim (with_some (slice_get vars n) (λ x. Some (variable_row x))) as (λ _. Width) [ Some v ↦ v.width | None ↦ W64 ]
        ≡ slice_index_or (map (λ v. v.width) vars) n W64
    by n [] = refl
    by zero (x ∷ vars) = refl
    by (suc n) (x ∷ vars) = by n vars

same_widths : (p : Proc) (row : ProcRow) (vs : List VariableNumber) → row.variables ≡ map variable_row p.vars →
    map (image.variable_width row) vs ≡ map (exits.variable_width p) (map (λ v. v.0) vs)
same_widths p row [] is = refl
same_widths p row (v ∷ vs) is =
    ap (λ (w : Width). w ∷ map (image.variable_width row) vs) (same_width p row.variables v is) ∙ ap (λ (ws : List Width). exits.variable_width p v.0 ∷ ws) (same_widths p row vs is)

-- ---- what is shown does not depend on where control is

pub pc_shows : (y : Symbols) (rest : ℕ → ℕ) (s : Setting) (h : Holdings) (store : Store) (carried : List ℕ) (t : State) (pc : ℕ) → IsRepresented y rest s h store carried t →
    IsRepresented y rest s h store carried (at_pc pc t)
pc_shows y rest s h store carried t pc shows = record {
  holdings = shows.holdings;
  words = shows.words;
  cells = shows.cells;
  registers = shows.registers;
  elsewhere = shows.elsewhere;
  values = shows.values;
  stack = shows.stack;
  at = shows.at;
}

pub log_shows : (y : Symbols) (rest : ℕ → ℕ) (s : Setting) (h : Holdings) (store : Store) (carried : List ℕ) (t : State) (log : List ℕ) → IsRepresented y rest s h store carried t →
    IsRepresented y rest s h (record store { log = log }) carried t
log_shows y rest s h store carried t log shows = outside_shows y rest s h store carried t store.input store.taken store.output log store.status shows

-- ---- where frames lie

module _ (s : Setting) (c : Compiled) (frames : HasFrames s c) where
  mark_lies : (k : ℕ) (activations : List Activation) (suspended : List Suspension) (top : ℕ) (contents : Contents) (p : Point) (mark : Mark) (e : chain.Element) (stack : Stack) →
      IsStack s stack → stack.activations ≡ activations → AllZip (IsGhostOf s) activations suspended → IsChain (shown_plan s c) top contents suspended p →
      mark.at ≡ frame_address s activations → slice_get (marked c.plan suspended mark) k ≡ Some e → e.mark.at ≡ frame_address s (drop k activations)
  mark_lies zero (a ∷ activations) (t ∷ suspended) top contents p mark e stack is same ghosts chain_is at gives =
      let first : chain.Element = record { procedure = t.procedure; site = t.site; mark = mark } in
      let one : first ≡ e = same_Some first e gives in
      ap (λ (z : chain.Element). z.mark.at) (sym one) ∙ at
  mark_lies (suc k) (a ∷ activations) (t ∷ suspended) top contents p mark e stack is same ghosts chain_is at gives =
      let size : (c.plan.frame t.procedure).size ≡ frame_size s a =
      frames.size t.procedure chain_is.0.exists ∙ ap (λ (q : ℕ). (program_row q).frame) (sym ghosts.0.procedure) in
      let next : frame_address s (a ∷ activations) + frame_size s a ≡ frame_address s activations = frames_adjoin.of_stack s stack is a activations same in
      let fewer : IsStack s record stack { activations = drop 1 stack.activations; rooms = drop 1 stack.rooms } = older_are_stack.of_stack s stack is 1 in
      mark_lies k activations suspended top contents (behind (shown_plan s c) contents t.procedure p) (mark_to c.plan t.procedure (back_of suspended) mark) e
      (record stack { activations = drop 1 stack.activations; rooms = drop 1 stack.rooms }) fewer (ap (λ (as_ : List Activation). drop 1 as_) same) ghosts.1 chain_is.1
      (omega (arith, at, size, next)) gives
    where
      program_row : ℕ → PlaceRow
      program_row q = place_row s q
  mark_lies k [] [] top contents p mark e stack is same ghosts chain_is at gives = absurd (cc)
  mark_lies k (a ∷ activations) [] top contents p mark e stack is same ghosts chain_is at gives = absurd ghosts
  mark_lies k [] (t ∷ suspended) top contents p mark e stack is same ghosts chain_is at gives = absurd ghosts

pub some_by : {A B : Type 0} (o : Option A) (f : A → Option B) (z : B) → with_some o f ≡ Some z → (x : A) × (o ≡ Some x) × (f x ≡ Some z)
some_by (Some x) f z is = (x, refl, is)
some_by None f z is = absurd (cc)

module _ (s : Setting) (c : Compiled) (y : Symbols) (rest : ℕ → ℕ) (i : ImageParts) (tables : HaveTables s c y i) (planned : IsPlanned c.plan) (m : MemoryMap) (is_for : IsFor s m)
    (frames : HasFrames s c) (at : Located) (t : State) (same : IsStoppedAs s c y rest i at t) (a : client.Located) (x : Element) (is : IsActivationAs s c y i at a x) where
  abbrev here : Known s c y rest i tables planned m is_for at t same a x is.element
  here = known s c y rest i tables planned m is_for at t same a x is

  pub lies : is.element.mark.at ≡ frame_address s (drop a.younger at.store.activations)
  lies = mark_lies s c frames a.younger at.store.activations same.suspended (stack_top s) at.holdings.contents at.holdings.point (first_mark at.holdings.point) is.element
      (stack_of at.store) same.shown.stack refl same.walked.ghosts same.walked.chain same.shown.at here.marked_there

  -- ---- at a landing

  -- registers and memory once control is about to come to a landing, but for its values
  pub record Comes (come : chain.Element → Holdings → Holdings) (u : State) : Type 0 where
    pub contents : (come is.element at.holdings).contents ≡ at.holdings.contents
    pub temps : (come is.element at.holdings).temps ≡ none_known
    pub point : (come is.element at.holdings).point.at ≡ frame_address s (drop a.younger at.store.activations)
    pub sound : IsSound u
    pub memory : u.memory ≡ t.memory
    pub holdings : RepresentsHoldings y (stack_region s) (come is.element at.holdings) u.registers
    pub values : (k : ℕ) → k < 8 → u.registers (10 + k) ≡ t.registers (10 + k)

  abbrev landed : (chain.Element → Holdings → Holdings) → Landing → NodeId → Located
  landed come landing n = record {
    store = record (without a.younger at.store) { activations = with_site None (without a.younger at.store).activations; status = program.Running };
    holdings = come is.element at.holdings;
    procedure = is.element.procedure;
    node = n;
    carried = values_brought landing;
  }

  landed_shows : (come : chain.Element → Holdings → Holdings) (landing : Landing) (n : NodeId) (u : State) (pc : ℕ) → Comes come u → AreWords (values_brought landing) → length (values_brought landing) ≤ 64 →
      IsRepresented y rest s (landed come landing n).holdings (landed come landing n).store (landed come landing n).carried (at_pc pc (with_values (stack_region s) (values_brought landing) u))
  landed_shows come landing n u pc comes words few =
      let moved : IsRepresented y rest s (come is.element at.holdings) (without a.younger at.store) [] u =
      moved_shows y rest s m is_for at.holdings (come is.element at.holdings) at.store [] a.younger t u same.shown comes.memory comes.contents comes.holdings comes.values comes.point in
      let resited = resited_shows y rest s (come is.element at.holdings) (without a.younger at.store) [] u None program.Running moved in
      pc_shows y rest s (come is.element at.holdings) (landed come landing n).store (values_brought landing) (with_values (stack_region s) (values_brought landing) u) pc
      (brought_shows y rest s m is_for (come is.element at.holdings) (landed come landing n).store (values_brought landing) u words few comes.temps resited)

  pub resumes : (come : chain.Element → Holdings → Holdings) (landing : Landing) (u : State) (pc : ℕ) → Comes come u → AreWords (values_brought landing) → length (values_brought landing) ≤ 64 →
      ((n : NodeId) → landing_node s c is.element.procedure is.element.site landing ≡ Some n →
      IsAtExit s c y i (landed come landing n) (at_pc pc (with_values (stack_region s) (values_brought landing) u))) →
      GoesOnAs s c y rest i (resumed_by s c come a.younger landing at) (at_pc pc (with_values (stack_region s) (values_brought landing) u))
  resumes come landing u pc comes words few control =
      subst (λ (z : Located). GoesOnAs s c y rest i z (at_pc pc (with_values (stack_region s) (values_brought landing) u))) (sym unfolded)
      (by (landing_node s c is.element.procedure is.element.site landing) refl)
    where
      unfolded : resumed_by s c come a.younger landing at ≡ elim (landing_node s c is.element.procedure is.element.site landing) as (λ _. Located) [
        | Some n ↦ landed come landing n
        | None ↦ no_landing s c at
      ]
      unfolded = ap (λ (o : Option chain.Element). elim o as (λ _. Located) [ Some e ↦ come_back s c come a.younger landing e at | None ↦ no_landing s c at ]) is.is_listed

      by : (o : Option NodeId) → landing_node s c is.element.procedure is.element.site landing ≡ o →
          GoesOnAs s c y rest i (elim o as (λ _. Located) [ Some n ↦ landed come landing n | None ↦ no_landing s c at ]) (at_pc pc (with_values (stack_region s) (values_brought landing) u))
      by (Some n) there = inr (
        refl,
        record {
          activation = record here.ghost { site = None };
          older = drop (suc a.younger) at.store.activations;
          youngest = ap (with_site None) (drop_at a.younger at.store.activations here.ghost here.is_ghost);
          same = here.of.procedure ∙ sym here.shows.procedure;
          sound = sound_pc (with_values (stack_region s) (values_brought landing) u) pc (sound_values (stack_region s) (values_brought landing) 0 u words comes.sound);
          shown = landed_shows come landing n u pc comes words few;
          control = control n there;
        },
      )
      by None there = inl (WrongAlternates, refl)

  -- ---- a continuation of its procedure

  pub data ContinuationAlike (k : ℕ) : Type 0 where
    NoContinuation : slice_get a.procedure.conts k ≡ None → slice_get x.procedure.continuations k ≡ None → ContinuationAlike k
    HasContinuation : (cont : Cont) (row : ContinuationRow) → slice_get a.procedure.conts k ≡ Some cont → slice_get x.procedure.continuations k ≡ Some row →
        IsContinuationRow (c.plan.frame here.suspension.procedure) y here.suspension.procedure k cont row → ContinuationAlike k

  pub continuation_alike : (k : ℕ) → ContinuationAlike k
  continuation_alike k = by (slice_get a.procedure.conts k) refl
    where
      row : IsProcedureRow a.procedure (c.plan.frame here.suspension.procedure) y here.suspension.procedure x.procedure
      row = proc_row s c y rest i tables planned m is_for at t same a x is

      by : (o : Option Cont) → slice_get a.procedure.conts k ≡ o → ContinuationAlike k
      by (Some cont) there = let found = row.continuations k cont there in HasContinuation cont found.0 there found.1 found.2
      by None there = NoContinuation there (row.no_more k there)

  widths_alike : (k : ℕ) (cont : Cont) (row : ContinuationRow) → IsContinuationRow (c.plan.frame here.suspension.procedure) y here.suspension.procedure k cont row →
      map (exits.variable_width a.procedure) cont.params ≡ parameter_widths x.procedure row
  widths_alike k cont row is_row =
      let proc : IsProcedureRow a.procedure (c.plan.frame here.suspension.procedure) y here.suspension.procedure x.procedure = proc_row s c y rest i tables planned m is_for at t same a x is in
      ap (λ (vs : List ℕ). map (exits.variable_width a.procedure) vs) (sym is_row.parameters) ∙ sym (same_widths a.procedure x.procedure row.parameters proc.variables)

  -- an exit to it, over locations and in the image
  pub continuation_exits : (come : chain.Element → Holdings → Holdings) (k : ℕ) (u : State) (pc : ContinuationRow → ℕ) → Comes come u →
      ((row : ContinuationRow) (values : List ℕ) (n : NodeId) → slice_get x.procedure.continuations k ≡ Some row → row.code ≡ y.landing_of is.element.procedure k →
      landing_in c.graphs is.element.procedure k ≡ Some n →
      IsAtExit s c y i (landed come (Resumed k values) n) (at_pc (pc row) (with_values (stack_region s) values u))) →
      ExitsAlike (IsStoppedAs s c y rest i) (AreAs s c y i) (GoesOnAs s c y rest i) (exit_over s c come at a (exits.continuation_exit a.procedure k))
      (with_some (slice_get x.procedure.continuations k) (λ row.
      let out : Exit State = record { widths = parameter_widths x.procedure row; resumed = λ values. at_pc (pc row) (with_values (stack_region s) values u) } in Some out))
  continuation_exits come k u pc comes control = by (continuation_alike k)
    where
      exit : Cont → exits.Exit
      exit cont = record { widths = map (exits.variable_width a.procedure) cont.params; landing = Resumed k }

      out : ContinuationRow → Exit State
      out row = record { widths = parameter_widths x.procedure row; resumed = λ values. at_pc (pc row) (with_values (stack_region s) values u) }

      by : ContinuationAlike k → ExitsAlike (IsStoppedAs s c y rest i) (AreAs s c y i) (GoesOnAs s c y rest i) (exit_over s c come at a (exits.continuation_exit a.procedure k))
          (with_some (slice_get x.procedure.continuations k) (λ row.
          let out : Exit State = record { widths = parameter_widths x.procedure row; resumed = λ values. at_pc (pc row) (with_values (stack_region s) values u) } in Some out))
      by (NoContinuation none also) = rw (none, also) tt
      by (HasContinuation cont row there also is_row) =
          let same_code : row.code ≡ y.landing_of is.element.procedure k = is_row.code ∙ ap (λ (q : ℕ). y.landing_of q k) (sym here.shows.procedure) in
          let both : (map (exits.variable_width a.procedure) cont.params ≡ parameter_widths x.procedure row)
          × ((values : List ℕ) → length (map (exits.variable_width a.procedure) cont.params) ≡ length values → all_fit (map (exits.variable_width a.procedure) cont.params) values ≡ true →
          GoesOnAs s c y rest i (resumed_by s c come a.younger (Resumed k values) at) (at_pc (pc row) (with_values (stack_region s) values u))) = (
            widths_alike k cont row is_row,
            λ values count fit.
                let few : length values ≤ 64 = let many = length-map cont.params (exits.variable_width a.procedure) in omega (arith, count, many, is_row.few) in
                resumes come (Resumed k values) u (pc row) comes (fit_words (map (exits.variable_width a.procedure) cont.params) values count fit) few
                (λ n there_too. control row values n also same_code there_too),
          ) in
          rw (there, also) both
