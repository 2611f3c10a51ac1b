-- What the steps over the graphs before cost, where those of a chain belong to the step that enters its procedure.
use Rattle.std.proofs.Common.{◌≡◌, ℕ, ◌+◌, ◌≤◌, max, refl, sym, ◌∙◌, ap, subst, arith, List, [], ◌∷◌, is_some}
use Rattle.std.specs.Prelude.{Bool, true, false}
use Rattle.std.specs.List.{AllZip}
use Rattle.cmm_program.specs.Control.{State}
use Rattle.cmm_program.specs.State.{Status, Store, Running, Waiting, Ended, Wrong}
use Rattle.cmm_program.specs.declared.procedure.Proc.{Proc}
use Rattle.cmm_rewriting.specs.States as states
use Rattle.cmm_rewriting.specs.States.{StandAs, Together}
use Rattle.cmm_graph.specs.Acting.{led}
use Rattle.cmm_graph.specs.GraphControl.{Position, graph_control, kind_here}
use Rattle.cmm_graph.specs.GraphMachine.{tokens_at, tokens_of_youngest}
use Rattle.cmm_flow.specs.Laws.{AreCosts, leads_on}
use Rattle.cmm_flow.specs.Relation.{longest, longest_of}
use Rattle.cmm_hoisted.specs.Laws.{AreCostsWithin}
use Rattle.cmm_hoisted.proofs.Relation.{Hoisted, Stand, tokens_same}

-- a step may be followed by so much, where its node does not lead on
abbrev pub by_place : ℕ → Bool → ℕ → ℕ
by_place behind true tokens = max 1 tokens
by_place behind false tokens = max 1 tokens + behind

module _ (r : Hoisted) (most : ℕ) where
  -- by where the youngest activation stands
  abbrev pub now : Position → ℕ
  now d = by_place most (is_some (led 0 (kind_here r.news d))) (tokens_at r.news d)

  abbrev pub before : Position → ℕ
  before c = by_place (most + r.chained) (is_some (led 0 (kind_here r.olds c))) (tokens_at r.olds c)

  abbrev by_status : Status → Bool → ℕ → ℕ
  by_status Running leads tokens = by_place (most + r.chained) leads tokens
  by_status status leads tokens = max most tokens + (most + r.chained)

  abbrev pub cost_before : State Position → ℕ
  cost_before st = by_status st.store.status (leads_on r.olds st) (tokens_of_youngest r.olds st)

  -- that of a node that leads on
  leading_is : (st : State Position) → st.store.status ≡ Running → leads_on r.olds st ≡ true → cost_before st ≡ max 1 (tokens_of_youngest r.olds st)
  leading_is st running leads =
      let tokens = tokens_of_youngest r.olds st in
      ap (λ (status : Status). by_status status (leads_on r.olds st) tokens) running ∙ ap (λ (x : Bool). by_status Running x tokens) leads

  -- they are costs as the flows have them
  pub are_costs : most ≤ longest r.setting.program → AreCosts r.setting r.olds cost_before (most + r.chained)
  are_costs small = record {
    leading = λ st running leads. omega (arith, leading_is st running leads);
    running = λ st running.
        let tokens = tokens_of_youngest r.olds st in
        subst (λ (status : Status). by_status status (leads_on r.olds st) tokens ≤ max 1 tokens + (most + r.chained)) (sym running)
        (at_run (leads_on r.olds st) tokens);
    resting = λ st. by st.store.status (leads_on r.olds st) (tokens_of_youngest r.olds st);
  }
    where
      at_run : (leads : Bool) (tokens : ℕ) → by_status Running leads tokens ≤ max 1 tokens + (most + r.chained)
      at_run true tokens = omega arith
      at_run false tokens = omega arith

      one : (procs : List Proc) → 1 ≤ longest_of procs
      one [] = omega arith
      one (q ∷ procs) = omega (arith, one procs)

      by : (status : Status) (leads : Bool) (tokens : ℕ) → by_status status leads tokens ≤ max (longest r.setting.program) tokens + (most + r.chained)
      by Running true tokens = omega (arith, one r.setting.program.procs)
      by Running false tokens = omega (arith, one r.setting.program.procs)
      by (Waiting values) leads tokens = omega (arith, small)
      by (Ended outcome) leads tokens = omega (arith, small)
      by (Wrong error) leads tokens = omega (arith, small)

-- ---- beside those of the hoisted graphs

module _ {r : Hoisted} (x y : State Position) (is : Together (λ store c d. Stand r c d) (Stand r) x y) where
  tokens_of_same : tokens_of_youngest r.news y ≡ tokens_of_youngest r.olds x
  tokens_of_same = by x.store.status x.controls y.controls is.stands
    where
      all_same : (cs ds : List Position) → AllZip (Stand r) cs ds →
          ◌≡◌ {A = ℕ} (elim ds [ [] ↦ 0 | d ∷ _ ↦ tokens_at r.news d ]) (elim cs [ [] ↦ 0 | c ∷ _ ↦ tokens_at r.olds c ])
      all_same [] [] all = refl
      all_same [] (d ∷ ds) all = absurd all
      all_same (c ∷ cs) [] all = absurd all
      all_same (c ∷ cs) (d ∷ ds) all = tokens_same all.0

      by : (status : Status) (cs ds : List Position) → StandAs (λ store c d. Stand r c d) (Stand r) x.store status cs ds →
          ◌≡◌ {A = ℕ} (elim ds [ [] ↦ 0 | d ∷ _ ↦ tokens_at r.news d ]) (elim cs [ [] ↦ 0 | c ∷ _ ↦ tokens_at r.olds c ])
      by Running [] [] stands = refl
      by Running [] (d ∷ ds) stands = absurd stands
      by Running (c ∷ cs) [] stands = absurd stands
      by Running (c ∷ cs) (d ∷ ds) stands = tokens_same stands.0
      by (Waiting values) cs ds stands = all_same cs ds stands
      by (Ended outcome) cs ds stands = all_same cs ds stands
      by (Wrong error) cs ds stands = absurd stands

  running_too : x.store.status ≡ Running → y.store.status ≡ Running
  running_too running = ap (λ (store : Store). store.status) is.store ∙ running

module _ (r : Hoisted) {most : ℕ} {cost : State Position → ℕ} (costs : AreCostsWithin r.news cost most) where
  -- a node costs what its place does
  placed_cost : (store : Store) (d : Position) (ds : List Position) → store.status ≡ Running → cost record { store = store; controls = d ∷ ds } ≤ now r most d
  placed_cost store d ds running = by (is_some (led 0 (kind_here r.news d))) refl
    where
      by : (leads : Bool) → is_some (led 0 (kind_here r.news d)) ≡ leads →
          cost record { store = store; controls = d ∷ ds } ≤ by_place most leads (tokens_at r.news d)
      by true leads = costs.leading record { store = store; controls = d ∷ ds } running leads
      by false leads = costs.running record { store = store; controls = d ∷ ds } running

  placed_before : (store : Store) (c : Position) (cs : List Position) → store.status ≡ Running → cost_before r most record { store = store; controls = c ∷ cs } ≡ before r most c
  placed_before store c cs running =
      ap (λ (status : Status). by_status r most status (is_some (led 0 (kind_here r.olds c))) (tokens_at r.olds c)) running

  module _ (x y : State Position) (is : Together (λ store c d. Stand r c d) (Stand r) x y) where
    rest : cost y ≤ max most (tokens_of_youngest r.olds x) + most
    rest = let bound = costs.resting y in omega (arith, bound, tokens_of_same x y is)

    waiting_cost : (values : List ℕ) → x.store.status ≡ Waiting values → cost y + r.chained ≤ cost_before r most x
    waiting_cost values waiting =
        let same : cost_before r most x ≡ max most (tokens_of_youngest r.olds x) + (most + r.chained) =
        ap (λ (status : Status). by_status r most status (leads_on r.olds x) (tokens_of_youngest r.olds x)) waiting in
        omega (arith, rest, same)

    -- where nobody runs
    alone : x.store.status ≡ Running → x.controls ≡ [] → cost y ≤ by_place (most + r.chained) (leads_on r.olds x) (tokens_of_youngest r.olds x)
    alone running none =
        let bound = costs.running y (running_too x y is running) in
        let leads : leads_on r.olds x ≡ false =
        ap (λ (cs : List Position). elim cs as (λ _. Bool) [ [] ↦ false | c ∷ _ ↦ is_some (led 0 (kind_here r.olds c)) ]) none in
        subst (λ (b : Bool). cost y ≤ by_place (most + r.chained) b (tokens_of_youngest r.olds x)) (sym leads) (omega (arith, bound, tokens_of_same x y is))

    resting_cost : (x.store.status ≡ Running → x.controls ≡ []) → cost y ≤ cost_before r most x
    resting_cost none = by x.store.status refl
      where
        by : (status : Status) → x.store.status ≡ status → cost y ≤ by_status r most status (leads_on r.olds x) (tokens_of_youngest r.olds x)
        by Running running = alone running (none running)
        by (Waiting values) status = omega (arith, rest)
        by (Ended outcome) status = omega (arith, rest)
        by (Wrong error) status = omega (arith, rest)

  -- beside those before, they are costs as a rewriting has them
  pub are_rewriting_costs : states.AreCosts (λ store c d. Stand r c d) (Stand r) (graph_control r.news) r.setting (before r most) (now r most) r.chained (cost_before r most) cost
  are_rewriting_costs = record {
    runs = λ store c cs d ds running extra few le. omega (arith, placed_cost store d ds running, placed_before store c cs running, le);
    alone = λ store d ds way running stays few. placed_cost store d ds running;
    waits = λ x y values is waiting. waiting_cost x y is values waiting;
    rests = λ x y is none. resting_cost x y is none;
  }
