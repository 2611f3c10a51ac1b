-- What is rewritten is a lazy simulation.
use Rattle.std.proofs.Common.{◌≡◌, ◌⊎◌, ℕ, ◌+◌, ◌<◌, ◌≤◌, inl, inr, refl, sym, ◌∙◌, ap, subst, arith, List, [], ◌∷◌}
use Rattle.std.specs.Prelude.{⊤, false, Option, Some}
use Rattle.std.specs.List.{AllZip}
use Rattle.cmm_simulation.proofs.Paths.{joined, one_step, weaker}
use Rattle.cmm_simulation.proofs.Prefixes.{within_refl}
use Rattle.cmm_simulation.specs.Machine.{Machine}
use Rattle.cmm_simulation.specs.Observing.{Passes}
use Rattle.cmm_simulation.specs.Seen.{Event, IsWithin}
use Rattle.cmm_simulation.specs.Simulation.{Below, Leads, SimulatesLazily}
use Rattle.cmm_machine_laws.proofs.Shared.{KeptBy, keeping}
use Rattle.cmm_machine_laws.specs.Observed.{Call, Ending, event_at, machine_of, store_seen}
use Rattle.cmm_program.specs.declared.procedure.Target.{Target}
use Rattle.cmm_program.specs.Acts.{Act, Checked, GetByte, checked_order, evaluated}
use Rattle.cmm_program.specs.Client.{answered}
use Rattle.cmm_program.specs.Control.{Control, State, next_act}
use Rattle.cmm_program.specs.Errors.{Tried}
use Rattle.cmm_program.specs.Orders as order
use Rattle.cmm_program.specs.Orders.{Order}
use Rattle.cmm_program.specs.Performing.{Transfer}
use Rattle.cmm_program.specs.State.{Setting, Status, Store, Running, Waiting, Ended, Wrong}
use Rattle.cmm_program.specs.Todo.{todo_control}
use Rattle.cmm_program.specs.Values.{Reads}
use Rattle.cmm_program.specs.Writes.{reads_of}
use Rattle.cmm_rewriting.specs.Laws.{MachineIsItself}
use Rattle.cmm_rewriting.specs.Places.{AreRewritten, BothStay, GoesAlone, comes_to, entry_cost}
use Rattle.cmm_rewriting.specs.States.{AreCosts, IsLaw, StandAs, Together, TogetherAt, rank_of}
use Rattle.cmm_rewriting.proofs.Chains.{IsSilent, comes_on}
use Rattle.cmm_rewriting.proofs.Leaving.{answered_as}
use Rattle.cmm_rewriting.proofs.Levels.{after_trial, is_wrong, level_by_store, stepped}
use Rattle.cmm_rewriting.proofs.Stepping.{Nearly, answers, both_go, entry_few, none_goes, with_status}

-- ---- events

-- no other act comes to a taking of a byte
abbrev TakenBy : Act → Order → Type 0
TakenBy act (order.GetByte target) = act ≡ GetByte target
TakenBy act o = ⊤

checked_takes : (act : Act) (site : ℕ) (targets : List Target) (o : Option ℕ) → TakenBy act (checked_order site targets o)
checked_takes act site targets o = grind arith

taken_by : (r : Reads) (act : Act) → KeptBy (TakenBy act) (evaluated r act)
taken_by r (Checked site targets op width left right) = search (keeping, checked_takes)
taken_by r act = grind arith

-- acts that ask for the same stand at the same event
input_same : (s : Setting) (store : Store) (x y : Act) → evaluated (reads_of s store) x ≡ evaluated (reads_of s store) y → (event : Event Call Ending) →
    event_at s Running store x ≡ Some event → event_at s Running store y ≡ Some event
input_same s store (GetByte target) y same event at =
    let is : y ≡ GetByte target = (taken_by (reads_of s store) y).holds (order.GetByte target) (sym same) in
    subst (λ (z : Act). event_at s Running store z ≡ Some event) (sym is) at
input_same s store x y same event at = absurd (cc (at))

-- ---- a step

module _ {C D : Type 0} {k : Control C} {l : Control D} {s : Setting} {P : Store → C → D → Type 0} {W : C → D → Type 0} {rank before : C → ℕ} {now : D → ℕ} {more slack : ℕ}
    {I : Store → C → Type 0} (go : AreRewritten k l s P W rank before now more I slack) {a : State C → ℕ} {b : State D → ℕ} (costs : AreCosts P W l s before now more a b)
    (store : Store) where
  -- both go on, from the same event, and the second for no more, with the chain behind its step
  record Next (cs : List C) (ds : List D) (status : Status) : Type 0 where
    extra : ℕ
    few : extra ≤ more
    cheap : b record { store = store; controls = ds } + extra ≤ a record { store = store; controls = cs }
    together : Together (Nearly go extra) W (stepped k s store cs status) (stepped l s store ds status)
    asks : (event : Event Call Ending) → event_at s status store (next_act l ds) ≡ Some event → event_at s status store (next_act k cs) ≡ Some event

  abbrev GoesOver : List C → List D → State C → Type 0
  GoesOver cs ds next = Together P W next record { store = store; controls = ds } × (rank_of rank next < rank_of rank record { store = store; controls = cs })

  module _ (c : C) (cs : List C) (d : D) (ds : List D) (running : store.status ≡ Running) (all : AllZip W cs ds) where
    one_goes : GoesAlone k l s P W rank before now more store c d → GoesOver (c ∷ cs) (d ∷ ds) (stepped k s store (c ∷ cs) Running)
    one_goes alone =
        subst (λ (r : Tried Transfer). GoesOver (c ∷ cs) (d ∷ ds) (after_trial k s store (c ∷ cs) r)) (sym alone.stays)
        (with_status store (k.on alone.way c ∷ cs) (d ∷ ds) Running running (alone.there, all), alone.nearer)

    both_stay : BothStay k l s P W rank before now more store c d →
        Together (Nearly go 0) W (stepped k s store (c ∷ cs) Running) (stepped l s store (d ∷ ds) Running)
    both_stay stay =
        subst (λ (r : Tried Transfer). Together (Nearly go 0) W (after_trial k s store (c ∷ cs) r) (after_trial l s store (d ∷ ds) (comes_to s store (l.act d)))) (sym stay.stays)
        (subst (λ (r : Tried Transfer). Together (Nearly go 0) W record { store = store; controls = k.on stay.first c ∷ cs } (after_trial l s store (d ∷ ds) r)) (sym stay.also)
        (with_status store (k.on stay.first c ∷ cs) (l.on stay.second d ∷ ds) Running running ((0, stay.there), all)))

  -- what is known where one runs
  abbrev HeadIs : Status → List C → Type 0
  HeadIs Running (c ∷ cs) = I store c
  HeadIs status cs = Unit {0}

  module _ (cs : List C) (ds : List D) where
    rests_so : (status : Status) → store.status ≡ status → StandAs P W store status cs ds → (store.status ≡ Running → cs ≡ []) →
        b record { store = store; controls = ds } + 0 ≤ a record { store = store; controls = cs }
    rests_so status is stands none = let le = costs.rests _ _ (with_status store cs ds status is stands) none in omega (arith, le)

    waits_next : (values : List ℕ) → store.status ≡ Waiting values → AllZip W cs ds → Next cs ds (Waiting values)
    waits_next values is all =
        let few = entry_few more (answered s values store) in
        let cheap = costs.waits _ _ values (with_status store cs ds (Waiting values) is all) is in
        record {
          extra = entry_cost more (answered s values store);
          few = few;
          cheap = omega (arith, cheap, few);
          together = answers go (answered s values store) cs ds (answered_as s values store) all;
          asks = λ event at. at;
        }

    ends_next : (outcome : _) → store.status ≡ Ended outcome → AllZip W cs ds → Next cs ds (Ended outcome)
    ends_next outcome is all = record {
      extra = 0;
      few = omega arith;
      cheap = rests_so (Ended outcome) is all (λ running. absurd (cc (running, is)));
      together = with_status store cs ds (Ended outcome) is all;
      asks = λ event at. at;
    }

  next_by : (cs : List C) (ds : List D) (status : Status) → store.status ≡ status → HeadIs status cs → StandAs P W store status cs ds →
      is_wrong (stepped k s store cs status).store ≡ false → Next cs ds status ⊎ GoesOver cs ds (stepped k s store cs status)
  next_by [] [] Running is head stands right =
      inl record { extra = 0; few = omega arith; cheap = rests_so [] [] Running is stands (λ running. refl); together = none_goes go store is; asks = λ event at. at }
  next_by [] (d ∷ ds) Running is head stands right = absurd stands
  next_by (c ∷ cs) [] Running is head stands right = absurd stands
  next_by (c ∷ cs) (d ∷ ds) Running is head stands right = elim (go.steps store c d head stands.0) [
    | inl both ↦
        let on = both_go go store is c cs d ds both stands.1 right in
        inl record {
          extra = on.extra;
          few = on.few;
          cheap = costs.runs store c cs d ds is on.extra on.few on.cheap;
          together = on.together;
          asks = input_same s store (l.act d) (k.act c) both.asks;
        }
    | inr (inl stay) ↦
        let cheap = stay.cheap in
        inl record {
          extra = 0;
          few = omega arith;
          cheap = costs.runs store c cs d ds is 0 (omega arith) (omega (arith, cheap));
          together = both_stay c cs d ds is stands.1 stay;
          asks = λ event at. absurd (cc (stay.quiet, at));
        }
    | inr (inr alone) ↦ inr (one_goes c cs d ds is stands.1 alone)
  ]
  next_by cs ds (Waiting values) is head stands right = inl (waits_next cs ds values is stands)
  next_by cs ds (Ended outcome) is head stands right = inl (ends_next cs ds outcome is stands)
  next_by cs ds (Wrong error) is head stands right = absurd stands

module _ {C D : Type 0} {k : Control C} {l : Control D} {s : Setting} {P : Store → C → D → Type 0} {W : C → D → Type 0} {rank before : C → ℕ} {now : D → ℕ} {more slack : ℕ}
    {I : Store → C → Type 0} (go : AreRewritten k l s P W rank before now more I slack) {a : State C → ℕ} {b : State D → ℕ} (costs : AreCosts P W l s before now more a b) where
  abbrev A : Machine (State C) ℕ Call Ending
  A = machine_of k s

  abbrev B : Machine (State D) ℕ Call Ending
  B = machine_of l s

  -- what comes to the same store shows the same, and is wrong together
  module _ (x : State C) (u : State D) (same : (B.step u).store ≡ (A.step x).store) where
    shows : IsWithin (B.seen (B.step u)) (A.seen (A.step x))
    shows = subst (λ (after : Store). IsWithin (store_seen after) (A.seen (A.step x))) (sym same) (within_refl _)

    is_right : A.wrong (A.step x) ≡ false → B.wrong (B.step u) ≡ false
    is_right right = ap is_wrong same ∙ right

  silent_passes : (x : State C) (u : State D) → IsSilent l s (A.step x).store u → Passes A B x u
  silent_passes x u silent = record { seen = shows x u silent.shows; asks = λ event at. absurd (cc (silent.asks, at)); right = is_right x u silent.shows }

  both_pass : (store : Store) (cs : List C) (ds : List D) → Next go costs store cs ds store.status →
      Passes A B record { store = store; controls = cs } record { store = store; controls = ds }
  both_pass store cs ds next =
      let same = next.together.store in
      record {
        seen = shows record { store = store; controls = cs } record { store = store; controls = ds } same;
        asks = λ event at. (next.asks event at, refl);
        right = is_right record { store = store; controls = cs } record { store = store; controls = ds } same;
      }

  pub few_of : (cs : List C) → elim cs as (λ _. ℕ) [ [] ↦ 0 | c ∷ _ ↦ rank c ] < slack
  few_of [] = go.positive
  few_of (c ∷ cs) = go.few c

  module _ {H : State C → Type 0} (law : IsLaw k s H I) where
    abbrev Related : ℕ → State C → State D → Type 0
    Related = TogetherAt P W H rank

    abbrev Goes : ℕ → State C → State D → Type 0
    Goes left x y = Leads B b (Passes A B x) (Below slack Related (A.step x)) 1 (a x) y ⊎ Below left Related (A.step x) y

    head_is : (store : Store) (cs : List C) (status : Status) → store.status ≡ status → H record { store = store; controls = cs } → HeadIs go costs store status cs
    head_is store [] Running is holds = tt
    head_is store (c ∷ cs) Running is holds = law.known store c cs is holds
    head_is store cs (Waiting values) is holds = tt
    head_is store cs (Ended outcome) is holds = tt
    head_is store cs (Wrong error) is holds = tt

    -- a step of the second, and its chain
    goes_on : (store : Store) (cs : List C) (ds : List D) → H record { store = store; controls = cs } → Next go costs store cs ds store.status →
        Leads B b (Passes A B record { store = store; controls = cs }) (Below slack Related (A.step record { store = store; controls = cs })) 1
        (a record { store = store; controls = cs }) record { store = store; controls = ds }
    goes_on store cs ds holds next = let x : State C = record { store = store; controls = cs } in let y : State D = record { store = store; controls = ds } in
        joined {n = 0} {o = next.extra} (one_step {Q = λ u. u ≡ B.step y} {most = b y} (both_pass store cs ds next) refl (omega arith))
        (λ u same. subst (λ (v : State D). Leads B b (Passes A B x) (Below slack Related (A.step x)) 0 next.extra v) (sym same)
        (weaker (comes_on costs next.extra next.few (A.step x) (B.step y) next.together) (λ v silent. silent_passes x v silent)
        (λ v together. (rank_of rank (A.step x), few_of (A.step x).controls, record { together = together; holds = law.next x holds; ranked = refl })) (omega arith) (λ n le. le)))
        (omega arith) next.cheap

    goes_from : (left : ℕ) (store : Store) (cs : List C) (ds : List D) → Related left record { store = store; controls = cs } record { store = store; controls = ds } →
        A.wrong (A.step record { store = store; controls = cs }) ≡ false → Goes left record { store = store; controls = cs } record { store = store; controls = ds }
    goes_from left store cs ds is right =
        elim (next_by go costs store cs ds store.status refl (head_is store cs store.status refl is.holds) is.together.stands right) [
          | inl next ↦ inl (goes_on store cs ds is.holds next)
          | inr over ↦ let low = over.1 in let here = is.ranked in inr (
            rank_of rank (A.step record { store = store; controls = cs }),
            omega (arith, low, here),
            record { together = over.0; holds = law.next _ is.holds; ranked = refl },
          )
        ]

    goes : (left : ℕ) (x : State C) (y : State D) → Related left x y → A.wrong (A.step x) ≡ false → Goes left x y
    goes left x y is right =
        subst (λ (store : Store). Goes left x record { store = store; controls = y.controls }) (sym is.together.store)
        (goes_from left x.store x.controls y.controls record { together = record { store = refl; stands = is.together.stands }; holds = is.holds; ranked = is.ranked } right)

    -- what is rewritten is a lazy simulation
    pub rewritten_simulates : SimulatesLazily A a B b slack Related
    rewritten_simulates = record { level = λ left x y is. level_by_store k l s x y is.together.store; leads = λ left x y is right. goes left x y is right }

-- ---- a control is a rewriting of itself

itself : {C : Type 0} (k : Control C) (s : Setting) →
    AreRewritten k k s (λ store c d. d ≡ c) (λ c d. d ≡ c) (λ c. 0) (λ c. 1) (λ c. 1) 0 (λ store c. Unit {0}) 1
itself k s = record {
  positive = omega arith;
  few = λ c. omega arith;
  steps = λ store c d known is. inl record {
    cheap = λ t at. let none = entry_few 0 t in omega (arith, none);
    asks = ap (λ e. evaluated (reads_of s store) (k.act e)) is;
    rests = λ t at rests. is;
    on = λ way after at. ap (k.on way) is;
  };
  later = λ c d is. ap (k.later) is;
  back = λ store c d is. ap (k.back) is;
  resume = λ store n c d is. ap (k.resume n) is;
  begin = λ store n q at. (0, refl);
}

pub machine_is_itself : MachineIsItself
machine_is_itself s =
    rewritten_simulates (itself (todo_control s.program) s) record {
      runs = λ store c cs d ds running extra few le. omega (arith, few);
      alone = λ store d ds way running stays few. absurd (omega (arith, few));
      waits = λ x y values is status. omega arith;
      rests = λ x y is none. omega arith;
    } record { next = λ st is. tt; known = λ store c cs is holds. tt }
