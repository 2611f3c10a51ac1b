-- A step of both machines, or of the first one alone: control stays, waits, or lands.
use Rattle.std.proofs.Common.{◌≡◌, ℕ, zero, suc, ◌+◌, ◌≤◌, refl, sym, ◌∙◌, ap, subst, arith, List, [], ◌∷◌, drop}
use Rattle.std.specs.Prelude.{false, true, Option, Some, None, Ok, Err}
use Rattle.std.specs.List.{AllZip}
use Rattle.cmm_machine_laws.proofs.Shared.{kept_and_then}
use Rattle.cmm_program.specs.Acts.{Act, evaluated}
use Rattle.cmm_program.specs.Control.{Control, State, arrived, landed, next_act, over, transferred}
use Rattle.cmm_program.specs.Errors.{Tried, and_then, with_some}
use Rattle.cmm_program.specs.Exits.{Landing, Called, Instead, Back, Resumed, entered, land}
use Rattle.cmm_program.specs.Frames.{procedure_at, with_site}
use Rattle.cmm_program.specs.Orders.{Order}
use Rattle.cmm_program.specs.Performing.{Transfer, Stay, Wait, Away, Over, perform}
use Rattle.cmm_program.specs.State.{Activation, Setting, Store, Status, Running, Waiting, Ended, Wrong}
use Rattle.cmm_program.specs.Writes.{reads_of}
use Rattle.cmm_rewriting.specs.Places.{AreRewritten, BothGo, Comes, RestsAfter, comes_to, entry_cost, landing_cost}
use Rattle.cmm_rewriting.specs.States.{StandAs, Together}
use Rattle.cmm_rewriting.proofs.Leaving.{AnswersAs, LeavesAs, is_over, is_waiting, performed}
use Rattle.cmm_rewriting.proofs.Levels.{after_trial, is_wrong, landed_by}

-- what is made of what is there
there : {A E : Type 0} (o : Option A) (f : A → Option E) (e : E) → with_some o f ≡ Some e → (a : A) × (o ≡ Some a)
there (Some a) f e is = (a, refl)
there None f e is = absurd (cc)

landing_few : (more : ℕ) (landing : Landing) → landing_cost more landing ≤ more
landing_few more (Called site n values) = omega arith
landing_few more (Instead n values) = omega arith
landing_few more (Back values) = omega arith
landing_few more (Resumed n values) = omega arith

pub entry_few : (more : ℕ) (t : Transfer) → entry_cost more t ≤ more
entry_few more (Away gone store landing) = landing_few more landing
entry_few more (Stay way store) = omega arith
entry_few more (Wait store) = omega arith
entry_few more (Over gone store) = omega arith

-- states in a status
module _ {C D : Type 0} {P : Store → C → D → Type 0} {W : C → D → Type 0} (store : Store) (cs : List C) (ds : List D) where
  pub with_status : (status : Status) → store.status ≡ status → StandAs P W store status cs ds →
      Together P W record { store = store; controls = cs } record { store = store; controls = ds }
  with_status status is stands = record { store = refl; stands = subst (λ (x : Status). StandAs P W store x cs ds) (sym is) stands }

  waits_so : (status : Status) → store.status ≡ status → is_waiting status ≡ true → AllZip W cs ds →
      Together P W record { store = store; controls = cs } record { store = store; controls = ds }
  waits_so (Waiting values) is how all = with_status (Waiting values) is all
  waits_so Running is how all = absurd (cc (how))
  waits_so (Ended outcome) is how all = absurd (cc (how))
  waits_so (Wrong error) is how all = absurd (cc (how))

  over_so : (status : Status) → store.status ≡ status → is_over status ≡ true → AllZip W cs ds →
      Together P W record { store = store; controls = cs } record { store = store; controls = ds }
  over_so (Ended outcome) is how all = with_status (Ended outcome) is all
  over_so Running is how all = absurd (cc (how))
  over_so (Waiting values) is how all = absurd (cc (how))
  over_so (Wrong error) is how all = absurd (cc (how))

module _ {C D : Type 0} {k : Control C} {l : Control D} {s : Setting} {P : Store → C → D → Type 0} {W : C → D → Type 0} {rank before : C → ℕ} {now : D → ℕ} {more slack : ℕ}
    {I : Store → C → Type 0} (go : AreRewritten k l s P W rank before now more I slack) where
  -- the second stands before a chain at this cost at most
  abbrev pub Nearly : ℕ → Store → C → D → Type 0
  Nearly extra = Comes l s P now extra

  without : (n : ℕ) (cs : List C) (ds : List D) → AllZip W cs ds → AllZip W (drop n cs) (drop n ds)
  without zero cs ds all = all
  without (suc n) [] [] all = all
  without (suc n) [] (d ∷ ds) all = absurd all
  without (suc n) (c ∷ cs) [] all = absurd all
  without (suc n) (c ∷ cs) (d ∷ ds) all = without n cs ds all.1

  -- an activation that comes is one of a procedure of the program
  begins : (n : ℕ) (values : List ℕ) (older : List Activation) (store after : Store) → entered s n values older store ≡ Some after →
      Nearly more (over Running after) (k.begin n) (l.begin n)
  begins n values older store after is = let found = there (procedure_at s n) _ after is in go.begin (over Running after) n found.0 found.1

  arrives : (landing : Landing) (store after : Store) (cs : List C) (ds : List D) → land s landing store ≡ Some after → AllZip W cs ds →
      StandAs (Nearly (landing_cost more landing)) W (over Running after) Running (arrived k landing cs) (arrived l landing ds)
  arrives (Called site n values) store after [] [] is all = (begins n values (with_site (Some site) store.activations) store after is, tt)
  arrives (Called site n values) store after [] (d ∷ ds) is all = absurd all
  arrives (Called site n values) store after (c ∷ cs) [] is all = absurd all
  arrives (Called site n values) store after (c ∷ cs) (d ∷ ds) is all =
      (begins n values (with_site (Some site) store.activations) store after is, (go.later c d all.0, all.1))
  arrives (Instead n values) store after cs ds is all = (begins n values store.activations store after is, all)
  arrives (Back values) store after [] [] is all = tt
  arrives (Back values) store after [] (d ∷ ds) is all = absurd all
  arrives (Back values) store after (c ∷ cs) [] is all = absurd all
  arrives (Back values) store after (c ∷ cs) (d ∷ ds) is all = ((0, go.back (over Running after) c d all.0), all.1)
  arrives (Resumed n values) store after [] [] is all = tt
  arrives (Resumed n values) store after [] (d ∷ ds) is all = absurd all
  arrives (Resumed n values) store after (c ∷ cs) [] is all = absurd all
  arrives (Resumed n values) store after (c ∷ cs) (d ∷ ds) is all = ((0, go.resume (over Running after) n c d all.0), all.1)

  -- where control lands
  pub lands : (landing : Landing) (store : Store) (cs : List C) (ds : List D) → AllZip W cs ds →
      Together (Nearly (landing_cost more landing)) W (landed k s landing store cs) (landed l s landing store ds)
  lands landing store cs ds all = by (land s landing store) refl
    where
      by : (o : Option Store) → land s landing store ≡ o →
          Together (Nearly (landing_cost more landing)) W (landed_by k s store cs landing o) (landed_by l s store ds landing o)
      by (Some after) is = record { store = refl; stands = arrives landing store after cs ds is all }
      by None is = record { store = refl; stands = all }

  -- control stays, leaves, or waits
  leaves : (t : Transfer) (c : C) (cs : List C) (d : D) (ds : List D) →
      ((way : ℕ) (store : Store) → t ≡ Stay way store → P store (k.on way c) (l.on way d)) → LeavesAs t → (RestsAfter t → W c d) → AllZip W cs ds →
      Together (Nearly (entry_cost more t)) W (transferred k s t (c ∷ cs)) (transferred l s t (d ∷ ds))
  leaves (Stay way store) c cs d ds stays how rests all = with_status store _ _ Running how ((0, stays way store refl), all)
  leaves (Wait store) c cs d ds stays how rests all = waits_so store _ _ store.status refl how (go.later c d (rests tt), all)
  leaves (Away zero store landing) c cs d ds stays how rests all = lands landing store (c ∷ cs) (d ∷ ds) (rests tt, all)
  leaves (Away (suc gone) store landing) c cs d ds stays how rests all = lands landing store (drop gone cs) (drop gone ds) (without gone cs ds all)
  leaves (Over zero store) c cs d ds stays how rests all = over_so store _ _ store.status refl how (rests tt, all)
  leaves (Over (suc gone) store) c cs d ds stays how rests all = over_so store _ _ store.status refl how (without gone cs ds all)

  -- ---- where both go

  -- the second costs so much more where a chain is behind its step
  pub record GoOn (c : C) (d : D) (x : State C) (y : State D) : Type 0 where
    pub extra : ℕ
    pub few : extra ≤ more
    pub cheap : now d + extra ≤ before c
    pub together : Together (Nearly extra) W x y

  pub answers : (t : Transfer) (cs : List C) (ds : List D) → AnswersAs t → AllZip W cs ds →
      Together (Nearly (entry_cost more t)) W (transferred k s t cs) (transferred l s t ds)
  answers (Stay way store) cs ds how all = absurd how
  answers (Wait store) cs ds how all = absurd how
  answers (Away gone store landing) cs ds how all = lands landing store (drop gone cs) (drop gone ds) (without gone cs ds all)
  answers (Over gone store) cs ds how all = over_so store _ _ store.status refl how (without gone cs ds all)

  module _ (store : Store) (running : store.status ≡ Running) where
    left_as : (act : Act) (t : Transfer) → comes_to s store act ≡ Ok t → LeavesAs t
    left_as act t is = (kept_and_then (evaluated (reads_of s store) act) (λ order. perform s order store) (λ order found. performed s store running order)).holds t is

    module _ (c : C) (cs : List C) (d : D) (ds : List D) (both : BothGo k l s P W rank before now more store c d) (all : AllZip W cs ds) where
      -- a step that goes wrong obliges to nothing
      tried : (r : Tried Transfer) → comes_to s store (k.act c) ≡ r → is_wrong (after_trial k s store (c ∷ cs) r).store ≡ false →
          GoOn c d (after_trial k s store (c ∷ cs) r) (after_trial l s store (d ∷ ds) r)
      tried (Err error) is right = absurd (cc (right))
      tried (Ok t) is right = record {
        extra = entry_cost more t;
        few = entry_few more t;
        cheap = both.cheap t is;
        together = leaves t c cs d ds (λ way after same. both.on way after (is ∙ ap Ok same)) (left_as (k.act c) t is) (both.rests t is) all;
      }

      pub both_go : is_wrong (after_trial k s store (c ∷ cs) (comes_to s store (k.act c))).store ≡ false →
          GoOn c d (after_trial k s store (c ∷ cs) (comes_to s store (k.act c))) (after_trial l s store (d ∷ ds) (comes_to s store (l.act d)))
      both_go right =
          subst (λ (r : Tried Transfer). GoOn c d (after_trial k s store (c ∷ cs) (comes_to s store (k.act c))) (after_trial l s store (d ∷ ds) r))
          (sym (ap (λ (r : Tried Order). and_then r (λ order. perform s order store)) both.asks)) (tried (comes_to s store (k.act c)) refl right)

    -- where there is no activation
    pub none_goes : Together (Nearly 0) W (after_trial k s store [] (comes_to s store (next_act k []))) (after_trial l s store [] (comes_to s store (next_act l [])))
    none_goes = with_status store [] [] Running running tt
