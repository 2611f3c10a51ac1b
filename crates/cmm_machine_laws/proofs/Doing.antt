-- The client's commands, each done in one walk: what holds of the store meanwhile, and of the answer at the end.
use Rattle.std.proofs.Common.{◌≡◌, ℕ, ◌+◌, ◌^◌, ◌<◌, ◌==◌, not, nat_lt, Bool, true, false, Ok, Err, Option, Some, None, List, [], ◌∷◌, ◌++◌, drop, suc, length, slice_get, refl, ap, sym, ◌∙◌, subst, arith, IsTrue}
use Rattle.std.proofs.lemmas.Bool.Decides.{nat_tests}
use Rattle.std.proofs.lemmas.Option.{same_Some}
use Rattle.std.specs.List.{AllByRecursion}
use Rattle.cmm_rules.specs.declared.rule.Rule.TheVariants.{NoActivation, NoPlace, NoVariable, DeadVariable, DoesNotFit, InvariantVariable, OtherCount}
use Rattle.cmm_words.specs.Widths.{bits}
use Rattle.cmm_script.specs.Walk.{Shown}
use Rattle.cmm_script.specs.Lines.{ok_line, refused_line}
use Rattle.cmm_script.specs.declared.script.Command.{Command}
use Rattle.cmm_script.specs.declared.script.Command.TheVariants.{List as ListAll, Youngest, Next, Desc, Seek, Var, Set, Poke, Return, Unwind, Cut, Stop}
use Rattle.cmm_program.specs.declared.procedure.VarInfo.{VarInfo}
use Rattle.cmm_program.specs.declared.program.Label.{Label}
use Rattle.cmm_program.specs.Asking.{Cursor, at_youngest}
use Rattle.cmm_program.specs.Commands as client
use Rattle.cmm_program.specs.Commands.{After, Answer, Asked, Goes, Reply, Resumes, Stops, Tears, all_fit, answer_of, answer_to, asked, commands_for, descriptor, number_given, numbers_given, reply}
use Rattle.cmm_program.specs.Client.{Landed, Located, all_located, answered, chain_behind, cut_number, exit_by, left_by, linked_label, located, located_shown, may_poke, poked, stopped, store_askable, values_at, with_log, with_value, with_variable}
use Rattle.cmm_program.specs.Errors.{and_then, given, provided, with_some}
use Rattle.cmm_program.specs.Exits as exits
use Rattle.cmm_program.specs.Exits.{continuation_exit, return_exit, unwind_exit}
use Rattle.cmm_program.specs.Frames.{Suspended, suspended_at, without}
use Rattle.cmm_program.specs.Layout.{bytes_of, label_address}
use Rattle.cmm_program.specs.Memory.{with_bytes}
use Rattle.cmm_program.specs.Performing.{Transfer, Away}
use Rattle.cmm_program.specs.State.{Setting, Activation, Store}
use Rattle.cmm_program.proofs.Shared.{IsFound, all_found, found_at, set_found, shown_of, some_by, variable_shown}
use Rattle.cmm_machine_laws.proofs.FittingExits.{ExitFits, cuts_fit, suspended_fits}
use Rattle.cmm_machine_laws.proofs.Kept.{KeptBy, kept_and_then, kept_err, kept_given, kept_ok, kept_provided}

-- ---- what is asked for

-- an exit that the site of an activation has: of a return, to unwind to, or of a cut
pub data IsExitOf (a : Located) (e : exits.Exit) : Type 0 where
  OfReturn : (n : ℕ) → return_exit a.procedure a.site n ≡ Some e → IsExitOf a e
  OfUnwind : (n : ℕ) → unwind_exit a.procedure a.site n ≡ Some e → IsExitOf a e
  OfCut : (k : ℕ) → continuation_exit a.procedure k ≡ Some e → IsExitOf a e

-- P of the store holds whatever the client changes, and so R of how the run goes on, with more lines behind this log
pub record Asks (s : Setting) (log : List ℕ) (P : Store → Type 0) (R : Transfer → Type 0) : Type 0 where
  pub sets : (store : Store) → P store → (younger n value : ℕ) (a : Suspended) (info : VarInfo) → suspended_at s (drop younger store.activations) ≡ Some a →
      slice_get a.procedure.vars n ≡ Some info → value < 2 ^ bits info.width → P (record store { activations = with_value younger n value store.activations })
  pub pokes : (store : Store) → P store → (address value : ℕ) → may_poke store.memory.data_room address 8 ≡ true →
      P (record store { memory = with_bytes store.memory address (bytes_of 8 value) })
  pub goes : (store : Store) → P store → (more : List ℕ) (gone : ℕ) (a : Suspended) (e : exits.Exit) (values : List ℕ) →
      suspended_at s (drop gone store.activations) ≡ Some a → IsExitOf (located gone a) e →
      length e.widths ≡ length values → IsTrue (all_fit e.widths values) → R (Away gone (with_log (log ++ more) (without gone store)) (e.landing values))
  pub stops : (store : Store) → P store → (more : List ℕ) → R (stopped (with_log (log ++ more) store))

-- what a cursor looks at is one of which this holds
abbrev pub IsAt : (Located → Type 0) → Cursor Located → Type 0
IsAt Is cursor = (a : Located) → cursor.activation ≡ Some a → Is a

at_this : (Is : Located → Type 0) (a : Located) → Is a → IsAt Is record { activation = Some a }
at_this Is a is b same = subst Is (same_Some a b same) is

-- ---- one command

less_than : (a b : ℕ) → nat_lt a b ≡ true → a < b
less_than a b is = grind (arith, nat_tests)

module _ (s : Setting) (store : Store) (Is : Located → Type 0) (T : After Located Store Landed → Type 0) where
  -- what makes T of whatever a command leads to, for activations of which Is holds
  pub record Comes : Type 0 where
    pub found : (n : ℕ) → AllByRecursion Is (all_located s n (drop n store.activations))
    pub goes : (cursor : Cursor Located) → IsAt Is cursor → T (Goes cursor store)
    pub sets : (cursor : Cursor Located) (a : Located) (n value : ℕ) (variable : Shown) → cursor.activation ≡ Some a → Is a →
        slice_get (located_shown s store a).variables n ≡ Some variable → value < 2 ^ variable.width → T (Goes cursor (with_variable store a n value))
    pub pokes : (cursor : Cursor Located) → IsAt Is cursor → (address value : ℕ) → may_poke store.memory.data_room address 8 ≡ true →
        T (Goes cursor (record store { memory = with_bytes store.memory address (bytes_of 8 value) }))
    pub leaves : (a : Located) (e : exits.Exit) (values : List ℕ) → Is a → IsExitOf a e → length e.widths ≡ length values → IsTrue (all_fit e.widths values) →
        T (Resumes record { gone = a.younger; store = without a.younger store; landing = e.landing values })
    pub stops : T Stops

  module _ (comes : Comes) (yielded : List ℕ) where
    abbrev Keeps : Asked Located Store Landed → Type 0
    Keeps = KeptBy (λ (r : Reply Located Store Landed). T r.after)

    first_kept : (xs : List Located) (f : Located → Asked Located Store Landed) → AllByRecursion Is xs → ((a : Located) → Is a → Keeps (f a)) →
        Keeps (client.at_first record { activations = xs; broken = None } f)
    first_kept [] f all keeps = kept_err
    first_kept (a ∷ xs) f all keeps = keeps a all.0

    stands_kept : (a : Located) → Is a → Keeps (client.stands (store_askable s) store a)
    stands_kept a found = kept_ok (comes.goes record { activation = Some a } (at_this Is a found))

    sought_by : (test : Bool) (x y : Asked Located Store Landed) → Keeps x → Keeps y → Keeps (elim test as (λ _. Asked Located Store Landed) [ true ↦ x | false ↦ y ])
    sought_by true x y first second = first
    sought_by false x y first second = second

    sought_kept : (token value : ℕ) (xs : List Located) → AllByRecursion Is xs → Keeps (client.sought (store_askable s) store token value None xs)
    sought_kept token value [] all = kept_err
    sought_kept token value (a ∷ xs) all =
        sought_by (descriptor (store_askable s) store token a == value) _ _ (stands_kept a all.0) (sought_kept token value xs all.1)

    -- exits

    resumed_kept : (a : Located) (exit : Option exits.Exit) (values : List ℕ) → Is a → ((e : exits.Exit) → exit ≡ Some e → IsExitOf a e) →
        Keeps (client.resumed (exit_by store a exit) values)
    resumed_kept a (Some e) values here is =
        kept_provided (length e.widths == length values) OtherCount _ (λ count. kept_provided (all_fit e.widths values) DoesNotFit _ (λ fit.
        kept_ok (comes.leaves a e values here (is e refl) (grind (arith, nat_tests, count)) fit)))
    resumed_kept a None values here is = kept_err

    cut_by : (a : Located) (exit : Option exits.Exit) (values : List ℕ) (more : Asked Located Store Landed) → Is a →
        ((e : exits.Exit) → exit ≡ Some e → IsExitOf a e) → Keeps more →
        Keeps (elim (exit_by store a exit) as (λ _. Asked Located Store Landed) [ Some e ↦ client.resumed (Some e) values | None ↦ more ])
    cut_by a (Some e) values more here is keeps = resumed_kept a (Some e) values here is
    cut_by a None values more here is keeps = keeps

    cut_at : (a : Located) (o : Option ℕ) (values : List ℕ) (more : Asked Located Store Landed) → Is a → Keeps more →
        Keeps (elim (with_some o (λ k. exit_by store a (continuation_exit a.procedure k))) as (λ _. Asked Located Store Landed) [
          | Some e ↦ client.resumed (Some e) values
          | None ↦ more
        ])
    cut_at a (Some k) values more here keeps = cut_by a (continuation_exit a.procedure k) values more here (λ e is. OfCut k is) keeps
    cut_at a None values more here keeps = keeps

    cut_kept : (to : ℕ) (values : List ℕ) (xs : List Located) → AllByRecursion Is xs → Keeps (client.cut (store_askable s) store to values None xs)
    cut_kept to values [] all = kept_err
    cut_kept to values (a ∷ xs) all =
        cut_at a (cut_number s store.activations a to) values (client.cut (store_askable s) store to values None xs) all.0 (cut_kept to values xs all.1)

    -- changes

    says_kept : (text : List ℕ) (cursor : Cursor Located) (after : Store) → T (Goes cursor after) → Keeps (client.says text cursor after)
    says_kept text cursor after there = kept_ok there

    set_kept : (cursor : Cursor Located) (a : Located) (n value : ℕ) → cursor.activation ≡ Some a → Is a →
        Keeps (client.setting (store_askable s) cursor store a n value)
    set_kept cursor a n value is here =
        let done = client.says ok_line cursor (with_variable store a n value) in
        kept_given (slice_get (located_shown s store a).variables n) NoVariable
        (λ variable. provided (not variable.invariant) InvariantVariable (given variable.value DeadVariable (λ old. provided (nat_lt value (2 ^ variable.width)) DoesNotFit done)))
        (λ variable there.
        kept_provided (not variable.invariant) InvariantVariable
        (given variable.value DeadVariable (λ old. provided (nat_lt value (2 ^ variable.width)) DoesNotFit done)) (λ variant.
        kept_given variable.value DeadVariable (λ old. provided (nat_lt value (2 ^ variable.width)) DoesNotFit done) (λ old live.
        kept_provided (nat_lt value (2 ^ variable.width)) DoesNotFit done (λ fit.
        says_kept ok_line cursor (with_variable store a n value)
        (comes.sets cursor a n value variable is here there (less_than value (2 ^ variable.width) fit))))))

    poke_at : (cursor : Cursor Located) (address value : ℕ) (test : Bool) → may_poke store.memory.data_room address 8 ≡ test → IsAt Is cursor →
        Keeps (given (elim test as (λ _. Option Store) [
          | true ↦ Some record store { memory = with_bytes store.memory address (bytes_of 8 value) }
          | false ↦ None
        ]) NoPlace (client.says ok_line cursor))
    poke_at cursor address value true may here = kept_ok (comes.pokes cursor here address value may)
    poke_at cursor address value false may here = kept_err

    poke_kept : (cursor : Cursor Located) (offset value : ℕ) (o : Option Label) → IsAt Is cursor →
        Keeps (given (with_some o (λ l. poked store (label_address s.program l + offset) (bytes_of 8 value))) NoPlace (client.says ok_line cursor))
    poke_kept cursor offset value (Some l) here =
        poke_at cursor (label_address s.program l + offset) value (may_poke store.memory.data_room (label_address s.program l + offset) 8) refl here
    poke_kept cursor offset value None here = kept_err

    -- every command that is not refused

    asked_kept : (cursor : Cursor Located) → IsAt Is cursor → (command : Command) → Keeps (asked (store_askable s) yielded cursor store command)
    asked_kept cursor here ListAll = kept_ok (comes.goes cursor here)
    asked_kept cursor here Youngest = first_kept (all_located s 0 store.activations) _ (comes.found 0) stands_kept
    asked_kept cursor here Next = kept_given cursor.activation NoActivation _ (λ a is.
        first_kept (all_located s (suc a.younger) (drop (suc a.younger) store.activations)) _ (comes.found (suc a.younger)) stands_kept)
    asked_kept cursor here (Desc token) = kept_given cursor.activation NoActivation _ (λ a is. kept_ok (comes.goes cursor here))
    asked_kept cursor here (Seek token value) = kept_and_then _ _ (λ v given. kept_given cursor.activation NoActivation _ (λ a is.
        sought_kept token v (a ∷ all_located s (suc a.younger) (drop (suc a.younger) store.activations)) (here a is, comes.found (suc a.younger))))
    asked_kept cursor here (Var n) = kept_given cursor.activation NoActivation _ (λ a is.
        kept_given (slice_get (located_shown s store a).variables n) NoVariable _ (λ variable there. kept_ok (comes.goes cursor here)))
    asked_kept cursor here (Set n value) = kept_and_then _ _ (λ v given. kept_given cursor.activation NoActivation _ (λ a is. set_kept cursor a n v is (here a is)))
    asked_kept cursor here (Poke name offset value) = kept_and_then _ _ (λ v given. poke_kept cursor offset v (linked_label name s.program.labels) here)
    asked_kept cursor here (Return exit values) = kept_and_then _ _ (λ vs given.
        first_kept (all_located s 0 store.activations) _ (comes.found 0) (λ a found. resumed_kept a (return_exit a.procedure a.site exit) vs found (λ e is. OfReturn exit is)))
    asked_kept cursor here (Unwind exit values) = kept_and_then _ _ (λ vs given. kept_given cursor.activation NoActivation _ (λ a is. resumed_kept a (unwind_exit a.procedure a.site exit) vs (here a is) (λ e is. OfUnwind exit is)))
    asked_kept cursor here (Cut to values) =
        kept_and_then (number_given yielded to) (λ v. and_then (numbers_given yielded values) (λ vs. client.cutting (store_askable s) store v vs)) (λ v given.
        kept_and_then (numbers_given yielded values) (λ vs. client.cutting (store_askable s) store v vs) (λ vs also.
        cut_kept v vs (all_located s 0 store.activations) (comes.found 0)))
    asked_kept cursor here Stop = kept_ok comes.stops

    reply_by : (cursor : Cursor Located) → IsAt Is cursor → (t : Asked Located Store Landed) → Keeps t → T (elim t as (λ _. Reply Located Store Landed) [
      | Ok r ↦ r
      | Err refusal ↦ record { text = refused_line refusal; after = Goes cursor store }
    ]).after
    reply_by cursor here (Ok r) keeps = keeps.holds r refl
    reply_by cursor here (Err refusal) keeps = comes.goes cursor here

    -- and any
    pub reply_kept : (cursor : Cursor Located) → IsAt Is cursor → (command : Command) → T (reply (store_askable s) yielded cursor store command).after
    reply_kept cursor here command = reply_by cursor here (asked (store_askable s) yielded cursor store command) (asked_kept cursor here command)

-- ---- all commands of an answer

module _ (s : Setting) (yielded : List ℕ) (log : List ℕ) (P : Store → Type 0) (R : Transfer → Type 0) (asks : Asks s log P R) where
  -- what a command leads to
  abbrev Leads : After Located Store Landed → Type 0
  Leads (Goes cursor after) = P after × IsAt (IsFound s after) cursor
  Leads (Resumes r) = (more : List ℕ) → R (Away r.gone (with_log (log ++ more) r.store) r.landing)
  Leads Stops = Unit {0}
  Leads (Tears b) = ⊥

  -- a variable as it is shown is one of the procedure
  shown_is : (store : Store) (a : Located) (here : Suspended) (n : ℕ) (variable : Shown) → located a.younger here ≡ a →
      slice_get (located_shown s store a).variables n ≡ Some variable → (info : VarInfo) × (slice_get here.procedure.vars n ≡ Some info) × (variable.width ≡ bits info.width)
  shown_is store a here n variable same is =
      let values = values_at (drop a.younger store.activations) in
      let found = some_by (slice_get a.procedure.vars n) (λ v. Some (variable_shown a.procedure a.number values n v)) variable
      (sym (shown_of a.procedure a.number values n a.procedure.vars) ∙ is) in
      (found.0, ap (λ (b : Located). slice_get b.procedure.vars n) same ∙ found.1, sym (ap (λ (v : Shown). v.width) (same_Some _ variable found.2)))

  comes : (store : Store) → P store → Comes s store (IsFound s store) Leads
  comes store here = record {
    found = λ n. all_found s store n (drop n store.activations) refl;
    goes = λ cursor at. (here, at);
    sets = λ cursor a n value variable is found there less.
        let at = found_at s store a found in
        let info = shown_is store a at.0 n variable at.2 there in (
          asks.sets store here a.younger n value at.0 info.0 at.1 info.1 (subst (λ (w : ℕ). value < 2 ^ w) info.2 less),
          λ b is_b. set_found s store a b n value (subst (IsFound s store) (same_Some a b (sym is ∙ is_b)) found),
        );
    pokes = λ cursor at address value may. (asks.pokes store here address value may, at);
    leaves = λ a e values found exit count fit more.
        let at = found_at s store a found in
        asks.goes store here more a.younger at.0 e values at.1 (subst (λ (b : Located). IsExitOf b e) (sym at.2) exit) count fit;
    stops = tt;
  }

  abbrev Follow : List Command → Type 0
  Follow commands = (cursor : Cursor Located) (text : List ℕ) (store : Store) → P store → IsAt (IsFound s store) cursor →
      R (left_by log (answer_of (store_askable s) yielded text cursor store commands))

  goes_on : (text more : List ℕ) (store : Store) (after : After Located Store Landed) (commands : List Command) → Follow commands → P store → Leads after →
      R (left_by log (elim after as (λ _. Answer Store Landed) [
        | Goes cursor' store' ↦ answer_of (store_askable s) yielded (text ++ more) cursor' store' commands
        | Resumes r ↦ record { text = text ++ more; left = client.Running r }
        | Stops ↦ record { text = text ++ more; left = client.Stopped store }
        | Tears b ↦ record { text = text ++ more; left = client.Torn b store }
      ]))
  goes_on text more store (Goes cursor after) commands follow here leads = follow cursor (text ++ more) after leads.0 leads.1
  goes_on text more store (Resumes r) commands follow here leads = leads (text ++ more)
  goes_on text more store Stops commands follow here leads = asks.stops store here (text ++ more)
  goes_on text more store (Tears b) commands follow here leads = absurd leads

  commands_kept : (commands : List Command) → Follow commands
  commands_kept [] cursor text store here at = asks.stops store here text
  commands_kept (c ∷ cs) cursor text store here at =
      let r = reply (store_askable s) yielded cursor store c in
      goes_on text r.text store r.after cs (commands_kept cs) here (reply_kept s store (IsFound s store) Leads (comes store here) yielded cursor at c)

  youngest_found : (store : Store) (xs : List Located) → AllByRecursion (IsFound s store) xs → IsAt (IsFound s store) (at_youngest record { activations = xs; broken = None })
  youngest_found store [] all a is = absurd cc
  youngest_found store (x ∷ xs) all a is = subst (IsFound s store) (same_Some x a is) all.0

-- and the client's answer to a yield
pub answered_kept : (s : Setting) (yielded : List ℕ) (P : Store → Type 0) (R : Transfer → Type 0) (store : Store) → Asks s store.log P R → P store → R (answered s yielded store)
answered_kept s yielded P R store asks here =
    commands_kept s yielded store.log P R asks (commands_for yielded s.script) (at_youngest (chain_behind s 0 store)) [] store here
    (youngest_found s yielded store.log P R asks store (all_located s 0 store.activations) (all_found s store 0 store.activations refl))

-- values fit where such an exit leads
pub exit_fits : (s : Setting) (activations : List Activation) (a : Suspended) (gone : ℕ) (e : exits.Exit) → suspended_at s activations ≡ Some a →
    IsExitOf (located gone a) e → ExitFits s activations e
exit_fits s activations a gone e at (OfReturn n is) = (suspended_fits s activations a at n e).0 is
exit_fits s activations a gone e at (OfUnwind n is) = (suspended_fits s activations a at n e).1 is
exit_fits s activations a gone e at (OfCut k is) = cuts_fit s activations a at k e is
