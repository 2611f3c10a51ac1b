-- What a client's answer leaves as it was: the client takes no input and writes no output, and activations stay without values.
use Rattle.std.proofs.Common.{◌≡◌, inl, inr, ℕ, ◌+◌, Bool, true, false, List, [], ◌∷◌, ◌++◌, drop, map, length, Option, Some, None, refl, sym, ap, ◌∙◌, subst}
use Rattle.std.specs.Prelude.{slice_get}
use Rattle.std.specs.List.{AllZip}
use Rattle.cmm_program.specs.declared.program.Label.{Label}
use Rattle.cmm_program.specs.Client as client
use Rattle.cmm_program.specs.Client.{cut_number, linked_label, may_poke, poked}
use Rattle.cmm_program.specs.Commands as command
use Rattle.cmm_program.specs.Commands.{Answer, Left, answer_to}
use Rattle.cmm_program.specs.Errors.{with_some}
use Rattle.cmm_program.specs.Exits as exits
use Rattle.cmm_program.specs.Exits.{Landing, continuation_exit}
use Rattle.cmm_program.specs.Frames.{with_site, without}
use Rattle.cmm_program.specs.Layout.{label_address}
use Rattle.cmm_program.specs.Memory.{Memory, with_bytes as memory_with}
use Rattle.cmm_program.specs.State as program
use Rattle.cmm_program.specs.State.{Setting, Activation, Store}
use Rattle.cmm_machine_laws.specs.Alike.{AreAlike, ChainsAlike, ChangesAlike, ExitsAlike, LeftAlike, StayAlike}
use Rattle.cmm_machine_laws.proofs.Shared.{answers_are_alike}
use Rattle.cmm_graph.specs.declared.number.NodeId.{NodeId}
use Rattle.cmm_chain.specs.Contents.{Number}
use Rattle.cmm_chain.specs.Running.{Holdings}
use Rattle.cmm_chain.specs.Walks as chain
use Rattle.cmm_chain.specs.Walks.{Spot, put_at, spot_of}
use Rattle.cmm_located.specs.Answering.{answered_at, come_back, cut_to, exit_over, landing_node, left_at, listed, no_landing, places_askable, resumed_by, returned_to, set_number, shown, unwound_to, values_brought, with_bytes}
use Rattle.cmm_located.specs.Compiled.{Compiled, Located, bare}
use Rattle.cmm_client_laws.specs.Keeping.{Keeps, PutOrRuns, StaysPut}
use Rattle.cmm_client_laws.proofs.Lists.{drop_map}

zip_same : {A : Type 0} (xs : List A) → AllZip (λ a b. a ≡ b) xs xs
zip_same [] = tt
zip_same (a ∷ xs) = (refl, zip_same xs)

-- ---- what each change keeps, the answer keeps

module _ (s : Setting) (c : Compiled) (Holds Went : Located → Type 0) (set : (n v value : ℕ) (at : Located) → Holds at → Holds (set_number s c n v value at))
    (write : (memory : Memory) (at : Located) → Holds at → Holds (record at { store = record at.store { memory = memory } }))
    (resume : (come : chain.Element → Holdings → Holdings) (gone : ℕ) (landing : Landing) (at : Located) → Holds at → Went (resumed_by s c come gone landing at)) where
  -- a program is taken together with itself, an activation too, and what goes on with anything
  abbrev Same : Located → Located → Type 0
  Same at z = (at ≡ z) × Holds at

  abbrev Is : Located → Located → client.Located → client.Located → Type 0
  Is at z a b = a ≡ b

  abbrev GoesOn : Located → Located → Type 0
  GoesOn r q = Went r

  abbrev LeftKept : Left Located Located → Type 0
  LeftKept (command.Running r) = Went r
  LeftKept (command.Stopped z) = Holds z
  LeftKept (command.Torn b z) = ⊥

  changes : (name : List ℕ) (offset : ℕ) (bytes : List ℕ) (at : Located) → Holds at →
      ChangesAlike Same Is GoesOn at at (with_bytes s c at name offset bytes) (with_bytes s c at name offset bytes)
  changes name offset bytes at holds = by (linked_label name s.program.labels)
    where
      tested : (address : ℕ) (b : Bool) → let o = with_some (elim b as (λ _. Option Store) [
        | true ↦ Some record at.store { memory = memory_with at.store.memory address bytes }
        | false ↦ None
      ]) (λ store. let after : Located = record at { store = store } in Some after) in ChangesAlike Same Is GoesOn at at o o
      tested address true = record { same = (refl, write (memory_with at.store.memory address bytes) at holds); each = λ a b is. is }
      tested address false = tt

      by : (o : Option Label) → let after = with_some (with_some o (λ l. poked at.store (label_address s.program l + offset) bytes)) (λ store.
          let after : Located = record at { store = store } in Some after) in ChangesAlike Same Is GoesOn at at after after
      by (Some l) = tested (label_address s.program l + offset) (may_poke at.store.memory.data_room (label_address s.program l + offset) (length bytes))
      by None = tt

  exits_keep : (come : chain.Element → Holdings → Holdings) (a : client.Located) (at : Located) → Holds at → (o : Option exits.Exit) →
      ExitsAlike Same Is GoesOn (exit_over s c come at a o) (exit_over s c come at a o)
  exits_keep come a at holds (Some e) = (refl, λ values count fit. resume come a.younger (e.landing values) at holds)
  exits_keep come a at holds None = tt

  cuts_keep : (a : client.Located) (at : Located) → Holds at → (o : Option ℕ) →
      let exit = with_some o (λ k. exit_over s c cut_to at a (continuation_exit a.procedure k)) in ExitsAlike Same Is GoesOn exit exit
  cuts_keep a at holds (Some k) = exits_keep cut_to a at holds (continuation_exit a.procedure k)
  cuts_keep a at holds None = tt

  itself : AreAlike Same Is GoesOn (places_askable s c) (places_askable s c)
  itself = record {
    chain = λ at z is. subst (λ (w : Located). ChainsAlike Same Is GoesOn at w ((places_askable s c).chain at) ((places_askable s c).chain w)) is.0
        (record { whole = refl; also = refl; each = zip_same ((places_askable s c).chain at).activations });
    running = λ at z is. subst (λ (w : Located). ChainsAlike Same Is GoesOn at w ((places_askable s c).running at) ((places_askable s c).running w)) is.0
        (record { whole = refl; also = refl; each = zip_same ((places_askable s c).running at).activations });
    older = λ at z a b is same. subst (λ (d : client.Located). ChainsAlike Same Is GoesOn at z ((places_askable s c).older at a) ((places_askable s c).older z d)) same
        (subst (λ (w : Located). ChainsAlike Same Is GoesOn at w ((places_askable s c).older at a) ((places_askable s c).older w a)) is.0
        (record { whole = refl; also = refl; each = zip_same ((places_askable s c).older at a).activations }));
    shown = λ at z a b is same. ap (λ (w : Located). (places_askable s c).shown w a) is.0 ∙ ap (λ (d : client.Located). (places_askable s c).shown z d) same;
    set = λ at z a b n value v old is same shows valued fits.
        subst (λ (d : client.Located). StayAlike Same Is GoesOn at z (set_number s c a.younger n value at) (set_number s c d.younger n value z)) same
        (subst (λ (w : Located). StayAlike Same Is GoesOn at w (set_number s c a.younger n value at) (set_number s c a.younger n value w)) is.0
        (record { same = (refl, set a.younger n value at is.1); each = λ d e there. there }));
    poked = λ at z name offset bytes are is.
        subst (λ (w : Located). ChangesAlike Same Is GoesOn at w (with_bytes s c at name offset bytes) (with_bytes s c w name offset bytes)) is.0 (changes name offset bytes at is.1);
    returned = λ at z a b older others n is same first also.
        subst (λ (d : client.Located). ExitsAlike Same Is GoesOn ((places_askable s c).return_exit at a n) ((places_askable s c).return_exit z d n)) same
        (subst (λ (w : Located). ExitsAlike Same Is GoesOn ((places_askable s c).return_exit at a n) ((places_askable s c).return_exit w a n)) is.0
        (exits_keep returned_to a at is.1 (exits.return_exit a.procedure a.site n)));
    unwound = λ at z a b n is same.
        subst (λ (d : client.Located). ExitsAlike Same Is GoesOn ((places_askable s c).unwind_exit at a n) ((places_askable s c).unwind_exit z d n)) same
        (subst (λ (w : Located). ExitsAlike Same Is GoesOn ((places_askable s c).unwind_exit at a n) ((places_askable s c).unwind_exit w a n)) is.0
        (exits_keep unwound_to a at is.1 (exits.unwind_exit a.procedure a.site n)));
    cut = λ at z a b value is same.
        subst (λ (d : client.Located). ExitsAlike Same Is GoesOn ((places_askable s c).cut_exit at a value) ((places_askable s c).cut_exit z d value)) same
        (subst (λ (w : Located). ExitsAlike Same Is GoesOn ((places_askable s c).cut_exit at a value) ((places_askable s c).cut_exit w a value)) is.0
        (cuts_keep a at is.1 (cut_number s (shown s c at).activations a value)));
  }

  kept_by : (x y : Left Located Located) → LeftAlike Same Is GoesOn x y → LeftKept x
  kept_by (command.Running r) (command.Running q) both = both
  kept_by (command.Stopped z) (command.Stopped w) both = both.1
  kept_by (command.Running r) (command.Stopped w) both = absurd both
  kept_by (command.Running r) (command.Torn b w) both = absurd both
  kept_by (command.Stopped z) (command.Running q) both = absurd both
  kept_by (command.Stopped z) (command.Torn b w) both = absurd both
  kept_by (command.Torn b z) y both = absurd both

  left_kept : (yielded : List ℕ) (at : Located) → Holds at → LeftKept (answer_to (places_askable s c) s.script yielded at).left
  left_kept yielded at holds =
      let answer = answer_to (places_askable s c) s.script yielded at in
      kept_by answer.left answer.left (answers_are_alike Same Is GoesOn (places_askable s c) (places_askable s c) itself s.script yielded at at (refl, holds)).left

-- ---- input, output and activations

dropped_bare : (n : ℕ) (xs : List Activation) → map bare xs ≡ xs → map bare (drop n xs) ≡ drop n xs
dropped_bare n xs is = sym (drop_map bare n xs) ∙ ap (drop n) is

pub resited_bare : (site : Option ℕ) (xs : List Activation) → map bare xs ≡ xs → map bare (with_site site xs) ≡ with_site site xs
resited_bare site [] is = refl
resited_bare site (a ∷ xs) is =
    let rest : map bare xs ≡ xs = ap (drop 1) is in
    let first : bare a ≡ a = cc in
    let values : a.variables ≡ [] = sym (ap (λ (b : Activation). b.variables) first) in
    ap (λ (l : List Activation). record { procedure = a.procedure; variables = []; site = site } ∷ l) rest
    ∙ ap (λ (vs : List ℕ). fresh a.procedure vs xs) (sym values)
  where
    fresh : ℕ → List ℕ → List Activation → List Activation
    fresh q vs rest = record { procedure = q; variables = vs; site = site } ∷ rest

module _ (s : Setting) (c : Compiled) (from : Located) where
  abbrev Holds : Located → Type 0
  Holds at = Keeps from at × StaysPut from at

  abbrev Went : Located → Type 0
  Went at = Keeps from at × PutOrRuns from at

  sets_keep : (n v value : ℕ) (at : Located) → Holds at → Holds (set_number s c n v value at)
  sets_keep n v value at holds = by (with_some (slice_get (listed s c at) n) (λ e. spot_of e.mark (c.plan.place e.procedure v)))
    where
      by : (o : Option Spot) → Holds (elim o as (λ _. Located) [ Some spot ↦ record at { holdings = put_at spot (Number value) at.holdings } | None ↦ at ])
      by (Some spot) = (
        record { input = holds.0.input; taken = holds.0.taken; output = holds.0.output; registers = holds.0.registers; are_bare = holds.0.are_bare },
        record { procedure = holds.1.procedure; node = holds.1.node },
      )
      by None = holds

  writes_keep : (memory : Memory) (at : Located) → Holds at → Holds (record at { store = record at.store { memory = memory } })
  writes_keep memory at holds = (
    record { input = holds.0.input; taken = holds.0.taken; output = holds.0.output; registers = holds.0.registers; are_bare = holds.0.are_bare },
    record { procedure = holds.1.procedure; node = holds.1.node },
  )

  resumes_keep : (come : chain.Element → Holdings → Holdings) (gone : ℕ) (landing : Landing) (at : Located) → Holds at → Went (resumed_by s c come gone landing at)
  resumes_keep come gone landing at holds = by (slice_get (listed s c at) gone)
    where
      none : Went (no_landing s c at)
      none = (
        record { input = holds.0.input; taken = holds.0.taken; output = holds.0.output; registers = holds.0.registers; are_bare = holds.0.are_bare },
        inl (record { procedure = holds.1.procedure; node = holds.1.node }),
      )

      landed : (e : chain.Element) (o : Option NodeId) → Went (elim o as (λ _. Located) [
        | Some n ↦ record {
          store = record (without gone at.store) { activations = with_site None (without gone at.store).activations; status = program.Running };
          holdings = come e at.holdings;
          procedure = e.procedure;
          node = n;
          carried = values_brought landing;
        }
        | None ↦ no_landing s c at
      ])
      landed e (Some n) = (
        record {
          input = holds.0.input;
          taken = holds.0.taken;
          output = holds.0.output;
          registers = holds.0.registers;
          are_bare = λ is. resited_bare None (drop gone at.store.activations) (dropped_bare gone at.store.activations (holds.0.are_bare is));
        },
        inr refl,
      )
      landed e None = none

      by : (o : Option chain.Element) → Went (elim o as (λ _. Located) [ Some e ↦ come_back s c come gone landing e at | None ↦ no_landing s c at ])
      by (Some e) = landed e (landing_node s c e.procedure e.site landing)
      by None = none

  left_keeps : (log : List ℕ) (answer : Answer Located Located) → LeftKept s c Holds Went sets_keep writes_keep resumes_keep answer.left → Went (left_at s c log answer)
  left_keeps log answer = by answer.left
    where
      same : (at : Located) → Keeps from at → (l : List ℕ) (status : program.Status) → Keeps from (record at { store = record at.store { log = l; status = status } })
      same at keeps l status = record { input = keeps.input; taken = keeps.taken; output = keeps.output; registers = keeps.registers; are_bare = keeps.are_bare }

      put : (at : Located) (l : List ℕ) → PutOrRuns from at → PutOrRuns from (record at { store = record at.store { log = l } })
      put at l (inl stays) = inl (record { procedure = stays.procedure; node = stays.node })
      put at l (inr runs) = inr runs

      by : (x : Left Located Located) → LeftKept s c Holds Went sets_keep writes_keep resumes_keep x → Went (left_at s c log record { text = answer.text; left = x })
      by (command.Running r) went = (same r went.0 (log ++ answer.text) r.store.status, put r (log ++ answer.text) went.1)
      by (command.Stopped z) holds =
          (same z holds.0 (log ++ answer.text) (program.Ended program.Stopped), inl (record { procedure = holds.1.procedure; node = holds.1.node }))
      by (command.Torn b z) never = absurd never

  pub answers_keep : (yielded : List ℕ) → Keeps from (answered_at s c yielded from) × PutOrRuns from (answered_at s c yielded from)
  answers_keep yielded =
      left_keeps from.store.log (answer_to (places_askable s c) s.script yielded from)
      (left_kept s c Holds Went sets_keep writes_keep resumes_keep yielded from
      (record { input = refl; taken = refl; output = refl; registers = refl; are_bare = λ is. is }, record { procedure = refl; node = refl }))
