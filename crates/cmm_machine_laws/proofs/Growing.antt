-- What a step adds, and that what is seen only grows: for any control, whatever act comes next.
use Rattle.std.proofs.lemmas.List.{take_at, take-append-drop}
use Rattle.cmm_simulation.proofs.Prefixes.{prefix_more, prefix_refl, within_refl, within_trans}
use Rattle.cmm_simulation.specs.Seen.{IsPrefix, IsWithin}
use Rattle.cmm_machine_laws.specs.Observed.{LineUnseen, log_seen, store_seen}
use Rattle.std.proofs.Common.{Option, refl, length-append, drop, arith, take, ◌+◌, List, Some, [], ap, append_assoc, suc, suc-add, sym, zero, zero-add, ℕ, ◌++◌, ◌∙◌, ◌∷◌, ◌≡◌, ◌⊎◌}
use Rattle.cmm_machine_laws.specs.Runs as runs
use Rattle.cmm_machine_laws.proofs.Doing.{answered_kept}
use Rattle.cmm_machine_laws.proofs.Kept.{KeptBy, keeping, kept_after, kept_and_then, kept_ok}
use Rattle.cmm_machine_laws.proofs.StackKept.{After, Leads, bytes_after, nothing_after, put_all_after, site_after, stack_with_value, without_after}
use Rattle.cmm_machine_laws.proofs.Steps.{kept_by_steps, lands, start_keeps, step_has}
use Rattle.cmm_machine_laws.specs.Runs.{Adds, Takes, NextOrder, Traffic, seen_in, traffic, yielded}
use Rattle.cmm_program.specs.Values.{Reads, Value}
use Rattle.cmm_program.specs.declared.procedure.Target.{Target}
use Rattle.std.specs.Prelude.{⊤}
use Rattle.cmm_program.specs.Acts.{Act, PutByte, GetByte, Checked, checked_order, evaluated}
use Rattle.cmm_program.specs.Orders as order
use Rattle.cmm_program.specs.Orders.{Order, Word}
use Rattle.cmm_program.specs.Client.{answered, with_log}
use Rattle.cmm_program.specs.Control.{Control, State, transferred}
use Rattle.cmm_program.specs.Layout.{bytes_of}
use Rattle.cmm_program.specs.Frames.{without}
use Rattle.cmm_program.specs.Machine.{start_of, step_of, steps_of}
use Rattle.cmm_program.specs.Performing.{Transfer, returned, Stay, perform}
use Rattle.cmm_program.specs.State.{Activation, Running, Setting, Store, Waiting}
use Rattle.cmm_script.specs.Lines.{yield_line}

-- the line of a yield is not seen while the client is waited for
pub line_unseen : LineUnseen
line_unseen values log = take_at log (yield_line values) _ (omega (arith, length-append log (yield_line values)))

-- what is seen begins what is there
prefix_take : (n : ℕ) (log : List ℕ) → IsPrefix (take n log) log
prefix_take n log = record { rest = drop n log; whole = sym (take-append-drop n log) }

seen_begins : {C : Type 0} (st : State C) → IsWithin (store_seen st.store) (seen_in st)
seen_begins st = grind (arith, prefix_refl, prefix_take)

-- the act that an order comes from, where that is a foreign call
abbrev CalledBy : Act → Order → Type 0
CalledBy act (order.PutByte n) = (value : Value) × (act ≡ PutByte value)
CalledBy act (order.GetByte target) = act ≡ GetByte target
CalledBy act order = ⊤

-- no other act comes to such an order
checked_called : (act : Act) (site : ℕ) (targets : List Target) (o : Option ℕ) → CalledBy act (checked_order site targets o)
checked_called act site targets o = grind arith

called_by : (r : Reads) (act : Act) → KeptBy (CalledBy act) (evaluated r act)
called_by r (PutByte value) = kept_and_then (value r) _ (λ n is. kept_ok (value, refl))
called_by r (Checked site targets op width left right) = search (keeping, checked_called)
called_by r act = grind arith

module _ {C : Type 0} (k : Control C) (s : Setting) (st : State C) where
  -- what an answer leads to
  abbrev TransferLeads : Transfer → Type 0
  TransferLeads transfer = Leads s st.store (Adds k s st) (transferred k s transfer st.controls).store

  -- the store of the state comes after itself
  start : After s st.store (Adds k s st) st.store
  start = nothing_after s st.store runs.Nothing

  -- the youngest activation goes on
  stays : (way : ℕ) (store : Store) → st.store.status ≡ Running → After s st.store (Adds k s st) store → TransferLeads (Stay way store)
  stays way store running here = grind arith

  -- a return
  returned_leads : (exit alternates : ℕ) (words : List Word) (fs : List Activation) → KeptBy TransferLeads (returned s exit alternates words fs st.store)
  returned_leads exit alternates words [] = grind (arith, without_after 1 st.store start)
  returned_leads exit alternates words (f ∷ fs) = search (keeping, lands k s, without_after, start) depth 10

  -- each order
  performed : (order : Order) → NextOrder k s st order → KeptBy TransferLeads (perform s order st.store)
  performed (order.Assign ws) next = kept_after (put_all_after ws st.store start) (λ after here. kept_ok (stays 0 after next.running here))
  performed (order.PutByte n) next =
      let call = (called_by _ _).holds (order.PutByte n) next.next in grind (arith, runs.Output call.0 n call.1 next)
  performed (order.GetByte target) next =
      let takes : Takes k st = (target, next.running, (called_by _ _).holds (order.GetByte target) next.next) in grind (arith, runs.Nothing, runs.Input)
  performed (order.Yield site values) next = kept_ok (runs.Line site values next, (site_after (Some site) st.store start).stack)
  performed (order.Return exit alternates words) next = grind (arith, returned_leads exit alternates words)
  performed order next = search (keeping, stays, start, lands k s, without_after) depth 10

  -- what the client's answer adds, whatever its lines are
  abbrev Answers : Traffic → Type 0
  Answers t = (text : List ℕ) → Adds k s st (record t { log = st.store.log ++ text })

  logged_after : (text : List ℕ) (store : Store) → After s st.store Answers store → After s st.store (Adds k s st) (with_log (st.store.log ++ text) store)
  logged_after text store here = record { passed = here.passed text; status = here.status; stack = here.stack }

  -- the client's answer
  answer_leads : (values : List ℕ) → st.store.status ≡ Waiting values → TransferLeads (answered s values st.store)
  answer_leads values waiting = answered_kept s values (After s st.store Answers)
      (λ transfer. Leads s st.store (Adds k s st) (transferred k s transfer st.controls).store) st.store (record {
        sets = λ store here cursor n value a info at is less. grind (arith, stack_with_value s cursor n value store.activations);
        pokes = λ store here address value may. bytes_after address (bytes_of 8 value) store here;
        goes = λ store here more gone a e vs at exit count fit. lands k s (e.landing vs) (with_log (st.store.log ++ more) (without gone store)) _ (logged_after more (without gone store) (without_after gone store here));
        stops = λ store here more. (here.passed more, here.stack);
      }) (nothing_after s st.store (λ text. runs.Lines values text waiting))

  -- each step
  pub step_leads : Leads s st.store (Adds k s st) (step_of k s st).store
  step_leads = step_has k s (λ next. Leads s st.store (Adds k s st) next.store) st performed
      (λ error. (runs.Nothing, (λ h. h, λ h. h))) answer_leads (λ rests. grind (arith, start))

  -- ---- what grows

  -- what is seen after what a step adds has all there was
  adds_grow : (t : Traffic) → Adds k s st t →
      IsWithin (seen_in st) (record { output = t.output; log = log_seen t.yielded t.log; taken = t.taken })
  adds_grow t (runs.Line site values next) = search (line_unseen values st.store.log, prefix_refl)
  adds_grow t adds = search (prefix_refl, prefix_more)

  -- a step takes back nothing that was seen
  pub step_grows : IsWithin (seen_in st) (seen_in (step_of k s st))
  step_grows = within_trans (adds_grow _ step_leads.0) (seen_begins (step_of k s st))

  -- nor of what is seen while the client is waited for
  pub step_shows : IsWithin (store_seen st.store) (store_seen (step_of k s st).store)
  step_shows = within_trans (seen_begins st) (adds_grow _ step_leads.0)

  -- and takes input only at its call
  adds_takes : (t : Traffic) → Adds k s st t → (t.input ≡ st.store.input) × (t.taken ≡ st.store.taken) ⊎ Takes k st
  adds_takes t adds = grind arith

  pub step_takes : let now = (step_of k s st).store in (now.input ≡ st.store.input) × (now.taken ≡ st.store.taken) ⊎ Takes k st
  step_takes = adds_takes _ step_leads.0

  -- of which none is lost
  none_lost : (t : Traffic) → Adds k s st t → t.taken ++ t.input ≡ st.store.taken ++ st.store.input
  none_lost t adds = grind (arith, append_assoc)

module _ {C : Type 0} (k : Control C) (s : Setting) where
  -- nor do many steps take back what was seen
  pub steps_grow : (m n : ℕ) (st : State C) → IsWithin (seen_in (steps_of k s m st)) (seen_in (steps_of k s (m + n) st))
  steps_grow zero n st = rw (zero-add n) (kept_by_steps k s (λ later. IsWithin (seen_in st) (seen_in later))
      (λ later within. within_trans within (step_grows k s later)) n st (within_refl _))
  steps_grow (suc m) n st = rw (suc-add m n) (steps_grow m n (step_of k s st))

  -- what was taken and what is left are the input
  pub input_kept : (input : List ℕ) (m : ℕ) → let store = (steps_of k s m (start_of k s input)).store in store.taken ++ store.input ≡ input
  input_kept input m = kept_by_steps k s (λ st. st.store.taken ++ st.store.input ≡ input)
      (λ st h. none_lost k s st _ (step_leads k s st).0 ∙ h) m (start_of k s input) (ap (λ t. t.taken ++ t.input) (start_keeps k s input).0)
