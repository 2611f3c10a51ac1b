-- A procedure is entered at its Entry, or the run ends at the limit of the stack.
use Rattle.std.proofs.Common.{◌≡◌, ℕ, ◌+◌, ◌-◌, ◌%◌, ◌<◌, ◌≤◌, refl, sym, ◌∙◌, ap, subst, arith, Bool, true, false, List, [], ◌∷◌, ◌++◌, length, map, Option, Some, None, IsTrue, slice_get}
use Rattle.std.specs.Prelude.{nat_le, replicate, Ok}
use Rattle.std.proofs.lemmas.Bool.Decides.{nat_tests}
use Rattle.std.proofs.lemmas.List.{length-map}
use Rattle.std.proofs.lemmas.List.Sums.{sum_by-cons}
use Rattle.rv_table.specs.Machine.{State}
use Rattle.rv_table.specs.declared.request.Request.TheVariants as request
use Rattle.rv_asm.proofs.Shared.{reaches_then, reaches_weaker}
use Rattle.cmm_chain.specs.declared.frame.Location.{Location}
use Rattle.cmm_chain.specs.Running.{Holdings, entered}
use Rattle.cmm_program.specs.Errors.{WrongValues, provided}
use Rattle.cmm_program.specs.declared.procedure.Proc.{Proc}
use Rattle.cmm_program.specs.declared.placement.PlaceRow.{PlaceRow}
use Rattle.cmm_program.specs.Control.{over}
use Rattle.cmm_program.specs.Exits.{begun}
use Rattle.cmm_program.specs.Frames.{frame_address, frame_size, new_activation, place_row, procedure_at, room_of, stackdata_offset}
use Rattle.cmm_program.specs.Layout.{stackdata_size}
use Rattle.cmm_program.specs.Memory.{Room}
use Rattle.cmm_program.specs.State as p
use Rattle.cmm_program.specs.State.{Activation, Setting, Store, stack_top}
use Rattle.cmm_graph.specs.declared.number.NodeId.{NodeId}
use Rattle.cmm_graph.specs.declared.number.Variable.{Variable}
use Rattle.cmm_graph.specs.declared.node.NodeKind.TheVariants.{Entry}
use Rattle.cmm_graph.specs.declared.graph.Graph.{Graph}
use Rattle.cmm_graph.specs.Ranges.{IsValid, is_step, leads_to}
use Rattle.cmm_machine_laws.proofs.Shared.{frames_aligned}
use Rattle.cmm_machine_laws.specs.Stacks.{Extent, extent, stack_of, stackdata_at}
use Rattle.cmm_effects.proofs.Shared.{reaches_more, reaches_sound}
use Rattle.cmm_calls.specs.Frames.{HasRoom, Makes, PutsEach, fixed_numbers, zeros}
use Rattle.cmm_calls.specs.Values.{IsBegun, values_for}
use Rattle.cmm_image_machine.specs.Machine.{Launch, map_of}
use Rattle.cmm_emit_laws.proofs.Carrying.{forget_values, puts_show}
use Rattle.cmm_emit_laws.proofs.Making.{made_shows}
use Rattle.cmm_emit_laws.specs.Represented.{ArePlacesOf, IsFor, IsMade, IsPlaceOf, IsRepresented, put_each, stack_region}
use Rattle.cmm_located.specs.Compiled.{Compiled, Located, bare}
use Rattle.cmm_located.specs.LocatedMachine.{tokens_at}
use Rattle.cmm_located.specs.Nodes.{begins, passed_to, ran_at, zeros_in}
use Rattle.cmm_emit_laws.proofs.Doing.{IsDone, kept_shown, silently, stands_there, tokens_there}
use Rattle.cmm_emit_laws.proofs.Ending.{ended_outside, ends}
use Rattle.cmm_emit_laws.proofs.Going.{place_is}
use Rattle.cmm_emit_laws.proofs.Taking.{formals_are_places, formals_put, pairs, pairs_are_places, come_to_places, values_fit}
use Rattle.cmm_emit_laws.specs.Finished.{Finished, code_of}
use Rattle.cmm_emit_laws.specs.NodeCode.{EntryCode, places_of}
use Rattle.cmm_emit_laws.specs.ProgramCode.{IsLaidFor}
use Rattle.cmm_emit_laws.specs.Standing.{AreBare, Stands}
use Rattle.cmm_emit_laws.proofs.Regions.{bottom_is, top_is}

-- stackdata comes unwritten
room_unwritten : (frame : ℕ) (p : Proc) (row : PlaceRow) → (count : ℕ) × ((room_of frame p row).cells ≡ replicate count None)
room_unwritten frame p row = by (stackdata_offset p row)
  where
    by : (o : Option ℕ) → (count : ℕ) × (Room.cells (elim o as (λ _. Room) [
      | Some offset ↦ record { address = frame + offset; cells = replicate (stackdata_size p.stack) None }
      | None ↦ record { address = frame; cells = [] }
    ]) ≡ replicate count None)
    by (Some offset) = (stackdata_size p.stack, refl)
    by None = (0, refl)

-- zeros are put into the places of locals
zeros_put : (c : Compiled) (q : ℕ) (vs : List ℕ) (h : Holdings) → put_each (zeros (map (c.plan.place q) vs)) h ≡ zeros_in c.plan q vs h
zeros_put c q [] h = refl
zeros_put c q (v ∷ vs) h = zeros_put c q vs _

zeros_are_places : (s : Setting) (a : Activation) (place : ℕ → Location) (vs : List ℕ) → ((v : ℕ) → IsPlaceOf s a (place v)) → ArePlacesOf s a (zeros (map place vs))
zeros_are_places s a place [] are = tt
zeros_are_places s a place (v ∷ vs) are = (are v, (omega arith, zeros_are_places s a place vs are))

-- what two lists put, one behind the other
put_both : (xs ys : List (Location × ℕ)) (h : Holdings) → put_each (xs ++ ys) h ≡ put_each ys (put_each xs h)
put_both [] ys h = refl
put_both ((place, n) ∷ xs) ys h = put_both xs ys _

both_are_places : (s : Setting) (a : Activation) (xs ys : List (Location × ℕ)) → ArePlacesOf s a xs → ArePlacesOf s a ys → ArePlacesOf s a (xs ++ ys)
both_are_places s a [] ys one two = two
both_are_places s a ((place, n) ∷ xs) ys one two = (one.0, (one.1.0, both_are_places s a xs ys one.1.1 two))

module _ (s : Setting) (c : Compiled) (l : Launch) (f : Finished) (rest : ℕ → ℕ) (is_for : IsFor s (map_of l)) (at : Located) (t : State) (stands : Stands s c l f rest at t)
    (are_bare : AreBare at) (laid : IsLaidFor s c at.procedure) where
  -- ---- without room

  pub limit_done : (cost : ℕ) (formals : List Variable) (next : NodeId) → EntryCode s c l f at.procedure at.node formals next cost → 1 ≤ tokens_at s c at →
      nat_le (s.stack_base + (c.plan.frame at.procedure).size) at.holdings.point.at ≡ false → IsDone s c l f rest at cost t (record at { store = over (p.Ended p.StackLimit) at.store })
  limit_done cost formals next code tokens lacks =
      let aligned = frames_aligned.of_stack s (stack_of at.store) stands.shown.stack is_for.set in
      ends s c l f rest at t request.StackLimit p.StackLimit (record { leaves = λ o u. refl; silent = λ u event is. absurd (cc); plain = λ walk other. refl }) _ refl
      (ended_outside at p.StackLimit stands.running) tokens refl (λ b. b) cost (7 + code.ends) (omega (arith, code.few_at_limit))
      (reaches_weaker
      (reaches_then
      (reaches_sound ((code.begins.short (stack_region s)).runs.go t stands.sound stands.pc (record {
        region = stands.shown.holdings.region;
        low = omega (arith, aligned.1, stands.shown.holdings.frame, stands.shown.at, bottom_is s (map_of l) is_for);
        lacks = grind (arith, nat_tests, lacks, stands.shown.holdings.frame, bottom_is s (map_of l) is_for);
        fits = omega (arith, bottom_is s (map_of l) is_for, is_for.small, laid.can.small);
      })) stands.sound)
      (λ u there. reaches_more (code.limits.go u there.1 there.0.0) (λ v asks. asks.1)))
      (omega arith) (omega arith) (λ v asks. asks))

  -- ---- with room

  abbrev new : Activation
  new = bare (new_activation at.procedure laid.procedure [])

  abbrev room : Room
  room = room_of (frame_address s (new_activation at.procedure laid.procedure [] ∷ at.store.activations)) laid.procedure (place_row s at.procedure)

  abbrev store_made : Store
  store_made = record at.store { activations = new ∷ at.store.activations; memory = record at.store.memory { rooms = room ∷ at.store.memory.rooms } }

  abbrev holdings_made : Holdings
  holdings_made = zeros_in c.plan at.procedure (c.zeroed at.procedure) (entered c.plan at.procedure at.holdings.point at.holdings.contents)

  -- once the formals have their arguments
  abbrev holdings_entered : List Variable → Holdings
  holdings_entered formals = passed_to c.plan at.procedure (map (λ v. v.number) formals) at.carried holdings_made

  abbrev made : List Variable → Located
  made formals = record { store = store_made; holdings = holdings_entered formals; procedure = at.procedure; node = at.node; carried = [] }

  module _ (formals : List Variable) (enough : length formals ≤ length at.carried) (fits : nat_le (s.stack_base + (c.plan.frame at.procedure).size) at.holdings.point.at ≡ true) where
    above : s.stack_base + (c.plan.frame at.procedure).size ≤ at.holdings.point.at
    above = grind (arith, nat_tests, fits)

    has_room : HasRoom (stack_region s) (c.plan.frame at.procedure).size (map_of l) t
    has_room =
        let aligned = frames_aligned.of_stack s (stack_of at.store) stands.shown.stack is_for.set in
        let high : frame_address s at.store.activations ≤ stack_top s = omega arith in
        record {
          stack = record {
            lies = is_for.lies;
            aligned = ap (λ (n : ℕ). n % 16) (stands.shown.holdings.frame ∙ stands.shown.at) ∙ aligned.0;
            low = omega (arith, above, stands.shown.holdings.frame, bottom_is s (map_of l) is_for);
            high = omega (arith, stands.shown.holdings.frame, stands.shown.at, high, top_is s (map_of l) is_for);
          };
          region = stands.shown.holdings.region;
          room = omega (arith, above, stands.shown.holdings.frame, bottom_is s (map_of l) is_for);
        }

    new_address : frame_address s (new_activation at.procedure laid.procedure [] ∷ at.store.activations) ≡ at.holdings.point.at - (c.plan.frame at.procedure).size
    new_address = omega (arith, sum_by-cons (frame_size s) (new_activation at.procedure laid.procedure []) at.store.activations, stands.shown.at, laid.size)

    stackdata : extent room ≡ stackdata_at s new (at.holdings.point.at - (c.plan.frame at.procedure).size)
    stackdata =
        ap (λ (n : ℕ). extent (room_of n laid.procedure (place_row s at.procedure))) new_address
        ∙ sym (ap (λ (o : Option Proc). elim o as (λ _. Extent) [
          | Some p ↦ extent (room_of (at.holdings.point.at - (c.plan.frame at.procedure).size) p (place_row s at.procedure))
          | None ↦ record { address = at.holdings.point.at - (c.plan.frame at.procedure).size; length = 0 }
        ]) laid.is_procedure)

    is_made : (next : NodeId) (cost : ℕ) (code : EntryCode s c l f at.procedure at.node formals next cost) →
        IsMade f.symbols s c.plan at.procedure new room (f.labels at.procedure) code.landings at.holdings
    is_made next cost code =
        let cells = room_unwritten (frame_address s (new_activation at.procedure laid.procedure [] ∷ at.store.activations)) laid.procedure (place_row s at.procedure) in
        record {
          size = laid.size;
          fits = above;
          words = laid.words new refl;
          saves = laid.can.registers;
          stackdata = stackdata;
          count = cells.0;
          unwritten = cells.1;
          pairs = code.pairs;
          addresses = code.addresses;
        }

    module _ (next : NodeId) (cost : ℕ) (code : EntryCode s c l f at.procedure at.node formals next cost) (w v : State)
        (makes : Makes (c.plan.frame at.procedure).size (fixed_numbers (f.labels at.procedure) (c.plan.frame at.procedure) code.landings t.registers (w.registers 2)) t w)
        (puts : PutsEach (zeros (map (c.plan.place at.procedure) (c.zeroed at.procedure)) ++ values_for (stack_region s) 0 (places_of s c l f at.procedure formals) t) w v) where
      first_shown : IsRepresented f.symbols rest s (entered c.plan at.procedure at.holdings.point at.holdings.contents) store_made at.carried w
      first_shown =
          made_shows f.symbols rest s (map_of l) is_for c.plan at.procedure at.holdings at.store at.carried new room (f.labels at.procedure) code.landings t w (is_made next cost code)
          stands.sound.registers makes stands.shown

      first_bare : IsRepresented f.symbols rest s (entered c.plan at.procedure at.holdings.point at.holdings.contents) store_made [] w
      first_bare = forget_values f.symbols rest s (entered c.plan at.procedure at.holdings.point at.holdings.contents) store_made at.carried w first_shown

      zero_places : ArePlacesOf s new (zeros (map (c.plan.place at.procedure) (c.zeroed at.procedure)))
      zero_places = zeros_are_places s new (c.plan.place at.procedure) (c.zeroed at.procedure) (λ k. laid.places new k refl)

      entered_shown : IsRepresented f.symbols rest s (holdings_entered formals) store_made [] v
      entered_shown =
          let places : List Location = places_of s c l f at.procedure formals in
          let count : length places ≡ length formals = length-map formals (λ k. c.plan.place at.procedure k.number) in
          let same : values_for (stack_region s) 0 places t ≡ pairs places at.carried =
          come_to_places (stack_region s) places at.carried t (omega (arith, count, enough)) (λ i less. stands.shown.values.1 i (omega (arith, less, count, enough))) in
          let made_zero = zeros (map (c.plan.place at.procedure) (c.zeroed at.procedure)) in
          let first = entered c.plan at.procedure at.holdings.point at.holdings.contents in
          subst (λ (h : Holdings). IsRepresented f.symbols rest s h store_made [] v)
          (put_both made_zero (pairs places at.carried) first
          ∙ ap (put_each (pairs places at.carried)) (zeros_put c at.procedure (c.zeroed at.procedure) first)
          ∙ formals_put c.plan at.procedure formals at.carried holdings_made)
          (puts_show f.symbols rest s (map_of l) is_for (made_zero ++ pairs places at.carried) first store_made new at.store.activations w v refl
          (both_are_places s new made_zero (pairs places at.carried) zero_places
          (pairs_are_places s new places at.carried (formals_are_places s new c.plan at.procedure formals (λ k. laid.places new k refl))
          (values_fit (stack_region s) at.carried t stands.sound stands.shown.values)))
          (subst (λ (list : List (Location × ℕ)). PutsEach (made_zero ++ list) w v) same puts) first_bare)

    made_done : (cost : ℕ) (next : NodeId) (code : EntryCode s c l f at.procedure at.node formals next cost) (g : Graph) → slice_get c.graphs at.procedure ≡ Some g → IsValid g →
        IsTrue (leads_to g is_step next) → IsDone s c l f rest at cost t (record (made formals) { node = next })
    made_done cost next code g is_graph valid leads =
        silently s c l f rest at cost t (record (made formals) { node = next }) (tokens_there s c l f rest (made formals) g is_graph valid next leads) refl refl (λ b. ap (λ (xs : List Activation). new ∷ xs) b)
        (reaches_more (reaches_sound {Q = λ v. (v.pc ≡ f.node_at at.procedure next) × IsRepresented f.symbols rest s (holdings_entered formals) store_made [] v}
        (reaches_weaker
        (reaches_then (reaches_sound ((code.begins.made (stack_region s)).runs.go t stands.sound stands.pc has_room) stands.sound)
        (λ u there. reaches_more (code.goes_on.go u there.1 there.0.0 tt)
        (λ v last. (last.0, kept_shown f rest s l is_for (holdings_entered formals) store_made [] u v last.1 (taken u there.0.1)))))
        (omega arith) (omega (arith, code.few, length-map {B = Location} formals (λ k. c.plan.place at.procedure k.number))) (λ v last. last))
        stands.sound)
        (λ v last. stands_there s c l f rest (made formals) g is_graph valid next leads v stands.running
        (record { activation = new; older = at.store.activations; youngest = refl; same = refl; carried = refl }) last.0.1 last.0.0 last.1))
      where
        taken : (v : State) →
            IsBegun (code_of l f at.procedure) (stack_region s) (c.plan.frame at.procedure) code.landings (map (c.plan.place at.procedure) (c.zeroed at.procedure)) (places_of s c l f at.procedure formals) t v →
            IsRepresented f.symbols rest s (holdings_entered formals) store_made [] v
        taken v (w, makes, puts) = entered_shown next cost code w v makes puts

  store_is : (o : Option Proc) → o ≡ Some laid.procedure → elim o as (λ _. Store) [
    | Some p ↦ let after = begun s at.procedure p [] at.store.activations at.store in record after { activations = map bare after.activations }
    | None ↦ at.store
  ] ≡ store_made
  store_is o is =
      ap (λ (z : Option Proc). elim z as (λ _. Store) [
        | Some p ↦ let after = begun s at.procedure p [] at.store.activations at.store in record after { activations = map bare after.activations }
        | None ↦ at.store
      ]) is ∙ ap (λ (xs : List Activation). record store_made { activations = new ∷ xs }) are_bare

  pub entry_done : (formals : List Variable) (next : NodeId) (cost : ℕ) (after : Located) (code : EntryCode s c l f at.procedure at.node formals next cost) (g : Graph) → slice_get c.graphs at.procedure ≡ Some g → IsValid g →
      IsTrue (leads_to g is_step next) → 1 ≤ tokens_at s c at →
      ran_at s c (Entry formals next) at ≡ Ok after → IsDone s c l f rest at cost t after
  entry_done formals next cost after code g is_graph valid leads tokens is = by_count (nat_le (length formals) (length at.carried)) refl is
    where
      by : length formals ≤ length at.carried → (test : Bool) → nat_le (s.stack_base + (c.plan.frame at.procedure).size) at.holdings.point.at ≡ test →
          elim test as (λ _. Located) [
            | true ↦ record {
              store = elim (procedure_at s at.procedure) as (λ _. Store) [
                | Some p ↦ let after = begun s at.procedure p [] at.store.activations at.store in record after { activations = map bare after.activations }
                | None ↦ at.store
              ];
              holdings = holdings_entered formals;
              procedure = at.procedure;
              node = next;
              carried = [];
            }
            | false ↦ record at { store = over (p.Ended p.StackLimit) at.store }
          ] ≡ after → IsDone s c l f rest at cost t after
      by enough true fits e =
          let same : record (made formals) { node = next } ≡ after = ap (λ (z : Store). record (made formals) { store = z; node = next }) (sym (store_is (procedure_at s at.procedure) laid.is_procedure)) ∙ e in
          subst (λ (z : Located). IsDone s c l f rest at cost t z) same (made_done formals enough fits cost next code g is_graph valid leads)
      by enough false lacks e = subst (λ (z : Located). IsDone s c l f rest at cost t z) e (limit_done cost formals next code tokens lacks)

      by_count : (test : Bool) → nat_le (length formals) (length at.carried) ≡ test →
          provided test WrongValues (Ok (begins s c (map (λ k. k.number) formals) next at)) ≡ Ok after → IsDone s c l f rest at cost t after
      by_count true many e =
          by (grind (arith, nat_tests, many)) (nat_le (s.stack_base + (c.plan.frame at.procedure).size) at.holdings.point.at) refl (place_is e)
      by_count false few e = absurd (cc)
