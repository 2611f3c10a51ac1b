-- A local or a global register takes the value of a right side.
use Rattle.std.proofs.Common.{◌≡◌, ℕ, ◌<◌, ◌^◌, refl, sym, ◌∙◌, ap, subst, arith, Bool, true, false, List, [], ◌∷◌, length, map, Option, Some, None, IsTrue, slice_get}
use Rattle.std.specs.Prelude.{◌&&◌, Ok, Err, if◌then◌else◌, slice_index_or}
use Rattle.std.specs.List.{list_all, range_with_len}
use Rattle.std.proofs.lemmas.Bool.{and_parts}
use Rattle.std.proofs.lemmas.Bool.Decides.{nat_tests}
use Rattle.cmm_words.specs.Widths.{IsWord, bytes}
use Rattle.cmm_words.specs.Words.{holds, low_bits, sign_extended, value1, value2}
use Rattle.cmm_words.specs.declared.operators.Cmp.{Cmp}
use Rattle.cmm_words.specs.declared.operators.Op2.{Op2}
use Rattle.cmm_words.specs.declared.width.Width.{Width}
use Rattle.cmm_words.specs.declared.width.Width.TheVariants.{W64}
use Rattle.rv_table.specs.Machine.{State, loaded}
use Rattle.rv_asm.specs.declared.part.Label.{Label}
use Rattle.rv_asm.proofs.Shared.{reaches_then, reaches_weaker}
use Rattle.rv_asm.specs.Reaching.{Reaches}
use Rattle.cmm_program.specs.Errors.{Tried, BadAccess, ZeroDivisor, all_of, and_then, given, provided}
use Rattle.cmm_program.specs.Memory.{cell_at, number_of}
use Rattle.cmm_program.specs.Orders as order
use Rattle.cmm_program.specs.State.{Setting, Store}
use Rattle.cmm_program.specs.Typing.{is_alignment}
use Rattle.cmm_program.specs.Values.{byte_of, loaded as loaded_word, may_access}
use Rattle.cmm_program.specs.declared.procedure.Target.TheVariants as target
use Rattle.cmm_graph.specs.declared.number.NodeId.{NodeId}
use Rattle.cmm_graph.specs.declared.operand.Destination.{Destination}
use Rattle.cmm_graph.specs.declared.operand.Destination.TheVariants as destination
use Rattle.cmm_graph.specs.declared.number.Register.{Register}
use Rattle.cmm_graph.specs.declared.operand.Operand.{Operand}
use Rattle.cmm_graph.specs.declared.operand.Rvalue.{Rvalue}
use Rattle.cmm_graph.specs.declared.operand.Rvalue.TheVariants as rvalue
use Rattle.cmm_graph.specs.declared.node.NodeKind.TheVariants.{Assign}
use Rattle.cmm_graph.specs.declared.graph.Graph.{Graph}
use Rattle.cmm_graph.specs.Counterpart.{names_rvalue, targets_of_destination}
use Rattle.cmm_graph.specs.Ranges.{IsValid, is_destination, is_kind, is_operand, is_rvalue, is_step, leads_to}
use Rattle.cmm_graph.specs.Values.{found_value, operand_value, operand_word, rvalue_value}
use Rattle.cmm_effects.proofs.Shared.{reaches_more, reaches_sound}
use Rattle.cmm_effects.specs.Accesses.{global_at}
use Rattle.cmm_effects.specs.Pieces.{Leads}
use Rattle.cmm_select.specs.declared.operand.Operand.{Operand as CodeOperand}
use Rattle.cmm_select.specs.declared.destination.Destination.{Destination as CodeDestination}
use Rattle.cmm_select.specs.Assignments.{Assigns, AssignsBinary, AssignsComparison, AssignsOne, CanCopyGlobal}
use Rattle.cmm_select.specs.Destinations.{CanPut, PutsTo}
use Rattle.cmm_select.specs.Memory.{AssignsLoaded, IsCellBy, access_of}
use Rattle.cmm_select.specs.Operands.{CanBringOperand, operand_at}
use Rattle.cmm_image_machine.specs.Machine.{Launch, map_of}
use Rattle.cmm_emit_laws.proofs.Carrying.{forget_values}
use Rattle.cmm_emit_laws.proofs.Accessing.{loaded_is_spelled}
use Rattle.cmm_emit_laws.specs.Represented.{IsFor, IsPlaceOf, IsRepresented}
use Rattle.cmm_located.specs.Compiled.{Compiled, Located}
use Rattle.cmm_located.specs.Nodes.{done, keeping, ran_at, reads_at}
use Rattle.cmm_emit_laws.proofs.Accesses.{may_is_cell}
use Rattle.cmm_emit_laws.proofs.Doing.{IsDone, kept_shown, silently, stands_there, tokens_there}
use Rattle.cmm_emit_laws.proofs.Going.{place_is}
use Rattle.cmm_emit_laws.proofs.Operands.{ok_is, operand_is, word_is}
use Rattle.cmm_emit_laws.proofs.Targets.{can_put, count_with, global_is_read, global_reached, holdings_with, put_shown, registers_with}
use Rattle.cmm_emit_laws.specs.Finished.{Finished, code_of}
use Rattle.cmm_emit_laws.specs.NodeCode.{AssignCode, IsOperandOf, IsPutInto, IsRegister}
use Rattle.cmm_emit_laws.specs.ProgramCode.{names_register, names_registers}
use Rattle.cmm_emit_laws.specs.Standing.{IsInBody, Stands}

module _ (s : Setting) (c : Compiled) (l : Launch) (f : Finished) (rest : ℕ → ℕ) (is_for : IsFor s (map_of l)) (at : Located) (t : State) (stands : Stands s c l f rest at t)
    (body : IsInBody at) (g : Graph) (is_graph : slice_get c.graphs at.procedure ≡ Some g) (valid : IsValid g)
    (places : (v : ℕ) → IsPlaceOf s body.activation (c.plan.place at.procedure v)) where
  abbrev value : Operand → Tried ℕ
  value o = operand_value (keeping s c at).held o (reads_at s c at)

  abbrev word : Width → Operand → Tried ℕ
  word w o = operand_word (keeping s c at).held w o (reads_at s c at)

  brought : (o : Operand) (a : CodeOperand) (x : ℕ) → IsOperandOf s c l f at.procedure o a → value o ≡ Ok x → (operand_at (f.labels at.procedure) a t ≡ x) × CanBringOperand a (map_of l) t
  brought o a x is is_x = operand_is s c l f rest is_for at t body.activation body.older body.youngest places stands.shown o a x is is_x

  shown_here : IsRepresented f.symbols rest s at.holdings at.store [] t
  shown_here = forget_values f.symbols rest s at.holdings at.store at.carried t stands.shown

  module _ (to : CodeDestination) (reached : CanPut (f.labels at.procedure) to (map_of l) t) (count on v : ℕ) where
    abbrev ArePut : State → Type 0
    ArePut u = (u.pc ≡ on) × PutsTo (f.labels at.procedure) to v t u

    -- a number that is the value
    put_as : (u : State) (n : ℕ) → n ≡ v → (u.pc ≡ on) × PutsTo (f.labels at.procedure) to n t u → ArePut u
    put_as u n is there = (there.0, subst (λ (k : ℕ). PutsTo (f.labels at.procedure) to k t u) is there.1)

    one_put : (o : Operand) (a : CodeOperand) (w : Width) (f' : ℕ → ℕ) → IsOperandOf s c l f at.procedure o a →
        AssignsOne count w f' a to (code_of l f at.procedure) (f.node_at at.procedure at.node) on →
        (r : Tried ℕ) → word w o ≡ r → and_then r (λ x. Ok (f' x)) ≡ Ok v → Reaches (map_of l) 1 count t ArePut
    one_put o a w f' is code (Ok x) is_x e =
        let known = word_is w (value o) x is_x in
        let found = brought o a x is known.0 in
        reaches_more (code.runs.go t stands.sound stands.pc (record { brings = found.1; word = subst (IsWord w) (sym found.0) known.1; reaches = reached }))
        (λ u there. put_as u (f' (operand_at (f.labels at.procedure) a t)) (ap f' found.0 ∙ ok_is e) there)
    one_put o a w f' is code (Err error) is_x e = absurd (cc)

    module _ (left right : Operand) (a b : CodeOperand) (w : Width) (is_a : IsOperandOf s c l f at.procedure left a) (is_b : IsOperandOf s c l f at.procedure right b) where
      two_put : (op : Op2) → AssignsBinary count op w a b to (code_of l f at.procedure) (f.node_at at.procedure at.node) on →
          (r : Tried ℕ) → word w left ≡ r → (q : Tried ℕ) → word w right ≡ q →
          and_then r (λ x. and_then q (λ y. given (value2 op w x y) ZeroDivisor Ok)) ≡ Ok v → Reaches (map_of l) 1 count t ArePut
      two_put op code (Ok x) is_x (Ok y) is_y e =
          let known = word_is w (value left) x is_x in
          let also = word_is w (value right) y is_y in
          let first = brought left a x is_a known.0 in
          let second = brought right b y is_b also.0 in
          by (value2 op w x y) (ap (λ (k : ℕ). value2 op w k (operand_at (f.labels at.procedure) b t)) first.0 ∙ ap (value2 op w x) second.0) e
          (code.runs.go t stands.sound stands.pc (record {
            brings = record { brings_left = first.1; brings_right = second.1 };
            words = (subst (IsWord w) (sym first.0) known.1, subst (IsWord w) (sym second.0) also.1);
            reaches = reached;
          }))
        where
          by : (o : Option ℕ) → value2 op w (operand_at (f.labels at.procedure) a t) (operand_at (f.labels at.procedure) b t) ≡ o → given o ZeroDivisor (λ z. Ok z) ≡ Ok v →
              Reaches (map_of l) 1 count t (λ u. (u.pc ≡ on) × Assigns (f.labels at.procedure) op w a b to t u) → Reaches (map_of l) 1 count t ArePut
          by (Some z) is e' reaches = reaches_more reaches (λ u there. put_as u there.1.number (there.1.given z is ∙ ok_is e') ((there.0, there.1.puts)))
          by None is e' reaches = absurd (cc)
      two_put op code (Ok x) is_x (Err error) is_y e = absurd (cc)
      two_put op code (Err error) is_x q is_y e = absurd (cc)

      compared : (op : Cmp) → AssignsComparison count op w a b to (code_of l f at.procedure) (f.node_at at.procedure at.node) on →
          (r : Tried ℕ) → word w left ≡ r → (q : Tried ℕ) → word w right ≡ q →
          and_then (and_then r (λ x. and_then q (λ y. Ok (holds op w x y)))) (λ h. Ok (elim h as (λ _. ℕ) [ true ↦ 1 | false ↦ 0 ])) ≡ Ok v → Reaches (map_of l) 1 count t ArePut
      compared op code (Ok x) is_x (Ok y) is_y e =
          let known = word_is w (value left) x is_x in
          let also = word_is w (value right) y is_y in
          let first = brought left a x is_a known.0 in
          let second = brought right b y is_b also.0 in
          by (holds op w x y) (ap (λ (k : ℕ). holds op w k (operand_at (f.labels at.procedure) b t)) first.0 ∙ ap (holds op w x) second.0) e
          (code.runs.go t stands.sound stands.pc (record {
            brings = record { brings_left = first.1; brings_right = second.1 };
            words = (subst (IsWord w) (sym first.0) known.1, subst (IsWord w) (sym second.0) also.1);
            reaches = reached;
          }))
        where
          by : (h : Bool) → holds op w (operand_at (f.labels at.procedure) a t) (operand_at (f.labels at.procedure) b t) ≡ h →
              ◌≡◌ {A = Tried ℕ} (Ok (elim h as (λ _. ℕ) [ true ↦ 1 | false ↦ 0 ])) (Ok v) →
              Reaches (map_of l) 1 count t (λ u. (u.pc ≡ on) × PutsTo (f.labels at.procedure) to (if holds op w (operand_at (f.labels at.procedure) a t) (operand_at (f.labels at.procedure) b t) then 1 else 0) t u) →
              Reaches (map_of l) 1 count t ArePut
          by true is e' reaches = reaches_more reaches (λ u there. put_as u _ (ap (λ (h : Bool). if h then 1 else 0) is ∙ ok_is e') there)
          by false is e' reaches = reaches_more reaches (λ u there. put_as u _ (ap (λ (h : Bool). if h then 1 else 0) is ∙ ok_is e') there)
      compared op code (Ok x) is_x (Err error) is_y e = absurd (cc)
      compared op code (Err error) is_x q is_y e = absurd (cc)

    -- a global register is read
    read : (r : Register) (label : Label) → IsRegister s c l f at.procedure r.number label → r.number < length at.store.registers →
        Leads count (CanCopyGlobal (f.labels at.procedure) (f.labels at.procedure label.number) to) (λ u w. PutsTo (f.labels at.procedure) to (global_at (f.labels at.procedure label.number) u) u w) (code_of l f at.procedure) (f.node_at at.procedure at.node) on →
        slice_index_or at.store.registers r.number 0 ≡ v → Reaches (map_of l) 1 count t ArePut
    read r label is within code e =
        reaches_more (code.runs.go t stands.sound stands.pc (record {
          reads = global_reached s c l f rest is_for at.procedure at.holdings at.store body.activation body.older body.youngest places t shown_here r.number label is within;
          reaches = reached;
        }))
        (λ u there. put_as u (global_at (f.labels at.procedure label.number) t)
        (global_is_read s c l f rest is_for at.procedure at.holdings at.store body.activation body.older body.youngest places t shown_here r.number label is within ∙ e) there)

    -- a word is loaded
    load : (width : Width) (aligned : ℕ) (o : Operand) (a : CodeOperand) → IsOperandOf s c l f at.procedure o a → is_alignment aligned ≡ true →
        AssignsLoaded count width aligned a to (code_of l f at.procedure) (f.node_at at.procedure at.node) on →
        (r : Tried ℕ) → value o ≡ r → and_then r (loaded_word (reads_at s c at) width aligned) ≡ Ok v → Reaches (map_of l) 1 count t ArePut
    load width aligned o a is fine code (Ok n) is_n e = by (may_access (cell_at at.store.memory) (bytes width) aligned n) refl e
      where
        found : (operand_at (f.labels at.procedure) a t ≡ n) × CanBringOperand a (map_of l) t
        found = brought o a n is is_n

        number : (r : Tried (List ℕ)) → all_of (map (λ k. byte_of (cell_at at.store.memory k)) (range_with_len n (bytes width))) ≡ r → and_then r (λ xs. Ok (number_of xs)) ≡ Ok v →
            loaded t.memory n (bytes width) ≡ v
        number (Ok xs) is_xs e' = loaded_is_spelled at.store.memory t.memory (bytes width) n xs stands.shown.cells is_xs ∙ ok_is e'
        number (Err error) is_xs e' = absurd (cc)

        by : (test : Bool) → may_access (cell_at at.store.memory) (bytes width) aligned n ≡ test →
            provided test BadAccess (and_then (all_of (map (λ k. byte_of (cell_at at.store.memory k)) (range_with_len n (bytes width)))) (λ xs. Ok (number_of xs))) ≡ Ok v →
            Reaches (map_of l) 1 count t ArePut
        by true may e' =
            reaches_more (code.runs.go t stands.sound stands.pc (record {
              brings = found.1;
              cell = subst (λ (k : ℕ). IsCellBy (access_of width aligned) width k (map_of l)) (sym found.0)
                  (may_is_cell s (map_of l) is_for at.store stands.shown.stack n width aligned may fine);
              reaches = reached;
            }))
            (λ u there. put_as u (loaded t.memory (operand_at (f.labels at.procedure) a t) (bytes width))
            (ap (λ (k : ℕ). loaded t.memory k (bytes width)) found.0 ∙ number (all_of (map (λ k. byte_of (cell_at at.store.memory k)) (range_with_len n (bytes width)))) refl e') there)
        by false may e' = absurd (cc)
    load width aligned o a is fine code (Err error) is_n e = absurd (cc)

    puts : (right : Rvalue) → IsPutInto s c l f at.procedure right to count (f.node_at at.procedure at.node) on → IsTrue (is_rvalue g right) →
        names_rvalue s.program right ≡ true → length at.store.registers ≡ length s.program.globals → found_value (keeping s c at).held right (reads_at s c at) ≡ Ok v →
        Reaches (map_of l) 1 count t ArePut
    puts (rvalue.Copy o) (a, is, code) fine named kept e =
        let found = brought o a v is e in
        reaches_more (code.runs.go t stands.sound stands.pc (record { brings = found.1; reaches = reached })) (λ u there. put_as u (operand_at (f.labels at.procedure) a t) found.0 there)
    puts (rvalue.Unary operator width o) (a, is, code) fine named kept e = one_put o a width (value1 operator width) is code (word width o) refl e
    puts (rvalue.SignExtend narrow width o) (a, is, code) fine named kept e = one_put o a narrow (sign_extended narrow width) is code (word narrow o) refl e
    puts (rvalue.LowBits wide width o) (a, is, code) fine named kept e = one_put o a wide (low_bits width) is code (word wide o) refl e
    puts (rvalue.Binary operator width left right) (a, b, is_a, is_b, code) fine named kept e =
        two_put left right a b width is_a is_b operator code (word width left) refl (word width right) refl e
    puts (rvalue.Compare test) (a, b, is_a, is_b, code) fine named kept e =
        compared test.left test.right a b test.width is_a is_b test.operator code (word test.width test.left) refl (word test.width test.right) refl e
    puts (rvalue.Register r) (label, is, code) fine named kept e =
        let less : r.number < length s.program.globals = grind (arith, nat_tests, named) in
        read r label is (omega (arith, less, kept)) code (ok_is e)
    puts (rvalue.Load width aligned o) (a, is, code) fine named kept e =
        load width aligned o a is (and_parts (is_alignment aligned) (is_operand g o) fine).0 code (value o) refl e

  -- ---- a destination takes the value

  module _ (kept : length at.store.registers ≡ length s.program.globals) where
    abbrev store_with : Destination → ℕ → Store
    store_with d v = record at.store { registers = registers_with d v at.store.registers }

    abbrev taken : Destination → ℕ → Located
    taken d v = record at {
      store = store_with d v;
      holdings = holdings_with c at.procedure d v at.holdings;
    }

    assigned : (d : Destination) (right : Rvalue) (next : NodeId) (cost v : ℕ) (code : AssignCode s c l f at.procedure at.node d right next cost) →
        v < 2 ^ 64 → IsTrue (is_rvalue g right) → IsTrue (leads_to g is_step next) → list_all (names_register s.program) (targets_of_destination d) ≡ true →
        names_rvalue s.program right ≡ true → found_value (keeping s c at).held right (reads_at s c at) ≡ Ok v → IsDone s c l f rest at cost t (record (taken d v) { node = next })
    assigned d right next cost v code small fine leads named reads e =
        silently s c l f rest at cost t (record (taken d v) { node = next }) (tokens_there s c l f rest (taken d v) g is_graph valid next leads) refl
        (count_with d v at.store.registers) (λ b. b)
        (reaches_more (reaches_sound {Q = λ u. (u.pc ≡ f.node_at at.procedure next) × IsRepresented f.symbols rest s (taken d v).holdings (store_with d v) at.carried u}
        (reaches_weaker
        (reaches_then (reaches_sound (puts code.into reached code.count code.on v right code.puts fine reads kept e) stands.sound)
        (λ u there. reaches_more (code.goes_on.go u there.1 there.0.0 tt)
        (λ w last. (last.0, kept_shown f rest s l is_for (taken d v).holdings (store_with d v) at.carried u w last.1 (shown_put u there.0.1)))))
        (omega arith) (omega (arith, code.few)) (λ w last. last))
        stands.sound)
        (λ w last. stands_there s c l f rest (taken d v) g is_graph valid next leads w stands.running
        (record { activation = body.activation; older = body.older; youngest = body.youngest; same = body.same; carried = body.carried }) last.0.1 last.0.0 last.1))
      where
        reached : CanPut (f.labels at.procedure) code.into (map_of l) t
        reached = can_put s c l f rest is_for at.procedure at.holdings at.store body.activation body.older body.youngest places t shown_here kept d code.into code.is_into named

        shown_put : (u : State) → PutsTo (f.labels at.procedure) code.into v t u → IsRepresented f.symbols rest s (taken d v).holdings (store_with d v) at.carried u
        shown_put u there =
            subst (λ (xs : List ℕ). IsRepresented f.symbols rest s (taken d v).holdings (store_with d v) xs u) (sym body.carried)
            (put_shown s c l f rest is_for at.procedure at.holdings at.store body.activation body.older body.youngest places t shown_here kept v small u d code.into code.is_into named there)

    pub assign_done : (d : Destination) (right : Rvalue) (next : NodeId) (cost : ℕ) (after : Located) → AssignCode s c l f at.procedure at.node d right next cost →
        IsTrue (is_kind g (Assign d right next)) → names_registers s.program (Assign d right next) ≡ true →
        ran_at s c (Assign d right next) at ≡ Ok after → IsDone s c l f rest at cost t after
    assign_done d right next cost after code fine named is = chosen (rvalue_value (keeping s c at).held right (reads_at s c at)) refl (by d is)
      where
        both : IsTrue (is_destination g d && is_rvalue g right) × IsTrue (leads_to g is_step next)
        both = and_parts (is_destination g d && is_rvalue g right) (leads_to g is_step next) fine

        names : (list_all (names_register s.program) (targets_of_destination d) ≡ true) × (names_rvalue s.program right ≡ true)
        names = and_parts (list_all (names_register s.program) (targets_of_destination d)) (names_rvalue s.program right) named

        chosen : (r : Tried ℕ) → rvalue_value (keeping s c at).held right (reads_at s c at) ≡ r →
            and_then r (λ v. Ok (record (taken d v) { node = next })) ≡ Ok after → IsDone s c l f rest at cost t after
        chosen (Ok v) is_v e =
            let known = word_is W64 (found_value (keeping s c at).held right (reads_at s c at)) v is_v in
            subst (λ (z : Located). IsDone s c l f rest at cost t z) (place_is e)
            (assigned d right next cost v code known.1 (and_parts (is_destination g d) (is_rvalue g right) both.0).1 both.1 names.0 names.1 known.0)
        chosen (Err error) is_v e = absurd (cc)

        by : (d' : Destination) → ran_at s c (Assign d' right next) at ≡ Ok after →
            and_then (rvalue_value (keeping s c at).held right (reads_at s c at)) (λ v. Ok (record (taken d' v) { node = next })) ≡ Ok after
        by (destination.Temporary m) e = each (rvalue_value (keeping s c at).held right (reads_at s c at)) e
          where
            each : (r : Tried ℕ) → and_then (and_then r (λ n. Ok (order.Choose n))) (λ o. done s c (Assign (destination.Temporary m) right next) o at) ≡ Ok after →
                and_then r (λ v. Ok (record (taken (destination.Temporary m) v) { node = next })) ≡ Ok after
            each (Ok v) e' = e'
            each (Err error) e' = absurd (cc)
        by (destination.Target (target.Variable number width)) e = each (rvalue_value (keeping s c at).held right (reads_at s c at)) e
          where
            each : (r : Tried ℕ) → and_then (and_then r (λ n. Ok (order.Choose n))) (λ o. done s c (Assign (destination.Target (target.Variable number width)) right next) o at) ≡ Ok after →
                and_then r (λ v. Ok (record (taken (destination.Target (target.Variable number width)) v) { node = next })) ≡ Ok after
            each (Ok v) e' = e'
            each (Err error) e' = absurd (cc)
        by (destination.Target (target.Register number width)) e = each (rvalue_value (keeping s c at).held right (reads_at s c at)) e
          where
            each : (r : Tried ℕ) → and_then (and_then (all_of (r ∷ [])) (λ vs. Ok (order.Assign (order.writes (order.Held (target.Register number width) ∷ []) vs))))
                (λ o. done s c (Assign (destination.Target (target.Register number width)) right next) o at) ≡ Ok after →
                and_then r (λ v. Ok (record (taken (destination.Target (target.Register number width)) v) { node = next })) ≡ Ok after
            each (Ok v) e' = e'
            each (Err error) e' = absurd (cc)
