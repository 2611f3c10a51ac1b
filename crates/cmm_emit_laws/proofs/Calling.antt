-- Control goes to a procedure: by a call, or by a tail call.
use Rattle.std.proofs.Common.{◌≡◌, ◌⊎◌, inl, inr, ℕ, ◌%◌, ◌≤◌, ◌^◌, refl, sym, ◌∙◌, ap, subst, arith, false, List, map, Option, Some, None, IsTrue, slice_get}
use Rattle.std.specs.Prelude.{◌==◌, ◌||◌, Ok, Err}
use Rattle.std.proofs.lemmas.Bool.{or_parts}
use Rattle.std.proofs.lemmas.Bool.Decides.{nat_tests}
use Rattle.rv_table.specs.Bounds.{IsSound}
use Rattle.rv_table.specs.Machine.{State}
use Rattle.rv_asm.proofs.Shared.{reaches_weaker}
use Rattle.rv_asm.specs.Reaching.{Reaches}
use Rattle.rv_asm.specs.declared.part.Label.{Label}
use Rattle.cmm_chain.specs.Running.{Holdings, called, left}
use Rattle.cmm_program.specs.Acts.{word_passed}
use Rattle.cmm_program.specs.Errors.{Tried, NotAProcedure, all_of, and_then, given as if_given}
use Rattle.cmm_program.specs.Exits.{numbers}
use Rattle.cmm_program.specs.Frames.{with_site, without}
use Rattle.cmm_program.specs.Orders as order
use Rattle.cmm_program.specs.Orders.{Word}
use Rattle.cmm_program.specs.Performing.{procedure_from}
use Rattle.cmm_program.specs.State as p
use Rattle.cmm_program.specs.State.{Setting, Store}
use Rattle.cmm_graph.specs.declared.number.NodeId.{NodeId}
use Rattle.cmm_graph.specs.declared.number.SiteId.{SiteId}
use Rattle.cmm_graph.specs.declared.operand.Argument.{Argument}
use Rattle.cmm_graph.specs.declared.operand.Operand.{Operand}
use Rattle.cmm_graph.specs.declared.operand.Operand.TheVariants as operand
use Rattle.cmm_graph.specs.declared.node.Exits.{Exits}
use Rattle.cmm_graph.specs.declared.node.Node.{Node}
use Rattle.cmm_graph.specs.declared.node.NodeKind.TheVariants.{Call, Jump}
use Rattle.cmm_graph.specs.declared.graph.Graph.{Graph}
use Rattle.cmm_graph.specs.GraphControl.{in_graph}
use Rattle.cmm_graph.specs.Paths.{node_of}
use Rattle.cmm_graph.specs.Ranges.{IsValid, is_entry}
use Rattle.cmm_graph.specs.Values.{operand_value, passed}
use Rattle.cmm_effects.proofs.Shared.{reaches_more, reaches_sound}
use Rattle.cmm_abi.specs.Registers.{is_scratch}
use Rattle.cmm_effects.specs.Changes.{Keeps, Sets}
use Rattle.cmm_select.specs.declared.operand.Operand.{Operand as CodeOperand}
use Rattle.cmm_select.specs.Operands.{Brings, most_for, operand_at}
use Rattle.cmm_calls.specs.Calls.{Calls, CallsBy, JumpsBy}
use Rattle.cmm_calls.specs.Frames.{HasFrame}
use Rattle.cmm_calls.specs.Values.{Gives, GivesAndLeaves, JumpsTo}
use Rattle.cmm_image_machine.specs.Machine.{Launch, map_of}
use Rattle.cmm_emit_laws.proofs.Leaving.{called_shows}
use Rattle.cmm_emit_laws.proofs.Resiting.{resited_shows}
use Rattle.cmm_emit_laws.specs.Represented.{IsFor, IsRepresented, stack_region}
use Rattle.cmm_located.specs.Compiled.{Compiled, Located}
use Rattle.cmm_located.specs.LocatedMachine.{tokens_at}
use Rattle.cmm_located.specs.Nodes.{done, keeping, ran_at, reads_at, to_procedure}
use Rattle.cmm_emit_laws.proofs.Bare.{dropped_are_bare, resited_are_bare}
use Rattle.cmm_emit_laws.proofs.Doing.{IsDone, kept_shown, silently}
use Rattle.cmm_emit_laws.proofs.Framed.{framed_inside}
use Rattle.cmm_emit_laws.proofs.Giving.{given, parted, values_are}
use Rattle.cmm_emit_laws.proofs.Going.{place_is}
use Rattle.cmm_emit_laws.proofs.Landing.{first_holds, has_tokens, inside_entry}
use Rattle.cmm_emit_laws.proofs.Operands.{ok_is, operand_is}
use Rattle.cmm_emit_laws.specs.Finished.{Finished, code_of}
use Rattle.cmm_emit_laws.specs.NodeCode.{CallCode, IsLabelOf, IsOperandOf, JumpCode}
use Rattle.cmm_emit_laws.specs.ProgramCode.{IsLaidFor}
use Rattle.cmm_emit_laws.specs.Standing.{IsInBody, Stands}

-- what brings an address into register 7 keeps all else
pub brings_keeps : (n : ℕ) (t u : State) → Brings 7 n t u → Keeps t u
brings_keeps n t u brings = record { registers = λ r is. brings.others r (apart r is); memory = brings.memory }
  where
    apart : (r : ℕ) → is_scratch r ≡ false → ((r == 7) || (r == 6)) ≡ false
    apart r is = grind (arith, nat_tests, is)

module _ (s : Setting) (c : Compiled) (l : Launch) (f : Finished) (rest : ℕ → ℕ) (is_for : IsFor s (map_of l)) (valid : (q : ℕ) (g : Graph) → slice_get c.graphs q ≡ Some g → IsValid g)
    (entries : (address q : ℕ) (n : NodeId) → procedure_from 0 address s.placement.rows ≡ Some q → in_graph c.graphs q (λ g. Some g.first) ≡ Some n →
    (f.node_at q n ≡ address) × (address % 4 ≡ 0)) (at : Located) (t : State) (stands : Stands s c l f rest at t) (body : IsInBody at) (laid : IsLaidFor s c at.procedure) where
  framed : HasFrame (stack_region s) (c.plan.frame at.procedure).size (map_of l) t
  framed = framed_inside s c l f rest is_for at t stands body laid

  abbrev value : Operand → Tried ℕ
  value o = operand_value (keeping s c at).held o (reads_at s c at)

  abbrev words : List Argument → Tried (List Word)
  words arguments = all_of (map (word_passed (reads_at s c at)) (passed (keeping s c at).held arguments))

  -- ---- at the Entry of a procedure

  module _ (store : Store) (h : Holdings) (ws : List Word) (q : ℕ) (n : NodeId) (first : in_graph c.graphs q (λ g. Some g.first) ≡ Some n) where
    abbrev entering : Located
    entering = record { store = store; holdings = h; procedure = q; node = n; carried = numbers ws }

    entry : (node : Node) × (in_graph c.graphs q (λ g. node_of g n) ≡ Some node) × IsTrue (is_entry node.kind)
    entry = first_holds c.graphs q (valid q) n first

    entry_tokens : 1 ≤ tokens_at s c entering
    entry_tokens =
        let e : tokens_at s c entering ≡ entry.0.tokens = ap (λ (o : Option Node). elim o as (λ _. ℕ) [ Some node ↦ node.tokens | None ↦ 0 ]) entry.1 in
        let some : 1 ≤ entry.0.tokens = has_tokens c.graphs q (valid q) n entry.0 entry.1 in
        omega (arith, e, some)

    stands_entering : (u : State) → store.status ≡ p.Running → u.pc ≡ f.node_at q n → IsRepresented f.symbols rest s h store (numbers ws) u → IsSound u → Stands s c l f rest entering u
    stands_entering u running pc shown sound = record {
      running = running;
      node = entry.0;
      there = entry.1;
      inside = inside_entry entry.0.kind entry.2 entering;
      shown = shown;
      pc = pc;
      sound = sound;
    }

  -- where the located machine goes to a procedure, and code does
  goes_by : (store : Store) (h : Holdings) (ws : List Word) (cost v : ℕ) →
      ((q : ℕ) → procedure_from 0 v s.placement.rows ≡ Some q → (n : NodeId) → (first : in_graph c.graphs q (λ g. Some g.first) ≡ Some n) →
      IsDone s c l f rest at cost t (entering store h ws q n first)) → (after : Located) → (o : Option ℕ) → procedure_from 0 v s.placement.rows ≡ o →
      if_given o NotAProcedure (λ q. to_procedure s c q store h (numbers ws)) ≡ Ok after → IsDone s c l f rest at cost t after
  goes_by store h ws cost v goes after (Some q) from e = by (in_graph c.graphs q (λ g. Some g.first)) refl e
    where
      by : (o : Option NodeId) → in_graph c.graphs q (λ g. Some g.first) ≡ o →
          if_given o NotAProcedure (λ n. Ok (record { store = store; holdings = h; procedure = q; node = n; carried = numbers ws })) ≡ Ok after → IsDone s c l f rest at cost t after
      by (Some n) first e' = subst (λ (z : Located). IsDone s c l f rest at cost t z) (place_is e') (goes q from n first)
      by None first e' = absurd (cc)
  goes_by store h ws cost v goes after None from e = absurd (cc)

  -- a label that stands for the callee's address
  label_is : (callee : Operand) (to : Label) (v : ℕ) → IsLabelOf s c l f at.procedure callee to → value callee ≡ Ok v → f.labels at.procedure to.number ≡ v
  label_is (operand.Constant k) to v is e = is ∙ ok_is e
  label_is (operand.Local v') to v is e = absurd is
  label_is (operand.Stackdata label) to v is e = absurd is
  label_is (operand.Continuation k) to v is e = absurd is

  callee_is : (callee : Operand) (to : CodeOperand) (v : ℕ) → IsOperandOf s c l f at.procedure callee to → value callee ≡ Ok v → operand_at (f.labels at.procedure) to t ≡ v
  callee_is callee to v is e =
      (operand_is s c l f rest is_for at t body.activation body.older body.youngest (λ k. laid.places body.activation k body.same) stands.shown callee to v is e).0

  -- what is shown once the address is in register 7
  brought_shown : (n : ℕ) (u : State) → Brings 7 n t u → IsRepresented f.symbols rest s at.holdings at.store at.carried u
  brought_shown n u brings = kept_shown f rest s l is_for at.holdings at.store at.carried t u (brings_keeps n t u brings) stands.shown

  -- ---- calls

  module _ (site : ℕ) (callee : Operand) (arguments : List Argument) (cost : ℕ) (code : CallCode s c l f at.procedure at.node site callee arguments cost) (ws : List Word)
      (is_words : words arguments ≡ Ok ws) where
    abbrev CalledAt : ℕ → State → Type 0
    CalledAt v u = (u.pc ≡ v) × IsRepresented f.symbols rest s (called at.procedure site at.holdings) at.store (numbers ws) u

    -- values have gone out, and the return address is set
    linked : (r w u : State) (link : ℕ) → IsRepresented f.symbols rest s at.holdings at.store at.carried r → Gives (stack_region s) (f.labels at.procedure) code.operands r w → Sets 1 link w u →
        link ≡ f.symbols.return_to at.procedure site → IsRepresented f.symbols rest s (called at.procedure site at.holdings) at.store (numbers ws) u
    linked r w u link shown gives sets is_link =
        called_shows f.symbols rest s (map_of l) is_for _ at.store (numbers ws) w u at.procedure site (sets.given ∙ is_link) sets.memory (λ k is. sets.others k (apart k is))
        (given s c l f rest is_for at r body.activation body.older body.youngest body.same laid shown code.operands ws w code.few_values
        (values_are s c l f rest is_for at r body.activation body.older body.youngest body.same laid shown arguments code.operands ws code.are is_words) gives)
      where
        apart : (k : ℕ) → ((k == 1) || is_scratch k) ≡ false → (k == 1) ≡ false
        apart k is = (or_parts (k == 1) (is_scratch k) is).0

    calls_to : (v : ℕ) → value callee ≡ Ok v → v % 4 ≡ 0 → Reaches (map_of l) 1 cost t (CalledAt v)
    calls_to v is_v aligned = by code.calls
      where
        by : ((to : Label) × IsLabelOf s c l f at.procedure callee to × ((on : ℕ) × Calls (c.plan.frame at.procedure) code.operands to code.back (code_of l f at.procedure) (f.node_at at.procedure at.node) on))
            ⊎ ((to : CodeOperand) × IsOperandOf s c l f at.procedure callee to × ((on : ℕ) × (most_for to ≤ 11) × CallsBy (c.plan.frame at.procedure) to code.operands code.back (code_of l f at.procedure) (f.node_at at.procedure at.node) on)) →
            Reaches (map_of l) 1 cost t (CalledAt v)
        by (inl (to, is, (on, calls))) =
            reaches_weaker ((calls.turns (stack_region s)).goes.go t stands.sound stands.pc (record { stack = framed; region = stands.shown.holdings.region })) (omega arith) (omega (arith, code.few))
            (λ u there. (there.0 ∙ label_is callee to v is is_v, linked t there.1.0 u (f.labels at.procedure code.back.number) stands.shown there.1.1 there.1.2 code.is_back))
        by (inr (to, is, (on, small, calls))) =
            let same = callee_is callee to v is is_v in
            reaches_weaker
            ((calls.turns (stack_region s)).goes.go t stands.sound stands.pc (record { stack = framed; region = stands.shown.holdings.region }, ap (λ (n : ℕ). n % 4) same ∙ aligned))
            (omega arith) (omega (arith, code.few, small))
            (λ u there. (
              there.0 ∙ same,
              linked there.1.0 there.1.2.0 u (f.labels at.procedure code.back.number % 2 ^ 64) (brought_shown _ there.1.0 there.1.1) there.1.2.1 there.1.2.2
                  (omega (arith, code.fits, code.is_back)),
            ))

    abbrev store_called : Store
    store_called = record at.store { activations = with_site (Some site) at.store.activations }

    entered_done : (v : ℕ) → value callee ≡ Ok v → (q : ℕ) → procedure_from 0 v s.placement.rows ≡ Some q → (n : NodeId) → (first : in_graph c.graphs q (λ g. Some g.first) ≡ Some n) →
        IsDone s c l f rest at cost t (entering store_called (called at.procedure site at.holdings) ws q n first)
    entered_done v is_v q from n first =
        let there_is = entries v q n from first in
        silently s c l f rest at cost t (entering store_called (called at.procedure site at.holdings) ws q n first)
        (entry_tokens store_called (called at.procedure site at.holdings) ws q n first) refl refl (resited_are_bare (Some site) at.store.activations)
        (reaches_more (reaches_sound (calls_to v is_v there_is.1) stands.sound)
        (λ u there. stands_entering store_called (called at.procedure site at.holdings) ws q n first u stands.running (there.0.0 ∙ sym there_is.0)
        (resited_shows f.symbols rest s (called at.procedure site at.holdings) at.store (numbers ws) u (Some site) at.store.status there.0.1) there.1))

  pub call_done : (site : SiteId) (callee : Operand) (arguments : List Argument) (exits : Exits) (cost : ℕ) (after : Located) → CallCode s c l f at.procedure at.node site.number callee arguments cost →
      ran_at s c (Call site callee arguments exits) at ≡ Ok after → IsDone s c l f rest at cost t after
  call_done site callee arguments exits cost after code is = by (value callee) refl (words arguments) refl is
    where
      by : (v : Tried ℕ) → value callee ≡ v → (found : Tried (List Word)) → words arguments ≡ found →
          and_then (and_then v (λ to. and_then found (λ ws. Ok (order.Call site.number to ws)))) (λ o. done s c (Call site callee arguments exits) o at) ≡ Ok after → IsDone s c l f rest at cost t after
      by (Ok v) is_v (Ok ws) is_ws e =
          goes_by (store_called site.number callee arguments cost code ws is_ws) (called at.procedure site.number at.holdings) ws cost v
          (λ q from n first. entered_done site.number callee arguments cost code ws is_ws v is_v q from n first) after (procedure_from 0 v s.placement.rows) refl e
      by (Ok v) is_v (Err error) is_ws e = absurd (cc)
      by (Err error) is_v found is_ws e = absurd (cc)

  -- ---- tail calls

  module _ (callee : Operand) (arguments : List Argument) (cost : ℕ) (code : JumpCode s c l f at.procedure at.node callee arguments cost) (ws : List Word) (is_words : words arguments ≡ Ok ws) where
    abbrev holdings_left : Holdings
    holdings_left = left c.plan at.procedure at.holdings

    gone : (r u : State) → IsRepresented f.symbols rest s at.holdings at.store at.carried r → GivesAndLeaves (stack_region s) (f.labels at.procedure) (c.plan.frame at.procedure) code.operands r u →
        IsRepresented f.symbols rest s holdings_left (without 1 at.store) (numbers ws) u
    gone r u shown parts =
        parted s c l f rest is_for at r body.activation body.older body.youngest body.same laid shown code.operands ws u code.few_values
        (values_are s c l f rest is_for at r body.activation body.older body.youngest body.same laid shown arguments code.operands ws code.are is_words) parts

    jumps_to : (v : ℕ) → value callee ≡ Ok v → v % 4 ≡ 0 → Reaches (map_of l) 1 cost t (λ u. (u.pc ≡ v) × IsRepresented f.symbols rest s holdings_left (without 1 at.store) (numbers ws) u)
    jumps_to v is_v aligned = by code.jumps
      where
        by : ((to : Label) × IsLabelOf s c l f at.procedure callee to × JumpsTo (c.plan.frame at.procedure) code.operands to (code_of l f at.procedure) (f.node_at at.procedure at.node))
            ⊎ ((to : CodeOperand) × IsOperandOf s c l f at.procedure callee to × ((most_for to ≤ 11) × JumpsBy (c.plan.frame at.procedure) to code.operands (code_of l f at.procedure) (f.node_at at.procedure at.node))) →
            Reaches (map_of l) 1 cost t (λ u. (u.pc ≡ v) × IsRepresented f.symbols rest s holdings_left (without 1 at.store) (numbers ws) u)
        by (inl (to, is, jumps)) =
            reaches_weaker ((jumps (stack_region s)).goes.go t stands.sound stands.pc (record { stack = framed; region = stands.shown.holdings.region })) (omega arith) (omega (arith, code.few))
            (λ u there. (there.0 ∙ label_is callee to v is is_v, gone t u stands.shown there.1))
        by (inr (to, is, (small, jumps))) =
            let same = callee_is callee to v is is_v in
            reaches_weaker
            ((jumps (stack_region s)).goes.go t stands.sound stands.pc (record { stack = framed; region = stands.shown.holdings.region }, ap (λ (n : ℕ). n % 4) same ∙ aligned))
            (omega arith) (omega (arith, code.few, small))
            (λ u there. (there.0 ∙ same, gone there.1.0 u (brought_shown _ there.1.0 there.1.1) there.1.2))

    jumped_done : (v : ℕ) → value callee ≡ Ok v → (q : ℕ) → procedure_from 0 v s.placement.rows ≡ Some q → (n : NodeId) → (first : in_graph c.graphs q (λ g. Some g.first) ≡ Some n) →
        IsDone s c l f rest at cost t (entering (without 1 at.store) holdings_left ws q n first)
    jumped_done v is_v q from n first =
        let there_is = entries v q n from first in
        silently s c l f rest at cost t (entering (without 1 at.store) holdings_left ws q n first)
        (entry_tokens (without 1 at.store) holdings_left ws q n first) refl refl (dropped_are_bare 1 at.store.activations)
        (reaches_more (reaches_sound (jumps_to v is_v there_is.1) stands.sound)
        (λ u there. stands_entering (without 1 at.store) holdings_left ws q n first u stands.running (there.0.0 ∙ sym there_is.0) there.0.1 there.1))

  pub jump_done : (callee : Operand) (arguments : List Argument) (cost : ℕ) (after : Located) → JumpCode s c l f at.procedure at.node callee arguments cost →
      ran_at s c (Jump callee arguments) at ≡ Ok after → IsDone s c l f rest at cost t after
  jump_done callee arguments cost after code is = by (value callee) refl (words arguments) refl is
    where
      by : (v : Tried ℕ) → value callee ≡ v → (found : Tried (List Word)) → words arguments ≡ found →
          and_then (and_then v (λ to. and_then found (λ ws. Ok (order.Jump to ws)))) (λ o. done s c (Jump callee arguments) o at) ≡ Ok after → IsDone s c l f rest at cost t after
      by (Ok v) is_v (Ok ws) is_ws e =
          goes_by (without 1 at.store) (left c.plan at.procedure at.holdings) ws cost v (λ q from n first. jumped_done callee arguments cost code ws is_ws v is_v q from n first)
          after (procedure_from 0 v s.placement.rows) refl e
      by (Ok v) is_v (Err error) is_ws e = absurd (cc)
      by (Err error) is_v found is_ws e = absurd (cc)
