-- A word is stored.
use Rattle.std.proofs.Common.{◌≡◌, ℕ, refl, sym, subst, arith, Bool, true, false, List, [], ◌∷◌, Some, IsTrue, slice_get}
use Rattle.std.specs.Prelude.{◌&&◌, Ok, Err}
use Rattle.std.proofs.lemmas.Bool.{and_parts}
use Rattle.cmm_words.specs.Widths.{bytes}
use Rattle.cmm_words.specs.declared.width.Width.{Width}
use Rattle.rv_table.specs.Machine.{State}
use Rattle.rv_asm.proofs.Shared.{reaches_then, reaches_weaker}
use Rattle.cmm_program.specs.Errors.{Tried, BadAccess, all_of, and_then, provided}
use Rattle.cmm_program.specs.Layout.{bytes_of}
use Rattle.cmm_program.specs.Memory.{cell_at, with_bytes}
use Rattle.cmm_program.specs.Orders as order
use Rattle.cmm_program.specs.Performing.{Stay}
use Rattle.cmm_program.specs.State.{Setting, Store as Stored}
use Rattle.cmm_program.specs.Values.{may_access}
use Rattle.cmm_program.specs.Writes.{put_all}
use Rattle.cmm_graph.specs.declared.number.NodeId.{NodeId}
use Rattle.cmm_graph.specs.declared.operand.Operand.{Operand}
use Rattle.cmm_graph.specs.declared.node.NodeKind.TheVariants.{Store}
use Rattle.cmm_graph.specs.declared.graph.Graph.{Graph}
use Rattle.cmm_graph.specs.Ranges.{IsValid, is_kind, is_operand, is_step, leads_to}
use Rattle.cmm_graph.specs.Values.{operand_value}
use Rattle.cmm_program.specs.Typing.{is_alignment}
use Rattle.cmm_effects.proofs.Shared.{reaches_more, reaches_sound}
use Rattle.cmm_effects.specs.Changes.{Writes}
use Rattle.cmm_select.specs.Memory.{IsCellBy, access_of}
use Rattle.cmm_select.specs.Operands.{CanBringOperand, operand_at}
use Rattle.cmm_image_machine.specs.Machine.{Launch, map_of}
use Rattle.cmm_emit_laws.proofs.Carrying.{forget_values}
use Rattle.cmm_emit_laws.proofs.Showing.{store_shows}
use Rattle.cmm_emit_laws.specs.Represented.{IsFor, IsPlaceOf, IsRepresented}
use Rattle.cmm_located.specs.Compiled.{Compiled, Located}
use Rattle.cmm_located.specs.Nodes.{done, keeping, ran_at, reads_at, transferred}
use Rattle.cmm_emit_laws.proofs.Accesses.{all_there, may_is_cell, some_bytes}
use Rattle.cmm_emit_laws.proofs.Doing.{IsDone, kept_shown, silently, stands_there, tokens_there}
use Rattle.cmm_emit_laws.proofs.Going.{place_is}
use Rattle.cmm_emit_laws.proofs.Operands.{operand_is}
use Rattle.cmm_emit_laws.specs.Finished.{Finished}
use Rattle.cmm_emit_laws.specs.NodeCode.{StoreCode}
use Rattle.cmm_emit_laws.specs.Standing.{IsInBody, Stands}

module _ (s : Setting) (c : Compiled) (l : Launch) (f : Finished) (rest : ℕ → ℕ) (is_for : IsFor s (map_of l)) (at : Located) (t : State) (stands : Stands s c l f rest at t)
    (body : IsInBody at) (g : Graph) (is_graph : slice_get c.graphs at.procedure ≡ Some g) (valid : IsValid g)
    (places : (v : ℕ) → IsPlaceOf s body.activation (c.plan.place at.procedure v)) (width : Width) (aligned : ℕ) (address value : Operand) (next : NodeId) (cost : ℕ) (after : Located)
    (code : StoreCode s c l f at.procedure at.node width aligned address value next cost) (fine : IsTrue (is_kind g (Store width aligned address value next))) where
  leads : IsTrue (leads_to g is_step next)
  leads = (and_parts (is_alignment aligned && is_operand g address && is_operand g value) (leads_to g is_step next) fine).1

  alignment : is_alignment aligned ≡ true
  alignment =
      let both = (and_parts (is_alignment aligned && is_operand g address && is_operand g value) (leads_to g is_step next) fine).0 in
      (and_parts (is_alignment aligned) (is_operand g address) (and_parts (is_alignment aligned && is_operand g address) (is_operand g value) both).0).0

  abbrev store_after : ℕ → ℕ → Stored
  store_after a v = record at.store { memory = with_bytes at.store.memory a (bytes_of (bytes width) v) }

  stored : (a v : ℕ) → operand_value (keeping s c at).held address (reads_at s c at) ≡ Ok a → operand_value (keeping s c at).held value (reads_at s c at) ≡ Ok v →
      may_access (cell_at at.store.memory) (bytes width) aligned a ≡ true → IsDone s c l f rest at cost t (record at { store = store_after a v; node = next })
  stored a v is_a is_v may =
      silently s c l f rest at cost t (record at { store = store_after a v; node = next }) (tokens_there s c l f rest (record at { store = store_after a v }) g is_graph valid next leads) refl refl (λ b. b)
      (reaches_more (reaches_sound {Q = λ u. (u.pc ≡ f.node_at at.procedure next) × IsRepresented f.symbols rest s at.holdings (store_after a v) at.carried u}
      (reaches_weaker
      (reaches_then (reaches_sound (code.stores.runs.go t stands.sound stands.pc (record {
        brings = record { brings_left = first.1; brings_right = second.1 };
        cell = subst (λ (n : ℕ). IsCellBy (access_of width aligned) width n (map_of l)) (sym first.0)
            (may_is_cell s (map_of l) is_for at.store stands.shown.stack a width aligned may alignment);
      })) stands.sound)
      (λ u there. reaches_more (code.goes_on.go u there.1 there.0.0 tt)
      (λ w last. (last.0, kept_shown f rest s l is_for at.holdings (store_after a v) at.carried u w last.1 (written u there.0.1)))))
      (omega arith) (omega (arith, code.few)) (λ w last. last))
      stands.sound)
      (λ w last. stands_there s c l f rest (record at { store = store_after a v }) g is_graph valid next leads w stands.running
      (record { activation = body.activation; older = body.older; youngest = body.youngest; same = body.same; carried = body.carried }) last.0.1 last.0.0 last.1))
    where
      first : (operand_at (f.labels at.procedure) code.to t ≡ a) × CanBringOperand code.to (map_of l) t
      first = operand_is s c l f rest is_for at t body.activation body.older body.youngest places stands.shown address code.to a code.is_address is_a

      second : (operand_at (f.labels at.procedure) code.stored t ≡ v) × CanBringOperand code.stored (map_of l) t
      second = operand_is s c l f rest is_for at t body.activation body.older body.youngest places stands.shown value code.stored v code.is_value is_v

      written : (u : State) → Writes (operand_at (f.labels at.procedure) code.to t) (bytes width) (operand_at (f.labels at.procedure) code.stored t) t u →
          IsRepresented f.symbols rest s at.holdings (store_after a v) at.carried u
      written u writes =
          subst (λ (xs : List ℕ). IsRepresented f.symbols rest s at.holdings (store_after a v) xs u) (sym body.carried)
          (store_shows f.symbols rest s (map_of l) is_for at.holdings at.store t u a (bytes width) v (some_bytes width).0
          (all_there s (map_of l) is_for at.store stands.shown.stack a width aligned may)
          (subst (λ (n : ℕ). Writes n (bytes width) v t u) first.0 (subst (λ (n : ℕ). Writes (operand_at (f.labels at.procedure) code.to t) (bytes width) n t u) second.0 writes))
          (forget_values f.symbols rest s at.holdings at.store at.carried t stands.shown))

  by_access : (a v : ℕ) → operand_value (keeping s c at).held address (reads_at s c at) ≡ Ok a → operand_value (keeping s c at).held value (reads_at s c at) ≡ Ok v →
      (test : Bool) → may_access (cell_at at.store.memory) (bytes width) aligned a ≡ test →
      and_then (and_then (and_then (provided test BadAccess (Ok (store_after a v))) (put_all [])) (λ z. Ok (Stay 0 z))) (λ z. Ok (transferred s c (Store width aligned address value next) z at)) ≡ Ok after →
      IsDone s c l f rest at cost t after
  by_access a v is_a is_v true may e = subst (λ (z : Located). IsDone s c l f rest at cost t z) (place_is e) (stored a v is_a is_v may)
  by_access a v is_a is_v false may e = absurd (cc)

  pub store_done : ran_at s c (Store width aligned address value next) at ≡ Ok after → IsDone s c l f rest at cost t after
  store_done is = by (operand_value (keeping s c at).held address (reads_at s c at)) refl (operand_value (keeping s c at).held value (reads_at s c at)) refl is
    where
      by : (a : Tried ℕ) → operand_value (keeping s c at).held address (reads_at s c at) ≡ a → (v : Tried ℕ) → operand_value (keeping s c at).held value (reads_at s c at) ≡ v →
          and_then (and_then (all_of (and_then a (λ n. Ok (order.Memory width aligned n)) ∷ [])) (λ ps. and_then (all_of (v ∷ [])) (λ vs. Ok (order.Assign (order.writes ps vs)))))
          (λ o. done s c (Store width aligned address value next) o at) ≡ Ok after → IsDone s c l f rest at cost t after
      by (Ok a) is_a (Ok v) is_v e = by_access a v is_a is_v (may_access (cell_at at.store.memory) (bytes width) aligned a) refl e
      by (Ok a) is_a (Err error) is_v e = absurd (cc)
      by (Err error) is_a v is_v e = absurd (cc)
