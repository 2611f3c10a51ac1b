-- Nodes that lead on and change nothing.
use Rattle.std.proofs.Common.{◌≡◌, ℕ, refl, sym, ◌∙◌, ap, subst, arith, Bool, true, false, List, Option, Some, None, IsTrue, slice_get}
use Rattle.std.specs.Prelude.{◌&&◌, Ok, Err}
use Rattle.std.specs.List.{list_all}
use Rattle.std.proofs.lemmas.Bool.{and_parts}
use Rattle.cmm_program.proofs.Shared.{list_all_get}
use Rattle.cmm_words.specs.Widths.{IsWord}
use Rattle.cmm_words.specs.Words.{holds}
use Rattle.rv_table.specs.Machine.{State}
use Rattle.rv_asm.proofs.Shared.{reaches_then, reaches_weaker}
use Rattle.rv_asm.specs.Parts.{way}
use Rattle.rv_asm.specs.Reaching.{Reaches}
use Rattle.cmm_program.specs.Errors.{Tried, and_then}
use Rattle.cmm_program.specs.Orders as order
use Rattle.cmm_program.specs.State.{Setting}
use Rattle.cmm_graph.specs.declared.number.NodeId.{NodeId}
use Rattle.cmm_graph.specs.declared.operand.Comparison.{Comparison}
use Rattle.cmm_graph.specs.declared.operand.Operand.{Operand}
use Rattle.cmm_graph.specs.declared.node.Arm.{Arm}
use Rattle.cmm_graph.specs.declared.node.NodeKind.TheVariants.{Branch, Switch, Goto}
use Rattle.cmm_graph.specs.declared.graph.Graph.{Graph}
use Rattle.cmm_graph.specs.Acting.{arm_way}
use Rattle.cmm_graph.specs.Ranges.{IsValid, is_arm, is_kind, is_operand, is_step, is_test, leads_to}
use Rattle.cmm_graph.specs.Values.{operand_value, operand_word}
use Rattle.cmm_effects.proofs.Shared.{keeps_then, reaches_more, reaches_sound}
use Rattle.cmm_effects.specs.Changes.{Keeps}
use Rattle.cmm_select.specs.Laws.{SwitchesLead}
use Rattle.cmm_select.specs.Operands.{CanBringOperand, operand_at}
use Rattle.cmm_select.specs.Switches.{arm_address, label_of}
use Rattle.cmm_image_machine.specs.Machine.{Launch, map_of}
use Rattle.cmm_emit_laws.specs.Represented.{IsFor, IsPlaceOf}
use Rattle.cmm_located.specs.Compiled.{Compiled, Located}
use Rattle.cmm_located.specs.Nodes.{done, keeping, ran_at, reads_at}
use Rattle.cmm_emit_laws.proofs.Doing.{IsDone, kept_shown, silently, stands_there, tokens_there}
use Rattle.cmm_emit_laws.proofs.Operands.{operand_is, word_is}
use Rattle.cmm_emit_laws.specs.Finished.{Finished}
use Rattle.cmm_emit_laws.specs.NodeCode.{BranchCode, GotoCode, SwitchCode}
use Rattle.cmm_emit_laws.specs.Standing.{IsInBody, Stands}

pub place_is : {at after : Located} → ◌≡◌ {A = Tried Located} (Ok at) (Ok after) → at ≡ after
place_is is = cc

module _ (s : Setting) (c : Compiled) (l : Launch) (f : Finished) (rest : ℕ → ℕ) (is_for : IsFor s (map_of l)) (at : Located) (t : State) (stands : Stands s c l f rest at t)
    (body : IsInBody at) (g : Graph) (is_graph : slice_get c.graphs at.procedure ≡ Some g) (valid : IsValid g)
    (places : (v : ℕ) → IsPlaceOf s body.activation (c.plan.place at.procedure v)) where
  -- where nothing but scratch registers is changed, control stands at a node to which it goes
  pub goes_to : (cost : ℕ) (m : NodeId) → IsTrue (leads_to g is_step m) → Reaches (map_of l) 1 cost t (λ u. (u.pc ≡ f.node_at at.procedure m) × Keeps t u) →
      IsDone s c l f rest at cost t (record at { node = m })
  goes_to cost m leads reaches =
      silently s c l f rest at cost t (record at { node = m }) (tokens_there s c l f rest at g is_graph valid m leads) refl refl (λ b. b)
      (reaches_more (reaches_sound reaches stands.sound) (λ u there.
      stands_there s c l f rest at g is_graph valid m leads u stands.running body
      (kept_shown f rest s l is_for at.holdings at.store at.carried t u there.0.1 stands.shown) there.0.0 there.1))

  pub goto_done : (next : NodeId) (cost : ℕ) (after : Located) → GotoCode s c l f at.procedure at.node next cost → IsTrue (is_kind g (Goto next)) →
      ran_at s c (Goto next) at ≡ Ok after → IsDone s c l f rest at cost t after
  goto_done next cost after code leads is =
      let same : record at { node = next } ≡ after = place_is is in
      subst (λ (z : Located). IsDone s c l f rest at cost t z) same
      (goes_to cost next leads (code.goes.goes.go t stands.sound stands.pc tt))

  -- ---- a branch

  -- an operand as a word of the width of its test
  abbrev word : Comparison → Operand → Tried ℕ
  word test o = operand_word (keeping s c at).held test.width o (reads_at s c at)

  branch_goes : (test : Comparison) (then_ otherwise : NodeId) (cost x y : ℕ) (h : Bool) → BranchCode s c l f at.procedure at.node test then_ otherwise cost →
      word test test.left ≡ Ok x → word test test.right ≡ Ok y → holds test.operator test.width x y ≡ h →
      Reaches (map_of l) 1 cost t (λ u. (u.pc ≡ f.node_at at.procedure (elim h [ true ↦ then_ | false ↦ otherwise ])) × Keeps t u)
  branch_goes test then_ otherwise cost x y h code is_x is_y is_h =
      by h is_h (code.decides.goes.go t stands.sound stands.pc (record {
        brings = record { brings_left = left.1; brings_right = right.1 };
        words = (subst (IsWord test.width) (sym left.0) known.1, subst (IsWord test.width) (sym right.0) also.1);
      }))
    where
      known : (operand_value (keeping s c at).held test.left (reads_at s c at) ≡ Ok x) × IsWord test.width x
      known = word_is test.width (operand_value (keeping s c at).held test.left (reads_at s c at)) x is_x

      also : (operand_value (keeping s c at).held test.right (reads_at s c at) ≡ Ok y) × IsWord test.width y
      also = word_is test.width (operand_value (keeping s c at).held test.right (reads_at s c at)) y is_y

      left : (operand_at (f.labels at.procedure) code.left t ≡ x) × CanBringOperand code.left (map_of l) t
      left = operand_is s c l f rest is_for at t body.activation body.older body.youngest places stands.shown test.left code.left x code.is_left known.0

      right : (operand_at (f.labels at.procedure) code.right t ≡ y) × CanBringOperand code.right (map_of l) t
      right = operand_is s c l f rest is_for at t body.activation body.older body.youngest places stands.shown test.right code.right y code.is_right also.0

      found : (b : Bool) → holds test.operator test.width x y ≡ b →
          way (holds test.operator test.width (operand_at (f.labels at.procedure) code.left t) (operand_at (f.labels at.procedure) code.right t)) (f.labels at.procedure code.label.number) code.on ≡ way b (f.labels at.procedure code.label.number) code.on
      found b is = ap (λ (n : ℕ). way (holds test.operator test.width n (operand_at (f.labels at.procedure) code.right t)) (f.labels at.procedure code.label.number) code.on) left.0
          ∙ ap (λ (n : ℕ). way (holds test.operator test.width x n) (f.labels at.procedure code.label.number) code.on) right.0
          ∙ ap (λ (z : Bool). way z (f.labels at.procedure code.label.number) code.on) is

      by : (b : Bool) → holds test.operator test.width x y ≡ b →
          Reaches (map_of l) 1 code.count t (λ u. (u.pc ≡ way (holds test.operator test.width (operand_at (f.labels at.procedure) code.left t) (operand_at (f.labels at.procedure) code.right t)) (f.labels at.procedure code.label.number) code.on) × Keeps t u) →
          Reaches (map_of l) 1 cost t (λ u. (u.pc ≡ f.node_at at.procedure (elim b [ true ↦ then_ | false ↦ otherwise ])) × Keeps t u)
      by true is reaches = reaches_weaker reaches (omega arith) (omega (arith, code.few)) (λ u there. (there.0 ∙ found true is ∙ code.there, there.1))
      by false is reaches =
          reaches_weaker
          (reaches_then (reaches_sound reaches stands.sound)
          (λ u there. reaches_more (code.goes_on.go u there.1 (there.0.0 ∙ found false is) tt) (λ v last. (last.0, keeps_then t u v there.0.1 last.1))))
          (omega arith) (omega (arith, code.few)) (λ v last. last)

  pub branch_done : (test : Comparison) (then_ otherwise : NodeId) (cost : ℕ) (after : Located) → BranchCode s c l f at.procedure at.node test then_ otherwise cost →
      IsTrue (is_kind g (Branch test then_ otherwise)) → ran_at s c (Branch test then_ otherwise) at ≡ Ok after →
      IsDone s c l f rest at cost t after
  branch_done test then_ otherwise cost after code fine is = by (word test test.left) refl (word test test.right) refl is
    where
      both : IsTrue (is_test g test && leads_to g is_step then_) × IsTrue (leads_to g is_step otherwise)
      both = and_parts (is_test g test && leads_to g is_step then_) (leads_to g is_step otherwise) fine

      by_test : (x y : ℕ) (h : Bool) → word test test.left ≡ Ok x → word test test.right ≡ Ok y → holds test.operator test.width x y ≡ h →
          done s c (Branch test then_ otherwise) (order.Choose (elim h [ true ↦ 0 | false ↦ 1 ])) at ≡ Ok after → IsDone s c l f rest at cost t after
      by_test x y true is_x is_y is_h e =
          let same : record at { node = then_ } ≡ after = place_is e in
          subst (λ (z : Located). IsDone s c l f rest at cost t z) same
          (goes_to cost then_ (and_parts (is_test g test) (leads_to g is_step then_) both.0).1 (branch_goes test then_ otherwise cost x y true code is_x is_y is_h))
      by_test x y false is_x is_y is_h e =
          let same : record at { node = otherwise } ≡ after = place_is e in
          subst (λ (z : Located). IsDone s c l f rest at cost t z) same
          (goes_to cost otherwise both.1 (branch_goes test then_ otherwise cost x y false code is_x is_y is_h))

      by : (a : Tried ℕ) → word test test.left ≡ a → (b : Tried ℕ) → word test test.right ≡ b →
          and_then (and_then (and_then (and_then a (λ x. and_then b (λ y. Ok (holds test.operator test.width x y)))) (λ h. Ok (elim h [ true ↦ 0 | false ↦ 1 ])))
          (λ n. Ok (order.Choose n))) (λ o. done s c (Branch test then_ otherwise) o at) ≡ Ok after → IsDone s c l f rest at cost t after
      by (Ok x) is_x (Ok y) is_y e = by_test x y (holds test.operator test.width x y) is_x is_y refl e
      by (Ok x) is_x (Err error) is_y e = absurd (cc)
      by (Err error) is_x b is_y e = absurd (cc)

  -- ---- a switch

  pub switch_done : SwitchesLead → (value : Operand) (arms : List Arm) (otherwise : NodeId) (cost : ℕ) (after : Located) →
      SwitchCode s c l f at.procedure at.node value arms otherwise cost → IsTrue (is_kind g (Switch value arms otherwise)) →
      ran_at s c (Switch value arms otherwise) at ≡ Ok after → IsDone s c l f rest at cost t after
  switch_done lead value arms otherwise cost after code fine is = by (operand_value (keeping s c at).held value (reads_at s c at)) refl is
    where
      both : IsTrue (is_operand g value && list_all (is_arm g) arms) × IsTrue (leads_to g is_step otherwise)
      both = and_parts (is_operand g value && list_all (is_arm g) arms) (leads_to g is_step otherwise) fine

      all : IsTrue (list_all (is_arm g) arms)
      all = (and_parts (is_operand g value) (list_all (is_arm g) arms) both.0).1

      by_arm : (x : ℕ) → operand_at (f.labels at.procedure) code.operand t ≡ x → Reaches (map_of l) 1 code.count t
          (λ u. (u.pc ≡ arm_address (f.labels at.procedure) code.labels arms (operand_at (f.labels at.procedure) code.operand t) code.on) × Keeps t u) →
          (o : Option Arm) → slice_get arms (arm_way arms x) ≡ o →
          elim (elim o as (λ z. Option NodeId) [ Some arm ↦ Some arm.to | None ↦ Some otherwise ]) as (λ z. Located) [ Some n ↦ record at { node = n } | None ↦ at ] ≡ after → IsDone s c l f rest at cost t after
      by_arm x is_x reaches (Some arm) is_arm_there e =
          subst (λ (z : Located). IsDone s c l f rest at cost t z) e
          (goes_to cost arm.to (list_all_get (is_arm g) arms (arm_way arms x) arm all is_arm_there)
          (reaches_weaker reaches (omega arith) (omega (arith, code.few)) (λ u there. (
            there.0 ∙ ap (λ (n : ℕ). arm_address (f.labels at.procedure) code.labels arms n code.on) is_x ∙ lead (f.labels at.procedure) code.labels arms x code.on
                ∙ ap (λ (o : Option Arm). elim o [ Some arm ↦ f.labels at.procedure (label_of code.labels arm.to).number | None ↦ code.on ]) is_arm_there
                ∙ code.there (arm_way arms x) arm is_arm_there,
            there.1,
          ))))
      by_arm x is_x reaches None is_none e =
          subst (λ (z : Located). IsDone s c l f rest at cost t z) e
          (goes_to cost otherwise both.1
          (reaches_weaker
          (reaches_then (reaches_sound reaches stands.sound)
          (λ u there. reaches_more (code.goes_on.go u there.1 (
          there.0.0 ∙ ap (λ (n : ℕ). arm_address (f.labels at.procedure) code.labels arms n code.on) is_x ∙ lead (f.labels at.procedure) code.labels arms x code.on
          ∙ ap (λ (o : Option Arm). elim o [ Some arm ↦ f.labels at.procedure (label_of code.labels arm.to).number | None ↦ code.on ]) is_none
          ) tt) (λ v last. (last.0, keeps_then t u v there.0.1 last.1))))
          (omega arith) (omega (arith, code.few)) (λ v last. last)))

      by : (a : Tried ℕ) → operand_value (keeping s c at).held value (reads_at s c at) ≡ a →
          and_then (and_then (and_then a (λ v. Ok (arm_way arms v))) (λ n. Ok (order.Choose n))) (λ o. done s c (Switch value arms otherwise) o at) ≡ Ok after →
          IsDone s c l f rest at cost t after
      by (Ok x) is_x e =
          let found = operand_is s c l f rest is_for at t body.activation body.older body.youngest places stands.shown value code.operand x code.is_value is_x in
          by_arm x found.0 ((code.switches.goes is_for.code).go t stands.sound stands.pc found.1) (slice_get arms (arm_way arms x)) refl (place_is e)
      by (Err error) is_x e = absurd (cc)
