-- What code has for an operand is one that code can bring, and in finished code it is the operand of the node.
use Rattle.std.proofs.Common.{◌≡◌, ℕ, ◌+◌, ◌*◌, ◌%◌, ◌<◌, ◌^◌, refl, sym, ◌∙◌, ap, subst, List, [], ◌∷◌, length, slice_index_or, IsTrue, All, arith}
use Rattle.std.specs.List.{list_all}
use Rattle.std.proofs.lemmas.Bool.Decides.{nat_tests}
use Rattle.std.proofs.lemmas.List.Elements.{All-cons, All-get_or, All-nil}
use Rattle.cmm_words.specs.declared.constant.Constant.TheVariants as constant
use Rattle.cmm_chain.specs.declared.frame.Frame.{Frame}
use Rattle.cmm_chain.specs.declared.frame.Location.TheVariants.{Slot}
use Rattle.cmm_program.specs.declared.procedure.Target.{Target}
use Rattle.cmm_program.specs.declared.procedure.Target.TheVariants as target
use Rattle.cmm_program.specs.State.{Setting}
use Rattle.cmm_graph.specs.declared.operand.Argument.{Argument}
use Rattle.cmm_graph.specs.declared.operand.Destination.{Destination}
use Rattle.cmm_graph.specs.declared.operand.Destination.TheVariants as destination
use Rattle.cmm_graph.specs.declared.operand.Local.{Local}
use Rattle.cmm_graph.specs.declared.operand.Local.TheVariants as local
use Rattle.cmm_graph.specs.declared.operand.Operand.{Operand}
use Rattle.cmm_graph.specs.declared.operand.Operand.TheVariants as operand
use Rattle.rv_asm.specs.Assembly.{IsTarget}
use Rattle.rv_asm.specs.declared.part.Label.{Label}
use Rattle.rv_asm.specs.declared.part.Meaning.{Meaning}
use Rattle.cmm_effects.specs.Changes.{IsPlace}
use Rattle.cmm_select.specs.Destinations.{IsDestination}
use Rattle.cmm_select.specs.Operands.{IsOperand}
use Rattle.cmm_select.specs.declared.destination.Destination.TheVariants as into
use Rattle.cmm_select.specs.declared.operand.Operand.TheVariants as code
use Rattle.cmm_select.specs.declared.source.Source.TheVariants as source
use Rattle.cmm_calls.specs.Copying.{IsGlobal, IsGlobalBy}
use Rattle.cmm_image_machine.specs.Machine.{Launch}
use Rattle.cmm_located.specs.Compiled.{Compiled, place_of}
use Rattle.cmm_emit_laws.specs.Finished.{Finished}
use Rattle.cmm_emit_laws.specs.NodeCode.{AreOperandsOf, AreTargetsOf, IsDestinationOf, IsOperandOf, IsTargetOf}
use Rattle.cmm_yield_laws.specs.Yielding.{AreNumbersOf}
use Rattle.cmm_emit.specs.declared.context.Context.{Context}
use Rattle.cmm_emit.specs.declared.context.Targets.{Targets}
use Rattle.cmm_emit.specs.Naming.{IsNamed, argument_operand, argument_operands, code_destination, code_operand, code_operands, has_argument, has_destination, has_local, has_operand, has_target, local_number, named_at, place, target_destination, target_destinations}
use Rattle.cmm_emit.proofs.Outlined.{named_within}
use Rattle.cmm_emit.specs.Standing.{IsContextOf, IsReady}
use Rattle.rv_table.specs.declared.memory_map.TheConstants.{GLOBALS_OFFSET}

-- ---- while code is assembled

module _ (labels : List Meaning) (p : Context) (y : Targets) (ready : IsReady labels p y) where
  pub place_is_ready : (v : Local) → IsTrue (has_local p v) → IsPlace (place p v)
  place_is_ready v there = All-get_or IsPlace p.places (local_number p v) (Slot 0) (grind (arith, nat_tests, there)) ready.places

  pub operand_is_ready : (o : Operand) → IsTrue (has_operand p y o) → IsOperand labels (code_operand p y o)
  operand_is_ready (operand.Constant (constant.Number n width)) there = tt
  operand_is_ready (operand.Constant (constant.Code k plus)) there = (ready.procedures k there).0
  operand_is_ready (operand.Constant (constant.Address k plus)) there = ready.data_labels k there
  operand_is_ready (operand.Local v) there = place_is_ready v there
  operand_is_ready (operand.Stackdata label) there =
      All-get_or (λ offset. offset < 2 ^ 21) p.frame.stack label.number 0 (grind (arith, nat_tests, there)) ready.stack
  operand_is_ready (operand.Continuation k) there =
      All-get_or (λ offset. offset < 2 ^ 21) p.frame.pairs k.number 0 (grind (arith, nat_tests, there)) ready.pairs

  pub operands_are_ready : (arguments : List Argument) → IsTrue (list_all (has_argument p y) arguments) → All (IsOperand labels) (argument_operands p y arguments)
  operands_are_ready [] all = All-nil (IsOperand labels)
  operands_are_ready (argument ∷ arguments) all =
      All-cons (IsOperand labels) (argument_operand p y argument) (argument_operands p y arguments)
      (operand_is_ready argument.value (grind (arith, all))) (operands_are_ready arguments (grind (arith, all)))

  pub values_are_ready : (values : List Operand) → IsTrue (list_all (has_operand p y) values) → All (IsOperand labels) (code_operands p y values)
  values_are_ready [] all = All-nil (IsOperand labels)
  values_are_ready (o ∷ os) all =
      All-cons (IsOperand labels) (code_operand p y o) (code_operands p y os) (operand_is_ready o (grind (arith, all))) (values_are_ready os (grind (arith, all)))

  pub target_is_ready : (t : Target) → IsTrue (has_target p y t) → IsDestination labels (target_destination p y t)
  target_is_ready (target.Variable number width) there = place_is_ready (local.Variable (record { number = number })) there
  target_is_ready (target.Register number width) there = ready.registers number there

  pub destination_is_ready : (d : Destination) → IsTrue (has_destination p y d) → IsDestination labels (code_destination p y d)
  destination_is_ready (destination.Target t) there = target_is_ready t there
  destination_is_ready (destination.Temporary t) there = place_is_ready (local.Temporary t) there

  pub named_is_target : (callee : Operand) (to : Label) → IsNamed y callee to → IsTarget labels to
  named_is_target callee to named = subst (IsTarget labels) (sym named.is_label) (ready.procedures named.procedure named.there)

  pub targets_are_ready : (ts : List Target) → IsTrue (list_all (has_target p y) ts) → All (IsDestination labels) (target_destinations p y ts)
  targets_are_ready [] all = All-nil (IsDestination labels)
  targets_are_ready (t ∷ ts) all =
      All-cons (IsDestination labels) (target_destination p y t) (target_destinations p y ts) (target_is_ready t (grind (arith, all)))
      (targets_are_ready ts (grind (arith, all)))

mod_eight : (n : ℕ) → (448 + 8 * n) % 8 ≡ 0
mod_eight n = omega arith

-- ---- once it is finished

module _ (labels : List Meaning) (p : Context) (y : Targets) (ready : IsReady labels p y) (s : Setting) (c : Compiled) (l : Launch) (f : Finished) (q : ℕ)
    (is : IsContextOf s c l f q p y) where
  pub place_is_of : (v : Local) → IsTrue (has_local p v) → place_of c q v ≡ place p v
  place_is_of v there = ap (c.plan.place q) (is.numbers v there) ∙ is.places (local_number p v) (grind (arith, nat_tests, there))

  pub operand_is_of : (o : Operand) → IsTrue (has_operand p y o) → IsOperandOf s c l f q o (code_operand p y o)
  operand_is_of (operand.Constant (constant.Number n width)) there = refl
  operand_is_of (operand.Constant (constant.Code k plus)) there = is.procedures k plus there
  operand_is_of (operand.Constant (constant.Address k plus)) there = is.data_labels k plus there
  operand_is_of (operand.Local v) there = ap (λ z. code.Held (source.Place z)) (sym (place_is_of v there))
  operand_is_of (operand.Stackdata label) there = (
    ap (λ (z : Frame). code.Held (source.Address (slice_index_or z.stack label.number 0))) (sym is.frame),
    subst (λ (z : Frame). slice_index_or z.stack label.number 0 < 2 ^ 21) (sym is.frame)
        (operand_is_ready labels p y ready (operand.Stackdata label) there),
  )
  operand_is_of (operand.Continuation k) there = (
    ap (λ (z : Frame). code.Held (source.Address (slice_index_or z.pairs k.number 0))) (sym is.frame),
    subst (λ (z : Frame). slice_index_or z.pairs k.number 0 < 2 ^ 21) (sym is.frame)
        (operand_is_ready labels p y ready (operand.Continuation k) there),
  )

  pub operands_are_of : (arguments : List Argument) → IsTrue (list_all (has_argument p y) arguments) →
      AreOperandsOf s c l f q arguments (argument_operands p y arguments)
  operands_are_of [] all = tt
  operands_are_of (argument ∷ arguments) all =
      (operand_is_of argument.value (grind (arith, all)), operands_are_of arguments (grind (arith, all)))

  pub values_are_of : (values : List Operand) → IsTrue (list_all (has_operand p y) values) → AreNumbersOf s c l f q values (code_operands p y values)
  values_are_of [] all = tt
  values_are_of (o ∷ os) all = (operand_is_of o (grind (arith, all)), values_are_of os (grind (arith, all)))

  pub target_is_of : (t : Target) → IsTrue (has_target p y t) → IsTargetOf s c l f q t (target_destination p y t)
  target_is_of (target.Variable number width) there = ap into.Place (sym (place_is_of (local.Variable (record { number = number })) there))
  target_is_of (target.Register number width) there = is.registers number there

  pub destination_is_of : (d : Destination) → IsTrue (has_destination p y d) → IsDestinationOf s c l f q d (code_destination p y d)
  destination_is_of (destination.Target t) there = target_is_of t there
  destination_is_of (destination.Temporary t) there = ap into.Place (sym (place_is_of (local.Temporary t) there))

  pub targets_are_of : (ts : List Target) → IsTrue (list_all (has_target p y) ts) → AreTargetsOf s c l f q ts (target_destinations p y ts)
  targets_are_of [] all = tt
  targets_are_of (t ∷ ts) all = (target_is_of t (grind (arith, all)), targets_are_of ts (grind (arith, all)))

  -- where a target is a global register, its label stands for an offset of one
  target_is_global : (t : Target) → IsTrue (has_target p y t) → IsGlobalBy (f.labels q) (target_destination p y t)
  target_is_global (target.Variable number width) there = tt
  target_is_global (target.Register number width) there =
      let less = named_within y.registers number there in
      let offset : f.labels q (named_at y.registers number).number ≡ GLOBALS_OFFSET + 8 * number = omega (arith, is.registers number there (record { address = 0; stack_size = 0 })) in
      subst IsGlobal (sym offset) (record {
        aligned = mod_eight number;
        behind = omega arith;
        below = omega (arith, less, ready.few_registers);
      })

  pub targets_are_global : (ts : List Target) → IsTrue (list_all (has_target p y) ts) → All (IsGlobalBy (f.labels q)) (target_destinations p y ts)
  targets_are_global [] all = All-nil (IsGlobalBy (f.labels q))
  targets_are_global (t ∷ ts) all =
      All-cons (IsGlobalBy (f.labels q)) (target_destination p y t) (target_destinations p y ts) (target_is_global t (grind (arith, all)))
      (targets_are_global ts (grind (arith, all)))
