-- What is put where a destination is, is the value of the node's right side.
use Rattle.std.proofs.Common.{ℕ, subst, List, IsTrue, arith}
use Rattle.cmm_words.specs.Words.{low_bits, sign_extended, value1}
use Rattle.cmm_words.specs.declared.operators.Op1.{Op1}
use Rattle.cmm_words.specs.declared.operators.Op2.{Op2}
use Rattle.cmm_words.specs.declared.width.Width.{Width}
use Rattle.cmm_graph.specs.declared.number.Register.{Register}
use Rattle.cmm_graph.specs.declared.operand.Comparison.{Comparison}
use Rattle.cmm_graph.specs.declared.operand.Operand.{Operand}
use Rattle.cmm_graph.specs.declared.operand.Rvalue.TheVariants as rvalue
use Rattle.rv_asm.specs.Parts.{Code}
use Rattle.rv_asm.specs.declared.part.Meaning.{Meaning}
use Rattle.cmm_effects.specs.Accesses.{global_at}
use Rattle.cmm_effects.specs.Pieces.{Leads}
use Rattle.cmm_select.specs.Assignments.{AssignsBinary, AssignsComparison, AssignsOne, CanCopyGlobal, Copies}
use Rattle.cmm_select.specs.Destinations.{PutsTo}
use Rattle.cmm_select.specs.Memory.{AssignsLoaded}
use Rattle.cmm_select.specs.declared.destination.Destination.{Destination}
use Rattle.cmm_emit.proofs.Operands.{operand_is_of}
use Rattle.cmm_emit.specs.declared.context.Context.{Context}
use Rattle.cmm_emit.specs.declared.context.Targets.{Targets}
use Rattle.cmm_emit.specs.Costs.{rvalue_cost}
use Rattle.cmm_emit.specs.Naming.{code_operand, has_both, has_operand, has_rvalue, named_at}
use Rattle.cmm_emit.specs.Standing.{IsReady, PutsValue}

module _ (labels : List Meaning) (p : Context) (y : Targets) (ready : IsReady labels p y) (x : Code) (from to : ℕ) (d : Destination) where
  pub copy_puts : (o : Operand) → IsTrue (has_operand p y o) → Copies (rvalue_cost p y (rvalue.Copy o)) (code_operand p y o) d x from to →
      PutsValue p y (rvalue.Copy o) d x from to
  copy_puts o has does = (
    does.quiet,
    λ s c l f q is-x of. (
      code_operand p y o,
      operand_is_of labels p y ready s c l f q of o has,
      subst (λ z. Copies (rvalue_cost p y (rvalue.Copy o)) (code_operand p y o) d z from to) is-x does,
    ),
  )

  pub register_puts : (r : Register) → IsTrue (has_rvalue p y (rvalue.Register r)) → let label = named_at y.registers r.number in
      Leads 8 (CanCopyGlobal x.at (x.at label.number) d) (λ s t. PutsTo x.at d (global_at (x.at label.number) s) s t) x from to →
      PutsValue p y (rvalue.Register r) d x from to
  register_puts r has does = (
    does.quiet,
    λ s c l f q is-x of. let label = named_at y.registers r.number in (
      label,
      of.registers r.number has,
      subst (λ (z : Code). Leads 8 (CanCopyGlobal z.at (z.at label.number) d) (λ s t. PutsTo z.at d (global_at (z.at label.number) s) s t) z from to) is-x does,
    ),
  )

  pub load_puts : (width : Width) (aligned : ℕ) (o : Operand) → IsTrue (has_operand p y o) →
      AssignsLoaded (rvalue_cost p y (rvalue.Load width aligned o)) width aligned (code_operand p y o) d x from to →
      PutsValue p y (rvalue.Load width aligned o) d x from to
  load_puts width aligned o has does = (
    does.quiet,
    λ s c l f q is-x of. (
      code_operand p y o,
      operand_is_of labels p y ready s c l f q of o has,
      subst (λ z. AssignsLoaded (rvalue_cost p y (rvalue.Load width aligned o)) width aligned (code_operand p y o) d z from to) is-x does,
    ),
  )

  pub unary_puts : (operator : Op1) (width : Width) (o : Operand) → IsTrue (has_operand p y o) →
      AssignsOne (rvalue_cost p y (rvalue.Unary operator width o)) width (value1 operator width) (code_operand p y o) d x from to →
      PutsValue p y (rvalue.Unary operator width o) d x from to
  unary_puts operator width o has does = (
    does.quiet,
    λ s c l f q is-x of. (
      code_operand p y o,
      operand_is_of labels p y ready s c l f q of o has,
      subst (λ z. AssignsOne (rvalue_cost p y (rvalue.Unary operator width o)) width (value1 operator width) (code_operand p y o) d z from to) is-x does,
    ),
  )

  pub binary_puts : (operator : Op2) (width : Width) (left right : Operand) → IsTrue (has_rvalue p y (rvalue.Binary operator width left right)) →
      AssignsBinary (rvalue_cost p y (rvalue.Binary operator width left right)) operator width (code_operand p y left) (code_operand p y right) d x from to →
      PutsValue p y (rvalue.Binary operator width left right) d x from to
  binary_puts operator width left right has does = (
    does.quiet,
    λ s c l f q is-x of. (
      code_operand p y left,
      code_operand p y right,
      operand_is_of labels p y ready s c l f q of left (grind (arith, has)),
      operand_is_of labels p y ready s c l f q of right (grind (arith, has)),
      subst (λ z. AssignsBinary (rvalue_cost p y (rvalue.Binary operator width left right)) operator width (code_operand p y left) (code_operand p y right) d z from to) is-x does,
    ),
  )

  pub comparison_puts : (test : Comparison) → IsTrue (has_both p y test) →
      AssignsComparison (rvalue_cost p y (rvalue.Compare test)) test.operator test.width (code_operand p y test.left) (code_operand p y test.right) d x from to →
      PutsValue p y (rvalue.Compare test) d x from to
  comparison_puts test has does = (
    does.quiet,
    λ s c l f q is-x of. (
      code_operand p y test.left,
      code_operand p y test.right,
      operand_is_of labels p y ready s c l f q of test.left (grind (arith, has)),
      operand_is_of labels p y ready s c l f q of test.right (grind (arith, has)),
      subst (λ z. AssignsComparison (rvalue_cost p y (rvalue.Compare test)) test.operator test.width (code_operand p y test.left) (code_operand p y test.right) d z from to) is-x does,
    ),
  )

  pub extended_puts : (narrow width : Width) (o : Operand) → IsTrue (has_operand p y o) →
      AssignsOne (rvalue_cost p y (rvalue.SignExtend narrow width o)) narrow (sign_extended narrow width) (code_operand p y o) d x from to →
      PutsValue p y (rvalue.SignExtend narrow width o) d x from to
  extended_puts narrow width o has does = (
    does.quiet,
    λ s c l f q is-x of. (
      code_operand p y o,
      operand_is_of labels p y ready s c l f q of o has,
      subst (λ z. AssignsOne (rvalue_cost p y (rvalue.SignExtend narrow width o)) narrow (sign_extended narrow width) (code_operand p y o) d z from to) is-x does,
    ),
  )

  pub low_puts : (wide width : Width) (o : Operand) → IsTrue (has_operand p y o) →
      AssignsOne (rvalue_cost p y (rvalue.LowBits wide width o)) wide (low_bits width) (code_operand p y o) d x from to →
      PutsValue p y (rvalue.LowBits wide width o) d x from to
  low_puts wide width o has does = (
    does.quiet,
    λ s c l f q is-x of. (
      code_operand p y o,
      operand_is_of labels p y ready s c l f q of o has,
      subst (λ z. AssignsOne (rvalue_cost p y (rvalue.LowBits wide width o)) wide (low_bits width) (code_operand p y o) d z from to) is-x does,
    ),
  )
