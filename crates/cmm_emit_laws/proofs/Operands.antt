-- An operand of code has the number that the operand of its node has over locations.
use Rattle.std.proofs.Common.{◌≡◌, ℕ, ◌+◌, ◌<◌, ◌≤◌, ◌^◌, refl, sym, ◌∙◌, ap, subst, arith, Bool, true, false, List, ◌∷◌}
use Rattle.std.specs.Prelude.{nat_lt, Ok, Err, slice_index_or}
use Rattle.std.proofs.lemmas.Bool.Decides.{nat_tests}
use Rattle.cmm_words.specs.declared.constant.Constant.{Constant}
use Rattle.cmm_words.specs.declared.width.Width.{Width}
use Rattle.cmm_words.specs.Widths.{IsWord, bits}
use Rattle.cmm_chain.specs.Contents.{Content, Unknown, Number, ReturnTo, LandingOf, LastReturn}
use Rattle.cmm_chain.specs.Running.{held}
use Rattle.cmm_program.specs.Errors.{Tried, WrongValues, and_then, provided}
use Rattle.cmm_program.specs.Layout.{constant_value}
use Rattle.cmm_program.specs.State.{Activation, Setting, stack_top}
use Rattle.cmm_graph.specs.declared.operand.Operand.{Operand}
use Rattle.cmm_graph.specs.declared.operand.Operand.TheVariants as operand
use Rattle.cmm_graph.specs.Values.{operand_value}
use Rattle.rv_table.specs.Machine.{State}
use Rattle.cmm_select.specs.declared.operand.Operand.{Operand as CodeOperand}
use Rattle.cmm_select.specs.declared.operand.Operand.TheVariants as code
use Rattle.cmm_select.specs.declared.source.Source.TheVariants as source
use Rattle.cmm_select.specs.Operands.{CanBringOperand, operand_at}
use Rattle.cmm_image_machine.specs.Machine.{Launch, map_of}
use Rattle.cmm_emit_laws.proofs.Reading.{held_is_read, place_is_reachable}
use Rattle.cmm_emit_laws.specs.Represented.{IsFor, IsPlaceOf, IsRepresented}
use Rattle.cmm_located.specs.Compiled.{Compiled, Located, number_in, place_of}
use Rattle.cmm_located.specs.Nodes.{keeping, number_of, reads_at}
use Rattle.cmm_emit_laws.specs.Finished.{Finished}
use Rattle.cmm_emit_laws.specs.NodeCode.{IsAddress, IsConstant, IsOperandOf}

pub ok_is : {a b : ℕ} → ◌≡◌ {A = Tried ℕ} (Ok a) (Ok b) → a ≡ b
ok_is is = cc

-- a value that had to be a word of a width is one
pub word_is : (width : Width) (r : Tried ℕ) (v : ℕ) → and_then r (λ n. provided (nat_lt n (2 ^ bits width)) WrongValues (Ok n)) ≡ Ok v →
    (r ≡ Ok v) × IsWord width v
word_is width (Ok n) v is = by (nat_lt n (2 ^ bits width)) refl is
  where
    by : (test : Bool) → nat_lt n (2 ^ bits width) ≡ test → provided test WrongValues (Ok n) ≡ Ok v → (◌≡◌ {A = Tried ℕ} (Ok n) (Ok v)) × IsWord width v
    by true less e = let small : IsWord width n = grind (arith, nat_tests, less) in (e, subst (IsWord width) (ok_is e) small)
    by false less e = absurd (cc)
word_is width (Err error) v is = absurd (cc)

number_is : (content : Content) (v : ℕ) → number_of content ≡ Ok v → content ≡ Number v
number_is (Number n) v is = ap Number (ok_is is)
number_is Unknown v is = absurd (cc)
number_is (ReturnTo q site) v is = absurd (cc)
number_is (LandingOf q k) v is = absurd (cc)
number_is LastReturn v is = absurd (cc)

module _ (s : Setting) (c : Compiled) (l : Launch) (f : Finished) (rest : ℕ → ℕ) (is_for : IsFor s (map_of l)) (at : Located) (t : State) (a : Activation) (older : List Activation)
    (youngest : at.store.activations ≡ a ∷ older) (places : (v : ℕ) → IsPlaceOf s a (c.plan.place at.procedure v))
    (shown : IsRepresented f.symbols rest s at.holdings at.store at.carried t) where
  constant_is : (k : Constant) (x : CodeOperand) (v : ℕ) → IsConstant s c l f at.procedure k x → constant_value s.program s.placement k ≡ v →
      (operand_at (f.labels at.procedure) x t ≡ v) × CanBringOperand x (map_of l) t
  constant_is k (code.Held (source.Number n)) v is e = (is ∙ e, tt)
  constant_is k (code.Symbol label plus) v is e = (is ∙ e, tt)
  constant_is k (code.Held (source.Place p)) v is e = absurd is
  constant_is k (code.Held (source.Address o)) v is e = absurd is

  address_is : (offset : ℕ) (x : CodeOperand) (v : ℕ) → IsAddress s c l f offset x → at.holdings.point.at + offset ≡ v →
      (operand_at (f.labels at.procedure) x t ≡ v) × CanBringOperand x (map_of l) t
  address_is offset x v is e =
      let low : at.holdings.point.at ≤ stack_top s = omega (arith, shown.at) in
      let there : t.registers 2 + offset ≡ v = ap (λ (n : ℕ). n + offset) shown.holdings.frame ∙ e in
      let fits : t.registers 2 + offset < 2 ^ 64 = omega (arith, low, shown.holdings.frame, is_for.small, is.1) in
      subst (λ (z : CodeOperand). (operand_at (f.labels at.procedure) z t ≡ v) × CanBringOperand z (map_of l) t) (sym is.0) ((there, fits))

  pub operand_is : (o : Operand) (x : CodeOperand) (v : ℕ) → IsOperandOf s c l f at.procedure o x → operand_value (keeping s c at).held o (reads_at s c at) ≡ Ok v →
      (operand_at (f.labels at.procedure) x t ≡ v) × CanBringOperand x (map_of l) t
  operand_is (operand.Constant k) x v is e = constant_is k x v is (ok_is e)
  operand_is (operand.Local local) x v is e =
      let place = place_of c at.procedure local in
      let holds : held at.holdings place ≡ Number v = number_is (held at.holdings place) v e in
      let fine = places (number_in c.graphs at.procedure local) in
      subst (λ (z : CodeOperand). (operand_at (f.labels at.procedure) z t ≡ v) × CanBringOperand z (map_of l) t) (sym is)
      ((
        held_is_read f.symbols rest s (map_of l) is_for at.holdings at.store at.carried a older t youngest shown place v fine holds,
        place_is_reachable f.symbols rest s (map_of l) is_for at.holdings at.store at.carried a older t youngest shown place fine,
      ))
  operand_is (operand.Stackdata label) x v is e = address_is (slice_index_or (c.plan.frame at.procedure).stack label.number 0) x v is (ok_is e)
  operand_is (operand.Continuation k) x v is e = address_is (slice_index_or (c.plan.frame at.procedure).pairs k.number 0) x v is (ok_is e)
