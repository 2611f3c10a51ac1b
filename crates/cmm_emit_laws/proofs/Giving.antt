-- Values that go out are those of the operands.
use Rattle.std.proofs.Common.{◌≡◌, ℕ, zero, suc, ◌≤◌, refl, ap, sym, ◌∙◌, subst, arith, List, [], ◌∷◌, length, map, Some, slice_get}
use Rattle.std.specs.Prelude.{Ok, Err, slice_index_or}
use Rattle.rv_table.specs.Machine.{State}
use Rattle.cmm_chain.proofs.Shared.{saved_is_callee_saves}
use Rattle.cmm_chain.specs.Running.{left, none_known}
use Rattle.cmm_program.specs.Acts.{word_passed}
use Rattle.cmm_program.specs.Errors.{Tried, all_of, and_then}
use Rattle.cmm_program.specs.Exits.{numbers}
use Rattle.cmm_program.specs.Frames.{without}
use Rattle.cmm_program.specs.Orders.{Word}
use Rattle.cmm_program.specs.State.{Activation, Setting}
use Rattle.cmm_graph.specs.declared.operand.Argument.{Argument}
use Rattle.cmm_graph.specs.Values.{operand_value, passed}
use Rattle.cmm_select.specs.declared.operand.Operand.{Operand as CodeOperand}
use Rattle.cmm_select.specs.Operands.{operand_at}
use Rattle.cmm_calls.specs.Values.{Gives, GivesAndLeaves}
use Rattle.cmm_image_machine.specs.Machine.{Launch, map_of}
use Rattle.cmm_emit_laws.proofs.Carrying.{forget_values, given_shows}
use Rattle.cmm_emit_laws.proofs.Leaving.{left_shows}
use Rattle.cmm_emit_laws.specs.Represented.{IsFor, IsRepresented, stack_region}
use Rattle.cmm_located.specs.Compiled.{Compiled, Located}
use Rattle.cmm_located.specs.Nodes.{keeping, reads_at}
use Rattle.cmm_emit_laws.proofs.Framed.{size_of}
use Rattle.cmm_emit_laws.proofs.Operands.{operand_is}
use Rattle.cmm_emit_laws.specs.Finished.{Finished}
use Rattle.cmm_emit_laws.specs.NodeCode.{AreOperandsOf}
use Rattle.cmm_emit_laws.specs.ProgramCode.{IsLaidFor}

module _ (s : Setting) (c : Compiled) (l : Launch) (f : Finished) (rest : ℕ → ℕ) (is_for : IsFor s (map_of l)) (at : Located) (t : State) (a : Activation) (older : List Activation)
    (youngest : at.store.activations ≡ a ∷ older) (same : a.procedure ≡ at.procedure) (laid : IsLaidFor s c at.procedure)
    (shown : IsRepresented f.symbols rest s at.holdings at.store at.carried t) where
  pub record AreValues (operands : List CodeOperand) (ws : List Word) : Type 0 where
    pub count : length operands ≡ length (numbers ws)
    pub have : (k : ℕ) (operand : CodeOperand) → slice_get operands k ≡ Some operand → operand_at (f.labels at.procedure) operand t ≡ slice_index_or (numbers ws) k 0

  no_values : AreValues [] []
  no_values = record { count = refl; have = λ k operand is. absurd (none k operand is) }
    where
      none : (k : ℕ) (operand : CodeOperand) → slice_get {X = CodeOperand} [] k ≡ Some operand → ⊥
      none k operand is = cc

  one_more : (operand : CodeOperand) (operands : List CodeOperand) (w : Word) (ws : List Word) → operand_at (f.labels at.procedure) operand t ≡ w.value → AreValues operands ws →
      AreValues (operand ∷ operands) (w ∷ ws)
  one_more operand operands w ws is rest = record { count = omega (arith, rest.count); have = have_each }
    where
      have_each : (k : ℕ) (o : CodeOperand) → slice_get (operand ∷ operands) k ≡ Some o → operand_at (f.labels at.procedure) o t ≡ slice_index_or (numbers (w ∷ ws)) k 0
      have_each zero o found = let e : operand ≡ o = cc in ap (λ (z : CodeOperand). operand_at (f.labels at.procedure) z t) (sym e) ∙ is
      have_each (suc k) o found = rest.have k o found

  pub values_are : (results : List Argument) (operands : List CodeOperand) (ws : List Word) → AreOperandsOf s c l f at.procedure results operands →
      all_of (map (word_passed (reads_at s c at)) (passed (keeping s c at).held results)) ≡ Ok ws → AreValues operands ws
  values_are [] [] ws are is = let e : [] ≡ ws = cc in subst (AreValues []) e no_values
  values_are [] (operand ∷ operands) ws are is = absurd are
  values_are (result ∷ results) [] ws are is = absurd are
  values_are (result ∷ results) (operand ∷ operands) ws are is =
      by (λ rest found. values_are results operands rest are.1 found) (operand_value (keeping s c at).held result.value (reads_at s c at)) refl
      (all_of (map (word_passed (reads_at s c at)) (passed (keeping s c at).held results))) refl is
    where
      by : ((rest : List Word) → all_of (map (word_passed (reads_at s c at)) (passed (keeping s c at).held results)) ≡ Ok rest → AreValues operands rest) →
          (v : Tried ℕ) → operand_value (keeping s c at).held result.value (reads_at s c at) ≡ v →
          (others : Tried (List Word)) → all_of (map (word_passed (reads_at s c at)) (passed (keeping s c at).held results)) ≡ others →
          and_then (and_then v (λ n. Ok (record { width = result.width; value = n }))) (λ w. and_then others (λ rest. Ok (w ∷ rest))) ≡ Ok ws → AreValues (operand ∷ operands) ws
      by again (Ok n) is_n (Ok ws') is_rest e =
          let whole : record { width = result.width; value = n } ∷ ws' ≡ ws = cc in
          let found = operand_is s c l f rest is_for at t a older youngest (λ v. laid.places a v same) shown result.value operand n are.0 is_n in
          subst (AreValues (operand ∷ operands)) whole (one_more operand operands (record { width = result.width; value = n }) ws' found.0 (again ws' is_rest))
      by again (Ok n) is_n (Err error) is_rest e = absurd (cc)
      by again (Err error) is_n others is_rest e = absurd (cc)

  -- so they are shown where they travel
  pub given : (operands : List CodeOperand) (ws : List Word) (u : State) → length operands ≤ 64 → AreValues operands ws → Gives (stack_region s) (f.labels at.procedure) operands t u →
      IsRepresented f.symbols rest s (record at.holdings { temps = none_known }) at.store (numbers ws) u
  given operands ws u few are gives =
      given_shows f.symbols rest s (map_of l) is_for at.holdings at.store (numbers ws) (f.labels at.procedure) operands t u gives
      (record { few = omega (arith, few, are.count); count = are.count; have = are.have })
      (forget_values f.symbols rest s at.holdings at.store at.carried t shown)

  -- and so once the frame is left as well
  pub parted : (operands : List CodeOperand) (ws : List Word) (u : State) → length operands ≤ 64 → AreValues operands ws → GivesAndLeaves (stack_region s) (f.labels at.procedure) (c.plan.frame at.procedure) operands t u →
      IsRepresented f.symbols rest s (left c.plan at.procedure at.holdings) (without 1 at.store) (numbers ws) u
  parted operands ws u few are (w, gives, leaves) =
      left_shows f.symbols rest s (map_of l) is_for c.plan at.procedure (record at.holdings { temps = none_known }) at.store (numbers ws) a older w u youngest
      (size_of s c at.procedure a laid same) (λ r offset found. saved_is_callee_saves (c.plan.frame at.procedure).saved r offset laid.can.registers found) leaves
      (given operands ws w few are gives)
