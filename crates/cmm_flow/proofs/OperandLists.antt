-- Several expressions one after the other: their operands have their values all at once.
use Rattle.std.proofs.Common.{◌≡◌, ℕ, suc, List, [], ◌∷◌, map, Ok, refl, ap, sym, ◌∙◌, subst, arith}
use Rattle.cmm_machine_laws.specs.Observed.{store_seen}
use Rattle.cmm_program.specs.declared.expression.Expression.{Expression}
use Rattle.cmm_program.specs.declared.procedure.Proc.{Proc}
use Rattle.cmm_program.specs.Acts.{values_of, word_passed, words_of}
use Rattle.cmm_program.specs.Errors.{and_then}
use Rattle.cmm_program.specs.Orders.{Word}
use Rattle.cmm_program.specs.State.{Running, Store}
use Rattle.cmm_program.specs.Todo as todo
use Rattle.cmm_program.specs.Values.{Reads, value_of, width_of}
use Rattle.cmm_program.specs.Writes.{reads_of}
use Rattle.cmm_graph.specs.declared.number.NodeId.{NodeId}
use Rattle.cmm_graph.specs.declared.number.Temporary.{Temporary}
use Rattle.cmm_graph.specs.GraphControl.{held_by}
use Rattle.cmm_graph.specs.Values.{operand_value, operand_values, passed}
use Rattle.cmm_flow.specs.Code.{OperandsCode}
use Rattle.cmm_flow.specs.Operands.{arguments_of, nodes_of_all, operand_of, operands_of}
use Rattle.cmm_flow.proofs.Expressions.{bound, operand_brings}
use Rattle.cmm_flow.proofs.Fits.{AreTyped, IsFit, first_typed, others_typed}
use Rattle.cmm_flow.proofs.Operands.{AreSameBelow, value_kept}
use Rattle.cmm_flow.proofs.Steps.{Goes, Run, Youngest, and_goes, at, stays_there}

module _ (r : Reads) where
  -- each expression has a value
  abbrev pub AreThere : List Expression → Type 0
  AreThere [] = Unit {0}
  AreThere (e ∷ es) = (v : ℕ) × (value_of e r ≡ Ok v) × AreThere es

  -- each operand has the value of its expression
  abbrev pub AreGiven : (Temporary → ℕ) → ℕ → List Expression → Type 0
  AreGiven temporaries base [] = Unit {0}
  AreGiven temporaries base (e ∷ es) =
      (operand_value (held_by temporaries) (operand_of base e) r ≡ value_of e r) × AreGiven temporaries (suc base) es

  -- where all have values each has one
  pub values_there : (es : List Expression) (vs : List ℕ) → values_of r (map value_of es) ≡ Ok vs → AreThere es
  values_there [] vs is = tt
  values_there (e ∷ es) vs is =
      let first = bound (value_of e r) (λ a. and_then (values_of r (map value_of es)) (λ rest. Ok (a ∷ rest))) vs is in
      let others = bound (values_of r (map value_of es)) (λ rest. Ok (first.0 ∷ rest)) vs first.2 in
      (first.0, first.1, values_there es others.0 others.1)

  pub words_there : (es : List Expression) (ws : List Word) → words_of r (map todo.passed es) ≡ Ok ws → AreThere es
  words_there [] ws is = tt
  words_there (e ∷ es) ws is =
      let first = bound (word_passed r (todo.passed e)) (λ a. and_then (words_of r (map todo.passed es)) (λ rest. Ok (a ∷ rest))) ws is in
      let value = bound (value_of e r) (λ v. Ok record { width = width_of e; value = v }) first.0 first.1 in
      let others = bound (words_of r (map todo.passed es)) (λ rest. Ok (first.0 ∷ rest)) ws first.2 in
      (value.0, value.1, words_there es others.0 others.1)

  -- so what is asked for is the same
  pub same_values : (temporaries : Temporary → ℕ) (base : ℕ) (es : List Expression) → AreGiven temporaries base es →
      values_of r (operand_values (held_by temporaries) (operands_of base es)) ≡ values_of r (map value_of es)
  same_values temporaries base [] given = refl
  same_values temporaries base (e ∷ es) given =
      ap (λ t. and_then t (λ a. and_then (values_of r (operand_values (held_by temporaries) (operands_of (suc base) es))) (λ rest. Ok (a ∷ rest)))) given.0
      ∙ ap (λ t. and_then (value_of e r) (λ a. and_then t (λ rest. Ok (a ∷ rest)))) (same_values temporaries (suc base) es given.1)

  pub same_words : (temporaries : Temporary → ℕ) (base : ℕ) (es : List Expression) → AreGiven temporaries base es →
      words_of r (passed (held_by temporaries) (arguments_of base es)) ≡ words_of r (map todo.passed es)
  same_words temporaries base [] given = refl
  same_words temporaries base (e ∷ es) given =
      ap (λ t. and_then (and_then t (λ v. Ok record { width = width_of e; value = v }))
      (λ a. and_then (words_of r (passed (held_by temporaries) (arguments_of (suc base) es))) (λ rest. Ok (a ∷ rest)))) given.0
      ∙ ap (λ t. and_then (word_passed r (todo.passed e)) (λ a. and_then t (λ rest. Ok (a ∷ rest)))) (same_words temporaries (suc base) es given.1)

module _ {r : Run} (y : Youngest r) (store : Store) (running : store.status ≡ Running) {q : Proc} (fit : IsFit r.setting q store) where
  -- control comes from a node to another, where operands have their values
  pub record BringsAll (temporaries : Temporary → ℕ) (n k : NodeId) (base : ℕ) (es : List Expression) : Type 0 where
    pub after : Temporary → ℕ
    pub path : Goes r (store_seen store) 0 (nodes_of_all es) (at y store temporaries n) (at y store after k)
    pub given : AreGiven (reads_of r.setting store) after base es
    pub below : AreSameBelow base temporaries after

  pub operands_bring : (es : List Expression) (temporaries : Temporary → ℕ) (base : ℕ) (n k : NodeId) → AreTyped r.setting.program q es → AreThere (reads_of r.setting store) es →
      OperandsCode y.graph.nodes es base n k → BringsAll temporaries n k base es
  operands_bring [] temporaries base n k typed there same = record {
    after = temporaries;
    path = subst (λ m. Goes r (store_seen store) 0 0 (at y store temporaries n) (at y store temporaries m)) same (stays_there 0 (at y store temporaries n));
    given = tt;
    below = λ u less. refl;
  }
  operands_bring (e ∷ es) temporaries base n k typed there code =
      let first = operand_brings y store running fit e temporaries base n code.0 there.0 (first_typed r.setting.program q e es typed) there.1 code.1 in
      let others = operands_bring es first.after (suc base) code.0 k (others_typed r.setting.program q e es typed) there.2 code.2 in
      record {
        after = others.after;
        path = and_goes first.path others.path (omega arith) (omega arith);
        given = (value_kept base (suc base) first.after others.after (reads_of r.setting store) e (omega arith) others.below ∙ first.value ∙ sym there.1, others.given);
        below = λ u less. others.below u (omega arith) ∙ first.below u less;
      }
