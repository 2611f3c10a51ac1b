-- The code of an assignment as the paths of liveness see it: all is read before the first place is written.
use Rattle.cmm_program.proofs.Shared.{or_left_comm}
use Rattle.std.proofs.Math.Bool.{or-false}
use Rattle.std.proofs.Common.{◌≡◌, ℕ, suc, ◌||◌, false, IsFalse, List, [], ◌∷◌, ◌++◌, append-nil, flat_map, length, refl, ap, sym, ◌∙◌, arith}
use Rattle.cmm_program.specs.declared.expression.Expression.{Expression}
use Rattle.cmm_program.specs.declared.procedure.Proc.{Proc}
use Rattle.cmm_program.specs.declared.statement.Lvalue.{Lvalue}
use Rattle.cmm_program.specs.declared.statement.Lvalue.TheVariants as lvalue
use Rattle.cmm_program.specs.declared.statement.Statement.{Statement}
use Rattle.cmm_program.specs.Liveness.{is_among, read_by, read_by_all, read_by_lvalue, written_to, written_to_lvalue}
use Rattle.cmm_graph.specs.declared.graph.Graph.{Graph}
use Rattle.cmm_graph.specs.declared.node.NodeKind.TheVariants as kind
use Rattle.cmm_graph.specs.declared.number.NodeId.{NodeId}
use Rattle.cmm_graph.specs.declared.operand.Destination.TheVariants as destination
use Rattle.cmm_graph.specs.declared.operand.Rvalue.TheVariants as rvalue
use Rattle.cmm_graph.specs.Paths as paths
use Rattle.cmm_flow.specs.Code.{to_temporary}
use Rattle.cmm_graph.specs.Covering.{access_tokens}
use Rattle.cmm_flow.specs.Operands.{operand_of, temporary}
use Rattle.cmm_flow.specs.Statements.{AddressesCode, AssignCode, SeveralCode, StoresCode}
use Rattle.cmm_flow.proofs.LivenessExits.{target_writes}
use Rattle.cmm_flow.proofs.LivenessExpressions.{into_temporary, operand_piece, some_values, value_piece}
use Rattle.cmm_flow.proofs.LivenessMembers.{is_among-append}
use Rattle.cmm_flow.proofs.LivenessPieces.{Piece, any_local, any_read, left_as, one_node, quiet_node, read_as, stay, then_piece, then_writes, fewer}
use Rattle.cmm_flow.proofs.LivenessStatements.{Code, Stands, writing_way}

module _ (g : Graph) (v : ℕ) where
  -- the addresses among what is assigned to
  addresses_piece : (ls : List Lvalue) (base : ℕ) (n k : NodeId) → AddressesCode g.nodes ls base n k →
      Piece g v 0 n (is_among v (flat_map read_by_lvalue ls)) (λ m. k ≡ m)
  addresses_piece [] base n k same = stay g v n k same
  addresses_piece (lvalue.Target target ∷ ls) base n k code = addresses_piece ls (suc base) n k code
  addresses_piece (lvalue.Memory width aligned address ∷ ls) base n k code =
      read_as g v (is_among v (read_by address ++ flat_map read_by_lvalue ls)) (sym (is_among-append v (read_by address) (flat_map read_by_lvalue ls)))
      (then_piece g v 1 0 0 (omega arith)
      (into_temporary g v base n code.0 (is_among v (read_by address)) (value_piece g v address base (to_temporary base) n code.0 code.1))
      (addresses_piece ls (suc base) code.0 k code.2))

  -- values in temporaries are stored
  stores_piece : (ls : List Lvalue) (es : List Expression) (address value : ℕ) (n k : NodeId) → length ls ≡ length es →
      StoresCode g.nodes ls es address value n k → Piece g v 0 n false (λ m. IsFalse (is_among v (flat_map written_to_lvalue ls)) × (k ≡ m))
  stores_piece [] es address value n k same code =
      left_as g v (λ m. IsFalse (is_among v []) × (k ≡ m)) (λ m is. (refl, is)) (λ m is. is.1) (stay g v n k code)
  stores_piece (l ∷ ls) [] address value n k same code = absurd (omega (arith, same))
  stores_piece (lvalue.Target target ∷ ls) (e ∷ es) address value n k same code =
      let put = left_as g v (λ m. IsFalse (is_among v (written_to target)) × (code.0 ≡ m))
      (λ m is. (sym (target_writes v target) ∙ is.0, is.1)) (λ m is. (target_writes v target ∙ is.0, is.1))
      (one_node g v n code.0 1 (kind.Assign (destination.Target target) (rvalue.Copy (temporary value)) code.0) code.1 refl) in
      let later = stores_piece ls es (suc address) (suc value) code.0 k (omega (arith, same)) code.2 in
      let both = then_writes g v (is_among v (written_to target)) (is_among v (flat_map written_to_lvalue ls)) (fewer g v 1 0 (omega arith) put) later in
      let joined = is_among-append v (written_to target) (flat_map written_to_lvalue ls) in
      left_as g v (λ m. IsFalse (is_among v (written_to target ++ flat_map written_to_lvalue ls)) × (k ≡ m))
      (λ m is. (joined ∙ is.0, is.1)) (λ m is. (sym joined ∙ is.0, is.1)) both
  stores_piece (lvalue.Memory width aligned a ∷ ls) (e ∷ es) address value n k same code =
      then_piece g v 1 0 0 (omega arith)
      (quiet_node g v n code.0 (access_tokens width aligned) (kind.Store width aligned (temporary address) (temporary value) code.0) code.1 refl refl)
      (stores_piece ls es (suc address) (suc value) code.0 k (omega (arith, same)) code.2)

module _ (q : Proc) (g : Graph) (label_node : ℕ → NodeId) (v : ℕ) where
  abbrev Assigned : NodeId → List Lvalue → List Expression → List Statement → Type 0
  Assigned n to values rest =
      Stands q g label_node v n (is_among v (flat_map read_by_lvalue to ++ read_by_all values)) (record { written = flat_map written_to_lvalue to; to = rest } ∷ [])

  several : (to : List Lvalue) (e : Expression) (es : List Expression) (n k : NodeId) (rest : List Statement) → length to ≡ length (e ∷ es) →
      SeveralCode g.nodes to (e ∷ es) n k → Code q g label_node v rest k → Assigned n to (e ∷ es) rest
  several to e es n k rest same code behind =
      let reads = is_among v (flat_map read_by_lvalue to) in
      let values = is_among v (read_by_all (e ∷ es)) in
      let piece = then_piece g v 0 1 1 (omega arith) (addresses_piece g v to 0 n code.0 code.2)
      (then_piece g v 1 0 1 (omega arith) (some_values g v e es (length to) code.0 code.1 code.3) (stores_piece g v to (e ∷ es) 0 (length to) code.1 k same code.4)) in
      writing_way q g label_node v n k (is_among v (flat_map read_by_lvalue to ++ read_by_all (e ∷ es))) (is_among v (flat_map written_to_lvalue to))
      (flat_map written_to_lvalue to) rest
      (read_as g v (is_among v (flat_map read_by_lvalue to ++ read_by_all (e ∷ es)))
      (ap (λ b. reads || b) (or-false values) ∙ sym (is_among-append v (flat_map read_by_lvalue to) (read_by_all (e ∷ es)))) piece) refl behind

  pub assign_stands : (to : List Lvalue) (values : List Expression) (n k : NodeId) (rest : List Statement) → length to ≡ length values →
      AssignCode g.nodes to values n k → Code q g label_node v rest k → Assigned n to values rest
  assign_stands [] [] n k rest same code behind =
      writing_way q g label_node v n k false false [] rest
      (one_node g v n k 1 (kind.Goto k) code refl) refl behind
  assign_stands (l ∷ ls) [] n k rest same code behind = absurd (omega (arith, same))
  assign_stands [] (e ∷ es) n k rest same code behind = absurd (omega (arith, same))
  assign_stands (lvalue.Target target ∷ []) (e ∷ []) n k rest same code behind =
      writing_way q g label_node v n k (is_among v (read_by e ++ [])) (any_local v (paths.written_to target)) (written_to target ++ []) rest
      (read_as g v (is_among v (read_by e ++ [])) (ap (is_among v) (sym (append-nil (read_by e)))) (value_piece g v e 0 (destination.Target target) n k code))
      (target_writes v target ∙ ap (is_among v) (sym (append-nil (written_to target)))) behind
  assign_stands (lvalue.Memory width aligned address ∷ []) (e ∷ []) n k rest same code behind =
      let x = any_read v (operand_of 0 address) in
      let y = any_read v (operand_of 1 e) in
      let reads = is_among v (read_by address) in
      let value = is_among v (read_by e) in
      let store = quiet_node g v code.1 k (access_tokens width aligned) (kind.Store width aligned (operand_of 0 address) (operand_of 1 e) k) code.4 refl refl in
      let second = operand_piece g v e 1 1 code.0 code.1 (x || false) (λ m. k ≡ m) code.3 (read_as g v (y || (x || false)) (or_left_comm x y false) store) in
      let first = operand_piece g v address 0 1 n code.0 (value || false) (λ m. k ≡ m) code.2 (read_as g v (x || (value || false)) (or_left_comm value x false) second) in
      let all = read_as g v (is_among v ((read_by address ++ []) ++ (read_by e ++ [])))
      (ap (λ b. reads || b) (or-false value) ∙ sym (is_among-append v (read_by address) (read_by e))
      ∙ ap (is_among v) (ap (λ ns. ns ++ read_by e) (sym (append-nil (read_by address))) ∙ ap (λ ns. (read_by address ++ []) ++ ns) (sym (append-nil (read_by e))))) first in
      writing_way q g label_node v n k (is_among v ((read_by address ++ []) ++ (read_by e ++ []))) false [] rest
      (left_as g v (λ m. IsFalse false × (k ≡ m)) (λ m is. (refl, is)) (λ m is. is.1) all) refl behind
  assign_stands (lvalue.Target target ∷ []) (e ∷ f ∷ es) n k rest same code behind = absurd (omega (arith, same))
  assign_stands (lvalue.Memory width aligned address ∷ []) (e ∷ f ∷ es) n k rest same code behind = absurd (omega (arith, same))
  assign_stands (lvalue.Target target ∷ l ∷ ls) (e ∷ es) n k rest same code behind = several (lvalue.Target target ∷ l ∷ ls) e es n k rest same code behind
  assign_stands (lvalue.Memory width aligned address ∷ l ∷ ls) (e ∷ es) n k rest same code behind =
      several (lvalue.Memory width aligned address ∷ l ∷ ls) e es n k rest same code behind
