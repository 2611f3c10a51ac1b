-- The code of each form of statement is to the paths of liveness what the form is to those of the machine.
use Rattle.std.proofs.Common.{◌≡◌, ◌⊎◌, inl, inr, ℕ, suc, ◌≤◌, Bool, true, false, IsTrue, IsFalse, List, [], ◌∷◌, ◌++◌, length, refl, ap, sym, subst, arith}
use Rattle.std.proofs.lemmas.Bool.{and_parts}
use Rattle.cmm_program.specs.declared.expression.Expression.{Expression}
use Rattle.cmm_program.specs.declared.procedure.Proc.{Proc}
use Rattle.cmm_program.specs.declared.program.Program.{Program}
use Rattle.cmm_program.specs.declared.statement.Form.{Form, Row_of-Arm}
use Rattle.cmm_program.specs.declared.statement.Form.TheVariants as form
use Rattle.cmm_program.specs.declared.statement.Form.TheVariants.{Empty, If', Switch', Span', Assign, Call, Yield, Checked, PutByte, GetByte, Jump, Return, Label, Continuation, Cut}
use Rattle.cmm_program.specs.declared.statement.Lvalue.{Lvalue}
use Rattle.cmm_program.specs.declared.statement.Statement.{Statement}
use Rattle.cmm_program.specs.Bodies.{AtLabel, Branch, branches, follow, is_default, statements}
use Rattle.cmm_program.specs.InRange.{IsProcInRange, are_assigned, defaults, is_form}
use Rattle.cmm_program.specs.Liveness.{Way, into_branches, is_among, plain, read_by, read_in, ways, written_to}
use Rattle.cmm_program.specs.Typing.{typed}
use Rattle.cmm_graph.specs.declared.graph.Graph.{Graph}
use Rattle.cmm_graph.specs.declared.node.Arm.{Arm}
use Rattle.cmm_graph.specs.declared.node.HostCall.TheVariants as host
use Rattle.cmm_graph.specs.declared.node.NodeKind.TheVariants as kind
use Rattle.cmm_graph.specs.declared.number.NodeId.{NodeId}
use Rattle.cmm_graph.specs.Paths as paths
use Rattle.cmm_graph.specs.Paths.{arm_nodes}
use Rattle.cmm_flow.specs.Code.{IsNode, OperandCode}
use Rattle.cmm_flow.specs.Flow.{IsFlowOf}
use Rattle.cmm_flow.specs.Operands.{operand_of}
use Rattle.cmm_flow.specs.Liveness.{HasLandingsOf}
use Rattle.cmm_flow.specs.Statements.{ArmsCode, DefaultCode, FormCode}
use Rattle.cmm_flow.proofs.LivenessArms.{FromDefault, Nowhere, OfBranch, There, default_counted, few_defaults, from_arm, from_default, to_arm, to_default}
use Rattle.cmm_flow.proofs.LivenessAssignments.{assign_stands}
use Rattle.cmm_flow.proofs.LivenessDivisions.{checked_stands}
use Rattle.cmm_flow.proofs.LivenessExits.{target_writes}
use Rattle.cmm_flow.proofs.LivenessExpressions.{alone, operand_piece, test_piece}
use Rattle.cmm_flow.proofs.LivenessMembers.{Among, among_map, among_parts, among_left, among_right, among_unmap}
use Rattle.cmm_flow.proofs.LivenessPieces.{Gone, Piece, Within, any_local, last_node, left_as, node_piece, one_node, quiet_node, without}
use Rattle.cmm_flow.proofs.LivenessTransfers.{IsCode, StandsAt, call_stands, cut_stands, jump_stands, return_stands, yield_stands}
use Rattle.cmm_flow.proofs.LivenessStatements.{ByWay, ToNode, at_once, no_way, plain_way, stands_by, two_ways, writing_way}
use Rattle.cmm_flow.proofs.Rows.{row_leads}

-- as many values as there are places
assigned_length : (p : Program) (q : Proc) (ls : List Lvalue) (es : List Expression) → are_assigned p q ls es ≡ true → length ls ≡ length es
assigned_length p q [] [] is = refl
assigned_length p q [] (e ∷ es) is = absurd (cc)
assigned_length p q (l ∷ ls) [] is = absurd (cc)
assigned_length p q (l ∷ ls) (e ∷ es) is = ap (λ n. suc n) (assigned_length p q ls es (and_parts _ _ is).1)

module _ (p : Program) (q : Proc) (g : Graph) (range : IsProcInRange p q) (graph : HasLandingsOf q g) (flow : IsFlowOf q g) (v : ℕ) where
  abbrev Here : NodeId → Bool → List Way → Type 0
  Here = StandsAt p q g range graph flow v

  abbrev Behind : List Statement → NodeId → Type 0
  Behind = IsCode p q g range graph flow v

  -- a node that does nothing
  goto_stands : (n k : NodeId) (rest : List Statement) → IsNode g.nodes n 1 (kind.Goto k) → Behind rest k → Here n false (plain rest ∷ [])
  goto_stands n k rest is behind = plain_way q g flow.label_node v n k false rest (quiet_node g v n k 1 (kind.Goto k) is refl refl) behind

  label_stands : (l : ℕ) (n : NodeId) → n ≡ flow.label_node l → Here n false (plain (follow q (AtLabel l)) ∷ [])
  label_stands l n same =
      let label = flow.labels l in
      subst (λ n. Here n false (plain (follow q (AtLabel l)) ∷ [])) (sym same)
      (goto_stands (flow.label_node l) label.next (follow q (AtLabel l)) label.node label.code)

  -- ---- a switch

  -- the end of a run
  pub nothing_lives : (n : NodeId) → IsNode g.nodes n 1 kind.Stop → (d : ℕ) → Within g v d n → ⊥
  nothing_lives n is d within = by (piece.back d within)
    where
      piece : Piece g v 1 n false (λ m. ⊥)
      piece = last_node g v n 1 kind.Stop is refl

      by : IsTrue false ⊎ Gone g v 1 d (λ m. ⊥) → ⊥
      by (inl is) = cc
      by (inr gone) = gone.by

  module _ (rest : List Statement) (k : NodeId) (behind : Behind rest k) where
    abbrev Reaching : (NodeId → Type 0) → Way → Type 0
    Reaching = ToNode q g flow.label_node v

    abbrev Reached : List Way → NodeId → Type 0
    Reached = ByWay q g flow.label_node v

    abbrev branch_way : Branch → Way
    branch_way b = plain (b.body ++ rest)

    reach_branch : (X : NodeId → Type 0) (b : Branch) (m : NodeId) → X m → Behind (b.body ++ rest) m → Reaching X (branch_way b)
    reach_branch X b m is code = record { at = m; is_one = is; arrives = at_once q g flow.label_node v m (b.body ++ rest) code }

    reached_branch : (bs : List Branch) (m : NodeId) → OfBranch q g.nodes flow.label_node k rest behind bs m → Reached (into_branches bs rest) m
    reached_branch bs m found = record {
      way = branch_way found.branch;
      is_one = among_map branch_way bs found.branch found.is_one;
      arrives = at_once q g flow.label_node v m (found.branch.body ++ rest) found.code;
    }

    module _ {i : _} (arms : Row_of-Arm i) (to : List Arm) (otherwise : NodeId) (arms_code : ArmsCode q g.nodes flow.label_node arms to k)
        (default_code : DefaultCode q g.nodes flow.label_node arms otherwise k) where
      abbrev ArmNode : NodeId → Type 0
      ArmNode m = Among (arm_nodes to) m

      abbrev AnyNode : NodeId → Type 0
      AnyNode m = ArmNode m ⊎ (otherwise ≡ m)

      reach_arm : (b : Branch) → Among (branches arms) b → is_default b.case ≡ false → Reaching ArmNode (branch_way b)
      reach_arm b among is =
          let found = to_arm q g.nodes flow.label_node k rest behind arms to arms_code b among is in reach_branch ArmNode b found.node found.is_one found.code

      reach_any : defaults (branches arms) ≤ 1 → (b : Branch) → Among (branches arms) b → (test : Bool) → is_default b.case ≡ test → Reaching AnyNode (branch_way b)
      reach_any few b among true is =
          reach_branch AnyNode b otherwise (inr refl) (to_default q g.nodes flow.label_node k rest behind arms otherwise default_code few b among is)
      reach_any few b among false is =
          let found = to_arm q g.nodes flow.label_node k rest behind arms to arms_code b among is in
          reach_branch AnyNode b found.node (inl found.is_one) found.code

      reach_none : defaults (branches arms) ≡ 0 → (b : Branch) → Among (branches arms) b → (test : Bool) → is_default b.case ≡ test → Reaching ArmNode (branch_way b)
      reach_none none b among true is = absurd (omega (arith, default_counted (branches arms) b among is, none))
      reach_none none b among false is = reach_arm b among is

      pub arms_stand : (n : NodeId) (read : Bool) → defaults (branches arms) ≤ 1 → Piece g v 1 n read AnyNode → Here n read (into_branches (branches arms) rest)
      arms_stand n read few piece = by (from_default q g.nodes flow.label_node k rest behind arms otherwise default_code)
        where
          from : (m : NodeId) → ArmNode m → Reached (into_branches (branches arms) rest) m
          from m among = reached_branch (branches arms) m (from_arm q g.nodes flow.label_node k rest behind arms to arms_code m among)

          from_any : OfBranch q g.nodes flow.label_node k rest behind (branches arms) otherwise → (m : NodeId) → AnyNode m →
              Reached (into_branches (branches arms) rest) m
          from_any found m (inl among) = from m among
          from_any found m (inr same) = subst (Reached (into_branches (branches arms) rest)) same (reached_branch (branches arms) otherwise found)

          to_any : (way : Way) → Among (into_branches (branches arms) rest) way → Reaching AnyNode way
          to_any way among =
              let found = among_unmap branch_way (branches arms) way among in
              subst (Reaching AnyNode) found.2 (reach_any few found.0 found.1 (is_default found.0.case) refl)

          to_none : defaults (branches arms) ≡ 0 → (way : Way) → Among (into_branches (branches arms) rest) way → Reaching ArmNode way
          to_none none way among =
              let found = among_unmap branch_way (branches arms) way among in
              subst (Reaching ArmNode) found.2 (reach_none none found.0 found.1 (is_default found.0.case) refl)

          by : FromDefault q g.nodes flow.label_node k rest behind (branches arms) otherwise → Here n read (into_branches (branches arms) rest)
          by (Nowhere stops none) =
              stands_by q g flow.label_node v n read (into_branches (branches arms) rest) ArmNode
              (without g v otherwise ArmNode (nothing_lives otherwise stops) piece) (λ way among unwritten. to_none none way among) from
          by (There found) =
              stands_by q g flow.label_node v n read (into_branches (branches arms) rest) AnyNode piece (λ way among unwritten. to_any way among) (from_any found)

    switch_piece : (n : NodeId) (tokens : ℕ) (value : Expression) (j : NodeId) (to : List Arm) (otherwise : NodeId) → OperandCode g.nodes value 0 n j →
        IsNode g.nodes j tokens (kind.Switch (operand_of 0 value) to otherwise) → Piece g v 1 n (is_among v (read_by value)) (λ m. Among (arm_nodes to) m ⊎ (otherwise ≡ m))
    switch_piece n tokens value j to otherwise code is =
        alone g v (is_among v (read_by value)) (operand_piece g v value 0 1 n j false (λ m. Among (arm_nodes to) m ⊎ (otherwise ≡ m)) code
        (left_as g v (λ m. Among (arm_nodes to) m ⊎ (otherwise ≡ m)) there back (node_piece g v j tokens (kind.Switch (operand_of 0 value) to otherwise) is)))
      where
        only : (m : NodeId) → Among (arm_nodes to) m ⊎ Among (otherwise ∷ []) m → Among (arm_nodes to) m ⊎ (otherwise ≡ m)
        only m (inl is) = inl is
        only m (inr (inl is)) = inr is
        only m (inr (inr none)) = absurd none

        there : (m : NodeId) → IsFalse false × Among (arm_nodes to ++ otherwise ∷ []) m → Among (arm_nodes to) m ⊎ (otherwise ≡ m)
        there m is = only m (among_parts (arm_nodes to) (otherwise ∷ []) m is.1)

        back : (m : NodeId) → Among (arm_nodes to) m ⊎ (otherwise ≡ m) → IsFalse false × Among (arm_nodes to ++ otherwise ∷ []) m
        back m (inl is) = (refl, among_left (arm_nodes to) (otherwise ∷ []) m is)
        back m (inr is) = (refl, among_right (arm_nodes to) (otherwise ∷ []) m (inl is))

  -- ---- a form

  pub form_stands : (tokens : ℕ) (form : Form) (n k : NodeId) (rest : List Statement) → FormCode q g.nodes flow.label_node tokens form n k → Behind rest k →
      is_form p q form ≡ true → Here n (is_among v (read_in form)) (ways q form rest)
  form_stands tokens Empty n k rest node behind is = goto_stands n k rest node behind
  form_stands tokens (Label l) n k rest node behind is = goto_stands n k rest node behind
  form_stands tokens (Span' _ body) n k rest code behind is =
      goto_stands n code.0 (statements body ++ rest) code.1 (row_leads q g.nodes flow.label_node body code.0 k code.2 rest behind)
  form_stands tokens (form.Goto l) n k rest same behind is = label_stands l n same
  form_stands tokens (If' condition _ then_ _ otherwise) n k rest code behind is =
      two_ways q g flow.label_node v n code.0 code.1 (is_among v (read_in (If' condition _ then_ _ otherwise))) (statements then_ ++ rest) (statements otherwise ++ rest)
      (test_piece g v condition n code.0 code.1 code.2) (row_leads q g.nodes flow.label_node then_ code.0 k code.3 rest behind)
      (row_leads q g.nodes flow.label_node otherwise code.1 k code.4 rest behind)
  form_stands tokens (Switch' value _ arms) n k rest code behind is =
      arms_stand rest k behind arms code.1 code.2 code.5 code.6 n (is_among v (read_by value)) (few_defaults (typed p q value) (branches arms) is)
      (switch_piece rest k behind n _ value code.0 code.1 code.2 code.3 code.4)
  form_stands tokens (Assign to values) n k rest code behind is =
      assign_stands q g flow.label_node v to values n k rest (assigned_length p q to values (and_parts _ _ is).1) code behind
  form_stands tokens (Call site callee actuals) n k rest code behind is = call_stands p q g range graph flow v tokens site callee actuals n k rest code behind
  form_stands tokens (Yield site values) n k rest code behind is = yield_stands p q g range graph flow v tokens site values n k rest code behind
  form_stands tokens (Checked site op width left right) n k rest code behind is =
      let both = and_parts _ _ (and_parts _ _ (and_parts _ _ is).0).0 in
      checked_stands p q g range graph flow v tokens site op width left right n k rest code behind both.1 both.0
  form_stands tokens (PutByte value) n k rest code behind is =
      plain_way q g flow.label_node v n k (is_among v (read_by value)) rest
      (alone g v (is_among v (read_by value)) (operand_piece g v value 0 1 n code.0 false (λ m. k ≡ m) code.1
      (quiet_node g v code.0 k 1 (kind.Host (host.PutByte (operand_of 0 value)) k) code.2 refl refl))) behind
  form_stands tokens (GetByte target) n k rest node behind is =
      writing_way q g flow.label_node v n k false (any_local v (paths.written_to target)) (written_to target) rest
      (one_node g v n k 1 (kind.Host (host.GetByte target) k) node refl) (target_writes v target) behind
  form_stands tokens (Jump callee actuals) n k rest code behind is = jump_stands p q g range graph flow v tokens callee actuals n code
  form_stands tokens (Return exit alternates values) n k rest code behind is = return_stands p q g range graph flow v tokens exit alternates values n code
  form_stands tokens (Continuation c) n k rest node behind is =
      no_way q g flow.label_node v n false (last_node g v n 1 kind.Stop node refl)
  form_stands tokens (Cut to values own) n k rest code behind is =
      cut_stands p q g range graph flow v tokens to values own n code (and_parts _ _ is).1
