-- Where the marks of a body lead, while its statements are laid from the last one to the first.
use Rattle.std.specs.Prelude.{◌≡◌, ℕ, true, false, List, [], ◌∷◌, Option, Some, None}
use Rattle.cmm_program.specs.declared.procedure.Proc.{Proc}
use Rattle.cmm_program.specs.declared.statement.Arm.{Arm, Arm'}
use Rattle.cmm_program.specs.declared.statement.Case.{Case}
use Rattle.cmm_program.specs.declared.statement.Case.TheVariants.{In, Default}
use Rattle.cmm_program.specs.declared.statement.Form.{Form}
use Rattle.cmm_program.specs.declared.statement.Statement.{Statement}
use Rattle.cmm_program.specs.Bodies.{Mark, after_in, after_inside, first_of_two, is_mark, outward}
use Rattle.cmm_graph.specs.declared.node.Arm.{Arm as Way}
use Rattle.cmm_graph.specs.declared.node.Node.{Node}
use Rattle.cmm_graph.specs.declared.node.NodeKind.TheVariants.{Stop}
use Rattle.cmm_graph.specs.declared.number.NodeId.{NodeId}
use Rattle.cmm_flow.specs.Code.{IsNode}
use Rattle.cmm_flow.specs.Statements.{FormCode, RowCode}

-- what follows a mark in some statements, and in the arms of a switch
abbrev pub after_list : Mark → List Statement → Option (List Statement)
after_list mark [] = None
after_list mark (statement ∷ rest) = elim (is_mark mark statement.form) [
  | true ↦ Some rest
  | false ↦ first_of_two (outward (after_inside mark statement.form) rest) (after_list mark rest)
]

abbrev pub after_arms : Mark → List Arm → Option (List Statement)
after_arms mark [] = None
after_arms mark (Arm' case _ body ∷ rest) = first_of_two (after_in mark body) (after_arms mark rest)

module _ (q : Proc) (nodes : List Node) (label_node : ℕ → NodeId) where
  -- the nodes from n on are the code of some statements, behind which control goes on at k
  abbrev pub FrontCode : List Statement → NodeId → NodeId → Type 0
  FrontCode [] n k = n ≡ k
  FrontCode (statement ∷ rest) n k = (m : NodeId) × FormCode q nodes label_node statement.tokens statement.form n m × FrontCode rest m k

  -- the ways of a switch, in the order of its arms, and the node for all other values
  abbrev pub WaysCode : List Arm → List Way → NodeId → Type 0
  WaysCode [] to k = to ≡ []
  WaysCode (Arm' (In ranges) _ body ∷ rest) to k =
      (m : NodeId) × (more : List Way) × (to ≡ record { ranges = ranges; to = m } ∷ more) × RowCode q nodes label_node body m k × WaysCode rest more k
  WaysCode (Arm' Default _ body ∷ rest) to k = WaysCode rest to k

  abbrev pub OtherwiseCode : List Arm → NodeId → NodeId → Type 0
  OtherwiseCode [] n k = IsNode nodes n 1 Stop
  OtherwiseCode (Arm' (In ranges) _ body ∷ rest) n k = OtherwiseCode rest n k
  OtherwiseCode (Arm' Default _ body ∷ rest) n k = RowCode q nodes label_node body n k

  -- Where a mark leads once statements are laid in front of k: to the code of what follows it among them, or where it led before if
  -- none of them has it.
  abbrev pub LeadsBehind : Option (List Statement) → NodeId → NodeId → NodeId → Type 0
  LeadsBehind None k before after = after ≡ before
  LeadsBehind (Some inner) k before after = FrontCode inner after k

  -- so for one statement, which may have the mark itself
  abbrev pub LeadsBehindForm : Form → NodeId → Mark → NodeId → NodeId → Type 0
  LeadsBehindForm form k mark before after = elim (is_mark mark form) [
    | true ↦ after ≡ k
    | false ↦ LeadsBehind (after_inside mark form) k before after
  ]

  abbrev pub LeadsBehindList : List Statement → NodeId → Mark → NodeId → NodeId → Type 0
  LeadsBehindList statements k mark before after = LeadsBehind (after_list mark statements) k before after

  abbrev pub LeadsBehindArms : List Arm → NodeId → Mark → NodeId → NodeId → Type 0
  LeadsBehindArms arms k mark before after = LeadsBehind (after_arms mark arms) k before after

-- the ways of a switch, and that of all other values, once an arm is in front
abbrev pub PutsArm : Case → NodeId → List Way → NodeId → List Way → NodeId → Type 0
PutsArm (In ranges) n to otherwise to_after otherwise_after = (to_after ≡ record { ranges = ranges; to = n } ∷ to) × (otherwise_after ≡ otherwise)
PutsArm Default n to otherwise to_after otherwise_after = (to_after ≡ to) × (otherwise_after ≡ n)
