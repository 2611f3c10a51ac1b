-- The arms of a switch as the paths of liveness see them: each leads where its node stands, and the default to the node for what no arm is for.
use Rattle.std.proofs.Common.{◌≡◌, ◌⊎◌, inl, inr, ℕ, ◌+◌, ◌≤◌, true, false, Option, Some, None, List, [], ◌∷◌, ◌++◌, refl, ap, ◌∙◌, subst, arith}
use Rattle.std.proofs.lemmas.Bool.{and_parts, leb-true}
use Rattle.cmm_words.specs.declared.width.Width.{Width}
use Rattle.cmm_program.specs.declared.procedure.Proc.{Proc}
use Rattle.cmm_program.specs.declared.statement.Form.{Row_of-Arm, end_of-Arm, more_of-Arm}
use Rattle.cmm_program.specs.declared.statement.Statement.{Statement}
use Rattle.cmm_program.specs.declared.statement.Arm.{Arm'}
use Rattle.cmm_program.specs.declared.statement.Case.{Case}
use Rattle.cmm_program.specs.declared.statement.Case.TheVariants.{In, Default}
use Rattle.cmm_program.specs.Bodies.{Branch, branches, is_default, statements}
use Rattle.cmm_program.specs.InRange.{are_arms, defaults}
use Rattle.cmm_graph.specs.declared.node.Arm.{Arm}
use Rattle.cmm_graph.specs.declared.node.Node.{Node}
use Rattle.cmm_graph.specs.declared.node.NodeKind.TheVariants.{Stop}
use Rattle.cmm_graph.specs.declared.number.NodeId.{NodeId}
use Rattle.cmm_graph.specs.Paths.{arm_nodes}
use Rattle.cmm_flow.specs.Code.{IsNode}
use Rattle.cmm_flow.specs.Statements.{ArmsCode, DefaultCode, ListCode}
use Rattle.cmm_flow.proofs.LivenessMembers.{Among}
use Rattle.cmm_flow.proofs.Rows.{row_leads}

-- a branch that is a default is counted
pub default_counted : (bs : List Branch) (b : Branch) → Among bs b → is_default b.case ≡ true → 1 ≤ defaults bs
default_counted [] b among is = absurd among
default_counted (c ∷ bs) b (inl same) is = first c.case (ap (λ (b : Branch). is_default b.case) same ∙ is)
  where
    first : (case : Case) → is_default case ≡ true → 1 ≤ elim case as (λ _. ℕ) [ In ranges ↦ defaults bs | Default ↦ 1 + defaults bs ]
    first (In ranges) is = absurd (cc)
    first Default is = omega arith
default_counted (c ∷ bs) b (inr later) is = more c.case (default_counted bs b later is)
  where
    more : (case : Case) → 1 ≤ defaults bs → 1 ≤ elim case as (λ _. ℕ) [ In ranges ↦ defaults bs | Default ↦ 1 + defaults bs ]
    more (In ranges) is = is
    more Default is = omega arith

-- arms in range have one default at most
pub few_defaults : (width : Option Width) (bs : List Branch) → are_arms width bs ≡ true → defaults bs ≤ 1
few_defaults (Some width) bs is = leb-true (defaults bs) 1 (and_parts _ _ is).1
few_defaults None bs is = absurd (cc)

module _ (q : Proc) (nodes : List Node) (label_node : ℕ → NodeId) (k : NodeId) (rest : List Statement) (behind : ListCode q nodes label_node rest k) where
  abbrev BranchCode : Branch → NodeId → Type 0
  BranchCode b n = ListCode q nodes label_node (b.body ++ rest) n

  -- where a branch leads that is no default
  pub record ToArm (to : List Arm) (b : Branch) : Type 0 where
    pub node : NodeId
    pub is_one : Among (arm_nodes to) node
    pub code : BranchCode b node

  -- which branch leads to a node
  pub record OfBranch (bs : List Branch) (n : NodeId) : Type 0 where
    pub branch : Branch
    pub is_one : Among bs branch
    pub code : BranchCode branch n

  of_later : (bs : List Branch) (b : Branch) (n : NodeId) → OfBranch bs n → OfBranch (b ∷ bs) n
  of_later bs b n found = record { branch = found.branch; is_one = inr found.is_one; code = found.code }

  pub to_arm : {i : _} (row : Row_of-Arm i) (to : List Arm) → ArmsCode q nodes label_node row to k → (b : Branch) → Among (branches row) b →
      is_default b.case ≡ false → ToArm to b
  to_arm end_of-Arm to code b among is = absurd among
  to_arm (more_of-Arm (Arm' (In ranges) _ body) more) to code b (inl same) is =
      rw code.2 (subst (ToArm (record { ranges = ranges; to = code.0 } ∷ code.1)) same
      (record { node = code.0; is_one = inl refl; code = row_leads q nodes label_node body code.0 k code.3 rest behind }))
  to_arm (more_of-Arm (Arm' (In ranges) _ body) more) to code b (inr later) is =
      let found = to_arm more code.1 code.4 b later is in
      rw code.2 (record { node = found.node; is_one = inr found.is_one; code = found.code })
  to_arm (more_of-Arm (Arm' Default _ body) more) to code b (inl same) is = absurd (cc)
  to_arm (more_of-Arm (Arm' Default _ body) more) to code b (inr later) is = to_arm more to code b later is

  pub to_default : {i : _} (row : Row_of-Arm i) (otherwise : NodeId) → DefaultCode q nodes label_node row otherwise k → defaults (branches row) ≤ 1 →
      (b : Branch) → Among (branches row) b → is_default b.case ≡ true → BranchCode b otherwise
  to_default end_of-Arm otherwise code few b among is = absurd among
  to_default (more_of-Arm (Arm' (In ranges) _ body) more) otherwise code few b (inl same) is = absurd (cc)
  to_default (more_of-Arm (Arm' (In ranges) _ body) more) otherwise code few b (inr later) is = to_default more otherwise code few b later is
  to_default (more_of-Arm (Arm' Default _ body) more) otherwise code few b (inl same) is =
      subst (λ b. BranchCode b otherwise) same (row_leads q nodes label_node body otherwise k code rest behind)
  to_default (more_of-Arm (Arm' Default _ body) more) otherwise code few b (inr later) is =
      absurd (omega (arith, default_counted (branches more) b later is, few))

  pub from_arm : {i : _} (row : Row_of-Arm i) (to : List Arm) → ArmsCode q nodes label_node row to k → (n : NodeId) → Among (arm_nodes to) n →
      OfBranch (branches row) n
  from_arm end_of-Arm to code n among = absurd (subst (λ to. Among (arm_nodes to) n) code among)
  from_arm (more_of-Arm (Arm' (In ranges) _ body) more) to code n among =
      by (λ later. from_arm more code.1 code.4 n later) (subst (λ to. Among (arm_nodes to) n) code.2 among)
    where
      by : (Among (arm_nodes code.1) n → OfBranch (branches more) n) → (code.0 ≡ n) ⊎ Among (arm_nodes code.1) n →
          OfBranch (record { case = In ranges; body = statements body } ∷ branches more) n
      by others (inl same) = subst (OfBranch (record { case = In ranges; body = statements body } ∷ branches more)) same (record {
        branch = record { case = In ranges; body = statements body };
        is_one = inl refl;
        code = row_leads q nodes label_node body code.0 k code.3 rest behind;
      })
      by others (inr later) = of_later (branches more) (record { case = In ranges; body = statements body }) n (others later)
  from_arm (more_of-Arm (Arm' Default _ body) more) to code n among =
      of_later (branches more) (record { case = Default; body = statements body }) n (from_arm more to code n among)

  -- the default, or the end of a run where there is none
  pub data FromDefault (bs : List Branch) (otherwise : NodeId) : Type 0 where
    Nowhere : IsNode nodes otherwise 1 Stop → defaults bs ≡ 0 → FromDefault bs otherwise
    There : OfBranch bs otherwise → FromDefault bs otherwise

  pub from_default : {i : _} (row : Row_of-Arm i) (otherwise : NodeId) → DefaultCode q nodes label_node row otherwise k → FromDefault (branches row) otherwise
  from_default end_of-Arm otherwise code = Nowhere code refl
  from_default (more_of-Arm (Arm' (In ranges) _ body) more) otherwise code = by (from_default more otherwise code)
    where
      by : FromDefault (branches more) otherwise → FromDefault (record { case = In ranges; body = statements body } ∷ branches more) otherwise
      by (Nowhere is none) = Nowhere is none
      by (There found) = There (of_later (branches more) (record { case = In ranges; body = statements body }) otherwise found)
  from_default (more_of-Arm (Arm' Default _ body) more) otherwise code = There (record {
    branch = record { case = Default; body = statements body };
    is_one = inl refl;
    code = row_leads q nodes label_node body otherwise k code rest behind;
  })
