-- The code of a block and of the arms of a switch, with what is still to do behind them.
use Rattle.std.proofs.Common.{◌≡◌, ℕ, suc, ◌+◌, Bool, true, false, Option, Some, None, List, ◌∷◌, ◌++◌, slice_get, refl, ap, sym, ◌∙◌, subst, arith}
use Rattle.cmm_program.specs.declared.procedure.Proc.{Proc}
use Rattle.cmm_program.specs.declared.statement.Form.{Row_of-Arm, end_of-Arm, more_of-Arm}
use Rattle.cmm_program.specs.declared.statement.Statement.{Statement}
use Rattle.cmm_program.specs.declared.statement.Arm.{Arm', Row_of-Statement, end_of-Statement, more_of-Statement}
use Rattle.cmm_program.specs.declared.statement.Case.TheVariants.{In, Default}
use Rattle.cmm_program.specs.Bodies.{Branch, arm_for, branch_body, branches, first_branch, is_default, is_for, is_in_ranges, statements}
use Rattle.cmm_graph.specs.declared.node.Arm.{Arm}
use Rattle.cmm_graph.specs.declared.node.Node.{Node}
use Rattle.cmm_graph.specs.declared.number.NodeId.{NodeId}
use Rattle.cmm_graph.specs.Acting.{arm_way}
use Rattle.cmm_flow.specs.Statements.{ArmsCode, DefaultCode, ListCode, RowCode}

-- the node of a value
abbrev pub arm_node : List Arm → NodeId → ℕ → NodeId
arm_node to otherwise value = elim (slice_get to (arm_way to value)) [ Some arm ↦ arm.to | None ↦ otherwise ]

module _ (q : Proc) (nodes : List Node) (label_node : ℕ → NodeId) where
  -- from a node on, these statements are done, and then those from another node on
  abbrev pub Leads : List Statement → NodeId → NodeId → Type 0
  Leads front n k = (rest : List Statement) → ListCode q nodes label_node rest k → ListCode q nodes label_node (front ++ rest) n

  pub row_leads : {i : _} (row : Row_of-Statement i) (n k : NodeId) → RowCode q nodes label_node row n k → Leads (statements row) n k
  row_leads end_of-Statement n k same rest code = subst (λ m. ListCode q nodes label_node rest m) (sym same) code
  row_leads (more_of-Statement tokens form others) n k row rest code = (row.0, row.1, row_leads others row.0 k row.2 rest code)

  -- the first arm that is for a value is found where the machine finds it, or neither finds one
  pub data FindsArm (value k : _) (bs : List Branch) (to : List Arm) (first : ℕ) : Type 0 where
    Arm-found : (i : ℕ) (arm : Arm) → first_branch (is_for value) first bs ≡ Some (first + i) → slice_get to (arm_way to value) ≡ Some arm →
        Leads (branch_body bs i) arm.to k → FindsArm value k bs to first
    No-arm : first_branch (is_for value) first bs ≡ None → slice_get to (arm_way to value) ≡ None → FindsArm value k bs to first

  finds_later : (value : ℕ) (k : NodeId) (b : Branch) (bs : List Branch) (to more : List Arm) (first : ℕ) → is_for value b.case ≡ false →
      slice_get to (arm_way to value) ≡ slice_get more (arm_way more value) → FindsArm value k bs more (suc first) → FindsArm value k (b ∷ bs) to first
  finds_later value k b bs to more first not_for same (Arm-found i arm found there leads) =
      Arm-found (suc i) arm (grind (arith, not_for, found)) (same ∙ there) leads
  finds_later value k b bs to more first not_for same (No-arm none there) = No-arm (grind (arith, not_for, none)) (same ∙ there)

  pub arms_find : {i : _} (row : Row_of-Arm i) (to : List Arm) (value : ℕ) (k : NodeId) (first : ℕ) → ArmsCode q nodes label_node row to k →
      FindsArm value k (branches row) to first
  arms_find end_of-Arm to value k first code = No-arm refl (rw code refl)
  arms_find (more_of-Arm (Arm' (In ranges) _ body) rest) to value k first code =
      rw code.2 (by (arms_find rest code.1 value k (suc first) code.4) (is_in_ranges value ranges) refl)
    where
      by : FindsArm value k (branches rest) code.1 (suc first) → (found : Bool) → is_in_ranges value ranges ≡ found →
          FindsArm value k (record { case = In ranges; body = statements body } ∷ branches rest) (record { ranges = ranges; to = code.0 } ∷ code.1) first
      by later true is = Arm-found 0 (record { ranges = ranges; to = code.0 }) (grind (arith, is)) (grind (arith, is)) (row_leads body code.0 k code.3)
      by later false is = finds_later value k (record { case = In ranges; body = statements body }) (branches rest) _ code.1 first is (grind (arith, is)) later
  arms_find (more_of-Arm (Arm' Default _ body) rest) to value k first code =
      finds_later value k (record { case = Default; body = statements body }) (branches rest) to to first refl refl (arms_find rest to value k (suc first) code)

  -- and so for the default
  pub data FindsDefault (otherwise k : NodeId) (bs : List Branch) (first : ℕ) : Type 0 where
    Default-found : (i : ℕ) → first_branch is_default first bs ≡ Some (first + i) → Leads (branch_body bs i) otherwise k → FindsDefault otherwise k bs first
    No-default : first_branch is_default first bs ≡ None → FindsDefault otherwise k bs first

  default_later : (otherwise k : NodeId) (b : Branch) (bs : List Branch) (first : ℕ) → is_default b.case ≡ false → FindsDefault otherwise k bs (suc first) →
      FindsDefault otherwise k (b ∷ bs) first
  default_later otherwise k b bs first not_default (Default-found i found leads) = Default-found (suc i) (grind (arith, not_default, found)) leads
  default_later otherwise k b bs first not_default (No-default none) = No-default (grind (arith, not_default, none))

  pub default_finds : {i : _} (row : Row_of-Arm i) (otherwise k : NodeId) (first : ℕ) → DefaultCode q nodes label_node row otherwise k →
      FindsDefault otherwise k (branches row) first
  default_finds end_of-Arm otherwise k first code = No-default refl
  default_finds (more_of-Arm (Arm' (In ranges) _ body) rest) otherwise k first code =
      default_later otherwise k (record { case = In ranges; body = statements body }) (branches rest) first refl (default_finds rest otherwise k (suc first) code)
  default_finds (more_of-Arm (Arm' Default _ body) rest) otherwise k first code = Default-found 0 (grind arith) (row_leads body otherwise k code)

  -- so a switch leads to the arm that the machine takes
  pub switch_leads : {i : _} (row : Row_of-Arm i) (to : List Arm) (otherwise k : NodeId) (value way : ℕ) → ArmsCode q nodes label_node row to k →
      DefaultCode q nodes label_node row otherwise k → arm_for (branches row) value ≡ Some way → Leads (branch_body (branches row) way) (arm_node to otherwise value) k
  switch_leads row to otherwise k value way arms default is =
      by (arms_find row to value k 0 arms) (default_finds row otherwise k 0 default)
    where
      arm_is : (o : Option Arm) → slice_get to (arm_way to value) ≡ o → elim o as (λ _. NodeId) [ Some arm ↦ arm.to | None ↦ otherwise ] ≡ arm_node to otherwise value
      arm_is o is = ap (λ (o : Option Arm). elim o as (λ _. NodeId) [ Some arm ↦ arm.to | None ↦ otherwise ]) (sym is)

      leads_to : (i : ℕ) (n : NodeId) → i ≡ way → n ≡ arm_node to otherwise value → Leads (branch_body (branches row) i) n k →
          Leads (branch_body (branches row) way) (arm_node to otherwise value) k
      leads_to i n same node leads =
          subst (λ j. Leads (branch_body (branches row) j) (arm_node to otherwise value) k) same (subst (λ m. Leads (branch_body (branches row) i) m k) node leads)

      by : FindsArm value k (branches row) to 0 → FindsDefault otherwise k (branches row) 0 → Leads (branch_body (branches row) way) (arm_node to otherwise value) k
      by (Arm-found i arm found there leads) any = let same : i ≡ way = grind (arith, found, is) in leads_to i arm.to same (arm_is (Some arm) there) leads
      by (No-arm none there) (Default-found i found leads) = let same : i ≡ way = grind (arith, none, found, is) in leads_to i otherwise same (arm_is None there) leads
      by (No-arm none there) (No-default lacks) = grind (arith, none, lacks, is)
