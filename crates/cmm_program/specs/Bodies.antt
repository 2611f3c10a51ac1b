-- The statements of a body: what stands where, and what each one does.
-- Where a program goes on is the list of the statements still to do, those of enclosing blocks at the end.
use Rattle.std.specs.Prelude.{ℕ, suc, ◌==◌, ◌&&◌, ◌||◌, Bool, true, false, nat_le, List, [], ◌∷◌, ◌++◌, slice_get, Option, Some, None}
use Rattle.cmm_program.specs.declared.statement.Form.{Form, Row_of-Arm, end_of-Arm, more_of-Arm}
use Rattle.cmm_program.specs.declared.statement.Form.TheVariants.{If', Switch', Span', Span, Call, Yield, Checked, Label, Continuation}
use Rattle.cmm_program.specs.declared.statement.Statement.{Statement}
use Rattle.cmm_program.specs.declared.statement.Arm.{Arm', Row_of-Statement, end_of-Statement, more_of-Statement}
use Rattle.cmm_program.specs.declared.statement.Case.{Case}
use Rattle.cmm_program.specs.declared.statement.Case.TheVariants.{In, Default}
use Rattle.cmm_program.specs.declared.statement.Range.{Range}
use Rattle.cmm_program.specs.declared.procedure.Proc.{Proc}

-- ---- blocks as lists

abbrev pub statements : {n : _} → Row_of-Statement n → List Statement
statements end_of-Statement = []
statements (more_of-Statement tokens form rest) = record { tokens = tokens; form = form } ∷ statements rest

-- an arm: what it is for, and its statements
pub record Branch : Type 0 where
  pub case : Case
  pub body : List Statement

abbrev pub branches : {n : _} → Row_of-Arm n → List Branch
branches end_of-Arm = []
branches (more_of-Arm (Arm' case _ body) rest) = record { case = case; body = statements body } ∷ branches rest

-- every statement inside a statement's blocks, over all of them, in textual order
abbrev mutual
  pub within : Form → List Statement
  within (If' condition _ then_ _ otherwise) = within_block then_ ++ within_block otherwise
  within (Switch' value _ arms) = within_arms arms
  within (Span' _ body) = within_block body
  within _ = []

  pub within_block : {n : _} → Row_of-Statement n → List Statement
  within_block end_of-Statement = []
  within_block (more_of-Statement tokens form rest) = record { tokens = tokens; form = form } ∷ (within form ++ within_block rest)

  pub within_arms : {n : _} → Row_of-Arm n → List Statement
  within_arms end_of-Arm = []
  within_arms (more_of-Arm (Arm' case _ body) rest) = within_block body ++ within_arms rest

-- every statement of a procedure's body
abbrev pub body_statements : Proc → List Statement
body_statements q = within (Span q.body)

-- ---- what follows a mark

-- a place of a body: a label, the beginning of a continuation, or the statement at a call site
pub data Mark : Type 0 where
  AtLabel : ℕ → Mark
  AtContinuation : ℕ → Mark
  AtSite : ℕ → Mark

abbrev pub is_mark : Mark → Form → Bool
is_mark (AtLabel n) (Label m) = n == m
is_mark (AtContinuation n) (Continuation m) = n == m
is_mark (AtSite n) (Call m callee actuals) = n == m
is_mark (AtSite n) (Yield m values) = n == m
is_mark (AtSite n) (Checked m op width left right) = n == m
is_mark _ _ = false

-- the first of two that is there
abbrev pub first_of_two : {A : Type 0} → Option A → Option A → Option A
first_of_two (Some a) other = Some a
first_of_two None other = other

-- with what stands behind a block put behind what follows in it
abbrev pub outward : Option (List Statement) → List Statement → Option (List Statement)
outward (Some inner) rest = Some (inner ++ rest)
outward None rest = None

abbrev mutual
  -- what follows a mark inside a statement's blocks
  pub after_inside : Mark → Form → Option (List Statement)
  after_inside m (If' condition _ then_ _ otherwise) = first_of_two (after_in m then_) (after_in m otherwise)
  after_inside m (Switch' value _ arms) = after_in_arms m arms
  after_inside m (Span' _ body) = after_in m body
  after_inside m _ = None

  -- what follows a mark in a block, outward through the blocks inside it
  pub after_in : {n : _} → Mark → Row_of-Statement n → Option (List Statement)
  after_in m end_of-Statement = None
  after_in m (more_of-Statement tokens form rest) = elim (is_mark m form) [
    | true ↦ Some (statements rest)
    | false ↦ first_of_two (outward (after_inside m form) (statements rest)) (after_in m rest)
  ]

  pub after_in_arms : {n : _} → Mark → Row_of-Arm n → Option (List Statement)
  after_in_arms m end_of-Arm = None
  after_in_arms m (more_of-Arm (Arm' case _ body) rest) = first_of_two (after_in m body) (after_in_arms m rest)

-- what follows a mark in the body of a procedure; nothing where the body lacks it
abbrev pub follow : Proc → Mark → List Statement
follow p m = elim (after_inside m (Span p.body)) [ Some rest ↦ rest | None ↦ [] ]

-- ---- which arm a value has

abbrev pub is_in_ranges : ℕ → List Range → Bool
is_in_ranges value [] = false
is_in_ranges value (r ∷ rs) = (nat_le r.from value && nat_le value r.to) || is_in_ranges value rs

abbrev pub is_for : ℕ → Case → Bool
is_for value (In ranges) = is_in_ranges value ranges
is_for value Default = false

abbrev pub is_default : Case → Bool
is_default (In ranges) = false
is_default Default = true

-- the number of the first branch whose case passes a test
abbrev pub first_branch : (Case → Bool) → ℕ → List Branch → Option ℕ
first_branch test n [] = None
first_branch test n (b ∷ bs) = elim (test b.case) [ true ↦ Some n | false ↦ first_branch test (suc n) bs ]

-- the number of the arm that is for a value, or else of the default
abbrev pub arm_for : List Branch → ℕ → Option ℕ
arm_for bs value = first_of_two (first_branch (is_for value) 0 bs) (first_branch is_default 0 bs)

abbrev pub branch_body : List Branch → ℕ → List Statement
branch_body bs n = elim (slice_get bs n) [ Some b ↦ b.body | None ↦ [] ]
