-- Which variables are live at a call site, by the paths of a body (Ramsey and Peyton Jones, PLDI 2000, the flow edges
-- of call sites). A path goes from position to position; a position is the list of the statements still to do. Here is the
-- test, which looks along paths of bounded length; `LivePaths` has the definition by paths of any length, and `Laws` that the
-- two agree.
use Rattle.std.specs.Prelude.{ℕ, zero, suc, ◌==◌, ◌||◌, Bool, true, false, List, [], ◌∷◌, ◌++◌, map, flat_map, slice_get, Some, None}
use Rattle.cmm_program.specs.declared.expression.Expression.{Expression, Expression-F}
use Rattle.cmm_program.specs.declared.expression.Expression.TheOpen as e
use Rattle.cmm_program.specs.declared.expression.Condition.{Condition-F}
use Rattle.cmm_program.specs.declared.expression.Condition.TheOpen as c
use Rattle.cmm_program.specs.declared.statement.Form.{Form}
use Rattle.cmm_program.specs.declared.statement.Form.TheVariants.{Empty, If', Switch', Span', Assign, Call, Yield, Checked, PutByte, GetByte, Jump, Return, Label, Goto, Continuation, Cut}
use Rattle.cmm_program.specs.declared.statement.Statement.{Statement}
use Rattle.cmm_program.specs.declared.statement.Lvalue.{Lvalue}
use Rattle.cmm_program.specs.declared.statement.Lvalue.TheVariants as lvalue
use Rattle.cmm_program.specs.declared.procedure.Proc.{Proc}
use Rattle.cmm_program.specs.declared.procedure.Site.{Site}
use Rattle.cmm_program.specs.declared.procedure.Target.{Target}
use Rattle.cmm_program.specs.declared.procedure.Target.TheVariants.{Variable, Register}
use Rattle.cmm_program.specs.Folds.{fold_expression, fold_condition}
use Rattle.cmm_program.specs.Frames.{parameters}
use Rattle.cmm_program.specs.Bodies.{AtLabel, AtContinuation, AtSite, statements, Branch, branches, follow}

-- ---- what a statement reads and writes: the numbers of variables

abbrev pub read_step : Expression-F (List ℕ) → List ℕ
read_step (e.Known known) = []
read_step (e.Variable number width) = number ∷ []
read_step (e.Register number width) = []
read_step (e.Stackdata number) = []
read_step (e.Continuation number) = []
read_step (e.Load width aligned address) = address
read_step (e.Unary op width a) = a
read_step (e.Binary op width a b) = a ++ b
read_step (e.SignExtend from to a) = a
read_step (e.ZeroExtend from to a) = a
read_step (e.LowBits from to a) = a

abbrev pub read_by : Expression → List ℕ
read_by e = fold_expression read_step e

abbrev pub read_by_all : List Expression → List ℕ
read_by_all es = flat_map read_by es

abbrev pub test_read_step : Condition-F (List ℕ) → List ℕ
test_read_step (c.Compare cmp width a b) = read_by a ++ read_by b
test_read_step (c.Not a) = a
test_read_step (c.Both a b) = a ++ b
test_read_step (c.Either a b) = a ++ b

-- the address of a word in memory is read; a variable that is assigned to is not
abbrev pub read_by_lvalue : Lvalue → List ℕ
read_by_lvalue (lvalue.Target target) = []
read_by_lvalue (lvalue.Memory width aligned address) = read_by address

abbrev pub read_in : Form → List ℕ
read_in (If' condition _ then_ _ otherwise) = fold_condition test_read_step condition
read_in (Switch' value _ arms) = read_by value
read_in (Assign to values) = flat_map read_by_lvalue to ++ read_by_all values
read_in (Call site callee actuals) = read_by callee ++ read_by_all actuals
read_in (Yield site values) = read_by_all values
read_in (Checked site op width left right) = read_by left ++ read_by right
read_in (PutByte value) = read_by value
read_in (Jump callee actuals) = read_by callee ++ read_by_all actuals
read_in (Return exit alternates values) = read_by_all values
read_in (Cut to values own) = read_by to ++ read_by_all values
read_in _ = []

abbrev pub written_to : Target → List ℕ
written_to (Variable number width) = number ∷ []
written_to (Register number width) = []

abbrev pub written_to_lvalue : Lvalue → List ℕ
written_to_lvalue (lvalue.Target target) = written_to target
written_to_lvalue (lvalue.Memory width aligned address) = []

-- ---- where a path goes from a statement

-- a way on: the variables that are written on it, and the position to which it leads
pub record Way : Type 0 where
  pub written : List ℕ
  pub to : List Statement

abbrev pub plain : List Statement → Way
plain rest = record { written = []; to = rest }

-- the parameters of a continuation are written where an exit leads to it
abbrev pub to_continuation : Proc → ℕ → Way
to_continuation p k = record { written = parameters p k; to = follow p (AtContinuation k) }

-- the results of a site are written at its normal exit
abbrev pub to_next : Site → List Statement → Way
to_next site rest = record { written = flat_map written_to site.results; to = rest }

-- the exits of a site, before what follows its statement
abbrev pub exits : Proc → Site → List Statement → List Way
exits p site rest =
    elim site.never [ true ↦ [] | false ↦ to_next site rest ∷ [] ]
    ++ map (to_continuation p) (site.returns ++ site.unwinds ++ site.cuts)

abbrev pub exits_at : Proc → ℕ → List Statement → List Way
exits_at p n rest = elim (slice_get p.sites n) [ Some site ↦ exits p site rest | None ↦ [] ]

-- a checked operator whose divisor is not 0 goes on, whatever its site says
abbrev pub checked_ways : Proc → ℕ → List Statement → List Way
checked_ways p n rest = elim (slice_get p.sites n) [ Some site ↦ to_next site rest ∷ exits p site rest | None ↦ [] ]

abbrev pub into_branches : List Branch → List Statement → List Way
into_branches bs rest = map (λ b. plain (b.body ++ rest)) bs

abbrev pub ways : Proc → Form → List Statement → List Way
ways p Empty rest = plain rest ∷ []
ways p (If' condition _ then_ _ otherwise) rest = plain (statements then_ ++ rest) ∷ plain (statements otherwise ++ rest) ∷ []
ways p (Switch' value _ arms) rest = into_branches (branches arms) rest
ways p (Span' _ body) rest = plain (statements body ++ rest) ∷ []
ways p (Assign to values) rest = record { written = flat_map written_to_lvalue to; to = rest } ∷ []
ways p (Call site callee actuals) rest = exits_at p site rest
ways p (Yield site values) rest = exits_at p site rest
ways p (Checked site op width left right) rest = checked_ways p site rest
ways p (PutByte value) rest = plain rest ∷ []
ways p (GetByte target) rest = record { written = written_to target; to = rest } ∷ []
ways p (Jump callee actuals) rest = []
ways p (Return exit alternates values) rest = []
ways p (Label n) rest = plain rest ∷ []
ways p (Goto n) rest = plain (follow p (AtLabel n)) ∷ []
ways p (Continuation n) rest = []
ways p (Cut to values own) rest = map (to_continuation p) own

-- ---- liveness

abbrev pub is_among : ℕ → List ℕ → Bool
is_among v [] = false
is_among v (n ∷ ns) = (v == n) || is_among v ns

-- one of these ways, on which the variable is not written, leads to a position that passes the test
abbrev pub along : (List Statement → Bool) → ℕ → List Way → Bool
along test v [] = false
along test v (w ∷ ws) = elim (is_among v w.written) [
  | true ↦ along test v ws
  | false ↦ elim (test w.to) [ true ↦ true | false ↦ along test v ws ]
]

-- Some path of at most n statements reads the variable, and nothing writes it before on that path.
abbrev pub is_read_within : ℕ → Proc → ℕ → List Statement → Bool
is_read_within zero p v position = false
is_read_within (suc n) p v [] = false
is_read_within (suc n) p v (s ∷ rest) = elim (is_among v (read_in s.form)) [
  | true ↦ true
  | false ↦ along (is_read_within n p v) v (ways p s.form rest)
]

-- No path has to be longer than the procedure has tokens: one that comes back to a position can be cut short, and a body
-- has no more positions than tokens (`Laws.LivenessIsByPaths`).
abbrev pub is_read_from : Proc → ℕ → List Statement → Bool
is_read_from p v position = is_read_within p.tokens p v position

-- whether a variable is live at a site: some path from one of the site's exits reads it before it is written
abbrev pub is_live_at : Proc → ℕ → ℕ → Bool
is_live_at p site v = along (is_read_from p v) v (exits_at p site (follow p (AtSite site)))
