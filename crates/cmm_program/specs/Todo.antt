-- The control of the C-- machine: the statements that an activation has still to do.
use Rattle.std.specs.Prelude.{ℕ, zero, suc, true, false, List, [], ◌∷◌, ◌++◌, map, slice_get, Ok, Some, None}
use Rattle.cmm_program.specs.declared.expression.Expression.{Expression}
use Rattle.cmm_program.specs.declared.statement.Form.{Form}
use Rattle.cmm_program.specs.declared.statement.Form.TheVariants.{Empty, If', Switch', Span', Assign, Call, Yield, Checked, PutByte, GetByte, Jump, Return, Label, Goto, Continuation, Cut}
use Rattle.cmm_program.specs.declared.statement.Statement.{Statement}
use Rattle.cmm_program.specs.declared.statement.Lvalue.{Lvalue}
use Rattle.cmm_program.specs.declared.statement.Lvalue.TheVariants as lvalue
use Rattle.cmm_program.specs.declared.procedure.Proc.{Proc}
use Rattle.cmm_program.specs.declared.procedure.Target.{Target}
use Rattle.cmm_program.specs.declared.program.Program.{Program}
use Rattle.cmm_program.specs.Errors.{NoArm, EndOfBody, ContinuationFromAbove, and_then, given}
use Rattle.cmm_program.specs.Values.{Value, Test, value_of, test_of, width_of}
use Rattle.cmm_program.specs.Acts as act
use Rattle.cmm_program.specs.Acts.{Act, Aim, Passed}
use Rattle.cmm_program.specs.Orders.{Held, Memory}
use Rattle.cmm_program.specs.Bodies.{AtLabel, AtContinuation, statements, Branch, branches, arm_for, branch_body, follow}
use Rattle.cmm_program.specs.Control.{Control}

-- a procedure's number, and the statements still to do
pub record Todo : Type 0 where
  pub procedure : ℕ
  pub rest : List Statement

-- ---- what a statement does

abbrev pub aim_of : Lvalue → Aim
aim_of (lvalue.Target target) r = Ok (Held target)
aim_of (lvalue.Memory width aligned address) r = and_then (value_of address r) (λ a. Ok (Memory width aligned a))

abbrev pub passed : Expression → Passed
passed e = record { width = width_of e; value = value_of e }

-- the number of the branch of an `if`
abbrev pub if_way : Test → Value
if_way test r = and_then (test r) (λ holds. Ok (elim holds [ true ↦ 0 | false ↦ 1 ]))

abbrev pub switch_way : List Branch → Value → Value
switch_way bs value r = and_then (value r) (λ v. given (arm_for bs v) NoArm Ok)

abbrev pub site_results : Proc → ℕ → List Target
site_results p n = elim (slice_get p.sites n) [ Some site ↦ site.results | None ↦ [] ]

abbrev pub act_of : Proc → Form → Act
act_of p Empty = act.Nothing
act_of p (If' condition _ then_ _ otherwise) = act.Choose (if_way (test_of condition))
act_of p (Switch' value _ arms) = act.Choose (switch_way (branches arms) (value_of value))
act_of p (Span' _ body) = act.Nothing
act_of p (Assign to values) = act.Assign (map aim_of to) (map value_of values)
act_of p (Call site callee actuals) = act.Call site (value_of callee) (map passed actuals)
act_of p (Yield site values) = act.Yield site (map value_of values)
act_of p (Checked site op width left right) = act.Checked site (site_results p site) op width (value_of left) (value_of right)
act_of p (PutByte value) = act.PutByte (value_of value)
act_of p (GetByte target) = act.GetByte target
act_of p (Jump callee actuals) = act.Jump (value_of callee) (map passed actuals)
act_of p (Return exit alternates values) = act.Return exit alternates (map passed values)
act_of p (Label n) = act.Nothing
act_of p (Goto n) = act.Nothing
act_of p (Continuation n) = act.Fail ContinuationFromAbove
act_of p (Cut to values own) = act.Cut (value_of to) (map passed values) own

-- ---- what is to do after it

-- the statements of the chosen block are put before those still to do; after a `goto` it is what follows the label
abbrev pub rest_after : Proc → ℕ → Form → List Statement → List Statement
rest_after p way (If' condition _ then_ _ otherwise) rest = elim way [ zero ↦ statements then_ ++ rest | suc _ ↦ statements otherwise ++ rest ]
rest_after p way (Switch' value _ arms) rest = branch_body (branches arms) way ++ rest
rest_after p way (Span' _ body) rest = statements body ++ rest
rest_after p way (Goto n) rest = follow p (AtLabel n)
rest_after p way _ rest = rest

-- ---- the control

abbrev pub in_procedure : {A : Type 0} → Program → ℕ → A → (Proc → A) → A
in_procedure p n otherwise f = elim (slice_get p.procs n) [ Some proc ↦ f proc | None ↦ otherwise ]

abbrev pub todo_act : Program → Todo → Act
todo_act p t = elim t.rest [
  | [] ↦ act.Fail EndOfBody
  | statement ∷ _ ↦ in_procedure p t.procedure act.Nothing (λ proc. act_of proc statement.form)
]

abbrev pub todo_on : Program → ℕ → Todo → Todo
todo_on p way t = elim t.rest [
  | [] ↦ t
  | statement ∷ rest ↦ record t { rest = in_procedure p t.procedure [] (λ proc. rest_after proc way statement.form rest) }
]

-- An activation that waits at a site, or goes on behind it, has to do what follows the site's statement.
abbrev pub todo_control : Program → Control Todo
todo_control p = record {
  act = todo_act p;
  on = todo_on p;
  later = todo_on p 0;
  back = λ t. t;
  resume = λ k t. record t { rest = in_procedure p t.procedure [] (λ proc. follow proc (AtContinuation k)) };
  begin = λ n. record { procedure = n; rest = in_procedure p n [] (λ proc. proc.body) };
}
