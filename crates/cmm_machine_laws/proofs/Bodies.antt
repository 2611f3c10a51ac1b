-- What an activation has still to do are statements of its procedure: what a block has, what follows a mark, and what is
-- left after a statement.
use Rattle.std.specs.List.{list_all}
use Rattle.std.proofs.lemmas.Bool.{and_parts}
use Rattle.std.proofs.lemmas.Bool.Decides.{nat_tests}
use Rattle.std.proofs.lemmas.List.Folds.{list_all-append}
use Rattle.std.proofs.Common.{◌∙◌, arith, ◌≡◌, ℕ, zero, suc, List, ◌∷◌, ◌++◌, All, IsTrue, IfSome, refl, ap, subst}
use mathlib.Core.Former.{Count, arity, this}
use Rattle.cmm_items.specs.formers.items.Items.{the_former as items}
use Rattle.std.proofs.lemmas.List.Elements.{All-nil, All-cons, All-append}
use Rattle.cmm_program.specs.declared.statement.Form.{Form, Row_of-Arm, more_of-Arm}
use Rattle.cmm_program.specs.declared.statement.Form.TheVariants.{If', Switch', Span', Span, Goto}
use Rattle.cmm_program.specs.declared.statement.Form.TheBlock.{hidden-the_row-Statement-0, shape-the_row-Statement-0}
use Rattle.cmm_program.specs.declared.statement.Statement.{Statement}
use Rattle.cmm_program.specs.declared.statement.Arm.{items-the_row-Statement, items_hidden-the_row-Statement-0, Arm', Row_of-Statement, end_of-Statement, more_of-Statement}
use Rattle.cmm_program.specs.declared.procedure.Proc.{Proc}
use Rattle.cmm_program.specs.declared.program.Program.{Program}
use Rattle.cmm_program.specs.Bodies.{Mark, AtLabel, statements, branches, branch_body, within, within_block, within_arms, after_inside, after_in, after_in_arms, follow}
use Rattle.cmm_program.specs.InRange.{is_body_in, is_statement}
use Rattle.cmm_program.specs.Todo.{rest_after}
use Rattle.cmm_machine_laws.specs.Fitting.{IsStatementOf}

-- ---- the body of a procedure

-- the row of a body, which is its statements
abbrev pub body_row : (q : Proc) → Row_of-Statement (arity (items (this {0})) (shape-the_row-Statement-0 q.body))
body_row q = hidden-the_row-Statement-0 q.body

-- a row read as a list
row_items : (n : Count) (row : Row_of-Statement n) → statements row ≡ items-the_row-Statement n row
row_items n end_of-Statement = refl
row_items n (more_of-Statement tokens form rest) = ap (λ xs. record { tokens = tokens; form = form } ∷ xs) (row_items _ rest)

pub row_statements : (q : Proc) → statements (body_row q) ≡ q.body
row_statements q = row_items _ (body_row q) ∙ items_hidden-the_row-Statement-0 q.body

module _ (p : Program) (q : Proc) where
  -- ---- statements in range

  abbrev InRange : List Statement → Type 0
  InRange = All (IsStatementOf p q)

  -- statements that keep the rules, and those of two lists apart
  abbrev Keep : List Statement → Type 0
  Keep ss = IsTrue (list_all (is_statement p q) ss)

  apart : (xs ys : List Statement) → Keep (xs ++ ys) → Keep xs × Keep ys
  apart xs ys keep = and_parts _ _ (subst IsTrue (list_all-append (is_statement p q) xs ys) keep)

  -- some in front of others
  before : (rest front : List Statement) → InRange front → InRange rest → InRange (front ++ rest)
  before rest front = All-append (IsStatementOf p q) front rest

  mutual
    -- what follows a mark inside a statement
    form_of : (form : Form) → IsTrue (is_body_in p q form) → (m : Mark) → IfSome (after_inside m form) InRange
    form_of (If' condition _ then_ _ otherwise) is m =
        let both = apart (within_block then_) (within_block otherwise) is in grind (arith, row_of then_ both.0, row_of otherwise both.1)
    form_of (Switch' value _ arms) is m = grind (arith, nat_tests, arms_of arms)
    form_of (Span' _ body) is m = grind (arith, nat_tests, row_of body)
    form_of _ is m = tt

    -- the statements of a block, and what follows a mark in it
    row_of : {n : _} (row : Row_of-Statement n) → Keep (within_block row) → InRange (statements row) × ((m : _) → IfSome (after_in m row) InRange)
    row_of (more_of-Statement tokens form rest) is =
        let s : Statement = record { tokens = tokens; form = form } in
        let both = and_parts (is_statement p q s) _ is in
        let inner = apart (within form) (within_block rest) both.1 in (
          All-cons (IsStatementOf p q) s (statements rest) (both.0, inner.0) (row_of rest inner.1).0,
          λ m. grind (arith, row_of rest inner.1, form_of form inner.0 m, before (statements rest)),
        )
    row_of row is = (All-nil (IsStatementOf p q), λ m. tt)

    -- the body of each arm, and what follows a mark in the arms
    arms_of : {n : _} (row : Row_of-Arm n) → Keep (within_arms row) →
        ((way : ℕ) → InRange (branch_body (branches row) way)) × ((m : _) → IfSome (after_in_arms m row) InRange)
    arms_of (more_of-Arm (Arm' case _ body) rest) is =
        let both = apart (within_block body) (within_arms rest) is in
        (λ way. grind (arith, row_of body both.0, arms_of rest both.1), λ m. grind (arith, row_of body both.0, arms_of rest both.1))
    arms_of row is = grind (arith, All-nil (IsStatementOf p q))

  -- what follows a mark in the procedure's body
  pub follow_of : (m : Mark) → IsTrue (is_body_in p q (Span q.body)) → InRange (follow q m)
  follow_of m is = grind (arith, form_of (Span q.body) is m, All-nil (IsStatementOf p q))

  -- the whole body
  pub body_of : IsTrue (is_body_in p q (Span q.body)) → InRange q.body
  body_of is = subst InRange (row_statements q) (row_of (body_row q) is).0

  -- the statements still to do after a statement
  pub rest_of : (way : ℕ) (form : Form) (rest : List Statement) → IsTrue (is_body_in p q (Span q.body)) → IsTrue (is_body_in p q form) →
      InRange rest → InRange (rest_after q way form rest)
  rest_of zero (If' condition _ then_ _ otherwise) rest body is old =
      before rest (statements then_) (row_of then_ (apart (within_block then_) (within_block otherwise) is).0).0 old
  rest_of (suc way) (If' condition _ then_ _ otherwise) rest body is old =
      before rest (statements otherwise) (row_of otherwise (apart (within_block then_) (within_block otherwise) is).1).0 old
  rest_of way (Switch' value _ arms) rest body is old = before rest (branch_body (branches arms) way) ((arms_of arms is).0 way) old
  rest_of way (Span' _ block) rest body is old = before rest (statements block) (row_of block is).0 old
  rest_of way (Goto n) rest body is old = follow_of (AtLabel n) body
  rest_of way form rest body is old = old
