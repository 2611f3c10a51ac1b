-- The statements that an activation has still to do are counted, where those of its procedure are.
use Rattle.std.specs.List.{list_all}
use Rattle.std.proofs.lemmas.Bool.{and_parts}
use Rattle.std.proofs.lemmas.Bool.Decides.{nat_tests}
use Rattle.std.proofs.lemmas.List.Folds.{list_all-append}
use Rattle.std.proofs.Common.{◌∙◌, arith, ◌≡◌, ℕ, zero, suc, ◌≤◌, Bool, Some, List, [], ◌∷◌, ◌++◌, IsTrue, IfSome, refl, ap, subst, slice_get}
use mathlib.Core.Former.{Count}
use Rattle.cmm_program.specs.declared.statement.Form.{Form, Row_of-Arm, more_of-Arm}
use Rattle.cmm_program.specs.declared.statement.Form.TheVariants.{If', Switch', Span', Span, Goto}
use Rattle.cmm_program.specs.declared.statement.Form.TheBlock.{hidden-the_row-Statement-0}
use Rattle.cmm_program.specs.declared.statement.Statement.{Statement}
use Rattle.cmm_program.specs.declared.statement.Arm.{items-the_row-Statement, items_hidden-the_row-Statement-0, Arm', Row_of-Statement, end_of-Statement, more_of-Statement}
use Rattle.cmm_program.specs.declared.procedure.Proc.{Proc}
use Rattle.cmm_program.specs.Bodies.{Mark, AtLabel, statements, branches, branch_body, within, within_block, within_arms, after_inside, after_in, after_in_arms, follow}
use Rattle.cmm_program.specs.Todo.{rest_after}
use Rattle.cmm_flow.specs.Relation.{AreAll, AreCounted, is_counted, longest_of}

-- ---- the body of a procedure

-- a row read as a list
pub row_items : (n : Count) (row : Row_of-Statement n) → statements row ≡ items-the_row-Statement n row
row_items n end_of-Statement = refl
row_items n (more_of-Statement tokens form rest) = ap (λ xs. record { tokens = tokens; form = form } ∷ xs) (row_items _ rest)

pub row_statements : (xs : List Statement) → statements (hidden-the_row-Statement-0 xs) ≡ xs
row_statements xs = row_items _ (hidden-the_row-Statement-0 xs) ∙ items_hidden-the_row-Statement-0 xs

-- what holds of statements and of those inside them
module _ (test : Statement → Bool) where
  -- those of two lists apart
  abbrev Keep : List Statement → Type 0
  Keep ss = IsTrue (list_all test ss)

  pub apart : (xs ys : List Statement) → Keep (xs ++ ys) → Keep xs × Keep ys
  apart xs ys keep = and_parts _ _ (subst IsTrue (list_all-append test xs ys) keep)

  -- some in front of others
  before : (front rest : List Statement) → AreAll test front → AreAll test rest → AreAll test (front ++ rest)
  before [] rest first later = later
  before (s ∷ front) rest first later = (first.0, before front rest first.1 later)

  mutual
    -- what follows a mark inside a statement
    form_of : (form : Form) → Keep (within form) → (m : Mark) → IfSome (after_inside m form) (AreAll test)
    form_of (If' condition _ then_ _ otherwise) is m =
        let both = apart (within_block then_) (within_block otherwise) is in grind (arith, row_of then_ both.0, row_of otherwise both.1)
    form_of (Switch' value _ arms) is m = grind (arith, nat_tests, arms_of arms)
    form_of (Span' _ body) is m = grind (arith, nat_tests, row_of body)
    form_of _ is m = tt

    -- the statements of a block, and what follows a mark in it
    pub row_of : {n : _} (row : Row_of-Statement n) → Keep (within_block row) → AreAll test (statements row) × ((m : _) → IfSome (after_in m row) (AreAll test))
    row_of (more_of-Statement tokens form rest) is =
        let s : Statement = record { tokens = tokens; form = form } in
        let both = and_parts (test s) _ is in
        let inner = apart (within form) (within_block rest) both.1 in
        let later = row_of rest inner.1 in (
          ((both.0, inner.0), later.0),
          λ m. grind (arith, later, form_of form inner.0 m, λ (front : List Statement). before front (statements rest)),
        )
    row_of row is = (tt, λ m. tt)

    -- the body of each arm, and what follows a mark in the arms
    pub arms_of : {n : _} (row : Row_of-Arm n) → Keep (within_arms row) →
        ((way : ℕ) → AreAll test (branch_body (branches row) way)) × ((m : _) → IfSome (after_in_arms m row) (AreAll test))
    arms_of (more_of-Arm (Arm' case _ body) rest) is =
        let both = apart (within_block body) (within_arms rest) is in
        (λ way. grind (arith, row_of body both.0, arms_of rest both.1), λ m. grind (arith, row_of body both.0, arms_of rest both.1))
    arms_of row is = (λ way. tt, λ m. tt)

module _ (q : Proc) where
  abbrev Kept : List Statement → Type 0
  Kept = Keep (is_counted q)

  -- what follows a mark in the procedure's body
  pub follow_counted : (m : Mark) → Kept (within (Span q.body)) → AreCounted q (follow q m)
  follow_counted m is = grind (arith, form_of (is_counted q) (Span q.body) is m)

  -- the whole body
  pub body_counted : Kept (within (Span q.body)) → AreCounted q q.body
  body_counted is = subst (AreCounted q) (row_statements q.body) (row_of (is_counted q) (hidden-the_row-Statement-0 q.body) is).0

  -- the statements still to do after a statement
  pub rest_counted : (way : ℕ) (form : Form) (rest : List Statement) → Kept (within (Span q.body)) → Kept (within form) → AreCounted q rest →
      AreCounted q (rest_after q way form rest)
  rest_counted zero (If' condition _ then_ _ otherwise) rest body is old =
      before (is_counted q) (statements then_) rest (row_of (is_counted q) then_ (apart (is_counted q) (within_block then_) (within_block otherwise) is).0).0 old
  rest_counted (suc way) (If' condition _ then_ _ otherwise) rest body is old =
      before (is_counted q) (statements otherwise) rest (row_of (is_counted q) otherwise (apart (is_counted q) (within_block then_) (within_block otherwise) is).1).0 old
  rest_counted way (Switch' value _ arms) rest body is old = before (is_counted q) (branch_body (branches arms) way) rest ((arms_of (is_counted q) arms is).0 way) old
  rest_counted way (Span' _ block) rest body is old = before (is_counted q) (statements block) rest (row_of (is_counted q) block is).0 old
  rest_counted way (Goto n) rest body is old = follow_counted (AtLabel n) body
  rest_counted way form rest body is old = old

-- ---- the longest procedure

-- no procedure has more tokens
pub longest_is : (qs : List Proc) (n : ℕ) (q : Proc) → slice_get qs n ≡ Some q → q.tokens ≤ longest_of qs
longest_is [] n q is = grind (arith, is)
longest_is (p ∷ qs) zero q is = let same : p ≡ q = grind (arith, is) in subst (λ (q : Proc). q.tokens ≤ longest_of (p ∷ qs)) same (omega arith)
longest_is (p ∷ qs) (suc n) q is = omega (arith, longest_is qs n q is)

pub longest_positive : (qs : List Proc) → 1 ≤ longest_of qs
longest_positive [] = omega arith
longest_positive (q ∷ qs) = omega (arith, longest_positive qs)
