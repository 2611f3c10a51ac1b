-- The positions of a body: the lists of statements still to do that begin at one of its statements, over all its blocks.
-- There are no more of them than tokens.
use Rattle.std.specs.List.{list_all}
use Rattle.std.specs.Prelude.{sum_by}
use Rattle.std.proofs.lemmas.List.Sums.{sum_by-cons}
use Rattle.std.proofs.Common.{◌≡◌, ℕ, ◌≤◌, nat_le, IsTrue, List, [], ◌∷◌, ◌++◌, length, arith, length-append}
use Rattle.std.proofs.lemmas.Bool.{and_parts, leb-true}
use Rattle.cmm_program.specs.declared.expression.Expression.{Expression}
use Rattle.cmm_program.specs.declared.statement.Form.{Form, Row_of-Arm, end_of-Arm, more_of-Arm}
use Rattle.cmm_program.specs.declared.statement.Form.TheVariants.{If', Switch', Span', Span, Return}
use Rattle.cmm_program.specs.declared.statement.Arm.{Arm', Row_of-Statement, end_of-Statement, more_of-Statement}
use Rattle.cmm_program.specs.declared.statement.Statement.{Statement}
use Rattle.cmm_program.specs.declared.procedure.Proc.{Proc}
use Rattle.cmm_program.specs.declared.program.Program.{Program}
use Rattle.cmm_program.specs.Bodies.{body_statements, statements, within, within_block, within_arms}
use Rattle.cmm_program.specs.InRange.{is_form, is_statement, is_body_in}
use Rattle.cmm_program.specs.Numbering.{body_tokens}
use Rattle.cmm_program.specs.Tokens.{own_tokens, return_tokens}

abbrev mutual
  -- the positions inside a statement's blocks, before what follows it
  pub positions_inside : Form → List Statement → List (List Statement)
  positions_inside (If' condition _ then_ _ otherwise) rest = positions_in then_ rest ++ positions_in otherwise rest
  positions_inside (Switch' value _ arms) rest = positions_in_arms arms rest
  positions_inside (Span' _ body) rest = positions_in body rest
  positions_inside _ rest = []

  pub positions_in : {n : _} → Row_of-Statement n → List Statement → List (List Statement)
  positions_in end_of-Statement rest = []
  positions_in (more_of-Statement tokens form row) rest =
      (record { tokens = tokens; form = form } ∷ (statements row ++ rest))
      ∷ (positions_inside form (statements row ++ rest) ++ positions_in row rest)

  pub positions_in_arms : {n : _} → Row_of-Arm n → List Statement → List (List Statement)
  positions_in_arms end_of-Arm rest = []
  positions_in_arms (more_of-Arm (Arm' case _ body) row) rest = positions_in body rest ++ positions_in_arms row rest

-- the positions of a whole body, its end left out
abbrev pub positions : Proc → List (List Statement)
positions q = positions_inside (Span q.body) []

-- ---- there are no more positions than tokens

one_to_return : (alternates : ℕ) (values : List Expression) → 1 ≤ return_tokens alternates values
one_to_return alternates [] = omega arith
one_to_return alternates (e ∷ es) = omega arith

-- no statement is without a token of its own
one_token : (q : Proc) (form : Form) → 1 ≤ own_tokens q form
one_token q (Return exit alternates values) = one_to_return alternates values
one_token q _ = omega arith

-- so statements in range have at least as many tokens as there are of them
counted : (p : Program) (q : Proc) (ss : List Statement) → IsTrue (list_all (is_statement p q) ss) → length ss ≤ sum_by (λ s. s.tokens) ss
counted p q [] good = omega arith
counted p q (s ∷ ss) good =
    let both = and_parts (is_statement p q s) (list_all (is_statement p q) ss) good in
    let here = leb-true (own_tokens q s.form) s.tokens (and_parts (is_form p q s.form) (nat_le (own_tokens q s.form) s.tokens) both.0).1 in
    omega (arith, counted p q ss both.1, here, one_token q s.form, sum_by-cons (λ (s : Statement). s.tokens) s ss)

-- there is a position for each statement
mutual
  inside-count : (form : Form) (rest : List Statement) → length (positions_inside form rest) ≡ length (within form)
  inside-count (If' condition _ then_ _ otherwise) rest =
      omega (arith, length-append (positions_in then_ rest) (positions_in otherwise rest), length-append (within_block then_) (within_block otherwise), in-count then_ rest, in-count otherwise rest)
  inside-count (Switch' value _ arms) rest = in_arms-count arms rest
  inside-count (Span' _ body) rest = in-count body rest
  inside-count _ rest = omega arith

  in-count : {n : _} (row : Row_of-Statement n) (rest : List Statement) → length (positions_in row rest) ≡ length (within_block row)
  in-count end_of-Statement rest = omega arith
  in-count (more_of-Statement tokens form row) rest =
      let next = statements row ++ rest in
      omega (arith, length-append (positions_inside form next) (positions_in row rest), length-append (within form) (within_block row), inside-count form next, in-count row rest)

  in_arms-count : {n : _} (row : Row_of-Arm n) (rest : List Statement) → length (positions_in_arms row rest) ≡ length (within_arms row)
  in_arms-count end_of-Arm rest = omega arith
  in_arms-count (more_of-Arm (Arm' case _ body) row) rest =
      omega (arith, length-append (positions_in body rest) (positions_in_arms row rest), length-append (within_block body) (within_arms row), in-count body rest, in_arms-count row rest)

-- no more positions than the statements have tokens
pub positions-tokens : (p : Program) (q : Proc) → IsTrue (is_body_in p q (Span q.body)) → length (positions q) ≤ body_tokens q
positions-tokens p q good = omega (arith, inside-count (Span q.body) [], counted p q (body_statements q) good)
