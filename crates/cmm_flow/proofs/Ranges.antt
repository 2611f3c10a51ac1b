-- The statements of a program in range are counted.
use Rattle.std.specs.List.{list_all}
use Rattle.std.proofs.lemmas.Bool.{and_parts}
use Rattle.std.proofs.lemmas.Bool.Decides.{nat_tests}
use Rattle.std.proofs.lemmas.List.Elements.{All-weaker}
use Rattle.std.proofs.lemmas.List.Sums.{sum_by-cons}
use Rattle.std.specs.Prelude.{sum_by}
use Rattle.std.proofs.Common.{◌≤◌, nat_le, List, [], ◌∷◌, IsTrue, refl, arith}
use Rattle.cmm_program.specs.declared.procedure.Proc.{Proc}
use Rattle.cmm_program.specs.declared.program.Program.{Program}
use Rattle.cmm_program.specs.declared.statement.Statement.{Statement}
use Rattle.cmm_program.specs.Bodies.{body_statements}
use Rattle.cmm_program.specs.InRange.{IsProcInRange, is_form, is_statement}
use Rattle.cmm_program.specs.Tokens.{own_tokens}
use Rattle.cmm_flow.specs.Laws.{RangeIsCounted}
use Rattle.cmm_flow.specs.Relation.{is_counted}

module _ (p : Program) (q : Proc) where
  statements_counted : (ss : List Statement) → IsTrue (list_all (is_statement p q) ss) → sum_by (λ (s : Statement). s.tokens) ss ≤ q.tokens →
      IsTrue (list_all (is_counted q) ss)
  statements_counted [] all within = refl
  statements_counted (s ∷ ss) all within =
      let both = and_parts (is_statement p q s) (list_all (is_statement p q) ss) all in
      let own = and_parts (is_form p q s.form) (nat_le (own_tokens q s.form) s.tokens) both.0 in
      let sum = sum_by-cons (λ (s : Statement). s.tokens) s ss in
      let here : s.tokens ≤ q.tokens = omega (arith, sum, within) in
      let later : sum_by (λ (s : Statement). s.tokens) ss ≤ q.tokens = omega (arith, sum, within) in
      grind (arith, nat_tests, own.1, here, statements_counted ss both.1 later)

pub range_is_counted : RangeIsCounted
range_is_counted p range =
    All-weaker (IsProcInRange p) (λ q. IsTrue (list_all (is_counted q) (body_statements q)))
    (λ q is. statements_counted p q (body_statements q) is.body is.counts) p.procs range.procedures
