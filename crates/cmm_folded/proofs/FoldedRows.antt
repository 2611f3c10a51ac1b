-- A worked row: the graph of a small program folds, and is its folded flow.
--     main() { bits64 x; x = 2 + 3; x = x * 8; x = %modu(x, 16); return (x); }
use Rattle.std.proofs.Common.{◌≡◌, [], ◌∷◌, List, refl, ap, arith, lit≤}
use Rattle.cmm_words.specs.declared.operators.Op2.TheVariants.{Add, Modu, Mul}
use Rattle.cmm_program.proofs.Shared.{opened}
use Rattle.cmm_program.proofs.Shared.{assign, is, local as variable_of, num as number_of, op as operation, procedure}
use Rattle.cmm_program.specs.declared.procedure.Proc.{Proc}
use Rattle.cmm_program.specs.declared.statement.Form.TheVariants as form
use Rattle.cmm_program.specs.declared.statement.Statement.{Statement}
use Rattle.cmm_program.specs.Numbering.{body_numbers, site_number}
use Rattle.cmm_graph.proofs.Shared.{n}
use Rattle.cmm_fold.proofs.Shared.{folded, plain, stands}
use Rattle.cmm_flow.specs.Flow.{IsFlow, IsFlowOf}
use Rattle.cmm_flow.specs.Statements.{ListCode}
use Rattle.cmm_flow.specs.Waiting.{times, waiting_sites}
use Rattle.cmm_folded.specs.Flow.{IsFoldedFlow}

abbrev body : List Statement
body =
    is 6 (assign 0 (operation Add (number_of 2) (number_of 3)))
    ∷ is 6 (assign 0 (operation Mul (variable_of 0) (number_of 8)))
    ∷ is 8 (assign 0 (operation Modu (variable_of 0) (number_of 16)))
    ∷ is 5 (form.Return 0 0 (variable_of 0 ∷ []))
    ∷ []

abbrev main : Proc
main = procedure [] 40 0 1 [] body

whole : ListCode main plain.nodes (λ l. n 6) body (n 1)
unfolding opened
whole = (n 2, (n 1, n 1, refl, refl, refl), (n 3, (n 2, n 2, refl, refl, refl), (n 4, (n 3, n 3, refl, refl, refl), (n 5, (n 4, (n 4, refl, refl), refl), refl))))

flow : IsFlowOf main plain
unfolding opened
flow = record {
  label_node = λ l. n 6;
  begun = record { formals = []; next = n 1; node = refl; code = whole };
  labels = λ l. record { next = n 5; node = refl; code = refl };
  continuations = λ k less. absurd (omega (arith, less));
}

waits : waiting_sites plain.nodes ≡ body_numbers site_number main
unfolding opened
waits = refl

answer : IsFlow main plain
answer = record {
  flow = flow;
  tokens = λ covers. refl;
  variables = refl;
  formals = refl;
  continuations = refl;
  waits = λ site. omega (arith, ap (times site) waits);
  names = λ p range. refl;
  nodes = λ p range sites. refl;
  bounded = λ p range. lit≤ tt;
  short = λ p range. lit≤ tt;
  few = λ p range sites. refl;
  yields = λ p range. refl;
  covered = λ p range sites. refl;
}

is_folded_flow : IsFoldedFlow main folded
is_folded_flow = record { flow = plain; is_flow = answer; stands = stands }
