-- The call sites of a program in range are not more than its tokens.
use Rattle.std.proofs.Common.{◌≡◌, ◌≤◌, IsTrue, List, [], ◌∷◌, length, arith, length-append}
use Rattle.std.specs.Prelude.{All, flat_map, sum_by}
use Rattle.std.specs.List.{list_all}
use Rattle.std.proofs.lemmas.Bool.{and_parts, eqb-true}
use Rattle.std.proofs.lemmas.Bool.Decides.{nat_tests}
use Rattle.std.proofs.lemmas.List.Elements.{All-head, All-tail}
use Rattle.std.proofs.lemmas.List.Sums.{sum_by-cons}
use Rattle.cmm_program.specs.Bodies.{body_statements}
use Rattle.cmm_program.specs.InRange.{IsInRange, IsProcInRange, is_statement}
use Rattle.cmm_program.specs.Numbering.{body_numbers, site_number}
use Rattle.cmm_program.specs.Tokens.{own_tokens}
use Rattle.cmm_program.specs.declared.procedure.Proc.{Proc}
use Rattle.cmm_program.specs.declared.program.Program.{Program}
use Rattle.cmm_program.specs.declared.statement.Form.{Form}
use Rattle.cmm_program.specs.declared.statement.Form.TheVariants.{Call, Yield, Checked}
use Rattle.cmm_program.specs.declared.statement.Statement.{Statement}
use Rattle.cmm_top.specs.Counts.{site_count}

-- a statement with a site has a token
form_has : (q : Proc) (form : Form) → length (site_number form) ≤ own_tokens q form
form_has q (Call site to actuals) = omega arith
form_has q (Yield site values) = omega arith
form_has q (Checked site op width left right) = omega arith
form_has q form = omega arith

statement_has : (p : Program) (q : Proc) (s : Statement) → IsTrue (is_statement p q s) → length (site_number s.form) ≤ s.tokens
statement_has p q s is = let has = form_has q s.form in grind (arith, nat_tests)

all_have : (p : Program) (q : Proc) (statements : List Statement) → IsTrue (list_all (is_statement p q) statements) →
    length (flat_map (λ s. site_number s.form) statements) ≤ sum_by (λ s. s.tokens) statements
all_have p q [] are = omega arith
all_have p q (s ∷ ss) are =
    let both = and_parts (is_statement p q s) (list_all (is_statement p q) ss) are in
    let here = statement_has p q s both.0 in
    let rest = all_have p q ss both.1 in
    let one = length-append (site_number s.form) (flat_map (λ (t : Statement). site_number t.form) ss) in
    omega (arith, here, rest, one, sum_by-cons (λ (t : Statement). t.tokens) s ss)

procedure_has : (p : Program) (q : Proc) → IsProcInRange p q → length q.sites ≤ q.tokens
procedure_has p q range =
    let numbers : length (body_numbers site_number q) ≡ length q.sites = eqb-true _ _ (and_parts _ _ range.sites_numbered).0 in
    let few = all_have p q (body_statements q) range.body in
    let counts = range.counts in omega arith

procedures_have : (p : Program) (procs : List Proc) → All (IsProcInRange p) procs → sum_by (λ q. length q.sites) procs ≤ sum_by (λ q. q.tokens) procs
procedures_have p [] range = omega arith
procedures_have p (q ∷ qs) range =
    let here = procedure_has p q (All-head (IsProcInRange p) q qs range) in
    let rest = procedures_have p qs (All-tail (IsProcInRange p) q qs range) in
    omega (arith, here, rest, sum_by-cons (λ (r : Proc). length r.sites) q qs, sum_by-cons (λ (r : Proc). r.tokens) q qs)

pub sites_are_few : (p : Program) → IsInRange p → site_count p ≤ 1000000
sites_are_few p range = let all = procedures_have p p.procs range.procedures in let most = range.tokens in omega arith
