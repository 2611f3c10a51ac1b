-- Bounds on the tokens of statements and sites, and of the nodes that are laid for them.
use Rattle.std.proofs.Common.{◌≡◌, ℕ, zero, suc, ◌<◌, ◌≤◌, nat_le, nat_lt, Bool, IsTrue, true, Some, List, [], ◌∷◌, get_or, length, map, slice_get, refl, sym, subst, arith}
use Rattle.std.proofs.lemmas.Bool.{and_parts}
use Rattle.std.proofs.lemmas.Bool.Decides.{nat_tests}
use Rattle.std.specs.List.{list_all, zip}
use denote.Hole.Carrier as Carrier
use mathlib.Core.Former.{Count}
use Rattle.cmm_program.proofs.Shared.{list_all_get}
use Rattle.cmm_program.specs.declared.expression.Condition.{Condition}
use Rattle.cmm_program.specs.declared.expression.Expression.{Expression}
use Rattle.cmm_program.specs.declared.procedure.Cont.{Cont}
use Rattle.cmm_program.specs.declared.procedure.Proc.{Proc}
use Rattle.cmm_program.specs.declared.procedure.Site.{Site}
use Rattle.cmm_program.specs.declared.statement.Arm.{Arm, Arm', out-Arm}
use Rattle.cmm_program.specs.declared.statement.Form.{Row_of-Arm, end_of-Arm, more_of-Arm, items-the_row-Arm, items_hidden-the_row-Arm-1}
use Rattle.cmm_program.specs.declared.statement.Form.TheBlock.{hidden-the_row-Statement-0, hidden-the_row-Arm-1}
use Rattle.cmm_program.specs.declared.statement.Form.TheVariants.{If, Switch, Span}
use Rattle.cmm_program.specs.declared.statement.Statement.{Statement}
use Rattle.cmm_program.specs.Bodies.{within, within_arms, within_block}
use Rattle.cmm_graph.specs.declared.node.Node.{Node}
use Rattle.cmm_graph.specs.declared.node.NodeKind.TheVariants.{Goto}
use Rattle.cmm_graph.specs.declared.number.NodeId.{NodeId}
use Rattle.cmm_graph.specs.Ranges.{is_step, leads_to}
use Rattle.cmm_flow.specs.Flow.{CoversSites}
use Rattle.cmm_flow.specs.Relation.{AreAll, IsAll}
use Rattle.cmm_flow.specs.inside.Fronts.{copy_in, goto_nodes}
use Rattle.cmm_flow.specs.inside.Laying.{AreAsked, AreSteps, Asked, leads_on, passes}
use Rattle.cmm_flow.specs.inside.LayingBlocks.{AreAllArms}
use Rattle.cmm_flow.specs.inside.Nodes.{goto, nowhere, unled}
use Rattle.cmm_flow.proofs.Blocks.{shown_statements}
use Rattle.cmm_flow.proofs.Counting.{apart, row_of, row_statements}
use Rattle.cmm_flow.proofs.Laying.{and_both}

-- ---- statements inside others

module _ (test : Statement → Bool) where
  block_of : (xs : List Statement) → IsTrue (list_all test (within_block (hidden-the_row-Statement-0 xs))) → AreAll test xs
  block_of xs is = subst (AreAll test) (row_statements xs) (row_of test (hidden-the_row-Statement-0 xs) is).0

  pub span_of : (body : List Statement) → IsTrue (list_all test (within (Span body))) → AreAll test body
  unfolding hidden-the_row-Statement-0 Carrier.hidden
  span_of body is = block_of body is

  pub if_of : (condition : Condition) (then_ otherwise : List Statement) → IsTrue (list_all test (within (If condition then_ otherwise))) →
      AreAll test then_ × AreAll test otherwise
  unfolding hidden-the_row-Statement-0 Carrier.hidden
  if_of condition then_ otherwise is =
      let both = apart test (within_block (hidden-the_row-Statement-0 then_)) (within_block (hidden-the_row-Statement-0 otherwise)) is in
      (block_of then_ both.0, block_of otherwise both.1)

  arms_row : (i : Count) (row : Row_of-Arm i) → IsTrue (list_all test (within_arms row)) → AreAllArms test (items-the_row-Arm i row)
  unfolding out-Arm Carrier.out
  arms_row i end_of-Arm is = tt
  arms_row i (more_of-Arm (Arm' case x body) rest) is =
      let both = apart test (within_block body) (within_arms rest) is in
      (subst (AreAll test) (sym (shown_statements x body)) (row_of test body both.0).0, arms_row _ rest both.1)

  pub switch_of : (value : Expression) (arms : List Arm) → IsTrue (list_all test (within (Switch value arms))) → AreAllArms test arms
  unfolding hidden-the_row-Arm-1 Carrier.hidden
  switch_of value arms is = subst (AreAllArms test) (items_hidden-the_row-Arm-1 arms) (arms_row _ (hidden-the_row-Arm-1 arms) is)

-- a test that holds where another does
pub list_all_more : {A : Type 0} (test other : A → Bool) → ((a : A) → IsTrue (test a) → IsTrue (other a)) → (xs : List A) → IsTrue (list_all test xs) → IsTrue (list_all other xs)
list_all_more test other more [] all = refl
list_all_more test other more (x ∷ xs) all =
    let both = and_parts (test x) (list_all test xs) all in
    and_both (other x) (list_all other xs) (more x both.0) (list_all_more test other more xs both.1)

pub AreAll_more : (test other : Statement → Bool) → ((s : Statement) → IsTrue (test s) → IsTrue (other s)) → (xs : List Statement) → AreAll test xs → AreAll other xs
AreAll_more test other more [] all = tt
AreAll_more test other more (x ∷ xs) all =
    ((more x all.0.0, list_all_more test other more (within x.form) all.0.1), AreAll_more test other more xs all.1)

-- a statement of a list, and an arm
pub all_at : (test : Statement → Bool) (xs : List Statement) (i : ℕ) (d : Statement) → i < length xs → AreAll test xs → IsAll test (get_or xs i d)
all_at test [] i d less all = absurd (omega (arith, less))
all_at test (x ∷ xs) zero d less all = all.0
all_at test (x ∷ xs) (suc i) d less all = all_at test xs i d (omega (arith, less)) all.1

pub all_arms_at : (test : Statement → Bool) (arms : List Arm) (i : ℕ) (d : Arm) → i < length arms → AreAllArms test arms → AreAll test (out-Arm (get_or arms i d)).body
all_arms_at test [] i d less all = absurd (omega (arith, less))
all_arms_at test (arm ∷ arms) zero d less all = all.0
all_arms_at test (arm ∷ arms) (suc i) d less all = all_arms_at test arms i d (omega (arith, less)) all.1

-- ---- sites, and tests of counts

pub at_most : (m n : ℕ) → IsTrue (nat_le m n) → m ≤ n
at_most m n is = grind (arith, nat_tests, is)

pub test_at_most : (m n : ℕ) → m ≤ n → IsTrue (nat_le m n)
test_at_most m n most = grind (arith, nat_tests, most)

pub less_of : (m n : ℕ) → IsTrue (nat_lt m n) → m < n
less_of m n less = grind (arith, nat_tests, less)

pub less_at_most : (m n : ℕ) → IsTrue (nat_lt m n) → IsTrue (nat_le (suc m) n)
less_at_most m n less = grind (arith, nat_tests, less)

pub test_less : (m n : ℕ) → m < n → IsTrue (nat_lt m n)
test_less m n less = grind (arith, nat_tests, less)

pub site_covered : (q : Proc) (n : ℕ) (site : Site) (most : ℕ) → slice_get q.sites n ≡ Some site → CoversSites q most → length site.results < most
site_covered q n site most is covers =
    let holds = list_all_get (λ (site : Site). nat_lt (length site.results) most) q.sites n site covers.results is in grind (arith, nat_tests, holds)

-- a test that each element passes
pub each_passes : {A : Type 0} (test : A → Bool) (xs : List A) → ((n : ℕ) (x : A) → slice_get xs n ≡ Some x → IsTrue (test x)) → IsTrue (list_all test xs)
each_passes test [] passes = refl
each_passes test (x ∷ xs) passes =
    let first = passes 0 x refl in
    let later = each_passes test xs (λ n y is. passes (suc n) y is) in
    and_both (test x) (list_all test xs) first later

-- no node has more tokens than n
abbrev pub AreWithin : ℕ → List Node → Type 0
AreWithin most nodes = IsTrue (list_all (λ node. nat_le node.tokens most) nodes)

-- ---- the nodes in front

pub gotos_asked : (x : Asked) (to : List NodeId) → IsTrue (x.test goto) → AreSteps x.graph to → AreAsked x (goto_nodes to)
gotos_asked x [] test steps = refl
gotos_asked x (n ∷ to) test steps =
    let both = and_parts (leads_to x.graph is_step n) (list_all (leads_to x.graph is_step) to) steps in
    let leads = and_both (list_all (leads_to x.graph is_step) (n ∷ [])) true (and_both (leads_to x.graph is_step n) true both.0 refl) refl in
    let here = and_both (x.test goto) (leads_on x.graph (Goto n)) test leads in
    and_both (passes x record { tokens = 1; kind = Goto n }) (list_all (passes x) (goto_nodes to)) here (gotos_asked x to test both.1)

pub copies_asked : (x : Asked) (q : Proc) (conts : List Cont) (to : List NodeId) → IsTrue (list_all (λ k. x.test (unled (copy_in q k nowhere))) conts) →
    AreSteps x.graph to → AreAsked x (map (λ c. copy_in q c.0 c.1) (zip conts to))
copies_asked x q [] to tests steps = refl
copies_asked x q (k ∷ conts) [] tests steps = refl
copies_asked x q (k ∷ conts) (n ∷ to) tests steps =
    let test = and_parts (x.test (unled (copy_in q k nowhere))) (list_all (λ (k : Cont). x.test (unled (copy_in q k nowhere))) conts) tests in
    let both = and_parts (leads_to x.graph is_step n) (list_all (leads_to x.graph is_step) to) steps in
    let leads = and_both (list_all (leads_to x.graph is_step) (n ∷ [])) true (and_both (leads_to x.graph is_step n) true both.0 refl) refl in
    let here = and_both (x.test (unled (copy_in q k n))) (leads_on x.graph (copy_in q k n).kind) test.0 leads in
    and_both (passes x (copy_in q k n)) (list_all (passes x) (map (λ (c : Cont × NodeId). copy_in q c.0 c.1) (zip conts to))) here
    (copies_asked x q conts to test.1 both.1)
