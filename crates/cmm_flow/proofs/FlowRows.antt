-- A worked row: the graph of a small procedure, written by hand, is its flow, and the premises of the laws are built for its program.
use Rattle.std.proofs.Common.{◌≡◌, ℕ, zero, suc, ◌<◌, IsTrue, false, List, [], ◌∷◌, refl, arith, lit<, lit≤}
use Rattle.std.proofs.lemmas.Bool.Decides.{nat_tests}
use Rattle.std.proofs.lemmas.List.Elements.{All-nil, All-cons}
use Rattle.std.specs.List.{list_all}
use Rattle.cmm_words.specs.declared.constant.Constant.TheVariants.{Number}
use Rattle.cmm_words.specs.declared.operators.Cmp.TheVariants.{Eq}
use Rattle.cmm_words.specs.declared.operators.Op2.TheVariants.{Add, Mul}
use Rattle.cmm_words.specs.declared.width.Width.TheVariants.{W64}
use Rattle.cmm_program.proofs.Shared.{opened}
use Rattle.cmm_program.proofs.Shared.{alone, assign, continuation, frame_with, is, local as variable, no_client, num, op, procedure, program_in_range, setting, test}
use Rattle.cmm_program.specs.declared.procedure.Proc.{Proc}
use Rattle.cmm_program.specs.declared.statement.Form.TheVariants as form
use Rattle.cmm_program.specs.declared.procedure.Target.TheVariants as target
use Rattle.cmm_program.specs.declared.statement.Statement.{Statement}
use Rattle.cmm_program.specs.InRange.{IsInRange}
use Rattle.cmm_program.specs.State.{Done, Ended, Setting}
use Rattle.cmm_machine_laws.specs.Fitting.{IsSetUp}
use Rattle.cmm_program.specs.Bodies.{AtContinuation, AtLabel, body_statements, follow}
use Rattle.cmm_graph.specs.declared.graph.Graph.{Graph}
use Rattle.cmm_graph.specs.declared.node.Node.{Node}
use Rattle.cmm_graph.specs.declared.node.NodeKind.{NodeKind}
use Rattle.cmm_graph.specs.declared.node.NodeKind.TheVariants.{Entry, CopyIn, Assign, Branch, Return, Goto, Stop}
use Rattle.cmm_graph.specs.declared.number.NodeId.{NodeId}
use Rattle.cmm_graph.specs.declared.operand.Destination.TheVariants as destination
use Rattle.cmm_graph.specs.declared.operand.Local.TheVariants as local
use Rattle.cmm_graph.specs.declared.operand.Operand.{Operand}
use Rattle.cmm_graph.specs.declared.operand.Operand.TheVariants as operand
use Rattle.cmm_graph.specs.declared.operand.Rvalue.TheVariants as rvalue
use Rattle.cmm_graph.specs.Covering.{covers as has_tokens}
use Rattle.cmm_graph.specs.GraphMachine.{graph_state_after}
use Rattle.cmm_flow.specs.Flow.{AreCovered, CoversParts, IsBehindLabel, IsFlowOf, IsLandedAt}
use Rattle.cmm_flow.specs.Laws.{AreFlows}
use Rattle.cmm_flow.specs.Operands.{temporary}
use Rattle.cmm_flow.specs.Relation.{is_counted}
use Rattle.cmm_flow.specs.Statements.{ListCode}

-- ---- the procedure
--     main() {
--       bits64 x;
--       x = 6 * 7;
--       if x == 42 { goto l; }
--       l:
--       return (x);
--       continuation k(x):
--       return (x + 1);
--     }

abbrev body : List Statement
body =
    is 6 (assign 0 (op Mul (num 6) (num 7)))
    ∷ is 6 (form.If (test Eq (variable 0) (num 42)) (is 3 (form.Goto 0) ∷ []) [])
    ∷ is 2 (form.Label 0)
    ∷ is 5 (form.Return 0 0 (variable 0 ∷ []))
    ∷ is 6 (form.Continuation 0)
    ∷ is 7 (form.Return 0 0 (op Add (variable 0) (num 1) ∷ []))
    ∷ []

abbrev main : Proc
main = record (procedure [] 43 0 1 [] body) { conts = continuation (0 ∷ []) ∷ [] }

-- ---- the graph

abbrev n : ℕ → NodeId
n number = record { number = number }

abbrev v : Operand
v = operand.Local (local.Variable (record { number = 0 }))

abbrev word : ℕ → Operand
word value = operand.Constant (Number value W64)

abbrev node : ℕ → NodeKind → Node
node tokens kind = record { tokens = tokens; kind = kind }

abbrev graph : Graph
graph = record {
  variables = 1;
  temporaries = 1;
  nodes =
      node 43 (Entry [] (n 1))
      ∷ node 2 (Assign (destination.Target (target.Variable 0 W64)) (rvalue.Binary Mul W64 (word 6) (word 7)) (n 2))
      ∷ node 1 (Branch record { operator = Eq; width = W64; left = v; right = word 42 } (n 9) (n 3))
      ∷ node 1 (Goto (n 4))
      ∷ node 5 (Return 0 0 (record { width = W64; value = v } ∷ []))
      ∷ node 1 Stop
      ∷ node 1 (Assign (destination.Temporary (record { number = 0 })) (rvalue.Binary Add W64 v (word 1)) (n 7))
      ∷ node 6 (Return 0 0 (record { width = W64; value = temporary 0 } ∷ []))
      ∷ node 1 Stop
      ∷ node 1 (Goto (n 4))
      ∷ node 2 (CopyIn (target.Variable 0 W64 ∷ []) (n 6))
      ∷ node 1 (Goto (n 8))
      ∷ [];
  first = n 0;
  continuations = n 10 ∷ [];
}

-- the first label's node leads behind it; a label that the body lacks leads to its end
abbrev label_node : ℕ → NodeId
label_node l = elim l [ zero ↦ n 9 | suc _ ↦ n 11 ]

abbrev Code : List Statement → NodeId → Type 0
Code rest at = ListCode main graph.nodes label_node rest at

-- ---- it is the flow

behind_continuation : Code (follow main (AtContinuation 0)) (n 6)
unfolding opened
behind_continuation = (n 8, (n 7, (n 7, (n 6, n 6, refl, refl, refl), refl), refl), refl)

behind_label : Code (follow main (AtLabel 0)) (n 4)
unfolding opened
behind_label = (n 5, (n 4, (n 4, refl, refl), refl), (n 6, refl, behind_continuation))

whole : Code body (n 1)
unfolding opened
whole = (n 2, (n 1, n 1, refl, refl, refl), (n 3, (n 9, n 3, (n 2, n 2, refl, refl, refl), (n 3, refl, refl), refl), (n 4, refl, behind_label)))

lacked : (l : ℕ) → follow main (AtLabel (suc l)) ≡ []
unfolding opened
lacked l = grind (arith, nat_tests)

label_is : (l : ℕ) → IsBehindLabel main graph label_node l
label_is zero = record { next = n 4; node = refl; code = behind_label }
label_is (suc l) = record { next = n 8; node = refl; code = rw (lacked l) refl }

landing_is : (k : ℕ) → k < 1 → IsLandedAt main graph label_node k
landing_is zero less =
    record { at = n 10; tokens = 2; to = target.Variable 0 W64 ∷ []; next = n 6; landing = refl; node = refl; code = behind_continuation }
landing_is (suc k) less = absurd (omega (arith, less))

main_flows : IsFlowOf main graph
main_flows = record {
  label_node = label_node;
  begun = record { formals = []; next = n 1; node = refl; code = whole };
  labels = label_is;
  continuations = landing_is;
}

-- it has tokens for its parts
covers : CoversParts main
unfolding opened
covers = record { sites = record { accesses = lit≤ tt; results = refl }; statements = refl; parameters = refl }

-- each node has tokens enough, and the product of two constants would not with one
enough : AreCovered main graph
unfolding opened
enough = refl

lacking : has_tokens main.tokens (node 1 (Assign (destination.Target (target.Variable 0 W64)) (rvalue.Binary Mul W64 (word 6) (word 7)) (n 2))) ≡ false
unfolding opened
lacking = refl

-- ---- the premises of the laws

abbrev small : Setting
small = setting (alone main (frame_with 32 (16 ∷ []) [])) 4096 no_client

counted : IsTrue (list_all (is_counted main) (body_statements main))
unfolding opened
counted = refl

are_flows : AreFlows small (graph ∷ [])
are_flows = record {
  counted = All-cons (λ q. IsTrue (list_all (is_counted q) (body_statements q))) main [] counted (All-nil (λ q. IsTrue (list_all (is_counted q) (body_statements q))));
  flows = (main_flows, tt);
  tokens = (refl, tt);
}

-- the program is in range, at a valid placement
in_range : IsInRange small.program
unfolding opened
in_range = program_in_range small.program refl

is_set_up : IsSetUp small
is_set_up = record { program = in_range; placement = record { rows = refl; ascending = refl }; top = lit< tt }

-- and the run over it ends as the program does
it_runs : (graph_state_after (graph ∷ []) small [] 4).store.status ≡ Ended (Done 42)
it_runs = refl
