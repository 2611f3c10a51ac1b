-- Worked rows: the graphs of a procedure that calls another one, which has a switch, are their flows.
use Rattle.std.proofs.Common.{◌≡◌, ℕ, IsTrue, [], ◌∷◌, Some, refl, arith}
use Rattle.std.proofs.lemmas.List.Elements.{All-nil, All-cons}
use Rattle.std.specs.List.{list_all}
use Rattle.cmm_words.specs.declared.constant.Constant.TheVariants.{Code, Number}
use Rattle.cmm_words.specs.declared.width.Width.TheVariants.{W64}
use Rattle.cmm_program.proofs.Shared.{opened}
use Rattle.cmm_program.proofs.Shared.{arm, call_site, code, frame, from_to, is, local as variable, no_client, num, procedure, program, sample, setting}
use Rattle.cmm_program.specs.declared.procedure.Proc.{Proc}
use Rattle.cmm_program.specs.declared.procedure.Target.TheVariants as target
use Rattle.cmm_program.specs.declared.statement.Case.TheVariants.{In, Default}
use Rattle.cmm_program.specs.declared.statement.Form.TheVariants as form
use Rattle.cmm_program.specs.Bodies.{body_statements}
use Rattle.cmm_program.specs.State.{Done, Ended, Setting}
use Rattle.cmm_graph.specs.declared.graph.Graph.{Graph}
use Rattle.cmm_graph.specs.declared.node.Exits.{Exits}
use Rattle.cmm_graph.specs.declared.node.Node.{Node}
use Rattle.cmm_graph.specs.declared.node.NodeKind.{NodeKind}
use Rattle.cmm_graph.specs.declared.node.NodeKind.TheVariants.{Entry, CopyIn, Switch, Call, Return, Goto, Stop}
use Rattle.cmm_graph.specs.declared.number.NodeId.{NodeId}
use Rattle.cmm_graph.specs.declared.operand.Local.TheVariants as local
use Rattle.cmm_graph.specs.declared.operand.Operand.{Operand}
use Rattle.cmm_graph.specs.declared.operand.Operand.TheVariants as operand
use Rattle.cmm_graph.specs.GraphMachine.{graph_state_after}
use Rattle.cmm_flow.specs.Flow.{IsFlowOf}
use Rattle.cmm_flow.specs.Laws.{AreFlows}
use Rattle.cmm_flow.specs.Relation.{is_counted}
use Rattle.cmm_flow.specs.Statements.{ListCode}

-- ---- the procedures
--     main() { bits64 r; r = f(11); return (r); }
--     f(bits64 x) { switch x { case 0..11: { return (7); } default: { return (8); } } }

abbrev main : Proc
main = procedure [] 43 0 1 (call_site (0 ∷ []) ∷ []) (is 7 (form.Call 0 (code 1) (num 11 ∷ [])) ∷ is 5 (form.Return 0 0 (variable 0 ∷ [])) ∷ [])

abbrev f : Proc
f = procedure [] 43 1 1 [] (is 15 (form.Switch (variable 0) (
    arm (In (from_to 0 11 ∷ [])) (is 5 (form.Return 0 0 (num 7 ∷ [])) ∷ [])
    ∷ arm Default (is 5 (form.Return 0 0 (num 8 ∷ [])) ∷ []) ∷ [])) ∷ [])

-- ---- their graphs

abbrev n : ℕ → NodeId
n number = record { number = number }

abbrev v : Operand
v = operand.Local (local.Variable (record { number = 0 }))

abbrev word : ℕ → Operand
word value = operand.Constant (Number value W64)

abbrev node : ℕ → NodeKind → Node
node tokens kind = record { tokens = tokens; kind = kind }

abbrev returns : Operand → Node
returns value = node 5 (Return 0 0 (record { width = W64; value = value } ∷ []))

abbrev exits : Exits
exits = record { normal = Some (n 2); returns = []; unwinds = []; cuts = [] }

abbrev main-graph : Graph
main-graph = record {
  variables = 1;
  temporaries = 0;
  nodes =
      node 43 (Entry [] (n 1))
      ∷ node 5 (Call (record { number = 0 }) (operand.Constant (Code 1 0)) (record { width = W64; value = word 11 } ∷ []) exits)
      ∷ node 2 (CopyIn (target.Variable 0 W64 ∷ []) (n 3))
      ∷ returns v
      ∷ node 1 Stop
      ∷ node 1 (Goto (n 4))
      ∷ [];
  first = n 0;
  continuations = [];
}

abbrev f-graph : Graph
f-graph = record {
  variables = 1;
  temporaries = 0;
  nodes =
      node 43 (Entry (record { number = 0 } ∷ []) (n 1))
      ∷ node 15 (Switch v (record { ranges = from_to 0 11 ∷ []; to = n 2 } ∷ []) (n 3))
      ∷ returns (word 7)
      ∷ returns (word 8)
      ∷ node 1 Stop
      ∷ node 1 (Goto (n 4))
      ∷ [];
  first = n 0;
  continuations = [];
}

-- ---- they are the flows

-- no body has a label
abbrev label_node : ℕ → NodeId
label_node l = n 5

main_code : ListCode main main-graph.nodes label_node main.body (n 1)
unfolding opened
main_code = (n 3, (n 1, n 1, exits, refl, (n 1, refl, refl), refl, (record { returns = refl; unwinds = refl; cuts = refl }, (n 2, refl, refl))), (n 4, (n 3, (n 3, refl, refl), refl), refl))

f_code : ListCode f f-graph.nodes label_node f.body (n 1)
unfolding opened
f_code = (
  n 4,
  (
    n 1,
    record { ranges = from_to 0 11 ∷ []; to = n 2 } ∷ [],
    n 3,
    refl,
    refl,
    (n 2, [], refl, (n 4, (n 2, (n 2, refl, refl), refl), refl), refl),
    (n 4, (n 3, (n 3, refl, refl), refl), refl),
  ),
  refl,
)

main_flows : IsFlowOf main main-graph
unfolding opened
main_flows = record {
  label_node = label_node;
  begun = record { formals = []; next = n 1; node = refl; code = main_code };
  labels = λ l. record { next = n 4; node = refl; code = refl };
  continuations = λ k less. absurd (omega (arith, less));
}

f_flows : IsFlowOf f f-graph
unfolding opened
f_flows = record {
  label_node = label_node;
  begun = record { formals = record { number = 0 } ∷ []; next = n 1; node = refl; code = f_code };
  labels = λ l. record { next = n 4; node = refl; code = refl };
  continuations = λ k less. absurd (omega (arith, less));
}

-- ---- the premise of the laws

abbrev calling : Setting
calling = setting (sample (program (main ∷ f ∷ [])) (frame 32 ∷ frame 16 ∷ [])) 4096 no_client

abbrev Counted : Proc → Type 0
Counted q = IsTrue (list_all (is_counted q) (body_statements q))

main_counted : Counted main
unfolding opened
main_counted = refl

f_counted : Counted f
unfolding opened
f_counted = refl

are_flows : AreFlows calling (main-graph ∷ f-graph ∷ [])
are_flows = record {
  counted = All-cons Counted main (f ∷ []) main_counted (All-cons Counted f [] f_counted (All-nil Counted));
  flows = (main_flows, (f_flows, tt));
  tokens = (refl, (refl, tt));
}

-- and the run over them ends as the program does
it_runs : (graph_state_after (main-graph ∷ f-graph ∷ []) calling [] 4).store.status ≡ Ended (Done 7)
it_runs = refl
