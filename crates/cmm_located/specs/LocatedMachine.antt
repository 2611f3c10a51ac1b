-- The located machine: its states, one after the other, what is seen of them, and what a step costs. It does each node over locations,
-- and what a graph does as it lands it does in a step of its own, at an Entry or a CopyIn.
use Rattle.std.specs.Prelude.{ℕ, true, false, List, [], Ok, Err, Some, None}
use Rattle.cmm_simulation.specs.Machine.{Machine}
use Rattle.cmm_program.specs.Control.{over}
use Rattle.cmm_program.specs.Errors.{Tried}
use Rattle.cmm_program.specs.Machine.{first_store}
use Rattle.cmm_program.specs.State.{Setting, Running, Waiting, Ended, Wrong, stack_top}
use Rattle.cmm_machine_laws.specs.Observed.{Call, Ending, event_at, store_seen}
use Rattle.cmm_graph.specs.Acting.{act_of}
use Rattle.cmm_graph.specs.GraphControl.{in_graph, kind_at}
use Rattle.cmm_graph.specs.Paths.{node_of}
use Rattle.cmm_chain.specs.Contents.{LastReturn}
use Rattle.cmm_chain.specs.Running.{none_known}
use Rattle.cmm_located.specs.Compiled.{Compiled, Located}
use Rattle.cmm_located.specs.Nodes.{keeping, ran_at}
use Rattle.cmm_located.specs.Answering.{answered_at, shown}

module _ (s : Setting) (c : Compiled) where
  abbrev pub tried : Located → Tried Located → Located
  tried at t = elim t [ Ok after ↦ after | Err error ↦ record at { store = over (Wrong error) at.store } ]

  -- one step: the node where it stands, or the client's answer; an ended or wrong state stays
  abbrev pub located_step : Located → Located
  located_step at = elim at.store.status [
    | Running ↦ tried at (ran_at s c (kind_at c.graphs at.procedure at.node) at)
    | Waiting values ↦ answered_at s c values at
    | Ended outcome ↦ at
    | Wrong error ↦ at
  ]

  -- at the Entry of `main`, below an empty stack
  abbrev pub located_start : List ℕ → Located
  located_start input = record {
    store = first_store s input;
    holdings = record {
      point = record { at = stack_top s; back = LastReturn; kept = none_known };
      temps = none_known;
      contents = none_known;
    };
    procedure = s.program.main;
    node = elim (in_graph c.graphs s.program.main (λ g. Some g.first)) [ Some n ↦ n | None ↦ record { number = 0 } ];
    carried = [];
  }

  -- the machine, in the theory of following; the client, and who looks at a run that it has stopped, sees what the walk shows
  abbrev pub located_machine : Machine Located ℕ Call Ending
  located_machine = record {
    step = located_step;
    seen = λ at. store_seen at.store;
    asks = λ at. event_at s at.store.status (shown s c at) (act_of (keeping s c at) (kind_at c.graphs at.procedure at.node));
    wrong = λ at. elim at.store.status [ Wrong error ↦ true | _ ↦ false ];
  }

  -- the tokens of the node at which a state stands
  abbrev pub tokens_at : Located → ℕ
  tokens_at at = elim (in_graph c.graphs at.procedure (λ g. node_of g at.node)) [ Some node ↦ node.tokens | None ↦ 0 ]
