-- The client's answer leaves both machines related, wherever it resumes them.
use Rattle.std.proofs.Common.{◌≡◌, ℕ, zero, suc, Some, List, [], ◌∷◌, ◌++◌, drop, refl}
use Rattle.cmm_machine_laws.proofs.Shared.{IsExitOf, OfReturn, OfUnwind, OfCut, answered_kept}
use Rattle.cmm_program.specs.Client.{answered, located, with_log, with_value}
use Rattle.cmm_program.specs.Control.{transferred}
use Rattle.cmm_program.specs.Exits.{Exit}
use Rattle.cmm_program.specs.Frames.{Suspended, suspended_at, without}
use Rattle.cmm_program.specs.Performing.{Transfer}
use Rattle.cmm_program.specs.State.{Activation, Setting, Store}
use Rattle.cmm_program.specs.Todo.{Todo, todo_control}
use Rattle.cmm_graph.specs.declared.graph.Graph.{Graph}
use Rattle.cmm_graph.specs.GraphControl.{Position, graph_control}
use Rattle.cmm_flow.specs.Laws.{AreFlows}
use Rattle.cmm_flow.specs.Relation.{AreWaiting, Related}
use Rattle.cmm_flow.proofs.Arriving.{exit_related, waiting_drop}
use Rattle.cmm_flow.proofs.Landing.{IsExit, ToContinuation, cut_is, return_is, unwind_is}

module _ (s : Setting) (graphs : List Graph) (flows : AreFlows s graphs) (ts : List Todo) (cs : List Position) where
  -- a value of a variable leaves which activations wait
  waiting_with_value : (cursor n value : ℕ) (as_ : List Activation) (ts : List Todo) (cs : List Position) → AreWaiting s.program graphs as_ ts cs →
      AreWaiting s.program graphs (with_value cursor n value as_) ts cs
  waiting_with_value cursor n value [] ts cs waiting = waiting
  waiting_with_value zero n value (a ∷ as_) (t ∷ ts) (c ∷ cs) waiting =
      let w = waiting.0 in (
        record {
          one = record { of = w.one.of; activation = w.one.activation; position = w.one.position };
          site = w.site;
          is_site = w.is_site;
          exits = w.exits;
          stands = w.stands;
          behind = w.behind;
          normal = w.normal;
          code = w.code;
          counted = w.counted;
        },
        waiting.1,
      )
  waiting_with_value (suc cursor) n value (a ∷ as_) (t ∷ ts) (c ∷ cs) waiting = (waiting.0, waiting_with_value cursor n value as_ ts cs waiting.1)
  waiting_with_value cursor n value (a ∷ as_) [] cs waiting = elim waiting [ ]
  waiting_with_value cursor n value (a ∷ as_) (t ∷ ts) [] waiting = elim waiting [ ]

  abbrev AllWait : Store → Type 0
  AllWait store = AreWaiting s.program graphs store.activations ts cs

  abbrev EndsRelated : Transfer → Type 0
  EndsRelated transfer = Related s.program graphs (transferred (todo_control s.program) s transfer ts) (transferred (graph_control graphs) s transfer cs)

  -- an exit of a site leads on alike
  exit_is : (activations : List Activation) (gone : ℕ) (a : Suspended) (e : Exit) → suspended_at s activations ≡ Some a → IsExitOf (located gone a) e → IsExit s activations e
  exit_is activations gone a e at (OfReturn n is) = return_is s activations a n e at is
  exit_is activations gone a e at (OfUnwind n is) = unwind_is s activations a n e at is
  exit_is activations gone a e at (OfCut k is) = ToContinuation (cut_is s activations a k e at is)

  pub answered_related : (yielded : List ℕ) (store : Store) → AllWait store → EndsRelated (answered s yielded store)
  answered_related yielded start waiting = answered_kept s yielded AllWait EndsRelated start (record {
    sets = λ store waiting cursor n value a info at is less. waiting_with_value cursor n value store.activations ts cs waiting;
    pokes = λ store waiting address value may. waiting;
    goes = λ store waiting more gone a e values at exit count fit.
        exit_related s graphs flows e values (with_log (start.log ++ more) (without gone store)) (drop gone ts) (drop gone cs)
        (exit_is (drop gone store.activations) gone a e at exit) (waiting_drop s graphs flows gone store.activations ts cs waiting);
    stops = λ store waiting more. record { store = refl; controls = tt };
  }) waiting
