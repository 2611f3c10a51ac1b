-- The first step of a located run, which enters `main`: it stands at no event, and nothing is seen behind it.
use Rattle.std.proofs.Common.{◌≡◌, ℕ, ◌+◌, ◌*◌, ◌≤◌, refl, sym, ◌∙◌, ap, subst, arith, Bool, true, false, List, [], length, map, Option, Some, None, IsTrue}
use Rattle.std.specs.Prelude.{nat_le, Ok}
use Rattle.std.specs.List.{All}
use Rattle.cmm_simulation.specs.Seen.{Seen}
use Rattle.cmm_program.specs.declared.procedure.Proc.{Proc}
use Rattle.cmm_program.specs.Control.{over}
use Rattle.cmm_program.specs.Errors.{WrongValues, provided}
use Rattle.cmm_program.specs.Exits.{begun}
use Rattle.cmm_program.specs.Frames.{procedure_at}
use Rattle.cmm_program.specs.State.{Setting, Store, Running, Ended, StackLimit}
use Rattle.cmm_program.specs.Memory.{IsByte}
use Rattle.cmm_machine_laws.specs.Observed.{Call, Ending, event_at}
use Rattle.cmm_graph.specs.declared.number.NodeId.{NodeId}
use Rattle.cmm_graph.specs.declared.number.Variable.{Variable}
use Rattle.cmm_graph.specs.declared.node.Node.{Node}
use Rattle.cmm_graph.specs.declared.node.NodeKind.{NodeKind}
use Rattle.cmm_graph.specs.declared.node.NodeKind.TheVariants.{Entry, Stop}
use Rattle.cmm_graph.specs.Acting.{Keeping, act_of}
use Rattle.cmm_graph.specs.GraphControl.{kind_at}
use Rattle.cmm_graph.specs.Ranges.{is_entry}
use Rattle.cmm_chain.specs.Running.{Holdings, entered}
use Rattle.cmm_image_machine.specs.Machine.{Launch, Run, first_memory, first_run}
use Rattle.cmm_image_machine.specs.Observed.{image_machine}
use Rattle.cmm_located.specs.Answering.{shown}
use Rattle.cmm_located.specs.Compiled.{Compiled, Located, bare}
use Rattle.cmm_located.specs.LocatedMachine.{located_machine, located_start, located_step, tokens_at, tried}
use Rattle.cmm_located.specs.Nodes.{keeping, passed_to, ran_at, zeros_in}
use Rattle.cmm_emit_laws.proofs.Beginning.{entry, start_at, start_is}
use Rattle.cmm_emit_laws.specs.Finished.{Finished}
use Rattle.cmm_emit_laws.specs.ProgramCode.{IsCode, IsCodeAround}
use Rattle.cmm_emit_laws.specs.Starting.{StartCode}

abbrev pub nothing : Seen ℕ
nothing = record { output = []; log = []; taken = [] }

entry_asks : (s : Setting) (store : Store) (k : Keeping) (kind : NodeKind) → IsTrue (is_entry kind) → event_at s Running store (act_of k kind) ≡ None
entry_asks s store k (Entry formals next) is = refl
entry_asks s store k kind is = let e : false ≡ true = grind (arith, is) in absurd (cc)

module _ (s : Setting) (c : Compiled) (l : Launch) (f : Finished) (code : IsCodeAround s c l f) (input : List ℕ) (is_bytes : All IsByte input) (begins : StartCode s c l f) where
  abbrev Start : Located
  Start = start_at s c l f code input is_bytes begins begins.first

  -- where `main` is entered, its frame holds these
  abbrev made : List Variable → Holdings
  made formals =
      let q = s.program.main in
      passed_to c.plan q (map (λ v. v.number) formals) Start.carried (zeros_in c.plan q (c.zeroed q) (entered c.plan q Start.holdings.point Start.holdings.contents))

  -- what comes of its Entry, by the tests there
  abbrev after_tests : Bool → Bool → Option Proc → Holdings → NodeId → Located
  after_tests enough fits o h next = tried s c Start (provided enough WrongValues (Ok (elim fits as (λ _. Located) [
    | true ↦ record {
      store = elim o as (λ _. Store) [
        | Some p ↦ let after = begun s s.program.main p [] Start.store.activations Start.store in record after { activations = map bare after.activations }
        | None ↦ Start.store
      ];
      holdings = h;
      procedure = s.program.main;
      node = next;
      carried = [];
    }
    | false ↦ record Start { store = over (Ended StackLimit) Start.store }
  ])))

  shows_nothing : (enough fits : Bool) (o : Option Proc) (h : Holdings) (next : NodeId) → (located_machine s c).seen (after_tests enough fits o h next) ≡ nothing
  shows_nothing false fits o h next = refl
  shows_nothing true false o h next = refl
  shows_nothing true true (Some p) h next = refl
  shows_nothing true true None h next = refl

  entry_shows : (kind : NodeKind) → IsTrue (is_entry kind) → (located_machine s c).seen (tried s c Start (ran_at s c kind Start)) ≡ nothing
  entry_shows (Entry formals next) is =
      shows_nothing (nat_le (length formals) (length Start.carried)) (nat_le (s.stack_base + (c.plan.frame s.program.main).size) Start.holdings.point.at)
      (procedure_at s s.program.main) (made formals) next
  entry_shows kind is = let e : false ≡ true = grind (arith, is) in absurd (cc)

  start_is_begun : located_start s c input ≡ Start
  start_is_begun = start_is s c l f code input is_bytes begins

  first_node : (node : Node) × (kind_at c.graphs s.program.main begins.first ≡ node.kind) × IsTrue (is_entry node.kind)
  first_node =
      let found = entry s c l f code input is_bytes begins in
      (found.0, ap (λ (o : Option Node). elim o as (λ _. NodeKind) [ Some node ↦ node.kind | None ↦ Stop ]) found.1, found.2)

  pub first_shows : (located_machine s c).seen (located_step s c (located_start s c input)) ≡ nothing
  first_shows =
      ap (λ (z : Located). (located_machine s c).seen (located_step s c z)) start_is_begun
      ∙ (ap (λ (kind : NodeKind). (located_machine s c).seen (tried s c Start (ran_at s c kind Start))) first_node.1
      ∙ entry_shows first_node.0.kind first_node.2)

  pub first_asks : (located_machine s c).asks (located_start s c input) ≡ None
  first_asks =
      ap (λ (z : Located). (located_machine s c).asks z) start_is_begun
      ∙ (ap (λ (kind : NodeKind). event_at s Running (shown s c Start) (act_of (keeping s c Start) kind)) first_node.1
      ∙ entry_asks s (shown s c Start) (keeping s c Start) first_node.0.kind first_node.2)
