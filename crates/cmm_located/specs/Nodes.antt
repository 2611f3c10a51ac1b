-- What the located machine does at a node. Each node does to places what it does to locals; an Entry and a CopyIn are steps of
-- their own, which take what control brings (Ramsey and Peyton Jones, PLDI 2000, the abstract machine).
use Rattle.std.specs.Prelude.{ℕ, ◌+◌, ◌==◌, ◌&&◌, nat_le, Bool, true, false, List, [], ◌∷◌, drop, map, length, slice_get, slice_index_or, Ok, Err, Option, Some, None}
use Rattle.cmm_program.specs.declared.procedure.Target.{Target}
use Rattle.cmm_program.specs.declared.procedure.Target.TheVariants as target
use Rattle.cmm_program.specs.Acts as act
use Rattle.cmm_program.specs.Acts.{Act, evaluated}
use Rattle.cmm_program.specs.Control.{over}
use Rattle.cmm_program.specs.Errors.{UncheckedError, Tried, UnwrittenRead, NotAProcedure, NoSuchCut, WrongValues, WrongAlternates, NeverReturns, and_then, given, provided}
use Rattle.cmm_program.specs.Exits.{begun, numbers}
use Rattle.cmm_program.specs.Frames.{procedure_at, frame_address, with_site, without}
use Rattle.cmm_program.specs.Orders as order
use Rattle.cmm_program.specs.Orders.{Order, Held}
use Rattle.cmm_program.specs.Performing.{Transfer, Stay, Wait, Away, Over, Found, cut_among, next_byte, one_taken, perform, procedure_from}
use Rattle.cmm_program.specs.State.{Setting, Activation, Store, Running, Ended, Done, StackLimit}
use Rattle.cmm_program.specs.Values.{Reads, Value}
use Rattle.cmm_program.specs.Writes.{assigned, reads_of}
use Rattle.cmm_machine_laws.specs.Landings.{registers_after}
use Rattle.cmm_graph.specs.declared.number.NodeId.{NodeId}
use Rattle.cmm_graph.specs.declared.operand.Local.{Local}
use Rattle.cmm_graph.specs.declared.operand.Local.TheVariants as local
use Rattle.cmm_graph.specs.declared.operand.Destination.{Destination}
use Rattle.cmm_graph.specs.declared.operand.Destination.TheVariants as destination
use Rattle.cmm_graph.specs.declared.node.Exits.{Exits}
use Rattle.cmm_graph.specs.declared.node.NodeKind.{NodeKind}
use Rattle.cmm_graph.specs.declared.node.NodeKind.TheVariants.{Entry, CopyIn, Assign}
use Rattle.cmm_graph.specs.Acting.{Keeping, act_of, led}
use Rattle.cmm_graph.specs.GraphControl.{in_graph}
use Rattle.cmm_chain.specs.Contents.{Content, Number, ReturnTo, LandingOf, LastReturn}
use Rattle.cmm_chain.specs.Plans.{Plan}
use Rattle.cmm_chain.specs.Running.{Holdings, held, put_in, entered, called, left, cut_at}
use Rattle.cmm_located.specs.Compiled.{Compiled, Located, bare, place_of, site_exits, landing_in}
use Rattle.cmm_located.specs.Walkable.{is_walkable}

-- ---- locals in places

-- only a number that is known may be read
abbrev pub number_of : Content → Tried ℕ
number_of (Number n) = Ok n
number_of _ = Err UnwrittenRead

-- the local among what a destination may be
abbrev pub local_of : Destination → Option Local
local_of (destination.Target (target.Variable number width)) = Some (local.Variable (record { number = number }))
local_of (destination.Target (target.Register number width)) = None
local_of (destination.Temporary t) = Some (local.Temporary t)

-- The store has no locals, so the value of one is the way on.
abbrev pub put_to : Destination → Value → Act
put_to (destination.Target (target.Register number width)) value =
    act.Assign ((λ reads. Ok (Held (target.Register number width))) ∷ []) (value ∷ [])
put_to _ value = act.Choose value

-- variables that take values, one after the other; registers stand in the store
abbrev pub taken : Plan → ℕ → List Target → List ℕ → Holdings → Holdings
taken plan q [] values h = h
taken plan q (t ∷ ts) [] h = h
taken plan q (target.Variable number width ∷ ts) (value ∷ values) h = taken plan q ts values (put_in (plan.place q number) (Number value) h)
taken plan q (target.Register number width ∷ ts) (value ∷ values) h = taken plan q ts values h

-- formals that take arguments
abbrev pub passed_to : Plan → ℕ → List ℕ → List ℕ → Holdings → Holdings
passed_to plan q [] values h = h
passed_to plan q (v ∷ vs) [] h = h
passed_to plan q (v ∷ vs) (value ∷ values) h = passed_to plan q vs values (put_in (plan.place q v) (Number value) h)

-- locals that are made 0
abbrev pub zeros_in : Plan → ℕ → List ℕ → Holdings → Holdings
zeros_in plan q [] h = h
zeros_in plan q (v ∷ vs) h = zeros_in plan q vs (put_in (plan.place q v) (Number 0) h)

abbrev pub put_local : Compiled → Option Local → ℕ → Located → Located
put_local c (Some l) value at = record at { holdings = put_in (place_of c at.procedure l) (Number value) at.holdings }
put_local c None value at = at

-- the local whose value is a node's way
abbrev pub assigned_to : NodeKind → Option Local
assigned_to (Assign to value next) = local_of to
assigned_to _ = None

module _ (s : Setting) (c : Compiled) where
  abbrev pub keeping : Located → Keeping
  keeping at = record { held = λ l reads. number_of (held at.holdings (place_of c at.procedure l)); put = put_to }

  -- stackdata and continuations have their addresses in the frame
  abbrev pub reads_at : Located → Reads
  reads_at at =
      let f = c.plan.frame at.procedure in
      record (reads_of s at.store) {
        stackdata = λ n. at.holdings.point.at + slice_index_or f.stack n 0;
        continuation = λ k. at.holdings.point.at + slice_index_or f.pairs k 0;
      }

  -- ---- steps inside an activation

  -- to where a node leads by a way
  abbrev pub onward : ℕ → NodeKind → Located → Located
  onward way kind at = elim (led way kind) [ Some n ↦ record at { node = n } | None ↦ at ]

  abbrev pub got : Target → ℕ → Located → Located
  got (target.Variable number width) value at = put_local c (Some (local.Variable (record { number = number }))) value at
  got (target.Register number width) value at = record at { store = assigned (target.Register number width) value at.store }

  -- ---- landings

  -- a frame is made, unless the stack is too small for it
  abbrev pub begins : List ℕ → NodeId → Located → Located
  begins formals next at =
      let q = at.procedure in
      elim (nat_le (s.stack_base + (c.plan.frame q).size) at.holdings.point.at) [
        | true ↦ record {
          store = elim (procedure_at s q) [
            | Some p ↦ let after = begun s q p [] at.store.activations at.store in record after { activations = map bare after.activations }
            | None ↦ at.store
          ];
          holdings = passed_to c.plan q formals at.carried (zeros_in c.plan q (c.zeroed q) (entered c.plan q at.holdings.point at.holdings.contents));
          procedure = q;
          node = next;
          carried = [];
        }
        | false ↦ record at { store = over (Ended StackLimit) at.store }
      ]

  abbrev pub copies : List Target → NodeId → Located → Located
  copies targets next at = record {
    store = record at.store { registers = registers_after targets at.carried at.store.registers };
    holdings = taken c.plan at.procedure targets at.carried at.holdings;
    procedure = at.procedure;
    node = next;
    carried = [];
  }

  -- ---- control leaves

  -- to the Entry of a procedure
  abbrev pub to_procedure : ℕ → Store → Holdings → List ℕ → Tried Located
  to_procedure q store h values = given (in_graph c.graphs q (λ g. Some g.first)) NotAProcedure (λ n.
      Ok (record { store = store; holdings = h; procedure = q; node = n; carried = values }))

  -- to the CopyIn at which the youngest activation goes on
  abbrev pub to_landing : UncheckedError → Option NodeId → ℕ → Store → Holdings → List ℕ → Tried Located
  to_landing error node q store h values = given node error (λ n. Ok (record {
    store = record store { activations = with_site None store.activations; status = Running };
    holdings = h;
    procedure = q;
    node = n;
    carried = values;
  }))

  -- by the number of an exit: the alternate ones come first, and then the normal one
  abbrev pub exit_node : ℕ → Exits → ℕ → Option NodeId
  exit_node q exits exit = elim (slice_get exits.returns exit) [ Some k ↦ landing_in c.graphs q k.number | None ↦ exits.normal ]

  -- the youngest activation waits at this site
  abbrev pub is_at : List Activation → ℕ → ℕ → Bool
  is_at [] q site = false
  is_at (a ∷ older) q site = (a.procedure == q) && elim a.site [ Some n ↦ n == site | None ↦ false ]

  -- to where a return address leads
  abbrev pub to_return : Content → ℕ → ℕ → List ℕ → Store → Holdings → Tried Located
  to_return (ReturnTo q site) exit alternates values store h =
      provided (is_at store.activations q site) WrongAlternates
      (given (site_exits c.graphs q site) WrongAlternates (λ exits.
      provided (nat_le exit (length exits.returns)) WrongAlternates
      (to_landing NeverReturns (exit_node q exits exit) q store h values)))
  to_return LastReturn exit alternates [] store h = Err WrongValues
  to_return LastReturn exit alternates (value ∷ values) store h = provided (exit == 0) WrongAlternates
      (Ok (record { store = over (Ended (Done value)) store; holdings = h; procedure = 0; node = record { number = 0 }; carried = [] }))
  to_return _ exit alternates values store h = Err WrongAlternates

  -- the words of a pair are those of the continuation that is found
  abbrev pub is_pair_of : Found → List Activation → ℕ → ℕ → ℕ → Bool
  is_pair_of found activations q k at =
      (q == found.procedure) && ((k == found.continuation) && (at == frame_address s (drop found.younger activations)))

  -- to where the two words of a pair lead
  abbrev pub to_pair : Content → Content → Found → List ℕ → Located → Tried Located
  to_pair (LandingOf q k) (Number frame) found values at =
      provided (is_pair_of found at.store.activations q k frame) NoSuchCut
      (to_landing NoSuchCut (landing_in c.graphs q k) q (without found.younger at.store) (cut_at frame at.holdings) values)
  to_pair _ _ found values at = Err NoSuchCut

  -- ---- an order done to places

  abbrev pub transferred : NodeKind → Transfer → Located → Located
  transferred kind (Stay way store) at = onward way kind (put_local c (assigned_to kind) way record at { store = store })
  transferred kind (Wait store) at = record at { store = store }
  transferred kind (Away gone store landing) at = at
  transferred kind (Over gone store) at = record at { store = store }

  abbrev pub done : NodeKind → Order → Located → Tried Located
  done kind (order.GetByte t) at = Ok (onward 0 kind (got t (next_byte at.store.input) record at { store = one_taken at.store }))
  done kind (order.Call site address words) at =
      given (procedure_from 0 address s.placement.rows) NotAProcedure (λ q.
      to_procedure q (record at.store { activations = with_site (Some site) at.store.activations }) (called at.procedure site at.holdings) (numbers words))
  done kind (order.Yield site values) at =
      let h = called at.procedure site at.holdings in
      provided (is_walkable s c h.contents (with_site (Some site) at.store.activations) h.point) WrongAlternates
      (and_then (perform s (order.Yield site values) at.store) (λ transfer. Ok (transferred kind transfer record at { holdings = h })))
  done kind (order.Jump address words) at =
      given (procedure_from 0 address s.placement.rows) NotAProcedure (λ q.
      to_procedure q (without 1 at.store) (left c.plan at.procedure at.holdings) (numbers words))
  done kind (order.Return exit alternates words) at =
      let h = left c.plan at.procedure at.holdings in to_return h.point.back exit alternates (numbers words) (without 1 at.store) h
  done kind (order.Cut value words own) at =
      given (cut_among s 0 own value at.store.activations) NoSuchCut (λ found.
      to_pair (at.holdings.contents value) (at.holdings.contents (value + 8)) found (numbers words) at)
  done kind order_ at = and_then (perform s order_ at.store) (λ transfer. Ok (transferred kind transfer at))

  -- A node done. Control brings no fewer values than are taken.
  abbrev pub ran_at : NodeKind → Located → Tried Located
  ran_at (Entry formals next) at =
      provided (nat_le (length formals) (length at.carried)) WrongValues (Ok (begins (map (λ v. v.number) formals) next at))
  ran_at (CopyIn to next) at = provided (nat_le (length to) (length at.carried)) WrongValues (Ok (copies to next at))
  ran_at kind at = and_then (evaluated (reads_at at) (act_of (keeping at) kind)) (λ order_. done kind order_ at)
