-- A worked row: what is required of a program with its graphs and places is met by a small one, so the laws say something.
--     main() { bits64 x; return (x); }
use Rattle.std.proofs.Common.{◌≡◌, ◌↔◌, ℕ, zero, suc, ◌<◌, ◌≤◌, true, false, Contains, [], ◌∷◌, Bool, List, length, is_some, slice_get, Some, refl, ap, sym, subst, arith, lit<, lit≤}
use Rattle.std.proofs.lemmas.Bool.Decides.{nat_tests}
use Rattle.cmm_simulation.specs.Machine.{after}
use Rattle.cmm_machine_laws.specs.Fitting.{IsSetUp}
use Rattle.cmm_program.proofs.Shared.{opened}
use Rattle.cmm_program.proofs.Shared.{frame, is, local as variable_of, no_client, procedure, procedure_in_range, program, program_in_range, sample, setting}
use Rattle.cmm_program.specs.declared.procedure.Proc.{Proc}
use Rattle.cmm_program.specs.declared.program.Program.{Program}
use Rattle.cmm_program.specs.declared.statement.Form.TheVariants as form
use Rattle.cmm_program.specs.declared.statement.Statement.{Statement}
use Rattle.cmm_program.specs.Frames.{place_row}
use Rattle.cmm_program.specs.InRange.{IsInRange, IsProcInRange}
use Rattle.cmm_program.specs.Numbering.{body_numbers, site_number}
use Rattle.cmm_program.specs.State.{Done, Ended, Setting}
use Rattle.cmm_graph.specs.declared.graph.Graph.{Graph}
use Rattle.cmm_graph.specs.declared.node.Node.{Node}
use Rattle.cmm_graph.specs.declared.node.NodeKind.{NodeKind}
use Rattle.cmm_graph.specs.declared.node.NodeKind.TheVariants.{Entry, Return, Goto, Stop}
use Rattle.cmm_graph.specs.declared.number.NodeId.{NodeId}
use Rattle.cmm_graph.specs.declared.operand.Local.{Local}
use Rattle.cmm_graph.specs.declared.operand.Local.TheVariants as local
use Rattle.cmm_graph.specs.Liveness.{IsLiveBefore, Here, Onward}
use Rattle.cmm_graph.specs.Paths.{reads, successors}
use Rattle.cmm_graph.specs.Ranges.{is_local}
use Rattle.cmm_graph.proofs.Shared.{n, v, arg}
use Rattle.cmm_live.proofs.Shared.{sets_are_closed, sets_decide_conflicts}
use Rattle.cmm_live.specs.declared.live_sets.LiveSets.{LiveSets}
use Rattle.cmm_live.specs.Exact.{AreLiveSets, IsSetOf, has_local, set_at}
use Rattle.cmm_live.specs.Sites.{site_of}
use Rattle.cmm_chain.specs.declared.frame.Frame.{Frame}
use Rattle.cmm_chain.specs.declared.frame.Location.TheVariants.{Saved, Temp}
use Rattle.cmm_located.specs.Layouts.{IsFrameOf}
use Rattle.cmm_located.specs.LocatedMachine.{located_machine, located_start}
use Rattle.cmm_located.specs.SameOrders.{HasFrames}
use Rattle.cmm_fold.proofs.Shared.{graph_itself}
use Rattle.cmm_flow.specs.Flow.{IsFlow, IsFlowOf}
use Rattle.cmm_hoist.proofs.Shared.{left_within}
use Rattle.cmm_hoist.specs.Graphs.{IsHoistedWithin}
use Rattle.cmm_hoisted.specs.Flow.{AreFlowsWithin, IsHoistedFlow}
use Rattle.cmm_flow.specs.Statements.{ListCode}
use Rattle.cmm_flow.specs.Waiting.{times, waiting_sites}
use Rattle.cmm_allocate.specs.declared.procedure.ProcedurePlaces.{ProcedurePlaces}
use Rattle.cmm_allocate.specs.Allocated.{AreAllocated, is_in_register, is_in_temporary, temporaries}
use Rattle.cmm_allocate.specs.Classes.{conflict, suits_callee_saves, suits_temporary}
use Rattle.cmm_allocate.specs.Compiling.{compiled}
use Rattle.cmm_allocate.specs.Laws.{RunsOverPlaces}
use Rattle.cmm_allocate.specs.Placed.{place_at}
use Rattle.cmm_allocate.specs.Places.{CanBePlaced, HasPlaces}
use Rattle.cmm_allocate.proofs.Members.{none_contained, one_contained}
use Rattle.cmm_allocate.proofs.Suiting.{allocated_suit}

abbrev body : List Statement
body = is 5 (form.Return 0 0 (variable_of 0 ∷ [])) ∷ []

abbrev main : Proc
main = procedure [] 20 0 1 [] body

abbrev p : Program
p = program (main ∷ [])

abbrev small : Setting
small = setting (sample p (frame 16 ∷ [])) 4096 no_client

-- ---- its graph

abbrev node : ℕ → NodeKind → Node
node tokens kind = record { tokens = tokens; kind = kind }

abbrev graph : Graph
graph = record {
  variables = 1;
  temporaries = 0;
  nodes = node 20 (Entry [] (n 1)) ∷ node 5 (Return 0 0 (arg (v 0) ∷ [])) ∷ node 1 Stop ∷ node 1 (Goto (n 2)) ∷ [];
  first = n 0;
  continuations = [];
}

whole : ListCode main graph.nodes (λ l. n 3) body (n 1)
unfolding opened
whole = (n 2, (n 1, (n 1, refl, refl), refl), refl)

flow : IsFlowOf main graph
unfolding opened
flow = record {
  label_node = λ l. n 3;
  begun = record { formals = []; next = n 1; node = refl; code = whole };
  labels = λ l. record { next = n 2; node = refl; code = refl };
  continuations = λ k less. absurd (omega (arith, less));
}

waits : waiting_sites graph.nodes ≡ body_numbers site_number main
unfolding opened
waits = refl

answer : IsFlow main graph
answer = record {
  flow = flow;
  tokens = λ covers. refl;
  variables = refl;
  formals = refl;
  continuations = refl;
  waits = λ site. omega (arith, ap (times site) waits);
  names = λ p range. refl;
  nodes = λ p range sites. refl;
  bounded = λ p range. lit≤ tt;
  short = λ p range. lit≤ tt;
  few = λ p range sites. refl;
  yields = λ p range. refl;
  covered = λ p range sites. refl;
}

-- it has no operator, so that it is folded, and no loop, so that nothing is hoisted
left : IsHoistedWithin 20 20 graph graph
left = left_within 20 20 graph record { tokens = 20; formals = []; next = n 1; node = refl } refl (lit≤ tt)

abbrev is_hoisted_flow : IsHoistedFlow main graph
is_hoisted_flow = record { folded = graph; is_folded = record { flow = graph; is_flow = answer; stands = graph_itself graph }; hoisted = left.hoisted }

within : AreFlowsWithin small.program (graph ∷ [])
within = record { most = 20; all = (record { flow = is_hoisted_flow; tokens = left.tokens; spared = left.spared }, tt) }

-- ---- the program is in range

in_range : IsProcInRange p main
unfolding opened
in_range = procedure_in_range p main refl

range : IsInRange p
unfolding opened
range = program_in_range p refl

-- ---- what is live: the variable, before the return and before the Entry

abbrev x : Local
x = local.Variable record { number = 0 }

live_at_return : IsLiveBefore graph x (n 1)
live_at_return = Here (n 1) (node 5 (Return 0 0 (arg (v 0) ∷ []))) refl (0, lit< tt, refl)

live_at_entry : IsLiveBefore graph x (n 0)
live_at_entry = Onward (n 0) (n 1) (node 20 (Entry [] (n 1))) refl (none_contained x) (0, lit< tt, refl) live_at_return

-- the nodes behind the return read nothing, and lead to none before it
reads_nothing : (k : ℕ) (at : Node) → 2 ≤ k → slice_get graph.nodes k ≡ Some at → ¬ Contains (reads at.kind) x
reads_nothing zero at past is has = omega (arith, past)
reads_nothing (suc zero) at past is has = omega (arith, past)
reads_nothing (suc (suc zero)) at past is has = let same : node 1 Stop ≡ at = cc in none_contained x (subst (λ (at : Node). Contains (reads at.kind) x) (sym same) has)
reads_nothing (suc (suc (suc zero))) at past is has =
    let same : node 1 (Goto (n 2)) ≡ at = cc in none_contained x (subst (λ (at : Node). Contains (reads at.kind) x) (sym same) has)
reads_nothing (suc (suc (suc (suc k)))) at past is has = cc (is)

leads_behind : (k : ℕ) (at : Node) (next : NodeId) → 2 ≤ k → slice_get graph.nodes k ≡ Some at → Contains (successors graph at.kind) next → 2 ≤ next.number
leads_behind zero at next past is has = absurd (omega (arith, past))
leads_behind (suc zero) at next past is has = absurd (omega (arith, past))
leads_behind (suc (suc zero)) at next past is has =
    let same : node 1 Stop ≡ at = cc in absurd (none_contained next (subst (λ (at : Node). Contains (successors graph at.kind) next) (sym same) has))
leads_behind (suc (suc (suc zero))) at next past is has =
    let same : node 1 (Goto (n 2)) ≡ at = cc in
    let to : n 2 ≡ next = one_contained (n 2) next (subst (λ (at : Node). Contains (successors graph at.kind) next) (sym same) has) in
    subst (λ (next : NodeId). 2 ≤ next.number) to (omega arith)
leads_behind (suc (suc (suc (suc k)))) at next past is has = absurd (cc (is))

dead : (m : NodeId) → 2 ≤ m.number → ¬ IsLiveBefore graph x m
dead _ past (Here m at is read) = reads_nothing m.number at past is read
dead _ past (Onward m next at is fresh leads live) = dead next (leads_behind m.number at next past is leads) live

only_x : (l : Local) → is_local graph l ≡ true → x ≡ l
only_x (local.Variable w) is = let first : 0 ≡ w.number = grind (arith, nat_tests, is) in ap (λ k. local.Variable record { number = k }) first
only_x (local.Temporary t) is = absurd (grind (arith, nat_tests, is))

abbrev sets : LiveSets
sets = record { before = (true ∷ []) ∷ (true ∷ []) ∷ (false ∷ []) ∷ (false ∷ []) ∷ []; sites = []; cuts = [] }

-- a set of it is right where it is right about the variable
set_of : (m : ℕ) (set : List Bool) → length set ≡ 1 → (has_local graph set x ≡ true) ↔ IsLiveBefore graph x (n m) → IsSetOf graph (λ l. IsLiveBefore graph l (n m)) set
set_of m set size exact = record {
  size = size;
  exact = λ l is. subst (λ l. (has_local graph set l ≡ true) ↔ IsLiveBefore graph l (n m)) (only_x l is) exact;
}

each_before : (m : ℕ) → m < 4 → IsSetOf graph (λ l. IsLiveBefore graph l (n m)) (set_at sets.before m)
each_before zero less = set_of 0 (true ∷ []) refl (λ is. live_at_entry, λ live. refl)
each_before (suc zero) less = set_of 1 (true ∷ []) refl (λ is. live_at_return, λ live. refl)
each_before (suc (suc zero)) less = set_of 2 (false ∷ []) refl (λ is. absurd (cc (is)), λ live. absurd (dead (n 2) (lit≤ tt) live))
each_before (suc (suc (suc zero))) less = set_of 3 (false ∷ []) refl (λ is. absurd (cc (is)), λ live. absurd (dead (n 3) (lit≤ tt) live))
each_before (suc (suc (suc (suc m)))) less = absurd (omega (arith, less))

-- no node waits at a site
none_waits : (m : ℕ) (at : Node) (number : ℕ) → slice_get graph.nodes m ≡ Some at → site_of at.kind ≡ Some record { number = number } → ⊥
none_waits zero at number is waits = let same : node 20 (Entry [] (n 1)) ≡ at = cc in cc (ap (λ (at : Node). site_of at.kind) same, waits)
none_waits (suc zero) at number is waits =
    let same : node 5 (Return 0 0 (arg (v 0) ∷ [])) ≡ at = cc in cc (ap (λ (at : Node). site_of at.kind) same, waits)
none_waits (suc (suc zero)) at number is waits = let same : node 1 Stop ≡ at = cc in cc (ap (λ (at : Node). site_of at.kind) same, waits)
none_waits (suc (suc (suc zero))) at number is waits = let same : node 1 (Goto (n 2)) ≡ at = cc in cc (ap (λ (at : Node). site_of at.kind) same, waits)
none_waits (suc (suc (suc (suc m)))) at number is waits = cc (is)

are_live : AreLiveSets graph sets
are_live = record {
  before = record { count = refl; each = λ m less. each_before m.number less };
  sites = record {
    listed = λ m at s is waits. absurd (none_waits m.number at s.number is waits);
    each = λ s less. absurd (omega (arith, less));
  };
  cuts = record {
    listed = λ m at s is waits. absurd (none_waits m.number at s.number is waits);
    each = λ s less. absurd (omega (arith, less));
  };
}

-- ---- its places

abbrev laid : Frame
laid = record { size = 16; return_at = 0; saved = []; pairs = []; stack = [] }

abbrev places : ProcedurePlaces
places = record { locals = Temp 12 ∷ []; frame = laid; live = sets; zeroed = 0 ∷ [] }

is_frame : IsFrameOf main places.locals laid
unfolding opened
is_frame = record {
  placed = λ code is. rw is refl;
  laid = refl;
  locals = refl;
  registers = refl;
  clear = refl;
}

-- the variable is live at no site, and so has a register
first_only : (v : ℕ) → v < 1 → 0 ≡ v
first_only v less = omega (arith, less)

allocated : AreAllocated graph sets places.locals
allocated = record {
  count = refl;
  temporary = λ v r less is. subst (λ v. Contains temporaries r × (suits_temporary graph sets v ≡ true)) (first_only v less) (
    let at : place_at places.locals 0 ≡ Temp r = subst (λ v. place_at places.locals v ≡ Temp r) (sym (first_only v less)) is in
        let same : 12 ≡ r = cc (at) in subst (λ r. Contains temporaries r) same (4, lit< tt, refl),
    refl,
  );
  saved = λ v r less is. (let at : place_at places.locals 0 ≡ Saved r = subst (λ v. place_at places.locals v ≡ Saved r) (sym (first_only v less)) is in absurd (cc (at)));
  apart = λ v w v_less w_less are. (let none : conflict graph sets 0 0 ≡ true =
      subst (λ w. conflict graph sets 0 w ≡ true) (sym (first_only w w_less)) (subst (λ v. conflict graph sets v w ≡ true) (sym (first_only v v_less)) are) in absurd (cc (none)));
  slots = refl;
  temporary_full = λ v less suits peels. subst (λ v. is_in_temporary (place_at places.locals v) ≡ true) (first_only v less) refl;
  saved_full = λ v less suits peels. (let none : suits_callee_saves sets 0 ≡ true = subst (λ v. suits_callee_saves sets v ≡ true) (sym (first_only v less)) suits in absurd (cc (none)));
  either_full = λ all v less suits peels. subst (λ v. is_in_register (place_at places.locals v) ≡ true) (first_only v less) refl;
}

can_be_placed : CanBePlaced main graph
can_be_placed = record { frames = in_range.frames; bounded = lit≤ tt; entry = lit≤ tt; continuations = refl }

has_places : HasPlaces main graph places
has_places = record { allocated = allocated; locals = allocated_suit sets_are_closed sets_decide_conflicts graph sets places.locals are_live allocated; frame = is_frame; live = are_live; zeroed = refl }

-- ---- so it runs over them

frames_are : HasFrames small (compiled (graph ∷ []) (places ∷ []))
frames_are = record { size = sizes; pairs = pairs; stack = stacks }
  where
    sizes : (q : ℕ) → is_some (slice_get (places ∷ []) q) ≡ true → ((compiled (graph ∷ []) (places ∷ [])).plan.frame q).size ≡ (place_row small q).frame
    sizes zero is = refl
    sizes (suc q) is = absurd (cc (is))

    pairs : (q : ℕ) → is_some (slice_get (places ∷ []) q) ≡ true → ((compiled (graph ∷ []) (places ∷ [])).plan.frame q).pairs ≡ (place_row small q).pairs
    pairs zero is = refl
    pairs (suc q) is = absurd (cc (is))

    stacks : (q : ℕ) → is_some (slice_get (places ∷ []) q) ≡ true → ((compiled (graph ∷ []) (places ∷ [])).plan.frame q).stack ≡ (place_row small q).stack
    stacks zero is = refl
    stacks (suc q) is = absurd (cc (is))

runs : RunsOverPlaces small (graph ∷ []) (places ∷ [])
runs = record { range = range; flows = (is_hoisted_flow, tt); within = within; places = (has_places, tt); frames = frames_are }

is_set_up : IsSetUp small
is_set_up = record { program = range; placement = record { rows = refl; ascending = refl }; top = lit< tt }

-- the Entry makes the variable 0, which is then returned
it_runs : (after (located_machine small (compiled (graph ∷ []) (places ∷ []))) 2 (located_start small (compiled (graph ∷ []) (places ∷ [])) [])).store.status ≡ Ended (Done 0)
it_runs = refl
