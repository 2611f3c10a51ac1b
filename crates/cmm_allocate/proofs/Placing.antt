-- A procedure of a program with its graph and its places: what the plan says of it, and what its nodes read and keep.
use Rattle.std.proofs.Common.{◌≡◌, ◌≢◌, ℕ, zero, suc, ◌<◌, nat_lt, Bool, true, false, All, Contains, Option, Some, None, List, [], ◌∷◌, get_or, is_some, length, map, slice_get, refl, ap, sym, ◌∙◌, subst, arith}
use Rattle.std.proofs.lemmas.Bool.{and_parts}
use Rattle.std.proofs.lemmas.List.Elements.{All-head, All-tail}
use Rattle.std.proofs.lemmas.Option.{slice_get_within}
use Rattle.std.specs.List.{AllZip, range_with_len}
use Rattle.cmm_program.proofs.Shared.{all_get, list_all_get}
use Rattle.cmm_program.specs.declared.procedure.Proc.{Proc}
use Rattle.cmm_program.specs.declared.program.Program.{Program}
use Rattle.cmm_program.specs.InRange.{IsProcInRange}
use Rattle.cmm_program.specs.Errors.{with_some}
use Rattle.cmm_program.specs.Frames.{procedure_at}
use Rattle.cmm_program.specs.State.{Setting}
use Rattle.cmm_graph.specs.declared.graph.Graph.{Graph}
use Rattle.cmm_graph.specs.declared.node.Node.{Node}
use Rattle.cmm_graph.specs.declared.node.NodeKind.{NodeKind}
use Rattle.cmm_graph.specs.declared.node.NodeKind.TheVariants.{Stop}
use Rattle.cmm_graph.specs.declared.number.NodeId.{NodeId}
use Rattle.cmm_graph.specs.declared.operand.Local.{Local}
use Rattle.cmm_graph.specs.Counterpart.{formals_of, parameter_targets, taken_at}
use Rattle.cmm_graph.specs.GraphControl.{kind_at}
use Rattle.cmm_graph.specs.Paths.{node_of, successors, writes}
use Rattle.cmm_graph.specs.Ranges.{IsValid, is_kind, is_local, is_node}
use Rattle.cmm_live.specs.Laws.{SetsAreClosed}
use Rattle.cmm_live.specs.Locals.{local_count, local_number}
use Rattle.cmm_chain.specs.declared.frame.Location.{Location}
use Rattle.cmm_located.specs.SameOrders.{ReadsAreLive}
use Rattle.cmm_located.specs.Steps.{KeepsLive}
use Rattle.cmm_hoisted.specs.Flow.{IsHoistedFlow}
use Rattle.cmm_hoisted.specs.Laws.{HoistedFlowsAreGraphs, HasEntry}
use Rattle.cmm_hoisted.proofs.Shared.{hoisted_flows_have_entries}
use Rattle.cmm_allocate.specs.declared.procedure.ProcedurePlaces.{ProcedurePlaces}
use Rattle.cmm_allocate.specs.Compiling.{compiled, live_before, no_place}
use Rattle.cmm_allocate.specs.Placed.{place_at}
use Rattle.cmm_allocate.specs.Laws.{RunsOverPlaces}
use Rattle.cmm_allocate.specs.Places.{HasPlaces, HavePlaces}
use Rattle.cmm_allocate.proofs.Living.{at_site, at_site_within, before, before_within, read_lives, stays}
use Rattle.cmm_allocate.proofs.Members.{none_contained}
use Rattle.cmm_allocate.proofs.Touching.{reads_local, writes_local}

-- ---- the three lists side by side

-- a graph is the hoisted flow of a procedure, and one of the procedure
pub record IsFlowGraph (p : Proc) (g : Graph) : Type 0 where
  pub flow : IsHoistedFlow p g
  pub valid : IsValid g
  pub variables : g.variables ≡ length p.vars
  pub formals : with_some (node_of g g.first) (λ node. formals_of node.kind) ≡ Some (range_with_len 0 p.formals)
  pub continuations : map (taken_at g) g.continuations ≡ map (λ c. Some (parameter_targets p c)) p.conts
  pub entry : HasEntry g

flow_graph : HoistedFlowsAreGraphs → (program : Program) (p : Proc) (g : Graph) → IsProcInRange program p → IsHoistedFlow p g → IsFlowGraph p g
flow_graph are_graphs program p g range is =
    let graph = are_graphs program p g range is in
    record {
      flow = is;
      valid = graph.valid;
      variables = graph.variables;
      formals = graph.formals;
      continuations = graph.continuations;
      entry = hoisted_flows_have_entries p g is;
    }

flow_graphs : HoistedFlowsAreGraphs → (program : Program) (procs : List Proc) (graphs : List Graph) → All (IsProcInRange program) procs → AllZip IsHoistedFlow procs graphs →
    AllZip IsFlowGraph procs graphs
flow_graphs are_graphs program [] [] range are = tt
flow_graphs are_graphs program [] (g ∷ graphs) range are = are
flow_graphs are_graphs program (p ∷ procs) [] range are = are
flow_graphs are_graphs program (p ∷ procs) (g ∷ graphs) range are = (
  flow_graph are_graphs program p g (All-head (IsProcInRange program) p procs range) are.0,
  flow_graphs are_graphs program procs graphs (All-tail (IsProcInRange program) p procs range) are.1,
)

-- what stands in them at one place
pub record Beside (procs : List Proc) (graphs : List Graph) (found : List ProcedurePlaces) (q : ℕ) : Type 0 where
  pub procedure : Proc
  pub graph : Graph
  pub places : ProcedurePlaces
  pub is_procedure : slice_get procs q ≡ Some procedure
  pub is_graph : slice_get graphs q ≡ Some graph
  pub is_places : slice_get found q ≡ Some places
  pub flow : IsFlowGraph procedure graph
  pub has : HasPlaces procedure graph places

later : {procs : List Proc} {graphs : List Graph} {found : List ProcedurePlaces} {q : ℕ} (p : Proc) (g : Graph) (k : ProcedurePlaces) → Beside procs graphs found q →
    Beside (p ∷ procs) (g ∷ graphs) (k ∷ found) (suc q)
later p g k b = record {
  procedure = b.procedure;
  graph = b.graph;
  places = b.places;
  is_procedure = b.is_procedure;
  is_graph = b.is_graph;
  is_places = b.is_places;
  flow = b.flow;
  has = b.has;
}

beside : (procs : List Proc) (graphs : List Graph) (found : List ProcedurePlaces) (q : ℕ) → AllZip IsFlowGraph procs graphs → HavePlaces procs graphs found →
    q < length procs → Beside procs graphs found q
beside [] graphs found q flows have less = absurd (omega arith)
beside (p ∷ procs) [] found q flows have less = elim flows [ ]
beside (p ∷ procs) (g ∷ graphs) [] q flows have less = elim have [ ]
beside (p ∷ procs) (g ∷ graphs) (k ∷ found) zero flows have less = record {
  procedure = p;
  graph = g;
  places = k;
  is_procedure = refl;
  is_graph = refl;
  is_places = refl;
  flow = flows.0;
  has = have.0;
}
beside (p ∷ procs) (g ∷ graphs) (k ∷ found) (suc q) flows have less = later p g k (beside procs graphs found q flows.1 have.1 (omega arith))

as_many : (procs : List Proc) (graphs : List Graph) (found : List ProcedurePlaces) (q : ℕ) → AllZip IsFlowGraph procs graphs → HavePlaces procs graphs found →
    is_some (slice_get found q) ≡ true → q < length procs
as_many [] [] [] q flows have is = absurd (cc)
as_many [] [] (k ∷ found) q flows have is = elim have [ ]
as_many [] (g ∷ graphs) found q flows have is = elim flows [ ]
as_many (p ∷ procs) [] found q flows have is = elim flows [ ]
as_many (p ∷ procs) (g ∷ graphs) [] q flows have is = elim have [ ]
as_many (p ∷ procs) (g ∷ graphs) (k ∷ found) zero flows have is = omega arith
as_many (p ∷ procs) (g ∷ graphs) (k ∷ found) (suc q) flows have is = omega (arith, as_many procs graphs found q flows.1 have.1 is)

module _ (are_graphs : HoistedFlowsAreGraphs) (s : Setting) (graphs : List Graph) (found : List ProcedurePlaces) (runs : RunsOverPlaces s graphs found) where
  flows_in_range : AllZip IsFlowGraph s.program.procs graphs
  flows_in_range = flow_graphs are_graphs s.program s.program.procs graphs runs.range.procedures runs.flows

  -- a number of a procedure of the plan is one of the program
  pub planned_at : (q : ℕ) → is_some (slice_get found q) ≡ true → Beside s.program.procs graphs found q
  planned_at q is = beside s.program.procs graphs found q flows_in_range runs.places (as_many s.program.procs graphs found q flows_in_range runs.places is)

  pub procedure_beside : (q : ℕ) (p : Proc) → procedure_at s q ≡ Some p → Beside s.program.procs graphs found q
  procedure_beside q p is = beside s.program.procs graphs found q flows_in_range runs.places (slice_get_within s.program.procs q p is)

  pub range_at : (q : ℕ) (at : Beside s.program.procs graphs found q) → IsProcInRange s.program at.procedure
  range_at q at = all_get (IsProcInRange s.program) s.program.procs q at.procedure runs.range.procedures at.is_procedure

-- ---- what the plan says of a procedure

-- what a node of a graph is
abbrev pub kind_in : Graph → NodeId → NodeKind
kind_in g n = elim (node_of g n) [ Some node ↦ node.kind | None ↦ Stop ]

module _ (procs : List Proc) (graphs : List Graph) (found : List ProcedurePlaces) (q : ℕ) (at : Beside procs graphs found q) where
  abbrev g : Graph
  g = at.graph

  abbrev k : ProcedurePlaces
  k = at.places

  pub kind_is : (n : NodeId) → kind_at graphs q n ≡ kind_in g n
  kind_is n = ap (λ o. elim (with_some o (λ g. node_of g n)) as (λ _. NodeKind) [ Some node ↦ node.kind | None ↦ Stop ]) at.is_graph

  pub live_is : (n : NodeId) (u : ℕ) → live_before found q n u ≡ before k.live n u
  live_is n u = ap (λ (o : Option ProcedurePlaces). elim o as (λ _. Bool) [ Some k ↦ before k.live n u | None ↦ false ]) at.is_places

  pub site_is : (site u : ℕ) → (compiled graphs found).plan.live q site u ≡ at_site k.live site u
  site_is site u = ap (λ (o : Option ProcedurePlaces). elim o as (λ _. Bool) [ Some k ↦ at_site k.live site u | None ↦ false ]) at.is_places

  pub place_is : (v : ℕ) → (compiled graphs found).plan.place q v ≡ get_or k.locals v no_place
  place_is v = ap (λ (o : Option ProcedurePlaces). elim o as (λ _. Location) [ Some k ↦ get_or k.locals v no_place | None ↦ no_place ]) at.is_places

  pub exists : (compiled graphs found).plan.is_procedure q ≡ true
  exists = ap (λ (o : Option ProcedurePlaces). is_some o) at.is_places

  -- ---- places

  -- places that differ are different ones of the plan
  pub apart_in : (v u : ℕ) → place_at at.places.locals v ≢ place_at at.places.locals u → (compiled graphs found).plan.place q v ≢ (compiled graphs found).plan.place q u
  apart_in v u other same = other (sym (place_is v) ∙ (same ∙ place_is u))

  pub live_within : (n : NodeId) (u : ℕ) → live_before found q n u ≡ true → u < local_count g
  live_within n u is = before_within g k.live at.has.live n u (sym (live_is n u) ∙ is)

  pub site_within : (site u : ℕ) → (compiled graphs found).plan.live q site u ≡ true → u < local_count g
  site_within site u is = at_site_within g k.live at.has.live site u (sym (site_is site u) ∙ is)

  -- ---- nodes

  pub kind_in_range : (n : NodeId) (node : Node) → node_of g n ≡ Some node → is_kind g node.kind ≡ true
  kind_in_range n node there =
      (and_parts (nat_lt 0 node.tokens) (is_kind g node.kind) (list_all_get (is_node g) g.nodes n.number node at.flow.valid.nodes there)).1

  module _ (closed : SetsAreClosed) where
    pub node_reads : (n : NodeId) → ReadsAreLive (compiled graphs found) (live_before found) q n (kind_at graphs q n)
    node_reads n = subst (ReadsAreLive (compiled graphs found) (live_before found) q n) (sym (kind_is n)) (by (node_of g n) refl)
      where
        by : (o : Option Node) → node_of g n ≡ o → ReadsAreLive (compiled graphs found) (live_before found) q n (elim o as (λ _. NodeKind) [ Some node ↦ node.kind | None ↦ Stop ])
        by (Some node) there = record {
          of = g;
          is_graph = at.is_graph;
          reads_live = λ l has.
              let within = reads_local g node.kind l (kind_in_range n node there) has in
              (within, live_is n (local_number g l) ∙ read_lives g k.live at.has.live closed n node there l within has);
        }
        by None there = record { of = g; is_graph = at.is_graph; reads_live = λ l has. absurd (none_contained l has) }

    abbrev Keeps : NodeId → NodeKind → Graph → Type 0
    Keeps n kind x = (m : NodeId) (u : ℕ) → Contains (successors x kind) m → live_before found q m u ≡ true → ¬ Contains (map (local_number x) (writes kind)) u →
        live_before found q n u ≡ true

    abbrev Apart : NodeKind → Graph → Type 0
    Apart kind x = (m : NodeId) (u : ℕ) (l : Local) → Contains (successors x kind) m → live_before found q m u ≡ true → Contains (writes kind) l →
        u ≢ local_number x l → (compiled graphs found).plan.place q (local_number x l) ≢ (compiled graphs found).plan.place q u

    abbrev Written : NodeKind → Graph → Type 0
    Written kind x = (l : Local) → Contains (writes kind) l → is_local x l ≡ true

    -- of the procedure's graph, whatever it is called
    keeps_all : (n : NodeId) (kind : NodeKind) → Written kind g → Keeps n kind g → Apart kind g → KeepsLive (compiled graphs found) (live_before found) q n kind
    keeps_all n kind written keeps apart = record {
      written = λ x l is. subst (Written kind) (same x is) written l;
      unwritten = λ x m u is. subst (Keeps n kind) (same x is) keeps m u;
      apart = λ x m u l is. subst (Apart kind) (same x is) apart m u l;
    }
      where
        same : (x : Graph) → slice_get graphs q ≡ Some x → g ≡ x
        same x is = let both : Some g ≡ Some x = sym at.is_graph ∙ is in cc (both)

    pub node_keeps : (n : NodeId) → KeepsLive (compiled graphs found) (live_before found) q n (kind_at graphs q n)
    node_keeps n = subst (KeepsLive (compiled graphs found) (live_before found) q n) (sym (kind_is n)) (by (node_of g n) refl)
      where
        by : (o : Option Node) → node_of g n ≡ o → KeepsLive (compiled graphs found) (live_before found) q n (elim o as (λ _. NodeKind) [ Some node ↦ node.kind | None ↦ Stop ])
        by (Some node) there = keeps_all n node.kind (λ l has. writes_local g node.kind l (kind_in_range n node there) has)
            (λ m u leads is fresh. live_is n u ∙ stays g k.live at.has.live closed n node there m u leads (sym (live_is m u) ∙ is) fresh)
            (λ m u l leads is has other.
            apart_in (local_number g l) u (at.has.locals.written n node m l u there leads has (writes_local g node.kind l (kind_in_range n node there) has) (sym (live_is m u) ∙ is) other))
        by None there = keeps_all n Stop (λ l has. absurd (none_contained l has)) (λ m u leads is fresh. absurd (none_contained m leads))
            (λ m u l leads is has other. absurd (none_contained m leads))
