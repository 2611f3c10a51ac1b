-- The nodes of a program have tokens enough for their code, and the code of each procedure is short.
use Rattle.std.proofs.Common.{◌≡◌, ℕ, zero, suc, ◌≤◌, Some, List, [], ◌∷◌, length, map, ap, refl, sym, ◌∙◌, subst, arith}
use Rattle.std.proofs.lemmas.List.{length-map}
use Rattle.std.proofs.lemmas.List.Elements.{All-head, All-tail}
use Rattle.std.specs.Prelude.{All, slice_get}
use Rattle.std.specs.List.{AllZip}
use Rattle.cmm_abi.specs.Registers.{callee_saves}
use Rattle.cmm_program.specs.declared.procedure.Proc.{Proc}
use Rattle.cmm_program.specs.declared.program.Program.{Program}
use Rattle.cmm_program.specs.InRange.{IsProcInRange}
use Rattle.cmm_program.proofs.Shared.{list_all_get}
use Rattle.cmm_graph.specs.declared.graph.Graph.{Graph}
use Rattle.cmm_graph.specs.declared.node.Node.{Node}
use Rattle.cmm_graph.specs.Covering.{covers}
use Rattle.cmm_graph.specs.Ranges.{is_node}
use Rattle.cmm_hoisted.specs.Flow.{IsHoistedFlow, entry_tokens}
use Rattle.cmm_hoisted.specs.Laws.{HoistedFlowsAreCovered, HoistedFlowsAreGraphs, HoistedFlowsAreShort, HoistedFlowsHaveEntries, HoistedFlowsHaveRoom}
use Rattle.cmm_allocate.specs.declared.procedure.ProcedurePlaces.{ProcedurePlaces}
use Rattle.cmm_allocate.specs.Laws.{EntriesAreShort, EntryIsShort, FlowsCanBePlaced}
use Rattle.cmm_allocate.specs.Places.{CanBePlaced, HasPlaces, HavePlaces}
use Rattle.cmm_emit.specs.declared.context.Context.{Context}
use Rattle.cmm_emit.specs.Laws.{GraphsAreShort, IsShortFor, IsSmallFor, NodesAreShort}
use Rattle.cmm_emit.specs.Contexts.{place_in}
use Rattle.cmm_emit.specs.Premises.{IsCovered, IsShort}
use Rattle.cmm_compile.specs.inside.Laws.{ProgramsAreCovered, ProgramsAreShort}

-- a procedure by its number, with its graph and its places
record IsCompiledTo (p : Program) (procs : List Proc) (q : ℕ) (g : Graph) (k : ProcedurePlaces) : Type 0 where
  procedure : Proc
  is_procedure : slice_get procs q ≡ Some procedure
  range : IsProcInRange p procedure
  flow : IsHoistedFlow procedure g
  can : CanBePlaced procedure g
  places : HasPlaces procedure g k

procedure_of : (p : Program) (procs : List Proc) (graphs : List Graph) (found : List ProcedurePlaces) → All (IsProcInRange p) procs → AllZip IsHoistedFlow procs graphs →
    AllZip CanBePlaced procs graphs → HavePlaces procs graphs found → (q : ℕ) (g : Graph) (k : ProcedurePlaces) → slice_get graphs q ≡ Some g →
    slice_get found q ≡ Some k → IsCompiledTo p procs q g k
procedure_of p [] [] found range flows can places q g k is_graph is_found = absurd (cc)
procedure_of p [] (x ∷ graphs) found range flows can places q g k is_graph is_found = absurd flows
procedure_of p (x ∷ procs) [] found range flows can places q g k is_graph is_found = absurd flows
procedure_of p (x ∷ procs) (y ∷ graphs) [] range flows can places q g k is_graph is_found = absurd places
procedure_of p (x ∷ procs) (y ∷ graphs) (z ∷ found) range flows can places zero g k is_graph is_found =
    let same_graph : y ≡ g = cc in
    let same_found : z ≡ k = cc in
    subst (IsCompiledTo p (x ∷ procs) 0 g) same_found (subst (λ (g : Graph). IsCompiledTo p (x ∷ procs) 0 g z) same_graph
    record { procedure = x; is_procedure = refl; range = All-head (IsProcInRange p) x procs range; flow = flows.0; can = can.0; places = places.0 })
procedure_of p (x ∷ procs) (y ∷ graphs) (z ∷ found) range flows can places (suc q) g k is_graph is_found =
    let is = procedure_of p procs graphs found (All-tail (IsProcInRange p) x procs range) flows.1 can.1 places.1 q g k is_graph is_found in
    record { procedure = is.procedure; is_procedure = is.is_procedure; range = is.range; flow = is.flow; can = is.can; places = is.places }

small_for : (g : Graph) (k : ProcedurePlaces) (c : Context) → EntryIsShort g k → c.frame ≡ k.frame → c.zeroed ≡ map (place_in k) k.zeroed → IsSmallFor c (entry_tokens g)
small_for g k c short frame zeroed = record {
  saved = subst (λ f. length f.saved ≤ length callee_saves) (sym frame) short.saved;
  words =
      let count : length c.zeroed ≡ length k.zeroed = ap (λ l. length l) zeroed ∙ length-map k.zeroed (place_in k) in
      let pairs : length c.frame.pairs ≡ length k.frame.pairs = ap (λ f. length f.pairs) frame in
      let words = short.words in
      omega (arith, count, pairs, words);
}

module _ (covered : HoistedFlowsAreCovered) (are_graphs : HoistedFlowsAreGraphs) (entries : EntriesAreShort) (short : NodesAreShort) where
  node_is_covered : (p : Program) (procs : List Proc) (q : ℕ) (g : Graph) (k : ProcedurePlaces) (n : ℕ) (node : Node) → IsCompiledTo p procs q g k → slice_get g.nodes n ≡ Some node →
      IsCovered k node
  node_is_covered p procs q g k n node is at c y frame locals zeroed =
      let graph = are_graphs p is.procedure g is.range is.flow in
      short c y g (entry_tokens g) node (small_for g k c (entries is.procedure g k is.can is.places) frame zeroed)
      (list_all_get (is_node g) g.nodes n node graph.valid.nodes at)
      (list_all_get (covers (entry_tokens g)) g.nodes n node (covered p is.procedure g is.range is.flow) at)

pub programs_are_covered : HoistedFlowsAreCovered → HoistedFlowsAreGraphs → EntriesAreShort → NodesAreShort → FlowsCanBePlaced → ProgramsAreCovered
programs_are_covered covered are_graphs entries short can p graphs found range flows places q g k n node is_graph is_found at =
    node_is_covered covered are_graphs entries short p p.procs q g k n node
    (procedure_of p p.procs graphs found range.procedures flows (can p graphs range flows) places q g k is_graph is_found) at

module _ (covered : HoistedFlowsAreCovered) (are_graphs : HoistedFlowsAreGraphs) (room : HoistedFlowsHaveRoom) (few : HoistedFlowsAreShort) (begins : HoistedFlowsHaveEntries) (entries : EntriesAreShort) (short : GraphsAreShort) where
  -- a graph as it is answered for a procedure in range
  short_for : (p : Program) (q : Proc) (g : Graph) → IsProcInRange p q → IsHoistedFlow q g → IsShortFor g q.tokens
  short_for p q g range flow =
      let begun = begins q g flow in
      record {
        nodes = (are_graphs p q g range flow).valid.nodes;
        covered = covered p q g range flow;
        tokens = few p q g range flow;
        some = (room p q g range flow).some;
        formals = begun.formals;
        next = begun.next;
        entry = begun.node;
      }

  procedure_is_short : (p : Program) (procs : List Proc) (n : ℕ) (q : Proc) (g : Graph) (k : ProcedurePlaces) → IsCompiledTo p procs n g k → slice_get procs n ≡ Some q → IsShort q g k
  procedure_is_short p procs n q g k is at =
      let found = is.is_procedure in
      let same : is.procedure ≡ q = cc in
      subst (λ (z : Proc). IsShort z g k) same (λ c y frame locals zeroed.
      short c y g is.procedure.tokens (small_for g k c (entries is.procedure g k is.can is.places) frame zeroed)
      (short_for p is.procedure g is.range is.flow))

pub programs_are_short : HoistedFlowsAreCovered → HoistedFlowsAreGraphs → HoistedFlowsHaveRoom → HoistedFlowsAreShort → HoistedFlowsHaveEntries → EntriesAreShort → GraphsAreShort → FlowsCanBePlaced → ProgramsAreShort
programs_are_short covered are_graphs room few begins entries short can p graphs found range flows places n q g k is_procedure is_graph is_found =
    procedure_is_short covered are_graphs room few begins entries short p p.procs n q g k
    (procedure_of p p.procs graphs found range.procedures flows (can p graphs range flows) places n g k is_graph is_found) is_procedure
