-- A worked row: what is required beside the answers of `place_program` holds of a program with a call, and the site of the call stands behind it.
--     main() { f(); return (7); }    f() { return (); }
use Rattle.std.proofs.Common.{◌≡◌, ℕ, zero, suc, true, false, refl, sym, subst, arith, List, [], ◌∷◌, None, Some, slice_get}
use Rattle.rv_asm.specs.Appending.{IsBehind}
use Rattle.rv_asm.specs.declared.part.Label.{Label}
use Rattle.rv_asm.specs.declared.part.Part.{Part}
use Rattle.rv_asm.specs.declared.part.Part.TheVariants as piece
use Rattle.rv_table.specs.declared.instruction.Instr.TheVariants.{Ebreak}
use Rattle.cmm_graph.proofs.Shared.{arg, code, exits, graph, n, num, s}
use Rattle.cmm_graph.specs.declared.graph.Graph.{Graph}
use Rattle.cmm_graph.specs.declared.node.Node.{Node}
use Rattle.cmm_graph.specs.declared.node.NodeKind.TheVariants.{Call, CopyIn, Entry, Return}
use Rattle.cmm_allocate.specs.declared.procedure.ProcedurePlaces.{ProcedurePlaces}
use Rattle.cmm_emit.specs.declared.context.Context.{Context}
use Rattle.cmm_emit.specs.LaidNodes.{SitesStand}
use Rattle.cmm_emit.specs.Premises.{AreCovered, IsCovered}
use Rattle.cmm_emit.specs.Standing.{SiteStands}

abbrev main-graph : Graph
main-graph = graph 0 0 (Entry [] (n 1) ∷ Call (s 0) (code 1) [] (exits (n 2) [] [] []) ∷ CopyIn [] (n 3) ∷ Return 0 0 (arg (num 7) ∷ []) ∷ []) []

abbrev callee-graph : Graph
callee-graph = graph 0 0 (Entry [] (n 1) ∷ Return 0 0 [] ∷ []) []

abbrev small-places : ProcedurePlaces
small-places = record {
  locals = [];
  frame = record { size = 16; return_at = 8; saved = []; pairs = []; stack = [] };
  live = record { before = []; sites = []; cuts = [] };
  zeroed = [];
}

main_covered : (k : ℕ) (node : Node) → slice_get main-graph.nodes k ≡ Some node → IsCovered small-places node
main_covered zero node is =
    let e : record { tokens = 1; kind = Entry [] (n 1) } ≡ node = cc in
    subst (IsCovered small-places) e (λ c y frame locals zeroed. rw (frame, zeroed) (omega arith))
main_covered (suc zero) node is =
    let e : record { tokens = 1; kind = Call (s 0) (code 1) [] (exits (n 2) [] [] []) } ≡ node = cc in
    subst (IsCovered small-places) e (λ c y frame locals zeroed. omega arith)
main_covered (suc (suc zero)) node is =
    let e : record { tokens = 1; kind = CopyIn [] (n 3) } ≡ node = cc in
    subst (IsCovered small-places) e (λ c y frame locals zeroed. omega arith)
main_covered (suc (suc (suc zero))) node is =
    let e : record { tokens = 1; kind = Return 0 0 (arg (num 7) ∷ []) } ≡ node = cc in
    subst (IsCovered small-places) e (λ c y frame locals zeroed. rw frame (omega arith))
main_covered (suc (suc (suc (suc k)))) node is = absurd (cc)

callee_covered : (k : ℕ) (node : Node) → slice_get callee-graph.nodes k ≡ Some node → IsCovered small-places node
callee_covered zero node is =
    let e : record { tokens = 1; kind = Entry [] (n 1) } ≡ node = cc in
    subst (IsCovered small-places) e (λ c y frame locals zeroed. rw (frame, zeroed) (omega arith))
callee_covered (suc zero) node is =
    let e : record { tokens = 1; kind = Return 0 0 [] } ≡ node = cc in
    subst (IsCovered small-places) e (λ c y frame locals zeroed. rw frame (omega arith))
callee_covered (suc (suc k)) node is = absurd (cc)

pub covered : AreCovered (main-graph ∷ callee-graph ∷ []) (small-places ∷ small-places ∷ [])
covered zero g k m node is also there =
    let one : main-graph ≡ g = cc in
    let two : small-places ≡ k = cc in
    subst (λ (z : ProcedurePlaces). IsCovered z node) two (main_covered m node (subst (λ (z : Graph). slice_get z.nodes m ≡ Some node) (sym one) there))
covered (suc zero) g k m node is also there =
    let one : callee-graph ≡ g = cc in
    let two : small-places ≡ k = cc in
    subst (λ (z : ProcedurePlaces). IsCovered z node) two (callee_covered m node (subst (λ (z : Graph). slice_get z.nodes m ≡ Some node) (sym one) there))
covered (suc (suc q)) g k m node is also there = absurd (cc (is))

-- ---- the site of the call

abbrev label : ℕ → Label
label number = record { number = number }

abbrev main-context : Context
main-context = record {
  variables = 0;
  places = [];
  zeroed = [];
  frame = small-places.frame;
  landings = [];
  nodes = label 2 ∷ label 3 ∷ label 4 ∷ label 5 ∷ [];
  sites = label 6 ∷ [];
}

-- each node behind its label, as one instruction where it does not wait
abbrev main-parts : List Part
main-parts =
    piece.Place (label 2)
    ∷ piece.Single Ebreak
    ∷ piece.Place (label 3)
    ∷ piece.Call (label 1)
    ∷ piece.Place (label 6)
    ∷ piece.Place (label 4)
    ∷ piece.Single Ebreak
    ∷ piece.Place (label 5)
    ∷ piece.Single Ebreak
    ∷ []

behind_call : IsBehind (label 6) 0 main-parts
behind_call = record {
  front = piece.Place (label 2) ∷ piece.Single Ebreak ∷ piece.Place (label 3) ∷ [];
  part = piece.Call (label 1);
  back = piece.Place (label 4) ∷ piece.Single Ebreak ∷ piece.Place (label 5) ∷ piece.Single Ebreak ∷ [];
  is = refl;
  long = omega arith;
  room = omega arith;
}

site_stands : SitesStand main-context main-graph (true ∷ true ∷ true ∷ true ∷ []) None main-parts
site_stands zero node is come =
    let e : record { tokens = 1; kind = Entry [] (n 1) } ≡ node = cc in
    subst (λ (z : Node). SiteStands false main-context z.kind main-parts) e tt
site_stands (suc zero) node is come =
    let e : record { tokens = 1; kind = Call (s 0) (code 1) [] (exits (n 2) [] [] []) } ≡ node = cc in
    subst (λ (z : Node). SiteStands false main-context z.kind main-parts) e behind_call
site_stands (suc (suc zero)) node is come =
    let e : record { tokens = 1; kind = CopyIn [] (n 3) } ≡ node = cc in
    subst (λ (z : Node). SiteStands false main-context z.kind main-parts) e tt
site_stands (suc (suc (suc zero))) node is come =
    let e : record { tokens = 1; kind = Return 0 0 (arg (num 7) ∷ []) } ≡ node = cc in
    subst (λ (z : Node). SiteStands false main-context z.kind main-parts) e tt
site_stands (suc (suc (suc (suc k)))) node is come = absurd (cc)
