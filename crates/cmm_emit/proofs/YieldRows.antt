-- Worked rows: a yield of two values, with one alternate exit, as code is laid for it.
use Rattle.std.proofs.Common.{◌≡◌, ℕ, true, false, refl, arith, [], ◌∷◌, List, Some}
use Rattle.rv_asm.specs.declared.part.Label.{Label}
use Rattle.rv_asm.specs.declared.part.Part.{Part}
use Rattle.rv_asm.specs.declared.part.Part.TheVariants as piece
use Rattle.rv_table.specs.declared.instruction.Instr.TheVariants.{Ebreak}
use Rattle.cmm_graph.proofs.Shared.{exits, n, num, s}
use Rattle.cmm_graph.specs.declared.node.NodeKind.{NodeKind}
use Rattle.cmm_graph.specs.declared.node.NodeKind.TheVariants.{Yield}
use Rattle.cmm_emit.specs.declared.context.Context.{Context}
use Rattle.cmm_emit.specs.declared.context.Targets.{Targets}
use Rattle.cmm_emit.specs.Costs.{cost_of}
use Rattle.cmm_emit.specs.Naming.{has_kind}
use Rattle.cmm_emit.specs.Standing.{SiteStands, falls_to}

abbrev yielding : NodeKind
yielding = Yield (s 0) (num 7 ∷ num 8 ∷ []) (exits (n 1) (0 ∷ []) [] [])

abbrev label : ℕ → Label
label number = record { number = number }

-- the procedure has two nodes, a site and these landings
abbrev context : List Label → Context
context landings = record {
  variables = 0;
  places = [];
  zeroed = [];
  frame = record { size = 32; return_at = 24; saved = []; pairs = 8 ∷ []; stack = [] };
  landings = landings;
  nodes = label 2 ∷ label 3 ∷ [];
  sites = label 4 ∷ [];
}

abbrev targets : Targets
targets = record { procedures = []; data_labels = []; registers = []; limit = label 0; client = label 1 }

-- what it names is there, but not where there is no landing
there : has_kind (context (label 3 ∷ [])) targets yielding ≡ true
there = refl

no_landing : has_kind (context []) targets yielding ≡ false
no_landing = refl

-- it takes 12 instructions for each value, 2 for the call and 1 to the ECALL, 3 for the exit and 1 behind it, 1 more and a jump of 2
costs : cost_of (context []) targets yielding ≡ 34
costs = refl

-- and 4 less where there is no exit but the normal one, for which there is no word
costs_alone : cost_of (context []) targets (Yield (s 0) (num 7 ∷ num 8 ∷ []) (exits (n 1) [] [] [])) ≡ 30
costs_alone = refl

falls : falls_to yielding ≡ Some (n 1)
falls = refl

-- its site stands behind the call, with two words behind it
abbrev parts : List Part
parts =
    piece.Place (label 2)
    ∷ piece.Single Ebreak
    ∷ piece.Call (label 1)
    ∷ piece.Place (label 4)
    ∷ piece.Table (label 3 ∷ [])
    ∷ piece.Place (label 3)
    ∷ piece.Single Ebreak
    ∷ []

stands : SiteStands false (context (label 3 ∷ [])) yielding parts
stands = record {
  front = piece.Place (label 2) ∷ piece.Single Ebreak ∷ [];
  part = piece.Call (label 1);
  back = piece.Table (label 3 ∷ []) ∷ piece.Place (label 3) ∷ piece.Single Ebreak ∷ [];
  is = refl;
  long = omega arith;
  room = omega arith;
}
