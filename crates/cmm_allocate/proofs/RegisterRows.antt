-- Worked rows: what `places` gives on small graphs.
--     main() { bits64 a; a = 1; return (a); }
--     main() { bits64 a; a = 1; yield(0); return (a); }
--     main(bits64 a, bits64 b, bits64 c, bits64 d, bits64 e, bits64 f, bits64 g, bits64 h, bits64 i) { return (a, b, c, d, e, f, g, h, i); }
use Rattle.std.proofs.Common.{◌≡◌, ◌==◌, ◌||◌, true, false, [], ◌∷◌, List, Some, map, replicate, refl, lit<}
use Rattle.std.specs.List.{list_all, range_with_len}
use Rattle.cmm_words.specs.declared.constant.Constant.TheVariants as constant
use Rattle.cmm_words.specs.declared.width.Width.TheVariants.{W64}
use Rattle.cmm_program.specs.declared.procedure.Target.TheVariants as target
use Rattle.cmm_graph.specs.declared.graph.Graph.{Graph}
use Rattle.cmm_graph.specs.declared.node.NodeKind.TheVariants.{Entry, CopyIn, Assign, Yield, Return, Goto, Stop}
use Rattle.cmm_graph.specs.declared.operand.Destination.TheVariants as destination
use Rattle.cmm_graph.specs.declared.operand.Operand.TheVariants as operand
use Rattle.cmm_graph.specs.declared.operand.Rvalue.TheVariants as rvalue
use Rattle.cmm_graph.proofs.Shared.{n, v, arg, variable}
use Rattle.cmm_live.specs.declared.live_sets.LiveSets.{LiveSets}
use Rattle.cmm_chain.specs.declared.frame.Location.{Location}
use Rattle.cmm_allocate.specs.Allocated.{AreAllocated, is_in_callee_saves, is_in_register, is_in_temporary}
use Rattle.cmm_allocate.specs.Classes.{conflict, suits_callee_saves, suits_temporary}
use Rattle.cmm_allocate.specs.Placed.{place_at}

-- ---- a is live at no site

abbrev returned : Graph
returned = record {
  variables = 1;
  temporaries = 0;
  nodes = record { tokens = 20; kind = Entry [] (n 1) }
      ∷ record { tokens = 4; kind = Assign (destination.Target (target.Variable 0 W64)) (rvalue.Copy (operand.Constant (constant.Number 1 W64))) (n 2) }
      ∷ record { tokens = 5; kind = Return 0 0 (arg (v 0) ∷ []) } ∷ record { tokens = 1; kind = Stop } ∷ record { tokens = 1; kind = Goto (n 3) } ∷ [];
  first = n 0;
  continuations = [];
}

abbrev live_in_returned : LiveSets
live_in_returned = record { before = (false ∷ []) ∷ (false ∷ []) ∷ (true ∷ []) ∷ (false ∷ []) ∷ (false ∷ []) ∷ []; sites = []; cuts = [] }

suits_one : suits_temporary returned live_in_returned 0 ≡ true
suits_one = refl

in_temporary : (locals : List Location) → AreAllocated returned live_in_returned locals → is_in_temporary (place_at locals 0) ≡ true
in_temporary locals are = are.temporary_full 0 (lit< tt) refl (record { earlier = []; peeling = refl })

-- ---- a is live at the site of a yield, which no cut may leave

abbrev yielded : Graph
yielded = record {
  variables = 1;
  temporaries = 0;
  nodes = record { tokens = 20; kind = Entry [] (n 1) }
      ∷ record { tokens = 4; kind = Assign (destination.Target (target.Variable 0 W64)) (rvalue.Copy (operand.Constant (constant.Number 1 W64))) (n 2) }
      ∷ record {
        tokens = 5;
        kind = Yield record { number = 0 } (operand.Constant (constant.Number 0 W64) ∷ []) record { normal = Some (n 3); returns = []; unwinds = []; cuts = [] };
      }
      ∷ record { tokens = 1; kind = CopyIn [] (n 4) } ∷ record { tokens = 5; kind = Return 0 0 (arg (v 0) ∷ []) } ∷ record { tokens = 1; kind = Stop }
      ∷ record { tokens = 1; kind = Goto (n 5) } ∷ [];
  first = n 0;
  continuations = [];
}

abbrev live_in_yielded : LiveSets
live_in_yielded = record {
  before = (false ∷ []) ∷ (false ∷ []) ∷ (true ∷ []) ∷ (true ∷ []) ∷ (true ∷ []) ∷ (false ∷ []) ∷ (false ∷ []) ∷ [];
  sites = (true ∷ []) ∷ [];
  cuts = (false ∷ []) ∷ [];
}

suits_other : (suits_temporary yielded live_in_yielded 0 ≡ false) × (suits_callee_saves live_in_yielded 0 ≡ true)
suits_other = (refl, refl)

in_callee_saves : (locals : List Location) → AreAllocated yielded live_in_yielded locals → is_in_callee_saves (place_at locals 0) ≡ true
in_callee_saves locals are = are.saved_full 0 (lit< tt) refl (record { earlier = []; peeling = refl })

-- ---- nine are alive at once, at no site: they conflict, and there are eight temporary registers

abbrev nine : Graph
nine = record {
  variables = 9;
  temporaries = 0;
  nodes = record { tokens = 60; kind = Entry (map variable (range_with_len 0 9)) (n 1) }
      ∷ record { tokens = 20; kind = Return 0 0 (map (λ k. arg (v k)) (range_with_len 0 9)) } ∷ record { tokens = 1; kind = Stop }
      ∷ record { tokens = 1; kind = Goto (n 2) } ∷ [];
  first = n 0;
  continuations = [];
}

abbrev live_in_nine : LiveSets
live_in_nine = record { before = replicate 9 false ∷ replicate 9 true ∷ replicate 9 false ∷ replicate 9 false ∷ []; sites = []; cuts = [] }

all_conflict : list_all (λ v. list_all (λ w. (v == w) || conflict nine live_in_nine v w) (range_with_len 0 9)) (range_with_len 0 9) ≡ true
all_conflict = refl

-- the last one has a register all the same: there are eleven that a callee gives back
last_in_register : (locals : List Location) → AreAllocated nine live_in_nine locals → is_in_register (place_at locals 8) ≡ true
last_in_register locals are = are.either_full (λ w less suits. absurd (cc (suits))) 8 (lit< tt) refl (record { earlier = []; peeling = refl })
