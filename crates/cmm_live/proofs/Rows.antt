-- Worked rows, worked out by hand: paths of a graph with every kind of exit, conflicts of a loop and of straight code, and pairs by sets.
use Rattle.std.proofs.Common.{◌≡◌, ℕ, refl, ap, Bool, true, false, List, [], ◌∷◌, Some, map, arith}
use Rattle.std.proofs.Common.{inl, inr}
use Rattle.std.specs.Prelude.{Contains}
use Rattle.std.proofs.lemmas.List.Elements.{Contains-push_cases}
use Rattle.cmm_words.specs.declared.width.Width.TheVariants.{W64}
use Rattle.cmm_words.specs.declared.operators.Op2.TheVariants.{Add, Mul}
use Rattle.cmm_words.specs.declared.operators.Cmp.TheVariants.{Ltu}
use Rattle.cmm_words.specs.declared.constant.Constant.TheVariants.{Number}
use Rattle.cmm_program.specs.declared.procedure.Target.TheVariants as target
use Rattle.cmm_graph.specs.declared.number.NodeId.{NodeId}
use Rattle.cmm_graph.specs.declared.number.SiteId.{SiteId}
use Rattle.cmm_graph.specs.declared.number.ContinuationId.{ContinuationId}
use Rattle.cmm_graph.specs.declared.operand.Local.{Local}
use Rattle.cmm_graph.specs.declared.operand.Local.TheVariants as local
use Rattle.cmm_graph.specs.declared.operand.Operand.{Operand}
use Rattle.cmm_graph.specs.declared.operand.Operand.TheVariants as operand
use Rattle.cmm_graph.specs.declared.operand.Rvalue.{Rvalue}
use Rattle.cmm_graph.specs.declared.operand.Rvalue.TheVariants.{Binary, Copy}
use Rattle.cmm_graph.specs.declared.operand.Destination.TheVariants as destination
use Rattle.cmm_graph.specs.declared.node.Node.{Node}
use Rattle.cmm_graph.specs.declared.node.NodeKind.{NodeKind}
use Rattle.cmm_graph.specs.declared.node.NodeKind.TheVariants.{Entry, CopyIn, Assign, Branch, Call, Return}
use Rattle.cmm_graph.specs.declared.graph.Graph.{Graph}
use Rattle.cmm_graph.specs.Liveness.{Here, Onward}
use Rattle.cmm_live.specs.declared.live_sets.LiveSets.{LiveSets}
use Rattle.cmm_live.specs.Locals.{local_number}
use Rattle.cmm_live.specs.Sites.{IsLiveAt, IsLiveOnCut}
use Rattle.cmm_live.specs.Conflicts.{conflicts}
use Rattle.cmm_live.specs.Exact.{set_at}
use Rattle.cmm_live.specs.inside.Interfering.{is_one_of, is_other, is_pair, row_has}

-- ---- a notation

abbrev n : ℕ → NodeId
n number = record { number = number }

abbrev s : ℕ → SiteId
s number = record { number = number }

abbrev k : ℕ → ContinuationId
k number = record { number = number }

abbrev v : ℕ → Local
v number = local.Variable (record { number = number })

abbrev t : ℕ → Local
t number = local.Temporary (record { number = number })

abbrev num : ℕ → Operand
num word = operand.Constant (Number word W64)

abbrev to_variable : ℕ → Rvalue → NodeId → NodeKind
to_variable number value next = Assign (destination.Target (target.Variable number W64)) value next

abbrev returned : List Local → NodeKind
returned locals = Return 0 0 (map (λ l. record { width = W64; value = operand.Local l }) locals)

abbrev node : NodeKind → Node
node kind = record { tokens = 1; kind = kind }

abbrev graph : ℕ → ℕ → List NodeKind → List NodeId → Graph
graph variables temporaries kinds continuations = record {
  variables = variables;
  temporaries = temporaries;
  nodes = map node kinds;
  first = n 0;
  continuations = continuations;
}

abbrev sets : List (List Bool) → LiveSets
sets before = record { before = before; sites = []; cuts = [] }

-- ---- a loop
--     main() { bits64 i, s; loop: if i < 4 { s = s + i * i; i = i + 1; goto loop; } return (s); }
abbrev loop : Graph
loop =
    graph 2 1 (Entry [] (n 1)
    ∷ Branch (record { operator = Ltu; width = W64; left = operand.Local (v 0); right = num 4 }) (n 2) (n 5)
    ∷ Assign (destination.Temporary (record { number = 0 })) (Binary Mul W64 (operand.Local (v 0)) (operand.Local (v 0))) (n 3)
    ∷ to_variable 1 (Binary Add W64 (operand.Local (v 1)) (operand.Local (t 0))) (n 4)
    ∷ to_variable 0 (Binary Add W64 (operand.Local (v 0)) (num 1)) (n 1)
    ∷ returned (v 1 ∷ [])
    ∷ []) []

abbrev loop_sets : LiveSets
loop_sets = sets (
    (true ∷ true ∷ false ∷ [])
    ∷ (true ∷ true ∷ false ∷ [])
    ∷ (true ∷ true ∷ false ∷ [])
    ∷ (true ∷ true ∷ true ∷ [])
    ∷ (true ∷ true ∷ false ∷ [])
    ∷ (false ∷ true ∷ false ∷ [])
    ∷ [])

-- the sum is live after the counter is written
counter_and_sum : conflicts loop loop_sets (v 0) (v 1) ≡ true
counter_and_sum = refl

-- the counter is live after the product is written
product_and_counter : conflicts loop loop_sets (t 0) (v 0) ≡ true
product_and_counter = refl

itself : conflicts loop loop_sets (v 0) (v 0) ≡ false
itself = refl

-- ---- straight code
--     main() { bits64 b, a; b = a; return (b); }: the 0 of `b` at the Entry, behind which `a` is live, is no write
abbrev straight : Graph
straight = graph 2 0 (Entry [] (n 1) ∷ to_variable 0 (Copy (operand.Local (v 1))) (n 2) ∷ returned (v 0 ∷ []) ∷ []) []

copies_share : conflicts straight (sets ((false ∷ true ∷ []) ∷ (false ∷ true ∷ []) ∷ (true ∷ false ∷ []) ∷ [])) (v 0) (v 1) ≡ false
copies_share = refl

-- ---- every kind of exit
--     main() { v5 = v6() also returns to k0 also unwinds to k1 also cuts to k2; return (v5, v0); continuation k0(): return (v1);
--     continuation k1(): return (v2); continuation k2(v4): return (v4, v3); }
abbrev call_kind : NodeKind
call_kind = Call (s 0) (operand.Local (v 6)) [] (record { normal = Some (n 2); returns = k 0 ∷ []; unwinds = k 1 ∷ []; cuts = k 2 ∷ [] })

abbrev calling : Graph
calling =
    graph 7 0 (Entry [] (n 1)
    ∷ call_kind
    ∷ CopyIn (target.Variable 5 W64 ∷ []) (n 3)
    ∷ returned (v 5 ∷ v 0 ∷ [])
    ∷ CopyIn [] (n 5)
    ∷ returned (v 1 ∷ [])
    ∷ CopyIn [] (n 7)
    ∷ returned (v 2 ∷ [])
    ∷ CopyIn (target.Variable 4 W64 ∷ []) (n 9)
    ∷ returned (v 4 ∷ v 3 ∷ [])
    ∷ []) (n 4 ∷ n 6 ∷ n 8 ∷ [])

-- what only the unwind exit reads is live at the site
unwound_is_live : IsLiveAt calling (v 2) (s 0)
unwound_is_live = record {
  at = n 1;
  node = node call_kind;
  is_there = refl;
  waits = refl;
  next = n 6;
  leads = (2, omega arith, refl);
  live = Onward (n 6) (n 7) (node (CopyIn [] (n 7))) refl (λ found. absurd (omega (arith, found.1))) (0, omega arith, refl)
      (Here (n 7) (node (returned (v 2 ∷ []))) refl (0, omega arith, refl));
}

-- what the continuation of the cut exit reads and is no parameter is live on the cut
cut_is_live : IsLiveOnCut calling (v 3) (s 0)
cut_is_live = record {
  at = n 1;
  node = node call_kind;
  is_there = refl;
  waits = refl;
  next = n 8;
  leads = (0, omega arith, refl);
  live = Onward (n 8) (n 9) (node (CopyIn (target.Variable 4 W64 ∷ []) (n 9))) refl unwritten (0, omega arith, refl)
      (Here (n 9) (node (returned (v 4 ∷ v 3 ∷ []))) refl (1, omega arith, refl));
}
  where
    unwritten : ¬ Contains (v 4 ∷ []) (v 3)
    unwritten found = elim (Contains-push_cases [] (v 4) (v 3) found) [
      | inl none ↦ absurd (omega (arith, none.1))
      | inr same ↦ let number : ◌≡◌ {A = ℕ} 4 3 = ap (local_number calling) same in absurd (omega arith)
    ]

-- ---- pairs, by sets of four locals: 0 is live with 1 and 2, and 3 is live where 1 is written

abbrev four : List (List Bool)
four = (true ∷ true ∷ true ∷ false ∷ []) ∷ (false ∷ false ∷ false ∷ true ∷ []) ∷ (true ∷ false ∷ false ∷ false ∷ []) ∷ (false ∷ false ∷ false ∷ false ∷ []) ∷ []

-- all but 2
abbrev three : List Bool
three = true ∷ true ∷ false ∷ true ∷ []

row_has-four : ◌≡◌ {A = List Bool} (row_has four 0 2 ∷ row_has four 1 3 ∷ row_has four 3 1 ∷ row_has four 4 0 ∷ []) (true ∷ true ∷ false ∷ false ∷ [])
row_has-four = refl

is_other-four : ◌≡◌ {A = List Bool} (map (is_other three (set_at four 0) 0) (0 ∷ 1 ∷ 2 ∷ 3 ∷ [])) (false ∷ true ∷ false ∷ false ∷ [])
is_other-four = refl

is_pair-four : ◌≡◌ {A = List Bool} (is_pair three four 0 1 ∷ is_pair three four 0 2 ∷ is_pair three four 2 0 ∷ is_pair three four 1 3 ∷ []) (true ∷ false ∷ false ∷ true ∷ [])
is_pair-four = refl

is_one_of-three : ◌≡◌ {A = List Bool} (is_one_of (2 ∷ 0 ∷ []) 0 ∷ is_one_of (2 ∷ 0 ∷ []) 1 ∷ []) (true ∷ false ∷ [])
is_one_of-three = refl
