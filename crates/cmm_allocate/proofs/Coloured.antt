-- Colours of a class: who conflicts has different ones, and who peels has one.
use Rattle.std.proofs.Common.{◌≡◌, ℕ, zero, suc, ◌<◌, Bool, true, ◌&&◌, List, [], ◌∷◌, get_or, length, Option, Some, is_some, ap, sym, ◌∙◌, subst, arith}
use Rattle.std.proofs.lemmas.Bool.{and_from}
use Rattle.cmm_bitset.specs.Sets.{has}
use Rattle.cmm_ilist.specs.NodeLists.{has as is_listed}
use Rattle.cmm_colour.specs.Colours.{colour_of}
use Rattle.cmm_colour.specs.Graphs.{adjacent}
use Rattle.cmm_colour.specs.Peeling.{Peels}
use Rattle.cmm_graph.specs.declared.graph.Graph.{Graph}
use Rattle.cmm_live.specs.declared.live_sets.LiveSets.{LiveSets}
use Rattle.cmm_live.specs.Conflicts.{Conflicts}
use Rattle.cmm_live.specs.Exact.{AreLiveSets}
use Rattle.cmm_live.specs.Laws.{SetsDecideConflicts}
use Rattle.cmm_live.specs.Locals.{local_count, local_number}
use Rattle.cmm_allocate.specs.Classes.{conflict, conflict_within, local_at}
use Rattle.cmm_allocate.specs.inside.Classing.{IsClass}
use Rattle.cmm_allocate.specs.inside.Colouring.{IsColoured}
use Rattle.cmm_allocate.proofs.Living.{numbered}
use Rattle.cmm_allocate.proofs.Peeling.{peels_less}

module _ (decide : SetsDecideConflicts) (g : Graph) (live : LiveSets) (sets : AreLiveSets g live) (class : List Bool) (k : ℕ) (colours : List (Option ℕ))
    (coloured : IsColoured g class k colours) where
  -- two of the class that conflict have different colours
  pub proper : (v w c : ℕ) → v < local_count g → w < local_count g → has class v ≡ true → has class w ≡ true → conflict g live v w ≡ true → colour_of colours v ≡ Some c →
      colour_of colours w ≡ Some c → ⊥
  proper v w c v_low w_low in_v in_w are one other =
      let of_v = numbered g v v_low in
      let of_w = numbered g w w_low in
      let conflicting : Conflicts g (local_at g v) (local_at g w) = (decide g live (local_at g v) (local_at g w) sets of_v.1 of_w.1).0 are in
      let joined : adjacent coloured.graph (local_number g (local_at g v)) (local_number g (local_at g w)) ≡ true =
      (coloured.conflicts.exact (local_at g v) (local_at g w) of_v.1 of_w.1).1 (ap (has class) of_v.0 ∙ in_v, ap (has class) of_w.0 ∙ in_w, conflicting) in
      coloured.colours_are.proper v w c (sym (ap (λ (n : ℕ). adjacent coloured.graph n w) of_v.0)
      ∙ (sym (ap (adjacent coloured.graph (local_number g (local_at g v))) of_w.0) ∙ joined)) one other

  row_there : (rows : List (List ℕ)) (v w : ℕ) → is_listed w (get_or rows v []) ≡ true → v < length rows
  row_there [] v w has_w = absurd (cc)
  row_there (row ∷ rows) zero w has_w = omega arith
  row_there (row ∷ rows) (suc v) w has_w = let rest = row_there rows v w has_w in omega (arith, rest)

  module _ (test : ℕ → Bool) (is : IsClass g test class) where
    -- and who is joined in the graph conflicts
    joined_conflict : (v w : ℕ) → w < local_count g → adjacent coloured.graph v w ≡ true → conflict_within g live test v w ≡ true
    joined_conflict v w w_low joined =
        let v_low : v < local_count g = subst (λ n. v < n) coloured.conflicts.size (row_there coloured.graph v w joined) in
        let of_v = numbered g v v_low in
        let of_w = numbered g w w_low in
        let both = (coloured.conflicts.exact (local_at g v) (local_at g w) of_v.1 of_w.1).0
        (ap (adjacent coloured.graph (local_number g (local_at g v))) of_w.0 ∙ (ap (λ (n : ℕ). adjacent coloured.graph n w) of_v.0 ∙ joined)) in
        let in_v : test v ≡ true = sym (is.exact v v_low) ∙ (sym (ap (has class) of_v.0) ∙ both.0) in
        let in_w : test w ≡ true = sym (is.exact w w_low) ∙ (sym (ap (has class) of_w.0) ∙ both.1) in
        and_from (test v && test w) (conflict g live v w) (and_from (test v) (test w) in_v in_w)
        ((decide g live (local_at g v) (local_at g w) sets of_v.1 of_w.1).1 both.2)

    -- who peels has a colour
    pub full : (v : ℕ) → v < local_count g → Peels (local_count g) (conflict_within g live test) k v → is_some (colour_of colours v) ≡ true
    full v low peels =
        let fewer : Peels (local_count g) (adjacent coloured.graph) k v = peels_less (local_count g) k (adjacent coloured.graph) (conflict_within g live test) joined_conflict v peels in
        coloured.colours_are.full v (subst (λ n. v < n) (sym coloured.conflicts.size) low) (subst (λ n. Peels n (adjacent coloured.graph) k v) (sym coloured.conflicts.size) fewer)
