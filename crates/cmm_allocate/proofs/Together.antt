-- The places of procedures, found one after another.
use Rattle.std.proofs.Common.{◌≡◌, ℕ, suc, ◌+◌, ◌<◌, ◌≤◌, List, [], ◌∷◌, ◌++◌, Some, ap, arith, get_or, length, refl, slice_get, subst, sym, take, ◌∙◌}
use Rattle.std.proofs.lemmas.List.{take_all, take_more}
use Rattle.std.proofs.lemmas.Option.{get_or_from_slice_get, slice_get_within}
use Rattle.std.proofs.lemmas.Slice.Zip.{AllZip-long, all_zipped_more, get_or-zip}
use Rattle.std.specs.List.{AllZip, zip}
use Rattle.cmm_program.specs.declared.procedure.Proc.{Proc}
use Rattle.cmm_graph.specs.declared.graph.Graph.{Graph}
use Rattle.cmm_live.specs.declared.live_sets.LiveSets.{LiveSets}
use Rattle.cmm_live.specs.Exact.{AreLiveSets}
use Rattle.cmm_allocate.specs.declared.procedure.ProcedurePlaces.{ProcedurePlaces}
use Rattle.cmm_allocate.specs.Places.{CanBePlaced, HasPlaces, HavePlaces}
use Rattle.cmm_allocate.proofs.Members.{zipped_at}

-- what stands behind a part of a list is there at the part's length
next_of : {A : Type 0} (front : List A) (x : A) (rest : List A) → slice_get (front ++ x ∷ rest) (length front) ≡ Some x
next_of [] x rest = refl
next_of (y ∷ front) x rest = next_of front x rest

-- ---- the sets that are taken next, by the number of those before them

module _ (procs : List Proc) (graphs : List Graph) (live : List LiveSets) (are_live : AllZip AreLiveSets graphs live) (can : AllZip CanBePlaced procs graphs)
    (before : List LiveSets) (sets : LiveSets) (rest : List LiveSets) (is_live : before ++ sets ∷ rest ≡ live) where
  number : ℕ
  number = length before

  is_next : slice_get live (length before) ≡ Some sets
  is_next = subst (λ (ls : List LiveSets). slice_get ls (length before) ≡ Some sets) is_live (next_of before sets rest)

  pub graph_there : length before < length graphs
  graph_there = omega (arith, slice_get_within live (length before) sets is_next, AllZip-long AreLiveSets graphs live are_live)

  pub procedure_there : length before < length procs
  procedure_there = omega (arith, graph_there, AllZip-long CanBePlaced procs graphs can)

  pub sets_fit : (g : Graph) → g ≡ get_or graphs (length before) g → AreLiveSets g sets
  sets_fit g is =
      subst (λ (x : Graph). AreLiveSets x sets) (sym is)
      (subst (AreLiveSets (get_or graphs (length before) g)) (get_or_from_slice_get live (length before) sets sets is_next)
      (zipped_at AreLiveSets graphs live (length before) g sets are_live graph_there))

  pub can_be_placed : (p : Proc) (g : Graph) → p ≡ get_or procs (length before) p → g ≡ get_or graphs (length before) g → CanBePlaced p g
  can_be_placed p g is also =
      subst (λ (x : Proc). CanBePlaced x g) (sym is) (subst (CanBePlaced (get_or procs (length before) p)) (sym also) (zipped_at CanBePlaced procs graphs (length before) p g can procedure_there))

-- ---- the places so far

abbrev pub Placed : Proc × Graph → ProcedurePlaces → Type 0
Placed of k = HasPlaces of.0 of.1 k

zip_counted : (procs : List Proc) (graphs : List Graph) → length graphs ≡ length procs → length (zip procs graphs) ≡ length procs
zip_counted [] [] same = refl
zip_counted [] (g ∷ graphs) same = refl
zip_counted (p ∷ procs) [] same = absurd (omega (arith, same))
zip_counted (p ∷ procs) (g ∷ graphs) same = ap suc (zip_counted procs graphs (omega (arith, same)))

pub placed_more : (procs : List Proc) (graphs : List Graph) (found : List ProcedurePlaces) (n : ℕ) (p : Proc) (g : Graph) (k : ProcedurePlaces) → length graphs ≡ length procs →
    n < length procs → p ≡ get_or procs n p → g ≡ get_or graphs n g → AllZip Placed (take n (zip procs graphs)) found → HasPlaces p g k →
    AllZip Placed (take (n + 1) (zip procs graphs)) (found ++ k ∷ [])
placed_more procs graphs found n p g k same less is also placed has =
    let both = zip procs graphs in
    let here : get_or both n (p, g) ≡ (p, g) =
    get_or-zip procs graphs n (p, g) less (omega (arith, less, same)) ∙ (ap (λ (x : Proc). let of : Proc × Graph = (x, get_or graphs n g) in of) (sym is) ∙ ap (λ (x : Graph). let of : Proc × Graph = (p, x) in of) (sym also)) in
    subst (λ (zs : List (Proc × Graph)). AllZip Placed zs (found ++ k ∷ [])) (sym (take_more both n (p, g) (omega (arith, less, zip_counted procs graphs same))))
    (subst (λ (z : Proc × Graph). AllZip Placed (take n both ++ z ∷ []) (found ++ k ∷ [])) (sym here) (all_zipped_more Placed (take n both) found (p, g) k placed has))

-- all of them, once as many were taken as there are graphs
pub placed_all : (procs : List Proc) (graphs : List Graph) (found : List ProcedurePlaces) (n : ℕ) → length graphs ≡ length procs → length graphs ≤ n →
    AllZip Placed (take n (zip procs graphs)) found → HavePlaces procs graphs found
placed_all procs graphs found n same past placed =
    subst (λ (zs : List (Proc × Graph)). AllZip Placed zs found) (take_all n (zip procs graphs) (omega (arith, past, same, zip_counted procs graphs same))) placed
