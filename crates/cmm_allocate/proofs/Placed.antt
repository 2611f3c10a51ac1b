-- The rows of a placement that has the frames that were laid, and the words that an Entry writes.
use Rattle.std.proofs.Common.{◌≡◌, ℕ, zero, suc, ◌<◌, ◌-◌, ◌≤◌, ◌&&◌, ◌||◌, cond, nat_lt, Bool, true, false, filter, List, [], ◌∷◌, get_or, is_some, length, slice_get, Some, None, refl, ap, sym, ◌∙◌, subst, arith}
use Rattle.std.proofs.lemmas.Bool.{and_parts}
use Rattle.std.proofs.lemmas.Bool.Decides.{nat_tests}
use Rattle.std.proofs.lemmas.List.{get_or_past, length-map}
use Rattle.std.proofs.lemmas.List.FromFn.{length-range_with_len}
use Rattle.std.specs.List.{list_all, range_with_len}
use Rattle.rv_table.specs.Memory.{code_base}
use Rattle.cmm_bitset.specs.Sets.{has, members}
use Rattle.cmm_program.specs.declared.placement.PlaceRow.{PlaceRow}
use Rattle.cmm_program.specs.declared.procedure.Proc.{Proc}
use Rattle.cmm_program.specs.Placed.{are_rows_placed, is_code_address, is_row_placed}
use Rattle.cmm_graph.specs.declared.graph.Graph.{Graph}
use Rattle.cmm_live.specs.declared.live_sets.LiveSets.{LiveSets}
use Rattle.cmm_live.specs.Exact.{AreLiveSets, set_at}
use Rattle.cmm_live.specs.Locals.{local_count}
use Rattle.cmm_chain.specs.declared.frame.Frame.{Frame}
use Rattle.cmm_abi.specs.Registers.{callee_saves}
use Rattle.cmm_located.specs.Layouts.{has_cut_exit, keeps_local, row_with}
use Rattle.cmm_allocate.specs.declared.procedure.ProcedurePlaces.{ProcedurePlaces}
use Rattle.cmm_allocate.specs.Compiling.{no_frame}
use Rattle.cmm_allocate.specs.Laws.{EntriesAreShort, RowsArePlaced, RowsHaveFrames}
use Rattle.cmm_allocate.specs.Places.{HavePlaces}
use Rattle.cmm_allocate.specs.Placing.{placement_rows}
use Rattle.cmm_allocate.proofs.Compiling.{pairs_counted}

-- ---- rows

abbrev no_row : PlaceRow
no_row = record { code = 0; frame = 0; pairs = []; stack = [] }

abbrev frame_in : List ProcedurePlaces → ℕ → Frame
frame_in found q = elim (slice_get found q) [ Some k ↦ k.frame | None ↦ no_frame ]

abbrev row_in : List PlaceRow → ℕ → PlaceRow
row_in rows q = get_or rows q no_row

abbrev HasFrame : Frame → PlaceRow → Type 0
HasFrame f row = (f.size ≡ row.frame) × (f.pairs ≡ row.pairs) × (f.stack ≡ row.stack)

-- where there are places, the row is made of their frame
row_has : (found : List ProcedurePlaces) (codes : List ℕ) (q : ℕ) → length codes ≡ length found → is_some (slice_get found q) ≡ true →
    HasFrame (frame_in found q) (row_in (placement_rows found codes) q)
row_has [] codes q same is = absurd (cc (is))
row_has (x ∷ found) [] q same is = absurd (omega (arith, same))
row_has (x ∷ found) (code ∷ codes) zero same is = (refl, refl, refl)
row_has (x ∷ found) (code ∷ codes) (suc q) same is = row_has found codes q (omega (arith, same)) is

pub rows_have_frames : RowsHaveFrames
rows_have_frames s graphs found codes same rows = record { size = λ q is. (has q is).0; pairs = λ q is. (has q is).1; stack = λ q is. (has q is).2 }
  where
    has : (q : ℕ) → is_some (slice_get found q) ≡ true → HasFrame (frame_in found q) (row_in s.placement.rows q)
    has q is = subst (λ rows. HasFrame (frame_in found q) (row_in rows q)) (sym rows) (row_has found codes q same is)

valid_rows : (procs : List Proc) (graphs : List Graph) (found : List ProcedurePlaces) (codes : List ℕ) → length graphs ≡ length procs → HavePlaces procs graphs found →
    length codes ≡ length found → list_all is_code_address codes ≡ true → are_rows_placed procs (placement_rows found codes) ≡ true
valid_rows [] [] [] codes some have same are = refl
valid_rows [] [] (k ∷ found) codes some have same are = elim have [ ]
valid_rows [] (g ∷ graphs) found codes some have same are = absurd (omega (arith, some))
valid_rows (p ∷ procs) [] found codes some have same are = absurd (omega (arith, some))
valid_rows (p ∷ procs) (g ∷ graphs) [] codes some have same are = elim have [ ]
valid_rows (p ∷ procs) (g ∷ graphs) (k ∷ found) [] some have same are = absurd (omega (arith, same))
valid_rows (p ∷ procs) (g ∷ graphs) (k ∷ found) (code ∷ codes) some have same are =
    let both = and_parts (is_code_address code) (list_all is_code_address codes) are in
    let first : is_row_placed p (row_with code k.frame) ≡ true = have.0.frame.placed code both.0 in
    let rest : are_rows_placed procs (placement_rows found codes) ≡ true = valid_rows procs graphs found codes (omega (arith, some)) have.1 (omega (arith, same)) both.1 in
    ap (λ b. b && are_rows_placed procs (placement_rows found codes)) first ∙ rest

pub rows_are_placed : RowsArePlaced
rows_are_placed p graphs found codes placement some have same are rows ascending = record {
  rows = ap (λ rows. are_rows_placed p.procs rows) rows ∙ valid_rows p.procs graphs found codes some have same are;
  ascending = ascending;
}

-- ---- what an Entry writes

filter_short : (test : ℕ → Bool) (xs : List ℕ) → length (filter test xs) ≤ length xs
filter_short test [] = omega arith
filter_short test (x ∷ xs) = by (test x) (filter_short test xs)
  where
    by : (b : Bool) → length (filter test xs) ≤ length xs → length (cond b (x ∷ filter test xs) (filter test xs)) ≤ suc (length xs)
    by true few = omega (arith, few)
    by false few = omega (arith, few)

few_members : (set : List Bool) → length (members set) ≤ length set
few_members set =
    let most = filter_short (has set) (range_with_len 0 (length set - 0)) in
    omega (arith, most, length-range_with_len 0 (length set - 0))

-- a set of a node has at most the graph's locals
set_short : (g : Graph) (sets : LiveSets) (n : ℕ) → AreLiveSets g sets → length (set_at sets.before n) ≤ local_count g
set_short g sets n are = by (nat_lt n (length g.nodes)) refl
  where
    by : (b : Bool) → nat_lt n (length g.nodes) ≡ b → length (set_at sets.before n) ≤ local_count g
    by true below =
        let less : n < length g.nodes = grind (arith, nat_tests, below) in omega (arith, (are.before.each record { number = n } less).size)
    by false below =
        let out : length g.nodes ≤ n = grind (arith, nat_tests, below) in
        let none : set_at sets.before n ≡ [] = get_or_past sets.before n [] (omega (arith, out, are.before.count)) in
        let size : length (set_at sets.before n) ≡ 0 = ap (λ (l : List Bool). length l) none in
        omega (arith, size)

pub entries_are_short : EntriesAreShort
entries_are_short p g k can has = record {
  saved =
      let registers = ap (λ (l : List ℕ). length l) has.frame.registers in
      let kept = filter_short (λ r. has_cut_exit p || keeps_local r k.locals) callee_saves in
      omega (arith, length-map k.frame.saved (λ (s : ℕ × ℕ). s.0), registers, kept);
  words =
      let zeroed = ap (λ (l : List ℕ). length l) has.zeroed in
      let pairs = pairs_counted p k.frame (has.frame.placed code_base refl) in
      omega (arith, zeroed, pairs, few_members (set_at k.live.before g.first.number), set_short g k.live g.first.number has.live, can.entry, can.continuations);
}
