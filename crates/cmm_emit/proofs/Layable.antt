-- What is known of a located program, and that so a unit of it can be laid.
use Rattle.std.proofs.Common.{◌≡◌, ℕ, zero, suc, ◌+◌, ◌*◌, ◌<◌, ◌≤◌, ◌^◌, refl, sym, ◌∙◌, ap, subst, arith, List, [], ◌∷◌, length, map, drop, Option, Some, slice_get}
use Rattle.std.specs.Prelude.{sum_by}
use Rattle.std.specs.List.{AllZip}
use Rattle.std.proofs.lemmas.List.{length-map}
use Rattle.std.proofs.lemmas.List.Sums.{sum_by-take-drop, sum_by-take-le}
use Rattle.std.proofs.lemmas.Option.{slice_get_within}
use Rattle.rv_asm.specs.declared.part.Label.{Label}
use Rattle.cmm_program.proofs.Shared.{all_get}
use Rattle.cmm_program.specs.declared.procedure.Cont.{Cont}
use Rattle.cmm_program.specs.declared.procedure.Proc.{Proc}
use Rattle.cmm_program.specs.declared.procedure.Target.{Target}
use Rattle.cmm_program.specs.declared.program.Program.{Program}
use Rattle.cmm_program.specs.InRange.{IsInRange, IsProcInRange}
use Rattle.cmm_graph.specs.declared.graph.Graph.{Graph}
use Rattle.cmm_graph.specs.Counterpart.{IsGraphOf, parameter_targets, taken_at}
use Rattle.cmm_emit_laws.specs.Laying.{FramesCanBeMade}
use Rattle.cmm_emit_laws.specs.Naming.{GraphsAreNamed}
use Rattle.cmm_hoisted.specs.Flow.{IsHoistedFlow}
use Rattle.cmm_hoisted.specs.Laws.{HoistedFlowsAreGraphs, HoistedFlowsPassFew, HoistedFlowsWaitOnce}
use Rattle.cmm_allocate.specs.declared.procedure.ProcedurePlaces.{ProcedurePlaces}
use Rattle.cmm_allocate.specs.Places.{HasPlaces, HavePlaces}
use Rattle.cmm_emit.specs.declared.context.Context.{Context}
use Rattle.cmm_emit.specs.declared.context.Targets.{Targets}
use Rattle.cmm_emit.proofs.Belonging.{length-entry_labels, share_at, share_counted, there_at}
use Rattle.cmm_emit.proofs.Counting.{first_label_few, nodes_cost, sites_few}
use Rattle.cmm_emit.proofs.Outlined.{label_there}
use Rattle.cmm_emit.proofs.Procedures.{can_be_laid}
use Rattle.cmm_emit.specs.Contexts.{first_label, place_in}
use Rattle.cmm_emit.specs.LaidProcedures.{CanAllBeLaidIn}
use Rattle.cmm_emit.specs.Outlines.{IsOutlineIn, first_own, own, share, symbol_count}
use Rattle.cmm_emit.specs.Premises.{AreShort}
use Rattle.cmm_emit.specs.declared.outline.Outline.{Outline}

-- ---- lists side by side

pub zip_counted : {A B : Type 0} (R : A → B → Type 0) (xs : List A) (ys : List B) → AllZip R xs ys → length ys ≡ length xs
zip_counted R [] [] all = refl
zip_counted R [] (y ∷ ys) all = elim all [ ]
zip_counted R (x ∷ xs) [] all = elim all [ ]
zip_counted R (x ∷ xs) (y ∷ ys) all = ap suc (zip_counted R xs ys all.1)

pub zip_at : {A B : Type 0} (R : A → B → Type 0) (xs : List A) (ys : List B) (n : ℕ) (x : A) (y : B) → AllZip R xs ys → slice_get xs n ≡ Some x →
    slice_get ys n ≡ Some y → R x y
zip_at R [] ys n x y all is also = absurd (cc)
zip_at R (a ∷ xs) [] n x y all is also = absurd (cc (also))
zip_at R (a ∷ xs) (b ∷ ys) zero x y all is also =
    let one : a ≡ x = cc in
    let two : b ≡ y = cc in
    subst (R x) two (subst (λ z. R z b) one all.0)
zip_at R (a ∷ xs) (b ∷ ys) (suc n) x y all is also = zip_at R xs ys n x y all.1 is also

pub places_counted : (procs : List Proc) (graphs : List Graph) (found : List ProcedurePlaces) → length graphs ≡ length procs → HavePlaces procs graphs found →
    length found ≡ length procs
places_counted [] [] [] same have = refl
places_counted [] [] (k ∷ found) same have = elim have [ ]
places_counted [] (g ∷ graphs) found same have = absurd (omega (arith, same))
places_counted (q ∷ procs) [] found same have = absurd (omega (arith, same))
places_counted (q ∷ procs) (g ∷ graphs) [] same have = elim have [ ]
places_counted (q ∷ procs) (g ∷ graphs) (k ∷ found) same have = ap suc (places_counted procs graphs found (omega (arith, same)) have.1)

pub places_at : (procs : List Proc) (graphs : List Graph) (found : List ProcedurePlaces) (n : ℕ) (q : Proc) (g : Graph) (k : ProcedurePlaces) → HavePlaces procs graphs found →
    slice_get procs n ≡ Some q → slice_get graphs n ≡ Some g → slice_get found n ≡ Some k → HasPlaces q g k
places_at [] graphs found n q g k have is also there = absurd (cc (is))
places_at (p ∷ procs) [] found n q g k have is also there = absurd (cc (also))
places_at (p ∷ procs) (h ∷ graphs) [] n q g k have is also there = absurd (cc (there))
places_at (p ∷ procs) (h ∷ graphs) (j ∷ found) zero q g k have is also there =
    let one : p ≡ q = cc in
    let two : h ≡ g = cc in
    let three : j ≡ k = cc in
    subst (HasPlaces q g) three (subst (λ (z : Graph). HasPlaces q z j) two (subst (λ (z : Proc). HasPlaces z h j) one have.0))
places_at (p ∷ procs) (h ∷ graphs) (j ∷ found) (suc n) q g k have is also there = places_at procs graphs found n q g k have.1 is also there

-- ---- shares

-- what a share has, its list has n later
pub share_in : {A : Type 0} (first count : ℕ) (xs : List A) (k : ℕ) (x : A) → first + count ≤ length xs → slice_get (share first count xs) k ≡ Some x →
    slice_get xs (first + k) ≡ Some x
share_in first count xs k x within is =
    let less = slice_get_within (share first count xs) k x is in
    sym (share_at first count xs k (omega (arith, less, share_counted first count xs within))) ∙ is

-- a share of procedures has no more tokens than all
pub share_tokens : (first count : ℕ) (procs : List Proc) → sum_by (λ q. q.tokens) (share first count procs) ≤ sum_by (λ q. q.tokens) procs
share_tokens first count procs =
    omega (arith, sum_by-take-le (λ (q : Proc). q.tokens) (drop first procs) count, sum_by-take-drop (λ (q : Proc). q.tokens) procs first)

-- ---- a located program

module _ (p : Program) (graphs : List Graph) (found : List ProcedurePlaces) (range : IsInRange p) (flows : AllZip IsHoistedFlow p.procs graphs)
    (places : HavePlaces p.procs graphs found) (passes : HoistedFlowsPassFew) (answers : HoistedFlowsAreGraphs) (named : GraphsAreNamed) where
  pub graphs_counted : length graphs ≡ length p.procs
  graphs_counted = zip_counted IsHoistedFlow p.procs graphs flows

  pub found_counted : length found ≡ length p.procs
  found_counted = places_counted p.procs graphs found graphs_counted places

  pub range_of : (n : ℕ) (q : Proc) → slice_get p.procs n ≡ Some q → IsProcInRange p q
  range_of n q is = all_get (IsProcInRange p) p.procs n q range.procedures is

  pub flow_of : (n : ℕ) (q : Proc) (g : Graph) → slice_get p.procs n ≡ Some q → slice_get graphs n ≡ Some g → IsHoistedFlow q g
  flow_of n q g is also = zip_at IsHoistedFlow p.procs graphs n q g flows is also

  pub graph_of : (n : ℕ) (q : Proc) (g : Graph) → slice_get p.procs n ≡ Some q → slice_get graphs n ≡ Some g → IsGraphOf p q g
  graph_of n q g is also = answers p q g (range_of n q is) (flow_of n q g is also)

  pub procedure_beside : (n : ℕ) (g : Graph) → slice_get graphs n ≡ Some g → (q : Proc) × (slice_get p.procs n ≡ Some q)
  procedure_beside n g is = there_at p.procs n (let less = slice_get_within graphs n g is in omega (arith, less, graphs_counted))

  pub found_beside : (n : ℕ) (g : Graph) → slice_get graphs n ≡ Some g → (k : ProcedurePlaces) × (slice_get found n ≡ Some k)
  found_beside n g is = there_at found n (let less = slice_get_within graphs n g is in omega (arith, less, graphs_counted, found_counted))

  pub continuations_counted : (n : ℕ) (q : Proc) (g : Graph) → slice_get p.procs n ≡ Some q → slice_get graphs n ≡ Some g → length g.continuations ≡ length q.conts
  continuations_counted n q g is also =
      sym (length-map g.continuations (taken_at g))
      ∙ (ap (λ (xs : List (Option (List Target))). length xs) (graph_of n q g is also).continuations ∙ length-map q.conts (λ (cont : Cont). Some (parameter_targets q cont)))

  pub labels_of : AreShort p.procs graphs found → (n : ℕ) (q : Proc) (g : Graph) → slice_get p.procs n ≡ Some q → slice_get graphs n ≡ Some g → length g.nodes + length q.sites ≤ 65 * q.tokens
  labels_of short n q g is also =
      let k = found_beside n g also in
      let c : Context = record { variables = 0; places = (k.0).locals; zeroed = map (place_in k.0) (k.0).zeroed; frame = (k.0).frame; landings = []; nodes = []; sites = [] } in
      let y : Targets = record { procedures = []; data_labels = []; registers = []; limit = record { number = 0 }; client = record { number = 0 } } in
      omega (arith, short n q g k.0 is also k.1 c y refl refl refl, nodes_cost c y g.nodes, sites_few p q (range_of n q is))

  -- ---- a unit of it

  -- all its labels have numbers of 32 bits
  pub labels_fit : AreShort p.procs graphs found → length p.labels ≤ 1000000 → (first count : ℕ) → first + count ≤ length p.procs →
      first_label (symbol_count p + 2) (share first count p.procs) (share first count graphs) count ≤ 2 ^ 32
  labels_fit short few first count within =
      let tokens = range.tokens in
      let registers = range.registers in
      let procedures = range.procedure_count in
      let beside : first + count ≤ length graphs = omega (arith, within, graphs_counted) in
      let each = λ (k : ℕ) (q : Proc) (g : Graph) (is : slice_get (share first count p.procs) k ≡ Some q) (also : slice_get (share first count graphs) k ≡ Some g).
      labels_of short (first + k) q g (share_in first count p.procs k q within is) (share_in first count graphs k g beside also)
      in
      omega (
        arith,
        first_label_few (symbol_count p + 2) (share first count p.procs) (share first count graphs) count each,
        share_tokens first count p.procs,
        tokens,
        registers,
        procedures,
        few,
      )

  module _ (o : Outline) (outline : IsOutlineIn p graphs found o) where
    abbrev count : ℕ
    count = length o.contexts

    -- its procedures are among those of the program
    within : o.first + count ≤ length p.procs
    within =
        let contexts = outline.contexts.count in
        let inside = outline.within in
        omega (arith, contexts, inside)

    beside : o.first + count ≤ length graphs
    beside = omega (arith, within, graphs_counted)

    at_procedure : (n : ℕ) (q : Proc) → n < count → slice_get p.procs (o.first + n) ≡ Some q → slice_get (own o p.procs) n ≡ Some q
    at_procedure n q less is = share_at o.first count p.procs n less ∙ is

    at_found : (n : ℕ) (k : ProcedurePlaces) → n < count → slice_get found (o.first + n) ≡ Some k → slice_get (own o found) n ≡ Some k
    at_found n k less is = share_at o.first count found n less ∙ is

    entries_counted : length o.entries ≡ count
    entries_counted =
        ap (λ (ls : List Label). length ls) outline.entries ∙ length-entry_labels o.contexts (own o graphs) (share_counted o.first count graphs beside)

    pub can_all_be_laid : FramesCanBeMade → HoistedFlowsWaitOnce → AreShort p.procs graphs found → CanAllBeLaidIn p graphs found o
    can_all_be_laid made waits short = record {
      graph_count = share_counted o.first count graphs beside ∙ sym (share_counted o.first count p.procs within);
      found_count = share_counted o.first count found (omega (arith, within, found_counted)) ∙ sym (share_counted o.first count p.procs within);
      registers = range.registers;
      each = λ n c g is also.
          let less = slice_get_within o.contexts n c is in
          let m = o.first + n in
          let there = share_in o.first count graphs n g beside also in
          let q = procedure_beside m g there in
          let k = found_beside m g there in
          can_be_laid p q.0 g k.0 (first_label (first_own o) (own o p.procs) (own o graphs) n) c o.targets (range_of m q.0 q.1) (graph_of m q.0 g q.1 there)
          (places_at p.procs graphs found m q.0 g k.0 places q.1 there k.1)
          (outline.contexts.each n q.0 g k.0 c (at_procedure n q.0 less q.1) also (at_found n k.0 less k.1) is)
          (label_there p (own o p.procs) (own o graphs) (own o found) o outline (entries_counted ∙ outline.contexts.count) n g also)
          (named p q.0 g (graph_of m q.0 g q.1 there)).named (passes p q.0 g (range_of m q.0 q.1) (flow_of m q.0 g q.1 there)) made (waits p q.0 g (range_of m q.0 q.1) (flow_of m q.0 g q.1 there));
      short = λ n q c g is is_context also.
          let less = slice_get_within o.contexts n c is_context in
          let m = o.first + n in
          let there = share_in o.first count graphs n g beside also in
          let k = found_beside m g there in
          let fits = outline.contexts.each n q g k.0 c is also (at_found n k.0 less k.1) is_context in
          short m q g k.0 (share_in o.first count p.procs n q within is) there k.1 c o.targets fits.frame fits.places fits.zeroed;
    }
