-- What belongs to a procedure of a unit, and what a unit has of the lists of its program.
use Rattle.std.proofs.Common.{◌≡◌, ℕ, zero, suc, ◌+◌, ◌<◌, ◌≤◌, refl, sym, ◌∙◌, ap, arith, List, [], ◌∷◌, length, take, drop, length-drop, Some, slice_get}
use Rattle.std.proofs.lemmas.List.{length-take-le}
use Rattle.std.proofs.lemmas.Option.{slice_get_within}
use Rattle.cmm_program.specs.declared.procedure.Proc.{Proc}
use Rattle.cmm_program.specs.declared.program.Program.{Program}
use Rattle.cmm_graph.specs.declared.graph.Graph.{Graph}
use Rattle.cmm_allocate.specs.declared.procedure.ProcedurePlaces.{ProcedurePlaces}
use Rattle.cmm_emit.specs.declared.context.Context.{Context}
use Rattle.cmm_emit.specs.Naming.{label_at}
use Rattle.cmm_emit.specs.Contexts.{IsMadeFor, entry_labels, first_label}
use Rattle.cmm_emit.specs.LaidProcedures.{CanAllBeLaid, CanBeLaid}
use Rattle.cmm_emit.specs.Outlines.{IsOutline, first_own, share}
use Rattle.cmm_emit.specs.declared.outline.Outline.{Outline}

-- ---- labels of contexts

pub first_label_grows : (first : ℕ) (qs : List Proc) (gs : List Graph) (n : ℕ) → first ≤ first_label first qs gs n
first_label_grows first [] gs n = omega arith
first_label_grows first (q ∷ qs) [] n = omega arith
first_label_grows first (q ∷ qs) (g ∷ gs) zero = omega arith
first_label_grows first (q ∷ qs) (g ∷ gs) (suc n) =
    let rest = first_label_grows (first + (length g.nodes + length q.sites)) qs gs n in omega (arith, rest)

pub entry_label : (contexts : List Context) (graphs : List Graph) (q : ℕ) (c : Context) (g : Graph) → slice_get contexts q ≡ Some c → slice_get graphs q ≡ Some g →
    label_at (entry_labels contexts graphs) q ≡ label_at c.nodes g.first.number
entry_label [] graphs q c g is also = absurd (cc)
entry_label (p ∷ ps) [] q c g is also = absurd (cc (also))
entry_label (p ∷ ps) (h ∷ gs) zero c g is also =
    let one : p ≡ c = cc in
    let two : h ≡ g = cc in
    ap (λ (z : Context). label_at z.nodes h.first.number) one ∙ ap (λ (z : Graph). label_at c.nodes z.first.number) two
entry_label (p ∷ ps) (h ∷ gs) (suc q) c g is also = entry_label ps gs q c g is also

pub length-entry_labels : (contexts : List Context) (graphs : List Graph) → length graphs ≡ length contexts → length (entry_labels contexts graphs) ≡ length contexts
length-entry_labels [] [] same = refl
length-entry_labels [] (g ∷ gs) same = absurd (omega (arith, same))
length-entry_labels (c ∷ cs) [] same = absurd (omega (arith, same))
length-entry_labels (c ∷ cs) (g ∷ gs) same = ap suc (length-entry_labels cs gs (omega (arith, same)))

-- an element of a list is there
pub there_at : {A : Type 0} (xs : List A) (n : ℕ) → n < length xs → (x : A) × (slice_get xs n ≡ Some x)
there_at [] n less = absurd (omega (arith, less))
there_at (x ∷ xs) zero less = (x, refl)
there_at (x ∷ xs) (suc n) less = there_at xs n (omega (arith, less))

-- ---- shares

pub drop_at : {A : Type 0} (first : ℕ) (xs : List A) (k : ℕ) → slice_get (drop first xs) k ≡ slice_get xs (first + k)
drop_at zero xs k = let e : 0 + k ≡ k = omega arith in ap (λ (m : ℕ). slice_get xs m) (sym e)
drop_at (suc first) [] k = refl
drop_at (suc first) (x ∷ xs) k = let e : suc first + k ≡ suc (first + k) = omega arith in rw e (drop_at first xs k)

pub take_at : {A : Type 0} (count : ℕ) (xs : List A) (k : ℕ) → k < count → slice_get (take count xs) k ≡ slice_get xs k
take_at zero xs k less = absurd (omega (arith, less))
take_at (suc count) [] k less = refl
take_at (suc count) (x ∷ xs) zero less = refl
take_at (suc count) (x ∷ xs) (suc k) less = take_at count xs k (omega (arith, less))

-- what a share has at an index, its list has n later
pub share_at : {A : Type 0} (first count : ℕ) (xs : List A) (k : ℕ) → k < count → slice_get (share first count xs) k ≡ slice_get xs (first + k)
share_at first count xs k less = take_at count (drop first xs) k less ∙ drop_at first xs k

pub share_counted : {A : Type 0} (first count : ℕ) (xs : List A) → first + count ≤ length xs → length (share first count xs) ≡ count
share_counted first count xs within = length-take-le count (drop first xs) (omega (arith, within, length-drop first xs))

-- ---- a procedure

-- what belongs to a procedure
pub record IsOne (p : Program) (procs : List Proc) (graphs : List Graph) (found : List ProcedurePlaces) (o : Outline) (q : ℕ) (g : Graph) : Type 0 where
  pub procedure : Proc
  pub is_procedure : slice_get procs q ≡ Some procedure
  pub is_graph : slice_get graphs q ≡ Some g
  pub places : ProcedurePlaces
  pub is_found : slice_get found q ≡ Some places
  pub context : Context
  pub is_context : slice_get o.contexts q ≡ Some context
  pub made : IsMadeFor procedure g places (first_label (first_own o) procs graphs q) context
  pub can : CanBeLaid o.targets context g

-- by its context
abbrev pub one_with : (p : Program) (procs : List Proc) (graphs : List Graph) (found : List ProcedurePlaces) (o : Outline) → IsOutline p procs graphs found o → CanAllBeLaid p procs graphs found o →
    (q : ℕ) (g : Graph) (c : Context) → slice_get graphs q ≡ Some g → slice_get o.contexts q ≡ Some c → IsOne p procs graphs found o q g
one_with p procs graphs found o outline can q g c is is_context =
    let less = slice_get_within graphs q g is in
    let procedure = there_at procs q (let n = can.graph_count in omega (arith, n, less)) in
    let places = there_at found q (let n = can.graph_count in let m = can.found_count in omega (arith, n, m, less)) in
    record {
      procedure = procedure.0;
      is_procedure = procedure.1;
      is_graph = is;
      places = places.0;
      is_found = places.1;
      context = c;
      is_context = is_context;
      made = outline.contexts.each q procedure.0 g places.0 c procedure.1 is places.1 is_context;
      can = can.each q c g is_context is;
    }

pub one_of : (p : Program) (procs : List Proc) (graphs : List Graph) (found : List ProcedurePlaces) (o : Outline) → IsOutline p procs graphs found o → CanAllBeLaid p procs graphs found o →
    (q : ℕ) (g : Graph) → slice_get graphs q ≡ Some g → IsOne p procs graphs found o q g
one_of p procs graphs found o outline can q g is =
    let less = slice_get_within graphs q g is in
    let context = there_at o.contexts q (let n = can.graph_count in let m = outline.contexts.count in omega (arith, n, m, less)) in
    one_with p procs graphs found o outline can q g context.0 is context.1
