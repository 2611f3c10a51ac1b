-- The code of a whole unit, with its end.
use Rattle.std.proofs.Common.{◌≡◌, ◌≢◌, ◌⊎◌, inl, inr, ℕ, zero, suc, ◌+◌, ◌<◌, ◌≤◌, refl, sym, ◌∙◌, ap, subst, arith, true, false, List, [], ◌∷◌, ◌++◌, append_assoc, get_or, length, length-set, set, Some, slice_get}
use Rattle.std.specs.Prelude.{IsTrue, sum_by}
use Rattle.std.proofs.lemmas.List.{take_all}
use Rattle.std.proofs.lemmas.Option.{get_or_from_slice_get, slice_get-get_or, slice_get_within}
use Rattle.rv_asm.proofs.Shared.{codes_more}
use Rattle.rv_asm.specs.Appending.{Appends, Codes}
use Rattle.rv_asm.specs.Assembly.{is_inner}
use Rattle.rv_asm.specs.Sizes.{all_longest}
use Rattle.rv_asm.specs.declared.part.Label.{Label}
use Rattle.rv_asm.specs.declared.part.Meaning.{Meaning}
use Rattle.rv_asm.specs.declared.part.Meaning.TheVariants.{Inner}
use Rattle.rv_asm.specs.declared.part.Part.{Part}
use Rattle.rv_asm.specs.declared.part.Part.TheVariants.{Place}
use Rattle.rv_table.specs.declared.request.Request.TheVariants.{StackLimit, Yield}
use Rattle.cmm_program.specs.declared.procedure.Proc.{Proc}
use Rattle.cmm_program.specs.declared.program.Program.{Program}
use Rattle.cmm_graph.specs.declared.graph.Graph.{Graph}
use Rattle.cmm_allocate.specs.declared.procedure.ProcedurePlaces.{ProcedurePlaces}
use Rattle.cmm_effects.specs.Requests.{AsksFor}
use Rattle.cmm_emit.specs.declared.context.Context.{Context}
use Rattle.cmm_emit.proofs.Belonging.{IsOne, one_with, share_at, there_at}
use Rattle.cmm_emit.specs.LaidProcedures.{CanAllBeLaidIn, HaveCodes, HaveLabels, IsWhole, tokens_of_first}
use Rattle.cmm_emit.specs.Outlines.{IsOutline, IsOutlineIn, own, share}
use Rattle.cmm_emit.specs.declared.outline.Outline.{Outline}

-- an element that was read of a list is there in an equal one
pub read_at : {A : Type 0} (xs ys : List A) (n : ℕ) (x : A) → xs ≡ ys → n < length ys → x ≡ get_or xs n x → slice_get ys n ≡ Some x
read_at {A = A} xs ys n x same less is =
    slice_get-get_or ys n x less ∙ ap Some (ap (λ (zs : List A). get_or zs n x) (sym same) ∙ sym is)

set_there : (ms : List Meaning) (n : ℕ) (m : Meaning) → n < length ms → slice_get (set ms n m) n ≡ Some m
set_there [] n m less = absurd (omega (arith, less))
set_there (x ∷ ms) zero m less = refl
set_there (x ∷ ms) (suc n) m less = set_there ms n m (omega (arith, less))

set_elsewhere : (ms : List Meaning) (n k : ℕ) (m : Meaning) → k ≢ n → slice_get (set ms n m) k ≡ slice_get ms k
set_elsewhere [] n k m differ = refl
set_elsewhere (x ∷ ms) zero zero m differ = absurd (differ refl)
set_elsewhere (x ∷ ms) zero (suc k) m differ = refl
set_elsewhere (x ∷ ms) (suc n) zero m differ = refl
set_elsewhere (x ∷ ms) (suc n) (suc k) m differ = set_elsewhere ms n k m (λ e. differ (omega (arith, e)))

set_inner : (ms : List Meaning) (n k : ℕ) → n < length ms → k < length ms → IsTrue (is_inner (get_or ms k (Inner false))) →
    IsTrue (is_inner (get_or (set ms n (Inner true)) k (Inner false)))
set_inner ms n k less inside is = by (grind arith)
  where
    by : (k ≡ n) ⊎ (k ≢ n) → is_inner (get_or (set ms n (Inner true)) k (Inner false)) ≡ true
    by (inl same) =
        ap is_inner (get_or_from_slice_get (set ms n (Inner true)) k (Inner true) (Inner false) (ap (λ (m : ℕ). slice_get (set ms n (Inner true)) m) same ∙ set_there ms n (Inner true) less))
    by (inr differ) =
        ap is_inner (get_or_from_slice_get (set ms n (Inner true)) k (get_or ms k (Inner false)) (Inner false)
        (set_elsewhere ms n k (Inner true) differ ∙ slice_get-get_or ms k (Inner false) inside)) ∙ is

module _ (p : Program) (procs : List Proc) (graphs : List Graph) (o : Outline) where
  -- before the first procedure there is no code
  pub none_laid : (parts : List Part) → parts ≡ [] → HaveCodes procs graphs o 0 parts
  none_laid parts none = record {
    nodes = λ q c g k less is also inside. absurd (omega (arith, less));
    sites = λ q c g k node less is also there. absurd (omega (arith, less));
    order = tt;
    closed = inl none;
    size = omega (arith, ap all_longest none);
  }

  module _ (found : List ProcedurePlaces) (outline : IsOutline p procs graphs found o) where
    module _ (labels : List Meaning) (have : HaveLabels procs graphs o (length o.contexts) labels) where
      abbrev limit : ℕ
      limit = length o.references

      abbrev client : ℕ
      client = length o.references + 1

      -- once the limit has its place, the call of the client has none yet
      pub client_waits : (new : List Meaning) → new ≡ set labels o.targets.limit.number (Inner true) → slice_get new o.targets.client.number ≡ Some (Inner false)
      client_waits new is =
          let here = ap (λ (z : Label). z.number) outline.limit in
          let there = ap (λ (z : Label). z.number) outline.client in
          ap (λ (ms : List Meaning). slice_get ms o.targets.client.number) (is ∙ ap (λ (n : ℕ). set labels n (Inner true)) here)
          ∙ (ap (λ (n : ℕ). slice_get (set labels limit (Inner true)) n) there ∙ (set_elsewhere labels limit client (Inner true) (λ e. omega (arith, e)) ∙ have.client))

      abbrev placed : List Meaning
      placed = set (set labels limit (Inner true)) client (Inner true)

      placed_counted : length placed ≡ length labels
      placed_counted = length-set (set labels limit (Inner true)) client (Inner true) ∙ length-set labels limit (Inner true)

      -- then both have theirs
      both_placed : (mid new : List Meaning) → mid ≡ set labels o.targets.limit.number (Inner true) → new ≡ set mid o.targets.client.number (Inner true) → new ≡ placed
      both_placed mid new is also =
          also ∙ (ap (λ (n : ℕ). set mid n (Inner true)) (ap (λ (z : Label). z.number) outline.client)
          ∙ ap (λ (ms : List Meaning). set ms client (Inner true)) (is ∙ ap (λ (n : ℕ). set labels n (Inner true)) (ap (λ (z : Label). z.number) outline.limit)))

      symbols_stay : (k : ℕ) → k < length o.references → slice_get placed k ≡ slice_get labels k
      symbols_stay k inside =
          set_elsewhere (set labels limit (Inner true)) client k (Inner true) (λ e. omega (arith, e, inside)) ∙ set_elsewhere labels limit k (Inner true) (λ e. omega (arith, e, inside))

      still_inner : (k : ℕ) → length o.references ≤ k → k < length labels → IsTrue (is_inner (get_or placed k (Inner false)))
      still_inner k least inside =
          let counted = length-set labels limit (Inner true) in
          set_inner (set labels limit (Inner true)) client k (omega (arith, counted, slice_get_within labels client (Inner false) have.client)) (omega (arith, counted, inside))
          (set_inner labels limit k (slice_get_within labels limit (Inner false) have.limit) inside (have.inner k least inside))

    pub is_whole : (labels mid new : List Meaning) (front middle parts : List Part) → HaveLabels procs graphs o (length o.contexts) labels → HaveCodes procs graphs o (length o.contexts) front →
        mid ≡ set labels o.targets.limit.number (Inner true) → new ≡ set mid o.targets.client.number (Inner true) →
        (back : List Part) × (middle ≡ front ++ Place o.targets.limit ∷ back) → Appends middle parts (λ x from to. Unit {0}) →
        Codes middle o.targets.limit (λ x from to. AsksFor 1 (λ t. StackLimit) x from) → Codes parts o.targets.client (λ x from to. AsksFor 1 (λ t. Yield) x from) →
        all_longest middle ≤ all_longest front + 8 → all_longest parts ≤ all_longest middle + 8 → IsWhole procs graphs o new parts
    is_whole labels mid new front middle parts have codes is also behind more limits calls few few_more =
        let now = both_placed labels have mid new is also in
        let counted = placed_counted labels have in
        record {
          count = let size = ap (λ (ms : List Meaning). length ms) now in let count = have.count in omega (arith, size, counted, count);
          symbols = λ k r there.
              ap (λ (ms : List Meaning). slice_get ms k) now ∙ (symbols_stay labels have k (slice_get_within o.references k r there) ∙ have.symbols k r there);
          inner = λ k least inside.
              let within : k < length labels = let size = ap (λ (ms : List Meaning). length ms) now in omega (arith, inside, size, counted) in
              subst (λ (ms : List Meaning). IsTrue (is_inner (get_or ms k (Inner false)))) (sym now) (still_inner labels have k least within);
          front = front;
          codes = subst (λ (n : ℕ). HaveCodes procs graphs o n front) outline.contexts.count codes;
          back = behind.0 ++ more.parts;
          is = more.added ∙ (ap (λ (ps : List Part). ps ++ more.parts) behind.1 ∙ append_assoc front (Place o.targets.limit ∷ behind.0) more.parts);
          limits = codes_more o.targets.limit limits more;
          client = calls;
          size =
              let before = codes.size in
              let all : tokens_of_first (length o.contexts) procs ≡ sum_by (λ q. q.tokens) procs =
              ap (λ (qs : List Proc). sum_by (λ q. q.tokens) qs) (take_all (length o.contexts) procs (let count = outline.contexts.count in omega (arith, count))) in
              omega (arith, before, few, few_more, all);
        }

-- what a share has, its list has later
share_within : {A : Type 0} (first count : ℕ) (xs : List A) (n : ℕ) → n < count → n < length (share first count xs) → first + n < length xs
share_within first count xs n less inside =
    let there = there_at (share first count xs) n inside in
    slice_get_within xs (first + n) there.0 (sym (share_at first count xs n less) ∙ there.1)

module _ (p : Program) (graphs : List Graph) (found : List ProcedurePlaces) (o : Outline) (outline : IsOutlineIn p graphs found o) (can : CanAllBeLaidIn p graphs found o) (n : ℕ)
    (less : n < length o.contexts) where
  -- its graph is one of the program
  pub graph_within : o.first + n < length graphs
  graph_within =
      let count = can.graph_count in
      let contexts = outline.contexts.count in
      share_within o.first (length o.contexts) graphs n less (omega (arith, less, count, contexts))

  -- what belongs to a procedure of a unit whose context and graph were read
  abbrev pub one_read : (xs : List Context) (c : Context) → xs ≡ o.contexts → c ≡ get_or xs n c → (gs : List Graph) (g : Graph) → gs ≡ graphs → g ≡ get_or gs (o.first + n) g →
      IsOne p (own o p.procs) (own o graphs) (own o found) o n g
  one_read xs c same_xs is_c gs g same_gs is_g =
      one_with p (own o p.procs) (own o graphs) (own o found) o outline can n g c
      (share_at o.first (length o.contexts) graphs n less ∙ read_at gs graphs (o.first + n) g same_gs graph_within is_g)
      (read_at xs o.contexts n c same_xs less is_c)
