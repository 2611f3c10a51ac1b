-- What the labels of a unit mean before its code is laid.
use Rattle.std.proofs.Common.{◌≡◌, ℕ, zero, suc, ◌+◌, ◌-◌, ◌<◌, ◌≤◌, refl, sym, ◌∙◌, ap, subst, arith, false, List, [], ◌∷◌, ◌++◌, length, Some, length-append, slice_get}
use Rattle.std.specs.Prelude.{replicate}
use Rattle.std.proofs.lemmas.List.{length-replicate}
use Rattle.std.proofs.lemmas.Option.{get_or_from_slice_get, slice_get_within}
use Rattle.rv_asm.specs.Assembly.{is_inner}
use Rattle.rv_asm.specs.declared.part.Meaning.{Meaning}
use Rattle.rv_asm.specs.declared.part.Meaning.TheVariants.{Inner, Outer}
use Rattle.cmm_program.specs.declared.procedure.Proc.{Proc}
use Rattle.cmm_program.specs.declared.program.Program.{Program}
use Rattle.cmm_graph.specs.declared.graph.Graph.{Graph}
use Rattle.cmm_emit.proofs.Belonging.{first_label_grows}
use Rattle.cmm_emit.proofs.Making.{first_label_shift, first_none}
use Rattle.cmm_emit.proofs.Numbering.{inner_at, length-symbol_labels, symbol_at}
use Rattle.cmm_emit.specs.Contexts.{first_label}
use Rattle.cmm_unit_code.specs.declared.unit_code.Reference.{Reference}
use Rattle.cmm_emit.specs.Labels.{is_reached, symbol_labels}
use Rattle.cmm_emit.specs.LaidProcedures.{HaveLabels, HaveLabelsIn}
use Rattle.cmm_emit.specs.Outlines.{first_own, share}
use Rattle.cmm_emit.specs.declared.outline.Outline.{Outline}

left_at : {A : Type 0} (xs ys : List A) (n : ℕ) → n < length xs → slice_get (xs ++ ys) n ≡ slice_get xs n
left_at [] ys n less = absurd (omega (arith, less))
left_at (x ∷ xs) ys zero less = refl
left_at (x ∷ xs) ys (suc n) less = left_at xs ys n (omega (arith, less))

right_at : {A : Type 0} (xs ys : List A) (n : ℕ) → length xs ≤ n → slice_get (xs ++ ys) n ≡ slice_get ys (n - length xs)
right_at [] ys n less = let e : n - 0 ≡ n = omega arith in ap (λ (m : ℕ). slice_get ys m) (sym e)
right_at (x ∷ xs) ys zero less = absurd (omega (arith, less))
right_at (x ∷ xs) ys (suc n) less = let e : suc n - suc (length xs) ≡ n - length xs = omega arith in rw e (right_at xs ys n (omega (arith, less)))

module _ (procs : List Proc) (graphs : List Graph) (o : Outline) (count : ℕ) (counted : length procs ≡ count) (labels : List Meaning)
    (is : labels ≡ symbol_labels o.references ++ replicate (first_label 2 procs graphs count) (Inner false)) where
  abbrev total : ℕ
  total = first_label 2 procs graphs count

  abbrev symbol_count : ℕ
  symbol_count = length o.references

  abbrev left : List Meaning
  left = symbol_labels o.references

  abbrev right : List Meaning
  right = replicate total (Inner false)

  left_counted : length left ≡ symbol_count
  left_counted = length-symbol_labels o.references

  grows : 2 ≤ total
  grows = first_label_grows 2 procs graphs count

  labels_counted : length labels ≡ symbol_count + total
  labels_counted =
      omega (
        arith,
        ap (λ (ms : List Meaning). length ms) is,
        length-append left right,
        left_counted,
        length-replicate total (Inner false),
      )

  symbol_is : (k : ℕ) (r : Reference) → slice_get o.references k ≡ Some r → slice_get labels k ≡ Some (Outer k (is_reached r))
  symbol_is k r there =
      ap (λ (ms : List Meaning). slice_get ms k) is
      ∙ (left_at left right k (omega (arith, slice_get_within o.references k r there, left_counted)) ∙ symbol_at o.references k r there)

  free : (k : ℕ) → symbol_count ≤ k → k < symbol_count + total → slice_get labels k ≡ Some (Inner false)
  free k least less =
      ap (λ (ms : List Meaning). slice_get ms k) is
      ∙ (right_at left right k (omega (arith, least, left_counted)) ∙ inner_at total (k - length left) (omega (arith, least, less, left_counted)))

  all_counted : length labels ≡ first_label (first_own o) procs graphs (length procs)
  all_counted = labels_counted ∙ (sym (first_label_shift symbol_count 2 procs graphs count) ∙ ap (λ (n : ℕ). first_label (first_own o) procs graphs n) (sym counted))

  pub have_labels : HaveLabels procs graphs o 0 labels
  have_labels = record {
    count = omega (arith, all_counted);
    symbols = symbol_is;
    limit = free symbol_count (omega arith) (omega (arith, grows));
    client = free (symbol_count + 1) (omega arith) (omega (arith, grows));
    inner = λ k least less. ap is_inner (get_or_from_slice_get labels k (Inner false) (Inner false) (free k least (omega (arith, less, labels_counted))));
    fresh = λ k least less. free k (let base = first_none (first_own o) procs graphs in omega (arith, least, base)) (omega (arith, less, labels_counted, all_counted));
  }

-- of the outline of a unit
pub have_labels_in : (p : Program) (graphs : List Graph) (first count : ℕ) (o : Outline) (labels : List Meaning) → o.first ≡ first → length o.contexts ≡ count →
    HaveLabels (share first count p.procs) (share first count graphs) o 0 labels → HaveLabelsIn p graphs o 0 labels
have_labels_in p graphs first count o labels from many have =
    subst (λ (n : ℕ). HaveLabels (share n (length o.contexts) p.procs) (share n (length o.contexts) graphs) o 0 labels) (sym from)
    (subst (λ (n : ℕ). HaveLabels (share first n p.procs) (share first n graphs) o 0 labels) (sym many) have)
