-- What a unit names has labels in its outline.
use Rattle.std.proofs.Common.{◌≡◌, ◌⊎◌, inl, inr, ℕ, ◌+◌, ◌-◌, ◌<◌, ◌≤◌, refl, sym, ◌∙◌, ap, subst, arith, Bool, true, false, List, length, get_or, Option, Some, None, slice_get}
use Rattle.std.specs.Prelude.{◌&&◌, is_some, nat_le, nat_lt, not}
use Rattle.std.proofs.lemmas.Bool.{and_from, and_left, and_right, not_from_false}
use Rattle.std.proofs.lemmas.Bool.Decides.{nat_tests}
use Rattle.std.proofs.lemmas.List.{get_or_past}
use Rattle.std.proofs.lemmas.List.Folds.{list_any_at}
use Rattle.std.proofs.lemmas.Option.{get_or_from_slice_get, slice_get_within}
use Rattle.rv_asm.specs.declared.part.Label.{Label as CodeLabel}
use Rattle.cmm_program.specs.declared.procedure.Proc.{Proc}
use Rattle.cmm_program.specs.declared.program.Program.{Program}
use Rattle.cmm_graph.specs.declared.graph.Graph.{Graph}
use Rattle.cmm_allocate.specs.declared.procedure.ProcedurePlaces.{ProcedurePlaces}
use Rattle.cmm_unit_code.specs.declared.unit_code.Reference.{Reference}
use Rattle.cmm_unit_code.specs.declared.unit_code.Reference.TheVariants.{Register, Label, Procedure}
use Rattle.cmm_emit.specs.declared.context.Targets.{Targets}
use Rattle.cmm_emit.proofs.Owning.{length-with_own, own_before, own_behind, own_within}
use Rattle.cmm_emit.specs.Mentions.{graph_names, graphs_name, is_own, is_reference}
use Rattle.cmm_emit.specs.Naming.{has_named, label_at, named_at}
use Rattle.cmm_emit.specs.Outlines.{IsOutline, with_own}
use Rattle.cmm_emit.specs.Symbols.{AreLabelsOf}
use Rattle.cmm_emit.specs.declared.outline.Outline.{Outline}

-- what is named has a label
pub named_is : (labels : List (Option CodeLabel)) (n : ℕ) → has_named labels n ≡ true → get_or labels n None ≡ Some (named_at labels n)
named_is labels n has = by (get_or labels n None) refl has
  where
    by : (o : Option CodeLabel) → get_or labels n None ≡ o → is_some o ≡ true →
        o ≡ Some (elim o as (λ _. CodeLabel) [ Some l ↦ l | None ↦ record { number = 0 } ])
    by (Some l) is there = refl
    by None is there = absurd (cc)

-- so one that is there is named
pub named_from : (labels : List (Option CodeLabel)) (n : ℕ) (l : CodeLabel) → get_or labels n None ≡ Some l → (has_named labels n ≡ true) × (named_at labels n ≡ l)
named_from labels n l is = (
  ap (λ (o : Option CodeLabel). is_some o) is,
  ap (λ (o : Option CodeLabel). elim o as (λ _. CodeLabel) [ Some z ↦ z | None ↦ record { number = 0 } ]) is,
)

-- and it is one of the list
pub named_within : (labels : List (Option CodeLabel)) (n : ℕ) → has_named labels n ≡ true → n < length labels
named_within labels n has = by (nat_lt n (length labels)) refl
  where
    by : (b : Bool) → nat_lt n (length labels) ≡ b → n < length labels
    by true less = grind (arith, nat_tests, less)
    by false past =
        let out : length labels ≤ n = grind (arith, nat_tests, past) in
        absurd (let none = get_or_past labels n None out in let some = named_is labels n has in cc)

-- a number of a program
abbrev pub IsIn : Program → Reference → Type 0
IsIn p (Register n) = n < length p.globals
IsIn p (Label n) = n < length p.labels
IsIn p (Procedure n) = n < length p.procs

abbrev pub has_label : Targets → Reference → Bool
has_label y (Register n) = has_named y.registers n
has_label y (Label n) = has_named y.data_labels n
has_label y (Procedure n) = has_named y.procedures n

module _ (p : Program) (procs : List Proc) (graphs : List Graph) (found : List ProcedurePlaces) (o : Outline) (outline : IsOutline p procs graphs found o)
    (entries_counted : length o.entries ≡ length procs) where
  abbrev others : List (Option CodeLabel)
  others = outline.symbols.procedures

  abbrev count : ℕ
  count = length procs

  fits : o.first + length o.entries ≤ length others
  fits =
      let within = outline.within in
      let counted = outline.are_symbols.procedures.counted in
      omega (arith, within, counted, entries_counted)

  pub procedures_counted : length o.targets.procedures ≡ length p.procs
  procedures_counted =
      ap (λ (ls : List (Option CodeLabel)). length ls) outline.procedures ∙ (length-with_own o.first o.entries others fits ∙ outline.are_symbols.procedures.counted)

  pub registers_counted : length o.targets.registers ≡ length p.globals
  registers_counted = ap (λ (ls : List (Option CodeLabel)). length ls) outline.registers ∙ outline.are_symbols.registers.counted

  -- ---- what a label is

  -- that of a data label, or of a global register, is the symbol of its reference
  pub register_label : (n : ℕ) → has_named o.targets.registers n ≡ true → slice_get o.references (named_at o.targets.registers n).number ≡ Some (Register n)
  register_label n has =
      ap (λ (rs : List Reference). slice_get rs (named_at o.targets.registers n).number) outline.references
      ∙ outline.are_symbols.registers.each n (named_at o.targets.registers n)
      (ap (λ (ls : List (Option CodeLabel)). get_or ls n None) (sym outline.registers) ∙ named_is o.targets.registers n has)

  pub data_label : (n : ℕ) → has_named o.targets.data_labels n ≡ true → slice_get o.references (named_at o.targets.data_labels n).number ≡ Some (Label n)
  data_label n has =
      ap (λ (rs : List Reference). slice_get rs (named_at o.targets.data_labels n).number) outline.references
      ∙ outline.are_symbols.data_labels.each n (named_at o.targets.data_labels n)
      (ap (λ (ls : List (Option CodeLabel)). get_or ls n None) (sym outline.data_labels) ∙ named_is o.targets.data_labels n has)

  -- that of a procedure of the unit stands in its code
  pub record IsOwn (n : ℕ) (l : CodeLabel) : Type 0 where
    pub number : ℕ
    pub is : o.first + number ≡ n
    pub inside : number < length o.entries
    pub label : l ≡ label_at o.entries number

  abbrev procedure : ℕ → CodeLabel
  procedure n = named_at o.targets.procedures n

  of_another : (n : ℕ) → has_named o.targets.procedures n ≡ true → get_or (with_own o.first o.entries others) n None ≡ get_or others n None →
      slice_get o.references (procedure n).number ≡ Some (Procedure n)
  of_another n has is =
      ap (λ (rs : List Reference). slice_get rs (procedure n).number) outline.references
      ∙ outline.are_symbols.procedures.each n (procedure n)
      (sym is ∙ (ap (λ (ls : List (Option CodeLabel)). get_or ls n None) (sym outline.procedures) ∙ named_is o.targets.procedures n has))

  pub procedure_label : (n : ℕ) → has_named o.targets.procedures n ≡ true → IsOwn n (procedure n) ⊎ (slice_get o.references (procedure n).number ≡ Some (Procedure n))
  procedure_label n has = by (grind arith)
    where
      then : o.first ≤ n → (n < o.first + length o.entries) ⊎ (o.first + length o.entries ≤ n) → IsOwn n (procedure n) ⊎ (slice_get o.references (procedure n).number ≡ Some (Procedure n))
      then least (inl less) =
          let k = n - o.first in
          let number : o.first + k ≡ n = omega (arith, least) in
          let inside : k < length o.entries = omega (arith, least, less) in
          let there : get_or o.targets.procedures n None ≡ Some (label_at o.entries k) =
          ap (λ (ls : List (Option CodeLabel)). get_or ls n None) outline.procedures
          ∙ (ap (λ (m : ℕ). get_or (with_own o.first o.entries others) m None) (sym number) ∙ own_within o.first o.entries others fits k inside) in
          inl (record { number = k; is = number; inside = inside; label = (named_from o.targets.procedures n (label_at o.entries k) there).1 })
      then least (inr far) = inr (of_another n has (own_behind o.first o.entries others fits n far))

      by : (n < o.first) ⊎ (o.first ≤ n) → IsOwn n (procedure n) ⊎ (slice_get o.references (procedure n).number ≡ Some (Procedure n))
      by (inl before) = inr (of_another n has (own_before o.first o.entries others fits n before))
      by (inr least) = then least (grind arith)

  -- ---- what is named has one

  module _ (k : ℕ) (g : Graph) (is : slice_get graphs k ≡ Some g) where
    named_by : (r : Reference) → graph_names r g ≡ true → graphs_name graphs r ≡ true
    named_by r names =
        list_any_at (graph_names r) graphs k g (slice_get_within graphs k g is)
        (ap (λ (h : Graph). graph_names r h) (get_or_from_slice_get graphs k g g is) ∙ names)

    reference : (r : Reference) → graph_names r g ≡ true → is_own o.first count r ≡ false → is_reference graphs o.first count r ≡ true
    reference r names other = and_from (graphs_name graphs r) (not (is_own o.first count r)) (named_by r names) (not_from_false (is_own o.first count r) other)

    other_there : (n : ℕ) → n < length p.procs → graph_names (Procedure n) g ≡ true → is_own o.first count (Procedure n) ≡ false →
        get_or (with_own o.first o.entries others) n None ≡ get_or others n None → has_named o.targets.procedures n ≡ true
    other_there n less names other same =
        ap (λ (ls : List (Option CodeLabel)). has_named ls n) outline.procedures
        ∙ (ap (λ (l : Option CodeLabel). is_some l) same ∙ outline.are_symbols.procedures.there n less (reference (Procedure n) names other))

    procedure_there : (n : ℕ) → n < length p.procs → graph_names (Procedure n) g ≡ true → has_named o.targets.procedures n ≡ true
    procedure_there n less names = by (grind arith)
      where
        then : o.first ≤ n → (n < o.first + length o.entries) ⊎ (o.first + length o.entries ≤ n) → has_named o.targets.procedures n ≡ true
        then least (inl inside) =
            let j = n - o.first in
            let number : o.first + j ≡ n = omega (arith, least) in
            let own : get_or (with_own o.first o.entries others) n None ≡ Some (label_at o.entries j) =
            ap (λ (m : ℕ). get_or (with_own o.first o.entries others) m None) (sym number) ∙ own_within o.first o.entries others fits j (omega (arith, least, inside)) in
            ap (λ (ls : List (Option CodeLabel)). has_named ls n) outline.procedures ∙ ap (λ (l : Option CodeLabel). is_some l) own
        then least (inr far) =
            let past : nat_lt n (o.first + count) ≡ false = let out : o.first + count ≤ n = omega (arith, far, entries_counted) in grind (arith, nat_tests, out) in
            other_there n less names (and_right (nat_le o.first n) (nat_lt n (o.first + count)) past) (own_behind o.first o.entries others fits n far)

        by : (n < o.first) ⊎ (o.first ≤ n) → has_named o.targets.procedures n ≡ true
        by (inl before) =
            let early : nat_le o.first n ≡ false = grind (arith, nat_tests, before) in
            other_there n less names (and_left (nat_le o.first n) (nat_lt n (o.first + count)) early) (own_before o.first o.entries others fits n before)
        by (inr least) = then least (grind arith)

    pub label_there : (r : Reference) → IsIn p r → graph_names r g ≡ true → has_label o.targets r ≡ true
    label_there (Register n) inside names =
        ap (λ (ls : List (Option CodeLabel)). has_named ls n) outline.registers ∙ outline.are_symbols.registers.there n inside (reference (Register n) names refl)
    label_there (Label n) inside names =
        ap (λ (ls : List (Option CodeLabel)). has_named ls n) outline.data_labels ∙ outline.are_symbols.data_labels.there n inside (reference (Label n) names refl)
    label_there (Procedure n) inside names = procedure_there n inside names
