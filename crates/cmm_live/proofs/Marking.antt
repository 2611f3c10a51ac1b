-- The steps of a loop that makes locals members of a set or takes them away, and what two of them come to.
use Rattle.std.proofs.Common.{◌≡◌, ℕ, ◌+◌, ◌<◌, inl, inr, Bool, true, false, List, [], ◌∷◌, ◌++◌, length, get_or, set, take, refl, sym, ◌∙◌, ap, subst, arith}
use Rattle.std.specs.Prelude.{Contains, IsTrue}
use Rattle.std.proofs.lemmas.Bool.{cases_eq, ltb-true}
use Rattle.std.proofs.lemmas.List.{length-set, take_more}
use Rattle.std.proofs.lemmas.List.Elements.{Contains-append_left, Contains-push, Contains-push_cases}
use Rattle.cmm_bitset.specs.Sets.{has}
use Rattle.cmm_bitset.proofs.Shared.{has-set_same, has-set_other}
use Rattle.cmm_graph.specs.declared.operand.Local.{Local}
use Rattle.cmm_graph.specs.declared.operand.Local.TheVariants as local
use Rattle.cmm_graph.specs.declared.graph.Graph.{Graph}
use Rattle.cmm_graph.specs.Ranges.{is_local}
use Rattle.cmm_live.specs.Locals.{local_number, local_count}
use Rattle.cmm_live.specs.inside.Marking.{Marked}

-- a local of the graph has a number below the count
pub number_below : (g : Graph) (l : Local) → IsTrue (is_local g l) → local_number g l < local_count g
number_below g (local.Variable v) within = let low = ltb-true v.number g.variables within in omega arith
number_below g (local.Temporary t) within = let low = ltb-true t.number g.temporaries within in omega arith

-- and no two have one number
pub same_local : (g : Graph) (l m : Local) → IsTrue (is_local g l) → IsTrue (is_local g m) → local_number g l ≡ local_number g m → l ≡ m
same_local g (local.Variable v) (local.Variable w) in_l in_m same = ap (λ n. local.Variable (record { number = n })) same
same_local g (local.Variable v) (local.Temporary t) in_l in_m same = let low = ltb-true v.number g.variables in_l in absurd (omega arith)
same_local g (local.Temporary t) (local.Variable v) in_l in_m same = let low = ltb-true v.number g.variables in_m in absurd (omega arith)
same_local g (local.Temporary t) (local.Temporary u) in_l in_m same =
    let number : t.number ≡ u.number = omega arith in ap (λ n. local.Temporary (record { number = n })) number

module _ (g : Graph) (old : List Bool) (value : Bool) where
  pub marked_none : Marked g old old [] value
  marked_none = record { size = refl; each = λ l _. inr ((λ found. absurd (omega (arith, found.1))), refl) }

  -- one more local, which the graph has
  marked_push : (new : List Bool) (locals : List Local) (x : Local) → Marked g old new locals value → IsTrue (is_local g x) →
      length old ≡ local_count g → Marked g old (set new (local_number g x) value) (locals ++ x ∷ []) value
  marked_push new locals x so_far in_x sized = record {
    size = length-set new (local_number g x) value ∙ so_far.size;
    each = λ l in_l. elim (cases_eq (local_number g l) (local_number g x)) [
      | inl here ↦
          let same : l ≡ x = same_local g l x in_l in_x here in
          let low : local_number g x < length new = omega (arith, number_below g x in_x, so_far.size) in
          let P : Local → Type 0 = λ y. Contains (locals ++ x ∷ []) y in
          inl (
            subst P (sym same) (Contains-push locals x),
            ap (has (set new (local_number g x) value)) here ∙ has-set_same new (local_number g x) value low,
          )
      | inr other ↦
          let kept = has-set_other new (local_number g x) (local_number g l) value other in
          elim (so_far.each l in_l) [
            | inl was ↦ inl (Contains-append_left locals (x ∷ []) l was.0, kept ∙ was.1)
            | inr was ↦ inr (
              (λ found. elim (Contains-push_cases locals x l found) [
                | inl before ↦ was.0 before
                | inr last ↦ other (ap (local_number g) (sym last))
              ]),
              kept ∙ was.1,
            )
          ]
    ];
  }

  -- one more local, which the graph lacks
  marked_lack : (new : List Bool) (locals : List Local) (x : Local) → Marked g old new locals value → is_local g x ≡ false →
      Marked g old new (locals ++ x ∷ []) value
  marked_lack new locals x so_far out = record {
    size = so_far.size;
    each = λ l in_l. elim (so_far.each l in_l) [
      | inl was ↦ inl (Contains-append_left locals (x ∷ []) l was.0, was.1)
      | inr was ↦ inr (
        (λ found. elim (Contains-push_cases locals x l found) [
          | inl before ↦ was.0 before
          | inr last ↦ let clash : true ≡ false = sym in_l ∙ ap (is_local g) (sym last) ∙ out in cc
        ]),
        was.1,
      )
    ];
  }

  pub marked_more : (new : List Bool) (locals : List Local) (i : ℕ) (x : Local) → i < length locals → x ≡ get_or locals i x →
      length old ≡ local_count g → Marked g old new (take i locals) value → IsTrue (is_local g x) →
      Marked g old (set new (local_number g x) value) (take (i + 1) locals) value
  marked_more new locals i x low is sized so_far in_x =
      let next : take (i + 1) locals ≡ take i locals ++ x ∷ [] = take_more locals i x low ∙ ap (λ y. take i locals ++ y ∷ []) (sym is) in
      rw next (marked_push new (take i locals) x so_far in_x sized)

  pub marked_skip : (new : List Bool) (locals : List Local) (i : ℕ) (x : Local) → i < length locals → x ≡ get_or locals i x →
      Marked g old new (take i locals) value → is_local g x ≡ false → Marked g old new (take (i + 1) locals) value
  marked_skip new locals i x low is so_far out =
      let next : take (i + 1) locals ≡ take i locals ++ x ∷ [] = take_more locals i x low ∙ ap (λ y. take i locals ++ y ∷ []) (sym is) in
      rw next (marked_lack new (take i locals) x so_far out)

  -- one step of the loop, where a local has a number
  pub marked_at : (new next : List Bool) (locals : List Local) (i n : ℕ) (x : Local) → i < length locals → x ≡ get_or locals i x →
      length old ≡ local_count g → Marked g old new (take i locals) value → (is_local g x ≡ true) × (n ≡ local_number g x) →
      next ≡ set new n value → Marked g old next (take (i + 1) locals) value
  marked_at new next locals i n x low is sized so_far number becomes =
      let there : next ≡ set new (local_number g x) value = becomes ∙ ap (λ k. set new k value) number.1 in
      let P : List Bool → Type 0 = λ s. Marked g old s (take (i + 1) locals) value in
      subst P (sym there) (marked_more new locals i x low is sized so_far number.0)
