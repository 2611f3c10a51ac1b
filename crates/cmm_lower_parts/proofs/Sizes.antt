-- What is laid out one after another is no longer than all of it.
use Rattle.std.proofs.Common.{◌≡◌, refl, ap, subst, ℕ, suc, ◌+◌, ◌^◌, ◌<◌, ◌≤◌, Bool, true, List, [], ◌∷◌, length, get_or, map, take, arith}
use Rattle.std.specs.Prelude.{IsTrue}
use Rattle.std.specs.List.{All, list_all}
use Rattle.std.proofs.lemmas.Bool.Decides.{nat_tests}
use Rattle.std.proofs.lemmas.List.Elements.{All-cons}
use Rattle.std.proofs.lemmas.List.{take_all}
use Rattle.cmm_program.specs.declared.procedure.Proc.{Proc}
use Rattle.cmm_program.specs.declared.procedure.StackItem.{StackItem}
use Rattle.cmm_program.specs.declared.program.Datum.{Datum}
use Rattle.cmm_program.specs.declared.program.Program.{Program}
use Rattle.cmm_program.specs.InRange.{IsInRange, IsProcInRange, is_datum, is_item}
use Rattle.cmm_program.specs.Layout.{Piece, aligned_up, datum_piece, end_of, item_piece, stackdata_size}
use Rattle.cmm_program.specs.Typing.{is_alignment}
use Rattle.rv_table.specs.Memory.{data_base}
use Rattle.cmm_program.proofs.Shared.{aligned_up-grows}
use Rattle.cmm_lower_parts.specs.Laws.{LengthsFit}

-- things that are laid out, each with an alignment of at least 1
module _ {A : Type 0} (piece : A → Piece) where
  end_grows : (place : ℕ) (xs : List A) → All (λ x. 0 < (piece x).align) xs → place ≤ end_of place (map piece xs)
  end_grows place [] all = omega arith
  end_grows place (x ∷ xs) all =
      omega (arith, aligned_up-grows (piece x).align place (all 0 x (omega arith)), end_grows (aligned_up (piece x).align place + (piece x).length) xs (λ k d inside. all (suc k) d (omega (arith, inside))))

  lengths_within : (place : ℕ) (xs : List A) → All (λ x. 0 < (piece x).align) xs → All (λ x. (piece x).length ≤ end_of place (map piece xs)) xs
  lengths_within place [] all = λ k d inside. absurd (omega (arith, inside))
  lengths_within place (x ∷ xs) all =
      let next = aligned_up (piece x).align place + (piece x).length in
      let rest : All (λ y. 0 < (piece y).align) xs = λ k d inside. all (suc k) d (omega (arith, inside)) in
      let grows = end_grows next xs rest in
      All-cons (λ y. (piece y).length ≤ end_of next (map piece xs)) x xs (omega (arith, grows)) (lengths_within next xs rest)

alignment_some : (n : ℕ) → is_alignment n ≡ true → 0 < n
alignment_some n is = grind (arith, nat_tests, is)

-- where a test holds of each, what follows from it does
all_from : {A : Type 0} (test : A → Bool) (P : A → Type 0) (xs : List A) → ((x : A) → IsTrue (test x) → P x) → IsTrue (list_all test xs) → All P xs
all_from test P [] follows all = λ k d inside. absurd (omega (arith, inside))
all_from test P (x ∷ xs) follows all =
    let first : IsTrue (test x) = grind (arith, nat_tests, all) in
    let rest : IsTrue (list_all test xs) = grind (arith, nat_tests, all) in
    All-cons P x xs (follows x first) (all_from test P xs follows rest)

datum_aligned : (p : Program) (d : Datum) → IsTrue (is_datum p d) → 0 < d.align
datum_aligned p d is = alignment_some d.align (grind (arith, nat_tests, is))

item_aligned : (i : StackItem) → IsTrue (is_item i) → 0 < i.align
item_aligned i is = alignment_some i.align (grind (arith, nat_tests, is))

pub stack_fits : (p : Program) (q : Proc) → IsProcInRange p q → All (λ i. i.length < 2 ^ 32) q.stack
stack_fits p q is = λ k d inside.
    let aligned = all_from is_item (λ (i : StackItem). 0 < i.align) q.stack item_aligned is.frames.items in
    let within : (get_or q.stack k d).length ≤ stackdata_size q.stack = lengths_within item_piece 0 q.stack aligned k d inside in
    let all : stackdata_size q.stack ≤ 65536 = is.frames.stackdata in
    omega (arith, within, all)

pub datums_fit : (p : Program) → IsInRange p → All (λ d. d.length < 2 ^ 32) p.datums
datums_fit p is = λ k d inside.
    let aligned = all_from (is_datum p) (λ (x : Datum). 0 < x.align) p.datums (datum_aligned p) is.datums in
    let within : (get_or p.datums k d).length ≤ end_of data_base (map datum_piece p.datums) = lengths_within datum_piece data_base p.datums aligned k d inside in
    let whole : end_of data_base (map datum_piece p.datums) ≤ data_base + 67108864 = subst (λ ps. end_of data_base ps ≤ data_base + 67108864) (taken (map datum_piece p.datums) (length p.datums) (same p.datums)) is.data_size in
    omega (arith, within, whole)
  where
    taken : (ps : List Piece) (n : ℕ) → n ≡ length ps → take n ps ≡ ps
    taken ps n e = take_all n ps (omega (arith, e))

    same : (ds : List Datum) → length ds ≡ length (map datum_piece ds)
    same [] = refl
    same (d ∷ ds) = ap suc (same ds)

pub programs_fit : (p : Program) → IsInRange p → LengthsFit p
programs_fit p is = record {
  datums = datums_fit p is;
  stackdata = λ k d inside. stack_fits p (get_or p.procs k d) (is.procedures k d inside);
}
