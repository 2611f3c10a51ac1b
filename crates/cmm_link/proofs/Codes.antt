-- Data is filled the same by codes as by the placement that has them.
use Rattle.std.proofs.Common.{◌≡◌, ℕ, zero, suc, ◌+◌, ◌<◌, ◌≤◌, Some, take, List, [], ◌∷◌, length, refl, ap, sym, ◌∙◌, arith}
use Rattle.std.proofs.lemmas.List.{take_more}
use Rattle.std.specs.Prelude.{slice_get, slice_index, slice_index_or}
use Rattle.cmm_program.specs.declared.placement.Placement.{Placement}
use Rattle.cmm_program.specs.declared.placement.PlaceRow.{PlaceRow}
use Rattle.cmm_program.specs.declared.procedure.Proc.{Proc}
use Rattle.cmm_data.specs.declared.fix.Fix.{Fix}
use Rattle.cmm_data.specs.Laws.{FixesAreFilled}
use Rattle.cmm_data.specs.Filling.{AreApart, code_in, filled, fix_value, with_value}
use Rattle.cmm_allocate.specs.declared.procedure.ProcedurePlaces.{ProcedurePlaces}
use Rattle.cmm_allocate.specs.Placing.{placement_rows}
use Rattle.cmm_link.specs.Linked.{HaveFrames}

abbrev pub no_row : PlaceRow
no_row = record { code = 0; frame = 0; pairs = []; stack = [] }

pub code_at : (places : List ProcedurePlaces) (codes : List ℕ) (q : ℕ) → length codes ≡ length places → (slice_index_or (placement_rows places codes) q no_row).code ≡ slice_index codes q
code_at [] [] q same = refl
code_at [] (code ∷ codes) q same = absurd (omega (arith, same))
code_at (k ∷ places) [] q same = absurd (omega (arith, same))
code_at (k ∷ places) (code ∷ codes) zero same = refl
code_at (k ∷ places) (code ∷ codes) (suc q) same = code_at places codes q (omega (arith, same))

pub filled_same : (f g : ℕ → ℕ) (fixes : List Fix) (bytes : List ℕ) → ((q : ℕ) → f q ≡ g q) → filled f fixes bytes ≡ filled g fixes bytes
filled_same f g [] bytes same = refl
filled_same f g (x ∷ fixes) bytes same =
    ap (λ (code : ℕ). filled f fixes (with_value (fix_value code x) x.place bytes)) (same x.procedure)
    ∙ filled_same f g fixes (with_value (fix_value (g x.procedure) x) x.place bytes) same

pub places_counted : (procs : List Proc) (places : List ProcedurePlaces) → HaveFrames procs places → length places ≡ length procs
places_counted [] [] frames = refl
places_counted [] (k ∷ places) frames = elim frames [ ]
places_counted (q ∷ procs) [] frames = elim frames [ ]
places_counted (q ∷ procs) (k ∷ places) frames = ap (λ (n : ℕ). suc n) (places_counted procs places frames.1)

-- where the placement has these codes
pub filled_by_placement : (places : List ProcedurePlaces) (codes : List ℕ) (placement : Placement) (fixes : List Fix) (bytes : List ℕ) → length codes ≡ length places →
    placement.rows ≡ placement_rows places codes → filled (λ q. slice_index codes q) fixes bytes ≡ filled (code_in placement) fixes bytes
filled_by_placement places codes placement fixes bytes same rows =
    filled_same (λ q. slice_index codes q) (code_in placement) fixes bytes
    (λ q. sym (ap (λ (rows : List PlaceRow). (slice_index_or rows q no_row).code) rows ∙ code_at places codes q same))

-- ---- one fix after another

get_some : {A : Type 0} (xs : List A) (i : ℕ) (d : A) → i < length xs → slice_get xs i ≡ Some (slice_index_or xs i d)
get_some [] i d less = absurd (omega arith)
get_some (x ∷ xs) zero d less = refl
get_some (x ∷ xs) (suc i) d less = get_some xs i d (omega arith)

-- the next fix is filled in what those before it have left
pub filled_more : FixesAreFilled → (code : ℕ → ℕ) (fixes : List Fix) (i : ℕ) (d : Fix) (start now then_ : List ℕ) (value : ℕ) → i < length fixes →
    AreApart 0 fixes (length start) → value ≡ code (slice_index_or fixes i d).procedure → now ≡ filled code (take i fixes) start → length now ≡ length start →
    then_ ≡ with_value (fix_value value (slice_index_or fixes i d)) (slice_index_or fixes i d).place now →
    (then_ ≡ filled code (take (i + 1) fixes) start) × (length then_ ≡ length start)
filled_more laws code fixes i d start now then_ value less apart is so_far as_long next =
    let f = slice_index_or fixes i d in
    let inside : f.place + 8 ≤ length start = laws.within 0 (length start) i fixes f apart (get_some fixes i d less) in (
      next
          ∙ ap (λ (value : ℕ). with_value (fix_value value f) f.place now) is
          ∙ ap (with_value (fix_value (code f.procedure) f) f.place) so_far
          ∙ sym (laws.more code (take i fixes) f start)
          ∙ ap (λ (fixes : List Fix). filled code fixes start) (sym (take_more fixes i d less)),
      ap (λ (bytes : List ℕ). length bytes) next ∙ laws.kept (fix_value value f) f.place now (omega (arith, inside, as_long)) ∙ as_long,
    )
