-- Codes of units, one behind another.
use Rattle.std.proofs.Common.{◌≡◌, ℕ, suc, ◌+◌, ◌<◌, ◌≤◌, ◌^◌, refl, sym, ap, ◌∙◌, subst, arith, List, [], ◌∷◌, ◌++◌, append-nil, append_assoc, add-zero, length, map, take, get_or, sum_by, Some, slice_get, All}
use Rattle.std.proofs.Math.Seq.{take-suc}
use Rattle.std.proofs.lemmas.List.{take_more}
use Rattle.std.proofs.lemmas.List.Elements.{All-weaker}
use Rattle.std.proofs.lemmas.List.Sums.{sum_by-cons, sum_by-take-le, sum_by_push}
use Rattle.std.proofs.lemmas.Option.{get_or_from_slice_get, slice_get_within}
use Rattle.rv_table.specs.Memory.{code_base}
use Rattle.rv_asm.specs.Filling.{filled}
use Rattle.rv_asm.specs.declared.filling.CodeFix.{CodeFix}
use Rattle.cmm_unit_code.specs.Joined.{IsWhole, joined_code, landing_addresses, procedure_addresses, site_addresses, symbol_value}
use Rattle.cmm_unit_code.specs.declared.unit_code.Reference.{Reference}
use Rattle.cmm_unit_code.specs.declared.unit_code.UnitCode.{UnitCode}

-- the fixes before the next index
pub next_fix : (fixes : List CodeFix) (i : ℕ) (f : CodeFix) → slice_get fixes i ≡ Some f → take (i + 1) fixes ≡ take i fixes ++ f ∷ []
next_fix fixes i f is =
    let e : i + 1 ≡ suc i = omega arith in
    rw (e, take-suc fixes i f (slice_get_within fixes i f is), get_or_from_slice_get fixes i f f is) refl

-- how long codes are together
abbrev pub size : List UnitCode → ℕ
size us = sum_by (λ u. length u.code) us

-- what is made of each unit at its address comes behind what is made of those before it
pushed : {B : Type 0} (of : ℕ → UnitCode → List B) (all : ℕ → List UnitCode → List B) → ((at : ℕ) → all at [] ≡ []) →
    ((at : ℕ) (u : UnitCode) (us : List UnitCode) → all at (u ∷ us) ≡ of at u ++ all (at + length u.code) us) → (at : ℕ) (us : List UnitCode) (u : UnitCode) →
    all at (us ++ u ∷ []) ≡ all at us ++ of (at + size us) u
pushed of all none more at [] u =
    more at u [] ∙ (ap (λ xs. of at u ++ xs) (none (at + length u.code)) ∙ (append-nil (of at u) ∙ (rw (none at, add-zero) refl)))
pushed of all none more at (v ∷ us) u =
    let e : at + length v.code + size us ≡ at + size (v ∷ us) = omega (arith, sum_by-cons (λ u. length u.code) v us) in
    more at v (us ++ u ∷ [])
    ∙ (ap (λ xs. of at v ++ xs) (pushed of all none more (at + length v.code) us u)
    ∙ (sym (append_assoc (of at v) (all (at + length v.code) us) (of (at + length v.code + size us) u))
    ∙ (ap (λ xs. xs ++ of (at + length v.code + size us) u) (sym (more at v us)) ∙ ap (λ n. all at (v ∷ us) ++ of n u) e)))

-- a unit at an index is the next after those before it
next_unit : (us : List UnitCode) (i : ℕ) (u : UnitCode) → i < length us → u ≡ get_or us i u → take (i + 1) us ≡ take i us ++ u ∷ []
next_unit us i u within is = take_more us i u within ∙ ap (λ v. take i us ++ v ∷ []) (sym is)

pub size_more : (us : List UnitCode) (i at : ℕ) (u : UnitCode) → i < length us → u ≡ get_or us i u → at ≡ code_base + size (take i us) →
    at + length u.code ≡ code_base + size (take (i + 1) us)
size_more us i at u within is so_far =
    let e : size (take (i + 1) us) ≡ size (take i us) + length u.code =
    ap size (next_unit us i u within is) ∙ sum_by_push (λ u. length u.code) (take i us) u in
    omega (arith, e, so_far)

-- what is made of the units up to an index, with what is made of the next one
more : {B : Type 0} (of : ℕ → UnitCode → List B) (all : ℕ → List UnitCode → List B) → ((at : ℕ) → all at [] ≡ []) →
    ((at : ℕ) (u : UnitCode) (us : List UnitCode) → all at (u ∷ us) ≡ of at u ++ all (at + length u.code) us) →
    (us : List UnitCode) (i at : ℕ) (u : UnitCode) (found next : List B) → i < length us → u ≡ get_or us i u → at ≡ code_base + size (take i us) →
    found ≡ all code_base (take i us) → next ≡ found ++ of at u → next ≡ all code_base (take (i + 1) us)
more of all none cons us i at u found next within is so_far before adds =
    adds
    ∙ (ap (λ xs. xs ++ of at u) before
    ∙ (ap (λ n. all code_base (take i us) ++ of n u) so_far
    ∙ (sym (pushed of all none cons code_base (take i us) u) ∙ ap (all code_base) (sym (next_unit us i u within is)))))

pub procedures_more : (us : List UnitCode) (i at : ℕ) (u : UnitCode) (found next : List ℕ) → i < length us → u ≡ get_or us i u → at ≡ code_base + size (take i us) →
    found ≡ procedure_addresses code_base (take i us) → next ≡ found ++ map (λ offset. at + offset) u.procedures → next ≡ procedure_addresses code_base (take (i + 1) us)
procedures_more = more (λ at u. map (λ offset. at + offset) u.procedures) procedure_addresses (λ at. refl) (λ at u us. refl)

pub landings_more : (us : List UnitCode) (i at : ℕ) (u : UnitCode) (found next : List (List ℕ)) → i < length us → u ≡ get_or us i u → at ≡ code_base + size (take i us) →
    found ≡ landing_addresses code_base (take i us) → next ≡ found ++ map (λ offsets. map (λ offset. at + offset) offsets) u.landings →
    next ≡ landing_addresses code_base (take (i + 1) us)
landings_more = more (λ at u. map (λ offsets. map (λ offset. at + offset) offsets) u.landings) landing_addresses (λ at. refl) (λ at u us. refl)

pub sites_more : (us : List UnitCode) (i at : ℕ) (u : UnitCode) (found next : List (List ℕ)) → i < length us → u ≡ get_or us i u → at ≡ code_base + size (take i us) →
    found ≡ site_addresses code_base (take i us) → next ≡ found ++ map (λ offsets. map (λ offset. at + offset) offsets) u.sites →
    next ≡ site_addresses code_base (take (i + 1) us)
sites_more = more (λ at u. map (λ offsets. map (λ offset. at + offset) offsets) u.sites) site_addresses (λ at. refl) (λ at u us. refl)

pub code_pushed : (value : Reference → ℕ) (us : List UnitCode) (u : UnitCode) →
    joined_code value code_base (us ++ u ∷ []) ≡ joined_code value code_base us ++ filled (symbol_value value u.references) (code_base + size us) u.fixes u.code
code_pushed value = pushed (λ at u. filled (symbol_value value u.references) at u.fixes u.code) (joined_code value) (λ at. refl) (λ at u us. refl) code_base

-- the landings, or the sites, of a unit that ends below a bound have addresses below it
pub lists_within : (us : List UnitCode) (i at : ℕ) (u : UnitCode) → All IsWhole us → code_base + size us ≤ 2 ^ 30 → i < length us → u ≡ get_or us i u →
    at ≡ code_base + size (take i us) → (lists : List (List ℕ)) → (IsWhole u → All (All (λ offset. offset ≤ length u.code)) lists) →
    All (All (λ offset. at + offset ≤ 2 ^ 30)) lists
lists_within us i at u whole room within is so_far lists of_whole =
    let fits : at + length u.code ≤ 2 ^ 30 =
    let less = sum_by-take-le (λ u. length u.code) us (i + 1) in
    let more = size_more us i at u within is so_far in
    omega (arith, less, more, room)
    in
    All-weaker (All (λ offset. offset ≤ length u.code)) (All (λ offset. at + offset ≤ 2 ^ 30))
    (λ offsets. All-weaker (λ offset. offset ≤ length u.code) (λ offset. at + offset ≤ 2 ^ 30) (λ offset less. omega (arith, less, fits)) offsets)
    lists (of_whole (subst IsWhole (sym is) (whole i u within)))
