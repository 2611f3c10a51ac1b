-- Reading the bits of a site, and merging the places that sites give.
use Rattle.std.proofs.Common.{◌≡◌, ℕ, suc, ◌+◌, ◌/◌, ◌%◌, ◌<◌, ◌||◌, ◌&&◌, Bool, true, false, IsTrue, nat_eq, List, [], ◌∷◌, ◌++◌, length, take, drop, slice_index_or, Ok, Err, refl, sym, ap, ◌∙◌, append_assoc, add-one, drop-cons, subst, min, arith, inl, inr}
use Rattle.std.proofs.lemmas.Bool.{cases_lt}
use Rattle.std.proofs.lemmas.List.{append-nil, drop_all, length-drop, take-append-drop, take_all}
use Rattle.cmm_format.specs.Formats.{◌>>=◌, Front, ◌when◌}
use Rattle.cmm_format.proofs.Shared.{with_front}
use Rattle.cmm_format.specs.Reading.{Reads}
use Rattle.cmm_format.specs.declared.fault.Unread.{Unread}
use Rattle.cmm_format.specs.declared.fault.Unread.TheVariants.{Breaks, Memory}
use Rattle.cmm_image.specs.declared.rows.VariablePlace.{VariablePlace}
use Rattle.cmm_image.specs.ImageFormat.{formed, u8}
use Rattle.cmm_image.specs.SecondFormat.{is_live, is_mask, live_places, mask_count, masked, masks, or_places}

-- ---- places that are merged up to a number

abbrev pub or_behind : ℕ → List VariablePlace → List VariablePlace → List VariablePlace
or_behind n known ps = take n known ++ or_places (drop n known) ps

or_none : (known : List VariablePlace) → or_places known [] ≡ known
or_none [] = refl
or_none (k ∷ known) = refl

pub behind_all : (n : ℕ) (known : List VariablePlace) → or_behind n known [] ≡ known
behind_all n known = ap (λ (xs : List VariablePlace). take n known ++ xs) (or_none (drop n known)) ∙ take-append-drop n known

-- ---- bits, a byte for eight variables

-- the byte at the front, and the places that it gives
abbrev bits_at : List VariablePlace → List ℕ → Front ℕ
bits_at group bytes = (u8 when (formed (is_mask group) ∷ [])).at bytes

counts : (places : List VariablePlace) → 0 < length places → mask_count (length places) ≡ suc (mask_count (length (drop 8 places)))
counts places some = omega (arith, length-drop 8 places, some)

abbrev paired : List VariablePlace → List VariablePlace × List ℕ → Front (List VariablePlace × List VariablePlace)
paired group x = Ok ((group, x.0), x.1)

abbrev together : (List VariablePlace × List VariablePlace) × List ℕ → Front (List VariablePlace)
together x = Ok (x.0.0 ++ x.0.1, x.1)

-- all places, where those so far are these
joined : (front group : List VariablePlace) (read : Front (List VariablePlace)) →
    with_front front ((read >>= paired group) >>= together) ≡ with_front (front ++ group) read
joined front group (Ok x) = ap (λ (xs : List VariablePlace). Ok (xs, x.1)) (sym (append_assoc front group x.0))
joined front group (Err b) = refl

-- the first eight, or all where there are fewer, and the others
pub groups : (places : List VariablePlace) (m : ℕ) → m ≡ min (length places) 8 → (take m places ≡ take 8 places) × (drop m places ≡ drop 8 places)
groups places m is =
    elim (cases_lt (length places) 8) [
      | inl few ↦
          (let all : m ≡ length places = omega (arith, is, few) in
          (take_all m places (omega (arith, all)) ∙ sym (take_all 8 places (omega (arith, few))), drop_all m places (omega (arith, all)) ∙ sym (drop_all 8 places (omega (arith, few)))))
      | inr many ↦
          (let eight : m ≡ 8 = omega (arith, is, many) in (ap (λ (n : ℕ). take n places) eight, ap (λ (n : ℕ). drop n places) eight))
    ]

module _ (front places group others : List VariablePlace) (m : ℕ) (some : 0 < length places) (is : m ≡ min (length places) 8) (first : group ≡ take m places) (more : others ≡ drop m places) where
  group_is : group ≡ take 8 places
  group_is = first ∙ (groups places m is).0

  others_are : others ≡ drop 8 places
  others_are = more ∙ (groups places m is).1

  pub next_places : (bytes : List ℕ) (bits : ℕ) (after : List ℕ) (total : Front (List VariablePlace)) →
      bits_at group bytes ≡ Ok (bits, after) → with_front front ((live_places places).at bytes) ≡ total →
      with_front (front ++ masked group bits) ((live_places others).at after) ≡ total
  next_places bytes bits after total read so_far =
      let read8 : bits_at (take 8 places) bytes ≡ Ok (bits, after) = subst (λ (g : List VariablePlace). bits_at g bytes ≡ Ok (bits, after)) group_is read in
      let step : (masks (suc (mask_count (length (drop 8 places)))) places).at bytes
      ≡ (((live_places (drop 8 places)).at after >>= paired (masked (take 8 places) bits)) >>= together) = rw read8 refl in
      let whole : with_front (front ++ masked (take 8 places) bits) ((live_places (drop 8 places)).at after) ≡ total =
      sym (joined front (masked (take 8 places) bits) ((live_places (drop 8 places)).at after)) ∙ ap (with_front front) (sym step)
      ∙ ap (λ (n : ℕ). with_front front ((masks n places).at bytes)) (sym (counts places some)) ∙ so_far in
      subst (λ (g : List VariablePlace). with_front (front ++ masked g bits) ((live_places others).at after) ≡ total) (sym group_is)
      (subst (λ (o : List VariablePlace). with_front (front ++ masked (take 8 places) bits) ((live_places o).at after) ≡ total) (sym others_are) whole)

  pub broken_places : (e : Unread) (bytes left end : List ℕ) (total : Front (List VariablePlace)) →
      Reads {A = ℕ} (Err e) (bits_at group bytes) left → with_front front ((live_places places).at bytes) ≡ total → Reads {A = List VariablePlace} (Err e) total end
  broken_places Memory bytes left end total read so_far = tt
  broken_places (Breaks b) bytes left end total read so_far =
      let read8 : bits_at (take 8 places) bytes ≡ Err b = subst (λ (g : List VariablePlace). bits_at g bytes ≡ Err b) group_is read in
      let step : (masks (suc (mask_count (length (drop 8 places)))) places).at bytes ≡ Err b = rw read8 refl in
      sym so_far ∙ ap (λ (n : ℕ). with_front front ((masks n places).at bytes)) (counts places some) ∙ ap (with_front front) step

pub all_places : (front : List VariablePlace) (bytes : List ℕ) (total : Front (List VariablePlace)) → with_front front ((live_places []).at bytes) ≡ total → total ≡ Ok (front, bytes)
all_places front bytes total so_far = sym so_far ∙ ap (λ (xs : List VariablePlace). Ok (xs, bytes)) (append-nil front)

-- ---- bits, one variable after another

at_front : (ps : List VariablePlace) (k : ℕ) (d : VariablePlace) → k < length ps → drop k ps ≡ slice_index_or ps k d ∷ drop (k + 1) ps
at_front ps k d less = drop-cons ps k d less ∙ ap (λ (n : ℕ). slice_index_or ps k d ∷ drop n ps) (sym (add-one k))

pub mask_next : (r : Bool) (ps : List VariablePlace) (k : ℕ) (d : VariablePlace) (bits : ℕ) → k < length ps → IsTrue (is_live (slice_index_or ps k d) || nat_eq (bits % 2) 0) →
    r ≡ is_mask (drop k ps) bits → r ≡ is_mask (drop (k + 1) ps) (bits / 2)
mask_next r ps k d bits less fits so_far =
    let e : is_mask (drop k ps) bits ≡ ((is_live (slice_index_or ps k d) || nat_eq (bits % 2) 0) && is_mask (drop (k + 1) ps) (bits / 2)) =
    ap (λ (qs : List VariablePlace). is_mask qs bits) (at_front ps k d less) in
    so_far ∙ e ∙ and_right (is_live (slice_index_or ps k d) || nat_eq (bits % 2) 0) (is_mask (drop (k + 1) ps) (bits / 2)) fits
  where
    and_right : (a b : Bool) → IsTrue a → (a && b) ≡ b
    and_right true b h = refl
    and_right false b h = absurd cc
