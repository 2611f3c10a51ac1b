-- Slots that stand without a gap, in the order of their locals.
use Rattle.std.proofs.Common.{◌≡◌, ℕ, zero, suc, ◌+◌, ◌*◌, ◌%◌, ◌<◌, ◌≤◌, ◌++◌, List, [], ◌∷◌, get_or, length, map, refl, ap, sym, ◌∙◌, arith, append_assoc, length-append}
use Rattle.std.proofs.lemmas.List.FromFn.{map-range_with_len_more}
use Rattle.std.proofs.Math.Nat.{max-le, mul-mod_right}
use Rattle.std.specs.List.{range_with_len}
use Rattle.cmm_chain.specs.declared.frame.Location.{Location}
use Rattle.cmm_chain.specs.declared.frame.Location.TheVariants.{Slot, Saved, Temp}
use Rattle.cmm_located.specs.Layouts.{slot_end, slot_offset, slot_offsets, slots_end}

-- slots from the number of words at which they begin
abbrev pub words : ℕ → ℕ → List ℕ
words first count = map (λ i. 8 * i) (range_with_len first count)

pub offsets_of_both : (xs ys : List Location) → slot_offsets (xs ++ ys) ≡ slot_offsets xs ++ slot_offsets ys
offsets_of_both [] ys = refl
offsets_of_both (x ∷ xs) ys = ap (λ l. slot_offset x ++ l) (offsets_of_both xs ys) ∙ sym (append_assoc (slot_offset x) (slot_offsets xs) (slot_offsets ys))

-- one more slot behind those that there are
pub one_more_slot : (locals : List Location) (offset : ℕ) → slot_offsets locals ≡ words 0 (length (slot_offsets locals)) → offset ≡ 8 * length (slot_offsets locals) →
    (slot_offsets (locals ++ Slot offset ∷ []) ≡ words 0 (length (slot_offsets (locals ++ Slot offset ∷ []))))
    × (offset + 8 ≡ 8 * length (slot_offsets (locals ++ Slot offset ∷ [])))
one_more_slot locals offset are is =
    let n = length (slot_offsets locals) in
    let now : slot_offsets (locals ++ Slot offset ∷ []) ≡ slot_offsets locals ++ offset ∷ [] = offsets_of_both locals (Slot offset ∷ []) in
    let count : length (slot_offsets (locals ++ Slot offset ∷ [])) ≡ n + 1 = ap (λ (l : List ℕ). length l) now ∙ length-append (slot_offsets locals) (offset ∷ []) in
    let more : words 0 (n + 1) ≡ words 0 n ++ 8 * n ∷ [] = map-range_with_len_more (λ i. 8 * i) 0 n n (omega arith) in (
      now ∙ (ap (λ l. l ++ offset ∷ []) are ∙ (ap (λ (o : ℕ). words 0 n ++ o ∷ []) is ∙ (sym more ∙ ap (words 0) (sym count)))),
      omega (arith, is, count),
    )

-- a register takes no slot
pub no_more_slot : (locals : List Location) (place : Location) → slot_offset place ≡ [] → slot_offsets (locals ++ place ∷ []) ≡ slot_offsets locals
no_more_slot locals place none =
    offsets_of_both locals (place ∷ []) ∙ (ap (λ l. slot_offsets locals ++ (l ++ [])) none ∙ append_nil (slot_offsets locals))
  where
    append_nil : (xs : List ℕ) → xs ++ [] ≡ xs
    append_nil [] = refl
    append_nil (x ∷ xs) = ap (λ l. x ∷ l) (append_nil xs)

-- each slot is at or behind the first
slot_from : (locals : List Location) (first : ℕ) (v offset : ℕ) (d : Location) → slot_offsets locals ≡ words first (length (slot_offsets locals)) → v < length locals →
    get_or locals v d ≡ Slot offset → 8 * first ≤ offset
slot_from [] first v offset d are less is = absurd (omega arith)
slot_from (Slot o ∷ ls) first zero offset d are less is = (let same : o ≡ offset = cc in let head : o ≡ 8 * first = cc (are) in omega (arith, same, head))
slot_from (Slot o ∷ ls) first (suc v) offset d are less is =
    (let tail : slot_offsets ls ≡ words (first + 1) (length (slot_offsets ls)) = cc (are) in
    let rest = slot_from ls (first + 1) v offset d tail (omega (arith, less)) is in omega (arith, rest))
slot_from (Saved r ∷ ls) first zero offset d are less is = absurd (cc (is))
slot_from (Saved r ∷ ls) first (suc v) offset d are less is = slot_from ls first v offset d are (omega (arith, less)) is
slot_from (Temp r ∷ ls) first zero offset d are less is = absurd (cc (is))
slot_from (Temp r ∷ ls) first (suc v) offset d are less is = slot_from ls first v offset d are (omega (arith, less)) is

-- each slot is at a multiple of 8
pub slot_even : (locals : List Location) (first v offset : ℕ) (d : Location) → slot_offsets locals ≡ words first (length (slot_offsets locals)) → v < length locals →
    get_or locals v d ≡ Slot offset → offset % 8 ≡ 0
slot_even [] first v offset d are less is = absurd (omega arith)
slot_even (Slot o ∷ ls) first zero offset d are less is =
    (let same : o ≡ offset = cc in let head : o ≡ 8 * first = cc (are) in ap (λ n. n % 8) (sym same ∙ head) ∙ mul-mod_right 8 first)
slot_even (Slot o ∷ ls) first (suc v) offset d are less is =
    (let tail : slot_offsets ls ≡ words (first + 1) (length (slot_offsets ls)) = cc (are) in slot_even ls (first + 1) v offset d tail (omega (arith, less)) is)
slot_even (Saved r ∷ ls) first zero offset d are less is = absurd (cc (is))
slot_even (Saved r ∷ ls) first (suc v) offset d are less is = slot_even ls first v offset d are (omega (arith, less)) is
slot_even (Temp r ∷ ls) first zero offset d are less is = absurd (cc (is))
slot_even (Temp r ∷ ls) first (suc v) offset d are less is = slot_even ls first v offset d are (omega (arith, less)) is

-- a later local has a later slot
pub slots_ordered : (locals : List Location) (first : ℕ) (v w a b : ℕ) (d : Location) → slot_offsets locals ≡ words first (length (slot_offsets locals)) → v < w →
    w < length locals → get_or locals v d ≡ Slot a → get_or locals w d ≡ Slot b → a < b
slots_ordered [] first v w a b d are less low is_v is_w = absurd (omega arith)
slots_ordered (l ∷ ls) first v zero a b d are less low is_v is_w = absurd (omega arith)
slots_ordered (Slot o ∷ ls) first zero (suc w) a b d are less low is_v is_w =
    (let tail : slot_offsets ls ≡ words (first + 1) (length (slot_offsets ls)) = cc (are) in
    let same : o ≡ a = cc in
    let head : o ≡ 8 * first = cc (are) in
    let rest = slot_from ls (first + 1) w b d tail (omega (arith, low)) is_w in omega (arith, rest, same, head))
slots_ordered (Saved r ∷ ls) first zero (suc w) a b d are less low is_v is_w = absurd (cc (is_v))
slots_ordered (Temp r ∷ ls) first zero (suc w) a b d are less low is_v is_w = absurd (cc (is_v))
slots_ordered (Slot o ∷ ls) first (suc v) (suc w) a b d are less low is_v is_w =
    (let tail : slot_offsets ls ≡ words (first + 1) (length (slot_offsets ls)) = cc (are) in
    slots_ordered ls (first + 1) v w a b d tail (omega (arith, less)) (omega (arith, low)) is_v is_w)
slots_ordered (Saved r ∷ ls) first (suc v) (suc w) a b d are less low is_v is_w = slots_ordered ls first v w a b d are (omega (arith, less)) (omega (arith, low)) is_v is_w
slots_ordered (Temp r ∷ ls) first (suc v) (suc w) a b d are less low is_v is_w = slots_ordered ls first v w a b d are (omega (arith, less)) (omega (arith, low)) is_v is_w

-- the slots end within 8 bytes a local
pub slots_end_from : (locals : List Location) (first : ℕ) → slot_offsets locals ≡ words first (length (slot_offsets locals)) → slots_end locals ≤ 8 * (first + length locals)
slots_end_from [] first are = omega arith
slots_end_from (Slot o ∷ ls) first are =
    let tail : slot_offsets ls ≡ words (first + 1) (length (slot_offsets ls)) = cc (are) in
    let head : o ≡ 8 * first = cc (are) in
    let rest = slots_end_from ls (first + 1) tail in
    let here : slot_end (Slot o) ≤ 8 * (first + suc (length ls)) = omega (arith, head) in
    let others : slots_end ls ≤ 8 * (first + suc (length ls)) = omega (arith, rest) in
    max-le here others
slots_end_from (Saved r ∷ ls) first are = let rest = slots_end_from ls first are in omega (arith, rest)
slots_end_from (Temp r ∷ ls) first are = let rest = slots_end_from ls first are in omega (arith, rest)

-- there are at most as many slots as locals
pub slots_few : (locals : List Location) → length (slot_offsets locals) ≤ length locals
slots_few [] = omega arith
slots_few (Slot o ∷ ls) = let rest = slots_few ls in omega (arith, rest)
slots_few (Saved r ∷ ls) = let rest = slots_few ls in omega (arith, rest)
slots_few (Temp r ∷ ls) = let rest = slots_few ls in omega (arith, rest)
