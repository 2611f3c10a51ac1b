-- Bytes that are stored where cells stand: they are shown, and all else that is shown stays.
use Rattle.std.proofs.Common.{◌≡◌, ◌⊎◌, inl, inr, ℕ, zero, suc, ◌+◌, ◌-◌, ◌*◌, ◌/◌, ◌%◌, ◌<◌, ◌≤◌, ◌^◌, refl, sym, ◌∙◌, ap, subst, arith, Bool, true, false, List, [], ◌∷◌, map}
use Rattle.std.specs.Prelude.{◌==◌, nat_le, nat_lt}
use Rattle.std.proofs.lemmas.Bool.Decides.{nat_tests}
use Rattle.std.proofs.Math.Nat.{div-one, div-div-eq-div-mul}
use Rattle.std.proofs.lemmas.Nat.{pow-add}
use Rattle.std.proofs.lemmas.Grind.{common_steps}
use Rattle.cmm_chain.specs.Contents.{Contents}
use Rattle.cmm_program.specs.Layout.{bytes_of}
use Rattle.cmm_program.specs.Memory.{Cell, Outside, Room, Memory, cell_at, with_byte_in, with_byte, with_bytes, rooms_of}
use Rattle.cmm_program.specs.Values.{is_there}
use Rattle.cmm_machine_laws.proofs.Shared.{read_after_write}
use Rattle.rv_table.proofs.Shared.{loaded-above, loaded-below, stored-outside}
use Rattle.rv_table.specs.Machine.{Region, loaded, stored}
use Rattle.cmm_emit_laws.specs.Words.{Symbols, Sits, RepresentsWords, RepresentsRoom, RepresentsRooms, RepresentsCells}
use Rattle.cmm_emit_laws.proofs.WrittenWords.{shown_same}

-- ---- one byte and then the others

abbrev pub with_one : ℕ → ℕ → (ℕ → ℕ) → ℕ → ℕ
with_one a x bytes k = elim (k == a) [ true ↦ x | false ↦ bytes k ]

-- the cell of a room at an address in it, once a byte was written
room_written : (room : Room) (bytes : ℕ → ℕ) (a x : ℕ) → RepresentsRoom room bytes → RepresentsRoom (with_byte_in room a x) (with_one a x bytes)
room_written room bytes a x shows k inside = grind (arith, nat_tests, common_steps, shows k)

rooms_written : (rooms : List Room) (bytes : ℕ → ℕ) (a x : ℕ) → RepresentsRooms rooms bytes → RepresentsRooms (map (λ room. with_byte_in room a x) rooms) (with_one a x bytes)
rooms_written [] bytes a x shows = tt
rooms_written (room ∷ rooms) bytes a x shows = (room_written room bytes a x shows.0, rooms_written rooms bytes a x shows.1)

rooms_alike : (rooms : List Room) (bytes bytes' : ℕ → ℕ) → ((k : ℕ) → bytes' k ≡ bytes k) → RepresentsRooms rooms bytes → RepresentsRooms rooms bytes'
rooms_alike [] bytes bytes' same shows = tt
rooms_alike (room ∷ rooms) bytes bytes' same shows =
    (λ k inside. rw (same k) (shows.0 k inside), rooms_alike rooms bytes bytes' same shows.1)

abbrev pub with_each : ℕ → List ℕ → (ℕ → ℕ) → ℕ → ℕ
with_each a [] bytes = bytes
with_each a (x ∷ xs) bytes = with_each (a + 1) xs (with_one a x bytes)

all_written : (memory : Memory) (a : ℕ) (xs : List ℕ) (bytes : ℕ → ℕ) → RepresentsCells memory bytes → RepresentsCells (with_bytes memory a xs) (with_each a xs bytes)
all_written memory a [] bytes shows = shows
all_written memory a (x ∷ xs) bytes shows =
    all_written (with_byte memory a x) (a + 1) xs (with_one a x bytes) (rooms_written (rooms_of memory) bytes a x shows)

-- ---- they are what one store leaves

stored_next : (bytes : ℕ → ℕ) (a n v k : ℕ) → stored (with_one a (v % 256) bytes) (a + 1) n (v / 256) k ≡ stored bytes a (suc n) v k
stored_next bytes a n v k = by (nat_lt k a) refl (k == a) refl (nat_lt k (a + suc n)) refl
  where
    by : (low : Bool) → nat_lt k a ≡ low → (here : Bool) → (k == a) ≡ here → (top : Bool) → nat_lt k (a + suc n) ≡ top →
        stored (with_one a (v % 256) bytes) (a + 1) n (v / 256) k ≡ stored bytes a (suc n) v k
    by true low here is top last =
        let less : k < a = grind (arith, nat_tests) in
        let differ : (k == a) ≡ false = grind (arith, nat_tests) in
        stored-outside (with_one a (v % 256) bytes) (a + 1) n (v / 256) k (inl (omega arith)) ∙ rw (with_one, differ) (sym (stored-outside bytes a (suc n) v k (inl less)))
    by false low true is top last =
        let e : k ≡ a = grind (arith, nat_tests) in
        let g : nat_le a k ≡ true = grind (arith, nat_tests) in
        let h : nat_lt k (a + suc n) ≡ true = grind (arith, nat_tests) in
        let z : k - a ≡ 0 = omega arith in
        stored-outside (with_one a (v % 256) bytes) (a + 1) n (v / 256) k (inl (omega arith)) ∙ rw (with_one, stored, g, h, z, is) (ap (λ (q : ℕ). q % 256) (sym (div-one v)))
    by false low false is false last =
        let above : a + suc n ≤ k = grind (arith, nat_tests) in
        stored-outside (with_one a (v % 256) bytes) (a + 1) n (v / 256) k (inr (omega arith)) ∙ rw (with_one, is) (sym (stored-outside bytes a (suc n) v k (inr above)))
    by false low false is true last =
        let g : nat_le a k ≡ true = grind (arith, nat_tests) in
        let g' : nat_le (a + 1) k ≡ true = grind (arith, nat_tests) in
        let h' : nat_lt k (a + 1 + n) ≡ true = grind (arith, nat_tests) in
        let e : k - a ≡ suc (k - (a + 1)) = grind (arith, nat_tests) in
        let d = k - (a + 1) in
        let p : 8 * suc d ≡ 8 + 8 * d = omega arith in
        let q : 2 ^ (8 * suc d) ≡ 256 * 2 ^ (8 * d) = ap (λ (i : ℕ). 2 ^ i) p ∙ pow-add 2 8 (8 * d) in
        rw (stored, g, g', h', last, e) (ap (λ (i : ℕ). i % 256) (div-div-eq-div-mul v 256 (2 ^ (8 * d)) ∙ ap (λ (i : ℕ). v / i) (sym q)))

all_is_stored : (size a v : ℕ) (bytes : ℕ → ℕ) (k : ℕ) → with_each a (bytes_of size v) bytes k ≡ stored bytes a size v k
all_is_stored zero a v bytes k = sym (nothing (nat_lt k a) refl)
  where
    nothing : (low : Bool) → nat_lt k a ≡ low → stored bytes a 0 v k ≡ bytes k
    nothing true low = stored-outside bytes a 0 v k (inl (grind (arith, nat_tests)))
    nothing false low = stored-outside bytes a 0 v k (inr (grind (arith, nat_tests)))
all_is_stored (suc n) a v bytes k = all_is_stored n (a + 1) (v / 256) (with_one a (v % 256) bytes) k ∙ stored_next bytes a n v k

-- bytes of memory and of the machine are written alike
pub cells_written : (memory : Memory) (a size v : ℕ) (bytes : ℕ → ℕ) → RepresentsCells memory bytes →
    RepresentsCells (with_bytes memory a (bytes_of size v)) (stored bytes a size v)
cells_written memory a size v bytes shows =
    let after = with_bytes memory a (bytes_of size v) in
    rooms_alike (rooms_of after) (with_each a (bytes_of size v) bytes) (stored bytes a size v) (λ k. sym (all_is_stored size a v bytes k))
    (all_written memory a (bytes_of size v) bytes shows)

-- ---- what stays

-- where nothing stands, nothing does after
pub still_outside : (memory : Memory) (a : ℕ) (xs : List ℕ) (k : ℕ) → cell_at memory k ≡ Outside → cell_at (with_bytes memory a xs) k ≡ Outside
still_outside memory a xs k is = read_after_write memory a xs k ∙ grind (arith, nat_tests, is)

pub sits_still : (r : Region) (memory : Memory) (a b : ℕ) (xs : List ℕ) → Sits r memory b → Sits r (with_bytes memory a xs) b
sits_still r memory a b xs sits = record {
  aligned = sits.aligned;
  low = sits.low;
  high = sits.high;
  apart = λ i less. still_outside memory a xs (b + i) (sits.apart i less);
}

-- where all cells of one stretch are there, and those of another are not, one ends before the other
pub stretches_apart : (memory : Memory) (a size b count : ℕ) → 1 ≤ size → 1 ≤ count → ((i : ℕ) → i < size → is_there (cell_at memory (a + i)) ≡ true) →
    ((i : ℕ) → i < count → cell_at memory (b + i) ≡ Outside) → (b + count ≤ a) ⊎ (a + size ≤ b)
stretches_apart memory a size b count some some' there lacks = by (nat_le (b + count) a) refl (nat_le (a + size) b) refl (nat_le a b) refl
  where
    never : (k : ℕ) → is_there (cell_at memory k) ≡ true → cell_at memory k ≡ Outside → ⊥
    never k is e = let h : is_there Outside ≡ true = subst (λ (c : Cell). is_there c ≡ true) e is in absurd (cc)

    by : (below : Bool) → nat_le (b + count) a ≡ below → (above : Bool) → nat_le (a + size) b ≡ above → (order : Bool) → nat_le a b ≡ order →
        (b + count ≤ a) ⊎ (a + size ≤ b)
    by true is above also order which = inl (grind (arith, nat_tests))
    by false is true also order which = inr (grind (arith, nat_tests))
    by false is false also true which =
        let e : a + (b - a) ≡ b + 0 = grind (arith, nat_tests) in
        absurd (never (b + 0) (subst (λ (k : ℕ). is_there (cell_at memory k) ≡ true) e (there (b - a) (grind (arith, nat_tests)))) (lacks 0 (omega arith)))
    by false is false also false which =
        let e : b + (a - b) ≡ a + 0 = grind (arith, nat_tests) in
        absurd (never (a + 0) (there 0 (omega arith)) (subst (λ (k : ℕ). cell_at memory k ≡ Outside) e (lacks (a - b) (grind (arith, nat_tests)))))

module _ (memory : Memory) (a size v : ℕ) (bytes : ℕ → ℕ) (some : 1 ≤ size)
    (there : (i : ℕ) → i < size → is_there (cell_at memory (a + i)) ≡ true) where
  -- a word where nothing stands
  pub word_stays : (b : ℕ) → ((i : ℕ) → i < 8 → cell_at memory (b + i) ≡ Outside) → loaded (stored bytes a size v) b 8 ≡ loaded bytes b 8
  word_stays b lacks = elim (stretches_apart memory a size b 8 some (omega arith) there lacks) [
    | inl h ↦ loaded-below bytes a size v b 8 h
    | inr h ↦ loaded-above bytes a size v b 8 h
  ]

  pub words_stay : (y : Symbols) (r : Region) (words : Contents) → RepresentsWords y r memory words bytes →
      RepresentsWords y r (with_bytes memory a (bytes_of size v)) words (stored bytes a size v)
  words_stay y r words before = record {
    sits = λ b known. sits_still r memory a b (bytes_of size v) (before.sits b known);
    shown = λ b. shown_same y (words b) (loaded bytes b 8) (loaded (stored bytes a size v) b 8)
        (λ known. word_stays b ((before.sits b known).apart)) (before.shown b);
  }
