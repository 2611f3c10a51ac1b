-- A word that is written where words sit: it is shown, and all else that is shown stays.
use Rattle.std.proofs.Common.{◌≡◌, ◌≢◌, ◌⊎◌, inl, inr, ℕ, ◌+◌, ◌-◌, ◌%◌, ◌<◌, ◌≤◌, ◌^◌, refl, sym, ◌∙◌, ap, subst, arith, Bool, true, false, List, [], ◌∷◌, Option, Some, None}
use Rattle.std.specs.Prelude.{◌==◌, nat_le, nat_lt, slice_index_or}
use Rattle.std.proofs.lemmas.Bool.Decides.{nat_tests}
use Rattle.cmm_chain.specs.Contents.{Content, Unknown, Number, ReturnTo, LandingOf, LastReturn, Contents, with_content}
use Rattle.cmm_program.specs.Memory.{Cell, Outside, Room, Memory, is_in, cell_of, cell_in, cell_at, rooms_of}
use Rattle.rv_table.proofs.Shared.{loaded-above, loaded-below, loaded-same, stored-outside}
use Rattle.rv_table.specs.Machine.{Region, bottom, loaded, stored}
use Rattle.cmm_emit_laws.specs.Words.{Symbols, Represents, is_known, Sits, RepresentsWords, RepresentsCell, RepresentsRooms, RepresentsCells}

-- a number represents a word that one it equals represents, if the word is known
pub shown_same : (y : Symbols) (w : Content) (n n' : ℕ) → (is_known w ≡ true → n' ≡ n) → Represents y w n → Represents y w n'
shown_same y Unknown n n' same is = tt
shown_same y (Number a) n n' same is = same refl ∙ is
shown_same y (ReturnTo q k) n n' same is = same refl ∙ is
shown_same y (LandingOf q k) n n' same is = same refl ∙ is
shown_same y LastReturn n n' same is = same refl ∙ is

-- an address where nothing stands is in no room
pub not_in : (room : Room) (rooms : List Room) (k : ℕ) → cell_in (room ∷ rooms) k ≡ Outside → (is_in room k ≡ false) × (cell_in rooms k ≡ Outside)
not_in room rooms k is = by (is_in room k) refl (slice_index_or room.cells (k - room.address) None) is
  where
    by : (test : Bool) → is_in room k ≡ test → (c : Option ℕ) → elim test as (λ _. Cell) [ true ↦ cell_of c | false ↦ cell_in rooms k ] ≡ Outside →
        (is_in room k ≡ false) × (cell_in rooms k ≡ Outside)
    by true test (Some byte) e = absurd (cc)
    by true test None e = absurd (cc)
    by false test c e = (test, e)

pub in_none : (room : Room) (rooms : List Room) (k : ℕ) → is_in room k ≡ false → cell_in rooms k ≡ Outside → cell_in (room ∷ rooms) k ≡ Outside
in_none room rooms k lacks rest =
    ap (λ (b : Bool). elim b as (λ _. Cell) [ true ↦ cell_of (slice_index_or room.cells (k - room.address) None) | false ↦ cell_in rooms k ]) lacks ∙ rest

-- bytes may change where nothing stands
pub rooms_same : (rooms : List Room) (bytes bytes' : ℕ → ℕ) → ((k : ℕ) → (bytes' k ≡ bytes k) ⊎ (cell_in rooms k ≡ Outside)) → RepresentsRooms rooms bytes → RepresentsRooms rooms bytes'
rooms_same [] bytes bytes' same shows = tt
rooms_same (room ∷ rooms) bytes bytes' same shows = (
  λ k inside. first k inside (same k),
  rooms_same rooms bytes bytes' (λ k. rest k (same k)) shows.1,
)
  where
    first : (k : ℕ) → is_in room k ≡ true → (bytes' k ≡ bytes k) ⊎ (cell_in (room ∷ rooms) k ≡ Outside) →
        RepresentsCell (cell_of (slice_index_or room.cells (k - room.address) None)) (bytes' k)
    first k inside (inl e) = rw e (shows.0 k inside)
    first k inside (inr e) = let lacks = (not_in room rooms k e).0 in absurd (cc)

    rest : (k : ℕ) → (bytes' k ≡ bytes k) ⊎ (cell_in (room ∷ rooms) k ≡ Outside) → (bytes' k ≡ bytes k) ⊎ (cell_in rooms k ≡ Outside)
    rest k (inl e) = inl e
    rest k (inr e) = inr ((not_in room rooms k e).1)

pub same_word : (bytes : ℕ → ℕ) (a n : ℕ) → n < 2 ^ 64 → loaded (stored bytes a 8 n) a 8 ≡ n
same_word bytes a n small = loaded-same bytes a 8 n ∙ omega arith

pub other_word : (bytes : ℕ → ℕ) (a b n : ℕ) → a % 8 ≡ 0 → b % 8 ≡ 0 → b ≢ a → loaded (stored bytes a 8 n) b 8 ≡ loaded bytes b 8
other_word bytes a b n aligned also differ = elim (apart a b aligned also differ) [
  | inl h ↦ loaded-below bytes a 8 n b 8 (omega arith)
  | inr h ↦ loaded-above bytes a 8 n b 8 (omega arith)
]
  where
    apart : (c d : ℕ) → c % 8 ≡ 0 → d % 8 ≡ 0 → d ≢ c → (d + 8 ≤ c) ⊎ (c + 8 ≤ d)
    apart c d h g n' = grind arith

module _ (y : Symbols) (r : Region) (memory : Memory) (a n : ℕ) (sits : Sits r memory a) where
  -- words
  pub word_written : (words : Contents) (bytes : ℕ → ℕ) (w : Content) → Represents y w n → n < 2 ^ 64 → RepresentsWords y r memory words bytes →
      RepresentsWords y r memory (with_content a w words) (stored bytes a 8 n)
  word_written words bytes w is small before = record {
    sits = λ b known. sits_at b (b == a) refl known;
    shown = λ b. shown_at b (b == a) refl;
  }
    where
      sits_at : (b : ℕ) (test : Bool) → (b == a) ≡ test → is_known (elim test [ true ↦ w | false ↦ words b ]) ≡ true → Sits r memory b
      sits_at b true test known = let e : b ≡ a = grind (arith, nat_tests) in subst (λ (k : ℕ). Sits r memory k) (sym e) sits
      sits_at b false test known = before.sits b known

      shown_at : (b : ℕ) (test : Bool) → (b == a) ≡ test → Represents y (elim test [ true ↦ w | false ↦ words b ]) (loaded (stored bytes a 8 n) b 8)
      shown_at b true test = let e : b ≡ a = grind (arith, nat_tests) in
          shown_same y w n (loaded (stored bytes a 8 n) b 8) (λ k. ap (λ (c : ℕ). loaded (stored bytes a 8 n) c 8) e ∙ same_word bytes a n small) is
      shown_at b false test = let differ : b ≢ a = grind (arith, nat_tests) in
          shown_same y (words b) (loaded bytes b 8) (loaded (stored bytes a 8 n) b 8)
          (λ known. other_word bytes a b n sits.aligned ((before.sits b known).aligned) differ) (before.shown b)

  -- cells
  pub cells_stay : (bytes : ℕ → ℕ) → RepresentsCells memory bytes → RepresentsCells memory (stored bytes a 8 n)
  cells_stay bytes shows = rooms_same (rooms_of memory) bytes (stored bytes a 8 n) (λ k. at k (nat_le a k) refl (nat_lt k (a + 8)) refl) shows
    where
      at : (k : ℕ) (low : Bool) → nat_le a k ≡ low → (top : Bool) → nat_lt k (a + 8) ≡ top →
          (stored bytes a 8 n k ≡ bytes k) ⊎ (cell_in (rooms_of memory) k ≡ Outside)
      at k false low top also = inl (stored-outside bytes a 8 n k (inl (grind (arith, nat_tests))))
      at k true low false also = inl (stored-outside bytes a 8 n k (inr (grind (arith, nat_tests))))
      at k true low true also =
          let e : a + (k - a) ≡ k = grind (arith, nat_tests) in
          inr (subst (λ (c : ℕ). cell_at memory c ≡ Outside) e (sits.apart (k - a) (grind (arith, nat_tests))))

  -- what is below the stack
  pub below_stays : (bytes : ℕ → ℕ) (b : ℕ) → b + 8 ≤ bottom r → loaded (stored bytes a 8 n) b 8 ≡ loaded bytes b 8
  below_stays bytes b below = loaded-below bytes a 8 n b 8 (omega (arith, sits.low))
