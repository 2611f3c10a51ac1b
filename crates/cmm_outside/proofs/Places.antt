-- Places by name: how a look-up answers after one place is written.
use Rattle.std.proofs.Common.{◌≡◌, ◌≢◌, ℕ, ◌≤◌, Bool, true, false, cond, nat_lt, List, [], ◌∷◌, ◌++◌, length, get_or, set, Option, Some, None, refl, sym, ap, ◌∙◌, inl, inr, arith, find, position}
use Rattle.std.specs.Str.{bytes_eq}
use Rattle.std.specs.List.{position_or_len, slice_get}
use Rattle.std.specs.Option.{option_or}
use Rattle.std.proofs.lemmas.Bool.Decides.{nat_tests}
use Rattle.std.proofs.lemmas.List.Folds.{find_at, find-set, find_past, find-append}
use Rattle.std.proofs.lemmas.List.Quantifiers.{position-Some}
use Rattle.std.proofs.lemmas.Option.{slice_get-get_or, slice_get_cases}
use Rattle.std.proofs.lemmas.Slice.Eq.{bytes_eq-Decides}
use Rattle.cmm_outside.specs.MemoryFiles.{FilesState, Place, Puts, file_of, place_of, room_of}
use Rattle.cmm_outside.specs.Storage.{Sets}

-- whether a place has this name
abbrev pub named : List ℕ → Place → Bool
named name place = bytes_eq place.name name

-- a choice with a value is its first part
cond-Some : {X : Type 0} (b : Bool) (x y : X) → cond b (Some x) None ≡ Some y → y ≡ x
cond-Some true x y is = cc
cond-Some false x y is = cc

-- a choice without a value is its second part
cond-None : {X : Type 0} (b : Bool) (x : X) → cond b (Some x) None ≡ None → b ≡ false
cond-None true x is = cc
cond-None false x is = refl

-- what `position` finds is what `find` gives
pub find-position : {X : Type 0} (p : X → Bool) (xs : List X) (i : ℕ) (d : X) → position p xs ≡ Some i → find p xs ≡ Some (get_or xs i d)
find-position p xs i d at =
    let here = cond-Some (nat_lt (position_or_len p xs) (length xs)) (position_or_len p xs) i at in
    find_at p xs ∙ ap (slice_get xs) (sym here) ∙ slice_get-get_or xs i d (position-Some p xs i d at).0

-- a test that fails is the other order
nat_lt-false : (a b : ℕ) → nat_lt a b ≡ false → b ≤ a
nat_lt-false a b is = grind (arith, nat_tests)

-- where `position` finds nothing, nor does `find`
pub find-nowhere : {X : Type 0} (p : X → Bool) (xs : List X) → position p xs ≡ None → find p xs ≡ None
find-nowhere p xs nowhere =
    let past = nat_lt-false _ _ (cond-None (nat_lt (position_or_len p xs) (length xs)) (position_or_len p xs) nowhere) in
    find_at p xs ∙ elim (slice_get_cases xs (position_or_len p xs)).1 [
      | inl inside ↦ absurd (omega (arith, inside.1, past))
      | inr outside ↦ outside.1
    ]

-- nothing after a choice changes nothing
option_or-None : {X : Type 0} (o : Option X) → option_or o None ≡ o
option_or-None None = refl
option_or-None (Some x) = refl

-- a test has one answer
apart : {b : Bool} → b ≡ false → b ≡ true → ⊥
apart fails passes = cc

-- two names that differ do not test equal
bytes_eq-false : (a b : List ℕ) → b ≢ a → bytes_eq a b ≡ false
bytes_eq-false a b differ = by (bytes_eq a b) refl where
  by : (r : Bool) → bytes_eq a b ≡ r → r ≡ false
  by true same = absurd (differ (sym ((bytes_eq-Decides a b).0 same)))
  by false same = refl

-- the place of a name has that name
pub position-name : (places : List Place) (name : List ℕ) (i : ℕ) (d : Place) → position (named name) places ≡ Some i →
    (get_or places i d).name ≡ name
position-name places name i d at =
    (bytes_eq-Decides (get_or places i d).name name).0 (position-Some (named name) places i d at).1

-- a write over the place of a name
pub Puts-set : (places : List Place) (name : List ℕ) (i : ℕ) (place : Place) → position (named name) places ≡ Some i →
    place.name ≡ name → Puts places (set places i place) name place
Puts-set places name i place at is =
    let same = position-name places name i place at in
    record {
      named = find-set (named name) places i place (cond-Some _ _ _ at) (position-Some (named name) places i place at).0 ((bytes_eq-Decides place.name name).1 is);
      others = λ other differ. find_past (named other) places i place place
          (bytes_eq-false (get_or places i place).name other (λ e. differ (e ∙ same)))
          (bytes_eq-false place.name other (λ e. differ (e ∙ is)));
    }

-- a new place at the end
pub Puts-push : (places : List Place) (name : List ℕ) (place : Place) → position (named name) places ≡ None →
    place.name ≡ name → Puts places (places ++ place ∷ []) name place
Puts-push places name place nowhere is = record {
  named = find-append (named name) places (place ∷ []) ∙ rw (find-nowhere (named name) places nowhere, (bytes_eq-Decides place.name name).1 is) refl;
  others = λ other differ. find-append (named other) places (place ∷ []) ∙ rw (bytes_eq-false place.name other (λ e. differ (e ∙ is))) (option_or-None (place_of places other));
}

-- the files after differ in the place of one name, which has its room and another file
pub record Rewrites (before after : FilesState) (name : List ℕ) (i : ℕ) (old new : Place) (bytes : List ℕ) : Type 0 where
  pub at : position (named name) before.places ≡ Some i
  pub old_is : old ≡ get_or before.places i old
  pub written : after.places ≡ set before.places i new
  pub same_name : new.name ≡ old.name
  pub same_room : new.room ≡ old.room
  pub file : new.file ≡ Some bytes

module _ (before after : FilesState) (name : List ℕ) (i : ℕ) (old new : Place) (bytes : List ℕ)
    (rewrites : Rewrites before after name i old new bytes) where
  puts : Puts before.places after.places name new
  puts =
      let name_is = rewrites.same_name ∙ ap (λ (place : Place). place.name) rewrites.old_is ∙ position-name before.places name i old rewrites.at in
      rw rewrites.written (Puts-set before.places name i new rewrites.at name_is)

  -- what the files tell
  pub Rewrites→Sets : Sets (file_of before) (Some (file_of after)) name bytes
  Rewrites→Sets = record {
    now = file_of after;
    told = refl;
    named = rw puts.named rewrites.file;
    others = λ other differ. rw (puts.others other differ) refl;
  }

  -- the room of each name
  pub Rewrites→same_rooms : (other : List ℕ) → room_of after other ≡ room_of before other
  Rewrites→same_rooms other = by (bytes_eq other name) refl where
    by : (r : Bool) → bytes_eq other name ≡ r → room_of after other ≡ room_of before other
    by true same =
        let is = (bytes_eq-Decides other name).0 same in
        let was = find-position (named name) before.places i old rewrites.at in
        rw (is, puts.named, was, ← rewrites.old_is, rewrites.same_room) refl
    by false differs = rw (puts.others other (λ e. absurd (apart differs ((bytes_eq-Decides other name).1 e)))) refl
