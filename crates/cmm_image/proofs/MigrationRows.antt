-- Worked rows of places: two procedures and three sites, of which the first and the last are of the same procedure.
use Rattle.std.proofs.Common.{◌≡◌, ℕ, zero, suc, ◌<◌, true, false, List, [], ◌∷◌, drop, take, Some, None, Ok, refl, arith}
use Rattle.cmm_words.specs.declared.width.Width.TheVariants.{W32}
use Rattle.cmm_image.specs.declared.parts.ImageParts.{ImageParts}
use Rattle.cmm_image.specs.declared.rows.ProcRow.{ProcRow}
use Rattle.cmm_image.specs.declared.rows.SiteRow.{SiteRow}
use Rattle.cmm_image.specs.declared.rows.VariablePlace.{VariablePlace}
use Rattle.cmm_image.specs.declared.rows.VariablePlace.TheVariants.{Dead, Slot, Register}
use Rattle.cmm_format.specs.Formats.{number_at, number_bytes, text_at, text_bytes}
use Rattle.cmm_image.specs.Migration.{HaveOnePlace, IsFirstDifference, agree, differs, first_front, place_offset}
use Rattle.cmm_image.specs.Places.{place_at, place_bytes}
use Rattle.cmm_image.specs.SecondFormat.{second_tables}
use Rattle.cmm_image.specs.WholeImage.{image}

-- a procedure with one variable of 32 bits
procedure : ℕ → ℕ → ProcRow
procedure code name = record {
  code = code;
  name = name ∷ [];
  frame = 16;
  return_at = Some 8;
  saved = [];
  variables = record { width = W32; invariant = false; kind = [] } ∷ [];
  stack_labels = [];
  continuations = [];
}

-- a site with these places, without results, exits or spans
site : ℕ → ℕ → List VariablePlace → SiteRow
site return_address procedure places = record {
  return_address = return_address;
  procedure = procedure;
  number = 7;
  never_returns = false;
  aborts = false;
  yield_values = None;
  results = [];
  returns = [];
  unwinds = [];
  cuts = [];
  variables = places;
  spans = [];
}

-- the places of the variable at the three sites
sites : VariablePlace → VariablePlace → VariablePlace → List SiteRow
sites first middle last = site 0x10004 0 (first ∷ []) ∷ site 0x1000c 1 (middle ∷ []) ∷ site 0x10014 0 (last ∷ []) ∷ []

same_slot : agree (Slot 0) (Slot 0) ≡ true
same_slot = refl

other_slot : agree (Slot 0) (Slot 4) ≡ false
other_slot = refl

slot_and_register : agree (Slot 9) (Register 9) ≡ false
slot_and_register = refl

dead_here : agree Dead (Register 9) ≡ true
dead_here = refl

dead_there : agree (Register 9) Dead ≡ true
dead_there = refl

-- ---- one place: in another procedure it may be another, and it may be dead

one_place : HaveOnePlace (sites (Slot 0) (Register 9) (Slot 0))
unfolding sites site
one_place zero v = refl
one_place (suc zero) v = refl
one_place (suc (suc zero)) zero = refl
one_place (suc (suc zero)) (suc v) = refl
one_place (suc (suc (suc k))) v = refl

dead_first : HaveOnePlace (sites Dead (Register 9) (Slot 0))
unfolding sites site
dead_first zero v = refl
dead_first (suc zero) v = refl
dead_first (suc (suc zero)) zero = refl
dead_first (suc (suc zero)) (suc v) = refl
dead_first (suc (suc (suc k))) v = refl

-- ---- another place at the last site

later_place : differs (sites (Slot 0) (Register 9) (Slot 8)) 2 0 ≡ true
unfolding sites site
later_place = refl

other_procedure : differs (sites (Slot 0) (Register 9) (Slot 8)) 1 0 ≡ false
unfolding sites site
other_procedure = refl

no_such_site : differs (sites (Slot 0) (Register 9) (Slot 8)) 3 0 ≡ false
unfolding sites site
no_such_site = refl

first_difference : IsFirstDifference (sites (Slot 0) (Register 9) (Slot 8)) 2 0
unfolding sites site
first_difference = record { here = refl; earlier = earlier; lower = λ u less. absurd (omega (arith, less)) }
  where
    earlier : (j u : ℕ) → j < 2 → differs (sites (Slot 0) (Register 9) (Slot 8)) j u ≡ false
    earlier zero u less = refl
    earlier (suc zero) u less = refl
    earlier (suc (suc j)) u less = absurd (omega (arith, less))

-- ---- where it stands: behind 64 bytes of the header, 24 of code, 56 of procedures, 59 of the first two sites and 24 of the last one

small : ImageParts
small = record {
  version = 1;
  code = 19 ∷ 0 ∷ 0 ∷ 0 ∷ 19 ∷ 0 ∷ 0 ∷ 0 ∷ 19 ∷ 0 ∷ 0 ∷ 0 ∷ 19 ∷ 0 ∷ 0 ∷ 0 ∷ 19 ∷ 0 ∷ 0 ∷ 0 ∷ 19 ∷ 0 ∷ 0 ∷ 0 ∷ [];
  initial = [];
  start = 0x10000;
  last = 0x10000;
  main = 0;
  procs = procedure 0x10000 109 ∷ procedure 0x10008 110 ∷ [];
  sites = sites (Slot 0) (Register 9) (Slot 8);
  labels = [];
  globals = [];
}

offset : place_offset small 2 0 ≡ 227
unfolding small procedure sites site number_bytes text_bytes
offset = refl

is_spelled : image.spelled small ≡ first_front small
unfolding small procedure sites site number_bytes text_bytes
is_spelled = refl

stands_there : take 5 (drop 227 (first_front small)) ≡ place_bytes (Slot 8)
unfolding small procedure sites site number_bytes text_bytes
stands_there = refl

-- the place of the only variable of the site before, a register, takes two bytes
stands_before : take 2 (drop (place_offset small 1 0) (first_front small)) ≡ place_bytes (Register 9)
unfolding small procedure sites site number_bytes text_bytes
stands_before = refl

-- ---- in version 2 the one place comes back, and of two places the first alone

procedures : List ProcRow
procedures = procedure 0x10000 109 ∷ procedure 0x10008 110 ∷ []

comes_back : (second_tables 24 2 3).at ((second_tables 24 2 3).spelled (procedures, sites Dead (Register 9) (Slot 8))) ≡ Ok ((procedures, sites Dead (Register 9) (Slot 8)), [])
unfolding procedures procedure sites site number_at number_bytes text_at text_bytes place_at
comes_back = refl

is_lost : (second_tables 24 2 3).at ((second_tables 24 2 3).spelled (procedures, sites (Slot 0) (Register 9) (Slot 8))) ≡ Ok ((procedures, sites (Slot 0) (Register 9) (Slot 0)), [])
unfolding procedures procedure sites site number_at number_bytes text_at text_bytes place_at
is_lost = refl
