-- Ranges in order: one more of them, and the last that begins no later than a number.
use Rattle.cmm_program.proofs.Shared.{and_left_comm}
use Rattle.std.proofs.Common.{◌≡◌, ℕ, ◌<◌, ◌≤◌, refl, ap, sym, ◌∙◌, subst, arith, Bool, true, false, not, cond, ◌&&◌, ◌||◌, List, [], ◌∷◌, ◌++◌, inl, inr}
use Rattle.std.specs.Prelude.{nat_lt, nat_le, filter}
use Rattle.std.specs.List.{list_all}
use Rattle.std.specs.Ordering.{nat_cmp, match_ordering, is_lt}
use Rattle.std.specs.declared.cmp.Ordering.TheVariants.{Less, Greater}
use Rattle.std.specs.BTreeMap.{insert_entry}
use Rattle.std.proofs.lemmas.Bool.{and_parts, and_from, or_cases, or_left, ltb-true, lt-ltb, le-leb, leb-true}
use Rattle.std.proofs.lemmas.Bool.Decides.{nat_tests}
use Rattle.cmm_check_procedure.specs.InOrder.{are_in_order}

-- a range has no number in common with the numbers from one to another
abbrev pub is_apart : ℕ → ℕ → ℕ × ℕ → Bool
is_apart low high r = nat_lt high r.0 || nat_lt r.1 low

all_above : (a b : ℕ) (rs : List (ℕ × ℕ)) → a ≤ b → list_all (λ s. nat_lt b s.0) rs ≡ true → list_all (λ s. nat_lt a s.0) rs ≡ true
all_above a b [] le h = refl
all_above a b (r ∷ rs) le h = let p = and_parts (nat_lt b r.0) (list_all (λ s. nat_lt b s.0) rs) h in
    let lt : b < r.0 = ltb-true b r.0 p.0 in
    and_from (nat_lt a r.0) (list_all (λ s. nat_lt a s.0) rs) (lt-ltb a r.0 (omega arith)) (all_above a b rs le p.1)

-- what is known of ranges in order
record Parts (r : ℕ × ℕ) (rs : List (ℕ × ℕ)) : Type 0 where
  rises : r.0 ≤ r.1
  above : list_all (λ s. nat_lt r.1 s.0) rs ≡ true
  rest : are_in_order rs ≡ true

parts_of : (r : ℕ × ℕ) (rs : List (ℕ × ℕ)) → are_in_order (r ∷ rs) ≡ true → Parts r rs
parts_of r rs h = let p = and_parts (nat_le r.0 r.1) (list_all (λ s. nat_lt r.1 s.0) rs && are_in_order rs) h in
    let q = and_parts (list_all (λ s. nat_lt r.1 s.0) rs) (are_in_order rs) p.1 in
    record { rises = leb-true r.0 r.1 p.0; above = q.0; rest = q.1 }

from_parts : (r : ℕ × ℕ) (rs : List (ℕ × ℕ)) → r.0 ≤ r.1 → list_all (λ s. nat_lt r.1 s.0) rs ≡ true → are_in_order rs ≡ true → are_in_order (r ∷ rs) ≡ true
from_parts r rs rises above rest = and_from (nat_le r.0 r.1) (list_all (λ s. nat_lt r.1 s.0) rs && are_in_order rs) (le-leb r.0 r.1 rises)
    (and_from (list_all (λ s. nat_lt r.1 s.0) rs) (are_in_order rs) above rest)

-- ---- one more range

less_is : (k l : ℕ) → k < l → nat_cmp k l ≡ Less
less_is k l h = grind (arith, nat_tests)

greater_is : (k l : ℕ) → l < k → nat_cmp k l ≡ Greater
greater_is k l h = grind (arith, nat_tests)

before_first : (r : ℕ × ℕ) (rs : List (ℕ × ℕ)) (k v : ℕ) → k < r.0 → insert_entry nat_cmp (r ∷ rs) k v ≡ (k, v) ∷ r ∷ rs
before_first r rs k v h = ap (λ o. match_ordering o ((k, v) ∷ r ∷ rs) ((r.0, v) ∷ rs) (r ∷ insert_entry nat_cmp rs k v)) (less_is k r.0 h)

after_first : (r : ℕ × ℕ) (rs : List (ℕ × ℕ)) (k v : ℕ) → r.0 < k → insert_entry nat_cmp (r ∷ rs) k v ≡ r ∷ insert_entry nat_cmp rs k v
after_first r rs k v h = ap (λ o. match_ordering o ((k, v) ∷ r ∷ rs) ((r.0, v) ∷ rs) (r ∷ insert_entry nat_cmp rs k v)) (greater_is k r.0 h)

pub record Inserted (rs : List (ℕ × ℕ)) (k v : ℕ) : Type 0 where
  pub in_order : are_in_order (insert_entry nat_cmp rs k v) ≡ true
  pub all : (p : ℕ × ℕ → Bool) → list_all p (insert_entry nat_cmp rs k v) ≡ (p (k, v) && list_all p rs)

inserted_first : (r : ℕ × ℕ) (rs : List (ℕ × ℕ)) (k v : ℕ) → k ≤ v → v < r.0 → are_in_order (r ∷ rs) ≡ true → Inserted (r ∷ rs) k v
inserted_first r rs k v rises lt h = let p = parts_of r rs h in let le : v ≤ r.1 = omega (arith, p.rises) in
    let e = before_first r rs k v (omega arith) in record {
      in_order = ap are_in_order e ∙ from_parts (k, v) (r ∷ rs) rises
          (and_from (nat_lt v r.0) (list_all (λ s. nat_lt v s.0) rs) (lt-ltb v r.0 lt) (all_above v r.1 rs le p.above)) h;
      all = λ t. ap (list_all t) e;
    }

inserted_later : (r : ℕ × ℕ) (rs : List (ℕ × ℕ)) (k v : ℕ) → r.1 < k → are_in_order (r ∷ rs) ≡ true → Inserted rs k v → Inserted (r ∷ rs) k v
inserted_later r rs k v lt h rest = let p = parts_of r rs h in let below : r.0 < k = omega (arith, p.rises) in
    let e = after_first r rs k v below in record {
      in_order = ap are_in_order e ∙ from_parts r (insert_entry nat_cmp rs k v) p.rises
          (rest.all (λ s. nat_lt r.1 s.0) ∙ and_from (nat_lt r.1 k) (list_all (λ s. nat_lt r.1 s.0) rs) (lt-ltb r.1 k lt) p.above) rest.in_order;
      all = λ t. ap (list_all t) e ∙ ap (λ b. t r && b) (rest.all t) ∙ and_left_comm (t r) (t (k, v)) (list_all t rs);
    }

-- a range that doesn't fall, and that meets none of them
pub inserted : (rs : List (ℕ × ℕ)) (k v : ℕ) → k ≤ v → are_in_order rs ≡ true → list_all (is_apart k v) rs ≡ true → Inserted rs k v
inserted [] k v rises h apart = record { in_order = from_parts (k, v) [] rises refl refl; all = λ t. refl }
inserted (r ∷ rs) k v rises h apart = let p = and_parts (is_apart k v r) (list_all (is_apart k v) rs) apart in
    let rest = inserted rs k v rises (parts_of r rs h).rest p.1 in
    elim (or_cases (nat_lt v r.0) (nat_lt r.1 k) p.0) [
      | inl before ↦ inserted_first r rs k v rises (ltb-true v r.0 before) h
      | inr after ↦ inserted_later r rs k v (ltb-true r.1 k after) h rest
    ]

-- ---- the last that begins no later than a number

abbrev pub begins_by : ℕ → ℕ × ℕ → Bool
begins_by high r = not (is_lt (nat_cmp high r.0))

begun : (high : ℕ) (r : ℕ × ℕ) → begins_by high r ≡ true → r.0 ≤ high
begun high r h = grind (arith, nat_tests)

not_begun : (high : ℕ) (r : ℕ × ℕ) → begins_by high r ≡ false → high < r.0
not_begun high r h = grind (arith, nat_tests)

kept : {A : Type 0} (p : A → Bool) (x : A) (xs : List A) → p x ≡ true → filter p (x ∷ xs) ≡ x ∷ filter p xs
kept p x xs h = ap (λ b. cond b (x ∷ filter p xs) (filter p xs)) h

left_out : {A : Type 0} (p : A → Bool) (x : A) (xs : List A) → p x ≡ false → filter p (x ∷ xs) ≡ filter p xs
left_out p x xs h = ap (λ b. cond b (x ∷ filter p xs) (filter p xs)) h

-- where none does, all are apart
none_with : (low high : ℕ) (r : ℕ × ℕ) (rs : List (ℕ × ℕ)) (b : Bool) → begins_by high r ≡ b → filter (begins_by high) (r ∷ rs) ≡ [] →
    (filter (begins_by high) rs ≡ [] → list_all (is_apart low high) rs ≡ true) → list_all (is_apart low high) (r ∷ rs) ≡ true
none_with low high r rs true e h rest = let x = sym (kept (begins_by high) r rs e) ∙ h in cc
none_with low high r rs false e h rest = and_from (is_apart low high r) (list_all (is_apart low high) rs)
    (or_left (nat_lt high r.0) (nat_lt r.1 low) (lt-ltb high r.0 (not_begun high r e)))
    (rest (sym (left_out (begins_by high) r rs e) ∙ h))

pub none_by : (low high : ℕ) (rs : List (ℕ × ℕ)) → filter (begins_by high) rs ≡ [] → list_all (is_apart low high) rs ≡ true
none_by low high [] h = refl
none_by low high (r ∷ rs) h = none_with low high r rs (begins_by high r) refl h (none_by low high rs)

apart_by : (low high : ℕ) (r : ℕ × ℕ) → r.0 ≤ high → (is_apart low high r && true) ≡ nat_lt r.1 low
apart_by low high r begins = grind (arith, nat_tests)

first_no_matter : (low high : ℕ) (r l : ℕ × ℕ) → l.0 ≤ l.1 → r.1 < l.0 → (is_apart low high r && nat_lt l.1 low) ≡ nat_lt l.1 low
first_no_matter low high r l rises lt = grind (arith, nat_tests)

-- what is known of the last that does
record Last (low high : ℕ) (rs : List (ℕ × ℕ)) (l : ℕ × ℕ) : Type 0 where
  decides : list_all (is_apart low high) rs ≡ nat_lt l.1 low
  member : (p : ℕ × ℕ → Bool) → list_all p rs ≡ true → p l ≡ true
  rises : l.0 ≤ l.1
  begins : l.0 ≤ high

last_first : (low high : ℕ) (r : ℕ × ℕ) (rs : List (ℕ × ℕ)) (l : ℕ × ℕ) → low ≤ high → are_in_order (r ∷ rs) ≡ true → begins_by high r ≡ true →
    r ≡ l → filter (begins_by high) rs ≡ [] → Last low high (r ∷ rs) l
last_first low high r rs l rises h e is none = subst (Last low high (r ∷ rs)) is record {
  decides = ap (λ b. is_apart low high r && b) (none_by low high rs none) ∙ apart_by low high r (begun high r e);
  member = λ p all. (and_parts (p r) (list_all p rs) all).0;
  rises = (parts_of r rs h).rises;
  begins = begun high r e;
}

last_later : (low high : ℕ) (r : ℕ × ℕ) (rs : List (ℕ × ℕ)) (l : ℕ × ℕ) → low ≤ high → are_in_order (r ∷ rs) ≡ true → Last low high rs l → Last low high (r ∷ rs) l
last_later low high r rs l rises h rest = let p = parts_of r rs h in
    let lt : r.1 < l.0 = ltb-true r.1 l.0 (rest.member (λ s. nat_lt r.1 s.0) p.above) in record {
      decides = ap (λ b. is_apart low high r && b) rest.decides ∙ first_no_matter low high r l rest.rises lt;
      member = λ q all. rest.member q (and_parts (q r) (list_all q rs) all).1;
      rises = rest.rises;
      begins = rest.begins;
    }

last_with : (low high : ℕ) (r : ℕ × ℕ) (rs t : List (ℕ × ℕ)) (l : ℕ × ℕ) (b : Bool) → low ≤ high → are_in_order (r ∷ rs) ≡ true → begins_by high r ≡ b →
    filter (begins_by high) (r ∷ rs) ≡ t ++ l ∷ [] → ((u : List (ℕ × ℕ)) → filter (begins_by high) rs ≡ u ++ l ∷ [] → Last low high rs l) → Last low high (r ∷ rs) l
last_with low high r rs [] l true rises h e is rest = let x = sym (kept (begins_by high) r rs e) ∙ is in last_first low high r rs l rises h e (cc) (cc)
last_with low high r rs (u ∷ us) l true rises h e is rest = let x = sym (kept (begins_by high) r rs e) ∙ is in last_later low high r rs l rises h (rest us (cc))
last_with low high r rs t l false rises h e is rest = last_later low high r rs l rises h (rest t (sym (left_out (begins_by high) r rs e) ∙ is))

last_is : (low high : ℕ) (rs t : List (ℕ × ℕ)) (l : ℕ × ℕ) → low ≤ high → are_in_order rs ≡ true → filter (begins_by high) rs ≡ t ++ l ∷ [] → Last low high rs l
last_is low high [] [] l rises h is = cc
last_is low high [] (u ∷ us) l rises h is = cc
last_is low high (r ∷ rs) t l rises h is = last_with low high r rs t l (begins_by high r) rises h refl is (λ u. last_is low high rs u l rises (parts_of r rs h).rest)

-- they are all apart exactly where it is
pub last_by : (low high : ℕ) (rs t : List (ℕ × ℕ)) (l : ℕ × ℕ) → low ≤ high → are_in_order rs ≡ true → filter (begins_by high) rs ≡ t ++ l ∷ [] →
    list_all (is_apart low high) rs ≡ nat_lt l.1 low
last_by low high rs t l rises h is = (last_is low high rs t l rises h is).decides
