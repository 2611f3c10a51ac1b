-- Sites with different return addresses: in order, each is above the one before.
use Rattle.std.proofs.Common.{◌≡◌, ℕ, suc, ◌≤◌, Bool, true, false, not, IsTrue, nat_eq, nat_lt, List, [], ◌∷◌, ◌++◌, length, map, Option, Some, None, refl, ap, ◌∙◌, arith}
use Rattle.std.specs.List.{list_any}
use Rattle.std.proofs.lemmas.Bool.Decides.{nat_tests}
use Rattle.cmm_image.specs.declared.rows.SiteRow.{SiteRow}
use Rattle.cmm_image.specs.ImageFormat.{is_above}
use Rattle.cmm_image.specs.SecondFormat.{in_order, put_in}
use Rattle.cmm_image.specs.inside.Records.{Apart, Distinct}
use Rattle.cmm_image.proofs.OrderLaws.{Rising}

-- each of the second is apart from the first
abbrev pub Across : List SiteRow → List SiteRow → Type 0
Across before [] = Unit {0}
Across before (s ∷ ss) = Apart s.return_address before × Across before ss

pub flips : (a b : ℕ) → nat_eq a b ≡ false → nat_eq b a ≡ false
flips a b differ = grind (arith, nat_tests, differ)

pub apart_append : (a : ℕ) (xs ys : List SiteRow) → Apart a xs → Apart a ys → Apart a (xs ++ ys)
apart_append a [] ys here there = there
apart_append a (x ∷ xs) ys here there = (here.0, apart_append a xs ys here.1 there)

apart_of : (x : SiteRow) (xs ys : List SiteRow) → Across (x ∷ xs) ys → Apart x.return_address ys × Across xs ys
apart_of x xs [] across = (tt, tt)
apart_of x xs (y ∷ ys) across =
    let rest = apart_of x xs ys across.1 in
    ((flips y.return_address x.return_address across.0.0, rest.0), (across.0.1, rest.1))

pub distinct_append : (xs ys : List SiteRow) → Distinct xs → Distinct ys → Across xs ys → Distinct (xs ++ ys)
distinct_append [] ys one more across = more
distinct_append (x ∷ xs) ys one more across =
    let parts = apart_of x xs ys across in
    (apart_append x.return_address xs ys one.0 parts.0, distinct_append xs ys one.1 more parts.1)

above_all : (a : ℕ) (previous : ℕ) (ss : List SiteRow) → a ≤ previous → Rising (Some previous) ss → Apart a ss
above_all a previous [] le rises = tt
above_all a previous (s ∷ ss) le rises =
    let up : nat_lt previous s.return_address ≡ true = rises.0 in
    let differ : nat_eq a s.return_address ≡ false = grind (arith, nat_tests, le, up) in
    let less : a ≤ s.return_address = grind (arith, nat_tests, le, up) in
    (differ, above_all a s.return_address ss less rises.1)

pub rising_distinct : (previous : Option ℕ) (ss : List SiteRow) → Rising previous ss → Distinct ss
rising_distinct previous [] rises = tt
rising_distinct previous (s ∷ ss) rises = (above_all s.return_address s.return_address ss (omega arith) rises.1, rising_distinct (Some s.return_address) ss rises.1)

-- an address unlike all of these is apart from them
pub unlike_apart : (a : ℕ) (ss : List SiteRow) → IsTrue (not (list_any (λ other. nat_eq a other) (map (λ s. s.return_address) ss))) → Apart a ss
unlike_apart a [] h = tt
unlike_apart a (s ∷ ss) h = by (nat_eq a s.return_address) refl (unlike_apart a ss)
  where
    by : (b : Bool) → nat_eq a s.return_address ≡ b →
        (IsTrue (not (list_any (λ other. nat_eq a other) (map (λ s. s.return_address) ss))) → Apart a ss) → Apart a (s ∷ ss)
    by true e rest = let g : false ≡ true = rw e at h in absurd cc
    by false e rest = (e, rest (rw e at h))

-- ---- in order

put_apart : (a : ℕ) (s : SiteRow) (ss : List SiteRow) → nat_eq a s.return_address ≡ false → Apart a ss → Apart a (put_in s ss)
put_apart a s [] here there = (here, tt)
put_apart a s (t ∷ ts) here there = by (nat_lt s.return_address t.return_address) refl (put_apart a s ts here there.1)
  where
    by : (b : Bool) → nat_lt s.return_address t.return_address ≡ b → Apart a (put_in s ts) → Apart a (put_in s (t ∷ ts))
    by true e rest = rw e (here, there)
    by false e rest = rw e (there.0, rest)

order_apart : (a : ℕ) (ss : List SiteRow) → Apart a ss → Apart a (in_order ss)
order_apart a [] apart = tt
order_apart a (s ∷ ss) apart = put_apart a s (in_order ss) apart.0 (order_apart a ss apart.1)

put_rising : (previous : Option ℕ) (s : SiteRow) (ss : List SiteRow) → IsTrue (is_above previous s.return_address) → Apart s.return_address ss → Rising previous ss →
    Rising previous (put_in s ss)
put_rising previous s [] above apart rises = (above, tt)
put_rising previous s (t ∷ ts) above apart rises =
    by (nat_lt s.return_address t.return_address) refl (λ over. put_rising (Some t.return_address) s ts over apart.1 rises.1)
  where
    by : (b : Bool) → nat_lt s.return_address t.return_address ≡ b →
        (IsTrue (nat_lt t.return_address s.return_address) → Rising (Some t.return_address) (put_in s ts)) → Rising previous (put_in s (t ∷ ts))
    by true e rest = rw e (above, (e, rises.1))
    by false e rest =
        let over : nat_lt t.return_address s.return_address ≡ true = (let differ = apart.0 in grind (arith, nat_tests, e, differ)) in
        rw e (rises.0, rest over)

pub order_rises : (ss : List SiteRow) → Distinct ss → Rising None (in_order ss)
order_rises [] distinct = tt
order_rises (s ∷ ss) distinct = put_rising None s (in_order ss) refl (order_apart s.return_address ss distinct.0) (order_rises ss distinct.1)

-- ---- counts, and what all keep

put_length : (s : SiteRow) (ss : List SiteRow) → length (put_in s ss) ≡ suc (length ss)
put_length s [] = refl
put_length s (t ∷ ts) = by (nat_lt s.return_address t.return_address) refl (put_length s ts)
  where
    by : (b : Bool) → nat_lt s.return_address t.return_address ≡ b → length (put_in s ts) ≡ suc (length ts) → length (put_in s (t ∷ ts)) ≡ suc (length (t ∷ ts))
    by true e rest = rw e refl
    by false e rest = rw e (ap suc rest)

pub order_length : (ss : List SiteRow) → length (in_order ss) ≡ length ss
order_length [] = refl
order_length (s ∷ ss) = put_length s (in_order ss) ∙ ap suc (order_length ss)

abbrev pub Each : (SiteRow → Type 0) → List SiteRow → Type 0
Each P [] = Unit {0}
Each P (s ∷ ss) = P s × Each P ss

put_each : (P : SiteRow → Type 0) (s : SiteRow) (ss : List SiteRow) → P s → Each P ss → Each P (put_in s ss)
put_each P s [] one all = (one, tt)
put_each P s (t ∷ ts) one all = by (nat_lt s.return_address t.return_address) refl (put_each P s ts one all.1)
  where
    by : (b : Bool) → nat_lt s.return_address t.return_address ≡ b → Each P (put_in s ts) → Each P (put_in s (t ∷ ts))
    by true e rest = rw e (one, all)
    by false e rest = rw e (all.0, rest)

pub order_each : (P : SiteRow → Type 0) (ss : List SiteRow) → Each P ss → Each P (in_order ss)
order_each P [] all = tt
order_each P (s ∷ ss) all = put_each P s (in_order ss) all.0 (order_each P ss all.1)

pub each_append : (P : SiteRow → Type 0) (xs ys : List SiteRow) → Each P xs → Each P ys → Each P (xs ++ ys)
each_append P [] ys one more = more
each_append P (x ∷ xs) ys one more = (one.0, each_append P xs ys one.1 more)
