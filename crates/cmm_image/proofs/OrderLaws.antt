-- Sites in the order of their return addresses: those of one procedure stay as they stand.
use Rattle.std.proofs.Common.{◌≡◌, ℕ, ◌<◌, ◌≤◌, Bool, true, false, IsTrue, nat_eq, nat_lt, List, [], ◌∷◌, filter, Option, Some, refl, sym, ap, ◌∙◌, arith}
use Rattle.std.proofs.lemmas.Bool.Decides.{nat_tests}
use Rattle.cmm_image.specs.declared.rows.SiteRow.{SiteRow}
use Rattle.cmm_image.specs.ImageFormat.{is_above}
use Rattle.cmm_image.specs.SecondFormat.{in_order, put_in, sites_of}

-- each has a return address of at least a number, and above a number
abbrev pub From : ℕ → List SiteRow → Type 0
From a [] = Unit {0}
From a (s ∷ ss) = (a ≤ s.return_address) × From a ss

abbrev pub Over : ℕ → List SiteRow → Type 0
Over a [] = Unit {0}
Over a (s ∷ ss) = (a < s.return_address) × Over a ss

abbrev pub Sorted : List SiteRow → Type 0
Sorted [] = Unit {0}
Sorted (s ∷ ss) = From s.return_address ss × Sorted ss

over_from : (a b : ℕ) (ss : List SiteRow) → a < b → From b ss → Over a ss
over_from a b [] less from = tt
over_from a b (s ∷ ss) less from = (let low = from.0 in omega (arith, less, low), over_from a b ss less from.1)

-- ---- one more

pub put_front : (s : SiteRow) (ss : List SiteRow) → Over s.return_address ss → put_in s ss ≡ s ∷ ss
put_front s [] over = refl
put_front s (t ∷ ts) over =
    let less : nat_lt s.return_address t.return_address ≡ true = (let low = over.0 in grind (arith, nat_tests, low)) in
    rw less refl

put_from : (a : ℕ) (s : SiteRow) (ss : List SiteRow) → a ≤ s.return_address → From a ss → From a (put_in s ss)
put_from a s [] low from = (low, tt)
put_from a s (t ∷ ts) low from = by (nat_lt s.return_address t.return_address) refl (put_from a s ts low from.1)
  where
    by : (b : Bool) → nat_lt s.return_address t.return_address ≡ b → From a (put_in s ts) → From a (put_in s (t ∷ ts))
    by true e rest = rw e (low, from)
    by false e rest = rw e (from.0, rest)

from_from : (a b : ℕ) (ss : List SiteRow) → a ≤ b → From b ss → From a ss
from_from a b [] le from = tt
from_from a b (s ∷ ss) le from = (let low = from.0 in omega (arith, le, low), from_from a b ss le from.1)

put_sorted : (s : SiteRow) (ss : List SiteRow) → Sorted ss → Sorted (put_in s ss)
put_sorted s [] sorted = (tt, tt)
put_sorted s (t ∷ ts) sorted = by (nat_lt s.return_address t.return_address) refl (put_sorted s ts sorted.1)
  where
    by : (b : Bool) → nat_lt s.return_address t.return_address ≡ b → Sorted (put_in s ts) → Sorted (put_in s (t ∷ ts))
    by true e rest =
        let less : s.return_address ≤ t.return_address = grind (arith, nat_tests, e) in
        rw e ((less, from_from s.return_address t.return_address ts less sorted.0), sorted)
    by false e rest =
        let le : t.return_address ≤ s.return_address = grind (arith, nat_tests, e) in
        rw e (put_from t.return_address s ts le sorted.0, rest)

order_sorted : (ss : List SiteRow) → Sorted (in_order ss)
order_sorted [] = tt
order_sorted (s ∷ ss) = put_sorted s (in_order ss) (order_sorted ss)

-- ---- some of them

pub over_kept : (keeps : SiteRow → Bool) (a : ℕ) (ss : List SiteRow) → Over a ss → Over a (filter keeps ss)
over_kept keeps a [] over = tt
over_kept keeps a (s ∷ ss) over = by (keeps s) refl (over_kept keeps a ss over.1)
  where
    by : (b : Bool) → keeps s ≡ b → Over a (filter keeps ss) → Over a (filter keeps (s ∷ ss))
    by true e rest = rw e (over.0, rest)
    by false e rest = rw e rest

put_kept : (keeps : SiteRow → Bool) (s : SiteRow) (ss : List SiteRow) → keeps s ≡ true → Sorted ss → filter keeps (put_in s ss) ≡ put_in s (filter keeps ss)
put_kept keeps s [] here sorted = rw here refl
put_kept keeps s (t ∷ ts) here sorted = by (nat_lt s.return_address t.return_address) (keeps t) refl refl (put_kept keeps s ts here sorted.1)
  where
    by : (b c : Bool) → nat_lt s.return_address t.return_address ≡ b → keeps t ≡ c → filter keeps (put_in s ts) ≡ put_in s (filter keeps ts) →
        filter keeps (put_in s (t ∷ ts)) ≡ put_in s (filter keeps (t ∷ ts))
    by true c e f rest =
        let less : s.return_address < t.return_address = grind (arith, nat_tests, e) in
        let over : Over s.return_address (t ∷ ts) = (less, over_from s.return_address t.return_address ts less sorted.0) in
        let front = put_front s (filter keeps (t ∷ ts)) (over_kept keeps s.return_address (t ∷ ts) over) in
        let whole = put_front s (t ∷ ts) over in
        let kept : filter keeps (s ∷ t ∷ ts) ≡ s ∷ filter keeps (t ∷ ts) = rw here refl in
        ap (filter keeps) whole ∙ kept ∙ sym front
    by false true e f rest = rw (e, f, rest, e) refl
    by false false e f rest = rw (e, f) rest

put_left : (keeps : SiteRow → Bool) (s : SiteRow) (ss : List SiteRow) → keeps s ≡ false → filter keeps (put_in s ss) ≡ filter keeps ss
put_left keeps s [] here = rw here refl
put_left keeps s (t ∷ ts) here = by (nat_lt s.return_address t.return_address) (keeps t) refl refl (put_left keeps s ts here)
  where
    by : (b c : Bool) → nat_lt s.return_address t.return_address ≡ b → keeps t ≡ c → filter keeps (put_in s ts) ≡ filter keeps ts →
        filter keeps (put_in s (t ∷ ts)) ≡ filter keeps (t ∷ ts)
    by true c e f rest = rw (e, here) refl
    by false true e f rest = rw (e, f, rest) refl
    by false false e f rest = rw (e, f) rest

pub order_kept : (keeps : SiteRow → Bool) (ss : List SiteRow) → filter keeps (in_order ss) ≡ in_order (filter keeps ss)
order_kept keeps [] = refl
order_kept keeps (s ∷ ss) = by (keeps s) refl (order_kept keeps ss)
  where
    by : (b : Bool) → keeps s ≡ b → filter keeps (in_order ss) ≡ in_order (filter keeps ss) → filter keeps (in_order (s ∷ ss)) ≡ in_order (filter keeps (s ∷ ss))
    by true e rest = put_kept keeps s (in_order ss) e (order_sorted ss) ∙ ap (put_in s) rest ∙ rw e refl
    by false e rest = put_left keeps s (in_order ss) e ∙ rest ∙ rw e refl

-- ---- sites that ascend

abbrev pub Rising : Option ℕ → List SiteRow → Type 0
Rising previous [] = Unit {0}
Rising previous (s ∷ ss) = IsTrue (is_above previous s.return_address) × Rising (Some s.return_address) ss

pub order_rising : (previous : Option ℕ) (ss : List SiteRow) → Rising previous ss → in_order ss ≡ ss
order_rising previous [] rises = refl
order_rising previous (s ∷ []) rises = refl
order_rising previous (s ∷ t ∷ ts) rises =
    let rest = order_rising (Some s.return_address) (t ∷ ts) rises.1 in
    let less : nat_lt s.return_address t.return_address ≡ true = rises.1.0 in
    ap (put_in s) rest ∙ rw less refl

-- ---- sites of one procedure

abbrev pub AreOf : ℕ → List SiteRow → Type 0
AreOf n [] = Unit {0}
AreOf n (s ∷ ss) = (s.procedure ≡ n) × AreOf n ss

pub own_sites : (n : ℕ) (ss : List SiteRow) → AreOf n ss → sites_of n ss ≡ ss
own_sites n [] are = refl
own_sites n (s ∷ ss) are =
    let same : nat_eq s.procedure n ≡ true = (let e = are.0 in grind (arith, nat_tests, e)) in
    rw (same, own_sites n ss are.1) refl

pub other_sites : (m n : ℕ) (ss : List SiteRow) → m < n → AreOf m ss → sites_of n ss ≡ []
other_sites m n [] less are = refl
other_sites m n (s ∷ ss) less are =
    let other : nat_eq s.procedure n ≡ false = (let e = are.0 in grind (arith, nat_tests, e, less)) in
    rw other (other_sites m n ss less are.1)
