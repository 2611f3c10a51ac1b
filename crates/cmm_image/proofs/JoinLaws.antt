-- Sites taken apart by procedure and put in order again are the sites.
use Rattle.std.proofs.Common.{◌≡◌, ℕ, suc, ◌+◌, ◌<◌, ◌≤◌, Bool, true, false, nat_eq, nat_le, nat_lt, List, [], ◌∷◌, ◌++◌, length, map, filter, flat_map, Option, Some, None, refl, sym, ap, ◌∙◌, arith}
use Rattle.std.proofs.lemmas.Bool.Decides.{nat_tests}
use Rattle.cmm_image.specs.declared.rows.ProcRow.{ProcRow}
use Rattle.cmm_image.specs.declared.rows.SiteRow.{SiteRow}
use Rattle.cmm_image.specs.SecondFormat.{in_order, put_in, records_from, sites_of}
use Rattle.cmm_image.proofs.DistinctLaws.{Each}
use Rattle.cmm_image.proofs.OrderLaws.{Over, Rising, over_kept, put_front}

abbrev puts : List SiteRow → List SiteRow → List SiteRow
puts [] ss = ss
puts (x ∷ xs) ss = put_in x (puts xs ss)

order_append : (xs ys : List SiteRow) → in_order (xs ++ ys) ≡ puts xs (in_order ys)
order_append [] ys = refl
order_append (x ∷ xs) ys = ap (put_in x) (order_append xs ys)

puts_over : (s : SiteRow) (xs ss : List SiteRow) → Over s.return_address xs → puts xs (s ∷ ss) ≡ s ∷ puts xs ss
puts_over s [] ss over = refl
puts_over s (x ∷ xs) ss over =
    let higher : nat_lt x.return_address s.return_address ≡ false = (let up = over.0 in grind (arith, nat_tests, up)) in
    ap (put_in x) (puts_over s xs ss over.1) ∙ rw higher refl

pub rising_over : (a previous : ℕ) (ss : List SiteRow) → a ≤ previous → Rising (Some previous) ss → Over a ss
rising_over a previous [] le rises = tt
rising_over a previous (s ∷ ss) le rises =
    let up : nat_lt previous s.return_address ≡ true = rises.0 in
    let over : a < s.return_address = grind (arith, nat_tests, le, up) in
    (over, rising_over a s.return_address ss (omega (arith, over)) rises.1)

-- ---- the sites of procedures from a number on

abbrev from_number : ℕ → List SiteRow → List SiteRow
from_number n ss = filter (λ s. nat_le n s.procedure) ss

one_more : (n : ℕ) (previous : Option ℕ) (ss : List SiteRow) → Rising previous ss → puts (sites_of n ss) (from_number (suc n) ss) ≡ from_number n ss
one_more n previous [] rises = refl
one_more n previous (s ∷ ss) rises =
    by (nat_eq s.procedure n) (nat_le n s.procedure) refl refl (rising_over s.return_address s.return_address ss (omega arith) rises.1) (one_more n (Some s.return_address) ss rises.1)
  where
    by : (b c : Bool) → nat_eq s.procedure n ≡ b → nat_le n s.procedure ≡ c → Over s.return_address ss → puts (sites_of n ss) (from_number (suc n) ss) ≡ from_number n ss →
        puts (sites_of n (s ∷ ss)) (from_number (suc n) (s ∷ ss)) ≡ from_number n (s ∷ ss)
    by true true e f over rest =
        let low : nat_le (suc n) s.procedure ≡ false = grind (arith, nat_tests, e) in
        rw (e, f, low, rest) (put_front s (from_number n ss) (over_kept (λ s. nat_le n s.procedure) s.return_address ss over))
    by true false e f over rest = absurd (grind (arith, nat_tests, e, f))
    by false true e f over rest =
        let high : nat_le (suc n) s.procedure ≡ true = grind (arith, nat_tests, e, f) in
        let front = puts_over s (sites_of n ss) (from_number (suc n) ss) (over_kept (λ s. nat_eq s.procedure n) s.return_address ss over) in
        rw (e, f, high) (front ∙ ap (λ (t : List SiteRow). s ∷ t) rest)
    by false false e f over rest =
        let low : nat_le (suc n) s.procedure ≡ false = grind (arith, nat_tests, f) in
        rw (e, f, low) rest

none_from : (n : ℕ) (ss : List SiteRow) → Each (λ s. s.procedure < n) ss → from_number n ss ≡ []
none_from n [] all = refl
none_from n (s ∷ ss) all =
    let low : nat_le n s.procedure ≡ false = (let less = all.0 in grind (arith, nat_tests, less)) in
    rw low (none_from n ss all.1)

from_zero : (ss : List SiteRow) → from_number 0 ss ≡ ss
from_zero [] = refl
from_zero (s ∷ ss) =
    let low : nat_le 0 s.procedure ≡ true = grind (arith, nat_tests) in
    rw (low, from_zero ss) refl

joined_from : (n count : ℕ) (ps : List ProcRow) (ss : List SiteRow) → n + length ps ≡ count → Rising None ss → Each (λ s. s.procedure < count) ss →
    in_order (flat_map (λ r. r.sites) (records_from n ps ss)) ≡ from_number n ss
joined_from n count [] ss all rises below =
    let here : n ≡ count = omega (arith, all) in
    sym (ap (λ (m : ℕ). from_number m ss) here ∙ none_from count ss below)
joined_from n count (p ∷ ps) ss all rises below =
    order_append (sites_of n ss) (flat_map (λ r. r.sites) (records_from (suc n) ps ss))
    ∙ ap (puts (sites_of n ss)) (joined_from (suc n) count ps ss (omega (arith, all)) rises below)
    ∙ one_more n None ss rises

-- where each site is of one of these procedures
pub joined_again : (ps : List ProcRow) (ss : List SiteRow) → Rising None ss → Each (λ s. s.procedure < length ps) ss →
    in_order (flat_map (λ r. r.sites) (records_from 0 ps ss)) ≡ ss
joined_again ps ss rises below = joined_from 0 (length ps) ps ss (omega arith) rises below ∙ from_zero ss

pub rows_again : (n : ℕ) (ps : List ProcRow) (ss : List SiteRow) → map (λ r. r.row) (records_from n ps ss) ≡ ps
rows_again n [] ss = refl
rows_again n (p ∷ ps) ss = ap (λ (t : List ProcRow). p ∷ t) (rows_again (suc n) ps ss)
