-- The sites of an image ascend, and a search by halves finds them.
use Rattle.std.proofs.Common.{◌≡◌, ℕ, zero, suc, ◌+◌, ◌<◌, ◌≤◌, ◌^◌, nat_lt, nat_eq, true, false, IsTrue, List, [], ◌∷◌, length, slice_index_or, Option, Some, None, refl, sym, ap, ◌∙◌, arith}
use Rattle.std.proofs.lemmas.Bool.Decides.{nat_tests}
use Rattle.std.proofs.lemmas.List.Sums.{position_or_len_is}
use Rattle.cmm_image.specs.declared.parts.ImageParts.{ImageParts}
use Rattle.cmm_image.specs.declared.rows.ProcRow.{ProcRow}
use Rattle.cmm_image.specs.declared.rows.SiteRow.{SiteRow}
use Rattle.cmm_format.specs.Formats.{AreRows}
use Rattle.cmm_image.specs.ImageFormat.{site}
use Rattle.cmm_image.specs.Images.{IsImage}
use Rattle.cmm_image.specs.Sites.{no_site, returns_to, site_place}
use Rattle.cmm_image.specs.inside.Ascending.{address_at, Ascend, Halves}
use Rattle.cmm_image.proofs.WholeLaws.{first_holds}

-- ---- the order of sites

is_below : (m n : ℕ) → IsTrue (nat_lt m n) → m < n
is_below m n h = grind (arith, nat_tests)

-- sites behind one have addresses above its own
below_later : (code_length : ℕ) (procedures : List ProcRow) (s : SiteRow) (sites : List SiteRow) (k : ℕ) →
    AreRows (λ previous. (site code_length procedures previous).Holds) (Some s) sites → k < length sites → s.return_address < address_at sites k
below_later code_length procedures s [] k rows less = absurd (omega arith)
below_later code_length procedures s (t ∷ ts) zero rows less = is_below s.return_address t.return_address rows.0.0.1.0
below_later code_length procedures s (t ∷ ts) (suc k) rows less =
    let first = is_below s.return_address t.return_address rows.0.0.1.0 in
    let later = below_later code_length procedures t ts k rows.1 (omega arith) in
    omega arith

ascend : (code_length : ℕ) (procedures : List ProcRow) (previous : Option SiteRow) (sites : List SiteRow) →
    AreRows (λ previous. (site code_length procedures previous).Holds) previous sites → Ascend sites
ascend code_length procedures previous [] rows a b less short = absurd (omega arith)
ascend code_length procedures previous (s ∷ ss) rows zero zero less short = absurd (omega arith)
ascend code_length procedures previous (s ∷ ss) rows zero (suc b) less short = below_later code_length procedures s ss b rows.1 (omega arith)
ascend code_length procedures previous (s ∷ ss) rows (suc a) zero less short = absurd (omega arith)
ascend code_length procedures previous (s ∷ ss) rows (suc a) (suc b) less short =
    ascend code_length procedures (Some s) ss rows.1 a b (omega arith) (omega arith)

pub sites_ascend : (i : ImageParts) → IsImage i → Ascend i.sites
sites_ascend i h = ascend (length i.code) i.procs None i.sites (first_holds i h).1.1

pub sites_are_few : (i : ImageParts) → IsImage i → length i.sites < 2 ^ 32
sites_are_few i h = h.fields.0.1.1.1.1.1.1.1.0

-- ---- places

differs : (address a : ℕ) → a < address → nat_eq a address ≡ false
differs address a less = grind (arith, nat_tests)

differs_above : (address a : ℕ) → address < a → nat_eq a address ≡ false
differs_above address a less = grind (arith, nat_tests)

is_same : (address a : ℕ) → a ≡ address → nat_eq a address ≡ true
is_same address a e = grind (arith, nat_tests)

is_less : (a b : ℕ) → a < b → nat_lt a b ≡ true
is_less a b h = grind (arith, nat_tests)

is_no_less : (a : ℕ) → nat_lt a a ≡ false
is_no_less a = grind (arith, nat_tests)

-- the site at a place is the only one with its address
found : (sites : List SiteRow) (address k : ℕ) → Ascend sites → k < length sites → address_at sites k ≡ address → site_place sites address ≡ Some k
found sites address k order short at =
    let first = position_or_len_is (returns_to address) sites k no_site (omega arith)
    (λ j less. differs address (address_at sites j) (omega (arith, order j k less short, at)))
    (λ there. is_same address (address_at sites k) at) in
    rw (first, is_less k (length sites) short) refl

-- where the search has come to its end, no site has the address
pub nowhere : (sites : List SiteRow) (address low high : ℕ) → Halves sites address low high → high ≤ low → None ≡ site_place sites address
nowhere sites address low high h over =
    let first = position_or_len_is (returns_to address) sites (length sites) no_site (omega arith)
    (λ j less. grind (arith, nat_tests, h.before j, h.behind j, differs address (address_at sites j), differs_above address (address_at sites j)))
    (λ there. absurd (omega arith)) in
    rw (first, is_no_less (length sites)) refl

-- what is read at a place that there is depends on no default
read_at : (sites : List SiteRow) (k : ℕ) (d : SiteRow) → k < length sites → slice_index_or sites k d ≡ slice_index_or sites k no_site
read_at [] k d short = absurd (omega arith)
read_at (s ∷ ss) zero d short = refl
read_at (s ∷ ss) (suc k) d short = read_at ss k d (omega arith)

pub found_there : (sites : List SiteRow) (address k : ℕ) (d : SiteRow) → Ascend sites → k < length sites →
    (slice_index_or sites k d).return_address ≡ address → Some k ≡ site_place sites address
found_there sites address k d order short at =
    sym (found sites address k order short (ap (λ s. s.return_address) (sym (read_at sites k d short)) ∙ at))

-- ---- halves

pub all_of : (sites : List SiteRow) (address : ℕ) → Halves sites address 0 (length sites)
all_of sites address = record {
  ordered = omega arith;
  inside = omega arith;
  before = λ k less. absurd (omega arith);
  behind = λ k from to. absurd (omega arith);
}

-- the site at the middle is before it, and so are all before that one
upper : (sites : List SiteRow) (address low high middle : ℕ) → Ascend sites → Halves sites address low high → low ≤ middle → middle < high →
    address_at sites middle < address → Halves sites address (middle + 1) high
upper sites address low high middle order h from to less = record {
  ordered = omega arith;
  inside = h.inside;
  before = λ k before. elim_le k before;
  behind = h.behind;
} where
  elim_le : (k : ℕ) → k < middle + 1 → address_at sites k < address
  elim_le k before = grind (arith, order k middle, h.inside)

pub upper_there : (sites : List SiteRow) (address low high middle : ℕ) (d : SiteRow) → Ascend sites → Halves sites address low high → low ≤ middle →
    middle < high → (slice_index_or sites middle d).return_address < address → Halves sites address (middle + 1) high
upper_there sites address low high middle d order h from to less =
    let short : middle < length sites = omega (arith, h.inside) in
    upper sites address low high middle order h from to (rw (ap (λ s. s.return_address) (sym (read_at sites middle d short))) less)

-- the site at the middle is behind it, and so are all behind that one
pub lower : (sites : List SiteRow) (address low high middle : ℕ) → Ascend sites → Halves sites address low high → low ≤ middle → middle < high →
    address < address_at sites middle → Halves sites address low middle
lower sites address low high middle order h from to less = record {
  ordered = from;
  inside = omega (arith, h.inside);
  before = h.before;
  behind = λ k at short. grind (arith, order middle k);
}
