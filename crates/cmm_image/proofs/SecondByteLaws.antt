-- The bytes of the tables of version 2: the bits of sites, and records that are written in parts.
use Rattle.std.proofs.Common.{◌≡◌, ℕ, zero, suc, ◌+◌, ◌-◌, ◌<◌, ◌≤◌, ◌^◌, List, [], ◌∷◌, ◌++◌, length, map, flat_map, take, drop, replicate, get_or, min, None, Ok, refl, sym, ap, ◌∙◌, append_assoc, arith}
use Rattle.std.specs.Borrow.{Bor}
use Rattle.std.specs.Int.{div_ceil}
use Rattle.std.specs.List.{zip}
use Rattle.std.proofs.lemmas.List.{append-nil, length-map, length-replicate}
use Rattle.std.proofs.lemmas.List.Concat.{flat_map-append}
use Rattle.std.proofs.lemmas.List.Folds.{flat_map-map}
use Rattle.cmm_format.specs.Formats.{Format, given, number_bytes}
use Rattle.cmm_image.specs.declared.rows.ProcRow.{ProcRow}
use Rattle.cmm_image.specs.declared.rows.SiteRow.{SiteRow}
use Rattle.cmm_image.specs.declared.rows.VariablePlace.{VariablePlace}
use Rattle.cmm_image.specs.declared.rows.VariablePlace.TheVariants.{Dead, Slot, Register}
use Rattle.cmm_image.specs.declared.rows.VariableRow.{VariableRow}
use Rattle.cmm_image.specs.ImageFormat.{lists_with, one_if, site_with}
use Rattle.cmm_image.specs.SecondFormat.{is_live, live_places, live_site, mask_count, mask_number, masks, or_places, placed, placed_variable, places_among, places_with, records_from, row_places, sites_of}
use Rattle.cmm_image.specs.inside.SecondSpellings.{AreOwned, front_bytes, live_bytes, live_site_bytes, live_sites_bytes, placed_bytes, read_all, record_bytes, record_with}
use Rattle.cmm_image.proofs.LiveLaws.{groups}

-- ---- the bits of a site

one_bit : (p : VariablePlace) → one_if (is_live p) ≤ 1
one_bit Dead = omega arith
one_bit (Slot n) = omega arith
one_bit (Register r) = omega arith

bits_below : (n : ℕ) (ps : List VariablePlace) → length ps ≤ n → mask_number ps + 1 ≤ 2 ^ n
bits_below zero [] few = omega arith
bits_below zero (p ∷ ps) few = absurd (omega (arith, few))
bits_below (suc n) [] few = let rest : 1 ≤ 2 ^ n = bits_below n [] (omega arith) in omega (arith, rest)
bits_below (suc n) (p ∷ ps) few = omega (arith, one_bit p, bits_below n ps (omega (arith, few)))

-- the bits of up to seven variables leave room for one more
pub bits_small : (ps : List VariablePlace) → length ps ≤ 7 → mask_number ps < 128
bits_small ps few = let below : mask_number ps + 1 ≤ 128 = bits_below 7 ps few in omega (arith, below)

-- what bits are spelled does not hang on the places that they are read by
masks_alike : (n : ℕ) (ps qs vs : List VariablePlace) → (masks n ps).spelled vs ≡ (masks n qs).spelled vs
masks_alike zero ps qs vs = refl
masks_alike (suc n) ps qs vs = ap (λ (t : List ℕ). number_bytes 1 (mask_number (take 8 vs)) ++ t) (masks_alike n (drop 8 ps) (drop 8 qs) (drop 8 vs))

lives_alike : (n : ℕ) (ps vs : List VariablePlace) → length ps ≡ n → (live_places ps).spelled vs ≡ live_bytes n vs
lives_alike n ps vs is = masks_alike (mask_count (length ps)) ps [] vs ∙ ap (λ (k : ℕ). (masks (mask_count k) []).spelled vs) is

pub bytes_begun : (n : ℕ) → div_ceil n 8 ≡ mask_count n
bytes_begun n = omega arith

-- the bytes so far, and those of the bits that are left, are all
pub next_bits : (out total : List ℕ) (count done m : ℕ) (rest group others : List VariablePlace) → done < count → m ≡ min (length rest) 8 → group ≡ take m rest → others ≡ drop m rest →
    out ++ (masks (count - done) []).spelled rest ≡ total → (out ++ number_bytes 1 (mask_number group)) ++ (masks (count - (done + 1)) []).spelled others ≡ total
next_bits out total count done m rest group others less is first more so_far =
    let k : ℕ = count - (done + 1) in
    let left : count - done ≡ suc k = omega (arith, less) in
    let bits : List ℕ = number_bytes 1 (mask_number (take 8 rest)) in
    ap (λ (g : List VariablePlace). (out ++ number_bytes 1 (mask_number g)) ++ (masks k []).spelled others) (first ∙ (groups rest m is).0)
    ∙ ap (λ (o : List VariablePlace). (out ++ bits) ++ (masks k []).spelled o) (more ∙ (groups rest m is).1)
    ∙ append_assoc out bits ((masks k []).spelled (drop 8 rest))
    ∙ ap (λ (t : List ℕ). out ++ (bits ++ t)) (masks_alike k [] (drop 8 []) (drop 8 rest))
    ∙ ap (λ (n : ℕ). out ++ (masks n []).spelled rest) (sym left)
    ∙ so_far

pub all_bits : (out total : List ℕ) (count done : ℕ) (rest : List VariablePlace) → count ≤ done →
    out ++ (masks (count - done) []).spelled rest ≡ total → out ≡ total
all_bits out total count done rest past so_far =
    let none : count - done ≡ 0 = omega (arith, past) in
    sym (append-nil out) ∙ ap (λ (n : ℕ). out ++ (masks n []).spelled rest) (sym none) ∙ so_far

-- ---- the record of a procedure

-- places that are spelled so, whatever they are
abbrev constant : List ℕ → Format (List VariablePlace)
constant t = record { spelled = λ places. t; Holds = λ places. Unit {0}; at = λ bytes. Ok ([], bytes) }

site_alike : (ps : List VariablePlace) (n conts : ℕ) (s : SiteRow) → length ps ≡ n → (live_site 0 0 [] ps conts None).spelled s ≡ live_site_bytes n s
site_alike ps n conts s is =
    ap (λ (t : List ℕ). (site_with [] (given 0) (λ procedure. lists_with (constant t) 0 0)).spelled s) (lives_alike n ps s.variables is)

sites_alike : (ps : List VariablePlace) (n conts : ℕ) (ss : List SiteRow) → length ps ≡ n → flat_map (live_site 0 0 [] ps conts None).spelled ss ≡ flat_map (live_site_bytes n) ss
sites_alike ps n conts [] is = refl
sites_alike ps n conts (s ∷ ss) is =
    ap (λ (t : List ℕ). t ++ flat_map (live_site 0 0 [] ps conts None).spelled ss) (site_alike ps n conts s is)
    ∙ ap (λ (t : List ℕ). live_site_bytes n s ++ t) (sites_alike ps n conts ss is)

placed_length : (vs : List VariableRow) (ps : List VariablePlace) → length vs ≤ length ps → length (map placed (zip vs ps)) ≡ length vs
placed_length [] ps enough = refl
placed_length (v ∷ vs) [] enough = absurd (omega (arith, enough))
placed_length (v ∷ vs) (p ∷ ps) enough = ap suc (placed_length vs ps (omega (arith, enough)))

places_length : (vs : List VariableRow) (ps : List VariablePlace) → length vs ≤ length ps → length (row_places (map placed (zip vs ps))) ≡ length vs
places_length vs ps enough = length-map (map placed (zip vs ps)) (λ v. v.place) ∙ placed_length vs ps enough

or_long : (ps qs : List VariablePlace) → length ps ≤ length (or_places ps qs)
or_long [] qs = omega arith
or_long (p ∷ ps) [] = omega arith
or_long (p ∷ ps) (q ∷ qs) = omega (arith, or_long ps qs)

with_long : (ps : List VariablePlace) (ss : List SiteRow) → length ps ≤ length (places_with ps ss)
with_long ps [] = omega arith
with_long ps (s ∷ ss) = omega (arith, or_long ps s.variables, with_long (or_places ps s.variables) ss)

-- each variable has a place, or is dead
pub places_long : (n : ℕ) (ss : List SiteRow) → n ≤ length (places_among n ss)
places_long n ss = omega (arith, with_long (replicate n Dead) ss, length-replicate n Dead)

pub record_is : (p : ProcRow) (ss : List SiteRow) →
    front_bytes p (places_among (length p.variables) ss) ++ (live_sites_bytes (length p.variables) ss ++ number_bytes 1 0) ≡ record_bytes (record_with p ss)
record_is p ss =
    let n : ℕ = length p.variables in
    let places = places_among n ss in
    let front : List ℕ = front_bytes p places in
    let own : List VariablePlace = row_places (map placed (zip p.variables places)) in
    ap (λ (t : List ℕ). front ++ ((number_bytes 4 (length ss) ++ t) ++ number_bytes 1 0))
    (sym (sites_alike own n (length p.continuations) ss (places_length p.variables places (places_long n ss))))

-- the record was written in three parts
pub record_put : (p : ProcRow) (ss : List SiteRow) (n : ℕ) (places : List VariablePlace) (old a b c : List ℕ) → n ≡ length p.variables → places ≡ places_among n ss →
    a ≡ old ++ front_bytes p places → b ≡ a ++ live_sites_bytes n ss → c ≡ b ++ number_bytes 1 0 → c ≡ old ++ record_bytes (record_with p ss)
record_put p ss n places old a b c count are first second third =
    third
    ∙ ap (λ (t : List ℕ). t ++ number_bytes 1 0) (second ∙ ap (λ (t : List ℕ). t ++ live_sites_bytes n ss) first)
    ∙ append_assoc (old ++ front_bytes p places) (live_sites_bytes n ss) (number_bytes 1 0)
    ∙ append_assoc old (front_bytes p places) (live_sites_bytes n ss ++ number_bytes 1 0)
    ∙ ap (λ (qs : List VariablePlace). old ++ (front_bytes p qs ++ (live_sites_bytes n ss ++ number_bytes 1 0))) are
    ∙ ap (λ (m : ℕ). old ++ (front_bytes p (places_among m ss) ++ (live_sites_bytes m ss ++ number_bytes 1 0))) count
    ∙ ap (λ (t : List ℕ). old ++ t) (record_is p ss)

-- ---- variables with their places

pub flat_pushed : {A : Type 0} (f : A → List ℕ) (xs : List A) (x : A) → flat_map f (xs ++ x ∷ []) ≡ flat_map f xs ++ f x
flat_pushed f xs x = flat_map-append f xs (x ∷ []) ∙ ap (λ (t : List ℕ). flat_map f xs ++ t) (append-nil (f x))

abbrev pub both : Bor VariableRow × Bor VariablePlace → List ℕ
both y = (placed_variable 0 None).spelled (placed (y.0.now, y.1.now))

pub placed_put : (vs : List VariableRow) (ps : List VariablePlace) (ys : List (Bor VariableRow × Bor VariablePlace)) → length vs ≤ length ps → map (λ y. (y.0.now, y.1.now)) ys ≡ zip vs ps →
    number_bytes 2 (length vs) ++ flat_map both ys ≡ placed_bytes vs ps
placed_put vs ps ys enough are =
    ap (λ (n : ℕ). number_bytes 2 n ++ flat_map both ys) (sym (placed_length vs ps enough))
    ∙ ap (λ (t : List ℕ). number_bytes 2 (length (map placed (zip vs ps))) ++ t)
    (sym (flat_map-map (λ x. (placed_variable 0 None).spelled (placed x)) (λ y. (y.0.now, y.1.now)) ys)
    ∙ ap (flat_map (λ x. (placed_variable 0 None).spelled (placed x))) are
    ∙ sym (flat_map-map (placed_variable 0 None).spelled placed (zip vs ps)))

-- ---- all records

records_are : (n : ℕ) (ps : List ProcRow) (os : List (List (Bor SiteRow))) (sites : List SiteRow) → length os ≡ length ps →
    ((k : ℕ) → k < length ps → read_all (get_or os k []) ≡ sites_of (n + k) sites) →
    flat_map (λ x. record_bytes (record_with x.0 (read_all x.1))) (zip ps os) ≡ flat_map record_bytes (records_from n ps sites)
records_are n [] os sites size each = refl
records_are n (p ∷ ps) [] sites size each = absurd (omega (arith, size))
records_are n (p ∷ ps) (o ∷ os) sites size each =
    let first : read_all o ≡ sites_of n sites = each 0 (omega arith) ∙ ap (λ (m : ℕ). sites_of m sites) (let e : n + 0 ≡ n = omega arith in e) in
    let later = records_are (suc n) ps os sites (omega (arith, size)) (λ k less. each (suc k) (omega (arith, less)) ∙ ap (λ (m : ℕ). sites_of m sites) (let e : n + suc k ≡ suc n + k = omega arith in e)) in
    ap (λ (ss : List SiteRow). record_bytes (record_with p ss) ++ flat_map (λ x. record_bytes (record_with x.0 (read_all x.1))) (zip ps os)) first
    ∙ ap (λ (t : List ℕ). record_bytes (record_with p (sites_of n sites)) ++ t) later

abbrev pub owner_bytes : Bor ProcRow × Bor (List (Bor SiteRow)) → List ℕ
owner_bytes y = record_bytes (record_with y.0.now (read_all y.1.now))

pub tables_put : (ps : List ProcRow) (os : List (List (Bor SiteRow))) (sites : List SiteRow) (ys : List (Bor ProcRow × Bor (List (Bor SiteRow)))) →
    AreOwned (length ps) os sites → map (λ y. (y.0.now, y.1.now)) ys ≡ zip ps os → flat_map owner_bytes ys ≡ flat_map record_bytes (records_from 0 ps sites)
tables_put ps os sites ys owned are =
    sym (flat_map-map (λ x. record_bytes (record_with x.0 (read_all x.1))) (λ y. (y.0.now, y.1.now)) ys)
    ∙ ap (flat_map (λ x. record_bytes (record_with x.0 (read_all x.1)))) are
    ∙ records_are 0 ps os sites owned.count (λ k less. owned.each k less ∙ ap (λ (m : ℕ). sites_of m sites) (let e : k ≡ 0 + k = omega arith in e))
