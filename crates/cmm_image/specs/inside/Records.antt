-- Records of procedures as they are read one after another, and their sites, no two of which have one return address.
use Rattle.std.specs.Prelude.{◌≡◌, ℕ, ◌<◌, nat_eq, false, List, [], ◌∷◌, ◌++◌, length, map, take}
use Rattle.std.specs.List.{list_any}
use Rattle.cmm_image.specs.declared.rows.SiteRow.{SiteRow}
use Rattle.cmm_image.specs.declared.second_reading.Records.{Records}
use Rattle.cmm_image.specs.SecondFormat.{addresses_of}
use Rattle.cmm_image.specs.inside.Ascending.{address_at}

-- an address apart from those of sites; sites apart from one another
abbrev pub Apart : ℕ → List SiteRow → Type 0
Apart a [] = Unit {0}
Apart a (s ∷ ss) = (nat_eq a s.return_address ≡ false) × Apart a ss

abbrev pub Distinct : List SiteRow → Type 0
Distinct [] = Unit {0}
Distinct (s ∷ ss) = Apart s.return_address ss × Distinct ss

-- the addresses are those of the sites of the records
abbrev pub AreRecords : Records → Type 0
AreRecords r = r.addresses.keys ≡ addresses_of r.records.items

-- the return address of each of these sites is none of these addresses, and none of the sites before it
abbrev pub AreNew : List ℕ → List SiteRow → Type 0
AreNew addresses sites =
    (k : ℕ) → k < length sites → list_any (nat_eq (address_at sites k)) (addresses ++ map (λ s. s.return_address) (take k sites)) ≡ false
