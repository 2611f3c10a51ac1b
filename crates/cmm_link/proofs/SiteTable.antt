-- The rows of sites: each is that of a site of the program, and each site has its row.
use Rattle.std.proofs.Common.{◌≡◌, true, ℕ, ◌+◌, ◌<◌, ◌++◌, All, Contains, Option, Some, None, List, [], ◌∷◌, flat_map, map, slice_get, refl, sym, ap, ◌∙◌, subst, arith}
use Rattle.std.proofs.lemmas.List.{map-append}
use Rattle.std.specs.List.{AllZip, concat, enumerate_from, zip}
use Rattle.std.specs.Prelude.{slice_index}
use Rattle.cmm_words.specs.declared.constant.Constant.{Constant}
use Rattle.cmm_program.specs.declared.procedure.Proc.{Proc}
use Rattle.cmm_program.specs.declared.procedure.Site.{Site}
use Rattle.cmm_image.specs.declared.rows.SiteRow.{SiteRow}
use Rattle.cmm_allocate.specs.declared.procedure.ProcedurePlaces.{ProcedurePlaces}
use Rattle.cmm_tables.specs.declared.unplaced.UnplacedSite.{UnplacedSite}
use Rattle.cmm_tables.specs.SiteRows.{local_place, placed_site, unplaced_site, unplaced_sites}
use Rattle.cmm_unit_code.specs.Texts.{HasLandings, HasSitesAt, IsSiteAt, address_in}
use Rattle.cmm_link.specs.Linked.{HaveFrames}
use Rattle.cmm_link.specs.Rows.{placed_sites, site_rows, sites_of}
use Rattle.std.proofs.lemmas.Bool.Decides.{nat_tests}
use Rattle.std.proofs.lemmas.List.Elements.{All-weaker}
use Rattle.cmm_image.specs.ImageFormat.{is_in_code}
use Rattle.cmm_link.proofs.Listed.{all_flat, all_from_get, both_at, contains_at, there_at, enumerate_get, enumerated_get, flat_contains, map_get, mapped_get, zip_get, zipped_get}

-- the addresses of all procedures by their numbers
pub in_lists : (all : List (List ℕ)) (q n a : ℕ) (own : List ℕ) → slice_get all q ≡ Some own → slice_get own n ≡ Some a → address_in all q n ≡ Some a
in_lists all q n a own one two = ap (λ (o : Option (List ℕ)). elim o as (λ _. Option ℕ) [ Some own ↦ slice_get own n | None ↦ None ]) one ∙ two

pub of_lists : (all : List (List ℕ)) (q n a : ℕ) (own : List ℕ) → slice_get all q ≡ Some own → address_in all q n ≡ Some a → slice_get own n ≡ Some a
of_lists all q n a own one two = sym (ap (λ (o : Option (List ℕ)). elim o as (λ _. Option ℕ) [ Some own ↦ slice_get own n | None ↦ None ]) one) ∙ two

module _ (value : Constant → ℕ) (procs : List Proc) (places : List ProcedurePlaces) (landings addresses : List (List ℕ)) where
  -- a row is that of a site
  pub record IsRow (row : SiteRow) : Type 0 where
    pub q : ℕ
    pub n : ℕ
    pub p : Proc
    pub site : Site
    pub k : ProcedurePlaces
    pub lands : List ℕ
    pub address : ℕ
    pub is_procedure : slice_get procs q ≡ Some p
    pub is_places : slice_get places q ≡ Some k
    pub is_lands : slice_get landings q ≡ Some lands
    pub is_site : slice_get p.sites n ≡ Some site
    pub is_address : address_in addresses q n ≡ Some address
    pub is_row : row ≡ placed_site (λ k. slice_index lands k) value address (unplaced_site p (local_place k.locals) q n site)

  abbrev Given : Type 0
  Given = Proc × (ProcedurePlaces × (List ℕ × List ℕ))

  abbrev zipped : List Given
  zipped = zip procs (zip places (zip landings addresses))

  rows_in : (i : ℕ) (of : ℕ × Given) → slice_get (enumerate_from 0 zipped) i ≡ Some of → All IsRow (placed_sites value of)
  rows_in i of is =
      let en = enumerated_get 0 zipped i of is in
      let at : i ≡ of.0 = let first = en.0 in omega (arith, first) in
      let one = zipped_get procs (zip places (zip landings addresses)) i of.1 en.1 in
      let two = zipped_get places (zip landings addresses) i of.1.1 one.1 in
      let three = zipped_get landings addresses i of.1.1.1 two.1 in
      let unplaced : List UnplacedSite = unplaced_sites of.1.0 (local_place of.1.1.0.locals) of.0 in
      let make : UnplacedSite × ℕ → SiteRow = λ x. placed_site (λ k. slice_index of.1.1.1.0 k) value x.1 x.0 in
      all_from_get IsRow (placed_sites value of) (λ j row there.
      let made = mapped_get make (zip unplaced of.1.1.1.1) j row there in
      let both = zipped_get unplaced of.1.1.1.1 j made.0 made.1 in
      let from = mapped_get (λ (x : ℕ × Site). unplaced_site of.1.0 (local_place of.1.1.0.locals) of.0 x.0 x.1) (enumerate_from 0 of.1.0.sites) j made.0.0 both.0 in
      let number = enumerated_get 0 of.1.0.sites j from.0 from.1 in
      let its : j ≡ from.0.0 = let first = number.0 in omega (arith, first) in
      record {
        q = of.0;
        n = from.0.0;
        p = of.1.0;
        site = from.0.1;
        k = of.1.1.0;
        lands = of.1.1.1.0;
        address = made.0.1;
        is_procedure = subst (λ (i : ℕ). slice_get procs i ≡ Some of.1.0) at one.0;
        is_places = subst (λ (i : ℕ). slice_get places i ≡ Some of.1.1.0) at two.0;
        is_lands = subst (λ (i : ℕ). slice_get landings i ≡ Some of.1.1.1.0) at three.0;
        is_site = subst (λ (j : ℕ). slice_get of.1.0.sites j ≡ Some from.0.1) its number.1;
        is_address =
            in_lists addresses of.0 from.0.0 made.0.1 of.1.1.1.1 (subst (λ (i : ℕ). slice_get addresses i ≡ Some of.1.1.1.1) at three.1)
            (subst (λ (j : ℕ). slice_get of.1.1.1.1 j ≡ Some made.0.1) its both.1);
        is_row = sym made.2 ∙ ap (λ (u : UnplacedSite). placed_site (λ k. slice_index of.1.1.1.0 k) value made.0.1 u) (sym from.2);
      })

  pub rows_are : All IsRow (site_rows value procs places landings addresses)
  rows_are = all_flat IsRow (placed_sites value) (enumerate_from 0 zipped) rows_in

  -- and each site has one
  pub row_there : (q n : ℕ) (p : Proc) (site : Site) (k : ProcedurePlaces) (lands : List ℕ) (address : ℕ) → slice_get procs q ≡ Some p → slice_get places q ≡ Some k →
      slice_get landings q ≡ Some lands → slice_get p.sites n ≡ Some site → (all : List ℕ) → slice_get addresses q ≡ Some all → slice_get all n ≡ Some address →
      Contains (site_rows value procs places landings addresses)
      (placed_site (λ k. slice_index lands k) value address (unplaced_site p (local_place k.locals) q n site))
  row_there q n p site k lands address is_p is_k is_l is_site all is_all is_a =
      let zero_q : 0 + q ≡ q = omega arith in
      let zero_n : 0 + n ≡ n = omega arith in
      let of : Given = (p, (k, (lands, all))) in
      let at_q =
      zip_get procs (zip places (zip landings addresses)) q p (k, (lands, all)) is_p
      (zip_get places (zip landings addresses) q k (lands, all) is_k (zip_get landings addresses q lands all is_l is_all))
      in
      let first : slice_get (enumerate_from 0 zipped) q ≡ Some (q, of) =
      subst (λ (i : ℕ). slice_get (enumerate_from 0 zipped) q ≡ Some (i, of)) zero_q (enumerate_get 0 zipped q of at_q) in
      let unplaced : ℕ × Site → UnplacedSite = λ x. unplaced_site p (local_place k.locals) q x.0 x.1 in
      let numbered : slice_get (enumerate_from 0 p.sites) n ≡ Some (n, site) =
      subst (λ (j : ℕ). slice_get (enumerate_from 0 p.sites) n ≡ Some (j, site)) zero_n (enumerate_get 0 p.sites n site is_site) in
      let u = map_get unplaced (enumerate_from 0 p.sites) n (n, site) numbered in
      let make : UnplacedSite × ℕ → SiteRow = λ x. placed_site (λ k. slice_index lands k) value x.1 x.0 in
      let row = make (unplaced (n, site), address) in
      flat_contains (placed_sites value) (enumerate_from 0 zipped) q (q, of) row first
      (contains_at (placed_sites value (q, of)) n row
      (map_get make (zip (map unplaced (enumerate_from 0 p.sites)) all) n (unplaced (n, site), address) (zip_get (map unplaced (enumerate_from 0 p.sites)) all n (unplaced (n, site)) address u is_a)))

-- ---- their return addresses

module _ (value : Constant → ℕ) (size : ℕ) where
  own_addresses : (q from : ℕ) (p : Proc) (k : ProcedurePlaces) (lands : List ℕ) (sites : List Site) (addresses : List ℕ) → AllZip (IsSiteAt size) sites addresses →
      map (λ (row : SiteRow). row.return_address)
      (map (λ (of : UnplacedSite × ℕ). placed_site (λ k. slice_index lands k) value of.1 of.0)
      (zip (map (λ (of : ℕ × Site). unplaced_site p (local_place k.locals) q of.0 of.1) (enumerate_from from sites)) addresses))
      ≡ addresses
  own_addresses q from p k lands [] [] all = refl
  own_addresses q from p k lands [] (a ∷ addresses) all = elim all [ ]
  own_addresses q from p k lands (s ∷ sites) [] all = elim all [ ]
  own_addresses q from p k lands (s ∷ sites) (a ∷ addresses) all = ap (λ (l : List ℕ). a ∷ l) (own_addresses q (from + 1) p k lands sites addresses all.1)

  addresses_from : (from : ℕ) (procs : List Proc) (places : List ProcedurePlaces) (landings addresses : List (List ℕ)) → HaveFrames procs places → AllZip HasLandings procs landings →
      AllZip (HasSitesAt size) procs addresses →
      map (λ (row : SiteRow). row.return_address) (flat_map (placed_sites value) (enumerate_from from (zip procs (zip places (zip landings addresses))))) ≡ concat addresses
  addresses_from from [] places landings [] frames landed sited = refl
  addresses_from from [] places landings (as_ ∷ addresses) frames landed sited = elim sited [ ]
  addresses_from from (p ∷ procs) [] landings addresses frames landed sited = elim frames [ ]
  addresses_from from (p ∷ procs) (k ∷ places) [] addresses frames landed sited = elim landed [ ]
  addresses_from from (p ∷ procs) (k ∷ places) (ls ∷ landings) [] frames landed sited = elim sited [ ]
  addresses_from from (p ∷ procs) (k ∷ places) (ls ∷ landings) (as_ ∷ addresses) frames landed sited =
      let make = λ (row : SiteRow). row.return_address in
      map-append make (sites_of value from p k ls as_) (flat_map (placed_sites value) (enumerate_from (from + 1) (zip procs (zip places (zip landings addresses)))))
      ∙ ap (λ (l : List ℕ). l ++ map make (flat_map (placed_sites value) (enumerate_from (from + 1) (zip procs (zip places (zip landings addresses))))))
      (own_addresses from 0 p k ls p.sites as_ sited.0)
      ∙ ap (λ (l : List ℕ). as_ ++ l) (addresses_from (from + 1) procs places landings addresses frames.1 landed.1 sited.1)

  pub addresses_are : (procs : List Proc) (places : List ProcedurePlaces) (landings addresses : List (List ℕ)) → HaveFrames procs places → AllZip HasLandings procs landings →
      AllZip (HasSitesAt size) procs addresses → map (λ (row : SiteRow). row.return_address) (site_rows value procs places landings addresses) ≡ concat addresses
  addresses_are procs places landings addresses frames landed sited = addresses_from 0 procs places landings addresses frames landed sited

-- none of them is 0
pub some_address : (value : Constant → ℕ) (size : ℕ) (procs : List Proc) (places : List ProcedurePlaces) (landings addresses : List (List ℕ)) → AllZip (HasSitesAt size) procs addresses →
    All (λ (row : SiteRow). 0 < row.return_address) (site_rows value procs places landings addresses)
some_address value size procs places landings addresses sited =
    All-weaker (IsRow value procs places landings addresses) (λ (row : SiteRow). 0 < row.return_address) above (site_rows value procs places landings addresses)
    (rows_are value procs places landings addresses)
  where
    in_code : (n : ℕ) → is_in_code size n ≡ true → 0 < n
    in_code n is = grind (arith, nat_tests, is)

    above : (row : SiteRow) → IsRow value procs places landings addresses row → 0 < row.return_address
    above row is =
        let own = there_at (HasSitesAt size) procs addresses is.q is.p sited is.is_procedure in
        let at = both_at (IsSiteAt size) is.p.sites own.0 is.n is.site is.address own.2 is.is_site (of_lists addresses is.q is.n is.address own.0 own.1 is.is_address) in
        subst (λ (row : SiteRow). 0 < row.return_address) (sym is.is_row) (in_code is.address at.0)
