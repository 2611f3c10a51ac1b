-- What migration makes of an image, and why it makes nothing: each of bytes that are one thing alone.
use Rattle.std.proofs.Common.{◌≡◌, ℕ, zero, suc, ◌<◌, ◌≤◌, true, IsTrue, IfOk, IfErr, List, [], ◌∷◌, length, All, Result, Ok, Err, None, inl, inr, refl, sym, ap, subst, ◌∙◌, arith}
use Rattle.std.proofs.lemmas.Bool.{both_ways}
use Rattle.std.proofs.lemmas.Bool.Decides.{nat_tests}
use Rattle.cmm_rules.specs.declared.rule.Rule.{Rule}
use Rattle.cmm_image.specs.declared.fault.ImageFault.{ImageFault}
use Rattle.cmm_image.specs.declared.fault.ImageFault.TheVariants.{At, Memory}
use Rattle.cmm_image.specs.declared.parts.ImageParts.{ImageParts}
use Rattle.cmm_image.specs.declared.reading.TheConstants.{IMAGE_LIMIT}
use Rattle.cmm_image.specs.declared.rows.SiteRow.{SiteRow}
use Rattle.cmm_image.specs.ImageFormat.{is_version}
use Rattle.cmm_image.specs.WholeImage.{image}
use Rattle.cmm_image.specs.Images.{IsImage, SpellsImage, ImageFaultAt}
use Rattle.cmm_image.specs.Migration.{HaveOnePlace, differs}
use Rattle.cmm_image.specs.Migrating.{IsFault, IsFaultOrMemory, IsMigrated, IsNotMigrated, IsNotMigratedFor, IsWantOfMemory, MigrationFaultAt, in_version}
use Rattle.cmm_image.proofs.DifferenceLaws.{first_differences_are_one}
use Rattle.cmm_image.proofs.DistinctLaws.{Each}
use Rattle.cmm_image.proofs.MeaningLaws.{images_are_one, no_image_has_a_fault}
use Rattle.cmm_image.proofs.MigrationLaws.{below, first_keeps_second, fits}
use Rattle.cmm_image.proofs.OnePlaceLaws.{second_has_one_place}
use Rattle.cmm_image.proofs.SearchLaws.{sites_are_few}
use Rattle.cmm_image.proofs.WholeLaws.{first_holds}

-- ---- an image in both versions

is_first : (n : ℕ) → IsTrue (is_version n) → (n ≡ 2 → ⊥) → n ≡ 1
is_first n known other = grind (arith, nat_tests, known, other)

-- an image of another version than 2 is of version 1
pub version_is : (i : ImageParts) → IsImage i → (i.version ≡ 2 → ⊥) → i.version ≡ 1
version_is i h other = is_first i.version h.fields.0.1.0.1.0 other

pub in_first : (i : ImageParts) → i.version ≡ 1 → in_version 1 i ≡ i
in_first i e = ap (λ (n : ℕ). in_version n i) (sym e)

each_all : (P : SiteRow → Type 0) (ss : List SiteRow) → Each P ss → All P ss
each_all P [] all k d less = absurd (omega (arith, less))
each_all P (s ∷ ss) all zero d less = all.0
each_all P (s ∷ ss) all (suc k) d less = each_all P ss all.1 k d (omega (arith, less))

-- each site is of a procedure that there is
pub procedures_are_there : (i : ImageParts) → IsImage i → All (λ s. s.procedure < length i.procs) i.sites
procedures_are_there i h =
    each_all (λ s. s.procedure < length i.procs) i.sites (below (length i.code) i.procs i.sites (fits (length i.code) i.procs None i.sites (first_holds i h).1.1))

pub is_image_in_second : (i : ImageParts) → IsImage i → HaveOnePlace i.sites → length (image.spelled (in_version 2 i)) ≤ IMAGE_LIMIT → IsImage (in_version 2 i)
is_image_in_second i h one short =
    let tables = first_keeps_second (length i.code) (length i.procs) (length i.sites) (i.procs, i.sites) (sites_are_few i h) (first_holds i h) one in
    let f = h.fields in record {
      fields = ((f.0.0, ((omega arith, (refl, tt)), f.0.1.1)), (f.1.0, (f.1.1.0, (tables, f.1.1.1.1))));
      short = short;
    }

pub is_migrated : (from to : List ℕ) (i : ImageParts) → SpellsImage from i → i.version ≡ 1 → SpellsImage to (in_version 2 i) → IsMigrated from to
is_migrated from to i spelled version second = record { parts = i; first = subst (SpellsImage from) (sym (in_first i version)) spelled; second = second }

-- ---- an image has one spelling a version

pub one_spelling_a_version : (version : ℕ) (i : ImageParts) (bytes others : List ℕ) → SpellsImage bytes (in_version version i) → SpellsImage others (in_version version i) →
    bytes ≡ others
one_spelling_a_version version i bytes others one other = one.spelled ∙ sym other.spelled

pub no_bytes_are_both : (bytes : List ℕ) (i j : ImageParts) → SpellsImage bytes (in_version 1 i) → SpellsImage bytes (in_version 2 j) → ⊥
no_bytes_are_both bytes i j first second =
    let same : 1 ≡ 2 = ap (λ (x : ImageParts). x.version) (images_are_one bytes (in_version 1 i) (in_version 2 j) first second) in
    absurd (omega (arith, same))

-- ---- bytes mean one migration

migrated_is_one : (from to others : List ℕ) → IsMigrated from to → IsMigrated from others → to ≡ others
migrated_is_one from to others one other =
    let same = images_are_one from (in_version 1 one.parts) (in_version 1 other.parts) one.first other.first in
    one.second.spelled ∙ ap (λ (i : ImageParts). image.spelled (in_version 2 i)) same ∙ sym other.second.spelled

-- an image has one reason alone
module _ (i : ImageParts) where
  versions_differ : i.version ≡ 2 → i.version ≡ 1 → ⊥
  versions_differ two one = omega (arith, two, one)

  both_places : (k v : ℕ) → HaveOnePlace i.sites → differs i.sites k v ≡ true → ⊥
  both_places k v one there = both_ways (differs i.sites k v) (one k v) there

  reason_is_one : (r s : Rule) (m n : ℕ) → IsNotMigrated i r m → IsNotMigrated i s n → (r ≡ s) × (m ≡ n)
  reason_is_one r s m n (inl a) (inl b) = (a.rule_is ∙ sym b.rule_is, a.offset_is ∙ sym b.offset_is)
  reason_is_one r s m n (inl a) (inr (inl b)) = absurd (versions_differ a.version b.version)
  reason_is_one r s m n (inl a) (inr (inr b)) = absurd (versions_differ a.version b.version)
  reason_is_one r s m n (inr (inl a)) (inl b) = absurd (versions_differ b.version a.version)
  reason_is_one r s m n (inr (inr a)) (inl b) = absurd (versions_differ b.version a.version)
  reason_is_one r s m n (inr (inl a)) (inr (inl b)) =
      let same = first_differences_are_one i.sites a.site b.site a.variable b.variable a.first b.first in
      let site = same.0 in
      let variable = same.1 in
      (a.rule_is ∙ sym b.rule_is, a.offset_is ∙ rw (site, variable) (sym b.offset_is))
  reason_is_one r s m n (inr (inl a)) (inr (inr b)) = absurd (both_places a.site a.variable b.one_place a.first.here)
  reason_is_one r s m n (inr (inr a)) (inr (inl b)) = absurd (both_places b.site b.variable a.one_place b.first.here)
  reason_is_one r s m n (inr (inr a)) (inr (inr b)) = (a.rule_is ∙ sym b.rule_is, a.offset_is ∙ sym b.offset_is)

  -- and an image that is migrated has none
  no_reason : (r : Rule) (n : ℕ) → i.version ≡ 1 → IsImage (in_version 2 i) → IsNotMigrated i r n → ⊥
  no_reason r n version second (inl a) = versions_differ a.version version
  no_reason r n version second (inr (inl a)) =
      both_places a.site a.variable (second_has_one_place (length i.code) (length i.procs) (length i.sites) (i.procs, i.sites) second.fields.1.1.1.0) a.first.here
  no_reason r n version second (inr (inr a)) = (let long = a.long in let short = second.short in omega (arith, long, short))

migrated_has_no_fault : (from to : List ℕ) (rule : Rule) (offset : ℕ) → IsMigrated from to → IsFault from rule offset → ⊥
migrated_has_no_fault from to rule offset m (inl fault) = no_image_has_a_fault from (in_version 1 m.parts) rule offset m.first fault
migrated_has_no_fault from to rule offset m (inr not) =
    let same = images_are_one from not.parts (in_version 1 m.parts) not.spelled m.first in
    no_reason (in_version 1 m.parts) rule offset refl m.second.is_image (subst (λ (i : ImageParts). IsNotMigrated i rule offset) same not.not_migrated)

fault_is_one : (from : List ℕ) (r s : Rule) (m n : ℕ) → IsFault from r m → IsFault from s n → (r ≡ s) × (m ≡ n)
fault_is_one from r s m n (inl a) (inl b) = (let one = a.first in let other = b.first in let i = a.rule_is in let j = b.rule_is in let k = a.offset_is in let l = b.offset_is in (cc, cc))
fault_is_one from r s m n (inl a) (inr b) = absurd (no_image_has_a_fault from b.parts r m b.spelled a)
fault_is_one from r s m n (inr a) (inl b) = absurd (no_image_has_a_fault from a.parts s n a.spelled b)
fault_is_one from r s m n (inr a) (inr b) =
    let same = images_are_one from a.parts b.parts a.spelled b.spelled in
    reason_is_one b.parts r s m n (subst (λ (i : ImageParts). IsNotMigrated i r m) same a.not_migrated) b.not_migrated

-- ---- answers

pub read_fault : (from : List ℕ) (why : ImageFault) → ImageFaultAt from why → MigrationFaultAt from why
read_fault from (At rule offset) fault = inl fault
read_fault from Memory fault = tt

pub kept_fault : (from : List ℕ) (i : ImageParts) (why : ImageFault) → SpellsImage from i → IsNotMigratedFor i why → MigrationFaultAt from why
kept_fault from i (At rule offset) spelled not = inr (record { parts = i; spelled = spelled; not_migrated = not })
kept_fault from i Memory spelled not = tt

module _ {V : Type 0} (items : V → List ℕ) (from : List ℕ) where
  pub only_so : (result : Result V ImageFault) → IfOk result (λ v. IsMigrated from (items v)) → IfErr result (MigrationFaultAt from) →
      (to : List ℕ) → IsMigrated from to → IfOk result (λ v. items v ≡ to) × IfErr result IsWantOfMemory
  only_so (Ok v) ok err to m = (migrated_is_one from (items v) to ok m, tt)
  only_so (Err (At rule offset)) ok err to m = (tt, migrated_has_no_fault from to rule offset m err)
  only_so (Err Memory) ok err to m = (tt, tt)

  pub refused_so : (result : Result V ImageFault) → IfOk result (λ v. IsMigrated from (items v)) → IfErr result (MigrationFaultAt from) →
      (rule : Rule) (offset : ℕ) → IsFault from rule offset → IfOk result (λ v. ⊥) × IfErr result (IsFaultOrMemory rule offset)
  refused_so (Ok v) ok err rule offset fault = (migrated_has_no_fault from (items v) rule offset ok fault, tt)
  refused_so (Err (At r o)) ok err rule offset fault = (tt, fault_is_one from r rule o offset err fault)
  refused_so (Err Memory) ok err rule offset fault = (tt, tt)
