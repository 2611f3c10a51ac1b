-- Units that are read one after another.
use Rattle.std.proofs.Common.{◌≡◌, ℕ, Option, Some, None, IfSome, List, [], ◌∷◌, ◌++◌, ◌<◌, Bool, true, false, length, ap, sym, ◌∙◌, subst}
use Rattle.std.proofs.lemmas.List.{append_assoc}
use Rattle.cmm_lexer.specs.declared.tokens.TheConstants.{UNIT_LIMIT}
use Rattle.cmm_outside.specs.Storage.{Contents}
use Rattle.cmm_work.specs.declared.reading.FileBytes.{FileBytes}
use Rattle.cmm_top.specs.declared.sources.Sources.{Sources}
use Rattle.cmm_work.specs.Files.{HasBytes, HasUnits, Hold}
use Rattle.cmm_top.specs.inside.Reading.{AreRead, AreUnits}
use Rattle.cmm_work.specs.Reading.{IsFileOf}

-- a unit behind those that were read is too long
pub record IsCut (units : List (List ℕ)) (s : Sources) : Type 0 where
  pub unit : List ℕ
  pub rest : List (List ℕ)
  pub is : units ≡ s.units ++ unit ∷ rest
  pub more : UNIT_LIMIT < length unit

abbrev Cut : List (List ℕ) → List (List ℕ) → Type 0
Cut units front = (unit : List ℕ) × (rest : List (List ℕ)) × (units ≡ front ++ unit ∷ rest) × (UNIT_LIMIT < length unit)

abbrev At : List (List ℕ) → List (List ℕ) → Bool → Type 0
At units front cut = elim cut [ false ↦ front ≡ units | true ↦ Cut units front ]

pub cut_is : (units : List (List ℕ)) (s : Sources) → s.cut ≡ true → AreUnits units s → IsCut units s
cut_is units s cut are = let (unit, rest, is, more) = subst (At units s.units) cut are in record { unit = unit; rest = rest; is = is; more = more }

pub whole_is : (units : List (List ℕ)) (s : Sources) → s.cut ≡ false → AreUnits units s → s.units ≡ units
whole_is units s cut are = subst (At units s.units) cut are

-- units behind it may be any
pub still_cut : (units : List (List ℕ)) (unit : List ℕ) (s : Sources) → s.cut ≡ true → AreUnits units s → AreUnits (units ++ unit ∷ []) s
still_cut units unit s cut are =
    let c = cut_is units s cut are in
    let is : units ++ unit ∷ [] ≡ s.units ++ c.unit ∷ (c.rest ++ unit ∷ []) = ap (λ us. us ++ unit ∷ []) c.is ∙ append_assoc s.units (c.unit ∷ c.rest) (unit ∷ []) in
    subst (At (units ++ unit ∷ []) s.units) (sym cut) (c.unit, (c.rest ++ unit ∷ []), is, c.more)

one_more : (files : Contents) (names units : List (List ℕ)) (name unit : List ℕ) → Hold files names units → files name ≡ Some unit → Hold files (names ++ name ∷ []) (units ++ unit ∷ [])
one_more files [] [] name unit hold is = (is, tt)
one_more files [] (u ∷ us) name unit hold is = absurd hold
one_more files (n ∷ ns) [] name unit hold is = absurd hold
one_more files (n ∷ ns) (u ∷ us) name unit hold is = (hold.0, one_more files ns us name unit hold.1 is)

hold_more : (contents : Option Contents) (names units : List (List ℕ)) (name unit : List ℕ) → IfSome contents (λ files. Hold files names units) →
    IfSome contents (λ files. files name ≡ Some unit) → IfSome contents (λ files. Hold files (names ++ name ∷ []) (units ++ unit ∷ []))
hold_more None names units name unit hold is = tt
hold_more (Some files) names units name unit hold is = one_more files names units name unit hold is

-- one unit more was read
pub more_read : (contents : Option Contents) (names : List (List ℕ)) (name : List ℕ) (read : FileBytes) (s t : Sources) → AreRead contents names s →
    HasBytes contents name (λ bytes. IsFileOf UNIT_LIMIT bytes read) →
    ((units : List (List ℕ)) (unit : List ℕ) → IsFileOf UNIT_LIMIT unit read → AreUnits units s → AreUnits (units ++ unit ∷ []) t) → AreRead contents (names ++ name ∷ []) t
more_read contents names name read s t (units, hold, are) (unit, there, is) adds =
    (units ++ unit ∷ [], hold_more contents names units name unit hold there, adds units unit is are)

-- what holds of the units may be weaker
pub units_so : (contents : Option Contents) (names : List (List ℕ)) (P Q : List (List ℕ) → Type 0) → ((units : List (List ℕ)) → P units → Q units) → HasUnits contents names P →
    HasUnits contents names Q
units_so contents names P Q so (units, hold, holds) = (units, hold, so units holds)
