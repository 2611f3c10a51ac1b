-- The reads that are made of units.
use Rattle.std.proofs.Common.{◌≡◌, ℕ, Bor, List, [], ◌∷◌, ◌++◌, ◌+◌, ◌<◌, length, drop, map, take, ap, sym, ◌∙◌, subst}
use Rattle.std.proofs.lemmas.List.{map-append, map_more, take-append-drop}
use Rattle.std.specs.Prelude.{slice_index_or}
use Rattle.cmm_outside.specs.Reads.{AreReadInOrder, AreReadWhole, Made, WantedFile}
use Rattle.cmm_top.specs.Reads.{units_in}
use Rattle.cmm_work.proofs.Shared.{Reads, read_both, read_first, read_part}

units_joined : (first second : List (List ℕ)) → units_in (first ++ second) ≡ units_in first ++ units_in second
units_joined first second = map-append _ first second

-- one unit more
pub unit_read : (names : List (List ℕ)) (name : List ℕ) (before between after : Reads) → Made before between (AreReadWhole (units_in names)) →
    Made between after (AreReadWhole (units_in (name ∷ []))) → Made before after (AreReadWhole (units_in (names ++ name ∷ [])))
unit_read names name before between after made more =
    subst (λ (files : List WantedFile). Made before after (AreReadWhole files)) (sym (units_joined names (name ∷ [])))
    (read_both (units_in names) (units_in (name ∷ [])) before between after made more)

-- names split where a list of borrows is
pub names_split : (names : List (Bor (List ℕ))) (k : ℕ) (nothing : Bor (List ℕ)) → k < length names →
    map (λ name. name.now) names ≡ (map (λ name. name.now) (take k names) ++ (slice_index_or names k nothing).now ∷ []) ++ map (λ name. name.now) (drop (k + 1) names)
names_split names k nothing low =
    ap (map (λ (name : Bor (List ℕ)). name.now)) (sym (take-append-drop (k + 1) names)) ∙ (map-append (λ (name : Bor (List ℕ)). name.now) (take (k + 1) names) (drop (k + 1) names)
    ∙ ap (λ xs. xs ++ map (λ (name : Bor (List ℕ)). name.now) (drop (k + 1) names)) (map_more (λ name. name.now) names k nothing low))

-- a unit in vain, and others behind it
pub unit_in_vain : (names : List (List ℕ)) (name : List ℕ) (later all : List (List ℕ)) (before between after : Reads) → all ≡ (names ++ name ∷ []) ++ later →
    Made before between (AreReadWhole (units_in names)) → Made between after (AreReadInOrder (units_in (name ∷ []))) → Made before after (AreReadInOrder (units_in all))
unit_in_vain names name later all before between after is made more =
    subst (λ (files : List WantedFile). Made before after (AreReadInOrder files)) (sym (ap units_in is ∙ units_joined (names ++ name ∷ []) later))
    (read_first (units_in (names ++ name ∷ [])) (units_in later) before after
    (subst (λ (files : List WantedFile). Made before after (AreReadInOrder files)) (sym (units_joined names (name ∷ [])))
    (read_part (units_in names) (units_in (name ∷ [])) before between after made more)))
