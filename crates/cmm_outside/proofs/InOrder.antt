-- Files that are read one after another.
use Rattle.std.proofs.Common.{◌≡◌, ℕ, refl, sym, ◌∙◌, ap, subst, Bool, true, false, List, [], ◌∷◌, ◌++◌, Option, Some, None, IfSome}
use Rattle.std.proofs.lemmas.List.{append-nil, append_assoc}
use Rattle.cmm_outside.specs.Reads.{AreReadInOrder, AreReadWhole, GoOn, Made, ReadCall, WantedFile, is_whole}

-- ---- where reads are told

-- none was made
pub made_none : (before after : Option (List ReadCall)) (P : List ReadCall → Type 0) → after ≡ before → P [] → Made before after P
made_none None after P same none = tt
made_none (Some earlier) after P same none = ([], same ∙ ap (λ (xs : List ReadCall). Some xs) (sym (append-nil earlier)), none)

-- some were made, and then others
pub made_then : (before between after : Option (List ReadCall)) (P Q R : List ReadCall → Type 0) → Made before between P → Made between after Q →
    ((first second : List ReadCall) → P first → Q second → R (first ++ second)) → Made before after R
made_then None between after P Q R made more holds = tt
made_then (Some earlier) between after P Q R (first, are, p) more holds =
    let later = subst (λ (o : Option (List ReadCall)). Made o after Q) are more in (
      first ++ later.0,
      later.1 ∙ ap (λ (xs : List ReadCall). Some xs) (append_assoc earlier first later.0),
      holds first later.0 p later.2,
    )

-- ---- files in their order

-- files that are read whole are read in order
pub whole_in_order : (files : List WantedFile) (calls : List ReadCall) → AreReadWhole files calls → AreReadInOrder files calls
whole_in_order [] calls none = none
whole_in_order (file ∷ files) calls (own, later, are, on, whole, rest) =
    (own, later, are, on, (λ part. both_ways whole part), whole_in_order files later rest)
  where
    both_ways : {b : Bool} → {T : Type 0} → b ≡ true → b ≡ false → T
    both_ways is not = absurd (cc)

-- where files are read as far as it goes, others may stand behind them
pub others_behind : (files others : List WantedFile) (calls : List ReadCall) → AreReadInOrder files calls → AreReadInOrder (files ++ others) calls
others_behind [] [] calls none = none
others_behind [] (file ∷ others) calls none = ([], [], none, tt, (λ part. refl), others_behind [] others [] refl)
others_behind (file ∷ files) others calls (own, later, are, on, stops, rest) = (own, later, are, on, stops, others_behind files others later rest)

-- files that are read whole, and behind them others, whole or as far as it goes
pub whole_then : (files others : List WantedFile) (first second : List ReadCall) → AreReadWhole files first → AreReadWhole others second → AreReadWhole (files ++ others) (first ++ second)
whole_then [] others first second none more = subst (λ (xs : List ReadCall). AreReadWhole others (xs ++ second)) (sym none) more
whole_then (file ∷ files) others first second (own, later, are, on, whole, rest) more =
    (own, later ++ second, ap (λ (xs : List ReadCall). xs ++ second) are ∙ append_assoc own later second, on, whole, whole_then files others later second rest more)

pub whole_then_in_order : (files others : List WantedFile) (first second : List ReadCall) → AreReadWhole files first → AreReadInOrder others second →
    AreReadInOrder (files ++ others) (first ++ second)
whole_then_in_order [] others first second none more = subst (λ (xs : List ReadCall). AreReadInOrder others (xs ++ second)) (sym none) more
whole_then_in_order (file ∷ files) others first second (own, later, are, on, whole, rest) more = (
  own,
  later ++ second,
  ap (λ (xs : List ReadCall). xs ++ second) are ∙ append_assoc own later second,
  on,
  (λ part. both_ways whole part),
  whole_then_in_order files others later second rest more,
)
  where
    both_ways : {b : Bool} → {T : Type 0} → b ≡ true → b ≡ false → T
    both_ways is not = absurd (cc)

-- one file
pub one_whole : (file : WantedFile) (calls : List ReadCall) → GoOn file.name file.limit 0 calls → is_whole file.limit calls ≡ true → AreReadWhole (file ∷ []) calls
one_whole file calls on whole = (calls, [], sym (append-nil calls), on, whole, refl)

pub one_in_order : (file : WantedFile) (calls : List ReadCall) → GoOn file.name file.limit 0 calls → AreReadInOrder (file ∷ []) calls
one_in_order file calls on = (calls, [], sym (append-nil calls), on, (λ part. refl), refl)
