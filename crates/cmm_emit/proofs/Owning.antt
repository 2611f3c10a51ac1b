-- The labels of all procedures, where a unit has those of its own in its code.
use Rattle.std.proofs.Common.{◌≡◌, ℕ, ◌+◌, ◌-◌, ◌<◌, ◌≤◌, sym, ◌∙◌, ap, arith, List, ◌++◌, length, map, take, drop, get_or, Option, Some, None, length-append, length-drop}
use Rattle.std.proofs.lemmas.List.{get_or-append-add, get_or-drop, get_or-map, get_or-take, get_or_append_left, length-map, length-take-le}
use Rattle.rv_asm.specs.declared.part.Label.{Label}
use Rattle.cmm_emit.specs.Naming.{label_at}
use Rattle.cmm_emit.specs.Outlines.{with_own}

module _ (first : ℕ) (own : List Label) (others : List (Option Label)) (fits : first + length own ≤ length others) where
  abbrev at : List (Option Label) → ℕ → Option Label
  at labels k = get_or labels k None

  abbrev before : List (Option Label)
  before = take first others

  abbrev here : List (Option Label)
  here = map Some own

  abbrev behind : List (Option Label)
  behind = drop (first + length own) others

  before_counted : length before ≡ first
  before_counted = length-take-le first others (omega (arith, fits))

  here_counted : length here ≡ length own
  here_counted = length-map own Some

  pub length-with_own : length (with_own first own others) ≡ length others
  length-with_own =
      omega (
        arith,
        fits,
        before_counted,
        here_counted,
        length-append before (here ++ behind),
        length-append here behind,
        length-drop (first + length own) others,
      )

  -- those of the procedures before the unit's
  pub own_before : (k : ℕ) → k < first → at (with_own first own others) k ≡ at others k
  own_before k less =
      get_or_append_left before (here ++ behind) None k (omega (arith, less, before_counted)) ∙ get_or-take first others k None less

  -- behind them, n later
  later : (k : ℕ) → at (with_own first own others) (first + k) ≡ at (here ++ behind) k
  later k = ap (λ (n : ℕ). at (with_own first own others) (n + k)) (sym before_counted) ∙ get_or-append-add before (here ++ behind) k None

  -- those of the unit's procedures
  pub own_within : (k : ℕ) → k < length own → at (with_own first own others) (first + k) ≡ Some (label_at own k)
  own_within k less =
      later k ∙ (get_or_append_left here behind None k (omega (arith, less, here_counted)) ∙ get_or-map Some own k (record { number = 0 }) None less)

  -- those of the procedures behind them
  pub own_behind : (k : ℕ) → first + length own ≤ k → at (with_own first own others) k ≡ at others k
  own_behind k least =
      let rest : ℕ = k - (first + length own) in
      let is : k ≡ first + (length here + rest) = omega (arith, least, here_counted) in
      let also : first + length own + rest ≡ k = omega (arith, least) in
      ap (λ (n : ℕ). at (with_own first own others) n) is
      ∙ (later (length here + rest)
      ∙ (get_or-append-add here behind rest None
      ∙ (get_or-drop (first + length own) others rest None ∙ ap (λ (n : ℕ). at others n) also)))
