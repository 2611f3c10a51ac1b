-- Spans: those of arms, those that ascend, and the halves of these.
use Rattle.std.proofs.Common.{◌≡◌, ℕ, zero, suc, ◌+◌, ◌-◌, ◌<◌, ◌≤◌, ◌^◌, refl, sym, ◌∙◌, ap, arith, List, [], ◌∷◌, ◌++◌, length, map, get_or, drop, append_assoc, ◌⊎◌, inl, inr, true, false}
use Rattle.std.specs.Prelude.{◌||◌, ◌&&◌, ◌==◌, Bool, flat_map, nat_le, nat_lt}
use Rattle.std.specs.List.{All, list_all}
use Rattle.std.specs.List.Sorted.{IsNonDecreasingBy, IsPermutation}
use Rattle.std.proofs.lemmas.Bool.{and_parts, cases_lt}
use Rattle.std.proofs.lemmas.Bool.Decides.{nat_tests}
use Rattle.std.proofs.lemmas.List.{length-map}
use Rattle.std.proofs.lemmas.List.Elements.{All-cons, All-head, All-tail}
use Rattle.std.proofs.lemmas.List.Recursion.{is_sum_by}
use Rattle.std.proofs.lemmas.List.Sorted.{All-permutation, IsPermutation-sym, sum_by-IsPermutation}
use Rattle.cmm_graph.specs.declared.node.Arm.{Arm}
use Rattle.cmm_program.specs.Bodies.{is_in_ranges}
use Rattle.cmm_program.specs.InRange.{do_not_meet, none_meet}
use Rattle.cmm_program.specs.declared.statement.Range.{Range}
use Rattle.rv_asm.specs.Parts.{way}
use Rattle.rv_asm.specs.declared.part.Label.{Label}
use Rattle.rv_asm.specs.declared.part.TheConstants.{TABLE_LIMIT}
use Rattle.cmm_select.specs.Switches.{AreApart, arm_address, label_of, ranges_in}
use Rattle.cmm_select.specs.inside.NumberRuns.{run_address}
use Rattle.cmm_select.specs.inside.Searches.{ascend, behind, first_of, is_in, is_run, range_of, span_address, span_of, spans_in, spans_of}
use Rattle.cmm_select.specs.declared.span.Span.{Span}
use Rattle.cmm_select.specs.declared.span.TheConstants.{LEAST_JUMPS}

-- ---- one after another

way_or : (a b : Bool) (n m : ℕ) → way a n (way b n m) ≡ way (a || b) n m
way_or true b n m = refl
way_or false b n m = refl

way_split : (a b : Bool) (n first rest on : ℕ) → first ≡ way b rest on → way a n first ≡ way (a || b) (way a n rest) on
way_split true b n first rest on is = refl
way_split false b n first rest on is = is

-- some span has a value
abbrev pub any_span : List Span → ℕ → Bool
any_span [] v = false
any_span (s ∷ ss) v = is_in v s || any_span ss v

module _ (at : ℕ → ℕ) where
  -- where no span has the value, control goes on
  pub span_split : (ss : List Span) (v on : ℕ) → span_address at ss v on ≡ way (any_span ss v) (span_address at ss v 0) on
  span_split [] v on = refl
  span_split (s ∷ ss) v on =
      way_split (is_in v s) (any_span ss v) (at s.label.number) (span_address at ss v on) (span_address at ss v 0) on (span_split ss v on)

  pub span_append : (xs ys : List Span) (v on : ℕ) → span_address at (xs ++ ys) v on ≡ span_address at xs v (span_address at ys v on)
  span_append [] ys v on = refl
  span_append (x ∷ xs) ys v on = ap (way (is_in v x) (at x.label.number)) (span_append xs ys v on)

  -- ---- those of arms

  in_ranges : (l : Label) (rs : List Range) (v on : ℕ) → span_address at (spans_in l rs) v on ≡ way (is_in_ranges v rs) (at l.number) on
  in_ranges l [] v on = refl
  in_ranges l (r ∷ rs) v on =
      ap (way (nat_le r.from v && nat_le v r.to) (at l.number)) (in_ranges l rs v on) ∙ way_or (nat_le r.from v && nat_le v r.to) (is_in_ranges v rs) (at l.number) on

  pub in_arms : (labels : List Label) (arms : List Arm) (v on : ℕ) → span_address at (spans_of labels arms) v on ≡ arm_address at labels arms v on
  in_arms labels [] v on = refl
  in_arms labels (arm ∷ arms) v on =
      span_append (spans_in (label_of labels arm.to) arm.ranges) (spans_of labels arms) v on
      ∙ in_ranges (label_of labels arm.to) arm.ranges v (span_address at (spans_of labels arms) v on)
      ∙ ap (way (is_in_ranges v arm.ranges) (at (label_of labels arm.to).number)) (in_arms labels arms v on)

ranges_in_label : (l : Label) (rs : List Range) (more : List Span) → map range_of (spans_in l rs ++ more) ≡ rs ++ map range_of more
ranges_in_label l [] more = refl
ranges_in_label l (r ∷ rs) more = ap (λ (qs : List Range). r ∷ qs) (ranges_in_label l rs more)

pub ranges_are : (labels : List Label) (arms : List Arm) → map range_of (spans_of labels arms) ≡ flat_map (λ arm. arm.ranges) arms
ranges_are labels [] = refl
ranges_are labels (arm ∷ arms) =
    ranges_in_label (label_of labels arm.to) arm.ranges (spans_of labels arms) ∙ ap (λ (rs : List Range). arm.ranges ++ rs) (ranges_are labels arms)

pub count_of : (labels : List Label) (arms : List Arm) → length (spans_of labels arms) ≡ ranges_in arms
count_of labels arms = sym (length-map (spans_of labels arms) range_of) ∙ ap (λ (rs : List Range). length rs) (ranges_are labels arms)

-- ---- those that ascend

pub record Ascends (least : ℕ) (s : Span) (ss : List Span) : Type 0 where
  pub low : least ≤ s.from
  pub order : s.from ≤ s.to
  pub rest : ascend (suc s.to) ss ≡ true

pub parts : (least : ℕ) (s : Span) (ss : List Span) → ascend least (s ∷ ss) ≡ true → Ascends least s ss
parts least s ss up =
    let one = and_parts (nat_le least s.from) (nat_le s.from s.to && ascend (suc s.to) ss) up in
    let two = and_parts (nat_le s.from s.to) (ascend (suc s.to) ss) one.1 in
    record { low = is_le least s.from one.0; order = is_le s.from s.to two.0; rest = two.1 }
  where
    is_le : (a b : ℕ) → nat_le a b ≡ true → a ≤ b
    is_le a b is = grind (arith, nat_tests, is)

whole : (least : ℕ) (s : Span) (ss : List Span) → least ≤ s.from → s.from ≤ s.to → ascend (suc s.to) ss ≡ true → ascend least (s ∷ ss) ≡ true
whole least s ss low order rest =
    let one : nat_le least s.from ≡ true = grind (arith, nat_tests, low) in
    let two : nat_le s.from s.to ≡ true = grind (arith, nat_tests, order) in
    rw (one, two, rest) refl

pub ascend_lower : (least less : ℕ) (ss : List Span) → less ≤ least → ascend least ss ≡ true → ascend less ss ≡ true
ascend_lower least less [] below up = refl
ascend_lower least less (s ∷ ss) below up = let p = parts least s ss up in whole less s ss (omega (arith, below, p.low)) p.order p.rest

pub ascend_front : (least : ℕ) (xs ys : List Span) → ascend least (xs ++ ys) ≡ true → ascend least xs ≡ true
ascend_front least [] ys up = refl
ascend_front least (x ∷ xs) ys up = let p = parts least x (xs ++ ys) up in whole least x xs p.low p.order (ascend_front (suc x.to) xs ys p.rest)

pub ascend_back : (least : ℕ) (xs ys : List Span) → ascend least (xs ++ ys) ≡ true → ascend 0 ys ≡ true
ascend_back least [] ys up = ascend_lower least 0 ys (omega arith) up
ascend_back least (x ∷ xs) ys up = let p = parts least x (xs ++ ys) up in ascend_back (suc x.to) xs ys p.rest

-- what is behind others begins behind them
first_behind : (least : ℕ) (xs ys : List Span) → 1 ≤ length ys → ascend least (xs ++ ys) ≡ true → least ≤ first_of ys
first_behind least [] [] some up = absurd (omega (arith, some))
first_behind least [] (y ∷ ys) some up = (parts least y ys up).low
first_behind least (x ∷ xs) ys some up =
    let p = parts least x (xs ++ ys) up in
    let e = first_behind (suc x.to) xs ys some p.rest in
    omega (arith, p.low, p.order, e)

past : (v : ℕ) (s : Span) → s.to < v → is_in v s ≡ false
past v s h = grind (arith, nat_tests, h)

before : (v : ℕ) (s : Span) → v < s.from → is_in v s ≡ false
before v s h = grind (arith, nat_tests, h)

within : (v : ℕ) (s : Span) → is_in v s ≡ true → s.from ≤ v
within v s is = grind (arith, nat_tests, is)

module _ (at : ℕ → ℕ) where
  -- none has what is below the first one
  below : (least v on : ℕ) (ss : List Span) → ascend least ss ≡ true → v < least → span_address at ss v on ≡ on
  below least v on [] up low = refl
  below least v on (s ∷ ss) up low =
      let p = parts least s ss up in
      ap (λ (b : Bool). way b (at s.label.number) (span_address at ss v on)) (before v s (omega (arith, p.low, low)))
      ∙ below (suc s.to) v on ss p.rest (omega (arith, p.low, p.order, low))

  -- nor what is not below others behind them
  above : (least v z : ℕ) (xs ys : List Span) → 1 ≤ length ys → ascend least (xs ++ ys) ≡ true → first_of ys ≤ v → span_address at xs v z ≡ z
  above least v z [] ys some up high = refl
  above least v z (x ∷ xs) ys some up high =
      let p = parts least x (xs ++ ys) up in
      let e = first_behind (suc x.to) xs ys some p.rest in
      ap (λ (b : Bool). way b (at x.label.number) (span_address at xs v z)) (past v x (omega (arith, e, high)))
      ∙ above (suc x.to) v z xs ys some p.rest high

  from_first : (ys : List Span) → 1 ≤ length ys → ascend 0 ys ≡ true → ascend (first_of ys) ys ≡ true
  from_first [] some up = absurd (omega (arith, some))
  from_first (y ∷ ys) some up = let p = parts 0 y ys up in whole y.from y ys (omega arith) p.order p.rest

  -- a value is looked for in the upper half if it is not below that, and else in the lower half
  pub halves : (least v on : ℕ) (xs ys : List Span) → 1 ≤ length ys → ascend least (xs ++ ys) ≡ true →
      way (nat_le (first_of ys) v) (span_address at ys v on) (span_address at xs v on) ≡ span_address at (xs ++ ys) v on
  halves least v on xs ys some up = by (nat_le (first_of ys) v) refl ∙ sym (span_append at xs ys v on)
    where
      high : (a b : ℕ) → nat_le a b ≡ true → a ≤ b
      high a b is = grind (arith, nat_tests, is)

      low : (a b : ℕ) → nat_le a b ≡ false → b < a
      low a b is = grind (arith, nat_tests, is)

      by : (b : Bool) → nat_le (first_of ys) v ≡ b → way (nat_le (first_of ys) v) (span_address at ys v on) (span_address at xs v on) ≡ span_address at xs v (span_address at ys v on)
      by true is =
          ap (λ (b : Bool). way b (span_address at ys v on) (span_address at xs v on)) is
          ∙ sym (above least v (span_address at ys v on) xs ys some up (high (first_of ys) v is))
      by false is =
          ap (λ (b : Bool). way b (span_address at ys v on) (span_address at xs v on)) is
          ∙ ap (span_address at xs v) (sym (below (first_of ys) v on ys (from_first ys some (ascend_back least xs ys up)) (low (first_of ys) v is)))

  -- ---- in another order

  later : (least v : ℕ) (ss : List Span) → ascend least ss ≡ true → All (λ s. is_in v s ≡ true → least ≤ v) ss
  later least v [] up = λ k d h. absurd (omega (arith, h))
  later least v (s ∷ ss) up =
      let p = parts least s ss up in
      let rest = later (suc s.to) v ss p.rest in
      All-cons (λ s. is_in v s ≡ true → least ≤ v) s ss (λ is. let e = within v s is in omega (arith, p.low, e))
      (λ k d h. λ is. let e = rest k d h is in omega (arith, p.low, p.order, e))

  -- each that has the value tells where it leads
  each : (least v on : ℕ) (ss : List Span) → ascend least ss ≡ true → All (λ s. is_in v s ≡ true → at s.label.number ≡ span_address at ss v on) ss
  each least v on [] up = λ k d h. absurd (omega (arith, h))
  each least v on (s ∷ ss) up =
      let p = parts least s ss up in
      let rest = each (suc s.to) v on ss p.rest in
      let up_to = later (suc s.to) v ss p.rest in
      All-cons (λ w. is_in v w ≡ true → at w.label.number ≡ way (is_in v s) (at s.label.number) (span_address at ss v on)) s ss
      (λ is. sym (ap (λ (b : Bool). way b (at s.label.number) (span_address at ss v on)) is))
      (λ k d h. λ is.
      rest k d h is
      ∙ sym (ap (λ (b : Bool). way b (at s.label.number) (span_address at ss v on)) (past v s (let e = up_to k d h is in omega (arith, e)))))

  stays : (v there : ℕ) (ss : List Span) → All (λ s. is_in v s ≡ true → at s.label.number ≡ there) ss → span_address at ss v there ≡ there
  stays v there [] all = refl
  stays v there (s ∷ ss) all =
      let P : Span → Type 0 = λ s. is_in v s ≡ true → at s.label.number ≡ there in
      ap (way (is_in v s) (at s.label.number)) (stays v there ss (All-tail P s ss all)) ∙ by (is_in v s) refl (All-head P s ss all)
    where
      by : (b : Bool) → is_in v s ≡ b → (is_in v s ≡ true → at s.label.number ≡ there) → way (is_in v s) (at s.label.number) there ≡ there
      by true is same = ap (λ (b : Bool). way b (at s.label.number) there) is ∙ same is
      by false is same = ap (λ (b : Bool). way b (at s.label.number) there) is

  none_has : (v : ℕ) (ss : List Span) → any_span ss v ≡ false → All (λ s. is_in v s ≡ false) ss
  none_has v [] none = λ k d h. absurd (omega (arith, h))
  none_has v (s ∷ ss) none = by (is_in v s) refl none (none_has v ss)
    where
      by : (b : Bool) → is_in v s ≡ b → (is_in v s || any_span ss v) ≡ false → (any_span ss v ≡ false → All (λ s. is_in v s ≡ false) ss) → All (λ s. is_in v s ≡ false) (s ∷ ss)
      by true is none rest = absurd (let e : true ≡ false = ap (λ (b : Bool). b || any_span ss v) (sym is) ∙ none in cc (e))
      by false is none rest = All-cons (λ s. is_in v s ≡ false) s ss is (rest (ap (λ (b : Bool). b || any_span ss v) (sym is) ∙ none))

  goes_on : (v on : ℕ) (ss : List Span) → All (λ s. is_in v s ≡ false) ss → span_address at ss v on ≡ on
  goes_on v on [] all = refl
  goes_on v on (s ∷ ss) all =
      let P : Span → Type 0 = λ s. is_in v s ≡ false in
      ap (λ (b : Bool). way b (at s.label.number) (span_address at ss v on)) (All-head P s ss all) ∙ goes_on v on ss (All-tail P s ss all)

  -- spans that ascend lead where the same ones lead in another order
  pub in_another_order : (spans ordered : List Span) (v on : ℕ) → IsPermutation spans ordered → ascend 0 ordered ≡ true →
      span_address at ordered v on ≡ span_address at spans v on
  in_another_order spans ordered v on same up = by (any_span spans v) refl
    where
      by : (b : Bool) → any_span spans v ≡ b → span_address at ordered v on ≡ span_address at spans v on
      by true some =
          let there = span_address at ordered v on in
          let P : Span → Type 0 = λ s. is_in v s ≡ true → at s.label.number ≡ there in
          let all : All P spans = All-permutation P ordered spans (IsPermutation-sym spans ordered same) (each 0 v on ordered up) in
          sym (stays v there spans all) ∙ span_split at spans v there ∙ ap (λ (b : Bool). way b (span_address at spans v 0) there) some
          ∙ sym (ap (λ (b : Bool). way b (span_address at spans v 0) on) some) ∙ sym (span_split at spans v on)
      by false none =
          let P : Span → Type 0 = λ s. is_in v s ≡ false in
          let all : All P spans = none_has v spans none in
          goes_on v on ordered (All-permutation P spans ordered same all) ∙ sym (goes_on v on spans all)

  -- ---- numbers that follow one another

  behind_most : (least : ℕ) (ss : List Span) → ascend least ss ≡ true → least + length ss ≤ behind least ss
  behind_most least [] up = omega arith
  behind_most least (s ∷ ss) up =
      let p = parts least s ss up in
      let e = behind_most (suc s.to) ss p.rest in
      omega (arith, p.low, p.order, e)

  in_run : (least v on : ℕ) (ss : List Span) → ascend least ss ≡ true → behind least ss ≡ least + length ss →
      span_address at ss v on ≡ run_address at (map (λ s. s.label) ss) least v on
  in_run least v on [] up is = refl
  in_run least v on (s ∷ ss) up is =
      let p = parts least s ss up in
      let most = behind_most (suc s.to) ss p.rest in
      let to : s.to ≡ least = omega (arith, p.low, p.order, most, is) in
      let from : s.from ≡ least = omega (arith, p.low, p.order, to) in
      let rest = in_run (suc s.to) v on ss p.rest (omega (arith, to, is)) in
      one s.from s.to least from to (at s.label.number) (span_address at ss v on)
      ∙ ap (way (v == least) (at s.label.number)) (rest ∙ ap (λ (n : ℕ). run_address at (map (λ s. s.label) ss) (suc n) v on) to)
    where
      alone : (f t n v : ℕ) → f ≡ n → t ≡ n → (nat_le f v && nat_le v t) ≡ (v == n)
      alone f t n v from to = grind (arith, nat_tests, from, to)

      one : (f t n : ℕ) → f ≡ n → t ≡ n → (there on : ℕ) → way (nat_le f v && nat_le v t) there on ≡ way (v == n) there on
      one f t n from to there on = ap (λ (b : Bool). way b there on) (alone f t n v from to)

  pub in_run_from_first : (v on : ℕ) (ss : List Span) → ascend 0 ss ≡ true → 1 ≤ length ss → behind 0 ss ≡ first_of ss + length ss →
      span_address at ss v on ≡ run_address at (map (λ s. s.label) ss) (first_of ss) v on
  in_run_from_first v on [] up some is = absurd (omega (arith, some))
  in_run_from_first v on (s ∷ ss) up some is = in_run s.from v on (s ∷ ss) (from_first (s ∷ ss) some up) is

-- what is behind the last one
abbrev last_of : Span → List Span → Span
last_of s [] = s
last_of s (r ∷ ss) = last_of r ss

last_is : (s : Span) (ss : List Span) (d : Span) → get_or (s ∷ ss) (length ss) d ≡ last_of s ss
last_is s [] d = refl
last_is s (r ∷ ss) d = last_is r ss d

behind_last : (least : ℕ) (s : Span) (ss : List Span) → behind least (s ∷ ss) ≡ suc (last_of s ss).to
behind_last least s [] = refl
behind_last least s (r ∷ ss) = behind_last (suc s.to) r ss

pub behind_is : (least : ℕ) (ss : List Span) (d : Span) → 1 ≤ length ss → behind least ss ≡ suc (get_or ss (length ss - 1) d).to
behind_is least [] d some = absurd (omega (arith, some))
behind_is least (s ∷ ss) d some =
    let e : suc (length ss) - 1 ≡ length ss = omega arith in
    behind_last least s ss ∙ ap (λ (r : Span). suc r.to) (sym (last_is s ss d)) ∙ ap (λ (n : ℕ). suc (get_or (s ∷ ss) n d).to) (sym e)

-- there is room for as many numbers as there are spans
pub spread : (ss : List Span) → 1 ≤ length ss → ascend 0 ss ≡ true → first_of ss + length ss ≤ behind 0 ss
spread [] some up = absurd (omega (arith, some))
spread (s ∷ ss) some up =
    let p = parts 0 s ss up in
    let e = behind_most (λ n. n) (suc s.to) ss p.rest in
    omega (arith, p.order, e)

pub first_is : (ss : List Span) (d : Span) → 1 ≤ length ss → (get_or ss 0 d).from ≡ first_of ss
first_is [] d some = absurd (omega (arith, some))
first_is (s ∷ ss) d some = refl

-- ---- what holds of each

pub all_front : (P : Span → Type 0) (xs ys : List Span) → All P (xs ++ ys) → All P xs
all_front P [] ys all = λ k d h. absurd (omega (arith, h))
all_front P (x ∷ xs) ys all = All-cons P x xs (All-head P x (xs ++ ys) all) (all_front P xs ys (All-tail P x (xs ++ ys) all))

pub all_back : (P : Span → Type 0) (xs ys : List Span) → All P (xs ++ ys) → All P ys
all_back P [] ys all = all
all_back P (x ∷ xs) ys all = all_back P xs ys (All-tail P x (xs ++ ys) all)

pub all_labels : (P : Label → Type 0) (ss : List Span) → All (λ s. P s.label) ss → All P (map (λ s. s.label) ss)
all_labels P [] all = λ k d h. absurd (omega (arith, h))
all_labels P (s ∷ ss) all =
    All-cons P s.label (map (λ s. s.label) ss) (All-head (λ s. P s.label) s ss all) (all_labels P ss (All-tail (λ s. P s.label) s ss all))

all_in : (P : Label → Type 0) (l : Label) (rs : List Range) (more : List Span) → P l → All (λ s. P s.label) more → All (λ s. P s.label) (spans_in l rs ++ more)
all_in P l [] more is all = all
all_in P l (r ∷ rs) more is all = All-cons (λ s. P s.label) (span_of l r) (spans_in l rs ++ more) is (all_in P l rs more is all)

pub all_of : (P : Label → Type 0) (labels : List Label) (arms : List Arm) → All P labels → All (λ arm. arm.to.number < length labels) arms → All (λ s. P s.label) (spans_of labels arms)
all_of P labels [] all within = λ k d h. absurd (omega (arith, h))
all_of P labels (arm ∷ arms) all within =
    let Q : Arm → Type 0 = λ arm. arm.to.number < length labels in
    all_in P (label_of labels arm.to) arm.ranges (spans_of labels arms)
    (all arm.to.number (record { number = 0 }) (All-head Q arm arms within))
    (all_of P labels arms all (All-tail Q arm arms within))

-- ---- one more

pub spans_in_more : (l : Label) (rs : List Range) (r : Range) → spans_in l (rs ++ r ∷ []) ≡ spans_in l rs ++ span_of l r ∷ []
spans_in_more l [] r = refl
spans_in_more l (q ∷ rs) r = ap (λ (ss : List Span). span_of l q ∷ ss) (spans_in_more l rs r)

pub nothing_behind : (xs : List Span) → xs ++ [] ≡ xs
nothing_behind [] = refl
nothing_behind (x ∷ xs) = ap (λ (rest : List Span). x ∷ rest) (nothing_behind xs)

pub spans_of_more : (labels : List Label) (arms : List Arm) (arm : Arm) → spans_of labels (arms ++ arm ∷ []) ≡ spans_of labels arms ++ spans_in (label_of labels arm.to) arm.ranges
spans_of_more labels [] arm = nothing_behind (spans_in (label_of labels arm.to) arm.ranges)
spans_of_more labels (a ∷ arms) arm =
    ap (λ (ss : List Span). spans_in (label_of labels a.to) a.ranges ++ ss) (spans_of_more labels arms arm)
    ∙ sym (append_assoc (spans_in (label_of labels a.to) a.ranges) (spans_of labels arms) (spans_in (label_of labels arm.to) arm.ranges))

pub labels_more : (ss : List Span) (s : Span) → map (λ (s : Span). s.label) (ss ++ s ∷ []) ≡ map (λ (s : Span). s.label) ss ++ s.label ∷ []
labels_more [] s = refl
labels_more (r ∷ ss) s = ap (λ (ls : List Label). r.label ∷ ls) (labels_more ss s)

-- ---- the test, span by span

pub next_is : (ss : List Span) (i : ℕ) (d : Span) → i < length ss → drop i ss ≡ get_or ss i d ∷ drop (suc i) ss
next_is [] i d h = absurd (omega (arith, h))
next_is (s ∷ ss) zero d h = refl
next_is (s ∷ ss) (suc i) d h = next_is ss i d (omega (arith, h))

pub ascend_next : (least : ℕ) (s : Span) (ss : List Span) → least ≤ s.from → s.from ≤ s.to → ascend least (s ∷ ss) ≡ ascend (suc s.to) ss
ascend_next least s ss low order =
    let one : nat_le least s.from ≡ true = grind (arith, nat_tests, low) in
    let two : nat_le s.from s.to ≡ true = grind (arith, nat_tests, order) in
    rw (one, two) refl

pub ascend_not : (least : ℕ) (s : Span) (ss : List Span) → (s.from < least) ⊎ (s.to < s.from) → ascend least (s ∷ ss) ≡ false
ascend_not least s ss (inl low) = let one : nat_le least s.from ≡ false = grind (arith, nat_tests, low) in rw one refl
ascend_not least s ss (inr order) =
    let two : nat_le s.from s.to ≡ false = grind (arith, nat_tests, order) in
    rw two (never (nat_le least s.from))
  where
    never : (b : Bool) → (b && false) ≡ false
    never true = refl
    never false = refl

pub all_passed : (ss : List Span) (i : ℕ) → length ss ≤ i → drop i ss ≡ []
all_passed [] zero h = refl
all_passed [] (suc i) h = refl
all_passed (s ∷ ss) zero h = absurd (omega (arith, h))
all_passed (s ∷ ss) (suc i) h = all_passed ss i (omega (arith, h))

-- why spans are no run
pub no_run : (ss : List Span) → (length ss < LEAST_JUMPS) ⊎ ((TABLE_LIMIT < length ss) ⊎ ((first_of ss + length ss < behind 0 ss) ⊎ (2 ^ 64 ≤ behind 0 ss))) → is_run ss ≡ false
no_run ss why = by LEAST_JUMPS (length ss) TABLE_LIMIT (behind 0 ss) (first_of ss + length ss) (2 ^ 64) why
  where
    by : (least n most end limit top : ℕ) → (n < least) ⊎ ((most < n) ⊎ ((limit < end) ⊎ (top ≤ end))) → ((nat_le least n && nat_le n most) && (nat_le end limit && nat_lt end top)) ≡ false
    by least n most end limit top (inl h) = grind (arith, nat_tests, h)
    by least n most end limit top (inr (inl h)) = grind (arith, nat_tests, h)
    by least n most end limit top (inr (inr (inl h))) = grind (arith, nat_tests, h)
    by least n most end limit top (inr (inr (inr h))) = grind (arith, nat_tests, h)

-- ---- once sorted

abbrev weight : Bool → ℕ
weight b = elim b [ true ↦ 1 | false ↦ 0 ]

-- how many have a value
abbrev span_times : ℕ → List Span → ℕ
span_times v [] = 0
span_times v (s ∷ ss) = weight (is_in v s) + span_times v ss

lacks : (v : ℕ) (s r : Span) → is_in v s ≡ true → do_not_meet (range_of s) (range_of r) ≡ true → is_in v r ≡ false
lacks v s r has apart = grind (arith, nat_tests, has, apart)

-- what one of them has is in none that does not meet it
others_lack : (v : ℕ) (s : Span) (ss : List Span) → is_in v s ≡ true → list_all (do_not_meet (range_of s)) (map range_of ss) ≡ true → span_times v ss ≡ 0
others_lack v s [] has apart = refl
others_lack v s (r ∷ ss) has apart =
    let both = and_parts (do_not_meet (range_of s) (range_of r)) (list_all (do_not_meet (range_of s)) (map range_of ss)) apart in
    let e : weight (is_in v r) ≡ 0 = ap weight (lacks v s r has both.0) in
    omega (arith, e, others_lack v s ss has both.1)

has_once : (v : ℕ) (ss : List Span) → none_meet (map range_of ss) ≡ true → span_times v ss ≤ 1
has_once v [] apart = omega arith
has_once v (s ∷ ss) apart = by (is_in v s) refl (has_once v ss both.1)
  where
    both : (list_all (do_not_meet (range_of s)) (map range_of ss) ≡ true) × (none_meet (map range_of ss) ≡ true)
    both = and_parts (list_all (do_not_meet (range_of s)) (map range_of ss)) (none_meet (map range_of ss)) apart

    by : (b : Bool) → is_in v s ≡ b → span_times v ss ≤ 1 → span_times v (s ∷ ss) ≤ 1
    by true has few =
        let e : weight (is_in v s) ≡ 1 = ap weight has in
        omega (arith, e, others_lack v s ss has both.0)
    by false none few =
        let e : weight (is_in v s) ≡ 0 = ap weight none in
        omega (arith, e, few)

some_in_each : (ss : List Span) → All (λ r. r.from ≤ r.to) (map range_of ss) → All (λ s. s.from ≤ s.to) ss
some_in_each [] all = λ k d h. absurd (omega (arith, h))
some_in_each (s ∷ ss) all =
    let P : Range → Type 0 = λ r. r.from ≤ r.to in
    All-cons (λ s. s.from ≤ s.to) s ss (All-head P (range_of s) (map range_of ss) all) (some_in_each ss (All-tail P (range_of s) (map range_of ss) all))

times_kept : (v : ℕ) (xs ys : List Span) → IsPermutation xs ys → span_times v ys ≡ span_times v xs
times_kept v xs ys same =
    let f : Span → ℕ = λ s. weight (is_in v s) in
    is_sum_by (span_times v) f refl (λ s ss. refl) ys ∙ sum_by-IsPermutation f xs ys same ∙ sym (is_sum_by (span_times v) f refl (λ s ss. refl) xs)

both_have : (v : ℕ) (s r : Span) (ss : List Span) → is_in v s ≡ true → is_in v r ≡ true → span_times v (s ∷ r ∷ ss) ≤ 1 → ⊥
both_have v s r ss one two few =
    let e : weight (is_in v s) ≡ 1 = ap weight one in
    let f : weight (is_in v r) ≡ 1 = ap weight two in
    omega (arith, e, f, few)

has_between : (v : ℕ) (s : Span) → s.from ≤ v → v ≤ s.to → is_in v s ≡ true
has_between v s low high = grind (arith, nat_tests, low, high)

rises : (least : ℕ) (ss : List Span) → IsNonDecreasingBy (λ s. s.from) ss → All (λ s. s.from ≤ s.to) ss → ((v : ℕ) → span_times v ss ≤ 1) → least ≤ first_of ss → ascend least ss ≡ true
rises least [] up some once low = refl
rises least (s ∷ []) up some once low = whole least s [] low (some 0 s (omega arith)) refl
rises least (s ∷ r ∷ ss) up some once low =
    let P : Span → Type 0 = λ s. s.from ≤ s.to in
    let order = All-head P s (r ∷ ss) some in
    let rest = All-tail P s (r ∷ ss) some in
    let next = All-head P r ss rest in
    let above : s.from ≤ r.from = up 0 1 s (omega arith) (omega arith) in
    whole least s (r ∷ ss) low order
    (rises (suc s.to) (r ∷ ss) (λ i j d less within. up (suc i) (suc j) d (omega (arith, less)) (omega (arith, within))) rest
    (λ v. let e = once v in omega (arith, e))
    (by (cases_lt s.to r.from) above next))
  where
    by : (s.to < r.from) ⊎ (r.from ≤ s.to) → s.from ≤ r.from → r.from ≤ r.to → suc s.to ≤ r.from
    by (inl behind) above next = omega (arith, behind)
    by (inr meets) above next = absurd (both_have r.from s r ss (has_between r.from s above meets) (has_between r.from r (omega arith) next) (once r.from))

pub not_apart : (spans ordered : List Span) → IsPermutation spans ordered → IsNonDecreasingBy (λ s. s.from) ordered → ascend 0 ordered ≡ false →
    AreApart (map range_of spans) → ⊥
not_apart spans ordered same up falls apart =
    let is : ascend 0 ordered ≡ true =
    rises 0 ordered up (All-permutation (λ s. s.from ≤ s.to) spans ordered same (some_in_each spans apart.some))
    (λ v. let e = times_kept v spans ordered same in let few = has_once v spans apart.apart in omega (arith, e, few)) (omega arith)
    in
    absurd (cc (is, falls))
