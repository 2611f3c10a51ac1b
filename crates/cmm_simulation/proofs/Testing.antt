-- What follows a machine whose events all pass a test stands at no event that fails it.
use Rattle.std.proofs.Common.{◌≡◌, ℕ, zero, suc, ◌+◌, ◌<◌, ◌≤◌, ◌||◌, not, Bool, true, false, Option, Some, None, refl, sym, ap, ◌∙◌, subst, arith, inl, inr, ◌⊎◌}
use Rattle.cmm_simulation.specs.Following.{FollowsLazily}
use Rattle.cmm_simulation.specs.Machine.{Machine, IsRightUntil, after, spent}
use Rattle.cmm_simulation.specs.Observing.{Level, Passes}
use Rattle.cmm_simulation.specs.Seen.{Event, Input, Client, End, but_input}
use Rattle.cmm_simulation.specs.Tested.{EventsPass, fails, tested}

module _ {S T L C E : Type 0} (A : Machine S L C E) (B : Machine T L C E) (passes : Event C E → Bool) (input : passes Input ≡ true) where
  after_same : (n : ℕ) (t : T) → after (tested passes B) n t ≡ after B n t
  after_same zero t = refl
  after_same (suc n) t = ap B.step (after_same n t)

  spent_same : (b : T → ℕ) (n : ℕ) (t : T) → spent (tested passes B) b n t ≡ spent B b n t
  spent_same b zero t = refl
  spent_same b (suc n) t =
      ap (λ (k : ℕ). k + b (after (tested passes B) n t)) (spent_same b n t) ∙ ap (λ (u : T). spent B b n t + b u) (after_same n t)

  -- an event at which both stand passes, and so does an input at which only one of them does
  event_passes : (x y : Option (Event C E)) → but_input x ≡ but_input y → ((e : Event C E) → x ≡ Some e → passes e ≡ true) → fails passes y ≡ false
  event_passes x None same all = refl
  event_passes x (Some Input) same all = ap not input
  event_passes (Some (Client c)) (Some (Client d)) same all =
      let one : c ≡ d = cc in ap not (ap (λ (k : C). passes (Client k)) (sym one) ∙ all (Client c) refl)
  event_passes (Some (End c)) (Some (End d)) same all = let one : c ≡ d = cc in ap not (ap (λ (k : E). passes (End k)) (sym one) ∙ all (End c) refl)
  event_passes None (Some (Client d)) same all = absurd (cc)
  event_passes None (Some (End d)) same all = absurd (cc)
  event_passes (Some Input) (Some (Client d)) same all = absurd (cc)
  event_passes (Some Input) (Some (End d)) same all = absurd (cc)
  event_passes (Some (End c)) (Some (Client d)) same all = absurd (cc)
  event_passes (Some (Client c)) (Some (End d)) same all = absurd (cc)

  no_more : (a b : Bool) → b ≡ false → (a || b) ≡ a
  no_more true false is = refl
  no_more false false is = refl
  no_more true true is = absurd (cc)
  no_more false true is = absurd (cc)

  level_too : (s : S) (t : T) → ((e : Event C E) → A.asks s ≡ Some e → passes e ≡ true) → Level A B s t → Level A (tested passes B) s t
  level_too s t all level = record {
    seen = level.seen;
    asks = level.asks;
    wrong = level.wrong ∙ sym (no_more (B.wrong t) (fails passes (B.asks t)) (event_passes (A.asks s) (B.asks t) level.asks all));
  }

  -- whatever event a state stands at passes
  stands_passes : (o : Option (Event C E)) → ((e : Event C E) → o ≡ Some e → passes e ≡ true) → fails passes o ≡ false
  stands_passes (Some e) all = ap not (all e refl)
  stands_passes None all = refl

  module _ (a : S → ℕ) (b : T → ℕ) (slack : ℕ) (s : S) (t : T) (all : EventsPass passes A s) (follows : FollowsLazily A a B b slack s t) where
    level_there : (m : ℕ) → IsRightUntil A m s → Level A (tested passes B) (after A m s) (after (tested passes B) (follows.done m) t)
    level_there m right =
        subst (λ (u : T). Level A (tested passes B) (after A m s) u) (sym (after_same (follows.done m) t))
        (level_too (after A m s) (after B (follows.done m) t) (all m (right m (omega arith))) (follows.level m right))

    -- behind a state that is passed, no event fails
    next_passes : (m n : ℕ) → IsRightUntil A (suc m) s → follows.done m ≤ n → n < follows.done (suc m) → fails passes (B.asks (after B (suc n) t)) ≡ false
    next_passes m n right le less = by (grind (arith, less))
      where
        by : (suc n < follows.done (suc m)) ⊎ (suc n ≡ follows.done (suc m)) → fails passes (B.asks (after B (suc n) t)) ≡ false
        by (inl under) =
            let p = follows.passes m (suc n) right (omega (arith, le)) under in
            stands_passes (B.asks (after B (suc n) t)) (λ e is. all m (right m (omega arith)) e (p.asks e is).0)
        by (inr last) =
            ap (λ (i : ℕ). fails passes (B.asks (after B i t))) last
            ∙ event_passes (A.asks (after A (suc m) s)) (B.asks (after B (follows.done (suc m)) t)) (follows.level (suc m) right).asks
            (all (suc m) (right (suc m) (omega arith)))

    passed_too : (m n : ℕ) → IsRightUntil A (suc m) s → follows.done m ≤ n → n < follows.done (suc m) → Passes A (tested passes B) (after A m s) (after B n t)
    passed_too m n right le less =
        let p = follows.passes m n right le less in
        record {
          seen = p.seen;
          asks = p.asks;
          right = λ fine. no_more (B.wrong (B.step (after B n t))) (fails passes (B.asks (B.step (after B n t)))) (next_passes m n right le less) ∙ p.right fine;
        }

    pub follows_tested : FollowsLazily A a (tested passes B) b slack s t
    follows_tested = record {
      done = follows.done;
      begins = follows.begins;
      ascends = follows.ascends;
      level = level_there;
      passes = λ m n right le less. subst (λ (u : T). Passes A (tested passes B) (after A m s) u) (sym (after_same n t)) (passed_too m n right le less);
      within = λ m right. subst (λ (n : ℕ). n ≤ spent A a m s) (sym (spent_same b (follows.done m) t)) (follows.within m right);
      enough = follows.enough;
    }
