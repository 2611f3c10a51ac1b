-- Agreement with a factor: it comes from following at that cost a step, once the second machine has begun.
use Rattle.std.proofs.Common.{◌≡◌, ◌⊎◌, ℕ, zero, suc, ◌+◌, ◌-◌, ◌*◌, ◌<◌, ◌≤◌, inl, inr, refl, sym, ap, subst, ◌∙◌, arith, nat_lt, mul_comm, mul-le-mul_left}
use Rattle.std.proofs.lemmas.Bool.Decides.{nat_tests}
use Rattle.std.specs.Prelude.{Bool, true, false, Option, Some}
use Rattle.cmm_simulation.proofs.Paths.{nowhere}
use Rattle.cmm_simulation.proofs.Prefixes.{within_trans}
use Rattle.cmm_simulation.proofs.Runs.{after-add, all_right, grows_until, over_until, right_at_start, right_further, right_until, spent-constant}
use Rattle.cmm_simulation.specs.Agreement.{Agrees, Does, GoesWrong, IsMatched, StandsAs}
use Rattle.cmm_simulation.specs.Following.{FollowsLazily}
use Rattle.cmm_simulation.specs.Machine.{Machine, IsRightUntil, Lasts, after}
use Rattle.cmm_simulation.specs.Observing.{Level, Precedes}
use Rattle.cmm_simulation.specs.Seen.{Event, IsWithin, End, but_input}
use Rattle.cmm_simulation.specs.Simulation.{Leads}

-- states that are level stand at the same event, but for an input
module _ {C E : Type 0} where
  same_end : (e : E) (x y : Option (Event C E)) → but_input x ≡ but_input y → x ≡ Some (End e) → y ≡ Some (End e)
  same_end e x y same is = grind (arith, same, is)

  same_event : (e : Event C E) (x y : Option (Event C E)) → but_input x ≡ but_input y → but_input x ≡ Some e → y ≡ Some e
  same_event e x y same is = grind (arith, same, is)

module _ {S T L C E : Type 0} {A : Machine S L C E} {B : Machine T L C E} {s : S} {t : T} where
  level_ends : {e : E} → Level A B s t → A.asks s ≡ Some (End e) → B.asks t ≡ Some (End e)
  level_ends {e = e} level is = same_end e (A.asks s) (B.asks t) level.asks is

  level_stands : {e : Event C E} → Level A B s t → but_input (A.asks s) ≡ Some e → B.asks t ≡ Some e
  level_stands {e = e} level is = same_event e (A.asks s) (B.asks t) level.asks is

module _ {S T L C E : Type 0} (A : Machine S L C E) (B : Machine T L C E) (first factor slack : ℕ) (s : S) (t : T) (lasts : Lasts A) (lasts' : Lasts B)
    (early : first ≤ factor) (start : A.wrong s ≡ false) (begins : Leads B (λ _. 1) (Precedes A B s) (FollowsLazily A (λ _. factor) B (λ _. 1) slack s) 0 first t) where
  -- B once it has begun
  abbrev begun : T
  begun = after B begins.steps t

  abbrev follows : FollowsLazily A (λ _. factor) B (λ _. 1) slack s begun
  follows = begins.arrives

  begun_soon : begins.steps ≤ first
  begun_soon = omega (arith, begins.within, spent-constant B 1 begins.steps t)

  -- what B does behind that
  behind : (k : ℕ) → after B (begins.steps + k) t ≡ after B k begun
  behind k = after-add B begins.steps k t

  -- ---- what A has done, B does

  level : (m : ℕ) → IsRightUntil A m s → Level A B (after A m s) (after B (begins.steps + follows.done m) t)
  level m right = subst (λ (u : T). Level A B (after A m s) u) (sym (behind (follows.done m))) (follows.level m right)

  does : (m : ℕ) → A.wrong (after A m s) ≡ false → Does A B (first + factor * m) (factor * (m + 1)) (after A m s) t
  does m right =
      let all = all_right A lasts m s right in
      let there = level m all in
      let within : follows.done m ≤ factor * m = omega (arith, follows.within m all, spent-constant A factor m s, spent-constant B 1 (follows.done m) begun) in
      let soon : begins.steps + follows.done m ≤ first + factor * m = omega (arith, begun_soon, within) in
      let late : begins.steps + follows.done m ≤ factor * (m + 1) = omega (arith, soon, early) in
      record {
        seen = subst (λ (x : _). IsWithin x (B.seen (after B (factor * (m + 1)) t))) (sym there.seen) (grows_until B lasts' (begins.steps + follows.done m) (factor * (m + 1)) t late);
        ends = λ ending is. over_until B lasts' ending _ (begins.steps + follows.done m) (factor * (m + 1)) t late (level_ends there is, sym there.seen);
        stands = λ event is. (begins.steps + follows.done m, soon, (level_stands there is, sym there.seen));
      }

  -- ---- where B stands, A does

  -- it stands so before the next step of A is done, or A goes wrong with that
  record Found (k : ℕ) : Type 0 where
    steps : ℕ
    right : IsRightUntil A steps s
    low : follows.done steps ≤ k
    next : ((A.wrong (after A (suc steps) s) ≡ false) × (k < follows.done (suc steps))) ⊎ (A.wrong (after A (suc steps) s) ≡ true)

  -- A comes to such a place before so many of its steps as B may follow with one more
  soon : (m k : ℕ) → IsRightUntil A m s → follows.done m ≤ k → m < slack * suc k
  soon m k right low =
      let more : slack * suc (follows.done m) ≤ slack * suc k = mul-le-mul_left slack (omega (arith, low)) in omega (arith, follows.enough m right, more)

  find : (k fuel m : ℕ) → slack * suc k ≤ m + fuel → IsRightUntil A m s → follows.done m ≤ k → Found k
  find k zero m enough right low = absurd (omega (arith, enough, soon m k right low))
  find k (suc fuel) m enough right low =
      by (A.wrong (after A (suc m) s)) refl (nat_lt k (follows.done (suc m))) refl (λ fine past. find k fuel (suc m) (omega (arith, enough)) (right_further A m s right fine) past)
    where
      by : (wrong : Bool) → A.wrong (after A (suc m) s) ≡ wrong → (less : Bool) → nat_lt k (follows.done (suc m)) ≡ less →
          (A.wrong (after A (suc m) s) ≡ false → follows.done (suc m) ≤ k → Found k) → Found k
      by true is less before go = record { steps = m; right = right; low = low; next = inr is }
      by false is true before go = record { steps = m; right = right; low = low; next = inl (is, grind (arith, nat_tests, before)) }
      by false is false before go = go is (grind (arith, nat_tests, before))

  found : (k : ℕ) → Found k
  found k = find k (slack * suc k) 0 (omega arith) (right_at_start A s start) (omega (arith, follows.begins))

  -- behind where it has begun
  matched : (k n : ℕ) → begins.steps + k ≡ n → IsMatched A B (slack * (n + 1)) s (after B n t) ⊎ GoesWrong A B slack n s t
  matched k n is = by at.next
    where
      at : Found k
      at = found k

      bound : (taken : ℕ) → at.steps < slack * suc taken → at.steps < slack * (begins.steps + taken + 1)
      bound taken less =
          let more : slack * suc taken ≤ slack * (begins.steps + taken + 1) = mul-le-mul_left slack (omega arith) in omega (arith, less, more)

      here : after B n t ≡ after B k begun
      here = sym (ap (λ (i : ℕ). after B i t) is) ∙ behind k

      stands : (A.wrong (after A (suc at.steps) s) ≡ false) → k < follows.done (suc at.steps) → StandsAs A B (after A at.steps s) (after B k begun)
      stands fine less =
          let passed = follows.passes at.steps k (right_further A at.steps s at.right fine) at.low less in
          record {
            least = subst (λ (x : _). IsWithin x (B.seen (after B k begun))) (sym (follows.level at.steps at.right).seen) (grows_until B lasts' (follows.done at.steps) k begun at.low);
            most = within_trans (lasts'.grows (after B k begun)) passed.seen;
            asks = passed.asks;
            right = right_until B lasts' k (suc k) begun (omega arith) (passed.right fine);
          }

      by : ((A.wrong (after A (suc at.steps) s) ≡ false) × (k < follows.done (suc at.steps))) ⊎ (A.wrong (after A (suc at.steps) s) ≡ true) →
          IsMatched A B (slack * (n + 1)) s (after B n t) ⊎ GoesWrong A B slack n s t
      by (inl on) =
          inl record {
            steps = at.steps;
            soon = subst (λ (i : ℕ). at.steps < slack * (i + 1)) is (bound k (soon at.steps k at.right at.low));
            right = at.right at.steps (omega arith);
            stands = subst (λ (u : T). StandsAs A B (after A at.steps s) u) (sym here) (stands on.0 on.1);
          }
      by (inr wrong) =
          inr record {
            steps = at.steps;
            taken = begins.steps + follows.done at.steps;
            early = omega (arith, at.low, is);
            soon = bound (follows.done at.steps) (follows.enough at.steps at.right);
            right = at.right at.steps (omega arith);
            level = level at.steps at.right;
            error = wrong;
          }

  positive : 1 ≤ slack
  positive =
      let same : slack * suc (follows.done 0) ≡ slack * 1 = ap (λ (d : ℕ). slack * suc d) follows.begins in
      omega (arith, follows.enough 0 (right_at_start A s start), same)

  -- before it
  preceded : (n : ℕ) → n < begins.steps → IsMatched A B (slack * (n + 1)) s (after B n t)
  preceded n less =
      let before = begins.through n less in
      let one : suc n * 1 ≤ suc n * slack = mul-le-mul_left (suc n) positive in
      record {
        steps = 0;
        soon = omega (arith, one, mul_comm slack (n + 1));
        right = start;
        stands = record {
          least = before.shown;
          most = within_trans (lasts'.grows (after B n t)) (within_trans before.seen (lasts.grows s));
          asks = λ event is. absurd (cc (is, before.asks));
          right = right_until B lasts' n (suc n) t (omega arith) before.right;
        };
      }

  up : (n : ℕ) → IsMatched A B (slack * (n + 1)) s (after B n t) ⊎ GoesWrong A B slack n s t
  up n = by (nat_lt n begins.steps) refl
    where
      by : (less : Bool) → nat_lt n begins.steps ≡ less → IsMatched A B (slack * (n + 1)) s (after B n t) ⊎ GoesWrong A B slack n s t
      by true is = inl (preceded n (grind (arith, nat_tests, is)))
      by false is = let past : begins.steps ≤ n = grind (arith, nat_tests, is) in matched (n - begins.steps) n (omega (arith, past))

  -- following at a constant cost a step against 1 a step, behind some steps first, is agreement with that factor, and with its slack
  pub agrees_once_begun : Agrees A B first factor slack s t
  agrees_once_begun = record { down = does; up = up }

module _ {S T L C E : Type 0} {A : Machine S L C E} {B : Machine T L C E} {first later factor slack : ℕ} {s : S} {t : T} where
  -- more first steps may be allowed for
  pub agrees_later : first ≤ later → Agrees A B first factor slack s t → Agrees A B later factor slack s t
  agrees_later le agrees = record {
    down = λ m right. let does = agrees.down m right in
        record { seen = does.seen; ends = does.ends; stands = λ event is. let at = does.stands event is in (at.0, omega (arith, at.1, le), at.2) };
    up = agrees.up;
  }

module _ {S T L C E : Type 0} {A : Machine S L C E} {B : Machine T L C E} {factor slack : ℕ} {s : S} {t : T} (lasts : Lasts A) (lasts' : Lasts B) where
  -- and so is following from the start
  pub agrees_lazily : A.wrong s ≡ false → FollowsLazily A (λ _. factor) B (λ _. 1) slack s t → Agrees A B 0 factor slack s t
  agrees_lazily start follows = agrees_once_begun A B 0 factor slack s t lasts lasts' (omega arith) start (nowhere follows)
