-- Following comes from a simulation: the places where the second machine has done the steps of the first, one after the other.
use Rattle.std.proofs.Common.{◌≡◌, ◌⊎◌, ℕ, zero, suc, ◌+◌, ◌-◌, ◌*◌, ◌<◌, ◌≤◌, inl, inr, refl, sym, subst, arith, mul-le-mul_left}
use Rattle.std.specs.Prelude.{Bool, true, false}
use Rattle.cmm_simulation.proofs.Runs.{after-add, right_at_start, right_further, spent-add}
use Rattle.cmm_simulation.specs.Following.{Follows, FollowsLazily}
use Rattle.cmm_simulation.specs.Machine.{Machine, IsRightUntil, after, spent}
use Rattle.cmm_simulation.specs.Observing.{Passes}
use Rattle.cmm_simulation.specs.Simulation.{Below, Leads, Simulates, SimulatesLazily}

module _ {S T L C E : Type 0} (A : Machine S L C E) (a : S → ℕ) (B : Machine T L C E) (b : T → ℕ) (slack : ℕ) (R : ℕ → S → T → Type 0)
    (simulates : SimulatesLazily A a B b slack R) (s : S) (t : T) where
  -- after m steps of A, none of which has gone wrong, B has made n; these, with what A may still pass over, pay for those
  record Stands (m n : ℕ) : Type 0 where
    right : IsRightUntil A m s
    rank : ℕ
    few : rank < slack
    related : R rank (after A m s) (after B n t)
    within : spent B b n t ≤ spent A a m s
    paid : m + rank < slack * suc n

  record Reached (m : ℕ) : Type 0 where
    done : ℕ
    stands : Stands m done ⊎ (IsRightUntil A m s → ⊥)

  -- one step more
  record Next (m before : ℕ) : Type 0 where
    reached : Reached (suc m)
    ascends : before ≤ reached.done
    passes : (n : ℕ) → IsRightUntil A (suc m) s → before ≤ n → n < reached.done → Passes A B (after A m s) (after B n t)

  -- which goes wrong, or some step before it
  stays : (m n : ℕ) → (IsRightUntil A (suc m) s → ⊥) → Next m n
  stays m n wrong =
      record { reached = record { done = n; stands = inr wrong }; ascends = omega arith; passes = λ k right le less. absurd (wrong right) }

  module _ (m n : ℕ) (at : Stands m n) (right : A.wrong (after A (suc m) s) ≡ false) where
    -- which leads on
    leads_on : Leads B b (Passes A B (after A m s)) (Below slack R (after A (suc m) s)) 1 (a (after A m s)) (after B n t) → Next m n
    leads_on path =
        let one : slack * 1 ≤ slack * path.steps = mul-le-mul_left slack path.enough in
        record {
          reached = record {
            done = n + path.steps;
            stands = inl record {
              right = right_further A m s at.right right;
              rank = path.arrives.0;
              few = path.arrives.1;
              related = subst (λ (u : T). R path.arrives.0 (after A (suc m) s) u) (sym (after-add B n path.steps t)) path.arrives.2;
              within = omega (arith, at.within, path.within, spent-add B b n path.steps t);
              paid = omega (arith, at.paid, path.arrives.1, one);
            };
          };
          ascends = omega arith;
          passes = λ k all le less.
              let same : n + (k - n) ≡ k = omega (arith, le) in
              subst (λ (i : ℕ). Passes A B (after A m s) (after B i t)) same
              (subst (λ (u : T). Passes A B (after A m s) u) (sym (after-add B n (k - n) t)) (path.through (k - n) (omega (arith, le, less))));
        }

    -- which is passed over
    passed_over : Below at.rank R (after A (suc m) s) (after B n t) → Next m n
    passed_over over = record {
      reached = record {
        done = n;
        stands = inl record {
          right = right_further A m s at.right right;
          rank = over.0;
          few = omega (arith, over.1, at.few);
          related = over.2;
          within = omega (arith, at.within);
          paid = omega (arith, at.paid, over.1);
        };
      };
      ascends = omega arith;
      passes = λ k all le less. absurd (omega (arith, le, less));
    }

    goes : Next m n
    goes = elim (simulates.leads at.rank (after A m s) (after B n t) at.related right) [ inl path ↦ leads_on path | inr over ↦ passed_over over ]

  step : (m : ℕ) (here : Reached m) → Next m here.done
  step m here = elim here.stands [
    | inl at ↦ by at (A.wrong (after A (suc m) s)) refl
    | inr wrong ↦ stays m here.done (λ right. wrong (λ i le. right i (omega (arith, le))))
  ]
    where
      by : Stands m here.done → (test : Bool) → A.wrong (after A (suc m) s) ≡ test → Next m here.done
      by at true is = stays m here.done (λ right. let fine = right (suc m) (omega arith) in absurd (cc))
      by at false is = goes m here.done at is

  module _ (rank : ℕ) (few : rank < slack) (start : R rank s t) where
    first : (test : Bool) → A.wrong s ≡ test → Stands 0 0 ⊎ (IsRightUntil A 0 s → ⊥)
    first true is = inr (λ right. let fine = right 0 (omega arith) in absurd (cc))
    first false is =
        inl record { right = right_at_start A s is; rank = rank; few = few; related = start; within = omega arith; paid = omega (arith, few) }

    reached : (m : ℕ) → Reached m
    reached zero = record { done = 0; stands = first (A.wrong s) refl }
    reached (suc m) = (step m (reached m)).reached

    stands_at : (m : ℕ) → IsRightUntil A m s → Stands m (reached m).done
    stands_at m right = elim (reached m).stands [ inl at ↦ at | inr wrong ↦ absurd (wrong right) ]

    follows : FollowsLazily A a B b slack s t
    unfolding reached
    follows = record {
      done = λ m. (reached m).done;
      begins = refl;
      ascends = λ m. (step m (reached m)).ascends;
      level = λ m right. let at = stands_at m right in simulates.level at.rank (after A m s) (after B (reached m).done t) at.related;
      passes = λ m n right le less. (step m (reached m)).passes n right le less;
      within = λ m right. (stands_at m right).within;
      enough = λ m right. let at = stands_at m right in omega (arith, at.paid);
    }

module _ {S T L C E : Type 0} {A : Machine S L C E} {a : S → ℕ} {B : Machine T L C E} {b : T → ℕ} {s : S} {t : T} where
  -- a simulation gives following, from states that are related at a rank below its slack
  pub follows_lazily : {slack : ℕ} {R : ℕ → S → T → Type 0} → SimulatesLazily A a B b slack R → (rank : ℕ) → rank < slack → R rank s t →
      FollowsLazily A a B b slack s t
  follows_lazily {slack = slack} {R = R} simulates rank few start = follows A a B b slack R simulates s t rank few start

  -- and from any related states, where it passes nothing over
  pub follows_of_simulates : {R : S → T → Type 0} → Simulates A a B b R → R s t → Follows A a B b s t
  follows_of_simulates simulates start = follows_lazily simulates 0 (omega arith) start
