-- Followings and simulations compose, where what the steps of B cost when it follows is what they may cost when it is followed. The slacks of followings are multiplied; the ranks of
-- simulations add up where the first one's does not rise while the second may pass steps over.
use Rattle.std.proofs.Common.{◌≡◌, ◌⊎◌, ℕ, zero, suc, ◌+◌, ◌-◌, ◌*◌, ◌<◌, ◌≤◌, inl, inr, refl, sym, ap, ◌∙◌, subst, arith, mul-le-mul_left, nat_lt}
use Rattle.std.proofs.Math.Nat.{mul_assoc}
use Rattle.std.proofs.lemmas.Bool.Decides.{nat_tests}
use Rattle.std.specs.Prelude.{Bool, true, false, min}
use Rattle.cmm_simulation.proofs.Paths.{weaker}
use Rattle.cmm_simulation.proofs.Prefixes.{within_trans}
use Rattle.cmm_simulation.proofs.Runs.{after-add, spent-add, spent_scaled}
use Rattle.cmm_simulation.proofs.Simulations.{each_leads, run_leads, stepwise}
use Rattle.cmm_simulation.specs.Following.{FollowsLazily}
use Rattle.cmm_simulation.specs.Machine.{Machine, IsRightUntil, after, spent}
use Rattle.cmm_simulation.specs.Observing.{Level, Passes}
use Rattle.cmm_simulation.specs.Simulation.{Below, Leads, Simulates, SimulatesLazily, Through}

-- ---- numbers that ascend

module _ (f : ℕ → ℕ) where
  ascends_from : ((m : ℕ) → f m ≤ f (suc m)) → (steps m : ℕ) → f m ≤ f (m + steps)
  ascends_from ascends zero m = let same : m + 0 ≡ m = omega arith in subst (λ (k : ℕ). f m ≤ f k) (sym same) (omega arith)
  ascends_from ascends (suc steps) m =
      let same : suc (m + steps) ≡ m + suc steps = omega arith in
      let before = ascends_from ascends steps m in
      let last = ascends (m + steps) in
      subst (λ (k : ℕ). f m ≤ f k) same (omega (arith, before, last))

  -- the number between whose values another one lies
  record Between (low high n : ℕ) : Type 0 where
    at : ℕ
    from : low ≤ at
    to : at < high
    least : f at ≤ n
    most : n < f (suc at)

  between : (n steps low : ℕ) → f low ≤ n → n < f (low + steps) → Between low (low + steps) n
  between n zero low le less = let same : low + 0 ≡ low = omega arith in let none = subst (λ (k : ℕ). n < f k) same less in absurd (omega (arith, none, le))
  between n (suc steps) low le less = by (nat_lt n (f (suc low))) refl (λ further. between n steps (suc low) further (subst (λ (k : ℕ). n < f k) same less))
    where
      same : low + suc steps ≡ suc low + steps
      same = omega arith

      by : (test : Bool) → nat_lt n (f (suc low)) ≡ test → (f (suc low) ≤ n → Between (suc low) (suc low + steps) n) → Between low (low + suc steps) n
      by true is go = record { at = low; from = omega arith; to = omega arith; least = le; most = grind (arith, nat_tests, is) }
      by false is go =
          let further = go (grind (arith, nat_tests, is)) in
          record { at = further.at; from = omega (arith, further.from); to = omega (arith, further.to); least = further.least; most = further.most }

-- ---- what is seen side by side

module _ {S T U L C E : Type 0} {A : Machine S L C E} {B : Machine T L C E} {D : Machine U L C E} where
  -- what is passed while something is passed is passed
  passes_trans : {s : S} {t : T} {u : U} → Passes A B s t → Passes B D t u → Passes A D s u
  passes_trans p q =
      record { seen = within_trans q.seen p.seen; asks = λ event is. grind (arith, p.asks, q.asks); right = λ is. q.right (p.right is) }

  level_trans : {s : S} {t : T} {u : U} → Level A B s t → Level B D t u → Level A D s u
  level_trans p q = record { seen = p.seen ∙ q.seen; asks = p.asks ∙ q.asks; wrong = p.wrong ∙ q.wrong }

-- ---- following what follows

module _ {S T L C E : Type 0} {A : Machine S L C E} {B : Machine T L C E} {a : S → ℕ} {b : T → ℕ} {slack : ℕ} {s : S} {t : T} where
  -- what is passed on the way, and what is arrived at, is right where the first machine is
  pub right_too : (follows : FollowsLazily A a B b slack s t) → (m : ℕ) → IsRightUntil A m s → IsRightUntil B (follows.done m) t
  right_too follows zero right i le =
      let same : follows.done 0 ≡ i = omega (arith, le, follows.begins) in
      subst (λ (k : ℕ). B.wrong (after B k t) ≡ false) same (sym (follows.level 0 right).wrong ∙ right 0 (omega arith))
  right_too follows (suc m) right i le = by (right_too follows m (λ k before. right k (omega (arith, before)))) (grind arith)
    where
      later : (i : ℕ) → i ≤ follows.done (suc m) → follows.done m < i → B.wrong (after B i t) ≡ false
      later zero below past = absurd (omega (arith, past))
      later (suc n) below past = (follows.passes m n right (omega (arith, past)) (omega (arith, below))).right (right (suc m) (omega arith))

      by : IsRightUntil B (follows.done m) t → (i ≤ follows.done m) ⊎ (follows.done m < i) → B.wrong (after B i t) ≡ false
      by earlier (inl before) = earlier i before
      by earlier (inr past) = later i le past

module _ {S T U L C E : Type 0} {A : Machine S L C E} {B : Machine T L C E} {D : Machine U L C E} {a : S → ℕ} {b : T → ℕ} {d : U → ℕ} {j k : ℕ} {s : S} {t : T} {u : U} where
  -- the steps of A that B does with one step are done with one of D as often as that does so many of B
  pub lazily_trans : FollowsLazily A a B b j s t → FollowsLazily B b D d k t u → FollowsLazily A a D d (j * k) s u
  lazily_trans first second = record {
    done = λ m. second.done (first.done m);
    begins = subst (λ (n : ℕ). second.done n ≡ 0) (sym first.begins) second.begins;
    ascends = λ m. climbs (first.done m) (first.done (suc m)) (first.ascends m);
    level = λ m right. level_trans (first.level m right) (second.level (first.done m) (right_too first m right));
    passes = λ m n right le less.
        let ascent = first.ascends m in
        let height : first.done m + (first.done (suc m) - first.done m) ≡ first.done (suc m) = omega (arith, ascent) in
        let found = between second.done n (first.done (suc m) - first.done m) (first.done m) le (subst (λ (i : ℕ). n < second.done i) (sym height) less) in
        let passed = first.passes m found.at right found.from (omega (arith, found.to, height)) in
        let on = right_too first (suc m) right in
        passes_trans passed (second.passes found.at n (λ i early. on i (omega (arith, early, found.to, height))) found.least found.most);
    within = λ m right. omega (arith, first.within m right, second.within (first.done m) (right_too first m right));
    enough = λ m right.
        let fewer = second.enough (first.done m) (right_too first m right) in
        let more : j * suc (first.done m) ≤ j * (k * suc (second.done (first.done m))) = mul-le-mul_left j (omega (arith, fewer)) in
        omega (arith, first.enough m right, more, mul_assoc j k (suc (second.done (first.done m))));
  }
    where
      climbs : (m n : ℕ) → m ≤ n → second.done m ≤ second.done n
      climbs m n le =
          let height : m + (n - m) ≡ n = omega (arith, le) in
          subst (λ (i : ℕ). second.done m ≤ second.done i) height (ascends_from second.done second.ascends (n - m) m)

-- ---- a simulation and then another

module _ {S T U L C E : Type 0} {A : Machine S L C E} {B : Machine T L C E} {D : Machine U L C E} {a : S → ℕ} {b : T → ℕ} {d : U → ℕ} {j k : ℕ}
    {R : ℕ → S → T → Type 0} {Q : ℕ → T → U → Type 0} (slack : ℕ) (added : j + k ≤ suc slack) (first : SimulatesLazily A a B b j R)
    (second : SimulatesLazily B b D d k Q) where
  abbrev Goes : ℕ → S → U → Type 0
  Goes rank s u = Leads D d (Passes A D s) (Below slack (Through R Q) (A.step s)) 1 (a s) u ⊎ Below rank (Through R Q) (A.step s) u

  -- a step that B passes over
  over : (s : S) (t : T) (u : U) (i n rank : ℕ) → Q n t u → i + n ≡ rank → Below i R (A.step s) t → Goes rank s u
  over s t u i n rank behind sum fallen =
      inr (fallen.0 + n, omega (arith, sum, fallen.1), record { between = t; first = fallen.0; second = n; before = fallen.2; behind = behind; added = refl })

  -- a step that B does is done by D, or passed over where the ranks have fallen together
  done : (s : S) (t : T) (u : U) (n rank most : ℕ) → Q n t u → A.wrong (A.step s) ≡ false → most ≤ j →
      (path : Leads B b (Passes A B s) (Below most R (A.step s)) 1 (a s) t) → ((left : ℕ) → left + path.steps ≤ n → path.arrives.0 + left < rank) → Goes rank s u
  done s t u n rank most behind right few path falls =
      by (run_leads {P = Passes A D s} second n behind path.steps (λ x less. let p = path.through x less in (p.right right, λ v q. passes_trans p q)))
    where
      by : Leads D d (Passes A D s) (Below k Q (after B path.steps t)) 1 (spent B b path.steps t) u ⊎ ((left : ℕ) × (left + path.steps ≤ n) × Q left (after B path.steps t) u) → Goes rank s u
      by (inr passed) =
          inr (
            path.arrives.0 + passed.0,
            falls passed.0 passed.1,
            record { between = after B path.steps t; first = path.arrives.0; second = passed.0; before = path.arrives.2; behind = passed.2; added = refl },
          )
      by (inl run) =
          inl
          (weaker run (λ v p. p)
          (λ v below. (
            path.arrives.0 + below.0,
            omega (arith, path.arrives.1, few, below.1, added),
            record { between = after B path.steps t; first = path.arrives.0; second = below.0; before = path.arrives.2; behind = below.2; added = refl },
          ))
          (omega arith) (λ x within. omega (arith, within, path.within)))

  -- Where D may pass over what B does, the rank of A does not rise with a step that B does.
  abbrev pub IsFlat : Type 0
  IsFlat = (i n : ℕ) (s : S) (t : T) (u : U) → R i s t → Q (suc n) t u → A.wrong (A.step s) ≡ false →
      Leads B b (Passes A B s) (Below (min j (suc i)) R (A.step s)) 1 (a s) t ⊎ Below i R (A.step s) t

  goes : IsFlat → (rank : ℕ) (s : S) (u : U) (t : T) (i n : ℕ) → R i s t → Q n t u → i + n ≡ rank → A.wrong (A.step s) ≡ false → Goes rank s u
  goes flat rank s u t i zero before behind sum right = elim (first.leads i s t before right) [
    | inl path ↦ done s t u 0 rank j behind right (omega arith) path (λ left le. absurd (omega (arith, le, path.enough)))
    | inr fallen ↦ over s t u i 0 rank behind sum fallen
  ]
  goes flat rank s u t i (suc n) before behind sum right = elim (flat i n s t u before behind right) [
    | inl path ↦ done s t u (suc n) rank (min j (suc i)) behind right (omega arith) path (λ left le. omega (arith, le, path.enough, path.arrives.1, sum))
    | inr fallen ↦ over s t u i (suc n) rank behind sum fallen
  ]

  -- Then the ranks add up. Without that, those of the first rise again behind each step that the second passes over, and they multiply.
  pub simulates_added : IsFlat → SimulatesLazily A a D d slack (Through R Q)
  simulates_added flat = record {
    level = λ rank s u is. level_trans (first.level is.first s is.between is.before) (second.level is.second is.between u is.behind);
    leads = λ rank s u is right. goes flat rank s u is.between is.first is.second is.before is.behind is.added right;
  }

-- those that pass nothing over
module _ {S T U L C E : Type 0} {A : Machine S L C E} {B : Machine T L C E} {D : Machine U L C E} {a : S → ℕ} {b : T → ℕ} {d : U → ℕ} {R : S → T → Type 0} {Q : T → U → Type 0} where
  pub simulates_trans : Simulates A a B b R → Simulates B b D d Q → Simulates A a D d (λ s u. (t : T) × R s t × Q t u)
  simulates_trans first second =
      stepwise (λ s u is. level_trans (first.level 0 s is.0 is.1) (second.level 0 is.0 u is.2))
      (λ s u is right. let path = each_leads first s is.0 is.1 right in by s is.0 u path right is.2
      (run_leads {P = Passes A D s} second 0 is.2 path.steps (λ x less. let p = path.through x less in (p.right right, λ v q. passes_trans p q))))
    where
      by : (s : S) (t : T) (u : U) (path : Leads B b (Passes A B s) (R (A.step s)) 1 (a s) t) → A.wrong (A.step s) ≡ false → Q t u →
          Leads D d (Passes A D s) (Below 1 (λ rank. Q) (after B path.steps t)) 1 (spent B b path.steps t) u ⊎ ((left : ℕ) × (left + path.steps ≤ 0) × Q (after B path.steps t) u) →
          Leads D d (Passes A D s) (λ v. (t : T) × R (A.step s) t × Q t v) 1 (a s) u
      by s t u path right behind (inl run) =
          weaker run (λ v p. p) (λ v below. (after B path.steps t, path.arrives, below.2)) (omega arith) (λ n le. omega (arith, le, path.within))
      by s t u path right behind (inr passed) = absurd (omega (arith, passed.1, path.enough))

-- ---- steps before a run that follows

module _ {S T L C E : Type 0} {A : Machine S L C E} {B : Machine T L C E} {a : S → ℕ} {b : T → ℕ} {slack : ℕ} {s : S} {t : T} (more : ℕ) (level : Level A B s t)
    (first : Leads B b (Passes A B s) (FollowsLazily A a B b slack s) 0 more t) where
  abbrev follows : FollowsLazily A a B b slack s (after B first.steps t)
  follows = first.arrives

  abbrev done_behind : ℕ → ℕ
  done_behind zero = 0
  done_behind (suc m) = first.steps + follows.done (suc m)

  behind : (n : ℕ) → after B (first.steps + n) t ≡ after B n (after B first.steps t)
  behind n = after-add B first.steps n t

  ascends_behind : (m : ℕ) → done_behind m ≤ done_behind (suc m)
  ascends_behind zero = omega arith
  ascends_behind (suc m) = omega (arith, follows.ascends (suc m))

  level_behind : (m : ℕ) → IsRightUntil A m s → Level A B (after A m s) (after B (done_behind m) t)
  level_behind zero right = level
  level_behind (suc m) right = subst (λ (u : T). Level A B (after A (suc m) s) u) (sym (behind (follows.done (suc m)))) (follows.level (suc m) right)

  passes_later : (m n : ℕ) → IsRightUntil A (suc m) s → first.steps ≤ n → follows.done m ≤ n - first.steps → n < first.steps + follows.done (suc m) → Passes A B (after A m s) (after B n t)
  passes_later m n right past least less =
      let same : first.steps + (n - first.steps) ≡ n = omega (arith, past) in
      subst (λ (i : ℕ). Passes A B (after A m s) (after B i t)) same
      (subst (λ (u : T). Passes A B (after A m s) u) (sym (behind (n - first.steps))) (follows.passes m (n - first.steps) right least (omega (arith, less, past))))

  passes_behind : (m n : ℕ) → IsRightUntil A (suc m) s → done_behind m ≤ n → n < done_behind (suc m) → Passes A B (after A m s) (after B n t)
  passes_behind zero n right le less = by (grind arith)
    where
      by : (n < first.steps) ⊎ (first.steps ≤ n) → Passes A B s (after B n t)
      by (inl before) = first.through n before
      by (inr past) = passes_later 0 n right past (omega (arith, follows.begins)) less
  passes_behind (suc m) n right le less = passes_later (suc m) n right (omega (arith, le)) (omega (arith, le)) less

  within_behind : (m : ℕ) → IsRightUntil A m s → spent B b (done_behind m) t ≤ spent A (λ u. a u + more) m s
  within_behind zero right = omega arith
  within_behind (suc m) right =
      omega (
        arith,
        first.within,
        follows.within (suc m) right,
        spent-add B b first.steps (follows.done (suc m)) t,
        spent_scaled A 1 1 a (λ u. a u + more) (λ u. omega arith) m s,
      )

  enough_behind : (m : ℕ) → IsRightUntil A m s → m < slack * suc (done_behind m)
  enough_behind zero right =
      let same : slack * suc (follows.done 0) ≡ slack * 1 = ap (λ (d : ℕ). slack * suc d) follows.begins in omega (arith, follows.enough 0 right, same)
  enough_behind (suc m) right =
      let more : slack * suc (follows.done (suc m)) ≤ slack * suc (first.steps + follows.done (suc m)) = mul-le-mul_left slack (omega arith) in
      omega (arith, follows.enough (suc m) right, more)

  -- steps that are passed while the first machine makes its first one belong to each of its steps
  pub preceded : FollowsLazily A (λ u. a u + more) B b slack s t
  preceded = record {
    done = done_behind;
    begins = refl;
    ascends = ascends_behind;
    level = level_behind;
    passes = passes_behind;
    within = within_behind;
    enough = enough_behind;
  }
