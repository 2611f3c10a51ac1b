-- The test of liveness finds just what paths reach: what it finds within n statements is a path, a path is found
-- within its length, and what is found at all is found within as many statements as the procedure has tokens.
use Rattle.std.proofs.Common.{◌≡◌, ℕ, zero, suc, ◌≤◌, Bool, true, false, IsTrue, IsFalse, Contains, List, [], ◌∷◌, length, refl, arith}
use Rattle.std.specs.List.{AllByRecursion}
use Rattle.std.proofs.lemmas.List.Elements.{All-contains, All-from_recursion}
use Rattle.cmm_program.specs.declared.statement.Form.TheVariants.{Span}
use Rattle.cmm_program.specs.declared.statement.Statement.{Statement}
use Rattle.cmm_program.specs.declared.procedure.Proc.{Proc}
use Rattle.cmm_program.specs.declared.program.Program.{Program}
use Rattle.cmm_program.specs.Bodies.{Mark, AtSite, follow}
use Rattle.cmm_program.specs.InRange.{IsProcInRange}
use Rattle.cmm_program.specs.Laws.{LivenessIsByPaths}
use Rattle.cmm_program.specs.Liveness.{Way, ways, exits_at, read_in, is_among, along, is_read_within, is_read_from, is_live_at}
use Rattle.cmm_program.specs.LivePaths.{IsReadFrom, Here, Onward, IsLiveAt}
use Rattle.cmm_program.proofs.Leading.{Leads, lead_inside, exits_at_lead, holds_after}
use Rattle.cmm_program.proofs.Positions.{positions, positions-tokens}
use Rattle.cmm_program.proofs.Settling.{IsStill, settles}

each : {A : Type 0} (P : A → Type 0) (list : List A) → ((a : A) → P a) → AllByRecursion P list
each P [] h = tt
each P (a ∷ others) h = (h a, each P others h)

weaker : {A : Type 0} (P Q : A → Type 0) (list : List A) → ((a : A) → P a → Q a) → AllByRecursion P list → AllByRecursion Q list
weaker P Q [] h all = tt
weaker P Q (a ∷ others) h all = (h a all.0, weaker P Q others h all.1)

one_of : {A : Type 0} (P : A → Type 0) (list : List A) (a : A) → AllByRecursion P list → Contains list a → P a
one_of P list a all c = All-contains P list a (All-from_recursion P list all) c

-- ---- along some ways

-- a way on which the variable is not written leads to a position that passes
record Found (test : List Statement → Bool) (v : ℕ) (ws : List Way) : Type 0 where
  way : Way
  is_one : Contains ws way
  unwritten : IsFalse (is_among v way.written)
  passes : IsTrue (test way.to)

found_behind : {test : List Statement → Bool} {v : ℕ} {ws : List Way} (w : Way) → Found test v ws → Found test v (w ∷ ws)
found_behind w found = record {
  way = found.way;
  is_one = (suc found.is_one.0, omega (arith, found.is_one.1), found.is_one.2);
  unwritten = found.unwritten;
  passes = found.passes;
}

-- what the test looks for along the ways
abbrev first_or : Bool → Bool → Bool → Bool
first_or written passes others = elim written [ true ↦ others | false ↦ elim passes [ true ↦ true | false ↦ others ] ]

found_along : (test : List Statement → Bool) (v : ℕ) (ws : List Way) → IsTrue (along test v ws) → Found test v ws
found_along test v [] h = absurd (cc)
found_along test v (w ∷ ws) h = by (λ h. found_behind w (found_along test v ws h)) (is_among v w.written) refl (test w.to) refl h
  where
    by : (IsTrue (along test v ws) → Found test v (w ∷ ws)) →
        (written : Bool) → is_among v w.written ≡ written → (passes : Bool) → test w.to ≡ passes →
        IsTrue (first_or written passes (along test v ws)) → Found test v (w ∷ ws)
    by behind true e passes f h = behind h
    by behind false e false f h = behind h
    by behind false e true f h = record { way = w; is_one = (zero, omega arith, refl); unwritten = e; passes = f }

along_first : (b c d : Bool) → b ≡ false → c ≡ true → IsTrue (first_or b c d)
along_first b c d e f = rw (e, f) refl

along_others : (b c d : Bool) → IsTrue d → IsTrue (first_or b c d)
along_others true c d h = h
along_others false true d h = refl
along_others false false d h = h

along_one : (test : List Statement → Bool) (v : ℕ) (ws : List Way) (way : Way) → Contains ws way →
    IsFalse (is_among v way.written) → IsTrue (test way.to) → IsTrue (along test v ws)
along_one test v [] way c unwritten passes = absurd (omega (arith, c.1))
along_one test v (w ∷ ws) way (zero, less, is) unwritten passes =
    along_first (is_among v w.written) (test w.to) (along test v ws) (rw is unwritten) (rw is passes)
along_one test v (w ∷ ws) way (suc k, less, is) unwritten passes =
    along_others (is_among v w.written) (test w.to) (along test v ws) (along_one test v ws way (k, omega arith, is) unwritten passes)

-- ---- read by a statement, or looked for along the ways on

read_or : (b c : Bool) → c ≡ true → IsTrue (elim b [ true ↦ true | false ↦ c ])
read_or true c h = refl
read_or false c h = h

read_now : (b c : Bool) → b ≡ true → IsTrue (elim b [ true ↦ true | false ↦ c ])
read_now b c h = rw h refl

read_more : (t u : List Statement → Bool) (v : ℕ) (read : Bool) (ws : List Way) → AllByRecursion (λ w. IsTrue (t w.to) → IsTrue (u w.to)) ws →
    IsTrue (elim read [ true ↦ true | false ↦ along t v ws ]) → IsTrue (elim read [ true ↦ true | false ↦ along u v ws ])
read_more t u v true ws all h = h
read_more t u v false ws all h =
    let found = found_along t v ws h in
    let passes = one_of (λ w. IsTrue (t w.to) → IsTrue (u w.to)) ws found.way all found.is_one found.passes in
    along_one u v ws found.way found.is_one found.unwritten passes

module _ (q : Proc) (v : ℕ) where
  -- some path of at most n statements reads the variable
  abbrev test : ℕ → List Statement → Bool
  test n position = is_read_within n q v position

  nothing_at_end : (n : ℕ) (P : Type 0) → IsTrue (test n []) → P
  nothing_at_end zero P h = absurd (cc)
  nothing_at_end (suc n) P h = absurd (cc)

  grows : (n : ℕ) (position : List Statement) → IsTrue (test n position) → IsTrue (test (suc n) position)
  grows zero position h = absurd (cc)
  grows (suc n) [] h = absurd (cc)
  grows (suc n) (s ∷ rest) h =
      let ws = ways q s.form rest in
      let all = each (λ w. IsTrue (test n w.to) → IsTrue (test (suc n) w.to)) ws (λ w. grows n w.to) in
      read_more (test n) (test (suc n)) v (is_among v (read_in s.form)) ws all h

  -- where one statement more finds nothing new at any position, neither do two
  lasts : (n : ℕ) → AllByRecursion (IsStill test n) (positions q) → AllByRecursion (IsStill test (suc n)) (positions q)
  lasts n all =
      weaker (Leads q (IsStill test n) marks) (IsStill test (suc n)) (positions q) one (lead_inside q (IsStill test n) marks (Span q.body) [] all last)
    where
      last : IsStill test n []
      last h = nothing_at_end (suc n) (IsTrue (test n [])) h

      marks : (m : Mark) → IsStill test n (follow q m)
      marks m = holds_after (IsStill test n) q m all last

      one : (position : List Statement) → Leads q (IsStill test n) marks position → IsStill test (suc n) position
      one [] leads h = h
      one (s ∷ rest) leads h = read_more (test (suc n)) (test n) v (is_among v (read_in s.form)) (ways q s.form rest) leads h

  -- ---- what is found is a path, and a path is found

  path_of : (n : ℕ) (position : List Statement) → IsTrue (test n position) → IsReadFrom q v position
  path_of zero position h = absurd (cc)
  path_of (suc n) [] h = absurd (cc)
  path_of (suc n) (s ∷ rest) h = by (path_of n) (is_among v (read_in s.form)) refl h
    where
      by : ((position : List Statement) → IsTrue (test n position) → IsReadFrom q v position) →
          (read : Bool) → is_among v (read_in s.form) ≡ read →
          IsTrue (elim read [ true ↦ true | false ↦ along (test n) v (ways q s.form rest) ]) → IsReadFrom q v (s ∷ rest)
      by onward true e h = Here s rest e
      by onward false e h =
          let found = found_along (test n) v (ways q s.form rest) h in
          Onward s rest found.way found.is_one found.unwritten (onward found.way.to found.passes)

  found_of : (position : List Statement) → IsReadFrom q v position → (n : ℕ) × IsTrue (test n position)
  found_of position (Here s rest e) = (suc zero, read_now (is_among v (read_in s.form)) (along (test zero) v (ways q s.form rest)) e)
  found_of position (Onward s rest way c unwritten path) =
      let inner = found_of way.to path in
      let ws = ways q s.form rest in
      (suc inner.0, read_or (is_among v (read_in s.form)) (along (test inner.0) v ws) (along_one (test inner.0) v ws way c unwritten inner.1))

  -- ---- no path has to be longer than the tokens

  abbrev IsEnough : List Statement → Type 0
  IsEnough position = (n : ℕ) → IsTrue (test n position) → IsTrue (test q.tokens position)

  enough_after : (p : Program) → IsProcInRange p q → (m : Mark) → IsEnough (follow q m)
  enough_after p good m =
      holds_after IsEnough q m (settles test grows (positions q) lasts q.tokens few) (λ n h. nothing_at_end n (IsTrue (test q.tokens [])) h)
    where
      few : length (positions q) ≤ q.tokens
      few = omega (arith, positions-tokens p q good.body, good.counts)

pub liveness_is_by_paths : LivenessIsByPaths
liveness_is_by_paths p q site v good = (sound, complete)
  where
    sound : IsTrue (is_live_at q site v) → IsLiveAt q site v
    sound h =
        let found = found_along (is_read_from q v) v (exits_at q site (follow q (AtSite site))) h in
        record { exit = found.way; is_exit = found.is_one; unwritten = found.unwritten; is_read = path_of q v q.tokens found.way.to found.passes }

    complete : IsLiveAt q site v → IsTrue (is_live_at q site v)
    complete live =
        let found = found_of q v live.exit.to live.is_read in
        let rest = follow q (AtSite site) in
        let enough = enough_after q v p good in
        let all = exits_at_lead q (IsEnough q v) enough rest (enough (AtSite site)) site in
        let is_read = one_of (λ w. IsEnough q v w.to) (exits_at q site rest) live.exit all live.is_exit found.0 found.1 in
        along_one (is_read_from q v) v (exits_at q site rest) live.exit live.is_exit live.unwritten is_read
