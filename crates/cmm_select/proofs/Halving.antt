-- A value is looked for by halves: control goes to the upper half or on into the lower one, and from each to one place where no span has the value.
use Rattle.std.proofs.Common.{◌≡◌, ℕ, zero, suc, ◌+◌, ◌-◌, ◌*◌, ◌/◌, ◌≤◌, ◌^◌, refl, sym, ◌∙◌, ap, subst, arith, List, [], ◌∷◌, ◌++◌, length, length-append, map, get_or, replicate, set, append_assoc, take, drop, pow-suc, true, false, Some}
use Rattle.std.specs.Prelude.{Bool, IsTrue, nat_le, nat_lt, not, slice_get}
use Rattle.std.specs.List.{All}
use Rattle.std.proofs.lemmas.List.{length-map}
use Rattle.std.proofs.lemmas.Bool.Decides.{nat_tests}
use Rattle.cmm_words.specs.declared.operators.Cmp.TheVariants.{Geu}
use Rattle.rv_asm.proofs.Shared.{kept_more, reaches_then, reaches_weaker}
use Rattle.rv_asm.specs.Appending.{Then}
use Rattle.rv_asm.specs.Assembly.{IsInner}
use Rattle.rv_asm.specs.Parts.{Code, Does, way}
use Rattle.rv_asm.specs.Reaching.{Reaches}
use Rattle.rv_asm.specs.declared.part.Label.{Label}
use Rattle.rv_asm.specs.declared.part.Meaning.{Meaning}
use Rattle.rv_asm.specs.declared.part.Meaning.TheVariants.{Inner}
use Rattle.rv_asm.specs.declared.part.Part.TheVariants.{Branch, Jump, Place}
use Rattle.rv_table.specs.Bounds.{IsSound}
use Rattle.rv_table.specs.Machine.{State}
use Rattle.cmm_effects.proofs.Shared.{goes_choice, goes_weaker, leads_turns, reaches_more, reaches_sound, set_keeps, goes_keeps}
use Rattle.cmm_effects.specs.Changes.{Sets}
use Rattle.cmm_effects.specs.Pieces.{Always, Leads}
use Rattle.cmm_effects.specs.Ways.{Goes}
use Rattle.cmm_select.proofs.Ranging.{branched, keeps_first_then}
use Rattle.cmm_select.proofs.Spans.{any_span, halves, in_run_from_first, span_split}
use Rattle.cmm_select.specs.Switches.{KeepsFirst, MakesInner}
use Rattle.cmm_select.specs.inside.NumberRuns.{GoesInRun, run_address}
use Rattle.cmm_select.specs.inside.Searches.{GoesFrom, GoesInSpans, Searches, ascend, behind, first_of, span_address}
use Rattle.cmm_select.specs.declared.span.Span.{Span}

-- ---- control

-- a piece goes to one address where a test passes, and on otherwise; behind each of these another goes on
goes_either : {x : Code} {from a b : ℕ} {Q : State → State → Type 0} (there mid : ℕ) (p : State → Bool) (f g : State → ℕ) → ((s t u : State) → Q s t → Q t u → Q s u) →
    ((s t : State) → Q s t → f t ≡ f s) → ((s t : State) → Q s t → g t ≡ g s) → Goes 0 a Always (λ s. way (p s) there mid) Q x from → Goes 0 b Always f Q x there →
    Goes 0 b Always g Q x mid → Goes 0 (a + b) Always (λ s. way (p s) (f s) (g s)) Q x from
goes_either {x = x} {a = a} {b = b} {Q = Q} there mid p f g join same_f same_g first second third = record { go = λ s sound at always. by s sound (p s) refl (first.go s sound at always) }
  where
    by : (s : State) → IsSound s → (test : Bool) → p s ≡ test → Reaches x.map 0 a s (λ t. (t.pc ≡ way (p s) there mid) × Q s t) →
        Reaches x.map 0 (a + b) s (λ t. (t.pc ≡ way (p s) (f s) (g s)) × Q s t)
    by s sound true is reaches =
        reaches_weaker
        (reaches_then (reaches_sound reaches sound)
        (λ t arrived. reaches_more (second.go t arrived.1 (arrived.0.0 ∙ ap (λ (h : Bool). way h there mid) is) tt)
        (λ u last. (
          last.0 ∙ same_f s t arrived.0.1 ∙ sym (ap (λ (h : Bool). way h (f s) (g s)) is),
          join s t u arrived.0.1 last.1,
        ))))
        (omega arith) (omega arith) (λ u arrived. arrived)
    by s sound false is reaches =
        reaches_weaker
        (reaches_then (reaches_sound reaches sound)
        (λ t arrived. reaches_more (third.go t arrived.1 (arrived.0.0 ∙ ap (λ (h : Bool). way h there mid) is) tt)
        (λ u last. (
          last.0 ∙ same_g s t arrived.0.1 ∙ sym (ap (λ (h : Bool). way h (f s) (g s)) is),
          join s t u arrived.0.1 last.1,
        ))))
        (omega arith) (omega arith) (λ u arrived. arrived)

module _ (x : Code) where
  -- the value is compared with a number
  pub goes_from : (from on m n : ℕ) (l : Label) → m ≤ 8 → Then (Leads m Always (λ s t. Sets 7 n s t)) (λ x from on. Does x (Branch Geu 5 7 l) from on) x from on →
      GoesFrom n l x from on
  goes_from from on m n l few does =
      let span : Span = record { from = 0; to = 0; label = l } in
      let turns = leads_turns does.1 (branched x from on span Geu 5 7 does.0 does.2) (λ s t sound also p q. tt) (λ s. way (not (nat_lt (s.registers 5) n)) (x.at l.number) on)
      (λ s t p sets.
      ap (λ (a : ℕ). way (not (nat_lt a (t.registers 7))) (x.at l.number) on) (sets.others 5 refl)
      ∙ ap (λ (b : ℕ). way (not (nat_lt (s.registers 5) b)) (x.at l.number) on) sets.given)
      in
      goes_weaker turns.goes (omega arith) (omega (arith, few))
      (λ s. way (nat_le n (s.registers 5)) (x.at l.number) on)
      (λ s sound. ap (λ (b : Bool). way b (x.at l.number) on) (not_less (s.registers 5) n))
      (λ s u both. keeps_first_then s both.0 u (record { first = both.1.others 5 refl; keeps = set_keeps 7 n s both.0 refl both.1 }) both.2)
    where
      not_less : (v n : ℕ) → not (nat_lt v n) ≡ nat_le n v
      not_less v n = grind (arith, nat_tests)

  module _ (spans : List Span) (end : Label) (most : ℕ) where
    -- where none has the value, a jump leads to the end
    pub then_end : (from on : ℕ) → Then (GoesInSpans most spans) (λ x from on. Does x (Jump end) from on) x from on → Searches (most + 2) spans end x from on
    then_end from on does = λ low.
        goes_weaker
        (goes_choice does.0 (λ s. any_span spans (s.registers 5)) (λ s. span_address x.at spans (s.registers 5) 0) (λ s. x.at end.number) keeps_first_then
        (λ s t keeps. refl)
        (goes_weaker {k = 0} {b = most} (does.1 low) (omega arith) (omega arith) (λ s. way (any_span spans (s.registers 5)) (span_address x.at spans (s.registers 5) 0) does.0)
        (λ s sound. span_split x.at spans (s.registers 5) does.0) (λ s t keeps. keeps))
        (jumped does.0 does.2))
        (omega arith) (omega arith)
        (λ s. span_address x.at spans (s.registers 5) (x.at end.number))
        (λ s sound. sym (span_split x.at spans (s.registers 5) (x.at end.number)))
        (λ s t keeps. keeps)
      where
        jumped : (mid : ℕ) → Does x (Jump end) mid on → Goes 0 2 Always (λ s. x.at end.number) KeepsFirst x mid
        jumped mid jumps = record {
          go = λ s sound at p.
              reaches_weaker (jumps s at) (omega arith) (omega arith)
              (λ t goes. (
                goes.pc,
                record { first = goes.registers 5 (omega arith); keeps = goes_keeps (x.at end.number) s t goes },
              ));
        }

    -- and that is on where its place is there
    pub end_placed : (from on : ℕ) → Then (Searches most spans end) (λ x from on. Does x (Place end) from on) x from on → GoesInSpans most spans x from on
    end_placed from on does = λ low.
        goes_weaker (does.1 low) (omega arith) (omega arith)
        (λ s. span_address x.at spans (s.registers 5) on)
        (λ s sound. ap (span_address x.at spans (s.registers 5)) (does.2.1 ∙ sym does.2.0))
        (λ s t keeps. keeps)

  module _ (lower upper : List Span) (end above : Label) (most : ℕ) (some : 1 ≤ length upper) (up : ascend 0 (lower ++ upper) ≡ true) where
    pub by_halves : (from on : ℕ) →
        Then (GoesFrom (first_of upper) above) (Then (Searches most lower end) (Then (λ x from on. Does x (Place above) from on) (Searches most upper end))) x from on →
        Searches (11 + most) (lower ++ upper) end x from on
    by_halves from on does = λ low.
        let mid = does.0 in
        let there = does.2.0 in
        let placed = does.2.2.1 in
        let second : Goes 0 most Always (λ s. span_address x.at upper (s.registers 5) (x.at end.number)) KeepsFirst x (x.at above.number) =
        subst (λ (n : ℕ). Goes 0 most Always (λ s. span_address x.at upper (s.registers 5) (x.at end.number)) KeepsFirst x n) (placed.0 ∙ sym placed.1) (does.2.2.2 low) in
        goes_weaker
        (goes_either {a = 11} {b = most} (x.at above.number) mid (λ s. nat_le (first_of upper) (s.registers 5)) (λ s. span_address x.at upper (s.registers 5) (x.at end.number))
        (λ s. span_address x.at lower (s.registers 5) (x.at end.number)) keeps_first_then
        (λ s t keeps. ap (λ (v : ℕ). span_address x.at upper v (x.at end.number)) keeps.first)
        (λ s t keeps. ap (λ (v : ℕ). span_address x.at lower v (x.at end.number)) keeps.first)
        does.1 second (does.2.1 low))
        (omega arith) (omega arith)
        (λ s. span_address x.at (lower ++ upper) (s.registers 5) (x.at end.number))
        (λ s sound. halves x.at 0 (s.registers 5) (x.at end.number) lower upper some up)
        (λ s t keeps. keeps)

-- ---- labels

pub inner_more : (labels more : List Meaning) (l : Label) → IsInner labels l → IsInner (labels ++ more) l
inner_more labels more l inner =
    let kept = kept_more labels more in
    (omega (arith, kept.count, inner.0), subst IsTrue (sym (kept.inner l inner.0)) inner.1)

pub all_inner_more : (labels more : List Meaning) (ss : List Span) → All (λ s. IsInner labels s.label) ss → All (λ s. IsInner (labels ++ more) s.label) ss
all_inner_more labels more ss all = λ k d h. inner_more labels more (get_or ss k d).label (all k d h)

pub last_is_inner : (xs : List Meaning) (l : Label) → l.number ≡ length xs → IsInner (xs ++ Inner false ∷ []) l
last_is_inner xs l is = (rw is (simp length-append (omega arith)), rw (is, meaning_of xs) refl)
  where
    meaning_of : (xs : List Meaning) → get_or (xs ++ Inner false ∷ []) (length xs) (Inner false) ≡ Inner false
    meaning_of [] = refl
    meaning_of (x ∷ xs) = meaning_of xs

pub fresh_there : (xs more : List Meaning) (n : ℕ) → n ≡ length xs → slice_get ((xs ++ Inner false ∷ []) ++ more) n ≡ Some (Inner false)
fresh_there [] more n is = rw is refl
fresh_there (x ∷ xs) more n is = rw is (fresh_there xs more (length xs) refl)

pub placed_there : (xs more : List Meaning) (n : ℕ) → n ≡ length xs → set ((xs ++ Inner false ∷ []) ++ more) n (Inner true) ≡ (xs ++ Inner true ∷ []) ++ more
placed_there [] more n is = rw is refl
placed_there (x ∷ xs) more n is = rw is (ap (λ (rest : List Meaning). x ∷ rest) (placed_there xs more (length xs) refl))

replicate_then : (a b : ℕ) → replicate a (Inner true) ++ replicate b (Inner true) ≡ replicate (a + b) (Inner true)
replicate_then zero b = let e : 0 + b ≡ b = omega arith in rw e refl
replicate_then (suc a) b =
    let e : suc a + b ≡ suc (a + b) = omega arith in
    rw e (ap (λ (rest : List Meaning). Inner true ∷ rest) (replicate_then a b))

-- one label is made, others behind it, and then the one has its place
pub makes_one : (most : ℕ) (old made behind new : List Meaning) (n : ℕ) → n ≡ length old → made ≡ old ++ Inner false ∷ [] → MakesInner most made behind →
    new ≡ set behind n (Inner true) → MakesInner (most + 1) old new
makes_one most old made behind new n at is makes placed = record {
  count = suc makes.count;
  few = omega (arith, makes.few);
  is =
      placed ∙ ap (λ (xs : List Meaning). set xs n (Inner true)) (makes.is ∙ ap (λ (xs : List Meaning). xs ++ replicate makes.count (Inner true)) is)
      ∙ placed_there old (replicate makes.count (Inner true)) n at
      ∙ append_assoc old (Inner true ∷ []) (replicate makes.count (Inner true));
}

pub makes_then : (a b : ℕ) (old mid new : List Meaning) → MakesInner a old mid → MakesInner b mid new → MakesInner (a + b) old new
makes_then a b old mid new first second = record {
  count = first.count + second.count;
  few = omega (arith, first.few, second.few);
  is =
      second.is ∙ ap (λ (xs : List Meaning). xs ++ replicate second.count (Inner true)) first.is
      ∙ append_assoc old (replicate first.count (Inner true)) (replicate second.count (Inner true))
      ∙ ap (λ (xs : List Meaning). old ++ xs) (replicate_then first.count second.count);
}

pub makes_weaker : (a b : ℕ) (old new : List Meaning) → a ≤ b → MakesInner a old new → MakesInner b old new
makes_weaker a b old new less makes = record { count = makes.count; few = omega (arith, makes.few, less); is = makes.is }

nothing_behind : (xs : List Meaning) → xs ++ [] ≡ xs
nothing_behind [] = refl
nothing_behind (x ∷ xs) = ap (λ (rest : List Meaning). x ∷ rest) (nothing_behind xs)

pub makes_none : (most : ℕ) (old new : List Meaning) → new ≡ old → MakesInner most old new
makes_none most old new is = record { count = 0; few = omega arith; is = is ∙ sym (nothing_behind old) }

-- ---- how often halves are taken

pub half_few : (k n : ℕ) → n ≤ 4 * 2 ^ suc k → (n / 2 ≤ 4 * 2 ^ k) × (n - n / 2 ≤ 4 * 2 ^ k)
half_few k n few = let e = pow-suc 2 k in (omega (arith, few, e), omega (arith, few, e))

-- as many times as there are ranges beyond four is often enough
pub enough : (n : ℕ) → n + 4 ≤ 4 * 2 ^ n
enough zero = omega arith
enough (suc n) = let e = pow-suc 2 n in let more = enough n in omega (arith, e, more)

pub take_then_drop : (m : ℕ) (xs : List Span) → take m xs ++ drop m xs ≡ xs
take_then_drop zero xs = refl
take_then_drop (suc m) [] = refl
take_then_drop (suc m) (x ∷ xs) = ap (λ (rest : List Span). x ∷ rest) (take_then_drop m xs)

pub made_inner : (most : ℕ) (old new : List Meaning) (ss : List Span) → MakesInner most old new → All (λ s. IsInner old s.label) ss → All (λ s. IsInner new s.label) ss
made_inner most old new ss makes all =
    subst (λ (labels : List Meaning). All (λ s. IsInner labels s.label) ss) (sym makes.is) (all_inner_more old (replicate makes.count (Inner true)) ss all)

pub made_one : (most : ℕ) (old new : List Meaning) (l : Label) → MakesInner most old new → IsInner old l → IsInner new l
made_one most old new l makes inner = subst (λ (labels : List Meaning). IsInner labels l) (sym makes.is) (inner_more old (replicate makes.count (Inner true)) l inner)

pub made_count : (most : ℕ) (old new : List Meaning) → MakesInner most old new → length new ≤ length old + most
made_count most old new makes =
    let e : length new ≡ length old + length (replicate makes.count (Inner true)) = ap length makes.is ∙ length-append old (replicate makes.count (Inner true)) in
    let n = count_of makes.count in
    omega (arith, e, n, makes.few)
  where
    count_of : (n : ℕ) → length (replicate n (Inner true)) ≡ n
    count_of zero = refl
    count_of (suc n) = let e = count_of n in omega (arith, e)

pub searches_weaker : (x : Code) (a b : ℕ) (ss : List Span) (end : Label) (from on : ℕ) → a ≤ b → Searches a ss end x from on → Searches b ss end x from on
searches_weaker x a b ss end from on less does = λ low.
    goes_weaker (does low) (omega arith) less (λ s. span_address x.at ss (s.registers 5) (x.at end.number)) (λ s sound. refl) (λ s t keeps. keeps)

pub goes_in_weaker : (x : Code) (a b : ℕ) (ss : List Span) (from on : ℕ) → a ≤ b → GoesInSpans a ss x from on → GoesInSpans b ss x from on
goes_in_weaker x a b ss from on less does = λ low.
    goes_weaker (does low) (omega arith) less (λ s. span_address x.at ss (s.registers 5) on) (λ s sound. refl) (λ s t keeps. keeps)

-- numbers that follow one another lead where the labels of their run do
pub goes_by_run : (x : Code) (most end : ℕ) (ss : List Span) (from on : ℕ) → ascend 0 ss ≡ true → 1 ≤ length ss → end ≡ behind 0 ss → end ≡ first_of ss + length ss →
    GoesInRun most (map (λ s. s.label) ss) (end - length (map (λ (s : Span). s.label) ss)) x from on → GoesInSpans most ss x from on
goes_by_run x most end ss from on up some is run does = λ low.
    let count : length (map (λ (s : Span). s.label) ss) ≡ length ss = length-map ss (λ s. s.label) in
    let first : end - length (map (λ (s : Span). s.label) ss) ≡ first_of ss = omega (arith, count, run) in
    goes_weaker (does low) (omega arith) (omega arith)
    (λ s. span_address x.at ss (s.registers 5) on)
    (λ s sound.
    ap (λ (n : ℕ). run_address x.at (map (λ s. s.label) ss) n (s.registers 5) on) first
    ∙ sym (in_run_from_first x.at (s.registers 5) on ss up some (sym is ∙ run)))
    (λ s t keeps. keeps)
