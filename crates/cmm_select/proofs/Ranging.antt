-- Control goes by the span that has a value.
use Rattle.std.proofs.Common.{◌≡◌, ℕ, ◌+◌, ◌-◌, ◌*◌, ◌<◌, ◌≤◌, ◌^◌, ◌⊎◌, inl, inr, suc, refl, sym, ◌∙◌, ap, subst, arith, List, [], ◌∷◌, ◌++◌, length, take, get_or, false, pos, ◌-ℤ◌}
use Rattle.std.specs.Prelude.{◌&&◌, ◌==◌, Bool, not, nat_le, nat_lt}
use Rattle.std.proofs.Math.Seq.{take-suc}
use Rattle.std.proofs.lemmas.Bool.Decides.{nat_tests}
use Rattle.cmm_graph.specs.declared.node.Arm.{Arm}
use Rattle.cmm_words.specs.declared.operators.Cmp.{Cmp}
use Rattle.cmm_words.specs.declared.operators.Cmp.TheVariants.{Eq, Geu}
use Rattle.rv_asm.specs.Appending.{Then}
use Rattle.rv_asm.specs.Parts.{Code, Does, taken, way}
use Rattle.rv_asm.specs.declared.part.Label.{Label}
use Rattle.rv_asm.specs.declared.part.Part.TheVariants.{Branch}
use Rattle.rv_table.specs.Machine.{State}
use Rattle.rv_table.specs.Words.{difference, modulo, sum}
use Rattle.rv_table.specs.declared.instruction.Instr.TheVariants.{Addi, Sub}
use Rattle.cmm_effects.proofs.Shared.{goes_choice, goes_keeps, goes_none, goes_weaker, keeps_same, keeps_then, leads_set, leads_then, leads_turns, leads_weaker, reaches_more, runs_of, set_keeps, turns_weaker}
use Rattle.cmm_effects.specs.Changes.{Sets}
use Rattle.cmm_effects.specs.Pieces.{Always, Leads}
use Rattle.cmm_effects.specs.Ways.{Goes}
use Rattle.cmm_select.proofs.Keeping.{brings_keeps}
use Rattle.cmm_select.proofs.Places.{One, same_set, set_as}
use Rattle.cmm_select.proofs.SmallNumbers.{negative_small}
use Rattle.cmm_select.specs.Operands.{Brings, BringsOperand, most_for, operand_at}
use Rattle.cmm_select.proofs.Spans.{any_span, span_append, span_split}
use Rattle.cmm_select.specs.Switches.{KeepsFirst, Switches, arm_address}
use Rattle.cmm_select.specs.inside.Searches.{GoesInSpan, GoesInSpans, is_in, span_address}
use Rattle.cmm_select.specs.declared.span.Span.{Span}
use Rattle.cmm_select.specs.declared.operand.Operand.{Operand}

pub keeps_first_then : (s t u : State) → KeepsFirst s t → KeepsFirst t u → KeepsFirst s u
keeps_first_then s t u one two = record { first = two.first ∙ one.first; keeps = keeps_then s t u one.keeps two.keeps }

-- ---- one range

-- a value is as far above the first number as the last one is, or less
inside : (f t v : ℕ) → f ≤ v → f ≤ t → v < 2 ^ 64 → not (nat_lt (t - f) (difference v f)) ≡ (nat_le f v && nat_le v t)
inside f t v h order fits =
    let e : difference v f ≡ v - f = omega arith in
    ap (λ (d : ℕ). not (nat_lt (t - f) d)) e ∙ grind (arith, nat_tests)

outside : (f t v : ℕ) → v < f → f ≤ t → t < 2 ^ 64 → not (nat_lt (t - f) (difference v f)) ≡ (nat_le f v && nat_le v t)
outside f t v h order fits =
    let e : difference v f ≡ v + 2 ^ 64 - f = omega arith in
    ap (λ (d : ℕ). not (nat_lt (t - f) d)) e ∙ grind (arith, nat_tests)

in_range : (f t v : ℕ) → f ≤ t → t < 2 ^ 64 → v < 2 ^ 64 → not (nat_lt (t - f) (difference v f)) ≡ (nat_le f v && nat_le v t)
in_range f t v order fits small =
    elim (either f v) [ inl low ↦ inside f t v low order small | inr high ↦ outside f t v high order fits ]
  where
    either : (f v : ℕ) → (f ≤ v) ⊎ (v < f)
    either f v = grind arith

-- one number
pub alone : (f t v : ℕ) → f ≡ t → (v == f) ≡ (nat_le f v && nat_le v t)
alone f t v same = grind (arith, nat_tests, same)

-- a range that falls has no value
falls : (f t v : ℕ) → t < f → (nat_le f v && nat_le v t) ≡ false
falls f t v h = grind (arith, nat_tests, h)

module _ (x : Code) (from on : ℕ) (r : Span) where
  abbrev l : Label
  l = r.label

  pub goes_past : r.to < r.from → from ≡ on → GoesInSpan 20 r x from on
  goes_past h is =
      goes_weaker (goes_none {most = 20} {Q = KeepsFirst} is (λ s. record { first = refl; keeps = keeps_same s })) (omega arith) (omega arith)
      (λ s. way (is_in (s.registers 5) r) (x.at l.number) on)
      (λ s sound. sym (ap (λ (b : Bool). way b (x.at l.number) on) (falls r.from r.to (s.registers 5) h)))
      (λ s t keeps. keeps)

  pub branched : (c : Cmp) (a b mid : ℕ) → Does x (Branch c a b l) mid on →
      Goes 1 3 Always (λ s. way (taken c (s.registers a) (s.registers b)) (x.at l.number) on) KeepsFirst x mid
  branched c a b mid does = record {
    go = λ s sound at p.
        reaches_more (does s at)
        (λ t goes. (
          goes.pc,
          record {
            first = goes.registers 5 (omega arith);
            keeps = goes_keeps (way (taken c (s.registers a) (s.registers b)) (x.at l.number) on) s t goes;
          },
        ));
  }

  -- the value is the one number
  pub goes_at : (m : ℕ) → m ≤ 8 → r.from ≡ r.to → Then (Leads m Always (λ s t. Sets 7 r.from s t)) (λ x from on. Does x (Branch Eq 5 7 l) from on) x from on →
      GoesInSpan 20 r x from on
  goes_at m few same does =
      let turns = leads_turns does.1 (branched Eq 5 7 does.0 does.2) (λ s t sound also p q. tt) (λ s. way (s.registers 5 == r.from) (x.at l.number) on)
      (λ s t p sets.
      ap (λ (a : ℕ). way (a == t.registers 7) (x.at l.number) on) (sets.others 5 refl)
      ∙ ap (λ (b : ℕ). way (s.registers 5 == b) (x.at l.number) on) sets.given)
      in
      goes_weaker turns.goes (omega arith) (omega (arith, few))
      (λ s. way (is_in (s.registers 5) r) (x.at l.number) on)
      (λ s sound. ap (λ (b : Bool). way b (x.at l.number) on) (alone r.from r.to (s.registers 5) same))
      (λ s u both. keeps_first_then s both.0 u (record { first = both.1.others 5 refl; keeps = set_keeps 7 r.from s both.0 refl both.1 }) both.2)

  module _ (n : ℕ) where
    -- how far the value is above the first number, and how far the last one is
    abbrev Measures : State → State → Type 0
    Measures s w = (u : State) × Sets 7 (difference (s.registers 5) r.from) s u × Sets 6 (r.to - r.from) u w

    keeps_measures : (s w : State) → Measures s w → KeepsFirst s w
    keeps_measures s w ms = record {
      first = ms.2.others 5 refl ∙ ms.1.others 5 refl;
      keeps = keeps_then s ms.0 w (set_keeps 7 (difference (s.registers 5) r.from) s ms.0 refl ms.1) (set_keeps 6 (r.to - r.from) ms.0 w refl ms.2);
    }

    measure : (s w : State) → Measures s w → w.registers 7 ≡ difference (s.registers 5) r.from
    measure s w ms = ms.2.others 7 refl ∙ ms.1.given

    pub goes_in_range : r.from ≤ r.to → r.to < 2 ^ 64 → n ≤ 8 →
        Then (Leads 9 Always (λ s t. Sets 7 (difference (s.registers 5) r.from) s t))
        (Then (Leads n Always (λ s t. Sets 6 (r.to - r.from) s t)) (λ x from on. Does x (Branch Geu 6 7 l) from on)) x from on →
        GoesInSpan 20 r x from on
    goes_in_range order fits less does =
        let turns = leads_turns (leads_then does.1 (runs_of does.2.1) (λ s t sound also p q. tt)) (branched Geu 6 7 does.2.0 does.2.2) (λ s t sound also p q. tt)
        (λ s. way (not (nat_lt (r.to - r.from) (difference (s.registers 5) r.from))) (x.at l.number) on)
        (λ s w p ms.
        ap (λ (a : ℕ). way (not (nat_lt a (w.registers 7))) (x.at l.number) on) ms.2.given
        ∙ ap (λ (b : ℕ). way (not (nat_lt (r.to - r.from) b)) (x.at l.number) on) (measure s w ms))
        in
        goes_weaker turns.goes (omega arith) (omega (arith, less))
        (λ s. way (is_in (s.registers 5) r) (x.at l.number) on)
        (λ s sound. ap (λ (b : Bool). way b (x.at l.number) on) (in_range r.from r.to (s.registers 5) order fits (sound.registers 5)))
        (λ s u both. keeps_first_then s both.0 u (keeps_measures s both.0 both.1) both.2)

-- ---- a difference with a number

module _ (x : Code) (from to f : ℕ) where
  pub measures_small : f < 2048 → One (Addi 7 5 (pos 0 -ℤ pos f)) x from to → Leads 9 Always (λ s t. Sets 7 (difference (s.registers 5) f) s t) x from to
  measures_small small does =
      leads_weaker (leads_set x (Addi 7 5 (pos 0 -ℤ pos f)) from to 7 (λ g. sum (g 5) (modulo 64 (pos 0 -ℤ pos f))) (omega arith) (λ g pc. refl) does) (omega arith)
      (λ s sound p. tt)
      (λ s t sound p sets. set_as 7 (sum (s.registers 5) (modulo 64 (pos 0 -ℤ pos f))) (difference (s.registers 5) f) s t
      (negative_small (s.registers 5) f (sound.registers 5) small) sets)

  pub measures_loaded : (m : ℕ) → m ≤ 8 → Then (Leads m Always (λ s t. Sets 7 f s t)) (One (Sub 7 5 7)) x from to →
      Leads 9 Always (λ s t. Sets 7 (difference (s.registers 5) f) s t) x from to
  measures_loaded m few does =
      leads_weaker
      (leads_then does.1 (runs_of (leads_set x (Sub 7 5 7) does.0 to 7 (λ g. difference (g 5) (g 7)) (omega arith) (λ g pc. refl) does.2)) (λ s t sound also p q. tt))
      (omega (arith, few)) (λ s sound p. tt)
      (λ s u sound p both. same_set 7 f (difference (s.registers 5) f) s both.0 u both.1
      (set_as 7 (difference (both.0.registers 5) (both.0.registers 7)) (difference (s.registers 5) f) both.0 u
      (ap (λ (a : ℕ). difference a (both.0.registers 7)) (both.1.others 5 refl) ∙ ap (difference (s.registers 5)) both.1.given) both.2))

-- ---- one after another

-- the elements up to one, and that
pub up_to : {A : Type 0} (xs : List A) (i : ℕ) (d : A) → i < length xs → take (i + 1) xs ≡ take i xs ++ get_or xs i d ∷ []
up_to xs i d within = let e : i + 1 ≡ suc i = omega arith in rw (e, take-suc xs i d within) refl

module _ (x : Code) where
  pub no_spans : (from on : ℕ) → from ≡ on → GoesInSpans 0 [] x from on
  no_spans from on is = λ low. goes_none is (λ s. record { first = refl; keeps = keeps_same s })

  pub more_spans : (from on most : ℕ) (ss : List Span) (r : Span) → Then (GoesInSpans most ss) (GoesInSpan 20 r) x from on → GoesInSpans (most + 20) (ss ++ r ∷ []) x from on
  more_spans from on most ss r does = λ low.
      goes_weaker
      (goes_choice does.0 (λ s. any_span ss (s.registers 5)) (λ s. span_address x.at ss (s.registers 5) 0) (λ s. way (is_in (s.registers 5) r) (x.at r.label.number) on) keeps_first_then
      (λ s t keeps. ap (λ (v : ℕ). way (is_in v r) (x.at r.label.number) on) keeps.first)
      (goes_weaker {k = 0} {b = most} (does.1 low) (omega arith) (omega arith) (λ s. way (any_span ss (s.registers 5)) (span_address x.at ss (s.registers 5) 0) does.0)
      (λ s sound. span_split x.at ss (s.registers 5) does.0) (λ s t keeps. keeps))
      does.2)
      (omega arith) (omega arith)
      (λ s. span_address x.at (ss ++ r ∷ []) (s.registers 5) on)
      (λ s sound.
      sym (span_split x.at ss (s.registers 5) (way (is_in (s.registers 5) r) (x.at r.label.number) on))
      ∙ sym (span_append x.at ss (r ∷ []) (s.registers 5) on))
      (λ s t keeps. keeps)

  pub next_span : (from on i : ℕ) (ss : List Span) (d : Span) → i < length ss →
      Then (GoesInSpans (20 * i) (take i ss)) (GoesInSpan 20 (get_or ss i d)) x from on → GoesInSpans (20 * (i + 1)) (take (i + 1) ss) x from on
  next_span from on i ss d within does =
      let e : 20 * (i + 1) ≡ 20 * i + 20 = omega arith in
      subst (λ (qs : List Span). GoesInSpans (20 * (i + 1)) qs x from on) (sym (up_to ss i d within))
      (subst (λ (n : ℕ). GoesInSpans n (take i ss ++ get_or ss i d ∷ []) x from on) (sym e) (more_spans from on (20 * i) (take i ss) (get_or ss i d) does))

  -- the value is brought, and then looked for
  pub switches : (labels : List Label) (arms : List Arm) (spans : List Span) (a : Operand) (from on most : ℕ) →
      ((v : ℕ) → span_address x.at spans v on ≡ arm_address x.at labels arms v on) →
      Then (BringsOperand a 5) (GoesInSpans most spans) x from on → Switches (most_for a + most) a labels arms x from on
  switches labels arms spans a from on most same does = record {
    quiet = does.1.quiet;
    goes = λ low.
        (turns_weaker
        (leads_turns {Q = λ s t. Brings 5 (operand_at x.at a s) s t} does.1 (does.2 low) (λ s t sound also can brings. tt)
        (λ s. arm_address x.at labels arms (operand_at x.at a s) on)
        (λ s t can brings. same (t.registers 5) ∙ ap (λ (v : ℕ). arm_address x.at labels arms v on) brings.given))
        (omega arith) (λ s sound can. can)
        (λ s u can both. keeps_then s both.0 u (brings_keeps 5 (operand_at x.at a s) s both.0 refl both.1) both.2.keeps)).goes;
  }
