-- Comparisons of a word and a small number.
use Rattle.std.proofs.Common.{◌≡◌, ◌≢◌, ℕ, ◌+◌, ◌<◌, ◌≤◌, ◌^◌, refl, sym, ◌∙◌, ap, subst, arith, pos, ◌-ℤ◌, ℤ, Option, Some, None}
use Rattle.std.specs.Prelude.{Bool, true, false, not, ◌==◌, nat_lt, nat_le, int_lt, int_le, bit_xor}
use Rattle.std.proofs.lemmas.Bool.Decides.{nat_tests}
use Rattle.std.proofs.lemmas.Int.{ints}
use Rattle.std.proofs.lemmas.Option.{same_Some}
use Rattle.cmm_words.specs.Integers.{signed as word_signed}
use Rattle.cmm_words.specs.Laws.{IsWideOfExtended}
use Rattle.cmm_words.specs.Widths.{IsWord}
use Rattle.cmm_words.specs.Words.{holds, sign_extended}
use Rattle.cmm_words.specs.declared.operators.Cmp.{Cmp}
use Rattle.cmm_words.specs.declared.operators.Cmp.TheVariants.{Eq, Ne, Lt, Le, Gt, Ge, Ltu, Leu, Gtu, Geu}
use Rattle.cmm_words.specs.declared.width.Width.{Width}
use Rattle.cmm_words.specs.declared.width.Width.TheVariants.{W8, W16, W32, W64}
use Rattle.rv_asm.specs.Appending.{Then}
use Rattle.rv_asm.specs.Parts.{Code}
use Rattle.rv_table.specs.Row.{row}
use Rattle.rv_table.specs.Words.{difference, flag, is_less, modulo, sum}
use Rattle.rv_table.specs.declared.effects.Effect.TheVariants.{Set}
use Rattle.rv_table.specs.declared.instruction.Instr.{Instr}
use Rattle.rv_table.specs.declared.instruction.Instr.TheVariants.{Sltiu, Sltu, Xori}
use Rattle.cmm_effects.proofs.Shared.{leads_set, leads_then, leads_weaker, runs_of}
use Rattle.cmm_effects.specs.Changes.{Sets}
use Rattle.cmm_effects.specs.Pieces.{Leads}
use Rattle.cmm_select.proofs.Deciding.{less_same, not_below, not_less}
use Rattle.cmm_select.proofs.InPlace.{beside_then, set_beside}
use Rattle.cmm_select.proofs.Places.{One, other_kept}
use Rattle.cmm_select.proofs.SmallNumbers.{negative_small, plain_small}
use Rattle.cmm_select.proofs.Telling.{flag_turned, same_by_difference}
use Rattle.cmm_select.specs.Operands.{most_for}
use Rattle.cmm_select.specs.Operators.{HasWord}
use Rattle.cmm_select.specs.declared.operand.Operand.{Operand}
use Rattle.cmm_select.specs.declared.operand.Operand.TheVariants.{Held, Symbol}
use Rattle.cmm_select.specs.declared.source.Source.TheVariants.{Place, Number, Address}
use Rattle.cmm_select.specs.inside.Comparing.{TellsIn, TellsNumber, is_positive}
use Rattle.cmm_select.specs.inside.Immediates.{compared_below, compared_of, first_comparing, second_comparing}
use Rattle.cmm_select.specs.inside.InPlace.{Makes, Tells01}

-- ---- which numbers are held

pub compared_small : (w : Width) (n : ℕ) → n < compared_below w → n < 2047
compared_small W8 n h = omega (arith, h)
compared_small W16 n h = h
compared_small W32 n h = h
compared_small W64 n h = h

pub compared_is : (w : Width) (right : Operand) (n : ℕ) → compared_of w right ≡ Some n → (right ≡ Held (Number n)) × (n < compared_below w)
compared_is w (Held (Place p)) n is = absurd (cc (is))
compared_is w (Held (Address k)) n is = absurd (cc (is))
compared_is w (Symbol l plus) n is = absurd (cc (is))
compared_is w (Held (Number k)) n is = by (nat_lt k (compared_below w)) refl is
  where
    below : (a b : ℕ) → nat_lt a b ≡ true → a < b
    below a b h = grind (arith, nat_tests, h)

    by : (b : Bool) → nat_lt k (compared_below w) ≡ b → elim b as (λ _. Option ℕ) [ true ↦ Some k | false ↦ None ] ≡ Some n → (Held (Number k) ≡ Held (Number n)) × (n < compared_below w)
    by true test e =
        let same : k ≡ n = same_Some k n e in
        (ap (λ (m : ℕ). Held (Number m)) same, subst (λ (m : ℕ). m < compared_below w) same (below k (compared_below w) test))
    by false test e = absurd (cc (e))

-- elsewhere it takes four instructions at least
pub brought_by_four : (n : ℕ) → 4 ≤ most_for (Held (Number n))
brought_by_four n = by (nat_le n (2 ^ 40))
  where
    by : (b : Bool) → 4 ≤ elim b as (λ _. ℕ) [ true ↦ 4 | false ↦ 8 ]
    by true = omega arith
    by false = omega arith

-- with its sign it is the same number
pub compared_unsigned : (w : Width) (n : ℕ) → n < compared_below w → sign_extended w W64 n ≡ n
compared_unsigned W8 n h = grind (arith, ints, nat_tests, h)
compared_unsigned W16 n h = grind (arith, ints, nat_tests, h)
compared_unsigned W32 n h = grind (arith, ints, nat_tests, h)
compared_unsigned W64 n h = grind (arith, ints, nat_tests, h)

pub compared_word : (w : Width) (n : ℕ) → n < compared_below w → IsWord w n
compared_word W8 n h = omega (arith, h)
compared_word W16 n h = omega (arith, h)
compared_word W32 n h = omega (arith, h)
compared_word W64 n h = omega (arith, h)

-- ---- what the instructions tell

below_next : (m n : ℕ) → nat_lt m (n + 1) ≡ nat_le m n
below_next m n = grind (arith, nat_tests)

unsigned : (n : ℕ) → n < 2048 → word_signed 64 n ≡ pos n
unsigned n h = grind (arith, ints, nat_tests)

less_next : (x : ℤ) (n : ℕ) → int_lt x (pos (n + 1)) ≡ int_le x (pos n)
less_next x n = grind (arith, ints, nat_tests)

less_than : (m n : ℕ) → m < 2 ^ 64 → n < 2048 → is_less m (modulo 64 (pos n)) ≡ int_lt (word_signed 64 m) (word_signed 64 n)
less_than m n g h = ap (is_less m) (plain_small n h) ∙ less_same m n g (omega (arith, h))

at_most : (m n : ℕ) → m < 2 ^ 64 → n < 2047 → is_less m (modulo 64 (pos (n + 1))) ≡ int_le (word_signed 64 m) (word_signed 64 n)
at_most m n g h =
    less_than m (n + 1) g (omega (arith, h)) ∙ ap (int_lt (word_signed 64 m)) (unsigned (n + 1) (omega (arith, h))) ∙ less_next (word_signed 64 m) n
    ∙ ap (int_le (word_signed 64 m)) (sym (unsigned n (omega (arith, h))))

below_than : (m n : ℕ) → n < 2048 → nat_lt m (modulo 64 (pos n)) ≡ nat_lt m n
below_than m n h = ap (nat_lt m) (plain_small n h)

next_than : (m n : ℕ) → n < 2047 → nat_lt m (modulo 64 (pos (n + 1))) ≡ nat_le m n
next_than m n h = below_than m (n + 1) (omega (arith, h)) ∙ below_next m n

not_most : (x y : ℤ) → not (int_le x y) ≡ int_lt y x
not_most x y = grind (arith, ints, nat_tests)

not_within : (m n : ℕ) → not (nat_le m n) ≡ nat_lt n m
not_within m n = grind (arith, nat_tests)

differs : (m n : ℕ) → m < 2 ^ 64 → n < 2 ^ 64 → nat_lt 0 (difference m n) ≡ not (m == n)
differs m n h g = grind (arith, nat_tests)

module _ (x : Code) (from to rd a n : ℕ) (written : rd ≢ 0) where
  once : (c : Cmp) (i : Instr) (f : ℕ → ℕ) → ((m : ℕ) → m < 2 ^ 64 → f m ≡ flag (holds c W64 m n)) → ((r : ℕ → ℕ) (pc : ℕ) → row r pc i ≡ Set rd (f (r a))) →
      One i x from to → TellsNumber c rd a n x from to
  once c i f tells is does =
      leads_weaker (leads_set x i from to rd (λ r. f (r a)) written is does) (omega arith) (λ s sound p. tt)
      (λ s t sound p sets. record { given = sets.given ∙ tells (s.registers a) (sound.registers a); keeps = set_beside rd (f (s.registers a)) s t sets })

  twice : (c : Cmp) (i j : Instr) (f : ℕ → ℕ) (g : ℕ → ℕ → ℕ) → ((m : ℕ) → m < 2 ^ 64 → g 0 (f m) ≡ flag (holds c W64 m n)) →
      ((r : ℕ → ℕ) (pc : ℕ) → row r pc i ≡ Set rd (f (r a))) → ((r : ℕ → ℕ) (pc : ℕ) → row r pc j ≡ Set rd (g (r 0) (r rd))) →
      Then (One i) (One j) x from to → TellsNumber c rd a n x from to
  twice c i j f g tells is also does =
      leads_weaker
      (leads_then (leads_set x i from does.0 rd (λ r. f (r a)) written is does.1) (runs_of (leads_set x j does.0 to rd (λ r. g (r 0) (r rd)) written also does.2))
      (λ s t sound both p q. tt))
      (omega arith) (λ s sound p. tt)
      (λ s u sound p both. record {
        given = both.2.given ∙ ap (λ (k : ℕ). g k (both.0.registers rd)) (other_kept rd (f (s.registers a)) 0 s both.0 (λ e. written (sym e)) both.1 ∙ sound.zero)
            ∙ ap (g 0) both.1.given ∙ tells (s.registers a) (sound.registers a);
        keeps = beside_then rd s both.0 u (set_beside rd (f (s.registers a)) s both.0 both.1) (set_beside rd (g (both.0.registers 0) (both.0.registers rd)) both.0 u both.2);
      })

  -- where the first instruction tells of the comparison
  pub tells_once : (c : Cmp) → n < 2047 → second_comparing c rd ≡ None → One (first_comparing c rd a n) x from to → TellsNumber c rd a n x from to
  tells_once Lt h is does =
      once Lt (first_comparing Lt rd a n) (λ m. flag (is_less m (modulo 64 (pos n)))) (λ m g. ap flag (less_than m n g (omega (arith, h)))) (λ r pc. refl) does
  tells_once Le h is does =
      once Le (first_comparing Le rd a n) (λ m. flag (is_less m (modulo 64 (pos (n + 1))))) (λ m g. ap flag (at_most m n g h)) (λ r pc. refl) does
  tells_once Ltu h is does =
      once Ltu (first_comparing Ltu rd a n) (λ m. flag (nat_lt m (modulo 64 (pos n)))) (λ m g. ap flag (below_than m n (omega (arith, h)))) (λ r pc. refl) does
  tells_once Leu h is does =
      once Leu (first_comparing Leu rd a n) (λ m. flag (nat_lt m (modulo 64 (pos (n + 1))))) (λ m g. ap flag (next_than m n h)) (λ r pc. refl) does
  tells_once _ h is does = absurd (cc (is))

  -- where the second one turns it
  turned : (c : Cmp) (i : Instr) (test : ℕ → Bool) → ((m : ℕ) → m < 2 ^ 64 → not (test m) ≡ holds c W64 m n) →
      ((r : ℕ → ℕ) (pc : ℕ) → row r pc i ≡ Set rd (flag (test (r a)))) → Then (One i) (One (Xori rd rd (pos 1))) x from to → TellsNumber c rd a n x from to
  turned c i test tells is does =
      twice c i (Xori rd rd (pos 1)) (λ m. flag (test m)) (λ zero k. bit_xor k (modulo 64 (pos 1))) (λ m g. flag_turned (test m) ∙ ap flag (tells m g)) is (λ r pc. refl) does

  pub tells_twice : (c : Cmp) → n < 2047 → (j : Instr) → second_comparing c rd ≡ Some j → Then (One (first_comparing c rd a n)) (One j) x from to → TellsNumber c rd a n x from to
  tells_twice Eq h j is does =
      let e : Sltiu rd rd (pos 1) ≡ j = same_Some (Sltiu rd rd (pos 1)) j is in
      twice Eq (first_comparing Eq rd a n) (Sltiu rd rd (pos 1)) (λ m. sum m (modulo 64 (pos 0 -ℤ pos n))) (λ zero k. flag (nat_lt k (modulo 64 (pos 1))))
      (λ m g. ap (λ (k : ℕ). flag (nat_lt k (modulo 64 (pos 1)))) (negative_small m n g (omega (arith, h))) ∙ ap flag (same_by_difference m n g (omega (arith, h))))
      (λ r pc. refl) (λ r pc. refl) (subst (λ (i : Instr). Then (One (first_comparing Eq rd a n)) (One i) x from to) (sym e) does)
  tells_twice Ne h j is does =
      let e : Sltu rd 0 rd ≡ j = same_Some (Sltu rd 0 rd) j is in
      twice Ne (first_comparing Ne rd a n) (Sltu rd 0 rd) (λ m. sum m (modulo 64 (pos 0 -ℤ pos n))) (λ zero k. flag (nat_lt zero k))
      (λ m g. ap (λ (k : ℕ). flag (nat_lt 0 k)) (negative_small m n g (omega (arith, h))) ∙ ap flag (differs m n g (omega (arith, h))))
      (λ r pc. refl) (λ r pc. refl) (subst (λ (i : Instr). Then (One (first_comparing Ne rd a n)) (One i) x from to) (sym e) does)
  tells_twice Gt h j is does =
      let e : Xori rd rd (pos 1) ≡ j = same_Some (Xori rd rd (pos 1)) j is in
      turned Gt (first_comparing Gt rd a n) (λ m. is_less m (modulo 64 (pos (n + 1)))) (λ m g. ap not (at_most m n g h) ∙ not_most (word_signed 64 m) (word_signed 64 n)) (λ r pc. refl)
      (subst (λ (i : Instr). Then (One (first_comparing Gt rd a n)) (One i) x from to) (sym e) does)
  tells_twice Ge h j is does =
      let e : Xori rd rd (pos 1) ≡ j = same_Some (Xori rd rd (pos 1)) j is in
      turned Ge (first_comparing Ge rd a n) (λ m. is_less m (modulo 64 (pos n))) (λ m g. ap not (less_than m n g (omega (arith, h))) ∙ not_less (word_signed 64 m) (word_signed 64 n)) (λ r pc. refl)
      (subst (λ (i : Instr). Then (One (first_comparing Ge rd a n)) (One i) x from to) (sym e) does)
  tells_twice Gtu h j is does =
      let e : Xori rd rd (pos 1) ≡ j = same_Some (Xori rd rd (pos 1)) j is in
      turned Gtu (first_comparing Gtu rd a n) (λ m. nat_lt m (modulo 64 (pos (n + 1)))) (λ m g. ap not (next_than m n h) ∙ not_within m n) (λ r pc. refl)
      (subst (λ (i : Instr). Then (One (first_comparing Gtu rd a n)) (One i) x from to) (sym e) does)
  tells_twice Geu h j is does =
      let e : Xori rd rd (pos 1) ≡ j = same_Some (Xori rd rd (pos 1)) j is in
      turned Geu (first_comparing Geu rd a n) (λ m. nat_lt m (modulo 64 (pos n))) (λ m g. ap not (below_than m n (omega (arith, h))) ∙ not_below m n) (λ r pc. refl)
      (subst (λ (i : Instr). Then (One (first_comparing Geu rd a n)) (One i) x from to) (sym e) does)
  tells_twice _ h j is does = absurd (cc (is))

-- a comparison with the register that has 0
pub positive_is : (c : Cmp) (n : ℕ) → is_positive c n ≡ true → n ≡ 0
positive_is Gt n is = grind (arith, nat_tests, is)
positive_is Gtu n is = grind (arith, nat_tests, is)
positive_is _ n is = absurd (cc (is))

pub tells_none : (x : Code) (from to rd a n : ℕ) (c : Cmp) → n ≡ 0 → TellsIn 3 c rd a 0 x from to → TellsNumber c rd a n x from to
tells_none x from to rd a n c none tells =
    leads_weaker tells (omega arith) (λ s sound p. tt)
    (λ s t sound p makes. record {
      given = subst (λ (k : ℕ). Tells01 c W64 (s.registers a) k (t.registers rd)) (sound.zero ∙ sym none) makes.given;
      keeps = makes.keeps;
    })

-- ---- at a width

module _ (x : Code) (from to rd a n : ℕ) (c : Cmp) (w : Width) (h : n < compared_below w) where
  -- on words as they are
  pub tells_plain : ((p q : ℕ) → IsWord w p → IsWord w q → holds c W64 p q ≡ holds c w p q) → TellsNumber c rd a n x from to →
      Leads 5 (λ m s. IsWord w (s.registers a)) (λ s t. Makes rd (Tells01 c w (s.registers a) n) s t) x from to
  tells_plain wide tells =
      leads_weaker tells (omega arith) (λ s sound p. tt)
      (λ s t sound word makes. record { given = makes.given ∙ ap flag (wide (s.registers a) n word (compared_word w n h)); keeps = makes.keeps })

  -- or with their sign
  pub tells_signed : IsWideOfExtended c → rd ≢ 0 →
      Then (λ x. Leads 2 (HasWord w a) (λ s t. Sets rd (sign_extended w W64 (s.registers a)) s t) x) (TellsNumber c rd rd n) x from to →
      Leads 5 (λ m s. IsWord w (s.registers a)) (λ s t. Makes rd (Tells01 c w (s.registers a) n) s t) x from to
  tells_signed wide written does =
      leads_weaker
      (leads_then does.1 (runs_of does.2) (λ s t sound also p sets. tt)) (omega arith) (λ s sound word. word)
      (λ s u sound word both. record {
        given = both.2.given ∙ ap (λ (k : ℕ). flag (holds c W64 k n)) both.1.given
            ∙ ap (λ (k : ℕ). flag (holds c W64 (sign_extended w W64 (s.registers a)) k)) (sym (compared_unsigned w n h))
            ∙ ap flag (sym (wide w (s.registers a) n word (compared_word w n h)));
        keeps = beside_then rd s both.0 u (set_beside rd (sign_extended w W64 (s.registers a)) s both.0 both.1) both.2.keeps;
      })
