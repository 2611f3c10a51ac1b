-- Alignments are powers of two: places that are moved up by one after another come to the greatest.
use Rattle.std.proofs.Common.{◌≡◌, ℕ, suc, pred, ◌+◌, ◌-◌, ◌*◌, ◌/◌, ◌^◌, ◌<◌, ◌≤◌, sym, ap, ◌∙◌, subst, true, max, arith, inl, inr, mul-suc, add-mul, mul_assoc, mul_comm, le-mul_of_pos_right}
use Rattle.std.specs.Prelude.{◌==◌}
use Rattle.std.proofs.Math.Nat.{div-div-eq-div-mul, add-mul-div_left, mul-add-div_right}
use Rattle.std.proofs.lemmas.Nat.{div-mul-add, pow-add, pow_pos}
use Rattle.std.proofs.lemmas.Bool.{or_cases, eqb-true, cases_lt}
use Rattle.cmm_program.specs.Typing.{is_alignment}
use Rattle.cmm_program.specs.Layout.{aligned_up}

-- a multiple of an alignment is a place already
pub at_multiple : (a k : ℕ) → 0 < a → aligned_up a (k * a) ≡ k * a
at_multiple a k some = ap (λ n. n * a) (div-mul-add k a (pred a) (omega arith))

-- how many multiples of an alignment a place takes, in those of a smaller one
in_smaller : (b d x : ℕ) → 0 < b → (x + pred (b * suc d)) / (b * suc d) ≡ ((x + pred b) / b + d) / suc d
in_smaller b d x some =
    let split : x + pred (b * suc d) ≡ x + pred b + b * d = omega (arith, mul-suc b d) in
    sym (div-div-eq-div-mul (x + pred (b * suc d)) b (suc d)) ∙ ap (λ m. m / suc d) (ap (λ m. m / b) split ∙ add-mul-div_left (x + pred b) d some)

up_up : (b d x : ℕ) → 0 < b → aligned_up (b * suc d) (aligned_up b x) ≡ aligned_up (b * suc d) x
up_up b d x some = let t = (x + pred b) / b in
    ap (λ n. n * (b * suc d)) (in_smaller b d (t * b) some ∙ ap (λ n. (n + d) / suc d) (div-mul-add t b (pred b) (omega arith)) ∙ sym (in_smaller b d x some))

up_down : (b c x : ℕ) → 0 < b → aligned_up b (aligned_up (b * c) x) ≡ aligned_up (b * c) x
up_down b c x some = let s = (x + pred (b * c)) / (b * c) in
    let turned : s * (b * c) ≡ s * c * b = ap (λ n. s * n) (mul_comm b c) ∙ sym (mul_assoc s c b) in
    ap (aligned_up b) turned ∙ at_multiple b (s * c) some ∙ sym turned

-- ---- powers of two that divide where data begins

pub record IsPower (a : ℕ) : Type 0 where
  pub exponent : ℕ
  pub is : a ≡ 2 ^ exponent
  pub times : ℕ
  pub base : times * a ≡ 1073741824

pub power : (n : ℕ) → is_alignment n ≡ true → IsPower n
power n is = elim (or_cases _ (n == 16) is) [
  | inr h ↦ (let e : n ≡ 16 = eqb-true n 16 h in record { exponent = 4; is = e; times = 67108864; base = omega arith })
  | inl l ↦ elim (or_cases _ (n == 8) l) [
    | inr h ↦ (let e : n ≡ 8 = eqb-true n 8 h in record { exponent = 3; is = e; times = 134217728; base = omega arith })
    | inl m ↦ elim (or_cases _ (n == 4) m) [
      | inr h ↦ (let e : n ≡ 4 = eqb-true n 4 h in record { exponent = 2; is = e; times = 268435456; base = omega arith })
      | inl o ↦ elim (or_cases _ (n == 2) o) [
        | inr h ↦ (let e : n ≡ 2 = eqb-true n 2 h in record { exponent = 1; is = e; times = 536870912; base = omega arith })
        | inl h ↦ (let e : n ≡ 1 = eqb-true n 1 h in record { exponent = 0; is = e; times = 1073741824; base = omega arith })
      ]
    ]
  ]
]

pub some_power : (a : ℕ) → IsPower a → 0 < a
some_power a p = let h : p.times * a ≡ 1073741824 = p.base in elim (cases_lt 0 a) [
  | inl some ↦ some
  | inr none ↦ (let zero_ : a ≡ 0 = omega arith in let bad : p.times * 0 ≡ 1073741824 = subst (λ n. p.times * n ≡ 1073741824) zero_ h in absurd (omega arith))
]

-- the greater of two is a multiple of the other
multiple : (a b i j : ℕ) → a ≡ 2 ^ i → b ≡ 2 ^ j → i ≤ j → b ≡ a * 2 ^ (j - i)
multiple a b i j x y below =
    y ∙ ap (λ n. 2 ^ n) (let e : j ≡ i + (j - i) = omega arith in e) ∙ pow-add 2 i (j - i) ∙ ap (λ n. n * 2 ^ (j - i)) (sym x)

up_less : (a b c x : ℕ) → 0 < a → 0 < c → b ≡ a * c → aligned_up a (aligned_up b x) ≡ aligned_up (max a b) x
up_less a b c x some more is =
    let less : a ≤ a * c = le-mul_of_pos_right a more in let most : max a b ≡ b = omega arith in
    subst (λ n. aligned_up a (aligned_up n x) ≡ aligned_up n x) (sym is) (up_down a c x some) ∙ ap (λ n. aligned_up n x) (sym most)

up_more : (a b c x : ℕ) → 0 < b → 0 < c → a ≡ b * c → aligned_up a (aligned_up b x) ≡ aligned_up (max a b) x
up_more a b c x some more is =
    let less : b ≤ b * c = le-mul_of_pos_right b more in let most : max a b ≡ a = omega arith in
    let d : c ≡ suc (pred c) = omega arith in let whole : a ≡ b * suc (pred c) = is ∙ ap (λ n. b * n) d in
    subst (λ n. aligned_up n (aligned_up b x) ≡ aligned_up n x) (sym whole) (up_up b (pred c) x some) ∙ ap (λ n. aligned_up n x) (sym most)

-- moved up by one alignment and then by another
pub up_twice : (a b x : ℕ) → is_alignment a ≡ true → is_alignment b ≡ true → aligned_up a (aligned_up b x) ≡ aligned_up (max a b) x
up_twice a b x h k = let p = power a h in let q = power b k in elim (cases_lt p.exponent q.exponent) [
  | inl less ↦ up_less a b (2 ^ (q.exponent - p.exponent)) x (some_power a p) (pow_pos (q.exponent - p.exponent)) (multiple a b p.exponent q.exponent p.is q.is (omega arith))
  | inr more ↦ up_more a b (2 ^ (p.exponent - q.exponent)) x (some_power b q) (pow_pos (p.exponent - q.exponent)) (multiple b a q.exponent p.exponent q.is p.is (omega arith))
]

-- behind where data begins a place moves up as from 0
pub up_behind : (a x : ℕ) → is_alignment a ≡ true → aligned_up a (1073741824 + x) ≡ 1073741824 + aligned_up a x
up_behind a x h = let p = power a h in let t = (x + pred a) / a in
    let first : 1073741824 + x + pred a ≡ p.times * a + (x + pred a) = omega (arith, p.base) in
    ap (λ n. n / a * a) first ∙ ap (λ n. n * a) (mul-add-div_right (some_power a p) p.times (x + pred a)) ∙ add-mul p.times t a ∙ ap (λ n. n + t * a) p.base
