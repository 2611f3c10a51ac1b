-- What digits count, from the front.
use Rattle.std.proofs.Common.{◌≡◌, ℕ, suc, lit<, ◌+◌, ◌*◌, ◌^◌, ◌<◌, ◌≤◌, Bool, true, false, List, ◌∷◌, length, get_or, drop, refl, arith, add-one, pow-suc}
use Rattle.std.proofs.Math.Nat.{one-le-pow}
use Rattle.std.proofs.Math.Seq.{drop-cons}
use Rattle.std.proofs.lemmas.List.Folds.{list_all_at}
use Rattle.std.specs.Char.{is_digit, digit_value}
use Rattle.std.specs.List.{list_all}
use Rattle.cmm_words.specs.declared.digits.Radix.{Radix}
use Rattle.cmm_words.specs.declared.digits.Radix.TheVariants.{Octal, Decimal, Hexadecimal}
use Rattle.cmm_words.specs.Digits.{base, sum_of}

pub base-positive : (r : Radix) → 0 < base r
base-positive Octal = lit< tt
base-positive Decimal = lit< tt
base-positive Hexadecimal = lit< tt

-- what these digits count when they follow others that count this sum
abbrev pub carried : ℕ → ℕ → List ℕ → ℕ
carried b sum ds = sum * b ^ length ds + sum_of b ds

-- the first digit is carried
pub carried-cons : (b sum d : ℕ) (ds : List ℕ) → carried b sum (d ∷ ds) ≡ carried b (sum * b + digit_value d) ds
carried-cons b sum d ds = rw (pow-suc b (length ds)) (by (digit_value d) (b ^ length ds) (sum_of b ds))
  where
    by : (v p s : ℕ) → sum * (p * b) + (v * p + s) ≡ (sum * b + v) * p + s
    by v p s = grind arith

-- one digit more is carried
pub carried-drop : (b sum i : ℕ) (ds : List ℕ) → i < length ds → carried b sum (drop i ds) ≡ carried b (sum * b + digit_value (get_or ds i 0)) (drop (i + 1) ds)
carried-drop b sum i ds h = rw (add-one, drop-cons ds i 0 h) (carried-cons b sum (get_or ds i 0) (drop (suc i) ds))

-- more digits count no less
pub carried-≥ : (b sum : ℕ) (ds : List ℕ) → 0 < b → sum ≤ carried b sum ds
carried-≥ b sum ds h = by (b ^ length ds) (sum_of b ds) (one-le-pow (length ds) b h)
  where
    by : (p s : ℕ) → 1 ≤ p → sum ≤ sum * p + s
    by p s h = grind arith

-- a digit of those that all are
pub digit-at : (b i : ℕ) (ds : List ℕ) → i < length ds → list_all (λ d. is_digit d b) ds ≡ true → is_digit (get_or ds i 0) b ≡ true
digit-at b i ds h all = by (is_digit (get_or ds i 0) b) refl
  where
    by : (known : Bool) → is_digit (get_or ds i 0) b ≡ known → is_digit (get_or ds i 0) b ≡ true
    by true e = e
    by false e = let broken : list_all (λ d. is_digit d b) ds ≡ false = list_all_at (λ d. is_digit d b) ds i 0 h e in absurd cc
