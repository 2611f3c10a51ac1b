-- What each test of a yield says where it passes.
use Rattle.std.proofs.Common.{◌≡◌, ℕ, zero, suc, ◌+◌, ◌<◌, ◌==◌, ◌&&◌, ◌||◌, not, Bool, true, false, List, [], ◌∷◌, length, Option, Some, None, refl, sym, ap, ◌∙◌, arith}
use Rattle.std.specs.Prelude.{nat_lt, slice_get}
use Rattle.std.specs.List.{list_all, range_with_len}
use Rattle.std.proofs.lemmas.Bool.{and_parts}
use Rattle.std.proofs.lemmas.Bool.Decides.{nat_tests}
use Rattle.std.proofs.lemmas.Option.{same_Some}
use Rattle.cmm_program.specs.declared.procedure.Proc.{Proc}
use Rattle.cmm_program.specs.Frames.{procedure_at}
use Rattle.cmm_program.specs.Liveness.{is_live_at}
use Rattle.cmm_program.specs.State.{Setting}
use Rattle.cmm_chain.specs.Contents.{Content, Contents, Unknown, Number, ReturnTo, LandingOf, LastReturn}
use Rattle.cmm_located.specs.Answering.{number_shown}
use Rattle.cmm_located.specs.Walkable.{have_pairs, is_last, is_landing_of, is_number, is_number_of, is_return_to}
use Rattle.cmm_client_laws.specs.Walked.{live_at}

pub number_is : (k : Content) → is_number k ≡ true → k ≡ Number (number_shown k)
number_is (Number n) is = refl
number_is Unknown is = absurd (cc)
number_is (ReturnTo q n) is = absurd (cc)
number_is (LandingOf q n) is = absurd (cc)
number_is LastReturn is = absurd (cc)

number_of_is : (m : ℕ) (k : Content) → is_number_of m k ≡ true → k ≡ Number m
number_of_is m (Number n) is = let same : n ≡ m = grind (arith, nat_tests, is) in ap Number same
number_of_is m Unknown is = absurd (cc)
number_of_is m (ReturnTo q n) is = absurd (cc)
number_of_is m (LandingOf q n) is = absurd (cc)
number_of_is m LastReturn is = absurd (cc)

pub return_is : (q n : ℕ) (k : Content) → is_return_to q n k ≡ true → k ≡ ReturnTo q n
return_is q n (ReturnTo p j) is =
    let both = and_parts (p == q) (j == n) is in
    let one : p ≡ q = grind (arith, nat_tests, both.0) in
    let two : j ≡ n = grind (arith, nat_tests, both.1) in
    ap (λ (r : ℕ). ReturnTo r j) one ∙ ap (λ (r : ℕ). ReturnTo q r) two
return_is q n Unknown is = absurd (cc)
return_is q n (Number m) is = absurd (cc)
return_is q n (LandingOf p j) is = absurd (cc)
return_is q n LastReturn is = absurd (cc)

landing_is : (q n : ℕ) (k : Content) → is_landing_of q n k ≡ true → k ≡ LandingOf q n
landing_is q n (LandingOf p j) is =
    let both = and_parts (p == q) (j == n) is in
    let one : p ≡ q = grind (arith, nat_tests, both.0) in
    let two : j ≡ n = grind (arith, nat_tests, both.1) in
    ap (λ (r : ℕ). LandingOf r j) one ∙ ap (λ (r : ℕ). LandingOf q r) two
landing_is q n Unknown is = absurd (cc)
landing_is q n (Number m) is = absurd (cc)
landing_is q n (ReturnTo p j) is = absurd (cc)
landing_is q n LastReturn is = absurd (cc)

pub last_is : (k : Content) → is_last k ≡ true → k ≡ LastReturn
last_is LastReturn is = refl
last_is Unknown is = absurd (cc)
last_is (Number m) is = absurd (cc)
last_is (ReturnTo p j) is = absurd (cc)
last_is (LandingOf p j) is = absurd (cc)

pub all_there : (p : ℕ → Bool) (first count v : ℕ) → list_all p (range_with_len first count) ≡ true → v < count → p (first + v) ≡ true
all_there p first zero v all less = absurd (omega (arith, less))
all_there p first (suc count) zero all less =
    let both = and_parts (p first) (list_all p (range_with_len (first + 1) count)) all in
    let none : first + 0 ≡ first = omega arith in ap p none ∙ both.0
all_there p first (suc count) (suc v) all less =
    let both = and_parts (p first) (list_all p (range_with_len (first + 1) count)) all in
    let more : first + suc v ≡ first + 1 + v = omega arith in
    ap p more ∙ all_there p (first + 1) count v both.1 (omega (arith, less))

pub or_live : (b d : Bool) → (not b || d) ≡ true → b ≡ true → d ≡ true
or_live true d is live = is
or_live false d is live = absurd (cc)

pub pairs_are : (contents : Contents) (q at first : ℕ) (pairs : List ℕ) → have_pairs contents q at first pairs ≡ true → (k offset : ℕ) → slice_get pairs k ≡ Some offset →
    (contents (at + offset) ≡ LandingOf q (first + k)) × (contents (at + (offset + 8)) ≡ Number at)
pairs_are contents q at first [] have k offset is = absurd (cc)
pairs_are contents q at first (o ∷ rest) have zero offset is =
    let one = and_parts (is_landing_of q first (contents (at + o))) _ have in
    let two = and_parts (is_number_of at (contents (at + (o + 8)))) (have_pairs contents q at (suc first) rest) one.1 in
    let same : o ≡ offset = same_Some o offset is in
    let none : first ≡ first + 0 = omega arith in (
      ap (λ (n : ℕ). contents (at + n)) (sym same) ∙ landing_is q first (contents (at + o)) one.0 ∙ ap (λ (n : ℕ). LandingOf q n) none,
      ap (λ (n : ℕ). contents (at + (n + 8))) (sym same) ∙ number_of_is at (contents (at + (o + 8))) two.0,
    )
pairs_are contents q at first (o ∷ rest) have (suc k) offset is =
    let one = and_parts (is_landing_of q first (contents (at + o))) _ have in
    let two = and_parts (is_number_of at (contents (at + (o + 8)))) (have_pairs contents q at (suc first) rest) one.1 in
    let more : suc first + k ≡ first + suc k = omega arith in
    let there = pairs_are contents q at (suc first) rest two.1 k offset is in
    (there.0 ∙ ap (λ (n : ℕ). LandingOf q n) more, there.1)

pub site_is : {A : Type 0} (xs : List A) (n : ℕ) → nat_lt n (length xs) ≡ true → (x : A) × (slice_get xs n ≡ Some x)
site_is [] n less = absurd (grind (arith, nat_tests, less))
site_is (x ∷ xs) zero less = (x, refl)
site_is (x ∷ xs) (suc n) less = site_is xs n (grind (arith, nat_tests, less))

pub live_parts : (s : Setting) (q n v : ℕ) (p : Proc) → procedure_at s q ≡ Some p → live_at s q n v ≡ true → (is_live_at p n v ≡ true) × (v < length p.vars)
live_parts s q n v p is live =
    let both : is_live_at p n v && nat_lt v (length p.vars) ≡ true =
    sym (ap (λ (o : Option Proc). elim o as (λ _. Bool) [ Some p ↦ is_live_at p n v && nat_lt v (length p.vars) | None ↦ false ]) is) ∙ live in
    let parts = and_parts (is_live_at p n v) (nat_lt v (length p.vars)) both in
    (parts.0, grind (arith, nat_tests, parts.1))
