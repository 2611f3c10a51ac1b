-- Where each constant of a scope fits its width, names mean words.
use mathlib.Core.List.{reverse}
use Rattle.std.proofs.Common.{◌≡◌, sym, subst, ℕ, suc, ◌-◌, ◌^◌, ◌<◌, T, ltb→lt, Bool, true, false, cond, List, [], ◌∷◌, length, get_or, Option, Some, None, arith}
use Rattle.std.specs.Prelude.{IfSome, option_map, bytes_eq}
use Rattle.std.specs.List.{All, find}
use Rattle.std.proofs.lemmas.List.{get_or-reverse, length-reverse}
use Rattle.std.proofs.lemmas.List.Sums.{AllPass-from_list_all}
use Rattle.cmm_words.specs.declared.constant.Constant.TheVariants as constants
use Rattle.cmm_words.specs.Widths.{bits}
use Rattle.cmm_typing.specs.declared.meaning.Meaning.{Meaning}
use Rattle.cmm_typing.specs.declared.meaning.Meaning.TheVariants.{Variable, Register, Value, Stack, Continuation, Typedef, CodeLabel, Host}
use Rattle.cmm_typing.specs.Fitting.{FitsSense, AreWords}
use Rattle.cmm_typing.specs.Meanings.{sense_of, senses_of}
use Rattle.cmm_typing.specs.Words.{is_word, are_words}

all_reversed : {X : Type 0} (P : X → Type 0) (xs : List X) → All P xs → All P (reverse xs)
all_reversed P xs all k d inside =
    let short : k < length xs = omega (arith, inside, length-reverse xs) in
    subst P (sym (get_or-reverse xs k d short)) (all (length xs - 1 - k) d (omega (arith, short)))

found : {X : Type 0} (P : X → Type 0) (test : X → Bool) (xs : List X) → All P xs → IfSome (find test xs) P
found P test [] all = tt
found P test (x ∷ xs) all = elim (test x) as (λ b. IfSome (cond b (Some x) (find test xs)) P) [
  | true ↦ all 0 x (omega arith)
  | false ↦ found P test xs (λ k d inside. all (suc k) d (omega (arith, inside)))
]

word : (m : Meaning) → is_word m ≡ true → FitsSense (Some (sense_of m))
word (Value (constants.Number n width)) fits = ltb→lt n (2 ^ bits width) (subst T (sym fits) tt)
word (Value (constants.Code proc plus)) fits = tt
word (Value (constants.Address label plus)) fits = tt
word (Variable n width) fits = tt
word (Register n width) fits = tt
word (Stack n) fits = tt
word (Continuation n) fits = tt
word (Typedef width) fits = tt
word CodeLabel fits = tt
word Host fits = tt

meant : (o : Option (List ℕ × Meaning)) → IfSome o (λ e. is_word e.1 ≡ true) → FitsSense (option_map sense_of (option_map (λ e. e.1) o))
meant (Some e) fits = word e.1 fits
meant None fits = tt

pub names_are_words : (entries : List (List ℕ × Meaning)) → are_words entries ≡ true → AreWords (senses_of entries)
names_are_words entries fit name =
    let fits : List ℕ × Meaning → Type 0 = λ e. is_word e.1 ≡ true in
    meant (find (λ e. bytes_eq e.0 name) (reverse entries))
    (found fits (λ e. bytes_eq e.0 name) (reverse entries)
    (all_reversed fits entries (AllPass-from_list_all (λ e. is_word e.1) entries fit)))
