-- Tables of decoded code.
use Rattle.std.proofs.Common.{◌≡◌, ℕ, zero, suc, ◌+◌, ◌*◌, ◌/◌, ◌<◌, ◌≤◌, List, [], ◌∷◌, ◌++◌, length, slice_get, IfSome, Option, Some, refl, sym, ap, ◌∙◌, arith, inl, inr, length-append}
use Rattle.std.proofs.lemmas.Bool.{cases_lt}
use Rattle.rv_table.specs.declared.instruction.Instr.{Instr}
use Rattle.rv_table.specs.Machine.{code_base, data_base}
use Rattle.rv_table.specs.Stands.{standing}
use Rattle.rv_table.specs.Table.{IsValid}
use Rattle.rv_sim.specs.Standing.{IsTableOf}
use Rattle.rv_sim.specs.inside.Tables.{IsTable}

-- a table has the first words of the code, n
pub record IsFront (code : List ℕ) (count : ℕ) (table : List (Option Instr)) : Type 0 where
  pub length_is : length table ≡ count
  pub each : (n : ℕ) → n < count → slice_get table n ≡ Some (standing code (code_base + 4 * n))
  pub valid : (n : ℕ) → IfSome (slice_get table n) (λ word. IfSome word IsValid)

-- ---- one word more

slice_get-end : {X : Type 0} (xs : List X) (x : X) → slice_get (xs ++ x ∷ []) (length xs) ≡ Some x
slice_get-end [] x = refl
slice_get-end (y ∷ ys) x = slice_get-end ys x

slice_get-before : {X : Type 0} (xs : List X) (x : X) (n : ℕ) → n < length xs → slice_get (xs ++ x ∷ []) n ≡ slice_get xs n
slice_get-before [] x n h = absurd (omega arith)
slice_get-before (y ∷ ys) x zero h = refl
slice_get-before (y ∷ ys) x (suc n) h = slice_get-before ys x n (omega arith)

-- what holds of each word and of one more
valid-more : (xs : List (Option Instr)) (x : Option Instr) → ((n : ℕ) → IfSome (slice_get xs n) (λ word. IfSome word IsValid)) → IfSome x IsValid →
    (n : ℕ) → IfSome (slice_get (xs ++ x ∷ []) n) (λ word. IfSome word IsValid)
valid-more [] x all one zero = one
valid-more [] x all one (suc n) = tt
valid-more (y ∷ ys) x all one zero = all zero
valid-more (y ∷ ys) x all one (suc n) = valid-more ys x (λ k. all (suc k)) one n

pub front-more : (code : List ℕ) (count : ℕ) (table after : List (Option Instr)) (word : Option Instr) → IsFront code count table →
    word ≡ standing code (code_base + 4 * count) → IfSome word IsValid → after ≡ table ++ word ∷ [] → IsFront code (count + 1) after
front-more code count table after word front stands valid is = record {
  length_is = rw (is, length-append table (word ∷ [])) (omega (arith, front.length_is));
  each = λ n below. elim (cases_lt n count) [
    | inl before ↦ rw is (slice_get-before table word n (omega (arith, front.length_is)) ∙ front.each n before)
    | inr from ↦
        let last : n ≡ length table = omega (arith, front.length_is) in
        let here : n ≡ count = omega arith in
        rw (is, last) (slice_get-end table word) ∙ ap Some (stands ∙ ap (λ (k : ℕ). standing code (code_base + 4 * k)) (sym here))
  ];
  valid = rw is (valid-more table word front.valid valid);
}

pub front-none : (code : List ℕ) (table : List (Option Instr)) → table ≡ [] → IsFront code 0 table
front-none code table is = record { length_is = rw is refl; each = λ n below. absurd (omega arith); valid = λ n. rw is tt }

-- the words of the whole code
pub front-table : (code : List ℕ) (count : ℕ) (table : List (Option Instr)) → IsFront code count table → code_base + 4 * count ≤ data_base → IsTable table
front-table code count table front short = record { valid = front.valid; short = rw front.length_is short }

pub front-whole : (code : List ℕ) (count : ℕ) (table : List (Option Instr)) → IsFront code count table → count ≡ length code / 4 → IsTableOf code table
front-whole code count table front whole = record { count = front.length_is ∙ whole; each = λ n below. front.each n (rw front.length_is at below) }
