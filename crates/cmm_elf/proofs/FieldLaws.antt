-- The kinds of field that an ELF file has besides: what is read is spelled so, and what is spelled so is read.
use Rattle.std.proofs.Common.{◌≡◌, ℕ, zero, suc, Bool, true, false, nat_lt, List, [], ◌∷◌, ◌++◌, length, replicate, take, drop, Ok, Err, refl, ap, subst, ◌∙◌, arith}
use Rattle.std.specs.Prelude.{◌==◌, ◌&&◌}
use Rattle.std.specs.List.{list_all}
use Rattle.std.proofs.lemmas.Bool.{eqb-true, le-ltb, and_parts}
use Rattle.std.proofs.lemmas.List.{take_at, drop_at, length-append, length-replicate}
use Rattle.std.proofs.lemmas.Slice.Eq.{bytes_eq-Decides}
use Rattle.cmm_rules.specs.declared.rule.Rule.{Rule}
use Rattle.cmm_rules.specs.declared.rule.Rule.TheVariants.{ElfFileIsCut}
use Rattle.cmm_format.specs.Formats.{◌>>=◌, Format, Front, AreBytes, Condition, block, block_at, breaks, judged, ◌when◌}
use Rattle.cmm_format.proofs.Shared.{IsExact, bind_ok, ok_is, chosen_false, block-exact, when-exact}
use Rattle.cmm_elf.specs.ElfFormat.{Nothing, are_zero, fixed, fixed_at, is_value, zeros, zeros_at}

-- a block of bytes that may be this value alone
abbrev one_value : ℕ → Condition (List ℕ) → List ℕ → Format Nothing
one_value count c value = record {
  spelled = λ nothing. value;
  Holds = λ nothing. Nothing;
  at = λ bytes. (block ElfFileIsCut count when (c ∷ [])).at bytes >>= λ x. Ok (tt, x.1);
}

block-again : (count : ℕ) (value rest : List ℕ) → length value ≡ count → block_at ElfFileIsCut count (value ++ rest) ≡ Ok (value, rest)
unfolding block_at
block-again count value rest len =
    let long : nat_lt (length (value ++ rest)) count ≡ false = le-ltb _ _ (omega (arith, length-append value rest, len)) in
    let parts : ◌≡◌ {A = Front (List ℕ)} (Ok (take count (value ++ rest), drop count (value ++ rest))) (Ok (value, rest)) = rw (take_at value rest count len, drop_at value rest count len) refl in
    chosen_false {A = Front (List ℕ)} (nat_lt (length (value ++ rest)) count) (Err (breaks ElfFileIsCut (value ++ rest))) (Ok (take count (value ++ rest), drop count (value ++ rest))) long ∙ parts

one_value-exact : (count : ℕ) (c : Condition (List ℕ)) (value : List ℕ) → length value ≡ count → c.holds value ≡ true → ((t : List ℕ) → length t ≡ count → c.holds t ≡ true → t ≡ value) → IsExact (one_value count c value)
one_value-exact count c value len allowed only = record {
  taken = λ bytes u rest fits e.
      let g = bind_ok ((block ElfFileIsCut count when (c ∷ [])).at bytes) (λ x. Ok (tt, x.1)) (u, rest) e in
      let t = (when-exact (c ∷ []) (block-exact ElfFileIsCut count)).taken bytes g.0.0 g.0.1 fits g.1 in
      let is : g.0.0 ≡ value = only g.0.0 t.1.0.0 t.1.1.0 in
      let made : Nothing × List ℕ = (tt, g.0.1) in
      subst (λ (y : Nothing × List ℕ). (bytes ≡ value ++ y.1) × Nothing × AreBytes y.1) (ok_is made (u, rest) g.2)
      (t.0 ∙ ap (λ (v : List ℕ). v ++ g.0.1) is, tt, t.2);
  again = λ u rest holds.
      let read = block-again count value rest len in
      let kept : ◌≡◌ {A = Front (List ℕ)} (judged (c ∷ []) (value ++ rest) (value, rest)) (Ok (value, rest)) = rw allowed refl in
      rw (read, kept) refl;
}

pub fixed-exact : (rule : Rule) (value : List ℕ) → IsExact (fixed rule value)
unfolding fixed_at
fixed-exact rule value =
    one_value-exact (length value) (is_value rule value) value refl ((bytes_eq-Decides value value).1 refl) (λ t len same. (bytes_eq-Decides t value).0 same)

-- ---- padding

cells : (a b : ℕ) (as_ bs : List ℕ) → a ≡ b → as_ ≡ bs → a ∷ as_ ≡ b ∷ bs
cells a b as_ bs e f = cc

are_replicated : (t : List ℕ) (count : ℕ) → length t ≡ count → list_all (λ byte. byte == 0) t ≡ true → t ≡ replicate count 0
are_replicated [] zero len all = refl
are_replicated [] (suc count) len all = absurd (omega arith)
are_replicated (b ∷ t) zero len all = absurd (omega arith)
are_replicated (b ∷ t) (suc count) len all =
    let parts = and_parts (b == 0) (list_all (λ byte. byte == 0) t) all in
    cells b 0 t (replicate count 0) (eqb-true b 0 parts.0) (are_replicated t count (omega (arith, len)) parts.1)

replicated_are : (count : ℕ) → list_all (λ byte. byte == 0) (replicate count 0) ≡ true
replicated_are zero = refl
replicated_are (suc count) = replicated_are count

pub zeros-exact : (count : ℕ) → IsExact (zeros count)
unfolding zeros_at
zeros-exact count =
    one_value-exact count are_zero (replicate count 0) (length-replicate count 0) (replicated_are count) (λ t len all. are_replicated t count len all)
