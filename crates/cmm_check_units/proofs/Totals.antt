-- What is counted over all units: with one more unit, against its limit, and of units laid flat.
use Rattle.std.proofs.Common.{◌≡◌, ℕ, ◌+◌, ◌-◌, ◌^◌, ◌<◌, ◌≤◌, min, length, map, refl, ap, sym, ◌∙◌, subst, true, false, Bool, ◌&&◌, List, [], ◌∷◌, ◌++◌, Option, Some, None, arith}
use Rattle.std.specs.Prelude.{is_some, nat_le}
use Rattle.std.specs.Option.{SomeIff}
use Rattle.std.proofs.lemmas.Bool.Decides.{nat_tests}
use Rattle.cmm_ast.specs.declared.unit.Unit.{Unit as UnitTree}
use Rattle.cmm_ast.specs.declared.unit.Item.{Item}
use Rattle.cmm_program.specs.Layout.{end_of}
use Rattle.cmm_rules.specs.declared.rule.Rule.TheVariants.{Limit, NoMain}
use Rattle.cmm_static_semantics.specs.declared.fault.Fault.{Fault}
use Rattle.cmm_static_semantics.specs.Declarations.{NamedUnit, labels_in, named_units, procs_in, sum_of, units_from}
use Rattle.cmm_static_semantics.specs.Items.{items_of}
use Rattle.cmm_static_semantics.specs.Limits.{data_pieces, over_units, proc_count, site_spans, site_variables, sums_are_within, token_count}
use Rattle.cmm_static_semantics.specs.Faults.{at_beginning, fault_of_all}
use Rattle.cmm_static_semantics.specs.Linking.{Program, has_main, program_of, register_names}
use Rattle.cmm_static_semantics.specs.Senses.{Senses}
use Rattle.cmm_static_semantics.specs.Scopes.{unit_senses}
use Rattle.cmm_check_declarations.specs.DataEnds.{IsEnd, data_of}
use Rattle.cmm_check_declarations.proofs.Shared.{data_grows, units_next}
use Rattle.cmm_limits.specs.Capped.{capped}
use Rattle.cmm_limits.proofs.Shared.{capped_sum}
use Rattle.cmm_symbols.specs.Shown.{whats}
use Rattle.cmm_check_units.specs.inside.Flat.{Flat, flat_named, flat_unit, numbered_unit}
use Rattle.cmm_check_units.specs.inside.Totals.{AreSums, are_within, totals_are_within}
use Rattle.cmm_check_units.specs.declared.sums.Sums.{Sums}

-- ---- one more unit

one_count : (n : ℕ) → n + 0 ≡ 0 + n
one_count n = omega arith

regrouped : (a b c : ℕ) → a + (b + c) ≡ (a + b) + c
regrouped a b c = omega arith

over_push : (program : Program) (count : Senses → NamedUnit → ℕ) (us : List NamedUnit) (u : NamedUnit) →
    over_units program count (us ++ u ∷ []) ≡ over_units program count us + count (unit_senses program u.entries) u
over_push program count [] u = one_count (count (unit_senses program u.entries) u)
over_push program count (v ∷ us) u =
    ap (λ n. count (unit_senses program v.entries) v + n) (over_push program count us u)
    ∙ regrouped (count (unit_senses program v.entries) v) (over_units program count us) (count (unit_senses program u.entries) u)

pub total_next : (program : Program) (count : Senses → NamedUnit → ℕ) (us : List NamedUnit) (u : NamedUnit) (so_far more next : ℕ) → so_far ≡ capped (over_units program count us) →
    more ≡ capped (count (unit_senses program u.entries) u) → next ≡ capped (so_far + more) → next ≡ capped (over_units program count (us ++ u ∷ []))
total_next program count us u so_far more next e f is =
    is ∙ capped_sum (over_units program count us) (count (unit_senses program u.entries) u) so_far more e f ∙ ap capped (sym (over_push program count us u))

-- where data ends
end_push : (program : Program) (place : ℕ) (us : List NamedUnit) (u : NamedUnit) →
    end_of place (data_pieces program (us ++ u ∷ [])) ≡ end_of (end_of place (data_pieces program us)) (data_of (unit_senses program u.entries) (whats u.items))
end_push program place [] u = units_next program place u []
end_push program place (v ∷ us) u =
    units_next program place v (us ++ u ∷ []) ∙ end_push program (end_of place (data_of (unit_senses program v.entries) (whats v.items))) us u
    ∙ ap (λ (n : ℕ). end_of n (data_of (unit_senses program u.entries) (whats u.items))) (sym (units_next program place v us))

pub end_next : (program : Program) (us : List NamedUnit) (u : NamedUnit) (items : List Item) (r : Option ℕ) → items ≡ whats u.items →
    IsEnd (end_of 0 (data_pieces program us)) (data_of (unit_senses program u.entries) items) r → IsEnd 0 (data_pieces program (us ++ u ∷ [])) r
end_next program us u items r same ends =
    subst (λ (n : ℕ). SomeIff r (n ≤ 67108864) n) (sym (end_push program 0 us u))
    (subst (λ (is : List Item). IsEnd (end_of 0 (data_pieces program us)) (data_of (unit_senses program u.entries) is) r) same ends)

-- data goes on where it ended, if it did within the limit
pub goes_on : (names : Senses) (items : List Item) (place p : ℕ) (r : Option ℕ) → IsEnd place [] (Some p) → IsEnd p (data_of names items) r → IsEnd place (data_of names items) r
goes_on names items place p r before ends = subst (λ (n : ℕ). IsEnd n (data_of names items) r) before.1 ends

pub stays_past : (names : Senses) (items : List Item) (place : ℕ) → IsEnd place [] None → IsEnd place (data_of names items) None
stays_past names items place past = λ all. past (omega (arith, data_grows names place items, all))

-- ---- against the limits

under : (n k m : ℕ) → k < m → nat_le (min n m) k ≡ nat_le n k
under n k m less = grind (arith, nat_tests)

pub capped_within : (n k sum : ℕ) → k < 2 ^ 64 - 1 → sum ≡ capped n → nat_le sum k ≡ nat_le n k
capped_within n k sum less is = ap (λ q. nat_le q k) is ∙ under n k (2 ^ 64 - 1) less

within : (n k : ℕ) → n ≤ k → true ≡ nat_le n k
within n k less = grind (arith, nat_tests)

past : (n k : ℕ) → (n ≤ k → ⊥) → false ≡ nat_le n k
past n k more = grind (arith, nat_tests)

pub end_within : (r : Option ℕ) (n : ℕ) → SomeIff r (n ≤ 67108864) n → is_some r ≡ nat_le n 67108864
end_within (Some x) n ends = within n 67108864 ends.0
end_within None n ends = past n 67108864 ends

sums_decide : (program : Program) (us : List NamedUnit) (s : Sums) → AreSums program us s → are_within s ≡ totals_are_within program us
sums_decide program us s sums =
    rw (
      capped_within (over_units program token_count us) 1000000 s.tokens (omega arith) sums.tokens,
      capped_within (over_units program proc_count us) 65535 s.procedures (omega arith) sums.procedures,
      end_within s.data_end (end_of 0 (data_pieces program us)) sums.ends,
      capped_within (over_units program site_variables us) 8000000 s.site_variables (omega arith) sums.variables,
      capped_within (over_units program site_spans us) 1000000 s.site_spans (omega arith) sums.spans,
    ) refl

-- seven tests in another order
reordered : (u t p d r v s : Bool) → (u && t && p && d && r && v && s) ≡ (u && r && (t && p && d && v && s))
reordered false t p d r v s = refl
reordered true false p d true v s = refl
reordered true false p d false v s = refl
reordered true true false d true v s = refl
reordered true true false d false v s = refl
reordered true true true false true v s = refl
reordered true true true false false v s = refl
reordered true true true true true v s = refl
reordered true true true true false v s = refl

sums_by_totals : (us : List NamedUnit) → sums_are_within (program_of us) us ≡ (nat_le (length us) 256 && nat_le (length (register_names us)) 256 && totals_are_within (program_of us) us)
sums_by_totals us =
    let program = program_of us in
    reordered (nat_le (length us) 256) (nat_le (over_units program token_count us) 1000000) (nat_le (over_units program proc_count us) 65535) (nat_le (end_of 0 (data_pieces program us)) 67108864)
    (nat_le (length (register_names us)) 256) (nat_le (over_units program site_variables us) 8000000) (nat_le (over_units program site_spans us) 1000000)

-- what is counted of units decides that their sums are within the limits
decided : (n : ℕ) (program : Program) (us : List NamedUnit) (s : Sums) → n ≡ length us → program ≡ program_of us → AreSums program us s →
    (nat_le n 256 && nat_le (length program.registers) 256 && are_within s) ≡ sums_are_within (program_of us) us
decided n program us s size knows sums =
    ap (λ k. nat_le k 256 && nat_le (length program.registers) 256 && are_within s) size
    ∙ ap (λ b. nat_le (length us) 256 && nat_le (length program.registers) 256 && b) (sums_decide program us s sums)
    ∙ ap (λ p. nat_le (length us) 256 && nat_le (length p.registers) 256 && totals_are_within p us) knows ∙ sym (sums_by_totals us)

-- ---- the fault of all units together

pub no_main : (us : List NamedUnit) → has_main us ≡ false → fault_of_all us ≡ at_beginning NoMain
no_main us is = ap (λ b. elim b as (λ _. Option Fault) [
  | true ↦ elim (sums_are_within (program_of us) us) as (λ _. Option Fault) [ true ↦ None | false ↦ at_beginning Limit ]
  | false ↦ at_beginning NoMain
]) is

pub by_sums : (us : List NamedUnit) (s : Sums) (n : ℕ) (program : Program) (b : Bool) → has_main us ≡ true → n ≡ length us → program ≡ program_of us → AreSums program us s →
    (nat_le n 256 && nat_le (length program.registers) 256 && are_within s) ≡ b → fault_of_all us ≡ elim b as (λ _. Option Fault) [ true ↦ None | false ↦ at_beginning Limit ]
by_sums us s n program b is size knows sums within_is =
    ap (λ m. elim m as (λ _. Option Fault) [
      | true ↦ elim (sums_are_within (program_of us) us) as (λ _. Option Fault) [ true ↦ None | false ↦ at_beginning Limit ]
      | false ↦ at_beginning NoMain
    ]) is
    ∙ ap (λ m. elim m as (λ _. Option Fault) [ true ↦ None | false ↦ at_beginning Limit ]) (sym (decided n program us s size knows sums) ∙ within_is)

-- ---- units laid flat are the units

named_from : (p l : ℕ) (us : List UnitTree) → map flat_named (map flat_unit (units_from p l us)) ≡ units_from p l us
named_from p l [] = refl
named_from p l (u ∷ us) = let rest = units_from (p + sum_of procs_in (items_of u)) (l + sum_of labels_in (items_of u)) us in
    ap (λ (t : List NamedUnit). numbered_unit p l u ∷ t) (named_from (p + sum_of procs_in (items_of u)) (l + sum_of labels_in (items_of u)) us)

pub sums_of_units : (program : Program) (us : List UnitTree) (fs : List Flat) (s : Sums) → fs ≡ map flat_unit (named_units us) → AreSums program (map flat_named fs) s → AreSums program (named_units us) s
sums_of_units program us fs s are sums =
    subst (λ (ns : List NamedUnit). AreSums program ns s) (ap (map flat_named) are ∙ named_from 0 0 us) sums
