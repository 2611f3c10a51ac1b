-- Control goes by a number into a table of jumps.
use Rattle.std.proofs.Common.{◌≡◌, ℕ, ◌+◌, ◌-◌, ◌*◌, ◌/◌, ◌%◌, ◌<◌, ◌≤◌, ◌^◌, ◌⊎◌, inl, inr, zero, suc, refl, sym, ◌∙◌, ap, subst, arith, List, [], ◌∷◌, length, true, false, Some, slice_get, get_or, pos, negsuc, ◌-ℤ◌}
use Rattle.std.specs.Prelude.{◌&&◌, ◌==◌, Bool, nat_le, nat_lt, bit_and, if◌then◌else◌}
use Rattle.std.proofs.lemmas.Bool.{and_parts}
use Rattle.std.proofs.lemmas.Bool.Decides.{nat_tests}
use Rattle.std.proofs.lemmas.Nat.{and_mask}
use Rattle.std.proofs.lemmas.Option.{slice_get-get_or}
use Rattle.rv_asm.proofs.Shared.{reaches_then, reaches_weaker, single_does}
use Rattle.rv_asm.specs.Appending.{Then}
use Rattle.rv_asm.specs.Parts.{Code, Does, Executes, Gives, GoesTo, way}
use Rattle.rv_asm.specs.Parts as part
use Rattle.rv_asm.specs.Reaching.{Reaches}
use Rattle.rv_asm.specs.declared.part.Label.{Label}
use Rattle.rv_asm.specs.declared.part.Part.TheVariants.{Table}
use Rattle.cmm_abi.specs.Registers.{is_scratch}
use Rattle.rv_table.proofs.Shared.{with_register-0}
use Rattle.rv_table.specs.Machine.{MemoryMap, Outcome, State, code_base, instruction_step, is_fetchable, with_jump}
use Rattle.rv_table.specs.Bounds.{IsSound}
use Rattle.rv_table.specs.Words.{difference, flag, modulo, shifted_left, sum}
use Rattle.rv_table.specs.declared.instruction.Instr.TheVariants.{Add, Addi, And, Auipc, Jalr, Slli, Sltiu}
use Rattle.cmm_effects.proofs.Shared.{goes_keeps, keeps_then, leads_set, leads_then, leads_weaker, reaches_more, runs_of, set_keeps}
use Rattle.cmm_effects.specs.Changes.{Sets}
use Rattle.cmm_effects.specs.Pieces.{Always, Leads}
use Rattle.cmm_select.proofs.Places.{One}
use Rattle.cmm_select.proofs.Ranging.{keeps_first_then}
use Rattle.cmm_select.proofs.Wide.{modulo_same, wrapped_difference}
use Rattle.cmm_select.specs.Switches.{EndsLow, KeepsFirst}
use Rattle.cmm_select.specs.inside.NumberRuns.{GoesInRun, Masks, run_address}

-- ---- numbers outside are masked

less_than_all : (n : ℕ) → 1 ≤ n → n ≤ 64 → modulo 64 (pos 0 -ℤ pos n) ≡ 2 ^ 64 - n
less_than_all n some few = modulo_same 64 (pos 0 -ℤ pos n) ∙ wrapped_difference 0 n (pos 0 -ℤ pos n) refl (omega (arith, few)) ∙ omega (arith, some, few)

masked_by : (r : ℕ) (b : Bool) → r < 2 ^ 64 → bit_and r (sum (flag b) (modulo 64 (negsuc 0))) ≡ (if b then 0 else r)
masked_by r true small = and_mask r 0 ∙ omega arith
masked_by r false small = and_mask r 64 ∙ omega (arith, small)

-- register 6 or 7 gets a number
given_keeps : (rd number to : ℕ) (s t : State) → is_scratch rd ≡ true → (5 == rd) ≡ false → Gives rd number to s t → KeepsFirst s t
given_keeps rd number to s t scratch other gives = record {
  first = gives.registers 5 (λ e. differ e);
  keeps = record { registers = λ r h. gives.registers r (λ e. clash r e h); memory = gives.memory };
}
  where
    differ : 5 ≡ rd → ⊥
    differ e = grind (arith, nat_tests, other, e)

    clash : (r : ℕ) → r ≡ rd → is_scratch r ≡ false → ⊥
    clash r e h = let g : is_scratch rd ≡ false = subst (λ (k : ℕ). is_scratch k ≡ false) e h in cc (scratch, g)

jumped_keeps : (link target : ℕ) (s t : State) → t ≡ with_jump s 0 link target → KeepsFirst s t
jumped_keeps link target s t is = record {
  first = same 5;
  keeps = record { registers = λ r h. same r; memory = ap (λ (z : State). z.memory) is };
}
  where
    same : (r : ℕ) → t.registers r ≡ s.registers r
    same r = ap (λ (z : State). z.registers r) is ∙ ap (λ (f : ℕ → ℕ). f r) (with_register-0 s.registers link)

gone_keeps : (address : ℕ) (s t : State) → GoesTo address s t → KeepsFirst s t
gone_keeps address s t goes = record { first = goes.registers 5 (omega arith); keeps = goes_keeps address s t goes }

module _ (x : Code) (n : ℕ) (some : 1 ≤ n) (few : n ≤ 64) where
  pub masks : (from to : ℕ) → Then (One (Sltiu 6 7 (pos 0 -ℤ pos n))) (Then (One (Addi 6 6 (negsuc 0))) (One (And 7 7 6))) x from to → Leads 3 Always (Masks n) x from to
  masks from to does =
      let test = leads_set x (Sltiu 6 7 (pos 0 -ℤ pos n)) from does.0 6 (λ g. flag (nat_lt (g 7) (modulo 64 (pos 0 -ℤ pos n)))) (omega arith) (λ g pc. refl) does.1 in
      let turned = leads_set x (Addi 6 6 (negsuc 0)) does.0 does.2.0 6 (λ g. sum (g 6) (modulo 64 (negsuc 0))) (omega arith) (λ g pc. refl) does.2.1 in
      let joined = leads_set x (And 7 7 6) does.2.0 to 7 (λ g. bit_and (g 7) (g 6)) (omega arith) (λ g pc. refl) does.2.2 in
      leads_weaker (leads_then test (runs_of (leads_then turned (runs_of joined) (λ s t sound also p q. tt))) (λ s t sound also p q. tt)) (omega arith) (λ s sound p. tt)
      (λ s u sound p made.
      let t = made.0 in
      let w = made.2.0 in
      let one = made.1 in
      let two = made.2.1 in
      let three = made.2.2 in
      let seven : w.registers 7 ≡ s.registers 7 = two.others 7 refl ∙ one.others 7 refl in
      let six : w.registers 6 ≡ sum (flag (nat_lt (s.registers 7) (2 ^ 64 - n))) (modulo 64 (negsuc 0)) =
      two.given ∙ ap (λ (a : ℕ). sum a (modulo 64 (negsuc 0))) (one.given ∙ ap (λ (a : ℕ). flag (nat_lt (s.registers 7) a)) (less_than_all n some few)) in
      record {
        masked = three.given ∙ ap (λ (a : ℕ). bit_and a (w.registers 6)) seven ∙ ap (bit_and (s.registers 7)) six ∙ masked_by (s.registers 7) (nat_lt (s.registers 7) (2 ^ 64 - n)) (sound.registers 7);
        keeps = record {
          first = three.others 5 refl ∙ two.others 5 refl ∙ one.others 5 refl;
          keeps = keeps_then s w u (keeps_then s t w (set_keeps 6 _ s t refl one) (set_keeps 6 _ t w refl two)) (set_keeps 7 _ w u refl three);
        };
      })

-- ---- where the instruction stands

-- an instruction that goes on stands in the code, at a multiple of four
stands_by : (m : MemoryMap) (s u : State) (b : Bool) → is_fetchable m.code s.pc ≡ b → instruction_step m s ≡ Outcome.Next u → is_fetchable m.code s.pc ≡ true
stands_by m s u true is step = is
stands_by m s u false is step = absurd (cc (step, is))

record StandsLow (a : ℕ) : Type 0 where
  aligned : a % 4 ≡ 0
  above : 256 ≤ a
  below : a < 2 ^ 32

stands_low : (m : MemoryMap) (s u : State) → EndsLow m → instruction_step m s ≡ Outcome.Next u → StandsLow s.pc
stands_low m s u low step =
    let there = and_parts (s.pc % 4 == 0) (nat_le code_base s.pc && nat_le (s.pc + 4) (code_base + length m.code)) (stands_by m s u (is_fetchable m.code s.pc) refl step) in
    let within = and_parts (nat_le code_base s.pc) (nat_le (s.pc + 4) (code_base + length m.code)) there.1 in
    record {
      aligned = grind (arith, nat_tests, there);
      above = grind (arith, nat_tests, within);
      below = grind (arith, nat_tests, within, low);
    }

-- ---- into the table

-- the address of a word of the table, by sums of 64 bits
reached : (a n k : ℕ) → 256 ≤ a → a < 2 ^ 32 → a % 4 ≡ 0 → k ≤ n → n ≤ 64 →
    sum (sum ((2 ^ 64 - 4 * k) % 2 ^ 64) (sum a 0)) (modulo 64 (pos (12 + 4 * n))) / 2 * 2 ≡ a + 12 + 4 * (n - k)
reached a n k above below aligned within few =
    let one : sum a 0 ≡ a = omega (arith, below) in
    let two : sum ((2 ^ 64 - 4 * k) % 2 ^ 64) a ≡ a - 4 * k = back a k above below (omega (arith, within, few)) in
    ap (λ (m : ℕ). sum (sum ((2 ^ 64 - 4 * k) % 2 ^ 64) m) (modulo 64 (pos (12 + 4 * n))) / 2 * 2) one
    ∙ ap (λ (m : ℕ). sum m (modulo 64 (pos (12 + 4 * n))) / 2 * 2) two
    ∙ last
  where
    back : (a k : ℕ) → 256 ≤ a → a < 2 ^ 32 → k ≤ 64 → ((2 ^ 64 - 4 * k) % 2 ^ 64 + a) % 2 ^ 64 ≡ a - 4 * k
    back a zero above below small = omega (arith, above, below)
    back a (suc k) above below small = omega (arith, above, below, small)

    last : (a - 4 * k + (12 + 4 * n) % 2 ^ 64) % 2 ^ 64 / 2 * 2 ≡ a + 12 + 4 * (n - k)
    last = let even : (a - 4 * k + (12 + 4 * n) % 2 ^ 64) % 2 ^ 64 ≡ a + 12 + 4 * (n - k) = omega (arith, above, below, within, few) in rw even (omega (arith, aligned))

aligned_there : (a n : ℕ) → a % 4 ≡ 0 → (a + 12 + 4 * n) % 4 ≡ 0
aligned_there a n is = omega (arith, is)

module _ (x : Code) (n : ℕ) (few : n ≤ 64) (ls : List Label) (low : EndsLow x.map) where
  -- the word with an index of a table leads somewhere
  abbrev LeadsFrom : ℕ → ℕ → ℕ → Type 0
  LeadsFrom on index there = (b : ℕ) → Does x (Table ls) b on → part.Runs x (b + 4 * index) 1 3 (GoesTo there)

  leap : (a on k there : ℕ) → k ≤ n →
      Then (One (Auipc 6 (pos 0))) (Then (One (Add 7 7 6)) (Then (One (Jalr 0 7 (pos (12 + 4 * n)))) (λ y b on. Does y (Table ls) b on))) x a on → LeadsFrom on (n - k) there →
      (s : State) → s.pc ≡ a → s.registers 7 ≡ (2 ^ 64 - 4 * k) % 2 ^ 64 → Reaches x.map 0 6 s (λ u. (u.pc ≡ there) × KeepsFirst s u)
  leap a on k there within does leads s at seven =
      let m1 = does.0 in
      let m2 = does.2.0 in
      let m3 = does.2.2.0 in
      let place : StandsLow a = subst StandsLow at (stands_low x.map s _ low (does.1.1 s at)) in
      let target = a + 12 + 4 * (n - k) in
      reaches_weaker
      (reaches_then ((single_does x (Auipc 6 (pos 0)) a m1 s does.1 at).set 6 (sum a 0) (omega arith) refl)
      (λ t one.
      reaches_then ((single_does x (Add 7 7 6) m1 m2 t does.2.1 one.pc).set 7 (sum (t.registers 7) (t.registers 6)) (omega arith) refl)
      (λ u two.
      let is : sum (u.registers 7) (modulo 64 (pos (12 + 4 * n))) / 2 * 2 ≡ target =
      ap (λ (r : ℕ). sum r (modulo 64 (pos (12 + 4 * n))) / 2 * 2)
      (two.given ∙ ap (λ (r : ℕ). sum r (t.registers 6)) (one.registers 7 (omega arith) ∙ seven) ∙ ap (sum ((2 ^ 64 - 4 * k) % 2 ^ 64)) one.given)
      ∙ reached a n k place.above place.below place.aligned within few in
      reaches_then
      ((single_does x (Jalr 0 7 (pos (12 + 4 * n))) m2 m3 u does.2.2.1 two.pc).jump 0 (sum m2 4) (sum (u.registers 7) (modulo 64 (pos (12 + 4 * n))) / 2 * 2) refl
      (ap (λ (r : ℕ). r % 4) is ∙ aligned_there a (n - k) place.aligned))
      (λ w three.
      let begin : m3 ≡ a + 12 = let e1 = does.1.0 in let e2 = does.2.1.0 in let e3 = does.2.2.1.0 in omega (arith, e1, e2, e3) in
      let comes : w.pc ≡ m3 + 4 * (n - k) = ap (λ (z : State). z.pc) three ∙ is ∙ ap (λ (b : ℕ). b + 4 * (n - k)) (sym begin) in
      reaches_more (leads m3 does.2.2.2 w comes)
      (λ z four. (
        four.pc,
        keeps_first_then s t z (given_keeps 6 (sum a 0) m1 s t refl refl one)
            (keeps_first_then t u z (given_keeps 7 (sum (t.registers 7) (t.registers 6)) m2 t u refl refl two)
            (keeps_first_then u w z (jumped_keeps (sum m2 4) (sum (u.registers 7) (modulo 64 (pos (12 + 4 * n))) / 2 * 2) u w three) (gone_keeps there w z four))),
      ))))))
      (omega arith) (omega arith) (λ u arrived. arrived)

-- ---- which word it is

module _ (at : ℕ → ℕ) (on : ℕ) where
  run_at : (ls : List Label) (first i : ℕ) (l : Label) → slice_get ls i ≡ Some l → run_address at ls first (first + i) on ≡ at l.number
  run_at [] first i l is = absurd (cc)
  run_at (k ∷ ls) first zero l is =
      let same : k ≡ l = cc in
      let e : first + 0 ≡ first = omega arith in
      rw e (ap (λ (b : Bool). way b (at k.number) (run_address at ls (suc first) first on)) (itself first) ∙ ap (λ (m : Label). at m.number) same)
    where
      itself : (n : ℕ) → (n == n) ≡ true
      itself n = grind (arith, nat_tests)
  run_at (k ∷ ls) first (suc i) l is =
      let e : first + suc i ≡ suc first + i = omega arith in
      rw e (ap (λ (b : Bool). way b (at k.number) (run_address at ls (suc first) (suc first + i) on)) (later first i) ∙ run_at ls (suc first) i l is)
    where
      later : (n i : ℕ) → (suc n + i == n) ≡ false
      later n i = grind (arith, nat_tests)

  run_outside : (ls : List Label) (first v : ℕ) → (v < first) ⊎ (first + length ls ≤ v) → run_address at ls first v on ≡ on
  run_outside [] first v out = refl
  run_outside (k ∷ ls) first v (inl low) =
      ap (λ (b : Bool). way b (at k.number) (run_address at ls (suc first) v on)) (other v first low) ∙ run_outside ls (suc first) v (inl (omega (arith, low)))
    where
      other : (v n : ℕ) → v < n → (v == n) ≡ false
      other v n h = grind (arith, nat_tests)
  run_outside (k ∷ ls) first v (inr high) =
      ap (λ (b : Bool). way b (at k.number) (run_address at ls (suc first) v on)) (other v first (omega (arith, high))) ∙ run_outside ls (suc first) v (inr (omega (arith, high)))
    where
      other : (v n : ℕ) → n < v → (v == n) ≡ false
      other v n h = grind (arith, nat_tests)

-- ---- what register 7 has then

abbrev offset : ℕ → ℕ → ℕ
offset n d = shifted_left (if nat_lt d (2 ^ 64 - n) then 0 else d) 2

offset_outside : (n d : ℕ) → d < 2 ^ 64 - n → offset n d ≡ (2 ^ 64 - 4 * 0) % 2 ^ 64
offset_outside n d less = let test : nat_lt d (2 ^ 64 - n) ≡ true = grind (arith, nat_tests, less) in rw test refl

offset_inside : (n d k : ℕ) → d ≡ 2 ^ 64 - k → 1 ≤ k → k ≤ n → n ≤ 64 → offset n d ≡ (2 ^ 64 - 4 * k) % 2 ^ 64
offset_inside n d k is some within few =
    let test : nat_lt d (2 ^ 64 - n) ≡ false = grind (arith, nat_tests, is, within, few) in
    rw (test, is) (by k some (omega (arith, within, few)))
  where
    by : (k : ℕ) → 1 ≤ k → k ≤ 64 → (2 ^ 64 - k) * 2 ^ 2 % 2 ^ 64 ≡ (2 ^ 64 - 4 * k) % 2 ^ 64
    by k some few = let e : (2 ^ 64 - k) * 2 ^ 2 ≡ 3 * 2 ^ 64 + (2 ^ 64 - 4 * k) = omega (arith, some, few) in rw e (omega (arith, some, few))

below_start : (v end n : ℕ) → v + n < end → end < 2 ^ 64 → difference v end < 2 ^ 64 - n
below_start v end n low small = omega (arith, low, small)

from_end : (v end n : ℕ) → end ≤ v → v < 2 ^ 64 → n ≤ end → difference v end < 2 ^ 64 - n
from_end v end n high small most = omega (arith, high, small, most)

within_run : (v end k : ℕ) → v + k ≡ end → 1 ≤ k → end < 2 ^ 64 → difference v end ≡ 2 ^ 64 - k
within_run v end k is some small = omega (arith, is, some, small)

module _ (x : Code) (first n end : ℕ) (ls : List Label) (count : length ls ≡ n) (is_end : first + n ≡ end) (some : 1 ≤ n) (few : n ≤ 64) (small : end < 2 ^ 64) where
  pub goes_by_table : (from on : ℕ) →
      Then (Leads 9 Always (λ s t. Sets 7 (difference (s.registers 5) end) s t))
      (Then (Leads 3 Always (Masks n))
      (Then (One (Slli 7 7 (pos 2)))
      (Then (One (Auipc 6 (pos 0))) (Then (One (Add 7 7 6)) (Then (One (Jalr 0 7 (pos (12 + 4 * n)))) (λ y b on. Does y (Table ls) b on)))))) x from on →
      GoesInRun 20 ls first x from on
  goes_by_table from on does low = record { go = λ s sound at p. by s sound at (where_is (s.registers 5)) }
    where
      where_is : (v : ℕ) → ((v < first) ⊎ (first + length ls ≤ v)) ⊎ ((i : ℕ) × (v ≡ first + i) × (i < length ls))
      where_is v = by (nat_lt v first) refl (nat_lt v (first + length ls)) refl
        where
          by : (a : Bool) → nat_lt v first ≡ a → (b : Bool) → nat_lt v (first + length ls) ≡ b → ((v < first) ⊎ (first + length ls ≤ v)) ⊎ ((i : ℕ) × (v ≡ first + i) × (i < length ls))
          by true e b h = inl (inl (grind (arith, nat_tests, e)))
          by false e false h = inl (inr (grind (arith, nat_tests, h)))
          by false e true h =
              let low : first ≤ v = grind (arith, nat_tests, e) in
              let high : v < first + length ls = grind (arith, nat_tests, h) in
              inr (v - first, omega (arith, low), omega (arith, low, high))

      -- by how many numbers the value is below the end
      comes : (s : State) → IsSound s → s.pc ≡ from → (k there : ℕ) → k ≤ n → offset n (difference (s.registers 5) end) ≡ (2 ^ 64 - 4 * k) % 2 ^ 64 → LeadsFrom x n few ls low on (n - k) there →
          Reaches x.map 0 20 s (λ u. (u.pc ≡ there) × KeepsFirst s u)
      comes s sound at k there within is leads =
          let shifted = leads_set x (Slli 7 7 (pos 2)) does.2.0 does.2.2.0 7 (λ g. shifted_left (g 7) (modulo 6 (pos 2))) (omega arith) (λ g pc. refl) does.2.2.1 in
          let all = leads_then (leads_then does.1 (runs_of does.2.1) (λ s t sound also p q. tt)) (runs_of shifted) (λ s t sound also p q. tt) in
          reaches_weaker
          (reaches_then (all.runs.go s sound at tt)
          (λ w arrived.
          let t = arrived.1.1.0 in
          let u = arrived.1.0 in
          let one = arrived.1.1.1 in
          let two = arrived.1.1.2 in
          let three = arrived.1.2 in
          let seven : w.registers 7 ≡ (2 ^ 64 - 4 * k) % 2 ^ 64 =
          three.given ∙ ap (λ (r : ℕ). shifted_left r 2) (two.masked ∙ ap (λ (d : ℕ). if nat_lt d (2 ^ 64 - n) then 0 else d) one.given) ∙ is in
          let kept = keeps_first_then s t w (record { first = one.others 5 refl; keeps = set_keeps 7 _ s t refl one })
          (keeps_first_then t u w two.keeps (record { first = three.others 5 refl; keeps = set_keeps 7 _ u w refl three })) in
          reaches_more (leap x n few ls low does.2.2.0 on k there within does.2.2.2 leads w arrived.0 seven) (λ z last. (last.0, keeps_first_then s w z kept last.1))))
          (omega arith) (omega (arith, some)) (λ z last. last)

      by : (s : State) → IsSound s → s.pc ≡ from → ((s.registers 5 < first) ⊎ (first + length ls ≤ s.registers 5)) ⊎ ((i : ℕ) × (s.registers 5 ≡ first + i) × (i < length ls)) →
          Reaches x.map 0 20 s (λ u. (u.pc ≡ run_address x.at ls first (s.registers 5) on) × KeepsFirst s u)
      by s sound at (inl out) =
          let less : difference (s.registers 5) end < 2 ^ 64 - n = outside out in
          subst (λ (m : ℕ). Reaches x.map 0 20 s (λ u. (u.pc ≡ m) × KeepsFirst s u)) (sym (run_outside x.at on ls first (s.registers 5) out))
          (comes s sound at 0 on (omega arith) (offset_outside n (difference (s.registers 5) end) less)
          (λ b table z at_z. reaches_weaker (table.1 z (at_z ∙ (let e : n - 0 ≡ length ls = omega (arith, count) in ap (λ (m : ℕ). b + 4 * m) e))) (omega arith) (omega arith) (λ u goes. goes)))
        where
          outside : (s.registers 5 < first) ⊎ (first + length ls ≤ s.registers 5) → difference (s.registers 5) end < 2 ^ 64 - n
          outside (inl h) = below_start (s.registers 5) end n (omega (arith, h, is_end)) small
          outside (inr h) = from_end (s.registers 5) end n (omega (arith, h, is_end, count)) (sound.registers 5) (omega (arith, is_end))
      by s sound at (inr (i, is, within)) =
          let l = get_or ls i (record { number = 0 }) in
          let there : slice_get ls i ≡ Some l = slice_get-get_or ls i (record { number = 0 }) within in
          let less : i < n = omega (arith, within, count) in
          subst (λ (m : ℕ). Reaches x.map 0 20 s (λ u. (u.pc ≡ m) × KeepsFirst s u))
          (sym (ap (λ (v : ℕ). run_address x.at ls first v on) is ∙ run_at x.at on ls first i l there))
          (comes s sound at (n - i) (x.at l.number) (omega arith)
          (offset_inside n (difference (s.registers 5) end) (n - i) (within_run (s.registers 5) end (n - i) (omega (arith, is, is_end, less)) (omega (arith, less)) small) (omega (arith, less)) (omega arith) few)
          (λ b table z at_z. table.0 i l there z (at_z ∙ (let e : n - (n - i) ≡ i = omega (arith, less) in ap (λ (m : ℕ). b + 4 * m) e))))
