-- Bytes are put and taken.
use Rattle.std.proofs.lemmas.Bool.{or_from}
use Rattle.std.proofs.Common.{◌≡◌, ℕ, ◌+◌, ◌%◌, ◌<◌, ◌^◌, refl, sym, ◌∙◌, ap, subst, arith, pos, Some}
use Rattle.std.specs.Prelude.{◌==◌, Bool, true, false, IsTrue}
use Rattle.std.proofs.lemmas.Bool.Decides.{nat_tests}
use Rattle.cmm_chain.specs.declared.frame.Location.{Location}
use Rattle.cmm_chain.specs.declared.frame.Location.TheVariants.{Slot, Saved, Temp}
use Rattle.rv_asm.proofs.Shared.{reaches_weaker}
use Rattle.rv_asm.specs.Appending.{Then}
use Rattle.rv_asm.specs.Parts.{Code}
use Rattle.rv_asm.specs.Reaching.{Reaches}
use Rattle.rv_table.specs.Bounds.{IsSound}
use Rattle.rv_table.specs.Machine.{MemoryMap, State, is_accessible, request_of, with_set}
use Rattle.rv_table.specs.Words.{modulo, sum}
use Rattle.rv_table.specs.declared.instruction.Instr.TheVariants.{Addi, Ecall}
use Rattle.rv_table.specs.declared.request.Request.TheVariants.{PutByte, GetByte}
use Rattle.cmm_effects.proofs.Shared.{gets_byte, leads_set, leads_then, leads_weaker, puts_byte, requests_then, runs_of, sound_taken}
use Rattle.cmm_effects.specs.Changes.{CanReach, Sets}
use Rattle.cmm_effects.specs.Requests.{KeepsAsking, Requests, is_of_request}
use Rattle.cmm_select.proofs.Places.{One}
use Rattle.cmm_select.specs.Destinations.{CanPut, PutsFrom, PutsTo}
use Rattle.cmm_select.specs.Operands.{Brings, BringsOperand, CanBringOperand, most_for, operand_at}
use Rattle.cmm_select.specs.declared.destination.Destination.{Destination}
use Rattle.cmm_select.specs.declared.destination.Destination.TheVariants as destination
use Rattle.cmm_select.specs.declared.operand.Operand.{Operand}

-- registers that are none of a request are neither scratch nor register 10
not_of_request : (r k : ℕ) → IsTrue (is_of_request k) → is_of_request r ≡ false → (r == k) ≡ false
not_of_request r k is h = by (r == k) refl
  where
    by : (test : Bool) → (r == k) ≡ test → test ≡ false
    by false e = refl
    by true e =
        let same : r ≡ k = grind (arith, nat_tests) in
        let g : is_of_request k ≡ false = subst (λ (j : ℕ). is_of_request j ≡ false) same h in
        absurd (cc)

first_number : (z n : ℕ) → z ≡ 0 → n < 2048 → sum z (modulo 64 (pos n)) ≡ n
first_number z n none small = omega arith

low_byte : (k n : ℕ) → k ≡ n → sum k (modulo 64 (pos 0)) % 256 ≡ n % 256
low_byte k n is = omega arith

module _ (x : Code) where
  -- ---- a byte is put

  module _ (a : Operand) where
    -- the byte and the request's number are in their registers
    abbrev Ready : State → State → Type 0
    Ready s w =
        (t : State) × Brings 5 (operand_at x.at a s) s t
        × ((u : State) × Sets 10 (sum (t.registers 5) (modulo 64 (pos 0))) t u × Sets 5 (sum (u.registers 0) (modulo 64 (pos 1))) u w)

    kept : (s w : State) → Ready s w → KeepsAsking s w
    kept s w ready = record {
      registers = λ r h.
          ready.2.2.others r (not_of_request r 5 refl h) ∙ ready.2.1.others r (not_of_request r 10 refl h)
          ∙ ready.1.others r (or_from (r == 5) (r == 6) (not_of_request r 5 refl h) (not_of_request r 6 refl h));
      memory = ready.2.2.memory ∙ ready.2.1.memory ∙ ready.1.memory;
    }

    asks : (s w : State) → IsSound w → Ready s w → request_of w.registers ≡ Some (PutByte (operand_at x.at a s % 256))
    asks s w sound ready =
        let none : ready.2.0.registers 0 ≡ 0 = sym (ready.2.2.others 0 refl) ∙ sound.zero in
        puts_byte w.registers (ready.2.2.given ∙ first_number (ready.2.0.registers 0) 1 none (omega arith))
        ∙ ap (λ (n : ℕ). Some (PutByte n))
        (ap (λ (n : ℕ). n % 256) (ready.2.2.others 10 refl ∙ ready.2.1.given) ∙ low_byte (ready.0.registers 5) (operand_at x.at a s) ready.1.given)

    pub asks_to_put : (from to : ℕ) → Then (BringsOperand a 5) (Then (One (Addi 10 5 (pos 0))) (Then (One (Addi 5 0 (pos 1))) (One Ecall))) x from to →
        Requests (most_for a + 2) 0 (CanBringOperand a) (λ s. PutByte (operand_at x.at a s % 256)) (λ u v. v ≡ u) x from to
    asks_to_put from to does =
        requests_then (λ s. PutByte (operand_at x.at a s % 256))
        (leads_then {Q = λ s t. Brings 5 (operand_at x.at a s) s t} does.1
        (runs_of (leads_then (leads_set x (Addi 10 5 (pos 0)) does.0 does.2.0 10 (λ g. sum (g 5) (modulo 64 (pos 0))) (omega arith) (λ g pc. refl) does.2.1)
        (runs_of (leads_set x (Addi 5 0 (pos 1)) does.2.0 does.2.2.0 5 (λ g. sum (g 0) (modulo 64 (pos 1))) (omega arith) (λ g pc. refl) does.2.2.1))
        (λ s t sound also p q. tt)))
        (λ s t sound also p q. tt))
        does.2.2.2
        (λ s w sound ready. (kept s w ready, asks s w sound ready))
        (λ s t u is. ap (λ (v : State). v.pc) is)
        (λ s t u sound p ready is at. record {
          count = 0;
          to = u;
          enough = omega arith;
          few = omega arith;
          runs = refl;
          arrives = (at, refl);
        })

  -- ---- a byte is taken

  module _ (to : Destination) where
    place_still_reached : (p : Location) (m : MemoryMap) (s t : State) → t.registers 2 ≡ s.registers 2 → CanReach p m s → CanReach p m t
    place_still_reached (Slot o) m s t is can = subst (λ (a : ℕ). (a + o < 2 ^ 64) × IsTrue (is_accessible m (a + o) 8)) (sym is) can
    place_still_reached (Saved r) m s t is can = tt
    place_still_reached (Temp r) m s t is can = tt

    still_reached : (d : Destination) (m : MemoryMap) (s t : State) → t.registers 2 ≡ s.registers 2 → t.registers 4 ≡ s.registers 4 →
        CanPut x.at d m s → CanPut x.at d m t
    still_reached (destination.Place p) m s t two four can = place_still_reached p m s t two can
    still_reached (destination.Register l) m s t two four can =
        subst (λ (a : ℕ). (a + x.at l.number < 2 ^ 64) × IsTrue (is_accessible m (a + x.at l.number) 8)) (sym four) can

    abbrev Numbered : State → State → Type 0
    Numbered s t = Sets 5 (sum (s.registers 0) (modulo 64 (pos 2))) s t

    numbered : (s t : State) → IsSound t → Numbered s t → request_of t.registers ≡ Some GetByte
    numbered s t sound sets =
        let none : s.registers 0 ≡ 0 = sym (sets.others 0 refl) ∙ sound.zero in
        gets_byte t.registers (sets.given ∙ first_number (s.registers 0) 2 none (omega arith))

    pub asks_to_get : (from end : ℕ) → Then (One (Addi 5 0 (pos 2))) (Then (One Ecall) (PutsFrom 10 to)) x from end →
        Requests 1 5 (CanPut x.at to) (λ s. GetByte) (λ u v. PutsTo x.at to (u.registers 10) u v) x from end
    asks_to_get from end does =
        requests_then (λ s. GetByte)
        (leads_weaker {R = CanPut x.at to} {S = Numbered} {b = 1} (leads_set x (Addi 5 0 (pos 2)) from does.0 5 (λ g. sum (g 0) (modulo 64 (pos 2))) (omega arith) (λ g pc. refl) does.1)
        (omega arith) (λ s sound p. tt) (λ s t sound p q. q))
        does.2.1
        (λ s t sound sets. (
          record { registers = λ r h. sets.others r (not_of_request r 5 refl h); memory = sets.memory },
          numbered s t sound sets,
        ))
        (λ s t u is. ap (λ (v : State). v.pc) is.2)
        (λ s t u sound can sets is at. taken s t u is.0 sound can sets is.1 is.2 at)
      where
        taken : (s t u : State) (n : ℕ) → IsSound t → CanPut x.at to x.map s → Numbered s t → n < 2 ^ 64 → u ≡ with_set t 10 n → u.pc ≡ does.2.0 →
            Reaches x.map 0 5 u (λ v. (v.pc ≡ end) × PutsTo x.at to (u.registers 10) u v)
        taken s t u n sound can sets fits is at =
            let two : u.registers 2 ≡ s.registers 2 = ap (λ (v : State). v.registers 2) is ∙ sets.others 2 refl in
            let four : u.registers 4 ≡ s.registers 4 = ap (λ (v : State). v.registers 4) is ∙ sets.others 4 refl in
            let good : IsSound u = subst (λ (v : State). IsSound v) (sym is) (sound_taken t n fits sound) in
            reaches_weaker (does.2.2.runs.go u good at (still_reached to x.map s u two four can))
            (omega arith) (omega arith) (λ v arrived. arrived)
