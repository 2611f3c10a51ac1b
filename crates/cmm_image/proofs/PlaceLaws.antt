-- Places of variables: what is read is spelled so, and what is spelled so is read.
use Rattle.std.proofs.Common.{◌≡◌, ℕ, zero, suc, ◌%◌, ◌<◌, true, false, IsTrue, nat_lt, List, [], ◌∷◌, ◌++◌, length, drop, Option, Ok, Err, refl, ap, subst, ◌∙◌, arith}
use Rattle.std.proofs.lemmas.Bool.Decides.{nat_tests}
use Rattle.byteorder.specs.Endian.{little_number}
use Rattle.cmm_image.specs.declared.rows.VariablePlace.{VariablePlace}
use Rattle.cmm_image.specs.declared.rows.VariablePlace.TheVariants.{Dead, Slot, Register}
use Rattle.cmm_rules.specs.declared.rule.Rule.TheVariants.{ImageIsCut, BadImageField, ImageOutOfRange}
use Rattle.cmm_format.specs.Formats.{Front, AreBytes, breaks, number_bytes, number_at}
use Rattle.cmm_abi.specs.Registers.{is_callee_saves}
use Rattle.cmm_image.specs.Places.{leaves, place_bytes, IsPlace, slot_at, register_at, place_at, variable_place}
use Rattle.cmm_format.proofs.Shared.{IsExact, ok_is, passed, not_cut, number-exact, AreBytes-tail, chosen_true, chosen_false}

abbrev Placed : ℕ → List ℕ → VariablePlace × List ℕ → Type 0
Placed frame bytes x = (bytes ≡ place_bytes x.0 ++ x.1) × IsPlace frame x.0 × AreBytes x.1

slot-taken : (frame : ℕ) (bytes rest : List ℕ) (x : VariablePlace × List ℕ) → AreBytes rest → bytes ≡ 1 ∷ rest → slot_at frame bytes rest ≡ Ok x → Placed frame bytes x
unfolding number_at
slot-taken frame bytes rest x fits is e =
    let read : Front VariablePlace = elim (leaves 8 frame (little_number 4 rest)) [ true ↦ Ok (Slot (little_number 4 rest), drop 4 rest) | false ↦ Err (breaks ImageOutOfRange bytes) ] in
    let g = not_cut (nat_lt (length rest) 4) (breaks ImageIsCut bytes) read x e in
    let h = passed (leaves 8 frame (little_number 4 rest)) (breaks ImageOutOfRange bytes) (Ok (Slot (little_number 4 rest), drop 4 rest)) x g.1 in
    let made : VariablePlace × List ℕ = (Slot (little_number 4 rest), drop 4 rest) in
    let at : number_at ImageIsCut 4 rest ≡ Ok (little_number 4 rest, drop 4 rest) = chosen_false {A = Front ℕ} (nat_lt (length rest) 4) (Err (breaks ImageIsCut rest)) (Ok (little_number 4 rest, drop 4 rest)) g.0 in
    let t = (number-exact ImageIsCut 4).taken rest (little_number 4 rest) (drop 4 rest) fits at in
    subst (Placed frame bytes) (ok_is made x h.1) (is ∙ ap (λ (r : List ℕ). 1 ∷ r) t.0, (t.1, h.0), t.2)

register-taken : (frame : ℕ) (bytes rest : List ℕ) (x : VariablePlace × List ℕ) → AreBytes rest → bytes ≡ 2 ∷ rest → register_at bytes rest ≡ Ok x → Placed frame bytes x
unfolding number_bytes
register-taken frame bytes [] x fits is e = absurd cc
register-taken frame bytes (n ∷ rest) x fits is e =
    let g = passed (is_callee_saves n) (breaks BadImageField bytes) (Ok (Register n, rest)) x e in
    let made : VariablePlace × List ℕ = (Register n, rest) in
    let low : n < 256 = fits 0 in
    let byte : n % 256 ≡ n = omega arith in
    let parts : bytes ≡ 2 ∷ ((n % 256) ∷ rest) = rw byte is in
    subst (Placed frame bytes) (ok_is made x g.1) (parts, g.0, AreBytes-tail n rest fits)

place-taken : (frame : ℕ) (bytes : List ℕ) (p : VariablePlace) (rest : List ℕ) → AreBytes bytes → place_at frame bytes ≡ Ok (p, rest) → Placed frame bytes (p, rest)
unfolding place_at
place-taken frame [] p rest fits e = absurd cc
place-taken frame (zero ∷ bytes) p rest fits e =
    let made : VariablePlace × List ℕ = (Dead, bytes) in
    subst (Placed frame (0 ∷ bytes)) (ok_is made (p, rest) e) (refl, tt, AreBytes-tail 0 bytes fits)
place-taken frame (suc zero ∷ bytes) p rest fits e = slot-taken frame (1 ∷ bytes) bytes (p, rest) (AreBytes-tail 1 bytes fits) refl e
place-taken frame (suc (suc zero) ∷ bytes) p rest fits e = register-taken frame (2 ∷ bytes) bytes (p, rest) (AreBytes-tail 2 bytes fits) refl e
place-taken frame (suc (suc (suc n)) ∷ bytes) p rest fits e = absurd cc

-- a number that is read is not cut
long : (bytes : List ℕ) (n : ℕ) (rest : List ℕ) → number_at ImageIsCut 4 bytes ≡ Ok (n, rest) → (nat_lt (length bytes) 4 ≡ false) × (little_number 4 bytes ≡ n) × (drop 4 bytes ≡ rest)
unfolding number_at
long bytes n rest e =
    let g = not_cut (nat_lt (length bytes) 4) (breaks ImageIsCut bytes) (Ok (little_number 4 bytes, drop 4 bytes)) (n, rest) e in
    let same = ok_is (little_number 4 bytes, drop 4 bytes) (n, rest) g.1 in
    (g.0, ap (λ (x : ℕ × List ℕ). x.0) same, ap (λ (x : ℕ × List ℕ). x.1) same)

saved_register-fits : (n : ℕ) → IsTrue (is_callee_saves n) → n < 256
saved_register-fits n h = grind (arith, nat_tests)

slot-again : (frame offset : ℕ) (r rest : List ℕ) → number_at ImageIsCut 4 r ≡ Ok (offset, rest) → IsTrue (leaves 8 frame offset) → slot_at frame (1 ∷ r) r ≡ Ok (Slot offset, rest)
slot-again frame offset r rest e holds =
    let l = long r offset rest e in
    let inside : leaves 8 frame (little_number 4 r) ≡ true = rw l.1 holds in
    let parts : ◌≡◌ {A = Front VariablePlace} (Ok (Slot (little_number 4 r), drop 4 r)) (Ok (Slot offset, rest)) = rw (l.1, l.2) refl in
    let read : Front VariablePlace = elim (leaves 8 frame (little_number 4 r)) [ true ↦ Ok (Slot (little_number 4 r), drop 4 r) | false ↦ Err (breaks ImageOutOfRange (1 ∷ r)) ] in
    chosen_false {A = Front VariablePlace} (nat_lt (length r) 4) (Err (breaks ImageIsCut (1 ∷ r))) read l.0
    ∙ chosen_true {A = Front VariablePlace} (leaves 8 frame (little_number 4 r)) (Ok (Slot (little_number 4 r), drop 4 r)) (Err (breaks ImageOutOfRange (1 ∷ r))) inside ∙ parts

register-again : (frame n : ℕ) (rest : List ℕ) → IsTrue (is_callee_saves n) → place_at frame (place_bytes (Register n) ++ rest) ≡ Ok (Register n, rest)
unfolding place_at number_bytes
register-again frame n rest holds =
    let low : n < 256 = saved_register-fits n holds in
    let byte : n % 256 ≡ n = omega arith in
    rw byte (chosen_true {A = Front VariablePlace} (is_callee_saves n) (Ok (Register n, rest)) (Err (breaks BadImageField (2 ∷ (n ∷ rest)))) holds)

place-again : (frame : ℕ) (p : VariablePlace) (rest : List ℕ) → IsPlace frame p → place_at frame (place_bytes p ++ rest) ≡ Ok (p, rest)
unfolding place_at
place-again frame Dead rest holds = refl
place-again frame (Slot offset) rest holds = slot-again frame offset (number_bytes 4 offset ++ rest) rest ((number-exact ImageIsCut 4).again offset rest holds.0) holds.1
place-again frame (Register n) rest holds = register-again frame n rest holds

pub place-exact : (frame : ℕ) (previous : Option VariablePlace) → IsExact (variable_place frame previous)
place-exact frame previous = record {
  taken = place-taken frame;
  again = place-again frame;
}
