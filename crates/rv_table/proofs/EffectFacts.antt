-- What comes of each effect that doesn't trap.
use Rattle.std.proofs.Common.{◌≡◌, ℕ, ◌%◌, refl, ap, arith}
use Rattle.std.proofs.lemmas.Bool.Decides.{nat_tests}
use Rattle.std.specs.Prelude.{◌==◌, Bool, true, IsTrue, Option, Some, None}
use Rattle.rv_table.specs.declared.effects.Effect.TheVariants.{Load, Store, Ask}
use Rattle.rv_table.specs.declared.request.Request.{Request}
use Rattle.rv_table.specs.declared.trap.TrapKind.TheVariants.{NoRequest}
use Rattle.rv_table.specs.Laws.{EffectsAreDone}
use Rattle.rv_table.specs.Machine.{MemoryMap, State, Outcome, Next, Asks, Traps, done, extended, goes_to, is_accessible, loaded, request_of, with_jump, with_set, with_store}

-- a jump to a multiple of 4 is made
pub goes_to-aligned : (s : State) (rd link target : ℕ) → target % 4 ≡ 0 → goes_to s rd link target ≡ Next (with_jump s rd link target)
goes_to-aligned s rd link target aligned =
    let a : (target % 4 == 0) ≡ true = grind (arith, nat_tests) in
    rw (goes_to, a)

pub done-load : (m : MemoryMap) (s : State) (rd address size : ℕ) (signed : Bool) → IsTrue (is_accessible m address size) →
    done m s (Load rd address size signed) ≡ Next (with_set s rd (extended signed size (loaded s.memory address size)))
done-load m s rd address size signed accessible = rw (done, accessible)

pub done-store : (m : MemoryMap) (s : State) (address size value : ℕ) → IsTrue (is_accessible m address size) →
    done m s (Store address size value) ≡ Next (with_store s address size value)
done-store m s address size value accessible = rw (done, accessible)

abbrev answered : Option Request → Outcome
answered (Some r) = Asks r
answered None = Traps NoRequest

pub done-ask : (m : MemoryMap) (s : State) (r : Request) → request_of s.registers ≡ Some r → done m s Ask ≡ Asks r
done-ask m s r is = ap answered is

pub effects_are_done : (m : MemoryMap) (s : State) → EffectsAreDone m s
effects_are_done m s = record {
  set = λ rd value. refl;
  jump = goes_to-aligned s;
  taken = goes_to-aligned s 0 0;
  passed = λ target. refl;
  load = done-load m s;
  store = done-store m s;
  ask = done-ask m s;
}
