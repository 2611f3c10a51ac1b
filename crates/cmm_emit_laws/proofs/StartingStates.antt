-- The first state is shown.
use Rattle.std.proofs.Common.{◌≡◌, ℕ, zero, suc, ◌-◌, ◌<◌, refl, sym, ◌∙◌, ap, arith, List, [], ◌∷◌, length, map, Some}
use Rattle.std.proofs.lemmas.List.{length-map}
use Rattle.std.specs.Prelude.{slice_index_or}
use Rattle.std.proofs.lemmas.Bool.Decides.{nat_tests}
use Rattle.std.proofs.lemmas.Grind.{common_steps}
use Rattle.cmm_abi.specs.Regions.{global_address}
use Rattle.cmm_program.specs.declared.program.Global.{Global}
use Rattle.cmm_program.specs.Layout.{data_bytes}
use Rattle.rv_table.specs.Machine.{data_base, loaded}
use Rattle.cmm_emit_laws.specs.Words.{RepresentsRoom}
use Rattle.cmm_emit_laws.specs.Represented.{stack_region}
use Rattle.cmm_emit_laws.specs.StateLaws.{StartsAreRepresented}
use Rattle.cmm_emit_laws.proofs.Showing.{no_values}

pub starts_are_shown : StartsAreRepresented
starts_are_shown y rest s m input t is_for begins outside = record {
  holdings = record { zero = begins.zero; frame = begins.frame; region = begins.region; back = begins.back; kept = λ r is. tt; temps = λ r is. tt };
  words = record { sits = λ a known. absurd (cc); shown = λ a. tt };
  cells = (shown_data, tt);
  registers = (
    rw (length-map {B = ℕ} s.program.globals (λ g. 0)) begins.few,
    λ r less. global_at r (rw (length-map {B = ℕ} s.program.globals (λ g. 0)) at less),
  );
  elsewhere = outside;
  values = no_values (stack_region s) t;
  stack = record { fits = omega arith; rooms = refl; data_room = ap (λ (count : ℕ). record { address = data_base; length = count }) (length-map (data_bytes s.program s.placement) Some) };
  at = omega arith;
}
  where
    zeros : (gs : List Global) (r : ℕ) → slice_index_or (map {A = Global} {B = ℕ} (λ g. 0) gs) r 0 ≡ 0
    zeros [] r = refl
    zeros (g ∷ gs) zero = refl
    zeros (g ∷ gs) (suc r) = zeros gs r

    global_at : (r : ℕ) → r < length s.program.globals → loaded t.memory (global_address (stack_region s) r) 8 ≡ slice_index_or (map {A = Global} {B = ℕ} (λ g. 0) s.program.globals) r 0
    global_at r less = begins.globals r less ∙ sym (zeros s.program.globals r)

    shown_data : RepresentsRoom (record { address = data_base; cells = map Some (data_bytes s.program s.placement) }) t.memory
    shown_data a inside = grind (arith, nat_tests, common_steps, length-map, inside, begins.data_bytes (a - data_base))
